-- What a step of a drive is to the machine.
use Rattle.std.proofs.Common.{◌≡◌, ℕ, zero, suc, ◌+◌, ◌<◌, ◌≤◌, ◌⊎◌, inl, inr, Bool, true, false, Some, refl, List, [], ◌∷◌, ◌++◌, length, take, drop, map, set, get_or, sym, ap, ◌∙◌, subst}
use Rattle.std.proofs.lemmas.List.{get_or-map, length-map, map-append, map-set, set-get_or}
use Rattle.sc_wire_conn.proofs.Inboxes.{ends_are, more_is}
use Rattle.sc_daemon.specs.Backlogs.{Write, fresh_writes, pending_of, put_write, stepped, with_write, write_at}
use Rattle.sc_daemon.specs.Daemons.{BacksAt, Kept, ReadsWhat, ServesAt, ServesWhat, idle_event, machine_of}
use Rattle.sc_daemon.specs.Lines.{IsDone, Line, conn_of}
use Rattle.sc_daemon.specs.Turns.{IsIdleLine, TakesMore}
use Rattle.sc_daemon.proofs.Plain.{due_ended, due_takes, ended_due, says_counted, takes_due, ticked_own}
use Rattle.sc_daemon_job.specs.Setups.{setup}
use Rattle.sc_model.specs.Dues.{ToTake}
use Rattle.sc_model.specs.Follows.{Fits}
use Rattle.sc_model.specs.Conns.{Conn, advanced, current, free_after, more, need_at, new_conn}
use Rattle.sc_model.specs.DueAt.{due_at}
use Rattle.sc_model.specs.Machine.{DoesBack, DoesRead, DoesServe, Machine, Says, backed, conn, counted_level}
use Rattle.sc_model.specs.Pendings.{need_back, pend, pending_after, pending_at, step_pending}
use Rattle.sc_model.specs.Next.{Ended, at_moment, ticked}
use Rattle.sc_model.specs.Rows.{Direct, count, level_row, row, zeroes}
use Rattle.sc_model.specs.Script.{BadFrame, Script, Setup, input}
use Rattle.sc_model.specs.Trace.{Open, ends_write, hands, reserved_at, reserved_by}
use Rattle.sc_model.specs.World.{Moves, Need, World}
use Rattle.sc_model.specs.declared.event.Event.{Event}
use Rattle.sc_model.specs.declared.event.Owner.{Owner}
use Rattle.sc_model.specs.declared.event.Owner.TheVariants.{Nobody, Request as OfRequest, Write as OfWrite}
use Rattle.sc_model.specs.declared.event.What.{What}
use Rattle.sc_model.specs.declared.event.What.TheVariants.{Closed, Idle, Taken}
use Rattle.sc_model.specs.declared.phase.Pending.{Pending}
use Rattle.sc_daemon_owned.specs.Moving.{MovesWorld}
use Rattle.sc_daemon_owned.specs.State.{reserved_in}
use Rattle.sc_wire.specs.Streams.{request_reader}
use Rattle.sc_daemon_owned.specs.Facts.{config_of}

-- the connection of that number
conn_at : (d : Kept) (lines : List Line) (opens : List Open) (c : ℕ) (l : Line) → c < length lines → conn (machine_of d lines opens) c ≡ conn_of (get_or lines c l)
conn_at d lines opens c l lt = get_or-map conn_of lines c l new_conn lt

-- as much is reserved at each level as the reservations say
same_reserved : (opens : List Open) (f : ℕ → ℕ) → ((l : ℕ) → reserved_at l opens ≡ f l) → f ≡ (λ l. reserved_at l opens)
same_reserved opens f same = λ i l. sym (same l) i

-- the world moves whole where the levels tell
all_moves : (s : Setup) (n : Need) (r : ℕ → ℕ) (told : Bool) (x : What) (w w2 : World) → told ≡ true → MovesWorld s n r told x w w2 → Moves s n r x w w2
all_moves s n r told x w w2 tells m = record { moment = m.moment; levels = m.levels tells; shop = m.shop; dist = m.dist }

moves_by : (s : Setup) (n : Need) (opens : List Open) (f : ℕ → ℕ) (x : What) (w w2 : World) → ((l : ℕ) → reserved_at l opens ≡ f l) → Moves s n f x w w2 → Moves s n (λ l. reserved_at l opens) x w w2
moves_by s n opens f x w w2 same moves = subst (λ (r : ℕ → ℕ). Moves s n r x w w2) (same_reserved opens f same) moves

-- an event of the connection K, as the machine does it
abbrev served_by : Setup → Machine → ℕ → Conn → ℕ → What → World → Machine
served_by s m c k z x w = record {
  conns = set m.conns c (advanced s k z x);
  free = free_after m.free x;
  stats = count (zeroes x) m.stats (row s (current k) k.outcome z x);
  level_stats = counted_level s.policy (level_row Direct k.last k.reserved z x) x m.level_stats;
  background = m.background ++ pend (hands m.handed z x);
  handed = m.handed + length (hands m.handed z x);
  reserved = reserved_by (OfRequest c k.at) x m.reserved;
  world = w;
}

abbrev ServesBy : Setup → Machine → ℕ → ℕ → ℕ → ℕ → What → Machine → Conn → Type 0
ServesBy s m c z e j x m2 k =
    (e ≡ c) × (c < length m.conns) × (j ≡ k.at) × (0 < length k.queue) × Fits s (current k) (due_at s (current k) k.phase) x
    × (due_at s (current k) k.phase ≡ ToTake → 0 < m.free) × Says s m x
    × ((w : World) × Moves s (need_at s (current k) k.phase) (λ l. reserved_at l m.reserved) x (at_moment m.world (ticked m.world.moment x)) w × (m2 ≡ served_by s m c k z x w))

fresh_pending : (ps : List Pending) → map pending_of (fresh_writes ps) ≡ ps
fresh_pending [] = refl
fresh_pending (p ∷ ps) = ap (λ (qs : List Pending). p ∷ qs) (fresh_pending ps)

-- all that the event leaves
left_is : (c j : ℕ) (x : What) (d d2 : Kept) (lines : List Line) (opens : List Open) (old new : Line) → ServesAt c j x d d2 old new
    → machine_of d2 (set lines c new) (reserved_by (OfRequest c old.at) x opens) ≡ served_by (setup (config_of d.state.config)) (machine_of d lines opens) c (conn_of old) d.state.world.moment x d2.state.world
left_is c j x d d2 lines opens old new at =
    let s = setup (config_of d.state.config) in
    let z = d.state.world.moment in
    let more = pend (hands d.handed z x) in
    let conns = map-set conn_of lines c new ∙ ap (λ (k : Conn). set (map conn_of lines) c k) at.one.then in
    let background : map pending_of d2.background ≡ map pending_of d.background ++ more =
    ap (λ (ws : List Write). map pending_of ws) at.background ∙ map-append pending_of d.background (fresh_writes more) ∙ ap (λ (ps : List Pending). map pending_of d.background ++ ps) (fresh_pending more) in
    λ i. record {
      conns = conns i;
      free = at.free i;
      stats = at.stats i;
      level_stats = at.levels i;
      background = background i;
      handed = at.handed i;
      reserved = reserved_by (OfRequest c old.at) x opens;
      world = d2.state.world;
    }

served_does : (c e j : ℕ) (x : What) (d d2 : Kept) (lines : List Line) (opens : List Open) (l new : Line) → c < length lines → d.state.told ≡ true → ((n : ℕ) → reserved_at n opens ≡ reserved_in d.state n) → e ≡ c
    → ServesAt c j x d d2 (get_or lines c l) new
    → DoesServe (setup (config_of d.state.config)) (machine_of d lines opens) c d.state.world.moment (OfRequest e j) x (machine_of d2 (set lines c new) (reserved_by (OfRequest e j) x opens))
served_does c e j x d d2 lines opens l new lt told tied same at =
    let s = setup (config_of d.state.config) in
    let m = machine_of d lines opens in
    let m2 = machine_of d2 (set lines c new) (reserved_by (OfRequest e j) x opens) in
    let old = get_or lines c l in
    let n = need_at s (current (conn_of old)) old.phase in
    let owner : reserved_by (OfRequest e j) x opens ≡ reserved_by (OfRequest c old.at) x opens = λ i. reserved_by (OfRequest (same i) (at.number i)) x opens in
    subst (λ (k : Conn). ServesBy s m c d.state.world.moment e j x m2 k) (sym (conn_at d lines opens c l lt)) (
      same,
      subst (λ (n : ℕ). c < n) (sym (length-map lines conn_of)) lt,
      at.number,
      at.one.some,
      at.one.fits,
      (λ due. at.one.token (due_takes s (current (conn_of old)) old.phase due)),
      says_counted s m x at.says,
      (
        d2.state.world,
        subst (λ (z : ℕ). Moves s n (λ l. reserved_at l opens) x (at_moment d.state.world z) d2.state.world) (sym (ticked_own d.state.world.moment x at.one.own)) (moves_by s n opens (reserved_in d.state) x d.state.world d2.state.world tied (all_moves s n (reserved_in d.state) d.state.told x d.state.world d2.state.world told at.moves.1)),
        ap (λ (r : List Open). machine_of d2 (set lines c new) r) owner ∙ left_is c j x d d2 lines opens old new at,
      ),
    )

-- nothing is served
abbrev IdleBy : Setup → ℕ → Conn → Type 0
IdleBy s free k = ((length k.queue ≡ 0) ⊎ ((0 < length k.queue) × Ended (due_at s (current k) k.phase))) ⊎ ((0 < length k.queue) × (due_at s (current k) k.phase ≡ ToTake) × (free ≡ 0))

idle_by : (s : Setup) (free : ℕ) (l : Line) → IsIdleLine free l → IdleBy s free (conn_of l)
idle_by s free l (inl (inl none)) = inl (inl none)
idle_by s free l (inl (inr (some, ended))) = inl (inr (some, ended_due s (current (conn_of l)) l.phase ended))
idle_by s free l (inr (some, takes, none)) = inr (some, takes_due s (current (conn_of l)) l.phase takes, none)

pub serve_does : (c z : ℕ) (o : Owner) (x : What) (d d2 : Kept) (lines : List Line) (opens : List Open) (l new : Line) → c < length lines → d.state.told ≡ true → ((n : ℕ) → reserved_at n opens ≡ reserved_in d.state n) → z ≡ d.state.world.moment
    → ServesWhat c o x d d2 (get_or lines c l) new
    → DoesServe (setup (config_of d.state.config)) (machine_of d lines opens) c z o x (machine_of d2 (set lines c new) (reserved_by o x opens))
serve_does c z (OfRequest e j) x d d2 lines opens l new lt told tied now (same, at) =
    subst (λ (n : ℕ). DoesServe (setup (config_of d.state.config)) (machine_of d lines opens) c n (OfRequest e j) x (machine_of d2 (set lines c new) (reserved_by (OfRequest e j) x opens))) (sym now)
    (served_does c e j x d d2 lines opens l new lt told tied same at)
serve_does c z Nobody Idle d d2 lines opens l new lt told tied now (idle, kept, stays) = (
  subst (λ (k : Conn). IdleBy (setup (config_of d.state.config)) d.free k) (sym (conn_at d lines opens c l lt)) (idle_by (setup (config_of d.state.config)) d.free (get_or lines c l) idle),
  ap (λ (e : Kept). machine_of e (set lines c new) opens) kept ∙ ap (λ (n : Line). machine_of d (set lines c n) opens) stays ∙ ap (λ (ls : List Line). machine_of d ls opens) (set-get_or lines c l),
)
serve_does c z Nobody _ d d2 lines opens l new lt told tied now serves = absurd serves
serve_does c z (OfWrite n) _ d d2 lines opens l new lt told tied now serves = absurd serves

-- nothing more is read
abbrev NoMoreBy : Script → Conn → Type 0
NoMoreBy s k = ((k.closed ≡ true) ⊎ (s.reader.ends k.rest false ≡ BadFrame)) ⊎ ((0 < length k.queue) × Ended (due_at s.setup (current k) k.phase))

no_more : (s : Script) (l : Line) → s.reader ≡ request_reader l.limit → IsDone l → NoMoreBy s (conn_of l)
no_more s l reads (inl (inl closed)) = inl (inl closed)
no_more s l reads (inl (inr bad)) = inl (inr (ends_are s l.limit reads l.rest false ∙ bad))
no_more s l reads (inr (some, ended)) = inr (some, ended_due s.setup (current (conn_of l)) l.phase ended)

is_done : (s : Script) (l : Line) → s.reader ≡ request_reader l.limit → NoMoreBy s (conn_of l) → IsDone l
is_done s l reads (inl (inl closed)) = inl (inl closed)
is_done s l reads (inl (inr bad)) = inl (inr (sym (ends_are s l.limit reads l.rest false) ∙ bad))
is_done s l reads (inr (some, ended)) = inr (some, due_ended s.setup (current (conn_of l)) l.phase ended)

more_comes : (s : Script) (l new : Line) (bytes : List ℕ) → s.reader ≡ request_reader l.limit → TakesMore bytes l new → conn_of new ≡ more s (conn_of l) bytes
more_comes s l new bytes reads takes =
    ap conn_of takes.same
    ∙ (λ i. record (conn_of l) { queue = takes.requests i; rest = takes.rest i; got = takes.got i })
    ∙ sym (more_is s l.limit reads (conn_of l) bytes)

abbrev ReadsBy : Script → Machine → ℕ → ℕ → List ℕ → ℕ → Owner → What → Machine → Conn → Type 0
ReadsBy s m c n b g Nobody (Taken d bytes) m2 k =
    (d ≡ c) × (c < length m.conns) × (NoMoreBy s k → ⊥) × (bytes ≡ take n (drop k.got b)) × (0 < length bytes)
    × (m2 ≡ record m { conns = set m.conns c (more s k bytes) })
ReadsBy s m c n b g Nobody (Closed d) m2 k =
    (d ≡ c) × (c < length m.conns) × (NoMoreBy s k → ⊥) × (0 < n) × (length b ≤ k.got)
    × (m2 ≡ record m { conns = set m.conns c (record k { closed = true }) })
ReadsBy s m c n b g o x m2 k = ⊥

-- the connections after one of them changed
conns_are : (d : Kept) (lines : List Line) (opens : List Open) (c : ℕ) (new : Line) (k : Conn) → conn_of new ≡ k → machine_of d (set lines c new) opens ≡ record (machine_of d lines opens) { conns = set (map conn_of lines) c k }
conns_are d lines opens c new k is_k =
    let conns = map-set conn_of lines c new ∙ ap (λ (x : Conn). set (map conn_of lines) c x) is_k in
    λ i. record (machine_of d lines opens) { conns = conns i }

pub read_does : (s : Script) (c n : ℕ) (o : Owner) (x : What) (d : Kept) (lines : List Line) (opens : List Open) (l new : Line) → c < length lines → s.reader ≡ request_reader (get_or lines c l).limit
    → o ≡ Nobody → ReadsWhat c (input s c) n x (get_or lines c l) new
    → DoesRead s (machine_of d lines opens) c n o x (machine_of d (set lines c new) opens)
read_does s c n o x d lines opens l new lt reads nobody what =
    subst (λ (p : Owner). DoesRead s (machine_of d lines opens) c n p x (machine_of d (set lines c new) opens)) (sym nobody) (by_nobody x what)
  where
    m : Machine
    m = machine_of d lines opens

    old : Line
    old = get_or lines c l

    at : conn m c ≡ conn_of old
    at = conn_at d lines opens c l lt

    there : c < length m.conns
    there = subst (λ (k : ℕ). c < k) (sym (length-map lines conn_of)) lt

    same : new ≡ old → machine_of d (set lines c new) opens ≡ m
    same stays = ap (λ (k : Line). machine_of d (set lines c k) opens) stays ∙ ap (λ (ls : List Line). machine_of d ls opens) (set-get_or lines c l)

    by_nobody : (x : What) → ReadsWhat c (input s c) n x old new → DoesRead s m c n Nobody x (machine_of d (set lines c new) opens)
    by_nobody Idle (inl none, stays) = (inl (inl none), same stays)
    by_nobody Idle (inr done, stays) = (inr (subst (NoMoreBy s) (sym at) (no_more s old reads done)), same stays)
    by_nobody (Taken e bytes) (is_c, (open_still, bytes_are, some, takes)) =
        subst (ReadsBy s m c n (input s c) 0 Nobody (Taken e bytes) (machine_of d (set lines c new) opens)) (sym at)
        (is_c, there, (λ h. open_still (is_done s old reads h)), bytes_are, some, conns_are d lines opens c new (more s (conn_of old) bytes) (more_comes s old new bytes reads takes))
    by_nobody (Closed e) (is_c, (open_still, some, all, closed)) =
        subst (ReadsBy s m c n (input s c) 0 Nobody (Closed e) (machine_of d (set lines c new) opens)) (sym at)
        (is_c, there, (λ h. open_still (is_done s old reads h)), some, all, conns_are d lines opens c new (record (conn_of old) { closed = true }) (ap conn_of closed))
    by_nobody _ h = absurd h

-- a handed write that went on, or is done
pending_at_map : (i : ℕ) (ws : List Write) (w : Write) → write_at i ws ≡ Some w → pending_at i (map pending_of ws) ≡ Some w.pending
pending_at_map i [] w at = absurd (cc)
pending_at_map zero (v ∷ ws) w at = let same : v ≡ w = cc in ap (λ (x : Write). Some x.pending) same
pending_at_map (suc i) (v ∷ ws) w at = pending_at_map i ws w at

stepped_here : (done : Bool) (m : ℕ) (x : What) (v then : Write) (ws : List Write) → then.pending ≡ stepped m x v.pending → map pending_of (put_write done then ws) ≡ step_pending done v.pending m x (map pending_of ws)
stepped_here true m x v then ws is = refl
stepped_here false m x v then ws is = ap (λ (p : Pending). p ∷ map pending_of ws) is

stepped_at : (i : ℕ) (done : Bool) (m : ℕ) (x : What) (w then : Write) (ws : List Write) → write_at i ws ≡ Some w → then.pending ≡ stepped m x w.pending → map pending_of (with_write i done then ws) ≡ pending_after done i m x (map pending_of ws)
stepped_at i done m x w then [] at is = absurd (cc)
stepped_at zero done m x w then (v ∷ ws) at is = let same : v ≡ w = cc in stepped_here done m x v then ws (is ∙ ap (λ (u : Write). stepped m x u.pending) (sym same))
stepped_at (suc i) done m x w then (v ∷ ws) at is = ap (λ (ps : List Pending). v.pending ∷ ps) (stepped_at i done m x w then ws at is)

backed_by : (d d2 : Kept) (lines : List Line) (opens : List Open) (i : ℕ) (w : Write) (e : Event) → write_at i d.background ≡ Some w → BacksAt i w e d d2
    → machine_of d2 lines (reserved_by (OfWrite w.pending.number) e.what opens) ≡ backed (setup (config_of d.state.config)) (machine_of d lines opens) i w.pending e.moment e.what d2.state.world
backed_by d d2 lines opens i w e at backs =
    let stepped_now : backs.then.pending ≡ stepped e.moment e.what w.pending = backs.advances.pending ∙ ap (λ (z : ℕ). stepped z e.what w.pending) (sym backs.moment) in
    let background : map pending_of d2.background ≡ pending_after (ends_write e.what) i e.moment e.what (map pending_of d.background) =
    ap (λ (k : Kept). map pending_of k.background) backs.same ∙ stepped_at i (ends_write e.what) e.moment e.what w backs.then d.background at stepped_now in
    λ j. record {
      conns = map conn_of lines;
      free = ap (λ (k : Kept). k.free) backs.same j;
      stats = ap (λ (k : Kept). k.stats) backs.same j;
      level_stats = ap (λ (k : Kept). k.levels) backs.same j;
      background = background j;
      handed = ap (λ (k : Kept). k.handed) backs.same j;
      reserved = reserved_by (OfWrite w.pending.number) e.what opens;
      world = d2.state.world;
    }

written_does : (d d2 : Kept) (lines : List Line) (opens : List Open) (i : ℕ) (w : Write) (e : Event) → d.state.told ≡ true → ((n : ℕ) → reserved_at n opens ≡ reserved_in d.state n) → write_at i d.background ≡ Some w → BacksAt i w e d d2
    → DoesBack (setup (config_of d.state.config)) (machine_of d lines opens) i e.moment (OfWrite w.pending.number) e.what (machine_of d2 lines (reserved_by (OfWrite w.pending.number) e.what opens))
written_does d d2 lines opens i w e told tied at backs =
    let s = setup (config_of d.state.config) in
    let n = need_back s w.pending in (
      w.pending,
      pending_at_map i d.background w at,
      refl,
      backs.advances.fits,
      (
        d2.state.world,
        subst (λ (z : ℕ). Moves s n (λ l. reserved_at l opens) e.what (at_moment d.state.world z) d2.state.world) (sym (ticked_own d.state.world.moment e.what backs.advances.own))
            (moves_by s n opens (reserved_in d.state) e.what d.state.world d2.state.world tied (all_moves s n (reserved_in d.state) d.state.told e.what d.state.world d2.state.world told backs.moves.1)),
        backed_by d d2 lines opens i w e at backs,
      ),
    )

pub idle_back : (d d2 : Kept) (lines : List Line) (opens : List Open) (i : ℕ) (e : Event) → length d.background ≤ i → e ≡ idle_event d → d2 ≡ d → DoesBack (setup (config_of d.state.config)) (machine_of d lines opens) i e.moment e.owner e.what (machine_of d2 lines (reserved_by e.owner e.what opens))
idle_back d d2 lines opens i e past is_idle same =
    subst (λ (x : Event). DoesBack (setup (config_of d.state.config)) (machine_of d lines opens) i x.moment x.owner x.what (machine_of d2 lines (reserved_by x.owner x.what opens))) (sym is_idle)
    (subst (λ (n : ℕ). n ≤ i) (sym (length-map d.background pending_of)) past, ap (λ (k : Kept). machine_of k lines opens) same)

pub write_does : (d d2 : Kept) (lines : List Line) (opens : List Open) (i : ℕ) (w : Write) (e : Event) → d.state.told ≡ true → ((n : ℕ) → reserved_at n opens ≡ reserved_in d.state n) → write_at i d.background ≡ Some w → BacksAt i w e d d2
    → DoesBack (setup (config_of d.state.config)) (machine_of d lines opens) i e.moment e.owner e.what (machine_of d2 lines (reserved_by e.owner e.what opens))
write_does d d2 lines opens i w e told tied at backs =
    subst (λ (o : Owner). DoesBack (setup (config_of d.state.config)) (machine_of d lines opens) i e.moment o e.what (machine_of d2 lines (reserved_by o e.what opens))) (sym backs.owner)
    (written_does d d2 lines opens i w e told tied at backs)
