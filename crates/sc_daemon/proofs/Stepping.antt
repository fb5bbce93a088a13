-- One step of a drive is one of the machine.
use Rattle.std.proofs.Common.{◌≡◌, ◌≢◌, ◌==◌, ℕ, zero, suc, ◌+◌, ◌<◌, ◌≤◌, inl, inr, Bool, true, false, ◌&&◌, List, [], ◌∷◌, ◌++◌, length, map, set, get_or, Option, Some, refl, sym, ap, ◌∙◌, subst, arith, IsTrue, eqb-true}
use Rattle.std.proofs.lemmas.List.{get_or_past, length-map, length-set, set-get_or}
use Rattle.sc_daemon_action.specs.Hands.{hand_of}
use Rattle.sc_daemon.specs.Backlogs.{AreNumbered, ArePending, Write, fresh_writes, hand_in, with_write, write_at}
use Rattle.sc_daemon.specs.Daemons.{BacksAt, BacksEvent, Kept, ReadsEvent, ReadsWhat, ServesAt, ServesEvent, ServesWhat, idle_event, machine_of, passed}
use Rattle.sc_daemon.specs.Drives.{AreAt, IsAt, IsScriptOf, Steps, Tied, TiesLine, TiesWrites}
use Rattle.sc_daemon.specs.Lines.{Line, conn_of, line_hand, new_line}
use Rattle.sc_daemon.specs.Standings.{Rests}
use Rattle.sc_daemon.specs.Ties.{TiesHand, with_owner}
use Rattle.sc_daemon.proofs.Leaving.{append_pending, append_ties, fresh_tie, hand_number, hands_are, lines_set, more_numbers, none_ties, pending_there, rests_there, with_numbers, write_ties}
use Rattle.sc_daemon.proofs.Machines.{idle_back, read_does, serve_does, write_does}
use Rattle.sc_daemon.proofs.Plain.{ticked_own}
use Rattle.sc_daemon.proofs.Serving.{more_rests}
use Rattle.sc_daemon.proofs.Staying.{all_pending, all_writes, back_pending, back_writes, rests_stays, tie}
use Rattle.sc_daemon.proofs.Tying.{never, owner_ties, reserves_step}
use Rattle.sc_disk.specs.Store.{AddEntry}
use Rattle.sc_daemon_job.specs.Setups.{Config, setup}
use Rattle.sc_model.specs.Conns.{Conn, new_conn}
use Rattle.sc_model.specs.Machine.{DoesBack, DoesRead, DoesServe, conn}
use Rattle.sc_model.specs.Pendings.{pend}
use Rattle.sc_model.specs.Next.{ticked}
use Rattle.sc_model.specs.Plan.{is_disk}
use Rattle.sc_model.specs.Script.{Script, Setup, input}
use Rattle.sc_model.specs.Trace.{Open, ends_write, hands, reserved_at, reserved_by, same_owner}
use Rattle.sc_model.specs.World.{IsWithinBytes}
use Rattle.sc_model.specs.declared.event.Event.{Event}
use Rattle.sc_model.specs.declared.event.Owner.{Owner}
use Rattle.sc_model.specs.declared.event.Owner.TheVariants.{Nobody, Request as OfRequest, Write as OfWrite}
use Rattle.sc_model.specs.declared.event.Step.TheVariants.{Back, Pass, Read, Serve}
use Rattle.sc_model.specs.declared.event.What.{What}
use Rattle.sc_model.specs.declared.event.What.TheVariants.{Closed, Idle, Passed, Taken}
use Rattle.sc_model.specs.declared.level.LevelKind.{LevelKind}
use Rattle.sc_model.specs.declared.level.LevelKind.TheVariants.{Disk, Remote}
use Rattle.sc_model.specs.declared.phase.Phase.{Phase}
use Rattle.sc_daemon_owned.specs.State.{AreLevelsWithin, State, disk_at, reserved_in}
use Rattle.sc_wire.specs.Streams.{request_reader}
use Rattle.sc_daemon_owned.specs.Facts.{DaemonFacts, config_of}

-- which default is of no matter
pub same_at : {A : Type 0} (xs : List A) (c : ℕ) (a b : A) → c < length xs → get_or xs c a ≡ get_or xs c b
same_at [] c a b lt = absurd (omega (arith, lt))
same_at (x ∷ xs) zero a b lt = refl
same_at (x ∷ xs) (suc c) a b lt = same_at xs c a b (omega (arith, lt))

pub at_here : (d : Kept) (lines : List Line) (opens : List Open) (c : ℕ) (l : Line) → c < length lines → Tied d lines opens → IsAt (config_of d.state.config) (disk_at d.state) (get_or lines c l)
at_here d lines opens c l lt t = subst (IsAt (config_of d.state.config) (disk_at d.state)) (same_at lines c (new_line d.state.config.limit) l lt) (t.at c)

pub at_line : (d : Kept) (lines : List Line) (c : ℕ) (l : Line) → c < length lines → AreAt (config_of d.state.config) (disk_at d.state) lines → IsAt (config_of d.state.config) (disk_at d.state) (get_or lines c l)
at_line d lines c l lt at = subst (IsAt (config_of d.state.config) (disk_at d.state)) (same_at lines c (new_line d.state.config.limit) l lt) (at c)

ties_here : (d : Kept) (lines : List Line) (opens : List Open) (c : ℕ) (l : Line) → c < length lines → (t : Tied d lines opens) → TiesLine t.owns opens (disk_at d.state) c (get_or lines c l)
ties_here d lines opens c l lt t = subst (TiesLine t.owns opens (disk_at d.state) c) (same_at lines c (new_line d.state.config.limit) l lt) (t.lines c)

-- each disk level is within its capacity
disk_kind : (kind : LevelKind) → IsTrue (is_disk kind) → kind ≡ Disk
disk_kind Disk is = refl
disk_kind Remote is = absurd (never is)

within_state : (o : State) (rs : List Open) → AreLevelsWithin o → ((l : ℕ) → reserved_at l rs ≡ reserved_in o l) → IsWithinBytes (setup (config_of o.config)) rs o.world
within_state o rs all same l lt disk = let most = all l (disk_kind _ disk) in let n : reserved_at l rs ≡ reserved_in o l = same l in omega (arith, most, n)

within : (s : Script) (f : DaemonFacts) (o : State) (rs : List Open) → s.setup ≡ setup (config_of f) → o.config ≡ f → AreLevelsWithin o → ((l : ℕ) → reserved_at l rs ≡ reserved_in o l) → IsWithinBytes s.setup rs o.world
within s f o rs is_setup same all reserved = subst (λ (su : Setup). IsWithinBytes su rs o.world) (ap (λ (g : DaemonFacts). setup (config_of g)) same ∙ sym is_setup) (within_state o rs all reserved)

limit_stays : (c : ℕ) (o : Owner) (x : What) (d d2 : Kept) (old new : Line) → ServesWhat c o x d d2 old new → new.limit ≡ old.limit
limit_stays c (OfRequest e j) x d d2 old new serves = serves.1.one.limit
limit_stays c Nobody Idle d d2 old new serves = ap (λ (l : Line). l.limit) (serves.2)
limit_stays c Nobody _ d d2 old new serves = absurd serves
limit_stays c (OfWrite n) x d d2 old new serves = absurd serves

config_stays : (c : ℕ) (o : Owner) (x : What) (d d2 : Kept) (old new : Line) → ServesWhat c o x d d2 old new → d2.state.config ≡ d.state.config
config_stays c (OfRequest e j) x d d2 old new serves = serves.1.config
config_stays c Nobody Idle d d2 old new serves = ap (λ (k : Kept). k.state.config) (serves.1)
config_stays c Nobody _ d d2 old new serves = absurd serves
config_stays c (OfWrite n) x d d2 old new serves = absurd serves

told_stays : (c : ℕ) (o : Owner) (x : What) (d d2 : Kept) (old new : Line) → ServesWhat c o x d d2 old new → d2.state.told ≡ d.state.told
told_stays c (OfRequest e j) x d d2 old new serves = serves.1.moves.0
told_stays c Nobody Idle d d2 old new serves = ap (λ (k : Kept). k.state.told) (serves.1)
told_stays c Nobody _ d d2 old new serves = absurd serves
told_stays c (OfWrite n) x d d2 old new serves = absurd serves

ticked_serves : (c : ℕ) (o : Owner) (x : What) (n : ℕ) (d d2 : Kept) (old new : Line) → ServesWhat c o x d d2 old new → ticked n x ≡ n
ticked_serves c (OfRequest e j) x n d d2 old new serves = ticked_own n x serves.1.one.own
ticked_serves c Nobody Idle n d d2 old new serves = refl
ticked_serves c Nobody _ n d d2 old new serves = absurd serves
ticked_serves c (OfWrite k) x n d d2 old new serves = absurd serves

apart_conns : (c e a b : ℕ) → e ≢ c → same_owner (OfRequest c a) (OfRequest e b) ≡ false
apart_conns c e a b apart = step (c == e) (λ is. apart (sym (eqb-true c e is)))
  where
    step : (t : Bool) → (t ≡ true → ⊥) → (t && (a == b)) ≡ false
    step true f = absurd (f refl)
    step false f = refl

-- the same under a configuration that is the same
of_config : (d2 : Kept) (f : DaemonFacts) (P : Config → Type 0) → d2.state.config ≡ f → P (config_of f) → P (config_of d2.state.config)
of_config d2 f P same p = subst (λ (g : DaemonFacts). P (config_of g)) (sym same) p

-- What a served event leaves.
served_tied : (c j : ℕ) (x : What) (d d2 : Kept) (lines : List Line) (opens : List Open) (l new : Line) → c < length lines → Tied d lines opens → ServesAt c j x d d2 (get_or lines c l) new
    → Rests (config_of d.state.config) (Some (disk_at d2.state)) new.phase new.entry new.waiting → Tied d2 (set lines c new) (reserved_by (OfRequest c (get_or lines c l).at) x opens)
served_tied c j x d d2 lines opens l new lt t at rests =
    let old = get_or lines c l in
    let k = config_of d.state.config in
    let z = new_line k.limit in
    let o = OfRequest c old.at in
    let a = disk_at d.state in
    let b = disk_at d2.state in
    let x2 = line_hand new in
    let ties = ties_here d lines opens c l lt t in
    let told = (λ (n : ℕ). at.moves.0) in
    let owns2 = with_owner t.owns o x2 in
    let opens2 = reserved_by o x opens in
    let here = at_here d lines opens c l lt t in
    let more = fresh_writes (pend (hands d.handed d.state.world.moment x)) in
    let all : AreAt k b (set lines c new) = lines_set (λ i y. IsAt k b y) z lines c new lt (at.one.limit ∙ here.0, rests)
    (λ i apart. ((t.at i).0, rests_stays t.owns opens a b o x (line_hand old) x2 at.one.hands at.one.others ties told k (OfRequest i (get_or lines i z).at) (get_or lines i z).phase (get_or lines i z).entry (get_or lines i z).waiting (apart_conns c i old.at (get_or lines i z).at apart) (t.lines i) ((t.at i).1))) in
    let tied : (i : ℕ) → TiesLine owns2 opens2 b i (get_or (set lines c new) i z) = lines_set (λ i y. TiesLine owns2 opens2 b i y) z lines c new lt
    (hand_number (λ n y. TiesHand owns2 opens2 b (OfRequest c n) (line_hand y)) (setup k) (conn_of old) d.state.world.moment x new at.one.then (λ n none. none_ties owns2 opens2 b c n new none)
    (owner_ties t.owns opens a b o x (line_hand old) x2 at.one.hands ties (rests_there k b new.phase new.entry new.waiting rests)))
    (λ i apart. tie t.owns opens a b o x (line_hand old) x2 at.one.hands at.one.others ties told (OfRequest i (get_or lines i z).at) (line_hand (get_or lines i z)) (apart_conns c i old.at (get_or lines i z).at apart) (t.lines i)) in
    let pending : ArePending k (Some b) (d.background ++ more) = append_pending k (Some b) d.background more
    (all_pending t.owns opens a b o x (line_hand old) x2 at.one.hands at.one.others ties told k d.background (λ n. refl) t.writes t.pending)
    (hands_are k (Some b) d.handed d.state.world.moment x at.one.there) in
    let writes : TiesWrites owns2 opens2 b (d.background ++ more) = append_ties owns2 opens2 b d.background more
    (all_writes t.owns opens a b o x (line_hand old) x2 at.one.hands at.one.others ties told d.background (λ n. refl) t.writes)
    (fresh_tie owns2 opens2 b d.handed d.state.world.moment x) in
    let numbers : AreNumbered 0 (d.handed + length (hands d.handed d.state.world.moment x)) (d.background ++ more) = more_numbers d.handed d.state.world.moment x d.background t.numbers in
    record {
      at = of_config d2 d.state.config (λ (q : Config). AreAt q b (set lines c new)) at.config all;
      pending = of_config d2 d.state.config (λ (q : Config). ArePending q (Some b) d2.background) at.config (subst (ArePending k (Some b)) (sym at.background) pending);
      numbers = subst (λ (n : ℕ). AreNumbered 0 n d2.background) (sym at.handed) (subst (AreNumbered 0 (d.handed + length (hands d.handed d.state.world.moment x))) (sym at.background) numbers);
      owns = owns2;
      reserved = reserves_step t.owns opens a o x (line_hand old) x2 (reserved_in d.state) (reserved_in d2.state) at.one.hands ties t.reserved at.moves.3;
      lines = of_config d2 d.state.config (λ (q : Config). (i : ℕ) → TiesLine owns2 opens2 b i (get_or (set lines c new) i (new_line q.limit))) at.config tied;
      writes = subst (TiesWrites owns2 opens2 b) (sym at.background) writes;
    }

idle_tied : (c : ℕ) (d d2 : Kept) (lines : List Line) (opens : List Open) (l new : Line) → Tied d lines opens → d2 ≡ d → new ≡ get_or lines c l → Tied d2 (set lines c new) opens
idle_tied c d d2 lines opens l new t kept stays =
    subst (λ (k : Kept). Tied k (set lines c new) opens) (sym kept)
    (subst (λ (ls : List Line). Tied d ls opens) (sym (ap (λ (n : Line). set lines c n) stays ∙ set-get_or lines c l)) t)

pub serves_tied : (c : ℕ) (o : Owner) (x : What) (d d2 : Kept) (lines : List Line) (opens : List Open) (l new : Line) → c < length lines → Tied d lines opens → ServesWhat c o x d d2 (get_or lines c l) new
    → Rests (config_of d.state.config) (Some (disk_at d2.state)) new.phase new.entry new.waiting → Tied d2 (set lines c new) (reserved_by o x opens)
serves_tied c (OfRequest e j) x d d2 lines opens l new lt t (same, at) rests =
    subst (λ (o : Owner). Tied d2 (set lines c new) (reserved_by o x opens)) (λ i. OfRequest (sym same i) (sym at.number i)) (served_tied c j x d d2 lines opens l new lt t at rests)
serves_tied c Nobody Idle d d2 lines opens l new lt t (idle, kept, stays) rests = idle_tied c d d2 lines opens l new t kept stays
serves_tied c Nobody _ d d2 lines opens l new lt t serves rests = absurd serves
serves_tied c (OfWrite n) x d d2 lines opens l new lt t serves rests = absurd serves

pub steps_serve : (s : Script) (d d2 : Kept) (lines : List Line) (opens : List Open) (c : ℕ) (l new : Line) (e : Event) → s.setup ≡ setup (config_of d.state.config) → Tied d lines opens → d.state.told ≡ true → c < length lines
    → ServesEvent c e d d2 (get_or lines c l) new → Rests (config_of d.state.config) (Some (disk_at d2.state)) new.phase new.entry new.waiting → AreLevelsWithin d2.state → Steps s (Serve c) e d d2 lines (set lines c new) opens
steps_serve s d d2 lines opens c l new e is_setup t told lt serves rests most =
    let old = get_or lines c l in
    let same = config_stays c e.owner e.what d d2 old new serves.serves in
    let tied = serves_tied c e.owner e.what d d2 lines opens l new lt t serves.serves rests in
    record {
      does = (
        serves.moment ∙ sym (ticked_serves c e.owner e.what d.state.world.moment d d2 old new serves.serves),
        subst (λ (su : Setup). DoesServe su (machine_of d lines opens) c e.moment e.owner e.what (machine_of d2 (set lines c new) (reserved_by e.owner e.what opens))) (sym is_setup) (serve_does c e.moment e.owner e.what d d2 lines opens l new lt told t.reserved serves.moment serves.serves),
        within s d.state.config d2.state (reserved_by e.owner e.what opens) is_setup same most tied.reserved,
      );
      config = same;
      told = told_stays c e.owner e.what d d2 old new serves.serves;
      count = length-set lines c new;
      tied = tied;
    }

-- What a read leaves.
limit_reads : (c n : ℕ) (input : List ℕ) (x : What) (old new : Line) → ReadsWhat c input n x old new → new.limit ≡ old.limit
limit_reads c n input Idle old new reads = ap (λ (l : Line). l.limit) (reads.1)
limit_reads c n input (Taken d bytes) old new reads = ap (λ (l : Line). l.limit) (reads.1.3.same)
limit_reads c n input (Closed d) old new reads = ap (λ (l : Line). l.limit) (reads.1.3)
limit_reads c n input _ old new reads = absurd reads

-- a read leaves where the first request stands
stands_reads : (P : ℕ → Phase → Option AddEntry → Type 0) (c n : ℕ) (input : List ℕ) (x : What) (old new : Line) → ReadsWhat c input n x old new → P old.at old.phase old.entry → P new.at new.phase new.entry
stands_reads P c n input Idle old new reads p = subst (λ (l : Line). P l.at l.phase l.entry) (sym reads.1) p
stands_reads P c n input (Taken d bytes) old new reads p = subst (λ (l : Line). P l.at l.phase l.entry) (sym reads.1.3.same) p
stands_reads P c n input (Closed d) old new reads p = subst (λ (l : Line). P l.at l.phase l.entry) (sym reads.1.3) p
stands_reads P c n input _ old new reads p = absurd reads

rests_reads : (d : Kept) (c n : ℕ) (input : List ℕ) (x : What) (old new : Line) → ReadsWhat c input n x old new → Rests (config_of d.state.config) (Some (disk_at d.state)) old.phase old.entry old.waiting → Rests (config_of d.state.config) (Some (disk_at d.state)) new.phase new.entry new.waiting
rests_reads d c n input Idle old new reads rests = subst (λ (l : Line). Rests (config_of d.state.config) (Some (disk_at d.state)) l.phase l.entry l.waiting) (sym reads.1) rests
rests_reads d c n input (Taken e bytes) old new reads rests =
    let takes = reads.1.3 in
    stands_reads (λ i p entry. Rests (config_of d.state.config) (Some (disk_at d.state)) p entry new.waiting) c n input (Taken e bytes) old new reads
    (more_rests (config_of d.state.config) (Some (disk_at d.state)) old.phase old.entry old.waiting ((request_reader old.limit).requests (old.rest ++ bytes)) new.waiting rests takes.requests)
rests_reads d c n input (Closed e) old new reads rests = subst (λ (l : Line). Rests (config_of d.state.config) (Some (disk_at d.state)) l.phase l.entry l.waiting) (sym (reads.1.3)) rests
rests_reads d c n input _ old new reads rests = absurd reads

ticked_reads : (c n m : ℕ) (input : List ℕ) (x : What) (old new : Line) → ReadsWhat c input n x old new → ticked m x ≡ m
ticked_reads c n m input Idle old new reads = refl
ticked_reads c n m input (Taken d bytes) old new reads = refl
ticked_reads c n m input (Closed d) old new reads = refl
ticked_reads c n m input _ old new reads = absurd reads

-- nothing is reserved nor released by a read
reads_reserve : (c n : ℕ) (input : List ℕ) (x : What) (old new : Line) (opens : List Open) → ReadsWhat c input n x old new → reserved_by Nobody x opens ≡ opens
reads_reserve c n input Idle old new opens reads = refl
reads_reserve c n input (Taken d bytes) old new opens reads = refl
reads_reserve c n input (Closed d) old new opens reads = refl
reads_reserve c n input _ old new opens reads = absurd reads

read_tied : (d : Kept) (lines : List Line) (opens : List Open) (c n : ℕ) (input : List ℕ) (x : What) (l new : Line) → c < length lines → Tied d lines opens → ReadsWhat c input n x (get_or lines c l) new → Tied d (set lines c new) opens
read_tied d lines opens c n input x l new lt t what =
    let old = get_or lines c l in
    let k = config_of d.state.config in
    let z = new_line k.limit in
    let here = at_here d lines opens c l lt t in
    record {
      at = lines_set (λ i y. IsAt k (disk_at d.state) y) z lines c new lt (limit_reads c n input x old new what ∙ here.0, rests_reads d c n input x old new what here.1) (λ i apart. t.at i);
      pending = t.pending;
      numbers = t.numbers;
      owns = t.owns;
      reserved = t.reserved;
      lines = lines_set (λ i y. TiesLine t.owns opens (disk_at d.state) i y) z lines c new lt
          (stands_reads (λ i p entry. TiesHand t.owns opens (disk_at d.state) (OfRequest c i) (hand_of entry p)) c n input x old new what (ties_here d lines opens c l lt t)) (λ i apart. t.lines i);
      writes = t.writes;
    }

pub steps_read : (s : Script) (inputs : List (List ℕ)) (d : Kept) (lines : List Line) (opens : List Open) (c n : ℕ) (l new : Line) (b : List ℕ) (e : Event) → IsScriptOf s (config_of d.state.config) inputs → Tied d lines opens → AreLevelsWithin d.state
    → c < length lines → length lines ≡ length inputs → ReadsEvent d c (get_or inputs c b) n e (get_or lines c l) new → Steps s (Read c n) e d d lines (set lines c new) opens
steps_read s inputs d lines opens c n l new b e of t most lt count reads =
    let old = get_or lines c l in
    let here = at_here d lines opens c l lt t in
    let there : c < length inputs = subst (λ (i : ℕ). c < i) count lt in
    let bytes : get_or inputs c b ≡ input s c = same_at inputs c b [] there ∙ ap (λ (i : List (List ℕ)). get_or i c []) (sym of.of_inputs) in
    let what = subst (λ (i : List ℕ). ReadsWhat c i n e.what old new) bytes reads.reads in
    let none : reserved_by e.owner e.what opens ≡ opens = ap (λ (o : Owner). reserved_by o e.what opens) reads.owner ∙ reads_reserve c n (input s c) e.what old new opens what in
    let tied = read_tied d lines opens c n (input s c) e.what l new lt t what in
    record {
      does = (
        reads.moment ∙ sym (ticked_reads c n d.state.world.moment (input s c) e.what old new what),
        subst (λ (r : List Open). DoesRead s (machine_of d lines opens) c n e.owner e.what (machine_of d (set lines c new) r)) (sym none)
            (read_does s c n e.owner e.what d lines opens l new lt (of.of_reader ∙ ap (λ (i : ℕ). request_reader i) (sym here.0)) reads.owner what),
        subst (λ (r : List Open). IsWithinBytes s.setup r d.state.world) (sym none) (within s d.state.config d.state opens of.of_setup refl most t.reserved),
      );
      config = refl;
      told = refl;
      count = length-set lines c new;
      tied = subst (λ (r : List Open). Tied d (set lines c new) r) (sym none) tied;
    }

conn_past : (d : Kept) (lines : List Line) (opens : List Open) (c : ℕ) → length lines ≤ c → conn (machine_of d lines opens) c ≡ new_conn
conn_past d lines opens c le = get_or_past (map conn_of lines) c new_conn (subst (λ (n : ℕ). n ≤ c) (sym (length-map lines conn_of)) le)

pub steps_past : (s : Script) (d : Kept) (lines : List Line) (opens : List Open) (c : ℕ) (e : Event) → s.setup ≡ setup (config_of d.state.config) → Tied d lines opens → AreLevelsWithin d.state → length lines ≤ c
    → e ≡ record { moment = d.state.world.moment; owner = Nobody; what = Idle } → Steps s (Serve c) e d d lines lines opens
steps_past s d lines opens c e is_setup t most le is_idle =
    subst (λ (x : Event). Steps s (Serve c) x d d lines lines opens) (sym is_idle)
    record {
      does = (refl, (inl (inl (ap (λ (k : Conn). length k.queue) (conn_past d lines opens c le))), refl), within s d.state.config d.state opens is_setup refl most t.reserved);
      config = refl;
      told = refl;
      count = refl;
      tied = t;
    }

pub steps_unread : (s : Script) (inputs : List (List ℕ)) (d : Kept) (lines : List Line) (opens : List Open) (c n : ℕ) (e : Event) → IsScriptOf s (config_of d.state.config) inputs → Tied d lines opens → AreLevelsWithin d.state → length lines ≡ length inputs → length lines ≤ c
    → e ≡ record { moment = d.state.world.moment; owner = Nobody; what = Idle } → Steps s (Read c n) e d d lines lines opens
steps_unread s inputs d lines opens c n e of t most count le is_idle =
    subst (λ (x : Event). Steps s (Read c n) x d d lines lines opens) (sym is_idle)
    record {
      does = (refl, (inl (inr (subst (λ (i : List (List ℕ)). length i ≤ c) (sym of.of_inputs) (subst (λ (i : ℕ). i ≤ c) count le))), refl), within s d.state.config d.state opens of.of_setup refl most t.reserved);
      config = refl;
      told = refl;
      count = refl;
      tied = t;
    }

-- What an event of a handed write leaves.
pub backed_tied : (d d2 : Kept) (lines : List Line) (opens : List Open) (i : ℕ) (w : Write) (e : Event) → Tied d lines opens → write_at i d.background ≡ Some w → BacksAt i w e d d2 → Tied d2 lines (reserved_by (OfWrite w.pending.number) e.what opens)
backed_tied d d2 lines opens i w e t at backs =
    let k = config_of d.state.config in
    let z = new_line k.limit in
    let x = e.what in
    let n = w.pending.number in
    let o = OfWrite n in
    let a = disk_at d.state in
    let b = disk_at d2.state in
    let h = hand_in w in
    let h2 = hand_in backs.then in
    let moves = backs.moves in
    let told = (λ (m : ℕ). moves.0) in
    let ties = write_ties t.owns opens a i d.background w at t.writes in
    let owns2 = with_owner t.owns o h2 in
    let opens2 = reserved_by o x opens in
    let by = backs.advances.hands in
    let keeps = backs.advances.others in
    let number : backs.then.pending.number ≡ n = ap (λ p. p.number) backs.advances.pending in
    let left : d2.background ≡ with_write i (ends_write x) backs.then d.background = ap (λ (q : Kept). q.background) backs.same in
    let all : AreAt k b lines = λ c. ((t.at c).0, rests_stays t.owns opens a b o x h h2 by keeps ties told k (OfRequest c (get_or lines c z).at) (get_or lines c z).phase (get_or lines c z).entry (get_or lines c z).waiting refl (t.lines c) ((t.at c).1)) in
    let tied : (c : ℕ) → TiesLine owns2 opens2 b c (get_or lines c z) = λ c. tie t.owns opens a b o x h h2 by keeps ties told (OfRequest c (get_or lines c z).at) (line_hand (get_or lines c z)) refl (t.lines c) in
    let own : ends_write x ≡ false → TiesHand owns2 opens2 b (OfWrite backs.then.pending.number) h2 = λ goes.
    subst (λ (m : ℕ). TiesHand owns2 opens2 b (OfWrite m) h2) (sym number) (owner_ties t.owns opens a b o x h h2 by ties (pending_there k b backs.then (backs.advances.stands goes))) in
    record {
      at = of_config d2 d.state.config (λ (q : Config). AreAt q b lines) backs.config all;
      pending = of_config d2 d.state.config (λ (q : Config). ArePending q (Some b) d2.background) backs.config (subst (ArePending k (Some b)) (sym left)
          (back_pending t.owns opens a b o x h h2 by keeps ties told n refl k 0 d.handed i (ends_write x) w backs.then d.background at refl backs.advances.stands t.numbers t.writes t.pending));
      numbers = subst (λ (m : ℕ). AreNumbered 0 m d2.background) (sym (ap (λ (q : Kept). q.handed) backs.same)) (subst (AreNumbered 0 d.handed) (sym left) (with_numbers 0 d.handed i (ends_write x) w backs.then d.background at number t.numbers));
      owns = owns2;
      reserved = reserves_step t.owns opens a o x h h2 (reserved_in d.state) (reserved_in d2.state) by ties t.reserved moves.3;
      lines = of_config d2 d.state.config (λ (q : Config). (c : ℕ) → TiesLine owns2 opens2 b c (get_or lines c (new_line q.limit))) backs.config tied;
      writes = subst (TiesWrites owns2 opens2 b) (sym left) (back_writes t.owns opens a b o x h h2 by keeps ties told n refl 0 d.handed i (ends_write x) w backs.then d.background at refl own t.numbers t.writes);
    }

write_steps : (s : Script) (d d2 : Kept) (lines : List Line) (opens : List Open) (i : ℕ) (w : Write) (e : Event) → s.setup ≡ setup (config_of d.state.config) → Tied d lines opens → d.state.told ≡ true → AreLevelsWithin d2.state → write_at i d.background ≡ Some w → BacksAt i w e d d2
    → Steps s (Back i) e d d2 lines lines opens
write_steps s d d2 lines opens i w e is_setup t told most at backs =
    let tied : Tied d2 lines (reserved_by e.owner e.what opens) = subst (λ (o : Owner). Tied d2 lines (reserved_by o e.what opens)) (sym backs.owner) (backed_tied d d2 lines opens i w e t at backs) in
    record {
      does = (
        backs.moment ∙ sym (ticked_own d.state.world.moment e.what backs.advances.own),
        subst (λ (su : Setup). DoesBack su (machine_of d lines opens) i e.moment e.owner e.what (machine_of d2 lines (reserved_by e.owner e.what opens))) (sym is_setup) (write_does d d2 lines opens i w e told t.reserved at backs),
        within s d.state.config d2.state (reserved_by e.owner e.what opens) is_setup backs.config most tied.reserved,
      );
      config = backs.config;
      told = backs.moves.0;
      count = refl;
      tied = tied;
    }

idle_steps : (s : Script) (d d2 : Kept) (lines : List Line) (opens : List Open) (i : ℕ) (e : Event) → s.setup ≡ setup (config_of d.state.config) → Tied d lines opens → AreLevelsWithin d.state → length d.background ≤ i → e ≡ idle_event d → d2 ≡ d → Steps s (Back i) e d d2 lines lines opens
idle_steps s d d2 lines opens i e is_setup t most past is_idle same =
    subst (λ (k : Kept). Steps s (Back i) e d k lines lines opens) (sym same)
    (subst (λ (x : Event). Steps s (Back i) x d d lines lines opens) (sym is_idle)
    record {
      does = (
        refl,
        subst (λ (su : Setup). DoesBack su (machine_of d lines opens) i d.state.world.moment Nobody Idle (machine_of d lines opens)) (sym is_setup) (idle_back d d lines opens i (idle_event d) past refl refl),
        within s d.state.config d.state opens is_setup refl most t.reserved,
      );
      config = refl;
      told = refl;
      count = refl;
      tied = t;
    })

pub steps_back : (s : Script) (d d2 : Kept) (lines : List Line) (opens : List Open) (i : ℕ) (e : Event) → s.setup ≡ setup (config_of d.state.config) → Tied d lines opens → d.state.told ≡ true → AreLevelsWithin d2.state
    → BacksEvent i e d d2 → Steps s (Back i) e d d2 lines lines opens
steps_back s d d2 lines opens i e is_setup t told most (inl (past, is_idle, same)) = idle_steps s d d2 lines opens i e is_setup t (subst (λ (k : Kept). AreLevelsWithin k.state) same most) past is_idle same
steps_back s d d2 lines opens i e is_setup t told most (inr (w, at, backs)) = write_steps s d d2 lines opens i w e is_setup t told most at backs

pub passed_tied : (d : Kept) (n : ℕ) (lines : List Line) (opens : List Open) → Tied d lines opens → Tied (passed d n) lines opens
passed_tied d n lines opens t = record { at = t.at; pending = t.pending; numbers = t.numbers; owns = t.owns; reserved = t.reserved; lines = t.lines; writes = t.writes }

pub steps_pass : (s : Script) (d d2 : Kept) (lines : List Line) (opens : List Open) (n : ℕ) (e : Event) → s.setup ≡ setup (config_of d.state.config) → Tied d lines opens → AreLevelsWithin d2.state → d2 ≡ passed d n
    → e ≡ record { moment = d2.state.world.moment; owner = Nobody; what = Passed n } → Steps s (Pass n) e d d2 lines lines opens
steps_pass s d d2 lines opens n e is_setup t most is_passed is_pass =
    let within_now : AreLevelsWithin (passed d n).state = subst (λ (k : Kept). AreLevelsWithin k.state) is_passed most in
    subst (λ (x : Event). Steps s (Pass n) x d d2 lines lines opens) (sym is_pass)
    (subst (λ (k : Kept). Steps s (Pass n) (record { moment = k.state.world.moment; owner = Nobody; what = Passed n }) d k lines lines opens) (sym is_passed)
    record {
      does = (refl, (refl, refl), within s d.state.config (passed d n).state opens is_setup refl within_now t.reserved);
      config = refl;
      told = refl;
      count = refl;
      tied = passed_tied d n lines opens t;
    })

pub reads_at : (d : Kept) (c n : ℕ) (e : Event) (b b2 : List ℕ) (l l2 new : Line) → b ≡ b2 → l ≡ l2 → ReadsEvent d c b n e l new → ReadsEvent d c b2 n e l2 new
reads_at d c n e b b2 l l2 new same_b same_l reads =
    subst (λ (x : Line). ReadsEvent d c b2 n e x new) same_l (subst (λ (x : List ℕ). ReadsEvent d c x n e l new) same_b reads)
