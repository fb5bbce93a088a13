-- A piece more that was read of a link, its end, and how it is left.
use Rattle.std.proofs.Common.{◌≡◌, inl, inr, ℕ, ◌+◌, ◌<◌, ◌≤◌, true, false, List, [], ◌∷◌, ◌++◌, length, take, Option, Some, None, true≢false, refl, sym, ap, ◌∙◌, subst, arith, append_assoc}
use Rattle.sc_daemon.specs.Daemons.{Kept}
use Rattle.sc_daemon.specs.Lines.{IsDone, Line, new_line}
use Rattle.sc_daemon.specs.Sessions.{Feeds, Session}
use Rattle.sc_daemon.specs.Turns.{IsIdleLine, TakesMore}
use Rattle.sc_daemon_job.specs.Setups.{setup}
use Rattle.sc_daemon_owned.specs.Facts.{config_of}
use Rattle.sc_entry.proofs.Telling.{told_then, told_weaker}
use Rattle.sc_entry.specs.Causes.{IfTold, Rose, Told}
use Rattle.sc_entry.specs.Streams.{ReadsOnce, WritesAll}
use Rattle.sc_main.proofs.Acting.{stands_more}
use Rattle.sc_main.proofs.Going.{some_whole}
use Rattle.sc_main.proofs.Settling.{ended_none, takes_none}
use Rattle.sc_main.specs.Deeds.{Heard, Lost, Refused, Shut, Took, due_by, read_by, renewed}
use Rattle.sc_main.specs.Progress.{EndsNow, KeepsTokens, Leaves, LeftSo, Scene, SoFar, held_token, scene}
use Rattle.sc_main.specs.Serving.{HasTokens, IsAnswered, Stands, Wire, WritesSome, refused_in, wire}
use Rattle.sc_main.specs.declared.link_end.LinkEnd.{LinkEnd}
use Rattle.sc_main.specs.declared.link_end.LinkEnd.TheVariants as ends
use Rattle.sc_model.specs.declared.message.Request.{Request}
use Rattle.sc_wire.specs.Streams.{request_reader}

-- an idle connection's first request holds no token
pub idle_none : (free : ℕ) (l : Line) → (l.waiting ≡ [] → held_token l.phase ≡ 0) → IsIdleLine free l → held_token l.phase ≡ 0
idle_none free l un (inl (inl none)) = un (no_length l.waiting none)
  where
    no_length : (w : List Request) → length w ≡ 0 → w ≡ []
    no_length [] is = refl
    no_length (r ∷ w) is = absurd (omega (arith, is))
idle_none free l un (inl (inr (some, ended))) = ended_none l.phase ended
idle_none free l un (inr (some, takes, none)) = takes_none l.phase takes

-- where all tokens were free before, an idle connection is answered
pub idle_answered : (d : Kept) (l : Line) → (l.waiting ≡ [] → held_token l.phase ≡ 0) → IsIdleLine d.free l → KeepsTokens d l → IsAnswered l
idle_answered d l un (inl (inl none)) kept = inl (no_length l.waiting none)
  where
    no_length : (w : List Request) → length w ≡ 0 → w ≡ []
    no_length [] is = refl
    no_length (r ∷ w) is = absurd (omega (arith, is))
idle_answered d l un (inl (inr (some, ended))) kept = inr ended
idle_answered d l un (inr (some, takes, none)) kept =
    let held = takes_none l.phase takes in
    let free = kept.1 in
    let few = kept.0 in
    absurd (omega (arith, held, free, few, none))

-- and all tokens are free again
pub idle_tokens : (d : Kept) (l : Line) → (l.waiting ≡ [] → held_token l.phase ≡ 0) → IsIdleLine d.free l → KeepsTokens d l → HasTokens d
idle_tokens d l un idle kept = let held = idle_none d.free l un idle in let free = kept.1 in (kept.0, omega (arith, held, free))

-- a piece more was read
piece_more : (bytes piece before mid after : List ℕ) → before ≡ bytes ++ mid → mid ≡ piece ++ after → before ≡ (bytes ++ piece) ++ after
piece_more bytes piece before mid after x y = x ∙ ap (λ (v : List ℕ). bytes ++ v) y ∙ sym (append_assoc bytes piece after)

told_more : (bytes piece : List ℕ) (a b c : Option (List ℕ)) → Told (λ before after. before ≡ bytes ++ after) a b → Told (λ before after. before ≡ piece ++ after) b c → Told (λ before after. before ≡ (bytes ++ piece) ++ after) a c
told_more bytes piece a b c x y =
    told_then (λ (p q : List ℕ). p ≡ bytes ++ q) (λ (p q : List ℕ). p ≡ piece ++ q) (λ (p q : List ℕ). p ≡ (bytes ++ piece) ++ q) (λ p q r v w. piece_more bytes piece p q r v w) a b c x y

-- and its requests were taken
pub takes_on : (first : Scene) (s s2 : Session) (h : Heard) (c : Option (List ℕ)) (k : Wire) (ahead : Option (List ℕ)) (piece : List ℕ)
    → SoFar None first (scene s h c (record k { ahead = ahead })) → Told (λ before after. before ≡ piece ++ after) ahead k.ahead → h.is_polled ≡ true → h.wait.cause ≡ None
    → (IsDone s.line → ⊥) → s2 ≡ record s { line = s2.line } → TakesMore piece s.line s2.line → SoFar None first (scene s2 (record h { is_polled = false }) c k)
takes_on first s s2 h c k ahead piece f read polled uncaused going same takes =
    let line = takes.same in
    record {
      deeds = Took piece ∷ f.deeds;
      leads = (s, f.leads, (same, going, takes));
      ticks = f.ticks;
      heard = ap (λ (x : Heard). record x { is_polled = false }) f.heard;
      told = f.told;
      reading = (sym (ap (λ (x : Heard). x.is_polled) f.heard) ∙ polled, sym (ap (λ (x : Heard). x.wait.cause) f.heard) ∙ uncaused, f.marked, f.reading);
      marked = f.marked;
      real = f.real;
      reads = told_more (read_by f.deeds) piece first.link.ahead ahead k.ahead f.reads read;
      stands = stands_more first.session.daemon.state.config.limit (read_by f.deeds) piece s.line s2.line f.stands takes;
      writes = f.writes;
      cause = f.cause;
      later = f.later;
      config = ap (λ (x : Session). x.daemon.state.config) same ∙ f.config;
      emptied = ap (λ (l : Line). l.out) line ∙ f.emptied;
      ended = λ closed. absurd (going (inl (inl (sym (ap (λ (l : Line). l.closed) line) ∙ closed))));
      unheld = λ none. ap (λ (l : Line). held_token l.phase) line ∙ f.unheld (front_none s.line.waiting ((request_reader s.line.limit).requests (s.line.rest ++ piece)) (sym takes.requests ∙ none));
      tokens = λ has. let x = f.tokens has in
          subst (λ (d : Kept). KeepsTokens d s2.line) (sym (ap (λ (y : Session). y.daemon) same)) (x.0, ap (λ (l : Line). s.daemon.free + held_token l.phase) line ∙ x.1);
    }
  where
    front_none : (v w : List Request) → v ++ w ≡ [] → v ≡ []
    front_none [] w is = refl
    front_none (r ∷ v) w is = absurd (cc)

-- or memory ran out as they were taken
pub loses_on : (first : Scene) (s s2 : Session) (h : Heard) (c : Option (List ℕ)) (k : Wire) (ahead : Option (List ℕ)) (piece : List ℕ)
    → SoFar None first (scene s h c (record k { ahead = ahead })) → Told (λ before after. before ≡ piece ++ after) ahead k.ahead → h.is_polled ≡ true → h.wait.cause ≡ None
    → IsIdleLine s.daemon.free s.line → s2 ≡ renewed s → SoFar (Some ends.NoMemory) first (scene s2 (record h { is_polled = false }) c k)
loses_on first s s2 h c k ahead piece f read polled uncaused idle same =
    let u = setup (config_of first.session.daemon.state.config) in
    let line : s2.line ≡ new_line s.daemon.state.config.limit = ap (λ (x : Session). x.line) same in
    record {
      deeds = Refused ∷ Lost piece ∷ f.deeds;
      leads = (s2, (s, f.leads, same), refl);
      ticks = f.ticks;
      heard = ap (λ (x : Heard). record x { is_polled = false }) f.heard;
      told = tt;
      reading = (sym (ap (λ (x : Heard). x.is_polled) f.heard) ∙ polled, sym (ap (λ (x : Heard). x.wait.cause) f.heard) ∙ uncaused, f.marked, f.reading);
      marked = refl;
      real = refl;
      reads = told_more (read_by f.deeds) piece first.link.ahead ahead k.ahead f.reads read;
      stands = tt;
      writes = told_weaker (WritesAll (due_by u f.deeds)) (WritesSome (due_by u f.deeds)) (λ x y w. some_whole (due_by u f.deeds) x y w) first.link.written k.written f.writes;
      cause = tt;
      later = f.later;
      config = ap (λ (x : Session). x.daemon.state.config) same ∙ f.config;
      emptied = ap (λ (l : Line). l.out) line;
      ended = λ closed. absurd (true≢false (sym closed ∙ ap (λ (l : Line). l.closed) line));
      unheld = λ none. ap (λ (l : Line). held_token l.phase) line;
      tokens = λ has. let x = f.tokens has in let held = idle_none s.daemon.free s.line f.unheld idle in let free = x.1 in
          subst (λ (y : Session). KeepsTokens y.daemon y.line) (sym same) (x.0, omega (arith, held, free));
    }

-- the link's end was read
pub shuts_on : (first : Scene) (s s2 : Session) (h : Heard) (c : Option (List ℕ)) (k : Wire) (ahead : Option (List ℕ))
    → SoFar None first (scene s h c (record k { ahead = ahead })) → Told (λ before after. (before ≡ after) × (after ≡ [])) ahead k.ahead
    → s2 ≡ record s { line = record s.line { closed = true } } → SoFar None first (scene s2 h c k)
shuts_on first s s2 h c k ahead f read same =
    let line : s2.line ≡ record s.line { closed = true } = ap (λ (x : Session). x.line) same in
    let limit = first.session.daemon.state.config.limit in
    let x : Stands limit (read_by f.deeds) s.line = f.stands in
    record {
      deeds = Shut ∷ f.deeds;
      leads = (s, f.leads, same);
      ticks = f.ticks;
      heard = f.heard;
      told = f.told;
      reading = f.reading;
      marked = f.marked;
      real = f.real;
      reads = told_then (λ (p q : List ℕ). p ≡ read_by f.deeds ++ q) (λ (p q : List ℕ). (p ≡ q) × (q ≡ [])) (λ (p q : List ℕ). p ≡ read_by f.deeds ++ q) (λ p q r v w. v ∙ ap (λ (z : List ℕ). read_by f.deeds ++ z) w.0) first.link.ahead ahead k.ahead f.reads read;
      stands = subst (λ (l : Line). Stands limit (read_by f.deeds) l) (sym line) (record { limited = x.limited; got = x.got; rest = x.rest; over = x.over; count = x.count; requests = x.requests; emptied = x.emptied });
      writes = f.writes;
      cause = f.cause;
      later = f.later;
      config = ap (λ (x : Session). x.daemon.state.config) same ∙ f.config;
      emptied = ap (λ (l : Line). l.out) line ∙ f.emptied;
      ended = λ closed. nothing_ahead ahead k.ahead read;
      unheld = subst (λ (l : Line). l.waiting ≡ [] → held_token l.phase ≡ 0) (sym line) f.unheld;
      tokens = λ has. subst (λ (y : Session). KeepsTokens y.daemon y.line) (sym same) (f.tokens has);
    }
  where
    nothing_ahead : (a b : Option (List ℕ)) → Told (λ before after. (before ≡ after) × (after ≡ [])) a b → IfTold b (λ left. left ≡ [])
    nothing_ahead None None r = tt
    nothing_ahead (Some x) (Some y) r = r.1
    nothing_ahead None (Some y) r = absurd r
    nothing_ahead (Some x) None r = absurd r

-- a read of 0 bytes into a buffer that has room
pub read_end : (n : ℕ) (buffer : List ℕ) (a b : Option (List ℕ)) → n ≡ 0 → 0 < length buffer → Told (ReadsOnce n buffer) a b → Told (λ before after. (before ≡ after) × (after ≡ [])) a b
read_end n buffer a b none room r =
    told_weaker (ReadsOnce n buffer) (λ (p q : List ℕ). (p ≡ q) × (q ≡ [])) (λ p q x. (x.0 ∙ ap (λ (m : ℕ). take m buffer ++ q) none, x.1 none room)) a b r

-- a read of some
pub read_piece : (n : ℕ) (buffer piece : List ℕ) (a b : Option (List ℕ)) → piece ≡ take n buffer → Told (ReadsOnce n buffer) a b → Told (λ before after. before ≡ piece ++ after) a b
read_piece n buffer piece a b is r =
    told_weaker (ReadsOnce n buffer) (λ (p q : List ℕ). p ≡ piece ++ q) (λ p q x. x.0 ∙ ap (λ (v : List ℕ). v ++ q) (sym is)) a b r

-- a read was refused
pub faults_on : (first : Scene) (s : Session) (h : Heard) (c : Option (List ℕ)) (k k2 : Wire) → SoFar None first (scene s h c k) → k2.ahead ≡ k.ahead → k2.written ≡ k.written → Rose k.faults k2.faults → k.faults ≤ k2.faults
    → SoFar (Some ends.ReadFault) first (scene s h c k2)
faults_on first s h c k k2 f ahead written rose more = record {
  deeds = Refused ∷ f.deeds;
  leads = (s, f.leads, refl);
  ticks = f.ticks;
  heard = f.heard;
  told = f.told;
  reading = f.reading;
  marked = refl;
  real = refl;
  reads = subst (λ (x : Option (List ℕ)). Told (λ before after. before ≡ read_by f.deeds ++ after) first.link.ahead x) (sym ahead) f.reads;
  stands = f.stands;
  writes = subst (λ (x : Option (List ℕ)). Told (WritesAll (due_by (setup (config_of first.session.daemon.state.config)) f.deeds)) first.link.written x) (sym written) f.writes;
  cause = subst (λ (n : ℕ). Rose n k2.faults) f.cause rose;
  later = let l = f.later in omega (arith, l, more);
  config = f.config;
  emptied = f.emptied;
  ended = λ closed. subst (λ (x : Option (List ℕ)). IfTold x (λ left. left ≡ [])) (sym ahead) (f.ended closed);
  unheld = f.unheld;
  tokens = f.tokens;
}

-- nothing more is done for the link
pub gives_up : (first : Scene) (s : Session) (h : Heard) (c : Option (List ℕ)) (k : Wire) → SoFar None first (scene s h c k) → SoFar (Some ends.NoMemory) first (scene s h c k)
gives_up first s h c k f =
    let u = setup (config_of first.session.daemon.state.config) in
    record {
      deeds = Refused ∷ f.deeds;
      leads = (s, f.leads, refl);
      ticks = f.ticks;
      heard = f.heard;
      told = tt;
      reading = f.reading;
      marked = refl;
      real = refl;
      reads = f.reads;
      stands = tt;
      writes = told_weaker (WritesAll (due_by u f.deeds)) (WritesSome (due_by u f.deeds)) (λ x y w. some_whole (due_by u f.deeds) x y w) first.link.written k.written f.writes;
      cause = tt;
      later = f.later;
      config = f.config;
      emptied = f.emptied;
      ended = f.ended;
      unheld = f.unheld;
      tokens = f.tokens;
    }

-- the link is left
pub leaves : (end : LinkEnd) (first now : Scene) → SoFar None first now → EndsNow (Some end) now.session.line now.heard.wait → Leaves end first now
leaves end first now f e = record { so_far = subst (λ (r : Option LinkEnd). SoFar r first now) (sym e.1) f; left = e.0 }

-- and where something was refused
pub leaves_refused : (end : LinkEnd) (first now : Scene) → SoFar (Some end) first now → Leaves end first now
leaves_refused end first now f = record { so_far = subst (λ (r : Option LinkEnd). SoFar r first now) (sym f.real) f; left = by_cases end f.real }
  where
    by_cases : (e : LinkEnd) → refused_in e ≡ Some e → LeftSo e now.session.line now.heard.wait
    by_cases (ends.Over end) is = absurd (cc)
    by_cases ends.Stopped is = absurd (cc)
    by_cases ends.NoMemory is = tt
    by_cases ends.ReadFault is = tt
    by_cases ends.WriteFault is = tt

-- ---- as the code does it

-- a piece was fed
pub feeds_on : (first : Scene) (s s2 : Session) (h : Heard) (c : Option (List ℕ)) (k : Wire) (ahead : Option (List ℕ)) (piece : List ℕ)
    → SoFar None first (scene s h c (record k { ahead = ahead })) → Told (λ before after. before ≡ piece ++ after) ahead k.ahead → h.is_polled ≡ true → h.wait.cause ≡ None → (IsDone s.line → ⊥)
    → Feeds piece s.line s2.line → s2.daemon ≡ s.daemon → s2.lost ≡ s.lost → SoFar None first (scene s2 (record h { is_polled = false }) c k)
feeds_on first s s2 h c k ahead piece f read polled uncaused going (inl (done, same)) d lost = absurd (going done)
feeds_on first s s2 h c k ahead piece f read polled uncaused going (inr (on, takes)) d lost =
    takes_on first s s2 h c k ahead piece f read polled uncaused going (λ i. record { daemon = d i; line = s2.line; lost = lost i }) takes

-- and wasn't taken
pub unfed_on : (first : Scene) (s s2 : Session) (h : Heard) (c : Option (List ℕ)) (k : Wire) (ahead : Option (List ℕ)) (piece : List ℕ)
    → SoFar None first (scene s h c (record k { ahead = ahead })) → Told (λ before after. before ≡ piece ++ after) ahead k.ahead → h.is_polled ≡ true → h.wait.cause ≡ None → IsIdleLine s.daemon.free s.line
    → s2.line ≡ new_line s.daemon.state.config.limit → s2.daemon ≡ s.daemon → s2.lost ≡ s.lost → SoFar (Some ends.NoMemory) first (scene s2 (record h { is_polled = false }) c k)
unfed_on first s s2 h c k ahead piece f read polled uncaused idle line d lost =
    loses_on first s s2 h c k ahead piece f read polled uncaused idle (λ i. record { daemon = d i; line = line i; lost = lost i })

pub new_idle : (free : ℕ) (l : Line) (limit : ℕ) → l ≡ new_line limit → IsIdleLine free l
new_idle free l limit is = inl (inl (ap (λ (n : Line). length n.waiting) is))

-- an idle connection that was closed is idle
pub shut_idle : (s s2 : Session) → s2 ≡ record s { line = record s.line { closed = true } } → IsIdleLine s.daemon.free s.line → IsIdleLine s2.daemon.free s2.line
shut_idle s s2 is idle = subst (λ (x : Session). IsIdleLine x.daemon.free x.line) (sym is) idle

-- the next piece is served where one is read
pub piece_on : (r : Option LinkEnd) (first now after : Scene) (ahead : Option (List ℕ)) (buffer piece : List ℕ) (n : ℕ) → piece ≡ take n buffer → Told (ReadsOnce n buffer) now.link.ahead ahead
    → ((a : Option (List ℕ)) → Told (λ before later. before ≡ piece ++ later) a ahead → SoFar None first (record now { link = record now.link { ahead = a } }) → SoFar r first after)
    → SoFar None first now → SoFar r first after
piece_on r first now after ahead buffer piece n is read serve f = serve now.link.ahead (read_piece n buffer piece now.link.ahead ahead is read) f

-- a read changes nothing else of a link
pub read_same : (first : Scene) (s : Session) (h : Heard) (c a w w2 : Option (List ℕ)) (n n2 : ℕ) → SoFar None first (scene s h c (wire a w n)) → w2 ≡ w → n2 ≡ n → SoFar None first (scene s h c (wire a w2 n2))
read_same first s h c a w w2 n n2 f written faults =
    subst (λ (x : Option (List ℕ)). SoFar None first (scene s h c (wire a x n2))) (sym written) (subst (λ (m : ℕ). SoFar None first (scene s h c (wire a w m))) (sym faults) f)
