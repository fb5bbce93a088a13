-- What was done of a link so far, and one deed more.
use Rattle.std.proofs.Common.{◌≡◌, ◌⊎◌, inl, inr, ℕ, ◌+◌, ◌-◌, ◌<◌, ◌≤◌, Bool, true, false, List, [], ◌∷◌, ◌++◌, length, take, Option, Some, None, is_some, true≢false, refl, sym, ap, ◌∙◌, subst, arith, append_assoc, append-nil, length-append}
use Rattle.std.specs.Prelude.{if◌then◌else◌}
use Rattle.std.proofs.Math.Seq.{take-append_seam, take-append-add}
use Rattle.std.specs.Option.{option_or}
use Rattle.sc_daemon.specs.Backlogs.{Write as Pile}
use Rattle.sc_daemon.specs.Daemons.{BacksEvent, Kept, ServesEvent, ServesWhat}
use Rattle.sc_daemon.specs.Lines.{Line, new_line}
use Rattle.sc_daemon.specs.Sessions.{Session}
use Rattle.sc_daemon.specs.Turns.{IsIdleLine}
use Rattle.sc_daemon_job.specs.Setups.{setup}
use Rattle.sc_daemon_owned.specs.Facts.{DaemonFacts, config_of}
use Rattle.sc_entry.proofs.Telling.{told_same, told_then, told_weaker}
use Rattle.sc_entry.specs.Causes.{IfTold, Rose, Told}
use Rattle.sc_entry.specs.Streams.{WritesAll, WritesFront}
use Rattle.sc_main.proofs.Acting.{Settles, acts_stay, backs_config, stands_on}
use Rattle.sc_main.specs.Deeds.{Acts, Backs, Deed, Did, Heard, Polled, Raised, Refused, TellsAll, Ticks_once, Wrote, due_by, is_refused, polled, raised, read_by, told_by, with_kept}
use Rattle.sc_main.specs.Progress.{CauseSoFar, IfKeptSoFar, IsRefusal, KeepsTokens, Scene, Sends, SoFar, WritesSoFar, held_token, scene}
use Rattle.sc_main.specs.Serving.{IfKept, Stands, Wire, Writes, WritesSome}
use Rattle.sc_main.specs.declared.link_end.LinkEnd.{LinkEnd}
use Rattle.sc_main.specs.declared.link_end.LinkEnd.TheVariants as ends
use Rattle.sc_model.proofs.Streams.{reads_on}
use Rattle.sc_model.specs.Script.{Setup}
use Rattle.sc_model.specs.Trace.{frame_bytes, sent_by}
use Rattle.sc_model.specs.declared.event.Event.{Event}
use Rattle.sc_model.specs.declared.event.Owner.{Owner}
use Rattle.sc_model.specs.declared.event.Owner.TheVariants.{Nobody, Write as OfWrite}
use Rattle.sc_model.specs.declared.event.What.{What}
use Rattle.sc_model.specs.declared.event.What.TheVariants.{Idle}
use Rattle.sc_model.specs.declared.message.Request.{Request}
use Rattle.sc_server_activity.specs.Waits.{cause_of, has_passed, has_request, has_shutdown}
use Rattle.sc_server_activity.specs.declared.messages.Messages.{Messages}
use Rattle.sc_server_activity.specs.declared.server_message.ServerMessage.{ServerMessage}
use Rattle.sc_server_activity.specs.declared.shutdown_or_inactive.ShutdownOrInactive.{ShutdownOrInactive}
use Rattle.sc_wire.specs.Requests.{read_request}

-- ---- facts that hold but where memory ran out

kept_in : {P : Type 0} (end : LinkEnd) → P → IfKept end P
kept_in (ends.Over e) p = p
kept_in ends.Stopped p = p
kept_in ends.NoMemory p = tt
kept_in ends.ReadFault p = p
kept_in ends.WriteFault p = p

kept_map : {P Q : Type 0} (r : Option LinkEnd) → (P → Q) → IfKeptSoFar r P → IfKeptSoFar r Q
kept_map None f p = f p
kept_map (Some (ends.Over e)) f p = f p
kept_map (Some ends.Stopped) f p = f p
kept_map (Some ends.NoMemory) f p = tt
kept_map (Some ends.ReadFault) f p = f p
kept_map (Some ends.WriteFault) f p = f p

-- ---- what is written

all_more : (due bytes a b c : List ℕ) → WritesAll due a b → WritesAll bytes b c → WritesAll (due ++ bytes) a c
all_more due bytes a b c x y = y ∙ ap (λ (v : List ℕ). v ++ bytes) x ∙ append_assoc a due bytes

some_more : (due bytes a b c : List ℕ) → WritesAll due a b → WritesSome bytes b c → WritesSome (due ++ bytes) a c
some_more due bytes a b c x y =
    let long : length b ≡ length a + length due = ap (λ (v : List ℕ). length v) x ∙ length-append a due in
    let all : length c ≡ length b + length (take (length c - length b) bytes) = ap (λ (v : List ℕ). length v) y ∙ length-append b (take (length c - length b) bytes) in
    let parts : length c - length a ≡ length due + (length c - length b) = omega (arith, long, all) in
    y ∙ ap (λ (v : List ℕ). v ++ take (length c - length b) bytes) x ∙ append_assoc a due (take (length c - length b) bytes)
    ∙ ap (λ (v : List ℕ). a ++ v) (sym (ap (λ (n : ℕ). take n (due ++ bytes)) parts ∙ take-append-add due bytes (length c - length b)))

front_more : (due bytes a b c : List ℕ) → WritesAll due a b → WritesFront bytes b c → WritesFront (due ++ bytes) a c
front_more due bytes a b c x y =
    let long : length b ≡ length a + length due = ap (λ (v : List ℕ). length v) x ∙ length-append a due in
    (some_more due bytes a b c x y.0, let short = y.1 in omega (arith, long, short, length-append due bytes))

some_of_all : (due bytes a b : List ℕ) → WritesAll due a b → WritesSome (due ++ bytes) a b
some_of_all due bytes a b x =
    let long : length b ≡ length a + length due = ap (λ (v : List ℕ). length v) x ∙ length-append a due in
    let parts : length b - length a ≡ length due = omega (arith, long) in
    x ∙ ap (λ (v : List ℕ). a ++ v) (sym (ap (λ (n : ℕ). take n (due ++ bytes)) parts ∙ take-append_seam due bytes))

pub some_whole : (due a b : List ℕ) → WritesAll due a b → WritesSome due a b
some_whole due a b x = subst (λ (d : List ℕ). WritesSome d a b) (append-nil due) (some_of_all due [] a b x)

-- what was written behind a refusal
some_of : (end : LinkEnd) (due a b : List ℕ) → Writes end due a b → WritesSome due a b
some_of (ends.Over e) due a b x = some_whole due a b x
some_of ends.Stopped due a b x = some_whole due a b x
some_of ends.NoMemory due a b x = x
some_of ends.ReadFault due a b x = some_whole due a b x
some_of ends.WriteFault due a b x = x.0

-- ---- a link of which nothing was read

stands_first : (l : Line) (limit : ℕ) → l ≡ new_line limit → Stands limit [] l
stands_first l limit is =
    let on = reads_on limit read_request in
    subst (λ (n : Line). Stands limit [] n) (sym is) (record { limited = refl; got = refl; rest = sym on.nothing; over = []; count = refl; requests = sym on.none; emptied = refl })

pub starts : (s : Session) (h : Heard) (c : Option (List ℕ)) (k : Wire) → s.line ≡ new_line s.daemon.state.config.limit → SoFar None (scene s h c k) (scene s h c k)
starts s h c k is = record {
  deeds = [];
  leads = refl;
  ticks = refl;
  heard = refl;
  told = tt;
  reading = tt;
  marked = refl;
  real = tt;
  reads = told_same (λ (before after : List ℕ). before ≡ [] ++ after) (λ x. refl) k.ahead;
  stands = stands_first s.line s.daemon.state.config.limit is;
  writes = told_same (WritesAll []) (λ x. sym (append-nil x)) k.written;
  cause = refl;
  later = omega arith;
  config = refl;
  emptied = ap (λ (l : Line). l.out) is;
  ended = λ closed. absurd (true≢false (sym closed ∙ ap (λ (l : Line). l.closed) is));
  unheld = λ none. ap (λ (l : Line). held_token l.phase) is;
  tokens = λ has. (has.0, let free = has.1 in let none : held_token s.line.phase ≡ 0 = ap (λ (l : Line). held_token l.phase) is in omega (arith, free, none));
}

-- ---- one deed more

pub raises_on : (r : Option LinkEnd) (first : Scene) (s : Session) (h : Heard) (c c2 : Option (List ℕ)) (k : Wire) (now : ℕ) → SoFar r first (scene s h c k) → Ticks_once now c c2 → SoFar r first (scene (raised now s) h c2 k)
raises_on r first s h c c2 k now f t = record {
  deeds = Raised now ∷ f.deeds;
  leads = (s, f.leads, refl);
  ticks = (c, f.ticks, t);
  heard = f.heard;
  told = f.told;
  reading = f.reading;
  marked = f.marked;
  real = f.real;
  reads = f.reads;
  stands = f.stands;
  writes = f.writes;
  cause = f.cause;
  later = f.later;
  config = f.config;
  emptied = f.emptied;
  ended = f.ended;
  unheld = f.unheld;
  tokens = f.tokens;
}

pub polls_on : (r : Option LinkEnd) (first : Scene) (s : Session) (h : Heard) (c c2 : Option (List ℕ)) (k : Wire) (now : ℕ) → SoFar r first (scene s h c k) → Ticks_once now c c2 → SoFar r first (scene s (polled now h) c2 k)
polls_on r first s h c c2 k now f t = record {
  deeds = Polled now ∷ f.deeds;
  leads = (s, f.leads, refl);
  ticks = (c, f.ticks, t);
  heard = ap (polled now) f.heard;
  told = f.told;
  reading = f.reading;
  marked = f.marked;
  real = f.real;
  reads = f.reads;
  stands = f.stands;
  writes = f.writes;
  cause = f.cause;
  later = f.later;
  config = f.config;
  emptied = f.emptied;
  ended = f.ended;
  unheld = f.unheld;
  tokens = f.tokens;
}

pub backs_on : (r : Option LinkEnd) (first : Scene) (s s2 : Session) (h : Heard) (c c2 : Option (List ℕ)) (k : Wire) (now : ℕ) (e : Event) → SoFar r first (scene s h c k) → Ticks_once now c c2 → Backs now e s s2 → SoFar r first (scene s2 h c2 k)
backs_on r first s s2 h c c2 k now e f t b =
    let same = backs_config (raised now s).daemon s2.daemon e b.backs in
    let line = b.line in
    record {
      deeds = Wrote now e ∷ f.deeds;
      leads = (s, f.leads, b);
      ticks = (c, f.ticks, t);
      heard = f.heard;
      told = f.told;
      reading = f.reading;
      marked = f.marked;
      real = f.real;
      reads = f.reads;
      stands = kept_map r (λ (x : Stands first.session.daemon.state.config.limit (read_by f.deeds) s.line). subst (λ (l : Line). Stands first.session.daemon.state.config.limit (read_by f.deeds) l) (sym line) x) f.stands;
      writes = f.writes;
      cause = f.cause;
      later = f.later;
      config = same.0 ∙ f.config;
      emptied = ap (λ (l : Line). l.out) line ∙ f.emptied;
      ended = subst (λ (l : Line). l.closed ≡ true → IfTold k.ahead (λ left. left ≡ [])) (sym line) f.ended;
      unheld = subst (λ (l : Line). l.waiting ≡ [] → held_token l.phase ≡ 0) (sym line) f.unheld;
      tokens = λ has. let x = f.tokens has in (
        subst (λ (z : DaemonFacts). 0 < z.tokens) (sym same.0) x.0,
        ap (λ (n : ℕ). n + held_token s2.line.phase) same.1 ∙ ap (λ (l : Line). s.daemon.free + held_token l.phase) line ∙ x.1 ∙ sym (ap (λ (z : DaemonFacts). z.tokens) same.0),
      );
    }

-- ---- one action of the first request, and what it is due

settles_unheld : (old new : Line) → (old.waiting ≡ [] → held_token old.phase ≡ 0) → Settles old new → new.waiting ≡ [] → held_token new.phase ≡ 0
settles_unheld old new un (inl (same, at, inl some)) none = absurd (let e = ap (λ (w : List Request). length w) (sym same ∙ none) in omega (arith, some, e))
settles_unheld old new un (inl (same, at, inr held)) none = held ∙ un (sym same ∙ none)
settles_unheld old new un (inr (gone, at, some, held)) none = held

-- the deeds, with a refusal behind them or none
abbrev marks : Bool → List Deed → List Deed
marks false t = t
marks true t = Refused ∷ t

-- what was done so far, with one action more
acted : (b : Bool) (r r2 : Option LinkEnd) (first : Scene) (s s2 : Session) (h : Heard) (c c2 : Option (List ℕ)) (k k2 : Wire) (now : ℕ) (e : Event) (kept : List ServerMessage)
    → (f : SoFar r first (scene s h c k)) → Ticks_once now c c2 → Acts now e s s2
    → IfKeptSoFar r2 (TellsAll (Did now e kept ∷ f.deeds)) → is_refused (marks b (Did now e kept ∷ f.deeds)) ≡ is_some r2 → IsRefusal r2
    → IfKeptSoFar r2 (Stands first.session.daemon.state.config.limit (read_by f.deeds) s2.line)
    → Told (WritesSoFar r2 (due_by (setup (config_of first.session.daemon.state.config)) (Did now e kept ∷ f.deeds))) first.link.written k2.written
    → k2.ahead ≡ k.ahead → CauseSoFar r2 first.link.faults k2.faults → first.link.faults ≤ k2.faults
    → SoFar r2 first (scene s2 (record h { messages = with_kept kept h.messages }) c2 k2)
acted false r r2 first s s2 h c c2 k k2 now e kept f t a told marked real stands writes ahead cause later =
    let y = acts_stay now e s s2 a in
    let line = a.emptied in
    record {
      deeds = Did now e kept ∷ f.deeds;
      leads = (s, f.leads, a);
      ticks = (c, f.ticks, t);
      heard = ap (λ (x : Heard). record x { messages = with_kept kept x.messages }) f.heard;
      told = told;
      reading = f.reading;
      marked = marked;
      real = real;
      reads = subst (λ (x : Option (List ℕ)). Told (λ before after. before ≡ read_by f.deeds ++ after) first.link.ahead x) (sym ahead) f.reads;
      stands = stands;
      writes = writes;
      cause = cause;
      later = later;
      config = y.config ∙ f.config;
      emptied = ap (λ (l : Line). l.out) line;
      ended = λ closed. subst (λ (x : Option (List ℕ)). IfTold x (λ left. left ≡ [])) (sym ahead) (f.ended (sym y.closed ∙ sym (ap (λ (l : Line). l.closed) line) ∙ closed));
      unheld = subst (λ (l : Line). l.waiting ≡ [] → held_token l.phase ≡ 0) (sym line) (settles_unheld s.line a.line f.unheld y.queue);
      tokens = λ has. subst (λ (l : Line). KeepsTokens s2.daemon l) (sym line) (y.tokens (f.tokens has));
    }
acted true r r2 first s s2 h c c2 k k2 now e kept f t a told marked real stands writes ahead cause later =
    let y = acts_stay now e s s2 a in
    let line = a.emptied in
    record {
      deeds = Refused ∷ Did now e kept ∷ f.deeds;
      leads = (s2, (s, f.leads, a), refl);
      ticks = (c, f.ticks, t);
      heard = ap (λ (x : Heard). record x { messages = with_kept kept x.messages }) f.heard;
      told = told;
      reading = f.reading;
      marked = marked;
      real = real;
      reads = subst (λ (x : Option (List ℕ)). Told (λ before after. before ≡ read_by f.deeds ++ after) first.link.ahead x) (sym ahead) f.reads;
      stands = stands;
      writes = writes;
      cause = cause;
      later = later;
      config = y.config ∙ f.config;
      emptied = ap (λ (l : Line). l.out) line;
      ended = λ closed. subst (λ (x : Option (List ℕ)). IfTold x (λ left. left ≡ [])) (sym ahead) (f.ended (sym y.closed ∙ sym (ap (λ (l : Line). l.closed) line) ∙ closed));
      unheld = subst (λ (l : Line). l.waiting ≡ [] → held_token l.phase ≡ 0) (sym line) (settles_unheld s.line a.line f.unheld y.queue);
      tokens = λ has. subst (λ (l : Line). KeepsTokens s2.daemon l) (sym line) (y.tokens (f.tokens has));
    }

-- the requests after it
acted_stands : (first : Scene) (now : ℕ) (e : Event) (s s2 : Session) (bytes : List ℕ) (limit : ℕ) → Acts now e s s2 → Stands limit bytes s.line → Stands limit bytes s2.line
acted_stands first now e s s2 bytes limit a x =
    let y = acts_stay now e s s2 a in
    let line = a.emptied in
    let n : Line = record a.line { out = [] } in
    subst (λ (l : Line). Stands limit bytes l) (sym line) (stands_on limit bytes s.line n x y.limit y.got y.rest y.queue refl)

-- what was sent by it
acted_out : (r : Option LinkEnd) (first : Scene) (s s2 : Session) (h : Heard) (c : Option (List ℕ)) (k : Wire) (now : ℕ) (e : Event) → SoFar r first (scene s h c k) → (a : Acts now e s s2)
    → a.line.out ≡ frame_bytes (setup (config_of first.session.daemon.state.config)) (sent_by e.what)
acted_out r first s s2 h c k now e f a =
    let y = acts_stay now e s s2 a in
    y.out ∙ ap (λ (v : List ℕ). v ++ frame_bytes (setup (config_of s.daemon.state.config)) (sent_by e.what)) f.emptied
    ∙ ap (λ (z : DaemonFacts). frame_bytes (setup (config_of z)) (sent_by e.what)) f.config

-- what is due behind it, by whether something was refused before
due_more : (b : Bool) (u : Setup) (t : List Deed) (now : ℕ) (e : Event) (kept : List ServerMessage) → is_refused t ≡ b → due_by u (Did now e kept ∷ t) ≡ (if b then due_by u t else due_by u t ++ frame_bytes u (sent_by e.what))
due_more b u t now e kept is = ap (λ (v : Bool). if v then due_by u t else due_by u t ++ frame_bytes u (sent_by e.what)) is

-- an action behind a refusal
acted_behind : (end : LinkEnd) (first : Scene) (s s2 : Session) (h : Heard) (c c2 : Option (List ℕ)) (k : Wire) (now : ℕ) (e : Event)
    → SoFar (Some end) first (scene s h c k) → Ticks_once now c c2 → Acts now e s s2 → SoFar (Some end) first (scene s2 (record h { messages = with_kept (told_by e.what) h.messages }) c2 k)
acted_behind end first s s2 h c c2 k now e f t a =
    let limit = first.session.daemon.state.config.limit in
    let u = setup (config_of first.session.daemon.state.config) in
    acted false (Some end) (Some end) first s s2 h c c2 k k now e (told_by e.what) f t a
    (kept_map (Some end) (λ (x : TellsAll f.deeds). (refl, x)) f.told) f.marked f.real
    (kept_map (Some end) (λ (x : Stands limit (read_by f.deeds) s.line). acted_stands first now e s s2 (read_by f.deeds) limit a x) f.stands)
    (subst (λ (d : List ℕ). Told (WritesSoFar (Some end) d) first.link.written k.written) (sym (due_more true u f.deeds now e (told_by e.what) f.marked)) f.writes)
    refl f.cause f.later

-- an action whose message was not kept
acted_lost : (r : Option LinkEnd) (first : Scene) (s s2 : Session) (h : Heard) (c c2 : Option (List ℕ)) (k : Wire) (now : ℕ) (e : Event) (kept : List ServerMessage)
    → SoFar r first (scene s h c k) → Ticks_once now c c2 → Acts now e s s2 → SoFar (Some ends.NoMemory) first (scene s2 (record h { messages = with_kept kept h.messages }) c2 k)
acted_lost r first s s2 h c c2 k now e kept f t a =
    acted true r (Some ends.NoMemory) first s s2 h c c2 k k now e kept f t a tt refl refl tt (lost_writes r f.marked f.writes) refl tt f.later
  where
    lost_writes : (q : Option LinkEnd) → is_refused f.deeds ≡ is_some q → Told (WritesSoFar q (due_by (setup (config_of first.session.daemon.state.config)) f.deeds)) first.link.written k.written → Told (WritesSome (due_by (setup (config_of first.session.daemon.state.config)) (Did now e kept ∷ f.deeds))) first.link.written k.written
    lost_writes None is w = subst (λ (d : List ℕ). Told (WritesSome d) first.link.written k.written) (sym (due_more false (setup (config_of first.session.daemon.state.config)) f.deeds now e kept is))
        (told_weaker (WritesAll (due_by (setup (config_of first.session.daemon.state.config)) f.deeds)) (WritesSome (due_by (setup (config_of first.session.daemon.state.config)) f.deeds ++ frame_bytes (setup (config_of first.session.daemon.state.config)) (sent_by e.what))) (λ x y. some_of_all (due_by (setup (config_of first.session.daemon.state.config)) f.deeds) (frame_bytes (setup (config_of first.session.daemon.state.config)) (sent_by e.what)) x y) first.link.written k.written w)
    lost_writes (Some end) is w = subst (λ (d : List ℕ). Told (WritesSome d) first.link.written k.written) (sym (due_more true (setup (config_of first.session.daemon.state.config)) f.deeds now e kept is))
        (told_weaker (Writes end (due_by (setup (config_of first.session.daemon.state.config)) f.deeds)) (WritesSome (due_by (setup (config_of first.session.daemon.state.config)) f.deeds)) (λ x y. some_of end (due_by (setup (config_of first.session.daemon.state.config)) f.deeds) x y) first.link.written k.written w)

-- an action that was told, and whose answer was written or refused
acted_sent : (r2 : Option LinkEnd) (first : Scene) (s s2 : Session) (h : Heard) (c c2 : Option (List ℕ)) (k k2 : Wire) (now : ℕ) (e : Event)
    → (f : SoFar None first (scene s h c k)) → Ticks_once now c c2 → (a : Acts now e s s2) → Sends None r2 a.line.out k k2 → SoFar r2 first (scene s2 (record h { messages = with_kept (told_by e.what) h.messages }) c2 k2)
acted_sent r2 first s s2 h c c2 k k2 now e f t a sends = by_cases r2 (subst (λ (v : List ℕ). Sends None r2 v k k2) (acted_out None first s s2 h c k now e f a) sends)
  where
    now_due : due_by (setup (config_of first.session.daemon.state.config)) (Did now e (told_by e.what) ∷ f.deeds) ≡ (due_by (setup (config_of first.session.daemon.state.config)) f.deeds) ++ (frame_bytes (setup (config_of first.session.daemon.state.config)) (sent_by e.what))
    now_due = due_more false (setup (config_of first.session.daemon.state.config)) f.deeds now e (told_by e.what) f.marked

    stands : Stands first.session.daemon.state.config.limit (read_by f.deeds) s2.line
    stands = acted_stands first now e s s2 (read_by f.deeds) first.session.daemon.state.config.limit a f.stands

    by_cases : (q : Option LinkEnd) → Sends None q (frame_bytes (setup (config_of first.session.daemon.state.config)) (sent_by e.what)) k k2 → SoFar q first (scene s2 (record h { messages = with_kept (told_by e.what) h.messages }) c2 k2)
    by_cases None (wrote, ahead, faults) =
        acted false None None first s s2 h c c2 k k2 now e (told_by e.what) f t a (refl, f.told) f.marked tt stands
        (subst (λ (d : List ℕ). Told (WritesAll d) first.link.written k2.written) (sym now_due)
        (told_then (WritesAll (due_by (setup (config_of first.session.daemon.state.config)) f.deeds)) (WritesAll (frame_bytes (setup (config_of first.session.daemon.state.config)) (sent_by e.what))) (WritesAll ((due_by (setup (config_of first.session.daemon.state.config)) f.deeds) ++ (frame_bytes (setup (config_of first.session.daemon.state.config)) (sent_by e.what)))) (λ x y z. all_more (due_by (setup (config_of first.session.daemon.state.config)) f.deeds) (frame_bytes (setup (config_of first.session.daemon.state.config)) (sent_by e.what)) x y z) first.link.written k.written k2.written f.writes wrote))
        ahead (faults ∙ f.cause) (let l = f.later in omega (arith, l, faults))
    by_cases (Some ends.WriteFault) (wrote, ahead, rose, more) =
        acted true None (Some ends.WriteFault) first s s2 h c c2 k k2 now e (told_by e.what) f t a (refl, f.told) refl refl stands
        (subst (λ (d : List ℕ). Told (WritesFront d) first.link.written k2.written) (sym now_due)
        (told_then (WritesAll (due_by (setup (config_of first.session.daemon.state.config)) f.deeds)) (WritesFront (frame_bytes (setup (config_of first.session.daemon.state.config)) (sent_by e.what))) (WritesFront ((due_by (setup (config_of first.session.daemon.state.config)) f.deeds) ++ (frame_bytes (setup (config_of first.session.daemon.state.config)) (sent_by e.what)))) (λ x y z. front_more (due_by (setup (config_of first.session.daemon.state.config)) f.deeds) (frame_bytes (setup (config_of first.session.daemon.state.config)) (sent_by e.what)) x y z) first.link.written k.written k2.written f.writes wrote))
        ahead (subst (λ (n : ℕ). Rose n k2.faults) f.cause rose) (let l = f.later in omega (arith, l, more))
    by_cases (Some ends.NoMemory) (wrote, ahead, faults) =
        acted true None (Some ends.NoMemory) first s s2 h c c2 k k2 now e (told_by e.what) f t a tt refl refl tt
        (subst (λ (d : List ℕ). Told (WritesSome d) first.link.written k2.written) (sym now_due)
        (told_then (WritesAll (due_by (setup (config_of first.session.daemon.state.config)) f.deeds)) (WritesFront (frame_bytes (setup (config_of first.session.daemon.state.config)) (sent_by e.what))) (WritesSome ((due_by (setup (config_of first.session.daemon.state.config)) f.deeds) ++ (frame_bytes (setup (config_of first.session.daemon.state.config)) (sent_by e.what)))) (λ x y z p q. some_more (due_by (setup (config_of first.session.daemon.state.config)) f.deeds) (frame_bytes (setup (config_of first.session.daemon.state.config)) (sent_by e.what)) x y z p q.0) first.link.written k.written k2.written f.writes wrote))
        ahead tt (let l = f.later in omega (arith, l, faults))
    by_cases (Some ends.ReadFault) sent = absurd sent
    by_cases (Some ends.Stopped) sent = absurd sent
    by_cases (Some (ends.Over end)) sent = absurd sent

-- one turn of answering: r is what was refused before it, r1 after its messages, r2 after its answer
pub turns_on : (r r1 r2 : Option LinkEnd) (first : Scene) (s s2 : Session) (h : Heard) (c c2 : Option (List ℕ)) (k k2 : Wire) (now : ℕ) (e : Event) (kept : List ServerMessage)
    → SoFar r first (scene s h c k) → Ticks_once now c c2 → (a : Acts now e s s2) → ((kept ≡ told_by e.what) × (r1 ≡ r)) ⊎ (r1 ≡ Some ends.NoMemory) → Sends r1 r2 a.line.out k k2
    → SoFar r2 first (scene s2 (record h { messages = with_kept kept h.messages }) c2 k2)
turns_on r r1 r2 first s s2 h c c2 k k2 now e kept f t a (inl (told, same)) sends =
    subst (λ (m : List ServerMessage). SoFar r2 first (scene s2 (record h { messages = with_kept m h.messages }) c2 k2)) (sym told)
    (by_cases r f (subst (λ (q : Option LinkEnd). Sends q r2 a.line.out k k2) same sends))
  where
    by_cases : (q : Option LinkEnd) → SoFar q first (scene s h c k) → Sends q r2 a.line.out k k2 → SoFar r2 first (scene s2 (record h { messages = with_kept (told_by e.what) h.messages }) c2 k2)
    by_cases None g sent = acted_sent r2 first s s2 h c c2 k k2 now e g t a sent
    by_cases (Some end) g (left, stay) =
        subst (λ (q : Option LinkEnd). SoFar q first (scene s2 (record h { messages = with_kept (told_by e.what) h.messages }) c2 k2)) (sym left)
        (subst (λ (w : Wire). SoFar (Some end) first (scene s2 (record h { messages = with_kept (told_by e.what) h.messages }) c2 w)) (sym stay) (acted_behind end first s s2 h c c2 k now e g t a))
turns_on r r1 r2 first s s2 h c c2 k k2 now e kept f t a (inr lost) sends =
    let sent : Sends (Some ends.NoMemory) r2 a.line.out k k2 = subst (λ (q : Option LinkEnd). Sends q r2 a.line.out k k2) lost sends in
    subst (λ (q : Option LinkEnd). SoFar q first (scene s2 (record h { messages = with_kept kept h.messages }) c2 k2)) (sym sent.0)
    (subst (λ (w : Wire). SoFar (Some ends.NoMemory) first (scene s2 (record h { messages = with_kept kept h.messages }) c2 w)) (sym sent.1) (acted_lost r first s s2 h c c2 k now e kept f t a))

-- nothing is written where nothing is due
pub sends_nothing : (r : Option LinkEnd) (k : Wire) → Sends r r [] k k
sends_nothing None k = (told_same (WritesAll []) (λ x. sym (append-nil x)) k.written, refl, refl)
sends_nothing (Some end) k = (refl, refl)

-- nothing was due: the daemon and its connection are the same, and idle
pub idle_serves : (now : ℕ) (e : Event) (s s2 : Session) → ServesEvent 0 e (raised now s).daemon s2.daemon s.line s2.line → e.owner ≡ Nobody → IsIdleLine s.daemon.free s.line × (s2.daemon ≡ (raised now s).daemon) × (s2.line ≡ s.line)
idle_serves now e s s2 serves is = by_cases e.what (subst (λ (o : Owner). ServesWhat 0 o e.what (raised now s).daemon s2.daemon s.line s2.line) is serves.serves)
  where
    by_cases : (x : What) → ServesWhat 0 Nobody x (raised now s).daemon s2.daemon s.line s2.line → IsIdleLine s.daemon.free s.line × (s2.daemon ≡ (raised now s).daemon) × (s2.line ≡ s.line)
    by_cases Idle (idle, kept, stays) = (idle, kept, stays)
    by_cases _ none = absurd none

pub idle_left : (now : ℕ) (e : Event) (s s2 : Session) → ServesEvent 0 e (raised now s).daemon s2.daemon s.line s2.line → e.owner ≡ Nobody → IsIdleLine s2.daemon.free s2.line
idle_left now e s s2 serves is =
    let x = idle_serves now e s s2 serves is in
    subst (λ (d : Kept). IsIdleLine d.free s2.line) (sym x.1) (subst (λ (l : Line). IsIdleLine s.daemon.free l) (sym x.2) x.0)

pub idle_acts : (now : ℕ) (e : Event) (s s2 : Session) → ServesEvent 0 e (raised now s).daemon s2.daemon s.line s2.line → e.owner ≡ Nobody → s.line.out ≡ [] → s.lost ≡ false → s2.lost ≡ false → Acts now e s s2
idle_acts now e s s2 serves is none before after = record {
  line = s2.line;
  serves = serves;
  emptied = ap (λ (v : List ℕ). record s2.line { out = v }) (ap (λ (l : Line). l.out) (idle_serves now e s s2 serves is).2 ∙ none);
  before = before;
  after = after;
}

-- no handed write is left
pub no_write : (now : ℕ) (e : Event) (s s2 : Session) → BacksEvent 0 e (raised now s).daemon s2.daemon → e.owner ≡ Nobody → s2.daemon.background ≡ []
no_write now e s s2 (inl (past, idle, same)) is = ap (λ (d : Kept). d.background) same ∙ none s.daemon.background past
  where
    none : (ws : List Pile) → length ws ≤ 0 → ws ≡ []
    none [] few = refl
    none (w ∷ ws) few = absurd (omega (arith, few))
no_write now e s s2 (inr (w, at, backs)) is = absurd (owned (sym is ∙ backs.owner))
  where
    owned : {n : ℕ} → Nobody ≡ OfWrite n → ⊥
    owned same = (cc)

-- ---- as the code does it

served_raised : (now : ℕ) (e : Event) (s s1 s2 : Session) → s1 ≡ raised now s → ServesEvent 0 e s1.daemon s2.daemon s1.line s2.line → ServesEvent 0 e (raised now s).daemon s2.daemon s.line s2.line
served_raised now e s s1 s2 is serves = subst (λ (x : Session). ServesEvent 0 e x.daemon s2.daemon x.line s2.line) is serves

-- an action was done, its message kept or not, and its answer written or not
pub answers_on : (r r1 r2 : Option LinkEnd) (first : Scene) (s s1 s2 s3 : Session) (m m2 : Messages) (w : ShutdownOrInactive) (c c2 : Option (List ℕ)) (k k2 : Wire) (now : ℕ) (e : Event)
    → SoFar r first (scene s (record { messages = m; wait = w; is_polled = false }) c k) → s1 ≡ raised now s → Ticks_once now c c2 → ServesEvent 0 e s1.daemon s2.daemon s1.line s2.line → (s1.lost ≡ false) × (s2.lost ≡ false)
    → (kept : List ServerMessage) × (m2 ≡ with_kept kept m) × (((kept ≡ told_by e.what) × (r1 ≡ r)) ⊎ (r1 ≡ Some ends.NoMemory)) → Sends r1 r2 s2.line.out k k2 → s3 ≡ record s2 { line = record s2.line { out = [] } }
    → SoFar r2 first (scene s3 (record { messages = m2; wait = w; is_polled = false }) c2 k2)
answers_on r r1 r2 first s s1 s2 s3 m m2 w c c2 k k2 now e f raise t serves (before, after) (kept, is, told) sends taken =
    let d : s3.daemon ≡ s2.daemon = ap (λ (x : Session). x.daemon) taken in
    let a : Acts now e s s3 = record {
      line = s2.line;
      serves = subst (λ (k : Kept). ServesEvent 0 e (raised now s).daemon k s.line s2.line) (sym d) (served_raised now e s s1 s2 raise serves);
      emptied = ap (λ (x : Session). x.line) taken;
      before = sym (ap (λ (x : Session). x.lost) raise) ∙ before;
      after = ap (λ (x : Session). x.lost) taken ∙ after;
    } in
    subst (λ (n : Messages). SoFar r2 first (scene s3 (record { messages = n; wait = w; is_polled = false }) c2 k2)) (sym is)
    (turns_on r r1 r2 first s s3 (record { messages = m; wait = w; is_polled = false }) c c2 k k2 now e kept f t a told sends)

-- nothing was due
pub answers_none : (r r1 : Option LinkEnd) (first : Scene) (s s1 s2 : Session) (m m2 : Messages) (w : ShutdownOrInactive) (c c2 : Option (List ℕ)) (k : Wire) (now : ℕ) (e : Event)
    → SoFar r first (scene s (record { messages = m; wait = w; is_polled = false }) c k) → s1 ≡ raised now s → Ticks_once now c c2 → ServesEvent 0 e s1.daemon s2.daemon s1.line s2.line → (s1.lost ≡ false) × (s2.lost ≡ false)
    → (kept : List ServerMessage) × (m2 ≡ with_kept kept m) × (((kept ≡ told_by e.what) × (r1 ≡ r)) ⊎ (r1 ≡ Some ends.NoMemory)) → e.owner ≡ Nobody
    → SoFar r1 first (scene s2 (record { messages = m2; wait = w; is_polled = false }) c2 k)
unfolding idle_acts
answers_none r r1 first s s1 s2 m m2 w c c2 k now e f raise t serves (before, after) (kept, is, told) owner =
    let there = served_raised now e s s1 s2 raise serves in
    let lost : s.lost ≡ false = sym (ap (λ (x : Session). x.lost) raise) ∙ before in
    let out : s2.line.out ≡ [] = ap (λ (l : Line). l.out) (idle_serves now e s s2 there owner).2 ∙ f.emptied in
    subst (λ (n : Messages). SoFar r1 first (scene s2 (record { messages = n; wait = w; is_polled = false }) c2 k)) (sym is)
    (turns_on r r1 r1 first s s2 (record { messages = m; wait = w; is_polled = false }) c c2 k k now e kept f t (idle_acts now e s s2 there owner f.emptied lost after) told
    (subst (λ (v : List ℕ). Sends r1 r1 v k k) (sym out) (sends_nothing r1 k)))

pub answered_idle : (now : ℕ) (e : Event) (s s1 s2 : Session) → s1 ≡ raised now s → ServesEvent 0 e s1.daemon s2.daemon s1.line s2.line → e.owner ≡ Nobody → IsIdleLine s2.daemon.free s2.line
answered_idle now e s s1 s2 raise serves owner = idle_left now e s s2 (served_raised now e s s1 s2 raise serves) owner

backed_raised : (now : ℕ) (e : Event) (s s1 s2 : Session) → s1 ≡ raised now s → BacksEvent 0 e s1.daemon s2.daemon → BacksEvent 0 e (raised now s).daemon s2.daemon
backed_raised now e s s1 s2 is backs = subst (λ (x : Session). BacksEvent 0 e x.daemon s2.daemon) is backs

-- a handed write went on, where there was one
pub writes_on : (r : Option LinkEnd) (first : Scene) (s s1 s2 : Session) (h : Heard) (c c2 : Option (List ℕ)) (k : Wire) (now : ℕ) (e : Event)
    → SoFar r first (scene s h c k) → s1 ≡ raised now s → Ticks_once now c c2 → BacksEvent 0 e s1.daemon s2.daemon → s2.line ≡ s1.line → (s1.lost ≡ false) × (s2.lost ≡ false) → SoFar r first (scene s2 h c2 k)
writes_on r first s s1 s2 h c c2 k now e f raise t backs line (before, after) =
    let b : Backs now e s s2 = record {
      backs = backed_raised now e s s1 s2 raise backs;
      line = line ∙ ap (λ (x : Session). x.line) raise;
      before = sym (ap (λ (x : Session). x.lost) raise) ∙ before;
      after = after;
    } in
    backs_on r first s s2 h c c2 k now e f t b

pub writes_done : (now : ℕ) (e : Event) (s s1 s2 : Session) → s1 ≡ raised now s → BacksEvent 0 e s1.daemon s2.daemon → e.owner ≡ Nobody → s2.daemon.background ≡ []
writes_done now e s s1 s2 raise backs owner = no_write now e s s2 (backed_raised now e s s1 s2 raise backs) owner

-- the messages were polled
pub polled_is : (now : ℕ) (m m2 : Messages) (w w2 : ShutdownOrInactive) (before : Bool) → m2 ≡ record m { standing = [] } → w2.idle_time ≡ w.idle_time → w2.active_at ≡ (if has_request m.standing then now else w.active_at)
    → w2.cause ≡ option_or w.cause (cause_of (has_shutdown m.standing) m.is_closed (has_passed w.idle_time w2.active_at now))
    → polled now (record { messages = m; wait = w; is_polled = before }) ≡ record { messages = m2; wait = w2; is_polled = true }
polled_is now m m2 w w2 before taken idle active caused =
    let cause = caused ∙ ap (λ (n : ℕ). option_or w.cause (cause_of (has_shutdown m.standing) m.is_closed (has_passed w.idle_time n now))) active in
    sym (λ i. record { messages = taken i; wait = record { idle_time = idle i; active_at = active i; cause = cause i }; is_polled = true })

pub poll_on : (r : Option LinkEnd) (first : Scene) (s : Session) (m m2 : Messages) (w w2 : ShutdownOrInactive) (c c2 : Option (List ℕ)) (k : Wire) (now : ℕ)
    → SoFar r first (scene s (record { messages = m; wait = w; is_polled = false }) c k) → Ticks_once now c c2 → m2 ≡ record m { standing = [] } → w2.idle_time ≡ w.idle_time → w2.active_at ≡ (if has_request m.standing then now else w.active_at)
    → w2.cause ≡ option_or w.cause (cause_of (has_shutdown m.standing) m.is_closed (has_passed w.idle_time w2.active_at now))
    → SoFar r first (scene s (record { messages = m2; wait = w2; is_polled = true }) c2 k)
poll_on r first s m m2 w w2 c c2 k now f t taken idle active caused =
    subst (λ (h : Heard). SoFar r first (scene s h c2 k)) (polled_is now m m2 w w2 false taken idle active caused) (polls_on r first s (record { messages = m; wait = w; is_polled = false }) c c2 k now f t)

-- a link's serving begins
pub raised_first : (s s1 : Session) (h : Heard) (c c2 : Option (List ℕ)) (k : Wire) (now : ℕ) → s.line ≡ new_line s.daemon.state.config.limit → s1 ≡ raised now s → Ticks_once now c c2 → SoFar None (scene s h c k) (scene s1 h c2 k)
raised_first s s1 h c c2 k now is raise t =
    subst (λ (x : Session). SoFar None (scene s h c k) (scene x h c2 k)) (sym raise) (raises_on None (scene s h c k) s h c c2 k now (starts s h c k is) t)

pub first_idle : (s s1 : Session) (now : ℕ) → s.line ≡ new_line s.daemon.state.config.limit → s1 ≡ raised now s → IsIdleLine s1.daemon.free s1.line
first_idle s s1 now is raise = inl (inl (ap (λ (x : Session). length x.line.waiting) raise ∙ ap (λ (l : Line). length l.waiting) is))
