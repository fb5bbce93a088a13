-- A whole drive is a run of the machine.
use Rattle.std.proofs.Common.{◌≡◌, ℕ, zero, suc, ◌+◌, ◌<◌, true, List, [], ◌∷◌, Some, None, ◌++◌, length, map, drop, reverse, get_or, refl, sym, ap, ◌∙◌, subst, append_assoc, add-one, Result, Ok, Err}
use Rattle.std.specs.Prelude.{IfOk}
use Rattle.std.proofs.Math.Seq.{drop-cons}
use Rattle.std.proofs.lemmas.List.{append-nil, length-map, reverse-append}
use Rattle.sc_wire_conn.specs.Ends.{end_of}
use Rattle.sc_daemon.specs.Backlogs.{AreNumbered, ArePending, Write, pending_of}
use Rattle.sc_daemon.specs.Daemons.{IsIdleDaemon, Kept, anew, machine_of, script_of}
use Rattle.sc_daemon.specs.Drives.{AreAt, IsScriptOf, Progress, StepsOn, Tied, TiesWrites, line_end, lines_of, result_of}
use Rattle.sc_daemon.specs.Lines.{Line, conn_of, line_hand, new_line}
use Rattle.sc_daemon.specs.Ties.{Owners, TiesHand}
use Rattle.sc_daemon.specs.declared.driven.Driven.{Driven}
use Rattle.sc_daemon_hold.specs.Holding.{Rooms}
use Rattle.sc_daemon_job.specs.Setups.{Config, setup}
use Rattle.sc_model.proofs.Streams.{reads_on}
use Rattle.sc_model.specs.Headline.{Headline, Result_of_run}
use Rattle.sc_model.specs.Conns.{Conn, new_conn}
use Rattle.sc_model.specs.Machine.{IsIdle, Machine, Runs, end_at, result_of_run, shown_levels}
use Rattle.sc_model.specs.Script.{End, Script}
use Rattle.sc_model.specs.Trace.{Open, if_too_long, reservations, reserved_at, reserved_by}
use Rattle.sc_model.specs.declared.event.Event.{Event}
use Rattle.sc_model.specs.declared.event.Owner.TheVariants.{Request as OfRequest}
use Rattle.sc_model.specs.declared.event.Step.{Step}
use Rattle.sc_model.specs.declared.level.Handed.{Handed}
use Rattle.sc_model.specs.declared.phase.Pending.{Pending}
use Rattle.sc_daemon_owned.specs.Laws.{one_level}
use Rattle.sc_daemon_owned.specs.State.{disk_at, reserved_in}
use Rattle.sc_wire.specs.Requests.{read_request}
use Rattle.sc_wire.specs.Streams.{request_reader}
use Rattle.sc_daemon_owned.specs.Facts.{DaemonFacts, config_of}

new_conns : (limit n c : ℕ) → get_or (map conn_of (lines_of limit n)) c new_conn ≡ new_conn
new_conns limit zero c = refl
new_conns limit (suc n) zero = refl
new_conns limit (suc n) (suc c) = new_conns limit n c

count_of : (limit n : ℕ) → length (lines_of limit n) ≡ n
count_of limit zero = refl
count_of limit (suc n) = ap suc (count_of limit n)

at_first : (k : Config) (d : Rooms) (n : ℕ) → AreAt k d (lines_of k.limit n)
at_first k d zero c = (refl, (refl, refl))
at_first k d (suc n) zero = (refl, (refl, refl))
at_first k d (suc n) (suc c) = at_first k d n c

no_hand : (limit n c : ℕ) → line_hand (get_or (lines_of limit n) c (new_line limit)) ≡ None
no_hand limit zero c = refl
no_hand limit (suc n) zero = refl
no_hand limit (suc n) (suc c) = no_hand limit n c

no_owner : Owners
no_owner l number = None

-- a drive begins with an idle machine
pub is_idle : (d : Kept) (inputs : List (List ℕ)) → IsIdleDaemon d → d.handed ≡ 0 → IsIdle (script_of d inputs) (machine_of d (lines_of d.state.config.limit (length inputs)) [])
is_idle d inputs idle first = record {
  reads_on = reads_on d.state.config.limit read_request;
  conns = λ c. new_conns d.state.config.limit (length inputs) c;
  same_count = length-map (lines_of d.state.config.limit (length inputs)) conn_of ∙ count_of d.state.config.limit (length inputs);
  free = idle.free;
  stats = refl;
  level_stats = refl;
  level_count = idle.levels;
  one_level = λ single. one_level d.state single;
  background = ap (λ (ws : List Write). map pending_of ws) idle.background;
  handed = first;
  reserved = refl;
}

pub idle_anew : (d : Kept) → IsIdleDaemon d → IsIdleDaemon (anew d)
idle_anew d idle = record { free = idle.free; levels = idle.levels; background = idle.background; reserved = idle.reserved }

-- nothing is held before the first step
pub tied_first : (d : Kept) (n : ℕ) → IsIdleDaemon d → Tied d (lines_of d.state.config.limit n) []
tied_first d n idle = record {
  at = at_first (config_of d.state.config) (disk_at d.state) n;
  pending = subst (ArePending (config_of d.state.config) (Some (disk_at d.state))) (sym idle.background) tt;
  numbers = subst (AreNumbered 0 d.handed) (sym idle.background) tt;
  owns = no_owner;
  reserved = λ l. sym (idle.reserved l);
  lines = λ c. subst (TiesHand no_owner [] (disk_at d.state) (OfRequest c (get_or (lines_of d.state.config.limit n) c (new_line d.state.config.limit)).at)) (sym (no_hand d.state.config.limit n c)) tt;
  writes = subst (TiesWrites no_owner [] (disk_at d.state)) (sym idle.background) tt;
}

pub begins : (d : Kept) (inputs : List (List ℕ)) (steps : List Step) (events : List Event) (lines : List Line) → IsIdleDaemon d → d.state.told ≡ true → events ≡ [] → lines ≡ lines_of d.state.config.limit (length inputs) → Progress d d inputs steps steps events lines
begins d inputs steps events lines idle told no_events first =
    subst (λ (ls : List Line). Progress d d inputs steps steps events ls) (sym first)
    (subst (λ (es : List Event). Progress d d inputs steps steps es (lines_of d.state.config.limit (length inputs))) (sym no_events)
    record {
      done = [];
      split = refl;
      opens = [];
      listed = refl;
      runs = refl;
      config = refl;
      told = told;
      count = count_of d.state.config.limit (length inputs);
      tied = tied_first d (length inputs) idle;
    })

-- one step more
pub goes_on : (d0 d d2 : Kept) (inputs : List (List ℕ)) (steps rest : List Step) (p : Step) (events events2 : List Event) (lines lines2 : List Line) → Progress d0 d inputs steps (p ∷ rest) events lines
    → StepsOn (config_of d.state.config) inputs p events events2 d d2 lines lines2 → Progress d0 d2 inputs steps rest events2 lines2
goes_on d0 d d2 inputs steps rest p events events2 lines lines2 before on =
    let s = script_of d0 inputs in
    let of : IsScriptOf s (config_of d.state.config) inputs = record { of_setup = ap (λ (f : DaemonFacts). setup (config_of f)) (sym before.config); of_reader = ap (λ (f : DaemonFacts). request_reader f.limit) (sym before.config); of_inputs = refl } in
    let step = on.steps s before.opens of before.tied in
    let m0 = machine_of d0 (lines_of d0.state.config.limit (length inputs)) [] in
    let opens2 = reserved_by on.event.owner on.event.what before.opens in
    record {
      done = before.done ++ p ∷ [];
      split = append_assoc before.done (p ∷ []) rest ∙ before.split;
      opens = opens2;
      listed = ap (λ (os : List Open). reserved_by on.event.owner on.event.what os) before.listed
          ∙ ap (λ (t : List Event). reservations t) (sym (ap (λ (es : List Event). reverse es) on.grown ∙ reverse-append events (on.event ∷ [])));
      runs = subst (λ (ps : List Step). Runs s m0 ps (reverse events2) (machine_of d2 lines2 opens2)) (sym (reverse-append before.done (p ∷ [])))
          (subst (λ (es : List Event). Runs s m0 (p ∷ reverse before.done) (reverse es) (machine_of d2 lines2 opens2)) (sym on.grown)
          (subst (λ (t : List Event). Runs s m0 (p ∷ reverse before.done) t (machine_of d2 lines2 opens2)) (sym (reverse-append events (on.event ∷ [])))
          (machine_of d lines before.opens, before.runs, step.does)));
      config = step.config ∙ before.config;
      told = step.told ∙ before.told;
      count = step.count ∙ before.count;
      tied = step.tied;
    }

sent_lines : (lines : List Line) → map (λ (k : Conn). k.out) (map conn_of lines) ≡ map (λ (l : Line). l.out) lines
sent_lines [] = refl
sent_lines (l ∷ lines) = ap (λ (o : List (List ℕ)). l.out ∷ o) (sent_lines lines)

end_line : (s : Script) (limit : ℕ) (l : Line) → s.reader ≡ request_reader limit → l.limit ≡ limit → end_at s (conn_of l) ≡ line_end l
end_line s limit l reads same =
    ap (λ r. if_too_long l.long (r.ends l.rest l.closed)) reads ∙ ap (λ (n : ℕ). if_too_long l.long ((request_reader n).ends l.rest l.closed)) (sym same)

end_lines : (s : Script) (k : Config) (d : Rooms) (lines : List Line) → s.reader ≡ request_reader k.limit → AreAt k d lines → map (end_at s) (map conn_of lines) ≡ map line_end lines
end_lines s k d [] reads at = refl
end_lines s k d (l ∷ lines) reads at =
    ap (λ (e : End). e ∷ map (end_at s) (map conn_of lines)) (end_line s k.limit l reads ((at 0).0)) ∙ ap (λ (es : List End). line_end l ∷ es) (end_lines s k d lines reads (λ c. at (suc c)))

all_handed : (ws : List Write) → map (λ (p : Pending). p.handed) (map pending_of ws) ≡ map (λ (w : Write). w.pending.handed) ws
all_handed [] = refl
all_handed (w ∷ ws) = ap (λ (hs : List Handed). w.pending.handed ∷ hs) (all_handed ws)

-- the headline holds of what a drive came to
pub headline : ((s : Script) (m0 : Machine) (steps : List Step) (t : List Event) (m : Machine) → IsIdle s m0 → Runs s m0 steps t m → Headline s m0.world steps t m.world (result_of_run s m))
    → (d0 d : Kept) (inputs : List (List ℕ)) (steps left : List Step) (events : List Event) (lines : List Line) (driven : Driven)
    → IsIdleDaemon d0 → d0.handed ≡ 0 → Progress d0 d inputs steps left events lines → left ≡ [] → driven.trace ≡ events
    → map (λ c. end_of c.end) driven.conns ≡ map line_end lines → map (λ c. c.sent) driven.conns ≡ map (λ (l : Line). l.out) lines → driven.background ≡ map (λ (w : Write). w.pending.handed) d.background
    → Headline (script_of d0 inputs) d0.state.world (reverse steps) (reverse driven.trace) d.state.world (result_of d driven)
headline every d0 d inputs steps left events lines driven idle first progress none trace ends sent back =
    let s = script_of d0 inputs in
    let m = machine_of d lines progress.opens in
    let all : progress.done ≡ steps = sym (append-nil progress.done) ∙ ap (λ (l : List Step). progress.done ++ l) (sym none) ∙ progress.split in
    let reads : s.reader ≡ request_reader d.state.config.limit = ap (λ (f : DaemonFacts). request_reader f.limit) (sym progress.config) in
    let same : result_of_run s m ≡ result_of d driven =
    (λ i. record {
      stats = d.stats;
      level_stats = ap (λ (f : DaemonFacts). shown_levels f.policy d.levels) (sym progress.config) i;
      background = (all_handed d.background ∙ sym back) i;
      free = d.free;
      ends = (end_lines s (config_of d.state.config) (disk_at d.state) lines reads progress.tied.at ∙ sym ends) i;
      out = (sent_lines lines ∙ sym sent) i;
    }) in
    subst (λ (r : Result_of_run). Headline s d0.state.world (reverse steps) (reverse driven.trace) d.state.world r) same
    (subst (λ (ps : List Step). Headline s d0.state.world (reverse ps) (reverse driven.trace) d.state.world (result_of_run s m)) all
    (subst (λ (es : List Event). Headline s d0.state.world (reverse progress.done) (reverse es) d.state.world (result_of_run s m)) (sym trace)
    (every s (machine_of d0 (lines_of d0.state.config.limit (length inputs)) []) (reverse progress.done) (reverse events) m (is_idle d0 inputs idle first) progress.runs)))

-- what is reserved at a level is what the trace says
pub reserved-told : (d0 d : Kept) (inputs : List (List ℕ)) (steps left : List Step) (events : List Event) (lines : List Line) (driven : Driven) → Progress d0 d inputs steps left events lines → driven.trace ≡ events
    → (l : ℕ) → reserved_in d.state l ≡ reserved_at l (reservations (reverse driven.trace))
reserved-told d0 d inputs steps left events lines driven progress trace l =
    sym (progress.tied.reserved l) ∙ ap (λ (os : List Open). reserved_at l os) (progress.listed ∙ ap (λ (es : List Event). reservations (reverse es)) (sym trace))

-- the step of that number is the first of those that are left
pub next_step : (steps : List Step) (i : ℕ) (p : Step) → i < length steps → drop i steps ≡ get_or steps i p ∷ drop (i + 1) steps
next_step steps i p lt = drop-cons steps i p lt ∙ ap (λ (n : ℕ). get_or steps i p ∷ drop n steps) (sym (add-one i))

pub goes_by : (d0 d d2 : Kept) (inputs : List (List ℕ)) (steps left rest : List Step) (p : Step) (events events2 : List Event) (lines lines2 : List Line) → left ≡ p ∷ rest → Progress d0 d inputs steps left events lines
    → StepsOn (config_of d.state.config) inputs p events events2 d d2 lines lines2 → Progress d0 d2 inputs steps rest events2 lines2
goes_by d0 d d2 inputs steps left rest p events events2 lines lines2 is_left before on =
    goes_on d0 d d2 inputs steps rest p events events2 lines lines2 (subst (λ (l : List Step). Progress d0 d inputs steps l events lines) is_left before) on

pub if_four : {A E : Type 0} {P Q R S U : A → Type 0} (r : Result A E) → IfOk r P → IfOk r Q → IfOk r R → IfOk r S → ((a : A) → P a → Q a → R a → S a → U a) → IfOk r U
if_four (Ok a) p q r s f = f a p q r s
if_four (Err e) p q r s f = tt

-- the writes that are left, where they were listed
pub if_left_of : {E : Type 0} {A : Type 0} {all : A} (r : Result A E) (left : A) → r ≡ Ok left → IfOk r (λ a. a ≡ all) → left ≡ all
if_left_of {all = all} r left is listed = subst (λ x. IfOk x (λ a. a ≡ all)) is listed
