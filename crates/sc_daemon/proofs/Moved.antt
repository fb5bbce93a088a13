-- A daemon that moved by an event, part by part.
use Rattle.std.proofs.Common.{◌≡◌, ◌≢◌, ℕ, ◌+◌, ◌-◌, ◌++◌, Bool, true, false, List, [], length, Option, Some, None, Result, Ok, Err, refl, sym, ap, subst, ◌∙◌, arith}
use Rattle.std.specs.Prelude.{OnOk}
use Rattle.std.proofs.lemmas.List.{append-nil}
use Rattle.sc_daemon.specs.Backlogs.{Write, fresh_writes}
use Rattle.sc_daemon.specs.Daemons.{Kept}
use Rattle.sc_daemon.specs.Moving.{KeptMoves}
use Rattle.sc_daemon.specs.Says.{SaysCounted, counted}
use Rattle.sc_daemon_hold.specs.Beginning.{IsPlainTold}
use Rattle.sc_daemon_job.specs.Askers.{Asker}
use Rattle.sc_daemon_job.specs.LevelRows.{counted_in}
use Rattle.sc_daemon_job.specs.Setups.{setup}
use Rattle.sc_daemon_owned.specs.Facts.{DaemonFacts, config_of}
use Rattle.sc_daemon_owned.specs.Laws.{quiet_moves}
use Rattle.sc_daemon_owned.specs.Moving.{OwnedMoves}
use Rattle.sc_daemon_owned.specs.Quiet.{IsQuietTold}
use Rattle.sc_daemon_owned.specs.State.{State}
use Rattle.sc_model.specs.Conns.{free_after}
use Rattle.sc_model.specs.Machine.{counted_at, counted_level}
use Rattle.sc_model.specs.Pendings.{pend}
use Rattle.sc_model.specs.Rows.{asked_row, began_row, count, level_named, level_row, row, zeroes}
use Rattle.sc_model.specs.Script.{Setup}
use Rattle.sc_model.specs.Trace.{Given, hands, numbered}
use Rattle.sc_model.specs.declared.event.Answer.{Answer}
use Rattle.sc_model.specs.declared.event.KeyStep.{KeyStep}
use Rattle.sc_model.specs.declared.event.Mode.{Mode}
use Rattle.sc_model.specs.declared.event.Mode.TheVariants.{Path, Pre, Raw, Size as Sizes, Whole}
use Rattle.sc_model.specs.declared.event.Told.{Told}
use Rattle.sc_model.specs.declared.event.Told.TheVariants.{Compile as TellsCompile, Dist as TellsDist, Handshake as TellsHandshake, Nothing as TellsNothing, Stats as TellsStats, Valid as TellsValid}
use Rattle.sc_model.specs.declared.event.What.{What}
use Rattle.sc_model.specs.declared.event.What.TheVariants.{Asked, Began, Closed, Committed, Dist, Filled, Idle, Keyed, Outcome, Passed, Placed, Ran, Reserved, Sent, Taken, TokenTaken, TooLong, WriteEnded, Wrote}
use Rattle.sc_model.specs.declared.level.Handed.{Handed}
use Rattle.sc_model.specs.declared.level.Policy.{Policy}
use Rattle.sc_model.specs.declared.message.Request.{Request}
use Rattle.sc_model.specs.declared.level.Policy.TheVariants.{Levels, Single}
use Rattle.sc_stats.specs.Sums.{no_stats, sum}
use Rattle.sc_stats.specs.declared.counters.LevelStats.{LevelStats}
use Rattle.sc_stats.specs.declared.counters.ServerStats.{ServerStats}

-- an event that names no level, hands nothing on, and takes or gives back no token
abbrev pub IsAlone : What → Type 0
IsAlone (Began q told) = Unit {0}
IsAlone (Keyed f client step) = Unit {0}
IsAlone (Placed p) = Unit {0}
IsAlone (Dist a) = Unit {0}
IsAlone (Outcome v task) = Unit {0}
IsAlone (Sent g) = Unit {0}
IsAlone (TooLong z) = Unit {0}
IsAlone _ = ⊥

alone_free : (n : ℕ) (x : What) → IsAlone x → n ≡ free_after n x
alone_free n Idle alone = absurd alone
alone_free n (Passed a) alone = absurd alone
alone_free n (Taken a b) alone = absurd alone
alone_free n (Closed a) alone = absurd alone
alone_free n (Began q told) alone = refl
alone_free n (Keyed f client step) alone = refl
alone_free n (Asked l k mode a hs) alone = absurd alone
alone_free n (Placed p) alone = refl
alone_free n TokenTaken alone = absurd alone
alone_free n (Ran a) alone = absurd alone
alone_free n (Dist a) alone = refl
alone_free n (Outcome v task) alone = refl
alone_free n (Reserved l k z how) alone = absurd alone
alone_free n (Filled l k b mark how) alone = absurd alone
alone_free n (Committed l k b how) alone = absurd alone
alone_free n (Wrote l k b mode mark how) alone = absurd alone
alone_free n (WriteEnded put hs) alone = absurd alone
alone_free n (Sent g) alone = refl
alone_free n (TooLong z) alone = refl

alone_named : (x : What) → IsAlone x → level_named x ≡ None
alone_named Idle alone = absurd alone
alone_named (Passed a) alone = absurd alone
alone_named (Taken a b) alone = absurd alone
alone_named (Closed a) alone = absurd alone
alone_named (Began q told) alone = refl
alone_named (Keyed f client step) alone = refl
alone_named (Asked l k mode a hs) alone = absurd alone
alone_named (Placed p) alone = refl
alone_named TokenTaken alone = absurd alone
alone_named (Ran a) alone = absurd alone
alone_named (Dist a) alone = refl
alone_named (Outcome v task) alone = refl
alone_named (Reserved l k z how) alone = absurd alone
alone_named (Filled l k b mark how) alone = absurd alone
alone_named (Committed l k b how) alone = absurd alone
alone_named (Wrote l k b mode mark how) alone = absurd alone
alone_named (WriteEnded put hs) alone = absurd alone
alone_named (Sent g) alone = refl
alone_named (TooLong z) alone = refl

alone_hands : (n m : ℕ) (x : What) → IsAlone x → hands n m x ≡ []
alone_hands n m Idle alone = absurd alone
alone_hands n m (Passed a) alone = absurd alone
alone_hands n m (Taken a b) alone = absurd alone
alone_hands n m (Closed a) alone = absurd alone
alone_hands n m (Began q told) alone = refl
alone_hands n m (Keyed f client step) alone = refl
alone_hands n m (Asked l k mode a hs) alone = absurd alone
alone_hands n m (Placed p) alone = refl
alone_hands n m TokenTaken alone = absurd alone
alone_hands n m (Ran a) alone = absurd alone
alone_hands n m (Dist a) alone = refl
alone_hands n m (Outcome v task) alone = refl
alone_hands n m (Reserved l k z how) alone = absurd alone
alone_hands n m (Filled l k b mark how) alone = absurd alone
alone_hands n m (Committed l k b how) alone = absurd alone
alone_hands n m (Wrote l k b mode mark how) alone = absurd alone
alone_hands n m (WriteEnded put hs) alone = absurd alone
alone_hands n m (Sent g) alone = refl
alone_hands n m (TooLong z) alone = refl

-- where no level is named nothing is counted at one
pub unnamed : (p : Policy) (w : LevelStats) (x : What) (ls : List LevelStats) → level_named x ≡ None → ls ≡ counted_level p w x ls
unnamed Single w x ls e = refl
unnamed (Levels ps) w x ls e = sym (ap (λ (l : Option ℕ). counted_at l w ls) e)

-- where nothing is handed on none is queued
pub unqueued : (ws : List Write) (hs : List Given) → hs ≡ [] → ws ≡ ws ++ fresh_writes (pend hs)
unqueued ws hs e = sym (ap (λ (gs : List Given). ws ++ fresh_writes (pend gs)) e ∙ append-nil ws)

pub unnumbered : (n : ℕ) (hs : List Given) → hs ≡ [] → n ≡ n + length hs
unnumbered n hs e = omega (arith, ap length e)

pub moved : (d : Kept) (n : Asker) (x : What) (o : State) (stats : ServerStats) → IsAlone x → SaysCounted d.state.config.policy d.stats d.levels x → OwnedMoves d.state n.need x o
    → stats ≡ counted x d.stats (row (setup (config_of d.state.config)) n.request n.outcome d.state.world.moment x) → KeptMoves d n x (record d { state = o; stats = stats })
moved d n x o stats alone says moves is =
    let m = d.state.world.moment in
    let none = alone_hands d.handed m x alone in
    record {
      says = says;
      moves = moves;
      free = alone_free d.free x alone;
      levels = unnamed d.state.config.policy (level_row n.origin n.last n.reserved m x) x d.levels (alone_named x alone);
      background = unqueued d.background (hands d.handed m x) none;
      handed = unnumbered d.handed (hands d.handed m x) none;
      stats = is;
    }

-- a row is counted at the level that the event names
pub named : (p : Policy) (l : ℕ) (w : LevelStats) (x : What) (ls : List LevelStats) → level_named x ≡ Some l → counted_in p l w ls ≡ counted_level p w x ls
named Single l w x ls e = refl
named (Levels ps) l w x ls e = sym (ap (λ (o : Option ℕ). counted_at o w ls) e)

-- an event at a level that hands nothing on
pub moved_at : (d new : Kept) (n : Asker) (x : What) (l : ℕ) (w : LevelStats) (o : State) → level_named x ≡ Some l → (d.free ≡ free_after d.free x) × (hands d.handed d.state.world.moment x ≡ []) × (d.stats ≡ counted x d.stats (row (setup (config_of d.state.config)) n.request n.outcome d.state.world.moment x))
    → SaysCounted d.state.config.policy d.stats d.levels x → OwnedMoves d.state n.need x o → w ≡ level_row n.origin n.last n.reserved d.state.world.moment x
    → new ≡ record (record d { state = o }) { levels = counted_in o.config.policy l w d.levels } → KeptMoves d n x new
moved_at d new n x l w o at rest says moves is same =
    subst (λ (e : Kept). KeptMoves d n x e) (sym same)
    record {
      says = says;
      moves = moves;
      free = rest.0;
      levels = ap (λ (f : DaemonFacts). counted_in f.policy l w d.levels) moves.4 ∙ ap (λ (v : LevelStats). counted_in d.state.config.policy l v d.levels) is ∙ named d.state.config.policy l (level_row n.origin n.last n.reserved d.state.world.moment x) x d.levels at;
      background = unqueued d.background (hands d.handed d.state.world.moment x) rest.1;
      handed = unnumbered d.handed (hands d.handed d.state.world.moment x) rest.1;
      stats = rest.2;
    }

plain_quiet : (told : Told) → IsPlainTold told → IsQuietTold told
plain_quiet (TellsCompile a) plain = tt
plain_quiet (TellsStats a) plain = absurd plain
plain_quiet (TellsDist a) plain = absurd plain
plain_quiet (TellsHandshake a) plain = tt
plain_quiet (TellsValid a) plain = tt
plain_quiet TellsNothing plain = tt

plain_says : (p : Policy) (stats : ServerStats) (levels : List LevelStats) (q : Request) (told : Told) → IsPlainTold told → SaysCounted p stats levels (Began q told)
plain_says p stats levels q (TellsCompile a) plain = tt
plain_says p stats levels q (TellsStats a) plain = absurd plain
plain_says p stats levels q (TellsDist a) plain = absurd plain
plain_says p stats levels q (TellsHandshake a) plain = tt
plain_says p stats levels q (TellsValid a) plain = tt
plain_says p stats levels q TellsNothing plain = tt

-- a request whose answer stands fast before it
pub began : (d : Kept) (n : Asker) (q : Request) (told : Told) (stats : ServerStats) → IsPlainTold told → n.request ≡ q → stats ≡ count (zeroes (Began q told)) d.stats (began_row q told) → KeptMoves d n (Began q told) (record d { stats = stats })
began d n q told stats plain asks is =
    moved d n (Began q told) d.state stats tt (plain_says d.state.config.policy d.stats d.levels q told plain) (quiet_moves d.state n.need (Began q told) (plain_quiet told plain))
    (is ∙ ap (λ (r : Request). count (zeroes (Began q told)) d.stats (began_row r told)) (sym asks))

-- where nothing starts anew the row is added
pub not_anew : (b : Bool) (before row : ServerStats) → b ≡ false → sum before row ≡ count b before row
not_anew true before row e = absurd (cc)
not_anew false before row e = refl

-- a key step that comes again counts nothing
pub keyed_again : (first client : Bool) (step : KeyStep) (before row : ServerStats) → first ≡ false → before ≡ counted (Keyed first client step) before row
keyed_again true client step before row e = absurd (cc)
keyed_again false client step before row e = refl

pub keyed_first : (s : Setup) (r : Request) (since m : ℕ) (first client : Bool) (step : KeyStep) (before stats : ServerStats) → first ≡ true → stats ≡ sum before (record no_stats { requests_executed = 1 }) → stats ≡ counted (Keyed first client step) before (row s r since m (Keyed first client step))
keyed_first s r since m true client step before stats e is = is
keyed_first s r since m false client step before stats e is = absurd (cc)

-- a fact that holds where an answer is Ok gives another that does
pub ok_then : {A E : Type 0} (r : Result A E) {P Q : Type 0} → (P → Q) → OnOk r P → OnOk r Q
ok_then (Ok a) f h = f h
ok_then (Err e) f h = tt

asked_says : (p : Policy) (stats : ServerStats) (levels : List LevelStats) (l : ℕ) (k : List ℕ) (mode : Mode) (a : Answer) (hs : List Handed) → mode ≢ Sizes → SaysCounted p stats levels (Asked l k mode a hs)
asked_says p stats levels l k Whole a hs apart = tt
asked_says p stats levels l k Raw a hs apart = tt
asked_says p stats levels l k Path a hs apart = tt
asked_says p stats levels l k Pre a hs apart = tt
asked_says p stats levels l k Sizes a hs apart = absurd (apart refl)

-- a level was asked, which may hand writes on
pub asked : (d then new : Kept) (n : Asker) (l : ℕ) (k : List ℕ) (mode : Mode) (a : Answer) (hs : List Handed) (w : LevelStats) (o : State) → mode ≢ Sizes → OwnedMoves d.state n.need (Asked l k mode a hs) o → w ≡ asked_row l mode a (d.state.world.moment - n.last)
    → then ≡ record (record d { state = o }) { levels = counted_in o.config.policy l w d.levels }
    → new ≡ record then { background = then.background ++ fresh_writes (pend (numbered then.handed then.state.world.moment true hs)); handed = then.handed + length (numbered then.handed then.state.world.moment true hs) }
    → KeptMoves d n (Asked l k mode a hs) new
asked d then new n l k mode a hs w o apart moves is counts queues =
    let x = Asked l k mode a hs in
    let m = d.state.world.moment in
    let still : o.world.moment ≡ m = moves.1.moment in
    let after : Kept → Kept = λ (t : Kept). record t { background = t.background ++ fresh_writes (pend (numbered t.handed t.state.world.moment true hs)); handed = t.handed + length (numbered t.handed t.state.world.moment true hs) } in
    subst (λ (e : Kept). KeptMoves d n x e) (sym (queues ∙ ap after counts))
    record {
      says = asked_says d.state.config.policy d.stats d.levels l k mode a hs apart;
      moves = moves;
      free = refl;
      levels = ap (λ (f : DaemonFacts). counted_in f.policy l w d.levels) moves.4 ∙ ap (λ (v : LevelStats). counted_in d.state.config.policy l v d.levels) is ∙ named d.state.config.policy l (level_row n.origin n.last n.reserved m x) x d.levels refl;
      background = ap (λ (z : ℕ). d.background ++ fresh_writes (pend (numbered d.handed z true hs))) still;
      handed = ap (λ (z : ℕ). d.handed + length (numbered d.handed z true hs)) still;
      stats = refl;
    }
