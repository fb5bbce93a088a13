-- What is known of a job that is under way.
use Rattle.std.proofs.Common.{◌≡◌, ℕ, ◌<◌, true, false, List, [], ◌∷◌, ◌++◌, map, reverse, Option, Some, None, refl, ap, sym, ◌∙◌, subst}
use Rattle.std.proofs.lemmas.List.{reverse-append}
use Rattle.sc_daemon_action.specs.Hands.{ActsWith, ServesWith, StandsWith}
use Rattle.sc_daemon_action.specs.declared.acted.Action.{Action}
use Rattle.sc_disk.specs.Store.{AddEntry}
use Rattle.sc_daemon_hold.specs.Holding.{Rooms}
use Rattle.sc_daemon_job.specs.Askers.{Asker}
use Rattle.sc_daemon_job.specs.Setups.{Config, setup}
use Rattle.sc_model.proofs.Keeping.{keeps_step}
use Rattle.sc_model.proofs.Requests.{Keeps}
use Rattle.sc_model.proofs.Steps.{due_step}
use Rattle.sc_model.specs.Dues.{kind_at}
use Rattle.sc_model.specs.Follows.{Fits, due}
use Rattle.sc_model.specs.Job.{At, Own}
use Rattle.sc_model.specs.Conns.{need_at, outcome_after, reserved_after}
use Rattle.sc_model.specs.DueAt.{due_at}
use Rattle.sc_model.specs.Phases.{after}
use Rattle.sc_model.specs.Rows.{Direct, last_at, outcome_at, reserved_since}
use Rattle.sc_model.specs.Script.{Setup}
use Rattle.sc_model.specs.World.{keys_of, placed_of}
use Rattle.sc_model.specs.declared.event.DistAnswer.{DistAnswer}
use Rattle.sc_model.specs.declared.event.Placing.{Placing}
use Rattle.sc_model.specs.declared.event.RunAnswer.{RunAnswer}
use Rattle.sc_model.specs.declared.event.Task.{Task}
use Rattle.sc_model.specs.declared.event.What.{What}
use Rattle.sc_model.specs.declared.event.What.TheVariants.{Committed, Dist, Keyed, Outcome, Placed, Ran, Reserved}
use Rattle.sc_model.specs.declared.event.Written.{Written}
use Rattle.sc_model.specs.declared.event.Written.TheVariants.{Done as WriteDone, Refused as WriteRefused}
use Rattle.sc_model.specs.declared.message.Compile.{Compile as CompileRequest}
use Rattle.sc_model.specs.declared.message.Request.{Request}
use Rattle.sc_model.specs.declared.message.Request.TheVariants.{Compile}
use Rattle.sc_model.specs.declared.phase.Ending.{Ending}
use Rattle.sc_model.specs.declared.phase.Job.{Job}
use Rattle.sc_model.specs.declared.phase.Phase.{Phase}
use Rattle.sc_model.specs.declared.phase.Phase.TheVariants.{AtCommit, AtDist, AtEnded, AtFinish, AtKey, AtOver, AtPlace, AtRun, AtWrite, PrePut}
use Rattle.sc_compile_direct.specs.Following.{Compiles, FollowOn, MovedBy, NeedsBy, begun, newest_first, own_of}
use Rattle.sc_compile_direct.specs.Running.{Steps, StepsBy, asker_at, ending_of, is_over}
use Rattle.sc_compile_direct.specs.Answers.{answer_in}
use Rattle.sc_compile_direct.specs.declared.answer.CompileAnswer.{CompileAnswer}
use Rattle.sc_compile_direct.specs.declared.job_event.JobEvent.{JobEvent}
use Rattle.sc_compile_direct.specs.declared.running.Running.{Running}
use Rattle.sc_compile_direct.proofs.Going.{IsJob, job_goes, left_at, start_is}

-- ---- what an event needs is what its phase has

keys_at : (s : Setup) (r : Request) (p : Phase) → (need_at s r p).keys ≡ keys_of s r
keys_at s r (AtRun work) = refl
keys_at s r (AtDist work) = refl
keys_at s r (AtPlace job b d) = refl
keys_at s r (AtCommit b l ls g ending) = refl
keys_at s r _ = refl

placed_at : (s : Setup) (r : Request) (own : List Own) (p : Phase) (x : Placing) → Keeps s r own p → Fits s r (due_at s r p) (Placed x) → NeedsBy s r own (Placed x) (need_at s r p)
placed_at s r own (AtPlace job b d) x kp f =
    (ap (λ (k : Job). k.found.key) (sym kp.0.job_is), ap (λ (k : Job). placed_of k.found.locally_preprocessed k.found.outputs) (sym kp.0.job_is), sym kp.1)
placed_at s r own (AtWrite b (l ∷ ls) g ending) x kp f = absurd (start_is s r (kind_at s.levels l) l b (Placed x) f)
placed_at s r own (PrePut b (l ∷ ls) g) x kp f = absurd f
placed_at s r own (PrePut b [] g) x kp f = absurd f
placed_at s r own _ x kp f = absurd f

ran_at : (s : Setup) (r : Request) (own : List Own) (p : Phase) (x : RunAnswer) → Keeps s r own p → Fits s r (due_at s r p) (Ran x) → NeedsBy s r own (Ran x) (need_at s r p)
ran_at s r own (AtRun work) x kp f = (ap (λ (k : Job). k.found.key) (sym kp.has.job_is), ap (λ (k : Job). k.found.outputs) (sym kp.has.job_is))
ran_at s r own (AtWrite b (l ∷ ls) g ending) x kp f = absurd (start_is s r (kind_at s.levels l) l b (Ran x) f)
ran_at s r own (PrePut b (l ∷ ls) g) x kp f = absurd f
ran_at s r own (PrePut b [] g) x kp f = absurd f
ran_at s r own _ x kp f = absurd f

dist_at : (s : Setup) (r : Request) (own : List Own) (p : Phase) (x : DistAnswer) → Keeps s r own p → Fits s r (due_at s r p) (Dist x) → NeedsBy s r own (Dist x) (need_at s r p)
dist_at s r own (AtDist work) x kp f = (ap (λ (k : Job). k.found.key) (sym kp.has.job_is), ap (λ (k : Job). k.found.outputs) (sym kp.has.job_is))
dist_at s r own (AtWrite b (l ∷ ls) g ending) x kp f = absurd (start_is s r (kind_at s.levels l) l b (Dist x) f)
dist_at s r own (PrePut b (l ∷ ls) g) x kp f = absurd f
dist_at s r own (PrePut b [] g) x kp f = absurd f
dist_at s r own _ x kp f = absurd f

committed_at : (s : Setup) (r : Request) (own : List Own) (p : Phase) (l : ℕ) (k b : List ℕ) (how : Written) → Keeps s r own p → Fits s r (due_at s r p) (Committed l k b how) → NeedsBy s r own (Committed l k b how) (need_at s r p)
committed_at s r own (AtCommit c i ls g ending) l k b how kp f = sym kp.5
committed_at s r own (AtWrite c (i ∷ ls) g ending) l k b how kp f = absurd (start_is s r (kind_at s.levels i) i c (Committed l k b how) f)
committed_at s r own (PrePut c (i ∷ ls) g) l k b how kp f = absurd f
committed_at s r own (PrePut c [] g) l k b how kp f = absurd f
committed_at s r own _ l k b how kp f = absurd f

needs_at : (s : Setup) (r : Request) (own : List Own) (p : Phase) (x : What) → Keeps s r own p → Fits s r (due_at s r p) x → NeedsBy s r own x (need_at s r p)
needs_at s r own p (Keyed first client step) kp f = keys_at s r p
needs_at s r own p (Placed x) kp f = placed_at s r own p x kp f
needs_at s r own p (Ran x) kp f = ran_at s r own p x kp f
needs_at s r own p (Dist x) kp f = dist_at s r own p x kp f
needs_at s r own p (Committed l k b how) kp f = committed_at s r own p l k b how kp f
needs_at s r own p _ kp f = tt

-- ---- the phase keeps what the events tell

pub record Tied (s : Setup) (c : CompileRequest) (task : Task) (own : List Own) (p : Phase) : Type 0 where
  pub job : IsJob p
  pub is_due : due s (Compile c) (own ++ begun (Compile c) task) ≡ due_at s (Compile c) p
  pub keeps : Keeps s (Compile c) (own ++ begun (Compile c) task) p
  pub follow : FollowOn s (Compile c) (begun (Compile c) task) own

tied_new : (s : Setup) (c : CompileRequest) (task : Task) → Tied s c task [] (AtKey task true)
tied_new s c task = record { job = tt; is_due = refl; keeps = (tt, refl); follow = tt }

tied_step : (s : Setup) (c : CompileRequest) (task : Task) (own : List Own) (p : Phase) (m : ℕ) (x : What) → Tied s c task own p → is_over p ≡ false → Fits s (Compile c) (due_at s (Compile c) p) x → Tied s c task (At m x ∷ own) (after s (Compile c) p m x)
tied_step s c task own p m x t o f = record {
  job = (job_goes s c p m x t.job o f).0;
  is_due = due_step s (Compile c) (own ++ begun (Compile c) task) p m x t.is_due t.keeps f;
  keeps = keeps_step s (Compile c) (own ++ begun (Compile c) task) p m x t.keeps f;
  follow = (subst (λ v. Fits s (Compile c) v x) (sym t.is_due) f, t.follow);
}

map_one : (events : List JobEvent) (e : JobEvent) → map own_of (events ++ e ∷ []) ≡ map own_of events ++ own_of e ∷ []
map_one [] e = refl
map_one (x ∷ events) e = ap (λ (own : List Own). own_of x ∷ own) (map_one events e)

-- a job's phase can be gone on with where it can be stood at
serves_of : (k : Config) (d : Option Rooms) (p : Phase) (entry : Option AddEntry) (r : Request) → IsJob p → StandsWith k d p entry r → ServesWith k d p entry r
serves_of k d (AtEnded left) entry r j h = absurd j
serves_of k d AtOver entry r j h = absurd j
serves_of k d _ entry r j h = h

-- ---- one action, and what is kept of it

pub steps_by : {H : Type 0} (config : H → Config) (rooms : H → Option Rooms) (moment : H → ℕ) (moves : H → Asker → What → H → Type 0) (r : Request) (a b : H) (old new : Running) (action : Action) (m : ℕ) (p : Phase) → p ≡ old.phase → m ≡ moment b
    → ActsWith (config a) (rooms b) r p (moment b) action → moves a (record { need = need_at (setup (config a)) r p; request = r; origin = Direct; last = old.last; outcome = old.outcome; reserved = old.reserved }) action.what b → config b ≡ config a → new.phase ≡ action.phase → new.entry ≡ action.entry
    → new.events ≡ old.events ++ record { moment = m; what = action.what } ∷ [] → new.last ≡ m → new.outcome ≡ outcome_after old.outcome m action.what → new.reserved ≡ reserved_after old.reserved m action.what → StepsBy config rooms moment moves r a b old new
steps_by config rooms moment moves r a b old new action m p at now acts mv same phase entry events last outcome reserved =
    let s = setup (config a) in (
      action.what,
      record {
        events = events ∙ ap (λ (t : ℕ). old.events ++ record { moment = t; what = action.what } ∷ []) now;
        fits = subst (λ (q : Phase). Fits s r (due_at s r q) action.what) at acts.fits;
        then = phase ∙ acts.then ∙ ap (λ (q : Phase). after s r q (moment b) action.what) at;
        stands = subst (λ (q : Phase). StandsWith (config a) (rooms b) q new.entry r) (sym phase) (subst (λ (e : Option AddEntry). StandsWith (config a) (rooms b) action.phase e r) (sym entry) acts.stands);
        last = last ∙ now;
        outcome = outcome ∙ ap (λ (t : ℕ). outcome_after old.outcome t action.what) now;
        reserved = reserved ∙ ap (λ (t : ℕ). reserved_after old.reserved t action.what) now;
      },
      subst (λ (q : Phase). moves a (record { need = need_at s r q; request = r; origin = Direct; last = old.last; outcome = old.outcome; reserved = old.reserved }) action.what b) at mv,
      same,
    )

-- ---- what is kept of its moments

pub record AreKept (own : List Own) (running : Running) : Type 0 where
  pub last : running.last ≡ last_at own
  pub outcome : running.outcome ≡ outcome_at own
  pub reserved : running.reserved ≡ reserved_since own

outcome_goes : (own : List Own) (n m : ℕ) (x : What) → n ≡ outcome_at own → outcome_after n m x ≡ outcome_at (At m x ∷ own)
outcome_goes own n m (Outcome v task) same = refl
outcome_goes own n m _ same = same

reserved_goes : (own : List Own) (n m : ℕ) (x : What) → n ≡ reserved_since own → reserved_after n m x ≡ reserved_since (At m x ∷ own)
reserved_goes own n m (Reserved l k size WriteDone) same = refl
reserved_goes own n m (Reserved l k size (WriteRefused chain)) same = same
reserved_goes own n m _ same = same

kept_on : (k : Config) (d : Option Rooms) (r : Request) (own : List Own) (m : ℕ) (old new : Running) (x : What) → AreKept own old → Steps k d r m old new x → AreKept (At m x ∷ own) new
kept_on k d r own m old new x kept st = record {
  last = st.last;
  outcome = st.outcome ∙ outcome_goes own old.outcome m x kept.outcome;
  reserved = st.reserved ∙ reserved_goes own old.reserved m x kept.reserved;
}

-- ---- a job that is under way on a hold

module _ {H : Type 0} (config : H → Config) (rooms : H → Option Rooms) (moment : H → ℕ) (moves : H → Asker → What → H → Type 0) where
  pub record UnderWay (c : CompileRequest) (task : Task) (a b : H) (running : Running) : Type 0 where
    pub same : config b ≡ config a
    pub stands : StandsWith (config a) (rooms b) running.phase running.entry (Compile c)
    pub tied : Tied (setup (config a)) c task (newest_first running.events) running.phase
    pub kept : AreKept (newest_first running.events ++ begun (Compile c) task) running
    pub moved : MovedBy moment moves (setup (config a)) (Compile c) (begun (Compile c) task) a (newest_first running.events) b

  pub begins : (c : CompileRequest) (task : Task) (a : H) (running : Running) → running.phase ≡ AtKey task true → running.entry ≡ None → running.events ≡ [] → running.last ≡ 0 → running.outcome ≡ 0 → running.reserved ≡ 0 → UnderWay c task a a running
  begins c task a running phase entry events last outcome reserved = record {
    same = refl;
    stands = subst (λ (p : Phase). StandsWith (config a) (rooms a) p running.entry (Compile c)) (sym phase) (tt, entry);
    tied = subst (λ (p : Phase). Tied (setup (config a)) c task (newest_first running.events) p) (sym phase) (subst (λ (es : List JobEvent). Tied (setup (config a)) c task (newest_first es) (AtKey task true)) (sym events) (tied_new (setup (config a)) c task));
    kept = subst (λ (es : List JobEvent). AreKept (newest_first es ++ begun (Compile c) task) running) (sym events) (record { last = last; outcome = outcome; reserved = reserved });
    moved = subst (λ (es : List JobEvent). MovedBy moment moves (setup (config a)) (Compile c) (begun (Compile c) task) a (newest_first es) a) (sym events) refl;
  }

  pub serves : (c : CompileRequest) (task : Task) (a b : H) (running : Running) → UnderWay c task a b running → ServesWith (config b) (rooms b) running.phase running.entry (Compile c)
  serves c task a b running u =
      subst (λ (k : Config). ServesWith k (rooms b) running.phase running.entry (Compile c)) (sym u.same) (serves_of (config a) (rooms b) running.phase running.entry (Compile c) u.tied.job u.stands)

  -- the events are one more
  grown : (old new : Running) (m : ℕ) (x : What) → new.events ≡ old.events ++ record { moment = m; what = x } ∷ [] → newest_first new.events ≡ At m x ∷ newest_first old.events
  grown old new m x is = ap newest_first is ∙ ap (λ (own : List Own). reverse own) (map_one old.events (record { moment = m; what = x })) ∙ reverse-append (map own_of old.events) (At m x ∷ [])

  goes_on : (c : CompileRequest) (task : Task) (a b b2 : H) (old new : Running) (x : What) → UnderWay c task a b old → is_over old.phase ≡ false → Steps (config a) (rooms b2) (Compile c) (moment b2) old new x
      → moves b (asker_at (config a) (Compile c) old) x b2 → config b2 ≡ config a → UnderWay c task a b2 new
  goes_on c task a b b2 old new x u o st mv same =
      let s = setup (config a) in
      let r = Compile c in
      let more = grown old new (moment b2) x st.events in
      let tied = tied_step s c task (newest_first old.events) old.phase (moment b2) x u.tied o st.fits in
      record {
        same = same;
        stands = st.stands;
        tied = subst (λ (own : List Own). Tied s c task own new.phase) (sym more) (subst (λ (p : Phase). Tied s c task (At (moment b2) x ∷ newest_first old.events) p) (sym st.then) tied);
        kept = subst (λ (own : List Own). AreKept (own ++ begun r task) new) (sym more) (kept_on (config a) (rooms b2) r (newest_first old.events ++ begun r task) (moment b2) old new x u.kept st);
        moved = subst (λ (own : List Own). MovedBy moment moves s r (begun r task) a own b2) (sym more)
            (b, asker_at (config a) r old, u.moved, refl, (needs_at s r (newest_first old.events ++ begun r task) old.phase x u.tied.keeps st.fits, refl, refl, u.kept.last, u.kept.outcome, u.kept.reserved), mv);
      }

  pub steps_on : (c : CompileRequest) (task : Task) (a b b2 : H) (old new : Running) → UnderWay c task a b old → is_over old.phase ≡ false → StepsBy config rooms moment moves (Compile c) b b2 old new → UnderWay c task a b2 new
  steps_on c task a b b2 old new u o st =
      goes_on c task a b b2 old new st.0 u o (subst (λ (k : Config). Steps k (rooms b2) (Compile c) (moment b2) old new st.0) u.same st.1)
      (subst (λ (k : Config). moves b (asker_at k (Compile c) old) st.0 b2) u.same st.2) (st.3 ∙ u.same)

  less : (c : CompileRequest) (task : Task) (a b b2 : H) (old new : Running) (x : What) → UnderWay c task a b old → is_over old.phase ≡ false → Steps (config a) (rooms b2) (Compile c) (moment b2) old new x → left_at (setup (config a)) new.phase < left_at (setup (config a)) old.phase
  less c task a b b2 old new x u o st =
      subst (λ (p : Phase). left_at (setup (config a)) p < left_at (setup (config a)) old.phase) (sym st.then) (job_goes (setup (config a)) c old.phase (moment b2) x u.tied.job o st.fits).1

  pub steps_less : (c : CompileRequest) (task : Task) (a b b2 : H) (old new : Running) → UnderWay c task a b old → is_over old.phase ≡ false → StepsBy config rooms moment moves (Compile c) b b2 old new → left_at (setup (config a)) new.phase < left_at (setup (config a)) old.phase
  steps_less c task a b b2 old new u o st = less c task a b b2 old new st.0 u o (subst (λ (k : Config). Steps k (rooms b2) (Compile c) (moment b2) old new st.0) u.same st.1)

-- ---- a job that is over

compiles_at : (s : Setup) (c : CompileRequest) (task : Task) (events : List JobEvent) (answer : CompileAnswer) (ending : Ending) (p : Phase) → Tied s c task (newest_first events) p → answer ≡ answer_in (newest_first events)
    → Some ending ≡ ending_of p → Compiles s (Compile c) task (record { events = events; answer = answer; ending = ending })
compiles_at s c task events answer ending (AtFinish ns last) t is e =
    let same : ending ≡ record { notes = ns; last = last } = cc in
    subst (λ (d : Ending). Compiles s (Compile c) task (record { events = events; answer = answer; ending = d })) (sym same) (record { follow = t.follow; answer = is; over = t.is_due; finished = t.keeps.last_is; carries = t.keeps.carries; stored = t.keeps.stores })
compiles_at s c task events answer ending _ t is e = absurd (cc)

pub compiles : (s : Setup) (c : CompileRequest) (task : Task) (running : Running) (answer : CompileAnswer) (events : List JobEvent) (ending : Ending) → Tied s c task (newest_first running.events) running.phase → answer ≡ answer_in (newest_first running.events)
    → events ≡ running.events → Some ending ≡ ending_of running.phase → Compiles s (Compile c) task (record { events = events; answer = answer; ending = ending })
compiles s c task running answer events ending t is same e =
    subst (λ (es : List JobEvent). Compiles s (Compile c) task (record { events = es; answer = answer; ending = ending })) (sym same) (compiles_at s c task running.events answer ending running.phase t is e)
