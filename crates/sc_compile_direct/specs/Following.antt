-- What a compile does that is done at once.
use Rattle.std.specs.Prelude.{◌≡◌, ℕ, List, [], ◌∷◌, ◌++◌, map, reverse}
use Rattle.sc_model.specs.Dues.{ToFinish}
use Rattle.sc_model.specs.Follows.{Fits, due, what_of}
use Rattle.sc_model.specs.Headline.{Carries, Stores}
use Rattle.sc_model.specs.Finishing.{finish}
use Rattle.sc_model.specs.Job.{At, Own, entry_mark, hit_of, job_of}
use Rattle.sc_daemon_job.specs.Askers.{Asker}
use Rattle.sc_model.specs.Rows.{Direct, last_at, outcome_at, reserved_since}
use Rattle.sc_model.specs.Script.{Setup}
use Rattle.sc_model.specs.World.{Need, keys_of, placed_of}
use Rattle.sc_model.specs.declared.event.Parsed.TheVariants.{Started}
use Rattle.sc_model.specs.declared.event.Task.{Task}
use Rattle.sc_model.specs.declared.event.Told.TheVariants.{Compile as TellsCompile}
use Rattle.sc_model.specs.declared.event.What.{What}
use Rattle.sc_model.specs.declared.event.What.TheVariants.{Began, Committed, Dist, Keyed, Placed, Ran, Sent}
use Rattle.sc_model.specs.declared.message.CompileResponse.TheVariants.{CompileStarted}
use Rattle.sc_model.specs.declared.message.Request.{Request}
use Rattle.sc_model.specs.declared.message.Response.TheVariants.{Compile as Answered}
use Rattle.sc_compile_direct.specs.Answers.{answer_in}
use Rattle.sc_compile_direct.specs.declared.direct.Compiled.{Compiled}
use Rattle.sc_compile_direct.specs.declared.job_event.JobEvent.{JobEvent}

-- a job's events, the newest first
abbrev pub own_of : JobEvent → Own
own_of e = At e.moment e.what

abbrev pub newest_first : List JobEvent → List Own
newest_first events = reverse (map own_of events)

-- what went before: the compile was begun, and was told that it is started
abbrev pub begun : Request → Task → List Own
begun r task = At 0 (Sent (Answered CompileStarted)) ∷ At 0 (Began r (TellsCompile (Started task))) ∷ []

-- events that come behind others, the newest first: each is the one that is due
abbrev pub FollowOn : Setup → Request → List Own → List Own → Type 0
FollowOn s r before [] = Unit {0}
FollowOn s r before (x ∷ own) = Fits s r (due s r (own ++ before)) (what_of x) × FollowOn s r before own

-- what an event needs of its job
abbrev pub NeedsBy : Setup → Request → List Own → What → Need → Type 0
NeedsBy s r own (Keyed first client step) n = n.keys ≡ keys_of s r
NeedsBy s r own (Placed p) n = (n.key ≡ (job_of own).found.key) × (n.outputs ≡ placed_of (job_of own).found.locally_preprocessed (job_of own).found.outputs) × (n.hit ≡ hit_of own)
NeedsBy s r own (Ran a) n = (n.key ≡ (job_of own).found.key) × (n.wanted ≡ (job_of own).found.outputs)
NeedsBy s r own (Dist d) n = (n.key ≡ (job_of own).found.key) × (n.wanted ≡ (job_of own).found.outputs)
NeedsBy s r own (Committed l k b how) n = n.mark ≡ entry_mark own
NeedsBy s r own _ n = Unit {0}

-- what an event takes from its job: what it needs of the parts, and what it is counted by
abbrev pub AsksBy : Setup → Request → List Own → What → Asker → Type 0
AsksBy s r own x n = NeedsBy s r own x n.need × (n.request ≡ r) × (n.origin ≡ Direct) × (n.last ≡ last_at own) × (n.outcome ≡ outcome_at own) × (n.reserved ≡ reserved_since own)

-- the hold moved by each of them in turn, from one to another; an event's moment is what it told as the event ended
abbrev pub MovedBy : {H : Type 0} → (H → ℕ) → (H → Asker → What → H → Type 0) → Setup → Request → List Own → H → List Own → H → Type 0
MovedBy {H = H} moment moves s r before a [] b = b ≡ a
MovedBy {H = H} moment moves s r before a (At m x ∷ own) b =
    (h : H) × (n : Asker) × MovedBy moment moves s r before a own h × (m ≡ moment b) × AsksBy s r (own ++ before) x n × moves h n x b

-- a compile's events move the hold; the first one stands first
abbrev pub DoneBy : {H : Type 0} → (H → ℕ) → (H → Asker → What → H → Type 0) → Setup → Request → Task → H → List JobEvent → H → Type 0
DoneBy moment moves s r task a events b = MovedBy moment moves s r (begun r task) a (newest_first events) b

-- what came of it: its events follow one another, and it is over; how it finished, and what it answers, is what they say
pub record Compiles (s : Setup) (r : Request) (task : Task) (c : Compiled) : Type 0 where
  pub follow : FollowOn s r (begun r task) (newest_first c.events)
  pub answer : c.answer ≡ answer_in (newest_first c.events)
  pub over : due s r (newest_first c.events ++ begun r task) ≡ ToFinish c.ending.notes c.ending.last
  pub finished : finish s r (newest_first c.events ++ begun r task) ≡ c.ending.last
  pub carries : Carries s r c.ending.last (newest_first c.events ++ begun r task)
  pub stored : Stores s r (newest_first c.events ++ begun r task)
