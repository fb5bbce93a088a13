-- What the parts hold, and how an event of a request or a handed write moves it.
use Rattle.std.specs.Prelude.{◌≡◌, ℕ, ◌+◌, ◌<◌, ◌≤◌, Bool, true, false, ◌&&◌, not, if◌then◌else◌, List, [], ◌∷◌, length, Option, Some, None, slice_index_or, slice_set, codes, bytes_eq, IsTrue}
use Rattle.sc_entry.specs.Entries.{has_name}
use Rattle.sc_model.specs.Dues.{kind_at}
use Rattle.sc_model.specs.Job.{Own, entry_mark, hit_of, job_of}
use Rattle.sc_model.specs.Plan.{is_disk, level_facts}
use Rattle.sc_model.specs.Script.{Setup, control}
use Rattle.sc_model.specs.Trace.{Open, reserved_at}
use Rattle.sc_model.specs.declared.event.DistAnswer.{DistAnswer}
use Rattle.sc_model.specs.declared.event.DistAnswer.TheVariants.{Done as DistDone}
use Rattle.sc_entry.specs.declared.object.FileObjectSource.{FileObjectSource}
use Rattle.sc_model.specs.declared.event.KeyStep.{KeyStep}
use Rattle.sc_entry.specs.declared.object.Object.{Object}
use Rattle.sc_model.specs.declared.event.Objects.TheVariants.{Broken, Collected}
use Rattle.sc_model.specs.declared.event.Placing.{Placing}
use Rattle.sc_model.specs.declared.event.Placing.TheVariants.{Done as PlaceDone, Fault as PlaceFault, Missing}
use Rattle.sc_model.specs.declared.event.RunAnswer.{RunAnswer}
use Rattle.sc_model.specs.declared.event.RunAnswer.TheVariants.{Fault as RanFault, Output as RanOutput, ProcessError as RanError}
use Rattle.sc_model.specs.declared.event.RunOutput.{RunOutput}
use Rattle.sc_model.specs.declared.event.Told.{Told}
use Rattle.sc_model.specs.declared.event.Told.TheVariants.{Dist as TellsDist}
use Rattle.sc_model.specs.declared.event.Verdict.{Verdict}
use Rattle.sc_model.specs.declared.event.Verdict.TheVariants.{Http as HttpError}
use Rattle.sc_model.specs.declared.event.What.{What}
use Rattle.sc_model.specs.declared.event.What.TheVariants.{Asked, Began, Committed, Dist, Filled, Keyed, Outcome, Placed, Ran, Reserved, Wrote}
use Rattle.sc_model.specs.declared.message.Request.{Request}
use Rattle.sc_model.specs.declared.message.Request.TheVariants.{Compile}
use Rattle.sc_entry.specs.Causes.{IfTold, Rose}
use Rattle.sc_model.specs.Containers.{Container, Renews, Tells_client, reset, Tells_status}
use Rattle.sc_model.specs.Evicting.{part_size}
use Rattle.sc_model.specs.Levels.{Level, no_level_held, and_one}
use Rattle.sc_model.specs.Writing.{MovesLevel}

pub record Place : Type 0 where
  pub outputs : List FileObjectSource
  pub bytes : List ℕ

pub record World : Type 0 where
  pub moment : ℕ
  pub levels : List Level
  -- the workshop's runs and placings, where it tells them
  pub runs : Option (List (List ℕ × RunAnswer))
  pub placings : Option (List Place)
  -- the distributed client's jobs, where it tells them
  pub dists : Option (List (List ℕ × DistAnswer))
  pub shop_faults : ℕ
  pub dist_faults : ℕ
  pub container : Container

abbrev pub level_at : World → ℕ → Level
level_at w l = slice_index_or w.levels l no_level_held

abbrev pub IsBrokenRun : RunOutput → Type 0
IsBrokenRun out = elim out.objects [ Collected os ↦ ⊥ | Broken chain ↦ Unit {0} ]

-- a run's fault comes only where the workshop's count rose, a client's other answers only where its own did
abbrev pub RunCause : RunAnswer → ℕ → ℕ → Type 0
RunCause (RanOutput out) f g = IsBrokenRun out → Rose f g
RunCause (RanError out) f g = Unit {0}
RunCause (RanFault chain) f g = Rose f g

abbrev pub DistCause : DistAnswer → ℕ → ℕ → Type 0
DistCause (DistDone server out) f g = IsBrokenRun out → Rose f g
DistCause _ f g = Rose f g

-- what an event needs of its owner: what the compiler tells of its key step, its key, the outputs that a run is asked for, those that
-- a hit places, the hit, and whether its open entry is marked
pub record Need : Type 0 where
  pub keys : Bool → Option KeyStep
  pub key : List ℕ
  pub wanted : List FileObjectSource
  pub outputs : List FileObjectSource
  pub hit : List ℕ
  pub mark : Bool

-- neither /dev/null nor, where locally preprocessed, d is placed
abbrev pub is_placed : Bool → FileObjectSource → Bool
is_placed locally o = not (bytes_eq o.path (codes "/dev/null")) && not (locally && bytes_eq o.key (codes "d"))

abbrev pub placed_of : Bool → List FileObjectSource → List FileObjectSource
placed_of locally [] = []
placed_of locally (o ∷ os) = if is_placed locally o then o ∷ placed_of locally os else placed_of locally os

abbrev pub keys_of : Setup → Request → Bool → Option KeyStep
keys_of s (Compile c) first = s.compilers.keys c (control (Compile c) first)
keys_of s _ first = None

abbrev pub need_of : Setup → Request → List Own → Need
need_of s r own = record { keys = keys_of s r; key = (job_of own).found.key; wanted = (job_of own).found.outputs; outputs = placed_of (job_of own).found.locally_preprocessed (job_of own).found.outputs; hit = hit_of own; mark = entry_mark own }

abbrev pub lacks : Option (List Object) → List ℕ → Bool
lacks None name = true
lacks (Some []) name = true
lacks (Some (o ∷ os)) name = false

abbrev pub holds_name : Option (List Object) → List ℕ → Bool
holds_name None name = false
holds_name (Some os) name = has_name name os

-- the first required output that the entry lacks
abbrev pub first_missing : Option (List Object) → List FileObjectSource → Option (List ℕ)
first_missing os [] = None
first_missing os (o ∷ rest) = if not o.optional && not (holds_name os o.key) then Some o.key else first_missing os rest

-- What moves the levels: an event at a level that one alone.
abbrev pub MovesAt : Setup → ℕ → ℕ → Bool → What → World → World → Type 0
MovesAt s l r entry_mark x w w2 = (v : Level) × MovesLevel s (level_facts s.levels l) r entry_mark x (level_at w l) v × (w2.levels ≡ slice_set w.levels l v)

-- r: a level's open reservations before
abbrev pub MovesLevels : Setup → Need → (ℕ → ℕ) → What → World → World → Type 0
MovesLevels s n r (Asked l k mode a hs) w w2 = MovesAt s l (r l) n.mark (Asked l k mode a hs) w w2
MovesLevels s n r (Reserved l k z how) w w2 = MovesAt s l (r l) n.mark (Reserved l k z how) w w2
MovesLevels s n r (Filled l k b mark how) w w2 = MovesAt s l (r l) n.mark (Filled l k b mark how) w w2
MovesLevels s n r (Committed l k b how) w w2 = MovesAt s l (r l) n.mark (Committed l k b how) w w2
MovesLevels s n r (Wrote l k b mode mark how) w w2 = MovesAt s l (r l) n.mark (Wrote l k b mode mark how) w w2
MovesLevels s n r _ w w2 = w2.levels ≡ w.levels

-- what the workshop holds, and its count
abbrev pub SameShop : World → World → Type 0
SameShop w w2 = (w2.runs ≡ w.runs) × (w2.placings ≡ w.placings) × (w2.shop_faults ≡ w.shop_faults)

-- What is missing comes first; else a placing is done unless it is refused, and a refusal is told only where the workshop's count rose.
abbrev pub MovesPlaced : Setup → Need → Placing → World → World → Type 0
MovesPlaced s n (Missing name) w w2 = (first_missing (s.codec.objects n.hit) n.outputs ≡ Some name) × SameShop w w2
MovesPlaced s n PlaceDone w w2 =
    (first_missing (s.codec.objects n.hit) n.outputs ≡ None) × IfTold (s.placing n.key) (λ refusal. None ≡ refusal)
    × (w2.runs ≡ w.runs) × (w2.placings ≡ and_one w.placings (record { outputs = n.outputs; bytes = n.hit })) × (w2.shop_faults ≡ w.shop_faults)
MovesPlaced s n (PlaceFault chain) w w2 =
    (first_missing (s.codec.objects n.hit) n.outputs ≡ None) × IfTold (s.placing n.key) (λ refusal. Some chain ≡ refusal)
    × (w2.runs ≡ w.runs) × (w2.placings ≡ w.placings) × Rose w.shop_faults w2.shop_faults × (w.shop_faults ≤ w2.shop_faults)

-- What moves the workshop: a run and a placing.
abbrev pub MovesShop : Setup → Need → What → World → World → Type 0
MovesShop s n (Ran a) w w2 =
    (w.shop_faults ≤ w2.shop_faults) × RunCause a w.shop_faults w2.shop_faults × IfTold (s.workshop n.key w.runs n.wanted) (λ b. a ≡ b)
    × (w2.runs ≡ and_one w.runs (n.key, a)) × (w2.placings ≡ w.placings)
MovesShop s n (Placed p) w w2 = MovesPlaced s n p w w2
MovesShop s n _ w w2 = SameShop w w2

abbrev pub SameDist : World → World → Type 0
SameDist w w2 = (w2.dists ≡ w.dists) × (w2.dist_faults ≡ w.dist_faults)

-- What moves the distributed client and the container that makes it: a job, a status, a key step, and the end of a job that a server
-- refused.
abbrev pub MovesStatus : Setup → Told → World → World → Type 0
MovesStatus s (TellsDist info) w w2 =
    Renews w.moment w.container w2.container × Tells_status s.scheduler w.moment w2.container.state info w.dist_faults w2.dist_faults × (w2.dists ≡ w.dists)
MovesStatus s _ w w2 = (w2.container ≡ w.container) × SameDist w w2

abbrev pub MovesKeyed : Need → Bool → Bool → KeyStep → World → World → Type 0
MovesKeyed n first client step w w2 =
    ((c : Container) × Renews w.moment w.container c × Tells_client w.moment c.state (n.keys first) client step w2.container.state × (w2.container ≡ record c { state = w2.container.state }))
    × SameDist w w2

abbrev pub MovesOutcome : Verdict → World → World → Type 0
MovesOutcome HttpError w w2 = (w2.container ≡ record w.container { state = reset w.moment w.container.state }) × SameDist w w2
MovesOutcome _ w w2 = (w2.container ≡ w.container) × SameDist w w2

abbrev pub MovesDist : Setup → Need → What → World → World → Type 0
MovesDist s n (Began q told) w w2 = MovesStatus s told w w2
MovesDist s n (Keyed first client step) w w2 = MovesKeyed n first client step w w2
MovesDist s n (Dist d) w w2 =
    (w2.container ≡ w.container) × (w.dist_faults ≤ w2.dist_faults) × DistCause d w.dist_faults w2.dist_faults × IfTold (s.dist n.key w.dists n.wanted) (λ b. d ≡ b)
    × (w2.dists ≡ and_one w.dists (n.key, d))
MovesDist s n (Outcome v task) w w2 = MovesOutcome v w w2
MovesDist s n _ w w2 = (w2.container ≡ w.container) × SameDist w w2

-- How an event of a request or a handed write moves the world, part by part; only time's passing moves the moment.
pub record Moves (s : Setup) (n : Need) (r : ℕ → ℕ) (x : What) (w w2 : World) : Type 0 where
  pub moment : w2.moment ≡ w.moment
  pub levels : MovesLevels s n r x w w2
  pub shop : MovesShop s n x w w2
  pub dist : MovesDist s n x w w2

-- afterwards each disk level is within its capacity
abbrev pub IsWithinBytes : Setup → List Open → World → Type 0
IsWithinBytes s rs w = (l : ℕ) → l < length s.levels → IsTrue (is_disk (kind_at s.levels l)) → part_size (level_at w l) + reserved_at l rs ≤ (level_facts s.levels l).capacity
