-- What may be due of a request or a handed write, and where a lookup or a write goes on.
use Rattle.std.specs.Prelude.{ℕ, Bool, false, ◌&&◌, not, if◌then◌else◌, List, [], ◌∷◌, length, drop, nat_lt}
use Rattle.sc_model.specs.Job.{Own, over, refused}
use Rattle.sc_model.specs.Plan.{goes_on, handed_by, is_disk, level_facts, plan, pre_plan, pre_put_result, put_answer}
use Rattle.sc_model.specs.Script.{Setup}
use Rattle.sc_model.specs.declared.event.Mode.{Mode}
use Rattle.sc_model.specs.declared.event.Mode.TheVariants.{Pre, Whole}
use Rattle.sc_model.specs.declared.event.Task.{Task}
use Rattle.sc_model.specs.declared.event.Verdict.{Verdict}
use Rattle.sc_model.specs.declared.level.Handed.{Handed}
use Rattle.sc_model.specs.declared.level.LevelFacts.{LevelFacts}
use Rattle.sc_model.specs.declared.level.LevelKind.{LevelKind}
use Rattle.sc_model.specs.declared.level.LevelKind.TheVariants.{Disk, Remote}
use Rattle.sc_model.specs.declared.level.Policy.{Policy}
use Rattle.sc_model.specs.declared.level.Policy.TheVariants.{Single}
use Rattle.sc_model.specs.declared.level.Put.{Put}
use Rattle.sc_model.specs.declared.message.CompileFinished.{CompileFinished}
use Rattle.sc_model.specs.declared.message.Response.{Response}
use Rattle.sc_model.specs.declared.message.Response.TheVariants.{StoragePutPreprocessorEntry as PrePutReply}
use Rattle.sc_model.specs.declared.phase.Bytes.{Bytes}
use Rattle.sc_model.specs.declared.phase.Refusal.{Refusal}

-- what is due next
pub data Due : Type 0 where
  ToBegin : Due
  ToSend : (reply : Response) → Due
  -- these notifications, and then the last reply
  ToFinish : (notes : List (List ℕ)) (last : CompileFinished) → Due
  -- the first key step, or the one again
  ToKey : (first : Bool) → Due
  ToAsk : (mode : Mode) (level : ℕ) (key : List ℕ) → Due
  ToPlace : Due
  ToDist : Due
  ToTake : Due
  ToRun : Due
  ToEnd : (verdict : Verdict) (task : Task) → Due
  ToReserve : (level : ℕ) (put : Bytes) → Due
  ToFill : (level : ℕ) (put : Bytes) → Due
  ToCommit : (level : ℕ) (put : Bytes) → Due
  ToWrite : (mode : Mode) (level : ℕ) (put : Bytes) → Due
  ToEndWrite : (answer : Put) (handed : List Handed) → Due
  Over : Due
  -- the connection ended by a reply that was too long; these were left
  Stopped : (left : List Response) → Due

abbrev pub kind_at : List LevelFacts → ℕ → LevelKind
kind_at fs l = (level_facts fs l).kind

abbrev pub start_write : LevelKind → ℕ → Bytes → Due
start_write Disk l b = ToReserve l b
start_write Remote l b = ToWrite Whole l b

-- the next level of a write part
abbrev pub next_write : Setup → Bytes → Refusal → List ℕ → Due
next_write s b r [] = ToEndWrite (put_answer s.policy s.levels r) (handed_by s.policy s.levels b r)
next_write s b r (l ∷ ls) = start_write (kind_at s.levels l) l b

-- the next level of a preprocessor put
abbrev pub next_pre : Setup → Bytes → Refusal → List ℕ → Due
next_pre s b r [] = ToSend (PrePutReply (pre_put_result s.policy r))
next_pre s b r (l ∷ ls) = ToWrite Pre l b

-- the levels that are left
abbrev pub left : Setup → List Own → List ℕ
left s own = goes_on (refused own) (drop (over own) (plan s.policy s.levels))

abbrev pub left_pre : Setup → List Own → List ℕ
left_pre s own = drop (over own) (pre_plan s.policy s.levels)

-- a lookup's next level, or what comes after the last
abbrev pub ask_next : Setup → Mode → ℕ → List ℕ → Due → Due
ask_next s mode l k last = if nat_lt l (length s.levels) then ToAsk mode l k else last

abbrev pub is_disk_alone : Policy → List LevelFacts → Bool
is_disk_alone Single (f ∷ fs) = is_disk f.kind && not f.wrapped
is_disk_alone _ fs = false
