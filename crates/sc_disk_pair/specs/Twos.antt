-- Two disks as one: what it holds and tells.
use Rattle.std.specs.Prelude.{◌≡◌, ℕ, ◌+◌, ◌-◌, ◌^◌, min, cond, Bool, true, false, List, [], ◌∷◌, ◌++◌, length, take, Option, Some, None}
use Rattle.std.specs.Option.{option_map}
use Rattle.sc_entry.specs.Causes.{IfTold}
use Rattle.sc_entry.specs.Failing.{one_more}
use Rattle.sc_entry.specs.declared.calls.Calls.{Calls}
use Rattle.sc_disk.specs.Disks.{DiskRecord, DiskState, did_all, files_now}
use Rattle.sc_disk.specs.declared.change.Change.{Change}
use Rattle.sc_disk.specs.declared.disk.DiskError.{DiskError}
use Rattle.sc_disk.specs.declared.disk.DiskError.TheVariants as disk_errors
use Rattle.sc_disk_pair.specs.Parts.{changes_in, joined, letter_of, same_outside}
use Rattle.sc_disk_pair.specs.declared.part.Part.{Part}
use Rattle.sc_disk_pair.specs.declared.part.Part.TheVariants.{Main, Pre}

-- what both tell, once they are joined: the files of both, and no change yet
abbrev pub joint : Bool → DiskRecord → DiskRecord → Option DiskRecord
joint true a b = Some (record { outside = a.outside; first = joined (files_now a) (files_now b); done = [] })
joint false a b = None

-- both must tell, and the same of what stands outside
abbrev pub joint_told : Option DiskRecord → Option DiskRecord → Option DiskRecord
joint_told None b = None
joint_told (Some a) None = None
joint_told (Some a) (Some b) = joint (same_outside a.outside b.outside) a b

-- the changes of a disk since it told this, the newest first
abbrev pub since : Option DiskRecord → Option DiskRecord → List Change
since None now = []
since (Some then) None = []
since (Some then) (Some now) = take (length now.done - length then.done) now.done

-- What both told, each time that one of them was called; the newest stands first.
abbrev pub Past : Type 0
Past = List (Option DiskRecord × Option DiskRecord)

-- How their changes interleave: what they tell as one.
abbrev pub woven : Past → Option DiskRecord
woven [] = None
woven (t ∷ []) = joint_told t.0 t.1
woven (t ∷ s ∷ past) = option_map (did_all (changes_in Pre (since s.1 t.1) ++ changes_in Main (since s.0 t.0))) (woven (s ∷ past))

-- Two disks as one: the state of each, how many calls were refused since a path was of neither, and what both tell as one.
pub record TwoState : Type 0 where
  pub main : DiskState
  pub pre : DiskState
  pub refused : ℕ
  pub told : Option DiskRecord

abbrev pub two_state : DiskState → DiskState → ℕ → Option DiskRecord → TwoState
two_state main pre refused told = record { main = main; pre = pre; refused = refused; told = told }

abbrev pub disk_of : Part → TwoState → DiskState
disk_of Main t = t.main
disk_of Pre t = t.pre

-- the faults of both, and the refusals; the sum stops at the end of u64
abbrev pub all_faults : TwoState → ℕ
all_faults t = min (t.main.faults + (t.pre.faults + t.refused)) (2 ^ 64 - 1)

abbrev pub is_none : List ℕ → Bool
is_none [] = true
is_none (n ∷ ns) = false

-- whether no call is to fail
abbrev pub fails_none : Calls → Bool
fails_none calls = is_none calls.failing.keys

-- The calls of a disk that isn't divided. A divided one may have no place for a path, which no path of both tells.
abbrev pub whole_calls : DiskState → Option Calls
whole_calls d = cond d.divided None d.calls

-- the calls of the main disk, where the other tells that none of its is to fail
abbrev pub calls_beside : Option Calls → Option Calls → Option Calls
calls_beside main None = None
calls_beside main (Some pre) = cond (fails_none pre) main None

-- what is told of the calls of both, where the files of both are told
abbrev pub joined_calls : Option DiskRecord → Option Calls → Option Calls → Option Calls
joined_calls None main pre = None
joined_calls (Some told) main pre = calls_beside main pre

-- the letters that the paths of both begin with
abbrev pub both_letters : List ℕ
both_letters = letter_of Main ∷ letter_of Pre ∷ []

-- as one disk, under the main disk's root
abbrev pub joined_state : TwoState → DiskState
joined_state t = record { told = t.told; faults = all_faults t; calls = joined_calls t.told (whole_calls t.main) (whole_calls t.pre); root = t.main.root; divided = true; letters = both_letters }

-- two disks that were just joined
abbrev pub joins : DiskState → DiskState → TwoState
joins main pre = two_state main pre 0 (joint_told main.told pre.told)

-- What is told as one is what each tells: the files of both, and the outside that both have.
pub record IsJoint (main pre : Option DiskRecord) (told : DiskRecord) : Type 0 where
  pub a : DiskRecord
  pub b : DiskRecord
  pub main_tells : main ≡ Some a
  pub pre_tells : pre ≡ Some b
  pub main_outside : told.outside ≡ a.outside
  pub pre_outside : told.outside ≡ b.outside
  pub files : files_now told ≡ joined (files_now a) (files_now b)

-- what two disks keep, as one
pub record Weaves (main pre : Option DiskRecord) (past : Past) : Type 0 where
  pub rest : Past
  pub newest : past ≡ (main, pre) ∷ rest
  pub joint : IfTold (woven past) (IsJoint main pre)

-- one part's disk did this, and the other nothing
abbrev pub PartDoes : Part → (DiskState → DiskState → Type 0) → TwoState → TwoState → Type 0
PartDoes Main does old new = does old.main new.main × (new.pre ≡ old.pre) × (new.refused ≡ old.refused)
PartDoes Pre does old new = does old.pre new.pre × (new.main ≡ old.main) × (new.refused ≡ old.refused)

-- a path of neither part was refused, and counted
abbrev pub Refuses : TwoState → TwoState → Type 0
Refuses old new = new ≡ two_state old.main old.pre (one_more old.refused) old.told

-- why a path isn't placed: want of memory, or it is refused and counted
abbrev pub Unplaced : DiskError → TwoState → TwoState → Type 0
Unplaced disk_errors.NoMemory old new = new ≡ old
Unplaced disk_errors.Fault old new = Refuses old new
