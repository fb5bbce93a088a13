-- Writes that were handed on and are not done, and the entries of disk levels that they hold.
use Rattle.std.specs.Prelude.{◌≡◌, ℕ, zero, suc, ◌<◌, ◌≤◌, Bool, true, false, List, [], ◌∷◌, length, Option, Some, None, refl}
use Rattle.std.specs.Coded.{Coded, code_by, coded×, coded_bool, coded_list, coded_option, coded_ℕ}
use Rattle.sc_daemon_action.specs.Hands.{IsOwn}
use Rattle.sc_disk.specs.Store.{AddEntry}
use Rattle.sc_daemon_hold.specs.Holding.{Hand, HandsIn, IsHeld, KeepsIn, Rooms, hand_at}
use Rattle.sc_daemon_job.specs.Setups.{Config, setup}
use Rattle.sc_model.specs.Dues.{kind_at}
use Rattle.sc_model.specs.Follows.{Fits, bytes_in}
use Rattle.sc_model.specs.Job.{mark_of}
use Rattle.sc_model.specs.Conns.{reserved_after}
use Rattle.sc_model.specs.Pendings.{due_pending, stage_after, stage_fills}
use Rattle.sc_model.specs.Trace.{ends_write, no_request}
use Rattle.sc_model.specs.World.{Need}
use Rattle.sc_model.specs.contracts.phase.Pending as pending_type
use Rattle.sc_model.specs.declared.event.What.{What}
use Rattle.sc_model.specs.declared.level.LevelKind.TheVariants.{Disk}
use Rattle.sc_model.specs.declared.phase.Bytes.{Bytes}
use Rattle.sc_model.specs.declared.phase.Pending.{Pending}
use Rattle.sc_model.specs.declared.phase.Stage.{Stage}
use Rattle.sc_model.specs.declared.phase.Stage.TheVariants.{Filled as IsFilled, Fresh, Reserved as IsReserved}

pub record Write : Type 0 where
  pub pending : Pending
  -- the entry that it holds, where it has opened one
  pub entry : Option AddEntry

abbrev pub entry_code : Coded AddEntry
entry_code = code_by (ℕ × (List ℕ × Bool)) (coded× coded_ℕ (coded× (coded_list coded_ℕ) coded_bool))
    (λ e. (e.number, (e.key, e.divided)))
    (λ p. record { number = p.0; key = p.1.0; divided = p.1.1 })
    (λ _. refl)

abbrev pub write_code : Coded Write
write_code = code_by (Pending × Option AddEntry) (coded× pending_type.the_row.coded (coded_option entry_code))
    (λ w. (w.pending, w.entry))
    (λ p. record { pending = p.0; entry = p.1 })
    (λ _. refl)

abbrev pub pending_of : Write → Pending
pending_of w = w.pending

-- writes as they are handed on: none holds an entry
abbrev pub fresh_writes : List Pending → List Write
fresh_writes [] = []
fresh_writes (p ∷ ps) = record { pending = p; entry = None } ∷ fresh_writes ps

-- the element at a place
abbrev pub write_at : ℕ → List Write → Option Write
write_at i [] = None
write_at zero (w ∷ ws) = Some w
write_at (suc i) (w ∷ ws) = write_at i ws

-- the mark that a commit of its entry is to give
abbrev pub MarksAs : Need → Pending → Type 0
MarksAs n p = n.mark ≡ mark_of (stage_fills p.stage p.handed.marked)

-- what is needed gives the mark of the write at this place
abbrev pub MarksAt : ℕ → List Write → Need → Type 0
MarksAt i ws n = (w : Write) → write_at i ws ≡ Some w → MarksAs n w.pending

-- the write at this place is done, or stands there as this one
abbrev pub put_write : Bool → Write → List Write → List Write
put_write true w ws = ws
put_write false w ws = w ∷ ws

abbrev pub with_write : ℕ → Bool → Write → List Write → List Write
with_write n done w [] = []
with_write zero done w (x ∷ xs) = put_write done w xs
with_write (suc n) done w (x ∷ xs) = x ∷ with_write n done w xs

-- the write's pending part, once an event of this moment is done
abbrev pub stepped : ℕ → What → Pending → Pending
stepped m x p = record p { stage = stage_after p.stage x; since = reserved_after p.since m x }

-- how far a write is, and the entry that it holds then; d are the levels as disk stores, where nobody else moves them
abbrev pub IsAtStage : Config → Option Rooms → Stage → Option AddEntry → ℕ → Bytes → Type 0
IsAtStage k d Fresh entry l b = entry ≡ None
IsAtStage k d IsReserved entry l b = (kind_at k.levels l ≡ Disk) × IsHeld d l entry b [] None
IsAtStage k d IsFilled entry l b = (kind_at k.levels l ≡ Disk) × IsHeld d l entry b b.bytes (Some b.run)

-- a write that can be gone on with: its level is there
abbrev pub IsPending : Config → Option Rooms → Write → Type 0
IsPending k d w = (w.pending.handed.level < length k.levels) × IsAtStage k d w.pending.stage w.entry w.pending.handed.level (bytes_in w.pending.handed)

abbrev pub ArePending : Config → Option Rooms → List Write → Type 0
ArePending k d [] = Unit {0}
ArePending k d (w ∷ ws) = IsPending k d w × ArePending k d ws

-- the entry that a write holds
abbrev pub hand_in : Write → Option Hand
hand_in w = hand_at w.entry w.pending.handed.level (length w.pending.handed.bytes)

-- the numbers of the writes rise, from this one on, and are below that one
abbrev pub AreNumbered : ℕ → ℕ → List Write → Type 0
AreNumbered from below [] = Unit {0}
AreNumbered from below (w ∷ ws) = (from ≤ w.pending.number) × (w.pending.number < below) × AreNumbered (suc w.pending.number) below ws

-- One event of a handed write, of whose stage and moment nothing is kept yet.
pub record Goes (k : Config) (d d2 : Option Rooms) (x : What) (old new : Write) : Type 0 where
  pub fits : Fits (setup k) no_request (due_pending k.levels old.pending) x
  pub pending : new.pending ≡ old.pending
  pub own : IsOwn x
  pub stands : ends_write x ≡ false → IsAtStage k d2 (stage_after old.pending.stage x) new.entry old.pending.handed.level (bytes_in old.pending.handed)
  pub hands : HandsIn d x (hand_in old) (hand_in new)
  pub others : KeepsIn (hand_in old) d d2

-- One event of a handed write: the one that is due.
pub record Advances (k : Config) (moment : ℕ) (d d2 : Option Rooms) (x : What) (old new : Write) : Type 0 where
  pub fits : Fits (setup k) no_request (due_pending k.levels old.pending) x
  pub pending : new.pending ≡ stepped moment x old.pending
  pub own : IsOwn x
  pub stands : ends_write x ≡ false → IsPending k d2 new
  pub hands : HandsIn d x (hand_in old) (hand_in new)
  pub others : KeepsIn (hand_in old) d d2

-- one event of the write at a place among all
pub record AdvancesAt (k : Config) (moment : ℕ) (d d2 : Option Rooms) (i : ℕ) (x : What) (old new : List Write) : Type 0 where
  pub write : Write
  pub at : write_at i old ≡ Some write
  pub then : Write
  pub advances : Advances k moment d d2 x write then
  pub left : new ≡ with_write i (ends_write x) then old
