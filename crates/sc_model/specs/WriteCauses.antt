-- Why a level refuses a write, where its device doesn't.
use Rattle.std.specs.Prelude.{ℕ, ◌+◌, Bool, true, false, ◌&&◌, ◌||◌, not, if◌then◌else◌, List, Option, Some, None, nat_lt}
use Rattle.sc_model.specs.Plan.{is_disk, reads_only}
use Rattle.sc_model.specs.Script.{is_single}
use Rattle.sc_model.specs.declared.level.Cause.{Cause}
use Rattle.sc_model.specs.declared.level.Cause.TheVariants.{BadKey, FileTooLarge, ReadOnly as ForReading, Reserved as NoRoom}
use Rattle.sc_model.specs.declared.level.LevelFacts.{LevelFacts}
use Rattle.sc_model.specs.declared.level.LevelKind.{LevelKind}
use Rattle.sc_model.specs.declared.level.LevelKind.TheVariants.{Disk, Remote}
use Rattle.sc_model.specs.declared.level.Policy.{Policy}
use Rattle.sc_model.specs.declared.level.Store.{Store as StoreType}
use Rattle.sc_model.specs.declared.level.Store.TheVariants.{Disk as DiskStore, Remote as RemoteStore, Wrapper as WrapperStore}
use Rattle.sc_entry.specs.Keys.{is_store_key}

-- the first cause that a write is refused for, where its device does not fail
abbrev pub read_only_store : LevelFacts → Bool → StoreType
read_only_store f true = WrapperStore
read_only_store f false = if is_disk f.kind then DiskStore else RemoteStore

abbrev pub or_cause : Bool → Cause → Option Cause → Option Cause
or_cause true c rest = Some c
or_cause false c rest = rest

abbrev pub room_cause : LevelKind → ℕ → ℕ → ℕ → Option Cause
room_cause Disk capacity r n = or_cause (nat_lt capacity n) FileTooLarge (or_cause (nat_lt capacity (n + r)) NoRoom None)
room_cause Remote capacity r n = None

-- A single store is asked for each write and refuses it where it was made to be read alone. Among levels such a level isn't asked;
-- a read-only wrapper refuses each write, whoever asks.
abbrev pub refuses_writes : Policy → LevelFacts → Bool
refuses_writes p f = f.wrapped || (is_single p && reads_only f.configured)

-- causes that are found before the store is opened: the mode, then the key
abbrev pub early_cause : Policy → LevelFacts → List ℕ → Option Cause
early_cause p f k = or_cause (refuses_writes p f) (ForReading (read_only_store f f.wrapped)) (or_cause (not (is_store_key k)) BadKey None)

abbrev pub write_cause : Policy → LevelFacts → ℕ → List ℕ → ℕ → Option Cause
write_cause p f r k n = or_cause (refuses_writes p f) (ForReading (read_only_store f f.wrapped)) (or_cause (not (is_store_key k)) BadKey (room_cause f.kind f.capacity r n))

-- the causes of one write: those before its store is opened, and all
pub record Causes : Type 0 where
  pub early : Option Cause
  pub all : Option Cause

abbrev pub causes : Policy → LevelFacts → ℕ → List ℕ → ℕ → Causes
causes p f r k n = record { early = early_cause p f k; all = write_cause p f r k n }
