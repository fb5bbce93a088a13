-- What a check finds: whether a store can be read, and whether it can be written.
use Rattle.std.specs.Prelude.{◌≡◌, Bool, true, false, List, ℕ, Option, None, Some, codes}
use Rattle.sc_entry.specs.declared.cache_mode.CacheMode.{CacheMode}
use Rattle.sc_entry.specs.declared.cache_mode.CacheMode.TheVariants.{ReadOnly, ReadWrite}
use Rattle.sc_model.specs.Plan.{level_facts}
use Rattle.sc_model.specs.Levels.{Later, Level}
use Rattle.sc_model.specs.declared.level.Cause.TheVariants.{RemoteFault as RemoteRefused}
use Rattle.sc_model.specs.declared.level.LevelFacts.{LevelFacts}
use Rattle.sc_model.specs.declared.level.LevelKind.{LevelKind}
use Rattle.sc_model.specs.declared.level.LevelKind.TheVariants.{Disk, Remote}
use Rattle.sc_model.specs.declared.level.RemoteFault.{RemoteFault}
use Rattle.sc_model.specs.declared.level.RemoteFault.TheVariants.{AlreadyExists, RateLimited}
use Rattle.sc_store.specs.Held.{Held, HeldLevel, level_in, title_in}
use Rattle.sc_store.specs.Remotes.{ReadCause, Reads, WriteCause, Writes}
use Rattle.sc_store.specs.declared.checked.Checked.{Checked}
use Rattle.sc_store.specs.declared.checked.Checked.TheVariants.{Mode, Refused}
use Rattle.sc_store.specs.declared.remote.RemoteRead.{RemoteRead}
use Rattle.sc_store.specs.declared.remote.RemoteRead.TheVariants.{Refused as ReadRefused}
use Rattle.sc_store.specs.declared.remote.RemoteWrite.{RemoteWrite}
use Rattle.sc_store.specs.declared.remote.RemoteWrite.TheVariants.{Done, Refused as WriteRefused}

-- the path that a check reads and writes, and the bytes that it writes there
abbrev pub check_path : List ℕ
check_path = codes ".sccache_check"

abbrev pub greeting : List ℕ
greeting = codes "Hello, World!"

-- The read of a check: what it found is so of a level that tells what it holds.
pub record ReadsCheck (read : RemoteRead) (told : Bool) (before now : Level) : Type 0 where
  pub later : Later before now
  pub pre : now.pre ≡ before.pre
  pub reads : told ≡ true → Reads read before.losses now.losses check_path before.main now.main
  pub cause : ReadCause read before.faults now.faults

-- Its write.
pub record WritesCheck (how : RemoteWrite) (told : Bool) (before now : Level) : Type 0 where
  pub later : Later before now
  pub pre : now.pre ≡ before.pre
  pub writes : told ≡ true → Writes how before.losses now.losses check_path greeting before.main now.main
  pub cause : WriteCause how before.faults now.faults

-- A store that can be written, or holds the file already, is read and written; any other fault leaves it to be read.
abbrev pub written_mode : RemoteWrite → CacheMode
written_mode Done = ReadWrite
written_mode (WriteRefused AlreadyExists) = ReadWrite
written_mode (WriteRefused fault) = ReadOnly

-- A store that was made to be read alone is not written.
abbrev pub Greets : CacheMode → Checked → Bool → Level → Level → Type 0
Greets ReadOnly answer told before now = (answer ≡ Mode ReadOnly) × (now ≡ before)
Greets ReadWrite answer told before now = (how : RemoteWrite) × WritesCheck how told before now × (answer ≡ Mode (written_mode how))

-- why a check's read ends it: it was refused, but not for coming too often
abbrev pub refusal_of : RemoteRead → Option RemoteFault
refusal_of (ReadRefused RateLimited) = None
refusal_of (ReadRefused fault) = Some fault
refusal_of read = None

abbrev pub Finds : Option RemoteFault → CacheMode → Checked → Bool → Level → Level → Type 0
Finds (Some fault) configured answer told before now = (answer ≡ Refused (RemoteRefused fault)) × (now ≡ before)
Finds None configured answer told before now = Greets configured answer told before now

abbrev pub Probes : CacheMode → Checked → Bool → Level → Level → Type 0
Probes configured answer told before now =
    (read : RemoteRead) × (between : Level) × ReadsCheck read told before between × Finds (refusal_of read) configured answer told between now

-- A check that is left out finds the mode that the store was made with.
abbrev pub ChecksRemote : Bool → CacheMode → Checked → Bool → Level → Level → Type 0
ChecksRemote true configured answer told before now = (answer ≡ Mode configured) × (now ≡ before)
ChecksRemote false configured answer told before now = Probes configured answer told before now

-- The check of a disk store finds its mode.
abbrev pub Checks : LevelFacts → LevelKind → Bool → Checked → Bool → Level → Level → Type 0
Checks facts Disk unchecked answer told before now = (answer ≡ Mode facts.mode) × (now ≡ before)
Checks facts Remote unchecked answer told before now = ChecksRemote unchecked facts.configured answer told before now

-- The check of a store that is only read makes no call.
abbrev pub ChecksBy : Bool → LevelFacts → Bool → Checked → Bool → Level → Level → Type 0
ChecksBy true facts unchecked answer told before now = (answer ≡ Mode ReadOnly) × (now ≡ before)
ChecksBy false facts unchecked answer told before now = Checks facts facts.kind unchecked answer told before now

abbrev pub ChecksLevel : Checked → HeldLevel → HeldLevel → Type 0
ChecksLevel answer before now = ChecksBy before.facts.wrapped before.facts before.title.given.unchecked answer before.told before.level now.level

-- the mode that holds after a check: what it found, or the one before where it was refused
abbrev pub mode_after : CacheMode → Checked → CacheMode
mode_after mode (Mode found) = found
mode_after mode (Refused cause) = mode

abbrev pub facts_after : LevelFacts → Checked → LevelFacts
facts_after facts answer = record facts { mode = mode_after facts.mode answer }

-- The check of one level of levels.
abbrev pub ChecksAt : ℕ → Checked → Held → Held → Type 0
ChecksAt l answer old new =
    ChecksBy (level_facts old.facts l).wrapped (level_facts old.facts l) (title_in old.titles l).given.unchecked answer old.told (level_in old.levels l) (level_in new.levels l)
