-- Any store of entries, and what its calls do.
use Rattle.std.specs.Prelude.{◌≡◌, ◌+◌, ◌≤◌, ◌++◌, ℕ, Bool, true, false, List, Option, Some, None, codes, decimal}
use Rattle.sc_store_disk.specs.DiskStores.{entry_at, entry_path}
use Rattle.sc_entry.specs.Keys.{is_store_key}
use Rattle.sc_entry.specs.declared.cache.Cache.{Cache}
use Rattle.sc_entry.specs.declared.cache.Cache.TheVariants.{Hit as HitIs, Miss as MissIs}
use Rattle.sc_entry.specs.declared.cache_mode.CacheMode.{CacheMode}
use Rattle.sc_entry.specs.declared.cache_mode.CacheMode.TheVariants.{ReadOnly}
use Rattle.sc_entry.specs.declared.get_path_result.GetPathResult.{GetPathResult}
use Rattle.sc_entry.specs.declared.get_path_result.GetPathResult.TheVariants.{Found as FoundAt, Miss as NoFile, Unsupported as NoPaths}
use Rattle.sc_model.specs.Describing.{some_size}
use Rattle.sc_model.specs.Plan.{cause_text}
use Rattle.sc_model.specs.Asking as asking
use Rattle.sc_model.specs.Evicting as evicting
use Rattle.sc_model.specs.Levels.{Later}
use Rattle.sc_model.specs.WriteCauses.{early_cause}
use Rattle.sc_model.specs.declared.event.Answer.{Answer}
use Rattle.sc_model.specs.declared.event.Answer.TheVariants.{Found as AnswersFound, Hit as AnswersHit, Refused as AnswersRefused}
use Rattle.sc_model.specs.declared.event.Mode.{Mode}
use Rattle.sc_model.specs.declared.event.Mode.TheVariants.{Path, Pre, Raw, Whole}
use Rattle.sc_model.specs.declared.event.Written.{Written}
use Rattle.sc_model.specs.declared.event.Written.TheVariants.{Done as WriteDone, Refused as WriteRefused}
use Rattle.sc_model.specs.declared.level.Cause.{Cause}
use Rattle.sc_model.specs.declared.level.Cause.TheVariants.{BadKey, ReadOnly as ForReading}
use Rattle.sc_model.specs.declared.level.LevelKind.{LevelKind}
use Rattle.sc_model.specs.declared.level.LevelKind.TheVariants.{Disk, Remote}
use Rattle.sc_model.specs.declared.level.Policy.TheVariants.{Single}
use Rattle.sc_model.specs.declared.level.Put.TheVariants.{Done as PutDone, Level as AtLevel, NoLevels as NoneThere, Refused as PutRefused}
use Rattle.sc_model.specs.declared.level.Store.TheVariants.{Wrapper}
use Rattle.sc_stats.specs.declared.counters.LevelStats.{LevelStats}
use Rattle.sc_store_alone.specs.Checks.{ChecksAll, Stays}
use Rattle.sc_store_alone.specs.Lookups.{AreSpelled, IsCache, IsEntry, LooksUp, bytes_of}
use Rattle.sc_store_alone.specs.Moving.{Keeps}
use Rattle.sc_store_alone.specs.Preprocessor.{AsksEach, PutsPreOver}
use Rattle.sc_store_alone.specs.Puts.{PutMarks, Puts, PutsDisk}
use Rattle.sc_store_alone.specs.Sizes.{size_sum}
use Rattle.sc_store_alone.specs.Stores.{Multilevel, counted_of}
use Rattle.sc_store_alone.specs.declared.hit.Hit.{Hit}
use Rattle.sc_store_alone.specs.declared.storage_error.StorageError.{StorageError}
use Rattle.sc_store_alone.specs.declared.storage_error.StorageError.TheVariants.{Level as LevelRefused, NoLevels, NoMemory, Refused, Unsupported}
use Rattle.sc_store.specs.Asking.{AsksLevel, CauseBy, MarksAsked, MarksWrote, PreCauseAt, PutCause, PutsLevel, PutsPre, TellsMark, reads_key}
use Rattle.sc_store.specs.Basedirs.{first_flag}
use Rattle.sc_store.specs.Checking.{ChecksLevel, facts_after}
use Rattle.sc_store.specs.Held.{HeldLevel, disk_of}
use Rattle.sc_store.specs.Telling.{level_max, store_location, store_max, store_type}
use Rattle.sc_store.specs.declared.checked.Checked.{Checked}
use Rattle.sc_store.specs.declared.level.Level.{Level}
use Rattle.sc_store.specs.declared.level.Level.TheVariants.{Disk as DiskLevel, ReadOnly as OnlyRead, Remote as RemoteLevel}
use Rattle.sc_store.specs.declared.read_only.ReadOnlyLevel.TheVariants.{Disk as DiskOnly, Remote as RemoteOnly}
use Rattle.sc_store.specs.declared.checked.Checked.TheVariants.{Mode as Found, Refused as CheckRefused}

-- A store that stands alone, levels as one store, or a store that is only read.
pub data State : Type 0 where
  Alone : (level : HeldLevel) → State
  Layered : (levels : Multilevel) → State
  Wrapped : (inner : State) → State

-- a level by itself
abbrev pub level_state : {R : Type 0} {D : Type 0} {V : Type 0} → Level R D V → State
level_state (RemoteLevel store) = Alone store
level_state (DiskLevel store) = Alone store
level_state (OnlyRead (RemoteOnly only)) = Wrapped (Alone only.store)
level_state (OnlyRead (DiskOnly only)) = Wrapped (Alone only.store)

-- What a store tells of itself.

abbrev pub location_of : State → List ℕ
location_of (Alone l) = l.title.location
location_of (Layered m) = store_location m.held.policy m.held.titles
location_of (Wrapped s) = location_of s

abbrev pub type_of : State → List ℕ
type_of (Alone l) = l.title.type_name
type_of (Layered m) = store_type m.held.policy m.held.titles
type_of (Wrapped s) = type_of s

abbrev pub max_of : State → Option ℕ
max_of (Alone l) = level_max l.facts
max_of (Layered m) = store_max m.held.policy m.held.facts
max_of (Wrapped s) = max_of s

abbrev pub tells : State → Bool
tells (Alone l) = l.told
tells (Layered m) = m.held.told
tells (Wrapped s) = tells s

abbrev pub size_of : State → Option ℕ
size_of (Alone l) = asking.level_size l.facts.kind l.level l.room.reserved
size_of (Layered m) = some_size (size_sum m.held)
size_of (Wrapped s) = size_of s

-- a store that is only read hides what its levels count
abbrev pub levels_of : State → Option (List LevelStats)
levels_of (Alone l) = None
levels_of (Layered m) = Some m.counters
levels_of (Wrapped s) = None

abbrev pub flag_of : State → Bool
flag_of (Alone l) = l.title.given.flag
flag_of (Layered m) = first_flag m.held.titles
flag_of (Wrapped s) = flag_of s

abbrev pub basedirs_in : State → List (List ℕ)
basedirs_in (Alone l) = l.title.given.basedirs
basedirs_in (Layered m) = m.basedirs
basedirs_in (Wrapped s) = basedirs_in s

-- What no lookup and no put changes of a store that stands alone: what it is, and what is open there.
pub record KeepsAlone (old new : HeldLevel) : Type 0 where
  pub title : new.title ≡ old.title
  pub facts : new.facts ≡ old.facts
  pub told : new.told ≡ old.told
  pub reserved : new.room.reserved ≡ old.room.reserved
  pub entries : (number : ℕ) → entry_at new.room.entries number ≡ entry_at old.room.entries number

-- The same of any store.
abbrev pub KeepsStore : State → State → Type 0
KeepsStore (Alone a) (Alone b) = KeepsAlone a b
KeepsStore (Layered a) (Layered b) = Keeps a.held b.held × (b.basedirs ≡ a.basedirs)
KeepsStore (Wrapped a) (Wrapped b) = KeepsStore a b
KeepsStore a b = ⊥

-- A lookup at a store that stands alone. A bad key calls nothing, and a hit tells the mark of its key.
pub record LooksAlone (key : List ℕ) (mode : Mode) (answer : Answer) (old new : HeldLevel) : Type 0 where
  pub later : Later old.level new.level
  pub asked : AsksLevel key mode answer old new
  pub cause : CauseBy old.facts.kind mode answer key old.level new.level
  pub bad_key : reads_key mode ≡ true → is_store_key key ≡ false → (answer ≡ AnswersRefused BadKey) × (new ≡ old)
  pub mark : reads_key mode ≡ true → TellsMark old.facts.kind old.marks key answer
  pub marks : MarksAsked old.facts.kind mode key answer old.marks new.marks

-- a hit's bytes spell an entry
abbrev pub HitIsSpelled : Answer → Type 0
HitIsSpelled (AnswersHit bytes mark) = AreSpelled bytes
HitIsSpelled answer = Unit {0}

-- an answer that is no refusal as an entry
abbrev pub IsCached : Answer → Cache → Type 0
IsCached (AnswersHit bytes mark) cache = IsEntry bytes cache
IsCached (AnswersRefused cause) cache = ⊥
IsCached answer cache = cache ≡ MissIs

-- one that is no refusal as the bytes that stand under the key
abbrev pub AreIn : Answer → Option (List ℕ) → Type 0
AreIn (AnswersHit bytes mark) found = found ≡ Some bytes
AreIn (AnswersRefused cause) found = ⊥
AreIn answer found = found ≡ None

-- a refusal as an error; want of memory is free
abbrev pub IsRefusal : StorageError → Answer → Type 0
IsRefusal NoMemory answer = Unit {0}
IsRefusal (Refused cause) answer = answer ≡ AnswersRefused cause
IsRefusal error answer = ⊥

-- An entry was looked up: at a store that stands alone, or over levels.
abbrev pub Gets : State → State → List ℕ → Cache → Type 0
Gets (Alone a) (Alone b) key cache = (answer : Answer) × LooksAlone key Whole answer a b × IsCached answer cache
Gets (Layered a) (Layered b) key cache = (found : Option Hit) × LooksUp key Whole found (counted_of a) (counted_of b) × IsCache found cache
Gets (Wrapped a) (Wrapped b) key cache = Gets a b key cache
Gets a b key cache = ⊥

-- Bytes were looked up, as they are.
abbrev pub GetsRaw : State → State → List ℕ → Option (List ℕ) → Type 0
GetsRaw (Alone a) (Alone b) key bytes = (answer : Answer) × LooksAlone key Raw answer a b × AreIn answer bytes
GetsRaw (Layered a) (Layered b) key bytes = (found : Option Hit) × LooksUp key Raw found (counted_of a) (counted_of b) × (bytes ≡ bytes_of found)
GetsRaw (Wrapped a) (Wrapped b) key bytes = GetsRaw a b key bytes
GetsRaw a b key bytes = ⊥

-- what is looked up after a hit over levels: the bytes, by a lookup of their own
abbrev pub RawAfter : Cache → List ℕ → Option (List ℕ) → Multilevel → Multilevel → Type 0
RawAfter (HitIs held) key bytes old new = (again : Option Hit) × LooksUp key Raw again (counted_of old) (counted_of new) × (bytes ≡ bytes_of again)
RawAfter cache key bytes old new = (bytes ≡ None) × (new ≡ old)

-- An entry was looked up, and its bytes: at a store that stands alone both by one lookup.
abbrev pub GetsBoth : State → State → List ℕ → Cache → Option (List ℕ) → Type 0
GetsBoth (Alone a) (Alone b) key cache bytes = (answer : Answer) × LooksAlone key Whole answer a b × IsCached answer cache × AreIn answer bytes
GetsBoth (Layered a) (Layered b) key cache bytes =
    (found : Option Hit) × (between : Multilevel) × LooksUp key Whole found (counted_of a) (counted_of between) × IsCache found cache × RawAfter cache key bytes between b
GetsBoth (Wrapped a) (Wrapped b) key cache bytes = GetsBoth a b key cache bytes
GetsBoth a b key cache bytes = ⊥

-- A refused lookup at a store that stands alone. Want of memory is free.
abbrev pub LookupRefused : StorageError → List ℕ → Mode → HeldLevel → HeldLevel → Type 0
LookupRefused NoMemory key mode old new = Unit {0}
LookupRefused (Refused cause) key mode old new = LooksAlone key mode (AnswersRefused cause) old new
LookupRefused error key mode old new = ⊥

-- Over levels no refusal is one of the lookup.
abbrev pub RefusesLookup : State → State → List ℕ → Mode → StorageError → Type 0
RefusesLookup (Alone a) (Alone b) key mode error = LookupRefused error key mode a b
RefusesLookup (Layered a) (Layered b) key mode error = error ≡ NoMemory
RefusesLookup (Wrapped a) (Wrapped b) key mode error = RefusesLookup a b key mode error
RefusesLookup a b key mode error = ⊥

-- An entry of the preprocessor was looked up. What levels count stays.
abbrev pub GetsPre : State → State → List ℕ → Option (List ℕ) → Type 0
GetsPre (Alone a) (Alone b) key bytes = (answer : Answer) × LooksAlone key Pre answer a b × AreIn answer bytes
GetsPre (Layered a) (Layered b) key bytes = (answer : Answer) × AsksEach key answer a.held b.held × (b.counters ≡ a.counters) × AreIn answer bytes
GetsPre (Wrapped a) (Wrapped b) key bytes = GetsPre a b key bytes
GetsPre a b key bytes = ⊥

abbrev pub PreRefusedOver : StorageError → List ℕ → Multilevel → Multilevel → Type 0
PreRefusedOver NoMemory key old new = Unit {0}
PreRefusedOver (Refused cause) key old new = AsksEach key (AnswersRefused cause) old.held new.held × (new.counters ≡ old.counters)
PreRefusedOver error key old new = ⊥

-- A refused lookup of such an entry: over levels the first refusal is the answer.
abbrev pub RefusesPre : State → State → List ℕ → StorageError → Type 0
RefusesPre (Alone a) (Alone b) key error = LookupRefused error key Pre a b
RefusesPre (Layered a) (Layered b) key error = PreRefusedOver error key a b
RefusesPre (Wrapped a) (Wrapped b) key error = RefusesPre a b key error
RefusesPre a b key error = ⊥

-- an answer as where a file stands
abbrev pub IsPath : Answer → GetPathResult → Type 0
IsPath (AnswersFound path) found = found ≡ FoundAt path
IsPath answer found = found ≡ NoFile

-- A store that keeps no files has no paths, and is not touched.
abbrev pub PathsAlone : LevelKind → List ℕ → GetPathResult → HeldLevel → HeldLevel → Type 0
PathsAlone Disk key found old new = (answer : Answer) × LooksAlone key Path answer old new × IsPath answer found
PathsAlone Remote key found old new = (found ≡ NoPaths) × (new ≡ old)

-- It was told where a key's file stands, which a disk store that stands alone can.
abbrev pub GetsPath : State → State → List ℕ → GetPathResult → Type 0
GetsPath (Alone a) (Alone b) key found = PathsAlone a.facts.kind key found a b
GetsPath a b key found = (found ≡ NoPaths) × (b ≡ a)

-- A put at a remote store that stands alone. One that is refused for its mode or key calls nothing. No local run made its bytes.
pub record PutsRemote (key bytes : List ℕ) (how : Written) (old new : HeldLevel) : Type 0 where
  pub later : Later old.level new.level
  pub wrote : PutsLevel Single key bytes false how old new
  pub cause : PutCause (early_cause Single old.facts key) how old.level new.level
  pub early : (c : Cause) → early_cause Single old.facts key ≡ Some c → (how ≡ WriteRefused c) × (new ≡ old)
  pub marks : MarksWrote key false how old.marks new.marks

-- One at a disk store, which is within its capacity then.
abbrev pub PutsFile : List ℕ → List ℕ → Written → HeldLevel → HeldLevel → Type 0
PutsFile key bytes how old new =
    PutsDisk Single key bytes false how (disk_of old) (disk_of new) × PutMarks (entry_path key) false how old.marks new.marks (disk_of new)
    × (evicting.part_size new.level + new.room.reserved ≤ new.facts.capacity)

-- A put at a store that stands alone.
abbrev pub PutsAlone : LevelKind → List ℕ → List ℕ → Written → HeldLevel → HeldLevel → Type 0
PutsAlone Remote key bytes how old new = PutsRemote key bytes how old new
PutsAlone Disk key bytes how old new = PutsFile key bytes how old new

-- An entry, or bytes as they are, were put. A store that is only read takes none.
abbrev pub PutsIn : State → State → List ℕ → List ℕ → Type 0
PutsIn (Alone a) (Alone b) key bytes = PutsAlone a.facts.kind key bytes WriteDone a b
PutsIn (Layered a) (Layered b) key bytes = Puts key bytes PutDone (counted_of a) (counted_of b)
PutsIn a b key bytes = ⊥

-- how a put ended, as an error
abbrev pub IsWritten : StorageError → Written → Type 0
IsWritten NoMemory how = Unit {0}
IsWritten (Refused cause) how = how ≡ WriteRefused cause
IsWritten error how = ⊥

abbrev pub PutRefusedAlone : StorageError → List ℕ → List ℕ → HeldLevel → HeldLevel → Type 0
PutRefusedAlone NoMemory key bytes old new = Unit {0}
PutRefusedAlone (Refused cause) key bytes old new = PutsAlone old.facts.kind key bytes (WriteRefused cause) old new
PutRefusedAlone error key bytes old new = ⊥

-- over levels the refusal names its level
abbrev pub PutRefusedOver : StorageError → List ℕ → List ℕ → Multilevel → Multilevel → Type 0
PutRefusedOver NoMemory key bytes old new = Unit {0}
PutRefusedOver (Refused cause) key bytes old new = Puts key bytes (PutRefused cause) (counted_of old) (counted_of new)
PutRefusedOver (LevelRefused l cause) key bytes old new = Puts key bytes (AtLevel l cause) (counted_of old) (counted_of new)
PutRefusedOver NoLevels key bytes old new = Puts key bytes NoneThere (counted_of old) (counted_of new)
PutRefusedOver Unsupported key bytes old new = ⊥

-- A refused put. A store that is only read tells this, and nothing moves.
abbrev pub RefusesPut : StorageError → State → State → List ℕ → List ℕ → StorageError → Type 0
RefusesPut refusal (Alone a) (Alone b) key bytes error = PutRefusedAlone error key bytes a b
RefusesPut refusal (Layered a) (Layered b) key bytes error = PutRefusedOver error key bytes a b
RefusesPut refusal (Wrapped a) (Wrapped b) key bytes error = (error ≡ refusal) × (b ≡ a)
RefusesPut refusal a b key bytes error = ⊥

-- what it answers to a put of an entry
abbrev pub only_read : StorageError
only_read = Refused (ForReading Wrapper)

-- A put of an entry of the preprocessor at a disk store that stands alone. One that is refused for its mode or key calls nothing.
pub record PutsPreDisk (key bytes : List ℕ) (how : Written) (old new : HeldLevel) : Type 0 where
  pub later : Later old.level new.level
  pub wrote : PutsPre Single key bytes how (disk_of old) (disk_of new)
  pub marks : new.marks ≡ old.marks
  pub cause : PreCauseAt Single key bytes how (disk_of old) (disk_of new)
  pub early : (c : Cause) → early_cause Single old.facts key ≡ Some c → (how ≡ WriteRefused c) × (new ≡ old)

-- At any store that stands alone. A remote store keeps none, and is not called.
abbrev pub PutsPreAlone : LevelKind → List ℕ → List ℕ → Written → HeldLevel → HeldLevel → Type 0
PutsPreAlone Disk key bytes how old new = PutsPreDisk key bytes how old new
PutsPreAlone Remote key bytes how old new = (how ≡ WriteDone) × (new ≡ old)

-- An entry of the preprocessor was put. What levels count stays; a store that is only read takes none.
abbrev pub PutsPreIn : State → State → List ℕ → List ℕ → Type 0
PutsPreIn (Alone a) (Alone b) key bytes = PutsPreAlone a.facts.kind key bytes WriteDone a b
PutsPreIn (Layered a) (Layered b) key bytes = PutsPreOver key bytes a.held b.held × (b.counters ≡ a.counters)
PutsPreIn a b key bytes = ⊥

abbrev pub PrePutRefused : LevelKind → StorageError → List ℕ → List ℕ → HeldLevel → HeldLevel → Type 0
PrePutRefused Disk NoMemory key bytes old new = Unit {0}
PrePutRefused Disk (Refused cause) key bytes old new = PutsPreAlone Disk key bytes (WriteRefused cause) old new
PrePutRefused kind error key bytes old new = ⊥

-- A refused put of such an entry. A remote store refuses none, and over levels no refusal is one of the put.
abbrev pub RefusesPrePut : State → State → List ℕ → List ℕ → StorageError → Type 0
RefusesPrePut (Alone a) (Alone b) key bytes error = PrePutRefused a.facts.kind error key bytes a b
RefusesPrePut (Layered a) (Layered b) key bytes error = (error ≡ NoMemory) × (b.counters ≡ a.counters)
RefusesPrePut (Wrapped a) (Wrapped b) key bytes error = (error ≡ only_read) × (b ≡ a)
RefusesPrePut a b key bytes error = ⊥

-- What no check changes of a store that stands alone.
pub record StaysAlone (old new : HeldLevel) : Type 0 where
  pub title : new.title ≡ old.title
  pub told : new.told ≡ old.told
  pub room : new.room ≡ old.room
  pub marks : new.marks ≡ old.marks

abbrev pub StaysStore : State → State → Type 0
StaysStore (Alone a) (Alone b) = StaysAlone a b
StaysStore (Layered a) (Layered b) = Stays a.held b.held × (b.counters ≡ a.counters) × (b.basedirs ≡ a.basedirs)
StaysStore (Wrapped a) (Wrapped b) = b ≡ a
StaysStore a b = ⊥

-- The check of a store that stands alone.
abbrev pub ChecksAlone : Checked → HeldLevel → HeldLevel → Type 0
ChecksAlone answer old new = (new.facts ≡ facts_after old.facts answer) × ChecksLevel answer old new

-- A store that is only read is found to be so.
abbrev pub ChecksIn : State → State → CacheMode → Type 0
ChecksIn (Alone a) (Alone b) mode = ChecksAlone (Found mode) a b
ChecksIn (Layered a) (Layered b) mode = ChecksAll (Found mode) a.held b.held
ChecksIn (Wrapped a) (Wrapped b) mode = mode ≡ ReadOnly
ChecksIn a b mode = ⊥

abbrev pub CheckRefusedAlone : StorageError → HeldLevel → HeldLevel → Type 0
CheckRefusedAlone NoMemory old new = Unit {0}
CheckRefusedAlone (Refused cause) old new = ChecksAlone (CheckRefused cause) old new
CheckRefusedAlone error old new = ⊥

abbrev pub CheckRefusedOver : StorageError → Multilevel → Multilevel → Type 0
CheckRefusedOver NoMemory old new = Unit {0}
CheckRefusedOver (Refused cause) old new = ChecksAll (CheckRefused cause) old.held new.held
CheckRefusedOver error old new = ⊥

abbrev pub RefusesCheck : State → State → StorageError → Type 0
RefusesCheck (Alone a) (Alone b) error = CheckRefusedAlone error a b
RefusesCheck (Layered a) (Layered b) error = CheckRefusedOver error a b
RefusesCheck a b error = ⊥

-- an error in words
abbrev pub error_text : StorageError → List ℕ
error_text NoMemory = codes "out of memory"
error_text (Refused cause) = cause_text cause
error_text (LevelRefused l cause) = codes "Failed to write to cache level " ++ decimal l ++ codes ": " ++ cause_text cause
error_text NoLevels = codes "No cache levels configured"
error_text Unsupported = codes "put_raw not implemented for this storage backend"
