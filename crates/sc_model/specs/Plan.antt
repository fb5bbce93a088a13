-- Which levels are written, and what a refusal means.
use Rattle.std.specs.Prelude.{ℕ, zero, suc, Bool, true, false, ◌&&◌, not, if◌then◌else◌, List, [], ◌∷◌, ◌++◌, take, slice_index_or, Ok, Err, codes, Result, decimal}
use Rattle.sc_model.specs.declared.event.Answer.{Answer}
use Rattle.sc_model.specs.declared.event.Answer.TheVariants.{Hit}
use Rattle.sc_model.specs.declared.event.Mode.{Mode}
use Rattle.sc_model.specs.declared.event.Mode.TheVariants.{Raw, Whole}
use Rattle.sc_model.specs.declared.level.Cause.{Cause}
use Rattle.sc_model.specs.declared.level.Cause.TheVariants.{BadEntry, BadKey, FileTooLarge, Io, NotOpen, ReadOnly as ForReading, RemoteFault as RemoteRefused, Reserved as NoRoom}
use Rattle.sc_model.specs.declared.level.Handed.{Handed}
use Rattle.sc_model.specs.declared.level.LevelFacts.{LevelFacts}
use Rattle.sc_model.specs.declared.level.LevelKind.{LevelKind}
use Rattle.sc_model.specs.declared.level.LevelKind.TheVariants.{Disk, Remote}
use Rattle.sc_model.specs.declared.level.LevelPolicy.{LevelPolicy}
use Rattle.sc_model.specs.declared.level.LevelPolicy.TheVariants.{Background, Off, Required}
use Rattle.sc_model.specs.declared.level.Policy.{Policy}
use Rattle.sc_model.specs.declared.level.Policy.TheVariants.{Levels, Single}
use Rattle.sc_model.specs.declared.level.Put.{Put}
use Rattle.sc_model.specs.declared.level.Put.TheVariants.{Done as PutDone, Level as PutLevel, NoLevels, Refused as PutRefused}
use Rattle.sc_model.specs.declared.level.RemoteFault.{RemoteFault}
use Rattle.sc_model.specs.declared.level.RemoteFault.TheVariants.{AlreadyExists, Other as OtherFault, RateLimited}
use Rattle.sc_model.specs.declared.level.Store.TheVariants.{Disk as DiskStore, Remote as RemoteStore, Wrapper as WrapperStore}
use Rattle.sc_entry.specs.declared.cache_mode.CacheMode.{CacheMode}
use Rattle.sc_entry.specs.declared.cache_mode.CacheMode.TheVariants.{ReadOnly as ModeReadOnly, ReadWrite as ModeReadWrite}
use Rattle.sc_model.specs.declared.phase.Bytes.{Bytes}
use Rattle.sc_model.specs.declared.phase.Refusal.{Refusal}
use Rattle.sc_model.specs.declared.phase.Refusal.TheVariants.{At as RefusedAt, NoneYet}

abbrev pub is_disk : LevelKind → Bool
is_disk Disk = true
is_disk Remote = false

abbrev pub reads_only : CacheMode → Bool
reads_only ModeReadOnly = true
reads_only ModeReadWrite = false

abbrev pub no_level : LevelFacts
no_level = record { kind = Remote; wrapped = false; configured = ModeReadOnly; mode = ModeReadOnly; capacity = 0; root = [] }

abbrev pub level_facts : List LevelFacts → ℕ → LevelFacts
level_facts fs l = slice_index_or fs l no_level

-- a missing policy is Background
abbrev pub first_policy : List LevelPolicy → LevelPolicy
first_policy [] = Background
first_policy (p ∷ ps) = p

abbrev pub rest_policies : List LevelPolicy → List LevelPolicy
rest_policies [] = []
rest_policies (p ∷ ps) = ps

abbrev pub is_required : LevelPolicy → Bool
is_required Required = true
is_required _ = false

abbrev pub is_background : LevelPolicy → Bool
is_background Background = true
is_background _ = false

abbrev pub takes_writes : LevelPolicy → Bool
takes_writes Off = false
takes_writes _ = true

-- the writable levels from n on with such a policy, in order
abbrev pub levels_of : (LevelPolicy → Bool) → ℕ → List LevelPolicy → List LevelFacts → List ℕ
levels_of test n ps [] = []
levels_of test n ps (f ∷ fs) =
    if not (reads_only f.mode) && test (first_policy ps) then n ∷ levels_of test (suc n) (rest_policies ps) fs
    else levels_of test (suc n) (rest_policies ps) fs

-- the levels that are written before the answer; a single store takes its refusals too
abbrev pub plan : Policy → List LevelFacts → List ℕ
plan Single fs = 0 ∷ []
plan (Levels ps) fs = levels_of is_required 0 ps fs

-- those whose writes are handed on
abbrev pub background : Policy → List LevelFacts → List ℕ
background Single fs = []
background (Levels ps) fs = levels_of is_background 0 ps fs

-- those that take a preprocessor entry
abbrev pub pre_plan : Policy → List LevelFacts → List ℕ
pre_plan Single fs = 0 ∷ []
pre_plan (Levels ps) fs = levels_of takes_writes 0 ps fs

-- those below i that take a backfill
abbrev pub backfilled : Policy → List LevelFacts → ℕ → List ℕ
backfilled Single fs i = []
backfilled (Levels ps) fs i = levels_of takes_writes 0 ps (take i fs)

-- the first refusal stands
abbrev pub note : Refusal → ℕ → Cause → Refusal
note NoneYet l c = RefusedAt l c
note (RefusedAt k d) l c = RefusedAt k d

-- a refused level 0 ends the write
abbrev pub goes_on : Refusal → List ℕ → List ℕ
goes_on NoneYet ls = ls
goes_on (RefusedAt zero c) ls = []
goes_on (RefusedAt (suc l) c) ls = ls

abbrev pub is_none : List LevelFacts → Bool
is_none [] = true
is_none (f ∷ fs) = false

-- a put's answer by its first refusal
abbrev pub put_answer : Policy → List LevelFacts → Refusal → Put
put_answer Single fs NoneYet = PutDone
put_answer Single fs (RefusedAt l c) = PutRefused c
put_answer (Levels ps) [] r = NoLevels
put_answer (Levels ps) (f ∷ fs) NoneYet = PutDone
put_answer (Levels ps) (f ∷ fs) (RefusedAt l c) = PutLevel l c

abbrev pub hand_to : Bytes → List ℕ → List Handed
hand_to b [] = []
hand_to b (l ∷ ls) = record { level = l; key = b.key; bytes = b.bytes; marked = b.run } ∷ hand_to b ls

-- what a put hands on
abbrev pub handed_by : Policy → List LevelFacts → Bytes → Refusal → List Handed
handed_by p fs b r = hand_to b (goes_on r (background p fs))

-- what a lookup's answer hands on
abbrev pub backfills : Policy → List LevelFacts → ℕ → List ℕ → Mode → Answer → List Handed
backfills p fs l k Whole (Hit b m) = hand_to (record { key = k; bytes = b; run = m }) (backfilled p fs l)
backfills p fs l k Raw (Hit b m) = hand_to (record { key = k; bytes = b; run = m }) (backfilled p fs l)
backfills p fs l k mode a = []

-- texts
abbrev pub remote_text : RemoteFault → List ℕ
remote_text AlreadyExists = codes "AlreadyExists"
remote_text RateLimited = codes "RateLimited"
remote_text OtherFault = codes "Other"

abbrev pub cause_text : Cause → List ℕ
cause_text FileTooLarge = codes "File too large"
cause_text Io = codes "disk fault"
cause_text NoRoom = codes "space is reserved"
cause_text BadKey = codes "bad key"
cause_text BadEntry = codes "Failed to parse cache entry"
cause_text (ForReading DiskStore) = codes "Cannot write to a read-only cache"
cause_text (ForReading RemoteStore) = codes "storage is read-only"
cause_text (ForReading WrapperStore) = codes "Cannot write to read-only storage"
cause_text (RemoteRefused k) = codes "remote fault: " ++ remote_text k
cause_text (NotOpen n) = codes "entry " ++ decimal n ++ codes " is not open"

-- a put's reply, Ok or the text of its refusal
abbrev pub put_result : Put → Result Unit (List ℕ)
put_result PutDone = Ok tt
put_result (PutRefused c) = Err (cause_text c)
put_result (PutLevel n c) = Err (codes "Failed to write to cache level " ++ decimal n ++ codes ": " ++ cause_text c)
put_result NoLevels = Err (codes "No cache levels configured")

-- a preprocessor put: a single store's refusal is told, those of levels are ignored
abbrev pub pre_put_result : Policy → Refusal → Result Unit (List ℕ)
pre_put_result Single (RefusedAt l c) = Err (cause_text c)
pre_put_result _ r = Ok tt
