-- Why a key came to what it did, where its stores stand alone.
use Rattle.std.specs.Prelude.{◌≡◌, ◌↔◌, ℕ, Bool, true, false, List, length, Option, Some, None}
use Rattle.sc_entry.specs.Entries.{objects}
use Rattle.sc_entry.specs.Keys.{is_store_key}
use Rattle.sc_model.specs.Levels.{Level, held}
use Rattle.sc_model.specs.WriteCauses.{Causes, causes}
use Rattle.sc_model.specs.declared.event.Answer.TheVariants.{Refused as AnswersRefused}
use Rattle.sc_model.specs.declared.event.Mode.TheVariants.{Raw}
use Rattle.sc_model.specs.declared.event.Written.{Written}
use Rattle.sc_model.specs.declared.event.Written.TheVariants.{Done as WriteDone, Refused as WriteRefused}
use Rattle.sc_model.specs.declared.level.Cause.TheVariants.{BadKey}
use Rattle.sc_model.specs.declared.level.LevelKind.{LevelKind}
use Rattle.sc_model.specs.declared.level.LevelKind.TheVariants.{Disk, Remote}
use Rattle.sc_model.specs.declared.level.Policy.TheVariants.{Single}
use Rattle.sc_store.specs.Asking.{CauseBy, PutCause}
use Rattle.sc_store.specs.Held.{HeldLevel}
use Rattle.sc_store_alone.specs.Lookups.{AreSpelled}
use Rattle.sc_store_alone.specs.Puts.{EntryCause}
use Rattle.sc_store_alone.specs.Storages.{Alone, GetsRaw, Layered, State, Wrapped}
use Rattle.sc_store_alone.specs.declared.storage_error.StorageError.{StorageError}
use Rattle.sc_store_alone.specs.declared.storage_error.StorageError.TheVariants.{Refused, Unsupported}
use Rattle.sc_store_warm.specs.declared.warmed.Warmed.{Warmed}
use Rattle.sc_store_warm.specs.declared.warmed.Warmed.TheVariants.{Absent, Copied, FromRefused, ToRefused, Torn}

-- what a store that stands alone holds under a key, where it tells that
abbrev pub held_under : HeldLevel → List ℕ → Option (List ℕ)
held_under store key = held store.facts.kind store.level key

-- A fact of a store that stands alone and tells what it holds, also behind a wrapper that is only read.
abbrev pub IfTells : State → (HeldLevel → Type 0) → Type 0
IfTells (Alone store) fact = store.told ≡ true → fact store
IfTells (Layered levels) fact = Unit {0}
IfTells (Wrapped store) fact = IfTells store fact

-- the source was not refused
abbrev pub IsRead : Warmed → Type 0
IsRead (FromRefused refusal) = ⊥
IsRead warmed = Unit {0}

-- bytes that spell no entry
abbrev pub AreTorn : Option (List ℕ) → Type 0
AreTorn None = ⊥
AreTorn (Some bytes) = objects bytes ≡ None

-- Where the source was read, a key is absent exactly where the source has nothing under it.
abbrev pub AbsentWhere : List ℕ → Warmed → State → State → State → State → Type 0
AbsentWhere key warmed from from2 to to2 = IsRead warmed → IfTells from2 (λ source. (warmed ≡ Absent) ↔ (held_under source key ≡ None))

-- It is torn exactly where what the source has under it spells no entry.
abbrev pub TornWhere : List ℕ → Warmed → State → State → State → State → Type 0
TornWhere key warmed from from2 to to2 = IsRead warmed → IfTells from2 (λ source. (warmed ≡ Torn) ↔ AreTorn (held_under source key))

-- Where it is copied, the source has an entry of this size under it, and the target has the same bytes.
abbrev pub CopiedWhere : List ℕ → Warmed → State → State → State → State → Type 0
CopiedWhere key (Copied size) from from2 to to2 =
    (bytes : List ℕ) × (size ≡ length bytes) × AreSpelled bytes × IfTells from2 (λ source. held_under source key ≡ Some bytes) × IfTells to2 (λ target. held_under target key ≡ Some bytes)
CopiedWhere key warmed from from2 to to2 = Unit {0}

-- why a lookup of bytes was refused
abbrev pub LookupCause : StorageError → List ℕ → HeldLevel → HeldLevel → Type 0
LookupCause (Refused cause) key old new = CauseBy old.facts.kind Raw (AnswersRefused cause) key old.level new.level
LookupCause refusal key old new = ⊥

abbrev pub ReadCause : Warmed → List ℕ → HeldLevel → HeldLevel → Type 0
ReadCause (FromRefused refusal) key old new = LookupCause refusal key old new
ReadCause warmed key old new = Unit {0}

-- What is no store key is a bad key, and nothing else is; then the source is not called.
abbrev pub ReadWhere : List ℕ → Warmed → HeldLevel → HeldLevel → Type 0
ReadWhere key warmed old new = ((warmed ≡ FromRefused (Refused BadKey)) ↔ (is_store_key key ≡ false)) × (is_store_key key ≡ false → new ≡ old) × ReadCause warmed key old new

-- Levels refuse no lookup.
abbrev pub SourceWhere : List ℕ → Warmed → State → State → Type 0
SourceWhere key warmed (Alone old) (Alone new) = ReadWhere key warmed old new
SourceWhere key warmed (Layered old) (Layered new) = IsRead warmed
SourceWhere key warmed (Wrapped old) (Wrapped new) = SourceWhere key warmed old new
SourceWhere key warmed old new = ⊥

abbrev pub FromRefusedWhere : List ℕ → Warmed → State → State → State → State → Type 0
FromRefusedWhere key warmed from from2 to to2 = SourceWhere key warmed from from2

-- why a put of so many bytes ended so: the mode, the key and the size come first, and a fault is told only where the count rose
abbrev pub EndsBy : LevelKind → Bool → Causes → Written → Level → Level → Type 0
EndsBy Disk told expected how old new = EntryCause told expected how old new
EndsBy Remote told expected how old new = PutCause expected.early how old new

abbrev pub PutEnds : List ℕ → ℕ → Written → HeldLevel → HeldLevel → Type 0
PutEnds key size how old new = EndsBy old.facts.kind old.told (causes Single old.facts old.room.reserved key size) how old.level new.level

abbrev pub PutWhere : List ℕ → ℕ → Warmed → HeldLevel → HeldLevel → Type 0
PutWhere key size (Copied bytes) old new = PutEnds key size WriteDone old new
PutWhere key size (ToRefused (Refused cause)) old new = PutEnds key size (WriteRefused cause) old new
PutWhere key size warmed old new = ⊥

-- A wrapper that is only read doesn't have this put, and its store stays.
abbrev pub TargetWhere : List ℕ → ℕ → Warmed → State → State → Type 0
TargetWhere key size warmed (Alone old) (Alone new) = PutWhere key size warmed old new
TargetWhere key size warmed (Layered old) (Layered new) = Unit {0}
TargetWhere key size warmed (Wrapped old) (Wrapped new) = (warmed ≡ ToRefused Unsupported) × (new ≡ old)
TargetWhere key size warmed old new = ⊥

-- The target's answer to a put of an entry that was read; else the target is not called.
abbrev pub ToRefusedWhere : List ℕ → Warmed → State → State → State → State → Type 0
ToRefusedWhere key (Copied size) from from2 to to2 = TargetWhere key size (Copied size) to to2
ToRefusedWhere key (ToRefused refusal) from from2 to to2 = (bytes : List ℕ) × GetsRaw from from2 key (Some bytes) × AreSpelled bytes × TargetWhere key (length bytes) (ToRefused refusal) to to2
ToRefusedWhere key warmed from from2 to to2 = to2 ≡ to
