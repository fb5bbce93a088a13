-- Puts of the preprocessor's entries at a disk store that stands alone.
use Rattle.std.proofs.Common.{◌≡◌, ℕ, Bool, true, false, List, length, Some, Result, Ok, Err, IfOk, IfErr, subst, sym}
use Rattle.sc_store_disk.specs.Preprocessor.{PreCause, PutsPre as PutsOnDisk}
use Rattle.sc_model.specs.Levels.{Later}
use Rattle.sc_model.specs.WriteCauses.{causes, early_cause}
use Rattle.sc_model.specs.Writing.{Puts_pre}
use Rattle.sc_model.specs.declared.event.Written.{Written}
use Rattle.sc_model.specs.declared.event.Written.TheVariants.{Done, Refused}
use Rattle.sc_model.specs.declared.level.Cause.{Cause}
use Rattle.sc_model.specs.declared.level.LevelKind.{LevelKind}
use Rattle.sc_model.specs.declared.level.LevelKind.TheVariants.{Disk}
use Rattle.sc_model.specs.declared.level.Policy.TheVariants.{Single}
use Rattle.sc_store_alone.specs.Storages.{IsWritten, PrePutRefused, PutsPreAlone, PutsPreDisk}
use Rattle.sc_store_alone.specs.declared.storage_error.StorageError.{StorageError}
use Rattle.sc_store_alone.specs.declared.storage_error.StorageError.TheVariants.{Level as LevelRefused, NoLevels, NoMemory, Refused as NotPut, Unsupported}
use Rattle.sc_store.specs.Asking.{PreCauseBy, PreCauseOf}
use Rattle.sc_store.specs.Held.{HeldLevel, disk_of}

cause_at : (wrapped : Bool) (kind : LevelKind) (key bytes : List ℕ) (how : Written) (old new : HeldLevel) → wrapped ≡ false → kind ≡ Disk → PreCause (early_cause Single old.facts key) bytes how (disk_of old) (disk_of new) → PreCauseOf wrapped kind (early_cause Single old.facts key) bytes how (disk_of old) (disk_of new)
cause_at wrapped kind key bytes how old new bare is cause =
    subst (λ (w : Bool). PreCauseOf w kind (early_cause Single old.facts key) bytes how (disk_of old) (disk_of new)) (sym bare) (subst (λ (k : LevelKind). PreCauseBy k (early_cause Single old.facts key) bytes how (disk_of old) (disk_of new)) (sym is) cause)

puts_at : (kind : LevelKind) (key bytes : List ℕ) (how : Written) (old new : HeldLevel) → kind ≡ Disk → PutsOnDisk Single key bytes how (disk_of old) (disk_of new) → old.told ≡ true
    → Puts_pre old.facts kind (causes Single old.facts old.room.reserved key (length bytes)) old.room.reserved key bytes how old.level new.level
puts_at kind key bytes how old new is puts told =
    subst (λ (k : LevelKind). Puts_pre old.facts k (causes Single old.facts old.room.reserved key (length bytes)) old.room.reserved key bytes how old.level new.level) (sym is) (puts told)

-- a put at a disk store that stands alone
pub put_alone : {E : Type 0} (r : Result Written E) (key bytes : List ℕ) (old new : HeldLevel) → old.facts.wrapped ≡ false → old.facts.kind ≡ Disk → Later old.level new.level → new.marks ≡ old.marks
    → IfOk r (λ how. PutsOnDisk Single key bytes how (disk_of old) (disk_of new)) → IfOk r (λ how. PreCause (early_cause Single old.facts key) bytes how (disk_of old) (disk_of new))
    → ((c : Cause) → early_cause Single old.facts key ≡ Some c → (r ≡ Ok (Refused c)) × (new ≡ old)) → IfOk r (λ how. PutsPreDisk key bytes how old new)
put_alone (Ok how) key bytes old new bare kind later marks put cause early = record {
  later = later;
  marks = marks;
  wrote = puts_at old.facts.kind key bytes how old new kind put;
  cause = cause_at old.facts.wrapped old.facts.kind key bytes how old new bare kind cause;
  early = λ c is. let h = early c is in let ended = h.0 in let same : how ≡ Refused c = cc (ended) in (same, h.1);
}
put_alone (Err e) key bytes old new bare kind later marks put cause early = tt

-- and how it ended, as the end of the call
pub was_put : {A : Type 0} (r : Result A StorageError) (kind : LevelKind) (key bytes : List ℕ) (how : Written) (a b : HeldLevel) → kind ≡ Disk → PutsPreDisk key bytes how a b → IfOk r (λ _. how ≡ Done) → IfOk r (λ _. PutsPreAlone kind key bytes Done a b)
was_put (Ok x) kind key bytes how a b at puts is = subst (λ (k : LevelKind). PutsPreAlone k key bytes Done a b) (sym at) (subst (λ (w : Written). PutsPreDisk key bytes w a b) is puts)
was_put (Err e) kind key bytes how a b at puts is = tt

not_put : (e : StorageError) (key bytes : List ℕ) (how : Written) (a b : HeldLevel) → PutsPreDisk key bytes how a b → IsWritten e how → PrePutRefused Disk e key bytes a b
not_put NoMemory key bytes how a b puts is = tt
not_put (NotPut c) key bytes how a b puts is = subst (λ (w : Written). PutsPreDisk key bytes w a b) is puts
not_put (LevelRefused l c) key bytes how a b puts is = absurd is
not_put NoLevels key bytes how a b puts is = absurd is
not_put Unsupported key bytes how a b puts is = absurd is

pub put_refused : {A : Type 0} (r : Result A StorageError) (kind : LevelKind) (key bytes : List ℕ) (how : Written) (a b : HeldLevel) → kind ≡ Disk → PutsPreDisk key bytes how a b → IfErr r (λ e. IsWritten e how) → IfErr r (λ e. PrePutRefused kind e key bytes a b)
put_refused (Ok x) kind key bytes how a b at puts is = tt
put_refused (Err e) kind key bytes how a b at puts is = subst (λ (k : LevelKind). PrePutRefused k e key bytes a b) (sym at) (not_put e key bytes how a b puts is)
