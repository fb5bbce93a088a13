-- A store that stands alone: what its one lookup or put says of a call.
use Rattle.std.proofs.Common.{◌≡◌, List, ℕ, Option, Result, Ok, Err, IfOk, IfErr, subst, sym}
use Rattle.sc_entry.specs.declared.cache.Cache.{Cache}
use Rattle.sc_model.specs.Levels.{Level}
use Rattle.sc_model.specs.declared.event.Answer.{Answer}
use Rattle.sc_model.specs.declared.event.Answer.TheVariants.{Found, Hit, Miss, Refused as AnswersRefused, Size}
use Rattle.sc_model.specs.declared.event.Mode.{Mode}
use Rattle.sc_model.specs.declared.event.Mode.TheVariants.{Raw, Whole}
use Rattle.sc_model.specs.declared.event.Written.{Written}
use Rattle.sc_model.specs.declared.event.Written.TheVariants.{Done}
use Rattle.sc_model.specs.declared.level.LevelKind.{LevelKind}
use Rattle.sc_model.specs.declared.level.LevelKind.TheVariants.{Disk}
use Rattle.sc_store_alone.proofs.Spelled.{spelled_at}
use Rattle.sc_store_alone.specs.Storages.{Alone, AreIn, Gets, GetsBoth, GetsRaw, HitIsSpelled, IsCached, IsRefusal, IsWritten, LooksAlone, LookupRefused, PutRefusedAlone, PutsAlone, PutsFile}
use Rattle.sc_store_alone.specs.declared.storage_error.StorageError.{StorageError}
use Rattle.sc_store_alone.specs.declared.storage_error.StorageError.TheVariants.{Level as LevelRefused, NoLevels, NoMemory, Refused, Unsupported}
use Rattle.sc_store.specs.Asking.{CauseBy}
use Rattle.sc_store.specs.Held.{HeldLevel}

pub hit_is_spelled : (kind : LevelKind) (answer : Answer) (key : List ℕ) (v w : Level) → CauseBy kind Whole answer key v w → HitIsSpelled answer
hit_is_spelled kind (Hit bytes mark) key v w cause = spelled_at kind bytes key mark v w cause
hit_is_spelled kind Miss key v w cause = tt
hit_is_spelled kind (AnswersRefused c) key v w cause = tt
hit_is_spelled kind (Found p) key v w cause = tt
hit_is_spelled kind (Size n c) key v w cause = tt

pub gets : (r : Result Cache StorageError) (key : List ℕ) (answer : Answer) (a b : HeldLevel) → LooksAlone key Whole answer a b → IfOk r (λ cache. IsCached answer cache) → IfOk r (λ cache. Gets (Alone a) (Alone b) key cache)
gets (Ok cache) key answer a b looks is = (answer, looks, is)
gets (Err e) key answer a b looks is = tt

pub gets_raw : (r : Result (Option (List ℕ)) StorageError) (key : List ℕ) (answer : Answer) (a b : HeldLevel) → LooksAlone key Raw answer a b → IfOk r (λ bytes. AreIn answer bytes) → IfOk r (λ bytes. GetsRaw (Alone a) (Alone b) key bytes)
gets_raw (Ok bytes) key answer a b looks is = (answer, looks, is)
gets_raw (Err e) key answer a b looks is = tt

pub gets_both : (r : Result (Cache × Option (List ℕ)) StorageError) (key : List ℕ) (answer : Answer) (a b : HeldLevel) → LooksAlone key Whole answer a b → IfOk r (λ both. IsCached answer both.0 × AreIn answer both.1)
    → IfOk r (λ both. GetsBoth (Alone a) (Alone b) key both.0 both.1)
gets_both (Ok both) key answer a b looks is = (answer, looks, is.0, is.1)
gets_both (Err e) key answer a b looks is = tt

refused_so : (e : StorageError) (key : List ℕ) (mode : Mode) (answer : Answer) (a b : HeldLevel) → LooksAlone key mode answer a b → IsRefusal e answer → LookupRefused e key mode a b
refused_so NoMemory key mode answer a b looks is = tt
refused_so (Refused c) key mode answer a b looks is = subst (λ (x : Answer). LooksAlone key mode x a b) is looks
refused_so (LevelRefused l c) key mode answer a b looks is = absurd is
refused_so NoLevels key mode answer a b looks is = absurd is
refused_so Unsupported key mode answer a b looks is = absurd is

pub lookup_refused : {A : Type 0} (r : Result A StorageError) (key : List ℕ) (mode : Mode) (answer : Answer) (a b : HeldLevel) → LooksAlone key mode answer a b → IfErr r (λ e. IsRefusal e answer) → IfErr r (λ e. LookupRefused e key mode a b)
lookup_refused (Ok x) key mode answer a b looks is = tt
lookup_refused (Err e) key mode answer a b looks is = refused_so e key mode answer a b looks is

pub was_put : {A : Type 0} (r : Result A StorageError) (kind : LevelKind) (key bytes : List ℕ) (how : Written) (a b : HeldLevel) → PutsAlone kind key bytes how a b → IfOk r (λ _. how ≡ Done) → IfOk r (λ _. PutsAlone kind key bytes Done a b)
was_put (Ok x) kind key bytes how a b puts is = subst (λ (w : Written). PutsAlone kind key bytes w a b) is puts
was_put (Err e) kind key bytes how a b puts is = tt

not_put : (e : StorageError) (key bytes : List ℕ) (how : Written) (a b : HeldLevel) → PutsAlone a.facts.kind key bytes how a b → IsWritten e how → PutRefusedAlone e key bytes a b
not_put NoMemory key bytes how a b puts is = tt
not_put (Refused c) key bytes how a b puts is = subst (λ (w : Written). PutsAlone a.facts.kind key bytes w a b) is puts
not_put (LevelRefused l c) key bytes how a b puts is = absurd is
not_put NoLevels key bytes how a b puts is = absurd is
not_put Unsupported key bytes how a b puts is = absurd is

pub put_refused : {A : Type 0} (r : Result A StorageError) (key bytes : List ℕ) (how : Written) (a b : HeldLevel) → PutsAlone a.facts.kind key bytes how a b → IfErr r (λ e. IsWritten e how) → IfErr r (λ e. PutRefusedAlone e key bytes a b)
put_refused (Ok x) key bytes how a b puts is = tt
put_refused (Err e) key bytes how a b puts is = not_put e key bytes how a b puts is

pub at_disk : (kind : LevelKind) (key bytes : List ℕ) (how : Written) (a b : HeldLevel) → kind ≡ Disk → PutsFile key bytes how a b → PutsAlone kind key bytes how a b
at_disk kind key bytes how a b is puts = subst (λ (k : LevelKind). PutsAlone k key bytes how a b) (sym is) puts
