-- Why a key came to what it did.
use Rattle.std.proofs.Common.{◌≡◌, ◌≢◌, ◌↔◌, ℕ, Bool, true, false, List, length, Option, Some, None, refl, sym, ap, ◌∙◌, subst}
use Rattle.sc_entry.specs.Entries.{objects}
use Rattle.sc_entry.specs.Keys.{IsStoreKey, is_store_key}
use Rattle.sc_entry.specs.declared.object.Object.{Object}
use Rattle.sc_model.specs.Levels.{Level}
use Rattle.sc_model.specs.WriteCauses.{causes}
use Rattle.sc_model.specs.declared.event.Answer.{Answer}
use Rattle.sc_model.specs.declared.event.Answer.TheVariants.{Found, Hit, Miss, Refused as AnswersRefused, Size}
use Rattle.sc_model.specs.declared.event.Mode.TheVariants.{Raw}
use Rattle.sc_model.specs.declared.event.Written.{Written}
use Rattle.sc_model.specs.declared.event.Written.TheVariants.{Done as WriteDone, Refused as WriteRefused}
use Rattle.sc_model.specs.declared.level.Cause.{Cause}
use Rattle.sc_model.specs.declared.level.Cause.TheVariants.{BadKey}
use Rattle.sc_model.specs.declared.level.LevelKind.{LevelKind}
use Rattle.sc_model.specs.declared.level.LevelKind.TheVariants.{Disk, Remote}
use Rattle.sc_model.specs.declared.level.Policy.TheVariants.{Single}
use Rattle.sc_store.specs.Asking.{CauseBy}
use Rattle.sc_store.specs.Held.{HeldLevel}
use Rattle.sc_store_alone.specs.Lookups.{AreSpelled}
use Rattle.sc_store_alone.specs.Storages.{Alone, AreIn, GetsRaw, KeepsStore, Layered, LooksAlone, PutRefusedAlone, PutsAlone, PutsIn, RefusesLookup, RefusesPut, State, Wrapped}
use Rattle.sc_store_alone.specs.declared.storage_error.StorageError.{StorageError}
use Rattle.sc_store_alone.specs.declared.storage_error.StorageError.TheVariants.{Level as LevelRefused, NoLevels, NoMemory, Refused, Unsupported}
use Rattle.sc_store_warm.proofs.SameKinds.{by_kind}
use Rattle.sc_store_warm.proofs.Sources.{read_holds, read_lacks}
use Rattle.sc_store_warm.proofs.Targets.{put_stands}
use Rattle.sc_store_warm.specs.Causes.{AbsentWhere, AreTorn, CopiedWhere, EndsBy, FromRefusedWhere, IfTells, IsRead, PutEnds, PutWhere, ReadCause, ReadWhere, SourceWhere, TargetWhere, ToRefusedWhere, TornWhere, held_under}
use Rattle.sc_store_warm.specs.Warming.{WarmsKey}
use Rattle.sc_store_warm.specs.declared.warmed.Warmed.{Warmed}
use Rattle.sc_store_warm.specs.declared.warmed.Warmed.TheVariants.{Absent, Copied, FromRefused, ToRefused, Torn}

-- a fact that follows from one that a telling store has
tells_then : (s : State) (P Q : HeldLevel → Type 0) → ((h : HeldLevel) → P h → Q h) → IfTells s P → IfTells s Q
tells_then (Alone h) P Q f x = λ told. f h (x told)
tells_then (Layered m) P Q f x = tt
tells_then (Wrapped s) P Q f x = tells_then s P Q f x

-- ---- absent and torn

some_none : (o : Option (List ℕ)) (b : List ℕ) → o ≡ Some b → o ≡ None → ⊥
some_none o b p q = cc

torn_none : (o : Option (List ℕ)) → o ≡ None → AreTorn o → ⊥
torn_none None e x = x
torn_none (Some b) e x = (cc)

torn_some : (o : Option (List ℕ)) (b : List ℕ) → o ≡ Some b → AreTorn o → objects b ≡ None
torn_some None b e x = absurd x
torn_some (Some c) b e x = let same : c ≡ b = cc (e) in subst (λ (d : List ℕ). objects d ≡ None) same x

torn_is : (o : Option (List ℕ)) (b : List ℕ) → o ≡ Some b → objects b ≡ None → AreTorn o
torn_is None b e x = absurd (cc)
torn_is (Some c) b e x = let same : b ≡ c = cc (e) in subst (λ (d : List ℕ). objects d ≡ None) same x

spelled_torn : (b : List ℕ) → AreSpelled b → objects b ≡ None → ⊥
spelled_torn b (listed, is) none = some_not listed (sym is ∙ none)
  where
    some_not : (os : List Object) → Some os ≡ None → ⊥
    some_not os e = cc

-- of an entry that was read
read_some : (key : List ℕ) (warmed : Warmed) (f g : State) (bytes : List ℕ) → KeepsStore f g → GetsRaw f g key (Some bytes) → (warmed ≡ Absent → ⊥) → IfTells g (λ s. (warmed ≡ Absent) ↔ (held_under s key ≡ None))
read_some key warmed f g bytes k r apart =
    tells_then g (λ s. held_under s key ≡ Some bytes) (λ s. (warmed ≡ Absent) ↔ (held_under s key ≡ None)) (λ s e. ((λ is. absurd (apart is)), (λ none. absurd (some_none (held_under s key) bytes e none)))) (read_holds f g key bytes k r)

pub absent_where : (key : List ℕ) (warmed : Warmed) (f g t u : State) → WarmsKey key warmed f g t u → AbsentWhere key warmed f g t u
absent_where key (FromRefused refusal) f g t u h = λ read. absurd read
absent_where key Absent f g t u (r, same) = λ read. tells_then g (λ s. held_under s key ≡ None) (λ s. (Absent ≡ Absent) ↔ (held_under s key ≡ None)) (λ s e. ((λ is. e), (λ none. refl))) (read_lacks f g key r.0 r.1)
absent_where key Torn f g t u (bytes, r, torn, same) = λ read. read_some key Torn f g bytes r.0 r.1 (λ is. cc)
absent_where key (Copied size) f g t u (bytes, r, spelled, k, p) = λ read. read_some key (Copied size) f g bytes r.0 r.1 (λ is. cc)
absent_where key (ToRefused refusal) f g t u (bytes, r, spelled, k, p) = λ read. read_some key (ToRefused refusal) f g bytes r.0 r.1 (λ is. cc)

read_spelled : (key : List ℕ) (warmed : Warmed) (f g : State) (bytes : List ℕ) → KeepsStore f g → GetsRaw f g key (Some bytes) → AreSpelled bytes → (warmed ≡ Torn → ⊥) → IfTells g (λ s. (warmed ≡ Torn) ↔ AreTorn (held_under s key))
read_spelled key warmed f g bytes k r spelled apart =
    tells_then g (λ s. held_under s key ≡ Some bytes) (λ s. (warmed ≡ Torn) ↔ AreTorn (held_under s key))
    (λ s e. ((λ is. absurd (apart is)), (λ torn. absurd (spelled_torn bytes spelled (torn_some (held_under s key) bytes e torn))))) (read_holds f g key bytes k r)

pub torn_where : (key : List ℕ) (warmed : Warmed) (f g t u : State) → WarmsKey key warmed f g t u → TornWhere key warmed f g t u
torn_where key (FromRefused refusal) f g t u h = λ read. absurd read
torn_where key Absent f g t u (r, same) = λ read.
    tells_then g (λ s. held_under s key ≡ None) (λ s. (Absent ≡ Torn) ↔ AreTorn (held_under s key)) (λ s e. ((λ is. absurd (apart is)), (λ torn. absurd (torn_none (held_under s key) e torn)))) (read_lacks f g key r.0 r.1)
  where
    apart : Absent ≡ Torn → ⊥
    apart e = cc
torn_where key Torn f g t u (bytes, r, torn, same) = λ read.
    tells_then g (λ s. held_under s key ≡ Some bytes) (λ s. (Torn ≡ Torn) ↔ AreTorn (held_under s key)) (λ s e. ((λ is. torn_is (held_under s key) bytes e torn), (λ x. refl))) (read_holds f g key bytes r.0 r.1)
torn_where key (Copied size) f g t u (bytes, r, spelled, k, p) = λ read. read_spelled key (Copied size) f g bytes r.0 r.1 spelled (λ is. cc)
torn_where key (ToRefused refusal) f g t u (bytes, r, spelled, k, p) = λ read. read_spelled key (ToRefused refusal) f g bytes r.0 r.1 spelled (λ is. cc)

-- ---- copied

put_holds : (key bytes : List ℕ) (t u : State) → KeepsStore t u → PutsIn t u key bytes → IfTells u (λ s. held_under s key ≡ Some bytes)
put_holds key bytes t u k = by_kind (λ (x y : State). PutsIn x y key bytes → IfTells y (λ s. held_under s key ≡ Some bytes)) (λ a b same p told. put_stands key bytes a b same p told) (λ a b p. tt) (λ a b more p. absurd p) t u k

pub copied_where : (key : List ℕ) (warmed : Warmed) (f g t u : State) → WarmsKey key warmed f g t u → CopiedWhere key warmed f g t u
copied_where key (Copied size) f g t u (bytes, r, spelled, k, p) = (bytes, p.0, spelled, read_holds f g key bytes r.0 r.1, put_holds key bytes t u k p.1)
copied_where key (FromRefused refusal) f g t u h = tt
copied_where key Absent f g t u h = tt
copied_where key Torn f g t u h = tt
copied_where key (ToRefused refusal) f g t u h = tt

-- ---- a refused source

bad_or_good : (b : Bool) → b ≡ true → b ≡ false → ⊥
bad_or_good b p q = cc

-- a lookup that was not refused is of a store key
found_good : (kind : LevelKind) (key : List ℕ) (answer : Answer) (found : Option (List ℕ)) (v w : Level) → CauseBy kind Raw answer key v w → AreIn answer found → IsStoreKey key
found_good Disk key (Hit b m) found v w cause is = cause
found_good Disk key Miss found v w cause is = cause
found_good Disk key (AnswersRefused c) found v w cause is = absurd is
found_good Disk key (Found p) found v w cause is = absurd cause
found_good Disk key (Size n c) found v w cause is = absurd cause
found_good Remote key (Hit b m) found v w cause is = cause
found_good Remote key Miss found v w cause is = cause
found_good Remote key (AnswersRefused c) found v w cause is = absurd is
found_good Remote key (Found p) found v w cause is = absurd cause
found_good Remote key (Size n c) found v w cause is = absurd cause

good_alone : (key : List ℕ) (warmed : Warmed) (a b : HeldLevel) (answer : Answer) (found : Option (List ℕ)) → (warmed ≡ FromRefused (Refused BadKey) → ⊥) → LooksAlone key Raw answer a b → AreIn answer found → ReadCause warmed key a b → ReadWhere key warmed a b
good_alone key warmed a b answer found apart looks is cause =
    let good : is_store_key key ≡ true = found_good a.facts.kind key answer found a.level b.level looks.cause is in
    (((λ e. absurd (apart e)), (λ bad. absurd (bad_or_good (is_store_key key) good bad))), (λ bad. absurd (bad_or_good (is_store_key key) good bad)), cause)

good_read : (key : List ℕ) (warmed : Warmed) (f g : State) (found : Option (List ℕ)) → IsRead warmed → (warmed ≡ FromRefused (Refused BadKey) → ⊥) → KeepsStore f g → GetsRaw f g key found → ((a b : HeldLevel) → ReadCause warmed key a b) → SourceWhere key warmed f g
good_read key warmed f g found read apart k r cause =
    by_kind (λ (x y : State). GetsRaw x y key found → SourceWhere key warmed x y) (λ a b same x. good_alone key warmed a b x.0 found apart x.1 x.2 (cause a b)) (λ a b x. read) (λ a b more. more) f g k r

not_key : (b : Bool) → (b ≡ true → ⊥) → b ≡ false
not_key true h = absurd (h refl)
not_key false h = refl

bad_key_cause : (kind : LevelKind) (key : List ℕ) (v w : Level) → CauseBy kind Raw (AnswersRefused BadKey) key v w → is_store_key key ≡ false
bad_key_cause Disk key v w h = not_key (is_store_key key) h
bad_key_cause Remote key v w h = not_key (is_store_key key) h

refused_same : (c d : Cause) → FromRefused (Refused c) ≡ FromRefused (Refused d) → c ≡ d
refused_same c d e = cc

refused_where : (key : List ℕ) (refusal : StorageError) (a b : HeldLevel) → refusal ≢ NoMemory → RefusesLookup (Alone a) (Alone b) key Raw refusal → ReadWhere key (FromRefused refusal) a b
refused_where key NoMemory a b apart r = absurd (apart refl)
refused_where key (Refused c) a b apart r = (
  (
    (λ e. bad_key_cause a.facts.kind key a.level b.level (subst (λ (d : Cause). CauseBy a.facts.kind Raw (AnswersRefused d) key a.level b.level) (refused_same c BadKey e) r.cause)),
    (λ bad. let same : AnswersRefused c ≡ AnswersRefused BadKey = (r.bad_key refl bad).0 in let is : c ≡ BadKey = cc (same) in ap (λ (d : Cause). FromRefused (Refused d)) is),
  ),
  (λ bad. (r.bad_key refl bad).1),
  r.cause,
)
refused_where key (LevelRefused l c) a b apart r = absurd r
refused_where key NoLevels a b apart r = absurd r
refused_where key Unsupported a b apart r = absurd r

source_refused : (key : List ℕ) (refusal : StorageError) (f g : State) → refusal ≢ NoMemory → KeepsStore f g → RefusesLookup f g key Raw refusal → SourceWhere key (FromRefused refusal) f g
source_refused key refusal f g apart k = by_kind (λ (x y : State). RefusesLookup x y key Raw refusal → SourceWhere key (FromRefused refusal) x y) (λ a b same r. refused_where key refusal a b apart r) (λ a b r. absurd (apart r)) (λ a b more. more) f g k

pub from_refused_where : (key : List ℕ) (warmed : Warmed) (f g t u : State) → WarmsKey key warmed f g t u → FromRefusedWhere key warmed f g t u
from_refused_where key (FromRefused refusal) f g t u (apart, k, r, same) = source_refused key refusal f g apart k r
from_refused_where key Absent f g t u (r, same) = good_read key Absent f g None tt (λ e. cc) r.0 r.1 (λ a b. tt)
from_refused_where key Torn f g t u (bytes, r, torn, same) = good_read key Torn f g (Some bytes) tt (λ e. cc) r.0 r.1 (λ a b. tt)
from_refused_where key (Copied size) f g t u (bytes, r, spelled, k, p) = good_read key (Copied size) f g (Some bytes) tt (λ e. cc) r.0 r.1 (λ a b. tt)
from_refused_where key (ToRefused refusal) f g t u (bytes, r, spelled, k, p) = good_read key (ToRefused refusal) f g (Some bytes) tt (λ e. cc) r.0 r.1 (λ a b. tt)

-- ---- a refused target

put_ends : (kind : LevelKind) (key bytes : List ℕ) (how : Written) (t u : HeldLevel) → kind ≡ t.facts.kind → PutsAlone kind key bytes how t u → PutEnds key (length bytes) how t u
put_ends Disk key bytes how t u is h = subst (λ (k : LevelKind). EndsBy k t.told (causes Single t.facts t.room.reserved key (length bytes)) how t.level u.level) is h.0.cause
put_ends Remote key bytes how t u is h = subst (λ (k : LevelKind). EndsBy k t.told (causes Single t.facts t.room.reserved key (length bytes)) how t.level u.level) is h.cause

target_copied : (key bytes : List ℕ) (size : ℕ) (t u : State) → KeepsStore t u → PutsIn t u key bytes → TargetWhere key (length bytes) (Copied size) t u
target_copied key bytes size t u k = by_kind (λ (x y : State). PutsIn x y key bytes → TargetWhere key (length bytes) (Copied size) x y) (λ a b same p. put_ends a.facts.kind key bytes WriteDone a b refl p) (λ a b p. tt) (λ a b more p. absurd p) t u k

refused_put : (key bytes : List ℕ) (refusal : StorageError) (t u : HeldLevel) → refusal ≢ NoMemory → PutRefusedAlone refusal key bytes t u → PutWhere key (length bytes) (ToRefused refusal) t u
refused_put key bytes NoMemory t u apart p = absurd (apart refl)
refused_put key bytes (Refused c) t u apart p = put_ends t.facts.kind key bytes (WriteRefused c) t u refl p
refused_put key bytes (LevelRefused l c) t u apart p = absurd p
refused_put key bytes NoLevels t u apart p = absurd p
refused_put key bytes Unsupported t u apart p = absurd p

target_refused : (key bytes : List ℕ) (refusal : StorageError) (t u : State) → refusal ≢ NoMemory → KeepsStore t u → RefusesPut Unsupported t u key bytes refusal → TargetWhere key (length bytes) (ToRefused refusal) t u
target_refused key bytes refusal t u apart k =
    by_kind (λ (x y : State). RefusesPut Unsupported x y key bytes refusal → TargetWhere key (length bytes) (ToRefused refusal) x y) (λ a b same p. refused_put key bytes refusal a b apart p) (λ a b p. tt) (λ a b more p. (ap (λ (e : StorageError). ToRefused e) p.0, p.1)) t u k

pub to_refused_where : (key : List ℕ) (warmed : Warmed) (f g t u : State) → WarmsKey key warmed f g t u → ToRefusedWhere key warmed f g t u
to_refused_where key (Copied size) f g t u (bytes, r, spelled, k, p) = subst (λ (n : ℕ). TargetWhere key n (Copied size) t u) (sym p.0) (target_copied key bytes size t u k p.1)
to_refused_where key (ToRefused refusal) f g t u (bytes, r, spelled, k, p) = (bytes, r.1, spelled, target_refused key bytes refusal t u p.0 k p.1)
to_refused_where key (FromRefused refusal) f g t u (apart, k, r, same) = same
to_refused_where key Absent f g t u (r, same) = same
to_refused_where key Torn f g t u (bytes, r, torn, same) = same
