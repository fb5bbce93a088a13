-- What reading does to the source, and what it finds there.
use Rattle.std.proofs.Common.{◌≡◌, ◌≢◌, ◌⊎◌, inl, inr, ℕ, ◌≤◌, IsTrue, true, List, [], ◌∷◌, Option, Some, None, refl, sym, ap, ◌∙◌, subst, arith}
use Rattle.sc_entry.specs.Causes.{Rose}
use Rattle.sc_model.proofs.Entries.{keeps_held}
use Rattle.sc_model.specs.Devices.{Calls, Loses}
use Rattle.sc_model.specs.Levels.{IsPart, Keeps_all, Level, find_file, held}
use Rattle.sc_model.specs.declared.event.Answer.{Answer}
use Rattle.sc_model.specs.declared.event.Answer.TheVariants.{Found, Hit, Miss, Refused as AnswersRefused, Size}
use Rattle.sc_model.specs.declared.event.Mode.TheVariants.{Raw}
use Rattle.sc_model.specs.declared.level.LevelFacts.{LevelFacts}
use Rattle.sc_model.specs.declared.level.LevelKind.{LevelKind}
use Rattle.sc_model.specs.declared.level.LevelKind.TheVariants.{Disk, Remote}
use Rattle.sc_store.specs.Asking.{has_mode}
use Rattle.sc_store.specs.Held.{HeldLevel}
use Rattle.sc_store_alone.specs.Storages.{Alone, AreIn, GetsRaw, KeepsAlone, KeepsStore, Layered, LooksAlone, RefusesLookup, State, Wrapped}
use Rattle.sc_store_alone.specs.declared.storage_error.StorageError.{StorageError}
use Rattle.sc_store_alone.specs.declared.storage_error.StorageError.TheVariants.{Level as LevelRefused, NoLevels, NoMemory, Refused, Unsupported}
use Rattle.sc_store_warm.proofs.SameKinds.{by_kind}
use Rattle.sc_store_warm.specs.Causes.{IfTells, held_under}
use Rattle.sc_store_warm.specs.Outcomes.{LooksOnly, SourceStays}
use Rattle.sc_store_warm.specs.Warming.{Each, WarmsKey}
use Rattle.sc_store_warm.specs.declared.warmed.Warmed.{Warmed}
use Rattle.sc_store_warm.specs.declared.warmed.Warmed.TheVariants.{Absent, Copied, FromRefused, ToRefused, Torn}

pub has_raw : (kind : LevelKind) → IsTrue (has_mode kind Raw)
has_raw Disk = refl
has_raw Remote = refl

-- a count of losses never falls
pub loses_later : (calls : Option Calls) (before now : ℕ) → Loses calls before now → before ≤ now
loses_later None before now h = h
loses_later (Some calls) before now h = omega (arith, h)

looked : (key : List ℕ) (answer : Answer) (a b : HeldLevel) → KeepsAlone a b → LooksAlone key Raw answer a b → LooksOnly a b
looked key answer a b k l = record { facts = k.facts; told = k.told; losses = loses_later a.level.calls a.level.losses b.level.losses l.later.losses; keeps = λ told. (l.asked told (has_raw a.facts.kind)).keeps }

pub read_stays : (f g : State) (key : List ℕ) (found : Option (List ℕ)) → KeepsStore f g → GetsRaw f g key found → SourceStays f g
read_stays f g key found k = by_kind (λ (x y : State). GetsRaw x y key found → SourceStays x y) (λ a b same r. looked key r.0 a b same r.1) (λ a b r. tt) (λ a b more. more) f g k

refused_alone : (a b : HeldLevel) (key : List ℕ) (refusal : StorageError) → refusal ≢ NoMemory → KeepsAlone a b → RefusesLookup (Alone a) (Alone b) key Raw refusal → LooksOnly a b
refused_alone a b key NoMemory apart k r = absurd (apart refl)
refused_alone a b key (Refused cause) apart k r = looked key (AnswersRefused cause) a b k r
refused_alone a b key (LevelRefused l cause) apart k r = absurd r
refused_alone a b key NoLevels apart k r = absurd r
refused_alone a b key Unsupported apart k r = absurd r

pub refused_stays : (f g : State) (key : List ℕ) (refusal : StorageError) → refusal ≢ NoMemory → KeepsStore f g → RefusesLookup f g key Raw refusal → SourceStays f g
refused_stays f g key refusal apart k = by_kind (λ (x y : State). RefusesLookup x y key Raw refusal → SourceStays x y) (λ a b same r. refused_alone a b key refusal apart same r) (λ a b r. tt) (λ a b more. more) f g k

-- one key
pub key_stays : (key : List ℕ) (warmed : Warmed) (f g t u : State) → WarmsKey key warmed f g t u → SourceStays f g
key_stays key (FromRefused refusal) f g t u (apart, k, r, same) = refused_stays f g key refusal apart k r
key_stays key Absent f g t u (r, same) = read_stays f g key None r.0 r.1
key_stays key Torn f g t u (bytes, r, torn, same) = read_stays f g key (Some bytes) r.0 r.1
key_stays key (Copied size) f g t u (bytes, r, spelled, k, p) = read_stays f g key (Some bytes) r.0 r.1
key_stays key (ToRefused refusal) f g t u (bytes, r, spelled, k, p) = read_stays f g key (Some bytes) r.0 r.1

keeps_self : (kind : LevelKind) (v : Level) → Keeps_all kind v v
keeps_self Disk v = (refl, refl)
keeps_self Remote v = (inl refl, refl)

pub stays_self : (s : State) → SourceStays s s
stays_self (Alone a) = record { facts = refl; told = refl; losses = omega arith; keeps = λ told. keeps_self a.facts.kind a.level }
stays_self (Layered a) = tt
stays_self (Wrapped a) = stays_self a

pub rose_before : (a b c : ℕ) → a ≤ b → Rose b c → Rose a c
rose_before a b c less rose = omega (arith, less, rose)

pub rose_then : (a b c : ℕ) → Rose a b → b ≤ c → Rose a c
rose_then a b c rose less = omega (arith, rose, less)

main_then : (u v w : Level) → u.losses ≤ v.losses → v.losses ≤ w.losses → (v.main ≡ u.main) ⊎ (IsPart v.main u.main × Rose u.losses v.losses) → (w.main ≡ v.main) ⊎ (IsPart w.main v.main × Rose v.losses w.losses)
    → (w.main ≡ u.main) ⊎ (IsPart w.main u.main × Rose u.losses w.losses)
main_then u v w l m (inl x) (inl y) = inl (y ∙ x)
main_then u v w l m (inl x) (inr (part, rose)) = inr ((λ p b e. ap (λ n. find_file n p) (sym x) ∙ part p b e), rose_before u.losses v.losses w.losses l rose)
main_then u v w l m (inr (part, rose)) (inl y) = inr ((λ p b e. part p b (ap (λ n. find_file n p) (sym y) ∙ e)), rose_then u.losses v.losses w.losses rose m)
main_then u v w l m (inr (part, rose)) (inr (later, again)) = inr ((λ p b e. part p b (later p b e)), rose_then u.losses v.losses w.losses rose m)

all_then : (kind : LevelKind) (u v w : Level) → u.losses ≤ v.losses → v.losses ≤ w.losses → Keeps_all kind u v → Keeps_all kind v w → Keeps_all kind u w
all_then Disk u v w l m x y = (y.0 ∙ x.0, y.1 ∙ x.1)
all_then Remote u v w l m x y = (main_then u v w l m x.0 y.0, y.1 ∙ x.1)

looks_then : (a b c : HeldLevel) → LooksOnly a b → LooksOnly b c → LooksOnly a c
looks_then a b c x y = record {
  facts = y.facts ∙ x.facts;
  told = y.told ∙ x.told;
  losses = omega (arith, x.losses, y.losses);
  keeps = λ told. all_then a.facts.kind a.level b.level c.level x.losses y.losses (x.keeps told) (subst (λ (f : LevelFacts). Keeps_all f.kind b.level c.level) x.facts (y.keeps (x.told ∙ told)));
}

pub stays_then : (r s q : State) → SourceStays r s → SourceStays s q → SourceStays r q
stays_then (Alone a) (Alone b) (Alone c) x y = looks_then a b c x y
stays_then (Alone a) (Alone b) (Layered c) x y = absurd y
stays_then (Alone a) (Alone b) (Wrapped c) x y = absurd y
stays_then (Alone a) (Layered b) q x y = absurd x
stays_then (Alone a) (Wrapped b) q x y = absurd x
stays_then (Layered a) (Layered b) (Layered c) x y = tt
stays_then (Layered a) (Layered b) (Alone c) x y = absurd y
stays_then (Layered a) (Layered b) (Wrapped c) x y = absurd y
stays_then (Layered a) (Alone b) q x y = absurd x
stays_then (Layered a) (Wrapped b) q x y = absurd x
stays_then (Wrapped a) (Wrapped b) (Wrapped c) x y = stays_then a b c x y
stays_then (Wrapped a) (Wrapped b) (Alone c) x y = absurd y
stays_then (Wrapped a) (Wrapped b) (Layered c) x y = absurd y
stays_then (Wrapped a) (Alone b) q x y = absurd x
stays_then (Wrapped a) (Layered b) q x y = absurd x

-- all keys
pub sources : (keys : List (List ℕ)) (rest : List Warmed) (f g t u : State) → Each WarmsKey keys rest f g t u → SourceStays f g
sources [] [] f g t u (e, d) = subst (λ (s : State). SourceStays f s) (sym e) (stays_self f)
sources [] (w ∷ rest) f g t u none = absurd none
sources (k ∷ keys) [] f g t u none = absurd none
sources (k ∷ keys) (w ∷ rest) f g t u (source, target, first, more) = stays_then f source g (key_stays k w f source t target first) (sources keys rest source g target u more)

-- what the source holds after a lookup it held before
pub was_held : (f g : State) (key bytes : List ℕ) → SourceStays f g → IfTells g (λ s. held_under s key ≡ Some bytes) → IfTells f (λ s. held_under s key ≡ Some bytes)
was_held (Alone a) (Alone b) key bytes x h = λ told. keeps_held a.facts.kind a.level b.level key bytes (x.keeps told) (subst (λ (f : LevelFacts). held f.kind b.level key ≡ Some bytes) x.facts (h (x.told ∙ told)))
was_held (Layered a) (Layered b) key bytes x h = tt
was_held (Wrapped a) (Wrapped b) key bytes x h = was_held a b key bytes x h
was_held (Alone a) (Layered b) key bytes x h = absurd x
was_held (Alone a) (Wrapped b) key bytes x h = absurd x
was_held (Layered a) (Alone b) key bytes x h = absurd x
was_held (Layered a) (Wrapped b) key bytes x h = absurd x
was_held (Wrapped a) (Alone b) key bytes x h = absurd x
was_held (Wrapped a) (Layered b) key bytes x h = absurd x

hit_holds : (key bytes : List ℕ) (answer : Answer) (a b : HeldLevel) → KeepsAlone a b → LooksAlone key Raw answer a b → AreIn answer (Some bytes) → b.told ≡ true → held_under b key ≡ Some bytes
hit_holds key bytes (Hit found mark) a b k l is told =
    let at : held a.facts.kind b.level key ≡ Some found = (l.asked (sym k.told ∙ told) (has_raw a.facts.kind)).answers.1 in
    subst (λ (f : LevelFacts). held f.kind b.level key ≡ Some bytes) (sym k.facts) (at ∙ sym is)
hit_holds key bytes Miss a b k l is told = absurd (cc)
hit_holds key bytes (AnswersRefused c) a b k l is told = absurd is
hit_holds key bytes (Found p) a b k l is told = absurd (cc)
hit_holds key bytes (Size n c) a b k l is told = absurd (cc)

-- what was read stands there
pub read_holds : (f g : State) (key bytes : List ℕ) → KeepsStore f g → GetsRaw f g key (Some bytes) → IfTells g (λ s. held_under s key ≡ Some bytes)
read_holds f g key bytes k = by_kind (λ (x y : State). GetsRaw x y key (Some bytes) → IfTells y (λ s. held_under s key ≡ Some bytes)) (λ a b same r told. hit_holds key bytes r.0 a b same r.1 r.2 told) (λ a b r. tt) (λ a b more. more) f g k

miss_lacks : (key : List ℕ) (answer : Answer) (a b : HeldLevel) → KeepsAlone a b → LooksAlone key Raw answer a b → AreIn answer None → b.told ≡ true → held_under b key ≡ None
miss_lacks key (Hit found mark) a b k l is told = absurd (cc)
miss_lacks key Miss a b k l is told =
    let at : held a.facts.kind b.level key ≡ None = (l.asked (sym k.told ∙ told) (has_raw a.facts.kind)).answers.1 in
    subst (λ (f : LevelFacts). held f.kind b.level key ≡ None) (sym k.facts) at
miss_lacks key (AnswersRefused c) a b k l is told = absurd is
miss_lacks key (Found p) a b k l is told = absurd ((l.asked (sym k.told ∙ told) (has_raw a.facts.kind)).answers)
miss_lacks key (Size n c) a b k l is told = absurd ((l.asked (sym k.told ∙ told) (has_raw a.facts.kind)).answers)

-- what was not there is not there
pub read_lacks : (f g : State) (key : List ℕ) → KeepsStore f g → GetsRaw f g key None → IfTells g (λ s. held_under s key ≡ None)
read_lacks f g key k = by_kind (λ (x y : State). GetsRaw x y key None → IfTells y (λ s. held_under s key ≡ None)) (λ a b same r told. miss_lacks key r.0 a b same r.1 r.2 told) (λ a b r. tt) (λ a b more. more) f g k
