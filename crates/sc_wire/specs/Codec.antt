-- A codec of a type: how its values are spelled, and how they are read from the front of some bytes.
use Rattle.std.specs.Prelude.{◌≡◌, ℕ, Bool, true, false, List, [], ◌∷◌, ◌++◌, Option, Some, None, IfSome, IsTrue, refl}
use Rattle.std.proofs.Common.{sym, ap, subst, ◌∙◌, append_assoc}
use Rattle.std.proofs.lemmas.List.{append-nil}

infixl 10 ◌>>=◌
abbrev pub ◌>>=◌ : {A B : Type 0} → Option A → (A → Option B) → Option B
(Some x) >>= f = f x
None >>= f = None

-- what holds of whatever both steps give
pub after_both : {A B : Type 0} (P : A → Type 0) (Q : B → Type 0) (o : Option A) (f : A → Option B) → IfSome o P → ((x : A) → P x → IfSome (f x) Q) → IfSome (o >>= f) Q
after_both P Q (Some x) f h next = next x h
after_both P Q None f h next = tt

-- what was read of the bytes is spelled so, and fits
abbrev pub Took : {A : Type 0} → (A → Type 0) → (A → List ℕ) → List ℕ → A × List ℕ → Type 0
Took Fits spell bytes p = (bytes ≡ spell p.0 ++ p.1) × Fits p.0

-- A codec. What is read is spelled so, and a spelling is read again, whatever follows it.
pub record Codec (A : Type 0) : Type 1 where
  pub Fits : A → Type 0
  pub spell : A → List ℕ
  pub read : List ℕ → Option (A × List ℕ)
  pub takes : (bytes : List ℕ) → IfSome (read bytes) (Took Fits spell bytes)
  pub again : (x : A) (rest : List ℕ) → Fits x → read (spell x ++ rest) ≡ Some (x, rest)

-- nothing, and one after the other

abbrev pub nothing : Codec (Unit {0})
nothing = record {
  Fits = λ x. Unit {0};
  spell = λ x. [];
  read = λ bytes. Some (tt, bytes);
  takes = λ bytes. (refl, tt);
  again = λ x rest fits. refl;
}

module _ {A B : Type 0} (a : Codec A) (b : Codec B) where
  abbrev pub FitBoth : A × B → Type 0
  FitBoth p = a.Fits p.0 × b.Fits p.1

  abbrev pub spell_both : A × B → List ℕ
  spell_both p = a.spell p.0 ++ b.spell p.1

  abbrev pub read_both : List ℕ → Option ((A × B) × List ℕ)
  read_both bytes = a.read bytes >>= λ x. (b.read x.1 >>= λ y. Some ((x.0, y.0), y.1))

  pub takes_both : (bytes : List ℕ) → IfSome (read_both bytes) (Took FitBoth spell_both bytes)
  takes_both bytes =
      after_both (Took a.Fits a.spell bytes) (Took FitBoth spell_both bytes) (a.read bytes) (λ x. (b.read x.1 >>= λ y. Some ((x.0, y.0), y.1))) (a.takes bytes)
      (λ x t. after_both (Took b.Fits b.spell x.1) (Took FitBoth spell_both bytes) (b.read x.1) (λ y. Some ((x.0, y.0), y.1)) (b.takes x.1)
      (λ y u. (t.0 ∙ ap (λ (r : List ℕ). a.spell x.0 ++ r) u.0 ∙ sym (append_assoc (a.spell x.0) (b.spell y.0) y.1), (t.1, u.1))))

  pub again_both : (p : A × B) (rest : List ℕ) → FitBoth p → read_both (spell_both p ++ rest) ≡ Some (p, rest)
  again_both p rest fits =
      rw (append_assoc (a.spell p.0) (b.spell p.1) rest, a.again p.0 (b.spell p.1 ++ rest) fits.0, b.again p.1 rest fits.1) refl

infixr 20 ◌&◌
abbrev pub ◌&◌ : {A B : Type 0} → Codec A → Codec B → Codec (A × B)
a & b = record { Fits = FitBoth a b; spell = spell_both a b; read = read_both a b; takes = takes_both a b; again = again_both a b }

-- the same bytes for another type

module _ {A B : Type 0} (to : A → B) (of : B → A) (a : Codec A) (back : (x : A) → a.Fits x → of (to x) ≡ x) (forth : (y : B) → to (of y) ≡ y) where
  abbrev pub read_same : List ℕ → Option (B × List ℕ)
  read_same bytes = a.read bytes >>= λ x. Some (to x.0, x.1)

  pub takes_same : (bytes : List ℕ) → IfSome (read_same bytes) (Took (λ y. a.Fits (of y)) (λ y. a.spell (of y)) bytes)
  takes_same bytes =
      after_both (Took a.Fits a.spell bytes) (Took (λ y. a.Fits (of y)) (λ y. a.spell (of y)) bytes) (a.read bytes) (λ x. Some (to x.0, x.1)) (a.takes bytes)
      (λ x t. subst (λ (z : A). (bytes ≡ a.spell z ++ x.1) × a.Fits z) (sym (back x.0 t.1)) t)

  pub again_same : (y : B) (rest : List ℕ) → a.Fits (of y) → read_same (a.spell (of y) ++ rest) ≡ Some (y, rest)
  again_same y rest fits = rw (a.again (of y) rest fits) (ap (λ (z : B). Some (z, rest)) (forth y))

-- where `of` undoes `to` on what fits
abbrev pub fitting_as : {A B : Type 0} (to : A → B) (of : B → A) (a : Codec A) → ((x : A) → a.Fits x → of (to x) ≡ x) → ((y : B) → to (of y) ≡ y) → Codec B
fitting_as to of a back forth = record { Fits = λ y. a.Fits (of y); spell = λ y. a.spell (of y); read = read_same to of a back forth; takes = takes_same to of a back forth; again = again_same to of a back forth }

abbrev pub same_as : {A B : Type 0} (to : A → B) (of : B → A) → ((x : A) → of (to x) ≡ x) → ((y : B) → to (of y) ≡ y) → Codec A → Codec B
same_as to of back forth a = fitting_as to of a (λ x fits. back x) forth

-- only what passes a test

module _ {A : Type 0} (ok : A → Bool) (a : Codec A) where
  abbrev pub kept : A × List ℕ → Bool → Option (A × List ℕ)
  kept x true = Some x
  kept x false = None

  pub kept_took : (bytes : List ℕ) (x : A × List ℕ) (b : Bool) → ok x.0 ≡ b → Took a.Fits a.spell bytes x → IfSome (kept x b) (Took (λ y. IsTrue (ok y) × a.Fits y) a.spell bytes)
  kept_took bytes x true e t = (t.0, (e, t.1))
  kept_took bytes x false e t = tt

  abbrev pub read_tested : List ℕ → Option (A × List ℕ)
  read_tested bytes = a.read bytes >>= λ x. kept x (ok x.0)

  pub takes_tested : (bytes : List ℕ) → IfSome (read_tested bytes) (Took (λ y. IsTrue (ok y) × a.Fits y) a.spell bytes)
  takes_tested bytes =
      after_both (Took a.Fits a.spell bytes) (Took (λ y. IsTrue (ok y) × a.Fits y) a.spell bytes) (a.read bytes) (λ x. kept x (ok x.0)) (a.takes bytes)
      (λ x t. kept_took bytes x (ok x.0) refl t)

  pub again_tested : (x : A) (rest : List ℕ) → IsTrue (ok x) × a.Fits x → read_tested (a.spell x ++ rest) ≡ Some (x, rest)
  again_tested x rest fits = rw (a.again x rest fits.1, fits.0) refl

abbrev pub where_true : {A : Type 0} → (A → Bool) → Codec A → Codec A
where_true ok a = record { Fits = λ y. IsTrue (ok y) × a.Fits y; spell = a.spell; read = read_tested ok a; takes = takes_tested ok a; again = again_tested ok a }

-- another type, where only what fits goes both ways

module _ {A B : Type 0} (to : A → B) (of : B → A) (a : Codec A) (FitsB : B → Type 0) (back : (x : A) → a.Fits x → (of (to x) ≡ x) × FitsB (to x)) (forth : (y : B) → FitsB y → (to (of y) ≡ y) × a.Fits (of y)) where
  abbrev pub read_between : List ℕ → Option (B × List ℕ)
  read_between bytes = a.read bytes >>= λ x. Some (to x.0, x.1)

  pub takes_between : (bytes : List ℕ) → IfSome (read_between bytes) (Took FitsB (λ y. a.spell (of y)) bytes)
  takes_between bytes =
      after_both (Took a.Fits a.spell bytes) (Took FitsB (λ y. a.spell (of y)) bytes) (a.read bytes) (λ x. Some (to x.0, x.1)) (a.takes bytes)
      (λ x t. (subst (λ (z : A). bytes ≡ a.spell z ++ x.1) (sym (back x.0 t.1).0) t.0, (back x.0 t.1).1))

  pub again_between : (y : B) (rest : List ℕ) → FitsB y → read_between (a.spell (of y) ++ rest) ≡ Some (y, rest)
  again_between y rest fits = rw (a.again (of y) rest (forth y fits).1) (ap (λ (z : B). Some (z, rest)) (forth y fits).0)

abbrev pub between : {A B : Type 0} (to : A → B) (of : B → A) (a : Codec A) (FitsB : B → Type 0) → ((x : A) → a.Fits x → (of (to x) ≡ x) × FitsB (to x)) → ((y : B) → FitsB y → (to (of y) ≡ y) × a.Fits (of y)) → Codec B
between to of a FitsB back forth = record { Fits = FitsB; spell = λ y. a.spell (of y); read = read_between to of a FitsB back forth; takes = takes_between to of a FitsB back forth; again = again_between to of a FitsB back forth }

-- all of the bytes

module _ {A : Type 0} (a : Codec A) where
  -- the bytes are the spelling of a value, and end with it
  abbrev pub Spells : List ℕ → A → Type 0
  Spells bytes x = a.Fits x × (bytes ≡ a.spell x)

  abbrev pub if_end : A → List ℕ → Option A
  if_end x [] = Some x
  if_end x (b ∷ rest) = None

  -- the value that all of the bytes spell
  abbrev pub read_all : List ℕ → Option A
  read_all bytes = a.read bytes >>= λ p. if_end p.0 p.1

  end_took : (bytes : List ℕ) (x : A) (rest : List ℕ) → Took a.Fits a.spell bytes (x, rest) → IfSome (if_end x rest) (λ y. Spells bytes y)
  end_took bytes x [] t = (t.1, t.0 ∙ append-nil (a.spell x))
  end_took bytes x (b ∷ rest) t = tt

  pub all_found : (bytes : List ℕ) → IfSome (read_all bytes) (λ y. Spells bytes y)
  all_found bytes = after_both (Took a.Fits a.spell bytes) (λ y. Spells bytes y) (a.read bytes) (λ p. if_end p.0 p.1) (a.takes bytes) (λ p t. end_took bytes p.0 p.1 t)

  pub all_again : (bytes : List ℕ) (x : A) → Spells bytes x → read_all bytes ≡ Some x
  all_again bytes x s = rw (s.1 ∙ sym (append-nil (a.spell x)), a.again x [] s.0) refl
