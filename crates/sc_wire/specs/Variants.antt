-- One of several kinds, each behind its number.
use Rattle.std.specs.Prelude.{◌≡◌, ℕ, ◌<◌, ◌≤◌, ◌^◌, Bool, true, false, cond, ◌⊎◌, ◌==◌, List, ◌++◌, Option, Some, None, Result, Ok, Err, IfSome, refl}
use Rattle.std.proofs.Common.{sym, ap, ◌∙◌, append_assoc, arith, inl, inr, lit<}
use Rattle.std.proofs.lemmas.Bool.{eqb-true, eq-eqb, ne_eqb}
use Rattle.std.proofs.lemmas.Option.{IfSome_then}
use Rattle.sc_wire.specs.Codec.{◌>>=◌, Codec, Took, after_both, same_as}
use Rattle.sc_wire.specs.Numbers.{u32}

pub record Kinds (A : Type 0) : Type 1 where
  pub Fits : A → Type 0
  pub tag : A → ℕ
  pub body : A → List ℕ
  pub read : ℕ → List ℕ → Option (A × List ℕ)
  pub from : ℕ
  pub takes : (t : ℕ) (bytes : List ℕ) → IfSome (read t bytes) (λ p. (t ≡ tag p.0) × Took Fits body bytes p)
  pub again : (x : A) (rest : List ℕ) → Fits x → read (tag x) (body x ++ rest) ≡ Some (x, rest)
  pub above : (x : A) → from ≤ tag x
  pub small : (x : A) → tag x < 2 ^ 32

module _ {A : Type 0} (k : ℕ) (a : Codec A) where
  abbrev pub read_last : ℕ → List ℕ → Option (A × List ℕ)
  read_last t bytes = cond (t == k) (a.read bytes) None

  pub last_took : (t : ℕ) (bytes : List ℕ) (b : Bool) → (t == k) ≡ b → IfSome (cond b (a.read bytes) None) (λ p. (t ≡ k) × Took a.Fits a.spell bytes p)
  last_took t bytes true e = IfSome_then (a.read bytes) (a.takes bytes) (λ p h. (eqb-true t k e, h))
  last_took t bytes false e = tt

abbrev pub last : {A : Type 0} (k : ℕ) → Codec A → k < 2 ^ 32 → Kinds A
last k a small = record {
  Fits = a.Fits;
  tag = λ x. k;
  body = a.spell;
  read = read_last k a;
  from = k;
  takes = λ t bytes. last_took k a t bytes (t == k) refl;
  again = λ x rest fits. rw (eq-eqb k k refl) (a.again x rest fits);
  above = λ x. omega arith;
  small = λ x. small;
}

module _ {A B : Type 0} (k : ℕ) (a : Codec A) (rest : Kinds B) where
  abbrev pub read_either : ℕ → List ℕ → Option ((A ⊎ B) × List ℕ)
  read_either t bytes = cond (t == k) (a.read bytes >>= λ x. Some (inl x.0, x.1)) (rest.read t bytes >>= λ y. Some (inr y.0, y.1))

  abbrev pub FitsEither : A ⊎ B → Type 0
  FitsEither (inl x) = a.Fits x
  FitsEither (inr y) = rest.Fits y

  abbrev pub tag_either : A ⊎ B → ℕ
  tag_either (inl x) = k
  tag_either (inr y) = rest.tag y

  abbrev pub body_either : A ⊎ B → List ℕ
  body_either (inl x) = a.spell x
  body_either (inr y) = rest.body y

  abbrev pub EitherTook : ℕ → List ℕ → (A ⊎ B) × List ℕ → Type 0
  EitherTook t bytes p = (t ≡ tag_either p.0) × Took FitsEither body_either bytes p

  pub either_took : (t : ℕ) (bytes : List ℕ) (b : Bool) → (t == k) ≡ b → IfSome (cond b (a.read bytes >>= λ x. Some (inl x.0, x.1)) (rest.read t bytes >>= λ y. Some (inr y.0, y.1))) (EitherTook t bytes)
  either_took t bytes true e =
      after_both (Took a.Fits a.spell bytes) (EitherTook t bytes) (a.read bytes) (λ x. Some (inl x.0, x.1)) (a.takes bytes) (λ x h. (eqb-true t k e, h))
  either_took t bytes false e =
      after_both (λ p. (t ≡ rest.tag p.0) × Took rest.Fits rest.body bytes p) (EitherTook t bytes) (rest.read t bytes) (λ y. Some (inr y.0, y.1)) (rest.takes t bytes) (λ y h. h)

  pub either_again : k < rest.from → (x : A ⊎ B) (more : List ℕ) → FitsEither x → read_either (tag_either x) (body_either x ++ more) ≡ Some (x, more)
  either_again lt (inl x) more fits = rw (eq-eqb k k refl, a.again x more fits) refl
  either_again lt (inr y) more fits =
      let up = rest.above y in
      rw (ne_eqb (rest.tag y) k (λ e. omega arith), rest.again y more fits) refl

  pub either_above : k < rest.from → (x : A ⊎ B) → k ≤ tag_either x
  either_above lt (inl x) = omega arith
  either_above lt (inr y) = let up = rest.above y in omega arith

  pub either_small : k < 2 ^ 32 → (x : A ⊎ B) → tag_either x < 2 ^ 32
  either_small lt (inl x) = lt
  either_small lt (inr y) = rest.small y

abbrev pub either : {A B : Type 0} (k : ℕ) → Codec A → (rest : Kinds B) → k < 2 ^ 32 → k < rest.from → Kinds (A ⊎ B)
either k a rest small lt = record {
  Fits = FitsEither k a rest;
  tag = tag_either k a rest;
  body = body_either k a rest;
  read = read_either k a rest;
  from = k;
  takes = λ t bytes. either_took k a rest t bytes (t == k) refl;
  again = either_again k a rest lt;
  above = either_above k a rest lt;
  small = either_small k a rest small;
}

module _ {A : Type 0} (kinds : Kinds A) where
  abbrev pub spell_kind : A → List ℕ
  spell_kind x = u32.spell (kinds.tag x) ++ kinds.body x

  abbrev pub read_kind : List ℕ → Option (A × List ℕ)
  read_kind bytes = u32.read bytes >>= λ t. kinds.read t.0 t.1

  pub takes_kind : (bytes : List ℕ) → IfSome (read_kind bytes) (Took kinds.Fits spell_kind bytes)
  takes_kind bytes =
      after_both (Took u32.Fits u32.spell bytes) (Took kinds.Fits spell_kind bytes) (u32.read bytes) (λ t. kinds.read t.0 t.1) (u32.takes bytes)
      (λ t h. IfSome_then (kinds.read t.0 t.1) (kinds.takes t.0 t.1)
      (λ p g. (h.0 ∙ ap (λ (r : List ℕ). u32.spell t.0 ++ r) g.1.0 ∙ ap (λ (n : ℕ). u32.spell n ++ (kinds.body p.0 ++ p.1)) g.0 ∙ sym (append_assoc (u32.spell (kinds.tag p.0)) (kinds.body p.0) p.1), g.1.1)))

  pub again_kind : (x : A) (rest : List ℕ) → kinds.Fits x → read_kind (spell_kind x ++ rest) ≡ Some (x, rest)
  again_kind x rest fits =
      rw (append_assoc (u32.spell (kinds.tag x)) (kinds.body x) rest, u32.again (kinds.tag x) (kinds.body x ++ rest) (kinds.small x)) (kinds.again x rest fits)

abbrev pub variants : {A : Type 0} → Kinds A → Codec A
variants kinds = record { Fits = kinds.Fits; spell = spell_kind kinds; read = read_kind kinds; takes = takes_kind kinds; again = again_kind kinds }

-- a result: variant 0 Ok or 1 Err

abbrev pub result_to : {A E : Type 0} → A ⊎ E → Result A E
result_to (inl x) = Ok x
result_to (inr e) = Err e

abbrev pub result_of : {A E : Type 0} → Result A E → A ⊎ E
result_of (Ok x) = inl x
result_of (Err e) = inr e

pub result_back : {A E : Type 0} (x : A ⊎ E) → result_of (result_to x) ≡ x
result_back (inl x) = refl
result_back (inr e) = refl

pub result_forth : {A E : Type 0} (y : Result A E) → result_to (result_of y) ≡ y
result_forth (Ok x) = refl
result_forth (Err e) = refl

abbrev pub result : {A E : Type 0} → Codec A → Codec E → Codec (Result A E)
result a e = same_as result_to result_of result_back result_forth (variants (either 0 a (last 1 e (lit< tt)) (lit< tt) (lit< tt)))
