-- What follows where a definition by tests gave something.
use Rattle.std.proofs.Common.{◌≡◌, ℕ, ◌<◌, ◌≤◌, Bool, true, false, ◌&&◌, ◌==◌, nat_le, nat_lt, Option, Some, None, unwrap_or, refl, ap, arith, if◌then◌else◌}
use Rattle.std.proofs.lemmas.Grind.{common_steps}
use Rattle.sc_words.specs.Words.{◌>>=◌, only_if}

pub some_same : {A : Type 0} (x y : A) → Some x ≡ Some y → x ≡ y
some_same {A} x y e = ap (λ (o : Option A). unwrap_or o x) e

pub left_of : (a b : Bool) → (a && b) ≡ true → a ≡ true
left_of true b e = refl
left_of false b e = absurd (cc)

pub right_of : (a b : Bool) → (a && b) ≡ true → b ≡ true
right_of true b e = e
right_of false b e = absurd (cc)

pub both : (a b : Bool) → a ≡ true → b ≡ true → (a && b) ≡ true
both a b e f = rw (e, f) refl

pub by_test : {A P : Type 0} (b : Bool) (x y z : A) → (b ≡ true → x ≡ z → P) → (y ≡ z → P) → (if b then x else y) ≡ z → P
by_test true x y z f g e = f refl e
by_test false x y z f g e = g e

pub by_only : {A P : Type 0} (b : Bool) (x z : A) → (b ≡ true → x ≡ z → P) → only_if b x ≡ Some z → P
by_only true x z f e = f refl (some_same x z e)
by_only false x z f e = absurd (cc)

pub by_then : {A B P : Type 0} (o : Option A) (f : A → Option B) (z : B) → ((x : A) → o ≡ Some x → f x ≡ Some z → P) → (o >>= f) ≡ Some z → P
by_then (Some x) f z g e = g x refl e
by_then None f z g e = absurd (cc)

pub le_of_test : (a b : ℕ) → nat_le a b ≡ true → a ≤ b
le_of_test a b h = grind (arith, common_steps)

pub eq_of_test : (a b : ℕ) → (a == b) ≡ true → a ≡ b
eq_of_test a b h = grind (arith, common_steps)

pub lt_of_test : (a b : ℕ) → nat_lt a b ≡ true → a < b
lt_of_test a b h = grind (arith, common_steps)
