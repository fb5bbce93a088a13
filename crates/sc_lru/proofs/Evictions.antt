-- Pairs that make way for a new one.
use Rattle.std.proofs.Common.{◌≡◌, ℕ, ◌-◌, ◌<◌, ◌≤◌, List, [], ◌∷◌, ◌++◌, drop, length, slice_get, Some, None, refl, sym, ap, ◌∙◌, arith}
use Rattle.sc_lru.specs.LruCache.{suffix_within, total}
use Rattle.sc_lru.proofs.Measures.{suffix_within-fits, suffix_within-over, total-cons}

pub shorter : {A : Type 0} (x : A) (entries after : List A) → Some x ≡ slice_get entries 0 → after ≡ drop 1 entries → length after < length entries
shorter x [] after first is = absurd (cc)
shorter x (e ∷ es) after first is = omega (arith, ap length is)

module _ {K V : Type 0} (measure : K → V → ℕ) (limit : ℕ) (old : List (K × V)) (pair : K × V) where
  -- the pairs that are left stand before the new one
  pub record Left (size left : ℕ) (now : List (K × V)) : Type 0 where
    pub rest : List (K × V)
    pub entries : now ≡ rest ++ pair ∷ []
    pub suffix : suffix_within measure limit rest ≡ suffix_within measure limit old
    pub sum : left ≡ total measure rest
    pub less : left ≤ size

  pub first_left : (size : ℕ) (entries : List (K × V)) → size ≡ total measure old → entries ≡ old ++ pair ∷ [] → Left size size entries
  first_left size entries sum is = record { rest = old; entries = is; suffix = refl; sum = sum; less = omega arith }

  none_left : (es : List (K × V)) → None ≡ slice_get (es ++ pair ∷ []) 0 → ⊥
  none_left [] e = absurd (cc)
  none_left (x ∷ es) e = absurd (cc)

  -- there is a pair to go
  pub some_left : (size left : ℕ) (entries : List (K × V)) → Left size left entries → None ≡ slice_get entries 0 → ⊥
  some_left size left entries l e = none_left l.rest (e ∙ ap (λ es. slice_get es 0) l.entries)

  one_more : (size left n : ℕ) (gone : K × V) (rest entries after : List (K × V)) → entries ≡ rest ++ pair ∷ [] → suffix_within measure limit rest ≡ suffix_within measure limit old → left ≡ total measure rest → left ≤ size → limit < left
      → Some gone ≡ slice_get entries 0 → after ≡ drop 1 entries → n ≡ measure gone.0 gone.1 → Left size (left - n) after
  one_more size left n gone [] entries after is suffix sum less over first left_is measured = absurd (omega (arith, sum, over))
  one_more size left n gone (e ∷ es) entries after is suffix sum less over first left_is measured =
      let same : gone ≡ e = some_is gone e (first ∙ ap (λ xs. slice_get xs 0) is) in
      let m : n ≡ measure e.0 e.1 = measured ∙ ap (λ (x : K × V). measure x.0 x.1) same in
      let over_all : limit < total measure (e ∷ es) = omega (arith, sum, over) in
      record {
        rest = es;
        entries = left_is ∙ ap (drop 1) is;
        suffix = sym (suffix_within-over measure limit (e ∷ es) over_all) ∙ suffix;
        sum = omega (arith, sum, m, total-cons measure e es);
        less = omega (arith, less);
      }
    where
      some_is : (a b : K × V) → Some a ≡ Some b → a ≡ b
      some_is a b h = cc

  pub next_left : (size left n : ℕ) (gone : K × V) (entries after : List (K × V)) → Left size left entries → limit < left → Some gone ≡ slice_get entries 0 → after ≡ drop 1 entries → n ≡ measure gone.0 gone.1 → Left size (left - n) after
  next_left size left n gone entries after l over first left_is measured = one_more size left n gone l.rest entries after l.entries l.suffix l.sum l.less over first left_is measured

  -- what a pair measures that goes is part of what is left
  pub part_left : (size left n : ℕ) (gone : K × V) (entries : List (K × V)) → Left size left entries → limit < left → Some gone ≡ slice_get entries 0 → n ≡ measure gone.0 gone.1 → n ≤ left
  part_left size left n gone entries l over first measured = in_rest l.rest l.entries l.sum
    where
      some_is : (a b : K × V) → Some a ≡ Some b → a ≡ b
      some_is a b h = cc

      in_rest : (rest : List (K × V)) → entries ≡ rest ++ pair ∷ [] → left ≡ total measure rest → n ≤ left
      in_rest [] is sum = absurd (omega (arith, sum, over))
      in_rest (e ∷ es) is sum =
          let m : n ≡ measure e.0 e.1 = measured ∙ ap (λ (x : K × V). measure x.0 x.1) (some_is gone e (first ∙ ap (λ xs. slice_get xs 0) is)) in
          omega (arith, sum, m, total-cons measure e es)

  pub all_left : (size left : ℕ) (entries : List (K × V)) → Left size left entries → left ≤ limit → entries ≡ suffix_within measure limit old ++ pair ∷ []
  all_left size left entries l fits = l.entries ∙ ap (λ es. es ++ pair ∷ []) (sym (suffix_within-fits measure limit l.rest (omega (arith, fits, l.sum))) ∙ l.suffix)

  pub sum_left : (size left : ℕ) (entries : List (K × V)) → Left size left entries → left ≤ limit → left ≡ total measure (suffix_within measure limit old)
  sum_left size left entries l fits = l.sum ∙ ap (total measure) (sym (suffix_within-fits measure limit l.rest (omega (arith, fits, l.sum))) ∙ l.suffix)
