-- A walk from the end of a list of files, while they fit.
use Rattle.std.proofs.Common.{◌≡◌, ℕ, ◌+◌, ◌-◌, ◌<◌, ◌≤◌, List, [], ◌∷◌, ◌++◌, length, refl, sym, ap, ◌∙◌, arith, append_assoc, append-nil}
use Rattle.std.proofs.lemmas.List.{map-append}
use Rattle.sc_lru.proofs.Measures.{suffix_within-fits, suffix_within-over, total-cons}
use Rattle.sc_lru.specs.LruCache.{suffix_within, total}
use Rattle.sc_disk.specs.Opening.{pair_of, pairs_of}
use Rattle.sc_disk.specs.Store.{size_of as measure}
use Rattle.sc_disk.specs.declared.disk.Listed.{Listed}
use Rattle.sc_store_disk.specs.Shown.{Index}

-- an end of a list takes no more than all of it
end_least : (xs es : Index) → total measure es ≤ total measure (xs ++ es)
end_least [] es = omega arith
end_least (x ∷ xs) es = let rest : total measure es ≤ total measure (xs ++ es) = end_least xs es in omega (arith, rest, total-cons measure x (xs ++ es))

-- the longest end that fits, where one more doesn't
suffix_stops : (capacity : ℕ) (xs : Index) (x : List ℕ × ℕ) (done : Index) → total measure done ≤ capacity → capacity < total measure (x ∷ done) → suffix_within measure capacity (xs ++ x ∷ done) ≡ done
suffix_stops capacity [] x done fits over = suffix_within-over measure capacity (x ∷ done) over ∙ suffix_within-fits measure capacity done fits
suffix_stops capacity (y ∷ xs) x done fits over =
    let least : total measure (x ∷ done) ≤ total measure (y ∷ xs ++ x ∷ done) = end_least (y ∷ xs) (x ∷ done) in
    suffix_within-over measure capacity (y ∷ xs ++ x ∷ done) (omega (arith, least, over)) ∙ suffix_stops capacity xs x done fits over

pairs-append : (xs ys : List Listed) → pairs_of (xs ++ ys) ≡ pairs_of xs ++ pairs_of ys
pairs-append xs ys = map-append pair_of xs ys

-- Of all files those that are left, and behind them those that fit so far.
pub record Walked (capacity bytes files : ℕ) (left all : List Listed) : Type 0 where
  pub done : List Listed
  pub order : left ++ done ≡ all
  pub sum : bytes ≡ total measure (pairs_of done)
  pub count : files ≡ length (pairs_of done)
  pub fits : bytes ≤ capacity

-- how much the longest end takes that fits, and how many files it has
pub record Ends (capacity bytes files : ℕ) (all : List Listed) : Type 0 where
  pub sum : bytes ≡ total measure (suffix_within measure capacity (pairs_of all))
  pub count : files ≡ length (suffix_within measure capacity (pairs_of all))

pub walked-none : (capacity : ℕ) (all : List Listed) → Walked capacity 0 0 all all
walked-none capacity all = record { done = []; order = append-nil all; sum = refl; count = refl; fits = omega arith }

pub walked-more : (capacity bytes files : ℕ) (left rest all : List Listed) (x : Listed) → left ≡ rest ++ x ∷ [] → bytes + x.size ≤ capacity → Walked capacity bytes files left all → Walked capacity (bytes + x.size) (files + 1) rest all
walked-more capacity bytes files left rest all x is fits w = record {
  done = x ∷ w.done;
  order = sym (append_assoc rest (x ∷ []) w.done) ∙ ap (λ l. l ++ w.done) (sym is) ∙ w.order;
  sum = omega (arith, w.sum, total-cons measure (pair_of x) (pairs_of w.done));
  count = omega (arith, w.count);
  fits = fits;
}

pub walked-stops : (capacity bytes files : ℕ) (left rest all : List Listed) (x : Listed) → left ≡ rest ++ x ∷ [] → capacity < bytes + x.size → Walked capacity bytes files left all → Ends capacity bytes files all
walked-stops capacity bytes files left rest all x is over w =
    let order : rest ++ x ∷ w.done ≡ all = sym (append_assoc rest (x ∷ []) w.done) ∙ ap (λ l. l ++ w.done) (sym is) ∙ w.order in
    let suffix : suffix_within measure capacity (pairs_of all) ≡ pairs_of w.done =
    ap (λ l. suffix_within measure capacity (pairs_of l)) (sym order) ∙ ap (suffix_within measure capacity) (pairs-append rest (x ∷ w.done))
    ∙ suffix_stops capacity (pairs_of rest) (pair_of x) (pairs_of w.done) (omega (arith, w.sum, w.fits)) (omega (arith, over, w.sum, total-cons measure (pair_of x) (pairs_of w.done))) in
    record { sum = w.sum ∙ ap (total measure) (sym suffix); count = w.count ∙ ap (λ (es : Index). length es) (sym suffix) }

none_left : (xs : List Listed) → length xs ≡ 0 → xs ≡ []
none_left [] e = refl
none_left (x ∷ xs) e = absurd (omega (arith, e))

pub walked-all : (capacity bytes files : ℕ) (left all : List Listed) → length left ≡ 0 → Walked capacity bytes files left all → Ends capacity bytes files all
walked-all capacity bytes files left all none w =
    let order : w.done ≡ all = ap (λ l. l ++ w.done) (sym (none_left left none)) ∙ w.order in
    let suffix : suffix_within measure capacity (pairs_of all) ≡ pairs_of w.done =
    ap (λ l. suffix_within measure capacity (pairs_of l)) (sym order) ∙ suffix_within-fits measure capacity (pairs_of w.done) (omega (arith, w.sum, w.fits)) in
    record { sum = w.sum ∙ ap (total measure) (sym suffix); count = w.count ∙ ap (λ (es : Index). length es) (sym suffix) }
