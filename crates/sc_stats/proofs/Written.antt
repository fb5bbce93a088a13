-- Lines written one after the other.
use Rattle.std.proofs.Common.{ℕ, zero, suc, ◌+◌, ◌<◌, ◌≤◌, List, [], ◌∷◌, length, take, get_or, refl, sym, subst, arith, add-one}
use Rattle.sc_stats.specs.Writers.{WritesEach}

module _ {W : Type 0} (writes : W → List ℕ → W → Type 0) where
  -- one line more
  pub one_more : (lines : List (List ℕ)) (i : ℕ) (d : List ℕ) (old mid new : W) → i < length lines → WritesEach writes old (take i lines) mid → writes mid (get_or lines i d) new → WritesEach writes old (take (i + 1) lines) new
  one_more lines i d old mid new h so_far one = let P : ℕ → Type 0 = λ n. WritesEach writes old (take n lines) new in subst P (sym (add-one i)) (stepped lines i d old mid new h so_far one) where
    stepped : (lines : List (List ℕ)) (i : ℕ) (d : List ℕ) (old mid new : W) → i < length lines → WritesEach writes old (take i lines) mid → writes mid (get_or lines i d) new → WritesEach writes old (take (suc i) lines) new
    stepped [] i d old mid new h so_far one = absurd (omega arith)
    stepped (l ∷ ls) zero d old mid new h so_far one = (new, subst (λ (w : W). writes w l new) so_far one, refl)
    stepped (l ∷ ls) (suc i) d old mid new h so_far one = (so_far.0, so_far.1, stepped ls i d so_far.0 mid new (omega arith) so_far.2 one)

  -- all of them
  pub all_written : (lines : List (List ℕ)) (i : ℕ) (old new : W) → length lines ≤ i → WritesEach writes old (take i lines) new → WritesEach writes old lines new
  all_written [] zero old new h so_far = so_far
  all_written [] (suc i) old new h so_far = so_far
  all_written (l ∷ ls) zero old new h so_far = absurd (omega arith)
  all_written (l ∷ ls) (suc i) old new h so_far = (so_far.0, so_far.1, all_written ls i so_far.0 new (omega arith) so_far.2)
