-- Parts of sums, and sums of levels place by place.
use Rattle.std.proofs.Common.{◌≡◌, ℕ, zero, suc, ◌<◌, ◌≤◌, List, [], ◌∷◌, ◌++◌, length, take, drop, get_or, Option, Some, None, refl, ap, sym, ◌∙◌, arith}
use Rattle.std.proofs.Math.Seq.{drop-length, take-length}
use Rattle.std.proofs.lemmas.List.{append-nil}
use Rattle.std.proofs.Math.ListN.{set}
use Rattle.std.specs.FinMap.{empty, entries}
use Rattle.sc_entry.specs.Tally.{IsPartSum, Tally, add_counts, add_each}
use Rattle.sc_entry.proofs.Tallies.{entries_empty}
use Rattle.sc_stats.specs.Parts.{HasNumbersAlone, IsPartOfLanguages, IsPartOfMulti, with_counts}
use Rattle.sc_stats.specs.Sums.{add_languages, add_level, add_levels, add_multi, no_counts, places_of, sum}
use Rattle.sc_stats.specs.declared.counters.ServerStats.{ServerStats}
use Rattle.sc_stats.specs.declared.counters.LevelStats.{LevelStats}
use Rattle.sc_stats.specs.declared.counters.PerLanguageCount.{PerLanguageCount}

-- nothing is added yet
pub no_part : (a b both : Tally) → both ≡ a → IsPartSum a b both
no_part a b both e = ([], entries b, refl, e)

-- all is added
pub whole_part : (a b both : Tally) → both ≡ add_counts a b → IsPartSum a b both
whole_part a b both e = (entries b, [], sym (append-nil (entries b)), e)

pub no_languages : (a b both : PerLanguageCount) → both ≡ a → IsPartOfLanguages a b both
no_languages a b both e = (no_part a.counts b.counts both.counts (ap (λ (p : PerLanguageCount). p.counts) e), no_part a.adv_counts b.adv_counts both.adv_counts (ap (λ (p : PerLanguageCount). p.adv_counts) e))

pub whole_languages : (a b both : PerLanguageCount) → both ≡ add_languages a b → IsPartOfLanguages a b both
whole_languages a b both e = (whole_part a.counts b.counts both.counts (ap (λ (p : PerLanguageCount). p.counts) e), whole_part a.adv_counts b.adv_counts both.adv_counts (ap (λ (p : PerLanguageCount). p.adv_counts) e))

pub add_levels_none : (as' : List LevelStats) → add_levels as' [] ≡ as'
add_levels_none [] = refl
add_levels_none (a ∷ as') = refl

-- one level more, where there is one to add it to
pub add_levels-more : (as' bs : List LevelStats) (i : ℕ) (d e : LevelStats) → i < length (add_levels as' (take i bs)) → i < length bs
    → set (add_levels as' (take i bs)) i (add_level (get_or (add_levels as' (take i bs)) i d) (get_or bs i e)) ≡ add_levels as' (take (suc i) bs)
add_levels-more as' [] i d e in_a in_b = absurd (omega arith)
add_levels-more [] (b ∷ bs) zero d e in_a in_b = absurd (omega arith)
add_levels-more [] (b ∷ bs) (suc i) d e in_a in_b = ap (λ ls. b ∷ ls) (add_levels-more [] bs i d e (omega arith) (omega arith))
add_levels-more (a ∷ as') (b ∷ bs) zero d e in_a in_b = ap (λ ls. add_level a b ∷ ls) (sym (add_levels_none as'))
add_levels-more (a ∷ as') (b ∷ bs) (suc i) d e in_a in_b = ap (λ ls. add_level a b ∷ ls) (add_levels-more as' bs i d e (omega arith) (omega arith))

-- one level more than there were
pub add_levels-longer : (as' bs : List LevelStats) (i : ℕ) (e : LevelStats) → length (add_levels as' (take i bs)) ≤ i → i < length bs
    → add_levels as' (take i bs) ++ get_or bs i e ∷ [] ≡ add_levels as' (take (suc i) bs)
add_levels-longer as' [] i e past in_b = absurd (omega arith)
add_levels-longer [] (b ∷ bs) zero e past in_b = refl
add_levels-longer [] (b ∷ bs) (suc i) e past in_b = ap (λ ls. b ∷ ls) (add_levels-longer [] bs i e (omega arith) (omega arith))
add_levels-longer (a ∷ as') (b ∷ bs) zero e past in_b = absurd (omega arith)
add_levels-longer (a ∷ as') (b ∷ bs) (suc i) e past in_b = ap (λ ls. add_level a b ∷ ls) (add_levels-longer as' bs i e (omega arith) (omega arith))

-- levels keep their places where others are added
pub places_stay : (as' bs : List LevelStats) → places_of (take (length as') (add_levels as' bs)) ≡ places_of as'
places_stay [] bs = refl
places_stay (a ∷ as') [] = ap places_of (take-length (a ∷ as'))
places_stay (a ∷ as') (b ∷ bs) = ap (λ ps. (a.name, a.location) ∷ ps) (places_stay as' bs)

-- what others have more stands after them
pub surplus_stays : (as' bs : List LevelStats) → drop (length as') (add_levels as' bs) ≡ drop (length as') bs
surplus_stays [] bs = refl
surplus_stays (a ∷ as') [] = drop-length as'
surplus_stays (a ∷ as') (b ∷ bs) = surplus_stays as' bs

pub no_multi : (a b : Option (List LevelStats)) → IsPartOfMulti a b a
no_multi None b = refl
no_multi (Some a) None = refl
no_multi (Some a) (Some b) = ([], b, refl, sym (add_levels_none a))

-- a sum with nothing
add_none : (a b : Tally) → b ≡ empty → a ≡ add_counts a b
add_none a b e = sym (ap (λ es. add_each es a) (ap entries e ∙ entries_empty))

add_no_languages : (a b : PerLanguageCount) → b ≡ no_counts → a ≡ add_languages a b
add_no_languages a b e = λ i. record {
  counts = add_none a.counts b.counts (ap (λ (p : PerLanguageCount). p.counts) e) i;
  adv_counts = add_none a.adv_counts b.adv_counts (ap (λ (p : PerLanguageCount). p.adv_counts) e) i;
}

add_no_multi : (a b : Option (List LevelStats)) → b ≡ None → a ≡ add_multi a b
add_no_multi None b e = sym e
add_no_multi (Some a) None e = refl
add_no_multi (Some a) (Some b) e = cc

-- where one has numbers alone, they are the whole sum
pub sum_of_numbers : (a b : ServerStats) → HasNumbersAlone b → with_counts (sum a b) a ≡ sum a b
sum_of_numbers a b alone = λ i. record (sum a b) {
  cache_errors = add_no_languages a.cache_errors b.cache_errors (ap (λ (s : ServerStats). s.cache_errors) alone) i;
  cache_hits = add_no_languages a.cache_hits b.cache_hits (ap (λ (s : ServerStats). s.cache_hits) alone) i;
  cache_misses = add_no_languages a.cache_misses b.cache_misses (ap (λ (s : ServerStats). s.cache_misses) alone) i;
  not_cached = add_none a.not_cached b.not_cached (ap (λ (s : ServerStats). s.not_cached) alone) i;
  dist_compiles = add_none a.dist_compiles b.dist_compiles (ap (λ (s : ServerStats). s.dist_compiles) alone) i;
  multi_level = add_no_multi a.multi_level b.multi_level (ap (λ (s : ServerStats). s.multi_level) alone) i;
}
