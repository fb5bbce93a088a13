-- What a daemon may be made of.
use Rattle.std.proofs.Common.{◌≡◌, ℕ, suc, ◌≤◌, ◌&&◌, ◌==◌, nat_lt, Bool, true, List, [], ◌∷◌, length, refl, ap, ◌∙◌, arith, lt-ltb, eq-eqb}
use Rattle.sc_model.specs.declared.level.LevelFacts.{LevelFacts}
use Rattle.sc_model.specs.declared.level.Policy.{Policy}
use Rattle.sc_daemon_owned.specs.State.{is_good, is_made, is_within}
use Rattle.sc_store.specs.Held.{Title}
use Rattle.sc_store.specs.Telling.{new_counters}

both_true : (a b : Bool) → a ≡ true → b ≡ true → (a && b) ≡ true
both_true a b x y = rw (x, y) refl

within : (tokens limit : ℕ) → 1 ≤ tokens → tokens ≤ 65535 → 1 ≤ limit → limit ≤ 16777216 → is_within tokens limit ≡ true
within tokens limit a b c d =
    both_true (nat_lt 0 tokens && nat_lt tokens 65536) (nat_lt 0 limit && nat_lt limit 16777217)
    (both_true (nat_lt 0 tokens) (nat_lt tokens 65536) (lt-ltb 0 tokens (omega (arith, a))) (lt-ltb tokens 65536 (omega (arith, b))))
    (both_true (nat_lt 0 limit) (nat_lt limit 16777217) (lt-ltb 0 limit (omega (arith, c))) (lt-ltb limit 16777217 (omega (arith, d))))

-- each level begins with its counters
counters_count : (n : ℕ) (ts : List Title) → length (new_counters n ts) ≡ length ts
counters_count n [] = refl
counters_count n (t ∷ ts) = ap suc (counters_count (suc n) ts)

pub made : (policy : Policy) (fs : List LevelFacts) (ts : List Title) (tokens limit : ℕ) → is_good policy fs ≡ true → 1 ≤ tokens → tokens ≤ 65535 → 1 ≤ limit → limit ≤ 16777216 → length ts ≡ length fs
    → is_made policy fs (new_counters 0 ts) tokens limit ≡ true
made policy fs ts tokens limit good a b c d same =
    both_true (is_good policy fs && is_within tokens limit) (length (new_counters 0 ts) == length fs)
    (both_true (is_good policy fs) (is_within tokens limit) good (within tokens limit a b c d))
    (eq-eqb (length (new_counters 0 ts)) (length fs) (counters_count 0 ts ∙ same))
