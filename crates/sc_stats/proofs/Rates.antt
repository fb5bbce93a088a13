use Rattle.std.proofs.Common.{ℕ, ◌+◌, ◌-◌, ◌*◌, ◌/◌, ◌%◌, ◌≤◌, ◌==◌, Bool, true, false, cond, nat_lt, arith}
use Rattle.std.proofs.Math.Nat.{div-le_of_le-mul}
use Rattle.sc_stats.specs.Figures.{hit_rate, nearest}

le_either : (b : Bool) (x y n : ℕ) → x ≤ n → y ≤ n → cond b x y ≤ n
le_either true x y n p q = p
le_either false x y n p q = q

nearest-le : (q below above : ℕ) → nearest q below above ≤ q + 1
nearest-le q below above = le_either (nat_lt below above) _ _ _ (omega arith) (le_either (nat_lt above below) _ _ _ (omega arith) (omega arith))

pub hit_rate-le : (hits misses : ℕ) → hit_rate hits misses ≤ 10001
hit_rate-le hits misses =
    let q : 10000 * hits / (hits + misses) ≤ 10000 = div-le_of_le-mul (hits + misses) (omega arith) in
    let near : nearest (10000 * hits / (hits + misses)) (10000 * hits % (hits + misses)) ((hits + misses) - 10000 * hits % (hits + misses)) ≤ 10000 * hits / (hits + misses) + 1 = nearest-le (10000 * hits / (hits + misses)) (10000 * hits % (hits + misses)) ((hits + misses) - 10000 * hits % (hits + misses)) in
    le_either (hits + misses == 0) 0 _ 10001 (omega arith) (omega arith)
