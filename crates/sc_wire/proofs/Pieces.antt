use Rattle.std.proofs.Common.{◌≡◌, ℕ, suc, zero, ◌≤◌, List, [], ◌∷◌, ◌++◌, length, drop, refl, arith}

pub drop_more : (n : ℕ) (a b : List ℕ) → n ≤ length a → drop n (a ++ b) ≡ drop n a ++ b
drop_more zero a b le = refl
drop_more (suc n) [] b le = absurd (omega arith)
drop_more (suc n) (x ∷ a) b le = drop_more n a b (omega arith)
