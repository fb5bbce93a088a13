-- A level that is changed where it stands in a list.
use Rattle.std.proofs.Common.{◌≡◌, ℕ, zero, suc, ◌<◌, List, [], ◌∷◌, ◌++◌, length, get_or, set, ap, arith}
use Rattle.sc_main_script.specs.Levels.{changed, with_call, with_key}
use Rattle.sc_main_script.specs.declared.level_rule.LevelRule.{LevelRule}

set_as : (xs : List LevelRule) (i : ℕ) (r : LevelRule) (f : LevelRule → LevelRule) → i < length xs → r ≡ get_or xs i r → set xs i (f r) ≡ changed xs i f
set_as [] i r f lt e = absurd (omega arith)
set_as (x ∷ xs) zero r f lt e = ap (λ (y : LevelRule). f y ∷ xs) e
set_as (x ∷ xs) (suc i) r f lt e = ap (λ (ys : List LevelRule). x ∷ ys) (set_as xs i r f (omega arith) e)

set_changed : (xs ys : List LevelRule) (i : ℕ) (r : LevelRule) (f : LevelRule → LevelRule) → xs ≡ ys → i < length ys → r ≡ get_or xs i r → set xs i (f r) ≡ changed ys i f
set_changed xs ys i r f same lt e = rw same (set_as ys i r f lt (rw (← same) e))

pub set_held : (xs ys : List LevelRule) (i : ℕ) (r : LevelRule) (key bytes : List ℕ) (holds : List (List ℕ × List ℕ)) → xs ≡ ys → i < length ys → r ≡ get_or xs i r → holds ≡ r.holds ++ (key, bytes) ∷ []
    → set xs i (record r { holds = holds }) ≡ changed ys i (with_key key bytes)
set_held xs ys i r key bytes holds same lt e is = rw is (set_changed xs ys i r (with_key key bytes) same lt e)

pub set_failing : (xs ys : List LevelRule) (i : ℕ) (r : LevelRule) (call : ℕ) (fails : List ℕ) → xs ≡ ys → i < length ys → r ≡ get_or xs i r → fails ≡ r.fails ++ call ∷ []
    → set xs i (record r { fails = fails }) ≡ changed ys i (with_call call)
set_failing xs ys i r call fails same lt e is = rw is (set_changed xs ys i r (with_call call) same lt e)
