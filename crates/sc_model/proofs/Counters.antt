-- Level counters: what the code counts is the sum of the rows.
use Rattle.std.proofs.Common.{◌≡◌, ℕ, zero, suc, ◌<◌, ◌≤◌, ⊎_elim, Bool, true, false, cond, ◌&&◌, eqb, List, [], ◌∷◌, length, Option, Some, None, refl, sym, ap, ◌∙◌, arith, get_or, set, get_or-set_same, get_or-set_other, nat_lt}
use Rattle.sc_model.proofs.Backs.{IsWrite}
use Rattle.sc_model.specs.Machine.{counted_at, counted_level}
use Rattle.sc_model.specs.Rows.{by_backfill, is_at, level_named, level_row}
use Rattle.sc_model.specs.Script.{is_single}
use Rattle.sc_model.specs.declared.event.Mode.TheVariants.{Path, Pre, Raw, Size as Sizes, Whole}
use Rattle.sc_model.specs.declared.event.What.{What}
use Rattle.sc_model.specs.declared.event.What.TheVariants.{Committed, Filled, Reserved, Wrote}
use Rattle.sc_model.specs.declared.event.Written.TheVariants.{Done as WriteDone, Refused as WriteRefused}
use Rattle.sc_model.specs.declared.level.Policy.{Policy}
use Rattle.sc_model.specs.declared.level.Policy.TheVariants.{Levels, Single}
use Rattle.sc_stats.specs.declared.counters.LevelStats.{LevelStats}
use Rattle.std.proofs.lemmas.Bool.{and_from, cases_eq, cases_lt, eq-eqb, le-ltb, lt-ltb, ne_eqb}
use Rattle.sc_stats.specs.Sums.{add_level, no_level_stats}

get_past : {A : Type 0} (xs : List A) (i : ℕ) (d : A) → length xs ≤ i → get_or xs i d ≡ d
get_past [] i d h = refl
get_past (x ∷ xs) zero d h = absurd (omega arith)
get_past (x ∷ xs) (suc i) d h = get_past xs i d (omega arith)

pub length_set : {A : Type 0} (xs : List A) (i : ℕ) (v : A) → length (set xs i v) ≡ length xs
length_set [] i v = refl
length_set (x ∷ xs) zero v = refl
length_set (x ∷ xs) (suc i) v = let ih = length_set xs i v in omega (arith, ih)

pub row_at : (ls : List LevelStats) (n l k : ℕ) (w before : LevelStats) → length ls ≡ n → get_or ls l no_level_stats ≡ before → get_or (counted_at (Some k) w ls) l no_level_stats ≡ cond (nat_lt l n && eqb k l) (add_level before w) before
row_at ls n l k w before len e =
    ⊎_elim (λ (r : l < n).
    ⊎_elim (λ (q : k ≡ l).
    ap (λ v. get_or (set ls v (add_level (get_or ls v no_level_stats) w)) l no_level_stats) q
    ∙ get_or-set_same ls l (add_level (get_or ls l no_level_stats) w) no_level_stats (omega (arith, len, r))
    ∙ ap (λ v. add_level v w) e ∙ sym (ap (λ b. cond b (add_level before w) before) (and_from (nat_lt l n) (eqb k l) (lt-ltb l n r) (eq-eqb k l q))))
    (λ (q : k ≡ l → ⊥).
    get_or-set_other ls k l (add_level (get_or ls k no_level_stats) w) no_level_stats (λ z. q (sym z)) ∙ e
    ∙ sym (ap (λ b. cond (nat_lt l n && b) (add_level before w) before) (ne_eqb k l q) ∙ and_no (nat_lt l n)))
    (cases_eq k l))
    (λ (r : n ≤ l).
    let out : get_or ls l no_level_stats ≡ no_level_stats = get_past ls l no_level_stats (omega (arith, len, r)) in
    get_past (set ls k (add_level (get_or ls k no_level_stats) w)) l no_level_stats (omega (arith, len, r, length_set ls k (add_level (get_or ls k no_level_stats) w)))
    ∙ sym out ∙ e ∙ sym (ap (λ b. cond (b && eqb k l) (add_level before w) before) (le-ltb l n r)))
    (cases_lt l n)
  where
    and_no : (b : Bool) → cond (b && false) (add_level before w) before ≡ before
    and_no true = refl
    and_no false = refl

pub named_row : (o : Option ℕ) (ls : List LevelStats) (n l : ℕ) (w before : LevelStats) → length ls ≡ n → get_or ls l no_level_stats ≡ before → get_or (counted_at o w ls) l no_level_stats ≡ cond (is_at n l o) (add_level before w) before
named_row None ls n l w before len e = e
named_row (Some k) ls n l w before len e = row_at ls n l k w before len e

pub named_length : (o : Option ℕ) (ls : List LevelStats) (w : LevelStats) → length (counted_at o w ls) ≡ length ls
named_length None ls w = refl
named_length (Some k) ls w = length_set ls k (add_level (get_or ls k no_level_stats) w)

pub policy_length : (p : Policy) (w : LevelStats) (x : What) (ls : List LevelStats) → length (counted_level p w x ls) ≡ length ls
policy_length Single w x ls = refl
policy_length (Levels ps) w x ls = named_length (level_named x) ls w

pub policy_row : (p : Policy) (x : What) (ls : List LevelStats) (n l : ℕ) (w before : LevelStats) → is_single p ≡ false → length ls ≡ n → get_or ls l no_level_stats ≡ before → get_or (counted_level p w x ls) l no_level_stats ≡ cond (is_at n l (level_named x)) (add_level before w) before
policy_row Single x ls n l w before i len e = (cc)
policy_row (Levels ps) x ls n l w before i len e = named_row (level_named x) ls n l w before len e

-- a handed write's row needs no moment of an event before it
pub row_back : (b : Bool) (at last since z : ℕ) (x : What) → IsWrite x → level_row (by_backfill b at) 0 since z x ≡ level_row (by_backfill b at) last since z x
row_back b at last since z (Reserved l k n WriteDone) w = refl
row_back b at last since z (Reserved l k n (WriteRefused c)) w = refl
row_back b at last since z (Filled l k d mark WriteDone) w = refl
row_back b at last since z (Filled l k d mark (WriteRefused c)) w = refl
row_back b at last since z (Committed l k d v) w = refl
row_back true at last since z (Wrote l k d Whole mark WriteDone) w = refl
row_back true at last since z (Wrote l k d Whole mark (WriteRefused c)) w = refl
row_back false at last since z (Wrote l k d Whole mark v) w = refl
row_back b at last since z (Wrote l k d Raw mark v) w = refl
row_back b at last since z (Wrote l k d Path mark v) w = refl
row_back b at last since z (Wrote l k d Pre mark v) w = refl
row_back b at last since z (Wrote l k d Sizes mark v) w = refl
row_back b at last since z _ w = absurd w
