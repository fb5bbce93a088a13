-- A daemon can be made of what a drawn script says.
use Rattle.std.proofs.Common.{◌≡◌, ℕ, zero, suc, ◌+◌, ◌*◌, Bool, true, ◌&&◌, List, [], ◌∷◌, ◌++◌, length, replicate, codes, refl, ap, ◌∙◌, arith, length-append, lit≤}
use Rattle.std.proofs.lemmas.Str.{is_utf8-from_IsUtf8, IsUtf8-from_ascii}
use Rattle.std.specs.Str.{IsAscii}
use Rattle.sc_main_drawn.specs.Drawn.{drawn_script, drawn_steps, back, reads, round, runs, serve, steps}
use Rattle.sc_main_drawn.specs.Keys.{run}
use Rattle.sc_main_generate.specs.Generated.{after}
use Rattle.sc_main_script.specs.Goods.{IsGood, are_good_runs}
use Rattle.sc_model.specs.GoodNames.{is_good_answer}
use Rattle.sc_model.specs.declared.event.Step.{Step}

ascii_name : IsAscii (codes "obj")
ascii_name zero = omega arith
ascii_name (suc zero) = omega arith
ascii_name (suc (suc zero)) = omega arith
ascii_name (suc (suc (suc i))) = omega arith

good_run : (k : ℕ) → is_good_answer (run k).answer ≡ true
good_run k = rw (is_utf8-from_IsUtf8 (codes "obj") (IsUtf8-from_ascii (codes "obj") ascii_name)) refl

good_runs : (n k : ℕ) → are_good_runs (runs n k) ≡ true
good_runs zero k = refl
good_runs (suc n) k = ap (λ (b : Bool). b && are_good_runs (runs n (suc k))) (good_run k) ∙ good_runs n (suc k)

pub good : (n : ℕ) → IsGood (drawn_script n)
unfolding drawn_script
good n = record {
  some_tokens = lit≤ tt;
  few_tokens = lit≤ tt;
  some_limit = lit≤ tt;
  small_limit = lit≤ tt;
  levels = refl;
  few_levels = lit≤ tt;
  one_level = λ e. absurd (cc);
  answers = good_runs 50 0;
  places = refl;
  jobs = refl;
}

length-drawn : (n x : ℕ) → length (drawn_steps n x) ≡ n
length-drawn zero x = refl
length-drawn (suc n) x = ap (λ (m : ℕ). suc m) (length-drawn n _)

length-often : (n : ℕ) (s : Step) → length (replicate n s) ≡ n
length-often zero s = refl
length-often (suc n) s = ap (λ (m : ℕ). suc m) (length-often n s)

length-four : (a b c d : List Step) (n : ℕ) → length a ≡ n → length b ≡ n → length c ≡ n → length d ≡ n → length (a ++ b ++ c ++ d) ≡ 4 * n
length-four a b c d n p q r s =
    let first = length-append a b in
    let second = length-append (a ++ b) c in
    let third = length-append (a ++ b ++ c) d in omega (arith, first, second, third, p, q, r, s)

length-round : (n : ℕ) → length (round n) ≡ 4 * n
length-round n = length-four _ _ _ _ n (length-often n (serve 0)) (length-often n (serve 1)) (length-often n (serve 2)) (length-often n (serve 3))

length-five : (a b c d e : List Step) (n : ℕ) → length a ≡ 4 → length b ≡ 40 * n → length c ≡ 80 * n → length d ≡ 80 * n → length e ≡ 20 * n → length (a ++ b ++ c ++ d ++ e) ≡ 220 * n + 4
length-five a b c d e n p q r s t =
    let first = length-append a b in
    let second = length-append (a ++ b) c in
    let third = length-append (a ++ b ++ c) d in
    let fourth = length-append (a ++ b ++ c ++ d) e in omega (arith, first, second, third, fourth, p, q, r, s, t)

eighty : (n m : ℕ) → m ≡ 4 * (20 * n) → m ≡ 80 * n
eighty n m e = omega (arith, e)

length-steps : (n x : ℕ) → length (steps n x) ≡ 220 * n + 4
length-steps n x =
    let round = eighty n _ (length-round (20 * n)) in
    length-five reads (drawn_steps (40 * n) x) _ _ (replicate (20 * n) back) n refl (length-drawn (40 * n) x) round round (length-often (20 * n) back)

pub few : (n : ℕ) → length (drawn_script n).steps ≡ 220 * n + 4
unfolding drawn_script
few n = length-steps n (after n n)
