-- A line more, and the rest of the script behind it.
use Rattle.std.proofs.Common.{◌≡◌, ℕ, zero, suc, ◌+◌, ◌-◌, ◌%◌, ◌<◌, List, ◌++◌, refl, ap, sym, ◌∙◌, arith, add-one, append_assoc}
use Rattle.sc_main_generate.specs.Draws.{drawn, next}
use Rattle.sc_main_generate.specs.Generated.{after, asks, runs, steps}
use Rattle.sc_main_generate.specs.Lines.{ask_line, run_line, step_line}

-- a text that grew by what stood first in the rest
grown : (text more line before rest whole : List ℕ) → text ++ before ≡ whole → before ≡ line ++ rest → more ≡ text ++ line → more ++ rest ≡ whole
grown text more line before rest whole e first is = ap (λ (bs : List ℕ). bs ++ rest) is ∙ append_assoc text line rest ∙ ap (λ (bs : List ℕ). text ++ bs) (sym first) ∙ e

runs_step : (count key : ℕ) → key < count → runs (count - key) key ≡ run_line key ++ runs (count - (key + 1)) (key + 1)
runs_step count key lt = let e : count - key ≡ suc (count - suc key) = omega arith in rw (add-one, e) refl

pub runs_on : (text more whole : List ℕ) (count key : ℕ) → key < count → text ++ runs (count - key) key ≡ whole → more ≡ text ++ run_line key → more ++ runs (count - (key + 1)) (key + 1) ≡ whole
runs_on text more whole count key lt e is = grown text more (run_line key) (runs (count - key) key) (runs (count - (key + 1)) (key + 1)) whole e (runs_step count key lt) is

steps_step : (left state : ℕ) → 0 < left → steps left state ≡ step_line (drawn (next state) % 5) ++ steps (left - 1) (next state)
steps_step zero state lt = absurd (omega arith)
steps_step (suc n) state lt = let e : suc n - 1 ≡ n = omega arith in rw e refl

pub steps_on : (text more whole : List ℕ) (left state then d : ℕ) → 0 < left → then ≡ next state → d ≡ drawn then → text ++ steps left state ≡ whole → more ≡ text ++ step_line (d % 5) → more ++ steps (left - 1) then ≡ whole
steps_on text more whole left state then d lt drew gave e is =
    grown text more (step_line (d % 5)) (steps left state) (steps (left - 1) then) whole e (rw (gave, drew) (steps_step left state lt)) is

asks_step : (count ask state : ℕ) → ask < count → asks (count - ask) ask state ≡ ask_line (ask % 4) (drawn (next state) % 50) ++ asks (count - (ask + 1)) (ask + 1) (next state)
asks_step count ask state lt = let e : count - ask ≡ suc (count - suc ask) = omega arith in rw (add-one, e) refl

pub asks_on : (text more whole : List ℕ) (count ask state then d : ℕ) → ask < count → then ≡ next state → d ≡ drawn then → text ++ asks (count - ask) ask state ≡ whole → more ≡ text ++ ask_line (ask % 4) (d % 50) → more ++ asks (count - (ask + 1)) (ask + 1) then ≡ whole
asks_on text more whole count ask state then d lt drew gave e is =
    grown text more (ask_line (ask % 4) (d % 50)) (asks (count - ask) ask state) (asks (count - (ask + 1)) (ask + 1) then) whole e (rw (gave, drew) (asks_step count ask state lt)) is

pub after_on : (whole count ask state then : ℕ) → ask < count → then ≡ next state → after (count - ask) state ≡ whole → after (count - (ask + 1)) then ≡ whole
after_on whole count ask state then lt drew e = sym (let one : count - ask ≡ suc (count - (ask + 1)) = omega arith in rw (one, drew) refl) ∙ e
