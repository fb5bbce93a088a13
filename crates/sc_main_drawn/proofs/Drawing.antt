-- One more run, compile or step, and the rest behind it.
use Rattle.std.proofs.Common.{◌≡◌, ℕ, zero, suc, ◌+◌, ◌-◌, ◌%◌, ◌<◌, List, [], ◌∷◌, ◌++◌, length, refl, ap, sym, ◌∙◌, arith, add-one, append_assoc}
use Rattle.sc_main_drawn.specs.Drawn.{asked, asks, drawn_steps, runs, step_of}
use Rattle.sc_main_drawn.specs.Keys.{compile, run}
use Rattle.sc_main_generate.specs.Draws.{drawn, next}
use Rattle.sc_main_script.specs.Frames.{frame_of}
use Rattle.sc_main_script.specs.Inputs.{appended}
use Rattle.sc_main_script.specs.declared.run_rule.RunRule.{RunRule}
use Rattle.sc_model.specs.declared.event.Step.{Step}

-- a list that grew by what stood first in the rest
grown : {A : Type 0} (xs more : List A) (x : A) (before rest whole : List A) → xs ++ before ≡ whole → before ≡ x ∷ rest → more ≡ xs ++ x ∷ [] → more ++ rest ≡ whole
grown {A} xs more x before rest whole e first is = ap (λ (ys : List A). ys ++ rest) is ∙ append_assoc xs (x ∷ []) rest ∙ ap (λ (ys : List A). xs ++ ys) (sym first) ∙ e

runs_step : (count key : ℕ) → key < count → runs (count - key) key ≡ run key ∷ runs (count - (key + 1)) (key + 1)
runs_step count key lt = let e : count - key ≡ suc (count - suc key) = omega arith in rw (add-one, e) refl

pub runs_on : (rules more whole : List RunRule) (rule : RunRule) (count key : ℕ) → key < count → rules ++ runs (count - key) key ≡ whole → rule ≡ run key → more ≡ rules ++ rule ∷ [] → more ++ runs (count - (key + 1)) (key + 1) ≡ whole
runs_on rules more whole rule count key lt e is grew =
    grown rules more (run key) (runs (count - key) key) (runs (count - (key + 1)) (key + 1)) whole e (runs_step count key lt) (grew ∙ ap (λ (r : RunRule). rules ++ r ∷ []) is)

steps_step : (left state : ℕ) → 0 < left → drawn_steps left state ≡ step_of (drawn (next state) % 5) ∷ drawn_steps (left - 1) (next state)
steps_step zero state lt = absurd (omega arith)
steps_step (suc n) state lt = let e : suc n - 1 ≡ n = omega arith in rw e refl

pub steps_on : (steps more whole : List Step) (step : Step) (left state then d : ℕ) → 0 < left → then ≡ next state → d ≡ drawn then → steps ++ drawn_steps left state ≡ whole → step ≡ step_of (d % 5) → more ≡ steps ++ step ∷ [] → more ++ drawn_steps (left - 1) then ≡ whole
steps_on steps more whole step left state then d lt drew gave e is grew =
    grown steps more (step_of (d % 5)) (drawn_steps left state) (drawn_steps (left - 1) then) whole e (rw (gave, drew) (steps_step left state lt)) (grew ∙ ap (λ (s : Step). steps ++ s ∷ []) is)

asks_step : (count number state : ℕ) (inputs : List (List ℕ)) → number < count → asks (count - number) number state inputs ≡ asks (count - (number + 1)) (number + 1) (next state) (asked inputs (number % 4) (drawn (next state) % 50))
asks_step count number state inputs lt = let e : count - number ≡ suc (count - suc number) = omega arith in rw (add-one, e) refl

pub asks_on : (inputs more whole : List (List ℕ)) (count number state then d : ℕ) → number < count → then ≡ next state → d ≡ drawn then → asks (count - number) number state inputs ≡ whole → more ≡ asked inputs (number % 4) (d % 50) → asks (count - (number + 1)) (number + 1) then more ≡ whole
asks_on inputs more whole count number state then d lt drew gave e is = rw (is, gave, drew) (sym (asks_step count number state inputs lt) ∙ e)

length-appended : (inputs : List (List ℕ)) (c : ℕ) (bytes : List ℕ) → length (appended inputs c bytes) ≡ length inputs
length-appended [] c bytes = refl
length-appended (t ∷ inputs) zero bytes = refl
length-appended (t ∷ inputs) (suc c) bytes = ap (λ (n : ℕ). suc n) (length-appended inputs c bytes)

-- no connection comes or goes
pub still_four : (inputs more : List (List ℕ)) (c k : ℕ) → length inputs ≡ 4 → more ≡ asked inputs c k → length more ≡ 4
still_four inputs more c k four is = ap (λ (ts : List (List ℕ)). length ts) is ∙ (length-appended inputs c (frame_of (compile k)) ∙ four)
