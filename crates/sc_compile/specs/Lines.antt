-- A line of a script, made of its key and its answer.
use Rattle.std.specs.Prelude.{◌≡◌, ℕ, Bool, true, false, List, Option, Some, None, refl}
use Rattle.sc_model.specs.declared.event.RunAnswer.{RunAnswer}
use Rattle.sc_model.specs.GoodNames.{is_good_answer}
use Rattle.sc_compile.specs.declared.run_line.RunLine.{RunLine}

abbrev pub make_if : (key : List ℕ) (answer : RunAnswer) (good : Bool) → is_good_answer answer ≡ good → Option RunLine
make_if key answer true is = Some (record { key = key; answer = answer; good = is })
make_if key answer false is = None

-- the line, where its answer is one that a workshop may give
abbrev pub make_line : List ℕ → RunAnswer → Option RunLine
make_line key answer = make_if key answer (is_good_answer answer) refl
