-- A line that was made.
use Rattle.std.proofs.Common.{◌≡◌, ℕ, Bool, true, false, List, Option, Some, None, refl, ap, sym, ◌∙◌}
use Rattle.std.proofs.Math.Bool.{Bool-set}
use Rattle.sc_model.specs.declared.event.RunAnswer.{RunAnswer}
use Rattle.sc_model.specs.GoodNames.{is_good_answer}
use Rattle.sc_compile.specs.Lines.{make_if}
use Rattle.sc_compile.specs.declared.run_line.RunLine.{RunLine}

same_proof : (b : Bool) (f g : b ≡ true) → f ≡ g
same_proof b f g = Bool-set b true f g

abbrev line_with : (key : List ℕ) (a : RunAnswer) → is_good_answer a ≡ true → Option RunLine
line_with key a g = Some (record { key = key; answer = a; good = g })

pub made : (key : List ℕ) (a : RunAnswer) (b : Bool) (is : is_good_answer a ≡ b) (good : is_good_answer a ≡ true) → Some (record { key = key; answer = a; good = good }) ≡ make_if key a b is
made key a true is good = ap (line_with key a) (same_proof (is_good_answer a) good is)
made key a false is good = absurd (let e = sym good ∙ is in (cc))

pub not_made : (key : List ℕ) (a : RunAnswer) (b : Bool) (is : is_good_answer a ≡ b) → b ≡ false → None ≡ make_if key a b is
not_made key a true is off = absurd (cc)
not_made key a false is off = refl
