-- One line of uses read.
use Rattle.std.proofs.Common.{◌≡◌, ℕ, ◌+◌, ◌≤◌, nat_le, ◌==◌, List, [], length, refl, arith, Bool, true, false, Some, None, Err}
use Rattle.std.proofs.lemmas.Grind.{common_steps}
use Rattle.std.proofs.lemmas.List.{take_all}
use Rattle.std.proofs.lemmas.List.Splits.{length-slice_split}
use Rattle.std.specs.List.{slice_split}
use Rattle.sc_lru.specs.declared.capacity_report.Use.{Use}
use Rattle.sc_main_dry.specs.Texts.{lines_from, uses_said, with_line}
use Rattle.sc_main_script.specs.Parts.{parts_of}
use Rattle.sc_main_script.specs.Scripts.{most}
use Rattle.sc_words.specs.Lines.{CutAt}

more_than_none : (n : ℕ) → (n + 1 == 0) ≡ false
more_than_none n = grind (arith, common_steps)

is_cut : (c : ℕ) (text : List ℕ) → (length (slice_split (λ b. b == c) text) == 0) ≡ false
is_cut c text = rw (length-slice_split (λ b. b == c) text) (more_than_none _)

pub goes_on : (whole : Bool) (n : ℕ) (us vs : List (Use (List ℕ))) (text line after : List ℕ) → CutAt 10 text (Some (line, after)) → with_line us line ≡ Some vs
    → lines_from whole n us (parts_of text) ≡ lines_from whole (n + 1) vs (parts_of after)
goes_on whole n us vs text line after parts is = rw (parts, is_cut 10 after, is) refl

pub stops : (whole : Bool) (n : ℕ) (us : List (Use (List ℕ))) (text line after : List ℕ) → CutAt 10 text (Some (line, after)) → with_line us line ≡ None
    → lines_from whole n us (parts_of text) ≡ Err n
stops whole n us text line after parts is = rw (parts, is_cut 10 after, is) refl

le_test : (a b : ℕ) → a ≤ b → nat_le a b ≡ true
le_test a b h = grind (arith, common_steps)

pub whole_text : (text : List ℕ) → length text ≤ most → uses_said text ≡ lines_from true 1 [] (parts_of text)
unfolding uses_said
whole_text text short = rw (le_test _ _ short, take_all most text short) refl
