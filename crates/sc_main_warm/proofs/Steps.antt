-- One line of a script of warm read.
use Rattle.std.proofs.Common.{◌≡◌, ℕ, ◌+◌, ◌≤◌, nat_le, ◌==◌, List, length, refl, arith, Bool, true, false, Some, None, Err}
use Rattle.std.proofs.lemmas.Grind.{common_steps}
use Rattle.std.proofs.lemmas.List.{take_all}
use Rattle.std.proofs.lemmas.List.Splits.{length-slice_split}
use Rattle.std.specs.List.{slice_split}
use Rattle.sc_main_script.specs.Parts.{parts_of}
use Rattle.sc_main_script.specs.Scripts.{most}
use Rattle.sc_main_warm.specs.Drafts.{no_lines}
use Rattle.sc_main_warm.specs.Texts.{lines_from, warm_said, with_text}
use Rattle.sc_main_warm.specs.declared.warm_draft.WarmDraft.{WarmDraft}
use Rattle.sc_words.specs.Lines.{CutAt}

more_than_none : (n : ℕ) → (n + 1 == 0) ≡ false
more_than_none n = grind (arith, common_steps)

is_cut : (c : ℕ) (text : List ℕ) → (length (slice_split (λ b. b == c) text) == 0) ≡ false
is_cut c text = rw (length-slice_split (λ b. b == c) text) (more_than_none _)

pub goes_on : (whole : Bool) (n : ℕ) (d e : WarmDraft) (text line after : List ℕ) → CutAt 10 text (Some (line, after)) → with_text d line ≡ Some e
    → lines_from whole n d (parts_of text) ≡ lines_from whole (n + 1) e (parts_of after)
goes_on whole n d e text line after parts is = rw (parts, is_cut 10 after, is) refl

pub stops : (whole : Bool) (n : ℕ) (d : WarmDraft) (text line after : List ℕ) → CutAt 10 text (Some (line, after)) → with_text d line ≡ None
    → lines_from whole n d (parts_of text) ≡ Err n
stops whole n d text line after parts is = rw (parts, is_cut 10 after, is) refl

le_test : (a b : ℕ) → a ≤ b → nat_le a b ≡ true
le_test a b h = grind (arith, common_steps)

pub whole_text : (text : List ℕ) → length text ≤ most → warm_said text ≡ lines_from true 1 no_lines (parts_of text)
unfolding warm_said
whole_text text short = rw (le_test _ _ short, take_all most text short) refl
