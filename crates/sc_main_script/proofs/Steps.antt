-- One line of a script read.
use Rattle.std.proofs.Common.{◌≡◌, ℕ, ◌+◌, ◌≤◌, nat_le, ◌==◌, List, length, refl, arith, Bool, true, false, ◌&&◌, Some, None, Err, if◌then◌else◌}
use Rattle.std.proofs.lemmas.List.Splits.{length-slice_split}
use Rattle.std.proofs.lemmas.Grind.{common_steps}
use Rattle.std.specs.List.{slice_split}
use Rattle.sc_main_script.specs.Parts.{parts_of}
use Rattle.sc_words.specs.Lines.{CutAt}
use Rattle.std.proofs.lemmas.List.{take_all}
use Rattle.sc_main_script.specs.Scripts.{reading_of, most, nothing, lines_from, with_text, finished}
use Rattle.sc_main_script.specs.declared.draft.Draft.{Draft}

more_than_none : (n : ℕ) → (n + 1 == 0) ≡ false
more_than_none n = grind (arith, common_steps)

is_cut : (c : ℕ) (text : List ℕ) → (length (slice_split (λ b. b == c) text) == 0) ≡ false
is_cut c text = rw (length-slice_split (λ b. b == c) text) (more_than_none _)

pub goes_on : (whole : Bool) (n : ℕ) (s t : Draft) (text line after : List ℕ) → CutAt 10 text (Some (line, after)) → with_text s line ≡ Some t
    → lines_from whole n s (parts_of text) ≡ lines_from whole (n + 1) t (parts_of after)
goes_on whole n s t text line after parts is = rw (parts, is_cut 10 after, is) refl

pub stops : (whole : Bool) (n : ℕ) (s : Draft) (text line after : List ℕ) → CutAt 10 text (Some (line, after)) → with_text s line ≡ None
    → lines_from whole n s (parts_of text) ≡ Err n
stops whole n s text line after parts is = rw (parts, is_cut 10 after, is) refl

pub ends : (whole : Bool) (n : ℕ) (s : Draft) (text : List ℕ) → CutAt 10 text None
    → lines_from whole n s (parts_of text) ≡ (if whole && length text == 0 then finished n s else Err n)
ends whole n s text parts = rw parts refl

le_test : (a b : ℕ) → a ≤ b → nat_le a b ≡ true
le_test a b h = grind (arith, common_steps)

pub whole_text : (text : List ℕ) → length text ≤ most → reading_of text ≡ lines_from true 1 nothing (parts_of text)
unfolding reading_of
whole_text text short = rw (le_test _ _ short, take_all most text short) refl
