-- Lines that are gathered as one text.
use Rattle.std.proofs.Common.{◌≡◌, ℕ, false, List, [], ◌∷◌, ◌++◌, append_assoc, append-nil}
use Rattle.sc_main_client.specs.Printed.{lines_text}
use Rattle.sc_main_client.specs.declared.printed.LinesText.{LinesText}
use Rattle.sc_stats.specs.Writers.{WritesEach}

-- what writing one line does
abbrev pub gathers : LinesText → List ℕ → LinesText → Type 0
gathers old line new = new.is_cut ≡ false → (old.is_cut ≡ false) × (new.text ≡ old.text ++ line ++ 10 ∷ [])

pub gathered : (lines : List (List ℕ)) (old new : LinesText) → WritesEach gathers old lines new → new.is_cut ≡ false → (old.is_cut ≡ false) × (new.text ≡ old.text ++ lines_text lines)
gathered [] old new same whole = ((cc), (simp append-nil (cc)))
gathered (l ∷ ls) old new (mid, first, rest) whole =
    let later = gathered ls mid new rest whole in
    let now = first later.0 in
    (now.0, rw later.1 (rw now.1 (simp append_assoc)))
