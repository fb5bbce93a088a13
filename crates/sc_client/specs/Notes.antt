-- The notifications that a client wrote before, and what is left of a later text without them.
use Rattle.std.specs.Prelude.{ℕ, suc, Bool, false, ◌==◌, ◌||◌, if◌then◌else◌, List, [], ◌∷◌, ◌++◌}
use Rattle.std.specs.Str.{bytes_eq}

-- a byte at the front of lines: a line feed is a line of its own
abbrev pub put : ℕ → List (List ℕ) → List (List ℕ)
put b [] = (b ∷ []) ∷ []
put b (l ∷ ls) = if b == 10 then (b ∷ []) ∷ (l ∷ ls) else (b ∷ l) ∷ ls

-- the lines of a text, each with its line feed; the last may have none
abbrev pub lines_of : List ℕ → List (List ℕ)
lines_of [] = []
lines_of (b ∷ bs) = put b (lines_of bs)

-- a line without its line feed
abbrev pub bare : List ℕ → List ℕ
bare [] = []
bare (b ∷ bs) = if b == 10 then [] else b ∷ bare bs

-- how many bytes stand before the first line feed
abbrev pub before_feed : List ℕ → ℕ
before_feed [] = 0
before_feed (b ∷ bs) = if b == 10 then 0 else suc (before_feed bs)

-- the place of the first that is this line
abbrev pub place_among : List ℕ → List (List ℕ) → ℕ
place_among line [] = 0
place_among line (n ∷ ns) = if bytes_eq n line then 0 else suc (place_among line ns)

-- whether a line is one of these
abbrev pub is_among : List ℕ → List (List ℕ) → Bool
is_among line [] = false
is_among line (n ∷ ns) = bytes_eq n line || is_among line ns

-- without the first that is this line
abbrev pub without : List ℕ → List (List ℕ) → List (List ℕ)
without line [] = []
without line (n ∷ ns) = if bytes_eq n line then ns else n ∷ without line ns

-- The lines that stay, one behind the other. For each notification its first equal line goes, with its line feed: a line that is
-- equal to one goes, and that one with it.
abbrev pub kept_of : List (List ℕ) → List (List ℕ) → List ℕ
kept_of notes [] = []
kept_of notes (l ∷ ls) = if is_among (bare l) notes then kept_of (without (bare l) notes) ls else l ++ kept_of notes ls

abbrev pub without_notes : List (List ℕ) → List ℕ → List ℕ
without_notes notes text = kept_of notes (lines_of text)

-- notifications as they are written, each with a line feed
abbrev pub note_lines : List (List ℕ) → List ℕ
note_lines [] = []
note_lines (n ∷ ns) = (n ++ 10 ∷ []) ++ note_lines ns
