-- Which script of warm a text is, or its first bad line.
use Rattle.std.specs.Prelude.{ℕ, ◌+◌, List, [], ◌∷◌, length, take, Option, Some, None, Result, Err, Bool, ◌&&◌, ◌==◌, nat_le, if◌then◌else◌, codes, bytes_eq}
use Rattle.sc_main_script.specs.Lines.{line_of_words}
use Rattle.sc_main_script.specs.Parts.{parts_of}
use Rattle.sc_main_script.specs.Scripts.{most}
use Rattle.sc_main_warm.specs.Drafts.{finished, no_lines, with_key, with_line}
use Rattle.sc_main_warm.specs.declared.warm_draft.WarmDraft.{WarmDraft}
use Rattle.sc_main_warm.specs.declared.warm_script.WarmScript.{WarmScript}
use Rattle.sc_words.specs.Lines.{words_of}
use Rattle.sc_words.specs.Words.{◌>>=◌, word}

-- the lines so far, with what a line says: a key where its first word is key, else what a line of a script says
unfoldable pub with_text : WarmDraft → List ℕ → Option WarmDraft
with_text d line =
    word (words_of line)
    >>= (λ p. if bytes_eq p.0 (codes "key") then with_key d p.1 else line_of_words (words_of line) >>= (λ l. with_line d l))

abbrev pub go_on : ℕ → Option WarmDraft → (WarmDraft → Result WarmScript ℕ) → Result WarmScript ℕ
go_on n None rest = Err n
go_on n (Some d) rest = rest d

-- The lines from the nth on, behind those so far. What stands behind the last line feed is no line, so it must be empty; where
-- the text is cut off it is bad in any case.
abbrev pub lines_from : Bool → ℕ → WarmDraft → List (List ℕ) → Result WarmScript ℕ
lines_from whole n d [] = Err n
lines_from whole n d (part ∷ parts) =
    if length parts == 0 then (if whole && length part == 0 then finished n d else Err n)
    else go_on n (with_text d part) (λ e. lines_from whole (n + 1) e parts)

-- The script that a text is, or the number of its first bad line. It may have as many bytes as any script, and the line that passes
-- the greatest length is bad.
unfoldable pub warm_said : List ℕ → Result WarmScript ℕ
warm_said bytes = lines_from (nat_le (length bytes) most) 1 no_lines (parts_of (take most bytes))
