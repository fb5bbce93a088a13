-- Which uses a text says, or its first bad line.
use Rattle.std.specs.Prelude.{◌≡◌, ℕ, ◌+◌, List, [], ◌∷◌, ◌++◌, length, take, Option, Some, None, Result, Ok, Err, Bool, ◌&&◌, ◌==◌, nat_le, if◌then◌else◌}
use Rattle.sc_lru.specs.declared.capacity_report.Use.{Use}
use Rattle.sc_main_dry.specs.Lines.{use_of_words}
use Rattle.sc_main_script.specs.Parts.{parts_of}
use Rattle.sc_main_script.specs.Scripts.{most}
use Rattle.sc_main_script.specs.declared.script.ScriptError.{ScriptError}
use Rattle.sc_main_script.specs.declared.script.ScriptError.TheVariants.{Bad, Memory}
use Rattle.sc_words.specs.Lines.{words_of}
use Rattle.sc_words.specs.Words.{◌>>=◌}

-- the uses so far, with that of a line
unfoldable pub with_line : List (Use (List ℕ)) → List ℕ → Option (List (Use (List ℕ)))
with_line us line = use_of_words (words_of line) >>= (λ u. Some (us ++ u ∷ []))

abbrev pub go_on : ℕ → Option (List (Use (List ℕ))) → (List (Use (List ℕ)) → Result (List (Use (List ℕ))) ℕ) → Result (List (Use (List ℕ))) ℕ
go_on n None rest = Err n
go_on n (Some us) rest = rest us

-- The lines from the nth on, behind the uses so far. What stands behind the last line feed is no line, so it must be empty;
-- where the text is cut off it is bad in any case.
abbrev pub lines_from : Bool → ℕ → List (Use (List ℕ)) → List (List ℕ) → Result (List (Use (List ℕ))) ℕ
lines_from whole n us [] = Err n
lines_from whole n us (part ∷ parts) =
    if length parts == 0 then (if whole && length part == 0 then Ok us else Err n)
    else go_on n (with_line us part) (λ vs. lines_from whole (n + 1) vs parts)

-- The uses that a text says, or the number of its first bad line. A text may have as many bytes as a script, and the line that
-- passes the greatest length is bad. No bytes are no uses.
unfoldable pub uses_said : List ℕ → Result (List (Use (List ℕ))) ℕ
uses_said bytes = lines_from (nat_le (length bytes) most) 1 [] (parts_of (take most bytes))

-- what reading answers: the uses, or the first bad line, unless memory ran out
abbrev pub Answers : Result (List (Use (List ℕ))) ℕ → Result (List (Use (List ℕ))) ScriptError → Type 0
Answers said (Ok us) = said ≡ Ok us
Answers said (Err Memory) = Unit {0}
Answers said (Err (Bad n)) = said ≡ Err n
