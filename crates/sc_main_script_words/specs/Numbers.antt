-- How numbers are printed.
use Rattle.std.specs.Prelude.{ℕ, ℤ, List, ◌++◌, Option, Some, None, codes, decimal}
use Rattle.std.specs.Fmt.{signed_decimal}

-- a number, or a dash where there is none
unfoldable pub number_text : Option ℤ → List ℕ
number_text None = codes "-"
number_text (Some n) = signed_decimal n

-- a line of a name and a number
abbrev pub named_line : List ℕ → ℕ → List ℕ
named_line name n = name ++ codes " " ++ decimal n ++ codes "\n"
