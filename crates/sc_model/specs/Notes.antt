-- Which lines of a compiler's standard error are notifications.
use Rattle.std.specs.Prelude.{ℕ, Bool, List, codes, take}
use Rattle.std.specs.Str.{bytes_eq}

-- A notification begins with `note:`.
abbrev pub is_note : List ℕ → Bool
is_note line = bytes_eq (take 5 line) (codes "note:")
