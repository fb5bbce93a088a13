-- What a line of uses says.
use Rattle.std.specs.Prelude.{ℕ, List, [], ◌∷◌, Option, Some, None, if◌then◌else◌, codes, bytes_eq}
use Rattle.sc_lru.specs.declared.capacity_report.Use.{Use}
use Rattle.sc_lru.specs.declared.capacity_report.Use.TheVariants.{Get, Put}
use Rattle.sc_main_script_words.specs.Fields.{number_of, text_of_token}
use Rattle.sc_words.specs.Readers.{◌>>=◌, gives, field}
use Rattle.sc_words.specs.Words.{Reader, word}
use Rattle.sc_words.specs.Words.{◌>>=◌ as ◌then◌}

-- get KEY, where KEY is UTF-8 and may be no store key
unfoldable pub get_words : Reader (Use (List ℕ))
get_words = do
  key ← field text_of_token
  gives (Get key)

-- put KEY SIZE
unfoldable pub put_words : Reader (Use (List ℕ))
put_words = do
  key ← field text_of_token
  bytes ← field number_of
  gives (Put key bytes)

-- a line's first word says its kind
unfoldable pub use_words : List ℕ → Reader (Use (List ℕ))
use_words first ws =
    if bytes_eq first (codes "get") then get_words ws
    else if bytes_eq first (codes "put") then put_words ws
    else None

-- no word is left over
abbrev pub whole : Option (Use (List ℕ) × List (List ℕ)) → Option (Use (List ℕ))
whole None = None
whole (Some (one, [])) = Some one
whole (Some (one, w ∷ ws)) = None

unfoldable pub use_of_words : List (List ℕ) → Option (Use (List ℕ))
use_of_words ws = word ws then (λ p. whole (use_words p.0 p.1))
