-- What a process left, and why something failed.
use Rattle.std.specs.Prelude.{ℕ, List, [], ◌∷◌, ◌++◌, length, Some, None, Bool, ◌&&◌, ◌==◌, nat_lt, if◌then◌else◌}
use Rattle.std.specs.FinMap as map
use Rattle.sc_entry.specs.Tally.{Tally, count_of, counted}
use Rattle.sc_entry.specs.declared.object.Object.{Object}
use Rattle.sc_model.specs.declared.event.Output.{Output as Wrote}
use Rattle.sc_words.specs.Words.{Reader}
use Rattle.sc_words.specs.Words.{◌>>=◌ as ◌then◌}
use Rattle.sc_words.specs.Readers.{◌>>=◌, gives, field}
use Rattle.sc_main_script_words.specs.Fields.{bytes_of_token, text_of_token, object_of, status_of}

-- no name counted so far
abbrev pub no_names : Tally
no_names = map.empty

-- one more object: a run leaves at most 65,532, whose names are distinct
abbrev pub is_new_object : List Object → Tally → Object → Bool
is_new_object sofar names o = nat_lt (length sofar) 65532 && count_of names o.name == 0

-- objects of all words that are left, behind those so far, whose names are counted
abbrev pub objects_onto : List Object → Tally → Reader (List Object)
objects_onto sofar names [] = Some (sofar, [])
objects_onto sofar names (w ∷ ws) =
    object_of w then (λ o. if is_new_object sofar names o then objects_onto (sofar ++ o ∷ []) (counted names o.name 1) ws else None)

-- STATUS OUT ERR
unfoldable pub output_words : Reader Wrote
output_words = do
  status ← field status_of
  stdout ← field bytes_of_token
  stderr ← field bytes_of_token
  gives (record { status = status; stdout = stdout; stderr = stderr })

-- texts of all words that are left, behind those so far
abbrev pub texts_onto : List (List ℕ) → Reader (List (List ℕ))
texts_onto sofar [] = Some (sofar, [])
texts_onto sofar (w ∷ ws) = text_of_token w then (λ t. texts_onto (sofar ++ t ∷ []) ws)

-- TEXT.., at least one
unfoldable pub chain_words : Reader (List (List ℕ))
chain_words = do
  first ← field text_of_token
  texts_onto (first ∷ [])
