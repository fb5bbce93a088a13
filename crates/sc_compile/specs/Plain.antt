-- How a plain compiler reads its words: `--key KEY [--dep] [--no-store] [--out NAME=PATH].. [--opt NAME=PATH].. -- WORDS`, in this
-- order, or `--cannot WHY [EXTRA]`.
use Rattle.std.specs.Prelude.{ℕ, ◌-◌, Bool, true, false, not, ◌&&◌, ◌||◌, ◌==◌, if◌then◌else◌, nat_lt, List, [], ◌∷◌, ◌++◌, length, take, map, Option, Some, None, codes, slice_index_or, unwrap_or}
use Rattle.std.specs.Str.{bytes_eq, is_utf8}
use Rattle.sc_entry.specs.declared.object.FileObjectSource.{FileObjectSource}
use Rattle.sc_compile_language.specs.Extensions.{language_of_file}
use Rattle.sc_compile_language.specs.declared.compiler_kind.CompilerKind.{CompilerKind}
use Rattle.sc_model.specs.GoodNames.{is_output_name}
use Rattle.sc_model.specs.declared.event.KeyFound.{KeyFound}
use Rattle.sc_compile_language.specs.declared.language.Language.{Language}
use Rattle.sc_compile_language.specs.declared.language.Language.TheVariants.{C}
use Rattle.sc_model.specs.declared.event.Parsed.{Parsed}
use Rattle.sc_model.specs.declared.event.Parsed.TheVariants.{CannotCache, NotCompile, Started}
use Rattle.sc_model.specs.declared.message.Compile.{Compile}
use Rattle.sc_compile.specs.declared.first_word.FirstWord.{FirstWord}
use Rattle.sc_compile.specs.declared.first_word.FirstWord.TheVariants.{Key, Cannot, Other}
use Rattle.sc_words.specs.Words.{◌>>=◌, only_if, Reader, word, cut_at, flag}

-- what the words say: the key, whether the source is preprocessed here, whether a run of it may be stored, the outputs with their
-- paths as given, and the words for the compiler
pub record PlainArguments : Type 0 where
  pub key : List ℕ
  pub locally_preprocessed : Bool
  pub cacheable : Bool
  pub outputs : List FileObjectSource
  pub words : List (List ℕ)

abbrev pub has_key : List ℕ → List FileObjectSource → Bool
has_key name [] = false
has_key name (o ∷ os) = bytes_eq o.key name || has_key name os

-- at most 65,532 outputs, each with a name of its own
abbrev pub is_new_name : List FileObjectSource → List ℕ → Bool
is_new_name before name = is_output_name name && (not (has_key name before) && nat_lt (length before) 65532)

-- NAME=PATH, behind the outputs before
abbrev pub output_of : Bool → List FileObjectSource → List ℕ → Option FileObjectSource
output_of optional before w = cut_at 61 w >>= (λ p. only_if (is_new_name before p.0) (record { key = p.0; path = p.1; optional = optional }))

-- whether the output behind this word is an optional one; none where no output follows. Behind an optional one stands no required one
abbrev pub is_optional : Bool → List ℕ → Option Bool
is_optional before w =
    if bytes_eq w (codes "--opt") then Some true
    else if not before && bytes_eq w (codes "--out") then Some false
    else None

-- the outputs, up to the word --, which is taken too
abbrev mutual
  pub outputs_onto : Bool → List FileObjectSource → Reader (List FileObjectSource)
  outputs_onto optional before [] = None
  outputs_onto optional before (w ∷ ws) =
      if bytes_eq w (codes "--") then Some (before, ws)
      else is_optional optional w >>= (λ o. output_onto o before ws)

  pub output_onto : Bool → List FileObjectSource → Reader (List FileObjectSource)
  output_onto optional before [] = None
  output_onto optional before (w ∷ ws) = output_of optional before w >>= (λ o. outputs_onto optional (before ++ o ∷ []) ws)

abbrev pub with_outputs : List ℕ → Bool → Bool × List (List ℕ) → Option PlainArguments
with_outputs key dep unstored =
    outputs_onto false [] unstored.1
    >>= (λ o. Some (record { key = key; locally_preprocessed = not dep; cacheable = not unstored.0; outputs = o.0; words = o.1 }))

abbrev pub with_options : List ℕ → Bool × List (List ℕ) → Option PlainArguments
with_options key dep = with_outputs key dep.0 (flag (codes "--no-store") dep.1)

-- what stands behind the first word; nothing where it is malformed
unfoldable pub arguments_of : List (List ℕ) → Option PlainArguments
arguments_of ws = word ws >>= (λ k. only_if (is_utf8 k.0) k.0 >>= (λ key. with_options key (flag (codes "--dep") k.1)))

-- the first word
abbrev pub first_of : List ℕ → FirstWord
first_of w = if bytes_eq w (codes "--key") then Key else if bytes_eq w (codes "--cannot") then Cannot else Other

-- The arguments of a compile, where its words have some.
abbrev pub arguments_after : FirstWord → List (List ℕ) → Option PlainArguments
arguments_after Key ws = arguments_of ws
arguments_after _ ws = None

abbrev pub arguments : List (List ℕ) → Option PlainArguments
arguments [] = None
arguments (w ∷ ws) = arguments_after (first_of w) ws

abbrev pub bad_arguments : Parsed
bad_arguments = CannotCache (codes "bad arguments") None

-- the language of the first word that has a known one, else C
abbrev pub language_in : List (List ℕ) → Language
language_in [] = C
language_in (w ∷ ws) = unwrap_or (language_of_file w) (language_in ws)

abbrev pub started : CompilerKind → Option PlainArguments → Parsed
started kind None = bad_arguments
started kind (Some a) = Started (record { kind = kind; language = language_in a.words })

-- bytes as text, where they are UTF-8
abbrev pub text : List ℕ → Option (List ℕ)
text bytes = only_if (is_utf8 bytes) bytes

abbrev pub cannot_for : Option (List ℕ) → Parsed
cannot_for None = bad_arguments
cannot_for (Some why) = CannotCache why None

abbrev pub cannot_with : Option (List ℕ) → Option (List ℕ) → Parsed
cannot_with (Some why) (Some extra) = CannotCache why (Some extra)
cannot_with _ _ = bad_arguments

-- why a compile can't be cached, and what may stand beside: one text or two
abbrev pub cannot_of : List (List ℕ) → Parsed
cannot_of [] = bad_arguments
cannot_of (why ∷ []) = cannot_for (text why)
cannot_of (why ∷ extra ∷ []) = cannot_with (text why) (text extra)
cannot_of (why ∷ extra ∷ more ∷ ws) = bad_arguments

abbrev pub parsed_after : CompilerKind → FirstWord → List (List ℕ) → Parsed
parsed_after kind Key ws = started kind (arguments_of ws)
parsed_after kind Cannot ws = cannot_of ws
parsed_after kind Other ws = NotCompile

abbrev pub parsed_of : CompilerKind → List (List ℕ) → Parsed
parsed_of kind [] = NotCompile
parsed_of kind (w ∷ ws) = parsed_after kind (first_of w) ws

-- What a compile is: no word, or another first one, is no compile; malformed words are not cached.
abbrev pub plain_parsed : CompilerKind → Compile → Parsed
plain_parsed kind c = parsed_of kind c.args

-- a folder's path has a slash behind it, unless it is empty or ends in one
abbrev pub as_folder : List ℕ → List ℕ
as_folder cwd = if slice_index_or cwd (length cwd - 1) 47 == 47 then cwd else cwd ++ 47 ∷ []

-- a path that does not begin with a slash stands in the folder
abbrev pub joined : List ℕ → List ℕ → List ℕ
joined cwd path = if slice_index_or path 0 0 == 47 then path else as_folder cwd ++ path

abbrev pub placed_in : List ℕ → FileObjectSource → FileObjectSource
placed_in cwd o = record { key = o.key; path = joined cwd o.path; optional = o.optional }

abbrev pub key_found : List ℕ → Option PlainArguments → KeyFound
key_found cwd None = record { key = []; outputs = []; locally_preprocessed = true; cacheable = true }
key_found cwd (Some a) = record { key = a.key; outputs = map (placed_in cwd) a.outputs; locally_preprocessed = a.locally_preprocessed; cacheable = a.cacheable }

-- The key that the words name, and the outputs, their paths joined to the working folder.
abbrev pub plain_key : Compile → KeyFound
plain_key c = key_found c.cwd (arguments c.args)

abbrev pub first_path : List FileObjectSource → List ℕ
first_path [] = []
first_path (o ∷ os) = o.path

abbrev pub pretty_of : Option PlainArguments → List ℕ
pretty_of None = []
pretty_of (Some a) = first_path a.outputs

-- The first output's path as given, or nothing.
abbrev pub plain_pretty : Compile → List ℕ
plain_pretty c = pretty_of (arguments c.args)

abbrev pub words_for : Option PlainArguments → List (List ℕ)
words_for None = []
words_for (Some a) = a.words
