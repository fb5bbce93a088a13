-- Plain compilers through the traits read as their words say.
use Rattle.std.proofs.Common.{◌≡◌, ℕ, Bool, true, false, if◌then◌else◌, List, [], ◌∷◌, Option, Some, None, refl, ap}
use Rattle.sc_compile.specs.Plain.{arguments_of, bad_arguments, cannot_of, cannot_for, cannot_with, first_of, parsed_after, parsed_of, plain_key, plain_parsed, started, text, PlainArguments}
use Rattle.sc_compile.specs.declared.first_word.FirstWord.{FirstWord}
use Rattle.sc_compile.specs.declared.first_word.FirstWord.TheVariants.{Key as KeyWord, Cannot, Other}
use Rattle.sc_compile_language.specs.declared.compiler_kind.CompilerKind.{CompilerKind}
use Rattle.sc_model.specs.declared.event.KeyFound.{KeyFound}
use Rattle.sc_model.specs.declared.event.KeyStep.{KeyStep}
use Rattle.sc_model.specs.declared.event.KeyStep.TheVariants.{Key}
use Rattle.sc_model.specs.declared.event.Parsed.{Parsed}
use Rattle.sc_model.specs.declared.message.Compile.{Compile}
use Rattle.sc_compile_traits.specs.Cacheables.{cacheable_if, is_cacheable}
use Rattle.sc_compile_traits.specs.Plainly.{read_as}
use Rattle.sc_compile_traits.specs.Steps.{parsed_as}
use Rattle.sc_compile_traits.specs.declared.plain_hasher.PlainHasher.{PlainHasher}

-- a reading is told again as it was
abbrev Tells : CompilerKind → Compile → Parsed → Type 0
Tells kind c p = parsed_as kind (λ (h : PlainHasher). h.language) (read_as c p) ≡ p

started_tells : (kind : CompilerKind) (c : Compile) (a : Option PlainArguments) → Tells kind c (started kind a)
started_tells kind c None = refl
started_tells kind c (Some a) = refl

for_tells : (kind : CompilerKind) (c : Compile) (why : Option (List ℕ)) → Tells kind c (cannot_for why)
for_tells kind c None = refl
for_tells kind c (Some why) = refl

with_tells : (kind : CompilerKind) (c : Compile) (why extra : Option (List ℕ)) → Tells kind c (cannot_with why extra)
with_tells kind c None extra = refl
with_tells kind c (Some why) None = refl
with_tells kind c (Some why) (Some extra) = refl

cannot_tells : (kind : CompilerKind) (c : Compile) (ws : List (List ℕ)) → Tells kind c (cannot_of ws)
cannot_tells kind c [] = refl
cannot_tells kind c (why ∷ []) = for_tells kind c (text why)
cannot_tells kind c (why ∷ extra ∷ []) = with_tells kind c (text why) (text extra)
cannot_tells kind c (why ∷ extra ∷ more ∷ ws) = refl

after_tells : (kind : CompilerKind) (c : Compile) (first : FirstWord) (ws : List (List ℕ)) → Tells kind c (parsed_after kind first ws)
after_tells kind c KeyWord ws = started_tells kind c (arguments_of ws)
after_tells kind c Cannot ws = cannot_tells kind c ws
after_tells kind c Other ws = refl

words_tell : (kind : CompilerKind) (c : Compile) (ws : List (List ℕ)) → Tells kind c (parsed_of kind ws)
words_tell kind c [] = refl
words_tell kind c (w ∷ ws) = after_tells kind c (first_of w) ws

pub plain_tells : (kind : CompilerKind) (c : Compile) → Tells kind c (plain_parsed kind c)
plain_tells kind c = words_tell kind c c.args

pub cacheable_again : (b : Bool) → is_cacheable (cacheable_if b) ≡ b
cacheable_again true = refl
cacheable_again false = refl

pub key_again : (k : KeyFound) → Key (record { key = k.key; outputs = k.outputs; locally_preprocessed = k.locally_preprocessed; cacheable = is_cacheable (cacheable_if k.cacheable) }) ≡ Key k
key_again k = ap (λ (b : Bool). Key (record { key = k.key; outputs = k.outputs; locally_preprocessed = k.locally_preprocessed; cacheable = b })) (cacheable_again k.cacheable)
