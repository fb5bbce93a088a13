-- A compile that a client asks for, and the answers to it.
use Rattle.std.specs.Prelude.{◌≡◌, ℕ, ◌⊎◌, List, refl}
use Rattle.std.proofs.Common.{inl, inr, lit<}
use Rattle.sc_wire.specs.Codec.{Codec, nothing, ◌&◌, same_as}
use Rattle.sc_wire.specs.Numbers.{i32}
use Rattle.sc_wire.specs.Lists.{optional, list, byte_text}
use Rattle.sc_wire.specs.Variants.{variants, either, last}
use Rattle.sc_model.specs.declared.message.Variable.{Variable}
use Rattle.sc_model.specs.declared.message.Compile.{Compile}
use Rattle.sc_model.specs.declared.message.CompileResponse.{CompileResponse}
use Rattle.sc_model.specs.declared.message.CompileResponse.TheVariants.{CompileStarted, UnhandledCompile, UnsupportedCompiler}
use Rattle.sc_model.specs.declared.message.ColorMode.{ColorMode}
use Rattle.sc_model.specs.declared.message.ColorMode.TheVariants.{Off, On, Auto}
use Rattle.sc_model.specs.declared.message.CompileFinished.{CompileFinished}

abbrev pub variable : Codec Variable
variable =
    same_as (λ p. record { name = p.0; value = p.1 })
    (λ c. (c.name, c.value)) (λ _. refl) (λ _. refl)
    (byte_text & byte_text)

abbrev pub compile : Codec Compile
compile =
    same_as (λ p. record { exe = p.0; cwd = p.1.0; args = p.1.1.0; env_vars = p.1.1.1 })
    (λ c. (c.exe, (c.cwd, (c.args, c.env_vars)))) (λ _. refl) (λ _. refl)
    (byte_text & (byte_text & (list byte_text & list variable)))

-- the fields of each variant, in the variants' order
abbrev pub CompileResponseForm : Type 0
CompileResponseForm = (Unit {0} ⊎ (Unit {0} ⊎ List ℕ))

abbrev pub compile_response_to : CompileResponseForm → CompileResponse
compile_response_to (inl _) = CompileStarted
compile_response_to (inr (inl _)) = UnhandledCompile
compile_response_to (inr (inr message)) = (UnsupportedCompiler message)

abbrev pub compile_response_of : CompileResponse → CompileResponseForm
compile_response_of CompileStarted = (inl tt)
compile_response_of UnhandledCompile = (inr (inl tt))
compile_response_of (UnsupportedCompiler message) = (inr (inr message))

pub compile_response_back : (x : CompileResponseForm) → compile_response_of (compile_response_to x) ≡ x
compile_response_back (inl _) = refl
compile_response_back (inr (inl _)) = refl
compile_response_back (inr (inr message)) = refl

pub compile_response_forth : (y : CompileResponse) → compile_response_to (compile_response_of y) ≡ y
compile_response_forth CompileStarted = refl
compile_response_forth UnhandledCompile = refl
compile_response_forth (UnsupportedCompiler message) = refl

abbrev pub compile_response : Codec CompileResponse
compile_response =
    same_as compile_response_to compile_response_of compile_response_back compile_response_forth (variants
    (either 0 nothing
    (either 1 nothing
    (last 2 byte_text (lit< tt)) (lit< tt) (lit< tt)) (lit< tt) (lit< tt)))

-- the fields of each variant, in the variants' order
abbrev pub ColorModeForm : Type 0
ColorModeForm = (Unit {0} ⊎ (Unit {0} ⊎ Unit {0}))

abbrev pub color_mode_to : ColorModeForm → ColorMode
color_mode_to (inl _) = Off
color_mode_to (inr (inl _)) = On
color_mode_to (inr (inr _)) = Auto

abbrev pub color_mode_of : ColorMode → ColorModeForm
color_mode_of Off = (inl tt)
color_mode_of On = (inr (inl tt))
color_mode_of Auto = (inr (inr tt))

pub color_mode_back : (x : ColorModeForm) → color_mode_of (color_mode_to x) ≡ x
color_mode_back (inl _) = refl
color_mode_back (inr (inl _)) = refl
color_mode_back (inr (inr _)) = refl

pub color_mode_forth : (y : ColorMode) → color_mode_to (color_mode_of y) ≡ y
color_mode_forth Off = refl
color_mode_forth On = refl
color_mode_forth Auto = refl

abbrev pub color_mode : Codec ColorMode
color_mode =
    same_as color_mode_to color_mode_of color_mode_back color_mode_forth (variants
    (either 0 nothing
    (either 1 nothing
    (last 2 nothing (lit< tt)) (lit< tt) (lit< tt)) (lit< tt) (lit< tt)))

abbrev pub compile_finished : Codec CompileFinished
compile_finished =
    same_as (λ p. record { retcode = p.0.0; signal = p.0.1; stdout = p.1.0; stderr = p.1.1.0; color_mode = p.1.1.1 })
    (λ c. ((c.retcode, c.signal), (c.stdout, (c.stderr, c.color_mode)))) (λ _. refl) (λ _. refl)
    ((optional i32 & optional i32) & (byte_text & (byte_text & color_mode)))
