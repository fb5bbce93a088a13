use Rattle.std.proofs.Common.{◌≡◌, ◌∙◌, refl}
use Rattle.std.proofs.lemmas.Bool.{false_from_ne_true}
use Rattle.std.proofs.lemmas.Str.{IsUtf8-from_is_utf8, is_utf8-from_IsUtf8}
use Rattle.sc_main_script_words.specs.Fields.{text_of_bytes}
use Rattle.sc_main_script_words.proofs.fields.text_of.Goals as goal

pub returns-in_ok-text-in-Ok : goal.returns-in_ok-text-in-Ok
unfolding text_of_bytes
returns-in_ok-text-in-Ok c =
    let same : c.in_ok-text-in-Ok.text ≡ c.args.bytes.now = c.in_ok-text-in-Ok.ensures ∙ c.in-Ok.ensures.cases.0 in
    rw (is_utf8-from_IsUtf8 _ c.in-Ok.ensures.cases.1, same) refl

pub returns-in-Err : goal.returns-in-Err
unfolding text_of_bytes
returns-in-Err c = rw (false_from_ne_true _ (λ e. c.in-Err.ensures.cases.0 (IsUtf8-from_is_utf8 _ e))) refl
