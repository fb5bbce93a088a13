use Rattle.std.proofs.Common.{◌≡◌, true, subst, rules}
use Rattle.std.specs.Str.{IsUtf8}
use Rattle.sc_host.proofs.system_command.are_all_texts.Goals as goal

pub returns : goal.returns
returns c =
    let program : c.is_text.result ≡ true = search rules in
    let arguments : c.are_texts.result ≡ true = search rules in
    let variables : c.are_pairs_texts.result ≡ true = search rules in (
      (λ is. ((subst IsUtf8 c.as_slice.ensures (c.is_text.ensures.0 program), c.are_texts.ensures.0 arguments), (c.are_pairs_texts.ensures.0 variables, c.is_named_folder.ensures.0 is))),
      (λ all. c.is_named_folder.ensures.1 all.1.1),
    )
