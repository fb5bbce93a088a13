use Rattle.std.proofs.Common.{rules}
use Rattle.std.specs.Str.{IsUtf8}
use Rattle.std.proofs.lemmas.Iterator.{cases_from_all, YieldsList-from_slice}
use Rattle.sc_host.proofs.Texts.{all_by_test}
use Rattle.sc_host.proofs.system_command.are_texts.Goals as goal

pub returns : goal.returns
returns c =
    all_by_test IsUtf8 _ _ (cases_from_all _ _ _ IsUtf8 (λ x. ¬ (IsUtf8 x)) c.all.ensures.ran (YieldsList-from_slice c.args.words.now (cc)) (λ x q k. search rules) (λ x q k. search rules))
