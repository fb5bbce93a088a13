use Rattle.std.proofs.Common.{◌≡◌, true, false, refl, arith, rules}
use Rattle.sc_host.specs.Programs.{IsTextPair}
use Rattle.sc_host.proofs.Texts.{refuted, within_more, all_within}
use Rattle.sc_host.proofs.system_command.are_pairs_texts.Goals as goal

pub returns-then-not-is_text : goal.returns-then-not-is_text
returns-then-not-is_text c =
    let no : c.is_text.result ≡ false = search rules in
    refuted IsTextPair c.is_text.result c.args.variables.now c.loop-place.place _ (λ pair. c.is_text.ensures.1 pair.0) no c.pair_at.ensures

pub returns-then-not-is_text-2 : goal.returns-then-not-is_text-2
returns-then-not-is_text-2 c =
    let no : c.is_text-in-loop-place.result ≡ false = search rules in
    refuted IsTextPair c.is_text-in-loop-place.result c.args.variables.now c.loop-place.place _ (λ pair. c.is_text-in-loop-place.ensures.1 pair.1) no c.pair_at.ensures

pub loop-place-preserved : goal.loop-place-preserved
loop-place-preserved c =
    let name : c.is_text.result ≡ true = search rules in
    let value : c.is_text-in-loop-place.result ≡ true = search rules in
    within_more IsTextPair c.args.variables.now c.loop-place.place _ c.loop-place.invariant c.pair_at.ensures (c.is_text.ensures.0 name, c.is_text-in-loop-place.ensures.0 value)

pub returns : goal.returns
returns c =
    ((λ _. all_within IsTextPair c.args.variables.now c.loop-place.place c.loop-place.invariant (omega (arith, c.loop-place-test.false, c.len-place-end.ensures))), (λ _. refl))
