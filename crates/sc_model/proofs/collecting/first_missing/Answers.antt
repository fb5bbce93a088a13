use Rattle.std.proofs.Common.{◌∙◌, sym}
use Rattle.std.specs.BTreeSet.{contains_text}
use Rattle.sc_model.proofs.Finding.{missing_here, missing_on}
use Rattle.sc_model.proofs.collecting.first_missing.Goals as goal

pub returns-then-is_missing : goal.returns-then-is_missing
returns-then-is_missing c =
    missing_here c.args.objects.now c.loop-left.left.now c.output-item.result (contains_text c.in_ok-names.names c.output-item.result.key) c.in-len1-up.len_at_least c.output-item.is
    (c.in_ok-names.ensures c.output-item.result.key) (sym c.is_missing.ensures ∙ c.if-is_missing.true) ∙ c.loop-left.invariant

pub loop-left-preserved : goal.loop-left-preserved
loop-left-preserved c =
    missing_on c.args.objects.now c.loop-left.left.now c.output-item.result (contains_text c.in_ok-names.names c.output-item.result.key) c.in-len1-up.len_at_least c.output-item.is
    (c.in_ok-names.ensures c.output-item.result.key) (sym c.is_missing.ensures ∙ c.if-is_missing.false) ∙ c.loop-left.invariant
