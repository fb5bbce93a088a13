use Rattle.std.proofs.Common.{ap, sym, ◌∙◌}
use Rattle.sc_model.specs.Plan.{reads_only}
use Rattle.sc_store.proofs.Modes.{all_read, rest_read_only}
use Rattle.sc_store.proofs.telling.all_read_only.Goals as goal

pub loop-left-preserved : goal.loop-left-preserved
loop-left-preserved g c =
    rest_read_only c.loop-left.left.now c.level-item.result _ c.in-len1-up.len_at_least c.level-item.is (ap reads_only (sym c.mode.ensures) ∙ sym c.is_read_only.ensures ∙ c.if-not-is_read_only.false) c.loop-left.invariant

pub returns : goal.returns
returns g c = all_read c.loop-left.left.now _ c.in_default.len_below c.loop-left.invariant
