use Rattle.std.proofs.Common.{◌≡◌, true, false, not, ◌&&◌, ap, sym, ◌∙◌}
use Rattle.sc_model.specs.Plan.{reads_only}
use Rattle.sc_store.specs.Levels.{held_level}
use Rattle.sc_store.specs.Planning.{test_of}
use Rattle.sc_store.proofs.Behind.{levels_more, one_counted}
use Rattle.sc_store.proofs.Modes.{all_taken}
use Rattle.sc_store.proofs.planning.levels_of.Goals as goal
use Rattle.sc_store.proofs.planning.levels_of.Goals.{then-is_taken+in_ok-push_back, else-is_taken}

never : true ≡ false → ⊥
never e = absurd (cc)

pub loop-left-preserved : goal.loop-left-preserved
loop-left-preserved g c =
    let is = c.is_taken.ensures ∙ ap (λ p. not (reads_only (held_level c.level-item.result).facts.mode) && test_of c.args.which p) c.first_policy.ensures in (
      (elim c.if-is_taken.branch [
        | then-is_taken+in_ok-push_back w ↦ levels_more (test_of c.args.which) c.loop-left.number c.loop-left.policies.now c.loop-left.left.now c.level-item.result c.loop-left.found c.if-is_taken.found _ _ c.is_taken.result c.in-len1-up.len_at_least c.level-item.is
            is (λ e. w.found-is ∙ w.in_ok-push_back.ensures.ok) (λ e. absurd (never (sym w.if-is_taken.true ∙ e))) c.rest_policies-policies.ensures c.loop-left.invariant.0
        | else-is_taken w ↦ levels_more (test_of c.args.which) c.loop-left.number c.loop-left.policies.now c.loop-left.left.now c.level-item.result c.loop-left.found c.if-is_taken.found _ _ c.is_taken.result c.in-len1-up.len_at_least c.level-item.is
            is (λ e. absurd (never (sym e ∙ w.if-is_taken.false))) (λ e. w.found-is) c.rest_policies-policies.ensures c.loop-left.invariant.0
      ]),
      one_counted c.loop-left.left.now c.level-item.result c.loop-left.number _ c.in-len1-up.len_at_least c.level-item.is c.loop-left.invariant.1,
    )

pub returns : goal.returns
returns g c = all_taken (test_of c.args.which) c.loop-left.number c.loop-left.policies.now c.loop-left.left.now c.loop-left.found _ c.in_default.len_below c.loop-left.invariant.0
