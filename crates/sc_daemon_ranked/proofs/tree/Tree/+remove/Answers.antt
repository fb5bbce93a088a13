use Rattle.std.proofs.Common.{arith}
use Rattle.std.proofs.lemmas.Grind.{common_steps}
use Rattle.std.proofs.lemmas.List.Edits.{remove-append_left, remove-append_right}
use Rattle.sc_daemon_ranked.proofs.tree.Tree.+remove.Goals as goal
use Rattle.sc_daemon_ranked.proofs.tree.Tree.+remove.Goals.{then-place-lefts, else-place-lefts}

pub returns-after-place-lefts-clause-items : goal.returns-after-place-lefts-clause-items
returns-after-place-lefts-clause-items g t c =
    elim c.if-place-lefts.branch [
      | then-place-lefts w ↦ grind (arith, common_steps, remove-append_left)
      | else-place-lefts w ↦ grind (arith, common_steps, remove-append_right)
    ]
