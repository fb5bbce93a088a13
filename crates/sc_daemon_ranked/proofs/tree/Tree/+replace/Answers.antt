use Rattle.std.proofs.Common.{arith}
use Rattle.std.proofs.lemmas.Grind.{common_steps}
use Rattle.std.proofs.lemmas.List.{set-append_left, set-append_right}
use Rattle.sc_daemon_ranked.proofs.Joined.{slice_get-append_right}
use Rattle.sc_daemon_ranked.proofs.tree.Tree.+replace.Goals as goal

pub returns-then-place-lefts-clause-items : goal.returns-then-place-lefts-clause-items
returns-then-place-lefts-clause-items g t c = grind (arith, common_steps, set-append_left)

pub returns-else-place-lefts-clause-replaced : goal.returns-else-place-lefts-clause-replaced
returns-else-place-lefts-clause-replaced g t c = grind (arith, common_steps, slice_get-append_right)

pub returns-else-place-lefts-clause-items : goal.returns-else-place-lefts-clause-items
returns-else-place-lefts-clause-items g t c = grind (arith, common_steps, set-append_right)
