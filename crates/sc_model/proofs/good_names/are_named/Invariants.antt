use Rattle.std.proofs.Common.{length}
use Rattle.std.specs.BTreeSet.{contains_text}
use Rattle.sc_model.proofs.Naming.{NamedSoFar}
use Rattle.sc_model.proofs.good_names.are_named.Given as goal

abbrev pub invariant-loop-left : goal.invariant-loop-left
invariant-loop-left l = NamedSoFar l.fn.objects l.left (contains_text l.names)

abbrev pub decreases-loop-left : goal.decreases-loop-left
decreases-loop-left l = length l.left
