use Rattle.std.proofs.Common.{◌≡◌, length}
use Rattle.sc_wire.specs.Tallies.{rises}
use Rattle.sc_wire.proofs.counts.is_ascending.Given as goal

abbrev pub invariant-loop-rest : goal.invariant-loop-rest
invariant-loop-rest l = rises l.rest ≡ rises l.entries

abbrev pub decreases-loop-rest : goal.decreases-loop-rest
decreases-loop-rest l = length l.rest
