use Rattle.std.proofs.Common.{◌≡◌, ◌<◌, ◌+◌, ◌-◌, ◌++◌, length}
use Rattle.sc_entry.specs.Causes.{Told}
use Rattle.sc_entry.proofs.source.read_through.Given as goal

abbrev pub invariant-loop-source : goal.invariant-loop-source
invariant-loop-source g l = record {
  read : Told (λ old new. old ≡ l.bytes.items ++ new) (g.S.Source.left l.fn.source) (g.S.Source.left l.source);
  room : 0 < length l.buffer;
  faults : g.S.Source.fault_count l.source ≡ g.S.Source.fault_count l.fn.source;
}

abbrev pub decreases-loop-source : goal.decreases-loop-source
decreases-loop-source g l = l.limit + 1 - length l.bytes.items
