use Rattle.std.proofs.Common.{◌≡◌, length}
use Rattle.sc_entry.specs.Causes.{Told}
use Rattle.sc_entry.proofs.Telling.{WrittenSoFar}
use Rattle.sc_entry.proofs.sink.write_all.Given as goal

abbrev pub invariant-loop-rest : goal.invariant-loop-rest
invariant-loop-rest g l = record {
  written : Told (WrittenSoFar l.fn.bytes l.rest) (g.O.Sink.written l.fn.sink) (g.O.Sink.written l.sink);
  faults : g.O.Sink.fault_count l.sink ≡ g.O.Sink.fault_count l.fn.sink;
}

abbrev pub decreases-loop-rest : goal.decreases-loop-rest
decreases-loop-rest g l = length l.rest
