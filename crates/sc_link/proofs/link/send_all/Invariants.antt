use Rattle.std.proofs.Common.{◌≡◌, length}
use Rattle.sc_entry.specs.Causes.{Told}
use Rattle.sc_entry.proofs.Telling.{WrittenSoFar}
use Rattle.sc_link.proofs.link.send_all.Given as goal

abbrev pub invariant-loop-rest : goal.invariant-loop-rest
invariant-loop-rest g l = record {
  written : Told (WrittenSoFar l.fn.bytes l.rest) (g.K.Link.written l.fn.link) (g.K.Link.written l.link);
  ahead : g.K.Link.ahead l.link ≡ g.K.Link.ahead l.fn.link;
  shut : g.K.Link.is_shut l.link ≡ g.K.Link.is_shut l.fn.link;
  number : g.K.Link.number_of l.link ≡ g.K.Link.number_of l.fn.link;
  faults : g.K.Link.fault_count l.link ≡ g.K.Link.fault_count l.fn.link;
}

abbrev pub decreases-loop-rest : goal.decreases-loop-rest
decreases-loop-rest g l = length l.rest
