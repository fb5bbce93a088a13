use Rattle.std.proofs.Common.{◌≡◌, ◌≤◌}
use Rattle.sc_entry.specs.Causes.{Told}
use Rattle.sc_entry.specs.Streams.{WritesAll}
use Rattle.sc_client.specs.Notes.{note_lines}
use Rattle.sc_client.specs.Talking.{HearsNotes}
use Rattle.sc_client.proofs.talking.listen.Given as goal

-- these notifications came, and each was written
abbrev pub invariant-loop-round : goal.invariant-loop-round
invariant-loop-round g l = record {
  heard : HearsNotes l.fn.connection l.notes l.connection;
  told : Told (WritesAll (note_lines l.notes)) (g.E.Sink.written l.fn.err) (g.E.Sink.written l.err);
  later : l.fn.connection.faults ≤ l.connection.faults;
  faults : g.E.Sink.fault_count l.err ≡ g.E.Sink.fault_count l.fn.err;
}
