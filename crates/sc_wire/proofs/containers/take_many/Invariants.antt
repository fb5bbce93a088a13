use Rattle.std.proofs.Common.{◌≡◌, ◌-◌}
use Rattle.sc_wire.specs.Lists.{read_many}
use Rattle.sc_wire.proofs.Loops.{with_front}
use Rattle.sc_wire.proofs.containers.take_many.Given as goal

abbrev pub invariant-loop : goal.invariant-loop
invariant-loop g l = with_front l.items (read_many g.T.Wire.codec (l.count - l.counter) l.reader) ≡ read_many g.T.Wire.codec l.fn.count l.fn.reader
