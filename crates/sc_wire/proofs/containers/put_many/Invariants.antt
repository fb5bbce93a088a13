use Rattle.std.proofs.Common.{◌≡◌, ◌++◌, drop, take}
use Rattle.sc_wire.specs.Lists.{spell_all, FitAll}
use Rattle.sc_wire.proofs.containers.put_many.Given as goal

abbrev pub invariant-loop-item : goal.invariant-loop-item
invariant-loop-item g l = (l.out.items ++ spell_all g.T.Wire.codec (drop l.item-index l.items) ≡ l.fn.out.items ++ spell_all g.T.Wire.codec l.items) × FitAll g.T.Wire.codec (take l.item-index l.items)
