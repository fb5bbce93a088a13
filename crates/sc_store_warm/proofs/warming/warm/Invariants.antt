use Rattle.std.proofs.Common.{take}
use Rattle.sc_store_warm.specs.Warming.{Each, WarmsKey}
use Rattle.sc_store_warm.proofs.warming.warm.Given as goal

-- something became of the first keys
abbrev pub invariant-loop-key : goal.invariant-loop-key
invariant-loop-key g l = Each WarmsKey (take l.key-index l.keys) l.told.items (g.A.Storage.state l.fn.from) (g.A.Storage.state l.from) (g.B.Storage.state l.fn.to) (g.B.Storage.state l.to)
