-- What a node ends as, once a reference to its value has ended.
use Rattle.std.specs.Borrow.{Fml, Lends, MutBor, RattleType}
use Rattle.sc_lru.specs.declared.node.Node.{Node}
use Rattle.sc_lru.specs.contracts.node.Node.{the_row}
use Rattle.sc_lru.specs.Linked.{node}

-- the same links, and the last value written through r
abbrev pub lends_value : (V : RattleType) → MutBor (Node V.Denot) → MutBor V.Denot → Fml
lends_value V n r = Lends (the_row V) V n r (λ w. node n.now.before n.now.after w)
