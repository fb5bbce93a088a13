use Rattle.std.proofs.Common.{◌∙◌, sym, subst}
use Rattle.sc_lru.specs.Order.{IsPosition}
use Rattle.sc_lru.proofs.Places.{before, before_first, node_links, position_within}
use Rattle.sc_lru.proofs.linked.Order.position_before.Goals as goal

pub returns-then-at-self : goal.returns-then-at-self
returns-then-at-self g c =
    let o = c.self.inside in
    rw (← c.self.view_is) (λ i h p. before_first g.K.PartialEq.eq g.met.K.Eq.laws o.map.entries o.first o.last c.self.invariant c.args.at i h p c.if-at-self.true)

pub index-requires : goal.index-requires
index-requires g c =
    let o = c.self.inside in
    position_within g.K.PartialEq.eq g.met.K.Eq.laws o.map.entries o.first o.last c.self.invariant c.args.at (subst (λ v. IsPosition g.K.PartialEq.eq v.entries v.slots c.args.at) (sym c.self.view_is) c.requires)

pub returns : goal.returns
returns g c =
    let o = c.self.inside in let n = node_links o.map.entries c.args.at c.index.result.now c.index.ensures in
    rw (← c.self.view_is) (λ i h p. sym n.1 ∙ before g.K.PartialEq.eq g.met.K.Eq.laws o.map.entries o.first o.last c.self.invariant c.args.at i h p c.if-at-self.false)
