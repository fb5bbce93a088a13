use Rattle.std.proofs.Common.{◌∙◌, sym}
use Rattle.sc_lru.proofs.Orders.{length_pairs_of, distinct_order}
use Rattle.sc_lru.proofs.Places.{length-keys}
use Rattle.sc_lru.proofs.linked.Order.len.Goals as goal

pub returns : goal.returns
returns g c = let o = c.self.inside in
    rw (← c.self.view_is) (record { len = c.len.ensures.len ∙ sym (length_pairs_of g.K.PartialEq.eq o.map.entries o.first o.last c.self.invariant); slots = c.len.ensures.len ∙ sym (length-keys o.map.entries); distinct = distinct_order g.K.PartialEq.eq g.met.K.Eq.laws o.map.entries o.first o.last c.self.invariant })
