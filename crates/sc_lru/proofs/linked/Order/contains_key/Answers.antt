use Rattle.std.proofs.Common.{◌∙◌, sym}
use Rattle.sc_lru.proofs.Orders.{some_pairs}
use Rattle.sc_lru.proofs.linked.Order.contains_key.Goals as goal

pub returns : goal.returns
returns g c = let o = c.self.inside in
    rw (← c.self.view_is) (c.contains_key.ensures ∙ sym (some_pairs g.K.PartialEq.eq g.met.K.Eq.laws (g.K.PartialEq.eq c.args.key.now) (g.met.K.Eq.laws.congr c.args.key.now) o.map.entries o.first o.last c.self.invariant))
