use Rattle.std.proofs.Common.{◌∙◌, ◌<◌, IfSome, subst, sym}
use Rattle.sc_lru.proofs.Orders.{length_pairs_of, some_pairs}
use Rattle.sc_lru.proofs.linked.Order.position_of.Goals as goal

pub returns-clause-found : goal.returns-clause-found
returns-clause-found g c = let o = c.self.inside in
    rw (← c.self.view_is) (c.get_index_of.ensures.found ∙ sym (some_pairs g.K.PartialEq.eq g.met.K.Eq.laws (g.K.PartialEq.eq c.args.key.now) (g.met.K.Eq.laws.congr c.args.key.now) o.map.entries o.first o.last c.self.invariant))

pub returns-clause-within : goal.returns-clause-within
returns-clause-within g c = let o = c.self.inside in
    rw (← c.self.view_is) (subst (λ n. IfSome c.get_index_of.result (λ at. at < n)) (sym (length_pairs_of g.K.PartialEq.eq o.map.entries o.first o.last c.self.invariant)) c.get_index_of.ensures.within)
