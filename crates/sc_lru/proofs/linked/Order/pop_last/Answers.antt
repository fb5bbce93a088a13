use Rattle.std.proofs.Common.{◌<◌, length, arith}
use Rattle.sc_lru.proofs.Orders.{is_placed, last_within, popped_last}
use Rattle.sc_lru.proofs.linked.Order.pop_last.Goals as goal

pub take-first-requires : goal.take-first-requires
take-first-requires g c = let o = c.self.inside in let d = c.if-len-eq0.false in let n = c.len.ensures.len in let some : 0 < length o.map.entries = omega (arith, d, n) in
    is_placed g.K.PartialEq.eq o.map.entries o.first o.last o.last c.self.invariant (last_within g.K.PartialEq.eq o.map.entries o.first o.last c.self.invariant some)

pub invariant_of-self : goal.invariant_of-self
invariant_of-self g c =
    let o = c.self.inside in let t = c.take-first in let d = c.if-len-eq0.false in let n = c.len.ensures.len in let some : 0 < length o.map.entries = omega (arith, d, n) in
    (popped_last g.K.PartialEq.eq o.map.entries t.new.map.entries o.first o.last t.result.0 t.result.1 (t.result.2, t.result.3) c.self.invariant some t.ensures.pair t.ensures.chain t.ensures.distinct).0

pub returns-clause-last : goal.returns-clause-last
returns-clause-last g c =
    let o = c.self.inside in let t = c.take-first in let d = c.if-len-eq0.false in let n = c.len.ensures.len in let some : 0 < length o.map.entries = omega (arith, d, n) in
    let r = popped_last g.K.PartialEq.eq o.map.entries t.new.map.entries o.first o.last t.result.0 t.result.1 (t.result.2, t.result.3) c.self.invariant some t.ensures.pair t.ensures.chain t.ensures.distinct in
    rw (← c.self.view_is) r.1
