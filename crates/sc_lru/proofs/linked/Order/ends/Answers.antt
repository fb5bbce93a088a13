use Rattle.std.proofs.Common.{◌≡◌, ◌-◌, ◌<◌, length, suc, sym, ◌∙◌, arith}
use Rattle.sc_lru.specs.Linked.{pairs_of}
use Rattle.sc_lru.proofs.Orders.{length_pairs_of}
use Rattle.sc_lru.proofs.Places.{stands, first_is, last_is}
use Rattle.sc_lru.proofs.linked.Order.ends.Goals as goal

pub returns-clause-first : goal.returns-clause-first
returns-clause-first g c =
    let o = c.self.inside in let eq = g.K.PartialEq.eq in let laws = g.met.K.Eq.laws in let es = o.map.entries in let l = c.self.invariant in
    let long = length_pairs_of eq es o.first o.last l in
    let some : 0 < length (pairs_of es o.first) = omega (arith, long, c.len.ensures.len, c.if-len-eq0.false) in
    let s = stands eq laws es o.first o.last l 0 some in
    rw (← c.self.view_is) (sym (first_is eq laws es o.first o.last l s.0 s.1) ∙ sym (s.1).position)

pub returns-clause-last : goal.returns-clause-last
returns-clause-last g c =
    let o = c.self.inside in let eq = g.K.PartialEq.eq in let laws = g.met.K.Eq.laws in let es = o.map.entries in let l = c.self.invariant in
    let long = length_pairs_of eq es o.first o.last l in
    let n = length (pairs_of es o.first) - 1 in
    let end : suc n ≡ length (pairs_of es o.first) = omega (arith, long, c.len.ensures.len, c.if-len-eq0.false) in
    let s = stands eq laws es o.first o.last l n (omega (arith, end)) in
    rw (← c.self.view_is) (sym (last_is eq laws es o.first o.last l n s.0 end s.1) ∙ sym (s.1).position)
