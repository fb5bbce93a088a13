use Rattle.std.proofs.Common.{◌∙◌, sym, ap, ◌<◌, length, arith, drop, slice_get}
use Rattle.std.specs.Map.{keys_of}
use Rattle.std.specs.Option.{option_map_or}
use Rattle.sc_lru.specs.Order.{vacated}
use Rattle.sc_lru.proofs.Orders.{is_placed, first_within, popped, vacated_taken}
use Rattle.sc_lru.proofs.Places.{position_pair}
use Rattle.sc_lru.proofs.linked.Order.pop_first.Goals as goal

pub take-first-requires : goal.take-first-requires
take-first-requires g c = let o = c.self.inside in let d = c.if-len-eq0.false in let n = c.len.ensures.len in let some : 0 < length o.map.entries = omega (arith, d, n) in
    is_placed g.K.PartialEq.eq o.map.entries o.first o.last o.first c.self.invariant (first_within g.K.PartialEq.eq o.map.entries o.first o.last c.self.invariant some)

pub invariant_of-self : goal.invariant_of-self
invariant_of-self g c =
    let o = c.self.inside in let t = c.take-first in let d = c.if-len-eq0.false in let n = c.len.ensures.len in let some : 0 < length o.map.entries = omega (arith, d, n) in
    (popped g.K.PartialEq.eq o.map.entries t.new.map.entries o.first o.last t.result.0 t.result.1 (t.result.2, t.result.3) c.self.invariant some t.ensures.pair t.ensures.chain t.ensures.distinct).0

pub returns-clause-value : goal.returns-clause-value
returns-clause-value g c =
    let o = c.self.inside in let t = c.take-first in let d = c.if-len-eq0.false in let n = c.len.ensures.len in let some : 0 < length o.map.entries = omega (arith, d, n) in
    let r = popped g.K.PartialEq.eq o.map.entries t.new.map.entries o.first o.last t.result.0 t.result.1 (t.result.2, t.result.3) c.self.invariant some t.ensures.pair t.ensures.chain t.ensures.distinct in
    rw (← c.self.view_is) (sym (ap (λ l. slice_get l 0) r.1))

pub returns-clause-entries : goal.returns-clause-entries
returns-clause-entries g c =
    let o = c.self.inside in let t = c.take-first in let d = c.if-len-eq0.false in let n = c.len.ensures.len in let some : 0 < length o.map.entries = omega (arith, d, n) in
    let r = popped g.K.PartialEq.eq o.map.entries t.new.map.entries o.first o.last t.result.0 t.result.1 (t.result.2, t.result.3) c.self.invariant some t.ensures.pair t.ensures.chain t.ensures.distinct in
    rw (← c.self.view_is) (sym (ap (drop 1) r.1))

pub returns-clause-slots : goal.returns-clause-slots
returns-clause-slots g c =
    let o = c.self.inside in let t = c.take-first in let d = c.if-len-eq0.false in let n = c.len.ensures.len in let some : 0 < length o.map.entries = omega (arith, d, n) in
    let eq = g.K.PartialEq.eq in let laws = g.met.K.Eq.laws in let es = o.map.entries in let p : g.row.K.Denot × g.row.V.Denot = (t.result.2, t.result.3) in
    let r = popped eq es t.new.map.entries o.first o.last t.result.0 t.result.1 p c.self.invariant some t.ensures.pair t.ensures.chain t.ensures.distinct in
    let found = position_pair eq laws es o.first p c.self.invariant.distinct t.ensures.pair in
    rw (← c.self.view_is) (t.ensures.slots ∙ vacated_taken (eq p.0) es o.first p (sym found) t.ensures.pair ∙ sym (ap (λ l. option_map_or (λ e. vacated (eq e.0) (keys_of es)) (slice_get l 0) (keys_of es)) r.1))
