use Rattle.std.proofs.Common.{◌≡◌, ◌∙◌, ap, sym, Option, Some, None}
use Rattle.sc_lru.specs.Linked.{pairs_of}
use Rattle.sc_lru.specs.declared.node.Node.{Node}
use Rattle.sc_lru.proofs.Chains.{item-slice_get}
use Rattle.sc_lru.proofs.Places.{at_position, by_some, key_item}
use Rattle.sc_lru.proofs.linked.Order.key_at.Goals as goal

pub returns-in-Some : goal.returns-in-Some
returns-in-Some g c =
    let o = c.self.inside in let es = o.map.entries in let at = c.args.at in
    rw (← c.self.view_is) (λ i h p.
    let t = at_position g.K.PartialEq.eq g.met.K.Eq.laws es o.first o.last c.self.invariant at i h p in let e = t.node in
    let same = by_some e (c.in-Some.key.now, c.in-Some.field-0-1.now) (sym t.at ∙ sym (item-slice_get es at) ∙ sym c.in-Some.ensures.entry) in
    ap (λ f. Some f.0) (sym same) ∙ sym (key_item (pairs_of es o.first) i (e.0, e.1.value) t.pair))

pub returns-in-None : goal.returns-in-None
returns-in-None g c =
    let o = c.self.inside in let es = o.map.entries in let at = c.args.at in
    rw (← c.self.view_is) (λ i h p.
    let t = at_position g.K.PartialEq.eq g.met.K.Eq.laws es o.first o.last c.self.invariant at i h p in
    let none : ◌≡◌ {A = Option (g.row.K.Denot × Node g.row.V.Denot)} None (Some t.node) = c.in-None.ensures.entry ∙ item-slice_get es at ∙ t.at in cc)
