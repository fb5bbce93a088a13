use Rattle.std.proofs.Common.{◌∙◌, Some, ap, sym, subst, refl}
use Rattle.std.specs.Option.{option_map_or}
use Rattle.std.specs.Map.{keys_of, set_value}
use Rattle.indexmap.specs.IndexMap.{hasher_of, spare}
use Rattle.sc_lru.specs.Linked.{node, pairs_of, IsLinked}
use Rattle.sc_lru.specs.Order.{order, IsPosition}
use Rattle.sc_lru.proofs.Chains.{item-slice_get, keys-change, written}
use Rattle.sc_lru.proofs.Orders.{valued_linked}
use Rattle.sc_lru.proofs.Places.{at_position, by_some, key_item, position_item, position_within, value_item, written_place}
use Rattle.sc_lru.proofs.linked.Order.pair_mut.Goals as goal

pub pair_mut-node-requires : goal.pair_mut-node-requires
pair_mut-node-requires g c =
    let o = c.self.inside in
    position_within g.K.PartialEq.eq g.met.K.Eq.laws o.map.entries o.first o.last c.self.invariant c.args.at (subst (λ v. IsPosition g.K.PartialEq.eq v.entries v.slots c.args.at) (sym c.self.view_is) c.requires)

pub invariant_of-self-lent : goal.invariant_of-self-lent
invariant_of-self-lent g c = λ w.
    let o = c.self.inside in let eq = g.K.PartialEq.eq in let laws = g.met.K.Eq.laws in let es = o.map.entries in let at = c.args.at in
    let r = subst (λ v. IsPosition eq v.entries v.slots at) (sym c.self.view_is) c.requires in
    let s = at_position eq laws es o.first o.last c.self.invariant at r.0 r.1 r.2 in let e = s.node in
    let v = valued_linked eq laws (eq e.0) (laws.congr e.0) es o.first o.last c.self.invariant at (sym (position_item eq laws es at e c.self.invariant.distinct s.at)) w in
    let n = c.pair_mut-node.result.1.now in
    let there = value_item es at (c.pair_mut-node.result.0.now, n) c.pair_mut-node.ensures.value in
    subst (λ l. IsLinked eq l o.first o.last) (sym (written es at n (λ m. node m.before m.after w) there)) v.0

pub returns : goal.returns
returns g c =
    let o = c.self.inside in let eq = g.K.PartialEq.eq in let laws = g.met.K.Eq.laws in let es = o.map.entries in let at = c.args.at in
    let r = subst (λ v. IsPosition eq v.entries v.slots at) (sym c.self.view_is) c.requires in
    let s = at_position eq laws es o.first o.last c.self.invariant at r.0 r.1 r.2 in let e = s.node in
    let k = c.pair_mut-node.result.0.now in let n = c.pair_mut-node.result.1.now in
    let there = value_item es at (k, n) c.pair_mut-node.ensures.value in
    let pairs = λ (w : g.row.V.Denot).
    ap (λ l. pairs_of l o.first) (written es at n (λ m. node m.before m.after w) there)
    ∙ (valued_linked eq laws (eq e.0) (laws.congr e.0) es o.first o.last c.self.invariant at (sym (position_item eq laws es at e c.self.invariant.distinct s.at)) w).1
    ∙ sym (ap (λ p. option_map_or (λ q. set_value (eq q) (pairs_of es o.first) w) p (pairs_of es o.first)) (key_item es at e s.at)) in
    let keys = λ (w : g.row.V.Denot). ap keys_of (written es at n (λ m. node m.before m.after w) there) ∙ keys-change es at (λ m. node m.before m.after w) in
    rw (← c.self.view_is) (
      (refl, λ w i. order (pairs w i) (keys w i) (hasher_of o.map) (spare o.map)),
      record {
        writes_back = tt;
        pair = λ i h p.
            let t = at_position eq laws es o.first o.last c.self.invariant at i h p in
            let same = by_some t.node (k, n) (sym t.at ∙ sym (item-slice_get es at) ∙ c.pair_mut-node.ensures.value) in
            item-slice_get (pairs_of es o.first) i ∙ t.pair ∙ ap (λ f. Some (f.0, f.1.value)) same ∙ ap (λ v. Some (k, v)) (sym c.value_mut.ensures.value);
        written = λ i h p w. written_place eq laws es o.first o.last c.self.invariant i at (at_position eq laws es o.first o.last c.self.invariant at i h p) w;
      },
    )
