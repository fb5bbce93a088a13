use Rattle.std.proofs.Common.{◌∙◌, Some, ap, inl, position, refl, subst, sym}
use Rattle.std.specs.Map.{keys_of, set_value}
use Rattle.sc_lru.specs.Linked.{node, pairs_of, IsLinked}
use Rattle.sc_lru.specs.Order.{order}
use Rattle.sc_lru.proofs.Chains.{keys-change, written}
use Rattle.sc_lru.proofs.Orders.{is_chained, none_pairs, touched_linked, valued_linked, found_value, value_moved}
use Rattle.sc_lru.proofs.linked.Order.get_mut.Goals as goal

pub returns-in_default : goal.returns-in_default
returns-in_default g c =
    let o = c.self.inside in let f = c.in_default.ensures in
    let none = none_pairs g.K.PartialEq.eq g.met.K.Eq.laws (g.K.PartialEq.eq c.args.key.now) (g.met.K.Eq.laws.congr c.args.key.now) o.map.entries o.first o.last c.self.invariant f.index in
    rw (← c.self.view_is) (refl, record { writes_back = tt; value = sym none })

pub move_last-self-inside-requires : goal.move_last-self-inside-requires
move_last-self-inside-requires g c =
    let o = c.self.inside in let f = c.in-Some.ensures in
    is_chained g.K.PartialEq.eq o.map.entries o.first o.last c.in-Some.at c.self.invariant f.within

pub invariant_of-self-lent : goal.invariant_of-self-lent
invariant_of-self-lent g c = λ w.
    let o = c.self.inside in let f = c.in-Some.ensures in let t = c.move_last-self-inside in let at = c.in-Some.at in let fs = t.new.map.entries in
    let eq = g.K.PartialEq.eq in let laws = g.met.K.Eq.laws in let test = g.K.PartialEq.eq c.args.key.now in let one = g.met.K.Eq.laws.congr c.args.key.now in
    let r = touched_linked eq laws test one o.map.entries o.first o.last c.self.invariant at f.index fs t.result t.ensures.chain t.ensures.same in
    let there = f.index ∙ ap (position test) (sym t.ensures.same.keys) in
    let v = valued_linked eq laws test one fs t.result at r.0 at there w in
    subst (λ l. IsLinked eq l t.result at) (sym (written fs at c.index_mut.result.now (λ n. node n.before n.after w) c.index_mut.ensures.value)) v.0

pub returns : goal.returns
returns g c =
    let o = c.self.inside in let f = c.in-Some.ensures in let t = c.move_last-self-inside in let at = c.in-Some.at in let fs = t.new.map.entries in
    let eq = g.K.PartialEq.eq in let laws = g.met.K.Eq.laws in let test = g.K.PartialEq.eq c.args.key.now in let one = g.met.K.Eq.laws.congr c.args.key.now in
    let r = touched_linked eq laws test one o.map.entries o.first o.last c.self.invariant at f.index fs t.result t.ensures.chain t.ensures.same in
    let there = f.index ∙ ap (position test) (sym t.ensures.same.keys) in
    let n = c.index_mut.result.now in
    let pairs = λ (w : g.row.V.Denot). ap (λ l. pairs_of l t.result) (written fs at n (λ m. node m.before m.after w) c.index_mut.ensures.value)
    ∙ (valued_linked eq laws test one fs t.result at r.0 at there w).1 ∙ ap (λ l. set_value test l w) r.1 in
    let keys = λ (w : g.row.V.Denot). ap keys_of (written fs at n (λ m. node m.before m.after w) c.index_mut.ensures.value)
    ∙ keys-change fs at (λ m. node m.before m.after w) ∙ t.ensures.same.keys in
    let value = ap Some c.value_mut.ensures.value ∙ value_moved o.map.entries fs at n t.ensures.same c.index_mut.ensures.value ∙ sym (found_value eq laws test one o.map.entries o.first o.last c.self.invariant at f.index) in
    rw (← c.self.view_is) (
      (λ i. inl (c.value_mut.result.ghost_name, λ w. order (pairs w i) (keys w i) (t.ensures.hasher i) (t.ensures.spare i))),
      record { writes_back = tt; value = value },
    )
