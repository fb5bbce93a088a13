use Rattle.std.proofs.Common.{◌∙◌, sym, ap, refl}
use Rattle.sc_lru.proofs.Cut.{missed}
use Rattle.sc_lru.proofs.Orders.{is_chained, none_pairs, touched_linked, found_value, value_moved}
use Rattle.sc_lru.specs.Linked.{pairs_of}
use Rattle.std.specs.Map.{keys_of}
use Rattle.indexmap.specs.IndexMap.{hasher_of, spare}
use Rattle.sc_lru.specs.Order.{order}
use Rattle.sc_lru.proofs.linked.Order.get.Goals as goal

pub returns-in_default : goal.returns-in_default
returns-in_default g c =
    let o = c.self.inside in let test = g.K.PartialEq.eq c.args.key.now in
    let f = c.in_default.ensures in let none = none_pairs g.K.PartialEq.eq g.met.K.Eq.laws (g.K.PartialEq.eq c.args.key.now) (g.met.K.Eq.laws.congr c.args.key.now) o.map.entries o.first o.last c.self.invariant f.index in
    rw (← c.self.view_is) ((refl, λ _. tt, ap (λ l. order l (keys_of o.map.entries) (hasher_of o.map) (spare o.map)) (sym (missed test (pairs_of o.map.entries o.first) none).last)), record { touches = tt; value = sym none })

pub move_last-self-inside-requires : goal.move_last-self-inside-requires
move_last-self-inside-requires g c =
    let o = c.self.inside in let test = g.K.PartialEq.eq c.args.key.now in
    let f = c.in-Some.ensures in
    is_chained g.K.PartialEq.eq o.map.entries o.first o.last c.in-Some.found c.self.invariant f.within

pub invariant_of-self-2 : goal.invariant_of-self-2
invariant_of-self-2 g c =
    let o = c.self.inside in let test = g.K.PartialEq.eq c.args.key.now in
    let f = c.in-Some.ensures in let t = c.move_last-self-inside in
    (touched_linked g.K.PartialEq.eq g.met.K.Eq.laws (g.K.PartialEq.eq c.args.key.now) (g.met.K.Eq.laws.congr c.args.key.now) o.map.entries o.first o.last c.self.invariant c.in-Some.found f.index t.new.map.entries t.result t.ensures.chain t.ensures.same).0

pub returns : goal.returns
returns g c =
    let o = c.self.inside in let test = g.K.PartialEq.eq c.args.key.now in
    let f = c.in-Some.ensures in let t = c.move_last-self-inside in let s = t.ensures.spare in
    let r = touched_linked g.K.PartialEq.eq g.met.K.Eq.laws (g.K.PartialEq.eq c.args.key.now) (g.met.K.Eq.laws.congr c.args.key.now) o.map.entries o.first o.last c.self.invariant c.in-Some.found f.index t.new.map.entries t.result t.ensures.chain t.ensures.same in
    let value = value_moved o.map.entries t.new.map.entries c.in-Some.found c.index.result.now t.ensures.same c.index.ensures ∙ sym (found_value g.K.PartialEq.eq g.met.K.Eq.laws (g.K.PartialEq.eq c.args.key.now) (g.met.K.Eq.laws.congr c.args.key.now) o.map.entries o.first o.last c.self.invariant c.in-Some.found f.index) in
    rw (← c.self.view_is) ((refl, λ _. tt, λ i. order (r.1 i) (t.ensures.same.keys i) (t.ensures.hasher i) (s i)), record { touches = tt; value = value })
