use Rattle.std.proofs.Common.{◌∙◌, sym, ap}
use Rattle.sc_lru.proofs.Cut.{missed}
use Rattle.sc_lru.proofs.Orders.{is_chained, none_pairs, some_pairs, touched_linked}
use Rattle.sc_lru.specs.Linked.{pairs_of}
use Rattle.std.specs.Map.{keys_of}
use Rattle.indexmap.specs.IndexMap.{hasher_of, spare}
use Rattle.sc_lru.specs.Order.{order}
use Rattle.sc_lru.proofs.linked.Order.touch.Goals as goal

pub returns-in_default-clause-found : goal.returns-in_default-clause-found
returns-in_default-clause-found g c =
    let o = c.self.inside in let test = g.K.PartialEq.eq c.args.key.now in
    let f = c.in_default.ensures in
    rw (← c.self.view_is) (f.found ∙ sym (some_pairs g.K.PartialEq.eq g.met.K.Eq.laws (g.K.PartialEq.eq c.args.key.now) (g.met.K.Eq.laws.congr c.args.key.now) o.map.entries o.first o.last c.self.invariant))

pub returns-in_default-clause-order : goal.returns-in_default-clause-order
returns-in_default-clause-order g c =
    let o = c.self.inside in let test = g.K.PartialEq.eq c.args.key.now in
    let f = c.in_default.ensures in
    rw (← c.self.view_is) (ap (λ l. order l (keys_of o.map.entries) (hasher_of o.map) (spare o.map)) (sym (missed test (pairs_of o.map.entries o.first) (none_pairs g.K.PartialEq.eq g.met.K.Eq.laws (g.K.PartialEq.eq c.args.key.now) (g.met.K.Eq.laws.congr c.args.key.now) o.map.entries o.first o.last c.self.invariant f.index)).last))

pub move_last-self-inside-requires : goal.move_last-self-inside-requires
move_last-self-inside-requires g c =
    let o = c.self.inside in let test = g.K.PartialEq.eq c.args.key.now in
    let f = c.in-Some.ensures in
    is_chained g.K.PartialEq.eq o.map.entries o.first o.last c.in-Some.at c.self.invariant f.within

pub invariant_of-self : goal.invariant_of-self
invariant_of-self g c =
    let o = c.self.inside in let test = g.K.PartialEq.eq c.args.key.now in
    let f = c.in-Some.ensures in let t = c.move_last-self-inside in
    (touched_linked g.K.PartialEq.eq g.met.K.Eq.laws (g.K.PartialEq.eq c.args.key.now) (g.met.K.Eq.laws.congr c.args.key.now) o.map.entries o.first o.last c.self.invariant c.in-Some.at f.index t.new.map.entries t.result t.ensures.chain t.ensures.same).0

pub returns-clause-found : goal.returns-clause-found
returns-clause-found g c =
    let o = c.self.inside in let test = g.K.PartialEq.eq c.args.key.now in
    let f = c.in-Some.ensures in
    rw (← c.self.view_is) (f.found ∙ sym (some_pairs g.K.PartialEq.eq g.met.K.Eq.laws (g.K.PartialEq.eq c.args.key.now) (g.met.K.Eq.laws.congr c.args.key.now) o.map.entries o.first o.last c.self.invariant))

pub returns-clause-order : goal.returns-clause-order
returns-clause-order g c =
    let o = c.self.inside in let test = g.K.PartialEq.eq c.args.key.now in
    let f = c.in-Some.ensures in let t = c.move_last-self-inside in
    let r = touched_linked g.K.PartialEq.eq g.met.K.Eq.laws (g.K.PartialEq.eq c.args.key.now) (g.met.K.Eq.laws.congr c.args.key.now) o.map.entries o.first o.last c.self.invariant c.in-Some.at f.index t.new.map.entries t.result t.ensures.chain t.ensures.same in
    rw (← c.self.view_is) (λ i. order (r.1 i) (t.ensures.same.keys i) (t.ensures.hasher i) (t.ensures.spare i))
