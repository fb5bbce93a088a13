use Rattle.std.proofs.Common.{◌∙◌, sym, ap}
use Rattle.sc_lru.proofs.Cut.{missed}
use Rattle.std.specs.Map.{lookup}
use Rattle.sc_lru.proofs.Orders.{absent_after, is_placed, none_pairs, removed_linked, vacated_none, vacated_taken}
use Rattle.sc_lru.specs.Linked.{pairs_of}
use Rattle.sc_lru.proofs.linked.Order.remove_entry.Goals as goal

pub returns-in_default-clause-value : goal.returns-in_default-clause-value
returns-in_default-clause-value g c =
    let o = c.self.inside in let test = g.K.PartialEq.eq c.args.key.now in
    let f = c.in_default.ensures in
    rw (← c.self.view_is) (sym (missed test (pairs_of o.map.entries o.first) (none_pairs g.K.PartialEq.eq g.met.K.Eq.laws (g.K.PartialEq.eq c.args.key.now) (g.met.K.Eq.laws.congr c.args.key.now) o.map.entries o.first o.last c.self.invariant f.index)).entry)

pub returns-in_default-clause-entries : goal.returns-in_default-clause-entries
returns-in_default-clause-entries g c =
    let o = c.self.inside in let test = g.K.PartialEq.eq c.args.key.now in
    let f = c.in_default.ensures in
    rw (← c.self.view_is) (sym (missed test (pairs_of o.map.entries o.first) (none_pairs g.K.PartialEq.eq g.met.K.Eq.laws (g.K.PartialEq.eq c.args.key.now) (g.met.K.Eq.laws.congr c.args.key.now) o.map.entries o.first o.last c.self.invariant f.index)).removed)

pub take-first-requires : goal.take-first-requires
take-first-requires g c =
    let o = c.self.inside in let test = g.K.PartialEq.eq c.args.key.now in
    let f = c.in-Some.ensures in
    is_placed g.K.PartialEq.eq o.map.entries o.first o.last c.in-Some.at c.self.invariant f.within

pub invariant_of-self : goal.invariant_of-self
invariant_of-self g c =
    let o = c.self.inside in let test = g.K.PartialEq.eq c.args.key.now in
    let f = c.in-Some.ensures in let t = c.take-first in
    (removed_linked g.K.PartialEq.eq g.met.K.Eq.laws (g.K.PartialEq.eq c.args.key.now) (g.met.K.Eq.laws.congr c.args.key.now) o.map.entries o.first o.last c.self.invariant c.in-Some.at f.index t.new.map.entries t.result.0 t.result.1 (t.result.2, t.result.3) t.ensures.pair t.ensures.chain t.ensures.distinct).0

pub returns-clause-value : goal.returns-clause-value
returns-clause-value g c =
    let o = c.self.inside in let test = g.K.PartialEq.eq c.args.key.now in
    let f = c.in-Some.ensures in let t = c.take-first in
    let r = removed_linked g.K.PartialEq.eq g.met.K.Eq.laws (g.K.PartialEq.eq c.args.key.now) (g.met.K.Eq.laws.congr c.args.key.now) o.map.entries o.first o.last c.self.invariant c.in-Some.at f.index t.new.map.entries t.result.0 t.result.1 (t.result.2, t.result.3) t.ensures.pair t.ensures.chain t.ensures.distinct in
    rw (← c.self.view_is) r.2

pub returns-clause-entries : goal.returns-clause-entries
returns-clause-entries g c =
    let o = c.self.inside in let test = g.K.PartialEq.eq c.args.key.now in
    let f = c.in-Some.ensures in let t = c.take-first in
    let r = removed_linked g.K.PartialEq.eq g.met.K.Eq.laws (g.K.PartialEq.eq c.args.key.now) (g.met.K.Eq.laws.congr c.args.key.now) o.map.entries o.first o.last c.self.invariant c.in-Some.at f.index t.new.map.entries t.result.0 t.result.1 (t.result.2, t.result.3) t.ensures.pair t.ensures.chain t.ensures.distinct in
    rw (← c.self.view_is) r.1

pub returns-in_default-clause-absent : goal.returns-in_default-clause-absent
returns-in_default-clause-absent g c =
    let o = c.self.inside in let f = c.in_default.ensures in
    rw (← c.self.view_is) (none_pairs g.K.PartialEq.eq g.met.K.Eq.laws (g.K.PartialEq.eq c.args.key.now) (g.met.K.Eq.laws.congr c.args.key.now) o.map.entries o.first o.last c.self.invariant f.index)

pub returns-clause-absent : goal.returns-clause-absent
returns-clause-absent g c =
    let o = c.self.inside in let test = g.K.PartialEq.eq c.args.key.now in let f = c.in-Some.ensures in let t = c.take-first in
    let r = removed_linked g.K.PartialEq.eq g.met.K.Eq.laws (g.K.PartialEq.eq c.args.key.now) (g.met.K.Eq.laws.congr c.args.key.now) o.map.entries o.first o.last c.self.invariant c.in-Some.at f.index t.new.map.entries t.result.0 t.result.1 (t.result.2, t.result.3) t.ensures.pair t.ensures.chain t.ensures.distinct in
    ap (lookup test) r.1 ∙ absent_after g.K.PartialEq.eq g.met.K.Eq.laws (g.K.PartialEq.eq c.args.key.now) (g.met.K.Eq.laws.congr c.args.key.now) o.map.entries o.first o.last c.self.invariant

pub returns-in_default-clause-slots : goal.returns-in_default-clause-slots
returns-in_default-clause-slots g c =
    rw (← c.self.view_is) (vacated_none (g.K.PartialEq.eq c.args.key.now) c.self.inside.map.entries c.in_default.ensures.index)

pub returns-clause-slots : goal.returns-clause-slots
returns-clause-slots g c =
    let f = c.in-Some.ensures in let t = c.take-first in
    rw (← c.self.view_is) (t.ensures.slots ∙ vacated_taken (g.K.PartialEq.eq c.args.key.now) c.self.inside.map.entries c.in-Some.at (t.result.2, t.result.3) f.index t.ensures.pair)
