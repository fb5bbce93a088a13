use Rattle.std.proofs.Common.{arith, refl}
use Rattle.std.specs.Iterator.{EndsFrom}
use Rattle.std.proofs.iter.Next as it
use Rattle.sc_lru.proofs.Measures.{extends_push}
use Rattle.sc_lru.proofs.extend.LruCacheExtendTuple2.extend.Goals as goal

pub loop-pair-init : goal.loop-pair-init
loop-pair-init g c =
    let asked : (s : g.row.I-IntoIter.Denot) → g.I.IntoIterator.into_iter_gives c.args.iter s → g.I.IntoIter.Iterator.can_next s × EndsFrom g.I.IntoIter.Iterator.remaining s × it.Along g.I.IntoIter.Iterator.next_gives s (λ _. Unit {0}) = search in
    let made = asked c.into_iter-rest.result c.into_iter-rest.ensures.into_iter_gives in
    it.begun made.0 made.1 (record { entries = refl; parts = record { capacity = refl; meter = refl; hasher = refl }; spare = omega arith })

pub loop-pair-preserved-in_ok-insert : goal.loop-pair-preserved-in_ok-insert
loop-pair-preserved-in_ok-insert g c =
    let inv = c.loop-pair.invariant in let x = c.in-Some.pair in
    it.again inv x c.in-Some.is (c.next.ensures.steps, c.next.ensures.goes)
    (extends_push g.M.Meter.measure g.K.PartialEq.eq c.args.self.now c.loop-pair.self c.insert.new.self inv.seen x inv.holds c.in_ok-insert.ensures.entries c.insert.ensures.parts c.insert.ensures.spare)

pub loop-pair-preserved : goal.loop-pair-preserved
loop-pair-preserved g c =
    let inv = c.loop-pair.invariant in let x = c.in-Some.pair in
    it.again inv x c.in-Some.is (c.next.ensures.steps, c.next.ensures.goes)
    (extends_push g.M.Meter.measure g.K.PartialEq.eq c.args.self.now c.loop-pair.self c.insert.new.self inv.seen x inv.holds c.in_ok-insert.ensures.entries c.insert.ensures.parts c.insert.ensures.spare)
