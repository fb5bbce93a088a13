use Rattle.std.proofs.Common.{◌∙◌, sym, arith}
use Rattle.sc_lru.proofs.Evictions.{shorter, first_left, some_left, next_left, part_left, all_left, sum_left}
use Rattle.sc_lru.proofs.cache.push_evicting.Goals as goal

pub loop-left-init : goal.loop-left-init
loop-left-init g c = record {
  left = first_left (g.M.Meter.measure c.args.meter.now) c.args.limit c.args.order.now.entries (c.args.key, c.args.value) c.args.size c.push_last.new.self.entries c.requires.size c.push_last.ensures.entries;
  slots = λ _. c.push_last.ensures.slots;
  spare = c.push_last.ensures.spare;
  hasher = c.push_last.ensures.hasher;
}

pub unreachable-requires : goal.unreachable-requires
unreachable-requires g c = some_left (g.M.Meter.measure c.args.meter.now) c.args.limit c.args.order.now.entries (c.args.key, c.args.value) c.args.size c.loop-left.left c.loop-left.order.entries c.loop-left.invariant.left (sym c.in_default.is ∙ c.pop_first.ensures.value)

pub overflow_sub-left : goal.overflow_sub-left
overflow_sub-left g c = part_left (g.M.Meter.measure c.args.meter.now) c.args.limit c.args.order.now.entries (c.args.key, c.args.value) c.args.size c.loop-left.left c.measure-left.result (c.in-Some.gone, c.in-Some.its_value) c.loop-left.order.entries c.loop-left.invariant.left c.loop-left-test.true (sym c.in-Some.is ∙ c.pop_first.ensures.value) c.measure-left.ensures

pub loop-left-smaller : goal.loop-left-smaller
loop-left-smaller g c = shorter (c.in-Some.gone, c.in-Some.its_value) c.loop-left.order.entries c.pop_first.new.self.entries (sym c.in-Some.is ∙ c.pop_first.ensures.value) c.pop_first.ensures.entries

pub loop-left-preserved : goal.loop-left-preserved
loop-left-preserved g c = record {
  left = next_left (g.M.Meter.measure c.args.meter.now) c.args.limit c.args.order.now.entries (c.args.key, c.args.value) c.args.size c.loop-left.left c.measure-left.result (c.in-Some.gone, c.in-Some.its_value) c.loop-left.order.entries c.pop_first.new.self.entries c.loop-left.invariant.left c.loop-left-test.true (sym c.in-Some.is ∙ c.pop_first.ensures.value) c.pop_first.ensures.entries c.measure-left.ensures;
  slots = λ fits. absurd (omega (arith, fits, c.loop-left-test.true, c.loop-left.invariant.left.less));
  spare = omega (arith, c.loop-left.invariant.spare, c.pop_first.ensures.room.0);
  hasher = c.pop_first.ensures.room.1 ∙ c.loop-left.invariant.hasher;
}

pub returns-clause-entries : goal.returns-clause-entries
returns-clause-entries g c = all_left (g.M.Meter.measure c.args.meter.now) c.args.limit c.args.order.now.entries (c.args.key, c.args.value) c.args.size c.loop-left.left c.loop-left.order.entries c.loop-left.invariant.left (omega (arith, c.loop-left-test.false))

pub returns-clause-size : goal.returns-clause-size
returns-clause-size g c = sum_left (g.M.Meter.measure c.args.meter.now) c.args.limit c.args.order.now.entries (c.args.key, c.args.value) c.args.size c.loop-left.left c.loop-left.order.entries c.loop-left.invariant.left (omega (arith, c.loop-left-test.false))

pub returns-clause-slots : goal.returns-clause-slots
returns-clause-slots g c = c.loop-left.invariant.slots

pub returns-clause-spare : goal.returns-clause-spare
returns-clause-spare g c = c.loop-left.invariant.spare

pub returns-clause-hasher : goal.returns-clause-hasher
returns-clause-hasher g c = c.loop-left.invariant.hasher
