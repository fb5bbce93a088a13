use Rattle.std.proofs.Common.{◌<◌, ◌^◌, Some, true, subst}
use Rattle.sc_disk.specs.Devices.{CountsOn, MakesOn}
use Rattle.sc_disk.specs.Memory.{Memory}
use Rattle.sc_disk.proofs.Devices.{call_counts, call_makes, counted_listed, counted_missing, counted_passing}
use Rattle.sc_disk.proofs.mem_disk.MemDisk.refuses.Goals as goal

pub returns-then-fails_next-clause-counts : goal.returns-then-fails_next-clause-counts
returns-then-fails_next-clause-counts c = let e = c.fails_next.ensures in let old = c.self.inside.calls in let new = c.fails_next.new.self in
    subst (λ (m : Memory). CountsOn (Some m.calls) (Some new) m.calls.faults new.faults) c.self.view_is (call_counts old new c.args.absent true (subst (λ n. n < 2 ^ 64) c.made-made.ensures c.made-made.type_inv) (counted_listed old new c.args.absent c.fails_next.result e.answer e.failing e.made e.faults c.if-fails_next.true))

pub returns-then-fails_next-clause-present : goal.returns-then-fails_next-clause-present
returns-then-fails_next-clause-present c = let e = c.fails_next.ensures in let old = c.self.inside.calls in let new = c.fails_next.new.self in
    λ present. subst (λ (m : Memory). MakesOn (Some m.calls) (Some new) m.calls.faults new.faults) c.self.view_is (call_makes old new c.args.absent true (subst (λ n. n < 2 ^ 64) c.made-made.ensures c.made-made.type_inv) (counted_listed old new c.args.absent c.fails_next.result e.answer e.failing e.made e.faults c.if-fails_next.true) present)

pub returns-then-absent-clause-counts : goal.returns-then-absent-clause-counts
returns-then-absent-clause-counts c = let e = c.fails_next.ensures in let old = c.self.inside.calls in let mid = c.fails_next.new.self in let new = c.refuse.new.self in let r = c.refuse.ensures in
    subst (λ (m : Memory). CountsOn (Some m.calls) (Some new) m.calls.faults new.faults) c.self.view_is (call_counts old new c.args.absent true (subst (λ n. n < 2 ^ 64) c.made-made.ensures c.made-made.type_inv) (counted_missing old mid new c.args.absent c.fails_next.result e.answer e.failing e.made e.faults c.if-fails_next.false c.if-absent.true r.failing r.made r.faults))

pub returns-else-absent-clause-counts : goal.returns-else-absent-clause-counts
returns-else-absent-clause-counts c = let e = c.fails_next.ensures in let old = c.self.inside.calls in let new = c.fails_next.new.self in
    subst (λ (m : Memory). CountsOn (Some m.calls) (Some new) m.calls.faults new.faults) c.self.view_is (call_counts old new c.args.absent c.args.absent (subst (λ n. n < 2 ^ 64) c.made-made.ensures c.made-made.type_inv) (counted_passing old new c.args.absent c.fails_next.result e.answer e.failing e.made e.faults c.if-fails_next.false c.if-absent.false))

pub returns-else-absent-clause-present : goal.returns-else-absent-clause-present
returns-else-absent-clause-present c = let e = c.fails_next.ensures in let old = c.self.inside.calls in let new = c.fails_next.new.self in
    λ present. subst (λ (m : Memory). MakesOn (Some m.calls) (Some new) m.calls.faults new.faults) c.self.view_is (call_makes old new c.args.absent c.args.absent (subst (λ n. n < 2 ^ 64) c.made-made.ensures c.made-made.type_inv) (counted_passing old new c.args.absent c.fails_next.result e.answer e.failing e.made e.faults c.if-fails_next.false c.if-absent.false) present)

pub returns-else-absent-clause-passes : goal.returns-else-absent-clause-passes
returns-else-absent-clause-passes c = let e = c.fails_next.ensures in let old = c.self.inside.calls in let new = c.fails_next.new.self in
    λ present. subst (λ (m : Memory). MakesOn (Some m.calls) (Some new) m.calls.faults new.faults) c.self.view_is (call_makes old new c.args.absent c.args.absent (subst (λ n. n < 2 ^ 64) c.made-made.ensures c.made-made.type_inv) (counted_passing old new c.args.absent c.fails_next.result e.answer e.failing e.made e.faults c.if-fails_next.false c.if-absent.false) present)
