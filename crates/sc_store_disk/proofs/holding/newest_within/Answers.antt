use Rattle.std.proofs.Common.{arith}
use Rattle.sc_store_disk.proofs.Walking.{walked-all, walked-stops}
use Rattle.sc_store_disk.proofs.holding.newest_within.Goals as goal

pub returns-then-file-capacity : goal.returns-then-file-capacity
returns-then-file-capacity c =
    let ends = walked-stops c.args.capacity c.loop-file.held.bytes c.loop-file.held.files c.loop-file.files.items c.pop.new.self.items c.args.files.items c.in-Some.file c.in-Some.ensures.items
    (omega (arith, c.if-file-capacity.true)) c.loop-file.invariant.walked in
    record { bytes = ends.sum; files = ends.count }

pub returns : goal.returns
returns c =
    let ends = walked-all c.args.capacity c.loop-file.held.bytes c.loop-file.held.files c.loop-file.files.items c.args.files.items (omega (arith, c.in_default.ensures.cases.0, c.loop-file.files.ok)) c.loop-file.invariant.walked in
    record { bytes = ends.sum; files = ends.count }
