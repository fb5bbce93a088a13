use Rattle.std.proofs.Common.{◌-◌, ℕ, length, ap, arith}
use Rattle.sc_entry.specs.declared.object.Object.{Object}
use Rattle.sc_entry.proofs.Holding.{none_held, held_none, object_missing, object_within, name_taken, object_held, held_all, bytes_over}
use Rattle.sc_entry.proofs.cache_read.index_of.Goals as goal

pub loop-left-init : goal.loop-left-init
loop-left-init c =
    let front = c.in-Some.ensures.front in
    let read = c.in-Some.ensures.read in
    let bytes = c.new-reader.ensures in
    held_none c.args.bytes.now c.object_count.new.reader c.in-Some.count c.new-index.result (rw bytes at front) (rw bytes at read) (none_held c.new-index.result c.new-index.ensures.empty)

pub returns-in_default-object : goal.returns-in_default-object
returns-in_default-object c =
    object_missing c.args.bytes.now c.loop-left.reader c.loop-left.left c.loop-left.index c.loop-left-test.true c.loop-left.invariant c.in_default-object.ensures

pub overflow_sub-start : goal.overflow_sub-start
overflow_sub-start c =
    let o : Object = record { name = c.in-Some-object.object.name.now; mode = c.in-Some-object.object.mode; bytes = c.in-Some-object.object.bytes.now } in
    let some = object_within c.args.bytes.now c.loop-left.reader c.object.new.self c.loop-left.left c.loop-left.index o c.loop-left.invariant c.in-Some-object.ensures in
    omega (arith, some, c.len.ensures)

pub overflow_sub-start-in-loop-left : goal.overflow_sub-start-in-loop-left
overflow_sub-start-in-loop-left c =
    let o : Object = record { name = c.in-Some-object.object.name.now; mode = c.in-Some-object.object.mode; bytes = c.in-Some-object.object.bytes.now } in
    let some = object_within c.args.bytes.now c.loop-left.reader c.object.new.self c.loop-left.left c.loop-left.index o c.loop-left.invariant c.in-Some-object.ensures in
    omega (arith, some, c.len.ensures)

pub returns-then-not-branch : goal.returns-then-not-branch
returns-then-not-branch c =
    let o : Object = record { name = c.in-Some-object.object.name.now; mode = c.in-Some-object.object.mode; bytes = c.in-Some-object.object.bytes.now } in
    name_taken c.args.bytes.now c.loop-left.reader c.object.new.self c.loop-left.left c.loop-left.index o c.in_ok-hold.field-0 c.loop-left-test.true c.loop-left.invariant
    c.in-Some-object.ensures c.in_ok-hold.ensures.new c.if-not-branch.true

pub loop-left-preserved : goal.loop-left-preserved
loop-left-preserved c =
    let o : Object = record { name = c.in-Some-object.object.name.now; mode = c.in-Some-object.object.mode; bytes = c.in-Some-object.object.bytes.now } in
    object_held c.args.bytes.now c.loop-left.reader c.object.new.self c.loop-left.left _ c.loop-left.index c.hold.new.index o c.in_ok-hold.field-0 c.loop-left-test.true
    c.loop-left.invariant c.in-Some-object.ensures (ap (λ (n : ℕ). length c.args.bytes.now - n - length c.in-Some-object.object.bytes.now) c.len.ensures) c.in_ok-hold.ensures.new c.if-not-branch.false c.in_ok-hold.ensures.held

pub returns-then-is_empty : goal.returns-then-is_empty
returns-then-is_empty c =
    held_all c.args.bytes.now c.loop-left.reader c.loop-left.left c.loop-left.index (omega arith) (c.is_empty.ensures.0 c.if-is_empty.true) c.loop-left.invariant

pub returns-else-is_empty : goal.returns-else-is_empty
returns-else-is_empty c =
    bytes_over c.args.bytes.now c.loop-left.reader c.loop-left.left c.loop-left.index (omega arith) (λ e. let t = c.is_empty.ensures.1 e in (cc)) c.loop-left.invariant
