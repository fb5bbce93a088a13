use Rattle.sc_entry.proofs.Holding.{letters_short, letters_differ, letters_same, count_read, count_none, count_front}
use Rattle.sc_entry.proofs.cache_read.object_count.Goals as goal

pub returns-in_err-letters-clause-read : goal.returns-in_err-letters-clause-read
returns-in_err-letters-clause-read c = rw c.from_residual.ensures (letters_short c.args.reader.now c.in_err-letters.ensures.places)

pub returns-then-ne-clause-read : goal.returns-then-ne-clause-read
returns-then-ne-clause-read c =
    letters_differ c.args.reader.now c.in_ok-letters.letters.now c.as_slice.result.now c.ne.result c.in_ok-letters.ensures.places.0 c.as_slice.ensures c.ne.ensures c.if-ne.true

pub returns-in_err-count-clause-read : goal.returns-in_err-count-clause-read
returns-in_err-count-clause-read c =
    let same = letters_same c.args.reader.now c.in_ok-letters.letters.now c.as_slice.result.now c.ne.result c.in_ok-letters.ensures.places.0 c.as_slice.ensures c.ne.ensures c.if-ne.false in
    let rest = c.in_ok-letters.ensures.places.2 in
    let none = c.in_err-count.ensures in
    rw c.from_residual-in_err-count.ensures (count_none c.args.reader.now same (rw rest at none))

pub returns-clause-read : goal.returns-clause-read
returns-clause-read c =
    let same = letters_same c.args.reader.now c.in_ok-letters.letters.now c.as_slice.result.now c.ne.result c.in_ok-letters.ensures.places.0 c.as_slice.ensures c.ne.ensures c.if-ne.false in
    let rest = c.in_ok-letters.ensures.places.2 in
    let some = c.in_ok-count.ensures in
    count_read c.args.reader.now c.number16.new.self c.in_ok-count.count same (rw rest at some)

pub returns-clause-front : goal.returns-clause-front
returns-clause-front c =
    let same = letters_same c.args.reader.now c.in_ok-letters.letters.now c.as_slice.result.now c.ne.result c.in_ok-letters.ensures.places.0 c.as_slice.ensures c.ne.ensures c.if-ne.false in
    let rest = c.in_ok-letters.ensures.places.2 in
    let some = c.in_ok-count.ensures in
    count_front c.args.reader.now c.number16.new.self c.in_ok-count.count same (rw rest at some)
