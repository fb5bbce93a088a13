use Rattle.std.proofs.Common.{arith}
use Rattle.sc_client.proofs.Noting.{lines_all, lines_split}
use Rattle.sc_client.proofs.notes.split_line.Goals as goal

pub returns-then-place-text-clause-lines : goal.returns-then-place-text-clause-lines
returns-then-place-text-clause-lines c =
    rw (c.split_at.ensures.front, c.split_at.ensures.back) (lines_split c.args.text.now c.before_feed-place.result c.before_feed-place.ensures.value (omega arith))

pub returns-clause-lines : goal.returns-clause-lines
returns-clause-lines c =
    rw (c.split_at-2.ensures.front, c.split_at-2.ensures.back)
    (lines_all c.args.text.now c.before_feed-place.result c.before_feed-place.ensures.value (omega arith) (omega arith) (omega arith))
