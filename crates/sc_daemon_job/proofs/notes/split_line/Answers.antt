use Rattle.std.proofs.Common.{arith}
use Rattle.sc_words.proofs.Cuts.{rest_of}
use Rattle.sc_daemon_job.proofs.Lines.{first_line, whole_line}
use Rattle.sc_daemon_job.proofs.notes.split_line.Goals as goal

pub returns-then-byte-eq10-clause-lines : goal.returns-then-byte-eq10-clause-lines
returns-then-byte-eq10-clause-lines c = rw rest_of (first_line c.args.text.now c.loop-place.place (omega arith) c.loop-place.invariant (omega arith))

pub returns-clause-lines : goal.returns-clause-lines
returns-clause-lines c = whole_line c.args.text.now c.requires (λ j h. c.loop-place.invariant j (omega arith))
