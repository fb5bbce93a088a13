use Rattle.std.proofs.Common.{◌∙◌}
use Rattle.sc_daemon_job.proofs.Counting.{compile_writes}
use Rattle.sc_daemon_job.proofs.rows.row_of_write.Goals as goal

pub returns-then-compiles : goal.returns-then-compiles
returns-then-compiles c request is = compile_writes request c.args.duration c.args.put.now c.row_of_compile_write.result (is ∙ c.if-compiles.true) c.row_of_compile_write.ensures
