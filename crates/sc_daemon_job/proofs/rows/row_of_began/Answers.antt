use Rattle.sc_daemon_job.proofs.rows.row_of_began.Goals as goal

pub returns-in_ok-row-in-Compile : goal.returns-in_ok-row-in-Compile
returns-in_ok-row-in-Compile c = rw c.in-Compile.is (c.in_ok-row-in-Compile.ensures c.in-Compile.field-0)
