use Rattle.std.proofs.Common.{ℕ, ◌<◌, ◌≢◌, get_or}
use Rattle.sc_daemon_job.proofs.notes.split_line.Given as goal

-- no line feed was met
abbrev pub invariant-loop-place : goal.invariant-loop-place
invariant-loop-place l = (j : ℕ) → j < l.place → get_or l.text j 0 ≢ 10
