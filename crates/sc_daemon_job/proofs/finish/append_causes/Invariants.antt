use Rattle.std.proofs.Common.{◌≡◌, ◌++◌, drop}
use Rattle.sc_model.specs.Finishing.{caused_by}
use Rattle.sc_daemon_job.proofs.finish.append_causes.Given as goal

-- what is written, and the lines that are left
abbrev pub invariant-loop-text : goal.invariant-loop-text
invariant-loop-text l = l.out ++ caused_by (drop l.text-index l.chain) ≡ l.fn.out ++ caused_by l.chain
