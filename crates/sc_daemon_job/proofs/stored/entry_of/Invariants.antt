use Rattle.std.proofs.Common.{◌≡◌, take, drop}
use Rattle.sc_model.specs.Collected.{CanPut}
use Rattle.sc_daemon_job.proofs.stored.entry_of.Given as goal

-- the first objects are written, and the others can be
abbrev pub invariant-loop-object : goal.invariant-loop-object
invariant-loop-object l = record {
  written : l.write ≡ take l.object-index l.objects;
  can : CanPut l.write (drop l.object-index l.objects);
}
