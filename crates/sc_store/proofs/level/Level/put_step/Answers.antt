use Rattle.std.proofs.Common.{subst, sym}
use Rattle.sc_model.specs.declared.event.Written.TheVariants.{Refused as NotWritten}
use Rattle.sc_model.specs.declared.level.Cause.{Cause}
use Rattle.sc_store.specs.Asking.{PutsLevel}
use Rattle.sc_store.specs.Levels.{held_level, held_read_only}
use Rattle.sc_store.proofs.ReadOnly.{later_read, puts_read}
use Rattle.sc_store.proofs.level.Level.put_step.Goals as goal

pub returns-in-ReadOnly-clause-later : goal.returns-in-ReadOnly-clause-later
returns-in-ReadOnly-clause-later g c = later_read c.args.self.now c.in-ReadOnly.only c.in-ReadOnly.is

pub returns-in-ReadOnly-clause-wrote : goal.returns-in-ReadOnly-clause-wrote
returns-in-ReadOnly-clause-wrote g c =
    subst (λ (x : Cause). PutsLevel c.args.policy.now c.args.key.now c.args.bytes.now c.args.from_run (NotWritten x) (held_level c.args.self.now) (held_read_only c.in-ReadOnly.only)) (sym c.only_read.ensures)
    (puts_read c.args.policy.now c.args.key.now c.args.bytes.now c.args.from_run c.args.self.now c.in-ReadOnly.only c.in-ReadOnly.is c.requires c.keeps-in-ReadOnly.ensures.marks)
