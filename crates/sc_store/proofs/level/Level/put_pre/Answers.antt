use Rattle.std.proofs.Common.{subst, sym}
use Rattle.sc_model.specs.Levels.{Later}
use Rattle.sc_model.specs.declared.event.Written.TheVariants.{Done, Refused as NotWritten}
use Rattle.sc_model.specs.declared.level.Cause.{Cause}
use Rattle.sc_store.specs.Asking.{PutsPre}
use Rattle.sc_store.specs.Held.{disk_of}
use Rattle.sc_store.specs.Levels.{held_level, held_read_only}
use Rattle.sc_store.proofs.Devices.{later_same}
use Rattle.sc_store.proofs.ReadOnly.{later_read, puts_pre_read, puts_pre_remote}
use Rattle.sc_store.proofs.level.Level.put_pre.Goals as goal

pub returns-in-Remote-clause-later : goal.returns-in-Remote-clause-later
returns-in-Remote-clause-later g c = subst (λ l. Later (held_level l).level c.in-Remote.store.level) (sym c.in-Remote.is) (later_same c.in-Remote.store.level)

pub returns-in-Remote-clause-put : goal.returns-in-Remote-clause-put
returns-in-Remote-clause-put g c =
    subst (λ l. PutsPre c.args.policy.now c.args.key.now c.args.bytes.now Done (disk_of (held_level l)) (disk_of c.in-Remote.store)) (sym c.in-Remote.is)
    (puts_pre_remote c.args.policy.now c.in-Remote.store c.args.key.now c.args.bytes.now c.kind-remote.ensures.remote c.kind-remote.ensures.bare c.kind-remote.ensures.marks)

pub returns-in-ReadOnly-clause-later : goal.returns-in-ReadOnly-clause-later
returns-in-ReadOnly-clause-later g c = later_read c.args.self.now c.in-ReadOnly.only c.in-ReadOnly.is

pub returns-in-ReadOnly-clause-put : goal.returns-in-ReadOnly-clause-put
returns-in-ReadOnly-clause-put g c =
    subst (λ (x : Cause). PutsPre c.args.policy.now c.args.key.now c.args.bytes.now (NotWritten x) (disk_of (held_level c.args.self.now)) (disk_of (held_read_only c.in-ReadOnly.only))) (sym c.only_read.ensures)
    (puts_pre_read c.args.policy.now c.args.self.now c.in-ReadOnly.only c.in-ReadOnly.is c.args.key.now c.args.bytes.now c.keeps-in-ReadOnly.ensures.marks)
