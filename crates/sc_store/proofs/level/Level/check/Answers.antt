use Rattle.std.proofs.Common.{subst, sym}
use Rattle.sc_model.specs.Levels.{Later}
use Rattle.sc_store.specs.Levels.{held_level}
use Rattle.sc_store.proofs.Devices.{later_same}
use Rattle.sc_store.proofs.ReadOnly.{later_read}
use Rattle.sc_store.proofs.level.Level.check.Goals as goal

pub returns-in-Disk-clause-later : goal.returns-in-Disk-clause-later
returns-in-Disk-clause-later g c = subst (λ l. Later (held_level l).level c.in-Disk.store.level) (sym c.in-Disk.is) (later_same c.in-Disk.store.level)

pub returns-in-ReadOnly-clause-later : goal.returns-in-ReadOnly-clause-later
returns-in-ReadOnly-clause-later g c = later_read c.args.self.now c.in-ReadOnly.only c.in-ReadOnly.is
