use Rattle.std.proofs.Common.{subst, sym}
use Rattle.sc_model.specs.declared.level.Cause.{Cause}
use Rattle.sc_store_disk.specs.declared.reserving.Reservation.TheVariants.{Refused as NotReserved}
use Rattle.sc_store.specs.Asking.{ReservesDisk}
use Rattle.sc_store.specs.Held.{disk_of}
use Rattle.sc_store.specs.Levels.{held_level, held_read_only}
use Rattle.sc_store.proofs.ReadOnly.{later_read, reserves_read}
use Rattle.sc_store.proofs.level.Level.reserve.Goals as goal

pub returns-in-ReadOnly-clause-later : goal.returns-in-ReadOnly-clause-later
returns-in-ReadOnly-clause-later g c = later_read c.args.self.now c.in-ReadOnly.only c.in-ReadOnly.is

pub returns-in-ReadOnly-clause-moved : goal.returns-in-ReadOnly-clause-moved
returns-in-ReadOnly-clause-moved g c =
    subst (λ (x : Cause). ReservesDisk c.args.policy.now c.args.key.now c.args.size (NotReserved x) (disk_of (held_level c.args.self.now)) (disk_of (held_read_only c.in-ReadOnly.only))) (sym c.only_read.ensures)
    (reserves_read c.args.policy.now c.args.self.now c.in-ReadOnly.only c.in-ReadOnly.is c.args.key.now c.args.size c.keeps-in-ReadOnly.ensures.marks)
