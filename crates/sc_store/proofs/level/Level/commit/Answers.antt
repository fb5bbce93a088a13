use Rattle.std.proofs.Common.{IfOk, subst, sym}
use Rattle.sc_store_disk.specs.Entries.{ClosesEntry, CommitsEntry, IsOpenAt}
use Rattle.sc_store.specs.Held.{disk_of}
use Rattle.sc_store.specs.Levels.{held_level}
use Rattle.sc_store.proofs.ReadOnly.{later_read}
use Rattle.sc_store.proofs.level.Level.commit.Goals as goal

pub returns-in-Disk-clause-closed : goal.returns-in-Disk-clause-closed
returns-in-Disk-clause-closed g c =
    subst (λ l. IsOpenAt c.args.entry (disk_of (held_level l)) → ClosesEntry c.args.entry.number (disk_of (held_level l)) (disk_of c.commit-how.new.self)) (sym c.in-Disk.is) c.commit-how.ensures.closed

pub returns-in-ReadOnly-clause-later : goal.returns-in-ReadOnly-clause-later
returns-in-ReadOnly-clause-later g c = later_read c.args.self.now c.in-ReadOnly.only c.in-ReadOnly.is

pub returns-in-Disk-clause-committed : goal.returns-in-Disk-clause-committed
returns-in-Disk-clause-committed g c =
    subst (λ l. IfOk c.commit-how.result (λ how. IsOpenAt c.args.entry (disk_of (held_level l)) × CommitsEntry c.args.entry.number how (disk_of (held_level l)) (disk_of c.commit-how.new.self))) (sym c.in-Disk.is) c.commit-how.ensures.committed
