use Rattle.std.proofs.Common.{None, sym, subst}
use Rattle.sc_model.specs.declared.event.Answer.TheVariants.{Size as SizeIs}
use Rattle.sc_model.specs.declared.event.Mode.{Mode}
use Rattle.sc_store_disk.specs.DiskStores.{bare_disk, held_disk}
use Rattle.sc_store_disk.specs.Moving.{AsksDisk}
use Rattle.sc_store_disk.proofs.Askings.{asked-size, disk-kind, steady-self}
use Rattle.sc_store_disk.proofs.entry_cache.EntryCache.ask.Goals as goal

pub returns-in-Size-clause-steady : goal.returns-in-Size-clause-steady
returns-in-Size-clause-steady g c = steady-self (held_disk c.args.self.now)

pub returns-in-Size-clause-asked : goal.returns-in-Size-clause-asked
returns-in-Size-clause-asked g c = subst (λ (m : Mode). AsksDisk c.args.key.now m (SizeIs c.current_size.result None) (held_disk c.args.self.now) (held_disk c.args.self.now)) (sym c.in-Size.is)
    (asked-size c.args.self.now.marks c.args.key.now c.current_size.result (bare_disk c.args.self.now) (disk-kind c.args.self.now.mode c.args.self.now.pair.max_size c.args.self.now.pair.opened c.args.self.now.pair.disks) c.current_size.ensures.told)
