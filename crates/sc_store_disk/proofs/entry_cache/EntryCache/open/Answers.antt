use Rattle.std.proofs.Common.{refl, sym}
use Rattle.sc_store_disk.specs.DiskStores.{bare_disk}
use Rattle.sc_store_disk.proofs.Askings.{steady-self}
use Rattle.sc_store_disk.proofs.Lending.{open-limit}
use Rattle.sc_store_disk.proofs.Steadying.{opens-steady, refuses-steady}
use Rattle.sc_store_disk.proofs.entry_cache.EntryCache.open.Goals as goal

pub returns-in-Ok-clause-steady : goal.returns-in-Ok-clause-steady
returns-in-Ok-clause-steady g c = opens-steady c.args.self.now.mode c.args.self.now.pair.max_size c.get_or_init.new.self.max_size c.args.self.now.pair.opened c.get_or_init.new.self.opened c.args.self.now.pair.disks c.get_or_init.new.self.disks
    (sym c.if-is_opened.ensures.opened) (c.if-is_opened.ensures.disks refl) c.get_or_init.ensures.max_size c.in-Ok.ensures.opened c.in-Ok.ensures.ok

pub returns-in-Err-Io-clause-steady : goal.returns-in-Err-Io-clause-steady
returns-in-Err-Io-clause-steady g c = let e = c.in-Err-Io.ensures.err in let u = c.in-Err-Io.ensures.unopened in
    refuses-steady c.args.self.now.mode c.args.self.now.pair.max_size c.get_or_init.new.self.max_size c.args.self.now.pair.opened c.get_or_init.new.self.opened c.args.self.now.pair.disks c.get_or_init.new.self.disks
    e.0 e.1 u.0 u.1 e.2 e.3 c.get_or_init.ensures.max_size e.4

pub returns-in-Err : goal.returns-in-Err
returns-in-Err g c = let e = c.in-Err.ensures.err in let u = c.in-Err.ensures.unopened in
    record {
      steady = refuses-steady c.args.self.now.mode c.args.self.now.pair.max_size c.get_or_init.new.self.max_size c.args.self.now.pair.opened c.get_or_init.new.self.opened c.args.self.now.pair.disks c.get_or_init.new.self.disks
          e.0 e.1 u.0 u.1 e.2 e.3 c.get_or_init.ensures.max_size e.4;
      marks = refl;
      opened = tt;
      fault = tt;
    }

pub invariant_of-self : goal.invariant_of-self
invariant_of-self g c = record {
  limit = open-limit c.get_or_init.result c.args.self.now.pair.max_size c.get_or_init.new.self.max_size c.args.self.now.pair.opened c.get_or_init.new.self.opened c.args.self.now.pair.disks
      (sym c.if-is_opened.ensures.opened) (c.if-is_opened.ensures.disks refl) c.get_or_init.ensures.max_size c.get_or_init.ensures.ok c.get_or_init.ensures.unopened;
}

pub returns-then-is_opened-clause-steady : goal.returns-then-is_opened-clause-steady
returns-then-is_opened-clause-steady g c = steady-self (bare_disk c.args.self.now)
