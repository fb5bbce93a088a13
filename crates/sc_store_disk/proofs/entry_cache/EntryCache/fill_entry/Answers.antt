use Rattle.std.proofs.Common.{refl, sym}
use Rattle.sc_model.specs.Asking.{same_maps}
use Rattle.sc_store_disk.specs.Entries.{ClosesEntry, FillsBy}
use Rattle.sc_store_disk.specs.Moving.{Stays}
use Rattle.sc_store_disk.proofs.Lending.{lent, lent-limit, of_some}
use Rattle.sc_store_disk.specs.DiskStores.{bare_disk}
use Rattle.sc_store_disk.proofs.Steadying.{stays-self}
use Rattle.sc_store_disk.proofs.entry_cache.EntryCache.fill_entry.Goals as goal

pub invariant_of-self : goal.invariant_of-self
invariant_of-self g c = let h = of_some c.get.result _ c.in-Some.is (c.get.follows.holds c.fill.new.cache) in
    record {
      limit = lent-limit c.args.self.now.mode c.args.self.now.pair.max_size (c.get.follows.lender c.fill.new.cache).max_size c.args.self.now.pair.opened (c.get.follows.lender c.fill.new.cache).opened c.args.self.now.pair.disks
          (c.get.follows.lender c.fill.new.cache).disks c.in-Some.cache.now c.fill.new.cache (sym c.in-Some.ensures.value) h.0 h.1 c.fill.ensures.capacity c.args.self.now.limit;
    }

pub returns-in-Ok-clause-stays : goal.returns-in-Ok-clause-stays
returns-in-Ok-clause-stays g c = let h = of_some c.get.result _ c.in-Some.is (c.get.follows.holds c.fill.new.cache) in
    lent c.args.self.now.mode c.args.self.now.pair.max_size (c.get.follows.lender c.fill.new.cache).max_size c.args.self.now.pair.opened (c.get.follows.lender c.fill.new.cache).opened c.args.self.now.pair.disks
    (c.get.follows.lender c.fill.new.cache).disks c.in-Some.cache.now c.fill.new.cache (sym c.in-Some.ensures.value) h.0 h.1 Stays
    (c.fill.ensures.stays c.args.self.now.mode c.args.self.now.pair.max_size)

pub returns-in-Err-clause-stays : goal.returns-in-Err-clause-stays
returns-in-Err-clause-stays g c = let h = of_some c.get.result _ c.in-Some.is (c.get.follows.holds c.fill.new.cache) in
    lent c.args.self.now.mode c.args.self.now.pair.max_size (c.get.follows.lender c.fill.new.cache).max_size c.args.self.now.pair.opened (c.get.follows.lender c.fill.new.cache).opened c.args.self.now.pair.disks
    (c.get.follows.lender c.fill.new.cache).disks c.in-Some.cache.now c.fill.new.cache (sym c.in-Some.ensures.value) h.0 h.1 Stays
    (c.fill.ensures.stays c.args.self.now.mode c.args.self.now.pair.max_size)

pub returns-in-Ok-clause-filled : goal.returns-in-Ok-clause-filled
returns-in-Ok-clause-filled g c = let h = of_some c.get.result _ c.in-Some.is (c.get.follows.holds c.fill.new.cache) in (
  c.if-not-has_open.ensures.opened refl,
  lent c.args.self.now.mode c.args.self.now.pair.max_size (c.get.follows.lender c.fill.new.cache).max_size c.args.self.now.pair.opened (c.get.follows.lender c.fill.new.cache).opened c.args.self.now.pair.disks
      (c.get.follows.lender c.fill.new.cache).disks c.in-Some.cache.now c.fill.new.cache (sym c.in-Some.ensures.value) h.0 h.1 (FillsBy c.args.entry c.args.bytes.now (λ fills. fills) c.in-Ok.how) (c.in-Ok.ensures.filled c.args.self.now.mode c.args.self.now.pair.max_size),
)

pub returns-in-Err-clause-closed : goal.returns-in-Err-clause-closed
returns-in-Err-clause-closed g c = λ opened. let h = of_some c.get.result _ c.in-Some.is (c.get.follows.holds c.fill.new.cache) in
    lent c.args.self.now.mode c.args.self.now.pair.max_size (c.get.follows.lender c.fill.new.cache).max_size c.args.self.now.pair.opened (c.get.follows.lender c.fill.new.cache).opened c.args.self.now.pair.disks
    (c.get.follows.lender c.fill.new.cache).disks c.in-Some.cache.now c.fill.new.cache (sym c.in-Some.ensures.value) h.0 h.1 (ClosesEntry c.args.entry.number) (c.in-Err.ensures.closed c.args.self.now.mode c.args.self.now.pair.max_size)

pub returns-in-Err-clause-kept : goal.returns-in-Err-clause-kept
returns-in-Err-clause-kept g c = let h = of_some c.get.result _ c.in-Some.is (c.get.follows.holds c.fill.new.cache) in
    lent c.args.self.now.mode c.args.self.now.pair.max_size (c.get.follows.lender c.fill.new.cache).max_size c.args.self.now.pair.opened (c.get.follows.lender c.fill.new.cache).opened c.args.self.now.pair.disks
    (c.get.follows.lender c.fill.new.cache).disks c.in-Some.cache.now c.fill.new.cache (sym c.in-Some.ensures.value) h.0 h.1 (λ a b. same_maps a.level b.level) (c.in-Err.ensures.kept c.args.self.now.mode c.args.self.now.pair.max_size)

pub returns-then-not-has_open-clause-stays : goal.returns-then-not-has_open-clause-stays
returns-then-not-has_open-clause-stays g c = stays-self (bare_disk c.args.self.now)
