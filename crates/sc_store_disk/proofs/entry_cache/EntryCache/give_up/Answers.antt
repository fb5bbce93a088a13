use Rattle.std.proofs.Common.{sym}
use Rattle.sc_store_disk.specs.Entries.{ClosesEntry}
use Rattle.sc_store_disk.specs.Moving.{Stays}
use Rattle.sc_model.specs.Asking.{same_maps}
use Rattle.sc_store_disk.proofs.Lending.{lent, lent-limit, of_some}
use Rattle.sc_store_disk.proofs.entry_cache.EntryCache.give_up.Goals as goal

pub invariant_of-self : goal.invariant_of-self
invariant_of-self g c = let h = of_some c.get.result _ c.in-Some.is (c.get.follows.holds c.give_up.new.cache) in let was = c.in-Some.cache.now in let w = c.give_up.new.cache in
    record {
      limit = lent-limit c.args.self.now.mode c.args.self.now.pair.max_size (c.get.follows.lender c.give_up.new.cache).max_size c.args.self.now.pair.opened (c.get.follows.lender c.give_up.new.cache).opened c.args.self.now.pair.disks
          (c.get.follows.lender c.give_up.new.cache).disks was w (sym c.in-Some.ensures.value) h.0 h.1 c.give_up.ensures.capacity c.args.self.now.limit;
    }

pub returns-clause-stays : goal.returns-clause-stays
returns-clause-stays g c = let h = of_some c.get.result _ c.in-Some.is (c.get.follows.holds c.give_up.new.cache) in let was = c.in-Some.cache.now in let w = c.give_up.new.cache in
    lent c.args.self.now.mode c.args.self.now.pair.max_size (c.get.follows.lender c.give_up.new.cache).max_size c.args.self.now.pair.opened (c.get.follows.lender c.give_up.new.cache).opened c.args.self.now.pair.disks
    (c.get.follows.lender c.give_up.new.cache).disks was w (sym c.in-Some.ensures.value) h.0 h.1 Stays (c.give_up.ensures.stays c.args.self.now.mode c.args.self.now.pair.max_size)

pub returns-clause-closed : goal.returns-clause-closed
returns-clause-closed g c = let h = of_some c.get.result _ c.in-Some.is (c.get.follows.holds c.give_up.new.cache) in let was = c.in-Some.cache.now in let w = c.give_up.new.cache in
    lent c.args.self.now.mode c.args.self.now.pair.max_size (c.get.follows.lender c.give_up.new.cache).max_size c.args.self.now.pair.opened (c.get.follows.lender c.give_up.new.cache).opened c.args.self.now.pair.disks
    (c.get.follows.lender c.give_up.new.cache).disks was w (sym c.in-Some.ensures.value) h.0 h.1 (ClosesEntry c.args.entry.number) (c.give_up.ensures.closed c.args.self.now.mode c.args.self.now.pair.max_size)

pub returns-clause-kept : goal.returns-clause-kept
returns-clause-kept g c = let h = of_some c.get.result _ c.in-Some.is (c.get.follows.holds c.give_up.new.cache) in let was = c.in-Some.cache.now in let w = c.give_up.new.cache in
    lent c.args.self.now.mode c.args.self.now.pair.max_size (c.get.follows.lender c.give_up.new.cache).max_size c.args.self.now.pair.opened (c.get.follows.lender c.give_up.new.cache).opened c.args.self.now.pair.disks
    (c.get.follows.lender c.give_up.new.cache).disks was w (sym c.in-Some.ensures.value) h.0 h.1 (λ a b. same_maps a.level b.level) (c.give_up.ensures.kept c.args.self.now.mode c.args.self.now.pair.max_size)
