use Rattle.std.proofs.Common.{IfOk, sym}
use Rattle.sc_store_disk.specs.Moving.{HasFile}
use Rattle.sc_store_disk.proofs.Lending.{lent, lent-limit, lent-opened, lent-steady, of_some}
use Rattle.sc_store_disk.proofs.entry_cache.EntryCache.touch.Goals as goal

pub returns-clause-opened : goal.returns-clause-opened
returns-clause-opened g c = let h = of_some c.get.result _ c.in-Some.is (c.get.follows.holds c.touch.new.cache) in
    lent-opened c.args.self.now.mode c.args.self.now.pair.max_size (c.get.follows.lender c.touch.new.cache).max_size (c.get.follows.lender c.touch.new.cache).opened (c.get.follows.lender c.touch.new.cache).disks c.touch.new.cache h.0

pub returns-clause-steady : goal.returns-clause-steady
returns-clause-steady g c = let h = of_some c.get.result _ c.in-Some.is (c.get.follows.holds c.touch.new.cache) in
    lent-steady c.args.self.now.mode c.args.self.now.pair.max_size (c.get.follows.lender c.touch.new.cache).max_size c.args.self.now.pair.opened (c.get.follows.lender c.touch.new.cache).opened c.args.self.now.pair.disks
    (c.get.follows.lender c.touch.new.cache).disks c.in-Some.cache.now c.touch.new.cache (sym c.in-Some.ensures.value) h.0 h.1 c.touch.ensures.steady

pub returns-clause-there : goal.returns-clause-there
returns-clause-there g c = let h = of_some c.get.result _ c.in-Some.is (c.get.follows.holds c.touch.new.cache) in
    lent c.args.self.now.mode c.args.self.now.pair.max_size (c.get.follows.lender c.touch.new.cache).max_size c.args.self.now.pair.opened (c.get.follows.lender c.touch.new.cache).opened c.args.self.now.pair.disks
    (c.get.follows.lender c.touch.new.cache).disks c.in-Some.cache.now c.touch.new.cache (sym c.in-Some.ensures.value) h.0 h.1 (λ s t. IfOk c.touch.result (λ there. HasFile c.args.path.now there s.told t.level)) c.touch.ensures.there

pub invariant_of-self : goal.invariant_of-self
invariant_of-self g c = let h = of_some c.get.result _ c.in-Some.is (c.get.follows.holds c.touch.new.cache) in
    record {
      limit = lent-limit c.args.self.now.mode c.args.self.now.pair.max_size (c.get.follows.lender c.touch.new.cache).max_size c.args.self.now.pair.opened (c.get.follows.lender c.touch.new.cache).opened c.args.self.now.pair.disks
          (c.get.follows.lender c.touch.new.cache).disks c.in-Some.cache.now c.touch.new.cache (sym c.in-Some.ensures.value) h.0 h.1 c.touch.ensures.capacity c.args.self.now.limit;
    }
