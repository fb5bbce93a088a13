use Rattle.std.proofs.Common.{sym}
use Rattle.sc_store_disk.proofs.Lending.{lent-answer, lent-limit, lent-opened, lent-steady, of_some}
use Rattle.sc_store_disk.proofs.entry_cache.EntryCache.look.Goals as goal

pub returns-clause-opened : goal.returns-clause-opened
returns-clause-opened g c = let h = of_some c.get.result _ c.in-Some.is (c.get.follows.holds c.read.new.cache) in
    lent-opened c.args.self.now.mode c.args.self.now.pair.max_size (c.get.follows.lender c.read.new.cache).max_size (c.get.follows.lender c.read.new.cache).opened (c.get.follows.lender c.read.new.cache).disks c.read.new.cache h.0

pub returns-clause-steady : goal.returns-clause-steady
returns-clause-steady g c = let h = of_some c.get.result _ c.in-Some.is (c.get.follows.holds c.read.new.cache) in
    lent-steady c.args.self.now.mode c.args.self.now.pair.max_size (c.get.follows.lender c.read.new.cache).max_size c.args.self.now.pair.opened (c.get.follows.lender c.read.new.cache).opened c.args.self.now.pair.disks
    (c.get.follows.lender c.read.new.cache).disks c.in-Some.cache.now c.read.new.cache (sym c.in-Some.ensures.value) h.0 h.1 c.read.ensures.steady

pub returns-clause-answer : goal.returns-clause-answer
returns-clause-answer g c = let h = of_some c.get.result _ c.in-Some.is (c.get.follows.holds c.read.new.cache) in
    lent-answer c.args.self.now.mode c.args.self.now.pair.max_size (c.get.follows.lender c.read.new.cache).max_size c.args.self.now.pair.opened (c.get.follows.lender c.read.new.cache).opened c.args.self.now.pair.disks
    (c.get.follows.lender c.read.new.cache).disks c.in-Some.cache.now c.read.new.cache (sym c.in-Some.ensures.value) h.0 c.args.part c.args.path.now c.read.result c.read.ensures.answer

pub invariant_of-self : goal.invariant_of-self
invariant_of-self g c = let h = of_some c.get.result _ c.in-Some.is (c.get.follows.holds c.read.new.cache) in
    record {
      limit = lent-limit c.args.self.now.mode c.args.self.now.pair.max_size (c.get.follows.lender c.read.new.cache).max_size c.args.self.now.pair.opened (c.get.follows.lender c.read.new.cache).opened c.args.self.now.pair.disks
          (c.get.follows.lender c.read.new.cache).disks c.in-Some.cache.now c.read.new.cache (sym c.in-Some.ensures.value) h.0 h.1 c.read.ensures.capacity c.args.self.now.limit;
    }
