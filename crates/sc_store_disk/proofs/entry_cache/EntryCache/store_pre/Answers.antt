use Rattle.std.proofs.Common.{ℕ, None, IfOk, OnErr, length, subst, sym}
use Rattle.sc_store_disk.specs.DiskStores.{opened_store}
use Rattle.sc_store_disk.specs.Moving.{EvictsFiles, SameEntries, Stays}
use Rattle.sc_store_disk.specs.Preprocessor.{PreCause, StoresPre}
use Rattle.sc_store_disk.proofs.Askings.{if_ok}
use Rattle.sc_store_disk.proofs.Lending.{lent, lent-limit, limit-of, of_some, on_err}
use Rattle.sc_store_disk.proofs.entry_cache.EntryCache.store_pre.Goals as goal

pub invariant_of-self : goal.invariant_of-self
invariant_of-self g c = let h = of_some c.get.result _ c.in-Some.is (c.get.follows.holds c.store.new.cache) in let was = c.in-Some.cache.now in let w = c.store.new.cache in
    record {
      limit = lent-limit c.args.self.now.mode c.args.self.now.pair.max_size (c.get.follows.lender c.store.new.cache).max_size c.args.self.now.pair.opened (c.get.follows.lender c.store.new.cache).opened c.args.self.now.pair.disks
          (c.get.follows.lender c.store.new.cache).disks was w (sym c.in-Some.ensures.value) h.0 h.1 c.store.ensures.capacity c.args.self.now.limit;
    }

pub returns-clause-stays : goal.returns-clause-stays
returns-clause-stays g c = let h = of_some c.get.result _ c.in-Some.is (c.get.follows.holds c.store.new.cache) in let was = c.in-Some.cache.now in let w = c.store.new.cache in
    lent c.args.self.now.mode c.args.self.now.pair.max_size (c.get.follows.lender c.store.new.cache).max_size c.args.self.now.pair.opened (c.get.follows.lender c.store.new.cache).opened c.args.self.now.pair.disks
    (c.get.follows.lender c.store.new.cache).disks was w (sym c.in-Some.ensures.value) h.0 h.1 Stays (c.store.ensures.stays c.args.self.now.mode c.args.self.now.pair.max_size)

pub returns-clause-entries : goal.returns-clause-entries
returns-clause-entries g c = let h = of_some c.get.result _ c.in-Some.is (c.get.follows.holds c.store.new.cache) in let was = c.in-Some.cache.now in let w = c.store.new.cache in
    lent c.args.self.now.mode c.args.self.now.pair.max_size (c.get.follows.lender c.store.new.cache).max_size c.args.self.now.pair.opened (c.get.follows.lender c.store.new.cache).opened c.args.self.now.pair.disks
    (c.get.follows.lender c.store.new.cache).disks was w (sym c.in-Some.ensures.value) h.0 h.1 SameEntries (c.store.ensures.entries c.args.self.now.mode c.args.self.now.pair.max_size)

pub returns-clause-stored : goal.returns-clause-stored
returns-clause-stored g c = let h = of_some c.get.result _ c.in-Some.is (c.get.follows.holds c.store.new.cache) in let was = c.in-Some.cache.now in let w = c.store.new.cache in
    lent c.args.self.now.mode c.args.self.now.pair.max_size (c.get.follows.lender c.store.new.cache).max_size c.args.self.now.pair.opened (c.get.follows.lender c.store.new.cache).opened c.args.self.now.pair.disks
    (c.get.follows.lender c.store.new.cache).disks was w (sym c.in-Some.ensures.value) h.0 h.1 (λ a b. IfOk c.store.result (λ how. StoresPre c.args.path.now c.args.bytes.now how a b))
    (if_ok c.store.result c.store.ensures.stored (λ how k. subst (λ (n : ℕ). StoresPre c.args.path.now c.args.bytes.now how (opened_store c.args.self.now.mode n was.store) (opened_store c.args.self.now.mode n w.store)) (limit-of c.args.self.now.mode c.args.self.now.pair.max_size (c.get.follows.lender c.store.new.cache).max_size c.args.self.now.pair.opened (c.get.follows.lender c.store.new.cache).opened c.args.self.now.pair.disks
    (c.get.follows.lender c.store.new.cache).disks was w (sym c.in-Some.ensures.value) h.0 h.1 c.args.self.now.limit) (k c.args.self.now.mode)))

pub returns-clause-cause : goal.returns-clause-cause
returns-clause-cause g c = let h = of_some c.get.result _ c.in-Some.is (c.get.follows.holds c.store.new.cache) in let was = c.in-Some.cache.now in let w = c.store.new.cache in
    lent c.args.self.now.mode c.args.self.now.pair.max_size (c.get.follows.lender c.store.new.cache).max_size c.args.self.now.pair.opened (c.get.follows.lender c.store.new.cache).opened c.args.self.now.pair.disks
    (c.get.follows.lender c.store.new.cache).disks was w (sym c.in-Some.ensures.value) h.0 h.1 (λ a b. IfOk c.store.result (λ how. PreCause None c.args.bytes.now how a b))
    (if_ok c.store.result c.store.ensures.cause (λ how k. subst (λ (n : ℕ). PreCause None c.args.bytes.now how (opened_store c.args.self.now.mode n was.store) (opened_store c.args.self.now.mode n w.store)) (limit-of c.args.self.now.mode c.args.self.now.pair.max_size (c.get.follows.lender c.store.new.cache).max_size c.args.self.now.pair.opened (c.get.follows.lender c.store.new.cache).opened c.args.self.now.pair.disks
    (c.get.follows.lender c.store.new.cache).disks was w (sym c.in-Some.ensures.value) h.0 h.1 c.args.self.now.limit) (k c.args.self.now.mode)))

pub returns-clause-evicts : goal.returns-clause-evicts
returns-clause-evicts g c = let h = of_some c.get.result _ c.in-Some.is (c.get.follows.holds c.store.new.cache) in let was = c.in-Some.cache.now in let w = c.store.new.cache in
    lent c.args.self.now.mode c.args.self.now.pair.max_size (c.get.follows.lender c.store.new.cache).max_size c.args.self.now.pair.opened (c.get.follows.lender c.store.new.cache).opened c.args.self.now.pair.disks
    (c.get.follows.lender c.store.new.cache).disks was w (sym c.in-Some.ensures.value) h.0 h.1 (λ a b. OnErr c.store.result (EvictsFiles (length c.args.bytes.now) a b))
    (on_err c.store.result c.store.ensures.evicts (λ k. subst (λ (n : ℕ). EvictsFiles (length c.args.bytes.now) (opened_store c.args.self.now.mode n was.store) (opened_store c.args.self.now.mode n w.store)) (limit-of c.args.self.now.mode c.args.self.now.pair.max_size (c.get.follows.lender c.store.new.cache).max_size c.args.self.now.pair.opened (c.get.follows.lender c.store.new.cache).opened c.args.self.now.pair.disks
    (c.get.follows.lender c.store.new.cache).disks was w (sym c.in-Some.ensures.value) h.0 h.1 c.args.self.now.limit) (k c.args.self.now.mode)))
