use Rattle.std.proofs.Common.{ℕ, true, is_some, ◌≡◌, IfOk, OnErr, sym, subst}
use Rattle.sc_disk.specs.Store.{reserved}
use Rattle.sc_model.specs.Writing.{Reserves}
use Rattle.sc_disk_pair.specs.Parts.{in_part}
use Rattle.sc_disk_pair.specs.declared.part.Part.TheVariants.{Main}
use Rattle.sc_store_disk.specs.DiskStores.{level_of, opened_store}
use Rattle.sc_store_disk.specs.Moving.{EvictsFiles, OpensBy, ReserveCause, SameEntries, Stays, room_causes, written_of}
use Rattle.sc_store_disk.proofs.Askings.{if_ok}
use Rattle.sc_store_disk.proofs.Lending.{lent, lent-limit, lent-opened, limit-of, of_some, on_err}
use Rattle.sc_store_disk.proofs.entry_cache.EntryCache.prepare.Goals as goal

pub invariant_of-self : goal.invariant_of-self
invariant_of-self g c = let h = of_some c.get.result _ c.in-Some.is (c.get.follows.holds c.prepare.new.cache) in
    record {
      limit = lent-limit c.args.self.now.mode c.args.self.now.pair.max_size (c.get.follows.lender c.prepare.new.cache).max_size c.args.self.now.pair.opened (c.get.follows.lender c.prepare.new.cache).opened c.args.self.now.pair.disks
          (c.get.follows.lender c.prepare.new.cache).disks c.in-Some.cache.now c.prepare.new.cache (sym c.in-Some.ensures.value) h.0 h.1 c.prepare.ensures.capacity c.args.self.now.limit;
    }

pub returns-clause-stays : goal.returns-clause-stays
returns-clause-stays g c = let h = of_some c.get.result _ c.in-Some.is (c.get.follows.holds c.prepare.new.cache) in
    lent c.args.self.now.mode c.args.self.now.pair.max_size (c.get.follows.lender c.prepare.new.cache).max_size c.args.self.now.pair.opened (c.get.follows.lender c.prepare.new.cache).opened c.args.self.now.pair.disks
    (c.get.follows.lender c.prepare.new.cache).disks c.in-Some.cache.now c.prepare.new.cache (sym c.in-Some.ensures.value) h.0 h.1 Stays (c.prepare.ensures.stays c.args.self.now.mode c.args.self.now.pair.max_size)

pub returns-clause-moved : goal.returns-clause-moved
returns-clause-moved g c = let h = of_some c.get.result _ c.in-Some.is (c.get.follows.holds c.prepare.new.cache) in let was = c.in-Some.cache.now in let w = c.prepare.new.cache in
    lent c.args.self.now.mode c.args.self.now.pair.max_size (c.get.follows.lender c.prepare.new.cache).max_size c.args.self.now.pair.opened (c.get.follows.lender c.prepare.new.cache).opened c.args.self.now.pair.disks
    (c.get.follows.lender c.prepare.new.cache).disks was w (sym c.in-Some.ensures.value) h.0 h.1
    (λ a b. IfOk c.prepare.result (λ how. a.told ≡ true → Reserves a.facts.capacity (room_causes a.facts.capacity a.reserved c.args.size) a.reserved c.args.size (written_of how) a.level b.level))
    (subst (λ (n : ℕ). IfOk c.prepare.result (λ how. is_some was.store.disk.told ≡ true → Reserves n (room_causes n (reserved was.store) c.args.size) (reserved was.store) c.args.size (written_of how) (level_of true was.store.index was.store.disk) (level_of true w.store.index w.store.disk)))
    (limit-of c.args.self.now.mode c.args.self.now.pair.max_size (c.get.follows.lender c.prepare.new.cache).max_size c.args.self.now.pair.opened (c.get.follows.lender c.prepare.new.cache).opened c.args.self.now.pair.disks
    (c.get.follows.lender c.prepare.new.cache).disks was w (sym c.in-Some.ensures.value) h.0 h.1 c.args.self.now.limit) c.prepare.ensures.moved)

pub returns-clause-entry : goal.returns-clause-entry
returns-clause-entry g c = let h = of_some c.get.result _ c.in-Some.is (c.get.follows.holds c.prepare.new.cache) in
    lent c.args.self.now.mode c.args.self.now.pair.max_size (c.get.follows.lender c.prepare.new.cache).max_size c.args.self.now.pair.opened (c.get.follows.lender c.prepare.new.cache).opened c.args.self.now.pair.disks
    (c.get.follows.lender c.prepare.new.cache).disks c.in-Some.cache.now c.prepare.new.cache (sym c.in-Some.ensures.value) h.0 h.1
    (λ a b. IfOk c.prepare.result (λ how. OpensBy (in_part Main c.args.path.now) c.args.size how a b)) (if_ok c.prepare.result c.prepare.ensures.entry (λ how k. k c.args.self.now.mode c.args.self.now.pair.max_size))

pub returns-clause-kept : goal.returns-clause-kept
returns-clause-kept g c = let h = of_some c.get.result _ c.in-Some.is (c.get.follows.holds c.prepare.new.cache) in
    lent c.args.self.now.mode c.args.self.now.pair.max_size (c.get.follows.lender c.prepare.new.cache).max_size c.args.self.now.pair.opened (c.get.follows.lender c.prepare.new.cache).opened c.args.self.now.pair.disks
    (c.get.follows.lender c.prepare.new.cache).disks c.in-Some.cache.now c.prepare.new.cache (sym c.in-Some.ensures.value) h.0 h.1
    (λ a b. OnErr c.prepare.result (SameEntries a b)) (on_err c.prepare.result c.prepare.ensures.kept (λ k. k c.args.self.now.mode c.args.self.now.pair.max_size))

pub returns-clause-cause : goal.returns-clause-cause
returns-clause-cause g c = let h = of_some c.get.result _ c.in-Some.is (c.get.follows.holds c.prepare.new.cache) in let was = c.in-Some.cache.now in let w = c.prepare.new.cache in
    lent c.args.self.now.mode c.args.self.now.pair.max_size (c.get.follows.lender c.prepare.new.cache).max_size c.args.self.now.pair.opened (c.get.follows.lender c.prepare.new.cache).opened c.args.self.now.pair.disks
    (c.get.follows.lender c.prepare.new.cache).disks was w (sym c.in-Some.ensures.value) h.0 h.1
    (λ a b. IfOk c.prepare.result (λ how. ReserveCause (room_causes a.facts.capacity a.reserved c.args.size) how a.level b.level))
    (subst (λ (n : ℕ). IfOk c.prepare.result (λ how. ReserveCause (room_causes n (reserved was.store) c.args.size) how (level_of true was.store.index was.store.disk) (level_of true w.store.index w.store.disk)))
    (limit-of c.args.self.now.mode c.args.self.now.pair.max_size (c.get.follows.lender c.prepare.new.cache).max_size c.args.self.now.pair.opened (c.get.follows.lender c.prepare.new.cache).opened c.args.self.now.pair.disks
    (c.get.follows.lender c.prepare.new.cache).disks was w (sym c.in-Some.ensures.value) h.0 h.1 c.args.self.now.limit) c.prepare.ensures.cause)

pub returns-clause-opened : goal.returns-clause-opened
returns-clause-opened g c = let h = of_some c.get.result _ c.in-Some.is (c.get.follows.holds c.prepare.new.cache) in
    lent-opened c.args.self.now.mode c.args.self.now.pair.max_size (c.get.follows.lender c.prepare.new.cache).max_size (c.get.follows.lender c.prepare.new.cache).opened (c.get.follows.lender c.prepare.new.cache).disks c.prepare.new.cache h.0

pub returns-clause-evicts : goal.returns-clause-evicts
returns-clause-evicts g c = let h = of_some c.get.result _ c.in-Some.is (c.get.follows.holds c.prepare.new.cache) in let was = c.in-Some.cache.now in let w = c.prepare.new.cache in
    lent c.args.self.now.mode c.args.self.now.pair.max_size (c.get.follows.lender c.prepare.new.cache).max_size c.args.self.now.pair.opened (c.get.follows.lender c.prepare.new.cache).opened c.args.self.now.pair.disks
    (c.get.follows.lender c.prepare.new.cache).disks was w (sym c.in-Some.ensures.value) h.0 h.1
    (λ a b. OnErr c.prepare.result (EvictsFiles c.args.size a b)) (on_err c.prepare.result c.prepare.ensures.evicts (λ k.
    subst (λ (n : ℕ). EvictsFiles c.args.size (opened_store c.args.self.now.mode n was.store) (opened_store c.args.self.now.mode n w.store))
    (limit-of c.args.self.now.mode c.args.self.now.pair.max_size (c.get.follows.lender c.prepare.new.cache).max_size c.args.self.now.pair.opened (c.get.follows.lender c.prepare.new.cache).opened c.args.self.now.pair.disks
    (c.get.follows.lender c.prepare.new.cache).disks was w (sym c.in-Some.ensures.value) h.0 h.1 c.args.self.now.limit) (k c.args.self.now.mode)))
