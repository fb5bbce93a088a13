use Rattle.std.proofs.Common.{ℕ, refl, subst, sym}
use Rattle.sc_store_disk.specs.DiskStores.{opened_store}
use Rattle.sc_store_disk.specs.Entries.{ClosesEntry, CommitCause, CommitsEntry, CommitsNothing}
use Rattle.sc_store_disk.specs.Moving.{Stays}
use Rattle.sc_store_disk.proofs.Lending.{lent, lent-limit, limit-of, of_some}
use Rattle.sc_store_disk.specs.DiskStores.{bare_disk}
use Rattle.sc_store_disk.proofs.Steadying.{stays-self}
use Rattle.sc_store_disk.proofs.entry_cache.EntryCache.commit_entry.Goals as goal

pub invariant_of-self : goal.invariant_of-self
invariant_of-self g c = let h = of_some c.get.result _ c.in-Some.is (c.get.follows.holds c.commit.new.cache) in
    record {
      limit = lent-limit c.args.self.now.mode c.args.self.now.pair.max_size (c.get.follows.lender c.commit.new.cache).max_size c.args.self.now.pair.opened (c.get.follows.lender c.commit.new.cache).opened c.args.self.now.pair.disks
          (c.get.follows.lender c.commit.new.cache).disks c.in-Some.cache.now c.commit.new.cache (sym c.in-Some.ensures.value) h.0 h.1 c.commit.ensures.capacity c.args.self.now.limit;
    }

pub returns-in-Ok-clause-stays : goal.returns-in-Ok-clause-stays
returns-in-Ok-clause-stays g c = let h = of_some c.get.result _ c.in-Some.is (c.get.follows.holds c.commit.new.cache) in
    lent c.args.self.now.mode c.args.self.now.pair.max_size (c.get.follows.lender c.commit.new.cache).max_size c.args.self.now.pair.opened (c.get.follows.lender c.commit.new.cache).opened c.args.self.now.pair.disks
    (c.get.follows.lender c.commit.new.cache).disks c.in-Some.cache.now c.commit.new.cache (sym c.in-Some.ensures.value) h.0 h.1 Stays
    (c.commit.ensures.stays c.args.self.now.mode c.args.self.now.pair.max_size)

pub returns-in-Err-clause-stays : goal.returns-in-Err-clause-stays
returns-in-Err-clause-stays g c = let h = of_some c.get.result _ c.in-Some.is (c.get.follows.holds c.commit.new.cache) in
    lent c.args.self.now.mode c.args.self.now.pair.max_size (c.get.follows.lender c.commit.new.cache).max_size c.args.self.now.pair.opened (c.get.follows.lender c.commit.new.cache).opened c.args.self.now.pair.disks
    (c.get.follows.lender c.commit.new.cache).disks c.in-Some.cache.now c.commit.new.cache (sym c.in-Some.ensures.value) h.0 h.1 Stays
    (c.commit.ensures.stays c.args.self.now.mode c.args.self.now.pair.max_size)

pub returns-in-Ok-clause-closed : goal.returns-in-Ok-clause-closed
returns-in-Ok-clause-closed g c = λ opened. let h = of_some c.get.result _ c.in-Some.is (c.get.follows.holds c.commit.new.cache) in
    lent c.args.self.now.mode c.args.self.now.pair.max_size (c.get.follows.lender c.commit.new.cache).max_size c.args.self.now.pair.opened (c.get.follows.lender c.commit.new.cache).opened c.args.self.now.pair.disks
    (c.get.follows.lender c.commit.new.cache).disks c.in-Some.cache.now c.commit.new.cache (sym c.in-Some.ensures.value) h.0 h.1 (ClosesEntry c.args.entry.number) (c.in-Ok.ensures.closed c.args.self.now.mode c.args.self.now.pair.max_size)

pub returns-in-Ok-clause-committed : goal.returns-in-Ok-clause-committed
returns-in-Ok-clause-committed g c = let h = of_some c.get.result _ c.in-Some.is (c.get.follows.holds c.commit.new.cache) in (
  c.if-not-has_open.ensures.opened refl,
  lent c.args.self.now.mode c.args.self.now.pair.max_size (c.get.follows.lender c.commit.new.cache).max_size c.args.self.now.pair.opened (c.get.follows.lender c.commit.new.cache).opened c.args.self.now.pair.disks
      (c.get.follows.lender c.commit.new.cache).disks c.in-Some.cache.now c.commit.new.cache (sym c.in-Some.ensures.value) h.0 h.1 (CommitsEntry c.args.entry.number c.in-Ok.how) (c.in-Ok.ensures.committed c.args.self.now.mode c.args.self.now.pair.max_size),
)

pub returns-in-Ok-clause-cause : goal.returns-in-Ok-clause-cause
returns-in-Ok-clause-cause g c = let h = of_some c.get.result _ c.in-Some.is (c.get.follows.holds c.commit.new.cache) in let was = c.in-Some.cache.now in let w = c.commit.new.cache in
    lent c.args.self.now.mode c.args.self.now.pair.max_size (c.get.follows.lender c.commit.new.cache).max_size c.args.self.now.pair.opened (c.get.follows.lender c.commit.new.cache).opened c.args.self.now.pair.disks
    (c.get.follows.lender c.commit.new.cache).disks c.in-Some.cache.now c.commit.new.cache (sym c.in-Some.ensures.value) h.0 h.1 (CommitCause c.args.entry.number c.in-Ok.how)
    (subst (λ (n : ℕ). CommitCause c.args.entry.number c.in-Ok.how (opened_store c.args.self.now.mode n was.store) (opened_store c.args.self.now.mode n w.store))
    (limit-of c.args.self.now.mode c.args.self.now.pair.max_size (c.get.follows.lender c.commit.new.cache).max_size c.args.self.now.pair.opened (c.get.follows.lender c.commit.new.cache).opened c.args.self.now.pair.disks
    (c.get.follows.lender c.commit.new.cache).disks c.in-Some.cache.now c.commit.new.cache (sym c.in-Some.ensures.value) h.0 h.1 c.args.self.now.limit) (c.in-Ok.ensures.cause c.args.self.now.mode))

pub returns-in-Err-clause-closed : goal.returns-in-Err-clause-closed
returns-in-Err-clause-closed g c = λ opened. let h = of_some c.get.result _ c.in-Some.is (c.get.follows.holds c.commit.new.cache) in
    lent c.args.self.now.mode c.args.self.now.pair.max_size (c.get.follows.lender c.commit.new.cache).max_size c.args.self.now.pair.opened (c.get.follows.lender c.commit.new.cache).opened c.args.self.now.pair.disks
    (c.get.follows.lender c.commit.new.cache).disks c.in-Some.cache.now c.commit.new.cache (sym c.in-Some.ensures.value) h.0 h.1 (ClosesEntry c.args.entry.number) (c.in-Err.ensures.closed c.args.self.now.mode c.args.self.now.pair.max_size)

pub returns-in-Err-clause-kept : goal.returns-in-Err-clause-kept
returns-in-Err-clause-kept g c = let h = of_some c.get.result _ c.in-Some.is (c.get.follows.holds c.commit.new.cache) in
    lent c.args.self.now.mode c.args.self.now.pair.max_size (c.get.follows.lender c.commit.new.cache).max_size c.args.self.now.pair.opened (c.get.follows.lender c.commit.new.cache).opened c.args.self.now.pair.disks
    (c.get.follows.lender c.commit.new.cache).disks c.in-Some.cache.now c.commit.new.cache (sym c.in-Some.ensures.value) h.0 h.1 (CommitsNothing c.args.entry.number) (c.in-Err.ensures.kept c.args.self.now.mode c.args.self.now.pair.max_size)

pub returns-then-not-has_open-clause-stays : goal.returns-then-not-has_open-clause-stays
returns-then-not-has_open-clause-stays g c = stays-self (bare_disk c.args.self.now)
