use Rattle.std.proofs.Common.{◌≡◌, ◌-◌, ◌≤◌, ◌∙◌, subst, arith, ℕ, List}
use Rattle.sc_lru.specs.LruCache.{total}
use Rattle.sc_disk.specs.Store.{Needed, filed, size_of}
use Rattle.sc_disk.proofs.Pairs.{inserted-filed}
use Rattle.sc_disk.proofs.opening.admit.Goals as goal

pub returns-clause-ok : goal.returns-clause-ok
returns-clause-ok g c = let k = c.in_ok-evict_until.ensures in let r = c.in_ok-insert.ensures in let d = k.drops in let after = c.evict_until.new.index in (
  d.0,
  record {
    evicted = (
      subst (λ b. Needed (b - c.args.file.size) d.0 c.args.index.now.entries) c.capacity.ensures d.2,
      subst (λ (es : List (List ℕ × ℕ)). total size_of es ≤ c.args.index.now.capacity - c.args.file.size) d.1.entries (omega (arith, k.within, c.capacity.ensures)),
    );
    entries = r.entries ∙ inserted-filed c.new.result c.args.file.size after.capacity after.entries (omega (arith, k.within, k.capacity, c.requires, c.capacity.ensures)) ∙ (λ j. filed (c.new.ensures j) c.args.file.size (d.1.entries j));
    disk = d.1.disk;
  },
)
