use Rattle.std.proofs.Common.{ℕ, ◌+◌, ◌≤◌, sym, subst}
use Rattle.sc_model.specs.Evicting.{part_size}
use Rattle.sc_store_disk.specs.DiskStores.{bare_disk, held_disk, indexed_bytes}
use Rattle.sc_store_disk.proofs.LevelMarks.{marks-there}
use Rattle.sc_store_disk.proofs.Within.{bound-opened, bound-unopened, capacity-is, within-opened, within-unopened}
use Rattle.sc_store_disk.proofs.entry_cache.EntryCache.keeps.Goals as goal

pub returns-in-Some-clause-within : goal.returns-in-Some-clause-within
returns-in-Some-clause-within g c = let s = c.args.self.now in
    subst (λ (n : ℕ). part_size (held_disk s).level + (held_disk s).reserved ≤ n) (sym (capacity-is s.mode s.pair.max_size s.pair.opened s.pair.disks))
    (within-opened s.mode s.pair.max_size s.pair.opened s.pair.disks c.in-Some.cache.now (sym c.in-Some.ensures) s.limit c.keeps.ensures.sound c.keeps.ensures.distinct c.keeps.ensures.placed)

pub returns-in_default-clause-within : goal.returns-in_default-clause-within
returns-in_default-clause-within g c = let s = c.args.self.now in
    subst (λ (n : ℕ). part_size (held_disk s).level + (held_disk s).reserved ≤ n) (sym (capacity-is s.mode s.pair.max_size s.pair.opened s.pair.disks))
    (within-unopened s.mode s.pair.max_size s.pair.opened s.pair.disks (sym c.in_default.ensures))

pub returns-in-Some-clause-bound : goal.returns-in-Some-clause-bound
returns-in-Some-clause-bound g c = let s = c.args.self.now in
    subst (λ (n : ℕ). indexed_bytes s + (held_disk s).reserved ≤ n) (sym (capacity-is s.mode s.pair.max_size s.pair.opened s.pair.disks))
    (bound-opened s.mode s.pair.max_size s.pair.opened s.pair.disks c.in-Some.cache.now (sym c.in-Some.ensures) s.limit c.keeps.ensures.sound)

pub returns-in_default-clause-bound : goal.returns-in_default-clause-bound
returns-in_default-clause-bound g c = let s = c.args.self.now in
    subst (λ (n : ℕ). indexed_bytes s + (held_disk s).reserved ≤ n) (sym (capacity-is s.mode s.pair.max_size s.pair.opened s.pair.disks))
    (bound-unopened s.mode s.pair.max_size s.pair.opened s.pair.disks (sym c.in_default.ensures))

pub returns-in-Some-clause-marks : goal.returns-in-Some-clause-marks
returns-in-Some-clause-marks g c = marks-there c.args.self.now.marks (bare_disk c.args.self.now).level

pub returns-in_default-clause-marks : goal.returns-in_default-clause-marks
returns-in_default-clause-marks g c = marks-there c.args.self.now.marks (bare_disk c.args.self.now).level
