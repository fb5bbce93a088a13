use Rattle.std.proofs.Common.{sym, ◌∙◌}
use Rattle.sc_store_disk.proofs.Commits.{is-not_open, is-open}
use Rattle.sc_store_disk.proofs.entry_cache.EntryCache.has_open.Goals as goal

pub returns-in-Some-clause-opened : goal.returns-in-Some-clause-opened
returns-in-Some-clause-opened g c = λ h. is-open c.args.self.now.mode c.args.self.now.pair.max_size c.args.self.now.pair.opened c.args.self.now.pair.disks c.in-Some.cache.now (sym c.in-Some.ensures) c.args.entry.now c.keeps.ensures.divided (c.is_open.ensures.opened h)

pub returns-in-Some-clause-other : goal.returns-in-Some-clause-other
returns-in-Some-clause-other g c = λ h. is-not_open c.args.self.now.mode c.args.self.now.pair.max_size c.args.self.now.pair.opened c.args.self.now.pair.disks c.in-Some.cache.now (sym c.in-Some.ensures) c.args.entry.now c.keeps.ensures.divided (sym c.is_open.ensures.test ∙ h)
