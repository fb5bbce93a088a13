use Rattle.std.proofs.Common.{refl, sym, ap, inl}
use Rattle.sc_disk.specs.Writing.{RefusesWriting, StoresWritten}
use Rattle.sc_disk.specs.declared.error.Error.TheVariants.{NoMemory}
use Rattle.sc_disk_pair.specs.Parts.{in_part}
use Rattle.sc_disk_pair.proofs.Arms.{on_ok}
use Rattle.sc_disk_pair.proofs.Changes.{inserted, refused-first}
use Rattle.sc_disk_pair.proofs.pair_cache.PairCache.insert_with.Goals as goal

pub returns-in_default-clause-err : goal.returns-in_default-clause-err
unfolding RefusesWriting
returns-in_default-clause-err g c = inl (NoMemory, refl, 0, refused-first (in_part c.args.part c.args.key.now) 0 c.args.self.now.store)

pub returns-clause-files : goal.returns-clause-files
unfolding StoresWritten
returns-clause-files g c = on_ok c.insert_with.result _ _ (λ h. (h.4, inserted c.args.part c.args.key.now c.in-Ok.both h.0 0 c.args.now h.2 h.3 h.4 h.5 c.args.self.now.store c.insert_with.new.self (sym (ap (λ w. w.divided) c.disk-divided.ensures)) c.in-Ok.ensures.key h.6)) c.insert_with.ensures.ok
