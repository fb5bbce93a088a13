use Rattle.std.proofs.Common.{sym, ap, ◌∷◌, []}
use Rattle.sc_disk_pair.proofs.Arms.{on_ok}
use Rattle.sc_disk_pair.proofs.Changes.{inserted, refused-insert}
use Rattle.sc_disk_pair.proofs.pair_cache.PairCache.insert_file.Goals as goal

pub returns-in_default-clause-err : goal.returns-in_default-clause-err
returns-in_default-clause-err g c = refused-insert _ _ _ _ _ c.args.self.now.store

pub returns-clause-files : goal.returns-clause-files
returns-clause-files g c = on_ok c.insert_file.result _ _ (λ h. (h.4, inserted c.args.part c.args.key.now c.in-Ok.both (h.0 ∷ []) 0 c.args.now h.2 h.3 h.4 h.5 c.args.self.now.store c.insert_file.new.self (sym (ap (λ w. w.divided) c.disk-divided.ensures)) c.in-Ok.ensures.key h.6)) c.insert_file.ensures.ok
