use Rattle.std.proofs.Common.{sym, ap, ◌∷◌, [], length}
use Rattle.sc_disk_pair.proofs.Arms.{on_ok}
use Rattle.sc_disk_pair.proofs.Changes.{inserted, refused-insert}
use Rattle.sc_disk_pair.proofs.pair_cache.PairCache.insert_bytes.Goals as goal

pub returns-in_default-clause-err : goal.returns-in_default-clause-err
returns-in_default-clause-err g c = refused-insert _ _ _ _ _ c.args.self.now.store

pub returns-clause-files : goal.returns-clause-files
returns-clause-files g c = on_ok c.insert_bytes.result _ _ (λ h. (h.2, inserted c.args.part c.args.key.now c.in-Ok.both (c.args.bytes.now ∷ []) (length c.args.bytes.now) c.args.now h.0 h.1 h.2 h.3 c.args.self.now.store c.insert_bytes.new.self (sym (ap (λ w. w.divided) c.disk-divided.ensures)) c.in-Ok.ensures.key h.4)) c.insert_bytes.ensures.ok
