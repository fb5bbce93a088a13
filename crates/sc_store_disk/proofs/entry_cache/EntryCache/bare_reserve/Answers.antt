use Rattle.std.proofs.Common.{◌≡◌, ap, subst, sym}
use Rattle.sc_model.specs.WriteCauses.{causes}
use Rattle.sc_model.specs.Writing.{Reserves}
use Rattle.sc_store_disk.specs.DiskStores.{DiskStore, bare_disk}
use Rattle.sc_store_disk.specs.Moving.{written_of}
use Rattle.sc_store_disk.proofs.entry_cache.EntryCache.bare_reserve.Goals as goal
use Rattle.sc_store_disk.proofs.entry_cache.EntryCache.bare_reserve.Goals.{in-Open, in_default}

pub returns-clause-moved : goal.returns-clause-moved
returns-clause-moved g c told =
    let s = bare_disk c.args.self.now in
    let same : bare_disk c.match-how.self ≡ bare_disk c.reserve_entry.new.self = (elim c.match-how.branch [
      | in-Open w ↦ ap (λ x. bare_disk x) w.self-is
      | in_default w ↦ ap (λ x. bare_disk x) w.self-is
    ]) in
    subst (λ (t : DiskStore). Reserves s.facts.capacity (causes c.args.policy.now s.facts s.reserved c.args.key.now c.args.size) s.reserved c.args.size (written_of c.in_ok-how.how) s.level t.level) (sym same) (c.in_ok-how.ensures.moved told)
