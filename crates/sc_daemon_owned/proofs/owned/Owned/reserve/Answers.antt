use Rattle.std.proofs.Common.{length, subst, ℕ, refl}
use Rattle.sc_store_disk.specs.DiskStores.{entry_path}
use Rattle.sc_store_disk.specs.Moving.{OpensBy}
use Rattle.sc_model.specs.Plan.{level_facts}
use Rattle.sc_daemon_owned.proofs.Opened.{elsewhere, good_key, reserved}
use Rattle.sc_daemon_owned.specs.State.{State, disk_at}
use Rattle.sc_store.specs.Asking.{ReservesDisk}
use Rattle.sc_store.specs.Held.{disk_in, level_in}
use Rattle.sc_daemon_owned.proofs.Staying.{config_stays, facts_stay}
use Rattle.sc_daemon_owned.proofs.owned.Owned.reserve.Goals as goal

pub returns-clause-moves : goal.returns-clause-moves
returns-clause-moves g c n =
    let a = c.reserve.ensures.alone in
    let e = c.in_ok-how.ensures in
    let l = c.args.level in
    let old = c.self.inside.levels in
    let new = c.reserve.new.self in
    let m =
    reserved _ c.args.self.now new l c.args.bytes.now.key (length c.args.bytes.now.bytes) c.in_ok-how.how n c.self.view_is
    (record { told = a.told; facts = a.facts; levels = a.levels; rooms = a.rooms; later = c.reserve.ensures.later })
    (subst (λ (size : ℕ). ReservesDisk old.policy c.args.bytes.now.key size c.in_ok-how.how (disk_in old l) (disk_in new l)) c.len-size.ensures e.moved)
    (subst (λ (size : ℕ). OpensBy (entry_path c.args.bytes.now.key) size c.in_ok-how.how (disk_in old l) (disk_in new l)) c.len-size.ensures e.entry) in
    (m.0, m.1, m.2, m.3, config_stays _ c.args.self.now _ c.self.view_is (facts_stay c.self.inside.levels c.reserve.new.self _ _ _ _ _ _ _ _ c.self.inside.dist c.self.inside.dist a.titles a.facts a.policy refl refl refl))

pub returns-clause-opens : goal.returns-clause-opens
returns-clause-opens g c =
    let l = c.args.level in
    let new = c.reserve.new.self in
    subst (λ (s : State). OpensBy (entry_path c.args.bytes.now.key) (length c.args.bytes.now.bytes) c.in_ok-how.how (disk_at s l) (disk_in new l)) c.self.view_is
    (subst (λ (size : ℕ). OpensBy (entry_path c.args.bytes.now.key) size c.in_ok-how.how (disk_in c.self.inside.levels l) (disk_in new l)) c.len-size.ensures c.in_ok-how.ensures.entry)

pub returns-clause-good : goal.returns-clause-good
returns-clause-good g c = good_key c.self.inside.levels.policy (level_facts c.self.inside.levels.facts c.args.level) _ c.args.bytes.now.key _ _ c.in_ok-how.how (level_in c.self.inside.levels.levels c.args.level) (level_in c.reserve.new.self.levels c.args.level)
    (disk_in c.self.inside.levels c.args.level) (disk_in c.reserve.new.self c.args.level) c.in_ok-how.ensures.cause c.in_ok-how.ensures.entry

pub returns-clause-elsewhere : goal.returns-clause-elsewhere
returns-clause-elsewhere g c m apart =
    let a = c.reserve.ensures.alone in
    elsewhere _ c.args.self.now c.reserve.new.self c.args.level c.self.view_is (record { told = a.told; facts = a.facts; levels = a.levels; rooms = a.rooms; later = c.reserve.ensures.later }) m apart
