use Rattle.std.proofs.Common.{List, ℕ, refl, subst}
use Rattle.sc_store.specs.Asking.{PutsPre}
use Rattle.sc_store.specs.Held.{disk_in}
use Rattle.sc_daemon_owned.proofs.Opened.{wrote_pre}
use Rattle.sc_daemon_owned.proofs.Staying.{config_stays, facts_stay}
use Rattle.sc_daemon_owned.proofs.owned.Owned.write_pre.Goals as goal

pub returns-clause-moves : goal.returns-clause-moves
returns-clause-moves g c n =
    let a = c.put_pre_step.ensures.alone in
    let l = c.args.level in
    let b = c.args.bytes.now in
    let how = c.in_ok-written.written in
    let old = c.self.inside.levels in
    let new = c.put_pre_step.new.self in
    let put = subst (λ (bytes : List ℕ). PutsPre old.policy b.key bytes how (disk_in old l) (disk_in new l)) c.as_slice-entry.ensures c.in_ok-written.ensures.put in
    let m = wrote_pre _ c.args.self.now new l b.key b.bytes b.run how n c.self.view_is
    (record { told = a.told; facts = a.facts; levels = a.levels; rooms = a.rooms; later = c.put_pre_step.ensures.later }) put c.put_pre_step.ensures.entries in
    (m.0, m.1, m.2, m.3, config_stays _ c.args.self.now _ c.self.view_is (facts_stay old new _ _ _ _ _ _ _ _ c.self.inside.dist c.self.inside.dist a.titles a.facts a.policy refl refl refl))
