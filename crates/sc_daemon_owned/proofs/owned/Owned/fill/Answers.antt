use Rattle.std.proofs.Common.{List, [], None, Some, subst, sym, ℕ, refl}
use Rattle.sc_store_disk.specs.Entries.{FillsBy}
use Rattle.sc_store_disk.specs.Marks.{filled_by}
use Rattle.sc_daemon_hold.specs.Holding.{Holds}
use Rattle.sc_daemon_owned.proofs.Opened.{elsewhere, filled, is_open_held, same_filled}
use Rattle.sc_daemon_owned.specs.State.{State, disk_at}
use Rattle.sc_store.specs.Held.{disk_in}
use Rattle.sc_daemon_owned.proofs.Staying.{config_stays, facts_stay}
use Rattle.sc_daemon_owned.proofs.owned.Owned.fill.Goals as goal

pub returns-clause-moves : goal.returns-clause-moves
returns-clause-moves g c n =
    let a = c.fill.ensures.alone in
    let m =
    filled _ c.args.self.now c.fill.new.self c.args.level c.args.entry c.args.bytes.now c.in-Ok.how n c.self.view_is
    (record { told = a.told; facts = a.facts; levels = a.levels; rooms = a.rooms; later = c.fill.ensures.later }) c.requires.holds
    (subst (λ (bytes : List ℕ). FillsBy c.args.entry bytes (filled_by c.args.bytes.now.run) c.in-Ok.how (disk_in c.self.inside.levels c.args.level) (disk_in c.fill.new.self c.args.level)) c.as_slice-entry_bytes.ensures c.in-Ok.ensures.filled.1) in
    (m.0, m.1, m.2, m.3, config_stays _ c.args.self.now _ c.self.view_is (facts_stay c.self.inside.levels c.fill.new.self _ _ _ _ _ _ _ _ c.self.inside.dist c.self.inside.dist a.titles a.facts a.policy refl refl refl))

pub returns-clause-entry : goal.returns-clause-entry
returns-clause-entry g c = same_filled c.args.entry _ _ c.in-Ok.how (disk_in c.self.inside.levels c.args.level) (disk_in c.fill.new.self c.args.level) c.in-Ok.ensures.filled.1

pub returns-clause-fills : goal.returns-clause-fills
returns-clause-fills g c =
    subst (λ (s : State). FillsBy c.args.entry c.args.bytes.now.bytes (filled_by c.args.bytes.now.run) c.in-Ok.how (disk_at s c.args.level) (disk_in c.fill.new.self c.args.level)) c.self.view_is
    (subst (λ (bytes : List ℕ). FillsBy c.args.entry bytes (filled_by c.args.bytes.now.run) c.in-Ok.how (disk_in c.self.inside.levels c.args.level) (disk_in c.fill.new.self c.args.level)) c.as_slice-entry_bytes.ensures c.in-Ok.ensures.filled.1)

pub returns-clause-elsewhere : goal.returns-clause-elsewhere
returns-clause-elsewhere g c m apart =
    let a = c.fill.ensures.alone in
    elsewhere _ c.args.self.now c.fill.new.self c.args.level c.self.view_is (record { told = a.told; facts = a.facts; levels = a.levels; rooms = a.rooms; later = c.fill.ensures.later }) m apart

pub unreachable-requires : goal.unreachable-requires
unreachable-requires g c =
    let e = c.args.entry in
    let b = c.args.bytes.now in
    let held = subst (λ (s : State). Holds (Some (disk_at s)) c.args.level e b [] None) (sym c.self.view_is) c.requires.holds in
    (c.in-Err-NotOpen.ensures.not_open c.in-Err-NotOpen.field-0-is).0 (is_open_held (disk_in c.self.inside.levels c.args.level) e b [] None held)
