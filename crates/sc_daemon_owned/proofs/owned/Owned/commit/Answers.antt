use Rattle.std.proofs.Common.{Some, subst, sym, refl}
use Rattle.sc_store_disk.specs.Entries.{ClosesEntry}
use Rattle.sc_daemon_hold.specs.Holding.{Holds}
use Rattle.sc_daemon_owned.proofs.Opened.{committed, elsewhere, is_open_held}
use Rattle.sc_daemon_owned.specs.State.{State, disk_at}
use Rattle.sc_store.specs.Held.{disk_in}
use Rattle.sc_daemon_owned.proofs.Staying.{config_stays, facts_stay}
use Rattle.sc_daemon_owned.proofs.owned.Owned.commit.Goals as goal

pub returns-clause-moves : goal.returns-clause-moves
returns-clause-moves g c n marks =
    let a = c.commit.ensures.alone in
    let e = c.args.entry in
    let b = c.args.bytes.now in
    let held = subst (λ (s : State). Holds (Some (disk_at s)) c.args.level e b b.bytes (Some b.run)) (sym c.self.view_is) c.requires.holds in
    let m =
    committed _ c.args.self.now c.commit.new.self c.args.level e b c.in-Ok.how n c.self.view_is
    (record { told = a.told; facts = a.facts; levels = a.levels; rooms = a.rooms; later = c.commit.ensures.later }) c.requires.disk c.requires.holds
    (c.commit.ensures.closed (is_open_held (disk_in c.self.inside.levels c.args.level) e b b.bytes (Some b.run) held)) c.in-Ok.ensures.committed.1 marks in
    (m.0, m.1, m.2, m.3, config_stays _ c.args.self.now _ c.self.view_is (facts_stay c.self.inside.levels c.commit.new.self _ _ _ _ _ _ _ _ c.self.inside.dist c.self.inside.dist a.titles a.facts a.policy refl refl refl))

pub returns-clause-closes : goal.returns-clause-closes
returns-clause-closes g c =
    let e = c.args.entry in
    let b = c.args.bytes.now in
    let held = subst (λ (s : State). Holds (Some (disk_at s)) c.args.level e b b.bytes (Some b.run)) (sym c.self.view_is) c.requires.holds in
    subst (λ (s : State). ClosesEntry e.number (disk_at s c.args.level) (disk_in c.commit.new.self c.args.level)) c.self.view_is
    (c.commit.ensures.closed (is_open_held (disk_in c.self.inside.levels c.args.level) e b b.bytes (Some b.run) held))

pub returns-clause-elsewhere : goal.returns-clause-elsewhere
returns-clause-elsewhere g c m apart =
    let a = c.commit.ensures.alone in
    elsewhere _ c.args.self.now c.commit.new.self c.args.level c.self.view_is (record { told = a.told; facts = a.facts; levels = a.levels; rooms = a.rooms; later = c.commit.ensures.later }) m apart

pub unreachable-requires : goal.unreachable-requires
unreachable-requires g c =
    let e = c.args.entry in
    let b = c.args.bytes.now in
    let held = subst (λ (s : State). Holds (Some (disk_at s)) c.args.level e b b.bytes (Some b.run)) (sym c.self.view_is) c.requires.holds in
    (c.in-Err-NotOpen.ensures.not_open c.in-Err-NotOpen.field-0-is).0 (is_open_held (disk_in c.self.inside.levels c.args.level) e b b.bytes (Some b.run) held)
