use Rattle.sc_entry.specs.Entries.{objects}
use Rattle.sc_model.specs.World.{first_missing}
use Rattle.std.proofs.Common.{refl}
use Rattle.sc_model.specs.declared.event.What.TheVariants.{Placed}
use Rattle.sc_daemon_owned.specs.Moving.{placing_of}
use Rattle.sc_daemon_owned.proofs.Steps.{still, none_found, placed}
use Rattle.sc_daemon_owned.proofs.Staying.{config_stays, facts_stay}
use Rattle.sc_daemon_owned.proofs.owned.Owned.place.Goals as goal

pub returns-clause-moves : goal.returns-clause-moves
returns-clause-moves g c n keyed wants hits =
    let e = c.in_ok-failed.ensures in
    let none = none_found c.in_ok-name.field-0 (λ name. name.now) (first_missing (objects c.args.entry.now) c.args.outputs.now) c.in_default.not-Some c.in_ok-name.ensures in
    rw c.placing_of.ensures
    (let m = placed _ c.args.self.now n c.args.key.now c.args.outputs.now c.args.entry.now c.in_ok-failed.failed _ _ _ c.self.view_is keyed wants hits none e.runs e.later e.placings e.answer in
    let s = still _ c.args.self.now (Placed (placing_of c.in_ok-failed.failed)) _ c.self.view_is tt refl in
    (m.0, m.1, s.0, s.1, config_stays _ c.args.self.now _ c.self.view_is (facts_stay c.self.inside.levels c.self.inside.levels _ _ _ _ _ _ _ _ c.self.inside.dist c.self.inside.dist refl refl refl e.lines e.refusals refl)))
