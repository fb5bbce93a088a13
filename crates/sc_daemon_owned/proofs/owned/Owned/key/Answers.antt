use Rattle.std.proofs.Common.{refl}
use Rattle.sc_model.specs.declared.event.What.TheVariants.{Keyed}
use Rattle.sc_daemon_owned.proofs.Distributing.{keyed}
use Rattle.sc_daemon_owned.proofs.Steps.{still}
use Rattle.sc_daemon_owned.proofs.Staying.{config_stays, facts_stay, told_client}
use Rattle.sc_daemon_owned.proofs.owned.Owned.key.Goals as goal

pub returns-clause-moves : goal.returns-clause-moves
returns-clause-moves g c n keys =
    let k = c.in_ok-keying.keying in
    let m = keyed _ c.args.self.now n c.args.request.now c.args.first k.client k.step c.in_ok-answer.answer c.get_client.new.self c.self.view_is keys c.in_ok-answer.ensures c.in_ok-keying.ensures in
    let s = still _ c.args.self.now (Keyed c.args.first k.client k.step) _ c.self.view_is tt refl in
    (m.0, m.1, s.0, s.1, config_stays _ c.args.self.now _ c.self.view_is (facts_stay c.self.inside.levels c.self.inside.levels _ _ _ _ _ _ _ _ c.self.inside.dist c.get_client.new.self refl refl refl refl refl (told_client _ _ c.get_client.new.self c.in_ok-answer.answer c.in_ok-answer.ensures)))
