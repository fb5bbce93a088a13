use Rattle.std.proofs.Common.{refl}
use Rattle.sc_model.specs.declared.event.Told.TheVariants.{Dist as TellsDist}
use Rattle.sc_model.specs.declared.event.What.TheVariants.{Began}
use Rattle.sc_model.specs.declared.message.Request.TheVariants.{DistStatus}
use Rattle.sc_daemon_owned.proofs.Distributing.{told}
use Rattle.sc_daemon_owned.proofs.Steps.{still}
use Rattle.sc_daemon_owned.proofs.Staying.{config_stays, facts_stay, told_status}
use Rattle.sc_daemon_owned.proofs.owned.Owned.dist_status.Goals as goal

pub returns-clause-moves : goal.returns-clause-moves
returns-clause-moves g c n =
    let m = told _ c.args.self.now n c.in_ok-info.info c.get_status.new.self c.self.view_is c.in_ok-info.ensures in
    let s = still _ c.args.self.now (Began DistStatus (TellsDist c.in_ok-info.info)) _ c.self.view_is tt refl in
    (m.0, m.1, s.0, s.1, config_stays _ c.args.self.now _ c.self.view_is (facts_stay c.self.inside.levels c.self.inside.levels _ _ _ _ _ _ _ _ c.self.inside.dist c.get_status.new.self refl refl refl refl refl (told_status _ _ c.get_status.new.self c.in_ok-info.info c.in_ok-info.ensures)))
