use Rattle.std.proofs.Common.{[], arith, refl, subst}
use Rattle.sc_daemon.proofs.Moved.{unnamed, unnumbered, unqueued}
use Rattle.sc_daemon.specs.Daemons.{Kept}
use Rattle.sc_daemon.specs.Moving.{KeptMoves}
use Rattle.sc_model.specs.Rows.{level_row}
use Rattle.sc_model.specs.declared.event.What.TheVariants.{Ran}
use Rattle.sc_daemon.proofs.holding.DaemonHold.run.Goals as goal

pub returns-clause-moves : goal.returns-clause-moves
returns-clause-moves g c n key wanted =
    let i = c.self.inside in
    let d : Kept = record { state = i.owned; stats = i.stats; free = i.free; levels = i.levels.items; background = i.background; handed = i.handed } in
    let x = Ran c.in_ok-answer.answer in
    subst (λ (e : Kept). KeptMoves e n x (record d { state = c.run.new.self; free = c.in-Some.free })) c.self.view_is
    record {
      says = tt;
      moves = c.in_ok-answer.ensures.moves n.need key wanted;
      free = omega (arith, c.in-Some.ensures);
      levels = unnamed d.state.config.policy (level_row n.origin n.last n.reserved d.state.world.moment x) x d.levels refl;
      background = unqueued d.background [] refl;
      handed = unnumbered d.handed [] refl;
      stats = refl;
    }
