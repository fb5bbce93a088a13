use Rattle.std.proofs.Common.{refl, subst}
use Rattle.sc_daemon.proofs.Counted.{if_map}
use Rattle.sc_model.specs.declared.event.What.TheVariants.{Placed}
use Rattle.sc_daemon.proofs.Moved.{moved}
use Rattle.sc_daemon.specs.Daemons.{Kept}
use Rattle.sc_daemon.specs.Moving.{KeptMoves}
use Rattle.sc_daemon.proofs.holding.DaemonHold.place.Goals as goal

pub returns-clause-moves : goal.returns-clause-moves
returns-clause-moves g c =
    let i = c.self.inside in
    let d : Kept = record { state = i.owned; stats = i.stats; free = i.free; levels = i.levels.items; background = i.background; handed = i.handed } in
    if_map c.place.result c.place.ensures.moves
    (λ placing owned n key outputs hit. subst (λ (e : Kept). KeptMoves e n (Placed placing) (record d { state = c.place.new.self })) c.self.view_is
    (moved d n (Placed placing) c.place.new.self d.stats tt tt (owned n.need key outputs hit) refl))
