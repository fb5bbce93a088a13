use Rattle.std.proofs.Common.{ap, subst, ◌∙◌}
use Rattle.sc_daemon.proofs.Moved.{moved}
use Rattle.sc_daemon.specs.Daemons.{Kept}
use Rattle.sc_daemon.specs.Moving.{KeptMoves}
use Rattle.sc_daemon_owned.specs.Facts.{config_of}
use Rattle.sc_model.specs.declared.event.What.TheVariants.{Outcome}
use Rattle.sc_stats.specs.Sums.{sum}
use Rattle.sc_stats.specs.declared.counters.ServerStats.{ServerStats}
use Rattle.sc_daemon.proofs.holding.DaemonHold.outcome.Goals as goal

pub returns-clause-moves : goal.returns-clause-moves
returns-clause-moves g c n =
    let i = c.self.inside in
    let d : Kept = record { state = i.owned; stats = i.stats; free = i.free; levels = i.levels.items; background = i.background; handed = i.handed } in
    let x = Outcome c.args.verdict.now c.args.task in
    let stats = c.add_assign.new.self in
    subst (λ (b : Kept). KeptMoves b n x (record d { state = c.end_client.new.self; stats = stats })) c.self.view_is
    (moved d n x c.end_client.new.self stats tt tt (c.end_client.ensures.moves n.need c.args.task)
    (c.in_ok-add_assign.ensures.ok ∙ ap (λ (v : ServerStats). sum d.stats v) (c.in_ok-row.ensures (config_of d.state.config))))
