use Rattle.std.proofs.Common.{ap, subst, sym, ◌∙◌}
use Rattle.sc_daemon.proofs.Moved.{moved}
use Rattle.sc_daemon.specs.Daemons.{Kept}
use Rattle.sc_daemon.specs.Moving.{KeptMoves}
use Rattle.sc_model.specs.Rows.{began_row}
use Rattle.sc_model.specs.declared.event.Told.TheVariants.{Dist as TellsDist}
use Rattle.sc_model.specs.declared.event.What.TheVariants.{Began}
use Rattle.sc_model.specs.declared.message.Request.{Request}
use Rattle.sc_model.specs.declared.message.Request.TheVariants.{DistStatus}
use Rattle.sc_stats.specs.Sums.{sum}
use Rattle.sc_stats.specs.declared.counters.ServerStats.{ServerStats}
use Rattle.sc_daemon.proofs.holding.DaemonHold.dist_status.Goals as goal

pub returns-clause-moves : goal.returns-clause-moves
returns-clause-moves g c n asks =
    let i = c.self.inside in
    let d : Kept = record { state = i.owned; stats = i.stats; free = i.free; levels = i.levels.items; background = i.background; handed = i.handed } in
    let told = TellsDist c.in_ok-info.info in
    let stats = c.add_assign.new.self in
    subst (λ (b : Kept). KeptMoves b n (Began DistStatus told) (record d { state = c.dist_status.new.self; stats = stats })) c.self.view_is
    (moved d n (Began DistStatus told) c.dist_status.new.self stats tt tt (c.in_ok-info.ensures.moves n.need)
    (c.in_ok-add_assign.ensures.ok ∙ ap (λ (v : ServerStats). sum d.stats v) c.new.ensures ∙ ap (λ (r : Request). sum d.stats (began_row r told)) (sym asks)))
