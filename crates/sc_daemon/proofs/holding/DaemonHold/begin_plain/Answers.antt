use Rattle.std.proofs.Common.{ap, subst, sym, ◌∙◌}
use Rattle.sc_daemon.proofs.Moved.{began, not_anew, ok_then}
use Rattle.sc_daemon.specs.Daemons.{Kept}
use Rattle.sc_daemon.specs.Moving.{KeptMoves}
use Rattle.sc_model.specs.Rows.{began_row, zeroes}
use Rattle.sc_model.specs.declared.event.What.TheVariants.{Began}
use Rattle.sc_stats.specs.Sums.{sum}
use Rattle.sc_stats.specs.declared.counters.ServerStats.{ServerStats}
use Rattle.sc_daemon.proofs.holding.DaemonHold.begin_plain.Goals as goal

pub returns-clause-moves : goal.returns-clause-moves
returns-clause-moves g c =
    let i = c.self.inside in
    let d : Kept = record { state = i.owned; stats = i.stats; free = i.free; levels = i.levels.items; background = i.background; handed = i.handed } in
    let q = c.args.request.now in
    let told = c.args.told.now in
    let stats = c.add_assign.new.self in
    ok_then c.add_assign.result
    (λ is n asks. subst (λ (b : Kept). KeptMoves b n (Began q told) (record d { stats = stats })) c.self.view_is
    (began d n q told stats c.requires.plain asks
    (is ∙ ap (λ (v : ServerStats). sum d.stats v) c.in_ok-row.ensures ∙ not_anew (zeroes (Began q told)) d.stats (began_row q told) (sym (c.starts_anew.ensures told) ∙ c.if-starts_anew.false)))) c.add_assign.ensures.ok
