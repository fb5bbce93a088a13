use Rattle.std.proofs.Common.{◌≡◌, ℕ, ◌+◌, ◌++◌, length, ap, arith, subst, ◌∙◌}
use Rattle.sc_daemon.proofs.Handing.{numbered_count}
use Rattle.sc_daemon.specs.Backlogs.{fresh_writes}
use Rattle.sc_daemon.specs.Daemons.{Kept}
use Rattle.sc_model.specs.Pendings.{pend}
use Rattle.sc_model.specs.Trace.{numbered}
use Rattle.sc_daemon.proofs.daemon.Daemon.queue.Goals as goal

pub returns-clause-queued : goal.returns-clause-queued
returns-clause-queued g c =
    let i = c.self.inside in
    let d : Kept = record { state = i.owned; stats = i.stats; free = i.free; levels = i.levels.items; background = i.background; handed = i.handed } in
    let b = c.args.backfill in
    let hs = c.args.handed.now in
    let m = d.state.world.moment in
    let writes : c.append.new.self ≡ d.background ++ fresh_writes (pend (numbered d.handed m b hs)) = c.in_ok-append.ensures ∙ ap (λ (z : ℕ). d.background ++ fresh_writes (pend (numbered d.handed z b hs))) c.now-moment.ensures in
    let count : c.in-Some.count ≡ d.handed + length (numbered d.handed m b hs) = omega (arith, c.in-Some.ensures, numbered_count d.handed m b hs) in
    subst (λ (e : Kept). record d { background = c.append.new.self; handed = c.in-Some.count } ≡ record e { background = e.background ++ fresh_writes (pend (numbered e.handed e.state.world.moment b hs)); handed = e.handed + length (numbered e.handed e.state.world.moment b hs) }) c.self.view_is
    (λ j. record d { background = writes j; handed = count j })
