use Rattle.std.proofs.Common.{◌≡◌, ap, subst, sym, ◌∙◌}
use Rattle.sc_daemon.proofs.Moved.{keyed_again, keyed_first, moved}
use Rattle.sc_daemon.specs.Daemons.{Kept}
use Rattle.sc_daemon.specs.Moving.{KeptMoves}
use Rattle.sc_daemon_job.specs.Setups.{setup}
use Rattle.sc_daemon_owned.specs.Facts.{config_of}
use Rattle.sc_model.specs.Rows.{row}
use Rattle.sc_model.specs.World.{keys_of}
use Rattle.sc_model.specs.declared.event.What.TheVariants.{Keyed}
use Rattle.sc_model.specs.declared.message.Request.TheVariants.{Compile as CompileOf}
use Rattle.sc_stats.specs.Sums.{sum}
use Rattle.sc_stats.specs.declared.counters.ServerStats.{ServerStats}
use Rattle.sc_daemon.proofs.holding.DaemonHold.key.Goals as goal

pub returns-then-not-first-clause-moves : goal.returns-then-not-first-clause-moves
returns-then-not-first-clause-moves g c n asks =
    let i = c.self.inside in
    let d : Kept = record { state = i.owned; stats = i.stats; free = i.free; levels = i.levels.items; background = i.background; handed = i.handed } in
    let step = c.in_ok-keying.keying in
    let x = Keyed c.args.first step.client step.step in
    let s = setup (config_of d.state.config) in
    let owned = c.in_ok-keying.ensures.moves n.need (subst (λ (b : Kept). n.need.keys ≡ keys_of (setup (config_of b.state.config)) (CompileOf c.args.request.now)) (sym c.self.view_is) asks) in
    subst (λ (b : Kept). KeptMoves b n x (record d { state = c.key.new.self })) c.self.view_is
    (moved d n x c.key.new.self d.stats tt tt owned (keyed_again c.args.first step.client step.step d.stats (row s n.request n.outcome d.state.world.moment x) c.if-not-first.true))

pub returns-clause-moves : goal.returns-clause-moves
returns-clause-moves g c n asks =
    let i = c.self.inside in
    let d : Kept = record { state = i.owned; stats = i.stats; free = i.free; levels = i.levels.items; background = i.background; handed = i.handed } in
    let step = c.in_ok-keying.keying in
    let x = Keyed c.args.first step.client step.step in
    let stats = c.add_assign.new.self in
    let owned = c.in_ok-keying.ensures.moves n.need (subst (λ (b : Kept). n.need.keys ≡ keys_of (setup (config_of b.state.config)) (CompileOf c.args.request.now)) (sym c.self.view_is) asks) in
    subst (λ (b : Kept). KeptMoves b n x (record d { state = c.key.new.self; stats = stats })) c.self.view_is
    (moved d n x c.key.new.self stats tt tt owned (keyed_first (setup (config_of d.state.config)) n.request n.outcome d.state.world.moment c.args.first step.client step.step d.stats stats c.if-not-first.false
    (c.in_ok-add_assign.ensures.ok ∙ ap (λ (v : ServerStats). sum d.stats v) c.row_of_keyed.ensures)))
