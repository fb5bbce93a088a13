use Rattle.std.proofs.Common.{◌≡◌, ℕ, List, ◌+◌, ◌-◌, ◌++◌, true, length, ap, subst, ◌∙◌}
use Rattle.sc_daemon.proofs.Moved.{asked}
use Rattle.sc_daemon.specs.Backlogs.{fresh_writes}
use Rattle.sc_daemon.specs.Daemons.{Kept}
use Rattle.sc_daemon.specs.Moving.{KeptMoves}
use Rattle.sc_daemon_job.specs.Askers.{asker}
use Rattle.sc_model.specs.Pendings.{pend}
use Rattle.sc_model.specs.Rows.{asked_row}
use Rattle.sc_model.specs.Trace.{numbered}
use Rattle.sc_model.specs.declared.event.What.TheVariants.{Asked}
use Rattle.sc_model.specs.declared.level.Handed.{Handed}
use Rattle.sc_daemon.proofs.holding.DaemonHold.ask.Goals as goal

pub returns-clause-moves : goal.returns-clause-moves
returns-clause-moves g c n r =
    let i = c.self.inside in
    let d : Kept = record { state = i.owned; stats = i.stats; free = i.free; levels = i.levels.items; background = i.background; handed = i.handed } in
    let since = c.args.since in
    let lookup = c.in_ok-lookup.lookup in
    let x = Asked c.args.level c.args.key.now c.args.mode lookup.answer lookup.handed in
    let owned = c.in_ok-lookup.ensures.moves n in
    let is = c.asked_row-row.ensures ∙ ap (λ (t : ℕ). asked_row c.args.level c.args.mode lookup.answer t) (c.saturating_sub-duration.ensures ∙ ap (λ (z : ℕ). z - since.last) (c.now.ensures ∙ owned.1.moment)) in
    subst (λ (b : Kept). KeptMoves b (asker since n r) x c.queue.new.self) c.self.view_is
    (asked d c.count.new.self c.queue.new.self (asker since n r) c.args.level c.args.key.now c.args.mode lookup.answer lookup.handed c.asked_row-row.result c.ask.new.self c.requires.counted owned is c.count.ensures.levels
    (subst (λ (hs : List Handed). c.queue.new.self ≡ record c.count.new.self { background = c.count.new.self.background ++ fresh_writes (pend (numbered c.count.new.self.handed c.count.new.self.state.world.moment true hs)); handed = c.count.new.self.handed + length (numbered c.count.new.self.handed c.count.new.self.state.world.moment true hs) }) c.as_slice.ensures c.in_ok-queue.ensures.queued))
