use Rattle.std.proofs.Common.{ℕ, ◌<◌, ◌≤◌, length, ◌∙◌, subst}
use Rattle.sc_daemon.proofs.Stepping.{reads_at, steps_read, steps_unread}
use Rattle.sc_daemon.proofs.driver.Driver.read.Goals as goal

pub returns-clause-steps : goal.returns-clause-steps
returns-clause-steps g c s opens of tied =
    let d = c.args.daemon.now in
    let e = c.in_ok-event.event in
    let lt : c.args.number < length c.args.self.now.conns.items = subst (λ (n : ℕ). c.args.number < n) (c.len.ensures ∙ c.args.self.now.conns.ok.0) c.if-number-len.false in
    steps_read s c.args.inputs.now d c.args.self.now.conns.items opens c.args.number c.args.count _ c.read.new.conn _ e of tied c.keeps.ensures lt c.requires.inputs
    (reads_at d c.args.number c.args.count e c.as_slice.result.now _ c.index_mut.result.now _ c.read.new.conn (c.as_slice.ensures ∙ c.index-inputs-place.is) c.index_mut.ensures.value c.in_ok-event.ensures)

pub returns-then-number-len-clause-steps : goal.returns-then-number-len-clause-steps
returns-then-number-len-clause-steps g c s opens of tied =
    steps_unread s c.args.inputs.now c.args.daemon.now c.args.self.now.conns.items opens c.args.number c.args.count c.idle.result of tied c.keeps.ensures c.requires.inputs (subst (λ (n : ℕ). n ≤ c.args.number) (c.len.ensures ∙ c.args.self.now.conns.ok.0) c.if-number-len.true) c.idle.ensures
