use Rattle.std.proofs.Common.{ℕ, ◌<◌, ◌≤◌, length, sym, ◌∙◌, subst, Some}
use Rattle.sc_daemon.specs.Daemons.{ServesEvent}
use Rattle.sc_daemon.specs.Lines.{Line}
use Rattle.sc_daemon.specs.Standings.{Rests}
use Rattle.sc_daemon.proofs.Stepping.{at_line, steps_past, steps_serve}
use Rattle.sc_daemon_owned.specs.State.{disk_at}
use Rattle.sc_daemon.proofs.driver.Driver.serve.Goals as goal
use Rattle.sc_daemon_owned.specs.Facts.{config_of}

pub serve-requires : goal.serve-requires
serve-requires g c =
    let d = c.args.daemon.now in
    let lt : c.args.number < length c.args.self.now.conns.items = subst (λ (n : ℕ). c.args.number < n) (c.len.ensures ∙ c.args.self.now.conns.ok.0) c.if-number-len.false in
    record {
      rests = subst (λ (l : Line). Rests (config_of d.state.config) (Some (disk_at d.state)) l.phase l.entry l.waiting) (sym c.index_mut.ensures.value) (at_line d c.args.self.now.conns.items c.args.number _ lt c.requires.at).1;
    }

pub returns-clause-steps : goal.returns-clause-steps
returns-clause-steps g c s opens is_setup tied =
    let d = c.args.daemon.now in
    let e = c.in_ok-event.event in
    let lt : c.args.number < length c.args.self.now.conns.items = subst (λ (n : ℕ). c.args.number < n) (c.len.ensures ∙ c.args.self.now.conns.ok.0) c.if-number-len.false in
    steps_serve s d c.serve.new.self c.args.self.now.conns.items opens c.args.number _ c.serve.new.conn e is_setup tied c.requires.told lt
    (subst (λ (l : Line). ServesEvent c.args.number e d c.serve.new.self l c.serve.new.conn) c.index_mut.ensures.value c.in_ok-event.ensures.serves)
    c.in_ok-event.ensures.rests c.keeps-2.ensures

pub returns-then-number-len-clause-steps : goal.returns-then-number-len-clause-steps
returns-then-number-len-clause-steps g c s opens is_setup tied =
    steps_past s c.args.daemon.now c.args.self.now.conns.items opens c.args.number c.idle.result is_setup tied c.keeps.ensures (subst (λ (n : ℕ). n ≤ c.args.number) (c.len.ensures ∙ c.args.self.now.conns.ok.0) c.if-number-len.true) c.idle.ensures
