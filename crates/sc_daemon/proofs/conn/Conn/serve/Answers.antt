use Rattle.std.proofs.Common.{Option, refl, sym, subst}
use Rattle.sc_daemon_action.specs.declared.acted.Action.{Action}
use Rattle.sc_daemon.specs.Lines.{asker_at}
use Rattle.sc_daemon.specs.Turns.{ActsFirst, ActsFirst_or_none, MovesFirst, Serves_one}
use Rattle.sc_daemon.proofs.Serving.{first_serves, serves_one, serves_rests}
use Rattle.sc_daemon.proofs.conn.Conn.serve.Given as given
use Rattle.sc_daemon.proofs.conn.Conn.serve.Goals as goal

acts : (g : given.Over) (c : goal.After-move_to g) → ActsFirst (g.H.Hold.config c.args.hold.now) (g.H.Hold.rooms c.args.hold.now) (g.H.Hold.rooms c.act_first.new.hold) (g.H.Hold.moment c.act_first.new.hold) c.in-Some.acted c.args.self.now c.act_first.new.self
acts g c = subst (λ (a : Option Action). ActsFirst_or_none (g.H.Hold.config c.args.hold.now) (g.H.Hold.rooms c.args.hold.now) (g.H.Hold.rooms c.act_first.new.hold) (g.H.Hold.moment c.act_first.new.hold) a c.args.self.now c.act_first.new.self) c.in-Some.is c.in_ok-acted.ensures.acts

pub act_first-requires : goal.act_first-requires
act_first-requires g c = first_serves (g.H.Hold.config c.args.hold.now) (g.H.Hold.rooms c.args.hold.now) c.args.self.now c.requires (c.if-is_idle.ensures.some refl) (c.if-is_idle.ensures.goes refl)

pub returns-clause-serves : goal.returns-clause-serves
returns-clause-serves g c =
    let k = g.H.Hold.config c.args.hold.now in
    let d = g.H.Hold.rooms c.args.hold.now in
    let d2 = g.H.Hold.rooms c.act_first.new.hold in
    subst (λ m. Serves_one k d d2 m c.args.free c.in-Some.acted.what c.args.self.now c.move_to.new.self) c.now-now.ensures
    (serves_one k d d2 c.now-now.result c.args.free c.in-Some.acted c.args.self.now c.act_first.new.self c.note_event.new.self c.move_to.new.self
    (c.if-is_idle.ensures.some refl) (c.if-is_idle.ensures.token refl)
    (subst (λ n. ActsFirst k d d2 n c.in-Some.acted c.args.self.now c.act_first.new.self) (sym c.now-now.ensures) (acts g c))
    c.note_event.ensures c.move_to.ensures.conn c.move_to.ensures.entry c.move_to.ensures.limit)

pub returns-clause-moves : goal.returns-clause-moves
returns-clause-moves g c =
    let k = g.H.Hold.config c.args.hold.now in
    subst (λ (a : Option Action). MovesFirst g.H.Hold.moves (asker_at k c.args.self.now) a c.args.hold.now c.act_first.new.hold) c.in-Some.is c.in_ok-acted.ensures.moves

pub returns-clause-rests : goal.returns-clause-rests
returns-clause-rests g c =
    let k = g.H.Hold.config c.args.hold.now in
    let d = g.H.Hold.rooms c.args.hold.now in
    let d2 = g.H.Hold.rooms c.act_first.new.hold in
    serves_rests k d d2 c.now-now.result c.in-Some.acted c.args.self.now c.act_first.new.self c.note_event.new.self c.move_to.new.self c.requires
    (subst (λ n. ActsFirst k d d2 n c.in-Some.acted c.args.self.now c.act_first.new.self) (sym c.now-now.ensures) (acts g c))
    c.note_event.ensures c.move_to.ensures.conn c.move_to.ensures.entry
