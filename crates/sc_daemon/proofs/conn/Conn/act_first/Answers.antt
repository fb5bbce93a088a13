use Rattle.std.proofs.Common.{Option, drop, sym, subst}
use Rattle.sc_daemon_action.specs.Hands.{ActsWith, ServesWith, hand_of}
use Rattle.sc_daemon.specs.Lines.{Line, asker_at, conn_of}
use Rattle.sc_daemon.specs.Turns.{ActsFirst}
use Rattle.sc_daemon.specs.contracts.conn.Conn.{the_view}
use Rattle.sc_daemon.proofs.Firsts.{current_is, first_rest}
use Rattle.sc_disk.specs.Store.{AddEntry}
use Rattle.sc_daemon_hold.specs.Holding.{HandsIn, KeepsIn}
use Rattle.sc_daemon_job.specs.Askers.{Asker}
use Rattle.sc_daemon_job.specs.Setups.{setup}
use Rattle.sc_model.specs.Conns.{current, need_at}
use Rattle.sc_model.specs.Rows.{Direct}
use Rattle.sc_model.specs.declared.message.Request.{Request}
use Rattle.sc_model.specs.declared.phase.Phase.{Phase}
use Rattle.sc_daemon.proofs.conn.Conn.act_first.Goals as goal

pub act-requires : goal.act-requires
act-requires g c =
    let k = g.H.Hold.config c.args.hold.now in
    let d = g.H.Hold.rooms c.args.hold.now in
    let i = c.self.inside in
    let r = c.in-Some.request.now in
    let here = current_is (the_view i) r (drop 1 i.waiting) (first_rest i.waiting r c.in-Some.ensures) in
    subst (λ (e : Option AddEntry). ServesWith k d c.replace-phase.result e r) (sym c.take-entry.ensures.value)
    (subst (λ (p : Phase). ServesWith k d p i.entry r) (sym c.replace-phase.ensures.value)
    (subst (λ (q : Request). ServesWith k d i.phase i.entry q) here
    (subst (λ (l : Line). ServesWith k d l.phase l.entry (current (conn_of l))) (sym c.self.view_is) c.requires)))

pub returns-clause-acts : goal.returns-clause-acts
returns-clause-acts g c =
    let k = g.H.Hold.config c.args.hold.now in
    let d = g.H.Hold.rooms c.args.hold.now in
    let d2 = g.H.Hold.rooms c.act.new.hold in
    let m = g.H.Hold.moment c.act.new.hold in
    let acted = c.in_ok-acted.acted in
    let x = acted.what in
    let i = c.self.inside in
    let r = c.in-Some.request.now in
    let phase = c.replace-phase.ensures.value in
    let entry = c.take-entry.ensures.value in
    let after : Phase → Option AddEntry → Line = λ (p : Phase) (e : Option AddEntry). the_view record { inbox = i.inbox; waiting = i.waiting; at = i.at; phase = p; entry = e; last = i.last; outcome = i.outcome; reserved = i.reserved; out = c.act.new.out; long = i.long } in
    let now : Line = after c.replace-phase.new.dest c.take-entry.new.self in
    let first : ActsFirst k d d2 m acted c.args.self.now now = subst (λ (l : Line). ActsFirst k d d2 m acted l now) c.self.view_is
    record {
      request = r;
      rest = drop 1 i.waiting;
      first = first_rest i.waiting r c.in-Some.ensures;
      acts = subst (λ (p : Phase). ActsWith k d2 r p m acted) phase c.in_ok-acted.ensures.acts;
      hands = subst (λ (e : Option AddEntry). HandsIn d x (hand_of e i.phase) (hand_of acted.entry acted.phase)) entry
          (subst (λ (p : Phase). HandsIn d x (hand_of c.take-entry.result p) (hand_of acted.entry acted.phase)) phase c.in_ok-acted.ensures.hands);
      others = subst (λ (e : Option AddEntry). KeepsIn (hand_of e i.phase) d d2) entry
          (subst (λ (p : Phase). KeepsIn (hand_of c.take-entry.result p) d d2) phase c.in_ok-acted.ensures.others);
      same = λ j. after (c.replace-phase.ensures.after j) (c.take-entry.ensures.after j);
      out = c.in_ok-acted.ensures.sent;
    } in
    first

pub returns-clause-moves : goal.returns-clause-moves
returns-clause-moves g c =
    let k = g.H.Hold.config c.args.hold.now in
    let what = c.in_ok-acted.acted.what in
    let i = c.self.inside in
    let at : Line = the_view i in
    let asks : Request → Phase → Asker = λ r p. record { need = need_at (setup k) r p; request = r; origin = Direct; last = i.last; outcome = i.outcome; reserved = i.reserved } in
    subst (λ (l : Line). g.H.Hold.moves c.args.hold.now (asker_at k l) what c.act.new.hold) c.self.view_is
    (subst (λ (r : Request). g.H.Hold.moves c.args.hold.now (asks r i.phase) what c.act.new.hold)
    (sym (current_is at c.in-Some.request.now (drop 1 i.waiting) (first_rest i.waiting c.in-Some.request.now c.in-Some.ensures)))
    (subst (λ (p : Phase). g.H.Hold.moves c.args.hold.now (asks c.in-Some.request.now p) what c.act.new.hold) c.replace-phase.ensures.value c.in_ok-acted.ensures.moves))
