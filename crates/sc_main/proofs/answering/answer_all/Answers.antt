use Rattle.std.proofs.Common.{◌∙◌}
use Rattle.sc_main.proofs.Going.{answered_idle, answers_none, answers_on}
use Rattle.sc_main.proofs.answering.answer_all.Goals as goal

pub loop-action-preserved : goal.loop-action-preserved
loop-action-preserved g c =
    let s = c.loop-action.session in
    let s1 = c.raise.new.session in
    let s2 = c.serve.new.self in
    let s3 = c.send_due-refused.new.session in
    let now = c.raise.result in
    let event = c.in_ok-event.event in
    record {
      so_far = λ first wait f.
          answers_on c.loop-action.refused c.tell-refused.result c.send_due-refused.result first s s1 s2 s3 c.loop-action.messages c.tell-refused.new.messages wait (g.C.Clock.moments c.loop-action.clock) (g.C.Clock.moments c.raise.new.clock) _ _ now event
          (c.loop-action.invariant.so_far first wait f) c.raise.ensures.session c.raise.ensures.ticks c.in_ok-event.ensures.serves c.in_ok-event.ensures.stays c.tell-refused.ensures c.send_due-refused.ensures.sends c.send_due-refused.ensures.session;
      pauses = c.raise.ensures.pauses ∙ c.loop-action.invariant.pauses;
      same_shut = c.send_due-refused.ensures.same_shut ∙ c.loop-action.invariant.same_shut;
      same_number = c.send_due-refused.ensures.same_number ∙ c.loop-action.invariant.same_number;
    }

pub returns-then-is_idle : goal.returns-then-is_idle
returns-then-is_idle g c =
    let s = c.loop-action.session in
    let s1 = c.raise.new.session in
    let s2 = c.serve.new.self in
    let now = c.raise.result in
    let event = c.in_ok-event.event in
    let owner = c.is_nobodys-is_idle.ensures c.if-is_idle.true in
    record {
      answers = λ first wait f.
          answers_none c.loop-action.refused c.tell-refused.result first s s1 s2 c.loop-action.messages c.tell-refused.new.messages wait (g.C.Clock.moments c.loop-action.clock) (g.C.Clock.moments c.raise.new.clock) _ now event
          (c.loop-action.invariant.so_far first wait f) c.raise.ensures.session c.raise.ensures.ticks c.in_ok-event.ensures.serves c.in_ok-event.ensures.stays c.tell-refused.ensures owner;
      idle = answered_idle now event s s1 s2 c.raise.ensures.session c.in_ok-event.ensures.serves owner;
      pauses = c.raise.ensures.pauses ∙ c.loop-action.invariant.pauses;
      same_shut = c.loop-action.invariant.same_shut;
      same_number = c.loop-action.invariant.same_number;
    }
