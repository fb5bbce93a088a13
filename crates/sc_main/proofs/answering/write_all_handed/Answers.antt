use Rattle.std.proofs.Common.{◌∙◌, ap}
use Rattle.sc_main.proofs.Going.{writes_done, writes_on}
use Rattle.sc_daemon.specs.Sessions.{Session}
use Rattle.sc_main.proofs.answering.write_all_handed.Goals as goal

pub loop-action-preserved : goal.loop-action-preserved
loop-action-preserved g c = record {
  so_far = λ refused first heard link f.
      writes_on refused first c.loop-action.session c.raise.new.session c.back.new.self heard (g.C.Clock.moments c.loop-action.clock) (g.C.Clock.moments c.raise.new.clock) link c.raise.result c.in_ok-event.event
      (c.loop-action.invariant.so_far refused first heard link f) c.raise.ensures.session c.raise.ensures.ticks c.in_ok-event.ensures.backs c.back.ensures.line c.in_ok-event.ensures.stays;
  line = c.back.ensures.line ∙ ap (λ (x : Session). x.line) c.raise.ensures.session ∙ c.loop-action.invariant.line;
  pauses = c.raise.ensures.pauses ∙ c.loop-action.invariant.pauses;
}

pub returns-then-is_idle-clause-writes : goal.returns-then-is_idle-clause-writes
returns-then-is_idle-clause-writes g c refused first heard link f =
    writes_on refused first c.loop-action.session c.raise.new.session c.back.new.self heard (g.C.Clock.moments c.loop-action.clock) (g.C.Clock.moments c.raise.new.clock) link c.raise.result c.in_ok-event.event
    (c.loop-action.invariant.so_far refused first heard link f) c.raise.ensures.session c.raise.ensures.ticks c.in_ok-event.ensures.backs c.back.ensures.line c.in_ok-event.ensures.stays

pub returns-then-is_idle-clause-background : goal.returns-then-is_idle-clause-background
returns-then-is_idle-clause-background g c =
    writes_done c.raise.result c.in_ok-event.event c.loop-action.session c.raise.new.session c.back.new.self c.raise.ensures.session c.in_ok-event.ensures.backs (c.is_nobodys-is_idle.ensures c.if-is_idle.true)
