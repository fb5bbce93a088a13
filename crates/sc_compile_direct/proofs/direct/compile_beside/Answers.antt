use Rattle.std.proofs.Common.{rules, ◌≡◌, false, List, ap, ◌∙◌}
use Rattle.sc_daemon_job.specs.Setups.{setup}
use Rattle.sc_compile_direct.specs.Answers.{answer_in}
use Rattle.sc_compile_direct.specs.Following.{newest_first}
use Rattle.sc_compile_direct.specs.Running.{is_over}
use Rattle.sc_compile_direct.specs.declared.job_event.JobEvent.{JobEvent}
use Rattle.sc_compile_direct.proofs.Tying.{compiles, steps_less, steps_on}
use Rattle.sc_compile_direct.proofs.direct.compile_beside.Goals as goal

pub loop-running-smaller : goal.loop-running-smaller
loop-running-smaller g c =
    let goes : is_over c.loop-running.running.phase ≡ false = search rules in
    steps_less g.H.Hold.config g.H.Hold.rooms g.H.Hold.moment g.H.Hold.moves c.args.compile c.args.task c.args.hold.now c.loop-running.hold c.step.new.hold c.loop-running.running c.step.new.self c.loop-running.invariant goes c.in_ok-step.ensures

pub loop-running-preserved : goal.loop-running-preserved
loop-running-preserved g c =
    let goes : is_over c.loop-running.running.phase ≡ false = search rules in
    steps_on g.H.Hold.config g.H.Hold.rooms g.H.Hold.moment g.H.Hold.moves c.args.compile c.args.task c.args.hold.now c.loop-running.hold c.step.new.hold c.loop-running.running c.step.new.self c.loop-running.invariant goes c.in_ok-step.ensures

pub returns-clause-compiles : goal.returns-clause-compiles
returns-clause-compiles g c =
    compiles (setup (g.H.Hold.config c.args.hold.now)) c.args.compile c.args.task c.loop-running.running c.in_ok-answer.answer c.ended-events.result.0 c.ended-events.result.1 c.loop-running.invariant.tied
    (c.in_ok-answer.ensures ∙ ap (λ (events : List JobEvent). answer_in (newest_first events)) c.as_slice.ensures) c.ended-events.ensures.events c.ended-events.ensures.ending
