use Rattle.std.proofs.Common.{ℕ, ap, ◌∙◌}
use Rattle.sc_daemon_job.specs.Setups.{setup}
use Rattle.sc_model.specs.Phases.{ran_phase}
use Rattle.sc_model.specs.declared.message.Request.TheVariants.{Compile as CompileOf}
use Rattle.sc_daemon_action.proofs.running.act_run.Goals as goal

pub returns-clause-acts : goal.returns-clause-acts
returns-clause-acts g c =
    let k = g.H.Hold.config c.args.hold.now in
    record {
      fits = tt;
      then = c.in_ok-phase.ensures.phase k c.args.request.now ∙ ap (λ (m : ℕ). ran_phase (setup k) (CompileOf c.args.request.now) c.args.work m c.in_ok-answer.answer) c.now-now.ensures;
      stands = c.in_ok-phase.ensures.stands k c.args.request.now;
      still = tt;
      there = tt;
    }
