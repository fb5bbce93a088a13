use Rattle.std.proofs.Common.{ℕ, ap, ◌∙◌}
use Rattle.sc_daemon_job.specs.Setups.{Config, setup}
use Rattle.sc_model.specs.Phases.{dist_phase}
use Rattle.sc_model.specs.declared.message.Request.TheVariants.{Compile as CompileOf}
use Rattle.sc_daemon_action.proofs.running.act_dist.Goals as goal

pub returns-clause-acts : goal.returns-clause-acts
returns-clause-acts g c =
    let k = g.H.Hold.config c.args.hold.now in
    record {
      fits = tt;
      then = c.in_ok-phase.ensures.phase ∙ ap (λ (q : Config). dist_phase (setup q) (CompileOf c.args.request.now) c.args.work c.now-now.result c.in_ok-answer.answer) c.in_ok-answer.ensures.same ∙ ap (λ (m : ℕ). dist_phase (setup k) (CompileOf c.args.request.now) c.args.work m c.in_ok-answer.answer) c.now-now.ensures;
      stands = c.in_ok-phase.ensures.stands k;
      still = tt;
      there = tt;
    }
