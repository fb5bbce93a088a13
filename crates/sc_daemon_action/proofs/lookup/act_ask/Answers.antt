use Rattle.std.proofs.Common.{ℕ, refl, sym, ◌∙◌, ap}
use Rattle.sc_daemon_job.specs.Setups.{setup}
use Rattle.sc_model.proofs.There.{hit_there}
use Rattle.sc_model.specs.Phases.{whole_phase}
use Rattle.sc_model.specs.declared.event.Mode.TheVariants.{Whole}
use Rattle.sc_daemon_action.proofs.lookup.act_ask.Goals as goal

pub returns-clause-acts : goal.returns-clause-acts
returns-clause-acts g c =
    let k = g.H.Hold.config c.args.hold.now in
    let answer = c.in_ok-lookup.lookup.answer in
    record {
      fits = (refl, c.in_ok-key.ensures, refl, c.in_ok-lookup.ensures.handed);
      then = c.in_ok-phase.ensures.phase k (sym c.level_count-levels.ensures) (sym c.is_single-single.ensures) ∙ ap (λ (m : ℕ). whole_phase (setup k) c.args.job m c.args.level answer) c.now-now.ensures;
      stands = c.in_ok-phase.ensures.stands k c.args.request.now (sym c.level_count-levels.ensures);
      still = tt;
      there = hit_there k.policy k.levels c.args.level c.args.job.found.key Whole answer c.in_ok-lookup.lookup.handed c.in_ok-lookup.ensures.handed;
    }
