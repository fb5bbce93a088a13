use Rattle.std.proofs.Common.{refl}
use Rattle.sc_model.proofs.There.{hit_there}
use Rattle.sc_model.specs.declared.event.Mode.TheVariants.{Path}
use Rattle.sc_daemon_action.proofs.paths.act_path_ask.Goals as goal

pub returns-clause-acts : goal.returns-clause-acts
returns-clause-acts g c =
    let k = g.H.Hold.config c.args.hold.now in
    let lookup = c.in_ok-lookup in
    record {
      fits = (refl, refl, refl, lookup.ensures.handed);
      then = c.in_ok-phase.ensures.phase;
      stands = c.in_ok-phase.ensures.stands k c.args.wanted.now;
      still = tt;
      there = hit_there k.policy k.levels 0 c.args.key Path lookup.lookup.answer lookup.lookup.handed lookup.ensures.handed;
    }
