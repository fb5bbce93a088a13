use Rattle.std.proofs.Common.{refl, sym}
use Rattle.sc_model.proofs.There.{hit_there}
use Rattle.sc_model.specs.declared.event.Mode.TheVariants.{Pre}
use Rattle.sc_daemon_action.proofs.preprocessor.act_pre_ask.Goals as goal

pub returns-clause-acts : goal.returns-clause-acts
returns-clause-acts g c =
    let k = g.H.Hold.config c.args.hold.now in
    let lookup = c.in_ok-lookup in
    record {
      fits = (refl, c.in_ok-asked_key.ensures, refl, lookup.ensures.handed);
      then = c.in_ok-phase.ensures.phase k (sym c.level_count-levels.ensures);
      stands = c.in_ok-phase.ensures.stands k c.args.wanted.now (sym c.level_count-levels.ensures);
      still = tt;
      there = hit_there k.policy k.levels c.args.level c.args.key Pre lookup.lookup.answer lookup.lookup.handed lookup.ensures.handed;
    }
