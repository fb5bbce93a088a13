use Rattle.std.proofs.Common.{rules, ◌<◌, refl, add-one}
use Rattle.sc_store_alone.specs.declared.step.Step.TheVariants.{Ends, Goes}
use Rattle.sc_store.specs.declared.checked.Checked.TheVariants.{Refused}
use Rattle.sc_store_any.proofs.Turns.{stays_then, turn}
use Rattle.sc_store_any.proofs.checking.check.Goals as goal

pub returns-in-Ends-clause-checked : goal.returns-in-Ends-clause-checked
returns-in-Ends-clause-checked g c =
    let loop = c.loop-level in
    let new = c.take_turn.new.levels in
    let less : loop.level < c.len-count.result = search rules in
    loop.invariant.chain (Refused c.in-Ends.cause) new
    (turn c.len-count.result loop.level _ loop.mode c.in_ok-found.field-0 (Ends c.in-Ends.cause) (Refused c.in-Ends.cause) loop.levels new new less refl c.in-Ends.is c.in_ok-found.ensures.turn (refl, refl))

pub loop-level-preserved : goal.loop-level-preserved
loop-level-preserved g c =
    let loop = c.loop-level in
    let between = c.take_turn.new.levels in
    let less : loop.level < c.len-count.result = search rules in
    record {
      stays = stays_then c.args.levels.now loop.levels between loop.invariant.stays c.take_turn.ensures.stays;
      count = loop.invariant.count;
      chain = λ answer new rest. loop.invariant.chain answer new
          (turn c.len-count.result loop.level _ loop.mode c.in_ok-found.field-0 (Goes c.in-Goes.found) answer loop.levels between new less (add-one loop.level) c.in-Goes.is c.in_ok-found.ensures.turn rest);
    }
