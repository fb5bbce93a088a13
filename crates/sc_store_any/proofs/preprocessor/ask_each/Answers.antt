use Rattle.std.proofs.Common.{rules, ◌≡◌, ◌<◌, true, false, refl, add-one}
use Rattle.sc_store_alone.specs.Preprocessor.{is_miss}
use Rattle.sc_store_any.proofs.Chains.{keeps_then}
use Rattle.sc_store_any.proofs.Preprocessing.{turn}
use Rattle.sc_store_any.proofs.preprocessor.ask_each.Goals as goal

pub returns-then-not-is_miss-clause-asked : goal.returns-then-not-is_miss-clause-asked
returns-then-not-is_miss-clause-asked g c =
    let loop = c.loop-level in
    let new = c.ask_level.new.levels in
    let less : loop.level < c.len-count.result = search rules in
    let is : false ≡ is_miss c.in_ok-answer.answer = search rules in
    loop.invariant.chain c.in_ok-answer.answer new
    (turn c.len-count.result loop.level _ c.args.key.now false c.in_ok-answer.answer c.in_ok-answer.answer loop.levels new new less refl is c.in_ok-answer.ensures.asked (refl, refl))

pub loop-level-preserved : goal.loop-level-preserved
loop-level-preserved g c =
    let loop = c.loop-level in
    let between = c.ask_level.new.levels in
    let less : loop.level < c.len-count.result = search rules in
    let is : true ≡ is_miss c.in_ok-answer.answer = search rules in
    record {
      keeps = keeps_then c.args.levels.now loop.levels between loop.invariant.keeps c.ask_level.ensures.keeps;
      count = loop.invariant.count;
      chain = λ answer new rest. loop.invariant.chain answer new
          (turn c.len-count.result loop.level _ c.args.key.now true c.in_ok-answer.answer answer loop.levels between new less (add-one loop.level) is c.in_ok-answer.ensures.asked rest);
    }
