use Rattle.std.proofs.Common.{rules, ◌≡◌, ◌<◌, Some, None, ◌+◌, ◌∙◌, refl, sym, add-one}
use Rattle.sc_model.specs.Plan.{level_facts}
use Rattle.sc_store.specs.Held.{level_in}
use Rattle.sc_store_alone.specs.Lookups.{hit_in}
use Rattle.sc_store_alone.specs.Moving.{counted}
use Rattle.sc_store_any.proofs.Chains.{hit_spelled, keeps_then, turn}
use Rattle.sc_store_any.proofs.lookup.find.Goals as goal

pub returns-in-Some-clause-found : goal.returns-in-Some-clause-found
returns-in-Some-clause-found g c =
    let loop = c.loop-level in
    let between = counted c.ask_level.new.levels c.ask_level.new.counters in
    let less : loop.level < c.len-count.result = search rules in
    let is : Some c.in-Some.hit ≡ hit_in loop.level c.in_ok-answer.answer = sym c.in-Some.is ∙ c.hit_in.ensures in
    loop.invariant.chain (Some c.in-Some.hit) between
    (turn c.len-count.result loop.level (loop.level + 1) c.args.key.now c.args.mode c.in_ok-answer.answer (Some c.in-Some.hit) (Some c.in-Some.hit) (counted loop.levels loop.counters) between between less (add-one loop.level) is c.in_ok-answer.ensures.asked (refl, refl))

pub returns-in-Some-clause-spelled : goal.returns-in-Some-clause-spelled
returns-in-Some-clause-spelled g c whole =
    let loop = c.loop-level in
    let is : Some c.in-Some.hit ≡ hit_in loop.level c.in_ok-answer.answer = sym c.in-Some.is ∙ c.hit_in.ensures in
    hit_spelled loop.level (level_facts loop.levels.facts loop.level).kind c.args.key.now c.args.mode c.in_ok-answer.answer c.in-Some.hit (level_in loop.levels.levels loop.level) (level_in c.ask_level.new.levels.levels loop.level) whole is c.in_ok-answer.ensures.asked.asked.cause

pub loop-level-preserved : goal.loop-level-preserved
loop-level-preserved g c =
    let loop = c.loop-level in
    let between = counted c.ask_level.new.levels c.ask_level.new.counters in
    let less : loop.level < c.len-count.result = search rules in
    let is : None ≡ hit_in loop.level c.in_ok-answer.answer = sym c.in_default.is ∙ c.hit_in.ensures in
    record {
      keeps = keeps_then c.args.levels.now loop.levels c.ask_level.new.levels loop.invariant.keeps c.ask_level.ensures.keeps;
      count = loop.invariant.count;
      chain = λ found new rest. loop.invariant.chain found new
          (turn c.len-count.result loop.level (loop.level + 1) c.args.key.now c.args.mode c.in_ok-answer.answer None found (counted loop.levels loop.counters) between new less (add-one loop.level) is c.in_ok-answer.ensures.asked rest);
    }
