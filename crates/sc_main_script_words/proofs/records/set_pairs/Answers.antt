use Rattle.std.proofs.Common.{◌∙◌}
use Rattle.sc_main_script_words.proofs.RecordedPairs.{pair_goes_on}
use Rattle.sc_main_script_words.proofs.records.set_pairs.Goals as goal

pub loop-name-preserved : goal.loop-name-preserved
loop-name-preserved c =
    pair_goes_on c.loop-name.stats c.set_pair.new.stats c.loop-name.words c.next.new.self c.word.new.self c.in-Some.name.now c.in_ok-word.field-0.now c.in-Some.ensures c.in_ok-word.ensures c.in_ok-set_pair.ensures
    ∙ c.loop-name.invariant
