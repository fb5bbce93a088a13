use Rattle.sc_store_any.proofs.Preprocessing.{asked_at}
use Rattle.sc_store_any.proofs.preprocessor.ask_level.Goals as goal

pub returns-clause-asked : goal.returns-clause-asked
returns-clause-asked g c =
    let e = c.ask.ensures in
    asked_at c.ask.result c.args.level c.args.key.now c.args.levels.now c.ask.new.self e.titles e.facts e.policy e.told e.rooms e.alone e.later e.asked e.cause e.bad_key e.mark e.marks e.marks_alone
