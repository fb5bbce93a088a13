use Rattle.sc_store_alone.proofs.DiskPuts.{keeps_alone}
use Rattle.sc_store_any.proofs.Preprocessing.{put_at}
use Rattle.sc_store_any.proofs.preprocessor.put_level.Goals as goal

pub returns-clause-keeps : goal.returns-clause-keeps
returns-clause-keeps g c = keeps_alone c.args.level c.args.levels.now c.put_pre_step.new.self c.put_pre_step.ensures.alone c.put_pre_step.ensures.entries

pub returns-clause-wrote : goal.returns-clause-wrote
returns-clause-wrote g c =
    let e = c.put_pre_step.ensures in
    put_at c.put_pre_step.result c.args.level c.args.key.now c.args.bytes.now c.args.levels.now c.put_pre_step.new.self e.alone e.later e.entries e.marks e.put e.cause e.early e.remote e.only_read
