use Rattle.sc_store_alone.proofs.Preprocessing.{put_alone}
use Rattle.sc_store_alone.proofs.disk.put_pre_disk.Goals as goal

pub returns-clause-wrote : goal.returns-clause-wrote
returns-clause-wrote g c =
    let e = c.put_pre.ensures in
    put_alone c.put_pre.result c.args.key.now c.args.bytes.now c.args.store.now c.put_pre.new.self c.keeps.ensures.bare c.keeps.ensures.kind e.stays.later e.marks e.put e.cause e.early
