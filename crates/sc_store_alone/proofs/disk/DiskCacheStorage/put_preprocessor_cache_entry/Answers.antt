use Rattle.sc_store_alone.proofs.Preprocessing.{put_refused, was_put}
use Rattle.sc_store_alone.proofs.disk.DiskCacheStorage.put_preprocessor_cache_entry.Goals as goal

pub returns-clause-wrote : goal.returns-clause-wrote
returns-clause-wrote g c =
    let old = c.args.self.now in
    was_put c.ended.result old.facts.kind c.args.key.now c.args.bytes.now c.in_ok-how.how old c.put_pre_disk.new.store c.put_pre_disk.ensures.kind c.in_ok-how.ensures.wrote c.ended.ensures.done

pub returns-clause-refused : goal.returns-clause-refused
returns-clause-refused g c =
    let old = c.args.self.now in
    put_refused c.ended.result old.facts.kind c.args.key.now c.args.bytes.now c.in_ok-how.how old c.put_pre_disk.new.store c.put_pre_disk.ensures.kind c.in_ok-how.ensures.wrote c.ended.ensures.refused
