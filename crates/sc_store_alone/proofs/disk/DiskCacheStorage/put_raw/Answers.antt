use Rattle.sc_store_alone.proofs.Answered.{at_disk, put_refused, was_put}
use Rattle.sc_store_alone.specs.Storages.{PutsAlone}
use Rattle.sc_store_alone.proofs.disk.DiskCacheStorage.put_raw.Goals as goal

pub returns-clause-wrote : goal.returns-clause-wrote
returns-clause-wrote g c =
    let old = c.args.self.now in
    let new = c.put_disk.new.store in
    let puts : PutsAlone old.facts.kind c.args.key.now c.args.bytes c.in_ok-how.how old new = at_disk old.facts.kind c.args.key.now c.args.bytes c.in_ok-how.how old new c.put_disk.ensures.kind c.in_ok-how.ensures.wrote in
    was_put c.ended.result old.facts.kind c.args.key.now c.args.bytes c.in_ok-how.how old new puts c.ended.ensures.done

pub returns-clause-refused : goal.returns-clause-refused
returns-clause-refused g c =
    let old = c.args.self.now in
    let new = c.put_disk.new.store in
    let puts : PutsAlone old.facts.kind c.args.key.now c.args.bytes c.in_ok-how.how old new = at_disk old.facts.kind c.args.key.now c.args.bytes c.in_ok-how.how old new c.put_disk.ensures.kind c.in_ok-how.ensures.wrote in
    put_refused c.ended.result c.args.key.now c.args.bytes c.in_ok-how.how old new puts c.ended.ensures.refused
