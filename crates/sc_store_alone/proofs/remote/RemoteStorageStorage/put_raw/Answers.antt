use Rattle.sc_store_alone.proofs.Answered.{put_refused, was_put}
use Rattle.sc_store_alone.proofs.remote.RemoteStorageStorage.put_raw.Goals as goal

pub returns-clause-wrote : goal.returns-clause-wrote
returns-clause-wrote g c = was_put c.ended.result c.args.self.now.facts.kind c.args.key.now c.args.bytes c.in_ok-how.how c.args.self.now c.put_remote.new.store c.in_ok-how.ensures.wrote c.ended.ensures.done

pub returns-clause-refused : goal.returns-clause-refused
returns-clause-refused g c = put_refused c.ended.result c.args.key.now c.args.bytes c.in_ok-how.how c.args.self.now c.put_remote.new.store c.in_ok-how.ensures.wrote c.ended.ensures.refused
