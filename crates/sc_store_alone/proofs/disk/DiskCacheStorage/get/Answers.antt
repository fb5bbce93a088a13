use Rattle.sc_model.specs.declared.event.Mode.TheVariants.{Whole}
use Rattle.sc_store_alone.proofs.Answered.{lookup_refused}
use Rattle.sc_store_alone.proofs.disk.DiskCacheStorage.get.Goals as goal

pub returns-clause-refused : goal.returns-clause-refused
returns-clause-refused g c = lookup_refused c.cache_in.result c.args.key.now Whole c.in_ok-answer.answer c.args.self.now c.look_disk.new.store c.in_ok-answer.ensures.looked c.cache_in.ensures.refused
