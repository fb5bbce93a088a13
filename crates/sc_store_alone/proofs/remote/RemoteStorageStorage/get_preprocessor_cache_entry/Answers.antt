use Rattle.sc_model.specs.declared.event.Mode.TheVariants.{Pre}
use Rattle.sc_store_alone.proofs.Answered.{lookup_refused}
use Rattle.sc_store_alone.proofs.remote.RemoteStorageStorage.get_preprocessor_cache_entry.Goals as goal

pub returns-clause-refused : goal.returns-clause-refused
returns-clause-refused g c = lookup_refused c.bytes_in.result c.args.key.now Pre c.in_ok-answer.answer c.args.self.now c.look_remote.new.store c.in_ok-answer.ensures.looked c.bytes_in.ensures.refused
