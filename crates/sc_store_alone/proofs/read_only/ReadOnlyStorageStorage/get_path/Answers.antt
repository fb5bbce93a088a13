use Rattle.sc_store_alone.proofs.Keeping.{keeps_same}
use Rattle.sc_store_alone.proofs.read_only.ReadOnlyStorageStorage.get_path.Goals as goal

pub returns-clause-keeps : goal.returns-clause-keeps
returns-clause-keeps g c = keeps_same (g.S.Storage.state c.args.self.now.store)
