use Rattle.sc_store.proofs.Devices.{later_same}
use Rattle.sc_store.proofs.remote_storage.RemoteStorage.greet.Goals as goal

pub returns-then-is_read_only-clause-later : goal.returns-then-is_read_only-clause-later
returns-then-is_read_only-clause-later g c = later_same c.args.self.now.level
