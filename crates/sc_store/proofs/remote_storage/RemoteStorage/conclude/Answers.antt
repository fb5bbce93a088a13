use Rattle.sc_store.proofs.Devices.{later_same}
use Rattle.sc_store.proofs.remote_storage.RemoteStorage.conclude.Goals as goal

pub returns-in-Some-clause-later : goal.returns-in-Some-clause-later
returns-in-Some-clause-later g c = later_same c.args.self.now.level
