use Rattle.std.proofs.Common.{subst}
use Rattle.sc_model.specs.Levels.{KeepsMarks}
use Rattle.sc_store.specs.Held.{HeldLevel, modes_of, remote_given}
use Rattle.sc_store.proofs.Askings.{same_marks}
use Rattle.sc_store.proofs.remote_storage.RemoteStorage.kind.Goals as goal

pub returns-clause-marks : goal.returns-clause-marks
returns-clause-marks g c =
    let r = g.R.Remote in let s = c.self.inside.remote in
    subst (λ (h : HeldLevel). KeepsMarks h.level h.level) c.self.view_is
    (same_marks (r.names s) (remote_given c.self.inside.basedirs c.self.inside.skip_cache_check) (modes_of c.self.inside.configured c.self.inside.mode) (r.held s) (r.fault_count s) (r.loss_count s) (r.calls s) (r.reached s) c.self.inside.marks)
