use Rattle.std.proofs.Common.{subst, sym}
use Rattle.sc_model.specs.declared.level.LevelKind.{LevelKind}
use Rattle.sc_store_alone.specs.Storages.{PathsAlone}
use Rattle.sc_store_alone.proofs.disk.DiskCacheStorage.get_path.Goals as goal

pub returns-clause-found : goal.returns-clause-found
returns-clause-found g c = subst (λ (k : LevelKind). PathsAlone k c.args.key.now c.path_in.result c.args.self.now c.look_disk.new.store) (sym c.look_disk.ensures.kind) (c.in_ok-answer.answer, c.in_ok-answer.ensures.looked, c.path_in.ensures)
