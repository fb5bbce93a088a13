use Rattle.std.proofs.Common.{Bool, true, is_some, sym, subst}
use Rattle.sc_disk_pair.specs.Pairs.{root_of}
use Rattle.sc_disk_pair.specs.declared.part.Part.TheVariants.{Main}
use Rattle.sc_store_disk.specs.DiskStores.{level_of}
use Rattle.sc_store_disk.specs.Moving.{HasFile}
use Rattle.sc_store_disk.proofs.Looking.{path-has, path-steady}
use Rattle.sc_store_disk.proofs.reading.touch.Goals as goal

pub returns-clause-steady : goal.returns-clause-steady
returns-clause-steady g c = λ mode capacity. let e = c.get_abs_path.ensures in path-steady mode capacity c.args.cache.now.store c.get_abs_path.new.self.store e.sizes e.pending e.disk

pub returns-clause-there : goal.returns-clause-there
returns-clause-there g c =
    let old = c.args.cache.now.store in
    let new = c.get_abs_path.new.self.store in
    let e = c.get_abs_path.ensures in
    subst (λ (b : Bool). HasFile c.args.path.now b (is_some old.disk.told) (level_of true new.index new.disk)) (sym c.is_some.ensures)
    (path-has c.args.path.now (root_of Main old.disk.root c.args.cache.now.pre_root) c.in_ok-found.found old new c.keeps.ensures.sound c.requires e.sizes e.pending e.disk c.in_ok-found.ensures.path)

pub returns-in_err-found-clause-steady : goal.returns-in_err-found-clause-steady
returns-in_err-found-clause-steady g c = λ mode capacity. let e = c.get_abs_path.ensures in path-steady mode capacity c.args.cache.now.store c.get_abs_path.new.self.store e.sizes e.pending e.disk
