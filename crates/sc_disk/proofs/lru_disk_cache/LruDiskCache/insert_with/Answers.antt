use Rattle.std.proofs.Common.{inl, inr, refl}
use Rattle.sc_disk.specs.Writing.{RefusesWriting, StoresWritten}
use Rattle.sc_disk.proofs.Wholes.{inserted}
use Rattle.sc_disk.proofs.Written.{open-filled, tidy-filled}
use Rattle.sc_disk.proofs.lru_disk_cache.LruDiskCache.insert_with.Goals as goal

pub commit-requires : goal.commit-requires
commit-requires g c = let e = c.in-Ok.entry in let w = c.in-Ok-write_with.ensures in open-filled e e w.0 c.prepare_add.new.self c.write_with.new.self w.2 c.in-Ok.ensures.opened

pub let_go-requires : goal.let_go-requires
let_go-requires g c = let e = c.in-Ok.entry in let w = c.in-Err-write_with.ensures in open-filled e e w.0 c.prepare_add.new.self c.write_with.new.self w.2 c.in-Ok.ensures.opened

pub returns-in-Err-clause-err : goal.returns-in-Err-clause-err
unfolding RefusesWriting
returns-in-Err-clause-err g c = let a = c.in-Err.ensures.err in inl (c.in-Err.refused, refl, a.0, a.1)

pub returns-in-Ok-commit-clause-ok : goal.returns-in-Ok-commit-clause-ok
unfolding StoresWritten
returns-in-Ok-commit-clause-ok g c = let e = c.in-Ok.entry in let p = c.in-Ok.ensures.ok in let w = c.in-Ok-write_with.ensures in let d = c.in-Ok-commit.ensures.ok in
    (w.0, w.1, e.number, p.0, d.0, d.1, inserted e c.args.key.now w.0 0 c.args.now p.0 d.0 d.1 c.args.self.now c.prepare_add.new.self c.write_with.new.self c.commit.new.self p.1 w.2 d.2)

pub returns-in-Ok-commit-clause-tidy : goal.returns-in-Ok-commit-clause-tidy
returns-in-Ok-commit-clause-tidy g c = λ h. let w = c.in-Ok-write_with.ensures in
    c.in-Ok-commit.ensures.tidy (tidy-filled c.in-Ok.entry w.0 c.prepare_add.new.self c.write_with.new.self w.2 (c.in-Ok.ensures.tidy h))

pub returns-in-Err-commit-clause-err : goal.returns-in-Err-commit-clause-err
unfolding RefusesWriting
returns-in-Err-commit-clause-err g c = let e = c.in-Ok.entry in let p = c.in-Ok.ensures.ok in let w = c.in-Ok-write_with.ensures in let d = c.in-Err-commit.ensures.err in
    inr (e, p.0, c.prepare_add.new.self, c.write_with.new.self, w.0, p.1, w.2, inr (c.in-Err-commit.refused, d.0, d.1, d.2, refl, w.1, d.3))

pub returns-in-Err-write_with-clause-err : goal.returns-in-Err-write_with-clause-err
unfolding RefusesWriting
returns-in-Err-write_with-clause-err g c = let e = c.in-Ok.entry in let p = c.in-Ok.ensures.ok in let w = c.in-Err-write_with.ensures in let u = c.let_go.ensures in
    inr (e, p.0, c.prepare_add.new.self, c.write_with.new.self, w.0, p.1, w.2, inl (c.in-Err-write_with.refused, u.0, w.1, u.1))
