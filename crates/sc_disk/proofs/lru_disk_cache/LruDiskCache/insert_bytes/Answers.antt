use Rattle.std.proofs.Common.{ℕ, Bool, ◌∷◌, [], length, inl, inr, sym, subst}
use Rattle.sc_disk.specs.Calls.{Commits, RefusesAdd, RefusesCommit}
use Rattle.sc_disk.specs.Disks.{Does, DoesPart}
use Rattle.sc_disk.specs.Inserting.{Inserts, RefusesInsert}
use Rattle.sc_disk.specs.declared.change.Change.TheVariants.{Added}
use Rattle.sc_disk.specs.Store.{IsTidy, temporary_of}
use Rattle.sc_disk.specs.declared.error.Error.{Error}
use Rattle.sc_disk.proofs.Placing.{if_err_and}
use Rattle.sc_disk.proofs.Wholes.{if_err, inserted, on_ok}
use Rattle.sc_disk.proofs.lru_disk_cache.LruDiskCache.insert_bytes.Goals as goal

pub commit-requires : goal.commit-requires
commit-requires g c = c.in-Ok.ensures.opened

pub give_up-requires : goal.give_up-requires
give_up-requires g c = c.in-Err.ensures.opened

pub returns-in-Ok-clause-ok : goal.returns-in-Ok-clause-ok
returns-in-Ok-clause-ok g c = let p = c.in_ok-entry.ensures.ok in let f = c.in-Ok.ensures in let e = c.in_ok-entry.entry in let size = length c.args.bytes.now in
    on_ok c.commit.result ((r : ℕ) × (m : ℕ) × Commits e r c.args.now m c.fill.new.self c.commit.new.self)
    ((number : ℕ) × (n : ℕ) × (r : ℕ) × (m : ℕ) × Inserts c.args.key.now (c.args.bytes.now ∷ []) size c.args.now number n r m c.args.self.now c.commit.new.self)
    (λ d. (
      e.number,
      p.0,
      d.0,
      d.1,
      inserted e c.args.key.now (c.args.bytes.now ∷ []) size c.args.now p.0 d.0 d.1 c.args.self.now c.prepare_add.new.self c.fill.new.self c.commit.new.self p.1
          (record { index = f.index; pending = f.pending; capacity = f.capacity; disk = f.ok }) d.2,
    )) c.commit.ensures.ok

pub returns-in-Ok-clause-err : goal.returns-in-Ok-clause-err
unfolding RefusesInsert
returns-in-Ok-clause-err g c = let p = c.in_ok-entry.ensures.ok in let f = c.in-Ok.ensures in let e = c.in_ok-entry.entry in let size = length c.args.bytes.now in
    if_err c.commit.result (λ refused. (m : ℕ) × (touches : Bool) × (removes : Bool) × RefusesCommit refused e c.args.now m touches removes c.fill.new.self c.commit.new.self)
    (λ refused. RefusesInsert refused c.args.key.now size c.args.now (λ e. DoesPart (temporary_of e) c.args.bytes.now) (λ e. Does (Added (temporary_of e) c.args.bytes.now ∷ [])) c.args.self.now c.commit.new.self)
    (λ refused d. inr (e, p.0, c.prepare_add.new.self, c.fill.new.self, p.1, inr (d.0, d.1, d.2, record { index = f.index; pending = f.pending; capacity = f.capacity; disk = f.ok }, d.3))) c.commit.ensures.err

pub returns-in-Err-clause-err : goal.returns-in-Err-clause-err
unfolding RefusesInsert
returns-in-Err-clause-err g c = let p = c.in_ok-entry.ensures.ok in let f = c.in-Err.ensures in let u = c.give_up.ensures in
    inr (c.in_ok-entry.entry, p.0, c.prepare_add.new.self, c.fill.new.self, p.1, inl (c.in-Err.refused, u.0, record { index = f.index; pending = f.pending; capacity = f.capacity; disk = f.err }, f.cause, u.1))

pub returns-in-Ok-clause-tidy : goal.returns-in-Ok-clause-tidy
returns-in-Ok-clause-tidy g c = on_ok c.commit.result (IsTidy c.fill.new.self → IsTidy c.commit.new.self) (IsTidy c.args.self.now → IsTidy c.commit.new.self) (λ step h. step (c.in-Ok.ensures.tidy (c.in_ok-entry.ensures.tidy h))) c.commit.ensures.tidy

pub returns-in_err-entry-clause-err : goal.returns-in_err-entry-clause-err
unfolding RefusesInsert
returns-in_err-entry-clause-err g c = let new = c.prepare_add.new.self in let a = c.in_err-entry.ensures.err in
    if_err_and c.from_residual.result _ _ c.from_residual.ensures.1 (λ r same. inl (a.0, subst (λ (x : Error). RefusesAdd x c.args.key.now (length c.args.bytes.now) a.0 c.args.self.now new) (sym same) a.1))
