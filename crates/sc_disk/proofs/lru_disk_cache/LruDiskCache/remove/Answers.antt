use Rattle.std.proofs.Common.{◌≡◌, ℕ, List, None, Some, true, false, Bool, bytes_eq, is_some, refl, sym, ap, ◌∙◌, subst, ◌∷◌, []}
use Rattle.std.specs.Map.{lookup}
use Rattle.sc_entry.specs.Keys.{is_file_key}
use Rattle.sc_lru.proofs.Cut.{none_from_is_some}
use Rattle.sc_disk.specs.Calls.{removed_by}
use Rattle.sc_disk.specs.Disks.{DiskState, Does, IsHeld}
use Rattle.sc_disk.specs.Names.{is_temporary_path}
use Rattle.sc_disk.specs.Store.{IsTidy}
use Rattle.sc_disk.specs.declared.change.Change.TheVariants.{Gone}
use Rattle.sc_disk.proofs.Doing.{does-none}
use Rattle.sc_disk.proofs.Keeping.{Keeps-removed, on_err}
use Rattle.sc_disk.proofs.Names.{key_not_temporary}
use Rattle.sc_disk.proofs.Pairs.{removed-none}
use Rattle.sc_disk.proofs.Places.{alters-nothing, held-key}
use Rattle.sc_disk.proofs.Tidying.{tidy-quiet}
use Rattle.sc_disk.proofs.lru_disk_cache.LruDiskCache.remove.Goals as goal

pub returns-then-not-contains_key-clause-ok : goal.returns-then-not-contains_key-clause-ok
returns-then-not-contains_key-clause-ok g c = let k = c.args.key.now in let old = c.args.self.now in
    let absent : is_some (lookup (bytes_eq k) old.index) ≡ false = ap (λ w. is_some (lookup (bytes_eq k) w.index)) (sym c.self.view_is) ∙ sym c.contains_key.ensures ∙ c.if-not-contains_key.true in
    let none : lookup (bytes_eq k) old.index ≡ None = none_from_is_some _ absent in
    record {
      good = ap is_file_key (sym c.as_text.ensures) ∙ sym c.is_file_key.ensures ∙ c.if-not-is_file_key.false;
      index = sym (removed-none k old.index none);
      pending = refl;
      capacity = refl;
      disk = subst (λ (b : Bool). Does (removed_by b k) old.disk old.disk) (sym absent) (does-none old.disk);
    }

pub invariant_of-self-2 : goal.invariant_of-self-2
invariant_of-self-2 g c = let s = c.self.inside in let r = c.remove-2.ensures in let state = g.D.Disk.state in let k = c.args.key.now in
    Keeps-removed s.index.entries c.remove-2.new.self.entries s.index.capacity c.remove-2.new.self.capacity s.pending.slots s.held s.capacity (state s.disk) (state c.remove.new.self) k
    (key_not_temporary k (ap is_file_key (sym c.as_text.ensures) ∙ sym c.is_file_key.ensures ∙ c.if-not-is_file_key.false)) c.len-distinct.ensures.distinct r.entries r.parts.capacity
    (subst (λ (p : List ℕ). Does (Gone p ∷ []) (state s.disk) (state c.remove.new.self)) c.as_text-2.ensures c.in_ok-remove.ensures.ok) c.self.invariant

pub returns-clause-tidy : goal.returns-clause-tidy
returns-clause-tidy g c = λ h. let s = c.self.inside in let state = g.D.Disk.state in
    tidy-quiet s.pending.slots (state s.disk) (state c.remove.new.self) (Gone c.as_text-2.result.now ∷ []) (tt, tt) c.in_ok-remove.ensures.ok (subst IsTidy (sym c.self.view_is) h)

pub returns-in_err-remove-clause-err : goal.returns-in_err-remove-clause-err
returns-in_err-remove-clause-err g c = let s = c.self.inside in let state = g.D.Disk.state in let k = c.args.key.now in
    let good : is_temporary_path k ≡ false = key_not_temporary k (ap is_file_key (sym c.as_text.ensures) ∙ sym c.is_file_key.ensures ∙ c.if-not-is_file_key.false) in
    let held : IsHeld c.as_text-2.result.now (state s.disk) = subst (λ (q : List ℕ). IsHeld q (state s.disk)) (sym c.as_text-2.ensures) (held-key (state s.disk) (state s.disk).divided s.index.entries s.pending.slots k good (sym c.contains_key.ensures ∙ c.if-not-contains_key.false) c.self.invariant.files) in
    on_err c.from_residual.result _ (alters-nothing c.args.self.now s.index.entries s.index.spare s.pending s.capacity (state s.disk) c.self.view_is (state c.remove.new.self) (c.in_err-remove.ensures.held held))
