use Rattle.std.proofs.Common.{◌≡◌, ℕ, List, Some, slice_get, ◌∙◌, sym, ap, subst, arith, ◌∷◌, []}
use Rattle.sc_disk.specs.Disks.{Does, IsHeld}
use Rattle.sc_disk.specs.declared.change.Change.TheVariants.{Gone}
use Rattle.sc_disk.proofs.Keeping.{Keeps-first, on_err}
use Rattle.sc_disk.proofs.Places.{evicts-nothing, held-first}
use Rattle.sc_disk.proofs.lru_disk_cache.LruDiskCache.evict_one.Goals as goal

pub invariant_of-self-2 : goal.invariant_of-self-2
invariant_of-self-2 g c =
    let s = c.self.inside in let r = c.remove_lru.ensures in let state = g.D.Disk.state in
    let e : List ℕ × ℕ = (c.in-Some.key.now, c.in-Some.field-0-1.now) in
    let did : Does (Gone e.0 ∷ []) (state s.disk) (state c.remove.new.self) = subst (λ (k : List ℕ). Does (Gone k ∷ []) (state s.disk) (state c.remove.new.self)) c.as_text.ensures c.in_ok-remove.ensures.ok in
    Keeps-first s.index.entries c.remove_lru.new.self.entries s.index.capacity c.remove_lru.new.self.capacity s.pending.slots s.held s.capacity (state s.disk) (state c.remove.new.self) e
    c.in-Some.ensures c.len-distinct.ensures.distinct r.entries r.parts.capacity did c.self.invariant

pub returns-in_err-remove-clause-err : goal.returns-in_err-remove-clause-err
returns-in_err-remove-clause-err g c =
    let s = c.self.inside in let state = g.D.Disk.state in let e : List ℕ × ℕ = (c.in-Some.key.now, c.in-Some.field-0-1.now) in
    let held : IsHeld c.as_text.result.now (state s.disk) = subst (λ (k : List ℕ). IsHeld k (state s.disk)) (sym c.as_text.ensures) (held-first (state s.disk) (state s.disk).divided s.index.entries s.pending.slots e c.in-Some.ensures c.self.invariant.keys c.self.invariant.files) in
    on_err c.from_residual.result _ (evicts-nothing c.args.self.now s.index.entries s.index.spare s.pending s.capacity (state s.disk) c.self.view_is (state c.remove.new.self) (c.in_err-remove.ensures.held held))
