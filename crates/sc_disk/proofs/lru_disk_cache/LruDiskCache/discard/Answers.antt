use Rattle.std.proofs.Common.{List, ℕ, ap, subst, arith, ◌∷◌, [], ◌∙◌}
use Rattle.slab.specs.Slab.{get}
use Rattle.sc_disk.specs.Disks.{Does}
use Rattle.sc_disk.specs.declared.change.Change.TheVariants.{Gone}
use Rattle.sc_disk.specs.Names.{temporary}
use Rattle.sc_disk.proofs.Keeping.{Keeps-discarded}
use Rattle.sc_disk.proofs.lru_disk_cache.LruDiskCache.discard.Goals as goal

pub invariant_of-self-2 : goal.invariant_of-self-2
invariant_of-self-2 g c = let s = c.self.inside in let state = g.D.Disk.state in let n = c.entry.inside.number in let v = c.entry.inside.divided in let q = c.entry.inside.key in
    let did : Does (Gone (temporary v q n) ∷ []) (state s.disk) (state c.remove.new.self) = subst (λ (k : List ℕ). Does (Gone k ∷ []) (state s.disk) (state c.remove.new.self)) c.entry.invariant.0 c.in_ok-remove.ensures.ok in
    let numbers = c.capacity-numbers.type_inv in
    Keeps-discarded s.index.entries s.index.capacity s.pending.slots s.held s.capacity (state s.disk) (state c.remove.new.self) v q n c.entry.invariant.1
    (omega (arith, c.capacity-numbers.ensures.slots, numbers)) (ap (λ w. get w.pending n) c.self.view_is ∙ ap (λ e. get c.args.self.now.pending e.number) c.entry.view_is ∙ c.requires.closed) did c.self.invariant
