use Rattle.std.proofs.Common.{List, ℕ, true, sym, ap, ◌∙◌, subst, ◌∷◌, []}
use Rattle.sc_disk.specs.Disks.{DiskState, Does, IsHeld}
use Rattle.sc_disk.specs.declared.change.Change.TheVariants.{Touched}
use Rattle.sc_disk.proofs.Keeping.{Keeps-still, Keeps-touched, on_err}
use Rattle.sc_disk.proofs.Doing.{does-still}
use Rattle.sc_disk.proofs.Places.{alters-so, held-touched}
use Rattle.sc_disk.proofs.lru_disk_cache.LruDiskCache.read_used.Goals as goal

pub invariant_of-self-in_err-bytes : goal.invariant_of-self-in_err-bytes
invariant_of-self-in_err-bytes g c = let s = c.self.inside in let state = g.D.Disk.state in
    let held : IsHeld c.as_text.result.now (state s.disk) = subst (λ (d : DiskState). IsHeld c.as_text.result.now d) (sym (ap (λ w. w.disk) c.self.view_is)) (subst (λ (q : List ℕ). IsHeld q c.args.self.now.disk) (sym c.as_text.ensures) c.requires) in
    let stood = c.in_err-bytes.ensures.held (subst (λ (q : List ℕ). IsHeld q (state c.touch.new.self)) (c.as_text.ensures ∙ sym c.as_text-2.ensures) (held-touched (state s.disk) (state c.touch.new.self) c.as_text.result.now c.args.now c.in_ok-touch.ensures.ok held)) in
    Keeps-still s.index.entries s.index.capacity s.pending.slots s.held s.capacity (state c.touch.new.self) (state c.read.new.self) stood
    (Keeps-touched s.index.entries s.index.capacity s.pending.slots s.held s.capacity (state s.disk) (state c.touch.new.self) c.as_text.result.now c.args.now c.in_ok-touch.ensures.ok c.self.invariant)

pub invariant_of-self-2 : goal.invariant_of-self-2
invariant_of-self-2 g c = let s = c.self.inside in let state = g.D.Disk.state in
    Keeps-still s.index.entries s.index.capacity s.pending.slots s.held s.capacity (state c.touch.new.self) (state c.read.new.self) c.in_ok-bytes.ensures.ok
    (Keeps-touched s.index.entries s.index.capacity s.pending.slots s.held s.capacity (state s.disk) (state c.touch.new.self) c.as_text.result.now c.args.now c.in_ok-touch.ensures.ok c.self.invariant)

pub returns-in_err-bytes-clause-err : goal.returns-in_err-bytes-clause-err
returns-in_err-bytes-clause-err g c = let s = c.self.inside in let state = g.D.Disk.state in
    let held : IsHeld c.as_text.result.now (state s.disk) = subst (λ (d : DiskState). IsHeld c.as_text.result.now d) (sym (ap (λ w. w.disk) c.self.view_is)) (subst (λ (q : List ℕ). IsHeld q c.args.self.now.disk) (sym c.as_text.ensures) c.requires) in
    let stood = c.in_err-bytes.ensures.held (subst (λ (q : List ℕ). IsHeld q (state c.touch.new.self)) (c.as_text.ensures ∙ sym c.as_text-2.ensures) (held-touched (state s.disk) (state c.touch.new.self) c.as_text.result.now c.args.now c.in_ok-touch.ensures.ok held)) in
    on_err c.from_residual-in_err-bytes.result _ (
      true,
      alters-so c.args.self.now s.index.entries s.index.spare s.pending s.capacity (state s.disk) c.self.view_is (Touched c.args.key.now c.args.now ∷ []) (state c.read.new.self)
          (does-still (state s.disk) (state c.touch.new.self) (state c.read.new.self) (Touched c.args.key.now c.args.now ∷ [])
          (subst (λ (q : List ℕ). Does (Touched q c.args.now ∷ []) (state s.disk) (state c.touch.new.self)) c.as_text.ensures c.in_ok-touch.ensures.ok) stood),
    )
