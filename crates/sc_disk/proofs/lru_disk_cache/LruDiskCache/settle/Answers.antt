use Rattle.std.proofs.Common.{◌≡◌, ◌+◌, ◌≤◌, ℕ, List, true, sym, ap, subst, arith, ◌∷◌, [], ◌∙◌, None}
use Rattle.slab.specs.Slab.{get}
use Rattle.sc_lru.specs.LruCache.{total}
use Rattle.sc_disk.specs.Disks.{DiskState, Does, IsHeld, IsOneDevice, IsSize}
use Rattle.sc_disk.specs.Names.{is_temporary_path, temporary}
use Rattle.sc_disk.specs.Store.{declared, filed, size_of, temporary_of}
use Rattle.sc_disk.specs.declared.change.Change.TheVariants.{Moved, Touched}
use Rattle.sc_disk.proofs.Doing.{does-still, does-then}
use Rattle.sc_disk.proofs.Keeping.{Keeps-aside, Keeps-settled, Keeps-still, on_err}
use Rattle.sc_disk.proofs.Pairs.{inserted-filed}
use Rattle.sc_disk.proofs.Places.{alters-so, held-sized, held-still, touched-held, touched-moves}
use Rattle.sc_disk.proofs.Temporaries.{temporary_is}
use Rattle.sc_disk.proofs.lru_disk_cache.LruDiskCache.settle.Goals as goal

pub invariant_of-self-in_err-rename : goal.invariant_of-self-in_err-rename
invariant_of-self-in_err-rename g c = let s = c.self.inside in let state = g.D.Disk.state in
    let path : c.entry.inside.path ≡ temporary_of c.args.entry.now = c.entry.invariant.0 ∙ ap temporary_of c.entry.view_is in
    let held : IsHeld c.entry.inside.path (state s.disk) = subst (λ (d : DiskState). IsHeld c.entry.inside.path d) (sym (ap (λ w. w.disk) c.self.view_is)) (subst (λ (q : List ℕ). IsHeld q c.args.self.now.disk) (sym path) (held-sized c.args.self.now.disk (temporary_of c.args.entry.now) c.args.size c.requires.size)) in
    let touched = touched-held (state s.disk) (state c.touch.new.self) c.entry.inside.number c.entry.inside.key c.entry.inside.divided c.entry.inside.path c.args.now c.entry.invariant.0 c.in_ok-touch.ensures.ok held in
    let moves : IsOneDevice c.entry.inside.path c.as_text.result.now (state c.touch.new.self) = touched-moves (state s.disk) (state c.touch.new.self) c.entry.inside.number c.entry.inside.key c.entry.inside.divided c.entry.inside.path c.args.now c.entry.invariant.0 c.in_ok-touch.ensures.ok c.as_text.result.now
    (ap (λ e. e.divided) c.entry.view_is ∙ c.requires.divided ∙ sym (ap (λ w. w.disk.divided) c.self.view_is)) (c.as_text.ensures ∙ c.requires.same_key ∙ sym (ap (λ e. e.key) c.entry.view_is)) c.entry.invariant.2 in
    let stood = c.in_err-rename.ensures.held touched moves in
    Keeps-still s.index.entries s.index.capacity s.pending.slots s.held s.capacity (state c.touch.new.self) (state c.rename.new.self) stood
    (Keeps-aside s.index.entries s.index.capacity s.pending.slots s.held s.capacity (state s.disk) (state c.touch.new.self) (Touched c.entry.inside.path c.args.now)
    (ap is_temporary_path c.entry.invariant.0 ∙ temporary_is c.entry.inside.divided c.entry.inside.key c.entry.inside.number) c.in_ok-touch.ensures.ok c.self.invariant)

pub invariant_of-self-2 : goal.invariant_of-self-2
invariant_of-self-2 g c = let s = c.self.inside in let state = g.D.Disk.state in let i = c.self.invariant in let v = c.self.view_is in let r = c.in-Ok.ensures in
    let n = c.entry.inside.number in let t = c.entry.inside.path in let k = c.args.key in let a0 = temporary c.entry.inside.divided c.entry.inside.key n in
    let room : total size_of s.index.entries + (s.held + c.args.size) ≤ s.capacity = omega (arith, c.requires.room, i.reserved, ap (λ w. total size_of w.index) v, ap (λ w. declared w.pending.slots) v, ap (λ w. w.capacity) v) in
    let closed : get s.pending n ≡ None = ap (λ w. get w.pending n) v ∙ ap (λ e. get c.args.self.now.pending e.number) c.entry.view_is ∙ c.requires.closed in
    let p : Does (Touched a0 c.args.now ∷ []) (state s.disk) (state c.touch.new.self) = subst (λ (a : List ℕ). Does (Touched a c.args.now ∷ []) (state s.disk) (state c.touch.new.self)) c.entry.invariant.0 c.in_ok-touch.ensures.ok in
    let q : Does (Moved a0 k ∷ []) (state c.touch.new.self) (state c.rename.new.self) = subst (λ (a : List ℕ). Does (Moved a k ∷ []) (state c.touch.new.self) (state c.rename.new.self)) c.entry.invariant.0
    (subst (λ (b : List ℕ). Does (Moved t b ∷ []) (state c.touch.new.self) (state c.rename.new.self)) c.as_text.ensures c.in_ok-rename.ensures.ok) in
    let sized : IsSize a0 c.args.size (state s.disk) = subst (λ (d : DiskState). IsSize a0 c.args.size d) (sym (ap (λ w. w.disk) v)) (subst (λ (a : List ℕ). IsSize a c.args.size c.args.self.now.disk) (sym (ap temporary_of c.entry.view_is)) c.requires.size) in
    Keeps-settled s.index.entries c.insert.new.self.entries s.index.capacity c.insert.new.self.capacity s.pending.slots s.held s.capacity
    (state s.disk) (state c.touch.new.self) (state c.rename.new.self) c.entry.inside.divided c.entry.inside.key n k c.args.size c.args.now
    c.entry.invariant.1 (omega (arith, c.capacity-numbers.ensures.slots, c.capacity-numbers.type_inv)) closed c.requires.key c.len-distinct.ensures.distinct
    (r.entries ∙ inserted-filed k c.args.size s.index.capacity s.index.entries (omega (arith, room, i.limit)))
    c.insert.ensures.parts.capacity room p q sized i

pub returns-clause-ok : goal.returns-clause-ok
returns-clause-ok g c = let s = c.self.inside in let state = g.D.Disk.state in let i = c.self.invariant in let v = c.self.view_is in let r = c.in-Ok.ensures in
    let a1 = temporary_of c.args.entry.now in let t = c.entry.inside.path in let k = c.args.key in
    let path : t ≡ a1 = c.entry.invariant.0 ∙ ap temporary_of c.entry.view_is in
    let room : total size_of s.index.entries + (s.held + c.args.size) ≤ s.capacity = omega (arith, c.requires.room, i.reserved, ap (λ w. total size_of w.index) v, ap (λ w. declared w.pending.slots) v, ap (λ w. w.capacity) v) in
    let p : Does (Touched a1 c.args.now ∷ []) c.args.self.now.disk (state c.touch.new.self) = subst (λ (d : DiskState). Does (Touched a1 c.args.now ∷ []) d (state c.touch.new.self)) (ap (λ w. w.disk) v)
    (subst (λ (a : List ℕ). Does (Touched a c.args.now ∷ []) (state s.disk) (state c.touch.new.self)) path c.in_ok-touch.ensures.ok) in
    let q : Does (Moved a1 k ∷ []) (state c.touch.new.self) (state c.rename.new.self) = subst (λ (a : List ℕ). Does (Moved a k ∷ []) (state c.touch.new.self) (state c.rename.new.self)) path
    (subst (λ (b : List ℕ). Does (Moved t b ∷ []) (state c.touch.new.self) (state c.rename.new.self)) c.as_text.ensures c.in_ok-rename.ensures.ok) in
    record {
      index = r.entries ∙ inserted-filed k c.args.size s.index.capacity s.index.entries (omega (arith, room, i.limit)) ∙ ap (λ w. filed k c.args.size w.index) v;
      pending = ap (λ w. w.pending) v;
      capacity = ap (λ w. w.capacity) v;
      disk = does-then c.args.self.now.disk (state c.touch.new.self) (state c.rename.new.self) (Touched a1 c.args.now ∷ []) (Moved a1 k) p q;
    }

pub returns-in_err-rename-clause-err : goal.returns-in_err-rename-clause-err
returns-in_err-rename-clause-err g c = let s = c.self.inside in let state = g.D.Disk.state in
    let path : c.entry.inside.path ≡ temporary_of c.args.entry.now = c.entry.invariant.0 ∙ ap temporary_of c.entry.view_is in
    let held : IsHeld c.entry.inside.path (state s.disk) = subst (λ (d : DiskState). IsHeld c.entry.inside.path d) (sym (ap (λ w. w.disk) c.self.view_is)) (subst (λ (q : List ℕ). IsHeld q c.args.self.now.disk) (sym path) (held-sized c.args.self.now.disk (temporary_of c.args.entry.now) c.args.size c.requires.size)) in
    let touched = touched-held (state s.disk) (state c.touch.new.self) c.entry.inside.number c.entry.inside.key c.entry.inside.divided c.entry.inside.path c.args.now c.entry.invariant.0 c.in_ok-touch.ensures.ok held in
    let moves : IsOneDevice c.entry.inside.path c.as_text.result.now (state c.touch.new.self) = touched-moves (state s.disk) (state c.touch.new.self) c.entry.inside.number c.entry.inside.key c.entry.inside.divided c.entry.inside.path c.args.now c.entry.invariant.0 c.in_ok-touch.ensures.ok c.as_text.result.now
    (ap (λ e. e.divided) c.entry.view_is ∙ c.requires.divided ∙ sym (ap (λ w. w.disk.divided) c.self.view_is)) (c.as_text.ensures ∙ c.requires.same_key ∙ sym (ap (λ e. e.key) c.entry.view_is)) c.entry.invariant.2 in
    let stood = c.in_err-rename.ensures.held touched moves in
    on_err c.from_residual-in_err-rename.result _ (
      true,
      alters-so c.args.self.now s.index.entries s.index.spare s.pending s.capacity (state s.disk) c.self.view_is (Touched (temporary_of c.args.entry.now) c.args.now ∷ []) (state c.rename.new.self)
          (does-still (state s.disk) (state c.touch.new.self) (state c.rename.new.self) (Touched (temporary_of c.args.entry.now) c.args.now ∷ [])
          (subst (λ (q : List ℕ). Does (Touched q c.args.now ∷ []) (state s.disk) (state c.touch.new.self)) path c.in_ok-touch.ensures.ok) stood),
    )

pub returns-in_err-rename-clause-held : goal.returns-in_err-rename-clause-held
returns-in_err-rename-clause-held g c = let s = c.self.inside in let state = g.D.Disk.state in
    let path : c.entry.inside.path ≡ temporary_of c.args.entry.now = c.entry.invariant.0 ∙ ap temporary_of c.entry.view_is in
    let held : IsHeld c.entry.inside.path (state s.disk) = subst (λ (d : DiskState). IsHeld c.entry.inside.path d) (sym (ap (λ w. w.disk) c.self.view_is)) (subst (λ (q : List ℕ). IsHeld q c.args.self.now.disk) (sym path) (held-sized c.args.self.now.disk (temporary_of c.args.entry.now) c.args.size c.requires.size)) in
    let touched = touched-held (state s.disk) (state c.touch.new.self) c.entry.inside.number c.entry.inside.key c.entry.inside.divided c.entry.inside.path c.args.now c.entry.invariant.0 c.in_ok-touch.ensures.ok held in
    let moves : IsOneDevice c.entry.inside.path c.as_text.result.now (state c.touch.new.self) = touched-moves (state s.disk) (state c.touch.new.self) c.entry.inside.number c.entry.inside.key c.entry.inside.divided c.entry.inside.path c.args.now c.entry.invariant.0 c.in_ok-touch.ensures.ok c.as_text.result.now
    (ap (λ e. e.divided) c.entry.view_is ∙ c.requires.divided ∙ sym (ap (λ w. w.disk.divided) c.self.view_is)) (c.as_text.ensures ∙ c.requires.same_key ∙ sym (ap (λ e. e.key) c.entry.view_is)) c.entry.invariant.2 in
    let stood = c.in_err-rename.ensures.held touched moves in
    on_err c.from_residual-in_err-rename.result _ (subst (λ (q : List ℕ). IsHeld q (state c.rename.new.self)) path (held-still (state c.touch.new.self) (state c.rename.new.self) c.entry.inside.path stood touched))
