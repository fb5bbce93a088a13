use Rattle.std.proofs.Common.{sym, ap, subst, ◌∷◌, [], ◌∙◌}
use Rattle.sc_disk.specs.Names.{is_temporary_path}
use Rattle.sc_disk.specs.Store.{IsTidy}
use Rattle.sc_disk.specs.declared.change.Change.TheVariants.{Added}
use Rattle.sc_disk.proofs.Keeping.{Keeps-adopted, Keeps-aside}
use Rattle.sc_disk.proofs.Temporaries.{temporary_is}
use Rattle.sc_disk.proofs.Tidying.{tidy-adopted, tidy-quiet}
use Rattle.sc_disk.proofs.lru_disk_cache.LruDiskCache.adopt.Goals as goal

pub invariant_of-self : goal.invariant_of-self
invariant_of-self g c = let s = c.self.inside in let state = g.D.Disk.state in
    Keeps-adopted s.index.entries s.index.capacity s.pending.slots s.held s.capacity (state s.disk) (state c.adopt.new.self) c.args.outside.now c.entry.inside.path
    (ap is_temporary_path c.entry.invariant.0 ∙ temporary_is c.entry.inside.divided c.entry.inside.key c.entry.inside.number) c.in_err-adopt.ensures.err c.self.invariant

pub invariant_of-self-2 : goal.invariant_of-self-2
invariant_of-self-2 g c = let s = c.self.inside in let state = g.D.Disk.state in let a = c.in_ok-adopt.ensures.ok in
    Keeps-aside s.index.entries s.index.capacity s.pending.slots s.held s.capacity (state s.disk) (state c.adopt.new.self) (Added c.entry.inside.path a.0)
    (ap is_temporary_path c.entry.invariant.0 ∙ temporary_is c.entry.inside.divided c.entry.inside.key c.entry.inside.number) a.2 c.self.invariant

pub returns-in_err-adopt-clause-tidy : goal.returns-in_err-adopt-clause-tidy
returns-in_err-adopt-clause-tidy g c = λ h. let s = c.self.inside in let state = g.D.Disk.state in
    tidy-adopted s.pending.slots (state s.disk) (state c.adopt.new.self) c.args.outside.now c.entry.inside.path c.in_err-adopt.ensures.err (subst IsTidy (sym c.self.view_is) h)

pub returns-clause-tidy : goal.returns-clause-tidy
returns-clause-tidy g c = λ h. let s = c.self.inside in let state = g.D.Disk.state in let a = c.in_ok-adopt.ensures.ok in
    tidy-quiet s.pending.slots (state s.disk) (state c.adopt.new.self) (Added c.entry.inside.path a.0 ∷ []) (tt, tt) a.2 (subst IsTidy (sym c.self.view_is) h)
