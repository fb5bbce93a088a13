use Rattle.std.proofs.Common.{sym, ap, subst, ◌∷◌, [], ◌∙◌}
use Rattle.sc_disk.specs.Names.{is_temporary_path}
use Rattle.sc_disk.specs.Store.{IsTidy}
use Rattle.sc_disk.specs.declared.change.Change.TheVariants.{Added}
use Rattle.sc_disk.proofs.Keeping.{Keeps-aside, Keeps-part}
use Rattle.sc_disk.proofs.Places.{held-open}
use Rattle.sc_disk.proofs.Temporaries.{temporary_is}
use Rattle.sc_disk.proofs.Tidying.{tidy-part, tidy-quiet}
use Rattle.sc_disk.proofs.lru_disk_cache.LruDiskCache.fill.Goals as goal

pub invariant_of-self : goal.invariant_of-self
invariant_of-self g c = let s = c.self.inside in let state = g.D.Disk.state in
    Keeps-part s.index.entries s.index.capacity s.pending.slots s.held s.capacity (state s.disk) (state c.append.new.self) c.entry.inside.path c.args.bytes.now
    (ap is_temporary_path c.entry.invariant.0 ∙ temporary_is c.entry.inside.divided c.entry.inside.key c.entry.inside.number) (c.in_err-append.ensures.held (held-open c.args.self.now s.index.entries s.index.spare s.pending s.capacity (state s.disk) c.self.view_is c.args.entry.now c.entry.inside.number c.entry.inside.key c.entry.inside.divided c.entry.inside.path c.entry.view_is c.entry.invariant.0 c.requires c.self.invariant.files)) c.self.invariant

pub invariant_of-self-2 : goal.invariant_of-self-2
invariant_of-self-2 g c = let s = c.self.inside in let state = g.D.Disk.state in
    Keeps-aside s.index.entries s.index.capacity s.pending.slots s.held s.capacity (state s.disk) (state c.append.new.self) (Added c.entry.inside.path c.args.bytes.now)
    (ap is_temporary_path c.entry.invariant.0 ∙ temporary_is c.entry.inside.divided c.entry.inside.key c.entry.inside.number) c.in_ok-append.ensures.ok c.self.invariant

pub returns-in_err-append-clause-tidy : goal.returns-in_err-append-clause-tidy
returns-in_err-append-clause-tidy g c = λ h. let s = c.self.inside in let state = g.D.Disk.state in
    tidy-part s.pending.slots (state s.disk) (state c.append.new.self) c.entry.inside.path c.args.bytes.now (c.in_err-append.ensures.held (held-open c.args.self.now s.index.entries s.index.spare s.pending s.capacity (state s.disk) c.self.view_is c.args.entry.now c.entry.inside.number c.entry.inside.key c.entry.inside.divided c.entry.inside.path c.entry.view_is c.entry.invariant.0 c.requires c.self.invariant.files)) (subst IsTidy (sym c.self.view_is) h)

pub returns-clause-tidy : goal.returns-clause-tidy
returns-clause-tidy g c = λ h. let s = c.self.inside in let state = g.D.Disk.state in
    tidy-quiet s.pending.slots (state s.disk) (state c.append.new.self) (Added c.entry.inside.path c.args.bytes.now ∷ []) (tt, tt) c.in_ok-append.ensures.ok (subst IsTidy (sym c.self.view_is) h)
