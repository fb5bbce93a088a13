use Rattle.std.proofs.Common.{[], OnErr, map as each}
use Rattle.sc_disk.specs.Disks.{Changes, Does, IsHeld, IsSize}
use Rattle.sc_disk_pair.specs.declared.part.Part.TheVariants.{Main, Pre}
use Rattle.sc_disk_pair.proofs.Arms.{before, given, if_ok, on_ok}
use Rattle.sc_disk_pair.proofs.Refusing.{err_still-main, err_still-pre}
use Rattle.sc_disk_pair.proofs.Weaving.{changes_still-pre, pair, size-main, size-pre, still-pre}
use Rattle.sc_disk_pair.proofs.two.TwoDisk.len.Goals as goal

pub returns-in-Main-clause-size : goal.returns-in-Main-clause-size
returns-in-Main-clause-size g c = let s = c.self.inside in let state = g.D.Disk.state in let past = each (λ x. ((state x.0).told, (state x.1).told)) s.history.items in let at = c.in_ok-part.field-0 in
    if_ok c.len.result _ _ (λ n h. given (λ q v. IsSize q n v) c.args.path.now at.path at.part Main _ c.place.new.self c.args.self.now c.in_ok-part.ensures.placed c.in-Main.is c.self.view_is c.in_ok-part.ensures.ok (size-main (state s.main) (state s.pre) s.refused past at.path n c.self.invariant h)) c.len.ensures.size

pub returns-clause-size : goal.returns-clause-size
returns-clause-size g c = let s = c.self.inside in let state = g.D.Disk.state in let past = each (λ x. ((state x.0).told, (state x.1).told)) s.history.items in let at = c.in_ok-part.field-0 in
    if_ok c.len-in-Pre.result _ _ (λ n h. given (λ q v. IsSize q n v) c.args.path.now at.path at.part Pre _ c.place.new.self c.args.self.now c.in_ok-part.ensures.placed c.in-Pre.is c.self.view_is c.in_ok-part.ensures.ok (size-pre (state s.main) (state s.pre) s.refused past at.path n c.self.invariant h)) c.len-in-Pre.ensures.size

pub returns-in-Main-clause-held : goal.returns-in-Main-clause-held
returns-in-Main-clause-held g c = let s = c.self.inside in let state = g.D.Disk.state in let past = each (λ x. ((state x.0).told, (state x.1).told)) s.history.items in let m = state s.main in let p = state s.pre in let n = state c.len.new.self in let at = c.in_ok-part.field-0 in let old = c.args.self.now in
    given (λ q v. IsHeld q v → OnErr c.len.result (Does [] v (pair n p s.refused past))) c.args.path.now at.path at.part Main _ c.place.new.self old c.in_ok-part.ensures.placed c.in-Main.is c.self.view_is c.in_ok-part.ensures.ok
    (err_still-main c.len.result m n p s.refused past at.path c.self.invariant c.len.ensures.same c.len.ensures.held)

pub returns-clause-same : goal.returns-clause-same
returns-clause-same g c = let s = c.self.inside in let state = g.D.Disk.state in let past = each (λ x. ((state x.0).told, (state x.1).told)) s.history.items in let m = state s.main in let p = state s.pre in let n = state c.len-in-Pre.new.self in let at = c.in_ok-part.field-0 in let old = c.args.self.now in
    before (λ v. Changes [] v (pair m n s.refused past)) _ c.place.new.self old c.self.view_is c.in_ok-part.ensures.ok (changes_still-pre m p n s.refused past c.len-in-Pre.ensures.same)

pub returns-clause-ok : goal.returns-clause-ok
returns-clause-ok g c = let s = c.self.inside in let state = g.D.Disk.state in let past = each (λ x. ((state x.0).told, (state x.1).told)) s.history.items in let m = state s.main in let p = state s.pre in let n = state c.len-in-Pre.new.self in let at = c.in_ok-part.field-0 in let old = c.args.self.now in
    on_ok c.len-in-Pre.result _ _ (λ d. before (λ v. Does [] v (pair m n s.refused past)) _ c.place.new.self old c.self.view_is c.in_ok-part.ensures.ok (still-pre m p n s.refused past d)) c.len-in-Pre.ensures.ok

pub returns-clause-held : goal.returns-clause-held
returns-clause-held g c = let s = c.self.inside in let state = g.D.Disk.state in let past = each (λ x. ((state x.0).told, (state x.1).told)) s.history.items in let m = state s.main in let p = state s.pre in let n = state c.len-in-Pre.new.self in let at = c.in_ok-part.field-0 in let old = c.args.self.now in
    given (λ q v. IsHeld q v → OnErr c.len-in-Pre.result (Does [] v (pair m n s.refused past))) c.args.path.now at.path at.part Pre _ c.place.new.self old c.in_ok-part.ensures.placed c.in-Pre.is c.self.view_is c.in_ok-part.ensures.ok
    (err_still-pre c.len-in-Pre.result m p n s.refused past at.path c.self.invariant c.len-in-Pre.ensures.same c.len-in-Pre.ensures.held)
