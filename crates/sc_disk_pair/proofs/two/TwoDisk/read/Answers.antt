use Rattle.std.proofs.Common.{[], OnErr, map as each}
use Rattle.sc_disk.specs.Disks.{Changes, Does, HasBytes, IsHeld}
use Rattle.sc_disk_pair.specs.declared.part.Part.TheVariants.{Main, Pre}
use Rattle.sc_disk_pair.proofs.Arms.{before, given, if_ok, on_ok}
use Rattle.sc_disk_pair.proofs.Refusing.{err_still-main, err_still-pre}
use Rattle.sc_disk_pair.proofs.Weaving.{bytes-main, bytes-pre, changes_still-pre, pair, still-pre}
use Rattle.sc_disk_pair.proofs.two.TwoDisk.read.Goals as goal

pub returns-in-Main-clause-bytes : goal.returns-in-Main-clause-bytes
returns-in-Main-clause-bytes g c = let s = c.self.inside in let state = g.D.Disk.state in let past = each (λ x. ((state x.0).told, (state x.1).told)) s.history.items in let at = c.in_ok-part.field-0 in
    if_ok c.read.result _ _ (λ n h. given (λ q v. HasBytes q n v) c.args.path.now at.path at.part Main _ c.place.new.self c.args.self.now c.in_ok-part.ensures.placed c.in-Main.is c.self.view_is c.in_ok-part.ensures.ok (bytes-main (state s.main) (state s.pre) s.refused past at.path n c.self.invariant h)) c.read.ensures.bytes

pub returns-clause-bytes : goal.returns-clause-bytes
returns-clause-bytes g c = let s = c.self.inside in let state = g.D.Disk.state in let past = each (λ x. ((state x.0).told, (state x.1).told)) s.history.items in let at = c.in_ok-part.field-0 in
    if_ok c.read-in-Pre.result _ _ (λ n h. given (λ q v. HasBytes q n v) c.args.path.now at.path at.part Pre _ c.place.new.self c.args.self.now c.in_ok-part.ensures.placed c.in-Pre.is c.self.view_is c.in_ok-part.ensures.ok (bytes-pre (state s.main) (state s.pre) s.refused past at.path n c.self.invariant h)) c.read-in-Pre.ensures.bytes

pub returns-in-Main-clause-held : goal.returns-in-Main-clause-held
returns-in-Main-clause-held g c = let s = c.self.inside in let state = g.D.Disk.state in let past = each (λ x. ((state x.0).told, (state x.1).told)) s.history.items in let m = state s.main in let p = state s.pre in let n = state c.read.new.self in let at = c.in_ok-part.field-0 in let old = c.args.self.now in
    given (λ q v. IsHeld q v → OnErr c.read.result (Does [] v (pair n p s.refused past))) c.args.path.now at.path at.part Main _ c.place.new.self old c.in_ok-part.ensures.placed c.in-Main.is c.self.view_is c.in_ok-part.ensures.ok
    (err_still-main c.read.result m n p s.refused past at.path c.self.invariant c.read.ensures.same c.read.ensures.held)

pub returns-clause-same : goal.returns-clause-same
returns-clause-same g c = let s = c.self.inside in let state = g.D.Disk.state in let past = each (λ x. ((state x.0).told, (state x.1).told)) s.history.items in let m = state s.main in let p = state s.pre in let n = state c.read-in-Pre.new.self in let at = c.in_ok-part.field-0 in let old = c.args.self.now in
    before (λ v. Changes [] v (pair m n s.refused past)) _ c.place.new.self old c.self.view_is c.in_ok-part.ensures.ok (changes_still-pre m p n s.refused past c.read-in-Pre.ensures.same)

pub returns-clause-ok : goal.returns-clause-ok
returns-clause-ok g c = let s = c.self.inside in let state = g.D.Disk.state in let past = each (λ x. ((state x.0).told, (state x.1).told)) s.history.items in let m = state s.main in let p = state s.pre in let n = state c.read-in-Pre.new.self in let at = c.in_ok-part.field-0 in let old = c.args.self.now in
    on_ok c.read-in-Pre.result _ _ (λ d. before (λ v. Does [] v (pair m n s.refused past)) _ c.place.new.self old c.self.view_is c.in_ok-part.ensures.ok (still-pre m p n s.refused past d)) c.read-in-Pre.ensures.ok

pub returns-clause-held : goal.returns-clause-held
returns-clause-held g c = let s = c.self.inside in let state = g.D.Disk.state in let past = each (λ x. ((state x.0).told, (state x.1).told)) s.history.items in let m = state s.main in let p = state s.pre in let n = state c.read-in-Pre.new.self in let at = c.in_ok-part.field-0 in let old = c.args.self.now in
    given (λ q v. IsHeld q v → OnErr c.read-in-Pre.result (Does [] v (pair m n s.refused past))) c.args.path.now at.path at.part Pre _ c.place.new.self old c.in_ok-part.ensures.placed c.in-Pre.is c.self.view_is c.in_ok-part.ensures.ok
    (err_still-pre c.read-in-Pre.result m p n s.refused past at.path c.self.invariant c.read-in-Pre.ensures.same c.read-in-Pre.ensures.held)
