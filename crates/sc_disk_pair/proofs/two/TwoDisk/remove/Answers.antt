use Rattle.std.proofs.Common.{OnErr, [], ap, map as each, ◌∷◌}
use Rattle.sc_disk.specs.Disks.{Changes, DiskCause, Does, IsHeld}
use Rattle.sc_disk.specs.declared.change.Change.TheVariants.{Gone}
use Rattle.sc_disk_pair.specs.declared.part.Part.TheVariants.{Main, Pre}
use Rattle.sc_disk_pair.proofs.Arms.{before, cause-main, cause-pre, either, given, on_err, on_ok}
use Rattle.sc_disk_pair.proofs.Weaving.{changes-main, changes-pre, does-main, does-pre, pair, weaves-main, weaves-pre}
use Rattle.sc_disk.proofs.Doing.{changes-of}
use Rattle.sc_disk_pair.proofs.Refusing.{err_held-main, err_held-pre, err_placed-main, err_placed-pre}
use Rattle.sc_disk_pair.proofs.two.TwoDisk.remove.Goals as goal

pub invariant_of-self : goal.invariant_of-self
invariant_of-self g c = let s = c.self.inside in let state = g.D.Disk.state in let past = each (λ x. ((state x.0).told, (state x.1).told)) s.history.items in let now = each (λ x. ((state x.0).told, (state x.1).told)) c.and-self-inside.result.items in let is = ap (each (λ x. ((state x.0).told, (state x.1).told))) c.and-self-inside.ensures in let w = c.self.invariant in
    let m = state s.main in let p = state s.pre in let n = state c.remove-removed.new.self in let at = c.in_ok-part.field-0 in let old = c.args.self.now in
    either c.remove-removed.result _ _ _ c.remove-removed.ensures.ok c.remove-removed.ensures.err (λ d. weaves-main m n p past now (Gone at.path ∷ []) is w (changes-of m n (Gone at.path ∷ []) d)) (λ d. weaves-main m n p past now [] is w d)

pub returns-in-Main-clause-ok : goal.returns-in-Main-clause-ok
returns-in-Main-clause-ok g c = let s = c.self.inside in let state = g.D.Disk.state in let past = each (λ x. ((state x.0).told, (state x.1).told)) s.history.items in let now = each (λ x. ((state x.0).told, (state x.1).told)) c.and-self-inside.result.items in let is = ap (each (λ x. ((state x.0).told, (state x.1).told))) c.and-self-inside.ensures in let w = c.self.invariant in
    let m = state s.main in let p = state s.pre in let n = state c.remove-removed.new.self in let at = c.in_ok-part.field-0 in let old = c.args.self.now in
    on_ok c.remove-removed.result _ _ (λ d. given (λ q v. Does (Gone q ∷ []) v (pair n p s.refused now)) c.args.path.now at.path at.part Main _ c.place.new.self old c.in_ok-part.ensures.placed c.in-Main.is c.self.view_is c.in_ok-part.ensures.ok (does-main m n p s.refused past now (Gone at.path ∷ []) is w d)) c.remove-removed.ensures.ok

pub returns-in-Main-clause-err : goal.returns-in-Main-clause-err
returns-in-Main-clause-err g c = let s = c.self.inside in let state = g.D.Disk.state in let past = each (λ x. ((state x.0).told, (state x.1).told)) s.history.items in let now = each (λ x. ((state x.0).told, (state x.1).told)) c.and-self-inside.result.items in let is = ap (each (λ x. ((state x.0).told, (state x.1).told))) c.and-self-inside.ensures in let w = c.self.invariant in
    let m = state s.main in let p = state s.pre in let n = state c.remove-removed.new.self in let at = c.in_ok-part.field-0 in let old = c.args.self.now in
    on_err c.remove-removed.result _ _ (λ d. before (λ v. Changes [] v (pair n p s.refused now)) _ c.place.new.self old c.self.view_is c.in_ok-part.ensures.ok (changes-main m n p s.refused past now [] is w d)) c.remove-removed.ensures.err

pub returns-in-Main-clause-cause : goal.returns-in-Main-clause-cause
returns-in-Main-clause-cause g c = let s = c.self.inside in let state = g.D.Disk.state in let past = each (λ x. ((state x.0).told, (state x.1).told)) s.history.items in let now = each (λ x. ((state x.0).told, (state x.1).told)) c.and-self-inside.result.items in let w = c.self.invariant in
    let m = state s.main in let p = state s.pre in let n = state c.remove-removed.new.self in let at = c.in_ok-part.field-0 in let old = c.args.self.now in
    before (λ v. DiskCause v (pair n p s.refused now) c.remove-removed.result) _ c.place.new.self old c.self.view_is c.in_ok-part.ensures.ok (cause-main m n p s.refused past now c.remove-removed.result c.remove-removed.ensures.cause)

pub invariant_of-self-in-Pre : goal.invariant_of-self-in-Pre
invariant_of-self-in-Pre g c = let s = c.self.inside in let state = g.D.Disk.state in let past = each (λ x. ((state x.0).told, (state x.1).told)) s.history.items in let now = each (λ x. ((state x.0).told, (state x.1).told)) c.and-self-inside-in-Pre.result.items in let is = ap (each (λ x. ((state x.0).told, (state x.1).told))) c.and-self-inside-in-Pre.ensures in let w = c.self.invariant in
    let m = state s.main in let p = state s.pre in let n = state c.remove-removed-in-Pre.new.self in let at = c.in_ok-part.field-0 in let old = c.args.self.now in
    either c.remove-removed-in-Pre.result _ _ _ c.remove-removed-in-Pre.ensures.ok c.remove-removed-in-Pre.ensures.err (λ d. weaves-pre m p n past now (Gone at.path ∷ []) is w (changes-of p n (Gone at.path ∷ []) d)) (λ d. weaves-pre m p n past now [] is w d)

pub returns-clause-ok : goal.returns-clause-ok
returns-clause-ok g c = let s = c.self.inside in let state = g.D.Disk.state in let past = each (λ x. ((state x.0).told, (state x.1).told)) s.history.items in let now = each (λ x. ((state x.0).told, (state x.1).told)) c.and-self-inside-in-Pre.result.items in let is = ap (each (λ x. ((state x.0).told, (state x.1).told))) c.and-self-inside-in-Pre.ensures in let w = c.self.invariant in
    let m = state s.main in let p = state s.pre in let n = state c.remove-removed-in-Pre.new.self in let at = c.in_ok-part.field-0 in let old = c.args.self.now in
    on_ok c.remove-removed-in-Pre.result _ _ (λ d. given (λ q v. Does (Gone q ∷ []) v (pair m n s.refused now)) c.args.path.now at.path at.part Pre _ c.place.new.self old c.in_ok-part.ensures.placed c.in-Pre.is c.self.view_is c.in_ok-part.ensures.ok (does-pre m p n s.refused past now (Gone at.path ∷ []) is w d)) c.remove-removed-in-Pre.ensures.ok

pub returns-clause-err : goal.returns-clause-err
returns-clause-err g c = let s = c.self.inside in let state = g.D.Disk.state in let past = each (λ x. ((state x.0).told, (state x.1).told)) s.history.items in let now = each (λ x. ((state x.0).told, (state x.1).told)) c.and-self-inside-in-Pre.result.items in let is = ap (each (λ x. ((state x.0).told, (state x.1).told))) c.and-self-inside-in-Pre.ensures in let w = c.self.invariant in
    let m = state s.main in let p = state s.pre in let n = state c.remove-removed-in-Pre.new.self in let at = c.in_ok-part.field-0 in let old = c.args.self.now in
    on_err c.remove-removed-in-Pre.result _ _ (λ d. before (λ v. Changes [] v (pair m n s.refused now)) _ c.place.new.self old c.self.view_is c.in_ok-part.ensures.ok (changes-pre m p n s.refused past now [] is w d)) c.remove-removed-in-Pre.ensures.err

pub returns-clause-cause : goal.returns-clause-cause
returns-clause-cause g c = let s = c.self.inside in let state = g.D.Disk.state in let past = each (λ x. ((state x.0).told, (state x.1).told)) s.history.items in let now = each (λ x. ((state x.0).told, (state x.1).told)) c.and-self-inside-in-Pre.result.items in let w = c.self.invariant in
    let m = state s.main in let p = state s.pre in let n = state c.remove-removed-in-Pre.new.self in let at = c.in_ok-part.field-0 in let old = c.args.self.now in
    before (λ v. DiskCause v (pair m n s.refused now) c.remove-removed-in-Pre.result) _ c.place.new.self old c.self.view_is c.in_ok-part.ensures.ok (cause-pre m p n s.refused past now c.remove-removed-in-Pre.result c.remove-removed-in-Pre.ensures.cause)

pub returns-in-Main-clause-placed : goal.returns-in-Main-clause-placed
returns-in-Main-clause-placed g c = let s = c.self.inside in let state = g.D.Disk.state in let past = each (λ x. ((state x.0).told, (state x.1).told)) s.history.items in let now = each (λ x. ((state x.0).told, (state x.1).told)) c.and-self-inside.result.items in let is = ap (each (λ x. ((state x.0).told, (state x.1).told))) c.and-self-inside.ensures in let w = c.self.invariant in
    let m = state s.main in let p = state s.pre in let n = state c.remove-removed.new.self in let at = c.in_ok-part.field-0 in let old = c.args.self.now in
    λ has. before (λ v. OnErr c.remove-removed.result (Does [] v (pair n p s.refused now))) _ c.place.new.self old c.self.view_is c.in_ok-part.ensures.ok (err_placed-main c.remove-removed.result m n p s.refused past now at.path is w c.remove-removed.ensures.err c.remove-removed.ensures.placed)

pub returns-clause-placed : goal.returns-clause-placed
returns-clause-placed g c = let s = c.self.inside in let state = g.D.Disk.state in let past = each (λ x. ((state x.0).told, (state x.1).told)) s.history.items in let now = each (λ x. ((state x.0).told, (state x.1).told)) c.and-self-inside-in-Pre.result.items in let is = ap (each (λ x. ((state x.0).told, (state x.1).told))) c.and-self-inside-in-Pre.ensures in let w = c.self.invariant in
    let m = state s.main in let p = state s.pre in let n = state c.remove-removed-in-Pre.new.self in let at = c.in_ok-part.field-0 in let old = c.args.self.now in
    λ has. before (λ v. OnErr c.remove-removed-in-Pre.result (Does [] v (pair m n s.refused now))) _ c.place.new.self old c.self.view_is c.in_ok-part.ensures.ok (err_placed-pre c.remove-removed-in-Pre.result m p n s.refused past now at.path is w c.remove-removed-in-Pre.ensures.err c.remove-removed-in-Pre.ensures.placed)

pub returns-in-Main-clause-held : goal.returns-in-Main-clause-held
returns-in-Main-clause-held g c = let s = c.self.inside in let state = g.D.Disk.state in let past = each (λ x. ((state x.0).told, (state x.1).told)) s.history.items in let now = each (λ x. ((state x.0).told, (state x.1).told)) c.and-self-inside.result.items in let is = ap (each (λ x. ((state x.0).told, (state x.1).told))) c.and-self-inside.ensures in let w = c.self.invariant in
    let m = state s.main in let p = state s.pre in let n = state c.remove-removed.new.self in let at = c.in_ok-part.field-0 in let old = c.args.self.now in
    given (λ q v. IsHeld q v → OnErr c.remove-removed.result (Does [] v (pair n p s.refused now))) c.args.path.now at.path at.part Main _ c.place.new.self old c.in_ok-part.ensures.placed c.in-Main.is c.self.view_is c.in_ok-part.ensures.ok
    (err_held-main c.remove-removed.result m n p s.refused past now at.path is w c.remove-removed.ensures.err c.remove-removed.ensures.held)

pub returns-clause-held : goal.returns-clause-held
returns-clause-held g c = let s = c.self.inside in let state = g.D.Disk.state in let past = each (λ x. ((state x.0).told, (state x.1).told)) s.history.items in let now = each (λ x. ((state x.0).told, (state x.1).told)) c.and-self-inside-in-Pre.result.items in let is = ap (each (λ x. ((state x.0).told, (state x.1).told))) c.and-self-inside-in-Pre.ensures in let w = c.self.invariant in
    let m = state s.main in let p = state s.pre in let n = state c.remove-removed-in-Pre.new.self in let at = c.in_ok-part.field-0 in let old = c.args.self.now in
    given (λ q v. IsHeld q v → OnErr c.remove-removed-in-Pre.result (Does [] v (pair m n s.refused now))) c.args.path.now at.path at.part Pre _ c.place.new.self old c.in_ok-part.ensures.placed c.in-Pre.is c.self.view_is c.in_ok-part.ensures.ok
    (err_held-pre c.remove-removed-in-Pre.result m p n s.refused past now at.path is w c.remove-removed-in-Pre.ensures.err c.remove-removed-in-Pre.ensures.held)
