use Rattle.std.proofs.Common.{OnErr, [], ap, map as each, subst, sym, ◌∙◌, ◌∷◌}
use Rattle.sc_disk.specs.Disks.{Changes, DiskCause, Does, IsHeld}
use Rattle.sc_disk.specs.declared.change.Change.TheVariants.{Moved}
use Rattle.sc_disk_pair.specs.Parts.{in_part}
use Rattle.sc_disk_pair.specs.declared.part.Part.TheVariants.{Main, Pre}
use Rattle.sc_disk_pair.proofs.Arms.{before, cause-main, cause-pre, either, given, on_err, on_ok}
use Rattle.sc_disk_pair.proofs.Weaving.{changes-main, changes-pre, does-main, does-pre, pair, weaves-main, weaves-pre}
use Rattle.sc_disk.proofs.Doing.{changes-of}
use Rattle.sc_disk_pair.proofs.Refusing.{err_moved-main, err_moved-pre}
use Rattle.sc_disk_pair.proofs.two.TwoDisk.rename.Goals as goal

pub invariant_of-self : goal.invariant_of-self
invariant_of-self g c = let s = c.self.inside in let state = g.D.Disk.state in let past = each (λ x. ((state x.0).told, (state x.1).told)) s.history.items in let now = each (λ x. ((state x.0).told, (state x.1).told)) c.and-self-inside.result.items in let is = ap (each (λ x. ((state x.0).told, (state x.1).told))) c.and-self-inside.ensures in let w = c.self.invariant in
    let m = state s.main in let p = state s.pre in let n = state c.rename-moved.new.self in let at = c.in_ok-part.field-0 in let old = c.args.self.now in
    either c.rename-moved.result _ _ _ c.rename-moved.ensures.ok c.rename-moved.ensures.err (λ d. weaves-main m n p past now (Moved at.from at.to ∷ []) is w (changes-of m n (Moved at.from at.to ∷ []) d)) (λ d. weaves-main m n p past now [] is w d)

pub returns-in-Main-clause-ok : goal.returns-in-Main-clause-ok
returns-in-Main-clause-ok g c = let s = c.self.inside in let state = g.D.Disk.state in let past = each (λ x. ((state x.0).told, (state x.1).told)) s.history.items in let now = each (λ x. ((state x.0).told, (state x.1).told)) c.and-self-inside.result.items in let is = ap (each (λ x. ((state x.0).told, (state x.1).told))) c.and-self-inside.ensures in let w = c.self.invariant in
    let m = state s.main in let p = state s.pre in let n = state c.rename-moved.new.self in let at = c.in_ok-part.field-0 in let old = c.args.self.now in
    on_ok c.rename-moved.result _ _ (λ d. given (λ u v. Does (Moved c.args.from.now u ∷ []) v (pair n p s.refused now)) c.args.to.now at.to at.part Main _ c.place_both.new.self old c.in_ok-part.ensures.to c.in-Main.is c.self.view_is c.in_ok-part.ensures.ok (subst (λ u. Does (Moved u (in_part Main at.to) ∷ []) (pair m p s.refused past) (pair n p s.refused now)) (sym (c.in_ok-part.ensures.from ∙ ap (λ t. in_part t at.from) c.in-Main.is)) (does-main m n p s.refused past now (Moved at.from at.to ∷ []) is w d))) c.rename-moved.ensures.ok

pub returns-in-Main-clause-err : goal.returns-in-Main-clause-err
returns-in-Main-clause-err g c = let s = c.self.inside in let state = g.D.Disk.state in let past = each (λ x. ((state x.0).told, (state x.1).told)) s.history.items in let now = each (λ x. ((state x.0).told, (state x.1).told)) c.and-self-inside.result.items in let is = ap (each (λ x. ((state x.0).told, (state x.1).told))) c.and-self-inside.ensures in let w = c.self.invariant in
    let m = state s.main in let p = state s.pre in let n = state c.rename-moved.new.self in let at = c.in_ok-part.field-0 in let old = c.args.self.now in
    on_err c.rename-moved.result _ _ (λ d. before (λ v. Changes [] v (pair n p s.refused now)) _ c.place_both.new.self old c.self.view_is c.in_ok-part.ensures.ok (changes-main m n p s.refused past now [] is w d)) c.rename-moved.ensures.err

pub returns-in-Main-clause-cause : goal.returns-in-Main-clause-cause
returns-in-Main-clause-cause g c = let s = c.self.inside in let state = g.D.Disk.state in let past = each (λ x. ((state x.0).told, (state x.1).told)) s.history.items in let now = each (λ x. ((state x.0).told, (state x.1).told)) c.and-self-inside.result.items in let w = c.self.invariant in
    let m = state s.main in let p = state s.pre in let n = state c.rename-moved.new.self in let at = c.in_ok-part.field-0 in let old = c.args.self.now in
    before (λ v. DiskCause v (pair n p s.refused now) c.rename-moved.result) _ c.place_both.new.self old c.self.view_is c.in_ok-part.ensures.ok (cause-main m n p s.refused past now c.rename-moved.result c.rename-moved.ensures.cause)

pub invariant_of-self-in-Pre : goal.invariant_of-self-in-Pre
invariant_of-self-in-Pre g c = let s = c.self.inside in let state = g.D.Disk.state in let past = each (λ x. ((state x.0).told, (state x.1).told)) s.history.items in let now = each (λ x. ((state x.0).told, (state x.1).told)) c.and-self-inside-in-Pre.result.items in let is = ap (each (λ x. ((state x.0).told, (state x.1).told))) c.and-self-inside-in-Pre.ensures in let w = c.self.invariant in
    let m = state s.main in let p = state s.pre in let n = state c.rename-moved-in-Pre.new.self in let at = c.in_ok-part.field-0 in let old = c.args.self.now in
    either c.rename-moved-in-Pre.result _ _ _ c.rename-moved-in-Pre.ensures.ok c.rename-moved-in-Pre.ensures.err (λ d. weaves-pre m p n past now (Moved at.from at.to ∷ []) is w (changes-of p n (Moved at.from at.to ∷ []) d)) (λ d. weaves-pre m p n past now [] is w d)

pub returns-clause-ok : goal.returns-clause-ok
returns-clause-ok g c = let s = c.self.inside in let state = g.D.Disk.state in let past = each (λ x. ((state x.0).told, (state x.1).told)) s.history.items in let now = each (λ x. ((state x.0).told, (state x.1).told)) c.and-self-inside-in-Pre.result.items in let is = ap (each (λ x. ((state x.0).told, (state x.1).told))) c.and-self-inside-in-Pre.ensures in let w = c.self.invariant in
    let m = state s.main in let p = state s.pre in let n = state c.rename-moved-in-Pre.new.self in let at = c.in_ok-part.field-0 in let old = c.args.self.now in
    on_ok c.rename-moved-in-Pre.result _ _ (λ d. given (λ u v. Does (Moved c.args.from.now u ∷ []) v (pair m n s.refused now)) c.args.to.now at.to at.part Pre _ c.place_both.new.self old c.in_ok-part.ensures.to c.in-Pre.is c.self.view_is c.in_ok-part.ensures.ok (subst (λ u. Does (Moved u (in_part Pre at.to) ∷ []) (pair m p s.refused past) (pair m n s.refused now)) (sym (c.in_ok-part.ensures.from ∙ ap (λ t. in_part t at.from) c.in-Pre.is)) (does-pre m p n s.refused past now (Moved at.from at.to ∷ []) is w d))) c.rename-moved-in-Pre.ensures.ok

pub returns-clause-err : goal.returns-clause-err
returns-clause-err g c = let s = c.self.inside in let state = g.D.Disk.state in let past = each (λ x. ((state x.0).told, (state x.1).told)) s.history.items in let now = each (λ x. ((state x.0).told, (state x.1).told)) c.and-self-inside-in-Pre.result.items in let is = ap (each (λ x. ((state x.0).told, (state x.1).told))) c.and-self-inside-in-Pre.ensures in let w = c.self.invariant in
    let m = state s.main in let p = state s.pre in let n = state c.rename-moved-in-Pre.new.self in let at = c.in_ok-part.field-0 in let old = c.args.self.now in
    on_err c.rename-moved-in-Pre.result _ _ (λ d. before (λ v. Changes [] v (pair m n s.refused now)) _ c.place_both.new.self old c.self.view_is c.in_ok-part.ensures.ok (changes-pre m p n s.refused past now [] is w d)) c.rename-moved-in-Pre.ensures.err

pub returns-clause-cause : goal.returns-clause-cause
returns-clause-cause g c = let s = c.self.inside in let state = g.D.Disk.state in let past = each (λ x. ((state x.0).told, (state x.1).told)) s.history.items in let now = each (λ x. ((state x.0).told, (state x.1).told)) c.and-self-inside-in-Pre.result.items in let w = c.self.invariant in
    let m = state s.main in let p = state s.pre in let n = state c.rename-moved-in-Pre.new.self in let at = c.in_ok-part.field-0 in let old = c.args.self.now in
    before (λ v. DiskCause v (pair m n s.refused now) c.rename-moved-in-Pre.result) _ c.place_both.new.self old c.self.view_is c.in_ok-part.ensures.ok (cause-pre m p n s.refused past now c.rename-moved-in-Pre.result c.rename-moved-in-Pre.ensures.cause)

pub returns-in-Main-clause-held : goal.returns-in-Main-clause-held
returns-in-Main-clause-held g c = let s = c.self.inside in let state = g.D.Disk.state in let past = each (λ x. ((state x.0).told, (state x.1).told)) s.history.items in let now = each (λ x. ((state x.0).told, (state x.1).told)) c.and-self-inside.result.items in let is = ap (each (λ x. ((state x.0).told, (state x.1).told))) c.and-self-inside.ensures in let w = c.self.invariant in
    let m = state s.main in let p = state s.pre in let n = state c.rename-moved.new.self in let at = c.in_ok-part.field-0 in let old = c.args.self.now in
    λ held one. given (λ q v. IsHeld q v → OnErr c.rename-moved.result (Does [] v (pair n p s.refused now))) c.args.from.now at.from at.part Main _ c.place_both.new.self old c.in_ok-part.ensures.from c.in-Main.is c.self.view_is c.in_ok-part.ensures.ok
    (err_moved-main c.rename-moved.result m n p s.refused past now at.from at.to is w c.rename-moved.ensures.err c.rename-moved.ensures.held) held

pub returns-clause-held : goal.returns-clause-held
returns-clause-held g c = let s = c.self.inside in let state = g.D.Disk.state in let past = each (λ x. ((state x.0).told, (state x.1).told)) s.history.items in let now = each (λ x. ((state x.0).told, (state x.1).told)) c.and-self-inside-in-Pre.result.items in let is = ap (each (λ x. ((state x.0).told, (state x.1).told))) c.and-self-inside-in-Pre.ensures in let w = c.self.invariant in
    let m = state s.main in let p = state s.pre in let n = state c.rename-moved-in-Pre.new.self in let at = c.in_ok-part.field-0 in let old = c.args.self.now in
    λ held one. given (λ q v. IsHeld q v → OnErr c.rename-moved-in-Pre.result (Does [] v (pair m n s.refused now))) c.args.from.now at.from at.part Pre _ c.place_both.new.self old c.in_ok-part.ensures.from c.in-Pre.is c.self.view_is c.in_ok-part.ensures.ok
    (err_moved-pre c.rename-moved-in-Pre.result m p n s.refused past now at.from at.to is w c.rename-moved-in-Pre.ensures.err c.rename-moved-in-Pre.ensures.held) held
