use Rattle.std.proofs.Common.{OnErr, [], ap, map as each, ◌∷◌}
use Rattle.sc_disk.specs.Disks.{ChangesPart, DiskCause, Does, DoesPart, IsHeld}
use Rattle.sc_disk.specs.declared.change.Change.TheVariants.{Added}
use Rattle.sc_disk_pair.specs.declared.part.Part.TheVariants.{Main, Pre}
use Rattle.sc_disk_pair.proofs.Arms.{before, cause-main, cause-pre, either, given, on_err, on_ok}
use Rattle.sc_disk_pair.proofs.Weaving.{changes_part-main, changes_part-pre, does-main, does-pre, pair, weaves-main, weaves-pre, weaves_part-main, weaves_part-pre}
use Rattle.sc_disk.proofs.Doing.{changes-of}
use Rattle.sc_disk_pair.proofs.Refusing.{err_part-main, err_part-pre}
use Rattle.sc_disk_pair.proofs.two.TwoDisk.append.Goals as goal

pub invariant_of-self : goal.invariant_of-self
invariant_of-self g c = let s = c.self.inside in let state = g.D.Disk.state in let past = each (λ x. ((state x.0).told, (state x.1).told)) s.history.items in let now = each (λ x. ((state x.0).told, (state x.1).told)) c.and-self-inside.result.items in let is = ap (each (λ x. ((state x.0).told, (state x.1).told))) c.and-self-inside.ensures in let w = c.self.invariant in
    let m = state s.main in let p = state s.pre in let n = state c.append-added.new.self in let at = c.in_ok-part.field-0 in let old = c.args.self.now in
    either c.append-added.result _ _ _ c.append-added.ensures.ok c.append-added.ensures.err (λ d. weaves-main m n p past now (Added at.path c.args.bytes.now ∷ []) is w (changes-of m n (Added at.path c.args.bytes.now ∷ []) d)) (λ d. weaves_part-main m n p past now at.path c.args.bytes.now is w d)

pub returns-in-Main-clause-ok : goal.returns-in-Main-clause-ok
returns-in-Main-clause-ok g c = let s = c.self.inside in let state = g.D.Disk.state in let past = each (λ x. ((state x.0).told, (state x.1).told)) s.history.items in let now = each (λ x. ((state x.0).told, (state x.1).told)) c.and-self-inside.result.items in let is = ap (each (λ x. ((state x.0).told, (state x.1).told))) c.and-self-inside.ensures in let w = c.self.invariant in
    let m = state s.main in let p = state s.pre in let n = state c.append-added.new.self in let at = c.in_ok-part.field-0 in let old = c.args.self.now in
    on_ok c.append-added.result _ _ (λ d. given (λ q v. Does (Added q c.args.bytes.now ∷ []) v (pair n p s.refused now)) c.args.path.now at.path at.part Main _ c.place.new.self old c.in_ok-part.ensures.placed c.in-Main.is c.self.view_is c.in_ok-part.ensures.ok (does-main m n p s.refused past now (Added at.path c.args.bytes.now ∷ []) is w d)) c.append-added.ensures.ok

pub returns-in-Main-clause-err : goal.returns-in-Main-clause-err
returns-in-Main-clause-err g c = let s = c.self.inside in let state = g.D.Disk.state in let past = each (λ x. ((state x.0).told, (state x.1).told)) s.history.items in let now = each (λ x. ((state x.0).told, (state x.1).told)) c.and-self-inside.result.items in let is = ap (each (λ x. ((state x.0).told, (state x.1).told))) c.and-self-inside.ensures in let w = c.self.invariant in
    let m = state s.main in let p = state s.pre in let n = state c.append-added.new.self in let at = c.in_ok-part.field-0 in let old = c.args.self.now in
    on_err c.append-added.result _ _ (λ d. given (λ q v. ChangesPart q c.args.bytes.now v (pair n p s.refused now)) c.args.path.now at.path at.part Main _ c.place.new.self old c.in_ok-part.ensures.placed c.in-Main.is c.self.view_is c.in_ok-part.ensures.ok (changes_part-main m n p s.refused past now at.path c.args.bytes.now is w d)) c.append-added.ensures.err

pub returns-in-Main-clause-cause : goal.returns-in-Main-clause-cause
returns-in-Main-clause-cause g c = let s = c.self.inside in let state = g.D.Disk.state in let past = each (λ x. ((state x.0).told, (state x.1).told)) s.history.items in let now = each (λ x. ((state x.0).told, (state x.1).told)) c.and-self-inside.result.items in let w = c.self.invariant in
    let m = state s.main in let p = state s.pre in let n = state c.append-added.new.self in let at = c.in_ok-part.field-0 in let old = c.args.self.now in
    before (λ v. DiskCause v (pair n p s.refused now) c.append-added.result) _ c.place.new.self old c.self.view_is c.in_ok-part.ensures.ok (cause-main m n p s.refused past now c.append-added.result c.append-added.ensures.cause)

pub invariant_of-self-in-Pre : goal.invariant_of-self-in-Pre
invariant_of-self-in-Pre g c = let s = c.self.inside in let state = g.D.Disk.state in let past = each (λ x. ((state x.0).told, (state x.1).told)) s.history.items in let now = each (λ x. ((state x.0).told, (state x.1).told)) c.and-self-inside-in-Pre.result.items in let is = ap (each (λ x. ((state x.0).told, (state x.1).told))) c.and-self-inside-in-Pre.ensures in let w = c.self.invariant in
    let m = state s.main in let p = state s.pre in let n = state c.append-added-in-Pre.new.self in let at = c.in_ok-part.field-0 in let old = c.args.self.now in
    either c.append-added-in-Pre.result _ _ _ c.append-added-in-Pre.ensures.ok c.append-added-in-Pre.ensures.err (λ d. weaves-pre m p n past now (Added at.path c.args.bytes.now ∷ []) is w (changes-of p n (Added at.path c.args.bytes.now ∷ []) d)) (λ d. weaves_part-pre m p n past now at.path c.args.bytes.now is w d)

pub returns-clause-ok : goal.returns-clause-ok
returns-clause-ok g c = let s = c.self.inside in let state = g.D.Disk.state in let past = each (λ x. ((state x.0).told, (state x.1).told)) s.history.items in let now = each (λ x. ((state x.0).told, (state x.1).told)) c.and-self-inside-in-Pre.result.items in let is = ap (each (λ x. ((state x.0).told, (state x.1).told))) c.and-self-inside-in-Pre.ensures in let w = c.self.invariant in
    let m = state s.main in let p = state s.pre in let n = state c.append-added-in-Pre.new.self in let at = c.in_ok-part.field-0 in let old = c.args.self.now in
    on_ok c.append-added-in-Pre.result _ _ (λ d. given (λ q v. Does (Added q c.args.bytes.now ∷ []) v (pair m n s.refused now)) c.args.path.now at.path at.part Pre _ c.place.new.self old c.in_ok-part.ensures.placed c.in-Pre.is c.self.view_is c.in_ok-part.ensures.ok (does-pre m p n s.refused past now (Added at.path c.args.bytes.now ∷ []) is w d)) c.append-added-in-Pre.ensures.ok

pub returns-clause-err : goal.returns-clause-err
returns-clause-err g c = let s = c.self.inside in let state = g.D.Disk.state in let past = each (λ x. ((state x.0).told, (state x.1).told)) s.history.items in let now = each (λ x. ((state x.0).told, (state x.1).told)) c.and-self-inside-in-Pre.result.items in let is = ap (each (λ x. ((state x.0).told, (state x.1).told))) c.and-self-inside-in-Pre.ensures in let w = c.self.invariant in
    let m = state s.main in let p = state s.pre in let n = state c.append-added-in-Pre.new.self in let at = c.in_ok-part.field-0 in let old = c.args.self.now in
    on_err c.append-added-in-Pre.result _ _ (λ d. given (λ q v. ChangesPart q c.args.bytes.now v (pair m n s.refused now)) c.args.path.now at.path at.part Pre _ c.place.new.self old c.in_ok-part.ensures.placed c.in-Pre.is c.self.view_is c.in_ok-part.ensures.ok (changes_part-pre m p n s.refused past now at.path c.args.bytes.now is w d)) c.append-added-in-Pre.ensures.err

pub returns-clause-cause : goal.returns-clause-cause
returns-clause-cause g c = let s = c.self.inside in let state = g.D.Disk.state in let past = each (λ x. ((state x.0).told, (state x.1).told)) s.history.items in let now = each (λ x. ((state x.0).told, (state x.1).told)) c.and-self-inside-in-Pre.result.items in let w = c.self.invariant in
    let m = state s.main in let p = state s.pre in let n = state c.append-added-in-Pre.new.self in let at = c.in_ok-part.field-0 in let old = c.args.self.now in
    before (λ v. DiskCause v (pair m n s.refused now) c.append-added-in-Pre.result) _ c.place.new.self old c.self.view_is c.in_ok-part.ensures.ok (cause-pre m p n s.refused past now c.append-added-in-Pre.result c.append-added-in-Pre.ensures.cause)

pub returns-in-Main-clause-held : goal.returns-in-Main-clause-held
returns-in-Main-clause-held g c = let s = c.self.inside in let state = g.D.Disk.state in let past = each (λ x. ((state x.0).told, (state x.1).told)) s.history.items in let now = each (λ x. ((state x.0).told, (state x.1).told)) c.and-self-inside.result.items in let is = ap (each (λ x. ((state x.0).told, (state x.1).told))) c.and-self-inside.ensures in let w = c.self.invariant in
    let m = state s.main in let p = state s.pre in let n = state c.append-added.new.self in let at = c.in_ok-part.field-0 in let old = c.args.self.now in
    given (λ q v. IsHeld q v → OnErr c.append-added.result (DoesPart q c.args.bytes.now v (pair n p s.refused now))) c.args.path.now at.path at.part Main _ c.place.new.self old c.in_ok-part.ensures.placed c.in-Main.is c.self.view_is c.in_ok-part.ensures.ok
    (err_part-main c.append-added.result m n p s.refused past now at.path c.args.bytes.now is w c.append-added.ensures.err c.append-added.ensures.held)

pub returns-clause-held : goal.returns-clause-held
returns-clause-held g c = let s = c.self.inside in let state = g.D.Disk.state in let past = each (λ x. ((state x.0).told, (state x.1).told)) s.history.items in let now = each (λ x. ((state x.0).told, (state x.1).told)) c.and-self-inside-in-Pre.result.items in let is = ap (each (λ x. ((state x.0).told, (state x.1).told))) c.and-self-inside-in-Pre.ensures in let w = c.self.invariant in
    let m = state s.main in let p = state s.pre in let n = state c.append-added-in-Pre.new.self in let at = c.in_ok-part.field-0 in let old = c.args.self.now in
    given (λ q v. IsHeld q v → OnErr c.append-added-in-Pre.result (DoesPart q c.args.bytes.now v (pair m n s.refused now))) c.args.path.now at.path at.part Pre _ c.place.new.self old c.in_ok-part.ensures.placed c.in-Pre.is c.self.view_is c.in_ok-part.ensures.ok
    (err_part-pre c.append-added-in-Pre.result m p n s.refused past now at.path c.args.bytes.now is w c.append-added-in-Pre.ensures.err c.append-added-in-Pre.ensures.held)
