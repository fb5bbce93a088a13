use Rattle.std.proofs.Common.{[], sym, subst, map as each}
use Rattle.sc_disk.specs.Disks.{ArePlaced, Does, IsListing}
use Rattle.sc_disk.proofs.Doing.{does-still}
use Rattle.sc_disk_pair.specs.Twos.{joined_state}
use Rattle.sc_disk_pair.proofs.Refusing.{placed-listed}
use Rattle.sc_disk_pair.proofs.Weaving.{listing-both, pair, still-main, still-pre}
use Rattle.sc_disk_pair.proofs.two.TwoDisk.list.Goals as goal

pub returns-clause-listed : goal.returns-clause-listed
returns-clause-listed g c = let state = g.D.Disk.state in let s = c.self.inside in
    let past = each (λ x. ((state x.0).told, (state x.1).told)) s.history.items in
    subst (λ w. IsListing c.in_ok-all.all (joined_state w)) c.self.view_is (subst (λ l. IsListing l (pair (state s.main) (state s.pre) s.refused past)) (sym c.in_ok-all.ensures)
    (listing-both (state s.main) (state s.pre) s.refused past c.in_ok-main.main c.in_ok-pre.pre c.self.invariant c.in_ok-main.ensures.listed c.in_ok-pre.ensures.listed))

pub returns-in_err-pre-clause-same : goal.returns-in_err-pre-clause-same
returns-in_err-pre-clause-same g c = let s = c.self.inside in let state = g.D.Disk.state in let past = each (λ x. ((state x.0).told, (state x.1).told)) s.history.items in let m = state s.main in let p = state s.pre in let n = state c.list.new.self in let q = state c.list-2.new.self in
    subst (λ w. Does [] (joined_state w) (pair n q s.refused past)) c.self.view_is (does-still (pair m p s.refused past) (pair n p s.refused past) (pair n q s.refused past) [] (still-main m n p s.refused past c.list.ensures.same) (still-pre n p q s.refused past c.list-2.ensures.same))

pub returns-in_err-all-clause-same : goal.returns-in_err-all-clause-same
returns-in_err-all-clause-same g c = let s = c.self.inside in let state = g.D.Disk.state in let past = each (λ x. ((state x.0).told, (state x.1).told)) s.history.items in let m = state s.main in let p = state s.pre in let n = state c.list.new.self in let q = state c.list-2.new.self in
    subst (λ w. Does [] (joined_state w) (pair n q s.refused past)) c.self.view_is (does-still (pair m p s.refused past) (pair n p s.refused past) (pair n q s.refused past) [] (still-main m n p s.refused past c.list.ensures.same) (still-pre n p q s.refused past c.list-2.ensures.same))

pub returns-clause-same : goal.returns-clause-same
returns-clause-same g c = let s = c.self.inside in let state = g.D.Disk.state in let past = each (λ x. ((state x.0).told, (state x.1).told)) s.history.items in let m = state s.main in let p = state s.pre in let n = state c.list.new.self in let q = state c.list-2.new.self in
    subst (λ w. Does [] (joined_state w) (pair n q s.refused past)) c.self.view_is (does-still (pair m p s.refused past) (pair n p s.refused past) (pair n q s.refused past) [] (still-main m n p s.refused past c.list.ensures.same) (still-pre n p q s.refused past c.list-2.ensures.same))

pub returns-clause-placed : goal.returns-clause-placed
returns-clause-placed g c = subst (λ l. ArePlaced l (joined_state c.args.self.now)) (sym c.in_ok-all.ensures) (placed-listed c.args.self.now c.in_ok-main.main c.in_ok-pre.pre)
