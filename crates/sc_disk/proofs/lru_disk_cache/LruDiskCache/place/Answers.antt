use Rattle.std.proofs.Common.{◌≡◌, ◌≤◌, ℕ, Bool, false, refl, sym, ap, ◌∙◌, subst, arith}
use Rattle.sc_disk.specs.Calls.{RefusesPlace}
use Rattle.sc_disk.specs.Refusals.{error_of}
use Rattle.sc_disk.specs.declared.error.Error.{Error}
use Rattle.sc_disk.specs.declared.error.Error.TheVariants.{NoMemory}
use Rattle.sc_disk.proofs.Placing.{alters_twice, disk_cause, if_err_and, made_room, placed, refused_early, refused_room, refused_settle}
use Rattle.sc_disk.proofs.lru_disk_cache.LruDiskCache.place.Goals as goal

pub returns-in_err-size-clause-err : goal.returns-in_err-size-clause-err
returns-in_err-size-clause-err g c = let old = c.args.self.now in let new = c.measure.new.self in let e = c.args.entry.now in
    if_err_and c.from_residual.result _ _ c.from_residual.ensures.1 (λ r same. (
      0,
      false,
      subst (λ (x : Error). RefusesPlace x e c.args.pending c.args.now 0 false old new) (sym same)
          (refused_early c.in_err-size.field-0.0 e c.args.pending c.args.now old new c.in_err-size.ensures.cause c.in_err-size.ensures.alters),
    ))

pub returns-in_err-reserve_pair-clause-err : goal.returns-in_err-reserve_pair-clause-err
returns-in_err-reserve_pair-clause-err g c = let old = c.args.self.now in let a = c.measure.new.self in let new = c.reserve_pair.new.self in let e = c.args.entry.now in
    if_err_and c.from_residual-in_err-reserve_pair.result _ _ c.from_residual-in_err-reserve_pair.ensures.1 (λ r same. (
      0,
      false,
      subst (λ (x : Error). RefusesPlace x e c.args.pending c.args.now 0 false old new) (sym same)
          (refused_early NoMemory e c.args.pending c.args.now old new tt (alters_twice old a new c.in_ok-size.ensures.alters c.in_err-reserve_pair.ensures.alters)),
    ))

pub returns-in_err-make_room-clause-err : goal.returns-in_err-make_room-clause-err
returns-in_err-make_room-clause-err g c = let old = c.args.self.now in let a = c.measure.new.self in let b = c.reserve_pair.new.self in let new = c.make_room.new.self in let e = c.args.entry.now in
    let k = c.in_err-make_room.ensures in let d = c.in_err-make_room.field-0.0 in
    let still = alters_twice old a b c.in_ok-size.ensures.alters c.in_ok-reserve_pair.ensures.alters in
    let room = made_room e c.args.pending c.in_ok-size.size k.evicts.0 c.unreserved-unreserved.result c.max.result old b new still c.in_ok-size.ensures.size c.in_ok-size.ensures.fits c.unreserved-unreserved.ensures c.max.ensures k.evicts.1 k.evicts.2 in
    if_err_and c.from_residual-in_err-make_room.result _ _ c.from_residual-in_err-make_room.ensures.1 (λ r same. (
      k.evicts.0,
      false,
      subst (λ (x : Error). RefusesPlace x e c.args.pending c.args.now k.evicts.0 false old new) (sym same)
          (refused_room (error_of d) e c.args.pending c.in_ok-size.size k.evicts.0 c.args.now b.disk.faults old new room still.disk.faults (disk_cause d b.disk new.disk k.cause)),
    ))

pub returns-in_err-settle-clause-err : goal.returns-in_err-settle-clause-err
returns-in_err-settle-clause-err g c = let old = c.args.self.now in let a = c.measure.new.self in let b = c.reserve_pair.new.self in let d = c.make_room.new.self in let new = c.settle.new.self in let e = c.args.entry.now in
    let k = c.in_ok-make_room.ensures in let s = c.in_err-settle.ensures in
    let still = alters_twice old a b c.in_ok-size.ensures.alters c.in_ok-reserve_pair.ensures.alters in
    let room = made_room e c.args.pending c.in_ok-size.size k.evicts.0 c.unreserved-unreserved.result c.max.result old b d still c.in_ok-size.ensures.size c.in_ok-size.ensures.fits c.unreserved-unreserved.ensures c.max.ensures k.evicts.1 k.evicts.2 in
    if_err_and c.from_residual-in_err-settle.result _ _ c.from_residual-in_err-settle.ensures.1 (λ r same. (
      k.evicts.0,
      s.err.0,
      subst (λ (x : Error). RefusesPlace x e c.args.pending c.args.now k.evicts.0 s.err.0 old new) (sym same)
          (refused_settle c.in_err-settle.field-0.0 e c.args.pending c.in_ok-size.size k.evicts.0 c.args.now s.err.0 old d new room s.err.1 s.cause),
    ))

pub returns-clause-ok : goal.returns-clause-ok
returns-clause-ok g c = let old = c.args.self.now in let a = c.measure.new.self in let b = c.reserve_pair.new.self in let d = c.make_room.new.self in let new = c.settle.new.self in let e = c.args.entry.now in
    let k = c.in_ok-make_room.ensures in
    let still = alters_twice old a b c.in_ok-size.ensures.alters c.in_ok-reserve_pair.ensures.alters in
    let room = made_room e c.args.pending c.in_ok-size.size k.evicts.0 c.unreserved-unreserved.result c.max.result old b d still c.in_ok-size.ensures.size c.in_ok-size.ensures.fits c.unreserved-unreserved.ensures c.max.ensures k.evicts.1 k.evicts.2 in
    (c.in_ok-size.size, k.evicts.0, placed e c.args.pending c.in_ok-size.size k.evicts.0 c.args.now c.unreserved-unreserved.result c.max.result old b d new room c.requires.room still c.unreserved-unreserved.ensures c.max.ensures k.within c.in_ok-settle.ensures.ok)
