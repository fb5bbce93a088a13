use Rattle.std.proofs.Common.{arith, sym, ap, subst, [], ◌∙◌}
use Rattle.sc_disk.specs.Calls.{RefusesAdd}
use Rattle.sc_disk.specs.declared.error.Error.{Error}
use Rattle.sc_disk.specs.Disks.{Does, has_place}
use Rattle.sc_disk.specs.Names.{temporary}
use Rattle.sc_disk.specs.Store.{gone, firsts, temporary_of}
use Rattle.sc_disk.proofs.Names.{key_not_temporary}
use Rattle.sc_disk.proofs.Places.{same-place}
use Rattle.sc_disk.proofs.Placing.{if_err_and}
use Rattle.sc_disk.proofs.Preparing.{prepared, refused_opening}
use Rattle.sc_disk.proofs.Tidying.{quiet-gone, tidy-opened, tidy-quiet, tidy-same}
use Rattle.sc_disk.proofs.lru_disk_cache.LruDiskCache.prepare_add.Goals as goal

pub open_entry-requires-clause-key : goal.open_entry-requires-clause-key
open_entry-requires-clause-key g c = key_not_temporary c.args.key.now (c.is_key.ensures.key c.if-not-is_key.false)

pub open_entry-requires-clause-placed : goal.open_entry-requires-clause-placed
open_entry-requires-clause-placed g c = let old = c.args.self.now in let mid = c.reserve_entry.new.self in let after = c.evict_to.new.self in let e = c.in_ok-evict_to.ensures.evicts in
    same-place mid.disk after.disk (gone (firsts e.0 mid.index)) c.args.key.now e.1.disk ∙ ap (λ d. has_place d c.args.key.now) c.in_ok-reserve_entry.ensures.disk ∙ c.is_key.ensures.placed c.if-not-is_key.false

pub returns-in_err-evict_to-clause-tidy : goal.returns-in_err-evict_to-clause-tidy
returns-in_err-evict_to-clause-tidy g c = λ h. let old = c.args.self.now in let mid = c.reserve_entry.new.self in let new = c.evict_to.new.self in
    let r = c.in_ok-reserve_entry.ensures in let e = c.in_err-evict_to.ensures.evicts in
    tidy-same old.pending.slots new.pending.slots new.disk (ap (λ p. p.slots) e.1.pending ∙ r.slots)
    (tidy-quiet old.pending.slots old.disk new.disk (gone (firsts e.0 mid.index)) (quiet-gone (firsts e.0 mid.index)) (subst (λ d. Does (gone (firsts e.0 mid.index)) d new.disk) r.disk e.1.disk) h)

pub returns-in_err-entry-clause-tidy : goal.returns-in_err-entry-clause-tidy
returns-in_err-entry-clause-tidy g c = λ h. let old = c.args.self.now in let mid = c.reserve_entry.new.self in let after = c.evict_to.new.self in let new = c.open_entry.new.self in
    let r = c.in_ok-reserve_entry.ensures in let e = c.in_ok-evict_to.ensures.evicts in let a = c.in_err-entry.ensures.err in
    tidy-same old.pending.slots new.pending.slots new.disk (ap (λ p. p.slots) (a.pending ∙ e.1.pending) ∙ r.slots)
    (tidy-quiet old.pending.slots after.disk new.disk [] tt a.disk
    (tidy-quiet old.pending.slots old.disk after.disk (gone (firsts e.0 mid.index)) (quiet-gone (firsts e.0 mid.index)) (subst (λ d. Does (gone (firsts e.0 mid.index)) d after.disk) r.disk e.1.disk) h))

pub returns-clause-tidy : goal.returns-clause-tidy
returns-clause-tidy g c = λ h. let old = c.args.self.now in let mid = c.reserve_entry.new.self in let after = c.evict_to.new.self in let new = c.open_entry.new.self in
    let r = c.in_ok-reserve_entry.ensures in let e = c.in_ok-evict_to.ensures.evicts in let o = c.in_ok-entry.ensures.ok in
    tidy-opened after.pending new.pending after.disk new.disk c.in_ok-entry.entry.number (record { key = c.in_ok-entry.entry.key; size = c.args.size }) (temporary_of c.in_ok-entry.entry) c.args.now [] (ap (λ v. temporary v c.in_ok-entry.entry.key c.in_ok-entry.entry.number) o.divided) o.opened.free o.opened.entry tt o.disk
    (tidy-same old.pending.slots after.pending.slots after.disk (ap (λ p. p.slots) e.1.pending ∙ r.slots)
    (tidy-quiet old.pending.slots old.disk after.disk (gone (firsts e.0 mid.index)) (quiet-gone (firsts e.0 mid.index)) (subst (λ d. Does (gone (firsts e.0 mid.index)) d after.disk) r.disk e.1.disk) h))

pub returns-clause-ok : goal.returns-clause-ok
returns-clause-ok g c = let old = c.args.self.now in let mid = c.reserve_entry.new.self in let after = c.evict_to.new.self in
    let r = c.in_ok-reserve_entry.ensures in let k = c.in_ok-evict_to.ensures in (
      k.evicts.0,
      prepared c.args.key.now c.args.size k.evicts.0 c.unreserved-unreserved.result old mid after c.open_entry.new.self c.in_ok-entry.entry c.args.now (c.is_key.ensures.key c.if-not-is_key.false) (omega arith) c.unreserved-unreserved.ensures
          r.index r.slots r.capacity r.disk k.evicts.1 k.evicts.2 k.within c.in_ok-entry.ensures.ok,
    )

pub returns-in_err-entry-clause-err : goal.returns-in_err-entry-clause-err
returns-in_err-entry-clause-err g c = let old = c.args.self.now in let mid = c.reserve_entry.new.self in let after = c.evict_to.new.self in
    let r = c.in_ok-reserve_entry.ensures in let k = c.in_ok-evict_to.ensures in let e = c.in_err-entry.ensures in
    if_err_and c.from_residual-in_err-entry.result _ _ c.from_residual-in_err-entry.ensures.1 (λ x same. (
      k.evicts.0,
      subst (λ (x : Error). RefusesAdd x c.args.key.now c.args.size k.evicts.0 old c.open_entry.new.self) (sym same)
          (refused_opening c.args.key.now c.args.size k.evicts.0 c.unreserved-unreserved.result old mid after c.open_entry.new.self c.in_err-entry.field-0.0 (sym c.is_key.ensures.both ∙ c.if-not-is_key.false) (omega arith) c.unreserved-unreserved.ensures
          r.index r.slots r.capacity r.disk k.evicts.1 k.evicts.2 e.err e.cause),
    ))
