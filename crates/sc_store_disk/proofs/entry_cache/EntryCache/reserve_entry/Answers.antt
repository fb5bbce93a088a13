use Rattle.std.proofs.Common.{sym, ◌∙◌}
use Rattle.sc_store_disk.specs.DiskStores.{bare_disk}
use Rattle.sc_store_disk.specs.declared.reserving.Reservation.TheVariants.{Refused as NotReserved}
use Rattle.sc_store_disk.proofs.Askings.{disk-kind}
use Rattle.sc_store_disk.proofs.Reservings.{disk-bare, early-held, early-moved, reserved-cause, reserved-evicts, reserved-moved, same-refusal, unopened-moved}
use Rattle.sc_store_disk.proofs.Steadying.{stays-after, stays-self}
use Rattle.sc_store_disk.proofs.entry_cache.EntryCache.reserve_entry.Goals as goal

pub returns-clause-moved : goal.returns-clause-moved
returns-clause-moved g c = let s = c.args.self.now in
    reserved-moved (bare_disk s) (bare_disk c.open.new.self) (bare_disk c.prepare.new.self) c.open.ensures.steady (disk-kind s.mode s.pair.max_size s.pair.opened s.pair.disks) c.args.policy.now c.args.key.now c.args.size
    (early-held s.mode s.pair.max_size s.pair.opened s.pair.disks c.args.policy.now c.args.key.now ∙ sym c.early_cause.ensures ∙ c.in_default.is) c.prepare.result c.prepare.ensures.moved

pub returns-clause-cause : goal.returns-clause-cause
returns-clause-cause g c = let s = c.args.self.now in
    reserved-cause (bare_disk s) (bare_disk c.open.new.self) (bare_disk c.prepare.new.self) c.open.ensures.steady (disk-kind s.mode s.pair.max_size s.pair.opened s.pair.disks) c.args.policy.now c.args.key.now c.args.size
    (early-held s.mode s.pair.max_size s.pair.opened s.pair.disks c.args.policy.now c.args.key.now ∙ sym c.early_cause.ensures ∙ c.in_default.is) c.prepare.result c.prepare.ensures.cause

pub returns-clause-evicts : goal.returns-clause-evicts
returns-clause-evicts g c = let s = c.args.self.now in
    reserved-evicts (bare_disk s) (bare_disk c.open.new.self) (bare_disk c.prepare.new.self) c.open.ensures.steady (disk-kind s.mode s.pair.max_size s.pair.opened s.pair.disks) c.args.policy.now c.args.key.now c.args.size
    (early-held s.mode s.pair.max_size s.pair.opened s.pair.disks c.args.policy.now c.args.key.now ∙ sym c.early_cause.ensures ∙ c.in_default.is) c.prepare.result c.prepare.ensures.evicts

pub returns-in-Some-clause-stays : goal.returns-in-Some-clause-stays
returns-in-Some-clause-stays g c = stays-self (bare_disk c.args.self.now)

pub returns-in-Some-clause-early : goal.returns-in-Some-clause-early
returns-in-Some-clause-early g c cause is = let s = c.args.self.now in
    same-refusal NotReserved s c.in-Some.cause cause (sym c.in-Some.is ∙ c.early_cause.ensures ∙ sym (early-held s.mode s.pair.max_size s.pair.opened s.pair.disks c.args.policy.now c.args.key.now) ∙ is)

pub returns-in_err-make_key_path-clause-stays : goal.returns-in_err-make_key_path-clause-stays
returns-in_err-make_key_path-clause-stays g c = stays-self (bare_disk c.args.self.now)

pub returns-then-not-branch-clause-moved : goal.returns-then-not-branch-clause-moved
returns-then-not-branch-clause-moved g c told = let s = c.args.self.now in
    unopened-moved c.args.policy.now (bare_disk s).facts (bare_disk s).reserved c.args.key.now c.args.size (bare_disk s) (bare_disk c.open.new.self)
    (early-held s.mode s.pair.max_size s.pair.opened s.pair.disks c.args.policy.now c.args.key.now ∙ sym c.early_cause.ensures ∙ c.in_default.is) (c.in_ok-open.ensures.fault c.if-not-branch.true).0
    (disk-bare s.mode s.pair.max_size s.pair.opened s.pair.disks) c.open.ensures.steady

pub returns-clause-stays : goal.returns-clause-stays
returns-clause-stays g c = stays-after (bare_disk c.args.self.now) (bare_disk c.open.new.self) (bare_disk c.prepare.new.self) c.open.ensures.steady c.prepare.ensures.stays

pub returns-in-Some-clause-moved : goal.returns-in-Some-clause-moved
returns-in-Some-clause-moved g c told = let s = c.args.self.now in
    early-moved c.args.policy.now (bare_disk s).facts (bare_disk s).reserved c.args.key.now c.args.size c.in-Some.cause (bare_disk s).level (disk-bare s.mode s.pair.max_size s.pair.opened s.pair.disks)
    (early-held s.mode s.pair.max_size s.pair.opened s.pair.disks c.args.policy.now c.args.key.now ∙ sym c.early_cause.ensures ∙ c.in-Some.is)
