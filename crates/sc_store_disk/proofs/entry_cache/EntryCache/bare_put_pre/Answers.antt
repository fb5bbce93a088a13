use Rattle.std.proofs.Common.{sym, ◌∙◌}
use Rattle.sc_model.specs.declared.event.Written.TheVariants.{Refused as NotWritten}
use Rattle.sc_store_disk.specs.DiskStores.{bare_disk}
use Rattle.sc_store_disk.proofs.Askings.{disk-kind}
use Rattle.sc_store_disk.proofs.Preprocessing.{put-cause, put-evicts, put-opened, unopened-put}
use Rattle.sc_store_disk.proofs.Reservings.{early-held, same-refusal}
use Rattle.sc_store_disk.proofs.Steadying.{stays-after, stays-self}
use Rattle.sc_store_disk.proofs.entry_cache.EntryCache.bare_put_pre.Goals as goal

pub returns-in-Some-clause-early : goal.returns-in-Some-clause-early
returns-in-Some-clause-early g c cause is = let s = c.args.self.now in
    same-refusal NotWritten s c.in-Some.cause cause (sym c.in-Some.is ∙ c.early_cause.ensures ∙ sym (early-held s.mode s.pair.max_size s.pair.opened s.pair.disks c.args.policy.now c.args.key.now) ∙ is)

pub returns-then-not-branch-clause-put : goal.returns-then-not-branch-clause-put
returns-then-not-branch-clause-put g c = let s = c.args.self.now in
    unopened-put (bare_disk s) (bare_disk c.open.new.self) c.args.policy.now c.args.key.now c.args.bytes.now
    (early-held s.mode s.pair.max_size s.pair.opened s.pair.disks c.args.policy.now c.args.key.now ∙ sym c.early_cause.ensures ∙ c.in_default.is) ((c.in_ok-open.ensures.fault c.if-not-branch.true).0) c.in_ok-open.ensures.steady

pub returns-clause-put : goal.returns-clause-put
returns-clause-put g c = let s = c.args.self.now in
    put-opened (bare_disk s) (bare_disk c.open.new.self) (bare_disk c.store_pre.new.self) c.open.ensures.steady (disk-kind s.mode s.pair.max_size s.pair.opened s.pair.disks) c.args.policy.now c.args.key.now c.args.bytes.now
    (early-held s.mode s.pair.max_size s.pair.opened s.pair.disks c.args.policy.now c.args.key.now ∙ sym c.early_cause.ensures ∙ c.in_default.is) c.store_pre.result _ (c.new-path.ensures ∙ c.in_ok-normalize_key.ensures) c.store_pre.ensures.stored

pub returns-clause-cause : goal.returns-clause-cause
returns-clause-cause g c = let s = c.args.self.now in
    put-cause (bare_disk s) (bare_disk c.open.new.self) (bare_disk c.store_pre.new.self) c.open.ensures.steady (disk-kind s.mode s.pair.max_size s.pair.opened s.pair.disks) c.args.policy.now c.args.key.now c.args.bytes.now
    (early-held s.mode s.pair.max_size s.pair.opened s.pair.disks c.args.policy.now c.args.key.now ∙ sym c.early_cause.ensures ∙ c.in_default.is) c.store_pre.result c.store_pre.ensures.cause

pub returns-clause-evicts : goal.returns-clause-evicts
returns-clause-evicts g c = let s = c.args.self.now in
    put-evicts (bare_disk s) (bare_disk c.open.new.self) (bare_disk c.store_pre.new.self) c.open.ensures.steady (disk-kind s.mode s.pair.max_size s.pair.opened s.pair.disks) c.args.policy.now c.args.key.now c.args.bytes.now
    (early-held s.mode s.pair.max_size s.pair.opened s.pair.disks c.args.policy.now c.args.key.now ∙ sym c.early_cause.ensures ∙ c.in_default.is) c.store_pre.result c.store_pre.ensures.evicts

pub returns-in-Some-clause-stays : goal.returns-in-Some-clause-stays
returns-in-Some-clause-stays g c = stays-self (bare_disk c.args.self.now)

pub returns-in_err-normalize_key-clause-stays : goal.returns-in_err-normalize_key-clause-stays
returns-in_err-normalize_key-clause-stays g c = stays-self (bare_disk c.args.self.now)

pub returns-clause-stays : goal.returns-clause-stays
returns-clause-stays g c = stays-after (bare_disk c.args.self.now) (bare_disk c.open.new.self) (bare_disk c.store_pre.new.self) c.open.ensures.steady c.store_pre.ensures.stays
