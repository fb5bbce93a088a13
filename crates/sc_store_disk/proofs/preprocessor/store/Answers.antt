use Rattle.std.proofs.Common.{ℕ, refl, ◌∙◌, subst}
use Rattle.sc_disk.specs.Store.{AddEntry}
use Rattle.sc_disk_pair.specs.Parts.{in_part}
use Rattle.sc_disk_pair.specs.declared.part.Part.TheVariants.{Pre}
use Rattle.sc_store_disk.specs.DiskStores.{opened_store}
use Rattle.sc_store_disk.specs.Entries.{ClosesEntry, CommitCause, GrowsEntry, GrowsNothing}
use Rattle.sc_store_disk.proofs.Askings.{if_ok}
use Rattle.sc_store_disk.proofs.Lending.{on_err, on_err_of}
use Rattle.sc_store_disk.proofs.Preprocessing.{given-up, is-filled, is-refused, not-filled, not-filled_cause, not-filled_evicts, not-opened, not-opened_entries, not-opened_evicts, not-stored, prepared, reserved-within, stays-then, stored, stored-cause, stored-entries, within-opened}
use Rattle.sc_store_disk.proofs.preprocessor.store.Goals as goal

-- no entry was opened
pub returns-in_err-entry-clause-evicts : goal.returns-in_err-entry-clause-evicts
returns-in_err-entry-clause-evicts g c = on_err_of c.from_residual.result (λ mode. not-opened_evicts c.args.path.now c.args.bytes.now (opened_store mode c.args.cache.now.store.capacity c.args.cache.now.store) (reserved-within c.args.cache.now.store c.keeps.ensures.sound) (within-opened mode c.args.cache.now.store c.keeps.ensures.sound c.keeps.ensures.distinct c.keeps.ensures.placed) (opened_store mode c.args.cache.now.store.capacity c.prepare.new.cache.store) (c.in_err-entry.ensures.evicts mode))

pub returns-in-Refused-clause-entries : goal.returns-in-Refused-clause-entries
returns-in-Refused-clause-entries g c = λ mode capacity. not-opened_entries (in_part Pre c.args.path.now) c.in_ok-entry.field-0 c.in-Refused.cause (opened_store mode capacity c.args.cache.now.store) (opened_store mode capacity c.prepare.new.cache.store) c.in-Refused.is (c.in_ok-entry.ensures.entry mode capacity)

pub returns-in-Refused-clause-stored : goal.returns-in-Refused-clause-stored
returns-in-Refused-clause-stored g c = λ mode. not-opened c.args.path.now c.args.bytes.now (opened_store mode c.args.cache.now.store.capacity c.args.cache.now.store) (reserved-within c.args.cache.now.store c.keeps.ensures.sound) (within-opened mode c.args.cache.now.store c.keeps.ensures.sound c.keeps.ensures.distinct c.keeps.ensures.placed) c.in_ok-entry.field-0 c.in-Refused.cause (opened_store mode c.args.cache.now.store.capacity c.prepare.new.cache.store) c.in-Refused.is c.in_ok-entry.ensures.moved

-- it was opened, and not filled
pub returns-in_err-entry-2-clause-stays : goal.returns-in_err-entry-2-clause-stays
returns-in_err-entry-2-clause-stays g c = λ mode capacity. stays-then (opened_store mode capacity c.args.cache.now.store) (opened_store mode capacity c.prepare.new.cache.store) (opened_store mode capacity c.fill.new.cache.store) (c.prepare.ensures.stays mode capacity) (c.fill.ensures.stays mode capacity)

pub returns-in_err-entry-2-clause-entries : goal.returns-in_err-entry-2-clause-entries
returns-in_err-entry-2-clause-entries g c = λ mode capacity. given-up (in_part Pre c.args.path.now) c.in_ok-entry.field-0 c.in-Open.entry (opened_store mode capacity c.args.cache.now.store) (opened_store mode capacity c.prepare.new.cache.store) (opened_store mode capacity c.fill.new.cache.store) c.in-Open.is (c.in_ok-entry.ensures.entry mode capacity) (c.in_err-entry-2.ensures.closed mode capacity)

pub returns-in_err-entry-2-clause-evicts : goal.returns-in_err-entry-2-clause-evicts
returns-in_err-entry-2-clause-evicts g c = on_err_of c.from_residual-in_err-entry-2.result (λ mode.
    let p = prepared (in_part Pre c.args.path.now) c.in_ok-entry.field-0 c.in-Open.entry (opened_store mode c.args.cache.now.store.capacity c.args.cache.now.store) (opened_store mode c.args.cache.now.store.capacity c.prepare.new.cache.store) c.in-Open.is (within-opened mode c.args.cache.now.store c.keeps.ensures.sound c.keeps.ensures.distinct c.keeps.ensures.placed)
    (c.in_ok-entry.ensures.stays mode c.args.cache.now.store.capacity) (c.in_ok-entry.ensures.entry mode c.args.cache.now.store.capacity) c.in_ok-entry.ensures.moved in
    not-filled_evicts c.args.path.now c.args.bytes.now c.in-Open.entry (opened_store mode c.args.cache.now.store.capacity c.args.cache.now.store) (opened_store mode c.args.cache.now.store.capacity c.prepare.new.cache.store) p (opened_store mode c.args.cache.now.store.capacity c.fill.new.cache.store) (c.in_err-entry-2.ensures.kept mode c.args.cache.now.store.capacity))

pub returns-in-Refused-2-clause-stays : goal.returns-in-Refused-2-clause-stays
returns-in-Refused-2-clause-stays g c = λ mode capacity. stays-then (opened_store mode capacity c.args.cache.now.store) (opened_store mode capacity c.prepare.new.cache.store) (opened_store mode capacity c.fill.new.cache.store) (c.prepare.ensures.stays mode capacity) (c.fill.ensures.stays mode capacity)

pub returns-in-Refused-2-clause-entries : goal.returns-in-Refused-2-clause-entries
returns-in-Refused-2-clause-entries g c = λ mode capacity.
    let f = is-refused c.in-Open.entry c.in-Refused-2.cause c.args.bytes.now c.in_ok-entry-2.field-0 (opened_store mode capacity c.prepare.new.cache.store) (opened_store mode capacity c.fill.new.cache.store) c.in-Refused-2.is (c.in_ok-entry-2.ensures.filled mode capacity) in
    given-up (in_part Pre c.args.path.now) c.in_ok-entry.field-0 c.in-Open.entry (opened_store mode capacity c.args.cache.now.store) (opened_store mode capacity c.prepare.new.cache.store) (opened_store mode capacity c.fill.new.cache.store) c.in-Open.is (c.in_ok-entry.ensures.entry mode capacity) f.1

pub returns-in-Refused-2-clause-stored : goal.returns-in-Refused-2-clause-stored
returns-in-Refused-2-clause-stored g c = λ mode.
    let p = prepared (in_part Pre c.args.path.now) c.in_ok-entry.field-0 c.in-Open.entry (opened_store mode c.args.cache.now.store.capacity c.args.cache.now.store) (opened_store mode c.args.cache.now.store.capacity c.prepare.new.cache.store) c.in-Open.is (within-opened mode c.args.cache.now.store c.keeps.ensures.sound c.keeps.ensures.distinct c.keeps.ensures.placed)
    (c.in_ok-entry.ensures.stays mode c.args.cache.now.store.capacity) (c.in_ok-entry.ensures.entry mode c.args.cache.now.store.capacity) c.in_ok-entry.ensures.moved in
    not-filled c.args.path.now c.args.bytes.now c.in-Open.entry (opened_store mode c.args.cache.now.store.capacity c.args.cache.now.store) (opened_store mode c.args.cache.now.store.capacity c.prepare.new.cache.store) p c.in-Refused-2.cause (opened_store mode c.args.cache.now.store.capacity c.fill.new.cache.store) (is-refused c.in-Open.entry c.in-Refused-2.cause c.args.bytes.now c.in_ok-entry-2.field-0 (opened_store mode c.args.cache.now.store.capacity c.prepare.new.cache.store) (opened_store mode c.args.cache.now.store.capacity c.fill.new.cache.store) c.in-Refused-2.is (c.in_ok-entry-2.ensures.filled mode c.args.cache.now.store.capacity))

pub returns-in-Refused-2-clause-cause : goal.returns-in-Refused-2-clause-cause
returns-in-Refused-2-clause-cause g c = λ mode.
    let p = prepared (in_part Pre c.args.path.now) c.in_ok-entry.field-0 c.in-Open.entry (opened_store mode c.args.cache.now.store.capacity c.args.cache.now.store) (opened_store mode c.args.cache.now.store.capacity c.prepare.new.cache.store) c.in-Open.is (within-opened mode c.args.cache.now.store c.keeps.ensures.sound c.keeps.ensures.distinct c.keeps.ensures.placed)
    (c.in_ok-entry.ensures.stays mode c.args.cache.now.store.capacity) (c.in_ok-entry.ensures.entry mode c.args.cache.now.store.capacity) c.in_ok-entry.ensures.moved in
    not-filled_cause c.args.path.now c.args.bytes.now c.in-Open.entry (opened_store mode c.args.cache.now.store.capacity c.args.cache.now.store) (opened_store mode c.args.cache.now.store.capacity c.prepare.new.cache.store) p c.in-Refused-2.cause (opened_store mode c.args.cache.now.store.capacity c.fill.new.cache.store) (is-refused c.in-Open.entry c.in-Refused-2.cause c.args.bytes.now c.in_ok-entry-2.field-0 (opened_store mode c.args.cache.now.store.capacity c.prepare.new.cache.store) (opened_store mode c.args.cache.now.store.capacity c.fill.new.cache.store) c.in-Refused-2.is (c.in_ok-entry-2.ensures.filled mode c.args.cache.now.store.capacity))

-- it was filled and committed
pub returns-in-Filled-clause-stays : goal.returns-in-Filled-clause-stays
returns-in-Filled-clause-stays g c = λ mode capacity.
    stays-then (opened_store mode capacity c.args.cache.now.store) (opened_store mode capacity c.fill.new.cache.store) (opened_store mode capacity c.commit.new.cache.store)
    (stays-then (opened_store mode capacity c.args.cache.now.store) (opened_store mode capacity c.prepare.new.cache.store) (opened_store mode capacity c.fill.new.cache.store) (c.prepare.ensures.stays mode capacity) (c.fill.ensures.stays mode capacity)) (c.commit.ensures.stays mode capacity)

pub returns-in-Filled-clause-entries : goal.returns-in-Filled-clause-entries
returns-in-Filled-clause-entries g c = λ mode capacity.
    let f = is-filled c.in-Open.entry c.in-Filled.entry c.args.bytes.now c.in_ok-entry-2.field-0 (opened_store mode capacity c.prepare.new.cache.store) (opened_store mode capacity c.fill.new.cache.store) c.in-Filled.is (c.in_ok-entry-2.ensures.filled mode capacity) in
    stored-entries (in_part Pre c.args.path.now) c.args.bytes.now c.in_ok-entry.field-0 c.in-Open.entry (opened_store mode capacity c.args.cache.now.store) (opened_store mode capacity c.prepare.new.cache.store) (opened_store mode capacity c.fill.new.cache.store) (opened_store mode capacity c.commit.new.cache.store) c.in-Open.is (c.in_ok-entry.ensures.entry mode capacity) f.1
    (subst (λ (x : AddEntry). ClosesEntry x.number (opened_store mode capacity c.fill.new.cache.store) (opened_store mode capacity c.commit.new.cache.store)) f.0 (c.commit.ensures.closed mode capacity))

pub returns-in-Filled-clause-stored : goal.returns-in-Filled-clause-stored
returns-in-Filled-clause-stored g c = if_ok c.commit.result c.commit.ensures.grown (λ how h mode.
    let p = prepared (in_part Pre c.args.path.now) c.in_ok-entry.field-0 c.in-Open.entry (opened_store mode c.args.cache.now.store.capacity c.args.cache.now.store) (opened_store mode c.args.cache.now.store.capacity c.prepare.new.cache.store) c.in-Open.is (within-opened mode c.args.cache.now.store c.keeps.ensures.sound c.keeps.ensures.distinct c.keeps.ensures.placed)
    (c.in_ok-entry.ensures.stays mode c.args.cache.now.store.capacity) (c.in_ok-entry.ensures.entry mode c.args.cache.now.store.capacity) c.in_ok-entry.ensures.moved in
    let f = is-filled c.in-Open.entry c.in-Filled.entry c.args.bytes.now c.in_ok-entry-2.field-0 (opened_store mode c.args.cache.now.store.capacity c.prepare.new.cache.store) (opened_store mode c.args.cache.now.store.capacity c.fill.new.cache.store) c.in-Filled.is (c.in_ok-entry-2.ensures.filled mode c.args.cache.now.store.capacity) in
    stored c.args.path.now c.args.bytes.now c.in-Open.entry (opened_store mode c.args.cache.now.store.capacity c.args.cache.now.store) (opened_store mode c.args.cache.now.store.capacity c.prepare.new.cache.store) p (opened_store mode c.args.cache.now.store.capacity c.fill.new.cache.store) (opened_store mode c.args.cache.now.store.capacity c.commit.new.cache.store) (c.fill.ensures.stays mode c.args.cache.now.store.capacity) f.1 (c.commit.ensures.stays mode c.args.cache.now.store.capacity)
    (subst (λ (x : AddEntry). ClosesEntry x.number (opened_store mode c.args.cache.now.store.capacity c.fill.new.cache.store) (opened_store mode c.args.cache.now.store.capacity c.commit.new.cache.store)) f.0 (c.commit.ensures.closed mode c.args.cache.now.store.capacity)) how
    (subst (λ (x : AddEntry). GrowsEntry x.number how (opened_store mode c.args.cache.now.store.capacity c.fill.new.cache.store) (opened_store mode c.args.cache.now.store.capacity c.commit.new.cache.store)) f.0 (subst (λ (n : ℕ). GrowsEntry c.in-Filled.entry.number how (opened_store mode n c.fill.new.cache.store) (opened_store mode n c.commit.new.cache.store)) (c.fill.ensures.capacity ∙ c.prepare.ensures.capacity) (h mode))) refl)

pub returns-in-Filled-clause-evicts : goal.returns-in-Filled-clause-evicts
returns-in-Filled-clause-evicts g c = on_err c.commit.result c.commit.ensures.not_grown (λ h mode.
    let p = prepared (in_part Pre c.args.path.now) c.in_ok-entry.field-0 c.in-Open.entry (opened_store mode c.args.cache.now.store.capacity c.args.cache.now.store) (opened_store mode c.args.cache.now.store.capacity c.prepare.new.cache.store) c.in-Open.is (within-opened mode c.args.cache.now.store c.keeps.ensures.sound c.keeps.ensures.distinct c.keeps.ensures.placed)
    (c.in_ok-entry.ensures.stays mode c.args.cache.now.store.capacity) (c.in_ok-entry.ensures.entry mode c.args.cache.now.store.capacity) c.in_ok-entry.ensures.moved in
    let f = is-filled c.in-Open.entry c.in-Filled.entry c.args.bytes.now c.in_ok-entry-2.field-0 (opened_store mode c.args.cache.now.store.capacity c.prepare.new.cache.store) (opened_store mode c.args.cache.now.store.capacity c.fill.new.cache.store) c.in-Filled.is (c.in_ok-entry-2.ensures.filled mode c.args.cache.now.store.capacity) in
    not-stored c.args.path.now c.args.bytes.now c.in-Open.entry (opened_store mode c.args.cache.now.store.capacity c.args.cache.now.store) (opened_store mode c.args.cache.now.store.capacity c.prepare.new.cache.store) p (opened_store mode c.args.cache.now.store.capacity c.fill.new.cache.store) (opened_store mode c.args.cache.now.store.capacity c.commit.new.cache.store) (c.fill.ensures.stays mode c.args.cache.now.store.capacity) f.1 (c.commit.ensures.stays mode c.args.cache.now.store.capacity)
    (subst (λ (x : AddEntry). ClosesEntry x.number (opened_store mode c.args.cache.now.store.capacity c.fill.new.cache.store) (opened_store mode c.args.cache.now.store.capacity c.commit.new.cache.store)) f.0 (c.commit.ensures.closed mode c.args.cache.now.store.capacity))
    (subst (λ (x : AddEntry). GrowsNothing x.number (opened_store mode c.args.cache.now.store.capacity c.fill.new.cache.store) (opened_store mode c.args.cache.now.store.capacity c.commit.new.cache.store)) f.0 (subst (λ (n : ℕ). GrowsNothing c.in-Filled.entry.number (opened_store mode n c.fill.new.cache.store) (opened_store mode n c.commit.new.cache.store)) (c.fill.ensures.capacity ∙ c.prepare.ensures.capacity) (h mode))))

pub returns-in-Filled-clause-cause : goal.returns-in-Filled-clause-cause
returns-in-Filled-clause-cause g c = if_ok c.commit.result c.commit.ensures.cause (λ how h mode.
    let p = prepared (in_part Pre c.args.path.now) c.in_ok-entry.field-0 c.in-Open.entry (opened_store mode c.args.cache.now.store.capacity c.args.cache.now.store) (opened_store mode c.args.cache.now.store.capacity c.prepare.new.cache.store) c.in-Open.is (within-opened mode c.args.cache.now.store c.keeps.ensures.sound c.keeps.ensures.distinct c.keeps.ensures.placed)
    (c.in_ok-entry.ensures.stays mode c.args.cache.now.store.capacity) (c.in_ok-entry.ensures.entry mode c.args.cache.now.store.capacity) c.in_ok-entry.ensures.moved in
    let f = is-filled c.in-Open.entry c.in-Filled.entry c.args.bytes.now c.in_ok-entry-2.field-0 (opened_store mode c.args.cache.now.store.capacity c.prepare.new.cache.store) (opened_store mode c.args.cache.now.store.capacity c.fill.new.cache.store) c.in-Filled.is (c.in_ok-entry-2.ensures.filled mode c.args.cache.now.store.capacity) in
    stored-cause c.args.path.now c.args.bytes.now c.in-Open.entry (opened_store mode c.args.cache.now.store.capacity c.args.cache.now.store) (opened_store mode c.args.cache.now.store.capacity c.prepare.new.cache.store) p (opened_store mode c.args.cache.now.store.capacity c.fill.new.cache.store) (opened_store mode c.args.cache.now.store.capacity c.commit.new.cache.store) (c.fill.ensures.stays mode c.args.cache.now.store.capacity) f.1 (c.commit.ensures.stays mode c.args.cache.now.store.capacity)
    (subst (λ (x : AddEntry). ClosesEntry x.number (opened_store mode c.args.cache.now.store.capacity c.fill.new.cache.store) (opened_store mode c.args.cache.now.store.capacity c.commit.new.cache.store)) f.0 (c.commit.ensures.closed mode c.args.cache.now.store.capacity)) how
    (subst (λ (x : AddEntry). CommitCause x.number how (opened_store mode c.args.cache.now.store.capacity c.fill.new.cache.store) (opened_store mode c.args.cache.now.store.capacity c.commit.new.cache.store)) f.0 (subst (λ (n : ℕ). CommitCause c.in-Filled.entry.number how (opened_store mode n c.fill.new.cache.store) (opened_store mode n c.commit.new.cache.store)) (c.fill.ensures.capacity ∙ c.prepare.ensures.capacity) (h mode))))
