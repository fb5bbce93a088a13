use Rattle.std.proofs.Common.{List, ℕ, sym, subst, ◌∙◌}
use Rattle.sc_model.specs.declared.event.Answer.{Answer}
use Rattle.sc_model.specs.declared.event.Mode.TheVariants.{Pre as PreMode}
use Rattle.sc_disk_pair.specs.declared.part.Part.TheVariants.{Pre}
use Rattle.sc_store_disk.specs.DiskStores.{bare_disk, held_disk}
use Rattle.sc_store_disk.specs.Moving.{AsksDisk, ReadsAt}
use Rattle.sc_store_disk.proofs.Askings.{asked-pre, asked-pre_bad, asked-pre_refused, disk-kind, reads-before, steady-self}
use Rattle.sc_store_disk.proofs.Steadying.{steady-then}
use Rattle.sc_store_disk.proofs.entry_cache.EntryCache.ask_pre.Goals as goal

pub returns-then-not-is_store_key-clause-steady : goal.returns-then-not-is_store_key-clause-steady
returns-then-not-is_store_key-clause-steady g c = steady-self (bare_disk c.args.self.now)

pub returns-then-not-is_store_key-clause-asked : goal.returns-then-not-is_store_key-clause-asked
returns-then-not-is_store_key-clause-asked g c = asked-pre_bad c.args.self.now.marks c.args.key.now (bare_disk c.args.self.now) (disk-kind c.args.self.now.mode c.args.self.now.pair.max_size c.args.self.now.pair.opened c.args.self.now.pair.disks) (sym c.if-not-is_store_key.ensures)

pub returns-in_err-normalize_key-clause-steady : goal.returns-in_err-normalize_key-clause-steady
returns-in_err-normalize_key-clause-steady g c = steady-self (bare_disk c.args.self.now)

pub returns-in_err-answer-clause-steady : goal.returns-in_err-answer-clause-steady
returns-in_err-answer-clause-steady g c = steady-then (bare_disk c.args.self.now) (bare_disk c.open.new.self) (bare_disk c.look.new.self) c.open.ensures.steady c.look.ensures.steady

pub returns-clause-steady : goal.returns-clause-steady
returns-clause-steady g c = steady-then (bare_disk c.args.self.now) (bare_disk c.open.new.self) (bare_disk c.look.new.self) c.open.ensures.steady c.look.ensures.steady

pub returns-clause-asked : goal.returns-clause-asked
returns-clause-asked g c =
    let old = bare_disk c.args.self.now in
    let mid = bare_disk c.open.new.self in
    let new = bare_disk c.look.new.self in
    subst (λ (a : Answer). AsksDisk c.args.key.now PreMode a (held_disk c.args.self.now) (held_disk c.look.new.self)) (sym c.unless_refused.ensures)
    (asked-pre c.args.self.now.marks c.look.new.self.marks (c.look.ensures.marks ∙ c.open.ensures.marks) c.args.key.now c.in_ok-answer.answer old new (disk-kind c.args.self.now.mode c.args.self.now.pair.max_size c.args.self.now.pair.opened c.args.self.now.pair.disks) (sym c.if-not-is_store_key.ensures)
    (steady-then old mid new c.open.ensures.steady c.look.ensures.steady)
    (subst (λ (p : List ℕ). ReadsAt Pre p c.in_ok-answer.answer old.told old.level new.level) (c.new-path.ensures ∙ c.in_ok-normalize_key.ensures)
    (reads-before Pre c.new-path.result c.in_ok-answer.answer mid.told old.told old.level mid.level new.level c.open.ensures.steady.told c.open.ensures.steady.later.faults c.in_ok-answer.ensures.answer)) c.look.ensures.opened)

pub returns-then-not-branch-clause-asked : goal.returns-then-not-branch-clause-asked
returns-then-not-branch-clause-asked g c =
    let fault = c.in_ok-open.ensures.fault c.if-not-branch.true in
    asked-pre_refused c.args.self.now.marks c.open.new.self.marks c.open.ensures.marks c.args.key.now (bare_disk c.args.self.now) (bare_disk c.open.new.self)
    (disk-kind c.args.self.now.mode c.args.self.now.pair.max_size c.args.self.now.pair.opened c.args.self.now.pair.disks) (sym c.if-not-is_store_key.ensures) c.open.ensures.steady fault.0 fault.1
