use Rattle.std.proofs.Common.{ℕ, List, Ok, subst, sym}
use Rattle.sc_disk_pair.specs.Parts.{in_part}
use Rattle.sc_disk_pair.specs.declared.part.Part.TheVariants.{Main}
use Rattle.sc_store_disk.specs.DiskStores.{bare_disk, held_disk}
use Rattle.sc_store_disk.specs.Marked.{marks_of, with_mark}
use Rattle.sc_store_disk.specs.Marks.{is_marked}
use Rattle.sc_store_disk.specs.Moving.{AsksDisk, ReadsAt}
use Rattle.sc_store_disk.proofs.Askings.{asked-entry, cause-entry, disk-kind, if_ok}
use Rattle.sc_store_disk.proofs.entry_cache.EntryCache.ask_at.Goals as goal

pub returns-clause-asked : goal.returns-clause-asked
returns-clause-asked g c =
    let old = bare_disk c.args.self.now in
    let new = bare_disk c.find.new.self in
    if_ok c.mode_answer.result c.mode_answer.ensures (λ answer is key good at.
    subst (λ (p : List ℕ). AsksDisk key c.args.mode (with_mark (is_marked (marks_of c.args.self.now) (in_part Main p)) answer) (held_disk c.args.self.now) (held_disk c.find.new.self)) (sym at)
    (asked-entry c.args.self.now.marks c.find.new.self.marks c.in_ok-raw.ensures.marks c.args.mode key c.in_ok-raw.raw old new (Ok answer) c.requires.mode (disk-kind c.args.self.now.mode c.args.self.now.pair.max_size c.args.self.now.pair.opened c.args.self.now.pair.disks)
    good c.in_ok-raw.ensures.steady (subst (λ (p : List ℕ). ReadsAt Main p c.in_ok-raw.raw old.told old.level new.level) at c.in_ok-raw.ensures.answer) c.in_ok-raw.ensures.opened is))

pub returns-clause-cause : goal.returns-clause-cause
returns-clause-cause g c =
    let old = bare_disk c.args.self.now in
    let new = bare_disk c.find.new.self in
    if_ok c.mode_answer.result c.mode_answer.ensures (λ answer is key good at.
    cause-entry c.args.mode key c.in_ok-raw.raw old.told old.level new.level (Ok answer) c.requires.mode good (subst (λ (p : List ℕ). ReadsAt Main p c.in_ok-raw.raw old.told old.level new.level) at c.in_ok-raw.ensures.answer) is)
