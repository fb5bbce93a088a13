use Rattle.std.proofs.Common.{sym, ap, ◌∙◌}
use Rattle.sc_disk_pair.specs.Parts.{in_part}
use Rattle.sc_disk_pair.specs.declared.part.Part.TheVariants.{Main}
use Rattle.sc_store_disk.specs.DiskStores.{bare_disk, held_disk}
use Rattle.sc_store_disk.specs.Marked.{marks_of}
use Rattle.sc_store_disk.specs.Marks.{Marks, is_marked}
use Rattle.sc_store_disk.proofs.Askings.{asked-bad, asked-told, cause-told, disk-kind, mark-told, steady-self}
use Rattle.sc_store_disk.proofs.entry_cache.EntryCache.ask_entry.Goals as goal

pub returns-clause-asked : goal.returns-clause-asked
returns-clause-asked g c = asked-told c.args.mode c.args.key.now c.new-path.result (is_marked (marks_of c.ask_at.new.self) (in_part Main c.new-path.result)) c.in_ok-answer.answer c.marked.result c.requires c.marked.ensures
    (is_marked (marks_of c.args.self.now) (in_part Main c.new-path.result)) (held_disk c.args.self.now) (held_disk c.ask_at.new.self) (ap (λ (m : Marks). is_marked m (in_part Main c.new-path.result)) c.in_ok-answer.ensures.marks)
    (c.in_ok-answer.ensures.asked c.args.key.now (sym c.if-not-is_store_key.ensures) (c.new-path.ensures ∙ c.in_ok-make_key_path.ensures))

pub returns-clause-cause : goal.returns-clause-cause
returns-clause-cause g c = cause-told c.args.mode c.args.key.now c.new-path.result (is_marked (marks_of c.ask_at.new.self) (in_part Main c.new-path.result)) c.in_ok-answer.answer c.marked.result c.requires c.marked.ensures
    (held_disk c.args.self.now).level (held_disk c.ask_at.new.self).level (c.in_ok-answer.ensures.cause c.args.key.now (sym c.if-not-is_store_key.ensures) (c.new-path.ensures ∙ c.in_ok-make_key_path.ensures))

pub returns-clause-mark : goal.returns-clause-mark
returns-clause-mark g c = mark-told c.args.mode c.args.key.now c.new-path.result (is_marked (marks_of c.ask_at.new.self) (in_part Main c.new-path.result)) c.in_ok-answer.answer c.marked.result c.requires c.marked.ensures
    (marks_of c.args.self.now) (ap (λ (m : Marks). is_marked m (in_part Main c.new-path.result)) c.in_ok-answer.ensures.marks) (c.new-path.ensures ∙ c.in_ok-make_key_path.ensures)

pub returns-then-not-is_store_key-clause-steady : goal.returns-then-not-is_store_key-clause-steady
returns-then-not-is_store_key-clause-steady g c = steady-self (bare_disk c.args.self.now)

pub returns-then-not-is_store_key-clause-asked : goal.returns-then-not-is_store_key-clause-asked
returns-then-not-is_store_key-clause-asked g c = asked-bad c.args.self.now.marks c.args.mode c.args.key.now (bare_disk c.args.self.now) c.requires (disk-kind c.args.self.now.mode c.args.self.now.pair.max_size c.args.self.now.pair.opened c.args.self.now.pair.disks) (sym c.if-not-is_store_key.ensures)

pub returns-in_err-make_key_path-clause-steady : goal.returns-in_err-make_key_path-clause-steady
returns-in_err-make_key_path-clause-steady g c = steady-self (bare_disk c.args.self.now)
