use Rattle.std.proofs.Common.{◌≡◌, List, ℕ, Some, None, ap, sym, ◌∙◌, rules}
use Rattle.sc_disk.specs.Disks.{outside_file_at}
use Rattle.sc_disk.specs.Memory.{lacks_outside, outside_of}
use Rattle.sc_disk.proofs.FileTables.{get_text}
use Rattle.sc_disk.proofs.Outside.{not_lacking}
use Rattle.sc_disk.proofs.mem_disk.MemDisk.outside_bytes.Goals as goal

pub returns-in_ok-bytes-in-Some : goal.returns-in_ok-bytes-in-Some
returns-in_ok-bytes-in-Some c = λ h.
    let same : c.in_ok-bytes-in-Some.bytes ≡ c.in-Some.bytes.now = search rules in
    ap (λ m. outside_file_at (outside_of m.outside) c.args.outside.now) (sym c.self.view_is)
    ∙ get_text c.self.inside.outside.entries c.args.outside.now ∙ sym c.in-Some.ensures.value ∙ ap Some (sym same)

pub returns-in-None : goal.returns-in-None
returns-in-None c = λ h. absurd (not_lacking c.args.self.now c.args.outside.now
    (ap (λ m. outside_file_at (outside_of m.outside) c.args.outside.now) (sym c.self.view_is) ∙ get_text c.self.inside.outside.entries c.args.outside.now ∙ sym c.in-None.ensures.value) h)
