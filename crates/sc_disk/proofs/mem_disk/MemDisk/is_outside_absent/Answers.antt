use Rattle.std.proofs.Common.{◌≡◌, Option, is_some, not, ap, sym, ◌∙◌, rules}
use Rattle.sc_disk.specs.Memory.{lacks_outside}
use Rattle.sc_disk.proofs.FileTables.{get_text}
use Rattle.sc_disk.proofs.Outside.{none_copied}
use Rattle.sc_disk.proofs.mem_disk.MemDisk.is_outside_absent.Goals as goal

pub returns : goal.returns
returns c = none_copied c.get.result _ c.is_none.result c.is_none.ensures (c.get.ensures.value ∙ sym (get_text c.self.inside.outside.entries c.args.outside.now))
    ∙ ap (λ m. lacks_outside m c.args.outside.now) c.self.view_is
