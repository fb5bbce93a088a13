use Rattle.std.proofs.Common.{◌∙◌, sym}
use Rattle.sc_disk.proofs.Names.{good_first}
use Rattle.sc_disk.proofs.file_name.is_file_key.Goals as goal

pub loop-part-preserved : goal.loop-part-preserved
loop-part-preserved c =
    good_first c.in-Some.part.now c.in-Some.others.now c.loop-part.rest.now c.in-Some.ensures.parts (sym c.is_file_part.ensures ∙ c.if-not-is_file_part.false)
    ∙ c.loop-part.invariant
