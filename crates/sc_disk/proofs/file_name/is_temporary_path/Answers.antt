use Rattle.std.proofs.Common.{◌∙◌, sym, ap}
use Rattle.sc_disk.specs.Names.{last_of}
use Rattle.sc_disk.proofs.Names.{last-cons}
use Rattle.sc_disk.proofs.file_name.is_temporary_path.Goals as goal

pub loop-others-preserved : goal.loop-others-preserved
loop-others-preserved c =
    sym (ap last_of c.in-Some.ensures.parts ∙ last-cons c.in-Some.field-0-0.now c.in-Some.others.now) ∙ c.loop-others.invariant
