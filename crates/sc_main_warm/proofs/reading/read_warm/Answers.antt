use Rattle.std.proofs.Common.{arith, sym}
use Rattle.std.proofs.lemmas.List.{length-take-le}
use Rattle.sc_main_warm.proofs.Steps.{whole_text}
use Rattle.sc_main_warm.proofs.reading.read_warm.Goals as goal

pub returns-then-bytes-le-MOST : goal.returns-then-bytes-le-MOST
returns-then-bytes-le-MOST c = rw (whole_text c.args.bytes.now c.if-bytes-le-MOST.true) c.lines.ensures

pub slice_bounds-lines-end : goal.slice_bounds-lines-end
slice_bounds-lines-end c = sym (length-take-le 67108864 c.args.bytes.now (omega arith))
