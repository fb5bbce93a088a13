use Rattle.std.proofs.Common.{arith, sym, ◌∙◌}
use Rattle.sc_main_warm.proofs.Steps.{goes_on, stops}
use Rattle.sc_main_warm.proofs.reading.lines.Goals as goal

pub returns-in-Err-Malformed : goal.returns-in-Err-Malformed
returns-in-Err-Malformed c =
    sym c.loop-line.invariant.same
    ∙ stops c.args.whole c.loop-line.number c.loop-line.draft c.loop-line.rest.now c.in-Some.line.now c.in-Some.after.now c.in-Some.ensures.parts (rw c.in-Err-Malformed.field-0-is at c.in-Err-Malformed.ensures)

pub loop-line-preserved : goal.loop-line-preserved
loop-line-preserved c = record {
  same =
      sym (goes_on c.args.whole c.loop-line.number c.loop-line.draft c.add_text.new.draft c.loop-line.rest.now c.in-Some.line.now c.in-Some.after.now c.in-Some.ensures.parts c.in-Ok.ensures)
      ∙ c.loop-line.invariant.same;
  few = omega (arith, c.in-Some.ensures.shorter);
}
