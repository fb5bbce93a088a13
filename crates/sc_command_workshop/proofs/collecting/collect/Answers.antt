use Rattle.std.proofs.Common.{List, Option, length, ap, subst, ◌∙◌, refl, arith}
use Rattle.sc_entry.specs.declared.object.Object.{Object}
use Rattle.sc_entry.specs.FileMaps.{FileMap}
use Rattle.sc_entry.specs.Gathering.{TakesSource}
use Rattle.sc_entry.proofs.Gatherings.{at_place, gathered_none, gathered_on, rose_later, whole_on}
use Rattle.sc_command_workshop.proofs.Takes.{lacking, taken}
use Rattle.sc_command_workshop.proofs.collecting.collect.Goals as goal

pub loop-output-init : goal.loop-output-init
loop-output-init g c = record {
  gathered = gathered_none (g.F.Files.held c.args.files.now) c.args.outputs.now c.new-objects.result c.new-objects.ensures;
  whole = λ quiet. ap (λ (os : List Object). length os) c.new-objects.ensures;
  same = refl;
  later = omega arith;
}

pub returns-then-not-branch-clause-collects : goal.returns-then-not-branch-clause-collects
returns-then-not-branch-clause-collects g c =
    let at = at_place c.args.outputs.now c.loop-output.output-index c.output-item.result c.loop-output-test.true c.output-item.is in
    let lack = lacking (g.F.Files.held c.loop-output.files) c.output-item.result c.loop-output.objects c.take_output.new.objects (g.F.Files.fault_count c.loop-output.files) (g.F.Files.fault_count c.take_output.new.files)
    c.in_ok-take_output.field-0 c.if-not-branch.true c.in_ok-take_output.ensures.step in
    ((c.loop-output.output-index, c.loop-output.objects, c.output-item.result, c.loop-output.invariant.gathered, at, lack.0, c.in_ok-chain.ensures), rose_later (g.F.Files.fault_count c.args.files.now) (g.F.Files.fault_count c.loop-output.files) (g.F.Files.fault_count c.take_output.new.files) c.loop-output.invariant.later lack.1)

pub loop-output-preserved : goal.loop-output-preserved
loop-output-preserved g c =
    let at = at_place c.args.outputs.now c.loop-output.output-index c.output-item.result c.loop-output-test.true c.output-item.is in
    let here = taken (g.F.Files.held c.loop-output.files) c.output-item.result c.loop-output.objects c.take_output.new.objects (g.F.Files.fault_count c.loop-output.files) (g.F.Files.fault_count c.take_output.new.files)
    c.in_ok-take_output.field-0 c.if-not-branch.false c.in_ok-take_output.ensures.step in
    let step = subst (λ (held : Option FileMap). TakesSource held c.output-item.result c.loop-output.objects c.take_output.new.objects (g.F.Files.fault_count c.loop-output.files) (g.F.Files.fault_count c.take_output.new.files))
    c.loop-output.invariant.same here in
    record {
      gathered =
          gathered_on (g.F.Files.held c.args.files.now) c.args.outputs.now c.loop-output.output-index c.output-item.result c.loop-output.objects c.take_output.new.objects (g.F.Files.fault_count c.loop-output.files)
          (g.F.Files.fault_count c.take_output.new.files) c.loop-output.invariant.gathered at step;
      whole =
          whole_on (g.F.Files.held c.args.files.now) c.args.outputs.now c.loop-output.output-index c.output-item.result c.loop-output.objects c.take_output.new.objects (g.F.Files.fault_count c.loop-output.files)
          (g.F.Files.fault_count c.take_output.new.files) (g.F.Files.fault_count c.args.files.now) c.loop-output.invariant.later c.loop-output.invariant.whole step;
      same = c.take_output.ensures.same ∙ c.loop-output.invariant.same;
      later = omega (arith, c.loop-output.invariant.later, c.take_output.ensures.later);
    }
