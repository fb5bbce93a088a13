use Rattle.std.proofs.Common.{◌≡◌, ◌≤◌, List, ℕ, Option, length, ap, subst, sym, ◌∙◌, arith, refl}
use Rattle.std.proofs.lemmas.Result.{err_from_is_err_and}
use Rattle.sc_entry.specs.declared.object.Object.{Object}
use Rattle.sc_entry.specs.FileMaps.{FileMap}
use Rattle.sc_entry.specs.Gathering.{TakesSource, FromCause}
use Rattle.sc_entry.proofs.Gatherings.{at_place, gathered_none, gathered_on, whole_on, from_cause}
use Rattle.sc_entry.proofs.cache_write.CacheWrite.from_objects.Goals as goal

pub loop-source-init : goal.loop-source-init
loop-source-init g c = record {
  gathered = gathered_none (g.F.Files.held c.args.files.now) c.args.sources.now c.in_ok-entry.entry c.in_ok-entry.ensures;
  whole = λ quiet. ap (λ (os : List Object). length os) c.in_ok-entry.ensures;
  same = refl;
  later = omega arith;
}

pub returns-in_err-take_source-clause-refusal : goal.returns-in_err-take_source-clause-refusal
returns-in_err-take_source-clause-refusal g c =
    let at = at_place c.args.sources.now c.loop-source.source-index c.source-item.result c.loop-source-test.true c.source-item.is in
    let p = err_from_is_err_and c.from_residual-in_err-take_source.result c.from_residual-in_err-take_source.ensures.1 in
    rw (p.1, p.2) (from_cause (g.F.Files.held c.args.files.now) c.args.sources.now c.loop-source.source-index c.source-item.result c.loop-source.entry (g.F.Files.fault_count c.args.files.now)
    (g.F.Files.fault_count c.loop-source.files) (g.F.Files.fault_count c.take_source.new.files) c.in_err-take_source.field-0.0 c.loop-source.invariant.later c.loop-source.invariant.gathered at
    c.in_err-take_source.ensures.refusal)

pub loop-source-preserved : goal.loop-source-preserved
loop-source-preserved g c =
    let at = at_place c.args.sources.now c.loop-source.source-index c.source-item.result c.loop-source-test.true c.source-item.is in
    let step = subst (λ (held : Option FileMap). TakesSource held c.source-item.result c.loop-source.entry c.take_source.new.entry (g.F.Files.fault_count c.loop-source.files) (g.F.Files.fault_count c.take_source.new.files))
    c.loop-source.invariant.same c.in_ok-take_source.ensures.step in
    record {
      gathered =
          gathered_on (g.F.Files.held c.args.files.now) c.args.sources.now c.loop-source.source-index c.source-item.result c.loop-source.entry c.take_source.new.entry (g.F.Files.fault_count c.loop-source.files)
          (g.F.Files.fault_count c.take_source.new.files) c.loop-source.invariant.gathered at step;
      whole =
          whole_on (g.F.Files.held c.args.files.now) c.args.sources.now c.loop-source.source-index c.source-item.result c.loop-source.entry c.take_source.new.entry (g.F.Files.fault_count c.loop-source.files)
          (g.F.Files.fault_count c.take_source.new.files) (g.F.Files.fault_count c.args.files.now) c.loop-source.invariant.later c.loop-source.invariant.whole step;
      same = c.in_ok-take_source.ensures.same ∙ c.loop-source.invariant.same;
      later = omega (arith, c.loop-source.invariant.later, c.in_ok-take_source.ensures.later);
    }
