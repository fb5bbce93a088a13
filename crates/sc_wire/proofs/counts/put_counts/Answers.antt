use Rattle.std.proofs.Common.{◌++◌, ℕ, List, ap, subst, sym, ◌∙◌, append_assoc}
use Rattle.std.proofs.lemmas.List.{append-nil}
use Rattle.sc_wire.specs.Lists.{spell_all, FitAll}
use Rattle.sc_wire.specs.Tallies.{pair}
use Rattle.sc_wire.proofs.counts.put_counts.Goals as goal

pub loop-text-init : goal.loop-text-init
loop-text-init c =
    let all = c.into_iter-text-iterator.ensures.into_iter_gives ∙ c.iter-text-items.ensures.rest in
    record { spelled = ap (λ es. c.args.out.now.items ++ spell_all pair es) all; fits = λ h. subst (FitAll pair) all h }

pub loop-text-preserved : goal.loop-text-preserved
loop-text-preserved c =
    let item : List ℕ × ℕ = (c.in-Some.text.now, c.in-Some.count.now) in
    let rest = c.in-Some.ensures.steps in
    record {
      spelled = ap (λ bytes. bytes ++ spell_all pair c.next.new.self) c.in_ok-put2.ensures.spelled
          ∙ append_assoc c.loop-text.out.items (pair.spell item) (spell_all pair c.next.new.self)
          ∙ ap (λ es. c.loop-text.out.items ++ spell_all pair es) (sym rest)
          ∙ c.loop-text.invariant.spelled;
      fits = λ h. c.loop-text.invariant.fits (subst (FitAll pair) (sym rest) (c.in_ok-put2.ensures.fits, h));
    }

pub returns-clause-spelled : goal.returns-clause-spelled
returns-clause-spelled c =
    sym (append-nil c.loop-text.out.items)
    ∙ ap (λ es. c.loop-text.out.items ++ spell_all pair es) (sym c.in-None.ensures.steps.0)
    ∙ c.loop-text.invariant.spelled

pub returns-clause-fits : goal.returns-clause-fits
returns-clause-fits c = c.loop-text.invariant.fits (subst (FitAll pair) (sym c.in-None.ensures.steps.0) tt)
