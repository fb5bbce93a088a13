use Rattle.std.proofs.Common.{ℕ, List, ap, sym, ◌∙◌}
use Rattle.sc_model.specs.Judging.{IsBroken, judge_objects}
use Rattle.sc_model.specs.declared.event.Objects.{Objects}
use Rattle.sc_daemon_action.specs.Ran.{ran_by}
use Rattle.sc_daemon_action.proofs.running.cacheable.Goals as goal

pub returns-in_ok-faulted-in-Broken-clause-phase : goal.returns-in_ok-faulted-in-Broken-clause-phase
returns-in_ok-faulted-in-Broken-clause-phase c k r =
    c.in_ok-faulted-in-Broken.ensures.phase k r ∙ ap (λ (l : List (List ℕ)). ran_by k r c.args.work c.args.mark c.args.notes c.args.duration c.args.out.now (IsBroken l)) c.as_slice-in-Broken.ensures ∙
    ap (λ (o : Objects). ran_by k r c.args.work c.args.mark c.args.notes c.args.duration c.args.out.now (judge_objects o)) (sym c.in-Broken.is)
