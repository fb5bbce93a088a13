use Rattle.std.proofs.Common.{ap, sym, ◌∙◌}
use Rattle.sc_daemon_job.specs.Judgements.{judged_by}
use Rattle.sc_daemon_job.specs.declared.verdict.Judgement.{Judgement}
use Rattle.sc_model.specs.Judging.{Judged}
use Rattle.sc_daemon_action.specs.Ran.{ran_by}
use Rattle.sc_daemon_action.proofs.running.ran_output.Goals as goal

pub returns-in_ok-unstored-in-Failed-clause-phase : goal.returns-in_ok-unstored-in-Failed-clause-phase
returns-in_ok-unstored-in-Failed-clause-phase c k r =
    let eq = c.judge.ensures ∙ ap (λ (j : Judgement). judged_by j c.args.out.now.objects) c.in-Failed.is in
    c.in_ok-unstored-in-Failed.ensures.phase k r ∙ ap (λ (j : Judged). ran_by k r c.args.work c.args.mark c.args.notes c.args.duration c.args.out.now j) (sym eq)

pub returns-in_ok-unstored-in-NotCached-clause-phase : goal.returns-in_ok-unstored-in-NotCached-clause-phase
returns-in_ok-unstored-in-NotCached-clause-phase c k r =
    let eq = c.judge.ensures ∙ ap (λ (j : Judgement). judged_by j c.args.out.now.objects) c.in-NotCached.is in
    c.in_ok-unstored-in-NotCached.ensures.phase k r ∙ ap (λ (j : Judged). ran_by k r c.args.work c.args.mark c.args.notes c.args.duration c.args.out.now j) (sym eq)

pub returns-in_ok-unstored-in-NotCacheable-clause-phase : goal.returns-in_ok-unstored-in-NotCacheable-clause-phase
returns-in_ok-unstored-in-NotCacheable-clause-phase c k r =
    let eq = c.judge.ensures ∙ ap (λ (j : Judgement). judged_by j c.args.out.now.objects) c.in-NotCacheable.is in
    c.in_ok-unstored-in-NotCacheable.ensures.phase k r ∙ ap (λ (j : Judged). ran_by k r c.args.work c.args.mark c.args.notes c.args.duration c.args.out.now j) (sym eq)
