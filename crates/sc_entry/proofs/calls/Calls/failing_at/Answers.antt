use Rattle.std.proofs.Common.{subst, ◌∙◌}
use Rattle.std.specs.BTreeSet.{IsFromIterResult}
use Rattle.std.specs.Ordering.{nat_cmp}
use Rattle.std.proofs.IntoIterSteps.{All-taken}
use Rattle.sc_entry.proofs.calls.Calls.failing_at.Goals as goal

pub returns-clause-failing : goal.returns-clause-failing
returns-clause-failing c =
    let h = c.in_ok-from_iter.ensures.ran in
    (subst (λ l. IsFromIterResult nat_cmp l c.in_ok-from_iter.field-0) (All-taken h.0 h.1 ((h.3.2 tt).0, (h.3.0, h.3.1, (h.3.2 tt).1)) ∙ h.2.0 ∙ c.into_vec.ensures) h.4).0
