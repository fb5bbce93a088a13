-- What is due, and what a making makes of it.
use Rattle.std.proofs.Common.{◌≡◌, ℕ, Bool, true, false, subst, sym}
use Rattle.sc_model.specs.Containers.{Container, MakerCause, Makes_next, Renews, Renews_where, is_due, made_state}
use Rattle.sc_model.specs.declared.level.Making.{Making}

-- what isn't due stays
pub waits : (now : ℕ) (c d : Container) → is_due now c.state ≡ false → d ≡ c → Renews now c d
waits now c d e same = subst (λ v. Renews_where v now c d) (sym e) same

-- what is due becomes what was made
pub renewed : (now : ℕ) (c d : Container) (m : Making) → is_due now c.state ≡ true → Makes_next c.makings m d.makings → d.state ≡ made_state now m → MakerCause m c.faults d.faults → Renews now c d
renewed now c d m e next state cause = subst (λ v. Renews_where v now c d) (sym e) (m, next, state, cause)
