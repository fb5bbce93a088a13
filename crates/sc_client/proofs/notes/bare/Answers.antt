use Rattle.std.proofs.Common.{ℕ, take, ap, ◌∙◌}
use Rattle.sc_client.proofs.Noting.{bare_take}
use Rattle.sc_client.proofs.notes.bare.Goals as goal

pub returns : goal.returns
returns c = ap (λ (n : ℕ). take n c.args.line.now) c.before_feed-place.ensures.value ∙ bare_take c.args.line.now
