use Rattle.std.proofs.Common.{◌∙◌, ◌-◌, ℕ, ap}
use Rattle.sc_daemon.specs.Daemons.{Kept, passed}
use Rattle.sc_main.proofs.answering.raise.Goals as goal

pub returns : goal.returns
returns g c =
    let s = c.args.session.now in
    let now = c.now-now.result in
    record {
      session = c.pass.ensures.session ∙ ap (λ (n : ℕ). record s { daemon = passed s.daemon n }) (c.saturating_sub-behind.ensures ∙ ap (λ (n : ℕ). now - n) (c.now.ensures ∙ ap (λ (d : Kept). d.state.world.moment) c.daemon.ensures));
      ticks = (c.now-now.ensures.moment, c.now-now.ensures.left);
      pauses = c.now-now.ensures.pauses;
    }
