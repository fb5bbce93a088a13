use Rattle.std.proofs.Common.{List, map, refl, ap, ◌∙◌}
use Rattle.sc_daemon.specs.Backlogs.{Write}
use Rattle.sc_daemon.specs.Daemons.{anew}
use Rattle.sc_daemon.proofs.Counted.{if_any}
use Rattle.sc_daemon.proofs.Driving.{headline, idle_anew, if_four, if_left_of, reserved-told}
use Rattle.sc_daemon.proofs.drives.drive.Goals as goal

pub returns : goal.returns
returns g c =
    let left = ap (λ (ws : List Write). map (λ (w : Write). w.pending.handed) ws) c.background.ensures in
    record {
      headline = if_four c.if_left.result c.if_left.ensures.trace c.if_left.ensures.ends c.if_left.ensures.sent c.if_left.ensures.background
          (λ driven trace ends sent back. headline c.every_run.ensures (anew c.args.daemon.now) c.all_steps.new.daemon c.args.inputs.now c.args.steps.now _ c.in_ok-driver.driver.events.items c.in_ok-driver.driver.conns.items driven
          (idle_anew c.args.daemon.now c.requires.idle) refl c.in_ok-driver.ensures refl trace ends sent (if_left_of c.writes_left-background.result driven.background back c.writes_left-background.ensures ∙ left));
      reserved = if_four c.if_left.result c.if_left.ensures.trace c.if_left.ensures.ends c.if_left.ensures.sent c.if_left.ensures.background
          (λ driven trace ends sent back. reserved-told (anew c.args.daemon.now) c.all_steps.new.daemon c.args.inputs.now c.args.steps.now _ c.in_ok-driver.driver.events.items c.in_ok-driver.driver.conns.items driven c.in_ok-driver.ensures trace);
      background = if_four c.if_left.result c.if_left.ensures.trace c.if_left.ensures.ends c.if_left.ensures.sent c.if_left.ensures.background
          (λ driven trace ends sent back. if_left_of c.writes_left-background.result driven.background back c.writes_left-background.ensures ∙ left);
      told = if_any c.if_left.result c.in_ok-driver.ensures.told;
      config = if_any c.if_left.result c.in_ok-driver.ensures.config;
    }
