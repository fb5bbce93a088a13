use Rattle.std.proofs.Common.{[], ◌∷◌, ◌++◌, ap, ◌∙◌}
use Rattle.std.specs.Global.{Vec}
use Rattle.sc_model.specs.declared.event.Event.{Event}
use Rattle.sc_daemon.proofs.driver.Driver.step.Goals as goal

pub returns : goal.returns
returns g c = record {
  steps = record {
    event = c.in_ok-event.event;
    grown = c.in_ok-push.ensures.items ∙ ap (λ (v : Vec Event). v.items ++ c.in_ok-event.event ∷ []) c.in_ok-event.ensures.events;
    steps = c.in_ok-event.ensures.steps;
  };
}
