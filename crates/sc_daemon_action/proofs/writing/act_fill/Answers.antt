use Rattle.std.proofs.Common.{◌≡◌, refl, ap, ◌∙◌}
use Rattle.sc_model.specs.Plan.{note}
use Rattle.sc_model.specs.declared.event.What.TheVariants.{Filled}
use Rattle.sc_model.specs.declared.event.Written.TheVariants.{Refused}
use Rattle.sc_model.specs.declared.phase.Phase.TheVariants.{AtFill}
use Rattle.sc_daemon_action.proofs.Putting.{goes_with}
use Rattle.sc_daemon_action.proofs.writing.act_fill.Goals as goal

pub returns-in-Refused-clause-acts : goal.returns-in-Refused-clause-acts
returns-in-Refused-clause-acts g c r writer =
    let b = c.args.bytes in
    let l = c.args.level in
    let what = Filled l b.key b.bytes b.run (Refused c.in-Refused.cause) in
    let is : c.after_refusal.result.what ≡ what = c.after_refusal.ensures.what ∙ c.in_ok-what.ensures.what ∙ ap (λ how. Filled l b.key b.bytes b.run how) c.in-Refused.is in
    goes_with (g.H.Hold.config c.args.hold.now) (g.H.Hold.rooms c.fill_entry.new.hold) r (AtFill b l c.args.rest c.args.refusal c.args.ending) (g.H.Hold.moment c.fill_entry.new.hold) c.after_refusal.result what b (note c.args.refusal l c.in-Refused.cause) c.args.rest c.args.ending
    is c.after_refusal.ensures.phase c.after_refusal.ensures.entry c.requires.rest writer (refl, refl, refl, refl) refl tt tt
