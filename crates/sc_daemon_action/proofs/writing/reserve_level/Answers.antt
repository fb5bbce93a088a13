use Rattle.std.proofs.Common.{◌≡◌, ◌∷◌, length, refl, ap, sym, subst, ◌∙◌}
use Rattle.sc_daemon_job.specs.Setups.{setup}
use Rattle.sc_model.specs.Dues.{start_write}
use Rattle.sc_model.specs.Follows.{Fits}
use Rattle.sc_model.specs.Plan.{note}
use Rattle.sc_model.specs.declared.event.What.TheVariants.{Reserved}
use Rattle.sc_model.specs.declared.event.Written.TheVariants.{Refused}
use Rattle.sc_model.specs.declared.phase.Phase.TheVariants.{AtWrite}
use Rattle.sc_daemon_action.proofs.Putting.{goes_with}
use Rattle.sc_daemon_action.proofs.writing.reserve_level.Goals as goal

pub returns-in-Refused-clause-acts : goal.returns-in-Refused-clause-acts
returns-in-Refused-clause-acts g c r writer =
    let k = g.H.Hold.config c.args.hold.now in
    let b = c.args.bytes in
    let l = c.args.level in
    let what = Reserved l b.key (length b.bytes) (Refused c.in-Refused.cause) in
    let is : c.after_refusal.result.what ≡ what = c.after_refusal.ensures.what ∙ c.in_ok-what.ensures.what ∙ ap (λ how. Reserved l b.key (length b.bytes) how) c.in-Refused.is in
    goes_with k (g.H.Hold.rooms c.open_entry.new.hold) r (AtWrite b (l ∷ c.args.rest) c.args.refusal c.args.ending) (g.H.Hold.moment c.open_entry.new.hold) c.after_refusal.result what b (note c.args.refusal l c.in-Refused.cause) c.args.rest c.args.ending
    is c.after_refusal.ensures.phase c.after_refusal.ensures.entry c.requires.rest writer (subst (λ kind. Fits (setup k) r (start_write kind l b) what) (sym c.requires.disk) (refl, refl, refl)) refl tt tt
