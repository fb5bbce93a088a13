use Rattle.std.proofs.Common.{[], ◌∷◌, ◌++◌, ap, ◌∙◌}
use Rattle.sc_compile_direct.proofs.Tying.{steps_by}
use Rattle.sc_model.specs.Conns.{outcome_after, reserved_after}
use Rattle.sc_compile_direct.specs.declared.running.Running.{Running}
use Rattle.sc_compile_direct.proofs.running.Running.step.Goals as goal

pub returns : goal.returns
returns g c =
    let kept = c.in_ok-note.ensures in
    let told = c.tell.ensures in
    let entry = c.in_ok-action.action.entry in
    let stands = c.hold.ensures ∙ ap (λ (r : Running). record r { entry = entry }) c.stand.ensures in
    steps_by g.H.Hold.config g.H.Hold.rooms g.H.Hold.moment g.H.Hold.moves c.args.request.now c.args.hold.now c.act.new.hold c.args.self.now c.note.new.self c.in_ok-action.action c.now-moment.result c.replace-phase.result
    c.replace-phase.ensures.value c.now-moment.ensures c.in_ok-action.ensures.acts c.in_ok-action.ensures.moves c.in_ok-action.ensures.same
    (ap (λ (r : Running). r.phase) kept ∙ ap (λ (r : Running). r.phase) told ∙ ap (λ (r : Running). r.phase) stands) (ap (λ (r : Running). r.entry) kept ∙ ap (λ (r : Running). r.entry) told ∙ ap (λ (r : Running). r.entry) stands)
    (ap (λ (r : Running). r.events) kept ∙ ap (λ (r : Running). r.events ++ record { moment = c.now-moment.result; what = c.in_ok-action.action.what } ∷ []) told ∙ ap (λ (r : Running). r.events ++ record { moment = c.now-moment.result; what = c.in_ok-action.action.what } ∷ []) stands)
    (ap (λ (r : Running). r.last) kept ∙ ap (λ (r : Running). r.last) told)
    (ap (λ (r : Running). r.outcome) kept ∙ ap (λ (r : Running). r.outcome) told ∙ ap (λ (r : Running). outcome_after r.outcome c.now-moment.result c.in_ok-action.action.what) stands)
    (ap (λ (r : Running). r.reserved) kept ∙ ap (λ (r : Running). r.reserved) told ∙ ap (λ (r : Running). reserved_after r.reserved c.now-moment.result c.in_ok-action.action.what) stands)
