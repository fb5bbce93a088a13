use Rattle.std.proofs.Common.{ap, subst, sym, ◌∙◌}
use Rattle.sc_model.specs.Levels.{Later}
use Rattle.sc_store.specs.Held.{HeldLevel, remote_level}
use Rattle.sc_store.specs.declared.checked.Checked.TheVariants.{Mode}
use Rattle.sc_store.proofs.Checks.{checks_probed}
use Rattle.sc_store.proofs.Devices.{later_same}
use Rattle.sc_store.proofs.remote_storage.RemoteStorage.check.Goals as goal

pub returns-in-Mode-clause-checked : goal.returns-in-Mode-clause-checked
returns-in-Mode-clause-checked g c =
    let view = sym c.self.view_is in
    let after = sym c.self-2.view_is in
    checks_probed c.args.self.now c.in_ok-found.found (Mode c.in-Mode.mode) c.probe.new.self.level _
    (ap (λ (h : HeldLevel). h.facts.wrapped) view) (ap (λ (h : HeldLevel). h.facts.kind) view) (ap (λ (h : HeldLevel). h.title.given.unchecked) view ∙ c.if-self.false) c.in-Mode.is (ap (λ (h : HeldLevel). h.level) after) c.in_ok-found.ensures.found

pub returns-then-self-clause-later : goal.returns-then-self-clause-later
returns-then-self-clause-later g c =
    let r = g.R.Remote in
    let s = c.self.inside.remote in
    let level = remote_level (r.held s) (r.fault_count s) (r.loss_count s) (r.calls s) (r.reached s) c.self.inside.marks in
    subst (λ (h : HeldLevel). Later h.level level) c.self.view_is (later_same level)

pub returns-in-Mode-clause-later : goal.returns-in-Mode-clause-later
returns-in-Mode-clause-later g c = subst (λ (h : HeldLevel). Later c.args.self.now.level h.level) (sym c.self-2.view_is) c.probe.ensures.later
