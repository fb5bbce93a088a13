use Rattle.std.proofs.Common.{rules, ◌≡◌, None, Some, refl, subst, sym, ◌∙◌}
use Rattle.sc_entry.specs.Keys.{normalize_key}
use Rattle.sc_model.specs.Levels.{Later}
use Rattle.sc_model.specs.WriteCauses.{early_cause}
use Rattle.sc_model.specs.declared.event.Written.TheVariants.{Refused as NotWritten}
use Rattle.sc_store.specs.Asking.{PutsLevel}
use Rattle.sc_store.specs.Held.{HeldLevel, modes_of, remote_facts, remote_given, remote_level}
use Rattle.sc_store.proofs.Askings.{refused_early, remarked_later, same_marks, write_puts_at}
use Rattle.sc_store.proofs.Devices.{later_same}
use Rattle.sc_store.proofs.Marking.{wrote_marks}
use Rattle.sc_store.proofs.remote_storage.RemoteStorage.put_step.Goals as goal

pub returns-clause-wrote : goal.returns-clause-wrote
returns-clause-wrote g c =
    let r = g.R.Remote in
    let old = c.self.inside.remote in
    let new = c.write.new.self in
    let e = c.in-Ok.ensures in
    let at : c.as_text.result.now ≡ normalize_key c.args.key.now = search rules in
    let here : c.new-path.result ≡ normalize_key c.args.key.now = search rules in
    let free : early_cause c.args.policy.now (remote_facts (modes_of c.self.inside.configured c.self.inside.mode)) c.args.key.now ≡ None = search rules in
    write_puts_at (r.names old) (remote_given c.self.inside.basedirs c.self.inside.skip_cache_check) c.written_of.result c.args.self.now c.in-Ok.answer (r.held old) (r.held new) (r.fault_count old) (r.fault_count new) (r.loss_count old) (r.loss_count new) (r.calls old) (r.calls new) (r.reached old) (r.reached new)
    c.self.inside.marks c.unless_done.new.marks c.args.policy.now (modes_of c.self.inside.configured c.self.inside.mode) c.args.key.now c.as_text.result.now c.args.bytes.now c.args.from_run c.written_of.ensures c.self.view_is free at e.one_call e.reached e.told e.cause
    (wrote_marks c.in-Ok.answer c.written_of.result c.args.key.now c.new-path.result c.args.from_run c.self.inside.marks c.begin.new.marks c.unless_done.new.marks c.written_of.ensures here c.in_ok-begin.ensures.begun c.unless_done.ensures)

pub returns-in-Some-clause-wrote : goal.returns-in-Some-clause-wrote
returns-in-Some-clause-wrote g c =
    let r = g.R.Remote in
    let s = c.self.inside.remote in
    let modes = modes_of c.self.inside.configured c.self.inside.mode in
    let early : early_cause c.args.policy.now (remote_facts modes) c.args.key.now ≡ Some c.in-Some.cause = sym c.early_cause.ensures ∙ c.in-Some.is in
    subst (λ (h : HeldLevel). PutsLevel c.args.policy.now c.args.key.now c.args.bytes.now c.args.from_run (NotWritten c.in-Some.cause) h h) c.self.view_is
    (λ told n. refused_early c.args.policy.now (remote_facts modes) c.args.key.now c.args.bytes.now c.args.from_run (remote_level (r.held s) (r.fault_count s) (r.loss_count s) (r.calls s) (r.reached s) c.self.inside.marks) refl
    (same_marks (r.names s) (remote_given c.self.inside.basedirs c.self.inside.skip_cache_check) modes (r.held s) (r.fault_count s) (r.loss_count s) (r.calls s) (r.reached s) c.self.inside.marks) c.in-Some.cause early n)

pub returns-in-Some-clause-later : goal.returns-in-Some-clause-later
returns-in-Some-clause-later g c = later_same c.args.self.now.level

pub returns-in_err-normalize_key-clause-later : goal.returns-in_err-normalize_key-clause-later
returns-in_err-normalize_key-clause-later g c = later_same c.args.self.now.level

pub returns-in_err-begin-clause-later : goal.returns-in_err-begin-clause-later
returns-in_err-begin-clause-later g c =
    let r = g.R.Remote in
    let s = c.self.inside.remote in
    subst (λ (h : HeldLevel). Later h.level (remote_level (r.held s) (r.fault_count s) (r.loss_count s) (r.calls s) (r.reached s) c.begin.new.marks)) c.self.view_is
    (remarked_later (r.held s) (r.fault_count s) (r.loss_count s) (r.calls s) (r.reached s) c.self.inside.marks c.begin.new.marks)
