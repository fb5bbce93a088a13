use Rattle.std.proofs.Common.{◌≡◌, ℕ, true, is_some, List, ap, subst, sym, ◌∙◌}
use Rattle.sc_entry.specs.Causes.{Told}
use Rattle.sc_entry.specs.Entries.{objects}
use Rattle.sc_model.specs.Asking.{Asks}
use Rattle.sc_model.specs.declared.event.Answer.{Answer}
use Rattle.sc_model.specs.declared.event.Mode.TheVariants.{Raw}
use Rattle.sc_store.specs.Asking.{ForgetsLost, raw_answer}
use Rattle.sc_store.specs.Held.{HeldLevel, modes_of, remote_facts, remote_level}
use Rattle.sc_store.specs.Remotes.{Reads}
use Rattle.sc_store_disk.specs.Marks.{Marks}
use Rattle.sc_store.proofs.Askings.{read_asks}
use Rattle.sc_store.proofs.Marking.{asked_fewer}
use Rattle.sc_store.proofs.remote_storage.RemoteStorage.find.Goals as goal

pub returns-clause-asked : goal.returns-clause-asked
returns-clause-asked g c =
    let r = g.R.Remote in
    let old = c.self.inside.remote in
    let new = c.read.new.self in
    let e = c.in_ok-found.ensures in
    let after = remote_level (r.held new) (r.fault_count new) (r.loss_count new) (r.calls new) (r.reached new) c.forget_lost.new.marks in
    let is = c.raw_answer-raw.ensures ∙ ap (raw_answer c.in_ok-found.found) c.is_marked-mark.ensures in
    subst (λ (h : HeldLevel). h.told ≡ true → (n : ℕ) → Asks objects h.facts n c.args.key.now Raw c.raw_answer-raw.result h.level after) c.self.view_is
    (subst (λ (a : Answer). is_some (r.held old) ≡ true → (n : ℕ) → Asks objects (remote_facts (modes_of c.self.inside.configured c.self.inside.mode)) n c.args.key.now Raw a (remote_level (r.held old) (r.fault_count old) (r.loss_count old) (r.calls old) (r.reached old) c.self.inside.marks) after) (sym is)
    (read_asks c.in_ok-found.found (r.held old) (r.held new) (r.fault_count old) (r.fault_count new) (r.loss_count old) (r.loss_count new) (r.calls old) (r.calls new) (r.reached old) (r.reached new) c.self.inside.marks c.forget_lost.new.marks
    (modes_of c.self.inside.configured c.self.inside.mode) c.args.key.now c.args.path.now c.requires.key c.requires.path e.faults_stay e.losses e.calls e.reached e.one_call
    (subst (λ (p : List ℕ). Told (Reads c.in_ok-found.found (r.loss_count old) (r.loss_count new) p) (r.held old) (r.held new)) c.as_text.ensures e.told) e.cause (subst (λ (a : Answer). ForgetsLost a c.args.path.now c.self.inside.marks c.forget_lost.new.marks) is c.forget_lost.ensures)))

pub returns-clause-marks : goal.returns-clause-marks
returns-clause-marks g c = subst (λ (m : Marks). ForgetsLost c.raw_answer-raw.result c.args.path.now m c.forget_lost.new.marks) (ap (λ (h : HeldLevel). h.marks) c.self.view_is) c.forget_lost.ensures

pub returns-clause-fewer : goal.returns-clause-fewer
returns-clause-fewer g c = asked_fewer c.raw_answer-raw.result c.args.path.now c.args.self.now.marks c.self.inside.marks c.forget_lost.new.marks (ap (λ (h : HeldLevel). h.marks) c.self.view_is) c.forget_lost.ensures
