use Rattle.std.proofs.Common.{rules, ◌≡◌, true, ap, subst, sym}
use Rattle.sc_model.specs.declared.event.Answer.{Answer}
use Rattle.sc_model.specs.declared.event.Answer.TheVariants.{Refused}
use Rattle.sc_model.specs.declared.level.Cause.TheVariants.{BadKey}
use Rattle.sc_store.specs.Asking.{AsksLevel, fixed_answer, reads_key}
use Rattle.sc_store.specs.Held.{HeldLevel, modes_of, remote_given}
use Rattle.sc_store.proofs.Askings.{asks_bad, asks_fixed, mode_asks_at}
use Rattle.sc_store.proofs.Devices.{later_same}
use Rattle.sc_store.proofs.remote_storage.RemoteStorage.ask.Goals as goal

pub returns-then-not-reads_key-clause-asked : goal.returns-then-not-reads_key-clause-asked
returns-then-not-reads_key-clause-asked g c =
    let r = g.R.Remote in let s = c.self.inside.remote in
    subst (λ (a : Answer). AsksLevel c.args.key.now c.args.mode a c.args.self.now c.args.self.now) (sym c.fixed_answer.ensures)
    (subst (λ (h : HeldLevel). AsksLevel c.args.key.now c.args.mode (fixed_answer c.args.mode) h h) c.self.view_is
    (asks_fixed (r.names s) (remote_given c.self.inside.basedirs c.self.inside.skip_cache_check) (modes_of c.self.inside.configured c.self.inside.mode) (r.held s) (r.fault_count s) (r.loss_count s) (r.calls s) (r.reached s) c.self.inside.marks c.args.mode c.args.key.now (sym c.if-not-reads_key.ensures)))

pub returns-then-not-is_store_key-clause-asked : goal.returns-then-not-is_store_key-clause-asked
returns-then-not-is_store_key-clause-asked g c =
    let r = g.R.Remote in let s = c.self.inside.remote in
    subst (λ (h : HeldLevel). AsksLevel c.args.key.now c.args.mode (Refused BadKey) h h) c.self.view_is
    (asks_bad (r.names s) (remote_given c.self.inside.basedirs c.self.inside.skip_cache_check) (modes_of c.self.inside.configured c.self.inside.mode) (r.held s) (r.fault_count s) (r.loss_count s) (r.calls s) (r.reached s) c.self.inside.marks c.args.mode c.args.key.now (sym c.if-not-reads_key.ensures) (sym c.if-not-is_store_key.ensures))

pub returns-clause-asked : goal.returns-clause-asked
returns-clause-asked g c told has =
    let now = c.args.self.now in
    let r = now.room.reserved in
    let reads : reads_key c.args.mode ≡ true = search rules in
    rw c.in_ok-answer.ensures
    (mode_asks_at c.args.mode now.facts (modes_of c.self.inside.configured c.self.inside.mode) r c.args.key.now c.in_ok-raw.raw now.level c.find.new.self.level (ap (λ (h : HeldLevel). h.facts) (sym c.self.view_is)) reads (c.in_ok-raw.ensures.asked told r))

pub returns-then-not-reads_key-clause-later : goal.returns-then-not-reads_key-clause-later
returns-then-not-reads_key-clause-later g c = later_same c.args.self.now.level

pub returns-then-not-is_store_key-clause-later : goal.returns-then-not-is_store_key-clause-later
returns-then-not-is_store_key-clause-later g c = later_same c.args.self.now.level

pub returns-in_err-normalize_key-clause-later : goal.returns-in_err-normalize_key-clause-later
returns-in_err-normalize_key-clause-later g c = later_same c.args.self.now.level
