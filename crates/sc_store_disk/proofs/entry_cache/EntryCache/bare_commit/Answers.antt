use Rattle.std.proofs.Common.{ℕ, List, sym, subst}
use Rattle.sc_model.specs.declared.event.Written.{Written}
use Rattle.sc_model.specs.declared.event.Written.TheVariants.{Done, Refused}
use Rattle.sc_store_disk.specs.DiskStores.{DiskStore, bare_disk}
use Rattle.sc_store_disk.specs.Entries.{ClosesEntry, CommitsEntry, IsOpenAt}
use Rattle.sc_store_disk.specs.Marked.{MarksDone, SweptBy, marks_of}
use Rattle.sc_store_disk.specs.Marks.{Marks, Settles}
use Rattle.sc_store_disk.proofs.Marking.{marks-done}
use Rattle.sc_store_disk.proofs.Steadying.{stays-self}
use Rattle.sc_store_disk.proofs.entry_cache.EntryCache.bare_commit.Goals as goal

pub returns-in-Ok-Done-clause-committed : goal.returns-in-Ok-Done-clause-committed
returns-in-Ok-Done-clause-committed g c =
    let h = c.in-Ok-Done.ensures.committed in
    subst (λ (s : DiskStore). IsOpenAt c.args.entry s × CommitsEntry c.args.entry.number Done s (bare_disk c.sweep.new.self)) c.begin_mark.ensures.held (
      h.0,
      subst (λ (s : DiskStore). CommitsEntry c.args.entry.number Done (bare_disk c.begin_mark.new.self) s) (sym c.sweep.ensures.held)
          (subst (λ (w : Written). CommitsEntry c.args.entry.number w (bare_disk c.begin_mark.new.self) (bare_disk c.commit_entry.new.self)) c.in-Ok-Done.field-0-is h.1),
    )

pub returns-in-Ok-Done-clause-marks : goal.returns-in-Ok-Done-clause-marks
returns-in-Ok-Done-clause-marks g c =
    let path = c.in-Ok.ensures.began.0 in
    let settled : Settles c.args.entry.key c.args.entry.number (marks_of c.begin_mark.new.self) c.settle.new.self = subst (λ (p : List ℕ). Settles p c.args.entry.number (marks_of c.begin_mark.new.self) c.settle.new.self) path
    (subst (λ (n : ℕ). Settles c.in-Ok.path n (marks_of c.begin_mark.new.self) c.settle.new.self) c.number-number.ensures
    (subst (λ (m : Marks). Settles c.in-Ok.path c.number-number.result m c.settle.new.self) c.commit_entry.ensures.marks c.settle.ensures)) in
    let swept : SweptBy c.commit_entry.new.self.pair.opened c.args.entry.key c.settle.new.self (marks_of c.sweep.new.self) = subst (λ (p : List ℕ). SweptBy c.commit_entry.new.self.pair.opened p c.settle.new.self (marks_of c.sweep.new.self)) path c.sweep.ensures.swept in
    subst (λ (s : DiskStore). MarksDone c.args.entry.number c.args.entry.key (marks_of c.args.self.now) (marks_of c.sweep.new.self) s) (sym c.sweep.ensures.held)
    (marks-done c.args.entry.key c.args.entry.number c.in-Ok.added (marks_of c.args.self.now) (marks_of c.begin_mark.new.self) c.settle.new.self (marks_of c.sweep.new.self) c.in-Ok.ensures.began.1 settled
    c.commit_entry.new.self.mode c.commit_entry.new.self.pair.max_size c.commit_entry.new.self.pair.opened c.commit_entry.new.self.pair.disks swept)

pub returns-in-Ok-Refused-clause-committed : goal.returns-in-Ok-Refused-clause-committed
returns-in-Ok-Refused-clause-committed g c =
    let h = c.in-Ok-Refused.ensures.committed in
    subst (λ (s : DiskStore). IsOpenAt c.args.entry s × CommitsEntry c.args.entry.number (Refused c.in-Ok-Refused.cause) s (bare_disk c.commit_entry.new.self)) c.begin_mark.ensures.held (
      h.0,
      subst (λ (w : Written). CommitsEntry c.args.entry.number w (bare_disk c.begin_mark.new.self) (bare_disk c.commit_entry.new.self)) c.in-Ok-Refused.field-0-is h.1,
    )

pub returns-then-not-has_open-clause-stays : goal.returns-then-not-has_open-clause-stays
returns-then-not-has_open-clause-stays g c = stays-self (bare_disk c.args.self.now)

pub returns-in-Ok-Done-clause-closed : goal.returns-in-Ok-Done-clause-closed
returns-in-Ok-Done-clause-closed g c is =
    subst (λ (s : DiskStore). ClosesEntry c.args.entry.number s (bare_disk c.sweep.new.self)) c.begin_mark.ensures.held
    (subst (λ (s : DiskStore). ClosesEntry c.args.entry.number (bare_disk c.begin_mark.new.self) s) (sym c.sweep.ensures.held) (c.commit_entry.ensures.closed (subst (IsOpenAt c.args.entry) (sym c.begin_mark.ensures.held) is)))

pub returns-in-Ok-Refused-clause-closed : goal.returns-in-Ok-Refused-clause-closed
returns-in-Ok-Refused-clause-closed g c is =
    subst (λ (s : DiskStore). ClosesEntry c.args.entry.number s (bare_disk c.commit_entry.new.self)) c.begin_mark.ensures.held (c.commit_entry.ensures.closed (subst (IsOpenAt c.args.entry) (sym c.begin_mark.ensures.held) is))

pub returns-clause-closed : goal.returns-clause-closed
returns-clause-closed g c is =
    subst (λ (s : DiskStore). ClosesEntry c.args.entry.number s (bare_disk c.commit_entry.new.self)) c.begin_mark.ensures.held (c.commit_entry.ensures.closed (subst (IsOpenAt c.args.entry) (sym c.begin_mark.ensures.held) is))
