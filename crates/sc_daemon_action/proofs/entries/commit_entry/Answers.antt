use Rattle.std.proofs.Common.{List, ℕ, length, None, Some, subst, sym}
use Rattle.sc_daemon_hold.specs.Holding.{HandsIn, hand_at}
use Rattle.sc_model.specs.declared.event.What.TheVariants.{Committed}
use Rattle.sc_daemon_action.proofs.Holding.{close_hands, close_keeps}
use Rattle.sc_daemon_action.proofs.entries.commit_entry.Goals as goal

pub returns-clause-hands : goal.returns-clause-hands
returns-clause-hands g c =
    let l = c.args.level in
    let e = c.args.entry in
    let b = c.args.bytes.now in
    let old = g.H.Hold.rooms c.args.hold.now in
    subst (λ (copy : List ℕ). HandsIn old (Committed l c.in_ok-key.key copy c.in_ok-written.written) (hand_at (Some e) l (length b.bytes)) None) (sym c.in_ok-copy.ensures)
    (close_hands l c.in_ok-key.key b.bytes c.in_ok-written.written e old)

pub returns-clause-others : goal.returns-clause-others
returns-clause-others g c = close_keeps c.args.level c.args.entry (length c.args.bytes.now.bytes) (g.H.Hold.rooms c.args.hold.now) (g.H.Hold.rooms c.commit.new.self) c.in_ok-written.ensures.closes
