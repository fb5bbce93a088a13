use Rattle.std.proofs.Common.{ℕ, length, None, Some, subst, sym, ap, ◌∙◌}
use Rattle.sc_entry.specs.Causes.{Told}
use Rattle.sc_store_disk.specs.DiskStores.{entry_path}
use Rattle.sc_store_disk.specs.Moving.{OpensBy, written_of}
use Rattle.sc_store_disk.specs.declared.reserving.Reservation.{Reservation}
use Rattle.sc_daemon_hold.specs.Holding.{AtLevel, HandsIn, IsGood, hand_at}
use Rattle.sc_daemon_job.specs.Askers.{asker}
use Rattle.sc_model.specs.declared.event.What.{What}
use Rattle.sc_model.specs.declared.event.What.TheVariants.{Reserved}
use Rattle.sc_model.specs.declared.event.Written.TheVariants.{Done}
use Rattle.sc_daemon_action.proofs.Holding.{open_hands, open_keeps, opened_holds, refused_hands}
use Rattle.sc_daemon_action.proofs.entries.open_entry.Goals as goal

pub returns-in-Open-clause-held : goal.returns-in-Open-clause-held
returns-in-Open-clause-held g c =
    let l = c.args.level in
    let b = c.args.bytes.now in
    let old = g.H.Hold.rooms c.args.hold.now in
    let new = g.H.Hold.rooms c.reserve.new.self in
    opened_holds l old new c.in-Open.entry b (subst (λ (how : Reservation). IsGood how b.key) c.in-Open.is c.in_ok-how.ensures.good)
    (subst (λ (how : Reservation). Told (AtLevel l (OpensBy (entry_path b.key) (length b.bytes) how)) old new) c.in-Open.is c.in_ok-how.ensures.opens)

pub returns-in-Open-clause-hands : goal.returns-in-Open-clause-hands
returns-in-Open-clause-hands g c =
    let l = c.args.level in
    let b = c.args.bytes.now in
    let old = g.H.Hold.rooms c.args.hold.now in
    let new = g.H.Hold.rooms c.reserve.new.self in
    subst (λ (size : ℕ). HandsIn old (Reserved l c.in_ok-key.key size Done) None (hand_at (Some c.in-Open.entry) l (length b.bytes))) (sym c.len-size.ensures)
    (open_hands l c.in_ok-key.key (entry_path b.key) (length b.bytes) c.in-Open.entry old new
    (subst (λ (how : Reservation). Told (AtLevel l (OpensBy (entry_path b.key) (length b.bytes) how)) old new) c.in-Open.is c.in_ok-how.ensures.opens))

pub returns-in-Open-clause-others : goal.returns-in-Open-clause-others
returns-in-Open-clause-others g c = open_keeps c.args.level (entry_path c.args.bytes.now.key) (length c.args.bytes.now.bytes) c.in_ok-how.how (g.H.Hold.rooms c.args.hold.now) (g.H.Hold.rooms c.reserve.new.self) c.in_ok-how.ensures.opens

pub returns-in-Open-clause-moves : goal.returns-in-Open-clause-moves
returns-in-Open-clause-moves g c n r =
    subst (λ (x : What). g.H.Hold.moves c.args.hold.now (asker c.args.since n r) x c.reserve.new.self)
    (ap (λ how. Reserved c.args.level c.args.bytes.now.key (length c.args.bytes.now.bytes) (written_of how)) c.in-Open.is
    ∙ ap (λ key. Reserved c.args.level key (length c.args.bytes.now.bytes) Done) (sym c.in_ok-key.ensures)
    ∙ ap (λ size. Reserved c.args.level c.in_ok-key.key size Done) (sym c.len-size.ensures))
    (c.in_ok-how.ensures.moves n r)

pub returns-in-Refused-clause-hands : goal.returns-in-Refused-clause-hands
returns-in-Refused-clause-hands g c = refused_hands c.args.level c.in_ok-key.key c.len-size.result c.in-Refused.cause (g.H.Hold.rooms c.args.hold.now)

pub returns-in-Refused-clause-others : goal.returns-in-Refused-clause-others
returns-in-Refused-clause-others g c = open_keeps c.args.level (entry_path c.args.bytes.now.key) (length c.args.bytes.now.bytes) c.in_ok-how.how (g.H.Hold.rooms c.args.hold.now) (g.H.Hold.rooms c.reserve.new.self) c.in_ok-how.ensures.opens
