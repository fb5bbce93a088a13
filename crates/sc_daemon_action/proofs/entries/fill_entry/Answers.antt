use Rattle.std.proofs.Common.{List, length, None, Some, ℕ, ap, subst, sym, ◌∙◌}
use Rattle.sc_entry.specs.Causes.{Told}
use Rattle.sc_store_disk.specs.Entries.{FillsBy}
use Rattle.sc_store_disk.specs.Marks.{filled_by}
use Rattle.sc_store_disk.specs.declared.filling.Filling.{Filling}
use Rattle.sc_daemon_hold.specs.Holding.{AtLevel, HandsIn, IsSame, filled_of, hand_at}
use Rattle.sc_daemon_job.specs.Askers.{asker}
use Rattle.sc_model.specs.declared.event.What.{What}
use Rattle.sc_model.specs.declared.event.What.TheVariants.{Filled}
use Rattle.sc_model.specs.declared.event.Written.TheVariants.{Done, Refused}
use Rattle.sc_model.specs.declared.message.Request.TheVariants.{ZeroStats}
use Rattle.sc_daemon_action.proofs.Holding.{fill_hands, fill_keeps, fills_hold, no_need, unfilled_hands}
use Rattle.sc_daemon_action.proofs.entries.fill_entry.Goals as goal

pub returns-in-Filled-clause-held : goal.returns-in-Filled-clause-held
returns-in-Filled-clause-held g c =
    let l = c.args.level in
    let e = c.args.entry in
    let b = c.args.bytes.now in
    let old = g.H.Hold.rooms c.args.hold.now in
    let new = g.H.Hold.rooms c.fill.new.self in
    fills_hold l old new e c.in-Filled.entry b (g.met.H.Hold.tells c.args.hold.now (asker c.args.since no_need ZeroStats) _ c.fill.new.self (c.in_ok-how.ensures.moves no_need ZeroStats)) c.requires.holds
    (subst (λ (how : Filling). IsSame e how) c.in-Filled.is c.in_ok-how.ensures.entry)
    (subst (λ (how : Filling). Told (AtLevel l (FillsBy e b.bytes (filled_by b.run) how)) old new) c.in-Filled.is c.in_ok-how.ensures.fills)

pub returns-in-Filled-clause-hands : goal.returns-in-Filled-clause-hands
returns-in-Filled-clause-hands g c =
    let l = c.args.level in
    let e = c.args.entry in
    let b = c.args.bytes.now in
    let old = g.H.Hold.rooms c.args.hold.now in
    subst (λ (copy : List ℕ). HandsIn old (Filled l c.in_ok-key.key copy b.run Done) (hand_at (Some e) l (length b.bytes)) (hand_at (Some c.in-Filled.entry) l (length b.bytes))) (sym c.in_ok-copy.ensures)
    (fill_hands l c.in_ok-key.key b.bytes b.run e c.in-Filled.entry old (subst (λ (how : Filling). IsSame e how) c.in-Filled.is c.in_ok-how.ensures.entry))

pub returns-in-Filled-clause-others : goal.returns-in-Filled-clause-others
returns-in-Filled-clause-others g c =
    let b = c.args.bytes.now in
    fill_keeps c.args.level c.args.entry b.bytes (filled_by b.run) (length b.bytes) c.in_ok-how.how (g.H.Hold.rooms c.args.hold.now) (g.H.Hold.rooms c.fill.new.self) c.in_ok-how.ensures.fills

pub returns-in-Filled-clause-moves : goal.returns-in-Filled-clause-moves
returns-in-Filled-clause-moves g c n r =
    let l = c.args.level in
    let b = c.args.bytes.now in
    subst (λ (x : What). g.H.Hold.moves c.args.hold.now (asker c.args.since n r) x c.fill.new.self)
    (ap (λ (how : Filling). Filled l b.key b.bytes b.run (filled_of how)) c.in-Filled.is
    ∙ ap (λ key. Filled l key b.bytes b.run Done) (sym c.in_ok-key.ensures)
    ∙ ap (λ copy. Filled l c.in_ok-key.key copy b.run Done) (sym c.in_ok-copy.ensures))
    (c.in_ok-how.ensures.moves n r)

pub returns-in-Refused-clause-hands : goal.returns-in-Refused-clause-hands
returns-in-Refused-clause-hands g c =
    let l = c.args.level in
    let e = c.args.entry in
    let b = c.args.bytes.now in
    let old = g.H.Hold.rooms c.args.hold.now in
    subst (λ (copy : List ℕ). HandsIn old (Filled l c.in_ok-key.key copy b.run (Refused c.in-Refused.cause)) (hand_at (Some e) l (length b.bytes)) None) (sym c.in_ok-copy.ensures)
    (unfilled_hands l c.in_ok-key.key b.bytes b.run c.in-Refused.cause e old)

pub returns-in-Refused-clause-others : goal.returns-in-Refused-clause-others
returns-in-Refused-clause-others g c =
    let b = c.args.bytes.now in
    fill_keeps c.args.level c.args.entry b.bytes (filled_by b.run) (length b.bytes) c.in_ok-how.how (g.H.Hold.rooms c.args.hold.now) (g.H.Hold.rooms c.fill.new.self) c.in_ok-how.ensures.fills

pub returns-in-Refused-clause-moves : goal.returns-in-Refused-clause-moves
returns-in-Refused-clause-moves g c n r =
    let l = c.args.level in
    let b = c.args.bytes.now in
    subst (λ (x : What). g.H.Hold.moves c.args.hold.now (asker c.args.since n r) x c.fill.new.self)
    (ap (λ (how : Filling). Filled l b.key b.bytes b.run (filled_of how)) c.in-Refused.is
    ∙ ap (λ key. Filled l key b.bytes b.run (Refused c.in-Refused.cause)) (sym c.in_ok-key.ensures)
    ∙ ap (λ copy. Filled l c.in_ok-key.key copy b.run (Refused c.in-Refused.cause)) (sym c.in_ok-copy.ensures))
    (c.in_ok-how.ensures.moves n r)
