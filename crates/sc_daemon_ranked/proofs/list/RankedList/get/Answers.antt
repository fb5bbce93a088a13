use Rattle.std.proofs.Common.{◌∙◌, ◌<◌, ap, arith, is_some, length, slice_get, sym}
use Rattle.sc_daemon_ranked.proofs.Ranked.{length-shown, shown_cell, shown_out}
use Rattle.sc_daemon_ranked.proofs.Cells.{is_there}
use Rattle.sc_daemon_ranked.proofs.list.RankedList.get.Goals as goal
use Rattle.sc_daemon_ranked.proofs.list.RankedList.get.Goals.{else-place-self-via-then-place-self+else-is_some, else-place-self-via-else-place-self}

pub returns-then-is_some-clause-value : goal.returns-then-is_some-clause-value
returns-then-is_some-clause-value g c =
    c.as_ref.ensures.value
    ∙ (shown_out c.self.inside c.self.invariant (sym c.is_some.ensures ∙ c.if-is_some.true)
    ∙ (ap (λ xs. slice_get xs c.self.inside.place) c.self.view_is ∙ sym (ap (λ k. slice_get c.args.self.now k) c.if-place-self.true)))

pub returns-clause-value : goal.returns-clause-value
returns-clause-value g c =
    c.as_ref-2.ensures.value
    ∙ (shown_cell c.self.inside c.self.invariant c.args.place (elim c.else-place-self.branch [
      | else-place-self-via-then-place-self+else-is_some w ↦ λ some here. absurd (cc (w.is_some.ensures, w.if-is_some.false))
      | else-place-self-via-else-place-self w ↦ λ some here. w.if-place-self.false here
    ]) _ c.get.ensures
    ∙ ap (λ xs. slice_get xs c.args.place) c.self.view_is)

pub returns-clause-variant : goal.returns-clause-variant
returns-clause-variant g c =
    let long = length-shown c.self.inside c.self.invariant in
    let within : c.args.place < length c.args.self.now = rw (← c.self.view_is) (omega (arith, long, c.len.ensures, c.if-place-len.false)) in
    let there = is_there _ _ within _ (returns-clause-value g c) in
    (λ _. within, λ _. c.as_ref-2.ensures.variant ∙ (sym (ap is_some c.as_ref-2.ensures.value) ∙ there))
