use Rattle.std.proofs.Common.{◌∙◌, ◌<◌, ap, arith, length, slice_get}
use Rattle.sc_daemon_ranked.proofs.Cells.{if_none, is_there, on_some}
use Rattle.sc_daemon_ranked.proofs.Ranked.{after_remove, back_value, length-shown}
use Rattle.sc_daemon_ranked.proofs.list.RankedList.remove.Goals as goal

pub invariant_of-self : goal.invariant_of-self
invariant_of-self g c =
    (after_remove c.self.inside _ _ c.self.invariant c.take.ensures.value c.put_back.ensures.items _ c.remove.ensures.counted c.args.place c.take.ensures.after c.remove.ensures.items).0

pub returns-clause-value : goal.returns-clause-value
returns-clause-value g c =
    back_value c.self.inside _ _ c.self.invariant c.take.ensures.value c.put_back.ensures.items c.args.place _ c.remove.ensures.removed
    ∙ ap (λ xs. slice_get xs c.args.place) c.self.view_is

pub returns-clause-variant : goal.returns-clause-variant
returns-clause-variant g c =
    let long = length-shown c.self.inside c.self.invariant in
    let within : c.args.place < length c.args.self.now = rw (← c.self.view_is) (omega (arith, long, c.len.ensures, c.if-place-len.false)) in
    (λ _. within, λ _. is_there _ _ within _ (returns-clause-value g c))

pub returns-clause-some : goal.returns-clause-some
returns-clause-some g c =
    rw (← c.self.view_is) (on_some _ (after_remove c.self.inside _ _ c.self.invariant c.take.ensures.value c.put_back.ensures.items _ c.remove.ensures.counted c.args.place c.take.ensures.after c.remove.ensures.items).1)

pub returns-clause-none : goal.returns-clause-none
returns-clause-none g c =
    let long = length-shown c.self.inside c.self.invariant in
    if_none _ _ ((returns-clause-variant g c).1 (rw (← c.self.view_is) (omega (arith, long, c.len.ensures, c.if-place-len.false))))
