use Rattle.std.proofs.Common.{◌∙◌, ◌<◌, arith, length, refl}
use Rattle.std.specs.Option.{ghost_name_of}
use Rattle.sc_daemon_ranked.specs.Trees.{items}
use Rattle.sc_daemon_ranked.proofs.Cells.{is_there}
use Rattle.sc_daemon_ranked.proofs.Ranked.{after_lend, after_take, back_value, length-shown}
use Rattle.sc_daemon_ranked.proofs.list.RankedList.get_mut.Goals as goal
use borrow.Follows.Closed.{read_of}

pub invariant_of-self-lent : goal.invariant_of-self-lent
invariant_of-self-lent g c =
    let within : c.args.place < length (items c.self.inside.cells) = omega (arith, c.len.ensures, c.if-place-len.false) in
    λ _. (
      λ w. (after_lend c.self.inside _ _ c.self.invariant c.take.ensures.value c.put_back.ensures.items _ c.replace.ensures.counted within c.replace.ensures.items w refl).0,
      (after_take c.self.inside _ _ c.self.invariant c.take.ensures.value c.put_back.ensures.items _ c.replace.ensures.counted within c.replace.ensures.items c.replace.ensures.replaced).0,
    )

pub returns : goal.returns
returns g c =
    let within : c.args.place < length (items c.self.inside.cells) = omega (arith, c.len.ensures, c.if-place-len.false) in
    let value = back_value c.self.inside _ _ c.self.invariant c.take.ensures.value c.put_back.ensures.items c.args.place _ c.replace.ensures.replaced in
    let long = length-shown c.self.inside c.self.invariant in
    let there = is_there _ c.args.place (rw long within) _ value in
    rw (← c.self.view_is) (
      λ i. read_of (ghost_name_of c.as_mut.result)
          (λ w. (after_lend c.self.inside _ _ c.self.invariant c.take.ensures.value c.put_back.ensures.items _ c.replace.ensures.counted within c.replace.ensures.items w refl).1 i)
          ((after_take c.self.inside _ _ c.self.invariant c.take.ensures.value c.put_back.ensures.items _ c.replace.ensures.counted within c.replace.ensures.items c.replace.ensures.replaced).1 i),
      record {
        writes_back = tt;
        value = c.as_mut.ensures.value ∙ value;
        variant = (λ _. rw long within, λ _. c.as_mut.ensures.variant ∙ there);
      },
    )
