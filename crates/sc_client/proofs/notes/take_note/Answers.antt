use Rattle.std.proofs.Common.{ap, arith, ◌∙◌}
use Rattle.sc_client.specs.Notes.{place_among}
use Rattle.sc_client.proofs.Noting.{line_stays, line_taken}
use Rattle.sc_client.proofs.notes.take_note.Goals as goal

pub returns-then-place-len-clause-taken : goal.returns-then-place-len-clause-taken
returns-then-place-len-clause-taken c =
    let line = c.args.line.now in
    let notes = c.args.notes.now.items in
    (line_taken c.place_of-place.result line notes (c.place_of-place.ensures.value ∙ ap (place_among line) c.as_slice.ensures.value) (omega arith)).0

pub returns-then-place-len-clause-left : goal.returns-then-place-len-clause-left
returns-then-place-len-clause-left c =
    let line = c.args.line.now in
    let notes = c.args.notes.now.items in
    c.remove.ensures.items ∙ (line_taken c.place_of-place.result line notes (c.place_of-place.ensures.value ∙ ap (place_among line) c.as_slice.ensures.value) (omega arith)).1

pub returns-clause-taken : goal.returns-clause-taken
returns-clause-taken c =
    let line = c.args.line.now in
    let notes = c.args.notes.now.items in
    (line_stays c.place_of-place.result line notes (c.place_of-place.ensures.value ∙ ap (place_among line) c.as_slice.ensures.value) (omega arith)).0

pub returns-clause-left : goal.returns-clause-left
returns-clause-left c =
    let line = c.args.line.now in
    let notes = c.args.notes.now.items in
    (line_stays c.place_of-place.result line notes (c.place_of-place.ensures.value ∙ ap (place_among line) c.as_slice.ensures.value) (omega arith)).1
