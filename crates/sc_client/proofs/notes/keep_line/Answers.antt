use Rattle.std.proofs.Common.{List, ℕ, ap, sym, ◌∙◌}
use Rattle.sc_client.specs.Notes.{is_among, without}
use Rattle.sc_client.proofs.Noting.{kept_stays}
use Rattle.sc_client.proofs.notes.keep_line.Goals as goal

pub returns : goal.returns
returns c =
    let line = c.args.line.now in
    let notes = c.args.notes.now.items in
    kept_stays c.args.kept.now c.append.new.self line notes c.take_note.new.notes.items c.in_ok-append.ensures.ok
    (ap (λ (bs : List ℕ). is_among bs notes) (sym c.bare.ensures) ∙ sym c.take_note.ensures.taken ∙ c.if-take_note.false)
    (c.take_note.ensures.left ∙ ap (λ (bs : List ℕ). without bs notes) c.bare.ensures)
