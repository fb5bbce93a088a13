use Rattle.std.proofs.Common.{Some, refl, sym, ap, ◌∙◌, subst}
use Rattle.sc_store_disk.specs.Marks.{Fills, Marks, after_fill, fills_of}
use Rattle.sc_store_disk.specs.contracts.marks.Marks as marks
use Rattle.sc_store_disk.proofs.Marking.{apart_test}
use Rattle.sc_store_disk.proofs.marks.Marks.fill.Goals as goal

pub returns-clause-filled : goal.returns-clause-filled
returns-clause-filled c = subst (λ (m : Marks). Fills c.args.number c.args.from_run m (marks.the_view (record { files = c.self.inside.files; entries = c.insert.new.self }))) c.self.view_is (record {
  files = λ q. refl;
  filled = c.in-Ok.ensures.updates.1 ∙ ap Some (c.after_fill-marked.ensures ∙ ap (λ b. after_fill b c.args.from_run) (c.fills-before.ensures ∙ ap (λ (m : Marks). fills_of m c.args.number) (sym c.self.view_is)));
  others = λ m apart. c.in-Ok.ensures.updates.2 m (apart_test c.args.number m apart);
})
