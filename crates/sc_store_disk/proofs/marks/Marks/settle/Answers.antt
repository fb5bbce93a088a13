use Rattle.std.proofs.Common.{◌≡◌, true, refl, sym, ap, ◌∙◌, subst}
use Rattle.sc_store_disk.specs.Marks.{Marks, Settles, fills_of, is_marked, mark_of}
use Rattle.sc_store_disk.specs.contracts.marks.Marks as marks
use Rattle.sc_store_disk.proofs.Marking.{apart_test}
use Rattle.sc_store_disk.proofs.marks.Marks.settle.Goals as goal

pub returns-then-not-marked : goal.returns-then-not-marked
returns-then-not-marked c = subst (λ (m : Marks). Settles c.args.path.now c.args.number m (marks.the_view (record { files = c.swap_remove-was-then-not-marked.new.self; entries = c.swap_remove-was.new.self }))) c.self.view_is (record {
  marked = c.swap_remove-was-then-not-marked.ensures.updates.1 ∙ sym c.if-not-marked.true ∙ c.mark_of-marked.ensures ∙ ap mark_of (c.fills.ensures ∙ ap (λ (m : Marks). fills_of m c.args.number) (sym c.self.view_is));
  files = λ q apart. c.swap_remove-was-then-not-marked.ensures.updates.2 q apart;
  none = c.swap_remove-was.ensures.updates.1;
  others = λ m apart. c.swap_remove-was.ensures.updates.2 m (apart_test c.args.number m apart);
})

pub returns-else-not-marked : goal.returns-else-not-marked
returns-else-not-marked c =
    let is : mark_of (fills_of c.args.self.now c.args.number) ≡ true = sym (ap mark_of c.fills.ensures) ∙ sym c.mark_of-marked.ensures ∙ c.if-not-marked.false in
    subst (λ (m : Marks). Settles c.args.path.now c.args.number m (marks.the_view (record { files = c.self.inside.files; entries = c.swap_remove-was.new.self }))) c.self.view_is (record {
      marked = ap (λ (m : Marks). is_marked m c.args.path.now) c.self.view_is ∙ c.requires is ∙ sym is ∙ ap (λ (m : Marks). mark_of (fills_of m c.args.number)) (sym c.self.view_is);
      files = λ q apart. refl;
      none = c.swap_remove-was.ensures.updates.1;
      others = λ m apart. c.swap_remove-was.ensures.updates.2 m (apart_test c.args.number m apart);
    })
