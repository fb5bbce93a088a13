use Rattle.std.proofs.Common.{refl, subst}
use Rattle.sc_store_disk.specs.Marks.{Forgets, Marks}
use Rattle.sc_store_disk.specs.contracts.marks.Marks as marks
use Rattle.sc_store_disk.proofs.Marking.{apart_test}
use Rattle.sc_store_disk.proofs.marks.Marks.forget.Goals as goal

pub returns : goal.returns
returns c = subst (λ (m : Marks). Forgets c.args.number m (marks.the_view (record { files = c.self.inside.files; entries = c.swap_remove-was.new.self }))) c.self.view_is (record {
  files = λ q. refl;
  none = c.swap_remove-was.ensures.updates.1;
  others = λ m apart. c.swap_remove-was.ensures.updates.2 m (apart_test c.args.number m apart);
})
