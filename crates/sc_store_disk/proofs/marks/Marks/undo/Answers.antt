use Rattle.std.proofs.Common.{ap, ◌∙◌}
use Rattle.sc_store_disk.specs.Marks.{Marks, fills_of}
use Rattle.sc_store_disk.proofs.Marking.{apart_test}
use Rattle.sc_store_disk.proofs.marks.Marks.undo.Goals as goal

pub returns-then-added-clause-entries : goal.returns-then-added-clause-entries
returns-then-added-clause-entries c = λ m apart. c.swap_remove-was.ensures.updates.2 m (apart_test c.args.number m apart) ∙ ap (λ (x : Marks). fills_of x m) c.self.view_is

pub returns-else-added-clause-entries : goal.returns-else-added-clause-entries
returns-else-added-clause-entries c = λ m apart. c.swap_remove-was.ensures.updates.2 m (apart_test c.args.number m apart) ∙ ap (λ (x : Marks). fills_of x m) c.self.view_is
