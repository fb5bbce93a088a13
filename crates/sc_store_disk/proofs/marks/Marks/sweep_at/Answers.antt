use Rattle.std.proofs.Common.{refl, sym, ◌∙◌, subst}
use Rattle.sc_store_disk.specs.Marks.{Marks, Sweeps}
use Rattle.sc_store_disk.specs.contracts.marks.Marks as marks
use Rattle.sc_store_disk.proofs.Marking.{of_key, sweeps_one}
use Rattle.sc_store_disk.proofs.marks.Marks.sweep_at.Goals as goal

pub returns : goal.returns
returns g c =
    let after = marks.the_view (record { files = c.swap_remove_index-gone.new.self; entries = c.self.inside.entries }) in
    subst (λ (m : Marks). Sweeps c.args.cache.now.store.index c.args.keep.now m after) c.self.view_is
    (sweeps_one c.args.cache.now.store.index c.args.keep.now c.in-Some.path.now (marks.the_view c.self.inside) after (sym c.contains.ensures ∙ c.if-contains.false) (sym c.eq.ensures ∙ c.if-eq.false) refl
    (of_key _ c.swap_remove_index-gone.result c.in-Some.path.now (c.swap_remove_index-gone.ensures.key ∙ sym c.in-Some.ensures.key) c.swap_remove_index-gone.ensures.updates).0)
