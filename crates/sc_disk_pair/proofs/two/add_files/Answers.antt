use Rattle.std.proofs.Common.{◌≡◌, ℕ, List, ◌∷◌, [], ◌++◌, sym, ap, ◌∙◌, append_assoc}
use Rattle.std.specs.Vec.Iter.{into_iter_items}
use Rattle.sc_disk.specs.declared.disk.Listed.{Listed}
use Rattle.sc_disk_pair.specs.Parts.{all_in, listed_in}
use Rattle.sc_disk_pair.proofs.two.add_files.Goals as goal

pub loop-file-preserved : goal.loop-file-preserved
loop-file-preserved c = let x = c.in-Some.file in let rest = into_iter_items c.next.new.self in let xs = c.loop-file.all.items in let part = c.args.part in
    let pop : into_iter_items c.loop-file.file-iterator ≡ x ∷ rest = c.in-Some.ensures.steps.0 in
    let named : List ℕ → Listed = λ q. record { moment = x.moment; path = q; size = x.size } in
    let put : c.push.new.self.items ≡ xs ++ listed_in part x ∷ [] = c.in_ok-push.ensures.items ∙ ap (λ q. xs ++ named q ∷ []) c.in_ok-path.ensures in
    ap (λ l. l ++ all_in part rest) put ∙ append_assoc xs (listed_in part x ∷ []) (all_in part rest) ∙ ap (λ l. xs ++ all_in part l) (sym pop) ∙ c.loop-file.invariant
