-- What a move to the end makes of the pairs.
use Rattle.std.proofs.Common.{◌≡◌, ℕ, ◌-◌, Bool, List, [], ◌∷◌, ◌++◌, length, remove, slice_get, position, Some, sym, ap, ◌∙◌}
use Rattle.std.specs.Map.{keys_of}
use Rattle.indexmap.specs.IndexMap.{move_index}
use Rattle.indexmap.proofs.RemoveLemmas.{moved_last}
use Rattle.sc_lru.specs.Order.{touched}
use Rattle.sc_lru.proofs.Cut.{cut_position, hit, slice_get-cut, remove-cut}

pub touched_from_move : {K V : Type 0} (test : K → Bool) (es fs : List (K × V)) (i n : ℕ) → Some i ≡ position test (keys_of es) → n ≡ length es → fs ≡ move_index es i (n - 1) → fs ≡ touched test es
touched_from_move test es fs i n p long moved =
    let cut = cut_position test es i (sym p) in let xs = cut.0 in let e = cut.1 in let ys = cut.2 in let c = cut.3 in
    let at : slice_get es i ≡ Some e = (λ j. slice_get (c.parts j) (sym cut.4 j)) ∙ slice_get-cut xs e ys in
    let gone : remove es i ≡ xs ++ ys = (λ j. remove (c.parts j) (sym cut.4 j)) ∙ remove-cut xs e ys in
    moved ∙ ap (λ m. move_index es i (m - 1)) long ∙ moved_last es i e at ∙ ap (λ l. l ++ e ∷ []) gone ∙ sym (hit test es xs e ys c).last
