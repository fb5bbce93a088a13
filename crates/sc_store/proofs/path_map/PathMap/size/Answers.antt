use Rattle.std.proofs.Common.{◌≡◌, ℕ, ◌+◌, ◌-◌, ◌^◌, List, ◌++◌, ◌∷◌, [], length, map, min, Bor, ap, sym, ◌∙◌, rules}
use Rattle.std.proofs.lemmas.Map.Iter.{iter_end}
use Rattle.std.proofs.lemmas.List.{map-append}
use Rattle.std.specs.FinMap.{entries}
use Rattle.std.specs.Map.Iter.{deref_pair}
use Rattle.sc_model.specs.Levels.{sum_lengths}
use Rattle.sc_store.proofs.PathMaps.{entries_of_files, stopped_more, sum_lengths-push}
use Rattle.sc_store.proofs.path_map.PathMap.size.Goals as goal

one_more : (ys : List (Bor (List ℕ) × Bor (List ℕ))) (y : Bor (List ℕ) × Bor (List ℕ)) → sum_lengths (map deref_pair (ys ++ y ∷ [])) ≡ sum_lengths (map deref_pair ys) + length (y.1.now)
one_more ys y = ap sum_lengths (map-append deref_pair ys (y ∷ [])) ∙ sum_lengths-push (map deref_pair ys) (deref_pair y)

pub loop-bytes-preserved : goal.loop-bytes-preserved
loop-bytes-preserved c =
    c.saturating_add-size.ensures ∙ ap (λ n. min (c.loop-bytes.size + n) (2 ^ 64 - 1)) c.len.ensures
    ∙ stopped_more c.loop-bytes.size (sum_lengths (map deref_pair c.loop-bytes.yielded)) (length c.in-Some.bytes.now) _ c.loop-bytes.invariant
    (one_more c.loop-bytes.yielded (c.in-Some.field-0-0, c.in-Some.bytes))

pub returns : goal.returns
returns c =
    let es : List (List ℕ × List ℕ) = c.self.inside.by_path.entries in
    let same : entries c.args.self.now ≡ es = ap entries (sym c.self.view_is) ∙ entries_of_files es c.iter-bytes-items.ensures.ordered in
    let start : c.into_iter-bytes-iterator.result ≡ es = search rules in
    let all = iter_end deref_pair es c.loop-bytes.yielded _ _ _ _ start c.loop-bytes.yielded_by c.in-None.is c.next.ensures.steps in
    c.loop-bytes.invariant ∙ ap (λ xs. min (sum_lengths xs) (2 ^ 64 - 1)) (all.0 ∙ sym same)
