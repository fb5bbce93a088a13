-- What a list is seen as after a change of its cells.
use Rattle.std.proofs.Common.{◌≡◌, ◌≢◌, ◌∙◌, ℕ, ◌<◌, ◌++◌, ◌∷◌, [], List, length, map, slice_get, slice_set, Option, Some, None, OnSome, IsSome, ap, sym, subst}
use Rattle.std.specs.List.{remove}
use Rattle.std.proofs.lemmas.List.{length-set}
use Rattle.sc_daemon_ranked.specs.declared.list.RankedList.TheInside.{Inside}
use Rattle.sc_daemon_ranked.specs.Trees.{items, IsCounted}
use Rattle.sc_daemon_ranked.specs.Shown.{filled, present, shown, IsFull, IsRanked}
use Rattle.sc_daemon_ranked.proofs.Cells.{appended, at_place, cell_value, full_of, length-filled, length-present, other_value, out_value, refilled, removed}

module _ {X : Type 0} where
  -- there are as many values as cells
  pub length-shown : (l : Inside X) → IsRanked l → length (shown l) ≡ length (items l.cells)
  length-shown l ranked = length-present (filled (items l.cells) l.place l.out) ranked.full ∙ length-filled (items l.cells) l.place l.out

  -- the value beside the cells, and that of another cell
  pub shown_out : (l : Inside X) → IsRanked l → IsSome l.out → l.out ≡ slice_get (shown l) l.place
  shown_out l ranked = out_value (items l.cells) l.place l.out ranked.within ranked.full

  pub shown_cell : (l : Inside X) → IsRanked l → (k : ℕ) → (IsSome l.out → k ≢ l.place) → (r : Option X) → slice_get (items l.cells) k ≡ Some r → r ≡ slice_get (shown l) k
  shown_cell l ranked = other_value (items l.cells) l.place l.out ranked.full

  -- nothing stands beside cells that are these values
  settled : (l : Inside X) (xs : List X) → l.out ≡ None → IsCounted l.cells → items l.cells ≡ map Some xs → IsRanked l × (shown l ≡ xs)
  settled l xs none counted e =
      let f = full_of (filled (items l.cells) l.place l.out) xs (ap (filled (items l.cells) l.place) none ∙ e) in
      (record { counted = counted; within = subst (λ o. OnSome o (l.place < length (items l.cells))) (sym none) tt; full = f.0 }, f.1)

  -- a value stands beside the cells in which its place was emptied
  beside : (l : Inside X) (cells : List (Option X)) → IsFull cells → l.place < length cells → IsCounted l.cells → items l.cells ≡ slice_set cells l.place None → (x : X) → l.out ≡ Some x → IsRanked l × (shown l ≡ slice_set (present cells) l.place x)
  beside l cells full h counted e x some =
      let here = ap (λ o. filled (items l.cells) l.place o) some ∙ (ap (λ cs. slice_set cs l.place (Some x)) e ∙ refilled cells l.place x full) in
      let f = full_of (filled (items l.cells) l.place l.out) (slice_set (present cells) l.place x) here in
      let there : l.place < length (items l.cells) = rw e (rw (length-set cells l.place None) h) in
      (record { counted = counted; within = subst (λ o. OnSome o (l.place < length (items l.cells))) (sym some) there; full = f.0 }, f.1)

  -- all cells of a list are put back, and then changed
  module _ (l : Inside X) (out : Option X) (back : List (Option X)) (ranked : IsRanked l) (taken : out ≡ l.out) (e : back ≡ filled (items l.cells) l.place out) where
    same : back ≡ filled (items l.cells) l.place l.out
    same = e ∙ ap (filled (items l.cells) l.place) taken

    -- the value of a cell
    pub back_value : (k : ℕ) (r : Option X) → slice_get back k ≡ Some r → r ≡ slice_get (shown l) k
    back_value k r read = cell_value (filled (items l.cells) l.place l.out) k r ranked.full (ap (λ cs. slice_get cs k) (sym same) ∙ read)

    module _ (m : Inside X) (counted : IsCounted m.cells) where
      -- one more at the end
      pub after_push : (x : X) (leaf : List (Option X)) → leaf ≡ Some x ∷ [] → m.out ≡ None → items m.cells ≡ back ++ leaf → IsRanked m × (shown m ≡ shown l ++ x ∷ [])
      after_push x leaf one none new =
          settled m (shown l ++ x ∷ []) none counted (new ∙ (ap (λ cs. cs ++ leaf) same ∙ (ap (λ cs. filled (items l.cells) l.place l.out ++ cs) one ∙ appended (filled (items l.cells) l.place l.out) x ranked.full)))

      -- one goes
      pub after_remove : (k : ℕ) → m.out ≡ None → items m.cells ≡ remove back k → IsRanked m × (shown m ≡ remove (shown l) k)
      after_remove k none new =
          settled m (remove (shown l) k) none counted (new ∙ (ap (λ cs. remove cs k) same ∙ removed (filled (items l.cells) l.place l.out) k ranked.full))

      module _ (h : m.place < length (items l.cells)) (new : items m.cells ≡ slice_set back m.place None) where
        -- a value stands beside the cells, in place of the one that was there
        pub after_lend : (x : X) → m.out ≡ Some x → IsRanked m × (shown m ≡ slice_set (shown l) m.place x)
        after_lend x some =
            let there : m.place < length (filled (items l.cells) l.place l.out) = rw (length-filled (items l.cells) l.place l.out) h in
            beside m (filled (items l.cells) l.place l.out) ranked.full there counted (new ∙ ap (λ cs. slice_set cs m.place None) same) x some

        -- the same where it is that one
        pub after_take : slice_get back m.place ≡ Some m.out → IsRanked m × (shown m ≡ shown l)
        after_take read =
            let own = at_place (shown l) m.place (rw (length-shown l ranked) h) in
            let r = after_lend own.0 (back_value m.place m.out read ∙ own.1) in
            (r.0, r.1 ∙ own.2)
