-- Lists of cells that all have a value.
use Rattle.std.proofs.Common.{◌≡◌, ◌≢◌, ◌∙◌, ℕ, ◌<◌, List, [], ◌∷◌, ◌++◌, length, map, slice_get, slice_set, take, drop, Option, Some, None, OnSome, IfNone, IsSome, is_some, true, arith, ap, refl, sym, zero, suc}
use Rattle.std.specs.List.{remove}
use Rattle.std.specs.Option.{option_map}
use Rattle.std.proofs.lemmas.List.{length-map, length-set, map-append, map-set, set-set, take-map, drop-map}
use Rattle.std.proofs.lemmas.Option.{slice_get-map}
use Rattle.sc_daemon_ranked.specs.Shown.{filled, present, IsFull}

module _ {X : Type 0} where
  present-map : (xs : List X) → present (map Some xs) ≡ xs
  present-map [] = refl
  present-map (x ∷ xs) = ap (λ ys. x ∷ ys) (present-map xs)

  -- cells that are these values are full, and show them
  pub full_of : (cells : List (Option X)) (xs : List X) → cells ≡ map Some xs → IsFull cells × (present cells ≡ xs)
  full_of cells xs e =
      let same = ap present e ∙ present-map xs in
      (ap (map Some) same ∙ sym e, same)

  -- a value goes to the end
  pub appended : (cells : List (Option X)) (x : X) → IsFull cells → cells ++ Some x ∷ [] ≡ map Some (present cells ++ x ∷ [])
  appended cells x full = ap (λ cs. cs ++ Some x ∷ []) (sym full) ∙ sym (map-append Some (present cells) (x ∷ []))

  -- a cell goes
  pub removed : (cells : List (Option X)) (i : ℕ) → IsFull cells → remove cells i ≡ map Some (remove (present cells) i)
  removed cells i full =
      let vs = present cells in
      ap (λ cs. remove cs i) (sym full)
      ∙ (ap (λ cs. cs ++ drop (suc i) (map Some vs)) (take-map Some i vs)
      ∙ (ap (λ cs. map Some (take i vs) ++ cs) (drop-map Some (suc i) vs)
      ∙ sym (map-append Some (take i vs) (drop (suc i) vs))))

  -- a cell is emptied, and another value put there
  pub refilled : (cells : List (Option X)) (i : ℕ) (x : X) → IsFull cells → slice_set (slice_set cells i None) i (Some x) ≡ map Some (slice_set (present cells) i x)
  refilled cells i x full =
      set-set cells i None (Some x) ∙ (ap (λ cs. slice_set cs i (Some x)) (sym full) ∙ sym (map-set Some (present cells) i x))

  unsome : (o : Option X) (r : Option X) → option_map Some o ≡ Some r → r ≡ o
  unsome None r e = absurd (cc)
  unsome (Some x) r e = cc

  -- what a cell has is the value at its place
  pub cell_value : (cells : List (Option X)) (i : ℕ) (r : Option X) → IsFull cells → slice_get cells i ≡ Some r → r ≡ slice_get (present cells) i
  cell_value cells i r full e =
      unsome (slice_get (present cells) i) r (sym (slice_get-map Some (present cells) i) ∙ (ap (λ cs. slice_get cs i) full ∙ e))

  -- there are as many values as cells
  pub length-present : (cells : List (Option X)) → IsFull cells → length (present cells) ≡ length cells
  length-present cells full = sym (length-map (present cells) Some) ∙ ap length full

  pub length-filled : (cells : List (Option X)) (i : ℕ) (out : Option X) → length (filled cells i out) ≡ length cells
  length-filled cells i None = refl
  length-filled cells i (Some x) = length-set cells i (Some x)

  slice_get-set_same : (cells : List (Option X)) (i : ℕ) (r : Option X) → i < length cells → slice_get (slice_set cells i r) i ≡ Some r
  slice_get-set_same [] i r h = absurd (omega arith)
  slice_get-set_same (c ∷ cells) zero r h = refl
  slice_get-set_same (c ∷ cells) (suc i) r h = slice_get-set_same cells i r (omega arith)

  slice_get-set_other : (cells : List (Option X)) (i k : ℕ) (r : Option X) → k ≢ i → slice_get (slice_set cells i r) k ≡ slice_get cells k
  slice_get-set_other [] i k r h = refl
  slice_get-set_other (c ∷ cells) zero zero r h = absurd (h refl)
  slice_get-set_other (c ∷ cells) zero (suc k) r h = refl
  slice_get-set_other (c ∷ cells) (suc i) zero r h = refl
  slice_get-set_other (c ∷ cells) (suc i) (suc k) r h = slice_get-set_other cells i k r (λ e. h (ap suc e))

  -- what stands beside the cells is the value at its place
  pub out_value : (cells : List (Option X)) (place : ℕ) (out : Option X) → OnSome out (place < length cells) → IsFull (filled cells place out) → is_some out ≡ true → out ≡ slice_get (present (filled cells place out)) place
  out_value cells place None within full some = absurd (cc)
  out_value cells place (Some x) within full some = cell_value (slice_set cells place (Some x)) place (Some x) full (slice_get-set_same cells place (Some x) within)

  -- what another cell has is the value at its place
  pub other_value : (cells : List (Option X)) (place : ℕ) (out : Option X) → IsFull (filled cells place out) → (k : ℕ) → (is_some out ≡ true → k ≢ place) → (r : Option X) → slice_get cells k ≡ Some r → r ≡ slice_get (present (filled cells place out)) k
  other_value cells place None full k other r e = cell_value cells k r full e
  other_value cells place (Some x) full k other r e = cell_value (slice_set cells place (Some x)) k r full (slice_get-set_other cells place k (Some x) (other refl) ∙ e)

  -- a place within has a value, which changes nothing where it is put there again
  pub at_place : (xs : List X) (i : ℕ) → i < length xs → (x : X) × (slice_get xs i ≡ Some x) × (slice_set xs i x ≡ xs)
  at_place [] i h = absurd (omega arith)
  at_place (x ∷ xs) zero h = (x, refl, refl)
  at_place (x ∷ xs) (suc i) h = let r = at_place xs i (omega arith) in (r.0, r.1, ap (λ ys. x ∷ ys) r.2)

  -- what is read at a place within is there
  pub is_there : (xs : List X) (i : ℕ) → i < length xs → (r : Option X) → r ≡ slice_get xs i → IsSome r
  is_there xs i h r e = ap is_some (e ∙ (at_place xs i h).1)

-- a fact that always holds, and one for want of a value that is there
pub on_some : {A P : Type 0} → (o : Option A) → P → OnSome o P
on_some None p = tt
on_some (Some x) p = p

pub if_none : {A : Type 0} → (P : Type 0) (o : Option A) → IsSome o → IfNone o P
if_none P None some = absurd (cc)
if_none P (Some x) some = tt
