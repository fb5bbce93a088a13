-- What a list is seen as, of which one value may stand beside the cells.
use Rattle.std.specs.Prelude.{◌≡◌, ℕ, ◌<◌, List, [], ◌∷◌, length, map, slice_set, Option, Some, None, OnSome}
use Rattle.sc_daemon_ranked.specs.declared.list.RankedList.TheInside.{Inside}
use Rattle.sc_daemon_ranked.specs.Trees.{items, IsCounted}

-- the values of the cells that have one
abbrev pub present : {X : Type 0} → List (Option X) → List X
present [] = []
present (None ∷ cells) = present cells
present (Some x ∷ cells) = x ∷ present cells

-- the cells with what stands beside them back in its place
abbrev pub filled : {X : Type 0} → List (Option X) → ℕ → Option X → List (Option X)
filled cells place None = cells
filled cells place (Some x) = slice_set cells place (Some x)

-- each cell has a value
abbrev pub IsFull : {X : Type 0} → List (Option X) → Type 0
IsFull cells = map Some (present cells) ≡ cells

-- the values in order
abbrev pub shown : {X : Type 0} → Inside X → List X
shown l = present (filled (items l.cells) l.place l.out)

-- the cells are counted, and only the one whose value stands beside them has none
pub record IsRanked {X : Type 0} (l : Inside X) : Type 0 where
  pub counted : IsCounted l.cells
  pub within : OnSome l.out (l.place < length (items l.cells))
  pub full : IsFull (filled (items l.cells) l.place l.out)
