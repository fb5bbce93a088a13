-- What a tree holds.
use Rattle.std.specs.Prelude.{◌≡◌, List, [], ◌∷◌, ◌++◌, length}
use Rattle.sc_daemon_ranked.specs.declared.tree.Tree.{Tree}
use Rattle.sc_daemon_ranked.specs.declared.tree.Tree.TheVariants.{Empty, Leaf, Join'}

-- the values in order
abbrev pub items : {X : Type 0} → Tree X → List X
items Empty = []
items (Leaf x) = x ∷ []
items (Join' count rank full p left q right) = items left ++ items right

-- each join counts its values
abbrev pub IsCounted : {X : Type 0} → Tree X → Type 0
IsCounted Empty = Unit {0}
IsCounted (Leaf x) = Unit {0}
IsCounted (Join' count rank full p left q right) =
    (count ≡ length (items left ++ items right)) × IsCounted left × IsCounted right
