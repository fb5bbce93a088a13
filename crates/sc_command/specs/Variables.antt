-- Variables of an environment.
use Rattle.std.specs.Prelude.{◌≡◌, ℕ, List, map, fold, take, bytes_eq}
use Rattle.std.specs.Global.{Vec}
use Rattle.indexmap.specs.IndexMap.{insert_entry}

-- names with their values, in order
abbrev pub Named : Type 0
Named = List (List ℕ × List ℕ)

-- the same with names as they are kept
abbrev pub named : List (Vec ℕ × List ℕ) → Named
named es = map (λ e. (e.0.items, e.1)) es

-- a variable set: a name that is there keeps its place, another goes last
abbrev pub set_variable : Named → List ℕ → List ℕ → Named
set_variable vars name value = insert_entry bytes_eq vars name value

-- variables set one after the other
abbrev pub set_variables : Named → Named → Named
set_variables vars more = fold (λ all p. set_variable all p.0 p.1) vars more

-- the first of some variables were set, maybe none or all
abbrev pub SetsFirstOf : Named → Named → Named → Type 0
SetsFirstOf more old new = (n : ℕ) × (new ≡ set_variables old (take n more))
