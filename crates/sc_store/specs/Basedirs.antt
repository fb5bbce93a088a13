-- The base directories of several stores.
use Rattle.std.specs.Prelude.{◌≡◌, ℕ, Bool, false, ◌||◌, if◌then◌else◌, List, [], ◌∷◌, ◌++◌}
use Rattle.std.specs.Borrow.{Bor}
use Rattle.std.specs.BTreeSet.{BTreeSet, contains_by}
use Rattle.std.specs.Cmp.Lexicographic.{slice_cmp}
use Rattle.std.specs.Ordering.{nat_cmp}
use Rattle.std.specs.Str.{bytes_eq}
use Rattle.sc_model.specs.declared.level.Policy.{Policy}
use Rattle.sc_model.specs.declared.level.Policy.TheVariants.{Levels, Single}
use Rattle.sc_store.specs.Held.{Title}

abbrev pub is_among : List ℕ → List (List ℕ) → Bool
is_among dir [] = false
is_among dir (d ∷ ds) = bytes_eq d dir || is_among dir ds

-- a set has exactly these directories
abbrev pub IsSetOf : BTreeSet (Bor (List ℕ)) → List (List ℕ) → Type 0
IsSetOf named dirs = (dir : Bor (List ℕ)) → contains_by (λ d. slice_cmp nat_cmp dir.now d.now) named ≡ is_among dir.now dirs

-- directories added in their order, each once
abbrev pub collect : List (List ℕ) → List (List ℕ) → List (List ℕ)
collect seen [] = seen
collect seen (d ∷ ds) = collect (if is_among d seen then seen else seen ++ d ∷ []) ds

abbrev pub collect_all : List (List ℕ) → List Title → List (List ℕ)
collect_all seen [] = seen
collect_all seen (t ∷ ts) = collect_all (collect seen t.given.basedirs) ts

-- those of all these stores, in the order in which they first appear
abbrev pub basedirs_of : List Title → List (List ℕ)
basedirs_of titles = collect_all [] titles

abbrev pub first_basedirs : List Title → List (List ℕ)
first_basedirs [] = []
first_basedirs (t ∷ ts) = t.given.basedirs

-- A store that stands alone has those that it was given, levels those of all.
abbrev pub store_basedirs : Policy → List Title → List (List ℕ)
store_basedirs Single ts = first_basedirs ts
store_basedirs (Levels ps) ts = basedirs_of ts

-- the flag of the first level
abbrev pub first_flag : List Title → Bool
first_flag [] = false
first_flag (t ∷ ts) = t.given.flag
