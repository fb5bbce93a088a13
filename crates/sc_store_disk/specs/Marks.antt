-- Which files of a store a local run made, as far as the store was told. Marks are kept in memory alone: when a store is opened
-- there are none.
use Rattle.std.specs.Prelude.{◌≡◌, ◌≢◌, ℕ, ◌==◌, Bool, true, false, is_some, bytes_eq, List, [], Option, Some, None, refl}
use Rattle.std.specs.Coded.{Coded, code_by, coded×, coded_bool, coded_ℕ, coded_list}
use Rattle.std.specs.List.{list_any}
use Rattle.std.specs.Map.{lookup}
use Rattle.sc_store_disk.specs.Shown.{Index}

-- The marked paths, of a disk store among those of both folders, and by the number of each open entry that was filled whether
-- it is marked.
pub record Marks : Type 0 where
  pub files : List (List ℕ)
  pub entries : List (ℕ × Bool)

abbrev pub marks_code : Coded Marks
marks_code = code_by (List (List ℕ) × List (ℕ × Bool))
    (coded× (coded_list (coded_list coded_ℕ)) (coded_list (coded× coded_ℕ coded_bool)))
    (λ m. (m.files, m.entries))
    (λ p. record { files = p.0; entries = p.1 })
    (λ _. refl)

abbrev pub no_marks : Marks
no_marks = record { files = []; entries = [] }

abbrev pub is_marked : Marks → List ℕ → Bool
is_marked marks path = list_any (bytes_eq path) marks.files

-- what an open entry's fills came to, where it was filled
abbrev pub fills_of : Marks → ℕ → Option Bool
fills_of marks number = lookup (λ n. number == n) marks.entries

-- The first fill marks an entry where its flag says so. Every further one clears that mark.
abbrev pub after_fill : Option Bool → Bool → Bool
after_fill None from_run = from_run
after_fill (Some marked) from_run = false

-- what an entry's fills come to by one more
abbrev pub filled_by : Bool → Option Bool → Option Bool
filled_by from_run fills = Some (after_fill fills from_run)

abbrev pub mark_of : Option Bool → Bool
mark_of None = false
mark_of (Some marked) = marked

-- no file's mark changed
abbrev pub SameMarks : Marks → Marks → Type 0
SameMarks old new = (path : List ℕ) → is_marked new path ≡ is_marked old path

-- nothing changed of the other entries
abbrev pub OtherFills : ℕ → Marks → Marks → Type 0
OtherFills number old new = (other : ℕ) → other ≢ number → fills_of new other ≡ fills_of old other

-- A path is marked, or not, and all else stays.
pub record Sets (path : List ℕ) (mark : Bool) (old new : Marks) : Type 0 where
  pub entries : new.entries ≡ old.entries
  pub marked : is_marked new path ≡ mark
  pub others : (q : List ℕ) → bytes_eq path q ≡ false → is_marked new q ≡ is_marked old q

-- An entry is as one that wasn't filled.
pub record Forgets (number : ℕ) (old new : Marks) : Type 0 where
  pub files : SameMarks old new
  pub none : fills_of new number ≡ None
  pub others : OtherFills number old new

-- An entry was filled.
pub record Fills (number : ℕ) (from_run : Bool) (old new : Marks) : Type 0 where
  pub files : SameMarks old new
  pub filled : fills_of new number ≡ Some (after_fill (fills_of old number) from_run)
  pub others : OtherFills number old new

-- A path is marked before its entry is committed, where the entry is marked and the path isn't yet.
pub record Begins (path : List ℕ) (number : ℕ) (added : Bool) (old new : Marks) : Type 0 where
  pub entries : new.entries ≡ old.entries
  pub others : (q : List ℕ) → bytes_eq path q ≡ false → is_marked new q ≡ is_marked old q
  pub unmarked : added ≡ true → is_marked old path ≡ false
  pub same : added ≡ false → new.files ≡ old.files
  pub marked : mark_of (fills_of old number) ≡ true → is_marked new path ≡ true

-- A path got the mark of an entry, which is closed.
pub record Settles (path : List ℕ) (number : ℕ) (old new : Marks) : Type 0 where
  pub marked : is_marked new path ≡ mark_of (fills_of old number)
  pub files : (q : List ℕ) → bytes_eq path q ≡ false → is_marked new q ≡ is_marked old q
  pub none : fills_of new number ≡ None
  pub others : OtherFills number old new

-- Marks of paths that are neither indexed nor this one may go.
pub record Sweeps (index : Index) (keep : List ℕ) (old new : Marks) : Type 0 where
  pub entries : new.entries ≡ old.entries
  pub kept : (path : List ℕ) → is_some (lookup (bytes_eq path) index) ≡ true → is_marked new path ≡ is_marked old path
  pub own : is_marked new keep ≡ is_marked old keep
  pub none : (path : List ℕ) → is_marked old path ≡ false → is_marked new path ≡ false
