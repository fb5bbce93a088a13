-- Words that are read one after another, and what reading them comes to.
use Rattle.std.specs.Prelude.{◌≡◌, ℕ, List, [], ◌∷◌, ◌==◌, Option, Some, None, Result, Ok, Err, Bool, true, false, if◌then◌else◌, option_map, bytes_eq}
use Rattle.sc_words.specs.declared.words_error.WordsError.{WordsError}
use Rattle.sc_words.specs.declared.words_error.WordsError.TheVariants.{NoMemory, Malformed}

-- what follows, where something was read
infixl 10 ◌>>=◌
abbrev pub ◌>>=◌ : {A B : Type 0} → Option A → (A → Option B) → Option B
(Some x) >>= f = f x
None >>= f = None

-- the value, where the test holds
abbrev pub only_if : {A : Type 0} → Bool → A → Option A
only_if b x = if b then Some x else None

-- a reader takes words from the front
abbrev pub Reader : Type 0 → Type 0
Reader A = List (List ℕ) → Option (A × List (List ℕ))

abbrev pub word : Reader (List ℕ)
word [] = None
word (w ∷ ws) = Some (w, ws)

-- taking the first of a list
abbrev pub Pops : List (List ℕ) → Option (List ℕ) → List (List ℕ) → Type 0
Pops [] taken new = (taken ≡ None) × (new ≡ [])
Pops (w ∷ ws) taken new = (taken ≡ Some w) × (new ≡ ws)

-- whether the next word is this one, and the words behind it then
abbrev pub flag : List ℕ → List (List ℕ) → Bool × List (List ℕ)
flag name [] = (false, [])
flag name (w ∷ ws) = if bytes_eq w name then (true, ws) else (false, w ∷ ws)

-- What a function answers is what is read, unless memory ran out.
abbrev pub Fails : {Y : Type 0} → WordsError → Option Y → Type 0
Fails NoMemory read = Unit {0}
Fails Malformed read = read ≡ None

abbrev pub MeansBy : {X Y : Type 0} → (X → Y) → Option Y → Result X WordsError → Type 0
MeansBy view read (Ok x) = read ≡ Some (view x)
MeansBy view read (Err e) = Fails e read

abbrev pub Means : {X : Type 0} → Option X → Result X WordsError → Type 0
Means read (Ok x) = read ≡ Some x
Means read (Err e) = Fails e read

-- the same of a reader, with the words that are left then
abbrev pub ReadsBy : {X Y : Type 0} → (X → Y) → Option (Y × List (List ℕ)) → Result X WordsError → List (List ℕ) → Type 0
ReadsBy view read (Ok x) left = read ≡ Some (view x, left)
ReadsBy view read (Err e) left = Fails e read

abbrev pub Reads : {X : Type 0} → Option (X × List (List ℕ)) → Result X WordsError → List (List ℕ) → Type 0
Reads read (Ok x) left = read ≡ Some (x, left)
Reads read (Err e) left = Fails e read

-- what a function that changes a value did
abbrev pub Leaves : {X : Type 0} → Option X → Result (Unit {0}) WordsError → X → Type 0
Leaves read (Ok u) new = read ≡ Some new
Leaves read (Err e) new = Fails e read

-- some bytes cut at the first such byte, which goes; nothing where there is none
abbrev pub cut_at : ℕ → List ℕ → Option (List ℕ × List ℕ)
cut_at at [] = None
cut_at at (b ∷ bytes) = if b == at then Some ([], bytes) else option_map (λ p. (b ∷ p.0, p.1)) (cut_at at bytes)
