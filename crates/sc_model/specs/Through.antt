-- What a level of one daemon writes is what another daemon that stands behind it is asked to put.
use Rattle.std.specs.Prelude.{◌≡◌, ℕ, ◌==◌, Bool, true, false, if◌then◌else◌, List, [], ◌∷◌, ◌++◌, ◌⊎◌}
use Rattle.sc_model.specs.declared.event.Event.{Event}
use Rattle.sc_model.specs.declared.event.Mode.TheVariants.{Whole}
use Rattle.sc_model.specs.declared.event.What.{What}
use Rattle.sc_model.specs.declared.event.What.TheVariants.{Began, Wrote}
use Rattle.sc_model.specs.declared.event.Written.TheVariants.{Done as WriteDone, Refused as WriteRefused}
use Rattle.sc_model.specs.declared.message.Request.TheVariants.{StoragePutRaw as PutRaw}

-- a key and bytes
abbrev pub Entry : Type 0
Entry = List ℕ × List ℕ

-- whole writes at a level, the first first, and whether each was done
abbrev pub write_at : ℕ → What → List (Bool × Entry)
write_at l (Wrote j k b Whole mark WriteDone) = if j == l then (true, (k, b)) ∷ [] else []
write_at l (Wrote j k b Whole mark (WriteRefused c)) = if j == l then (false, (k, b)) ∷ [] else []
write_at l _ = []

abbrev pub writes_at : ℕ → List Event → List (Bool × Entry)
writes_at l [] = []
writes_at l (e ∷ t) = writes_at l t ++ write_at l e.what

-- raw puts, the first first
abbrev pub put_by : What → List Entry
put_by (Began (PutRaw k b) told) = (k, b) ∷ []
put_by _ = []

abbrev pub raw_puts : List Event → List Entry
raw_puts [] = []
raw_puts (e ∷ t) = raw_puts t ++ put_by e.what

-- in order all that was done, and some of what was refused
abbrev pub IsMerged : List (Bool × Entry) → List Entry → Type 0
IsMerged [] puts = puts ≡ []
IsMerged ((true, x) ∷ xs) [] = ⊥
IsMerged ((true, x) ∷ xs) (y ∷ puts) = (y ≡ x) × IsMerged xs puts
IsMerged ((false, x) ∷ xs) [] = IsMerged xs []
IsMerged ((false, x) ∷ xs) (y ∷ puts) = ((y ≡ x) × IsMerged xs puts) ⊎ IsMerged xs (y ∷ puts)

abbrev pub IsThrough : (front back : List Event) (l : ℕ) → Type 0
IsThrough front back l = IsMerged (writes_at l front) (raw_puts back)
