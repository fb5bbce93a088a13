-- What a stop inside each call of a store of files leaves, by what the call's clauses say.
use Rattle.std.specs.Prelude.{◌≡◌, ◌⊎◌, ℕ, Bool, true, is_some, bytes_eq, List, [], ◌∷◌, ◌++◌, drop, Result}
use Rattle.std.specs.Map.{lookup}
use Rattle.sc_disk.specs.Calls.{Commits, Gets, Prepares, RefusesAdd, RefusesCommit, RefusesGet, Removes, removed_by}
use Rattle.sc_disk.specs.Disks.{Adopts, AdoptsPart, Does, DoesPart, HasBytes}
use Rattle.sc_disk.specs.Inserting.{Fills, Inserts, RefusesInsert, content}
use Rattle.sc_disk.specs.Sound.{IsSound}
use Rattle.sc_disk.specs.Store.{AddEntry, Store, firsts, temporary_of}
use Rattle.sc_disk.specs.Writing.{RefusesWriting}
use Rattle.sc_disk.specs.declared.change.Change.TheVariants.{Added}
use Rattle.sc_disk.specs.declared.error.Error.{Error}
use Rattle.sc_disk.specs.declared.writing.InsertError.{InsertError}
use Rattle.sc_disk_reopen.specs.Moments.{Effect, Moments, Stored, removals, removals_by, used_by}

-- a call has these effects, whatever a stop inside it leaves
abbrev pub Has : List Effect → Store → Store → Type 0
Has es old new = Moments old.capacity es old.disk new.disk

-- the first n files of the index go
abbrev pub evictions : ℕ → Store → List Effect
evictions n s = removals (firsts n s.index)

-- the first n files, and then m more
abbrev pub evictions_twice : ℕ → ℕ → Store → List Effect
evictions_twice n m s = removals (firsts m (drop n s.index)) ++ removals (firsts n s.index)

-- files were evicted, and nothing else had an effect
abbrev pub Evicts : Store → Store → Type 0
Evicts old new = (n : ℕ) × (m : ℕ) × Has (evictions_twice n m old) old new

-- An entry is opened, or it isn't: files were evicted.
abbrev pub StopsPreparing : Type 0
StopsPreparing = (e : AddEntry) (k : List ℕ) (size now n : ℕ) (old new : Store) → IsSound old → Prepares e k size now n old new → Has (evictions n old) old new

abbrev pub StopsRefusingToAdd : Type 0
StopsRefusingToAdd = (refused : Error) (k : List ℕ) (size n : ℕ) (old new : Store) → IsSound old → RefusesAdd refused k size n old new → Has (evictions n old) old new

-- An entry is filled, by its store or its writer, also where that is refused: nothing is seen of it.
abbrev pub StopsFilling : Type 0
StopsFilling = (e : AddEntry) (bytes : List ℕ) (old new : Store) → IsSound old → (Does (Added (temporary_of e) bytes ∷ []) old.disk new.disk) ⊎ DoesPart (temporary_of e) bytes old.disk new.disk → Has [] old new

abbrev pub StopsWriting : Type 0
StopsWriting = (e : AddEntry) (pieces : List (List ℕ)) (old new : Store) → IsSound old → Fills e pieces old new → Has [] old new

-- An entry is committed: files were evicted, and then the bytes that its temporary had at the call's start stand under its
-- key.
abbrev pub StopsCommitting : Type 0
StopsCommitting = (e : AddEntry) (r now n : ℕ) (old new : Store) → IsSound old → IsSound new → new.capacity ≡ old.capacity → Commits e r now n old new
    → (bytes : List ℕ) × HasBytes (temporary_of e) bytes old.disk × Has (Stored e.key now bytes ∷ evictions n old) old new

abbrev pub StopsRefusingToCommit : Type 0
StopsRefusingToCommit = (refused : Error) (e : AddEntry) (now n : ℕ) (touches removes : Bool) (old new : Store) → IsSound old → RefusesCommit refused e now n touches removes old new → Has (evictions n old) old new

-- An entry is abandoned, also where that is refused.
abbrev pub StopsAbandoning : Type 0
StopsAbandoning = (e : AddEntry) (removes : Bool) (old new : Store) → IsSound old → Does (removed_by removes (temporary_of e)) old.disk new.disk → Has [] old new

-- A whole file is stored: files were evicted, and then its bytes stand under the key.
abbrev pub StopsInserting : Type 0
StopsInserting = (k : List ℕ) (pieces : List (List ℕ)) (size now number n r m : ℕ) (old new : Store) → IsSound old → IsSound new → new.capacity ≡ old.capacity → Inserts k pieces size now number n r m old new
    → Has (Stored k now (content pieces) ∷ evictions_twice n m old) old new

-- It isn't, of bytes or of an outside file: files were evicted at most.
abbrev pub StopsRefusingBytes : Type 0
StopsRefusingBytes = (refused : Error) (k bytes : List ℕ) (size now : ℕ) (old new : Store) → IsSound old
    → RefusesInsert refused k size now (λ e. DoesPart (temporary_of e) bytes) (λ e. Does (Added (temporary_of e) bytes ∷ [])) old new → Evicts old new

abbrev pub StopsRefusingFile : Type 0
StopsRefusingFile = (refused : Error) (k outside : List ℕ) (size now : ℕ) (old new : Store) → IsSound old
    → RefusesInsert refused k size now (λ e. AdoptsPart outside (temporary_of e)) (λ e. Adopts outside (temporary_of e)) old new → Evicts old new

-- Nor is what its caller writes.
abbrev pub StopsRefusingWritten : {E : Type 0} → (Result (Unit {0}) E → List (List ℕ) → Type 0) → Type 0
StopsRefusingWritten {E} wrote = (told : InsertError E) (k : List ℕ) (now : ℕ) (old new : Store) → IsSound old → RefusesWriting wrote told k now old new → Evicts old new

-- A file is read: it gets its moment. Where that is refused it may have.
abbrev pub StopsGetting : Type 0
StopsGetting = (k read : List ℕ) (now : ℕ) (old new : Store) → IsSound old → Gets k read now old new → Has (used_by true k now) old new

abbrev pub StopsRefusingToGet : Type 0
StopsRefusingToGet = (refused : Error) (k : List ℕ) (now : ℕ) (touches : Bool) (old new : Store) → IsSound old → RefusesGet refused k now touches old new → Has (used_by touches k now) old new

-- A file is removed, if there is one.
abbrev pub StopsRemoving : Type 0
StopsRemoving = (k : List ℕ) (old new : Store) → IsSound old → Removes k old new → Has (removals_by (is_some (lookup (bytes_eq k) old.index)) k) old new

-- A call that changes no file: a path that is asked for, and calls that are refused before they reach the disk.
abbrev pub StopsStill : Type 0
StopsStill = (old new : Store) → IsSound old → Does [] old.disk new.disk → Has [] old new
