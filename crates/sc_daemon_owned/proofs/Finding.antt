-- Whether an entry has an object of a name.
use Rattle.std.proofs.Common.{◌≡◌, ℕ, Bool, true, false, cond, ◌||◌, List, [], ◌∷◌, Option, Some, None, is_some, Ok, Err, refl, ap, sym, subst, ◌∙◌}
use Rattle.std.specs.Str.{bytes_eq}
use Rattle.sc_entry.specs.Entries.{find_object, has_name}
use Rattle.sc_entry.specs.EntryAnswers.{GetAnswer}
use Rattle.sc_entry.specs.declared.entry_error.GetError.{GetError}
use Rattle.sc_entry.specs.declared.entry_error.GetError.TheVariants.{DecompressionFailure, NoMemory, WriteFault}
use Rattle.sc_entry.specs.declared.object.Object.{Object}

some_or : (b : Bool) (o : Object) (rest : Option Object) → is_some (cond b (Some o) rest) ≡ (b || is_some rest)
some_or true o rest = refl
some_or false o rest = refl

found : (name : List ℕ) (os : List Object) → is_some (find_object name os) ≡ has_name name os
found name [] = refl
found name (o ∷ os) = some_or (bytes_eq name o.name) o (find_object name os) ∙ ap (λ b. bytes_eq name o.name || b) (found name os)

ok_some : (o : Option Object) (mode : Option ℕ) → GetAnswer o (Ok mode) → is_some o ≡ true
ok_some None mode h = absurd h
ok_some (Some o) mode h = refl

failure_none : (o : Option Object) → GetAnswer o (Err DecompressionFailure) → is_some o ≡ false
failure_none None h = refl
failure_none (Some o) h = absurd h

memory_some : (o : Option Object) → GetAnswer o (Err NoMemory) → is_some o ≡ true
memory_some None h = absurd h
memory_some (Some o) h = refl

fault_some : (o : Option Object) → GetAnswer o (Err WriteFault) → is_some o ≡ true
fault_some None h = absurd h
fault_some (Some o) h = refl

-- what a call for an object's data shows by how it ends
pub by_ok : (name : List ℕ) (os : List Object) (mode : Option ℕ) → GetAnswer (find_object name os) (Ok mode) → true ≡ has_name name os
by_ok name os mode h = sym (ok_some (find_object name os) mode h) ∙ found name os

pub by_failure : (name : List ℕ) (os : List Object) (e : GetError) → e ≡ DecompressionFailure → GetAnswer (find_object name os) (Err e) → false ≡ has_name name os
by_failure name os e is h = sym (failure_none (find_object name os) (subst (λ (r : GetError). GetAnswer (find_object name os) (Err r)) is h)) ∙ found name os

pub by_memory : (name : List ℕ) (os : List Object) (e : GetError) → e ≡ NoMemory → GetAnswer (find_object name os) (Err e) → true ≡ has_name name os
by_memory name os e is h = sym (memory_some (find_object name os) (subst (λ (r : GetError). GetAnswer (find_object name os) (Err r)) is h)) ∙ found name os

pub by_fault : (name : List ℕ) (os : List Object) (e : GetError) → e ≡ WriteFault → GetAnswer (find_object name os) (Err e) → true ≡ has_name name os
by_fault name os e is h = sym (fault_some (find_object name os) (subst (λ (r : GetError). GetAnswer (find_object name os) (Err r)) is h)) ∙ found name os
