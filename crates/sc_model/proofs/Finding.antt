-- Objects and outputs that are gone through one after another.
use Rattle.std.proofs.Common.{◌≡◌, ℕ, ◌-◌, ◌≤◌, Bool, true, false, not, ◌&&◌, ◌||◌, cond, List, [], ◌∷◌, length, take, drop, get_or, Some, refl, ap, ◌∙◌, arith}
use Rattle.std.proofs.Math.Seq.{take-length}
use Rattle.std.specs.Str.{bytes_eq}
use Rattle.sc_entry.specs.declared.object.FileObjectSource.{FileObjectSource}
use Rattle.sc_entry.specs.declared.object.Object.{Object}
use Rattle.std.specs.Cmp.Lexicographic.{nat_list_eq_equiv}
use Rattle.sc_entry.specs.Entries.{has_name}
use Rattle.sc_model.specs.World.{first_missing}

-- what is behind the first
abbrev pub tail_of : {A : Type 0} → List A → List A
tail_of xs = take (length xs - 1) (drop 1 xs)

pub tail_is : {A : Type 0} (x : A) (xs : List A) → tail_of (x ∷ xs) ≡ xs
tail_is x xs = let n : length (x ∷ xs) - 1 ≡ length xs = omega arith in rw n (take-length xs)

either : (a b c : Bool) → (cond a true b || c) ≡ (b || (a || c))
either true true c = refl
either true false c = refl
either false b c = refl

pub names_on : (left : List Object) (o : Object) (old new whole : Bool) (name : List ℕ) → 1 ≤ length left → o ≡ get_or left 0 o → new ≡ cond (bytes_eq o.name name) true old
    → (old || has_name name left) ≡ whole → (new || has_name name (tail_of left)) ≡ whole
names_on [] o old new whole name some first is before = absurd (omega arith)
names_on (x ∷ left) o old new whole name some first is before =
    rw (tail_is, is, first) (ap (λ (b : Bool). cond b true old || has_name name left) (nat_list_eq_equiv.symm x.name name) ∙ either (bytes_eq name x.name) old (has_name name left) ∙ before)

pub missing_here : (objects : List Object) (left : List FileObjectSource) (o : FileObjectSource) (named : Bool) → 1 ≤ length left → o ≡ get_or left 0 o → named ≡ has_name o.key objects
    → (not o.optional && not named) ≡ true → Some o.key ≡ first_missing (Some objects) left
missing_here objects [] o named some first is test = absurd (omega arith)
missing_here objects (x ∷ left) o named some first is test = let here : (not x.optional && not (has_name x.key objects)) ≡ true = rw (← first, ← is) test in rw (here, first) refl

pub missing_on : (objects : List Object) (left : List FileObjectSource) (o : FileObjectSource) (named : Bool) → 1 ≤ length left → o ≡ get_or left 0 o → named ≡ has_name o.key objects
    → (not o.optional && not named) ≡ false → first_missing (Some objects) (tail_of left) ≡ first_missing (Some objects) left
missing_on objects [] o named some first is test = absurd (omega arith)
missing_on objects (x ∷ left) o named some first is test = let here : (not x.optional && not (has_name x.key objects)) ≡ false = rw (← first, ← is) test in rw (tail_is, here) refl
