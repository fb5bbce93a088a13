-- Objects whose names are gone through one after another, with a set of the names before.
use Rattle.std.proofs.Common.{◌≡◌, ℕ, ◌≤◌, Bool, true, false, not, ◌&&◌, ◌||◌, cond, List, [], ◌∷◌, ◌++◌, length, get_or, refl, ap, sym, ◌∙◌, arith}
use Rattle.std.specs.Cmp.Lexicographic.{nat_list_eq_equiv}
use Rattle.std.specs.Str.{bytes_eq}
use Rattle.sc_entry.specs.Entries.{has_name}
use Rattle.sc_entry.specs.declared.object.Object.{Object}
use Rattle.sc_model.specs.GoodNames.{are_named, is_output_name}
use Rattle.sc_model.proofs.Finding.{tail_of, tail_is}

either : (a b c : Bool) → (a || cond b true c) ≡ cond b true (a || c)
either true true c = refl
either true false c = refl
either false b c = refl

or_cond : (b : Bool) → (b || false) ≡ cond b true false
or_cond true = refl
or_cond false = refl

-- a name among objects with one more
pub has_name_more : (name : List ℕ) (os : List Object) (o : Object) → has_name name (os ++ o ∷ []) ≡ cond (bytes_eq o.name name) true (has_name name os)
has_name_more name [] o = rw (nat_list_eq_equiv.symm name o.name) (or_cond (bytes_eq o.name name))
has_name_more name (x ∷ os) o = ap (λ (b : Bool). bytes_eq name x.name || b) (has_name_more name os o) ∙ either (bytes_eq name x.name) (bytes_eq o.name name) (has_name name os)

-- what is known behind some objects: whether those left have names of their own, and the names of those before
pub record NamedSoFar (all left : List Object) (holds : List ℕ → Bool) : Type 0 where
  pub before : List Object
  pub same : are_named before left ≡ are_named [] all
  pub names : (name : List ℕ) → holds name ≡ has_name name before

pub named_none : (all : List Object) (holds : List ℕ → Bool) → ((name : List ℕ) → holds name ≡ false) → NamedSoFar all all holds
named_none all holds none = record { before = []; same = refl; names = none }

new_head : (before left : List Object) (o : Object) (b : Bool) → 1 ≤ length left → o ≡ get_or left 0 o → (is_output_name o.name && not (has_name o.name before)) ≡ b
    → are_named before left ≡ (b && are_named (before ++ o ∷ []) (tail_of left))
new_head before [] o b some first test = absurd (omega arith)
new_head before (x ∷ left) o b some first test = rw (tail_is, ← test, first) refl

pub named_off : (all left : List Object) (holds : List ℕ → Bool) (o : Object) (b : Bool) → NamedSoFar all left holds → 1 ≤ length left → o ≡ get_or left 0 o
    → b ≡ (is_output_name o.name && not (holds o.name)) → b ≡ false → false ≡ are_named [] all
named_off all left holds o b so some first is off =
    let test : (is_output_name o.name && not (has_name o.name so.before)) ≡ false = ap (λ (c : Bool). is_output_name o.name && not c) (sym (so.names o.name)) ∙ sym is ∙ off in
    sym (new_head so.before left o false some first test) ∙ so.same

pub named_on : (all left : List Object) (holds more : List ℕ → Bool) (o : Object) (b : Bool) → NamedSoFar all left holds → 1 ≤ length left → o ≡ get_or left 0 o
    → b ≡ (is_output_name o.name && not (holds o.name)) → b ≡ true → ((name : List ℕ) → more name ≡ cond (bytes_eq o.name name) true (holds name)) → NamedSoFar all (tail_of left) more
named_on all left holds more o b so some first is on set =
    let test : (is_output_name o.name && not (has_name o.name so.before)) ≡ true = ap (λ (c : Bool). is_output_name o.name && not c) (sym (so.names o.name)) ∙ sym is ∙ on in
    record {
      before = so.before ++ o ∷ [];
      same = sym (new_head so.before left o true some first test) ∙ so.same;
      names = λ name. set name ∙ ap (λ (c : Bool). cond (bytes_eq o.name name) true c) (so.names name) ∙ sym (has_name_more name so.before o);
    }

pub named_all : (all left : List Object) (holds : List ℕ → Bool) → NamedSoFar all left holds → length left ≡ 0 → true ≡ are_named [] all
named_all all [] holds so none = so.same
named_all all (x ∷ left) holds so none = absurd (omega arith)
