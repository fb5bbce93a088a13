-- Names as they are kept, and as contracts see them.
use Rattle.std.proofs.Common.{◌≡◌, ℕ, ◌+◌, ◌<◌, Bool, true, false, List, [], ◌∷◌, length, take, nat_eq, refl, sym, ap, ◌∙◌, if◌then◌else◌}
use Rattle.std.specs.Prelude.{bytes_eq}
use Rattle.std.specs.Global.{Vec}
use Rattle.std.specs.Cmp.Lexicographic.{pointwise}
use Rattle.std.proofs.lemmas.List.Sums.{fold_more}
use lib.ListN.{get_or}
use Rattle.indexmap.specs.IndexMap.{insert_entry}
use Rattle.sc_command.specs.Variables.{Named, named, set_variable, set_variables}

named_if : (b : Bool) (x y : List (Vec ℕ × List ℕ)) (y' : Named) → named y ≡ y' → named (if b then x else y) ≡ (if b then named x else y')
named_if true x y y' e = refl
named_if false x y y' e = e

-- a name set among names as they are kept is set among the names
pub named_insert : (es : List (Vec ℕ × List ℕ)) (k : Vec ℕ) (v : List ℕ) → named (insert_entry (λ x y. pointwise nat_eq x.items y.items) es k v) ≡ set_variable (named es) k.items v
named_insert [] k v = refl
named_insert (e ∷ es) k v =
    named_if (bytes_eq k.items e.0.items) ((e.0, v) ∷ es) (e ∷ insert_entry (λ x y. pointwise nat_eq x.items y.items) es k v) _ (ap (λ r. (e.0.items, e.1) ∷ r) (named_insert es k v))

-- one variable more was set
pub set_step : (vars : Named) (i : ℕ) (p : List ℕ × List ℕ) (first before after : Named) → p ≡ get_or vars i p → i < length vars
    → after ≡ set_variable before p.0 p.1 → before ≡ set_variables first (take i vars) → after ≡ set_variables first (take (i + 1) vars)
set_step vars i p first before after at within so e =
    let more = fold_more (λ all q. set_variable all q.0 q.1) first vars i p within in
    so ∙ ap (λ all. set_variable all p.0 p.1) e ∙ ap (λ q. set_variable (set_variables first (take i vars)) q.0 q.1) at ∙ sym more
