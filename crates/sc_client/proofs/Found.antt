-- The first of some paths that has a tool.
use Rattle.std.proofs.Common.{◌≡◌, ℕ, zero, suc, ◌<◌, inl, inr, Bool, true, false, if◌then◌else◌, ◌-◌, List, [], ◌∷◌, length, map, take, drop, get_or, Option, Some, None, Result, Ok, Err, arith, refl, sym, ap, ◌∙◌, subst}
use Rattle.std.proofs.Math.Seq.{take-length}
use Rattle.std.specs.Prelude.{find}
use Rattle.sc_entry.specs.Causes.{IfTold}
use Rattle.sc_compile.specs.declared.tool.Tool.{Tool}
use Rattle.sc_client.specs.Which.{AnswersTo, Finds, IsOneOf, found_or, in_folder, is_there}
use Rattle.sc_client.specs.declared.client_error.ClientError.{ClientError}

one_behind : (name path : List ℕ) (paths : List (List ℕ)) (result : Result (List ℕ) ClientError) → IsOneOf name paths result → IsOneOf name (path ∷ paths) result
one_behind name path paths (Ok p) (k, lt, is) = (suc k, omega (arith, lt), is)
one_behind name path paths (Err error) one = one

told_behind : (table : Option (List Tool)) (name path : List ℕ) (paths : List (List ℕ)) (result : Result (List ℕ) ClientError) → IfTold table (λ tools. false ≡ is_there tools path)
    → IfTold table (λ tools. AnswersTo (found_or name (find (is_there tools) paths)) result) → IfTold table (λ tools. AnswersTo (found_or name (find (is_there tools) (path ∷ paths))) result)
told_behind None name path paths result none told = tt
told_behind (Some tools) name path paths result none told = subst (λ (b : Bool). AnswersTo (found_or name (if b then Some path else find (is_there tools) paths)) result) none told

told_here : (table : Option (List Tool)) (name path : List ℕ) (paths : List (List ℕ)) → IfTold table (λ tools. true ≡ is_there tools path) → IfTold table (λ tools. AnswersTo (found_or name (find (is_there tools) (path ∷ paths))) (Ok path))
told_here None name path paths there = tt
told_here (Some tools) name path paths there = subst (λ (b : Bool). AnswersTo (found_or name (if b then Some path else find (is_there tools) paths)) (Ok path)) there refl

pub finds_behind : (table : Option (List Tool)) (name path : List ℕ) (paths : List (List ℕ)) (result : Result (List ℕ) ClientError) → IfTold table (λ tools. false ≡ is_there tools path) → Finds table name paths result → Finds table name (path ∷ paths) result
finds_behind table name path paths result none finds = record { one = one_behind name path paths result finds.one; told = told_behind table name path paths result none finds.told }

pub finds_here : (table : Option (List Tool)) (name path : List ℕ) (paths : List (List ℕ)) → IfTold table (λ tools. true ≡ is_there tools path) → Finds table name (path ∷ paths) (Ok path)
finds_here table name path paths there = record { one = (zero, omega arith, refl); told = told_here table name path paths there }

rest_is : (xs : List (List ℕ)) → take (length xs - 1) (drop 1 xs) ≡ drop 1 xs
rest_is [] = refl
rest_is (x ∷ xs) = subst (λ (n : ℕ). take n xs ≡ xs) (omega arith) (take-length xs)

-- one of the folders behind the first
pub finds_next : (table : Option (List Tool)) (name folder : List ℕ) (folders : List (List ℕ)) (result : Result (List ℕ) ClientError) → 0 < length folders → get_or folders 0 folder ≡ folder → IfTold table (λ tools. false ≡ is_there tools (in_folder name folder))
    → Finds table name (map (in_folder name) (take (length folders - 1) (drop 1 folders))) result → Finds table name (map (in_folder name) folders) result
finds_next table name folder [] result some first none finds = absurd (omega (arith, some))
finds_next table name folder (f ∷ fs) result some first none finds =
    finds_behind table name (in_folder name f) (map (in_folder name) fs) result (subst (λ (x : List ℕ). IfTold table (λ tools. false ≡ is_there tools (in_folder name x))) (sym first) none)
    (subst (λ (rest : List (List ℕ)). Finds table name (map (in_folder name) rest) result) (rest_is (f ∷ fs)) finds)
