use Rattle.std.proofs.Common.{◌≡◌, ℕ, suc, ◌+◌, ◌<◌, List, [], ◌∷◌, ◌++◌, codes, length, drop, get_or, ap, sym, ◌∙◌, append_assoc, add-one}
use Rattle.std.proofs.Math.Seq.{drop-cons}
use Rattle.sc_model.specs.Finishing.{caused_by}

-- one more line is written
pub cause_written : (out : List ℕ) (chain : List (List ℕ)) (i : ℕ) (t : List ℕ) → i < length chain → t ≡ get_or chain i t
    → (((out ++ codes "sccache: caused by: ") ++ t) ++ 10 ∷ []) ++ caused_by (drop (i + 1) chain) ≡ out ++ caused_by (drop i chain)
cause_written out chain i t l e =
    let head = codes "sccache: caused by: " in
    let rest = caused_by (drop (i + 1) chain) in
    let d : drop i chain ≡ t ∷ drop (i + 1) chain = drop-cons chain i t l ∙ ap (λ v. v ∷ drop (suc i) chain) (sym e) ∙ ap (λ v. t ∷ drop v chain) (sym (add-one i)) in
    append_assoc ((out ++ head) ++ t) (10 ∷ []) rest
    ∙ append_assoc (out ++ head) t (10 ∷ rest)
    ∙ append_assoc out head (t ++ 10 ∷ rest)
    ∙ ap (λ v. out ++ v) (sym (append_assoc head t (10 ∷ rest)))
    ∙ ap (λ v. out ++ caused_by v) (sym d)
