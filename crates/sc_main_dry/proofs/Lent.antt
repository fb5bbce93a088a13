-- What uses find whose keys are lent is what they find by what their keys are.
use Rattle.std.proofs.Common.{◌≡◌, ℕ, ◌+◌, ◌-◌, Bool, true, false, nat_le, is_some, if◌then◌else◌, List, [], ◌∷◌, ◌++◌, length, map, Option, refl, sym, ap, ◌∙◌}
use Rattle.std.specs.Borrow.{Bor}
use Rattle.std.specs.Map.{remove_entry}
use Rattle.std.specs.Prelude.{bytes_eq}
use Rattle.sc_lru.specs.DryRun.{dropped, dry_line, hit, missed, over, put_in, shown, sum_uses, used}
use Rattle.sc_lru.specs.declared.capacity_report.DryLine.{DryLine}
use Rattle.sc_lru.specs.declared.capacity_report.Use.{Use}
use Rattle.sc_lru.specs.declared.capacity_report.Use.TheVariants.{Get, Put}
use Rattle.sc_lru.proofs.DryRuns.{line}
use Rattle.sc_lru.proofs.Shown.{inserted-shown, length-shown, lookup-shown, remove_entry-shown, touched-shown}
use Rattle.sc_main_dry.specs.Lending.{lent}
use Rattle.sc_main_dry.specs.Printed.{dry_text}
use Rattle.sc_main_dry.specs.Reports.{report_of}

module _ {K : Type 0} (eq : K → K → Bool) where
  abbrev pub by_key : Bor K → Bor K → Bool
  by_key a b = eq a.now b.now

  module _ (n : ℕ) where
    put-lent : (es : List (Bor K × ℕ)) (k : Bor K) (bytes : ℕ) → put_in eq n (shown es) k.now bytes ≡ shown (put_in by_key n es k bytes)
    put-lent es k bytes = inserted-shown (eq k.now) n es k bytes

    used-lent : (es : List (Bor K × ℕ)) (u : Use (Bor K)) → used eq n (shown es) (lent u) ≡ shown (used by_key n es u)
    used-lent es (Get k) = touched-shown (eq k.now) es
    used-lent es (Put k bytes) = elim (nat_le bytes n) as (λ y. (if y then put_in eq n (shown es) k.now bytes else shown es) ≡ shown (if y then put_in by_key n es k bytes else es)) [
      | true ↦ put-lent es k bytes
      | false ↦ refl
    ]

    hit-lent : (es : List (Bor K × ℕ)) (u : Use (Bor K)) → hit eq n (shown es) (lent u) ≡ hit by_key n es u
    hit-lent es (Get k) = ap (λ (o : Option ℕ). if is_some o then 1 else 0) (lookup-shown (eq k.now) es)
    hit-lent es (Put k bytes) = refl

    missed-lent : (es : List (Bor K × ℕ)) (u : Use (Bor K)) → missed eq n (shown es) (lent u) ≡ missed by_key n es u
    missed-lent es (Get k) = ap (λ (o : Option ℕ). if is_some o then 0 else 1) (lookup-shown (eq k.now) es)
    missed-lent es (Put k bytes) = refl

    over-lent : (es : List (Bor K × ℕ)) (u : Use (Bor K)) → over eq n (shown es) (lent u) ≡ over by_key n es u
    over-lent es (Get k) = refl
    over-lent es (Put k bytes) = refl

    dropped-lent : (es : List (Bor K × ℕ)) (u : Use (Bor K)) → dropped eq n (shown es) (lent u) ≡ dropped by_key n es u
    dropped-lent es (Get k) = refl
    dropped-lent es (Put k bytes) =
        let left : length (remove_entry (eq k.now) (shown es)) ≡ length (remove_entry (by_key k) es) =
        ap length (remove_entry-shown (eq k.now) es) ∙ length-shown (remove_entry (by_key k) es) in
        let after : length (put_in eq n (shown es) k.now bytes) ≡ length (put_in by_key n es k bytes) =
        ap length (put-lent es k bytes) ∙ length-shown (put_in by_key n es k bytes) in
        λ i. if nat_le bytes n then (left i + 1) - after i else 0

    sum-lent : (f : List (K × ℕ) → Use K → ℕ) (g : List (Bor K × ℕ) → Use (Bor K) → ℕ) → ((es : List (Bor K × ℕ)) (u : Use (Bor K)) → f (shown es) (lent u) ≡ g es u)
        → (es : List (Bor K × ℕ)) (us : List (Use (Bor K))) → sum_uses eq n f (shown es) (map lent us) ≡ sum_uses by_key n g es us
    sum-lent f g same es [] = refl
    sum-lent f g same es (u ∷ us) =
        let rest : sum_uses eq n f (used eq n (shown es) (lent u)) (map lent us) ≡ sum_uses by_key n g (used by_key n es u) us =
        ap (λ (ps : List (K × ℕ)). sum_uses eq n f ps (map lent us)) (used-lent es u) ∙ sum-lent f g same (used by_key n es u) us in
        λ i. same es u i + rest i

    pub dry_line-lent : (us : List (Use (Bor K))) → dry_line by_key us n ≡ dry_line eq (map lent us) n
    dry_line-lent us =
        let h = sum-lent (hit eq n) (hit by_key n) hit-lent [] us in
        let m = sum-lent (missed eq n) (missed by_key n) missed-lent [] us in
        let e = sum-lent (dropped eq n) (dropped by_key n) dropped-lent [] us in
        let t = sum-lent (over eq n) (over by_key n) over-lent [] us in
        sym (λ i. line n (h i) (m i) (e i) (t i))

  -- at each capacity
  pub dry_lines-lent : (us : List (Use (Bor K))) (ns : List ℕ) → map (dry_line by_key us) ns ≡ map (dry_line eq (map lent us)) ns
  dry_lines-lent us ns = (λ i. map (λ n. dry_line-lent n us i) ns)

-- what is printed of lent uses is the report of what they are
pub reported : (given : List (Use (List ℕ))) (lending : List (Use (Bor (List ℕ)))) (ns : List ℕ) (lines : List DryLine) (before text : List ℕ)
    → map lent lending ≡ given → lines ≡ map (dry_line (by_key bytes_eq) lending) ns → before ≡ [] → text ≡ before ++ dry_text lines → text ≡ report_of given ns
reported given lending ns lines before text same found empty printed =
    printed
    ∙ (λ i. empty i ++ dry_text (found i))
    ∙ ap dry_text (dry_lines-lent bytes_eq lending ns)
    ∙ ap (λ (us : List (Use (List ℕ))). report_of us ns) same
