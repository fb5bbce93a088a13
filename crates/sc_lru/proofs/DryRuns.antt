-- The counts of uses, taken one after another.
use Rattle.std.proofs.Common.{◌≡◌, ℕ, ◌+◌, ◌≤◌, ◌-◌, Bool, true, false, nat_le, is_some, if◌then◌else◌, length, List, [], ◌∷◌, refl, sym, ◌∙◌, arith}
use Rattle.std.specs.Map.{lookup, remove_entry}
use Rattle.sc_lru.specs.LruCache.{total}
use Rattle.sc_lru.specs.Order.{touched}
use Rattle.sc_lru.proofs.Measures.{total-cons, total-touched}
use Rattle.sc_lru.proofs.Shown.{length-inserted, length-removed}
use Rattle.sc_lru.specs.declared.capacity_report.Use.{Use}
use Rattle.sc_lru.specs.declared.capacity_report.Use.TheVariants.{Get, Put}
use Rattle.sc_lru.specs.declared.capacity_report.DryLine.{DryLine}
use Rattle.sc_lru.specs.DryRun.{counted, dropped, dry_line, hit, missed, over, put_in, sum_uses, used}

abbrev pub line : ℕ → ℕ → ℕ → ℕ → ℕ → DryLine
line c h m e t = record { capacity = c; hits = h; misses = m; evicted = e; too_large = t }

module _ {K : Type 0} (eq : K → K → Bool) (n : ℕ) where
  -- the line, with these uses counted
  abbrev pub dry : List (K × ℕ) → DryLine → List (Use K) → DryLine
  dry es l [] = l
  dry es l (u ∷ us) = dry (used eq n es u) (counted eq n es l u) us

  abbrev sums : List (K × ℕ) → DryLine → List (Use K) → DryLine
  sums es l us = record { capacity = l.capacity; hits = l.hits + sum_uses eq n (hit eq n) es us; misses = l.misses + sum_uses eq n (missed eq n) es us; evicted = l.evicted + sum_uses eq n (dropped eq n) es us; too_large = l.too_large + sum_uses eq n (over eq n) es us }

  dry-sums : (es : List (K × ℕ)) (l : DryLine) (us : List (Use K)) → dry es l us ≡ sums es l us
  dry-sums es l [] =
      let h : l.hits ≡ l.hits + 0 = omega arith in let m : l.misses ≡ l.misses + 0 = omega arith in
      let e : l.evicted ≡ l.evicted + 0 = omega arith in let t : l.too_large ≡ l.too_large + 0 = omega arith in
      λ i. line l.capacity (h i) (m i) (e i) (t i)
  dry-sums es l (u ∷ us) =
      let on = dry-sums (used eq n es u) (counted eq n es l u) us in
      let grouped = λ (x a b : ℕ). (let g : (x + a) + b ≡ x + (a + b) = omega arith in g) in
      let more = λ (f : List (K × ℕ) → Use K → ℕ). sum_uses eq n f (used eq n es u) us in
      on ∙ (λ i. line l.capacity (grouped l.hits (hit eq n es u) (more (hit eq n)) i) (grouped l.misses (missed eq n es u) (more (missed eq n)) i)
      (grouped l.evicted (dropped eq n es u) (more (dropped eq n)) i) (grouped l.too_large (over eq n es u) (more (over eq n)) i))

  -- from nothing on
  pub dry-none : (us : List (Use K)) → dry [] (line n 0 0 0 0) us ≡ dry_line eq us n
  dry-none us =
      let none = λ (x : ℕ). (let z : 0 + x ≡ x = omega arith in z) in
      dry-sums [] (line n 0 0 0 0) us ∙ (λ i. line n (none (sum_uses eq n (hit eq n) [] us) i) (none (sum_uses eq n (missed eq n) [] us) i) (none (sum_uses eq n (dropped eq n) [] us) i) (none (sum_uses eq n (over eq n) [] us) i))

  pub hit_most : (es : List (K × ℕ)) (u : Use K) → hit eq n es u ≤ 1
  hit_most es (Get k) = elim (is_some (lookup (eq k) es)) as (λ y. (if y then 1 else 0) ≤ 1) [ true ↦ omega arith | false ↦ omega arith ]
  hit_most es (Put k bytes) = omega arith

  pub missed_most : (es : List (K × ℕ)) (u : Use K) → missed eq n es u ≤ 1
  missed_most es (Get k) = elim (is_some (lookup (eq k) es)) as (λ y. (if y then 0 else 1) ≤ 1) [ true ↦ omega arith | false ↦ omega arith ]
  missed_most es (Put k bytes) = omega arith

  pub over_most : (es : List (K × ℕ)) (u : Use K) → over eq n es u ≤ 1
  over_most es (Get k) = omega arith
  over_most es (Put k bytes) = elim (nat_le bytes n) as (λ y. (if y then 0 else 1) ≤ 1) [ true ↦ omega arith | false ↦ omega arith ]

  total-ones : (es : List (K × ℕ)) → total {K = K} {V = ℕ} (λ _ _. 1) es ≡ length es
  total-ones [] = refl
  total-ones (e ∷ es) = omega (arith, total-ones es, total-cons {K = K} {V = ℕ} (λ _ _. 1) e es)

  length-touched : (test : K → Bool) (es : List (K × ℕ)) → length (touched test es) ≡ length es
  length-touched test es = sym (total-ones (touched test es)) ∙ total-touched {K = K} {V = ℕ} (λ _ _. 1) test es ∙ total-ones es

  -- a use adds at most one pair to those that are there and those that went
  pub pairs_most : (es : List (K × ℕ)) (u : Use K) → dropped eq n es u + length (used eq n es u) ≤ length es + 1
  pairs_most es (Get k) = omega (arith, length-touched (eq k) es)
  pairs_most es (Put k bytes) = elim (nat_le bytes n) as (λ y. (if y then (length (remove_entry (eq k) es) + 1) - length (put_in eq n es k bytes) else 0) + length (if y then put_in eq n es k bytes else es) ≤ length es + 1) [
    | true ↦ omega (arith, length-inserted {K = K} {V = ℕ} (λ _ s. s) (eq k) n es k bytes, length-removed (eq k) es, least (is_some (lookup (eq k) es)))
    | false ↦ omega arith
  ]
    where
      least : (y : Bool) → (if y then 0 else 1) ≤ 1
      least true = omega arith
      least false = omega arith
