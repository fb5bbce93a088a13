-- What changes of the pairs make of the sum of their measures, and of the longest suffix that fits.
use Rattle.std.proofs.Common.{◌≡◌, ℕ, ◌+◌, ◌-◌, ◌<◌, ◌≤◌, Bool, true, false, cond, List, [], ◌∷◌, ◌++◌, length, drop, slice_get, Option, Some, None, refl, sym, ap, ◌∙◌, arith, if◌then◌else◌}
use Rattle.std.proofs.lemmas.Bool.{le-leb, lt-leb}
use Rattle.std.proofs.lemmas.List.{length_push}
use Rattle.std.proofs.lemmas.List.Sums.{sum_by-cons, sum_by_push}
use Rattle.std.specs.Map.{lookup, lookup_entry, remove_entry, set_value}
use Rattle.sc_lru.specs.LruCache.{total, suffix_within, inserted, inserted_all, Extends, KeepsParts, LruCache}
use native.Mathlib.Decide.{dec_lt}
use Rattle.std.specs.Option.{option_map_or}
use Rattle.sc_lru.specs.Order.{touched, written_at}

module _ {K V : Type 0} (measure : K → V → ℕ) where
  abbrev weigh : K × V → ℕ
  weigh e = measure e.0 e.1

  pub total-cons : (e : K × V) (es : List (K × V)) → total measure (e ∷ es) ≡ measure e.0 e.1 + total measure es
  total-cons e es = sum_by-cons weigh e es

  pub total-push : (es : List (K × V)) (e : K × V) → total measure (es ++ e ∷ []) ≡ total measure es + measure e.0 e.1
  total-push es e = sum_by_push weigh es e

  pub total-remove_entry : (test : K → Bool) (es : List (K × V)) (e : K × V) → lookup_entry test es ≡ Some e → total measure (remove_entry test es) + measure e.0 e.1 ≡ total measure es
  total-remove_entry test [] e h = cc
  total-remove_entry test (f ∷ es) e h = (elim (test f.0) as (λ y. test f.0 ≡ y → total measure (remove_entry test (f ∷ es)) + measure e.0 e.1 ≡ total measure (f ∷ es)) [
    | true ↦ λ t. let same : f ≡ e = by_some f e (rw t at h) in let m : measure f.0 f.1 ≡ measure e.0 e.1 = ap weigh same in
        ap (λ l. total measure l + measure e.0 e.1) (ap (λ b. cond b es (f ∷ remove_entry test es)) t) ∙ omega (arith, m, total-cons f es)
    | false ↦ λ t. let on = total-remove_entry test es e (rw t at h) in
        ap (λ l. total measure l + measure e.0 e.1) (ap (λ b. cond b es (f ∷ remove_entry test es)) t) ∙ omega (arith, on, total-cons f es, total-cons f (remove_entry test es))
  ]) refl
    where
      by_some : (f e : K × V) → Some f ≡ Some e → f ≡ e
      by_some f e h = cc

  -- what the first pair measures is part of the sum
  pub total-first : (es : List (K × V)) (e : K × V) → Some e ≡ slice_get es 0 → total measure (drop 1 es) + measure e.0 e.1 ≡ total measure es
  total-first [] e h = cc
  total-first (f ∷ es) e h = let same : e ≡ f = cc in let m : measure e.0 e.1 ≡ measure f.0 f.1 = ap weigh same in omega (arith, m, total-cons f es)

  pub suffix_within-fits : (n : ℕ) (es : List (K × V)) → total measure es ≤ n → suffix_within measure n es ≡ es
  suffix_within-fits n [] h = refl
  suffix_within-fits n (e ∷ es) h = ap (λ b. if b then (e ∷ es) else suffix_within measure n es) (le-leb (total measure (e ∷ es)) n h)

  pub suffix_within-over : (n : ℕ) (es : List (K × V)) → n < total measure es → suffix_within measure n es ≡ suffix_within measure n (drop 1 es)
  suffix_within-over n [] h = absurd (omega arith)
  suffix_within-over n (e ∷ es) h = ap (λ b. if b then (e ∷ es) else suffix_within measure n es) (lt-leb (total measure (e ∷ es)) n h)

  tail : (test : K → Bool) (e : K × V) (es : List (K × V)) → lookup test (e ∷ es) ≡ None → (y : Bool) → test e.0 ≡ y → lookup test es ≡ None
  tail test e es h true t = let h' = rw t at h in cc
  tail test e es h false t = rw t at h

  pub lookup-suffix_within : (test : K → Bool) (n : ℕ) (es : List (K × V)) → lookup test es ≡ None → lookup test (suffix_within measure n es) ≡ None
  lookup-suffix_within test n [] h = refl
  lookup-suffix_within test n (e ∷ es) h = elim (dec_lt n (total measure (e ∷ es))) [
    | Prim.yes over ↦ ap (lookup test) (suffix_within-over n (e ∷ es) over) ∙ lookup-suffix_within test n es (tail test e es h (test e.0) refl)
    | Prim.no fits ↦ ap (lookup test) (suffix_within-fits n (e ∷ es) (omega arith)) ∙ h
  ]

  -- a pair that fits leaves the longest suffix that fits beside it
  pub suffix_within-push : (n : ℕ) (es : List (K × V)) (e : K × V) → measure e.0 e.1 ≤ n → suffix_within measure n (es ++ e ∷ []) ≡ suffix_within measure (n - measure e.0 e.1) es ++ e ∷ []
  suffix_within-push n [] e h = suffix_within-fits n (e ∷ []) (omega (arith, total-cons e []))
  suffix_within-push n (f ∷ es) e h = elim (dec_lt n (total measure (f ∷ es ++ e ∷ []))) [
    | Prim.yes over ↦ suffix_within-over n (f ∷ es ++ e ∷ []) over ∙ suffix_within-push n es e h
        ∙ ap (λ l. l ++ e ∷ []) (sym (suffix_within-over (n - measure e.0 e.1) (f ∷ es) (omega (arith, total-push (f ∷ es) e))))
    | Prim.no fits ↦ suffix_within-fits n (f ∷ es ++ e ∷ []) (omega arith)
        ∙ ap (λ l. l ++ e ∷ []) (sym (suffix_within-fits (n - measure e.0 e.1) (f ∷ es) (omega (arith, total-push (f ∷ es) e))))
  ]

  -- one that doesn't fit leaves none
  pub suffix_within-large : (n : ℕ) (es : List (K × V)) (e : K × V) → n < measure e.0 e.1 → suffix_within measure n (es ++ e ∷ []) ≡ []
  suffix_within-large n [] e h = suffix_within-over n (e ∷ []) (omega (arith, total-cons e []))
  suffix_within-large n (f ∷ es) e h = suffix_within-over n (f ∷ es ++ e ∷ []) (omega (arith, total-push (f ∷ es) e)) ∙ suffix_within-large n es e h

  pub length-drop_one : (es : List (K × V)) → 0 < total measure es → length (drop 1 es) < length es
  length-drop_one [] h = absurd (omega arith)
  length-drop_one (e ∷ es) h = omega arith

  touched_as : (test : K → Bool) (es : List (K × V)) (o : Option (K × V)) → lookup_entry test es ≡ o → total measure (option_map_or (λ e. remove_entry test es ++ e ∷ []) o es) ≡ total measure es
  touched_as test es None h = refl
  touched_as test es (Some e) h = omega (arith, total-push (remove_entry test es) e, total-remove_entry test es e h)

  -- a use leaves the sum
  pub total-touched : (test : K → Bool) (es : List (K × V)) → total measure (touched test es) ≡ total measure es
  total-touched test es = touched_as test es (lookup_entry test es) refl

  pub inserted_large : (test : K → Bool) (n : ℕ) (es : List (K × V)) (k : K) (v : V) → n < measure k v → inserted measure test n es k v ≡ []
  inserted_large test n es k v h = suffix_within-large n (remove_entry test es) (k, v) h

  pub inserted_fits : (test : K → Bool) (n : ℕ) (es : List (K × V)) (k : K) (v : V) → measure k v ≤ n → inserted measure test n es k v ≡ suffix_within measure (n - measure k v) (remove_entry test es) ++ (k, v) ∷ []
  inserted_fits test n es k v h = suffix_within-push n (remove_entry test es) (k, v) h

  -- a value written leaves the sum, where no value counts
  pub total-set_value : ((k : K) (v w : V) → measure k v ≡ measure k w) → (test : K → Bool) (es : List (K × V)) (w : V) → total measure (set_value test es w) ≡ total measure es
  total-set_value same test [] w = refl
  total-set_value same test (e ∷ es) w = elim (test e.0) as (λ y. total measure (cond y ((e.0, w) ∷ es) (e ∷ set_value test es w)) ≡ total measure (e ∷ es)) [
    | true ↦ let m = same e.0 w e.1 in omega (arith, m, total-cons (e.0, w) es, total-cons e es)
    | false ↦ let on = total-set_value same test es w in omega (arith, on, total-cons e es, total-cons e (set_value test es w))
  ]

  pub total-written_at : ((k : K) (v w : V) → measure k v ≡ measure k w) → (eq : K → K → Bool) (es : List (K × V)) (ks : List K) (p : ℕ) (w : V) → total measure (written_at eq es ks p w) ≡ total measure es
  total-written_at same eq es ks p w = by_key (slice_get ks p)
    where
      by_key : (o : Option K) → total measure (option_map_or (λ k. set_value (eq k) es w) o es) ≡ total measure es
      by_key None = refl
      by_key (Some k) = total-set_value same (eq k) es w

  pub inserted_all_push : (eq : K → K → Bool) (n : ℕ) (es xs : List (K × V)) (x : K × V) → inserted_all measure eq n es (xs ++ x ∷ []) ≡ inserted measure (eq x.0) n (inserted_all measure eq n es xs) x.0 x.1
  inserted_all_push eq n es [] x = refl
  inserted_all_push eq n es (y ∷ xs) x = inserted_all_push eq n (inserted measure (eq y.0) n es y.0 y.1) xs x

-- one pair more
pub extends_push : {K V S M : Type 0} (measure : M → K → V → ℕ) (eq : K → K → Bool) (old mid new : LruCache K V S M) (xs : List (K × V)) (x : K × V)
    → Extends measure eq old xs mid → new.entries ≡ inserted (measure mid.meter) (eq x.0) mid.capacity mid.entries x.0 x.1 → KeepsParts mid new → mid.spare ≤ new.spare + 1 → Extends measure eq old (xs ++ x ∷ []) new
extends_push measure eq old mid new xs x h put q room = let p = h.parts in record {
  entries = put ∙ (λ i. inserted (measure (p.meter i)) (eq x.0) (p.capacity i) (h.entries i) x.0 x.1) ∙ sym (inserted_all_push (measure old.meter) eq old.capacity old.entries xs x);
  parts = record { capacity = q.capacity ∙ p.capacity; meter = q.meter ∙ p.meter; hasher = q.hasher ∙ p.hasher };
  spare = omega (arith, h.spare, room, length_push xs x);
}
