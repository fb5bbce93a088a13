-- What a call on one part makes of what each part holds.
use Rattle.std.proofs.Common.{◌≡◌, inl, inr, ℕ, zero, suc, Bool, true, false, cond, bytes_eq, List, [], ◌∷◌, ◌++◌, drop, option_map, Option, Some, None, refl, sym, ap, ◌∙◌, subst}
use Rattle.std.specs.Cmp.Lexicographic.{nat_list_eq_equiv}
use Rattle.std.specs.Map.{lookup, lookup_entry, remove_entry}
use Rattle.std.specs.Option.{option_map_or}
use Rattle.sc_lru.specs.Order.{touched}
use Rattle.sc_disk.specs.Store.{filed}
use Rattle.sc_disk.proofs.Files.{same_path}
use Rattle.sc_disk_pair.specs.Pairs.{index_of, other, own_key, with_own}
use Rattle.sc_disk_pair.specs.Parts.{cut_part, in_part}
use Rattle.sc_disk_pair.specs.declared.part.Part.{Part}
use Rattle.sc_disk_pair.specs.declared.part.Part.TheVariants.{Main, Pre}
use Rattle.sc_disk_pair.proofs.Joined.{Kind, kind_of}

abbrev Index : Type 0
Index = List (List ℕ × ℕ)

-- the first pairs go
with_evicted : (o : Option (List ℕ)) (s : ℕ) (xs ys : Index) → (m : ℕ) × (xs ≡ drop m ys) → (m : ℕ) × (xs ≡ drop m (with_own o s ys))
with_evicted None s xs ys h = h
with_evicted (Some k) s xs ys h = (suc h.0, h.1)

pub index-evicted : (p : Part) (n : ℕ) (es : Index) → (m : ℕ) × (index_of p (drop n es) ≡ drop m (index_of p es))
index-evicted p zero es = (0, refl)
index-evicted p (suc n) [] = (0, refl)
index-evicted p (suc n) (e ∷ es) = with_evicted (own_key p (cut_part e.0)) e.1 (index_of p (drop n es)) (index_of p es) (index-evicted p n es)

-- pairs behind others
with_append : (o : Option (List ℕ)) (s : ℕ) (xs ys : Index) → with_own o s (xs ++ ys) ≡ with_own o s xs ++ ys
with_append None s xs ys = refl
with_append (Some k) s xs ys = refl

index-append : (p : Part) (es fs : Index) → index_of p (es ++ fs) ≡ index_of p es ++ index_of p fs
index-append p [] fs = refl
index-append p (e ∷ es) fs = ap (with_own (own_key p (cut_part e.0)) e.1) (index-append p es fs) ∙ with_append (own_key p (cut_part e.0)) e.1 (index_of p es) (index_of p fs)

turned : (q k : List ℕ) → bytes_eq q k ≡ false → bytes_eq k q ≡ false
turned q k h = (nat_list_eq_equiv).symm k q ∙ h

-- A key is taken out: of its part.
abbrev own_test : Part → List ℕ → List ℕ → Bool
own_test part k q = bytes_eq (in_part part k) q

removed_same : (b : Bool) (part : Part) (r : List ℕ) (s : ℕ) (es rest xs : Index) → ((zs : Index) → index_of part ((in_part part r, s) ∷ zs) ≡ (r, s) ∷ index_of part zs) → index_of part rest ≡ xs
    → index_of part (cond b es ((in_part part r, s) ∷ rest)) ≡ cond b (index_of part es) ((r, s) ∷ xs)
removed_same true part r s es rest xs cons h = refl
removed_same false part r s es rest xs cons h = cons rest ∙ ap (λ l. (r, s) ∷ l) h

removed_step : (part : Part) (k q : List ℕ) (s : ℕ) (es : Index) → Kind q → index_of part (remove_entry (bytes_eq (in_part part k)) es) ≡ remove_entry (bytes_eq k) (index_of part es)
    → index_of part (remove_entry (bytes_eq (in_part part k)) ((q, s) ∷ es)) ≡ remove_entry (bytes_eq k) (index_of part ((q, s) ∷ es))
removed_step Main k q s es (inl (Main, r, e)) h = subst (λ u. index_of Main (remove_entry (bytes_eq (in_part Main k)) ((u, s) ∷ es)) ≡ remove_entry (bytes_eq k) (index_of Main ((u, s) ∷ es))) (sym e)
    (removed_same (bytes_eq k r) Main r s es (remove_entry (bytes_eq (in_part Main k)) es) (remove_entry (bytes_eq k) (index_of Main es)) (λ zs. refl) h)
removed_step Main k q s es (inl (Pre, r, e)) h = subst (λ u. index_of Main (remove_entry (bytes_eq (in_part Main k)) ((u, s) ∷ es)) ≡ remove_entry (bytes_eq k) (index_of Main ((u, s) ∷ es))) (sym e) h
removed_step Pre k q s es (inl (Main, r, e)) h = subst (λ u. index_of Pre (remove_entry (bytes_eq (in_part Pre k)) ((u, s) ∷ es)) ≡ remove_entry (bytes_eq k) (index_of Pre ((u, s) ∷ es))) (sym e) h
removed_step Pre k q s es (inl (Pre, r, e)) h = subst (λ u. index_of Pre (remove_entry (bytes_eq (in_part Pre k)) ((u, s) ∷ es)) ≡ remove_entry (bytes_eq k) (index_of Pre ((u, s) ∷ es))) (sym e)
    (removed_same (bytes_eq k r) Pre r s es (remove_entry (bytes_eq (in_part Pre k)) es) (remove_entry (bytes_eq k) (index_of Pre es)) (λ zs. refl) h)
removed_step part k q s es (inr n) h =
    ap (λ b. index_of part (cond b es ((q, s) ∷ remove_entry (bytes_eq (in_part part k)) es))) (turned q (in_part part k) (n.0 part k))
    ∙ ap (λ o. with_own (own_key part o) s (index_of part (remove_entry (bytes_eq (in_part part k)) es))) n.1 ∙ h
    ∙ sym (ap (λ o. remove_entry (bytes_eq k) (with_own (own_key part o) s (index_of part es))) n.1)

pub index-removed : (part : Part) (k : List ℕ) (es : Index) → index_of part (remove_entry (bytes_eq (in_part part k)) es) ≡ remove_entry (bytes_eq k) (index_of part es)
index-removed part k [] = refl
index-removed part k (e ∷ es) = removed_step part k e.0 e.1 es (kind_of e.0) (index-removed part k es)

-- of the other part
elsewhere : (b : Bool) (p : Part) (q : List ℕ) (s : ℕ) (es rest : Index) → (b ≡ true → own_key p (cut_part q) ≡ None) → index_of p rest ≡ index_of p es → index_of p (cond b es ((q, s) ∷ rest)) ≡ index_of p ((q, s) ∷ es)
elsewhere true p q s es rest none h = sym (ap (λ o. with_own o s (index_of p es)) (none refl))
elsewhere false p q s es rest none h = ap (with_own (own_key p (cut_part q)) s) h

no_own : (part : Part) (k : List ℕ) → own_key (other part) (cut_part (in_part part k)) ≡ None
no_own Main k = refl
no_own Pre k = refl

pub index-removed_other : (part : Part) (k : List ℕ) (es : Index) → index_of (other part) (remove_entry (bytes_eq (in_part part k)) es) ≡ index_of (other part) es
index-removed_other part k [] = refl
index-removed_other part k (e ∷ es) = elsewhere (bytes_eq (in_part part k) e.0) (other part) e.0 e.1 es (remove_entry (bytes_eq (in_part part k)) es)
    (λ t. ap (λ q. own_key (other part) (cut_part q)) (sym (same_path (in_part part k) e.0 t)) ∙ no_own part k) (index-removed_other part k es)

-- A file is put in.
last_own : (part : Part) (k : List ℕ) (r : ℕ) → index_of part ((in_part part k, r) ∷ []) ≡ (k, r) ∷ []
last_own Main k r = refl
last_own Pre k r = refl

last_other : (part : Part) (k : List ℕ) (r : ℕ) → index_of (other part) ((in_part part k, r) ∷ []) ≡ []
last_other Main k r = refl
last_other Pre k r = refl

no_more : (xs : Index) → xs ++ [] ≡ xs
no_more [] = refl
no_more (x ∷ xs) = ap (λ l. x ∷ l) (no_more xs)

pub index-filed : (part : Part) (k : List ℕ) (r : ℕ) (es : Index) → index_of part (filed (in_part part k) r es) ≡ filed k r (index_of part es)
index-filed part k r es = index-append part (remove_entry (bytes_eq (in_part part k)) es) ((in_part part k, r) ∷ []) ∙ ap (λ l. l ++ index_of part ((in_part part k, r) ∷ [])) (index-removed part k es)
    ∙ ap (λ l. remove_entry (bytes_eq k) (index_of part es) ++ l) (last_own part k r)

pub index-filed_other : (part : Part) (k : List ℕ) (r : ℕ) (es : Index) → index_of (other part) (filed (in_part part k) r es) ≡ index_of (other part) es
index-filed_other part k r es = index-append (other part) (remove_entry (bytes_eq (in_part part k)) es) ((in_part part k, r) ∷ []) ∙ ap (λ l. index_of (other part) (remove_entry (bytes_eq (in_part part k)) es) ++ l) (last_other part k r)
    ∙ no_more (index_of (other part) (remove_entry (bytes_eq (in_part part k)) es)) ∙ index-removed_other part k es

-- A key is looked up.
found_same : (b : Bool) (s : ℕ) (o p : Option ℕ) → o ≡ p → cond b (Some s) o ≡ cond b (Some s) p
found_same true s o p h = refl
found_same false s o p h = h

lookup_step : (part : Part) (k q : List ℕ) (s : ℕ) (es : Index) → Kind q → lookup (bytes_eq (in_part part k)) es ≡ lookup (bytes_eq k) (index_of part es)
    → lookup (bytes_eq (in_part part k)) ((q, s) ∷ es) ≡ lookup (bytes_eq k) (index_of part ((q, s) ∷ es))
lookup_step Main k q s es (inl (Main, r, e)) h = subst (λ u. lookup (bytes_eq (in_part Main k)) ((u, s) ∷ es) ≡ lookup (bytes_eq k) (index_of Main ((u, s) ∷ es))) (sym e) (ap (cond (bytes_eq k r) (Some s)) h)
lookup_step Main k q s es (inl (Pre, r, e)) h = subst (λ u. lookup (bytes_eq (in_part Main k)) ((u, s) ∷ es) ≡ lookup (bytes_eq k) (index_of Main ((u, s) ∷ es))) (sym e) h
lookup_step Pre k q s es (inl (Main, r, e)) h = subst (λ u. lookup (bytes_eq (in_part Pre k)) ((u, s) ∷ es) ≡ lookup (bytes_eq k) (index_of Pre ((u, s) ∷ es))) (sym e) h
lookup_step Pre k q s es (inl (Pre, r, e)) h = subst (λ u. lookup (bytes_eq (in_part Pre k)) ((u, s) ∷ es) ≡ lookup (bytes_eq k) (index_of Pre ((u, s) ∷ es))) (sym e) (ap (cond (bytes_eq k r) (Some s)) h)
lookup_step part k q s es (inr n) h = ap (λ b. cond b (Some s) (lookup (bytes_eq (in_part part k)) es)) (turned q (in_part part k) (n.0 part k)) ∙ h
    ∙ sym (ap (λ o. lookup (bytes_eq k) (with_own (own_key part o) s (index_of part es))) n.1)

pub lookup-part : (part : Part) (k : List ℕ) (es : Index) → lookup (bytes_eq (in_part part k)) es ≡ lookup (bytes_eq k) (index_of part es)
lookup-part part k [] = refl
lookup-part part k (e ∷ es) = lookup_step part k e.0 e.1 es (kind_of e.0) (lookup-part part k es)

-- A key is used.
abbrev pair_by : List ℕ → Option ℕ → Option (List ℕ × ℕ)
pair_by k o = option_map (λ s. (k, s)) o

entry_by : (b : Bool) (k q : List ℕ) (s : ℕ) (o : Option ℕ) (p : Option (List ℕ × ℕ)) → (b ≡ true → k ≡ q) → p ≡ pair_by k o → cond b (Some (q, s)) p ≡ pair_by k (cond b (Some s) o)
entry_by true k q s o p same h = ap (λ u. Some (u, s)) (sym (same refl))
entry_by false k q s o p same h = h

-- the pair of a key is its size beside it
entry-lookup : (k : List ℕ) (es : Index) → lookup_entry (bytes_eq k) es ≡ pair_by k (lookup (bytes_eq k) es)
entry-lookup k [] = refl
entry-lookup k (e ∷ es) = entry_by (bytes_eq k e.0) k e.0 e.1 (lookup (bytes_eq k) es) (lookup_entry (bytes_eq k) es) (λ t. same_path k e.0 t) (entry-lookup k es)

touched_by : (k : List ℕ) (es : Index) (o : Option ℕ) → lookup (bytes_eq k) es ≡ o → touched (bytes_eq k) es ≡ option_map_or (λ s. filed k s es) o es
touched_by k es None h = ap (λ p. option_map_or (λ e. remove_entry (bytes_eq k) es ++ e ∷ []) p es) (entry-lookup k es ∙ ap (pair_by k) h)
touched_by k es (Some s) h = ap (λ p. option_map_or (λ e. remove_entry (bytes_eq k) es ++ e ∷ []) p es) (entry-lookup k es ∙ ap (pair_by k) h)

used_by : (part : Part) (k : List ℕ) (es : Index) (o : Option ℕ) → index_of part (option_map_or (λ s. filed (in_part part k) s es) o es) ≡ option_map_or (λ s. filed k s (index_of part es)) o (index_of part es)
used_by part k es None = refl
used_by part k es (Some s) = index-filed part k s es

used_other : (part : Part) (k : List ℕ) (es : Index) (o : Option ℕ) → index_of (other part) (option_map_or (λ s. filed (in_part part k) s es) o es) ≡ index_of (other part) es
used_other part k es None = refl
used_other part k es (Some s) = index-filed_other part k s es

pub index-touched : (part : Part) (k : List ℕ) (es : Index) → index_of part (touched (bytes_eq (in_part part k)) es) ≡ touched (bytes_eq k) (index_of part es)
index-touched part k es = let o = lookup (bytes_eq k) (index_of part es) in
    ap (index_of part) (touched_by (in_part part k) es o (lookup-part part k es)) ∙ used_by part k es o ∙ sym (touched_by k (index_of part es) o refl)

pub index-touched_other : (part : Part) (k : List ℕ) (es : Index) → index_of (other part) (touched (bytes_eq (in_part part k)) es) ≡ index_of (other part) es
index-touched_other part k es = let o = lookup (bytes_eq (in_part part k)) es in ap (index_of (other part)) (touched_by (in_part part k) es o refl) ∙ used_other part k es o
