-- Reading and writing values one after the other, as loops do.
use Rattle.std.proofs.Common.{◌≡◌, ℕ, suc, ◌-◌, ◌+◌, ◌≤◌, ◌<◌, List, [], ◌∷◌, ◌++◌, length, take, drop, get_or, subst, Option, Some, None, refl, sym, ap, ◌∙◌, append_assoc, arith, add-one, drop-cons}
use Rattle.std.proofs.lemmas.List.{append-nil, take_more}
use Rattle.sc_wire.specs.Codec.{◌>>=◌, Codec}
use Rattle.sc_wire.specs.Lists.{read_many, spell_all, FitAll}
use Rattle.sc_wire.specs.declared.error.DecodeError.{DecodeError}
use Rattle.sc_wire.specs.declared.error.DecodeError.TheVariants.{NoMemory, BadFrame}
use Rattle.sc_wire.specs.Gives.{Fails}

-- what was read before, and what is still read
abbrev pub with_front : {A : Type 0} → List A → Option (List A × List ℕ) → Option (List A × List ℕ)
with_front front read = read >>= λ x. Some (front ++ x.0, x.1)

regroup : {A : Type 0} (front : List A) (x : A) (read : Option (List A × List ℕ)) → with_front front (read >>= λ xs. Some (x ∷ xs.0, xs.1)) ≡ with_front (front ++ x ∷ []) read
regroup {A} front x (Some p) = ap (λ (ns : List A). Some (ns, p.1)) (simp append_assoc)
regroup front x None = refl

module _ {A : Type 0} (a : Codec A) where
  pub goes_on : (front : List A) (count i : ℕ) (bytes : List ℕ) (x : A) (after : List ℕ) (total : Option (List A × List ℕ)) → i < count → a.read bytes ≡ Some (x, after)
      → with_front front (read_many a (count - i) bytes) ≡ total → with_front (front ++ x ∷ []) (read_many a (count - (i + 1)) after) ≡ total
  unfolding read_many
  goes_on front count i bytes x after total lt h so_far =
      let k : count - i ≡ suc (count - (i + 1)) = omega arith in
      let one : with_front front (read_many a (count - i) bytes) ≡ with_front (front ++ x ∷ []) (read_many a (count - (i + 1)) after) = rw (k, h) (regroup front x (read_many a (count - (i + 1)) after)) in
      sym one ∙ so_far

  pub ends : (e : DecodeError) (front : List A) (count i : ℕ) (bytes : List ℕ) (total : Option (List A × List ℕ)) → i < count → Fails e (a.read bytes)
      → with_front front (read_many a (count - i) bytes) ≡ total → Fails e total
  unfolding read_many
  ends NoMemory front count i bytes total lt h so_far = tt
  ends BadFrame front count i bytes total lt h so_far =
      let k : count - i ≡ suc (count - (i + 1)) = omega arith in
      let one : with_front front (read_many a (count - i) bytes) ≡ None = rw (k, h) refl in
      sym so_far ∙ one

  pub is_done : (front : List A) (count i : ℕ) (bytes : List ℕ) (total : Option (List A × List ℕ)) → count ≤ i → with_front front (read_many a (count - i) bytes) ≡ total → total ≡ Some (front, bytes)
  unfolding read_many
  is_done front count i bytes total le so_far =
      let k : count - i ≡ 0 = omega arith in
      let one : with_front front (read_many a (count - i) bytes) ≡ Some (front, bytes) = rw k (ap (λ (ns : List A). Some (ns, bytes)) (append-nil front)) in
      sym so_far ∙ one

  pub spelled_on : (xs : List A) (i : ℕ) (before now : List ℕ) (total : List ℕ) (x : A) → i < length xs → x ≡ get_or xs i x → now ≡ before ++ a.spell x
      → before ++ spell_all a (drop i xs) ≡ total → now ++ spell_all a (drop (i + 1) xs) ≡ total
  spelled_on xs i before now total x lt is e so_far =
      let split : drop i xs ≡ x ∷ drop (i + 1) xs = rw add-one (drop-cons xs i x lt ∙ ap (λ (y : A). y ∷ drop (suc i) xs) (sym is)) in
      let step : before ++ spell_all a (drop i xs) ≡ before ++ (a.spell x ++ spell_all a (drop (i + 1) xs)) = ap (λ (ys : List A). before ++ spell_all a ys) split in
      ap (λ (y : List ℕ). y ++ spell_all a (drop (i + 1) xs)) e ∙ append_assoc before (a.spell x) (spell_all a (drop (i + 1) xs)) ∙ sym step ∙ so_far

  fit_push : (xs : List A) (x : A) → FitAll a xs → a.Fits x → FitAll a (xs ++ x ∷ [])
  fit_push [] x h f = (f, tt)
  fit_push (y ∷ xs) x h f = (h.0, fit_push xs x h.1 f)

  pub fit_more : (xs : List A) (i : ℕ) (x : A) → i < length xs → x ≡ get_or xs i x → a.Fits x → FitAll a (take i xs) → FitAll a (take (i + 1) xs)
  fit_more xs i x lt is f h = subst (λ (ys : List A). FitAll a ys) (sym (take_more xs i x lt ∙ ap (λ (y : A). take i xs ++ y ∷ []) (sym is))) (fit_push (take i xs) x h f)
