-- Bytes can be read as they come.
use Rattle.std.proofs.Common.{◌≡◌, ℕ, zero, suc, ◌+◌, ◌*◌, ◌<◌, ◌≤◌, ⊎_elim, Bool, true, false, cond, List, [], ◌∷◌, ◌++◌, length, take, drop, Option, Some, None, refl, sym, ap, ◌∙◌, subst, arith, length-append, nat_lt}
use Rattle.sc_model.specs.Conns.{more}
use Rattle.sc_model.specs.Script.{ReadsOn}
use Rattle.sc_model.specs.Stream.{Bad, Frame, Front, Part, decoded, end_at_front, framed, front, read_requests, read_rest, stream_reader}
use Rattle.sc_model.specs.declared.message.Request.{Request}
use Rattle.std.proofs.lemmas.Bool.{cases_lt, le-ltb, lt-ltb}
use Rattle.std.proofs.lemmas.List.{append-nil}

module _ (limit : ℕ) (decode : List ℕ → Option Request) where
  -- more bytes change neither a bad front nor a whole frame
  abbrev Grows : Front → List ℕ → Front → Type 0
  Grows Part more f = Unit {0}
  Grows Bad more f = f ≡ Bad
  Grows (Frame r rest) more f = f ≡ Frame r (rest ++ more)

  take_more : (n : ℕ) (b more : List ℕ) → n ≤ length b → take n (b ++ more) ≡ take n b
  take_more zero b more l = refl
  take_more (suc n) [] more l = absurd (omega arith)
  take_more (suc n) (x ∷ b) more l = ap (λ v. x ∷ v) (take_more n b more (omega arith))

  drop_more : (n : ℕ) (b more : List ℕ) → n ≤ length b → drop n (b ++ more) ≡ drop n b ++ more
  drop_more zero b more l = refl
  drop_more (suc n) [] more l = absurd (omega arith)
  drop_more (suc n) (x ∷ b) more l = drop_more n b more (omega arith)

  drop_shorter : (n : ℕ) (b : List ℕ) → length (drop n b) ≤ length b
  drop_shorter zero b = omega arith
  drop_shorter (suc n) [] = omega arith
  drop_shorter (suc n) (x ∷ b) = let ih = drop_shorter n b in omega (arith, ih)

  decoded_grows : (o : Option Request) (rest more : List ℕ) → Grows (decoded o rest) more (decoded o (rest ++ more))
  decoded_grows None rest more = refl
  decoded_grows (Some r) rest more = refl

  framed_grows : (n : ℕ) (b more : List ℕ) → Grows (framed limit decode n b) more (framed limit decode n (b ++ more))
  framed_grows n b more =
      ⊎_elim (λ (big : limit < n). subst (λ v. Grows (cond v Bad (cond (nat_lt (length b) n) Part (decoded (decode (take n b)) (drop n b)))) more (cond v Bad (cond (nat_lt (length (b ++ more)) n) Part (decoded (decode (take n (b ++ more))) (drop n (b ++ more)))))) (sym (lt-ltb limit n big)) refl)
      (λ (fits : n ≤ limit). subst (λ v. Grows (cond v Bad (cond (nat_lt (length b) n) Part (decoded (decode (take n b)) (drop n b)))) more (cond v Bad (cond (nat_lt (length (b ++ more)) n) Part (decoded (decode (take n (b ++ more))) (drop n (b ++ more)))))) (sym (le-ltb limit n fits))
      (⊎_elim (λ (short : length b < n). subst (λ v. Grows (cond v Part (decoded (decode (take n b)) (drop n b))) more (cond (nat_lt (length (b ++ more)) n) Part (decoded (decode (take n (b ++ more))) (drop n (b ++ more))))) (sym (lt-ltb (length b) n short)) tt)
      (λ (whole : n ≤ length b).
      let l : n ≤ length (b ++ more) = omega (arith, whole, length-append b more) in
      subst (λ v. Grows (cond v Part (decoded (decode (take n b)) (drop n b))) more (cond (nat_lt (length (b ++ more)) n) Part (decoded (decode (take n (b ++ more))) (drop n (b ++ more))))) (sym (le-ltb (length b) n whole))
      (subst (λ v. Grows (decoded (decode (take n b)) (drop n b)) more (cond v Part (decoded (decode (take n (b ++ more))) (drop n (b ++ more))))) (sym (le-ltb (length (b ++ more)) n l))
      (subst (λ v. Grows (decoded (decode (take n b)) (drop n b)) more (decoded (decode v) (drop n (b ++ more)))) (sym (take_more n b more whole))
      (subst (λ v. Grows (decoded (decode (take n b)) (drop n b)) more (decoded (decode (take n b)) v)) (sym (drop_more n b more whole)) (decoded_grows (decode (take n b)) (drop n b) more)))))
      (cases_lt (length b) n)))
      (cases_lt limit n)

  front_grows : (b more : List ℕ) → Grows (front limit decode b) more (front limit decode (b ++ more))
  front_grows [] more = tt
  front_grows (x ∷ []) more = tt
  front_grows (x ∷ y ∷ []) more = tt
  front_grows (x ∷ y ∷ z ∷ []) more = tt
  front_grows (x ∷ y ∷ z ∷ w ∷ b) more = framed_grows (((x * 256 + y) * 256 + z) * 256 + w) b more

  abbrev pub Shrinks : Front → ℕ → Type 0
  Shrinks Part n = Unit {0}
  Shrinks Bad n = Unit {0}
  Shrinks (Frame r rest) n = length rest < n

  shrinks_cond : (c : Bool) (f g : Front) (n : ℕ) → Shrinks f n → Shrinks g n → Shrinks (cond c f g) n
  shrinks_cond true f g n x y = x
  shrinks_cond false f g n x y = y

  decoded_shrinks : (o : Option Request) (rest : List ℕ) (n : ℕ) → length rest < n → Shrinks (decoded o rest) n
  decoded_shrinks None rest n l = tt
  decoded_shrinks (Some r) rest n l = l

  pub front_shrinks : (b : List ℕ) → Shrinks (front limit decode b) (length b)
  front_shrinks [] = tt
  front_shrinks (x ∷ []) = tt
  front_shrinks (x ∷ y ∷ []) = tt
  front_shrinks (x ∷ y ∷ z ∷ []) = tt
  front_shrinks (x ∷ y ∷ z ∷ w ∷ b) =
      let n = ((x * 256 + y) * 256 + z) * 256 + w in
      let m : ℕ = suc (suc (suc (suc (length b)))) in
      let d = drop_shorter n b in
      shrinks_cond (nat_lt limit n) Bad (cond (nat_lt (length b) n) Part (decoded (decode (take n b)) (drop n b))) m tt
      (shrinks_cond (nat_lt (length b) n) Part (decoded (decode (take n b)) (drop n b)) m tt (decoded_shrinks (decode (take n b)) (drop n b) m (omega (arith, d))))

  abbrev reqs_of : ℕ → Front → List Request
  reqs_of n f = elim f [ Part ↦ [] | Bad ↦ [] | Frame r rest ↦ r ∷ read_requests limit decode n rest ]

  abbrev rest_of : ℕ → List ℕ → Front → List ℕ
  rest_of n b f = elim f [ Part ↦ b | Bad ↦ b | Frame r rest ↦ read_rest limit decode n rest ]

  pub same_requests : (k j : ℕ) (b : List ℕ) → length b ≤ k → length b ≤ j → read_requests limit decode k b ≡ read_requests limit decode j b
  same_requests zero zero b l q = refl
  same_requests zero (suc j) [] l q = refl
  same_requests zero (suc j) (x ∷ b) l q = absurd (omega (arith, l))
  same_requests (suc k) zero [] l q = refl
  same_requests (suc k) zero (x ∷ b) l q = absurd (omega (arith, q))
  same_requests (suc k) (suc j) b l q =
      let ih : (rest : List ℕ) → length rest ≤ k → length rest ≤ j → read_requests limit decode k rest ≡ read_requests limit decode j rest = λ rest x y. same_requests k j rest x y in
      by_front ih (front limit decode b) (front_shrinks b)
    where
      by_front : ((rest : List ℕ) → length rest ≤ k → length rest ≤ j → read_requests limit decode k rest ≡ read_requests limit decode j rest) → (f : Front) → Shrinks f (length b) → reqs_of k f ≡ reqs_of j f
      by_front ih Part s = refl
      by_front ih Bad s = refl
      by_front ih (Frame r rest) s = ap (λ v. r ∷ v) (ih rest (omega (arith, s, l)) (omega (arith, s, q)))

  pub same_rest : (k j : ℕ) (b : List ℕ) → length b ≤ k → length b ≤ j → read_rest limit decode k b ≡ read_rest limit decode j b
  same_rest zero zero b l q = refl
  same_rest zero (suc j) [] l q = refl
  same_rest zero (suc j) (x ∷ b) l q = absurd (omega (arith, l))
  same_rest (suc k) zero [] l q = refl
  same_rest (suc k) zero (x ∷ b) l q = absurd (omega (arith, q))
  same_rest (suc k) (suc j) b l q =
      let ih : (rest : List ℕ) → length rest ≤ k → length rest ≤ j → read_rest limit decode k rest ≡ read_rest limit decode j rest = λ rest x y. same_rest k j rest x y in
      by_front ih (front limit decode b) (front_shrinks b)
    where
      by_front : ((rest : List ℕ) → length rest ≤ k → length rest ≤ j → read_rest limit decode k rest ≡ read_rest limit decode j rest) → (f : Front) → Shrinks f (length b) → rest_of k b f ≡ rest_of j b f
      by_front ih Part s = refl
      by_front ih Bad s = refl
      by_front ih (Frame r rest) s = ih rest (omega (arith, s, l)) (omega (arith, s, q))

  -- what is left has no frame in front, and is read no further
  rest_short : (n : ℕ) (b : List ℕ) → length (read_rest limit decode n b) ≤ length b
  rest_short zero b = omega arith
  rest_short (suc n) b = by_front (λ rest. rest_short n rest) (front limit decode b) (front_shrinks b)
    where
      by_front : ((rest : List ℕ) → length (read_rest limit decode n rest) ≤ length rest) → (f : Front) → Shrinks f (length b) → length (rest_of n b f) ≤ length b
      by_front ih Part s = omega arith
      by_front ih Bad s = omega arith
      by_front ih (Frame r rest) s = let x = ih rest in omega (arith, x, s)

  more_requests : (n k j : ℕ) (b more : List ℕ) → length b ≤ n → length (b ++ more) ≤ k → length (read_rest limit decode n b ++ more) ≤ j
      → read_requests limit decode k (b ++ more) ≡ read_requests limit decode n b ++ read_requests limit decode j (read_rest limit decode n b ++ more)
  more_requests zero k j b more l q p = same_requests k j (b ++ more) q p
  more_requests (suc n) k j b more l q p = by_front (λ i rest x y z. more_requests n i j rest more x y z) (front limit decode b) refl (front_shrinks b) (front_grows b more) p
    where
      -- the first frame of the longer bytes
      first : (k : ℕ) (r : Request) (rest : List ℕ) → length (b ++ more) ≤ k → length rest < length b → front limit decode (b ++ more) ≡ Frame r (rest ++ more) → (i : ℕ) × (suc i ≡ k) × (read_requests limit decode k (b ++ more) ≡ r ∷ read_requests limit decode i (rest ++ more))
      first zero r rest q s g = absurd (omega (arith, q, s, length-append b more))
      first (suc i) r rest q s g = (i, refl, ap (reqs_of i) g)

      by_front : ((i : ℕ) (rest : List ℕ) → length rest ≤ n → length (rest ++ more) ≤ i → length (read_rest limit decode n rest ++ more) ≤ j → read_requests limit decode i (rest ++ more) ≡ read_requests limit decode n rest ++ read_requests limit decode j (read_rest limit decode n rest ++ more)) → (f : Front) → front limit decode b ≡ f → Shrinks f (length b) → Grows f more (front limit decode (b ++ more)) → length (rest_of n b f ++ more) ≤ j → read_requests limit decode k (b ++ more) ≡ reqs_of n f ++ read_requests limit decode j (rest_of n b f ++ more)
      by_front ih Part e s g p = same_requests k j (b ++ more) q p
      by_front ih Bad e s g p = same_requests k j (b ++ more) q p
      by_front ih (Frame r rest) e s g p =
          let a = first k r rest q s g in
          a.2 ∙ ap (λ v. r ∷ v) (ih a.0 rest (omega (arith, s, l)) (let x = a.1 in omega (arith, q, s, x, length-append b more, length-append rest more)) p)

  more_rest : (n k j : ℕ) (b more : List ℕ) → length b ≤ n → length (b ++ more) ≤ k → length (read_rest limit decode n b ++ more) ≤ j
      → read_rest limit decode k (b ++ more) ≡ read_rest limit decode j (read_rest limit decode n b ++ more)
  more_rest zero k j b more l q p = same_rest k j (b ++ more) q p
  more_rest (suc n) k j b more l q p = by_front (λ i rest x y z. more_rest n i j rest more x y z) (front limit decode b) (front_shrinks b) (front_grows b more) p
    where
      first : (k : ℕ) (r : Request) (rest : List ℕ) → length (b ++ more) ≤ k → length rest < length b → front limit decode (b ++ more) ≡ Frame r (rest ++ more) → (i : ℕ) × (suc i ≡ k) × (read_rest limit decode k (b ++ more) ≡ read_rest limit decode i (rest ++ more))
      first zero r rest q s g = absurd (omega (arith, q, s, length-append b more))
      first (suc i) r rest q s g = (i, refl, ap (rest_of i (b ++ more)) g)

      by_front : ((i : ℕ) (rest : List ℕ) → length rest ≤ n → length (rest ++ more) ≤ i → length (read_rest limit decode n rest ++ more) ≤ j → read_rest limit decode i (rest ++ more) ≡ read_rest limit decode j (read_rest limit decode n rest ++ more)) → (f : Front) → Shrinks f (length b) → Grows f more (front limit decode (b ++ more)) → length (rest_of n b f ++ more) ≤ j → read_rest limit decode k (b ++ more) ≡ read_rest limit decode j (rest_of n b f ++ more)
      by_front ih Part s g p = same_rest k j (b ++ more) q p
      by_front ih Bad s g p = same_rest k j (b ++ more) q p
      by_front ih (Frame r rest) s g p =
          let a = first k r rest q s g in
          a.2 ∙ ih a.0 rest (omega (arith, s, l)) (let x = a.1 in omega (arith, q, s, x, length-append b more, length-append rest more)) p

  none_more : (b : List ℕ) → b ++ [] ≡ b
  none_more b = append-nil b

  -- what is left is left again
  pub rest_again : (b : List ℕ) → read_rest limit decode (length (read_rest limit decode (length b) b)) (read_rest limit decode (length b) b) ≡ read_rest limit decode (length b) b
  rest_again b =
      let r = read_rest limit decode (length b) b in
      let e : r ++ [] ≡ r = append-nil r in
      let a = more_rest (length b) (length b) (length r) b [] (omega arith) (omega (arith, length-append b [])) (omega (arith, length-append r [])) in
      ap (λ v. read_rest limit decode (length r) v) (sym e) ∙ sym a ∙ ap (λ v. read_rest limit decode (length b) v) (append-nil b)

  pub reads_on : ReadsOn (stream_reader limit decode)
  reads_on = record {
    none = refl;
    nothing = refl;
    requests = λ b more. more_requests (length b) (length (b ++ more)) (length (read_rest limit decode (length b) b ++ more)) b more (omega arith) (omega arith) (omega arith);
    rest = λ b more. more_rest (length b) (length (b ++ more)) (length (read_rest limit decode (length b) b ++ more)) b more (omega arith) (omega arith) (omega arith);
    ends = λ b closed. ap (λ v. end_at_front (front limit decode v) closed v) (sym (rest_again b));
  }
