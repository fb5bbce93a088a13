-- Options, lists, bytes and texts.
use Rattle.std.specs.Prelude.{◌≡◌, ℕ, zero, suc, ◌<◌, ◌≤◌, ◌^◌, Bool, true, false, cond, List, [], ◌∷◌, ◌++◌, length, take, drop, Option, Some, None, IfSome, nat_lt, refl}
use Rattle.std.specs.Str.{is_utf8}
use Rattle.std.proofs.Common.{sym, ap, subst, ◌∙◌, append_assoc, arith}
use Rattle.std.proofs.lemmas.Bool.{ltb-false, le-ltb}
use Rattle.std.proofs.lemmas.List.{take_at, drop_at, take-append-drop, length-append, length-take}
use Rattle.std.proofs.lemmas.Option.{IfSome_then}
use Rattle.sc_wire.specs.Codec.{◌>>=◌, Codec, Took, after_both, where_true}
use Rattle.sc_wire.specs.Numbers.{u64, spell_flag, read_flag, takes_flag}

-- an option: a flag, and the value behind a 1

module _ {A : Type 0} (a : Codec A) where
  abbrev pub spell_option : Option A → List ℕ
  spell_option None = 0 ∷ []
  spell_option (Some x) = 1 ∷ a.spell x

  abbrev pub FitsOption : Option A → Type 0
  FitsOption None = Unit {0}
  FitsOption (Some x) = a.Fits x

  abbrev pub read_behind : Bool → List ℕ → Option (Option A × List ℕ)
  read_behind false bytes = Some (None, bytes)
  read_behind true bytes = a.read bytes >>= λ x. Some (Some x.0, x.1)

  abbrev pub read_option : List ℕ → Option (Option A × List ℕ)
  read_option bytes = read_flag bytes >>= λ b. read_behind b.0 b.1

  pub behind_took : (b : Bool) (bytes : List ℕ) → IfSome (read_behind b bytes) (λ p. ((spell_flag b ++ bytes) ≡ spell_option p.0 ++ p.1) × FitsOption p.0)
  behind_took false bytes = (refl, tt)
  behind_took true bytes =
      after_both (Took a.Fits a.spell bytes) (λ p. ((1 ∷ bytes) ≡ spell_option p.0 ++ p.1) × FitsOption p.0) (a.read bytes) (λ x. Some (Some x.0, x.1)) (a.takes bytes)
      (λ x h. (ap (λ (r : List ℕ). 1 ∷ r) h.0, h.1))

  pub takes_option : (bytes : List ℕ) → IfSome (read_option bytes) (Took FitsOption spell_option bytes)
  takes_option bytes =
      after_both (Took (λ b. Unit {0}) spell_flag bytes) (Took FitsOption spell_option bytes) (read_flag bytes) (λ b. read_behind b.0 b.1) (takes_flag bytes)
      (λ b h. IfSome_then (read_behind b.0 b.1) (behind_took b.0 b.1) (λ p g. (h.0 ∙ g.0, g.1)))

  pub again_option : (o : Option A) (rest : List ℕ) → FitsOption o → read_option (spell_option o ++ rest) ≡ Some (o, rest)
  again_option None rest fits = refl
  again_option (Some x) rest fits = rw (a.again x rest fits) refl

abbrev pub optional : {A : Type 0} → Codec A → Codec (Option A)
optional a = record { Fits = FitsOption a; spell = spell_option a; read = read_option a; takes = takes_option a; again = again_option a }

-- a count, and so many values

module _ {A : Type 0} (a : Codec A) where
  abbrev pub spell_all : List A → List ℕ
  spell_all [] = []
  spell_all (x ∷ xs) = a.spell x ++ spell_all xs

  abbrev pub FitAll : List A → Type 0
  FitAll [] = Unit {0}
  FitAll (x ∷ xs) = a.Fits x × FitAll xs

  unfoldable pub read_many : ℕ → List ℕ → Option (List A × List ℕ)
  read_many zero bytes = Some ([], bytes)
  read_many (suc n) bytes = a.read bytes >>= λ x. (read_many n x.1 >>= λ xs. Some (x.0 ∷ xs.0, xs.1))

  abbrev pub TookMany : ℕ → List ℕ → List A × List ℕ → Type 0
  TookMany n bytes p = (n ≡ length p.0) × Took FitAll spell_all bytes p

  pub takes_many : (n : ℕ) (bytes : List ℕ) → IfSome (read_many n bytes) (TookMany n bytes)
  unfolding read_many
  takes_many zero bytes = (refl, (refl, tt))
  takes_many (suc n) bytes =
      after_both (Took a.Fits a.spell bytes) (TookMany (suc n) bytes) (a.read bytes) (λ x. (read_many n x.1 >>= λ xs. Some (x.0 ∷ xs.0, xs.1))) (a.takes bytes)
      (λ x t. after_both (TookMany n x.1) (TookMany (suc n) bytes) (read_many n x.1) (λ xs. Some (x.0 ∷ xs.0, xs.1)) (takes_many n x.1)
      (λ xs u. (ap (λ (k : ℕ). suc k) u.0, (t.0 ∙ ap (λ (r : List ℕ). a.spell x.0 ++ r) u.1.0 ∙ sym (append_assoc (a.spell x.0) (spell_all xs.0) xs.1), (t.1, u.1.1)))))

  pub again_many : (xs : List A) (rest : List ℕ) → FitAll xs → read_many (length xs) (spell_all xs ++ rest) ≡ Some (xs, rest)
  unfolding read_many
  again_many [] rest fits = refl
  again_many (x ∷ xs) rest fits =
      rw (append_assoc (a.spell x) (spell_all xs) rest, a.again x (spell_all xs ++ rest) fits.0, again_many xs rest fits.1) refl

  abbrev pub spell_list : List A → List ℕ
  spell_list xs = u64.spell (length xs) ++ spell_all xs

  abbrev pub FitsList : List A → Type 0
  FitsList xs = (length xs < 2 ^ 64) × FitAll xs

  abbrev pub read_list : List ℕ → Option (List A × List ℕ)
  read_list bytes = u64.read bytes >>= λ n. read_many n.0 n.1

  pub takes_list : (bytes : List ℕ) → IfSome (read_list bytes) (Took FitsList spell_list bytes)
  takes_list bytes =
      after_both (Took u64.Fits u64.spell bytes) (Took FitsList spell_list bytes) (u64.read bytes) (λ n. read_many n.0 n.1) (u64.takes bytes)
      (λ n h. IfSome_then (read_many n.0 n.1) (takes_many n.0 n.1)
      (λ p g. (h.0 ∙ ap (λ (r : List ℕ). u64.spell n.0 ++ r) g.1.0 ∙ ap (λ (k : ℕ). u64.spell k ++ (spell_all p.0 ++ p.1)) g.0 ∙ sym (append_assoc (u64.spell (length p.0)) (spell_all p.0) p.1), (subst (λ (k : ℕ). k < 2 ^ 64) g.0 h.1, g.1.1))))

  pub again_list : (xs : List A) (rest : List ℕ) → FitsList xs → read_list (spell_list xs ++ rest) ≡ Some (xs, rest)
  again_list xs rest fits =
      rw (append_assoc (u64.spell (length xs)) (spell_all xs) rest, u64.again (length xs) (spell_all xs ++ rest) fits.0) (again_many xs rest fits.1)

abbrev pub list : {A : Type 0} → Codec A → Codec (List A)
list a = record { Fits = FitsList a; spell = spell_list a; read = read_list a; takes = takes_list a; again = again_list a }

-- bytes and texts

abbrev pub read_front : ℕ → List ℕ → Option (List ℕ × List ℕ)
read_front n bytes = cond (nat_lt (length bytes) n) None (Some (take n bytes, drop n bytes))

abbrev pub spell_bytes : List ℕ → List ℕ
spell_bytes text = u64.spell (length text) ++ text

abbrev pub read_bytes : List ℕ → Option (List ℕ × List ℕ)
read_bytes bytes = u64.read bytes >>= λ n. read_front n.0 n.1

pub front_took : (n : ℕ) (bytes : List ℕ) (b : Bool) → nat_lt (length bytes) n ≡ b → IfSome {T = List ℕ × List ℕ} (cond b None (Some (take n bytes, drop n bytes))) (λ p. (n ≡ length p.0) × (bytes ≡ p.0 ++ p.1))
front_took n bytes true e = tt
front_took n bytes false e = (let long : n ≤ length bytes = ltb-false _ _ e in omega (arith, length-take n bytes), sym (take-append-drop n bytes))

pub takes_bytes : (bytes : List ℕ) → IfSome (read_bytes bytes) (Took (λ t. length t < 2 ^ 64) spell_bytes bytes)
takes_bytes bytes =
    after_both (Took u64.Fits u64.spell bytes) (Took (λ t. length t < 2 ^ 64) spell_bytes bytes) (u64.read bytes) (λ n. read_front n.0 n.1) (u64.takes bytes)
    (λ n h. IfSome_then (read_front n.0 n.1) (front_took n.0 n.1 (nat_lt (length n.1) n.0) refl)
    (λ p g. (h.0 ∙ ap (λ (r : List ℕ). u64.spell n.0 ++ r) g.1 ∙ ap (λ (k : ℕ). u64.spell k ++ (p.0 ++ p.1)) g.0 ∙ sym (append_assoc (u64.spell (length p.0)) p.0 p.1), subst (λ (k : ℕ). k < 2 ^ 64) g.0 h.1)))

pub again_bytes : (text rest : List ℕ) → length text < 2 ^ 64 → read_bytes (spell_bytes text ++ rest) ≡ Some (text, rest)
again_bytes text rest fits =
    let long : nat_lt (length (text ++ rest)) (length text) ≡ false = le-ltb _ _ (omega (arith, length-append text rest)) in
    rw (append_assoc (u64.spell (length text)) text rest, u64.again (length text) (text ++ rest) fits, long, take_at text rest (length text) refl, drop_at text rest (length text) refl) refl

abbrev pub byte_text : Codec (List ℕ)
byte_text = record { Fits = λ t. length t < 2 ^ 64; spell = spell_bytes; read = read_bytes; takes = takes_bytes; again = again_bytes }

abbrev pub text : Codec (List ℕ)
text = where_true is_utf8 byte_text
