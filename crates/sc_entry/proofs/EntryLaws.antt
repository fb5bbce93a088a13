-- What is read of an entry is spelled so, and what is spelled is read again.
use Rattle.std.proofs.Common.{◌≡◌, ℕ, zero, suc, ◌<◌, ◌≤◌, ◌^◌, Bool, true, false, cond, not, ◌==◌, List, [], ◌∷◌, ◌++◌, length, take, drop, Option, Some, None, refl, sym, ap, subst, ◌∙◌, append_assoc, arith, nat_lt, length-append}
use Rattle.std.specs.Prelude.{codes, IsTrue, IfSome}
use Rattle.std.specs.Str.{bytes_eq}
use Rattle.std.specs.Int.{Width, w16, w32, w64, byte_len, from_le_bytes}
use Rattle.std.specs.Cmp.{first_so, second_so}
use Rattle.std.proofs.lemmas.Bool.{ltb-false, ltb-true, lt-ltb, le-ltb, eqb-true}
use Rattle.std.proofs.lemmas.List.{append-nil, take_at, drop_at, take-append-drop, length-take}
use Rattle.std.proofs.lemmas.Nat.{from_le_bytes-to_le_bytes_2, from_le_bytes-to_le_bytes_4, from_le_bytes-to_le_bytes_8}
use Rattle.std.proofs.lemmas.Option.{IfSome_then}
use Rattle.std.proofs.lemmas.Slice.Eq.{bytes_eq-Decides}
use Rattle.sc_entry.specs.declared.object.Object.{Object}
use Rattle.sc_entry.specs.Entries.{is_object_name, FitsMode, IsObject, AreObjects, has_name, are_new, IsEntryList, spell_number, spell_mode, spell_object, spell_objects, entry, ◌>>=◌, number_at, has_number, read_number, read_front, read_name, read_mode, read_data, read_object, read_objects, objects}

-- what holds of whatever both steps give
pub after_both : {A B : Type 0} (P : A → Type 0) (Q : B → Type 0) (o : Option A) (f : A → Option B) → IfSome o P → ((x : A) → P x → IfSome (f x) Q) → IfSome (o >>= f) Q
after_both P Q (Some x) f h next = next x h
after_both P Q None f h next = tt

-- what was read of the bytes is spelled so, and fits
abbrev pub Took : {A : Type 0} → (A → Type 0) → (A → List ℕ) → List ℕ → A × List ℕ → Type 0
Took Fits spell bytes p = (bytes ≡ spell p.0 ++ p.1) × Fits p.0

-- ---- numbers

pub record IsWide (w : Width) (limit : ℕ) : Type 0 where
  pub len : (n : ℕ) → length (spell_number w n) ≡ byte_len w
  pub again : (n : ℕ) → n < limit → from_le_bytes w (spell_number w n) ≡ n

pub wide16 : IsWide w16 (2 ^ 16)
unfolding spell_number
wide16 = record { len = λ n. refl; again = from_le_bytes-to_le_bytes_2 }

pub wide32 : IsWide w32 (2 ^ 32)
unfolding spell_number
wide32 = record { len = λ n. refl; again = from_le_bytes-to_le_bytes_4 }

pub wide64 : IsWide w64 (2 ^ 64)
unfolding spell_number
wide64 = record { len = λ n. refl; again = from_le_bytes-to_le_bytes_8 }

abbrev pub TookNumber : Width → ℕ → List ℕ → ℕ × List ℕ → Type 0
TookNumber w limit bytes p = (bytes ≡ spell_number w p.0 ++ p.1) × (p.0 < limit)

number_took : (w : Width) (limit : ℕ) (bytes : List ℕ) (b : Bool) → has_number w limit bytes ≡ b
    → IfSome (cond b (Some (number_at w bytes, drop (byte_len w) bytes)) None) (TookNumber w limit bytes)
number_took w limit bytes true e =
    let same : spell_number w (number_at w bytes) ≡ take (byte_len w) bytes = (bytes_eq-Decides _ _).0 (first_so _ _ e) in
    (rw same (sym (take-append-drop (byte_len w) bytes)), ltb-true _ _ (second_so _ _ e))
number_took w limit bytes false e = tt

pub takes_number : (w : Width) (limit : ℕ) (bytes : List ℕ) → IfSome (read_number w limit bytes) (TookNumber w limit bytes)
unfolding read_number
takes_number w limit bytes = number_took w limit bytes (has_number w limit bytes) refl

pub again_number : (w : Width) (limit : ℕ) → IsWide w limit → (n : ℕ) (rest : List ℕ) → n < limit → read_number w limit (spell_number w n ++ rest) ≡ Some (n, rest)
unfolding read_number
again_number w limit wide n rest lt =
    let len = wide.len n in
    let same : bytes_eq (spell_number w n) (spell_number w n) ≡ true = (bytes_eq-Decides (spell_number w n) (spell_number w n)).1 refl in
    rw (take_at (spell_number w n) rest (byte_len w) len, drop_at (spell_number w n) rest (byte_len w) len, wide.again n lt, same, lt-ltb n limit lt) refl

-- ---- pieces

abbrev pub TookFront : ℕ → List ℕ → List ℕ × List ℕ → Type 0
TookFront n bytes p = (n ≡ length p.0) × (bytes ≡ p.0 ++ p.1)

front_took : (n : ℕ) (bytes : List ℕ) (b : Bool) → nat_lt (length bytes) n ≡ b → IfSome {T = List ℕ × List ℕ} (cond b None (Some (take n bytes, drop n bytes))) (TookFront n bytes)
front_took n bytes true e = tt
front_took n bytes false e = (let long : n ≤ length bytes = ltb-false _ _ e in omega (arith, length-take n bytes), sym (take-append-drop n bytes))

pub takes_front : (n : ℕ) (bytes : List ℕ) → IfSome (read_front n bytes) (TookFront n bytes)
unfolding read_front
takes_front n bytes = front_took n bytes (nat_lt (length bytes) n) refl

pub again_front : (text rest : List ℕ) → read_front (length text) (text ++ rest) ≡ Some (text, rest)
unfolding read_front
again_front text rest =
    let long : nat_lt (length (text ++ rest)) (length text) ≡ false = le-ltb _ _ (omega (arith, length-append text rest)) in
    rw (long, take_at text rest (length text) refl, drop_at text rest (length text) refl) refl

-- a length and so many bytes
abbrev pub spell_piece : Width → List ℕ → List ℕ
spell_piece w text = spell_number w (length text) ++ text

took_piece : (w : Width) (limit : ℕ) (bytes : List ℕ) (n : ℕ × List ℕ) (p : List ℕ × List ℕ) → TookNumber w limit bytes n → TookFront n.0 n.1 p
    → Took (λ text. length text < limit) (spell_piece w) bytes p
took_piece w limit bytes n p h g = (
  h.0 ∙ ap (λ (r : List ℕ). spell_number w n.0 ++ r) g.1 ∙ ap (λ (k : ℕ). spell_number w k ++ (p.0 ++ p.1)) g.0 ∙ sym (append_assoc (spell_number w (length p.0)) p.0 p.1),
  subst (λ (k : ℕ). k < limit) g.0 h.1,
)

-- ---- a name

abbrev pub TookName : List ℕ → List ℕ × List ℕ → Type 0
TookName = Took (λ name. IsTrue (is_object_name name)) (spell_piece w16)

name_took : (bytes : List ℕ) (p : List ℕ × List ℕ) (b : Bool) → is_object_name p.0 ≡ b → Took (λ text. length text < 2 ^ 16) (spell_piece w16) bytes p
    → IfSome (cond b (Some p) None) (TookName bytes)
name_took bytes p true e t = (t.0, e)
name_took bytes p false e t = tt

pub takes_name : (bytes : List ℕ) → IfSome (read_name bytes) (TookName bytes)
unfolding read_name
takes_name bytes =
    after_both (TookNumber w16 (2 ^ 16) bytes) (TookName bytes) (read_number w16 (2 ^ 16) bytes) _ (takes_number w16 (2 ^ 16) bytes)
    (λ n h. after_both (TookFront n.0 n.1) (TookName bytes) (read_front n.0 n.1) _ (takes_front n.0 n.1)
    (λ p g. name_took bytes p (is_object_name p.0) refl (took_piece w16 (2 ^ 16) bytes n p h g)))

name_length : (name : List ℕ) → IsTrue (is_object_name name) → length name < 2 ^ 16
name_length name good = ltb-true _ _ (first_so _ _ (second_so _ _ good))

pub again_name : (name rest : List ℕ) → IsTrue (is_object_name name) → read_name (spell_number w16 (length name) ++ (name ++ rest)) ≡ Some (name, rest)
unfolding read_name
again_name name rest good = rw (again_number w16 (2 ^ 16) wide16 (length name) (name ++ rest) (name_length name good), again_front name rest, good) refl

-- ---- a mode

abbrev pub TookMode : List ℕ → Option ℕ × List ℕ → Type 0
TookMode = Took FitsMode spell_mode

some_mode : (b : ℕ) (bytes : List ℕ) (is : Bool) → (b == 1) ≡ is → IfSome (cond is (read_number w32 (2 ^ 32) bytes >>= λ n. Some (Some n.0, n.1)) None) (TookMode (b ∷ bytes))
some_mode b bytes true e =
    after_both (TookNumber w32 (2 ^ 32) bytes) (TookMode (b ∷ bytes)) (read_number w32 (2 ^ 32) bytes) (λ n. Some (Some n.0, n.1)) (takes_number w32 (2 ^ 32) bytes)
    (λ n h. (ap (λ (k : ℕ). k ∷ bytes) (eqb-true b 1 e) ∙ ap (λ (r : List ℕ). 1 ∷ r) h.0, h.1))
some_mode b bytes false e = tt

no_mode : (b : ℕ) (bytes : List ℕ) (is : Bool) → (b == 0) ≡ is
    → IfSome (cond is (Some (None, bytes)) (cond (b == 1) (read_number w32 (2 ^ 32) bytes >>= λ n. Some (Some n.0, n.1)) None)) (TookMode (b ∷ bytes))
no_mode b bytes true e = (ap (λ (k : ℕ). k ∷ bytes) (eqb-true b 0 e), tt)
no_mode b bytes false e = some_mode b bytes (b == 1) refl

pub takes_mode : (bytes : List ℕ) → IfSome (read_mode bytes) (TookMode bytes)
unfolding read_mode
takes_mode [] = tt
takes_mode (b ∷ bytes) = no_mode b bytes (b == 0) refl

pub again_mode : (mode : Option ℕ) (rest : List ℕ) → FitsMode mode → read_mode (spell_mode mode ++ rest) ≡ Some (mode, rest)
unfolding read_mode
again_mode None rest fits = refl
again_mode (Some m) rest fits = rw (again_number w32 (2 ^ 32) wide32 m rest fits) refl

-- ---- data

abbrev pub TookData : List ℕ → List ℕ × List ℕ → Type 0
TookData = Took (λ text. length text < 2 ^ 64) (spell_piece w64)

pub takes_data : (bytes : List ℕ) → IfSome (read_data bytes) (TookData bytes)
unfolding read_data
takes_data bytes =
    after_both (TookNumber w64 (2 ^ 64) bytes) (TookData bytes) (read_number w64 (2 ^ 64) bytes) _ (takes_number w64 (2 ^ 64) bytes)
    (λ n h. IfSome_then (read_front n.0 n.1) (takes_front n.0 n.1) (λ p g. took_piece w64 (2 ^ 64) bytes n p h g))

pub again_data : (text rest : List ℕ) → length text < 2 ^ 64 → read_data (spell_number w64 (length text) ++ (text ++ rest)) ≡ Some (text, rest)
unfolding read_data
again_data text rest fits = rw (again_number w64 (2 ^ 64) wide64 (length text) (text ++ rest) fits, again_front text rest) refl

-- ---- an object

abbrev pub TookObject : List ℕ → Object × List ℕ → Type 0
TookObject = Took IsObject spell_object

glued : (a n m l d r : List ℕ) → (a ++ n) ++ (m ++ ((l ++ d) ++ r)) ≡ (a ++ (n ++ (m ++ (l ++ d)))) ++ r
glued a n m l d r = simp append_assoc refl

object_took : (bytes : List ℕ) (name : List ℕ × List ℕ) (mode : Option ℕ × List ℕ) (text : List ℕ × List ℕ) → TookName bytes name → TookMode name.1 mode → TookData mode.1 text
    → TookObject bytes (record { name = name.0; mode = mode.0; bytes = text.0 }, text.1)
object_took bytes name mode text h g k = (
  h.0 ∙ ap (λ (r : List ℕ). spell_piece w16 name.0 ++ r) (g.0 ∙ ap (λ (r : List ℕ). spell_mode mode.0 ++ r) k.0)
      ∙ glued (spell_number w16 (length name.0)) name.0 (spell_mode mode.0) (spell_number w64 (length text.0)) text.0 text.1,
  (h.1, g.1, k.1),
)

pub takes_object : (bytes : List ℕ) → IfSome (read_object bytes) (TookObject bytes)
unfolding read_object
takes_object bytes =
    after_both (TookName bytes) (TookObject bytes) (read_name bytes) _ (takes_name bytes)
    (λ name h. after_both (TookMode name.1) (TookObject bytes) (read_mode name.1) _ (takes_mode name.1)
    (λ mode g. after_both (TookData mode.1) (TookObject bytes) (read_data mode.1) _ (takes_data mode.1)
    (λ text k. object_took bytes name mode text h g k)))

unglued : (a n m l d r : List ℕ) → (a ++ (n ++ (m ++ (l ++ d)))) ++ r ≡ a ++ (n ++ (m ++ (l ++ (d ++ r))))
unglued a n m l d r = simp append_assoc refl

pub again_object : (o : Object) (rest : List ℕ) → IsObject o → read_object (spell_object o ++ rest) ≡ Some (o, rest)
unfolding read_object
again_object o rest fits =
    rw (
      unglued (spell_number w16 (length o.name)) o.name (spell_mode o.mode) (spell_number w64 (length o.bytes)) o.bytes rest,
      again_name o.name (spell_mode o.mode ++ (spell_number w64 (length o.bytes) ++ (o.bytes ++ rest))) fits.0,
      again_mode o.mode (spell_number w64 (length o.bytes) ++ (o.bytes ++ rest)) fits.1,
      again_data o.bytes rest fits.2,
    ) refl

-- ---- a list of objects

abbrev pub TookObjects : ℕ → List Object → List ℕ → List Object → Type 0
TookObjects n before bytes all = (os : List Object) × (all ≡ before ++ os) × (bytes ≡ spell_objects os) × (n ≡ length os) × AreObjects os × IsTrue (are_new before os)

object_new : (n : ℕ) (before : List Object) (bytes : List ℕ) (o : Object × List ℕ) (b : Bool) → has_name o.0.name before ≡ b → TookObject bytes o
    → IfSome (read_objects n (before ++ (o.0 ∷ [])) o.1) (TookObjects n (before ++ (o.0 ∷ [])) o.1)
    → IfSome (cond b None (read_objects n (before ++ (o.0 ∷ [])) o.1)) (TookObjects (suc n) before bytes)
object_new n before bytes o true e t more = tt
object_new n before bytes o false e t more =
    IfSome_then (read_objects n (before ++ (o.0 ∷ [])) o.1) more
    (λ all h. (o.0 ∷ h.0, h.1 ∙ append_assoc before (o.0 ∷ []) h.0, t.0 ∙ ap (λ (r : List ℕ). spell_object o.0 ++ r) h.2, ap (λ (k : ℕ). suc k) h.3, (t.1, h.4), rw e h.5))

pub takes_objects : (n : ℕ) (before : List Object) (bytes : List ℕ) → IfSome (read_objects n before bytes) (TookObjects n before bytes)
unfolding read_objects
takes_objects zero before [] = ([], sym (append-nil before), refl, refl, tt, refl)
takes_objects zero before (b ∷ bytes) = tt
takes_objects (suc n) before bytes =
    after_both (TookObject bytes) (TookObjects (suc n) before bytes) (read_object bytes) _ (takes_object bytes)
    (λ o t. object_new n before bytes o (has_name o.0.name before) refl t (takes_objects n (before ++ (o.0 ∷ [])) o.1))

not_true : (b : Bool) → IsTrue (not b) → b ≡ false
not_true true h = sym h
not_true false h = refl

pub again_objects : (os before : List Object) → AreObjects os → IsTrue (are_new before os) → read_objects (length os) before (spell_objects os) ≡ Some (before ++ os)
unfolding read_objects
again_objects [] before good new = ap Some (sym (append-nil before))
again_objects (o ∷ os) before good new =
    let first : has_name o.name before ≡ false = not_true _ (first_so _ _ new) in
    rw (again_object o (spell_objects os) good.0, first)
    (again_objects os (before ++ (o ∷ [])) good.1 (second_so _ _ new) ∙ ap Some (append_assoc before (o ∷ []) os))

-- ---- an entry

abbrev pub TookEntry : List ℕ → List Object → Type 0
TookEntry bytes os = (entry os ≡ bytes) × IsEntryList os

entry_took : (bytes : List ℕ) (n : ℕ × List ℕ) (os : List Object) → take 4 bytes ≡ codes "SCE1" → TookNumber w16 (2 ^ 16) (drop 4 bytes) n → TookObjects n.0 [] n.1 os → TookEntry bytes os
entry_took bytes n os front h t =
    let same : os ≡ t.0 = t.1 in
    let count : n.0 ≡ length os = t.3 ∙ ap (λ (l : List Object). length l) (sym same) in
    let body : n.1 ≡ spell_objects os = t.2 ∙ ap spell_objects (sym same) in (
      sym (sym (take-append-drop 4 bytes) ∙ ap (λ (r : List ℕ). r ++ drop 4 bytes) front
          ∙ ap (λ (r : List ℕ). codes "SCE1" ++ r) (h.0 ∙ ap (λ (k : ℕ). spell_number w16 k ++ n.1) count ∙ ap (λ (r : List ℕ). spell_number w16 (length os) ++ r) body)),
      (subst AreObjects (sym same) t.4, subst (λ (k : ℕ). k < 2 ^ 16) count h.1, subst (λ (l : List Object). IsTrue (are_new [] l)) (sym same) t.5),
    )

front_took_entry : (bytes : List ℕ) (b : Bool) → bytes_eq (take 4 bytes) (codes "SCE1") ≡ b
    → IfSome (cond b (read_number w16 (2 ^ 16) (drop 4 bytes) >>= λ n. read_objects n.0 [] n.1) None) (TookEntry bytes)
front_took_entry bytes true e =
    after_both (TookNumber w16 (2 ^ 16) (drop 4 bytes)) (TookEntry bytes) (read_number w16 (2 ^ 16) (drop 4 bytes)) (λ n. read_objects n.0 [] n.1) (takes_number w16 (2 ^ 16) (drop 4 bytes))
    (λ n h. IfSome_then (read_objects n.0 [] n.1) (takes_objects n.0 [] n.1) (λ os t. entry_took bytes n os ((bytes_eq-Decides (take 4 bytes) (codes "SCE1")).0 e) h t))
front_took_entry bytes false e = tt

-- the bytes of a list are its spelling
pub takes_entry : (bytes : List ℕ) → IfSome (objects bytes) (TookEntry bytes)
unfolding objects
takes_entry bytes = front_took_entry bytes (bytes_eq (take 4 bytes) (codes "SCE1")) refl

-- a list is read again from its spelling
pub again_entry : (os : List Object) → IsEntryList os → objects (entry os) ≡ Some os
unfolding objects
again_entry os good = rw (again_number w16 (2 ^ 16) wide16 (length os) (spell_objects os) good.1) (again_objects os [] good.0 good.2)

pub of_entry : (bytes : List ℕ) (os : List Object) → objects bytes ≡ Some os → TookEntry bytes os
of_entry bytes os e = subst (λ (o : Option (List Object)). IfSome o (TookEntry bytes)) e (takes_entry bytes)
