-- How an entry's bytes grow as objects are put.
use Rattle.std.proofs.Common.{◌≡◌, ℕ, zero, suc, ◌+◌, ◌<◌, ◌≤◌, ◌^◌, Bool, true, false, cond, not, List, [], ◌∷◌, ◌++◌, length, take, drop, Option, Some, None, nat_lt, ◌==◌, refl, sym, ap, ◌∙◌, append_assoc, arith, length-append}
use Rattle.std.proofs.lemmas.List.{take_at, drop_at, take-take, append-nil}
use Rattle.std.specs.Int.{w16, w64}
use Rattle.sc_entry.specs.declared.object.Object.{Object}
use Rattle.sc_entry.specs.Entries.{FitsMode, listed, is_object_name, spell_number, spell_mode, spell_object, spell_objects, entry, objects, IsObject, AreObjects, IsEntryList, are_new, has_name}
use Rattle.std.specs.Prelude.{◌||◌, codes, string_bytes, String}
use Rattle.std.specs.List.{list_any}
use Rattle.std.specs.Global.{Global}
use Rattle.std.specs.BTreeSet.{BTreeSet, contains_text}
use Rattle.std.specs.BTreeMap.{is_at}
use Rattle.std.specs.Ordering.{nat_cmp}
use Rattle.std.specs.Cmp.Lexicographic.{slice_cmp}
use Rattle.std.proofs.lemmas.Bool.{lt-ltb, le-ltb, ltb-true}
use Rattle.std.proofs.Math.Dec.{lit<}
use Rattle.sc_entry.specs.EntryAnswers.{put_refusal}
use Rattle.sc_entry.specs.declared.entry_error.PutError.TheVariants.{NameTaken, BadName, TooManyObjects}
use Rattle.sc_entry.specs.declared.entry_error.PutError.{PutError}
use Rattle.sc_entry.specs.Writing.{IsWrittenEntry}
use Rattle.std.specs.Str.{bytes_eq}
use Rattle.std.specs.Cmp.{first_so, second_so}
use Rattle.sc_entry.proofs.EntryLaws.{of_entry, again_entry, wide16}
use Rattle.sc_entry.proofs.Holding.{eq_sym}

pub front_stays : (a b : List ℕ) → take (length a) (a ++ b) ≡ a
front_stays a b = take_at a b (length a) refl

-- what begins with a list that begins with another begins with that
pub front_of_front : (a b c : List ℕ) → take (length (a ++ b)) c ≡ a ++ b → take (length a) c ≡ a
front_of_front a b c e =
    let short : length a ≤ length (a ++ b) = omega (arith, length-append a b) in
    sym (take-take (length a) (length (a ++ b)) c short) ∙ ap (λ (xs : List ℕ). take (length a) xs) e ∙ front_stays a b

pub object_appended : (old one two new : List ℕ) (o : Object) → one ≡ old ++ (spell_number w16 (length o.name) ++ o.name) → two ≡ one ++ spell_mode o.mode
    → new ≡ two ++ (spell_number w64 (length o.bytes) ++ o.bytes) → new ≡ old ++ spell_object o
object_appended old one two new o a b c = c ∙ ap (λ (xs : List ℕ). xs ++ (spell_number w64 (length o.bytes) ++ o.bytes)) (b ∙ ap (λ (xs : List ℕ). xs ++ spell_mode o.mode) a) ∙ simp append_assoc refl

-- ---- the entry with one object more

or_cond : (a b : Bool) → a ≡ b → (a || false) ≡ cond b true false
or_cond true b e = ap (λ (x : Bool). cond x true false) e
or_cond false b e = ap (λ (x : Bool). cond x true false) e

or_more : (a b x y : Bool) → x ≡ cond b true y → (a || x) ≡ cond b true (a || y)
or_more true true x y e = refl
or_more true false x y e = refl
or_more false b x y e = e

spelled_more : (os : List Object) (o : Object) → spell_objects (os ++ (o ∷ [])) ≡ spell_objects os ++ spell_object o
spelled_more [] o = append-nil (spell_object o)
spelled_more (p ∷ ps) o = ap (λ (xs : List ℕ). spell_object p ++ xs) (spelled_more ps o) ∙ sym (append_assoc (spell_object p) (spell_objects ps) (spell_object o))

objects_more : (os : List Object) (o : Object) → AreObjects os → IsObject o → AreObjects (os ++ (o ∷ []))
objects_more [] o good fits = (fits, tt)
objects_more (p ∷ ps) o good fits = (good.0, objects_more ps o good.1 fits)

new_more : (os before : List Object) (o : Object) → are_new before os ≡ true → has_name o.name (before ++ os) ≡ false → are_new before (os ++ (o ∷ [])) ≡ true
new_more [] before o new other = let e : has_name o.name before ≡ false = rw (append-nil before) at other in rw e refl
new_more (p ∷ ps) before o new other =
    let first : not (has_name p.name before) ≡ true = first_so _ _ new in
    rw first (new_more ps (before ++ (p ∷ [])) o (second_so _ _ new) (ap (λ (l : List Object). has_name o.name l) (append_assoc before (p ∷ []) ps) ∙ other))

pub names_more : (name : List ℕ) (os : List Object) (o : Object) → has_name name (os ++ (o ∷ [])) ≡ cond (bytes_eq o.name name) true (has_name name os)
names_more name [] o = or_cond (bytes_eq name o.name) (bytes_eq o.name name) (eq_sym name o.name)
names_more name (p ∷ ps) o = or_more (bytes_eq name p.name) (bytes_eq o.name name) _ _ (names_more name ps o)

list_more : (os : List Object) (o : Object) → IsEntryList os → IsObject o → has_name o.name os ≡ false → length os < 65535 → IsEntryList (os ++ (o ∷ []))
list_more os o good fits other room = (objects_more os o good.0 fits, omega (arith, length-append os (o ∷ [])), new_more os [] o good.2 other)

-- what stands behind the number of objects
behind_count : (os : List Object) (more : List ℕ) → drop 6 (entry os ++ more) ≡ spell_objects os ++ more
behind_count os more = rw (append_assoc (spell_number w16 (length os)) (spell_objects os) more, drop_at (spell_number w16 (length os)) (spell_objects os ++ more) 2 (wide16.len (length os))) refl

entry_more : (os : List Object) (o : Object) (bytes final : List ℕ) → bytes ≡ entry os ++ spell_object o → final ≡ take 4 bytes ++ (spell_number w16 (length os + 1) ++ drop 6 bytes)
    → final ≡ entry (os ++ (o ∷ []))
entry_more os o bytes final all count =
    let one : length os + 1 ≡ length (os ++ (o ∷ [])) = omega (arith, length-append os (o ∷ [])) in
    count ∙ ap (λ (xs : List ℕ). take 4 xs ++ (spell_number w16 (length os + 1) ++ drop 6 xs)) all
    ∙ ap (λ (xs : List ℕ). codes "SCE1" ++ (spell_number w16 (length os + 1) ++ xs)) (behind_count os (spell_object o) ∙ sym (spelled_more os o))
    ∙ ap (λ (n : ℕ). codes "SCE1" ++ (spell_number w16 n ++ spell_objects (os ++ (o ∷ [])))) one

pub put_more : (os : List Object) (o : Object) (old bytes final : List ℕ) → objects old ≡ Some os → IsObject o → has_name o.name os ≡ false → length os < 65535
    → bytes ≡ old ++ spell_object o → final ≡ take 4 bytes ++ (spell_number w16 (length os + 1) ++ drop 6 bytes) → objects final ≡ Some (os ++ (o ∷ []))
put_more os o old bytes final so fits other room all count =
    let was = of_entry old os so in
    let whole : final ≡ entry (os ++ (o ∷ [])) = entry_more os o bytes final (all ∙ ap (λ (xs : List ℕ). xs ++ spell_object o) (sym was.0)) count in
    ap objects whole ∙ again_entry (os ++ (o ∷ [])) (list_more os o was.1 fits other room)

-- ---- why an object is refused

refused : Bool → Bool → Bool → Option PutError
refused taken good room = cond taken (Some NameTaken) (cond good (cond room None (Some TooManyObjects)) (Some BadName))

unrefused : (taken good room : Bool) → refused taken good room ≡ None → (taken ≡ false) × (good ≡ true) × (room ≡ true)
unfolding refused
unrefused true good room e = (cc)
unrefused false true true e = (refl, refl, refl)
unrefused false true false e = (cc)
unrefused false false room e = (cc)

can_put : (name : List ℕ) (os : List Object) → put_refusal name os ≡ None → (has_name name os ≡ false) × (is_object_name name ≡ true) × (length os < 65535)
unfolding refused
can_put name os e = let all = unrefused (has_name name os) (is_object_name name) (nat_lt (length os) 65535) e in (all.0, all.1, ltb-true _ _ all.2)

pub refused_full : (name : List ℕ) (os : List Object) → has_name name os ≡ false → is_object_name name ≡ true → 65535 ≤ length os → put_refusal name os ≡ Some TooManyObjects
refused_full name os other good full = rw (other, good, le-ltb (length os) 65535 full) refl

pub refused_not : (name : List ℕ) (os : List Object) → has_name name os ≡ false → is_object_name name ≡ true → length os < 65535 → put_refusal name os ≡ None
refused_not name os other good room = rw (other, good, lt-ltb (length os) 65535 room) refl

pub positive_of : (n : ℕ) (b : Bool) → b ≡ (n == 0) → b ≡ false → 0 < n
positive_of zero b e is = let t : true ≡ false = sym e ∙ is in (cc)
positive_of (suc n) b e is = omega arith

-- ---- what stands behind the entry

module _ (old bytes final : List ℕ) (names next : BTreeSet (String Global)) (count : ℕ) (o : Object) where
  pub long_entry : IsWrittenEntry old names count → bytes ≡ old ++ spell_object o → 6 ≤ length bytes
  long_entry was all =
      let e = ap (λ (xs : List ℕ). length xs) ((of_entry old (listed (objects old)) was.0).0) in
      let l = ap (λ (xs : List ℕ). length xs) all in
      let two = wide16.len (length (listed (objects old))) in
      omega (arith, e, l, two, length-append old (spell_object o), length-append (spell_number w16 (length (listed (objects old)))) (spell_objects (listed (objects old))))

  pub written_more : IsWrittenEntry old names count → put_refusal o.name (listed (objects old)) ≡ None → FitsMode o.mode → length o.bytes < 2 ^ 64 → bytes ≡ old ++ spell_object o
      → final ≡ take 4 bytes ++ (spell_number w16 (count + 1) ++ drop 6 bytes) → objects final ≡ Some (listed (objects old) ++ (o ∷ []))
  written_more was free mode len all head =
      let can = can_put o.name (listed (objects old)) free in
      put_more (listed (objects old)) o old bytes final was.0 (can.1, mode, len) can.0 can.2 all
      (head ∙ ap (λ (n : ℕ). take 4 bytes ++ (spell_number w16 (n + 1) ++ drop 6 bytes)) was.2)

  pub kept_more : IsWrittenEntry old names count → objects final ≡ Some (listed (objects old) ++ (o ∷ []))
      → ((name : List ℕ) → contains_text next name ≡ cond (bytes_eq o.name name) true (contains_text names name)) → IsWrittenEntry final next (count + 1)
  kept_more was now named =
      let same : listed (objects final) ≡ listed (objects old) ++ (o ∷ []) = ap listed now in (
        now ∙ ap Some (sym same),
        λ name. named name ∙ ap (λ (b : Bool). cond (bytes_eq o.name name) true b) (was.1 name) ∙ sym (names_more name (listed (objects old)) o) ∙ ap (λ (l : List Object). has_name name l) (sym same),
        (let n = was.2 in let l = length-append (listed (objects old)) (o ∷ []) in omega (arith, n, l)) ∙ ap (λ (l : List Object). length l) (sym same),
      )

-- ---- an entry without objects

pub empty_entry : objects (83 ∷ 67 ∷ 69 ∷ 49 ∷ 0 ∷ 0 ∷ []) ≡ Some []
unfolding spell_number
empty_entry = again_entry [] (tt, lit< tt, refl)

pub none_named : (names : BTreeSet (String Global)) → names.keys ≡ [] → (name : List ℕ) → contains_text names name ≡ false
none_named names none name = ap (λ (ks : List (String Global)). list_any (is_at (λ (k : String Global). slice_cmp nat_cmp name (string_bytes k))) ks) none

pub written_none : (bytes : List ℕ) (names : BTreeSet (String Global)) → bytes ≡ 83 ∷ 67 ∷ 69 ∷ 49 ∷ 0 ∷ 0 ∷ [] → names.keys ≡ [] → IsWrittenEntry bytes names 0
written_none bytes names e none =
    let os : objects bytes ≡ Some [] = ap objects e ∙ empty_entry in
    let same : listed (objects bytes) ≡ [] = ap listed os in
    (os ∙ ap Some (sym same), λ name. none_named names none name ∙ ap (λ (l : List Object). has_name name l) (sym same), ap (λ (l : List Object). length l) (sym same))
