-- The objects of a run line have distinct good names.
use Rattle.std.proofs.Common.{◌≡◌, ℕ, ◌+◌, ◌-◌, ◌^◌, ◌≤◌, ◌<◌, ◌==◌, min, Bool, true, false, cond, not, ◌&&◌, ◌||◌, nat_le, nat_lt, List, [], ◌∷◌, ◌++◌, length, Option, Some, unwrap_or, refl, ap, sym, ◌∙◌, arith, codes, length-append, append_assoc}
use Rattle.std.proofs.lemmas.Bool.{ltb-true, lt-ltb}
use Rattle.std.proofs.lemmas.List.{append-nil}
use Rattle.std.proofs.lemmas.Cmp.{eq_by_cmp_equiv, nat_list_cmp_total}
use Rattle.std.proofs.lemmas.Grind.{common_steps}
use Rattle.std.proofs.lemmas.Slice.Eq.{bytes_eq-Decides}
use Rattle.std.specs.Cmp.Lexicographic.{slice_cmp}
use Rattle.std.specs.FinMap.{get, get-insert}
use Rattle.std.specs.Ordering.{nat_cmp, eq_by_cmp}
use Rattle.std.specs.Str.{bytes_eq, is_utf8}
use Rattle.sc_model.proofs.Naming.{has_name_more}
use Rattle.sc_model.specs.GoodNames.{are_named, are_run_objects, is_output_name}
use Rattle.sc_entry.specs.Entries.{has_name}
use Rattle.sc_entry.specs.Tally.{Tally, count_of, counted}
use Rattle.sc_entry.specs.declared.object.Object.{Object}
use Rattle.sc_main_script_words.proofs.Tests.{left_of, right_of, both, by_only, by_test, by_then, le_of_test, some_same}
use Rattle.sc_main_script_words.specs.Fields.{is_object_name, object_of, pair_of, text_of_bytes}
use Rattle.sc_main_script_words.specs.Outputs.{is_new_object, no_names, objects_onto}

-- ---- a name that a line may give is one that an output may have

neither : (a b c d : Bool) → (a && b && not c && not d) ≡ true → not (c || d) ≡ true
neither true true false false e = refl
neither true true true d e = absurd (cc)
neither true true false true e = absurd (cc)
neither true false c d e = absurd (cc)
neither false b c d e = absurd (cc)

first_of_four : (a b c d : Bool) → (a && b && c && d) ≡ true → a ≡ true
first_of_four true b c d e = refl
first_of_four false b c d e = absurd (cc)

second_of_four : (a b c d : Bool) → (a && b && c && d) ≡ true → b ≡ true
second_of_four true true c d e = refl
second_of_four true false c d e = absurd (cc)
second_of_four false b c d e = absurd (cc)

output_name : (name : List ℕ) → is_object_name name ≡ true → is_utf8 name ≡ true → is_output_name name ≡ true
output_name name e utf8 =
    let no_stream = neither (nat_le 1 (length name)) (nat_le (length name) 65535) (bytes_eq name (codes "stdout")) (bytes_eq name (codes "stderr")) e in
    let low : 1 ≤ length name = le_of_test 1 (length name) (first_of_four (nat_le 1 (length name)) (nat_le (length name) 65535) _ _ e) in
    let high : length name ≤ 65535 = le_of_test (length name) 65535 (second_of_four (nat_le 1 (length name)) (nat_le (length name) 65535) _ _ e) in
    both _ _ (both _ _ (lt-ltb 0 (length name) (omega (arith, low))) (both _ _ (lt-ltb (length name) 65536 (omega (arith, high))) utf8)) no_stream

pub object_named : (word : List ℕ) (o : Object) → object_of word ≡ Some o → is_output_name o.name ≡ true
unfolding object_of text_of_bytes
object_named word o e = by_then (pair_of word) _ o (λ pair is. by_then (text_of_bytes pair.0) _ o (λ name told. by_only (is_utf8 pair.0) pair.0 name (λ utf8 same.
    by_only (is_object_name name) _ o (λ good made. rw (← made) (output_name name good (rw (← same) utf8)))) told)) e

-- ---- how often a name was counted

unwrap_cond : (b : Bool) (v : ℕ) (o : Option ℕ) → unwrap_or (cond b (Some v) o) 0 ≡ cond b v (unwrap_or o 0)
unwrap_cond true v o = refl
unwrap_cond false v o = refl

count_more : (names : Tally) (name n : List ℕ) → count_of (counted names name 1) n ≡ cond (eq_by_cmp (slice_cmp nat_cmp) n name) (min (count_of names name + 1) (2 ^ 64 - 1)) (count_of names n)
count_more names name n =
    ap (λ (o : Option ℕ). unwrap_or o 0) (get-insert nat_list_cmp_total names name (min (count_of names name + 1) (2 ^ 64 - 1)) n)
    ∙ unwrap_cond (eq_by_cmp (slice_cmp nat_cmp) n name) (min (count_of names name + 1) (2 ^ 64 - 1)) (get names n)

some_min : (x m : ℕ) → 1 ≤ m → (min (x + 1) m == 0) ≡ true → ⊥
some_min x m some e = grind (arith, common_steps)

not_counted_by : (b : Bool) (v m : ℕ) → ((v == 0) ≡ true → ⊥) → (cond b v m == 0) ≡ true → (b ≡ false) × ((m == 0) ≡ true)
not_counted_by true v m some e = absurd (some e)
not_counted_by false v m some e = (refl, e)

not_counted : (names : Tally) (name n : List ℕ) → (count_of (counted names name 1) n == 0) ≡ true → (eq_by_cmp (slice_cmp nat_cmp) n name ≡ false) × ((count_of names n == 0) ≡ true)
not_counted names name n e =
    not_counted_by (eq_by_cmp (slice_cmp nat_cmp) n name) (min (count_of names name + 1) (2 ^ 64 - 1)) (count_of names n) (some_min (count_of names name) (2 ^ 64 - 1) (omega arith)) (sym (ap (λ (k : ℕ). k == 0) (count_more names name n)) ∙ e)

differ_by : (name n : List ℕ) (b : Bool) → bytes_eq name n ≡ b → eq_by_cmp (slice_cmp nat_cmp) n name ≡ false → b ≡ false
differ_by name n true e other =
    let same : name ≡ n = (bytes_eq-Decides name n).0 e in
    absurd (cc (other, same, (eq_by_cmp_equiv nat_list_cmp_total).refl n))
differ_by name n false e other = refl

-- ---- objects one after another

-- what is known of the objects so far, and of the names that are counted of them
pub record GoodSoFar (sofar : List Object) (names : Tally) : Type 0 where
  pub named : are_named [] sofar ≡ true
  pub few : length sofar < 65533
  pub new : (n : List ℕ) → (count_of names n == 0) ≡ true → has_name n sofar ≡ false

named_more : (before sofar : List Object) (o : Object) → are_named before sofar ≡ true → is_output_name o.name ≡ true → has_name o.name (before ++ sofar) ≡ false → are_named before (sofar ++ o ∷ []) ≡ true
named_more before [] o e good new = both _ _ (both _ _ good (rw (rw (append-nil before) at new) refl)) refl
named_more before (x ∷ sofar) o e good new =
    let first = left_of (is_output_name x.name && not (has_name x.name before)) _ e in
    let rest = right_of (is_output_name x.name && not (has_name x.name before)) _ e in
    both _ _ first (named_more (before ++ x ∷ []) sofar o rest good (rw (append_assoc before (x ∷ []) sofar) new))

good_more : (sofar : List Object) (names : Tally) (o : Object) → GoodSoFar sofar names → is_output_name o.name ≡ true → is_new_object sofar names o ≡ true → GoodSoFar (sofar ++ o ∷ []) (counted names o.name 1)
good_more sofar names o so good new =
    let room : length sofar < 65532 = ltb-true (length sofar) 65532 (left_of (nat_lt (length sofar) 65532) _ new) in
    record {
      named = named_more [] sofar o so.named good (so.new o.name (right_of (nat_lt (length sofar) 65532) _ new));
      few = (let grown = length-append sofar (o ∷ []) in omega (arith, grown, room));
      new = λ n e.
          let other = not_counted names o.name n e in
          has_name_more n sofar o ∙ ap (λ (b : Bool). cond b true (has_name n sofar)) (differ_by o.name n (bytes_eq o.name n) refl other.0) ∙ so.new n other.1;
    }

good_onto : (sofar : List Object) (names : Tally) (ws : List (List ℕ)) (os : List Object) (rest : List (List ℕ)) → GoodSoFar sofar names → objects_onto sofar names ws ≡ Some (os, rest) → are_run_objects os ≡ true
good_onto sofar names [] os rest so e =
    let same : sofar ≡ os = ap (λ (p : List Object × List (List ℕ)). p.0) (some_same (sofar, []) (os, rest) e) in
    rw (← same) (both _ _ so.named (lt-ltb (length sofar) 65533 so.few))
good_onto sofar names (w ∷ ws) os rest so e = by_then (object_of w) _ (os, rest) (λ o is. by_test (is_new_object sofar names o) _ _ (Some (os, rest))
    (λ new. good_onto (sofar ++ o ∷ []) (counted names o.name 1) ws os rest (good_more sofar names o so (object_named w o is) new))
    (λ none. absurd (cc))) e

-- all objects of a line
pub good_objects : (ws : List (List ℕ)) (os : List Object) (rest : List (List ℕ)) → objects_onto [] no_names ws ≡ Some (os, rest) → are_run_objects os ≡ true
good_objects ws os rest e = good_onto [] no_names ws os rest (record { named = refl; few = omega arith; new = λ n none. refl }) e
