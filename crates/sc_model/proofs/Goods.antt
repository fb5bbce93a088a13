-- What the test of an answer says to one who stores it.
use Rattle.std.proofs.Common.{◌≡◌, ℕ, ◌+◌, ◌<◌, Bool, true, false, not, ◌&&◌, ◌||◌, nat_lt, List, [], ◌∷◌, ◌++◌, length, None, codes, refl, ◌∙◌, arith, length-append}
use Rattle.std.proofs.lemmas.Bool.{ltb-true, lt-ltb}
use Rattle.std.specs.Cmp.Lexicographic.{nat_list_eq_equiv}
use Rattle.std.specs.Str.{bytes_eq}
use Rattle.sc_model.specs.GoodNames.{are_good, are_named, is_good_answer, is_output_name, is_stream}
use Rattle.sc_entry.specs.Entries.{has_name, is_object_name}
use Rattle.sc_entry.specs.EntryAnswers.{put_refusal}
use Rattle.sc_entry.specs.declared.object.Object.{Object}
use Rattle.sc_model.specs.Collected.{CanPut, GoodAnswer, GoodObjects}
use Rattle.sc_model.specs.declared.event.Objects.{Objects}
use Rattle.sc_model.specs.declared.event.Objects.TheVariants.{Broken, Collected}
use Rattle.sc_model.specs.declared.event.RunAnswer.{RunAnswer}
use Rattle.sc_model.specs.declared.event.RunAnswer.TheVariants.{Fault, Output, ProcessError}

left_of : (a b : Bool) → (a && b) ≡ true → a ≡ true
left_of true b e = refl
left_of false b e = absurd (cc)

right_of : (a b : Bool) → (a && b) ≡ true → b ≡ true
right_of true b e = e
right_of false b e = absurd (cc)

is_not : (b : Bool) → not b ≡ true → b ≡ false
is_not true e = absurd (cc)
is_not false e = refl

neither_left : (a b : Bool) → (a || b) ≡ false → a ≡ false
neither_left true b e = absurd (cc)
neither_left false b e = refl

neither_right : (a b : Bool) → (a || b) ≡ false → b ≡ false
neither_right true b e = absurd (cc)
neither_right false b e = e

or_none : (a b : Bool) → a ≡ false → b ≡ false → (a || b) ≡ false
or_none a b f g = rw (f, g) refl

-- a name that is good and new can be put, where there is room
can_put : (name : List ℕ) (before : List Object) → is_object_name name ≡ true → has_name name before ≡ false → length before < 65535 → put_refusal name before ≡ None
can_put name before good new room = rw (new, good, lt-ltb (length before) 65535 room) refl

puts_of : (before os : List Object) → are_named before os ≡ true → length before + length os < 65533 → CanPut before os
puts_of before [] e few = tt
puts_of before (o ∷ os) e few =
    let one : (is_output_name o.name && not (has_name o.name before)) ≡ true = left_of (is_output_name o.name && not (has_name o.name before)) (are_named (before ++ o ∷ []) os) e in
    let rest : are_named (before ++ o ∷ []) os ≡ true = right_of (is_output_name o.name && not (has_name o.name before)) (are_named (before ++ o ∷ []) os) e in
    let named = left_of (is_output_name o.name) (not (has_name o.name before)) one in
    let new = is_not (has_name o.name before) (right_of (is_output_name o.name) (not (has_name o.name before)) one) in (
      can_put o.name before (left_of (is_object_name o.name) (not (is_stream o.name)) named) new (omega arith),
      puts_of (before ++ o ∷ []) os rest (let grown = length-append before (o ∷ []) in omega (arith, grown)),
    )

-- no name is a stream's
abbrev Has_not : List ℕ → Type 0
Has_not stream = (name : List ℕ) → is_stream name ≡ false → bytes_eq name stream ≡ false

no_stream : (stream : List ℕ) → Has_not stream → (before os : List Object) → are_named before os ≡ true → has_name stream os ≡ false
no_stream stream not_it before [] e = refl
no_stream stream not_it before (o ∷ os) e =
    let one : (is_output_name o.name && not (has_name o.name before)) ≡ true = left_of (is_output_name o.name && not (has_name o.name before)) (are_named (before ++ o ∷ []) os) e in
    let rest : are_named (before ++ o ∷ []) os ≡ true = right_of (is_output_name o.name && not (has_name o.name before)) (are_named (before ++ o ∷ []) os) e in
    let named = left_of (is_output_name o.name) (not (has_name o.name before)) one in
    let other = is_not (is_stream o.name) (right_of (is_object_name o.name) (not (is_stream o.name)) named) in
    or_none (bytes_eq stream o.name) (has_name stream os) (nat_list_eq_equiv.symm stream o.name ∙ not_it o.name other) (no_stream stream not_it (before ++ o ∷ []) os rest)

good_objects : (os : Objects) → are_good os ≡ true → GoodObjects os
good_objects (Collected os) e =
    let named : are_named [] os ≡ true = left_of (are_named [] os) (nat_lt (length os) 65533) e in
    let few : length os < 65533 = ltb-true (length os) 65533 (right_of (are_named [] os) (nat_lt (length os) 65533) e) in
    record {
      puts = puts_of [] os named (omega (arith, few));
      no_stdout = no_stream (codes "stdout") (λ name h. neither_left (bytes_eq name (codes "stdout")) (bytes_eq name (codes "stderr")) h) [] os named;
      no_stderr = no_stream (codes "stderr") (λ name h. neither_right (bytes_eq name (codes "stdout")) (bytes_eq name (codes "stderr")) h) [] os named;
      few = few;
    }
good_objects (Broken chain) e = tt

-- an answer that passes the test is one that can be stored
pub good_answer : (a : RunAnswer) → is_good_answer a ≡ true → GoodAnswer a
good_answer (Output out) e = good_objects out.objects e
good_answer (ProcessError out) e = tt
good_answer (Fault chain) e = tt
