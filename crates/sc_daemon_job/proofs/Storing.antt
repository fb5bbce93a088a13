use Rattle.std.proofs.Common.{◌≡◌, ℕ, zero, suc, ◌+◌, ◌<◌, ◌≤◌, Bool, true, false, List, [], ◌∷◌, ◌++◌, codes, length, drop, get_or, None, refl, ap, sym, ◌∙◌, subst, arith, add-one, length-append, nat_lt, lt-ltb}
use Rattle.std.specs.Prelude.{IsOk, OnOk, Result, Ok, Err}
use Rattle.std.proofs.Math.Seq.{drop-cons}
use Rattle.std.specs.Prelude.{◌||◌}
use Rattle.std.specs.Str.{bytes_eq, IsAscii}
use Rattle.std.proofs.lemmas.Str.{is_utf8-from_IsUtf8, IsUtf8-from_ascii}
use Rattle.sc_entry.specs.Entries.{has_name, is_object_name}
use Rattle.sc_entry.specs.EntryAnswers.{put_refusal, stream_object, stream_refusal}
use Rattle.sc_entry.specs.declared.object.Object.{Object}
use Rattle.sc_model.specs.Collected.{AreCollected, CanPut}

has_name-append : (name : List ℕ) (xs ys : List Object) → has_name name xs ≡ false → has_name name ys ≡ false → has_name name (xs ++ ys) ≡ false
has_name-append name [] ys e f = f
has_name-append name (x ∷ xs) ys e f = both (bytes_eq name x.name) (has_name name xs) (has_name name (xs ++ ys)) e (λ g. has_name-append name xs ys g f)
  where
    both : (a b c : Bool) → (a || b) ≡ false → (b ≡ false → c ≡ false) → (a || c) ≡ false
    both true b c h g = h
    both false b c h g = g h

-- a new, good name has room
name_free : (name : List ℕ) (os : List Object) → has_name name os ≡ false → is_object_name name ≡ true → nat_lt (length os) 65535 ≡ true → put_refusal name os ≡ None
name_free name os e f g = rw (e, f, g) refl

stream_free : (name bytes : List ℕ) (os : List Object) → put_refusal name os ≡ None → stream_refusal name bytes os ≡ None
stream_free name [] os e = refl
stream_free name (b ∷ bytes) os e = e

ascii_stdout : IsAscii (codes "stdout")
ascii_stdout zero = omega arith
ascii_stdout (suc zero) = omega arith
ascii_stdout (suc (suc zero)) = omega arith
ascii_stdout (suc (suc (suc zero))) = omega arith
ascii_stdout (suc (suc (suc (suc zero)))) = omega arith
ascii_stdout (suc (suc (suc (suc (suc zero))))) = omega arith
ascii_stdout (suc (suc (suc (suc (suc (suc i)))))) = omega arith

good_stdout : is_object_name (codes "stdout") ≡ true
good_stdout = is_utf8-from_IsUtf8 (codes "stdout") (IsUtf8-from_ascii (codes "stdout") ascii_stdout)

ascii_stderr : IsAscii (codes "stderr")
ascii_stderr zero = omega arith
ascii_stderr (suc zero) = omega arith
ascii_stderr (suc (suc zero)) = omega arith
ascii_stderr (suc (suc (suc zero))) = omega arith
ascii_stderr (suc (suc (suc (suc zero)))) = omega arith
ascii_stderr (suc (suc (suc (suc (suc zero))))) = omega arith
ascii_stderr (suc (suc (suc (suc (suc (suc i)))))) = omega arith

good_stderr : is_object_name (codes "stderr") ≡ true
good_stderr = is_utf8-from_IsUtf8 (codes "stderr") (IsUtf8-from_ascii (codes "stderr") ascii_stderr)

no_other : (bytes : List ℕ) → has_name (codes "stderr") (stream_object (codes "stdout") bytes) ≡ false
no_other [] = refl
no_other (b ∷ bytes) = refl

one_stream : (name bytes : List ℕ) → length (stream_object name bytes) ≤ 1
one_stream name [] = omega arith
one_stream name (b ∷ bytes) = omega arith

pub stdout_free : (os : List Object) (out : List ℕ) → AreCollected os → stream_refusal (codes "stdout") out os ≡ None
stdout_free os out h = stream_free (codes "stdout") out os (name_free (codes "stdout") os h.no_stdout good_stdout (lt-ltb (length os) 65535 (omega (arith, h.few))))

pub stderr_free : (os : List Object) (out err : List ℕ) → AreCollected os → stream_refusal (codes "stderr") err (os ++ stream_object (codes "stdout") out) ≡ None
stderr_free os out err h =
    let all = os ++ stream_object (codes "stdout") out in
    let few : length all < 65535 = omega (arith, length-append os (stream_object (codes "stdout") out), one_stream (codes "stdout") out, h.few) in
    stream_free (codes "stderr") err all (name_free (codes "stderr") all (has_name-append (codes "stderr") os (stream_object (codes "stdout") out) h.no_stderr (no_other out)) good_stderr (lt-ltb (length all) 65535 few))

-- the next object can be put, and those after it then
pub can_next : (before : List Object) (os : List Object) (i : ℕ) (o : Object) → i < length os → o ≡ get_or os i o → CanPut before (drop i os)
    → (put_refusal o.name before ≡ None) × CanPut (before ++ o ∷ []) (drop (i + 1) os)
can_next before os i o l e h =
    let d : drop i os ≡ o ∷ drop (i + 1) os = drop-cons os i o l ∙ ap (λ v. v ∷ drop (suc i) os) (sym e) ∙ ap (λ v. o ∷ drop v os) (sym (add-one i)) in
    subst (λ v. CanPut before v) d h

-- what a call ensures on success, where it succeeded
pub on_success : {A E P : Type 0} → (r : Result A E) → IsOk r → OnOk r P → P
on_success (Ok v) i h = h
on_success (Err e) i h = (cc)
