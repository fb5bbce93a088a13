-- What is told along several calls.
use Rattle.std.proofs.Common.{◌≡◌, ℕ, min, ◌+◌, ◌-◌, ◌<◌, ◌≤◌, List, [], ◌∷◌, ◌++◌, length, take, drop, Option, Some, None, refl, arith, subst, sym, ap, ◌∙◌, append_assoc, length-append}
use Rattle.std.proofs.lemmas.List.{take-append-drop, length-drop, append-nil, take_at, drop-drop, length-take-le}
use Rattle.std.proofs.Math.Seq.{take-length, take-append_seam, take-append-add, drop-append_seam}
use Rattle.sc_entry.specs.Causes.{Told}
use Rattle.sc_entry.specs.Streams.{ReadsOnce, ReadsToEnd, ReadsSome, WritesOnce, WritesAll, WritesFront}

pub told_same : {A : Type 0} (R : A → A → Type 0) → ((x : A) → R x x) → (a : Option A) → Told R a a
told_same R same None = tt
told_same R same (Some x) = same x

pub told_then : {A : Type 0} (R S T : A → A → Type 0) → ((x y z : A) → R x y → S y z → T x z) → (a b c : Option A) → Told R a b → Told S b c → Told T a c
told_then R S T both None None None r s = tt
told_then R S T both (Some x) (Some y) (Some z) r s = both x y z r s
told_then R S T both None None (Some z) r s = absurd s
told_then R S T both None (Some y) c r s = absurd r
told_then R S T both (Some x) None c r s = absurd r
told_then R S T both (Some x) (Some y) None r s = absurd s

pub told_weaker : {A : Type 0} (R T : A → A → Type 0) → ((x y : A) → R x y → T x y) → (a b : Option A) → Told R a b → Told T a b
told_weaker R T weaker None None r = tt
told_weaker R T weaker (Some x) (Some y) r = weaker x y r
told_weaker R T weaker None (Some y) r = absurd r
told_weaker R T weaker (Some x) None r = absurd r

-- what a sink took of some bytes, of which a rest is still to be written
abbrev pub WrittenSoFar : List ℕ → List ℕ → List ℕ → List ℕ → Type 0
WrittenSoFar bytes rest old now = (now ++ rest ≡ old ++ bytes) × (length old ≤ length now)

pub rest_of : (n : ℕ) (text : List ℕ) → take (length text - n) (drop n text) ≡ drop n text
rest_of n text = rw (← (length-drop n text), take-length) refl

-- a piece more was written
pub writes_on : (n : ℕ) (bytes rest old now new : List ℕ) → WrittenSoFar bytes rest old now → WritesOnce n rest now new
    → WrittenSoFar bytes (take (length rest - n) (drop n rest)) old new
writes_on n bytes rest old now new so e =
    (rw (rest_of, e, append_assoc, take-append-drop) so.0, let long = so.1 in rw (e, length-append) (omega arith))

pub writes_end : (bytes rest old now : List ℕ) → length rest ≡ 0 → WrittenSoFar bytes rest old now → WritesAll bytes old now
writes_end bytes [] old now none so = sym (append-nil now) ∙ so.0
writes_end bytes (b ∷ rest) old now none so = absurd (omega arith)

front_of : (n : ℕ) (old bytes : List ℕ) → length old ≤ n → take n (old ++ bytes) ≡ old ++ take (n - length old) bytes
front_of n old bytes long = let e : length old + (n - length old) ≡ n = omega arith in subst (λ (m : ℕ). take m (old ++ bytes) ≡ old ++ take (n - length old) bytes) e (take-append-add old bytes (n - length old))

-- a refused write leaves a front written
pub writes_front : (bytes rest old now : List ℕ) → 0 < length rest → WrittenSoFar bytes rest old now → WritesFront bytes old now
writes_front bytes rest old now more so =
    let long = ap (λ (xs : List ℕ). length xs) so.0 in (
      sym (take-append_seam now rest) ∙ ap (λ (xs : List ℕ). take (length now) xs) so.0 ∙ front_of (length now) old bytes so.1,
      omega (arith, long, length-append now rest, length-append old bytes),
    )

-- a piece more was read
pub reads_on : (n : ℕ) (bytes more buffer old left after : List ℕ) → more ≡ bytes ++ take n buffer → old ≡ bytes ++ left → ReadsOnce n buffer left after
    → old ≡ more ++ after
reads_on n bytes more buffer old left after e so once = rw (e, append_assoc, ← once.0) so

pub reads_end : (limit n : ℕ) (bytes buffer old left after : List ℕ) → n ≡ 0 → 0 < length buffer → old ≡ bytes ++ left → ReadsOnce n buffer left after
    → ReadsToEnd limit bytes old after
reads_end limit n bytes buffer old left after none room so once =
    (so ∙ ap (λ xs. bytes ++ xs) (once.0 ∙ rw none refl), λ _. once.1 none room)

pub reads_past : (limit : ℕ) (bytes old left : List ℕ) → limit < length bytes → old ≡ bytes ++ left → ReadsToEnd limit bytes old left
reads_past limit bytes old left past so = (so, λ h. absurd (omega arith))

some_of : (bytes left : List ℕ) → ReadsSome (bytes ++ left) left
some_of bytes left =
    let n : length (bytes ++ left) - length left ≡ length bytes = omega (arith, length-append bytes left) in rw n (sym (drop-append_seam bytes left))

-- what was read before a refusal came from the front
pub reads_some : (bytes old left : List ℕ) → old ≡ bytes ++ left → ReadsSome old left
reads_some bytes old left so = subst (λ (xs : List ℕ). ReadsSome xs left) (sym so) (some_of bytes left)

none_left : (n room : ℕ) (rest : List ℕ) → n ≡ min (length rest) room → n ≡ 0 → 0 < room → drop n rest ≡ []
none_left n room [] least none more = rw none refl
none_left n room (b ∷ rest) least none more = absurd (omega arith)

front_read : (n : ℕ) (rest copied buffer : List ℕ) → n ≡ min (length rest) (length buffer) → copied ≡ take n rest → ReadsOnce n (copied ++ drop n buffer) rest (drop n rest)
front_read n rest copied buffer least e =
    let some : n ≤ length rest = omega (arith, least) in
    let len : length copied ≡ n = ap (λ (xs : List ℕ). length xs) e ∙ length-take-le n rest some in (
      sym (take-append-drop n rest) ∙ ap (λ (xs : List ℕ). xs ++ drop n rest) (sym e ∙ sym (take_at copied (drop n buffer) n len)),
      λ none room. none_left n (length buffer) rest least none (let all = length-append copied (drop n buffer) in let end = length-drop n buffer in omega (arith, all, end, room, len, none)),
    )

-- a read from bytes in memory, of which those before a place were read
pub reads_front : (place n : ℕ) (bytes text copied buffer : List ℕ) → text ≡ bytes → n ≡ min (length (take (length text - place) (drop place text))) (length buffer)
    → copied ≡ take n (take (length text - place) (drop place text)) → ReadsOnce n (copied ++ drop n buffer) (drop place bytes) (drop (place + n) bytes)
reads_front place n bytes text copied buffer same least e =
    let rest : take (length text - place) (drop place text) ≡ drop place bytes = rest_of place text ∙ ap (λ (xs : List ℕ). drop place xs) same in
    subst (λ (xs : List ℕ). ReadsOnce n (copied ++ drop n buffer) (drop place bytes) xs) (drop-drop n place bytes)
    (front_read n (drop place bytes) copied buffer (least ∙ ap (λ (xs : List ℕ). min (length xs) (length buffer)) rest) (e ∙ ap (λ (xs : List ℕ). take n xs) rest))
