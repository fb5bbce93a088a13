-- Outputs that are read one after another, and the set of their names.
use Rattle.std.proofs.Common.{◌≡◌, ℕ, ◌<◌, Bool, true, false, ◌||◌, cond, List, [], ◌∷◌, ◌++◌, length, Some, codes, refl, ap, ◌∙◌, arith}
use Rattle.std.specs.Str.{bytes_eq}
use Rattle.sc_entry.specs.declared.object.FileObjectSource.{FileObjectSource}
use Rattle.sc_compile.specs.Plain.{has_key, is_optional, output_of, outputs_onto}
use Rattle.sc_words.specs.Words.{Pops, word}

either : (a b c : Bool) → (a || cond b true c) ≡ cond b true (a || c)
either true true c = refl
either true false c = refl
either false b c = refl

or_cond : (b : Bool) → (b || false) ≡ cond b true false
or_cond true = refl
or_cond false = refl

-- a name among outputs with one more
pub has_key_more : (os : List FileObjectSource) (o : FileObjectSource) (name : List ℕ) → has_key name (os ++ o ∷ []) ≡ cond (bytes_eq o.key name) true (has_key name os)
has_key_more [] o name = or_cond (bytes_eq o.key name)
has_key_more (x ∷ os) o name = ap (λ (b : Bool). bytes_eq x.key name || b) (has_key_more os o name) ∙ either (bytes_eq x.key name) (bytes_eq o.key name) (has_key name os)

-- one output more is read, and less is left
pub record OneMore (optional next : Bool) (before : List FileObjectSource) (o : FileObjectSource) (ws left : List (List ℕ)) : Type 0 where
  pub read : outputs_onto next (before ++ o ∷ []) left ≡ outputs_onto optional before ws
  pub less : length left < length ws

pub one_more : (optional next : Bool) (before : List FileObjectSource) (o : FileObjectSource) (w p : List ℕ) (ws behind left : List (List ℕ)) → Pops ws (Some w) behind
    → bytes_eq w (codes "--") ≡ false → is_optional optional w ≡ Some next → word behind ≡ Some (p, left) → output_of next before p ≡ Some o → OneMore optional next before o ws left
one_more optional next before o w p [] behind left pops other out some is = absurd (let none = pops.0 in cc)
one_more optional next before o w p (v ∷ ws) [] left pops other out some is = absurd (cc)
one_more optional next before o w p (v ∷ ws) (q ∷ behind) left pops other out some is =
    let same : v ≡ w = cc in
    let rest : ws ≡ q ∷ behind = cc in
    let pair : ◌≡◌ {A = List ℕ × List (List ℕ)} (q, behind) (p, left) = cc in
    let name : q ≡ p = ap (λ (x : List ℕ × List (List ℕ)). x.0) pair in
    let end : behind ≡ left = ap (λ (x : List ℕ × List (List ℕ)). x.1) pair in
    record { read = rw (same, rest, other, out, name, end, is) refl; less = rw (rest, end) (omega arith) }
