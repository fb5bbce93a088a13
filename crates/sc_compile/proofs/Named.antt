-- The outputs that words name have names of their own.
use Rattle.std.proofs.Common.{◌≡◌, ℕ, Bool, true, false, not, ◌&&◌, ◌||◌, if◌then◌else◌, List, [], ◌∷◌, ◌++◌, length, map, suc, Option, Some, None, codes, refl, ap, sym, ◌∙◌, append_assoc}
use Rattle.std.specs.Str.{bytes_eq, is_utf8}
use Rattle.std.proofs.lemmas.List.{append-nil}
use Rattle.sc_entry.specs.declared.object.FileObjectSource.{FileObjectSource}
use Rattle.sc_model.specs.declared.message.Compile.{Compile}
use Rattle.sc_compile.specs.OutputNames.{are_outputs}
use Rattle.sc_compile.specs.Plain.{PlainArguments, arguments, arguments_after, arguments_of, first_of, has_key, is_new_name, is_optional, key_found, output_of, output_onto, outputs_onto, placed_in, plain_key, with_options}
use Rattle.sc_words.specs.Words.{◌>>=◌, cut_at, flag, only_if}
use Rattle.sc_compile.specs.declared.first_word.FirstWord.{FirstWord}
use Rattle.sc_compile.specs.declared.first_word.FirstWord.TheVariants.{Key, Cannot, Other}

and_true : (b : Bool) → (b && true) ≡ b
and_true true = refl
and_true false = refl

and_assoc : (a b c : Bool) → (a && (b && c)) ≡ ((a && b) && c)
and_assoc true b c = refl
and_assoc false b c = refl

-- one output more behind others
outputs_more : (before os : List FileObjectSource) (o : FileObjectSource) → are_outputs before (os ++ o ∷ []) ≡ (are_outputs before os && is_new_name (before ++ os) o.key)
outputs_more before [] o = rw (append-nil before) (and_true (is_new_name before o.key))
outputs_more before (x ∷ os) o =
    ap (λ (b : Bool). is_new_name before x.key && b) (outputs_more (before ++ x ∷ []) os o)
    ∙ and_assoc (is_new_name before x.key) (are_outputs (before ++ x ∷ []) os) (is_new_name ((before ++ x ∷ []) ++ os) o.key)
    ∙ ap (λ (all : List FileObjectSource). (is_new_name before x.key && are_outputs (before ++ x ∷ []) os) && is_new_name all o.key) (append_assoc before (x ∷ []) os)

new_if : (b : Bool) (before : List FileObjectSource) (o p : FileObjectSource) → is_new_name before p.key ≡ b → only_if b p ≡ Some o → is_new_name before o.key ≡ true
new_if true before o p is e = let same : p ≡ o = cc in ap (λ (x : FileObjectSource). is_new_name before x.key) (sym same) ∙ is
new_if false before o p is e = absurd (cc)

new_cut : (cut : Option (List ℕ × List ℕ)) (optional : Bool) (before : List FileObjectSource) (o : FileObjectSource)
    → (cut >>= (λ p. only_if (is_new_name before p.0) (record { key = p.0; path = p.1; optional = optional }))) ≡ Some o → is_new_name before o.key ≡ true
new_cut None optional before o e = absurd (cc)
new_cut (Some p) optional before o e = new_if (is_new_name before p.0) before o (record { key = p.0; path = p.1; optional = optional }) refl e

both : (a b : Bool) → a ≡ true → b ≡ true → (a && b) ≡ true
both a b f g = rw (f, g) refl

-- what reading more words keeps
abbrev Keeps : List (List ℕ) → Type 0
Keeps ws = (optional : Bool) (before os : List FileObjectSource) (left : List (List ℕ)) → are_outputs [] before ≡ true → outputs_onto optional before ws ≡ Some (os, left) → are_outputs [] os ≡ true

keeps_with : (r : Option FileObjectSource) (optional : Bool) (before os : List FileObjectSource) (p : List ℕ) (ws left : List (List ℕ)) → Keeps ws → output_of optional before p ≡ r → are_outputs [] before ≡ true
    → (r >>= (λ o. outputs_onto optional (before ++ o ∷ []) ws)) ≡ Some (os, left) → are_outputs [] os ≡ true
keeps_with None optional before os p ws left keeps is so e = absurd (cc)
keeps_with (Some o) optional before os p ws left keeps is so e =
    keeps optional (before ++ o ∷ []) os left (outputs_more [] before o ∙ both (are_outputs [] before) (is_new_name before o.key) so (new_cut (cut_at 61 p) optional before o is)) e

keeps_if : (end : Bool) (more : Option Bool) (before os : List FileObjectSource) (ws left : List (List ℕ)) → ((optional : Bool) → output_onto optional before ws ≡ Some (os, left) → are_outputs [] os ≡ true) → are_outputs [] before ≡ true
    → (if end then Some (before, ws) else more >>= (λ o. output_onto o before ws)) ≡ Some (os, left) → are_outputs [] os ≡ true
keeps_if true more before os ws left on so e =
    let pair : ◌≡◌ {A = List FileObjectSource × List (List ℕ)} (before, ws) (os, left) = cc in
    ap (λ (x : List FileObjectSource × List (List ℕ)). are_outputs [] x.0) (sym pair) ∙ so
keeps_if false (Some optional) before os ws left on so e = on optional e
keeps_if false None before os ws left on so e = absurd (cc)

keeps_on : (ws : List (List ℕ)) → Keeps ws
keeps_on [] optional before os left so e = absurd (cc)
keeps_on (w ∷ []) optional before os left so e = keeps_if (bytes_eq w (codes "--")) (is_optional optional w) before os [] left (λ o f. absurd (cc)) so e
keeps_on (w ∷ p ∷ ws) optional before os left so e =
    keeps_if (bytes_eq w (codes "--")) (is_optional optional w) before os (p ∷ ws) left (λ o f. keeps_with (output_of o before p) o before os p ws left (keeps_on ws) refl so f) so e

abbrev AreNamed : Option PlainArguments → Type 0
AreNamed None = Unit {0}
AreNamed (Some a) = are_outputs [] a.outputs ≡ true

read_named : (r : Option (List FileObjectSource × List (List ℕ))) (ws : List (List ℕ)) (key : List ℕ) (here stored : Bool) → outputs_onto false [] ws ≡ r
    → AreNamed (r >>= (λ o. Some (record { key = key; locally_preprocessed = here; cacheable = stored; outputs = o.0; words = o.1 })))
read_named None ws key here stored is = tt
read_named (Some o) ws key here stored is = keeps_on ws false [] o.0 o.1 refl is

options_named : (key : List ℕ) (dep : Bool × List (List ℕ)) → AreNamed (with_options key dep)
options_named key dep =
    let unstored : Bool × List (List ℕ) = flag (codes "--no-store") dep.1 in
    read_named (outputs_onto false [] unstored.1) unstored.1 key (not dep.0) (not unstored.0) refl

text_named : (b : Bool) (key : List ℕ) (ws : List (List ℕ)) → AreNamed (only_if b key >>= (λ k. with_options k (flag (codes "--dep") ws)))
text_named true key ws = options_named key (flag (codes "--dep") ws)
text_named false key ws = tt

of_named : (ws : List (List ℕ)) → AreNamed (arguments_of ws)
unfolding arguments_of
of_named [] = tt
of_named (k ∷ ws) = text_named (is_utf8 k) k ws

after_named : (f : FirstWord) (ws : List (List ℕ)) → AreNamed (arguments_after f ws)
after_named Key ws = of_named ws
after_named Cannot ws = tt
after_named Other ws = tt

arguments_named : (ws : List (List ℕ)) → AreNamed (arguments ws)
arguments_named [] = tt
arguments_named (w ∷ ws) = after_named (first_of w) ws

-- ---- a path that is joined to a folder changes no name

key_placed : (cwd name : List ℕ) (os : List FileObjectSource) → has_key name (map (placed_in cwd) os) ≡ has_key name os
key_placed cwd name [] = refl
key_placed cwd name (o ∷ os) = ap (λ (b : Bool). bytes_eq o.key name || b) (key_placed cwd name os)

length_placed : (cwd : List ℕ) (os : List FileObjectSource) → length (map (placed_in cwd) os) ≡ length os
length_placed cwd [] = refl
length_placed cwd (o ∷ os) = ap suc (length_placed cwd os)

more_placed : (cwd : List ℕ) (os : List FileObjectSource) (o : FileObjectSource) → map (placed_in cwd) os ++ placed_in cwd o ∷ [] ≡ map (placed_in cwd) (os ++ o ∷ [])
more_placed cwd [] o = refl
more_placed cwd (x ∷ os) o = ap (λ (all : List FileObjectSource). placed_in cwd x ∷ all) (more_placed cwd os o)

outputs_placed : (cwd : List ℕ) (before os : List FileObjectSource) → are_outputs (map (placed_in cwd) before) (map (placed_in cwd) os) ≡ are_outputs before os
outputs_placed cwd before [] = refl
outputs_placed cwd before (o ∷ os) =
    rw (key_placed cwd o.key before, length_placed cwd before, more_placed cwd before o, outputs_placed cwd (before ++ o ∷ []) os) refl

key_named : (a : Option PlainArguments) (cwd : List ℕ) → AreNamed a → are_outputs [] (key_found cwd a).outputs ≡ true
key_named None cwd so = refl
key_named (Some a) cwd so = outputs_placed cwd [] a.outputs ∙ so

pub plain_named : (c : Compile) → are_outputs [] (plain_key c).outputs ≡ true
plain_named c = key_named (arguments c.args) c.cwd (arguments_named c.args)
