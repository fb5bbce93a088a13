-- How an index of an entry's objects grows as they are read.
use Rattle.std.proofs.Common.{◌≡◌, ℕ, zero, suc, ◌+◌, ◌-◌, ◌<◌, ◌≤◌, ◌^◌, Bool, true, false, cond, not, List, [], ◌∷◌, ◌++◌, length, take, drop, Option, Some, None, Ok, Global, String, BTreeMap, refl, sym, ap, subst, ◌∙◌, append_assoc, arith, length-append}
use Rattle.std.specs.Prelude.{codes, is_some, string_bytes, IfSome, ◌||◌}
use Rattle.std.specs.Str.{bytes_eq}
use Rattle.std.specs.BTreeMap.{get_by_text, is_at}
use Rattle.std.specs.Map.{lookup}
use Rattle.std.specs.Ordering.{nat_cmp}
use Rattle.std.specs.Cmp.Lexicographic.{slice_cmp}
use Rattle.std.specs.Int.{w16, w64}
use Rattle.std.proofs.lemmas.Bool.{false_from_ne_true}
use Rattle.std.proofs.lemmas.Slice.Eq.{bytes_eq-Decides}
use Rattle.std.proofs.lemmas.List.{length-take, take-append-drop, drop_at, take_at}
use Rattle.sc_entry.specs.declared.object.Object.{Object}
use Rattle.sc_entry.specs.declared.held.Held.{Held}
use Rattle.sc_entry.specs.Entries.{spell_number, spell_mode, find_object, has_name, spell_object, read_object, read_objects, objects, listed, ◌>>=◌, read_number}
use Rattle.sc_entry.specs.Held.{IsHeld, IsIndexOf, IndexAnswer}
use Rattle.sc_entry.proofs.EntryLaws.{takes_object, TookObject, takes_number, TookNumber}

differs : (b ne : Bool) → b ≡ true → ne ≡ not b → ne ≡ true → ⊥
differs true ne eq e is = (cc)
differs false ne eq e is = (cc)

is_eq_of : (b ne : Bool) → ne ≡ not b → ne ≡ false → b ≡ true
is_eq_of true ne e is = refl
is_eq_of false ne e is = (cc)

pub other_letters : (bytes : List ℕ) → (take 4 bytes ≡ codes "SCE1" → ⊥) → objects bytes ≡ None
unfolding objects
other_letters bytes other = rw (false_from_ne_true (bytes_eq (take 4 bytes) (codes "SCE1")) (λ e. other ((bytes_eq-Decides (take 4 bytes) (codes "SCE1")).0 e))) refl

pub same_letters : (bytes : List ℕ) → take 4 bytes ≡ codes "SCE1" → objects bytes ≡ (read_number w16 (2 ^ 16) (drop 4 bytes) >>= λ n. read_objects n.0 [] n.1)
unfolding objects
same_letters bytes same = rw same refl

pub letters_short : (bytes : List ℕ) → length bytes < 4 → objects bytes ≡ None
letters_short bytes short = other_letters bytes (λ e. let all = ap (λ (xs : List ℕ). length xs) e in omega (arith, all, length-take 4 bytes))

pub letters_differ : (bytes letters other : List ℕ) (ne : Bool) → letters ≡ take 4 bytes → other ≡ codes "SCE1" → ne ≡ not (bytes_eq letters other) → ne ≡ true → objects bytes ≡ None
letters_differ bytes letters other ne front four e is =
    other_letters bytes (λ same. let eq : bytes_eq letters other ≡ true = (bytes_eq-Decides letters other).1 (front ∙ same ∙ sym four) in differs (bytes_eq letters other) ne eq e is)

pub letters_same : (bytes letters other : List ℕ) (ne : Bool) → letters ≡ take 4 bytes → other ≡ codes "SCE1" → ne ≡ not (bytes_eq letters other) → ne ≡ false → take 4 bytes ≡ codes "SCE1"
letters_same bytes letters other ne front four e is = sym front ∙ (bytes_eq-Decides letters other).0 (is_eq_of (bytes_eq letters other) ne e is) ∙ four

pub count_read : (bytes rest : List ℕ) (n : ℕ) → take 4 bytes ≡ codes "SCE1" → read_number w16 (2 ^ 16) (drop 4 bytes) ≡ Some (n, rest) → objects bytes ≡ read_objects n [] rest
count_read bytes rest n same e = same_letters bytes same ∙ ap (λ (o : Option (ℕ × List ℕ)). o >>= λ m. read_objects m.0 [] m.1) e

pub count_none : (bytes : List ℕ) → take 4 bytes ≡ codes "SCE1" → read_number w16 (2 ^ 16) (drop 4 bytes) ≡ None → objects bytes ≡ None
count_none bytes same e = same_letters bytes same ∙ ap (λ (o : Option (ℕ × List ℕ)). o >>= λ m. read_objects m.0 [] m.1) e

pub count_front : (bytes rest : List ℕ) (n : ℕ) → take 4 bytes ≡ codes "SCE1" → read_number w16 (2 ^ 16) (drop 4 bytes) ≡ Some (n, rest) → bytes ≡ (codes "SCE1" ++ spell_number w16 n) ++ rest
count_front bytes rest n same e =
    let took : TookNumber w16 (2 ^ 16) (drop 4 bytes) (n, rest) = subst (λ (o : Option (ℕ × List ℕ)). IfSome o (TookNumber w16 (2 ^ 16) (drop 4 bytes))) e (takes_number w16 (2 ^ 16) (drop 4 bytes)) in
    sym (take-append-drop 4 bytes) ∙ ap (λ (xs : List ℕ). xs ++ drop 4 bytes) same ∙ ap (λ (xs : List ℕ). codes "SCE1" ++ xs) took.0
    ∙ sym (append_assoc (codes "SCE1") (spell_number w16 n) rest)

-- ---- one object more

same_bool : (x y : Bool) → (x ≡ true → y ≡ true) → (y ≡ true → x ≡ true) → x ≡ y
same_bool true y f g = sym (f refl)
same_bool false true f g = g refl
same_bool false false f g = refl

pub eq_sym : (a b : List ℕ) → bytes_eq a b ≡ bytes_eq b a
eq_sym a b = same_bool _ _ (λ e. (bytes_eq-Decides b a).1 (sym ((bytes_eq-Decides a b).0 e))) (λ e. (bytes_eq-Decides a b).1 (sym ((bytes_eq-Decides b a).0 e)))

some_or : (b x : Bool) (o : Object) (f : Option Object) → x ≡ is_some f → (b || x) ≡ is_some (cond b (Some o) f)
some_or true x o f e = refl
some_or false x o f e = e

pub has_find : (name : List ℕ) (os : List Object) → has_name name os ≡ is_some (find_object name os)
has_find name [] = refl
has_find name (o ∷ os) = some_or (bytes_eq name o.name) (has_name name os) o (find_object name os) (has_find name os)

left_false : (x y : Bool) → (x || y) ≡ false → x ≡ false
left_false true y e = e
left_false false y e = refl

right_false : (x y : Bool) → (x || y) ≡ false → y ≡ false
right_false true y e = (cc)
right_false false y e = e

swapped : (b c : Bool) (p o f : Option Object) → (b ≡ true → c ≡ false) → cond b p (cond c o f) ≡ cond c o (cond b p f)
swapped true true p o f other = let e = other refl in (cc)
swapped true false p o f other = refl
swapped false c p o f other = refl

-- an object of a new name is found behind the others
pub find_more : (name : List ℕ) (o : Object) (before : List Object) → has_name o.name before ≡ false
    → find_object name (before ++ (o ∷ [])) ≡ cond (bytes_eq o.name name) (Some o) (find_object name before)
find_more name o [] new = ap (λ (b : Bool). cond b (Some o) None) (eq_sym name o.name)
find_more name o (p ∷ ps) new =
    ap (λ (f : Option Object). cond (bytes_eq name p.name) (Some p) f) (find_more name o ps (right_false (bytes_eq o.name p.name) (has_name o.name ps) new))
    ∙ swapped (bytes_eq name p.name) (bytes_eq o.name name) (Some p) (Some o) (find_object name ps)
    (λ e. ap (λ (n : List ℕ). bytes_eq o.name n) ((bytes_eq-Decides name p.name).0 e) ∙ left_false (bytes_eq o.name p.name) (has_name o.name ps) new)

held_some : (bytes : List ℕ) (f : Option Object) (g : Option Held) → IsHeld bytes f g → is_some f ≡ is_some g
held_some bytes None None h = refl
held_some bytes None (Some g) h = absurd h
held_some bytes (Some o) None h = absurd h
held_some bytes (Some o) (Some g) h = refl

is_within : (bytes : List ℕ) (f : Option Object) (h : Held) → IsHeld bytes f (Some h) → h.start + h.len ≤ length bytes
is_within bytes None h at = absurd at
is_within bytes (Some o) h at = at.2

-- a range that is found is within the bytes
pub held_within : (bytes : List ℕ) (f : Option Object) (g : Option Held) (h : Held) → IsHeld bytes f g → Some h ≡ g → h.start + h.len ≤ length bytes
held_within bytes f g h at e = is_within bytes f h (subst (λ (o : Option Held). IsHeld bytes f o) (sym e) at)

held_both : (bytes : List ℕ) (b : Bool) (o f : Option Object) (h g : Option Held) → IsHeld bytes o h → IsHeld bytes f g → IsHeld bytes (cond b o f) (cond b h g)
held_both bytes true o f h g at else' = at
held_both bytes false o f h g at else' = else'

held_more : (bytes : List ℕ) (before : List Object) (o : Object) (h : Held) (index after : BTreeMap (String Global) Held) → has_name o.name before ≡ false → IsHeld bytes (Some o) (Some h)
    → IsIndexOf bytes before index → ((name : List ℕ) → get_by_text after name ≡ cond (bytes_eq o.name name) (Some h) (get_by_text index name)) → IsIndexOf bytes (before ++ (o ∷ [])) after
held_more bytes before o h index after new at so next = λ name.
    rw (find_more name o before new, next name)
    (held_both bytes (bytes_eq o.name name) (Some o) (find_object name before) (Some h) (get_by_text index name) at (so name))

-- ---- where an object's data stands

placed : (front text rest bytes : List ℕ) (start : ℕ) → bytes ≡ front ++ (text ++ rest) → start ≡ length bytes - length rest - length text
    → (take (length text) (drop start bytes) ≡ text) × (start + length text ≤ length bytes)
placed front text rest bytes start e place =
    let all = ap (λ (xs : List ℕ). length xs) e in
    let at : length front ≡ start = omega (arith, place, all, length-append front (text ++ rest), length-append text rest) in
    (rw (e, drop_at front (text ++ rest) start at, take_at text rest (length text) refl) refl, omega (arith, place, all, length-append front (text ++ rest), length-append text rest))

within : (front text rest bytes : List ℕ) → bytes ≡ front ++ (text ++ rest) → length rest + length text ≤ length bytes
within front text rest bytes e = let all = ap (λ (xs : List ℕ). length xs) e in omega (arith, all, length-append front (text ++ rest), length-append text rest)

opened : (front a n m l d rest : List ℕ) → front ++ ((a ++ (n ++ (m ++ (l ++ d)))) ++ rest) ≡ (front ++ (a ++ (n ++ (m ++ l)))) ++ (d ++ rest)
opened front a n m l d rest = simp append_assoc refl

-- ---- the objects that were read so far

abbrev pub HeldSoFar : List ℕ → ℕ → List ℕ → BTreeMap (String Global) Held → Type 0
HeldSoFar bytes left rest index = (before : List Object) × (front : List ℕ) × (bytes ≡ front ++ rest) × (objects bytes ≡ read_objects left before rest) × IsIndexOf bytes before index

pub none_held : (index : BTreeMap (String Global) Held) → index.entries ≡ [] → (name : List ℕ) → get_by_text index name ≡ None
none_held index none name = ap (λ (es : List (String Global × Held)). lookup (is_at (λ (k : String Global). slice_cmp nat_cmp name (string_bytes k))) es) none

pub held_none : (bytes rest : List ℕ) (left : ℕ) (index : BTreeMap (String Global) Held) → bytes ≡ (codes "SCE1" ++ spell_number w16 left) ++ rest → objects bytes ≡ read_objects left [] rest
    → ((name : List ℕ) → get_by_text index name ≡ None) → HeldSoFar bytes left rest index
held_none bytes rest left index front read none = ([], codes "SCE1" ++ spell_number w16 left, front, read, λ name. rw (none name) tt)

-- one object is read of those left
one_read : (left : ℕ) (before : List Object) (rest : List ℕ) → 0 < left
    → read_objects left before rest ≡ (read_object rest >>= λ o. cond (has_name o.0.name before) None (read_objects (left - 1) (before ++ (o.0 ∷ [])) o.1))
unfolding read_objects
one_read zero before rest some = absurd (omega arith)
one_read (suc n) before rest some = let e : suc n - 1 ≡ n = omega arith in rw e refl

pub object_missing : (bytes rest : List ℕ) (left : ℕ) (index : BTreeMap (String Global) Held) → 0 < left → HeldSoFar bytes left rest index → read_object rest ≡ None → objects bytes ≡ None
object_missing bytes rest left index some so e = so.3 ∙ one_read left so.0 rest some ∙ rw e refl

abbrev pub AfterObject : ℕ → List Object → Object × List ℕ → Option (List Object)
AfterObject left before o = cond (has_name o.0.name before) None (read_objects (left - 1) (before ++ (o.0 ∷ [])) o.1)

after_object : (bytes rest after : List ℕ) (left : ℕ) (before : List Object) (o : Object) → 0 < left → objects bytes ≡ read_objects left before rest → read_object rest ≡ Some (o, after)
    → objects bytes ≡ AfterObject left before (o, after)
after_object bytes rest after left before o some so e = so ∙ one_read left before rest some ∙ rw e refl

is_new : (bytes : List ℕ) (before : List Object) (index : BTreeMap (String Global) Held) (name : List ℕ) → IsIndexOf bytes before index → has_name name before ≡ is_some (get_by_text index name)
is_new bytes before index name so = has_find name before ∙ held_some bytes (find_object name before) (get_by_text index name) (so name)

not_new : (x y new : Bool) → x ≡ y → new ≡ not y → new ≡ false → x ≡ true
not_new x true new e f g = e
not_new x false new e f g = (cc)

yes_new : (x y new : Bool) → x ≡ y → new ≡ not y → new ≡ true → x ≡ false
yes_new x true new e f g = (cc)
yes_new x false new e f g = e

pub name_taken : (bytes rest after : List ℕ) (left : ℕ) (index : BTreeMap (String Global) Held) (o : Object) (new : Bool) → 0 < left → HeldSoFar bytes left rest index
    → read_object rest ≡ Some (o, after) → new ≡ not (is_some (get_by_text index o.name)) → new ≡ false → objects bytes ≡ None
name_taken bytes rest after left index o new some so e is old =
    let taken : has_name o.name so.0 ≡ true = not_new _ _ new (is_new bytes so.0 index o.name so.4) is old in
    after_object bytes rest after left so.0 o some so.3 e ∙ rw taken refl

pub object_held : (bytes rest after : List ℕ) (left start : ℕ) (index next : BTreeMap (String Global) Held) (o : Object) (new : Bool) → 0 < left → HeldSoFar bytes left rest index
    → read_object rest ≡ Some (o, after) → start ≡ length bytes - length after - length o.bytes → new ≡ not (is_some (get_by_text index o.name)) → new ≡ true
    → ((name : List ℕ) → get_by_text next name ≡ cond (bytes_eq o.name name) (Some (record { mode = o.mode; start = start; len = length o.bytes })) (get_by_text index name))
    → HeldSoFar bytes (left - 1) after next
object_held bytes rest after left start index next o new some so e place is fresh held =
    let first : has_name o.name so.0 ≡ false = yes_new _ _ new (is_new bytes so.0 index o.name so.4) is fresh in
    let took : TookObject rest (o, after) = subst (λ (p : Option (Object × List ℕ)). IfSome p (TookObject rest)) e (takes_object rest) in
    let whole : bytes ≡ so.1 ++ (spell_object o ++ after) = so.2 ∙ ap (λ (xs : List ℕ). so.1 ++ xs) took.0 in
    let parts : bytes ≡ (so.1 ++ (spell_number w16 (length o.name) ++ (o.name ++ (spell_mode o.mode ++ spell_number w64 (length o.bytes))))) ++ (o.bytes ++ after) =
    whole ∙ opened so.1 (spell_number w16 (length o.name)) o.name (spell_mode o.mode) (spell_number w64 (length o.bytes)) o.bytes after in
    let at = placed (so.1 ++ (spell_number w16 (length o.name) ++ (o.name ++ (spell_mode o.mode ++ spell_number w64 (length o.bytes))))) o.bytes after bytes start parts place in (
      so.0 ++ (o ∷ []),
      so.1 ++ spell_object o,
      whole ∙ sym (append_assoc so.1 (spell_object o) after),
      after_object bytes rest after left so.0 o some so.3 e ∙ rw first refl,
      held_more bytes so.0 o (record { mode = o.mode; start = start; len = length o.bytes }) index next first (refl, at.0, at.1) so.4 held,
    )

-- an object's data and what follows it are within the bytes
pub object_within : (bytes rest after : List ℕ) (left : ℕ) (index : BTreeMap (String Global) Held) (o : Object) → HeldSoFar bytes left rest index → read_object rest ≡ Some (o, after)
    → length after + length o.bytes ≤ length bytes
object_within bytes rest after left index o so e =
    let took : TookObject rest (o, after) = subst (λ (p : Option (Object × List ℕ)). IfSome p (TookObject rest)) e (takes_object rest) in
    let parts : bytes ≡ (so.1 ++ (spell_number w16 (length o.name) ++ (o.name ++ (spell_mode o.mode ++ spell_number w64 (length o.bytes))))) ++ (o.bytes ++ after) =
    so.2 ∙ ap (λ (xs : List ℕ). so.1 ++ xs) took.0 ∙ opened so.1 (spell_number w16 (length o.name)) o.name (spell_mode o.mode) (spell_number w64 (length o.bytes)) o.bytes after in
    within (so.1 ++ (spell_number w16 (length o.name) ++ (o.name ++ (spell_mode o.mode ++ spell_number w64 (length o.bytes))))) o.bytes after bytes parts

all_read : (before : List Object) (rest : List ℕ) → rest ≡ [] → read_objects 0 before rest ≡ Some before
unfolding read_objects
all_read before [] end = refl
all_read before (b ∷ rest) end = absurd (let e = ap (λ (xs : List ℕ). length xs) end in omega arith)

more_left : (before : List Object) (rest : List ℕ) → (rest ≡ [] → ⊥) → read_objects 0 before rest ≡ None
unfolding read_objects
more_left before [] some = absurd (some refl)
more_left before (b ∷ rest) some = refl

pub held_all : (bytes rest : List ℕ) (left : ℕ) (index : BTreeMap (String Global) Held) → left ≡ 0 → rest ≡ [] → HeldSoFar bytes left rest index → IndexAnswer bytes (objects bytes) (Ok index)
held_all bytes rest left index none end so =
    let e : objects bytes ≡ Some so.0 = so.3 ∙ ap (λ (n : ℕ). read_objects n so.0 rest) none ∙ all_read so.0 rest end in
    rw e so.4

pub bytes_over : (bytes rest : List ℕ) (left : ℕ) (index : BTreeMap (String Global) Held) → left ≡ 0 → (rest ≡ [] → ⊥) → HeldSoFar bytes left rest index → objects bytes ≡ None
bytes_over bytes rest left index none some so = so.3 ∙ ap (λ (n : ℕ). read_objects n so.0 rest) none ∙ more_left so.0 rest some

-- ---- the whole entry

pub read_entry : (bytes : List ℕ) (o : Option (List Object)) (index : BTreeMap (String Global) Held) → IndexAnswer bytes o (Ok index) → (o ≡ Some (listed o)) × IsIndexOf bytes (listed o) index
read_entry bytes None index h = absurd h
read_entry bytes (Some os) index h = (refl, h)
