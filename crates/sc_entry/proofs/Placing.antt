-- How an entry's objects are placed, one source after the other.
use Rattle.std.proofs.Common.{◌≡◌, ℕ, zero, suc, ◌+◌, ◌<◌, Bool, true, false, cond, not, List, [], ◌∷◌, ◌++◌, length, take, drop, get_or, Option, Some, None, Bor, refl, sym, ap, subst, ◌∙◌, arith, drop-cons, add-one}
use Rattle.std.specs.Prelude.{is_some, ◌||◌, ◌&&◌}
use Rattle.sc_entry.specs.declared.object.Object.{Object}
use Rattle.sc_entry.specs.declared.object.FileObjectSource.{FileObjectSource}
use Rattle.sc_entry.specs.Entries.{find_object, has_name}
use Rattle.sc_entry.specs.Held.{IsFound}
use Rattle.sc_entry.specs.FileMaps.{FileMap}
use Rattle.sc_entry.specs.Gathering.{is_null_path, is_lacking, lacks_any, object_to_place, place_object, place_each}
use Rattle.std.proofs.lemmas.Grind.{take_at_read}
use Rattle.sc_entry.proofs.Holding.{has_find}

found_some : (f : Option Object) (g : Option (Option ℕ × Bor (List ℕ))) → IsFound f g → is_some f ≡ is_some g
found_some None None h = refl
found_some None (Some p) h = absurd h
found_some (Some o) None h = absurd h
found_some (Some o) (Some p) h = refl

lacking_by : (null optional there none : Bool) → null ≡ false → optional ≡ false → there ≡ not none → none ≡ (not null && (not optional && not there))
lacking_by true optional there none a b c = (cc)
lacking_by false true there none a b c = (cc)
lacking_by false false true true a b c = (cc)
lacking_by false false true false a b c = refl
lacking_by false false false true a b c = refl
lacking_by false false false false a b c = (cc)

pub missing_is : (os : List Object) (s : FileObjectSource) (g : Option (Option ℕ × Bor (List ℕ))) (none : Bool) → is_null_path s.path ≡ false → s.optional ≡ false
    → IsFound (find_object s.key os) g → is_some g ≡ not none → none ≡ is_lacking os s
missing_is os s g none null optional found e =
    lacking_by (is_null_path s.path) s.optional (has_name s.key os) none null optional (has_find s.key os ∙ found_some (find_object s.key os) g found ∙ e)

-- ---- the sources after a place

from_place : (sources : List FileObjectSource) (i : ℕ) (s : FileObjectSource) → i < length sources → s ≡ get_or sources i s → drop i sources ≡ s ∷ drop (i + 1) sources
from_place sources i s lt is = drop-cons sources i s lt ∙ ap (λ (x : FileObjectSource). x ∷ drop (suc i) sources) (sym is) ∙ ap (λ (n : ℕ). s ∷ drop n sources) (sym (add-one i))

pub lacks_here : (os : List Object) (sources : List FileObjectSource) (i : ℕ) (s : FileObjectSource) → i < length sources → s ≡ get_or sources i s → is_lacking os s ≡ true
    → lacks_any os sources ≡ lacks_any os (drop i sources) → lacks_any os sources ≡ true
lacks_here os sources i s lt is e so = so ∙ ap (λ (ss : List FileObjectSource). lacks_any os ss) (from_place sources i s lt is) ∙ ap (λ (b : Bool). b || lacks_any os (drop (i + 1) sources)) e

pub lacks_on : (os : List Object) (sources : List FileObjectSource) (i : ℕ) (s : FileObjectSource) → i < length sources → s ≡ get_or sources i s → is_lacking os s ≡ false
    → lacks_any os sources ≡ lacks_any os (drop i sources) → lacks_any os sources ≡ lacks_any os (drop (i + 1) sources)
lacks_on os sources i s lt is e so = so ∙ ap (λ (ss : List FileObjectSource). lacks_any os ss) (from_place sources i s lt is) ∙ ap (λ (b : Bool). b || lacks_any os (drop (i + 1) sources)) e

place_last : (os : List Object) (ss : List FileObjectSource) (s : FileObjectSource) (files : FileMap)
    → place_each os (ss ++ (s ∷ [])) files ≡ place_object (object_to_place os s) s.path (place_each os ss files)
place_last os [] s files = refl
place_last os (r ∷ rs) s files = place_last os rs s (place_object (object_to_place os r) r.path files)

pub places_on : (os : List Object) (sources : List FileObjectSource) (i : ℕ) (s : FileObjectSource) → i < length sources → s ≡ get_or sources i s → (old now new : FileMap)
    → now ≡ place_each os (take i sources) old → new ≡ place_object (object_to_place os s) s.path now → new ≡ place_each os (take (i + 1) sources) old
places_on os sources i s lt is old now new so e =
    let front : take (i + 1) sources ≡ take i sources ++ (s ∷ []) = (take_at_read sources i s lt).1 ∙ ap (λ (x : FileObjectSource). take i sources ++ (x ∷ [])) (sym is) in
    e ∙ ap (λ (files : FileMap). place_object (object_to_place os s) s.path files) so ∙ sym (place_last os (take i sources) s old)
    ∙ sym (ap (λ (ss : List FileObjectSource). place_each os ss old) front)
