-- Maps by texts, as their entries make them.
use Rattle.std.proofs.Common.{◌≡◌, ℕ, cond, List, [], ◌∷◌, Option, Some, refl, ap, sym, ◌∙◌}
use Rattle.std.specs.Ordering.{nat_cmp}
use Rattle.std.specs.declared.cmp.Ordering.{Ordering}
use Rattle.std.specs.Cmp.{eq_by_cmp_equiv}
use Rattle.std.specs.Cmp.Lexicographic.{slice_cmp, nat_list_cmp_total}
use Rattle.std.specs.Map.{lookup}
use Rattle.std.specs.BTreeMap.{is_at}
use Rattle.std.specs.FinMap.{FinMap, from_entries, get, insert, find, get-from_entries, get-insert, same_map, slice_cmp-IsAntisymmetric, nat_cmp-IsAntisymmetric}

abbrev pub text_cmp : List ℕ → List ℕ → Ordering
text_cmp = slice_cmp nat_cmp

abbrev pub map_of : {X : Type 0} → List (List ℕ × X) → FinMap (slice_cmp nat_cmp) X
map_of entries = from_entries entries

-- what the entries have at a text
abbrev pub at_text : {X : Type 0} → List (List ℕ × X) → List ℕ → Option X
at_text es q = lookup (is_at (text_cmp q)) es

find_text : {X : Type 0} (es : List (List ℕ × X)) (q : List ℕ) → find text_cmp q es ≡ at_text es q
find_text [] q = refl
find_text (e ∷ es) q = ap (cond (is_at (text_cmp q) e.0) (Some e.1)) (find_text es q)

-- what the map that the entries make has at a text
pub get_text : {X : Type 0} (es : List (List ℕ × X)) (q : List ℕ) → get (map_of es) q ≡ at_text es q
get_text es q = get-from_entries nat_list_cmp_total es q ∙ find_text es q

-- entries that differ at one text make maps that differ there
pub one_inserted : {X : Type 0} (es fs : List (List ℕ × X)) (s : List ℕ) (x : X) → ((q : List ℕ) → at_text fs q ≡ cond (is_at (text_cmp s) q) (Some x) (at_text es q)) → map_of fs ≡ insert (map_of es) s x
one_inserted es fs s x h = same_map nat_list_cmp_total (slice_cmp-IsAntisymmetric nat_cmp-IsAntisymmetric) _ _ (λ q.
    get_text fs q ∙ h q ∙ ap (λ b. cond b (Some x) (at_text es q)) ((eq_by_cmp_equiv nat_list_cmp_total).symm s q)
    ∙ sym (get-insert nat_list_cmp_total (map_of es) s x q ∙ ap (cond (is_at (text_cmp q) s) (Some x)) (get_text es q)))
