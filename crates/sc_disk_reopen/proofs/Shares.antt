-- What stands in a part of what stands in both.
use Rattle.std.proofs.Common.{◌≡◌, inl, inr, ℕ, Bool, true, false, cond, bytes_eq, List, [], ◌∷◌, ◌++◌, length, option_map, Option, Some, None, refl, sym, ap, ◌∙◌, subst}
use Rattle.std.specs.Cmp.Lexicographic.{nat_list_eq_equiv}
use Rattle.std.specs.Map.{lookup}
use Rattle.sc_entry.specs.Causes.{IfTold}
use Rattle.sc_disk.specs.declared.disk_file.DiskFile.{DiskFile}
use Rattle.sc_disk.specs.Disks.{DiskFiles, DiskRecord, DiskState, did_all, disk_file, disk_file_at, files_now}
use Rattle.sc_entry.specs.Keys.{is_temporary}
use Rattle.sc_disk.specs.Names.{is_temporary_path}
use Rattle.sc_disk.specs.Sound.{IsSound}
use Rattle.sc_disk.specs.Store.{HasFiles, Store, gone}
use Rattle.sc_disk.specs.Opening.{paths_of}
use Rattle.sc_disk.specs.Disks.{listing}
use Rattle.sc_disk.proofs.Temporaries.{name-behind}
use Rattle.sc_disk_pair.specs.Pairs.{index_of, own_key}
use Rattle.sc_disk_pair.specs.Parts.{cut_part, file_of, in_part}
use Rattle.sc_disk_pair.specs.declared.part.Part.{Part}
use Rattle.sc_disk_pair.specs.declared.part.Part.TheVariants.{Main, Pre}
use Rattle.sc_disk_pair.proofs.Joined.{Kind, kind_of}
use Rattle.sc_disk_pair.proofs.Shares.{lookup-part}
use Rattle.sc_disk_reopen.specs.Moments.{Effect, Removed, Standing, Stored, Used, effects_of, stood}
use Rattle.sc_disk_reopen.specs.Reopening.{HasTold, Resumes, temporaries_of}
use Rattle.sc_disk_reopen.proofs.Resuming.{reopens_between, reopens_inside}
use Rattle.sc_disk_reopen.specs.Resuming.{ReopensParts, ReopensPartsInside, ResumesPart, effects_in, stood_in, with_effect}

turned : (q k : List ℕ) → bytes_eq q k ≡ false → bytes_eq k q ≡ false
turned q k h = (nat_list_eq_equiv).symm k q ∙ h

-- an effect on a key, seen at a path of a part: it is one of the part's, or nothing
seen : (part : Part) (q k : List ℕ) (make : List ℕ → Effect) (changed old : Option DiskFile) (own : Standing) (es : List Effect) → ((key : List ℕ) → stood own (make key ∷ es) q ≡ cond (bytes_eq q key) changed old)
    → stood own es q ≡ old → Kind k → stood own (with_effect make (own_key part (cut_part k)) es) q ≡ cond (bytes_eq (in_part part q) k) changed old
seen Main q k make changed old own es at same (inl (Main, r, e)) = subst (λ u. stood own (with_effect make (own_key Main (cut_part u)) es) q ≡ cond (bytes_eq (in_part Main q) u) changed old) (sym e) (at r)
seen Main q k make changed old own es at same (inl (Pre, r, e)) = subst (λ u. stood own (with_effect make (own_key Main (cut_part u)) es) q ≡ cond (bytes_eq (in_part Main q) u) changed old) (sym e) same
seen Pre q k make changed old own es at same (inl (Main, r, e)) = subst (λ u. stood own (with_effect make (own_key Pre (cut_part u)) es) q ≡ cond (bytes_eq (in_part Pre q) u) changed old) (sym e) same
seen Pre q k make changed old own es at same (inl (Pre, r, e)) = subst (λ u. stood own (with_effect make (own_key Pre (cut_part u)) es) q ≡ cond (bytes_eq (in_part Pre q) u) changed old) (sym e) (at r)
seen part q k make changed old own es at same (inr n) = ap (λ o. stood own (with_effect make (own_key part o) es) q) n.1 ∙ same ∙ sym (ap (λ b. cond b changed old) (turned k (in_part part q) (n.0 part q)))

-- what stands at a part's path is what its own effects make of what stood there
stood-part : (part : Part) (start : Standing) (es : List Effect) (q : List ℕ) → stood (λ p. start (in_part part p)) (effects_in part es) q ≡ stood start es (in_part part q)
stood-part part start [] q = refl
stood-part part start (Removed k ∷ es) q = let h = stood-part part start es q in
    seen part q k Removed None (stood start es (in_part part q)) (λ p. start (in_part part p)) (effects_in part es) (λ key. ap (cond (bytes_eq q key) None) h) h (kind_of k)
stood-part part start (Used k now ∷ es) q = let h = stood-part part start es q in
    seen part q k (λ key. Used key now) (option_map (λ (x : DiskFile). disk_file now x.bytes) (stood start es (in_part part q))) (stood start es (in_part part q)) (λ p. start (in_part part p)) (effects_in part es)
    (λ key. ap (λ (o : Option DiskFile). cond (bytes_eq q key) (option_map (λ (x : DiskFile). disk_file now x.bytes) o) o) h) h (kind_of k)
stood-part part start (Stored k now bytes ∷ es) q = let h = stood-part part start es q in
    seen part q k (λ key. Stored key now bytes) (Some (disk_file now bytes)) (stood start es (in_part part q)) (λ p. start (in_part part p)) (effects_in part es) (λ key. ap (cond (bytes_eq q key) (Some (disk_file now bytes))) h) h (kind_of k)

-- a part's path is a temporary's among those of both just where it is one in the part
temporary-part : (part : Part) (q : List ℕ) → is_temporary_path (in_part part q) ≡ is_temporary_path q
unfolding is_temporary_path
temporary-part Main q = ap is_temporary (name-behind (109 ∷ []) q)
temporary-part Pre q = ap is_temporary (name-behind (112 ∷ []) q)

-- a store of both that resumes does so in each part
resumes-part : (part : Part) (r : DiskRecord) (es : List Effect) (c : DiskFiles) (d : DiskState) (t : Store) → Resumes c (stood (disk_file_at (files_now r)) es) d t → HasTold c d → IsSound t → ResumesPart part (stood_in part r es) t
resumes-part part r es c d t resumes has sound =
    let temps = gone (paths_of (temporaries_of (listing c))) in
    let after = did_all temps has.0 in
    let told : t.disk.told ≡ Some after = resumes.removed.told ∙ ap (option_map (did_all temps)) has.1 in
    let start = disk_file_at (files_now r) in
    let files : (q : List ℕ) → disk_file_at (files_now after) q ≡ cond (is_temporary_path q) None (stood start es q) =
    subst (λ (o : Option DiskRecord). IfTold o (λ w. (q : List ℕ) → disk_file_at (files_now w) q ≡ cond (is_temporary_path q) None (stood start es q))) told resumes.files in
    let agreed : HasFiles t.disk.divided t.index t.pending.slots (files_now after) = subst (λ (o : Option DiskRecord). IfTold o (λ w. HasFiles t.disk.divided t.index t.pending.slots (files_now w))) told sound.files in
    let own : (q : List ℕ) → file_of part (files_now after) q ≡ cond (is_temporary_path q) None (stood_in part r es q) =
    λ q. files (in_part part q) ∙ ap (λ b. cond b None (stood start es (in_part part q))) (temporary-part part q) ∙ ap (cond (is_temporary_path q) None) (sym (stood-part part start es q)) in
    record {
      after = after;
      told = told;
      files = own;
      index = λ q h. sym (lookup-part part q t.index) ∙ sym (agreed.agrees (in_part part q) (temporary-part part q ∙ h)) ∙ ap (option_map (λ (x : DiskFile). length x.bytes)) (own q ∙ ap (λ b. cond b None (stood_in part r es q)) h);
    }

pub reopens_parts : ReopensParts
reopens_parts part s t r calls b d c sound told is left has opened keeps = resumes-part part r (effects_of calls) c d t (reopens_between s t r calls b d c sound told is left has opened) has keeps

pub reopens_parts_inside : ReopensPartsInside
reopens_parts_inside s t r calls es a b d c sound told is m stop has opened keeps = let h = reopens_inside s t r calls es a b d c sound told is m stop has opened in
    (h.0, h.1, h.2, λ part. resumes-part part r (h.1 ++ effects_of calls) c d t h.3 has keeps)
