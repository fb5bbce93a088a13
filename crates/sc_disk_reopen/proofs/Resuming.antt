-- A store that is opened on what a stop left.
use Rattle.std.proofs.Common.{◌≡◌, ℕ, zero, suc, ◌<◌, ◌≤◌, Bool, true, false, cond, not, ◌&&◌, nat_le, is_some, List, [], ◌∷◌, ◌++◌, length, drop, slice_index_or, option_map, Option, Some, None, refl, sym, ap, ◌∙◌, subst, arith, length-append}
use Rattle.std.proofs.lemmas.Bool.Decides.{nat_tests}
use Rattle.std.proofs.lemmas.List.Sorted.{IsPermutation-map, sum_by-IsPermutation}
use Rattle.std.specs.List.Sorted.{IsPermutation}
use Rattle.sc_entry.specs.Causes.{IfTold}
use Rattle.sc_lru.proofs.Measures.{total-cons}
use Rattle.sc_lru.specs.LruCache.{total}
use Rattle.sc_disk.specs.Disks.{DiskFiles, DiskRecord, DiskState, Does, did_all, disk_file_at, files_now, listing, replay}
use Rattle.sc_disk.specs.declared.disk_file.DiskFile.{DiskFile}
use Rattle.sc_disk.specs.Lazy.{IsOpened}
use Rattle.sc_disk.specs.Names.{is_temporary_path}
use Rattle.sc_disk.specs.Opening.{Indexes, Reopens, dropped_of, kept_of, pair_of, pairs_of, paths_of}
use Rattle.sc_disk.specs.Sound.{IsSound}
use Rattle.sc_disk.specs.Store.{HasFiles, Needed, NoStray, Store, firsts, gone, size_of}
use Rattle.sc_disk.specs.declared.change.Change.{Change}
use Rattle.sc_disk.specs.declared.change.Change.TheVariants.{Gone}
use Rattle.sc_disk.specs.declared.disk.Listed.{Listed}
use Rattle.sc_disk.specs.declared.pending.Pending.{Pending}
use Rattle.sc_disk.proofs.Doing.{replay-append}
use Rattle.sc_disk.proofs.Pairs.{Index}
use Rattle.sc_disk_reopen.specs.Moments.{Calls, Effect, IsWithin, Keeps, LeftBy, Moments, Shows, Standing, effects_of, shown_of, stood}
use Rattle.sc_disk_reopen.specs.Reopening.{HasTold, ReopensBetween, ReopensInside, Resumes, temporaries_of}
use Rattle.sc_disk_reopen.proofs.Playing.{AllHidden, left-last, plays-hiddens, stood-append, stood-same}
use Rattle.sc_disk_reopen.proofs.Within.{part-agrees, within-part}
use Rattle.sc_disk.proofs.Changing.{size}

le-true : (m n : ℕ) → m ≤ n → nat_le m n ≡ true
le-true m n h = grind (arith, nat_tests)

-- where all fit together, an opening keeps each file that is no temporary
kept-shown : (capacity : ℕ) (all : List Listed) → total size_of (pairs_of (shown_of all)) ≤ capacity → kept_of capacity all ≡ shown_of all
kept-shown capacity [] h = refl
kept-shown capacity (x ∷ all) h = (elim (is_temporary_path x.path) as (λ y. total size_of (pairs_of (cond (not y) (x ∷ shown_of all) (shown_of all))) ≤ capacity → cond (not y && nat_le x.size capacity) (x ∷ kept_of capacity all) (kept_of capacity all) ≡ cond (not y) (x ∷ shown_of all) (shown_of all)) [
  | true ↦ λ u. kept-shown capacity all u
  | false ↦ λ u. let sum = total-cons size_of (pair_of x) (pairs_of (shown_of all)) in
      ap (λ b. cond b (x ∷ kept_of capacity all) (kept_of capacity all)) (le-true x.size capacity (omega (arith, sum, u))) ∙ ap (λ l. x ∷ l) (kept-shown capacity all (omega (arith, sum, u)))
]) h

dropped-temporaries : (capacity : ℕ) (all : List Listed) → total size_of (pairs_of (shown_of all)) ≤ capacity → dropped_of capacity all ≡ temporaries_of all
dropped-temporaries capacity [] h = refl
dropped-temporaries capacity (x ∷ all) h = (elim (is_temporary_path x.path) as (λ y. total size_of (pairs_of (cond (not y) (x ∷ shown_of all) (shown_of all))) ≤ capacity → cond (not (not y && nat_le x.size capacity)) (x ∷ dropped_of capacity all) (dropped_of capacity all) ≡ cond y (x ∷ temporaries_of all) (temporaries_of all)) [
  | true ↦ λ u. ap (λ l. x ∷ l) (dropped-temporaries capacity all u)
  | false ↦ λ u. let sum = total-cons size_of (pair_of x) (pairs_of (shown_of all)) in
      ap (λ b. cond (not b) (x ∷ dropped_of capacity all) (dropped_of capacity all)) (le-true x.size capacity (omega (arith, sum, u))) ∙ dropped-temporaries capacity all (omega (arith, sum, u))
]) h

drop-none : (es : Index) → drop 0 es ≡ es
drop-none [] = refl
drop-none (e ∷ es) = refl

firsts-none : (es : Index) → firsts 0 es ≡ []
firsts-none [] = refl
firsts-none (e ∷ es) = refl

append-none : {X : Type 0} (xs : List X) → xs ++ [] ≡ xs
append-none [] = refl
append-none (x ∷ xs) = ap (λ l. x ∷ l) (append-none xs)

none-gone : (capacity n : ℕ) (es : Index) → Needed capacity n es → total size_of es ≤ capacity → n ≡ 0
none-gone capacity zero es h fits = refl
none-gone capacity (suc n) es h fits = let over : capacity < total size_of (drop 0 es) = h 0 (omega arith) in absurd (omega (arith, over, ap (total size_of) (drop-none es), fits))

hidden-more : (xs : List Change) (k : List ℕ) → AllHidden xs → is_temporary_path k ≡ true → AllHidden (xs ++ Gone k ∷ [])
hidden-more [] k h t = (t, tt)
hidden-more (x ∷ xs) k h t = (h.0, hidden-more xs k h.1 t)

hidden-temporaries : (all : List Listed) → AllHidden (gone (paths_of (temporaries_of all)))
hidden-temporaries [] = tt
hidden-temporaries (x ∷ all) = (elim (is_temporary_path x.path) as (λ y. is_temporary_path x.path ≡ y → AllHidden (gone (paths_of (cond y (x ∷ temporaries_of all) (temporaries_of all))))) [
  | true ↦ λ u. hidden-more (gone (paths_of (temporaries_of all))) x.path (hidden-temporaries all) u
  | false ↦ λ u. hidden-temporaries all
]) refl

no_open : (e : Pending) (n : ℕ) → slice_index_or {A = Option Pending} [] n None ≡ Some e → ⊥
no_open e n h = cc

absent : (o : Option DiskFile) → (is_some o ≡ true → ⊥) → o ≡ None
absent None h = refl
absent (Some x) h = absurd (h refl)

-- the files of a disk that tells, after removals
told-gone : (d e : DiskState) (rd : DiskRecord) (xs : List Change) (P : DiskFiles → Type 0) → d.told ≡ Some rd → Does xs d e → P (replay (files_now rd) xs) → IfTold e.told (λ r. P (files_now r))
told-gone d e rd xs P told did p = subst (λ (o : Option DiskRecord). IfTold o (λ r. P (files_now r))) (sym (did.told ∙ ap (option_map (did_all xs)) told)) (subst P (sym (replay-append rd.first xs rd.done)) p)

pub of-told : (o : Option DiskRecord) (rd : DiskRecord) (c : DiskFiles) (P : DiskFiles → Type 0) → o ≡ Some rd → files_now rd ≡ c → IfTold o (λ r. P (files_now r)) → P c
of-told o rd c P told is p = subst P is (subst (λ (o : Option DiskRecord). IfTold o (λ r. P (files_now r))) told p)

-- what is told of one and the same record
told-both : (o : Option DiskRecord) (P Q R : DiskFiles → Type 0) → ((f : DiskFiles) → P f → Q f → R f) → IfTold o (λ r. P (files_now r)) → IfTold o (λ r. Q (files_now r)) → IfTold o (λ r. R (files_now r))
told-both None P Q R step p q = tt
told-both (Some r) P Q R step p q = step (files_now r) p q

whole-at : (standing : Standing) (divided : Bool) (f : DiskFiles) → ((q : List ℕ) → is_temporary_path q ≡ false → disk_file_at f q ≡ standing q) → NoStray divided [] f → (q : List ℕ) → disk_file_at f q ≡ cond (is_temporary_path q) None (standing q)
whole-at standing divided f shows none q = (elim (is_temporary_path q) as (λ y. is_temporary_path q ≡ y → disk_file_at f q ≡ cond y None (standing q)) [
  | true ↦ λ u. absent (disk_file_at f q) (λ some. let w = none q u some in no_open w.1 w.0 w.2)
  | false ↦ λ u. shows q u
]) refl

pub resumes : (capacity : ℕ) (c : DiskFiles) (standing : Standing) (d : DiskState) (t : Store) → IsWithin capacity c → Shows c standing → HasTold c d → IsOpened capacity d t → Resumes c standing d t
unfolding Reopens
resumes capacity c standing d t within shows told opened =
    let o = opened.opened in
    let i : Indexes capacity t.index o.0 c = of-told d.told told.0 c (Indexes capacity t.index o.0) told.1 told.2 o.2 in
    let kept : kept_of capacity (listing c) ≡ shown_of (listing c) = kept-shown capacity (listing c) within in
    let same : IsPermutation (shown_of (listing c)) i.order = subst (λ (l : List Listed). IsPermutation l i.order) kept i.ordered.same in
    let sum : total size_of (pairs_of i.order) ≡ total size_of (pairs_of (shown_of (listing c))) = sum_by-IsPermutation (λ (e : List ℕ × ℕ). size_of e.0 e.1) (pairs_of (shown_of (listing c))) (pairs_of i.order) (IsPermutation-map pair_of (shown_of (listing c)) i.order same) in
    let zero_gone : i.n ≡ 0 = none-gone capacity i.n (pairs_of i.order) i.evicted.0 (omega (arith, sum, within)) in
    let temps = paths_of (temporaries_of (listing c)) in
    let removed : o.0 ≡ temps = i.removed ∙ ap (λ n. paths_of (dropped_of capacity (listing c)) ++ firsts n (pairs_of i.order)) zero_gone ∙ ap (λ l. paths_of (dropped_of capacity (listing c)) ++ l) (firsts-none (pairs_of i.order))
    ∙ append-none (paths_of (dropped_of capacity (listing c))) ∙ ap paths_of (dropped-temporaries capacity (listing c) within) in
    let did : Does (gone temps) d t.disk = subst (λ ks. Does (gone ks) d t.disk) removed o.1 in
    let after : IfTold t.disk.told (λ r. (q : List ℕ) → is_temporary_path q ≡ false → disk_file_at (files_now r) q ≡ standing q) =
    told-gone d t.disk told.0 (gone temps) (λ f. (q : List ℕ) → is_temporary_path q ≡ false → disk_file_at f q ≡ standing q) told.1 did
    (λ q h. (plays-hiddens (gone temps) (files_now told.0) (hidden-temporaries (listing c))).after q h ∙ ap (λ f. disk_file_at f q) told.2 ∙ shows q h) in
    record {
      stand = shows;
      order = i.order;
      all = same;
      sorted = i.ordered.sorted;
      index = i.index ∙ ap (λ n. drop n (pairs_of i.order)) zero_gone ∙ drop-none (pairs_of i.order);
      removed = did;
      files = told-both t.disk.told (λ f. (q : List ℕ) → is_temporary_path q ≡ false → disk_file_at f q ≡ standing q) (NoStray t.disk.divided []) (λ f. (q : List ℕ) → disk_file_at f q ≡ cond (is_temporary_path q) None (standing q))
          (λ f a b. whole-at standing t.disk.divided f a b) after
          (subst (λ (slots : List (Option Pending)). IfTold t.disk.told (λ r. NoStray t.disk.divided slots (files_now r))) opened.pending opened.tidy);
    }

-- what stands after calls, and what it takes
pub record Stood (capacity : ℕ) (standing : Standing) (es : List Effect) (b : DiskState) : Type 0 where
  pub record_of : DiskRecord
  pub told : b.told ≡ Some record_of
  pub shows : Shows (files_now record_of) (stood standing es)
  pub within : IsWithin capacity (files_now record_of)

stood-more : (capacity : ℕ) (standing : Standing) (es fs : List Effect) (a b : DiskState) → Stood capacity standing es a → Moments capacity fs a b → Stood capacity standing (fs ++ es) b
stood-more capacity standing es fs a b s m =
    let keeps : Keeps capacity m.changes fs (files_now s.record_of) = subst (λ (o : Option DiskRecord). IfTold o (λ r. Keeps capacity m.changes fs (files_now r))) s.told m.moments in
    let next = did_all m.changes s.record_of in
    let now : files_now next ≡ replay (files_now s.record_of) m.changes = replay-append s.record_of.first m.changes s.record_of.done in
    record {
      record_of = next;
      told = m.did.told ∙ ap (option_map (did_all m.changes)) s.told;
      shows = λ q t. ap (λ f. disk_file_at f q) now ∙ keeps.after q t ∙ stood-same (disk_file_at (files_now s.record_of)) (stood standing es) fs q (s.shows q t) ∙ sym (stood-append standing fs es q);
      within = subst (IsWithin capacity) (sym now) (keeps.within (replay (files_now s.record_of) m.changes) (left-last m.changes (files_now s.record_of)));
    }

stood-first : (s : Store) (r : DiskRecord) → IsSound s → s.disk.told ≡ Some r → Stood s.capacity (disk_file_at (files_now r)) [] s.disk
stood-first s r h told =
    let files : HasFiles s.disk.divided s.index s.pending.slots (files_now r) = subst (λ (o : Option DiskRecord). IfTold o (λ w. HasFiles s.disk.divided s.index s.pending.slots (files_now w))) told h.files in
    record {
      record_of = r;
      told = told;
      shows = λ q t. refl;
      within = within-part s.capacity s.index (files_now r) (omega (arith, h.fits)) (part-agrees s.index (files_now r) (files_now r) (disk_file_at (files_now r)) files.agrees (λ q t. refl) (λ q x is. ap (option_map size) is));
    }

stood-all : (capacity : ℕ) (standing : Standing) (calls : List (List Effect)) (a b : DiskState) → Stood capacity standing [] a → Calls capacity calls a b → Stood capacity standing (effects_of calls) b
stood-all capacity standing [] a b s is = subst (Stood capacity standing []) (sym is) s
stood-all capacity standing (es ∷ before) a b s is = stood-more capacity standing (effects_of before) es is.0 b (stood-all capacity standing before a is.0 s is.1) is.2

pub same_record : (a b : DiskRecord) → Some a ≡ Some b → a ≡ b
same_record a b h = cc

pub reopens_between : ReopensBetween
reopens_between s t r calls b d c sound told is left has opened =
    let w = stood-all s.capacity (disk_file_at (files_now r)) calls s.disk b (stood-first s r sound told) is in
    let same : files_now w.record_of ≡ c = ap files_now (same_record w.record_of left.0 (sym w.told ∙ left.1)) ∙ left.2 in
    resumes s.capacity c (stood (disk_file_at (files_now r)) (effects_of calls)) d t (subst (IsWithin s.capacity) same w.within) (subst (λ f. Shows f (stood (disk_file_at (files_now r)) (effects_of calls))) same w.shows) has opened

pub cancel : (xs ys zs : List Change) → xs ++ zs ≡ ys ++ zs → xs ≡ ys
cancel [] [] zs h = refl
cancel [] (y ∷ ys) zs h = absurd (omega (arith, ap length h, length-append (y ∷ ys) zs))
cancel (x ∷ xs) [] zs h = absurd (omega (arith, ap length h, length-append (x ∷ xs) zs))
cancel (x ∷ xs) (y ∷ ys) zs h = let first : x ≡ y = heads x y (xs ++ zs) (ys ++ zs) h in let rest : xs ≡ ys = cancel xs ys zs (tails x y (xs ++ zs) (ys ++ zs) h) in (λ i. first i ∷ rest i)
  where
    heads : (x y : Change) (us vs : List Change) → x ∷ us ≡ y ∷ vs → x ≡ y
    heads x y us vs h = cc

    tails : (x y : Change) (us vs : List Change) → x ∷ us ≡ y ∷ vs → us ≡ vs
    tails x y us vs h = cc

pub reopens_inside : ReopensInside
reopens_inside s t r calls es a b d c sound told is m stop has opened =
    let start = disk_file_at (files_now r) in
    let w = stood-all s.capacity start calls s.disk a (stood-first s r sound told) is in
    let f = files_now w.record_of in
    let keeps : Keeps s.capacity m.changes es f = subst (λ (o : Option DiskRecord). IfTold o (λ r. Keeps s.capacity m.changes es (files_now r))) w.told m.moments in
    let same : stop.0 ≡ m.changes = cancel stop.0 m.changes w.record_of.done (ap (λ (v : DiskRecord). v.done) (same_record (did_all stop.0 w.record_of) (did_all m.changes w.record_of)
    (sym (stop.1.told ∙ ap (option_map (did_all stop.0)) w.told) ∙ (m.did.told ∙ ap (option_map (did_all m.changes)) w.told)))) in
    let left : LeftBy f m.changes c = subst (λ xs. LeftBy f xs c) same (subst (λ (o : Option DiskRecord). IfTold o (λ r. LeftBy (files_now r) stop.0 c)) w.told stop.2) in
    let h = keeps.left c left in (
      h.rest,
      h.had,
      h.all,
      resumes s.capacity c (stood start (h.had ++ effects_of calls)) d t (keeps.within c left)
          (λ q u. h.shows q u ∙ stood-same (disk_file_at f) (stood start (effects_of calls)) h.had q (w.shows q u) ∙ sym (stood-append start h.had (effects_of calls) q)) has opened,
    )
