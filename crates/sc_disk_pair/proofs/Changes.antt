-- What the calls of a store of both parts make of each part.
use Rattle.std.proofs.Common.{◌≡◌, inl, ℕ, ◌+◌, Bool, true, false, bytes_eq, is_some, List, [], ◌∷◌, ◌++◌, drop, Result, Ok, Err, IfOk, IfErr, OnOk, OnErr, refl, sym, ap, ◌∙◌, subst, arith, ◌&&◌, Some, None}
use Rattle.std.proofs.lemmas.List.{drop-drop}
use Rattle.std.specs.Map.{lookup, remove_entry}
use Rattle.sc_entry.specs.Keys.{is_file_key}
use Rattle.sc_lru.specs.Order.{touched}
use Rattle.sc_disk.specs.Calls.{Commits, Gets, Prepares, RefusesAdd, RefusesCommit, Removes, removed_by}
use Rattle.sc_disk.specs.Inserting.{Inserts, RefusesInsert, added}
use Rattle.sc_disk.specs.Disks.{DiskState, has_place}
use Rattle.sc_disk.specs.Names.{temporary}
use Rattle.sc_disk.specs.Paths.{abs_path, has_path}
use Rattle.sc_disk.specs.Paths as disk_finds
use Rattle.sc_disk.specs.Refusals.{AddCause, GetCause}
use Rattle.sc_disk.specs.Store.{AddEntry, Store, filed, firsts, gone, reserved, temporary_of}
use Rattle.sc_disk.specs.declared.change.Change.TheVariants.{Made, Moved, Touched}
use Rattle.sc_disk.specs.declared.error.Error.{Error}
use Rattle.sc_disk.specs.declared.error.Error.TheVariants.{NoMemory}
use Rattle.sc_disk.proofs.Doing.{does-none}
use Rattle.sc_disk_pair.specs.Pairs.{Drops, Evicts, Files, FindsPath, Uses, index_of, other}
use Rattle.sc_disk_pair.specs.Parts.{in_part}
use Rattle.sc_disk_pair.specs.declared.part.Part.{Part}
use Rattle.sc_disk_pair.proofs.Leaving.{AllAway, Elsewhere, away-added, away-append, away-gone, elsewhere, leaves, temporary_elsewhere}
use Rattle.sc_disk_pair.proofs.Shares.{index-evicted, index-filed, index-filed_other, index-removed, index-removed_other, index-touched, index-touched_other, lookup-part}

pub evicted : (p : Part) (n : ℕ) (old new : Store) → new.index ≡ drop n old.index → Evicts p old new
evicted p n old new is = let r = index-evicted p n old.index in (r.0, ap (index_of p) is ∙ r.1)

pub evicted-add : (r : Result AddEntry Error) (k : List ℕ) (size now : ℕ) (old new : Store) → IfOk r (λ e. (n : ℕ) × Prepares e k size now n old new) → IfErr r (λ x. (n : ℕ) × RefusesAdd x k size n old new) → (p : Part) → Evicts p old new
evicted-add (Ok e) k size now old new h i p = evicted p h.0 old new h.1.index
evicted-add (Err x) k size now old new h i p = evicted p i.0 old new i.1.index

pub evicted-refused : (r : Result (Unit {0}) Error) (e : AddEntry) (now : ℕ) (old new : Store) → IfErr r (λ x. (n : ℕ) × (touches : Bool) × (removes : Bool) × RefusesCommit x e now n touches removes old new) → OnErr r ((p : Part) → Evicts p old new)
evicted-refused (Ok x) e now old new h = tt
evicted-refused (Err x) e now old new h = λ p. evicted p h.0 old new h.3.index

key_elsewhere : (part : Part) (k key : List ℕ) → k ≡ in_part part key → Elsewhere (other part) k
key_elsewhere part k key e = subst (Elsewhere (other part)) (sym e) (elsewhere part key)

-- a file was put in, once the first n files of both went
filed_in : (part : Part) (key k : List ℕ) (r n : ℕ) (old new : Store) → k ≡ in_part part key → new.index ≡ filed k r (drop n old.index) → (m : ℕ) × (index_of part new.index ≡ filed key r (drop m (index_of part old.index)))
filed_in part key k r n old new e is = let v = index-evicted part n old.index in (v.0, ap (index_of part) (is ∙ ap (λ q. filed q r (drop n old.index)) e) ∙ index-filed part key r (drop n old.index) ∙ ap (filed key r) v.1)

filed_other : (part : Part) (key k : List ℕ) (r n : ℕ) (old new : Store) → k ≡ in_part part key → new.index ≡ filed k r (drop n old.index) → Evicts (other part) old new
filed_other part key k r n old new e is = let v = index-evicted (other part) n old.index in (v.0, ap (index_of (other part)) (is ∙ ap (λ q. filed q r (drop n old.index)) e) ∙ index-filed_other part key r (drop n old.index) ∙ v.1)

pub committed : (part : Part) (key : List ℕ) (e : AddEntry) (r now n : ℕ) (old new : Store) → e.divided ≡ true → e.key ≡ in_part part key → Commits e r now n old new → Files part key r old new
committed part key e r now n old new d k c =
    let own = filed_in part key e.key r n old new k c.index in let t = temporary_elsewhere part e.divided e.key key e.number d k in
    record {
      n = own.0;
      index = own.1;
      others = filed_other part key e.key r n old new k c.index;
      leaves = leaves (other part) (Moved (temporary_of e) e.key ∷ Touched (temporary_of e) now ∷ gone (firsts n old.index)) old.disk new.disk ((t, key_elsewhere part e.key key k), (t, away-gone (other part) (firsts n old.index))) c.disk;
    }

pub committed-ok : (r : Result (Unit {0}) Error) (e : AddEntry) (now : ℕ) (old new : Store) → e.divided ≡ true → OnOk r ((s : ℕ) × (n : ℕ) × Commits e s now n old new) → OnOk r ((part : Part) (key : List ℕ) → e.key ≡ in_part part key → (s : ℕ) × Files part key s old new)
committed-ok (Ok x) e now old new d h = λ part key k. (h.0, committed part key e h.0 now h.1 old new d k h.2)
committed-ok (Err x) e now old new d h = tt

pub inserted : (part : Part) (key k : List ℕ) (pieces : List (List ℕ)) (size now number n r m : ℕ) (old new : Store) → old.disk.divided ≡ true → k ≡ in_part part key → Inserts k pieces size now number n r m old new → Files part key r old new
inserted part key k pieces size now number n r m old new d e i =
    let is : new.index ≡ filed k r (drop (n + m) old.index) = i.index ∙ ap (filed k r) (drop-drop m n old.index) in
    let own = filed_in part key k r (n + m) old new e is in let path = temporary old.disk.divided k number in
    let t : Elsewhere (other part) path = temporary_elsewhere part old.disk.divided k key number d e in let p = other part in
    record {
      n = own.0;
      index = own.1;
      others = filed_other part key k r (n + m) old new e is;
      leaves = leaves p (Moved path k ∷ Touched path now ∷ (gone (firsts m (drop n old.index)) ++ (added path pieces ++ (Made path now ∷ gone (firsts n old.index))))) old.disk new.disk (
        (t, key_elsewhere part k key e),
        (
          t,
          away-append p (gone (firsts m (drop n old.index))) (added path pieces ++ (Made path now ∷ gone (firsts n old.index))) (away-gone p (firsts m (drop n old.index)))
              (away-append p (added path pieces) (Made path now ∷ gone (firsts n old.index)) (away-added p path pieces t) (t, away-gone p (firsts n old.index))),
        ),
      ) i.disk;
    }

pub used : (part : Part) (key k read : List ℕ) (now : ℕ) (old new : Store) → k ≡ in_part part key → Gets k read now old new → Uses part key old new
used part key k read now old new e h = record {
  index = ap (index_of part) (h.index ∙ ap (λ q. touched (bytes_eq q) old.index) e) ∙ index-touched part key old.index;
  others = ap (index_of (other part)) (h.index ∙ ap (λ q. touched (bytes_eq q) old.index) e) ∙ index-touched_other part key old.index;
  leaves = leaves (other part) (Touched k now ∷ []) old.disk new.disk (key_elsewhere part k key e, tt) h.disk;
}

pub get-cause : (part : Part) (key k : List ℕ) (x : Error) (a b : ℕ) (old : Store) → k ≡ in_part part key → is_file_key (in_part part key) ≡ is_file_key key → GetCause (is_file_key k) (is_some (lookup (bytes_eq k) old.index)) a b x
    → GetCause (is_file_key key) (is_some (lookup (bytes_eq key) (index_of part old.index))) a b x
get-cause part key k x a b old e good h = subst (λ t. GetCause t (is_some (lookup (bytes_eq key) (index_of part old.index))) a b x) (ap is_file_key e ∙ good)
    (subst (λ t. GetCause (is_file_key k) t a b x) (ap (λ q. is_some (lookup (bytes_eq q) old.index)) e ∙ ap is_some (lookup-part part key old.index)) h)

-- a part's key has a place
and_true : (b : Bool) → (b && true) ≡ b
and_true true = refl
and_true false = refl

pub add-cause : (part : Part) (key k : List ℕ) (x : Error) (size n : ℕ) (old new : Store) → k ≡ in_part part key → is_file_key (in_part part key) ≡ is_file_key key → has_place old.disk (in_part part key) ≡ true → RefusesAdd x k size n old new
    → AddCause (is_file_key key) size (reserved old) old.capacity old.disk.faults new.disk.faults x
add-cause part key k x size n old new e good place h = subst (λ t. AddCause t size (reserved old) old.capacity old.disk.faults new.disk.faults x)
    (ap (λ q. is_file_key q && has_place old.disk q) e ∙ ap (λ b. is_file_key (in_part part key) && b) place ∙ and_true (is_file_key (in_part part key)) ∙ good) h.cause

away_removed : (p : Part) (b : Bool) (k : List ℕ) → AllAway p (removed_by b k)
away_removed p true k = (tt, tt)
away_removed p false k = tt

pub dropped : (part : Part) (key k : List ℕ) (old new : Store) → k ≡ in_part part key → Removes k old new → Drops part key old new
dropped part key k old new e h = record {
  index = ap (index_of part) (h.index ∙ ap (λ q. remove_entry (bytes_eq q) old.index) e) ∙ index-removed part key old.index;
  others = ap (index_of (other part)) (h.index ∙ ap (λ q. remove_entry (bytes_eq q) old.index) e) ∙ index-removed_other part key old.index;
  leaves = leaves (other part) (removed_by (is_some (lookup (bytes_eq k) old.index)) k) old.disk new.disk (away_removed (other part) (is_some (lookup (bytes_eq k) old.index)) k) h.disk;
}

pub refused-first : (k : List ℕ) (size : ℕ) (s : Store) → RefusesAdd NoMemory k size 0 s s
refused-first k size s = record { cause = tt; none = tt; evicted = λ m h. absurd (omega (arith, h)); index = refl; slots = refl; capacity = refl; disk = does-none s.disk }

-- memory was wanting before anything was done
pub refused-insert : (k : List ℕ) (size now : ℕ) (part whole : AddEntry → DiskState → DiskState → Type 0) (s : Store) → RefusesInsert NoMemory k size now part whole s s
unfolding RefusesInsert
refused-insert k size now part whole s = inl (0, refused-first k size s)

pub if_err : {T : Type 0} (r : Result T Error) (P Q : Error → Type 0) → ((x : Error) → P x → Q x) → IfErr r P → IfErr r Q
if_err (Ok x) P Q f p = tt
if_err (Err x) P Q f p = f x p

pub if_ok-on : {T : Type 0} (r : Result T Error) (P : T → Type 0) (Q : Type 0) → ((x : T) → P x → Q) → IfOk r P → OnOk r Q
if_ok-on (Ok x) P Q f p = f x p
if_ok-on (Err x) P Q f p = tt

-- a key's path is that of its part's
pub path-part : (part : Part) (key k : List ℕ) (es : List (List ℕ × ℕ)) → k ≡ in_part part key → is_file_key (in_part part key) ≡ is_file_key key → has_path k es ≡ has_path key (index_of part es)
path-part part key k es e good = ap (λ q. has_path q es) e ∙ ap (λ b. b && is_some (lookup (bytes_eq (in_part part key)) es)) good ∙ ap (λ o. is_file_key key && is_some o) (lookup-part part key es)

pub path-found : (part : Part) (key k root path : List ℕ) (found : List ℕ) (old new : Store) → k ≡ in_part part key → is_file_key (in_part part key) ≡ is_file_key key → path ≡ abs_path root key → disk_finds.FindsPath k (Some found) old new → FindsPath part key root (Some path) old new
path-found part key k root path found old new e good is h = (
  sym (path-part part key k old.index e good) ∙ h.0,
  is,
  ap (index_of part) (h.2 ∙ ap (λ q. touched (bytes_eq q) old.index) e) ∙ index-touched part key old.index,
  ap (index_of (other part)) (h.2 ∙ ap (λ q. touched (bytes_eq q) old.index) e) ∙ index-touched_other part key old.index,
)

pub path-absent : (part : Part) (key k root : List ℕ) (old new : Store) → k ≡ in_part part key → is_file_key (in_part part key) ≡ is_file_key key → disk_finds.FindsPath k None old new → FindsPath part key root None old new
path-absent part key k root old new e good h = (sym (path-part part key k old.index e good) ∙ h.0, h.1)
