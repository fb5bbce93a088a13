-- A part's files stay where the other part's change.
use Rattle.std.proofs.Common.{◌≡◌, ◌⊎◌, inl, inr, ℕ, Bool, true, false, cond, bytes_eq, List, [], ◌∷◌, ◌++◌, option_map, Option, Some, None, refl, sym, ap, ◌∙◌, subst}
use Rattle.std.specs.FinMap as map
use Rattle.sc_disk.specs.Disks.{DiskFiles, DiskRecord, DiskState, Does, change, did_all, disk_file, disk_file_at, files_now, replay}
use Rattle.sc_disk.specs.Inserting.{added}
use Rattle.sc_disk.specs.Names.{temporary, temporary_name}
use Rattle.sc_disk.specs.Store.{gone}
use Rattle.sc_disk.specs.declared.change.Change.{Change}
use Rattle.sc_disk.specs.declared.change.Change.TheVariants.{Made, Added, Touched, Moved, Gone}
use Rattle.sc_disk.proofs.Changing.{at-with}
use Rattle.sc_disk.proofs.Doing.{replay-append}
use Rattle.sc_disk.proofs.Files.{at-removed}
use Rattle.sc_disk_pair.specs.Pairs.{Leaves, other}
use Rattle.sc_disk_pair.specs.Parts.{file_of, in_part}
use Rattle.sc_disk_pair.specs.declared.part.Part.{Part}
use Rattle.sc_disk_pair.specs.declared.part.Part.TheVariants.{Main, Pre}

-- the path is none of this part
abbrev pub Elsewhere : Part → List ℕ → Type 0
Elsewhere p path = (q : List ℕ) → bytes_eq (in_part p q) path ≡ false

-- a change that brings the part no file, and changes none
abbrev pub IsAway : Part → Change → Type 0
IsAway p (Made path now) = Elsewhere p path
IsAway p (Added path bytes) = Elsewhere p path
IsAway p (Touched path now) = Elsewhere p path
IsAway p (Moved from to) = Elsewhere p from × Elsewhere p to
IsAway p (Gone path) = Unit {0}

abbrev pub AllAway : Part → List Change → Type 0
AllAway p [] = Unit {0}
AllAway p (x ∷ xs) = IsAway p x × AllAway p xs

pub away-append : (p : Part) (xs ys : List Change) → AllAway p xs → AllAway p ys → AllAway p (xs ++ ys)
away-append p [] ys a b = b
away-append p (x ∷ xs) ys a b = (a.0, away-append p xs ys a.1 b)

pub away-gone : (p : Part) (ks : List (List ℕ)) → AllAway p (gone ks)
away-gone p [] = tt
away-gone p (k ∷ ks) = away-append p (gone ks) (Gone k ∷ []) (away-gone p ks) (tt, tt)

pub away-added : (p : Part) (path : List ℕ) (pieces : List (List ℕ)) → Elsewhere p path → AllAway p (added path pieces)
away-added p path [] e = tt
away-added p path (x ∷ xs) e = (e, away-added p path xs e)

-- what is in one part is elsewhere to the other
pub elsewhere : (part : Part) (path : List ℕ) → Elsewhere (other part) (in_part part path)
elsewhere Main path q = refl
elsewhere Pre path q = refl

-- a temporary stands in its key's part
pub temporary-in : (part : Part) (key : List ℕ) (n : ℕ) → temporary true (in_part part key) n ≡ in_part part (temporary_name n)
temporary-in Main key n = refl
temporary-in Pre key n = refl

pub temporary_elsewhere : (part : Part) (d : Bool) (k key : List ℕ) (n : ℕ) → d ≡ true → k ≡ in_part part key → Elsewhere (other part) (temporary d k n)
temporary_elsewhere part d k key n t e = subst (Elsewhere (other part)) (sym ((λ i. temporary (t i) (e i) n) ∙ temporary-in part key n)) (elsewhere part (temporary_name n))

abbrev Stays : Part → DiskFiles → DiskFiles → List ℕ → Type 0
Stays p f g q = (file_of p g q ≡ None) ⊎ (file_of p g q ≡ file_of p f q)

stays_gone : (p : Part) (path : List ℕ) (f : DiskFiles) (q : List ℕ) (b : Bool) → bytes_eq (in_part p q) path ≡ b → Stays p f (change (Gone path) f) q
stays_gone p path f q true e = inl (at-removed f path (in_part p q) ∙ ap (λ b. cond b None (file_of p f q)) e)
stays_gone p path f q false e = inr (at-removed f path (in_part p q) ∙ ap (λ b. cond b None (file_of p f q)) e)

stays_one : (p : Part) (x : Change) (f : DiskFiles) (q : List ℕ) → IsAway p x → Stays p f (change x f) q
stays_one p (Made path now) f q a = inr (at-with f path (Some (disk_file now [])) (in_part p q) (a q))
stays_one p (Added path bytes) f q a = inr (at-with f path _ (in_part p q) (a q))
stays_one p (Touched path now) f q a = inr (at-with f path _ (in_part p q) (a q))
stays_one p (Moved from to) f q a = inr (at-with (map.remove f from) to (disk_file_at f from) (in_part p q) (a.1 q) ∙ at-removed f from (in_part p q) ∙ ap (λ b. cond b None (file_of p f q)) (a.0 q))
stays_one p (Gone path) f q a = stays_gone p path f q (bytes_eq (in_part p q) path) refl

stays_then : (p : Part) (f g h : DiskFiles) (q : List ℕ) → Stays p f g q → Stays p g h q → Stays p f h q
stays_then p f g h q s (inl none) = inl none
stays_then p f g h q (inl none) (inr same) = inl (same ∙ none)
stays_then p f g h q (inr was) (inr same) = inr (same ∙ was)

stays_all : (p : Part) (xs : List Change) (f : DiskFiles) (q : List ℕ) → AllAway p xs → Stays p f (replay f xs) q
stays_all p [] f q a = inr refl
stays_all p (x ∷ xs) f q a = stays_then p f (replay f xs) (change x (replay f xs)) q (stays_all p xs f q a.1) (stays_one p x (replay f xs) q a.0)

leaves_by : (p : Part) (xs : List Change) (o n : Option DiskRecord) → AllAway p xs → n ≡ option_map (did_all xs) o → Leaves p o n
leaves_by p xs None n a is = tt
leaves_by p xs (Some r) n a is = subst (λ m. Leaves p (Some r) m) (sym is) (λ q. subst (λ g. Stays p (files_now r) g q) (sym (replay-append r.first xs r.done)) (stays_all p xs (files_now r) q a))

pub leaves : (p : Part) (xs : List Change) (old new : DiskState) → AllAway p xs → Does xs old new → Leaves p old.told new.told
leaves p xs old new a d = leaves_by p xs old.told new.told a d.told
