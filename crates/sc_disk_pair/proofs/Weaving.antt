-- What two disks tell as one, after each of their calls.
use Rattle.std.proofs.Common.{◌≡◌, inl, inr, ℕ, ◌+◌, ◌-◌, ◌^◌, min, Bool, true, false, ◌&&◌, bytes_eq, is_some, List, [], ◌∷◌, ◌++◌, length, take, option_map, Option, Some, None, refl, sym, ap, ◌∙◌, subst, arith, length-append}
use Rattle.std.specs.Cmp.Lexicographic.{pointwise}
use Rattle.std.specs.FinMap as map
use Rattle.sc_entry.specs.Causes.{IfTold, Rose}
use Rattle.sc_entry.specs.Failing.{one_more}
use Rattle.sc_disk.specs.Devices.{CountsOn, MakesOn}
use Rattle.sc_disk.specs.Disks.{Adopts, AdoptsPart, Changes, ChangesPart, DiskFiles, DiskRecord, DiskState, Does, DoesPart, HasBytes, IsHeld, IsListing, IsSize, OutsideFiles, did_all, disk_file_at, files_now, listing, outside_file_at, replay}
use Rattle.sc_disk.specs.declared.change.Change.{Change}
use Rattle.sc_disk.specs.declared.change.Change.TheVariants.{Added}
use Rattle.sc_disk.specs.declared.disk.DiskError.{DiskError}
use Rattle.sc_disk.specs.declared.disk.DiskError.TheVariants as disk_errors
use Rattle.sc_disk.specs.declared.disk.Listed.{Listed}
use Rattle.sc_disk.specs.declared.disk_file.DiskFile.{DiskFile}
use Rattle.sc_disk.proofs.Doing.{changes-of, does-none, replay-append}
use Rattle.sc_disk.proofs.Files.{same_path}
use Rattle.sc_disk_pair.specs.Parts.{all_in, changes_in, in_part, joined, same_outside, same_pair}
use Rattle.sc_disk_pair.specs.Twos.{IsJoint, Past, Refuses, TwoState, Unplaced, Weaves, all_faults, joint, joint_told, joined_calls, joined_state, since, two_state, whole_calls, woven}
use Rattle.sc_disk_pair.specs.declared.part.Part.TheVariants.{Main, Pre}
use Rattle.sc_disk_pair.proofs.Calling.{counts-main, counts-none, counts-pre, makes-main, makes-pre}
use Rattle.sc_disk_pair.proofs.Joined.{at-main, at-pre, listing-joined, replayed}

abbrev Told : Type 0
Told = Option DiskRecord

-- no change since
take_none : (xs : List Change) (n : ℕ) → take (n - n) xs ≡ []
take_none xs n = let none : n - n ≡ 0 = omega arith in ap (λ k. take k xs) none

since_none : (m : Told) → since m m ≡ []
since_none None = refl
since_none (Some a) = take_none a.done (length a.done)

take_front : (xs ys : List Change) → take (length xs) (xs ++ ys) ≡ xs
take_front [] ys = refl
take_front (x ∷ xs) ys = ap (λ l. x ∷ l) (take_front xs ys)

-- these changes since
since_did : (a : DiskRecord) (xs : List Change) → since (Some a) (Some (did_all xs a)) ≡ xs
since_did a xs = let n : length (xs ++ a.done) - length a.done ≡ length xs = omega (arith, length-append xs a.done) in ap (λ k. take k (xs ++ a.done)) n ∙ take_front xs a.done

did_none : (m : Told) → option_map (did_all []) m ≡ m
did_none None = refl
did_none (Some r) = refl

files_did : (xs : List Change) (r : DiskRecord) → files_now (did_all xs r) ≡ replay (files_now r) xs
files_did xs r = replay-append r.first xs r.done

no_more : (xs : List Change) → xs ++ [] ≡ xs
no_more [] = refl
no_more (x ∷ xs) = ap (λ l. x ∷ l) (no_more xs)

-- The main disk was called.
main_since : (told m n p : Told) (xs : List Change) → n ≡ option_map (did_all xs) m → IfTold told (IsJoint m p) → option_map (did_all (changes_in Main (since m n))) told ≡ option_map (did_all (changes_in Main xs)) told
main_since None m n p xs is j = refl
main_since (Some r) m n p xs is j = ap (λ ys. Some (did_all (changes_in Main ys) r)) (ap (since m) is ∙ ap (λ o. since o (option_map (did_all xs) o)) j.main_tells ∙ since_did j.a xs)

pub woven-main : (m n p : Told) (past : Past) (xs : List Change) → Weaves m p past → n ≡ option_map (did_all xs) m → woven ((n, p) ∷ past) ≡ option_map (did_all (changes_in Main xs)) (woven past)
woven-main m n p past xs w is =
    ap (λ l. woven ((n, p) ∷ l)) w.newest
    ∙ ap (λ ys. option_map (did_all (changes_in Pre ys ++ changes_in Main (since m n))) (woven ((m, p) ∷ w.rest))) (since_none p)
    ∙ ap (λ l. option_map (did_all (changes_in Main (since m n))) (woven l)) (sym w.newest)
    ∙ main_since (woven past) m n p xs is w.joint

joint_main : (told m n p : Told) (xs : List Change) → n ≡ option_map (did_all xs) m → IfTold told (IsJoint m p) → IfTold (option_map (did_all (changes_in Main xs)) told) (IsJoint n p)
joint_main None m n p xs is j = tt
joint_main (Some r) m n p xs is j = record {
  a = did_all xs j.a;
  b = j.b;
  main_tells = is ∙ ap (option_map (did_all xs)) j.main_tells;
  pre_tells = j.pre_tells;
  main_outside = j.main_outside;
  pre_outside = j.pre_outside;
  files = files_did (changes_in Main xs) r ∙ ap (λ f. replay f (changes_in Main xs)) j.files ∙ replayed Main (files_now j.a) (files_now j.b) xs ∙ ap (λ f. joined f (files_now j.b)) (sym (files_did xs j.a));
}

weaves_main : (m n p : Told) (past : Past) (xs : List Change) → Weaves m p past → n ≡ option_map (did_all xs) m → Weaves n p ((n, p) ∷ past)
weaves_main m n p past xs w is = record {
  rest = past;
  newest = refl;
  joint = subst (λ t. IfTold t (IsJoint n p)) (sym (woven-main m n p past xs w is)) (joint_main (woven past) m n p xs is w.joint);
}

-- The other disk was called.
pre_since : (told m p n : Told) (xs : List Change) → n ≡ option_map (did_all xs) p → IfTold told (IsJoint m p) → option_map (did_all (changes_in Pre (since p n))) told ≡ option_map (did_all (changes_in Pre xs)) told
pre_since None m p n xs is j = refl
pre_since (Some r) m p n xs is j = ap (λ ys. Some (did_all (changes_in Pre ys) r)) (ap (since p) is ∙ ap (λ o. since o (option_map (did_all xs) o)) j.pre_tells ∙ since_did j.b xs)

pub woven-pre : (m p n : Told) (past : Past) (xs : List Change) → Weaves m p past → n ≡ option_map (did_all xs) p → woven ((m, n) ∷ past) ≡ option_map (did_all (changes_in Pre xs)) (woven past)
woven-pre m p n past xs w is =
    ap (λ l. woven ((m, n) ∷ l)) w.newest
    ∙ ap (λ ys. option_map (did_all (changes_in Pre (since p n) ++ changes_in Main ys)) (woven ((m, p) ∷ w.rest))) (since_none m)
    ∙ ap (λ ys. option_map (did_all ys) (woven ((m, p) ∷ w.rest))) (no_more (changes_in Pre (since p n)))
    ∙ ap (λ l. option_map (did_all (changes_in Pre (since p n))) (woven l)) (sym w.newest)
    ∙ pre_since (woven past) m p n xs is w.joint

joint_pre : (told m p n : Told) (xs : List Change) → n ≡ option_map (did_all xs) p → IfTold told (IsJoint m p) → IfTold (option_map (did_all (changes_in Pre xs)) told) (IsJoint m n)
joint_pre None m p n xs is j = tt
joint_pre (Some r) m p n xs is j = record {
  a = j.a;
  b = did_all xs j.b;
  main_tells = j.main_tells;
  pre_tells = is ∙ ap (option_map (did_all xs)) j.pre_tells;
  main_outside = j.main_outside;
  pre_outside = j.pre_outside;
  files = files_did (changes_in Pre xs) r ∙ ap (λ f. replay f (changes_in Pre xs)) j.files ∙ replayed Pre (files_now j.a) (files_now j.b) xs ∙ ap (joined (files_now j.a)) (sym (files_did xs j.b));
}

weaves_pre : (m p n : Told) (past : Past) (xs : List Change) → Weaves m p past → n ≡ option_map (did_all xs) p → Weaves m n ((m, n) ∷ past)
weaves_pre m p n past xs w is = record {
  rest = past;
  newest = refl;
  joint = subst (λ t. IfTold t (IsJoint m n)) (sym (woven-pre m p n past xs w is)) (joint_pre (woven past) m p n xs is w.joint);
}

-- The same of states of disks. A history that grew is given by what it is now.
pub weaves-main : (m n p : DiskState) (past now : Past) (xs : List Change) → now ≡ (n.told, p.told) ∷ past → Weaves m.told p.told past → Changes xs m n → Weaves n.told p.told now
weaves-main m n p past now xs is w d = subst (λ l. Weaves n.told p.told l) (sym is) (weaves_main m.told n.told p.told past xs w d.told)

pub weaves-pre : (m p n : DiskState) (past now : Past) (xs : List Change) → now ≡ (m.told, n.told) ∷ past → Weaves m.told p.told past → Changes xs p n → Weaves m.told n.told now
weaves-pre m p n past now xs is w d = subst (λ l. Weaves m.told n.told l) (sym is) (weaves_pre m.told p.told n.told past xs w d.told)

-- a call without a change
pub weaves-main_still : (m n p : DiskState) (past : Past) → Weaves m.told p.told past → Changes [] m n → Weaves n.told p.told past
weaves-main_still m n p past w d = subst (λ t. Weaves t p.told past) (sym (d.told ∙ did_none m.told)) w

pub weaves-pre_still : (m p n : DiskState) (past : Past) → Weaves m.told p.told past → Changes [] p n → Weaves m.told n.told past
weaves-pre_still m p n past w d = subst (λ t. Weaves m.told t past) (sym (d.told ∙ did_none p.told)) w

-- both disks as one, after these calls
abbrev pub pair : DiskState → DiskState → ℕ → Past → DiskState
pair m p k past = joined_state (two_state m p k (woven past))

pub does-main : (m n p : DiskState) (k : ℕ) (past now : Past) (xs : List Change) → now ≡ (n.told, p.told) ∷ past → Weaves m.told p.told past → Does xs m n → Does (changes_in Main xs) (pair m p k past) (pair n p k now)
does-main m n p k past now xs is w d = let told = ap woven is ∙ woven-main m.told n.told p.told past xs w d.told in record {
  told = told;
  faults = omega (arith, d.faults);
  calls = makes-main (woven past) (woven now) (changes_in Main xs) told k m n p d.divided d.calls;
  root = d.root;
  divided = refl;
  letters = refl;
}

pub changes-main : (m n p : DiskState) (k : ℕ) (past now : Past) (xs : List Change) → now ≡ (n.told, p.told) ∷ past → Weaves m.told p.told past → Changes xs m n → Changes (changes_in Main xs) (pair m p k past) (pair n p k now)
changes-main m n p k past now xs is w d = let told = ap woven is ∙ woven-main m.told n.told p.told past xs w d.told in record {
  told = told;
  faults = omega (arith, d.faults);
  calls = counts-main (woven past) (woven now) (changes_in Main xs) told k m n p d.divided d.calls;
  root = d.root;
  divided = refl;
  letters = refl;
}

pub does-pre : (m p n : DiskState) (k : ℕ) (past now : Past) (xs : List Change) → now ≡ (m.told, n.told) ∷ past → Weaves m.told p.told past → Does xs p n → Does (changes_in Pre xs) (pair m p k past) (pair m n k now)
does-pre m p n k past now xs is w d = let told = ap woven is ∙ woven-pre m.told p.told n.told past xs w d.told in record {
  told = told;
  faults = omega (arith, d.faults);
  calls = makes-pre (woven past) (woven now) (changes_in Pre xs) told k m p n d.divided d.calls;
  root = refl;
  divided = refl;
  letters = refl;
}

pub changes-pre : (m p n : DiskState) (k : ℕ) (past now : Past) (xs : List Change) → now ≡ (m.told, n.told) ∷ past → Weaves m.told p.told past → Changes xs p n → Changes (changes_in Pre xs) (pair m p k past) (pair m n k now)
changes-pre m p n k past now xs is w d = let told = ap woven is ∙ woven-pre m.told p.told n.told past xs w d.told in record {
  told = told;
  faults = omega (arith, d.faults);
  calls = counts-pre (woven past) (woven now) (changes_in Pre xs) told k m p n d.divided d.calls;
  root = refl;
  divided = refl;
  letters = refl;
}

pub still-main : (m n p : DiskState) (k : ℕ) (past : Past) → Does [] m n → Does [] (pair m p k past) (pair n p k past)
still-main m n p k past d = let told = sym (did_none (woven past)) in record {
  told = told;
  faults = omega (arith, d.faults);
  calls = makes-main (woven past) (woven past) [] told k m n p d.divided d.calls;
  root = d.root;
  divided = refl;
  letters = refl;
}

pub changes_still-main : (m n p : DiskState) (k : ℕ) (past : Past) → Changes [] m n → Changes [] (pair m p k past) (pair n p k past)
changes_still-main m n p k past d = let told = sym (did_none (woven past)) in record {
  told = told;
  faults = omega (arith, d.faults);
  calls = counts-main (woven past) (woven past) [] told k m n p d.divided d.calls;
  root = d.root;
  divided = refl;
  letters = refl;
}

pub still-pre : (m p n : DiskState) (k : ℕ) (past : Past) → Does [] p n → Does [] (pair m p k past) (pair m n k past)
still-pre m p n k past d = let told = sym (did_none (woven past)) in record {
  told = told;
  faults = omega (arith, d.faults);
  calls = makes-pre (woven past) (woven past) [] told k m p n d.divided d.calls;
  root = refl;
  divided = refl;
  letters = refl;
}

pub changes_still-pre : (m p n : DiskState) (k : ℕ) (past : Past) → Changes [] p n → Changes [] (pair m p k past) (pair m n k past)
changes_still-pre m p n k past d = let told = sym (did_none (woven past)) in record {
  told = told;
  faults = omega (arith, d.faults);
  calls = counts-pre (woven past) (woven past) [] told k m p n d.divided d.calls;
  root = refl;
  divided = refl;
  letters = refl;
}

pub still-none : (t : TwoState) → Does [] (joined_state t) (joined_state t)
still-none t = does-none (joined_state t)

-- Where no calls are told, it is all one whether the faults rose at calls that were to fail.
pub does-uncalled : (a b : DiskState) (xs : List Change) → a.calls ≡ None → Changes xs a b → Does xs a b
does-uncalled a b xs none d = record {
  told = d.told;
  faults = d.faults;
  calls = subst (λ o. MakesOn o b.calls a.faults b.faults) (sym none) (subst (λ o. CountsOn o b.calls a.faults b.faults) none d.calls);
  root = d.root;
  divided = d.divided;
  letters = d.letters;
}

pub uncalled : (t : TwoState) → t.told ≡ None → (joined_state t).calls ≡ None
uncalled t none = ap (λ o. joined_calls o (whole_calls t.main) (whole_calls t.pre)) none

pub does-untold : (t u : TwoState) (xs : List Change) → t.told ≡ None → Changes xs (joined_state t) (joined_state u) → Does xs (joined_state t) (joined_state u)
does-untold t u xs none d = does-uncalled (joined_state t) (joined_state u) xs (uncalled t none) d

-- a path of neither was refused, and counted
pub refused : (t u : TwoState) → Refuses t u → Changes [] (joined_state t) (joined_state u)
refused t u is = subst (λ v. Changes [] (joined_state t) (joined_state v)) (sym is) (record {
  told = sym (did_none t.told);
  faults = omega arith;
  calls = counts-none (joined_calls t.told (whole_calls t.main) (whole_calls t.pre)) (all_faults t) (all_faults (two_state t.main t.pre (one_more t.refused) t.told));
  root = refl;
  divided = refl;
  letters = refl;
})

pub refuses : (e : DiskError) (t u : TwoState) → Unplaced e t u → Changes [] (joined_state t) (joined_state u)
refuses disk_errors.NoMemory t u is = subst (λ v. Changes [] (joined_state t) (joined_state v)) (sym is) (changes-of (joined_state t) (joined_state t) [] (still-none t))
refuses disk_errors.Fault t u is = refused t u is

-- What one disk tells of its files is told of the files of both.
from_main : (told m p : Told) (P Q : DiskFiles → Type 0) → IfTold told (IsJoint m p) → ((f g : DiskFiles) → P f → Q (joined f g)) → IfTold m (λ a. P (files_now a)) → IfTold told (λ r. Q (files_now r))
from_main None m p P Q j step h = tt
from_main (Some r) m p P Q j step h = subst Q (sym j.files) (step (files_now j.a) (files_now j.b) (subst (λ o. IfTold o (λ a. P (files_now a))) j.main_tells h))

from_pre : (told m p : Told) (P Q : DiskFiles → Type 0) → IfTold told (IsJoint m p) → ((f g : DiskFiles) → P g → Q (joined f g)) → IfTold p (λ b. P (files_now b)) → IfTold told (λ r. Q (files_now r))
from_pre None m p P Q j step h = tt
from_pre (Some r) m p P Q j step h = subst Q (sym j.files) (step (files_now j.a) (files_now j.b) (subst (λ o. IfTold o (λ b. P (files_now b))) j.pre_tells h))

-- and what is told of the files of both is told of one's
to_main : (told m p : Told) (P Q : DiskFiles → Type 0) (r : DiskRecord) → told ≡ Some r → IfTold told (IsJoint m p) → ((f g : DiskFiles) → Q (joined f g) → P f) → IfTold told (λ r. Q (files_now r)) → IfTold m (λ a. P (files_now a))
to_main None m p P Q r is j step h = cc
to_main (Some s) m p P Q r is j step h = subst (λ o. IfTold o (λ a. P (files_now a))) (sym j.main_tells) (step (files_now j.a) (files_now j.b) (subst Q j.files h))

to_pre : (told m p : Told) (P Q : DiskFiles → Type 0) (r : DiskRecord) → told ≡ Some r → IfTold told (IsJoint m p) → ((f g : DiskFiles) → Q (joined f g) → P g) → IfTold told (λ r. Q (files_now r)) → IfTold p (λ b. P (files_now b))
to_pre None m p P Q r is j step h = cc
to_pre (Some s) m p P Q r is j step h = subst (λ o. IfTold o (λ b. P (files_now b))) (sym j.pre_tells) (step (files_now j.a) (files_now j.b) (subst Q j.files h))

pub by_told : (o : Told) (P : Type 0) → (o ≡ None → P) → ((r : DiskRecord) → o ≡ Some r → P) → P
by_told None P none some = none refl
by_told (Some r) P none some = some r refl

-- A call of a disk with a file that the joined disk holds: its own disk holds it, or nothing is told.
pub held-main : (m p : DiskState) (k : ℕ) (past : Past) (path : List ℕ) (X Y Z : Type 0) → Weaves m.told p.told past → ((pair m p k past).calls ≡ None → X → Z) → (Y → Z) → X → (IsHeld path m → Y) → IsHeld (in_part Main path) (pair m p k past) → Z
held-main m p k past path X Y Z w untold told x y held = by_told (woven past) Z (λ none. untold (uncalled (two_state m p k (woven past)) none) x) (λ r is. told (y (to_main (woven past) m.told p.told (λ f. is_some (disk_file_at f path) ≡ true) (λ f. is_some (disk_file_at f (in_part Main path)) ≡ true) r is w.joint
    (λ f g h. ap is_some (sym (at-main f g path)) ∙ h) held)))

pub held-pre : (m p : DiskState) (k : ℕ) (past : Past) (path : List ℕ) (X Y Z : Type 0) → Weaves m.told p.told past → ((pair m p k past).calls ≡ None → X → Z) → (Y → Z) → X → (IsHeld path p → Y) → IsHeld (in_part Pre path) (pair m p k past) → Z
held-pre m p k past path X Y Z w untold told x y held = by_told (woven past) Z (λ none. untold (uncalled (two_state m p k (woven past)) none) x) (λ r is. told (y (to_pre (woven past) m.told p.told (λ f. is_some (disk_file_at f path) ≡ true) (λ f. is_some (disk_file_at f (in_part Pre path)) ≡ true) r is w.joint
    (λ f g h. ap is_some (sym (at-pre f g path)) ∙ h) held)))

abbrev Size : Option DiskFile → Option ℕ
Size o = option_map (λ file. length file.bytes) o

abbrev Bytes : Option DiskFile → Option (List ℕ)
Bytes o = option_map (λ file. file.bytes) o

pub size-main : (m p : DiskState) (k : ℕ) (past : Past) (path : List ℕ) (n : ℕ) → Weaves m.told p.told past → IsSize path n m → IsSize (in_part Main path) n (pair m p k past)
size-main m p k past path n w h = from_main (woven past) m.told p.told (λ f. Size (disk_file_at f path) ≡ Some n) (λ f. Size (disk_file_at f (in_part Main path)) ≡ Some n) w.joint (λ f g is. ap Size (at-main f g path) ∙ is) h

pub size-pre : (m p : DiskState) (k : ℕ) (past : Past) (path : List ℕ) (n : ℕ) → Weaves m.told p.told past → IsSize path n p → IsSize (in_part Pre path) n (pair m p k past)
size-pre m p k past path n w h = from_pre (woven past) m.told p.told (λ f. Size (disk_file_at f path) ≡ Some n) (λ f. Size (disk_file_at f (in_part Pre path)) ≡ Some n) w.joint (λ f g is. ap Size (at-pre f g path) ∙ is) h

pub bytes-main : (m p : DiskState) (k : ℕ) (past : Past) (path bytes : List ℕ) → Weaves m.told p.told past → HasBytes path bytes m → HasBytes (in_part Main path) bytes (pair m p k past)
bytes-main m p k past path bytes w h = from_main (woven past) m.told p.told (λ f. Bytes (disk_file_at f path) ≡ Some bytes) (λ f. Bytes (disk_file_at f (in_part Main path)) ≡ Some bytes) w.joint (λ f g is. ap Bytes (at-main f g path) ∙ is) h

pub bytes-pre : (m p : DiskState) (k : ℕ) (past : Past) (path bytes : List ℕ) → Weaves m.told p.told past → HasBytes path bytes p → HasBytes (in_part Pre path) bytes (pair m p k past)
bytes-pre m p k past path bytes w h = from_pre (woven past) m.told p.told (λ f. Bytes (disk_file_at f path) ≡ Some bytes) (λ f. Bytes (disk_file_at f (in_part Pre path)) ≡ Some bytes) w.joint (λ f g is. ap Bytes (at-pre f g path) ∙ is) h

listed_both : (told m p : Told) (es fs : List Listed) → IfTold told (IsJoint m p) → IfTold m (λ a. es ≡ listing (files_now a)) → IfTold p (λ b. fs ≡ listing (files_now b)) → IfTold told (λ r. all_in Main es ++ all_in Pre fs ≡ listing (files_now r))
listed_both None m p es fs j h i = tt
listed_both (Some r) m p es fs j h i =
    let a = subst (λ o. IfTold o (λ a. es ≡ listing (files_now a))) j.main_tells h in let b = subst (λ o. IfTold o (λ b. fs ≡ listing (files_now b))) j.pre_tells i in
    (λ x. all_in Main (a x) ++ all_in Pre (b x)) ∙ sym (listing-joined (files_now j.a) (files_now j.b)) ∙ ap listing (sym j.files)

pub listing-both : (m p : DiskState) (k : ℕ) (past : Past) (es fs : List Listed) → Weaves m.told p.told past → IsListing es m → IsListing fs p → IsListing (all_in Main es ++ all_in Pre fs) (pair m p k past)
listing-both m p k past es fs w h i = listed_both (woven past) m.told p.told es fs w.joint h i

-- A front of the bytes was added, or nothing.
pub part-main : (m n p : DiskState) (k : ℕ) (past now : Past) (path bytes : List ℕ) → now ≡ (n.told, p.told) ∷ past → Weaves m.told p.told past → DoesPart path bytes m n → DoesPart (in_part Main path) bytes (pair m p k past) (pair n p k now)
part-main m n p k past now path bytes is w (inl d) = inl (does-main m n p k past now [] is w d)
part-main m n p k past now path bytes is w (inr d) = inr (d.0, does-main m n p k past now (Added path (take d.0 bytes) ∷ []) is w d.1)

pub part-pre : (m p n : DiskState) (k : ℕ) (past now : Past) (path bytes : List ℕ) → now ≡ (m.told, n.told) ∷ past → Weaves m.told p.told past → DoesPart path bytes p n → DoesPart (in_part Pre path) bytes (pair m p k past) (pair m n k now)
part-pre m p n k past now path bytes is w (inl d) = inl (does-pre m p n k past now [] is w d)
part-pre m p n k past now path bytes is w (inr d) = inr (d.0, does-pre m p n k past now (Added path (take d.0 bytes) ∷ []) is w d.1)

pub changes_part-main : (m n p : DiskState) (k : ℕ) (past now : Past) (path bytes : List ℕ) → now ≡ (n.told, p.told) ∷ past → Weaves m.told p.told past → ChangesPart path bytes m n → ChangesPart (in_part Main path) bytes (pair m p k past) (pair n p k now)
changes_part-main m n p k past now path bytes is w (inl d) = inl (changes-main m n p k past now [] is w d)
changes_part-main m n p k past now path bytes is w (inr d) = inr (d.0, changes-main m n p k past now (Added path (take d.0 bytes) ∷ []) is w d.1)

pub changes_part-pre : (m p n : DiskState) (k : ℕ) (past now : Past) (path bytes : List ℕ) → now ≡ (m.told, n.told) ∷ past → Weaves m.told p.told past → ChangesPart path bytes p n → ChangesPart (in_part Pre path) bytes (pair m p k past) (pair m n k now)
changes_part-pre m p n k past now path bytes is w (inl d) = inl (changes-pre m p n k past now [] is w d)
changes_part-pre m p n k past now path bytes is w (inr d) = inr (d.0, changes-pre m p n k past now (Added path (take d.0 bytes) ∷ []) is w d.1)

pub part-uncalled : (a b : DiskState) (path bytes : List ℕ) → a.calls ≡ None → ChangesPart path bytes a b → DoesPart path bytes a b
part-uncalled a b path bytes none (inl d) = inl (does-uncalled a b [] none d)
part-uncalled a b path bytes none (inr d) = inr (d.0, does-uncalled a b (Added path (take d.0 bytes) ∷ []) none d.1)

pub weaves_part-main : (m n p : DiskState) (past now : Past) (path bytes : List ℕ) → now ≡ (n.told, p.told) ∷ past → Weaves m.told p.told past → ChangesPart path bytes m n → Weaves n.told p.told now
weaves_part-main m n p past now path bytes is w (inl d) = weaves-main m n p past now [] is w d
weaves_part-main m n p past now path bytes is w (inr d) = weaves-main m n p past now (Added path (take d.0 bytes) ∷ []) is w d.1

pub weaves_part-pre : (m p n : DiskState) (past now : Past) (path bytes : List ℕ) → now ≡ (m.told, n.told) ∷ past → Weaves m.told p.told past → ChangesPart path bytes p n → Weaves m.told n.told now
weaves_part-pre m p n past now path bytes is w (inl d) = weaves-pre m p n past now [] is w d
weaves_part-pre m p n past now path bytes is w (inr d) = weaves-pre m p n past now (Added path (take d.0 bytes) ∷ []) is w d.1

-- The bytes of an outside file were.
outside_main : (told m p : Told) (path bytes : List ℕ) → IfTold told (IsJoint m p) → IfTold m (λ a. outside_file_at a.outside path ≡ Some bytes) → IfTold told (λ r. outside_file_at r.outside path ≡ Some bytes)
outside_main None m p path bytes j h = tt
outside_main (Some r) m p path bytes j h = ap (λ o. outside_file_at o path) j.main_outside ∙ subst (λ o. IfTold o (λ a. outside_file_at a.outside path ≡ Some bytes)) j.main_tells h

outside_pre : (told m p : Told) (path bytes : List ℕ) → IfTold told (IsJoint m p) → IfTold p (λ b. outside_file_at b.outside path ≡ Some bytes) → IfTold told (λ r. outside_file_at r.outside path ≡ Some bytes)
outside_pre None m p path bytes j h = tt
outside_pre (Some r) m p path bytes j h = ap (λ o. outside_file_at o path) j.pre_outside ∙ subst (λ o. IfTold o (λ b. outside_file_at b.outside path ≡ Some bytes)) j.pre_tells h

pub adopts-main : (m n p : DiskState) (k : ℕ) (past now : Past) (outside path : List ℕ) → now ≡ (n.told, p.told) ∷ past → Weaves m.told p.told past → Adopts outside path m n → Adopts outside (in_part Main path) (pair m p k past) (pair n p k now)
adopts-main m n p k past now outside path is w d = (d.0, outside_main (woven past) m.told p.told outside d.0 w.joint d.1, does-main m n p k past now (Added path d.0 ∷ []) is w d.2)

pub adopts-pre : (m p n : DiskState) (k : ℕ) (past now : Past) (outside path : List ℕ) → now ≡ (m.told, n.told) ∷ past → Weaves m.told p.told past → Adopts outside path p n → Adopts outside (in_part Pre path) (pair m p k past) (pair m n k now)
adopts-pre m p n k past now outside path is w d = (d.0, outside_pre (woven past) m.told p.told outside d.0 w.joint d.1, does-pre m p n k past now (Added path d.0 ∷ []) is w d.2)

pub adopts_part-main : (m n p : DiskState) (k : ℕ) (past now : Past) (outside path : List ℕ) → now ≡ (n.told, p.told) ∷ past → Weaves m.told p.told past → AdoptsPart outside path m n → AdoptsPart outside (in_part Main path) (pair m p k past) (pair n p k now)
adopts_part-main m n p k past now outside path is w (inl d) = inl (changes-main m n p k past now [] is w d)
adopts_part-main m n p k past now outside path is w (inr d) = inr (d.0, outside_main (woven past) m.told p.told outside d.0 w.joint d.1, changes_part-main m n p k past now path d.0 is w d.2)

pub adopts_part-pre : (m p n : DiskState) (k : ℕ) (past now : Past) (outside path : List ℕ) → now ≡ (m.told, n.told) ∷ past → Weaves m.told p.told past → AdoptsPart outside path p n → AdoptsPart outside (in_part Pre path) (pair m p k past) (pair m n k now)
adopts_part-pre m p n k past now outside path is w (inl d) = inl (changes-pre m p n k past now [] is w d)
adopts_part-pre m p n k past now outside path is w (inr d) = inr (d.0, outside_pre (woven past) m.told p.told outside d.0 w.joint d.1, changes_part-pre m p n k past now path d.0 is w d.2)

pub weaves_adopted-main : (m n p : DiskState) (past now : Past) (outside path : List ℕ) → now ≡ (n.told, p.told) ∷ past → Weaves m.told p.told past → AdoptsPart outside path m n → Weaves n.told p.told now
weaves_adopted-main m n p past now outside path is w (inl d) = weaves-main m n p past now [] is w d
weaves_adopted-main m n p past now outside path is w (inr d) = weaves_part-main m n p past now path d.0 is w d.2

pub weaves_adopted-pre : (m p n : DiskState) (past now : Past) (outside path : List ℕ) → now ≡ (m.told, n.told) ∷ past → Weaves m.told p.told past → AdoptsPart outside path p n → Weaves m.told n.told now
weaves_adopted-pre m p n past now outside path is w (inl d) = weaves-pre m p n past now [] is w d
weaves_adopted-pre m p n past now outside path is w (inr d) = weaves_part-pre m p n past now path d.0 is w d.2

-- A fault of one disk is one of both.
pub rose-main : (m n p k : ℕ) → Rose m n → Rose (min (m + (p + k)) (2 ^ 64 - 1)) (min (n + (p + k)) (2 ^ 64 - 1))
rose-main m n p k h = omega (arith, h)

pub rose-pre : (m p n k : ℕ) → Rose p n → Rose (min (m + (p + k)) (2 ^ 64 - 1)) (min (m + (n + k)) (2 ^ 64 - 1))
rose-pre m p n k h = omega (arith, h)

pub rose-refused : (m p k : ℕ) → Rose (min (m + (p + k)) (2 ^ 64 - 1)) (min (m + (p + min (k + 1) (2 ^ 64 - 1))) (2 ^ 64 - 1))
rose-refused m p k = omega arith

-- Two disks that were just joined.
same_bytes : (a b : List ℕ) → bytes_eq a b ≡ true → a ≡ b
same_bytes a b h = same_path a b h

both_true : (a b : Bool) → (a && b) ≡ true → (a ≡ true) × (b ≡ true)
both_true true b h = (refl, h)
both_true false b h = absurd (cc)

pairs_same : (xs ys : List (List ℕ × List ℕ)) → pointwise same_pair xs ys ≡ true → xs ≡ ys
pairs_same [] [] h = refl
pairs_same [] (y ∷ ys) h = cc
pairs_same (x ∷ xs) [] h = cc
pairs_same (x ∷ xs) (y ∷ ys) h =
    let p = both_true (same_pair x y) (pointwise same_pair xs ys) h in let q = both_true (bytes_eq x.0 y.0) (bytes_eq x.1 y.1) p.0 in
    λ i. (same_bytes x.0 y.0 q.0 i, same_bytes x.1 y.1 q.1 i) ∷ pairs_same xs ys p.1 i

outside_same : (a b : OutsideFiles) → same_outside a b ≡ true → a ≡ b
unfolding same_outside
outside_same a b h = map.same_entries_map a b (pairs_same (map.entries a) (map.entries b) h)

joint_new : (a b : DiskRecord) (t : Bool) → same_outside a.outside b.outside ≡ t → IfTold (joint t a b) (IsJoint (Some a) (Some b))
joint_new a b true h = record { a = a; b = b; main_tells = refl; pre_tells = refl; main_outside = refl; pre_outside = outside_same a.outside b.outside h; files = refl }
joint_new a b false h = tt

joint_told_new : (m p : Told) → IfTold (joint_told m p) (IsJoint m p)
joint_told_new None p = tt
joint_told_new (Some a) None = tt
joint_told_new (Some a) (Some b) = joint_new a b (same_outside a.outside b.outside) refl

pub weaves-new : (m p : Told) (now : Past) → now ≡ (m, p) ∷ [] → Weaves m p now
weaves-new m p now is = subst (λ l. Weaves m p l) (sym is) (record { rest = []; newest = refl; joint = joint_told_new m p })
