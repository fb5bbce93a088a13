-- Lookups at a remote level, by what its remote did.
use Rattle.std.proofs.Common.{◌≡◌, inl, inr, ℕ, ◌≤◌, Bool, true, false, bytes_eq, List, [], ◌∷◌, length, Option, Some, None, is_some, ◌&&◌, not, refl, subst, sym, ap, ◌∙◌}
use Rattle.std.specs.Cmp.Lexicographic.{nat_list_eq_equiv}
use Rattle.std.specs.List.{list_any}
use Rattle.sc_disk.proofs.Files.{same_path}
use Rattle.sc_entry.specs.Causes.{IfTold, Told}
use Rattle.sc_entry.specs.Entries.{objects}
use Rattle.sc_entry.specs.Keys.{IsStoreKey, is_store_key, normalize_key}
use Rattle.sc_model.specs.Devices.{Calls, Failed, Loses, Made, MakesMade, MakesOn, Passed}
use Rattle.sc_model.specs.Asking.{Asks, Reads_remote_calls, Spells}
use Rattle.sc_model.specs.Levels.{Files, IsPart, KeepsMarks, Later, Level, find_file, put_file}
use Rattle.sc_model.specs.WriteCauses.{causes, early_cause, or_cause, read_only_store, refuses_writes, room_cause, write_cause}
use Rattle.sc_model.specs.Writing.{Puts_remote, Puts_remote_calls, Wrote_at}
use Rattle.sc_entry.specs.declared.object.Object.{Object}
use Rattle.sc_model.specs.Plan.{reads_only}
use Rattle.sc_model.specs.Script.{is_single}
use Rattle.sc_model.specs.declared.event.Answer.{Answer}
use Rattle.sc_model.specs.declared.event.Answer.TheVariants.{Found as FoundAt, Hit, Miss, Refused, Size as SizeIs}
use Rattle.sc_model.specs.declared.event.Mode.{Mode}
use Rattle.sc_model.specs.declared.event.Mode.TheVariants.{Path, Pre, Raw, Size as Sizes, Whole}
use Rattle.sc_model.specs.declared.event.Written.{Written}
use Rattle.sc_model.specs.declared.event.Written.TheVariants.{Refused as NotWritten}
use Rattle.sc_model.specs.declared.level.Cause.{Cause}
use Rattle.sc_model.specs.declared.level.Cause.TheVariants.{BadEntry, BadKey, FileTooLarge, Io, NotOpen, ReadOnly as ForReading, RemoteFault as RemoteRefused, Reserved as NoRoom}
use Rattle.sc_model.specs.declared.level.LevelFacts.{LevelFacts}
use Rattle.sc_model.specs.declared.level.LevelKind.{LevelKind}
use Rattle.sc_model.specs.declared.level.LevelKind.TheVariants.{Remote}
use Rattle.sc_model.specs.declared.level.Policy.{Policy}
use Rattle.sc_model.specs.declared.level.Store.{Store as StoreType}
use Rattle.sc_model.specs.declared.level.Store.TheVariants.{Remote as RemoteStore}
use Rattle.sc_store_disk.specs.Wholes.{hit_of, if_spells, mode_answer, whole_answer}
use Rattle.sc_store.specs.Asking.{AsksLevel, ForgetsLost, MarksWrote, PutsLevel, fixed_answer, raw_answer, reads_key, written_of}
use Rattle.sc_store_disk.specs.Marks.{Marks, Sets, is_marked}
use Rattle.sc_store.specs.Held.{Given, HeldLevel, Modes, Names, Reached, held_remote, marks_there, remote_facts, remote_level, told_files}
use Rattle.sc_store.specs.Remotes.{Keeps, Puts, ReachesBy, ReadCalls, ReadCause, Reads, WriteCalls, WriteCause, Writes}
use Rattle.sc_store.specs.declared.remote.RemoteRead.{RemoteRead}
use Rattle.sc_store.specs.declared.remote.RemoteRead.TheVariants.{Found, NotFound, Refused as ReadRefused}
use Rattle.sc_store.specs.declared.remote.RemoteWrite.{RemoteWrite}
use Rattle.sc_store.specs.declared.remote.RemoteWrite.TheVariants.{Done as WriteDone, Refused as WriteRefused}
use Rattle.sc_store_disk.proofs.LevelMarks.{Shows, and_true, any_with, keeps-shown, one_more, put_own, put_there, sets-shown}
use Rattle.sc_store.proofs.Devices.{later_same}

-- a remote's marks stand at its keys' paths
abbrev here : List ℕ → List ℕ
here path = path

there_marked : (qs : List (List ℕ)) (files : Files) (p : List ℕ) → list_any (bytes_eq p) (marks_there qs files) ≡ (list_any (bytes_eq p) qs && is_some (find_file files p))
there_marked [] files p = refl
there_marked (q ∷ qs) files p =
    any_with (bytes_eq p) (is_some (find_file files q)) q (marks_there qs files)
    ∙ one_more (bytes_eq p q) (is_some (find_file files q)) (list_any (bytes_eq p) qs) (is_some (find_file files p)) (list_any (bytes_eq p) (marks_there qs files)) (there_marked qs files p) (λ t. ap (λ k. is_some (find_file files k)) (same_path p q t))

pub shows_remote : (held : Option Files) (f l : ℕ) (c : Option Calls) (g : Option Reached) (m : Marks) → Shows here m (remote_level held f l c g m)
shows_remote held f l c g m p = there_marked m.files (told_files held) p

-- what is found after a read or a write was there before
fewer_part : (m n : Files) → IsPart n m → (p : List ℕ) → is_some (find_file n p) ≡ true → is_some (find_file m p) ≡ true
fewer_part m n part p there = by (find_file n p) refl there
  where
    by : (o : Option (List ℕ)) → find_file n p ≡ o → is_some o ≡ true → is_some (find_file m p) ≡ true
    by None e h = cc
    by (Some b) e h = ap is_some (part p b e)

fewer_kept : (l l2 : ℕ) (m n : Files) → Keeps l l2 m n → (p : List ℕ) → is_some (find_file n p) ≡ true → is_some (find_file m p) ≡ true
fewer_kept l l2 m n (inl same) p there = ap (λ x. is_some (find_file x p)) (sym same) ∙ there
fewer_kept l l2 m n (inr lost) p there = fewer_part m n lost.0 p there

found_before : (l l2 : ℕ) (m n : Files) (p b : List ℕ) → Keeps l l2 m n → find_file n p ≡ Some b → is_some (find_file m p) ≡ true
found_before l l2 m n p b kept found = fewer_kept l l2 m n kept p (ap is_some found)

none_stands : (o : Option (List ℕ)) → o ≡ None → is_some o ≡ true → ⊥
none_stands o e h = cc

-- a lookup that found nothing took the mark there
lost_same : (path : List ℕ) (a b : Marks) (n : Files) → Sets path false a b → find_file n path ≡ None → (q : List ℕ) → is_some (find_file n q) ≡ true → is_marked b q ≡ is_marked a q
lost_same path a b n s none q there = (elim (bytes_eq path q) as (λ t. bytes_eq path q ≡ t → is_marked b q ≡ is_marked a q) [
  | true ↦ λ e. absurd (none_stands (find_file n q) (ap (find_file n) (sym (same_path path q e)) ∙ none) there)
  | false ↦ λ e. s.others q e
]) refl

-- a read of a key's path is a lookup of the key
module _ (m n : Files) (f f2 l l2 : ℕ) (c c2 : Option Calls) (g g2 : Option Reached) (a b : Marks) (mode : Modes) (key path : List ℕ) (good : IsStoreKey key) (at : path ≡ normalize_key key) (faults : f ≤ f2) (losses : Loses c l l2) (calls : MakesOn c c2 f f2) (reached : g2 ≡ g) where
  read_marks : Keeps l l2 m n → ((q : List ℕ) → is_some (find_file n q) ≡ true → is_marked b q ≡ is_marked a q) → KeepsMarks (remote_level (Some m) f l c g a) (remote_level (Some n) f2 l2 c2 g2 b)
  read_marks kept same = keeps-shown here a b (remote_level (Some m) f l c g a) (remote_level (Some n) f2 l2 c2 g2 b) (shows_remote (Some m) f l c g a) (shows_remote (Some n) f2 l2 c2 g2 b) (fewer_kept l l2 m n kept) same

  read_later : Later (remote_level (Some m) f l c g a) (remote_level (Some n) f2 l2 c2 g2 b)
  read_later = record { faults = faults; losses = losses; calls = calls; opened = refl }

  calls_of_read : (read : RemoteRead) (mark : Bool) → ReadCalls read c c2 f f2 → IfTold c (λ x. (made : Made) × Reads_remote_calls (raw_answer read mark) made × MakesMade made c c2 f f2)
  calls_of_read read mark = by c
    where
      by : (x : Option Calls) → ReadCalls read x c2 f f2 → IfTold x (λ y. (made : Made) × Reads_remote_calls (raw_answer read mark) made × MakesMade made x c2 f f2)
      by None h = tt
      by (Some y) h = one read h
        where
          one : (z : RemoteRead) → ReadCalls z (Some y) c2 f f2 → (made : Made) × Reads_remote_calls (raw_answer z mark) made × MakesMade made (Some y) c2 f f2
          one (Found bytes) h = (Passed 1, refl, h)
          one NotFound h = (Passed 1, refl, h)
          one (ReadRefused fault) h = (Failed 0 0, (h.0, refl), h.1)

  read_told : (read : RemoteRead) → ReadCalls read c c2 f f2 → Reads read l l2 path m n → ReadCause read f f2 → ForgetsLost (raw_answer read (is_marked a path)) path a b
      → (r : ℕ) → Asks objects (remote_facts mode) r key Raw (raw_answer read (is_marked a path)) (remote_level (Some m) f l c g a) (remote_level (Some n) f2 l2 c2 g2 b)
  read_told (Found bytes) one reads cause forgets r = record {
    later = read_later;
    keeps = (reads.0, refl);
    answers = (good, ap (λ p. find_file n p) (sym at) ∙ reads.1);
    opens = refl;
    marks = read_marks reads.0 (λ q there. ap (λ x. is_marked x q) forgets);
    tells_mark = ap (is_marked a) at ∙ sym (shows_remote (Some m) f l c g a (normalize_key key) ∙ and_true (is_marked a (normalize_key key)) (is_some (find_file m (normalize_key key))) (ap (λ p. is_some (find_file m p)) (sym at) ∙ found_before l l2 m n path bytes reads.0 reads.1));
    calls = calls_of_read (Found bytes) (is_marked a path) one;
    written = reached;
  }
  read_told NotFound one reads cause forgets r = record {
    later = read_later;
    keeps = (reads.0, refl);
    answers = (good, ap (λ p. find_file n p) (sym at) ∙ reads.1);
    opens = refl;
    marks = read_marks reads.0 (lost_same path a b n forgets reads.1);
    tells_mark = tt;
    calls = calls_of_read NotFound (is_marked a path) one;
    written = reached;
  }
  read_told (ReadRefused fault) one reads cause forgets r = record {
    later = read_later;
    keeps = (reads.0, refl);
    answers = (good, cause);
    opens = refl;
    marks = read_marks reads.0 (λ q there. ap (λ x. is_marked x q) forgets);
    tells_mark = tt;
    calls = calls_of_read (ReadRefused fault) (is_marked a path) one;
    written = reached;
  }

pub read_asks : (read : RemoteRead) (held held2 : Option Files) (f f2 l l2 : ℕ) (c c2 : Option Calls) (g g2 : Option Reached) (a b : Marks) (mode : Modes) (key path : List ℕ) → IsStoreKey key → path ≡ normalize_key key → f ≤ f2 → Loses c l l2 → MakesOn c c2 f f2 → g2 ≡ g
    → ReadCalls read c c2 f f2 → Told (Reads read l l2 path) held held2 → ReadCause read f f2 → ForgetsLost (raw_answer read (is_marked a path)) path a b → is_some held ≡ true
    → (r : ℕ) → Asks objects (remote_facts mode) r key Raw (raw_answer read (is_marked a path)) (remote_level held f l c g a) (remote_level held2 f2 l2 c2 g2 b)
read_asks read (Some m) (Some n) f f2 l l2 c c2 g g2 a b mode key path good at faults losses calls reached one reads cause forgets told r = read_told m n f f2 l l2 c c2 g g2 a b mode key path good at faults losses calls reached read one reads cause forgets r
read_asks read (Some m) None f f2 l l2 c c2 g g2 a b mode key path good at faults losses calls reached one reads cause forgets told r = absurd reads
read_asks read None held2 f f2 l l2 c c2 g g2 a b mode key path good at faults losses calls reached one reads cause forgets told r = absurd (cc)

-- marks are no matter of a device's counts
pub remarked_later : (held : Option Files) (f l : ℕ) (c : Option Calls) (g : Option Reached) (a b : Marks) → Later (remote_level held f l c g a) (remote_level held f l c g b)
remarked_later held f l c g a b = let h = later_same (remote_level held f l c g a) in record { faults = h.faults; losses = h.losses; calls = h.calls; opened = h.opened }

-- a lookup that calls nothing
pub no_call : (c : Option Calls) (f : ℕ) → IfTold c (λ x. (made : Made) × (made ≡ Passed 0) × MakesMade made c c f f)
no_call None f = tt
no_call (Some x) f = (Passed 0, refl, (x, refl, (tt, refl, refl)))

shows_same : (v : Level) (m : Marks) → Shows here m v → KeepsMarks v v
shows_same v m s = keeps-shown here m m v v s s (λ p there. there) (λ p there. refl)

not_both : (b : Bool) → b ≡ false → b ≡ true → ⊥
not_both true p q = cc
not_both false p q = cc

module _ (names : Names) (given : Given) (modes : Modes) (held : Option Files) (f l : ℕ) (c : Option Calls) (g : Option Reached) (m : Marks) where
  abbrev store : HeldLevel
  store = held_remote names given modes held f l c g m

  pub same_marks : KeepsMarks store.level store.level
  same_marks = shows_same store.level m (shows_remote held f l c g m)

  pub asks_bad : (mode : Mode) (key : List ℕ) → reads_key mode ≡ true → is_store_key key ≡ false → AsksLevel key mode (Refused BadKey) store store
  asks_bad Whole key reads bad told has = record { later = later_same store.level; keeps = (inl refl, refl); answers = not_both (is_store_key key) bad; opens = refl; marks = same_marks; tells_mark = tt; calls = no_call c f; written = refl }
  asks_bad Raw key reads bad told has = record { later = later_same store.level; keeps = (inl refl, refl); answers = not_both (is_store_key key) bad; opens = refl; marks = same_marks; tells_mark = tt; calls = no_call c f; written = refl }
  asks_bad Path key reads bad told has = cc
  asks_bad Pre key reads bad told has = cc
  asks_bad Sizes key reads bad told has = cc

  pub asks_fixed : (mode : Mode) (key : List ℕ) → reads_key mode ≡ false → AsksLevel key mode (fixed_answer mode) store store
  asks_fixed Whole key reads told has = cc
  asks_fixed Raw key reads told has = cc
  asks_fixed Path key reads told has = cc
  asks_fixed Pre key reads told has = record { later = later_same store.level; keeps = (inl refl, refl); answers = tt; opens = refl; marks = same_marks; tells_mark = tt; calls = no_call c f; written = refl }
  asks_fixed Sizes key reads told has = record { later = later_same store.level; keeps = (inl refl, refl); answers = refl; opens = refl; marks = same_marks; tells_mark = tt; calls = no_call c f; written = refl }

-- bytes that are found are an entry, or no entry
whole_hit : (mode : Modes) (r : ℕ) (key bytes : List ℕ) (mark : Bool) (v w : Level) (os : Option (List Object)) → objects bytes ≡ os → Asks objects (remote_facts mode) r key Raw (Hit bytes mark) v w
    → Asks objects (remote_facts mode) r key Whole (hit_of (if_spells os bytes) mark) v w
whole_hit mode r key bytes mark v w (Some os) e h = record { later = h.later; keeps = h.keeps; answers = (h.answers.0, h.answers.1, subst Spells (sym e) tt); opens = h.opens; marks = h.marks; tells_mark = h.tells_mark; calls = h.calls; written = h.written }
whole_hit mode r key bytes mark v w None e h = record { later = h.later; keeps = h.keeps; answers = (h.answers.0, (bytes, h.answers.1, e)); opens = h.opens; marks = h.marks; tells_mark = tt; calls = h.calls; written = h.written }

whole_asks : (mode : Modes) (r : ℕ) (key : List ℕ) (a : Answer) (v w : Level) → Asks objects (remote_facts mode) r key Raw a v w → Asks objects (remote_facts mode) r key Whole (whole_answer a) v w
whole_asks mode r key (Hit bytes mark) v w h =
    whole_hit mode r key bytes mark v w (objects bytes) refl h
whole_asks mode r key Miss v w h = record { later = h.later; keeps = h.keeps; answers = h.answers; opens = h.opens; marks = h.marks; tells_mark = h.tells_mark; calls = h.calls; written = h.written }
whole_asks mode r key (Refused BadEntry) v w h = absurd (h.answers.1)
whole_asks mode r key (Refused BadKey) v w h = record { later = h.later; keeps = h.keeps; answers = h.answers; opens = h.opens; marks = h.marks; tells_mark = h.tells_mark; calls = h.calls; written = h.written }
whole_asks mode r key (Refused FileTooLarge) v w h = absurd (h.answers.1)
whole_asks mode r key (Refused Io) v w h = absurd (h.answers.1)
whole_asks mode r key (Refused NoRoom) v w h = absurd (h.answers.1)
whole_asks mode r key (Refused (ForReading s)) v w h = absurd (h.answers.1)
whole_asks mode r key (Refused (NotOpen x)) v w h = absurd (h.answers.1)
whole_asks mode r key (Refused (RemoteRefused fault)) v w h = record { later = h.later; keeps = h.keeps; answers = h.answers; opens = h.opens; marks = h.marks; tells_mark = h.tells_mark; calls = h.calls; written = h.written }
whole_asks mode r key (FoundAt path) v w h = absurd h.answers
whole_asks mode r key (SizeIs n c) v w h = absurd h.answers

-- a lookup of an entry, or of bytes as they are, by the bytes as they are
mode_asks : (ask : Mode) (mode : Modes) (r : ℕ) (key : List ℕ) (a : Answer) (v w : Level) → reads_key ask ≡ true → Asks objects (remote_facts mode) r key Raw a v w → Asks objects (remote_facts mode) r key ask (mode_answer ask a) v w
mode_asks Whole mode r key a v w is h = whole_asks mode r key a v w h
mode_asks Raw mode r key a v w is h = h
mode_asks Path mode r key a v w is h = absurd (cc)
mode_asks Pre mode r key a v w is h = absurd (cc)
mode_asks Sizes mode r key a v w is h = absurd (cc)

pub mode_asks_at : (ask : Mode) (facts : LevelFacts) (mode : Modes) (r : ℕ) (key : List ℕ) (a : Answer) (v w : Level) → facts ≡ remote_facts mode → reads_key ask ≡ true → Asks objects facts r key Raw a v w → Asks objects facts r key ask (mode_answer ask a) v w
mode_asks_at ask facts mode r key a v w at is h =
    subst (λ f. Asks objects f r key ask (mode_answer ask a) v w) (sym at) (mode_asks ask mode r key a v w is (subst (λ f. Asks objects f r key Raw a v w) at h))

free_of : (reading bad : Bool) (c d : Cause) → or_cause reading c (or_cause bad d None) ≡ None → bad ≡ false
free_of true bad c d is = absurd (cc)
free_of false true c d is = absurd (cc)
free_of false false c d is = refl

is_not : (b : Bool) → not b ≡ false → b ≡ true
is_not true e = refl
is_not false e = absurd (cc)

-- what is refused for nothing has a store key
pub free_key : (policy : Policy) (mode : Modes) (key : List ℕ) → early_cause policy (remote_facts mode) key ≡ None → IsStoreKey key
free_key policy mode key free = is_not (is_store_key key) (free_of (is_single policy && reads_only mode.configured) (not (is_store_key key)) (ForReading RemoteStore) BadKey free)

-- A write of a key's path is a write of the key.
put_before : (l l2 : ℕ) (m n : Files) (p b q : List ℕ) → Puts l l2 p b m n → bytes_eq p q ≡ false → is_some (find_file n q) ≡ true → is_some (find_file m q) ≡ true
put_before l l2 m n p b q (inl same) apart there = sym (put_there m p b q (nat_list_eq_equiv.symm q p ∙ apart)) ∙ ap (λ x. is_some (find_file x q)) (sym same) ∙ there
put_before l l2 m n p b q (inr lost) apart there = sym (put_there m p b q (nat_list_eq_equiv.symm q p ∙ apart)) ∙ fewer_part (put_file m p b) n lost.0 q there

put_stands : (l l2 : ℕ) (m n : Files) (p b : List ℕ) → Puts l l2 p b m n → is_some (find_file n p) ≡ true
put_stands l l2 m n p b (inl same) = ap (λ x. is_some (find_file x p)) same ∙ put_own m p b
put_stands l l2 m n p b (inr lost) = ap is_some lost.1

module _ (m n : Files) (f f2 l l2 : ℕ) (c c2 : Option Calls) (g g2 : Option Reached) (a b : Marks) (policy : Policy) (mode : Modes) (key bytes : List ℕ) (from_run : Bool) (free : early_cause policy (remote_facts mode) key ≡ None) where
  calls_of_write : (answer : RemoteWrite) → WriteCalls answer c c2 f f2 → IfTold c (λ x. (made : Made) × Puts_remote_calls (written_of answer) made × MakesMade made c c2 f f2)
  calls_of_write answer = by c
    where
      by : (x : Option Calls) → WriteCalls answer x c2 f f2 → IfTold x (λ y. (made : Made) × Puts_remote_calls (written_of answer) made × MakesMade made x c2 f f2)
      by None h = tt
      by (Some y) h = one answer h
        where
          one : (z : RemoteWrite) → WriteCalls z (Some y) c2 f f2 → (made : Made) × Puts_remote_calls (written_of z) made × MakesMade made (Some y) c2 f f2
          one WriteDone h = (Passed 1, refl, h)
          one (WriteRefused fault) h = (Failed 0 0, (h.0, refl), h.1)

  write_told : (answer : RemoteWrite) → WriteCalls answer c c2 f f2 → ReachesBy answer (normalize_key key) bytes g g2 → Writes answer l l2 (normalize_key key) bytes m n → WriteCause answer f f2 → MarksWrote key from_run (written_of answer) a b
      → (r : ℕ) → Wrote_at policy (remote_facts mode) r key bytes Whole from_run (written_of answer) (remote_level (Some m) f l c g a) (remote_level (Some n) f2 l2 c2 g2 b)
  write_told WriteDone one reached puts cause sets r = (
    (free_key policy mode key free, free, refl, puts),
    calls_of_write WriteDone one,
    sets-shown here a b (remote_level (Some m) f l c g a) (remote_level (Some n) f2 l2 c2 g2 b) (normalize_key key) from_run (shows_remote (Some m) f l c g a) (shows_remote (Some n) f2 l2 c2 g2 b)
        (shows_remote (Some n) f2 l2 c2 g2 b (normalize_key key) ∙ and_true (is_marked b (normalize_key key)) (is_some (find_file n (normalize_key key))) (put_stands l l2 m n (normalize_key key) bytes puts) ∙ sets.marked)
        (λ q apart there. (put_before l l2 m n (normalize_key key) bytes q puts apart there, sets.others q apart)),
    reached,
    refl,
    refl,
  )
  write_told (WriteRefused fault) one reached puts cause sets r = (
    ((free, cause, (puts, refl), refl), (puts, refl)),
    calls_of_write (WriteRefused fault) one,
    sets-shown here a b (remote_level (Some m) f l c g a) (remote_level (Some n) f2 l2 c2 g2 b) (normalize_key key) false (shows_remote (Some m) f l c g a) (shows_remote (Some n) f2 l2 c2 g2 b)
        (shows_remote (Some n) f2 l2 c2 g2 b (normalize_key key) ∙ ap (λ t. t && is_some (find_file n (normalize_key key))) sets.marked)
        (λ q apart there. (fewer_kept l l2 m n puts q there, sets.others q apart)),
    reached,
    refl,
    refl,
  )

write_puts : (answer : RemoteWrite) (held held2 : Option Files) (f f2 l l2 : ℕ) (c c2 : Option Calls) (g g2 : Option Reached) (a b : Marks) (policy : Policy) (mode : Modes) (key bytes : List ℕ) (from_run : Bool) → early_cause policy (remote_facts mode) key ≡ None
    → WriteCalls answer c c2 f f2 → ReachesBy answer (normalize_key key) bytes g g2 → Told (Writes answer l l2 (normalize_key key) bytes) held held2 → WriteCause answer f f2 → MarksWrote key from_run (written_of answer) a b → is_some held ≡ true
    → (r : ℕ) → Wrote_at policy (remote_facts mode) r key bytes Whole from_run (written_of answer) (remote_level held f l c g a) (remote_level held2 f2 l2 c2 g2 b)
write_puts answer (Some m) (Some n) f f2 l l2 c c2 g g2 a b policy mode key bytes from_run free one reached puts cause sets told r = write_told m n f f2 l l2 c c2 g g2 a b policy mode key bytes from_run free answer one reached puts cause sets r
write_puts answer (Some m) None f f2 l l2 c c2 g g2 a b policy mode key bytes from_run free one reached puts cause sets told r = absurd puts
write_puts answer None held2 f f2 l l2 c c2 g g2 a b policy mode key bytes from_run free one reached puts cause sets told r = absurd (cc)

pub write_puts_at : (names : Names) (given : Given) (how : Written) (old : HeldLevel) (answer : RemoteWrite) (held held2 : Option Files) (f f2 l l2 : ℕ) (c c2 : Option Calls) (g g2 : Option Reached) (a b : Marks) (policy : Policy) (mode : Modes) (key path bytes : List ℕ) (from_run : Bool)
    → how ≡ written_of answer → held_remote names given mode held f l c g a ≡ old → early_cause policy (remote_facts mode) key ≡ None → path ≡ normalize_key key → WriteCalls answer c c2 f f2 → ReachesBy answer path bytes g g2
    → Told (Writes answer l l2 path bytes) held held2 → WriteCause answer f f2 → MarksWrote key from_run how a b → PutsLevel policy key bytes from_run how old (held_remote names given mode held2 f2 l2 c2 g2 b)
write_puts_at names given how old answer held held2 f f2 l l2 c c2 g g2 a b policy mode key path bytes from_run ends is free at one reached puts cause sets =
    subst (λ (o : HeldLevel). PutsLevel policy key bytes from_run how o (held_remote names given mode held2 f2 l2 c2 g2 b)) is
    (λ told r. subst (λ (x : Written). Wrote_at policy (remote_facts mode) r key bytes Whole from_run x (remote_level held f l c g a) (remote_level held2 f2 l2 c2 g2 b)) (sym ends)
    (write_puts answer held held2 f f2 l l2 c c2 g g2 a b policy mode key bytes from_run free one (subst (λ p. ReachesBy answer p bytes g g2) at reached) (subst (λ p. Told (Writes answer l l2 p bytes) held held2) at puts) cause
    (subst (λ (x : Written). MarksWrote key from_run x a b) ends sets) told r))

-- A write that is refused before the device is called.
IsEarly : Cause → Type 0
IsEarly BadKey = Unit {0}
IsEarly (ForReading s) = Unit {0}
IsEarly c = ⊥

same_cause : (c d : Cause) → Some c ≡ Some d → c ≡ d
same_cause c d h = cc

is_early : (x y : Bool) (s : StoreType) (c : Cause) → or_cause x (ForReading s) (or_cause y BadKey None) ≡ Some c → IsEarly c
unfolding IsEarly
is_early true y s c h = subst IsEarly (same_cause (ForReading s) c h) tt
is_early false true s c h = subst IsEarly (same_cause BadKey c h) tt
is_early false false s c h = cc

module _ (policy : Policy) (f : LevelFacts) (key bytes : List ℕ) (mark : Bool) (v : Level) (kind : f.kind ≡ Remote) (same : KeepsMarks v v) where
  refused_so : (r : ℕ) (c : Cause) → IsEarly c → write_cause policy f r key (length bytes) ≡ Some c → Puts_remote Remote (causes policy f r key (length bytes)) key bytes mark (NotWritten c) v v
  unfolding IsEarly
  refused_so r BadKey e h = (((h, (inl refl, refl), refl), (inl refl, refl)), no_call v.calls v.faults, same, refl, refl, refl)
  refused_so r (ForReading s) e h = (((h, (inl refl, refl), refl), (inl refl, refl)), no_call v.calls v.faults, same, refl, refl, refl)
  refused_so r BadEntry e h = absurd e
  refused_so r FileTooLarge e h = absurd e
  refused_so r NoRoom e h = absurd e
  refused_so r Io e h = absurd e
  refused_so r (RemoteRefused d) e h = absurd e
  refused_so r (NotOpen x) e h = absurd e

  early_is_all : (r : ℕ) (c : Cause) → early_cause policy f key ≡ Some c → write_cause policy f r key (length bytes) ≡ Some c
  early_is_all r c h = subst (λ (k : LevelKind). or_cause (refuses_writes policy f) (ForReading (read_only_store f f.wrapped)) (or_cause (not (is_store_key key)) BadKey (room_cause k f.capacity r (length bytes))) ≡ Some c) (sym kind) h

  pub refused_early : (c : Cause) → early_cause policy f key ≡ Some c → (r : ℕ) → Wrote_at policy f r key bytes Whole mark (NotWritten c) v v
  refused_early c h r = subst (λ (k : LevelKind). Puts_remote k (causes policy f r key (length bytes)) key bytes mark (NotWritten c) v v) (sym kind)
      (refused_so r c (is_early (refuses_writes policy f) (not (is_store_key key)) (read_only_store f f.wrapped) c h) (early_is_all r c h))
