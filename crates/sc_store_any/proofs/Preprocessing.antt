-- Lookups and puts of the preprocessor's entries, level by level.
use Rattle.std.proofs.Common.{◌≡◌, ℕ, suc, ◌-◌, ◌<◌, Bool, true, false, List, Some, Result, Ok, Err, IfOk, slice_set, subst, sym}
use Rattle.sc_entry.specs.Keys.{is_store_key}
use Rattle.sc_store_disk.specs.Moving.{SameEntries}
use Rattle.sc_model.specs.Plan.{level_facts}
use Rattle.sc_model.specs.Levels.{Later}
use Rattle.sc_model.specs.WriteCauses.{early_cause}
use Rattle.sc_model.specs.declared.event.Answer.{Answer}
use Rattle.sc_model.specs.declared.event.Answer.TheVariants.{Refused as AnswersRefused}
use Rattle.sc_model.specs.declared.event.Mode.TheVariants.{Pre}
use Rattle.sc_model.specs.declared.event.Written.{Written}
use Rattle.sc_model.specs.declared.event.Written.TheVariants.{Done, Refused}
use Rattle.sc_model.specs.declared.level.Cause.{Cause}
use Rattle.sc_model.specs.declared.level.Cause.TheVariants.{BadKey, ReadOnly as ForReading}
use Rattle.sc_model.specs.declared.level.Store.TheVariants.{Wrapper}
use Rattle.sc_model.specs.declared.level.LevelKind.TheVariants.{Disk, Remote}
use Rattle.sc_store_any.proofs.Turns.{one_less}
use Rattle.sc_store_alone.specs.Lookups.{AskedAt}
use Rattle.sc_store_alone.specs.Preprocessor.{AsksFrom, GoesOn, PutsPreAt, is_miss}
use Rattle.sc_store.specs.Asking.{AloneAt, AsksAt, CauseBy, MarksAsked, PreCauseAt, PutsPre, TellsMark, reads_key}
use Rattle.sc_store.specs.Held.{Held, disk_in, level_in, marks_in}

-- a lookup at one level, by what it was answered
pub asked_at : {E : Type 0} (r : Result Answer E) (l : ℕ) (key : List ℕ) (old new : Held) → new.titles ≡ old.titles → new.facts ≡ old.facts → new.policy ≡ old.policy → new.told ≡ old.told → new.rooms ≡ old.rooms
    → new.levels ≡ slice_set old.levels l (level_in new.levels l) → Later (level_in old.levels l) (level_in new.levels l) → IfOk r (λ answer. AsksAt l key Pre answer old new)
    → IfOk r (λ answer. CauseBy (level_facts old.facts l).kind Pre answer key (level_in old.levels l) (level_in new.levels l)) → (reads_key Pre ≡ true → is_store_key key ≡ false → (r ≡ Ok (AnswersRefused BadKey)) × (new ≡ old))
    → (reads_key Pre ≡ true → IfOk r (λ answer. TellsMark (level_facts old.facts l).kind (marks_in old.marks l) key answer))
    → IfOk r (λ answer. MarksAsked (level_facts old.facts l).kind Pre key answer (marks_in old.marks l) (marks_in new.marks l)) → new.marks ≡ slice_set old.marks l (marks_in new.marks l)
    → IfOk r (λ answer. AskedAt l key Pre answer old new)
asked_at (Ok answer) l key old new titles facts policy told rooms alone later asked cause bad_key mark marks marks_alone = record {
  titles = titles;
  facts = facts;
  policy = policy;
  told = told;
  rooms = rooms;
  alone = alone;
  later = later;
  asked = asked;
  cause = cause;
  bad_key = λ reads bad. (bad_key reads bad).1;
  mark = mark;
  marks = marks;
  marks_alone = marks_alone;
}
asked_at (Err e) l key old new titles facts policy told rooms alone later asked cause bad_key mark marks marks_alone = tt

-- a level's lookup before those that are left
pub turn : (count l next : ℕ) (key : List ℕ) (missed : Bool) (first answer : Answer) (old between new : Held) → l < count → next ≡ suc l → missed ≡ is_miss first → AskedAt l key Pre first old between
    → GoesOn missed first answer between new (AsksFrom (count - next) next key answer between new) → AsksFrom (count - l) l key answer old new
turn count l next key missed first answer old between new h after is asked goes =
    let there : GoesOn missed first answer between new (AsksFrom (count - suc l) (suc l) key answer between new) = subst (λ (n : ℕ). GoesOn missed first answer between new (AsksFrom (count - n) n key answer between new)) after goes in
    let rest : GoesOn (is_miss first) first answer between new (AsksFrom (count - suc l) (suc l) key answer between new) = subst (λ (b : Bool). GoesOn b first answer between new (AsksFrom (count - suc l) (suc l) key answer between new)) is there in
    subst (λ (n : ℕ). AsksFrom n l key answer old new) (sym (one_less count l h)) (first, between, asked, rest)

-- a put at one level, by what it was answered
pub put_at : {E : Type 0} (r : Result Written E) (l : ℕ) (key bytes : List ℕ) (old new : Held) → AloneAt l old new → Later (level_in old.levels l) (level_in new.levels l) → SameEntries (disk_in old l) (disk_in new l)
    → marks_in new.marks l ≡ marks_in old.marks l → IfOk r (λ how. PutsPre old.policy key bytes how (disk_in old l) (disk_in new l)) → IfOk r (λ how. PreCauseAt old.policy key bytes how (disk_in old l) (disk_in new l))
    → ((level_facts old.facts l).kind ≡ Disk → (c : Cause) → early_cause old.policy (level_facts old.facts l) key ≡ Some c → (r ≡ Ok (Refused c)) × (new ≡ old)) → ((level_facts old.facts l).kind ≡ Remote → (level_facts old.facts l).wrapped ≡ false → (r ≡ Ok Done) × (new ≡ old))
    → ((level_facts old.facts l).wrapped ≡ true → (r ≡ Ok (Refused (ForReading Wrapper))) × (new ≡ old)) → IfOk r (λ how. PutsPreAt l key bytes how old new)
put_at (Ok how) l key bytes old new alone later entries marks put cause early remote only_read = record {
  alone = alone;
  later = later;
  entries = entries;
  marks = marks;
  put = put;
  cause = cause;
  early = λ kind c is. let h = early kind c is in let ended = h.0 in let same : how ≡ Refused c = cc (ended) in (same, h.1);
  remote = λ kind bare. let h = remote kind bare in let ended = h.0 in let same : how ≡ Done = cc (ended) in (same, h.1);
  only_read = λ wrapped. let h = only_read wrapped in let ended = h.0 in let same : how ≡ Refused (ForReading Wrapper) = cc (ended) in (same, h.1);
}
put_at (Err e) l key bytes old new alone later entries marks put cause early remote only_read = tt
