-- Marks of the keys of a level.
use Rattle.std.proofs.Common.{◌≡◌, ℕ, Bool, true, false, bytes_eq, List, Option, Some, None, refl, subst, sym, ap, ◌∙◌}
use Rattle.sc_disk.proofs.Files.{same_path}
use Rattle.sc_store_disk.specs.Marked.{TellsMark as DiskTells}
use Rattle.sc_store_disk.specs.Marks.{Marks, Sets, is_marked}
use Rattle.sc_store_disk.specs.Wholes.{hit_of, if_spells, mode_answer, whole_answer}
use Rattle.sc_entry.specs.Entries.{objects}
use Rattle.sc_entry.specs.Keys.{normalize_key}
use Rattle.sc_entry.specs.declared.object.Object.{Object}
use Rattle.sc_model.specs.declared.event.Answer.{Answer}
use Rattle.sc_model.specs.declared.event.Answer.TheVariants.{Found as FoundAt, Hit, Miss, Refused, Size as SizeIs}
use Rattle.sc_model.specs.declared.event.Mode.{Mode}
use Rattle.sc_model.specs.declared.event.Mode.TheVariants.{Path, Pre, Raw, Size as Sizes, Whole}
use Rattle.sc_model.specs.declared.event.Written.{Written}
use Rattle.sc_model.specs.declared.level.Cause.{Cause}
use Rattle.sc_model.specs.declared.level.LevelKind.TheVariants.{Disk, Remote}
use Rattle.sc_store.specs.Asking.{EndsWrite, Fewer, ForgetsLost, MarksAsked, MarksWrote, TellsMark, fixed_answer, raw_answer, reads_key, written_of}
use Rattle.sc_store.specs.declared.remote.RemoteRead.{RemoteRead}
use Rattle.sc_store.specs.declared.remote.RemoteRead.TheVariants.{Found, NotFound, Refused as ReadRefused}
use Rattle.sc_store.specs.declared.remote.RemoteWrite.{RemoteWrite}
use Rattle.sc_store.specs.declared.remote.RemoteWrite.TheVariants.{Done, Refused as PutRefused}

pub fewer_same : (a b : Marks) → b ≡ a → Fewer a b
fewer_same a b same = record { entries = ap (λ (m : Marks). m.entries) same; files = λ q none. ap (λ (m : Marks). is_marked m q) same ∙ none }

pub fewer_cleared : (path : List ℕ) (a b : Marks) → Sets path false a b → Fewer a b
fewer_cleared path a b s = record {
  entries = s.entries;
  files = λ q none. (elim (bytes_eq path q) as (λ t. bytes_eq path q ≡ t → is_marked b q ≡ false) [
    | true ↦ λ e. ap (is_marked b) (sym (same_path path q e)) ∙ s.marked
    | false ↦ λ e. s.others q e ∙ none
  ]) refl;
}

pub sets_then : (path : List ℕ) (x y : Bool) (a b c : Marks) → Sets path x a b → Sets path y b c → Sets path y a c
sets_then path x y a b c s t = record { entries = t.entries ∙ s.entries; marked = t.marked; others = λ q apart. t.others q apart ∙ s.others q apart }

-- A hit of a disk level.
pub disk_tells : (marks : Marks) (key : List ℕ) (answer : Answer) → DiskTells marks key answer → TellsMark Disk marks key answer
disk_tells marks key (Hit bytes mark) h = h
disk_tells marks key Miss h = tt
disk_tells marks key (Refused c) h = tt
disk_tells marks key (FoundAt p) h = tt
disk_tells marks key (SizeIs n c) h = tt

-- One of a remote level.
pub raw_tells : (read : RemoteRead) (mark : Bool) (marks : Marks) (key path : List ℕ) → path ≡ normalize_key key → mark ≡ is_marked marks path → TellsMark Remote marks key (raw_answer read mark)
raw_tells (Found bytes) mark marks key path at is = is ∙ ap (is_marked marks) at
raw_tells NotFound mark marks key path at is = tt
raw_tells (ReadRefused fault) mark marks key path at is = tt

hit_tells : (o : Option (List Object)) (bytes : List ℕ) (mark : Bool) (marks : Marks) (key : List ℕ) → mark ≡ is_marked marks (normalize_key key) → TellsMark Remote marks key (hit_of (if_spells o bytes) mark)
hit_tells (Some os) bytes mark marks key is = is
hit_tells None bytes mark marks key is = tt

whole_tells : (raw : Answer) (marks : Marks) (key : List ℕ) → TellsMark Remote marks key raw → TellsMark Remote marks key (whole_answer raw)
whole_tells (Hit bytes mark) marks key is = hit_tells (objects bytes) bytes mark marks key is
whole_tells Miss marks key is = tt
whole_tells (Refused c) marks key is = tt
whole_tells (FoundAt p) marks key is = tt
whole_tells (SizeIs n c) marks key is = tt

mode_tells : (mode : Mode) (raw : Answer) (marks : Marks) (key : List ℕ) → reads_key mode ≡ true → TellsMark Remote marks key raw → TellsMark Remote marks key (mode_answer mode raw)
mode_tells Whole raw marks key reads is = whole_tells raw marks key is
mode_tells Raw raw marks key reads is = is
mode_tells Pre raw marks key reads is = absurd (cc)
mode_tells Path raw marks key reads is = absurd (cc)
mode_tells Sizes raw marks key reads is = absurd (cc)

pub asked_tells : (mode : Mode) (raw answer : Answer) (marks : Marks) (key : List ℕ) → reads_key mode ≡ true → answer ≡ mode_answer mode raw → TellsMark Remote marks key raw → TellsMark Remote marks key answer
asked_tells mode raw answer marks key reads same is = subst (λ (x : Answer). TellsMark Remote marks key x) (sym same) (mode_tells mode raw marks key reads is)

-- What it does to the marks.
lost_at : (raw : Answer) (key path : List ℕ) (a b : Marks) → path ≡ normalize_key key → ForgetsLost raw path a b → MarksAsked Remote Raw key raw a b
lost_at (Hit bytes mark) key path a b at h = h
lost_at Miss key path a b at h = subst (λ (p : List ℕ). Sets p false a b) at h
lost_at (Refused c) key path a b at h = h
lost_at (FoundAt p) key path a b at h = h
lost_at (SizeIs n c) key path a b at h = h

hit_lost : (o : Option (List Object)) (bytes : List ℕ) (mark : Bool) (key : List ℕ) (a b : Marks) → b ≡ a → MarksAsked Remote Whole key (hit_of (if_spells o bytes) mark) a b
hit_lost (Some os) bytes mark key a b h = h
hit_lost None bytes mark key a b h = h

whole_lost : (raw : Answer) (key : List ℕ) (a b : Marks) → MarksAsked Remote Raw key raw a b → MarksAsked Remote Whole key (whole_answer raw) a b
whole_lost (Hit bytes mark) key a b h = hit_lost (objects bytes) bytes mark key a b h
whole_lost Miss key a b h = h
whole_lost (Refused c) key a b h = h
whole_lost (FoundAt p) key a b h = h
whole_lost (SizeIs n c) key a b h = h

mode_lost : (mode : Mode) (raw : Answer) (key : List ℕ) (a b : Marks) → reads_key mode ≡ true → MarksAsked Remote Raw key raw a b → MarksAsked Remote mode key (mode_answer mode raw) a b
mode_lost Whole raw key a b reads h = whole_lost raw key a b h
mode_lost Raw raw key a b reads h = h
mode_lost Pre raw key a b reads h = absurd (cc)
mode_lost Path raw key a b reads h = absurd (cc)
mode_lost Sizes raw key a b reads h = absurd (cc)

pub asked_marks : (mode : Mode) (raw answer : Answer) (key path : List ℕ) (a b : Marks) → reads_key mode ≡ true → path ≡ normalize_key key → answer ≡ mode_answer mode raw → ForgetsLost raw path a b → MarksAsked Remote mode key answer a b
asked_marks mode raw answer key path a b reads at same h = subst (λ (x : Answer). MarksAsked Remote mode key x a b) (sym same) (mode_lost mode raw key a b reads (lost_at raw key path a b at h))

-- a lookup that reads nothing
pub unread_marks : (mode : Mode) (key : List ℕ) (m : Marks) → reads_key mode ≡ false → MarksAsked Remote mode key (fixed_answer mode) m m
unread_marks Whole key m reads = absurd (cc)
unread_marks Raw key m reads = absurd (cc)
unread_marks Pre key m reads = refl
unread_marks Path key m reads = refl
unread_marks Sizes key m reads = refl

pub refused_marks : (mode : Mode) (key : List ℕ) (c : Cause) (m : Marks) → MarksAsked Remote mode key (Refused c) m m
refused_marks Whole key c m = refl
refused_marks Raw key c m = refl
refused_marks Pre key c m = refl
refused_marks Path key c m = refl
refused_marks Sizes key c m = refl

lost_fewer : (raw : Answer) (path : List ℕ) (a b : Marks) → ForgetsLost raw path a b → Fewer a b
lost_fewer (Hit bytes mark) path a b h = fewer_same a b h
lost_fewer Miss path a b h = fewer_cleared path a b h
lost_fewer (Refused c) path a b h = fewer_same a b h
lost_fewer (FoundAt p) path a b h = fewer_same a b h
lost_fewer (SizeIs n c) path a b h = fewer_same a b h

pub asked_fewer : (raw : Answer) (path : List ℕ) (a b c : Marks) → b ≡ a → ForgetsLost raw path b c → Fewer a c
asked_fewer raw path a b c same h = lost_fewer raw path a c (subst (λ (m : Marks). ForgetsLost raw path m c) same h)

-- A write of a remote level.
wrote_at : (answer : RemoteWrite) (key path : List ℕ) (from_run : Bool) (a b c : Marks) → path ≡ normalize_key key → Sets path from_run a b → EndsWrite answer path b c → MarksWrote key from_run (written_of answer) a c
wrote_at Done key path from_run a b c at begun ends = subst (λ (p : List ℕ). Sets p from_run a c) at (subst (λ (m : Marks). Sets path from_run a m) (sym ends) begun)
wrote_at (PutRefused fault) key path from_run a b c at begun ends = subst (λ (p : List ℕ). Sets p false a c) at (sets_then path from_run false a b c begun ends)

pub wrote_marks : (answer : RemoteWrite) (how : Written) (key path : List ℕ) (from_run : Bool) (a b c : Marks) → how ≡ written_of answer → path ≡ normalize_key key → Sets path from_run a b → EndsWrite answer path b c → MarksWrote key from_run how a c
wrote_marks answer how key path from_run a b c is at begun ends = subst (λ (w : Written). MarksWrote key from_run w a c) (sym is) (wrote_at answer key path from_run a b c at begun ends)

-- one that was given up
pub given_up : (path : List ℕ) (from_run : Bool) (a b c : Marks) → Sets path from_run a b → Sets path false b c → Fewer a c
given_up path from_run a b c begun cleared = fewer_cleared path a c (sets_then path from_run false a b c begun cleared)
