-- Calls of a disk level, as a level of levels that all tell.
use Rattle.std.proofs.Common.{◌≡◌, ℕ, Bool, true, false, List, Option, Result, Ok, Err, IfErr, OnErr}
use Rattle.sc_disk.specs.Store.{AddEntry}
use Rattle.sc_store_disk.specs.DiskStores.{DiskStore}
use Rattle.sc_store_disk.specs.Entries.{ClosesEntry, CommitCause, CommitsEntry, CommitsNothing, FillsBy}
use Rattle.sc_store_disk.specs.Marked.{MarksCommitted}
use Rattle.sc_store_disk.specs.Marks.{Marks}
use Rattle.sc_store_disk.specs.Moving.{EvictsFor, OpensBy, SameEntries}
use Rattle.sc_store_disk.specs.Preprocessor.{PreCause}
use Rattle.sc_store_disk.specs.declared.filling.Filling.{Filling}
use Rattle.sc_store_disk.specs.declared.filling.Filling.TheVariants.{Filled, Refused as NotFilled}
use Rattle.sc_store_disk.specs.declared.reserving.Reservation.{Reservation}
use Rattle.sc_store_disk.specs.declared.reserving.Reservation.TheVariants.{Open, Refused as NotReserved}
use Rattle.sc_model.specs.WriteCauses.{early_cause}
use Rattle.sc_model.specs.declared.event.Written.{Written}
use Rattle.sc_model.specs.declared.event.Written.TheVariants.{Done, Refused}
use Rattle.sc_model.specs.declared.level.Cause.{Cause}
use Rattle.sc_model.specs.declared.level.Cause.TheVariants.{BadEntry, BadKey, FileTooLarge, Io, NotOpen, ReadOnly, RemoteFault, Reserved}
use Rattle.sc_model.specs.declared.level.LevelKind.{LevelKind}
use Rattle.sc_model.specs.declared.level.LevelKind.TheVariants.{Disk, Remote}
use Rattle.sc_model.specs.declared.level.Policy.{Policy}
use Rattle.sc_store.specs.Asking.{PreCauseAt, PreCauseBy, PreCauseOf, PutsPre, ReservesDisk}
use Rattle.sc_store.proofs.Alone.{telling}

module _ (t u : Bool) (old new : DiskStore) (tells : t ≡ true → old.told ≡ true) where
  pub reserves_telling : (p : Policy) (k : List ℕ) (size : ℕ) (how : Reservation) → ReservesDisk p k size how old new → ReservesDisk p k size how (telling t old) (telling u new)
  reserves_telling p k size how h told = h (tells told)

  pub evicts_telling : (size : ℕ) → EvictsFor size old new → EvictsFor size (telling t old) (telling u new)
  evicts_telling size h told = h (tells told)

  pub opens_telling : (path : List ℕ) (size : ℕ) (how : Reservation) → OpensBy path size how old new → OpensBy path size how (telling t old) (telling u new)
  opens_telling path size (Open e) h = record { key = h.key; divided = h.divided; free = h.free; opened = h.opened; others = h.others; reserved = h.reserved }
  opens_telling path size (NotReserved c) h = record { reserved = h.reserved; entries = h.entries }

  pub same_telling : SameEntries old new → SameEntries (telling t old) (telling u new)
  same_telling h = record { reserved = h.reserved; entries = h.entries }

  pub closes_telling : (number : ℕ) → ClosesEntry number old new → ClosesEntry number (telling t old) (telling u new)
  closes_telling number h = record { closed = h.closed; others = h.others; reserved = h.reserved }

  pub fills_telling : (e : AddEntry) (more : List ℕ) (fills : Option Bool → Option Bool) (how : Filling) → FillsBy e more fills how old new → FillsBy e more fills how (telling t old) (telling u new)
  fills_telling e more fills (Filled same) h = (
    h.0,
    record {
      level = h.1.level;
      reserved = h.1.reserved;
      entry = λ o at. let x = h.1.entry o at in (x.0, x.1, λ told. x.2 (tells told));
      others = h.1.others;
    },
  )
  fills_telling e more fills (NotFilled c) h = (h.0, record { closed = h.1.closed; others = h.1.others; reserved = h.1.reserved })

  pub commits_telling : (number : ℕ) (how : Written) → CommitsEntry number how old new → CommitsEntry number how (telling t old) (telling u new)
  commits_telling number how h told = h (tells told)

  pub nothing_telling : (number : ℕ) → CommitsNothing number old new → CommitsNothing number (telling t old) (telling u new)
  nothing_telling number h told = h (tells told)

  pub cause_telling : (number : ℕ) (how : Written) → CommitCause number how old new → CommitCause number how (telling t old) (telling u new)
  cause_telling number Done h = tt
  cause_telling number (Refused FileTooLarge) h = (h.0, λ told. h.1 (tells told), h.2)
  cause_telling number (Refused Reserved) h = (h.0, λ told. h.1 (tells told), h.2, h.3)
  cause_telling number (Refused Io) h = h
  cause_telling number (Refused BadKey) h = absurd h
  cause_telling number (Refused BadEntry) h = absurd h
  cause_telling number (Refused (ReadOnly s)) h = absurd h
  cause_telling number (Refused (RemoteFault k)) h = absurd h
  cause_telling number (Refused (NotOpen x)) h = absurd h

  pub puts_pre_telling : (p : Policy) (k b : List ℕ) (how : Written) → PutsPre p k b how old new → PutsPre p k b how (telling t old) (telling u new)
  puts_pre_telling p k b how h told = h (tells told)

  pre_cause_telling : (early : Option Cause) (b : List ℕ) (how : Written) → PreCause early b how old new → PreCause early b how (telling t old) (telling u new)
  pre_cause_telling early b Done h = h
  pre_cause_telling early b (Refused FileTooLarge) h = (h.0, (h.1.0, (λ told. h.1.1 (tells told)), h.1.2))
  pre_cause_telling early b (Refused Reserved) h = (h.0, (h.1.0, (λ told. h.1.1 (tells told)), h.1.2, h.1.3))
  pre_cause_telling early b (Refused Io) h = h
  pre_cause_telling early b (Refused BadKey) h = h
  pre_cause_telling early b (Refused BadEntry) h = h
  pre_cause_telling early b (Refused (ReadOnly s)) h = h
  pre_cause_telling early b (Refused (RemoteFault k)) h = h
  pre_cause_telling early b (Refused (NotOpen x)) h = h

  pre_cause_by_telling : (kind : LevelKind) (early : Option Cause) (b : List ℕ) (how : Written) → PreCauseBy kind early b how old new → PreCauseBy kind early b how (telling t old) (telling u new)
  pre_cause_by_telling Disk early b how h = pre_cause_telling early b how h
  pre_cause_by_telling Remote early b how h = h

  pre_cause_of_telling : (wrapped : Bool) (kind : LevelKind) (early : Option Cause) (b : List ℕ) (how : Written) → PreCauseOf wrapped kind early b how old new → PreCauseOf wrapped kind early b how (telling t old) (telling u new)
  pre_cause_of_telling true kind early b how h = h
  pre_cause_of_telling false kind early b how h = pre_cause_by_telling kind early b how h

  pub pre_cause_at_telling : (p : Policy) (k b : List ℕ) (how : Written) → PreCauseAt p k b how old new → PreCauseAt p k b how (telling t old) (telling u new)
  pre_cause_at_telling p k b how h = pre_cause_of_telling old.facts.wrapped old.facts.kind (early_cause p old.facts k) b how h

  pub committed_telling : (number : ℕ) (path : List ℕ) (how : Written) (a b : Marks) → (u ≡ true → new.told ≡ true) → MarksCommitted number path how a b new → MarksCommitted number path how a b (telling u new)
  committed_telling number path Done a b later h = record { marked = h.marked; kept = λ told key bytes apart is. h.kept (later told) key bytes apart is; fewer = h.fewer; none = h.none; others = h.others }
  committed_telling number path (Refused c) a b later h = h

pub if_err : {A E : Type 0} {P Q : E → Type 0} (r : Result A E) → ((e : E) → P e → Q e) → IfErr r P → IfErr r Q
if_err (Ok a) f h = tt
if_err (Err e) f h = f e h

pub on_err : {A E : Type 0} {P Q : Type 0} (r : Result A E) → (P → Q) → OnErr r P → OnErr r Q
on_err (Ok a) f h = tt
on_err (Err e) f h = f h
