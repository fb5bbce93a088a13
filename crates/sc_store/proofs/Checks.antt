-- A check, which may be two calls of a device.
use Rattle.std.proofs.Common.{◌≡◌, Bool, false, Option, Result, IfOk, subst, sym}
use Rattle.sc_entry.specs.declared.memory.NoMemory.{NoMemory}
use Rattle.sc_model.specs.Levels.{Level}
use Rattle.sc_model.specs.declared.level.LevelFacts.{LevelFacts}
use Rattle.sc_model.specs.declared.level.LevelKind.{LevelKind}
use Rattle.sc_model.specs.declared.level.LevelKind.TheVariants.{Remote}
use Rattle.sc_model.specs.declared.level.RemoteFault.{RemoteFault}
use Rattle.sc_store.specs.Checking.{Checks, ChecksBy, ChecksRemote, Finds, Probes, ReadsCheck, refusal_of}
use Rattle.sc_store.specs.Held.{HeldLevel}
use Rattle.sc_store.specs.declared.checked.Checked.{Checked}
use Rattle.sc_store.specs.declared.remote.RemoteRead.{RemoteRead}
use Rattle.sc_store.proofs.Alone.{if_ok}

module _ (old between : HeldLevel) (now : Level) (read : RemoteRead) (refusal : Option RemoteFault) where
  -- a read, and what follows it
  pub probes : (r : Result Checked NoMemory) → refusal ≡ refusal_of read → between.facts ≡ old.facts → between.told ≡ old.told → ReadsCheck read old.told old.level between.level
      → IfOk r (λ answer. Finds refusal between.facts.configured answer between.told between.level now) → IfOk r (λ answer. Probes old.facts.configured answer old.told old.level now)
  probes r is facts told reads = if_ok r (λ answer finds. (
    read,
    between.level,
    reads,
    subst (λ (f : Option RemoteFault). Finds f old.facts.configured answer old.told between.level now) is
        (subst (λ (t : Bool). Finds refusal old.facts.configured answer t between.level now) told (subst (λ (f : LevelFacts). Finds refusal f.configured answer between.told between.level now) facts finds)),
  ))

-- the check of a remote store that isn't left out
pub checks_probed : (old : HeldLevel) (found answer : Checked) (after now : Level) → old.facts.wrapped ≡ false → old.facts.kind ≡ Remote → old.title.given.unchecked ≡ false → found ≡ answer → after ≡ now → Probes old.facts.configured found old.told old.level after
    → ChecksBy old.facts.wrapped old.facts old.title.given.unchecked answer old.told old.level now
checks_probed old found answer after now bare kind checked is at probed =
    subst (λ (w : Bool). ChecksBy w old.facts old.title.given.unchecked answer old.told old.level now) (sym bare) (subst (λ (k : LevelKind). Checks old.facts k old.title.given.unchecked answer old.told old.level now) (sym kind)
    (subst (λ (b : Bool). ChecksRemote b old.facts.configured answer old.told old.level now) (sym checked)
    (subst (λ (a : Checked). Probes old.facts.configured a old.told old.level now) is (subst (λ (v : Level). Probes old.facts.configured found old.told old.level v) at probed))))
