-- The levels of a daemon's store.
use Rattle.std.specs.Prelude.{true, List, [], map}
use Rattle.sc_entry.specs.declared.cache_mode.CacheMode.TheVariants.{ReadOnly}
use Rattle.sc_model.specs.declared.level.LevelFacts.{LevelFacts}
use Rattle.sc_model.specs.declared.level.Policy.{Policy}
use Rattle.sc_store.specs.Held.{Held, HeldLevel, Room, held_of}
use Rattle.sc_store.specs.declared.level.Level.{Level}
use Rattle.sc_store.specs.declared.level.Level.TheVariants.{Disk, ReadOnly as IsReadOnly, Remote}
use Rattle.sc_store.specs.declared.read_only.ReadOnlyLevel.{ReadOnlyLevel}
use Rattle.sc_store.specs.declared.read_only.ReadOnlyLevel.TheVariants.{Disk as DiskOnly, Remote as RemoteOnly}

abbrev pub only_read : LevelFacts → LevelFacts
only_read f = record f { wrapped = true; configured = ReadOnly; mode = ReadOnly }

-- A level that is only read takes no put, and what was open in its store can't be reached.
abbrev pub read_only : HeldLevel → HeldLevel
read_only h = record h { facts = only_read h.facts; room = record h.room { entries = [] } }

abbrev pub held_read_only : {R : Type 0} {D : Type 0} {V : Type 0} → ReadOnlyLevel R D V → HeldLevel
held_read_only (RemoteOnly only) = read_only only.store
held_read_only (DiskOnly only) = read_only only.store

abbrev pub held_level : {R : Type 0} {D : Type 0} {V : Type 0} → Level R D V → HeldLevel
held_level (Remote store) = store
held_level (Disk store) = store
held_level (IsReadOnly only) = held_read_only only

abbrev pub held_levels : {R : Type 0} {D : Type 0} {V : Type 0} → List (Level R D V) → Policy → Held
held_levels levels policy = held_of (map held_level levels) policy

abbrev pub rooms_of : {R : Type 0} {D : Type 0} {V : Type 0} → List (Level R D V) → List Room
rooms_of levels = map (λ (h : HeldLevel). h.room) (map held_level levels)
