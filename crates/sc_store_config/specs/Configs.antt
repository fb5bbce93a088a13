-- Which store a configuration makes.
use Rattle.std.specs.Prelude.{◌≡◌, ℕ, suc, Bool, cond, List, [], ◌∷◌, ◌++◌, codes, length, map, Option, Some, None, Result, Ok, Err, ⊤}
use Rattle.std.specs.Char.{to_ascii_lowercase}
use Rattle.std.specs.Option.{option_map}
use Rattle.std.specs.Str.{bytes_eq, trim}
use Rattle.sc_disk.specs.Disks.{DiskState}
use Rattle.sc_store_disk.specs.DiskStores.{unopened_store}
use Rattle.sc_store_disk.specs.Marks.{no_marks}
use Rattle.sc_model.specs.Devices.{Calls}
use Rattle.sc_model.specs.Levels.{Files}
use Rattle.sc_model.specs.declared.level.Policy.{Policy}
use Rattle.sc_model.specs.declared.level.Policy.TheVariants.{Levels, Single}
use Rattle.sc_disk_pair.specs.Twos.{joined_state, joins}
use Rattle.sc_store.specs.Held.{Held, HeldLevel, Names, Reached, as_configured, disk_given, held_of, held_remote, of_disk, remote_given}
use Rattle.sc_store_config.specs.Policies.{chain_policies}
use Rattle.sc_store_config.specs.declared.config_error.ConfigError.{ConfigError}
use Rattle.sc_store_config.specs.declared.config_error.ConfigError.TheVariants.{ConfigFault, NoMemory}
use Rattle.sc_store_config.specs.declared.disk_config.DiskConfig.{DiskConfig}
use Rattle.sc_store_config.specs.declared.remote_config.NamedRemote.{NamedRemote}
use Rattle.sc_store_config.specs.declared.remote_config.RemoteConfig.{RemoteConfig}
use Rattle.sc_store_config.specs.declared.store_config.StoreConfig.{StoreConfig}

-- A remote store as a level: what a remote is called, holds, refused, lost and is called for, and what reached what is behind it, is
-- given by its kind. No local run made anything there.
abbrev pub remote_as : {R : Type 0} → (R → Names) → (R → Option Files) → (R → ℕ) → (R → ℕ) → (R → Option Calls) → (R → Option Reached) → List (List ℕ) → Bool → RemoteConfig R → HeldLevel
remote_as names held faults losses calls reached basedirs unchecked c =
    held_remote (names c.remote) (remote_given basedirs unchecked) (as_configured c.mode) (held c.remote) (faults c.remote) (losses c.remote) (calls c.remote) (reached c.remote) no_marks

-- A disk store as a level. It isn't opened.
abbrev pub disk_as : {D : Type 0} → (D → DiskState) → List (List ℕ) → DiskConfig D → HeldLevel
disk_as state basedirs c =
    of_disk (disk_given basedirs c.use_preprocessor_cache_mode) (unopened_store c.mode c.max_size (joined_state (joins (state c.main) (state c.pre))))

-- whether a name is that of the disk store, in upper or lower case
abbrev pub is_disk : List ℕ → Bool
is_disk name = bytes_eq (map to_ascii_lowercase name) (codes "disk")

-- the first remote of this name
abbrev pub first_named : {R : Type 0} → List ℕ → List (NamedRemote R) → Option (RemoteConfig R)
first_named name [] = None
first_named name (r ∷ rs) = cond (bytes_eq r.name name) (Some r.config) (first_named name rs)

-- all others, in order
abbrev pub without_first : {R : Type 0} → List ℕ → List (NamedRemote R) → List (NamedRemote R)
without_first name [] = []
without_first name (r ∷ rs) = cond (bytes_eq r.name name) rs (r ∷ without_first name rs)

-- where it stands
abbrev pub place_of : {R : Type 0} → List ℕ → List (NamedRemote R) → Option ℕ
place_of name [] = None
place_of name (r ∷ rs) = cond (bytes_eq r.name name) (Some 0) (option_map suc (place_of name rs))

-- the level of this name, where there is a configuration for it
abbrev pub level_named : {R D : Type 0} → (RemoteConfig R → HeldLevel) → (DiskConfig D → HeldLevel) → List ℕ → Option (DiskConfig D) → List (NamedRemote R) → Option HeldLevel
level_named remote_level disk_level name disk remotes =
    cond (is_disk name) (option_map disk_level disk) (option_map remote_level (first_named name remotes))

-- what a level of this name leaves to the levels behind it: a configuration is taken once
abbrev pub disk_behind : {D : Type 0} → List ℕ → Option (DiskConfig D) → Option (DiskConfig D)
disk_behind name disk = cond (is_disk name) None disk

abbrev pub remotes_behind : {R : Type 0} → List ℕ → List (NamedRemote R) → List (NamedRemote R)
remotes_behind name remotes = cond (is_disk name) remotes (without_first name remotes)

-- a level before others; where it has no configuration, its name is the fault
abbrev pub before : List ℕ → Option HeldLevel → Result (List HeldLevel) (List ℕ) → Result (List HeldLevel) (List ℕ)
before name None behind = Err name
before name (Some l) (Ok ls) = Ok (l ∷ ls)
before name (Some l) (Err fault) = Err fault

-- The levels of a chain, in its order, or the first name that has no configuration.
abbrev pub chain_levels : {R D : Type 0} → (RemoteConfig R → HeldLevel) → (DiskConfig D → HeldLevel) → List (List ℕ) → Option (DiskConfig D) → List (NamedRemote R) → Result (List HeldLevel) (List ℕ)
chain_levels remote_level disk_level [] disk remotes = Ok []
chain_levels remote_level disk_level (name ∷ chain) disk remotes =
    before (trim name) (level_named remote_level disk_level (trim name) disk remotes) (chain_levels remote_level disk_level chain (disk_behind (trim name) disk) (remotes_behind (trim name) remotes))

-- the one level of a store without a chain
abbrev pub single_level : {R D : Type 0} → (RemoteConfig R → HeldLevel) → (DiskConfig D → HeldLevel) → Option (RemoteConfig R) → DiskConfig D → HeldLevel
single_level remote_level disk_level (Some remote) fallback = remote_level remote
single_level remote_level disk_level None fallback = disk_level fallback

-- levels under a policy
abbrev pub held_under : Policy → Result (List HeldLevel) (List ℕ) → Result Held (List ℕ)
held_under policy (Ok ls) = Ok (held_of ls policy)
held_under policy (Err fault) = Err fault

-- one level alone
abbrev pub single_store : {R D : Type 0} → (RemoteConfig R → HeldLevel) → (DiskConfig D → HeldLevel) → StoreConfig R D → Held
single_store remote_level disk_level c = held_of (single_level remote_level disk_level c.remote c.fallback ∷ []) Single

-- the levels of a chain
abbrev pub chain_store : {R D : Type 0} → (RemoteConfig R → HeldLevel) → (DiskConfig D → HeldLevel) → StoreConfig R D → Result Held (List ℕ)
chain_store remote_level disk_level c =
    held_under (Levels (chain_policies c.level_policies c.write_error_policy (length c.chain))) (chain_levels remote_level disk_level c.chain c.disk c.remotes)

-- a chain comes before one level alone
abbrev pub chosen : {R D : Type 0} → (RemoteConfig R → HeldLevel) → (DiskConfig D → HeldLevel) → List (List ℕ) → StoreConfig R D → Result Held (List ℕ)
chosen remote_level disk_level [] c = Ok (single_store remote_level disk_level c)
chosen remote_level disk_level (name ∷ chain) c = chain_store remote_level disk_level c

-- The store that a configuration makes, or the name that is at fault.
abbrev pub store_of : {R D : Type 0} → (RemoteConfig R → HeldLevel) → (DiskConfig D → HeldLevel) → StoreConfig R D → Result Held (List ℕ)
store_of remote_level disk_level c = chosen remote_level disk_level c.chain c

-- Why nothing is made: memory may run out at any moment; else a name is at fault.
abbrev pub IsCause : {A : Type 0} → ConfigError → Result A (List ℕ) → Type 0
IsCause NoMemory made = ⊤
IsCause (ConfigFault name) made = made ≡ Err name

-- an error in words
abbrev pub error_text : ConfigError → List ℕ
error_text NoMemory = codes "out of memory"
error_text (ConfigFault name) = codes "Cache level '" ++ name ++ codes "' is not configured"
