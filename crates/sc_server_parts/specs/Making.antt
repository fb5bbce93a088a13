-- What a daemon over commands and folders is made of.
use Rattle.std.specs.Prelude.{ℕ, List, [], ◌∷◌, codes, None}
use Rattle.sc_compile_dist.specs.Containers.{Contained}
use Rattle.sc_daemon_owned.specs.Facts.{DistTold}
use Rattle.sc_daemon_owned.specs.State.{told_by, world_of}
use Rattle.sc_disk.specs.Disks.{DiskState}
use Rattle.sc_disk_pair.specs.Twos.{joined_state, joins}
use Rattle.sc_entry.specs.declared.cache_mode.CacheMode.TheVariants.{ReadWrite}
use Rattle.sc_model.specs.World.{World}
use Rattle.sc_model.specs.declared.level.DistClientState.TheVariants.{Disabled}
use Rattle.sc_model.specs.declared.level.Policy.TheVariants.{Single}
use Rattle.sc_store.specs.Held.{Held, held_of, nothing_given, of_disk}
use Rattle.sc_store_disk.specs.DiskStores.{unopened_store}

-- One store, on these disks, that may be read and written and has this capacity. It was not opened yet.
abbrev pub one_level : ℕ → DiskState → DiskState → Held
one_level capacity main pre = held_of (of_disk nothing_given (unopened_store ReadWrite capacity (joined_state (joins main pre))) ∷ []) Single

-- why nothing is compiled on other machines
abbrev pub no_dist_text : List ℕ
no_dist_text = codes "no distributed client"

-- a distributed client that is never asked, and tells nothing
abbrev pub no_dist : Contained
no_dist = record { url = None; state = Disabled; jobs = None; lines = None; status = None; makings = None; client_faults = 0; maker_faults = 0 }

abbrev pub no_dist_told : DistTold
no_dist_told = told_by no_dist

-- What a daemon's parts hold as it is made: its levels what they do, and its workshop this count of faults.
abbrev pub first_world : Held → ℕ → World
first_world levels faults = world_of 0 levels None None faults no_dist
