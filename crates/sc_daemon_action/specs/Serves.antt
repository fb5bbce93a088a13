-- The phases that a request can stand at.
use Rattle.std.specs.Prelude.{◌≡◌, ◌<◌, true, length, Option, Some, None}
use Rattle.sc_model.specs.Dues.{is_disk_alone}
use Rattle.sc_model.specs.There.{AreLevels}
use Rattle.sc_daemon_hold.specs.Beginning.{TellsStatistics}
use Rattle.sc_daemon_job.specs.Setups.{Config}
use Rattle.sc_model.specs.declared.message.Request.{Request}
use Rattle.sc_model.specs.declared.message.Request.TheVariants.{Compile, StorageGetPath, StorageGetPreprocessorEntry, StorageGetRaw, StoragePutPreprocessorEntry, StoragePutRaw}
use Rattle.sc_model.specs.declared.phase.Ending.{Ending}
use Rattle.sc_model.specs.declared.phase.Phase.{Phase}
use Rattle.sc_model.specs.declared.phase.Phase.TheVariants.{AtAsk, AtBegin, AtDist, AtEnd, AtEnded, AtFinish, AtKey, AtOver, AtPlace, AtRun, AtSend, AtStarted, AtStore, AtTake, AtWrite, PathAsk, PreAsk, PrePut, RawAsk, SizeAsk}

abbrev pub IsCompile : Request → Type 0
IsCompile (Compile c) = Unit {0}
IsCompile _ = ⊥

abbrev pub IsGetRaw : Request → Type 0
IsGetRaw (StorageGetRaw k) = Unit {0}
IsGetRaw _ = ⊥

abbrev pub IsGetPath : Request → Type 0
IsGetPath (StorageGetPath k) = Unit {0}
IsGetPath _ = ⊥

abbrev pub IsGetPre : Request → Type 0
IsGetPre (StorageGetPreprocessorEntry k) = Unit {0}
IsGetPre _ = ⊥

abbrev pub IsPutPre : Request → Type 0
IsPutPre (StoragePutPreprocessorEntry k b) = Unit {0}
IsPutPre _ = ⊥

-- a compile's write has its ending behind it, another's has none
abbrev pub IsWriter : Request → Option Ending → Type 0
IsWriter (Compile c) (Some ending) = Unit {0}
IsWriter (StoragePutRaw k b) None = Unit {0}
IsWriter r ending = ⊥

-- What can be gone on with where no entry of a disk level is held: every phase but those after the last reply.
abbrev pub Serves : Config → Phase → Request → Type 0
Serves k AtBegin r = Unit {0}
Serves k (AtSend f) r = Unit {0}
Serves k (AtStarted task) r = IsCompile r
Serves k (AtKey task first) r = IsCompile r
Serves k (AtAsk job l) r = IsCompile r × (l < length k.levels)
Serves k (AtPlace job b d) r = IsCompile r
Serves k (AtDist work) r = IsCompile r
Serves k (AtTake work) r = IsCompile r
Serves k (AtRun work) r = IsCompile r
Serves k (AtEnd v task ending) r = IsCompile r
Serves k (AtStore v task b ending) r = IsCompile r
Serves k (AtWrite b ls f ending) r = AreLevels (length k.levels) ls × IsWriter r ending
Serves k (AtFinish ns last) r = IsCompile r
Serves k (RawAsk l key) r = IsGetRaw r × (l < length k.levels)
Serves k (PathAsk key) r = IsGetPath r × (is_disk_alone k.policy k.levels ≡ true)
Serves k (PreAsk l key) r = IsGetPre r × (l < length k.levels)
Serves k (PrePut b ls f) r = IsPutPre r × AreLevels (length k.levels) ls
Serves k (SizeAsk l stats zs) r = TellsStatistics r × (l < length k.levels)
Serves k _ r = ⊥

-- What a connection may stand at: also where a reply was too long.
abbrev pub Stands : Config → Phase → Request → Type 0
Stands k (AtEnded left) r = Unit {0}
Stands k AtOver r = Unit {0}
Stands k p r = Serves k p r
