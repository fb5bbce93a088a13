-- The reply frames that a request is owed so far.
use Rattle.std.specs.Prelude.{ℕ, suc, Bool, true, false, if◌then◌else◌, List, [], ◌∷◌, ◌++◌, length, Some, None, Ok, Err, codes, nat_lt}
use Rattle.sc_model.specs.Afterwards.{notes_then, with_size}
use Rattle.sc_model.specs.Describing.{server_info, stats_reply}
use Rattle.sc_model.specs.Dues.{is_disk_alone, left_pre}
use Rattle.sc_model.specs.Finishing.{finish, notes_of}
use Rattle.sc_model.specs.Job.{At, Own, refused, sized, stats_of}
use Rattle.sc_model.specs.Plan.{cause_text, pre_plan, pre_put_result, put_result}
use Rattle.sc_model.specs.Script.{Setup}
use Rattle.sc_model.specs.declared.event.Answer.{Answer}
use Rattle.sc_model.specs.declared.event.Answer.TheVariants.{Found as FoundAt, Hit, Refused}
use Rattle.sc_model.specs.declared.event.Mode.{Mode}
use Rattle.sc_model.specs.declared.event.Mode.TheVariants.{Path, Pre, Raw, Size as Sizes, Whole}
use Rattle.sc_model.specs.declared.event.Parsed.{Parsed}
use Rattle.sc_model.specs.declared.event.Parsed.TheVariants.{CannotCache, NotCompile, Started, Unsupported}
use Rattle.sc_model.specs.declared.event.Told.{Told}
use Rattle.sc_model.specs.declared.event.Told.TheVariants.{Compile as TellsCompile, Dist as TellsDist, Handshake as TellsHandshake, Nothing as TellsNothing, Stats as TellsStats, Valid as TellsValid}
use Rattle.sc_model.specs.declared.event.Verdict.{Verdict}
use Rattle.sc_model.specs.declared.event.Verdict.TheVariants.{CacheMiss}
use Rattle.sc_model.specs.declared.event.What.{What}
use Rattle.sc_model.specs.declared.event.What.TheVariants.{Asked, Began, Outcome, WriteEnded, Wrote}
use Rattle.sc_model.specs.declared.level.Put.{Put}
use Rattle.sc_model.specs.declared.message.CompileResponse.TheVariants.{CompileStarted, UnhandledCompile, UnsupportedCompiler}
use Rattle.sc_entry.specs.declared.get_path_result.GetPathResult.TheVariants.{Found as PathFound, Miss as PathMiss, Unsupported as PathUnsupported}
use Rattle.sc_model.specs.declared.message.Request.{Request}
use Rattle.sc_model.specs.declared.message.Request.TheVariants.{Compile, DistStatus, GetStats, RecordStats, Shutdown, StorageGetPath as GetPath, StorageGetPreprocessorEntry as GetPre, StorageGetRaw as GetRaw, StorageHandshake as Handshake, StoragePutPreprocessorEntry as PutPre, ZeroStats}
use Rattle.sc_model.specs.declared.message.Response.{Response}
use Rattle.sc_model.specs.declared.message.Response.TheVariants.{Compile as Answered, DistStatus as DistTold, RecordStats as Recorded, ShuttingDown, Stats as Counted, StorageGetPath as PathReply, StorageGetPreprocessorEntry as PreReply, StorageGetRaw as RawReply, StorageHandshake as Shaken, StoragePutPreprocessorEntry as PrePutReply, StoragePutRaw as PutReply, ZeroStats as Zeroed}
use Rattle.sc_model.specs.declared.phase.Refusal.{Refusal}
use Rattle.sc_model.specs.declared.phase.Refusal.TheVariants.{NoneYet}

abbrev pub if_last : Setup → ℕ → List Response → List Response
if_last s l last = if nat_lt (suc l) (length s.levels) then [] else last

abbrev pub if_none : Setup → List Response → List Response
if_none s last = if nat_lt 0 (length s.levels) then [] else last

abbrev pub begun_frames : Parsed → List Response
begun_frames (Started task) = Answered CompileStarted ∷ []
begun_frames NotCompile = Answered UnhandledCompile ∷ []
begun_frames (CannotCache why extra) = Answered UnhandledCompile ∷ []
begun_frames (Unsupported text) = Answered (UnsupportedCompiler text) ∷ []

abbrev pub pre_put_frames : Setup → Refusal → List ℕ → List Response
pre_put_frames s r [] = PrePutReply (pre_put_result s.policy r) ∷ []
pre_put_frames s r (l ∷ ls) = []

abbrev pub pre_frames : Setup → Bool → List Response
pre_frames s true = pre_put_frames s NoneYet (pre_plan s.policy s.levels)
pre_frames s false = PrePutReply (Err (codes "bad preprocessor entry")) ∷ []

abbrev pub began_frames : Setup → Request → Told → List Response
began_frames s (Compile c) (TellsCompile p) = begun_frames p
began_frames s (GetRaw k) _ = if_none s (RawReply None ∷ [])
began_frames s (GetPath k) _ = if is_disk_alone s.policy s.levels then [] else PathReply PathUnsupported ∷ []
began_frames s (GetPre k) _ = if_none s (PreReply (Ok None) ∷ [])
began_frames s (PutPre k b) (TellsValid v) = pre_frames s v
began_frames s GetStats (TellsStats stats) = if_none s (Counted (server_info s stats []) ∷ [])
began_frames s Shutdown (TellsStats stats) = if_none s (ShuttingDown (server_info s stats []) ∷ [])
began_frames s DistStatus (TellsDist info) = DistTold info ∷ []
began_frames s Handshake (TellsHandshake info) = Shaken info ∷ []
began_frames s ZeroStats TellsNothing = Zeroed ∷ []
began_frames s (RecordStats stats) TellsNothing = Recorded ∷ []
began_frames s _ _ = []

abbrev pub asked_frames : Setup → Request → List Own → ℕ → Mode → Answer → List Response
asked_frames s r own l Whole a = []
asked_frames s r own l Raw (Hit b mark) = RawReply (Some b) ∷ []
asked_frames s r own l Raw _ = if_last s l (RawReply None ∷ [])
asked_frames s r own l Path (FoundAt p) = PathReply (PathFound p) ∷ []
asked_frames s r own l Path _ = PathReply PathMiss ∷ []
asked_frames s r own l Pre (Hit b mark) = PreReply (Ok (Some b)) ∷ []
asked_frames s r own l Pre (Refused c) = PreReply (Err (cause_text c)) ∷ []
asked_frames s r own l Pre _ = if_last s l (PreReply (Ok None) ∷ [])
asked_frames s r own l Sizes a = if_last s l (stats_reply r (server_info s (stats_of own) (with_size (sized own) a)) ∷ [])

abbrev pub outcome_frames : Setup → Request → List Own → Verdict → List Response
outcome_frames s r own (CacheMiss miss dist d) = []
outcome_frames s r own _ = notes_then (notes_of s r own) (finish s r own)

abbrev pub written_frames : Setup → Request → List Own → Put → List Response
written_frames s (Compile c) own put = notes_then (notes_of s (Compile c) own) (finish s (Compile c) own)
written_frames s _ own put = PutReply (put_result put) ∷ []

-- the frames that an event makes due
abbrev pub owed_by : Setup → Request → List Own → ℕ → What → List Response
owed_by s r own m (Began q told) = began_frames s r told
owed_by s r own m (Asked l k mode a hs) = asked_frames s r own l mode a
owed_by s r own m (Outcome v task) = outcome_frames s r own v
owed_by s r own m (Wrote l k b Pre mark w) = pre_put_frames s (refused (At m (Wrote l k b Pre mark w) ∷ own)) (left_pre s (At m (Wrote l k b Pre mark w) ∷ own))
owed_by s r own m (WriteEnded put hs) = written_frames s r own put
owed_by s r own m _ = []

abbrev pub frames : Setup → Request → List Own → List Response
frames s r [] = []
frames s r (At m x ∷ own) = frames s r own ++ owed_by s r own m x
