-- What a served event is, and what is due at a phase.
use Rattle.std.proofs.Common.{◌≡◌, ℕ, List, [], ◌∷◌, refl}
use Rattle.sc_daemon_action.specs.Hands.{IsOwn}
use Rattle.sc_daemon.specs.Says.{SaysCounted}
use Rattle.sc_daemon.specs.Standings.{standing_of}
use Rattle.sc_daemon.specs.declared.standing.Standing.TheVariants.{Ended as HasEnded, Takes}
use Rattle.sc_model.specs.Dues.{Due, ToReserve, ToTake, ToWrite, start_write}
use Rattle.sc_model.specs.DueAt.{due_at}
use Rattle.sc_model.specs.Machine.{Machine, Says}
use Rattle.sc_model.specs.Next.{Ended, ticked}
use Rattle.sc_model.specs.Plan.{level_facts}
use Rattle.sc_model.specs.Script.{Setup}
use Rattle.sc_model.specs.declared.event.Answer.{Answer}
use Rattle.sc_model.specs.declared.event.Answer.TheVariants.{Found, Hit, Miss, Refused, Size as SizeIs}
use Rattle.sc_model.specs.declared.event.Mode.{Mode}
use Rattle.sc_model.specs.declared.event.Mode.TheVariants.{Path, Pre, Raw, Size as Sizes, Whole}
use Rattle.sc_model.specs.declared.event.Told.{Told}
use Rattle.sc_model.specs.declared.event.Told.TheVariants.{Compile as TellsCompile, Dist as TellsDist, Handshake as TellsHandshake, Nothing as TellsNothing, Stats as TellsStats, Valid as TellsValid}
use Rattle.sc_model.specs.declared.event.What.{What}
use Rattle.sc_model.specs.declared.event.What.TheVariants.{Asked, Began, Closed, Committed, Dist, Filled, Idle, Keyed, Outcome, Passed, Placed, Ran, Reserved, Sent, Taken, TokenTaken, TooLong, WriteEnded, Wrote}
use Rattle.sc_model.specs.declared.level.Handed.{Handed}
use Rattle.sc_model.specs.declared.level.LevelKind.{LevelKind}
use Rattle.sc_model.specs.declared.level.LevelKind.TheVariants.{Disk, Remote}
use Rattle.sc_model.specs.declared.message.Request.{Request}
use Rattle.sc_model.specs.declared.phase.Bytes.{Bytes}
use Rattle.sc_model.specs.declared.phase.Phase.{Phase}
use Rattle.sc_model.specs.declared.phase.Phase.TheVariants.{AtAsk, AtBegin, AtCommit, AtDist, AtEnd, AtEnded, AtFill, AtFinish, AtKey, AtOver, AtPlace, AtRun, AtSend, AtStarted, AtStore, AtTake, AtWrite, PathAsk, PreAsk, PrePut, RawAsk, SizeAsk}

-- time stands still
pub ticked_own : (n : ℕ) (x : What) → IsOwn x → ticked n x ≡ n
ticked_own n Idle own = refl
ticked_own n (Passed a) own = absurd own
ticked_own n (Taken a b) own = refl
ticked_own n (Closed a) own = refl
ticked_own n (Began a b) own = refl
ticked_own n (Keyed a b d) own = refl
ticked_own n (Asked a b d f g) own = refl
ticked_own n (Placed a) own = refl
ticked_own n TokenTaken own = refl
ticked_own n (Ran a) own = refl
ticked_own n (Dist a) own = refl
ticked_own n (Outcome a b) own = refl
ticked_own n (Reserved a b d f) own = refl
ticked_own n (Filled a b d f g) own = refl
ticked_own n (Committed a b d f) own = refl
ticked_own n (Wrote a b d f g h) own = refl
ticked_own n (WriteEnded a b) own = refl
ticked_own n (Sent a) own = refl
ticked_own n (TooLong a) own = refl

says_told : (s : Setup) (m : Machine) (q : Request) (told : Told) → SaysCounted s.policy m.stats m.level_stats (Began q told) → Says s m (Began q told)
says_told s m q (TellsCompile p) says = tt
says_told s m q (TellsStats stats) says = says
says_told s m q (TellsDist info) says = tt
says_told s m q (TellsHandshake info) says = tt
says_told s m q (TellsValid v) says = tt
says_told s m q TellsNothing says = tt

says_size : (s : Setup) (m : Machine) (l : ℕ) (k : List ℕ) (a : Answer) (hs : List Handed) → SaysCounted s.policy m.stats m.level_stats (Asked l k Sizes a hs) → Says s m (Asked l k Sizes a hs)
says_size s m l k (Hit b mark) hs says = tt
says_size s m l k Miss hs says = tt
says_size s m l k (Refused c) hs says = tt
says_size s m l k (Found p) hs says = tt
says_size s m l k (SizeIs n c) hs says = says

says_asked : (s : Setup) (m : Machine) (l : ℕ) (k : List ℕ) (mode : Mode) (a : Answer) (hs : List Handed) → SaysCounted s.policy m.stats m.level_stats (Asked l k mode a hs) → Says s m (Asked l k mode a hs)
says_asked s m l k Whole a hs says = tt
says_asked s m l k Raw a hs says = tt
says_asked s m l k Path a hs says = tt
says_asked s m l k Pre a hs says = tt
says_asked s m l k Sizes a hs says = says_size s m l k a hs says

-- what is told of others' events is what the machine has counted
pub says_counted : (s : Setup) (m : Machine) (x : What) → SaysCounted s.policy m.stats m.level_stats x → Says s m x
says_counted s m Idle says = tt
says_counted s m (Passed a) says = tt
says_counted s m (Taken a b) says = tt
says_counted s m (Closed a) says = tt
says_counted s m (Began q told) says = says_told s m q told says
says_counted s m (Keyed a b d) says = tt
says_counted s m (Asked l k mode a hs) says = says_asked s m l k mode a hs says
says_counted s m (Placed a) says = tt
says_counted s m TokenTaken says = tt
says_counted s m (Ran a) says = tt
says_counted s m (Dist a) says = tt
says_counted s m (Outcome a b) says = tt
says_counted s m (Reserved a b d f) says = tt
says_counted s m (Filled a b d f g) says = tt
says_counted s m (Committed a b d f) says = tt
says_counted s m (Wrote a b d f g h) says = tt
says_counted s m (WriteEnded a b) says = tt
says_counted s m (Sent a) says = tt
says_counted s m (TooLong a) says = tt

-- what is due where a write part goes on
starts_write : (d : Due → Type 0) (kind : LevelKind) (l : ℕ) (b : Bytes) → d (ToReserve l b) → d (ToWrite Whole l b) → d (start_write kind l b)
starts_write d Disk l b disk remote = disk
starts_write d Remote l b disk remote = remote

abbrev Never_take : Due → Type 0
Never_take d = d ≡ ToTake → ⊥

abbrev Never_ended : Due → Type 0
Never_ended d = Ended d → ⊥

-- a token is due where one is taken
pub takes_due : (s : Setup) (r : Request) (p : Phase) → standing_of p ≡ Takes → due_at s r p ≡ ToTake
takes_due s r AtBegin is_takes = absurd (cc)
takes_due s r (AtSend a) is_takes = absurd (cc)
takes_due s r (AtStarted a) is_takes = absurd (cc)
takes_due s r (AtKey a b) is_takes = absurd (cc)
takes_due s r (AtAsk a b) is_takes = absurd (cc)
takes_due s r (AtPlace a b d) is_takes = absurd (cc)
takes_due s r (AtDist a) is_takes = absurd (cc)
takes_due s r (AtTake a) is_takes = refl
takes_due s r (AtRun a) is_takes = absurd (cc)
takes_due s r (AtEnd a b d) is_takes = absurd (cc)
takes_due s r (AtStore a b d f) is_takes = absurd (cc)
takes_due s r (AtWrite a b d f) is_takes = absurd (cc)
takes_due s r (AtFill a b d f g) is_takes = absurd (cc)
takes_due s r (AtCommit a b d f g) is_takes = absurd (cc)
takes_due s r (AtFinish a b) is_takes = absurd (cc)
takes_due s r (RawAsk a b) is_takes = absurd (cc)
takes_due s r (PathAsk a) is_takes = absurd (cc)
takes_due s r (PreAsk a b) is_takes = absurd (cc)
takes_due s r (PrePut a b d) is_takes = absurd (cc)
takes_due s r (SizeAsk a b d) is_takes = absurd (cc)
takes_due s r (AtEnded a) is_takes = absurd (cc)
takes_due s r AtOver is_takes = absurd (cc)

pub due_takes : (s : Setup) (r : Request) (p : Phase) → due_at s r p ≡ ToTake → standing_of p ≡ Takes
due_takes s r AtBegin is_due = absurd (cc)
due_takes s r (AtSend a) is_due = absurd (cc)
due_takes s r (AtStarted a) is_due = absurd (cc)
due_takes s r (AtKey a b) is_due = absurd (cc)
due_takes s r (AtAsk a b) is_due = absurd (cc)
due_takes s r (AtPlace a b d) is_due = absurd (cc)
due_takes s r (AtDist a) is_due = absurd (cc)
due_takes s r (AtTake a) is_due = refl
due_takes s r (AtRun a) is_due = absurd (cc)
due_takes s r (AtEnd a b d) is_due = absurd (cc)
due_takes s r (AtStore a b d f) is_due = absurd (cc)
due_takes s r (AtWrite b [] f e) is_due = absurd (cc)
due_takes s r (AtWrite b (l ∷ ls) f e) is_due = absurd (starts_write Never_take ((level_facts s.levels l).kind) l b (λ h. absurd (cc)) (λ h. absurd (cc)) is_due)
due_takes s r (AtFill a b d f g) is_due = absurd (cc)
due_takes s r (AtCommit a b d f g) is_due = absurd (cc)
due_takes s r (AtFinish a b) is_due = absurd (cc)
due_takes s r (RawAsk a b) is_due = absurd (cc)
due_takes s r (PathAsk a) is_due = absurd (cc)
due_takes s r (PreAsk a b) is_due = absurd (cc)
due_takes s r (PrePut b [] f) is_due = absurd (cc)
due_takes s r (PrePut b (l ∷ ls) f) is_due = absurd (cc)
due_takes s r (SizeAsk a b d) is_due = absurd (cc)
due_takes s r (AtEnded a) is_due = absurd (cc)
due_takes s r AtOver is_due = absurd (cc)

-- nothing more is due where a reply was too long
pub ended_due : (s : Setup) (r : Request) (p : Phase) → standing_of p ≡ HasEnded → Ended (due_at s r p)
ended_due s r AtBegin is_ended = absurd (cc)
ended_due s r (AtSend a) is_ended = absurd (cc)
ended_due s r (AtStarted a) is_ended = absurd (cc)
ended_due s r (AtKey a b) is_ended = absurd (cc)
ended_due s r (AtAsk a b) is_ended = absurd (cc)
ended_due s r (AtPlace a b d) is_ended = absurd (cc)
ended_due s r (AtDist a) is_ended = absurd (cc)
ended_due s r (AtTake a) is_ended = absurd (cc)
ended_due s r (AtRun a) is_ended = absurd (cc)
ended_due s r (AtEnd a b d) is_ended = absurd (cc)
ended_due s r (AtStore a b d f) is_ended = absurd (cc)
ended_due s r (AtWrite a b d f) is_ended = absurd (cc)
ended_due s r (AtFill a b d f g) is_ended = absurd (cc)
ended_due s r (AtCommit a b d f g) is_ended = absurd (cc)
ended_due s r (AtFinish a b) is_ended = absurd (cc)
ended_due s r (RawAsk a b) is_ended = absurd (cc)
ended_due s r (PathAsk a) is_ended = absurd (cc)
ended_due s r (PreAsk a b) is_ended = absurd (cc)
ended_due s r (PrePut a b d) is_ended = absurd (cc)
ended_due s r (SizeAsk a b d) is_ended = absurd (cc)
ended_due s r (AtEnded a) is_ended = tt
ended_due s r AtOver is_ended = absurd (cc)

pub due_ended : (s : Setup) (r : Request) (p : Phase) → Ended (due_at s r p) → standing_of p ≡ HasEnded
due_ended s r AtBegin is_ended = absurd is_ended
due_ended s r (AtSend a) is_ended = absurd is_ended
due_ended s r (AtStarted a) is_ended = absurd is_ended
due_ended s r (AtKey a b) is_ended = absurd is_ended
due_ended s r (AtAsk a b) is_ended = absurd is_ended
due_ended s r (AtPlace a b d) is_ended = absurd is_ended
due_ended s r (AtDist a) is_ended = absurd is_ended
due_ended s r (AtTake a) is_ended = absurd is_ended
due_ended s r (AtRun a) is_ended = absurd is_ended
due_ended s r (AtEnd a b d) is_ended = absurd is_ended
due_ended s r (AtStore a b d f) is_ended = absurd is_ended
due_ended s r (AtWrite b [] f e) is_ended = absurd is_ended
due_ended s r (AtWrite b (l ∷ ls) f e) is_ended = absurd (starts_write Never_ended ((level_facts s.levels l).kind) l b (λ h. h) (λ h. h) is_ended)
due_ended s r (AtFill a b d f g) is_ended = absurd is_ended
due_ended s r (AtCommit a b d f g) is_ended = absurd is_ended
due_ended s r (AtFinish a b) is_ended = absurd is_ended
due_ended s r (RawAsk a b) is_ended = absurd is_ended
due_ended s r (PathAsk a) is_ended = absurd is_ended
due_ended s r (PreAsk a b) is_ended = absurd is_ended
due_ended s r (PrePut b [] f) is_ended = absurd is_ended
due_ended s r (PrePut b (l ∷ ls) f) is_ended = absurd is_ended
due_ended s r (SizeAsk a b d) is_ended = absurd is_ended
due_ended s r (AtEnded a) is_ended = refl
due_ended s r AtOver is_ended = absurd is_ended
