-- A request that is over makes way for the next; all else of a connection stays.
use Rattle.std.proofs.Common.{◌≡◌, ◌⊎◌, inl, inr, suc, drop, refl}
use Rattle.sc_daemon.specs.Standings.{standing_of}
use Rattle.sc_daemon.specs.declared.standing.Standing.TheVariants.{Ended as HasEnded, Takes}
use Rattle.sc_main.specs.Progress.{held_token}
use Rattle.sc_model.specs.Conns.{Conn, settle}
use Rattle.sc_model.specs.declared.phase.Phase.{Phase}
use Rattle.sc_model.specs.declared.phase.Phase.TheVariants.{AtAsk, AtBegin, AtCommit, AtDist, AtEnd, AtEnded, AtFill, AtFinish, AtKey, AtOver, AtPlace, AtRun, AtSend, AtStarted, AtStore, AtTake, AtWrite, PathAsk, PreAsk, PrePut, RawAsk, SizeAsk}

-- what stays
pub record Same (old new : Conn) : Type 0 where
  pub rest : new.rest ≡ old.rest
  pub got : new.got ≡ old.got
  pub closed : new.closed ≡ old.closed
  pub out : new.out ≡ old.out
  pub long : new.long ≡ old.long

pub settle_same : (k : Conn) (p : Phase) → Same k (settle k p)
settle_same k AtBegin = record { rest = refl; got = refl; closed = refl; out = refl; long = refl }
settle_same k (AtSend a) = record { rest = refl; got = refl; closed = refl; out = refl; long = refl }
settle_same k (AtStarted a) = record { rest = refl; got = refl; closed = refl; out = refl; long = refl }
settle_same k (AtKey a b) = record { rest = refl; got = refl; closed = refl; out = refl; long = refl }
settle_same k (AtAsk a b) = record { rest = refl; got = refl; closed = refl; out = refl; long = refl }
settle_same k (AtPlace a b f) = record { rest = refl; got = refl; closed = refl; out = refl; long = refl }
settle_same k (AtDist a) = record { rest = refl; got = refl; closed = refl; out = refl; long = refl }
settle_same k (AtTake a) = record { rest = refl; got = refl; closed = refl; out = refl; long = refl }
settle_same k (AtRun a) = record { rest = refl; got = refl; closed = refl; out = refl; long = refl }
settle_same k (AtEnd a b f) = record { rest = refl; got = refl; closed = refl; out = refl; long = refl }
settle_same k (AtStore a b f g) = record { rest = refl; got = refl; closed = refl; out = refl; long = refl }
settle_same k (AtWrite a b f g) = record { rest = refl; got = refl; closed = refl; out = refl; long = refl }
settle_same k (AtFill a b f g h) = record { rest = refl; got = refl; closed = refl; out = refl; long = refl }
settle_same k (AtCommit a b f g h) = record { rest = refl; got = refl; closed = refl; out = refl; long = refl }
settle_same k (AtFinish a b) = record { rest = refl; got = refl; closed = refl; out = refl; long = refl }
settle_same k (RawAsk a b) = record { rest = refl; got = refl; closed = refl; out = refl; long = refl }
settle_same k (PathAsk a) = record { rest = refl; got = refl; closed = refl; out = refl; long = refl }
settle_same k (PreAsk a b) = record { rest = refl; got = refl; closed = refl; out = refl; long = refl }
settle_same k (PrePut a b f) = record { rest = refl; got = refl; closed = refl; out = refl; long = refl }
settle_same k (SizeAsk a b f) = record { rest = refl; got = refl; closed = refl; out = refl; long = refl }
settle_same k (AtEnded a) = record { rest = refl; got = refl; closed = refl; out = refl; long = refl }
settle_same k AtOver = record { rest = refl; got = refl; closed = refl; out = refl; long = refl }

-- the first request stays, or was over
pub settle_queue : (k : Conn) (p : Phase) → (((settle k p).queue ≡ k.queue) × ((settle k p).at ≡ k.at)) ⊎ (((settle k p).queue ≡ drop 1 k.queue) × ((settle k p).at ≡ suc k.at) × (held_token (settle k p).phase ≡ 0))
settle_queue k AtBegin = inl (refl, refl)
settle_queue k (AtSend a) = inl (refl, refl)
settle_queue k (AtStarted a) = inl (refl, refl)
settle_queue k (AtKey a b) = inl (refl, refl)
settle_queue k (AtAsk a b) = inl (refl, refl)
settle_queue k (AtPlace a b f) = inl (refl, refl)
settle_queue k (AtDist a) = inl (refl, refl)
settle_queue k (AtTake a) = inl (refl, refl)
settle_queue k (AtRun a) = inl (refl, refl)
settle_queue k (AtEnd a b f) = inl (refl, refl)
settle_queue k (AtStore a b f g) = inl (refl, refl)
settle_queue k (AtWrite a b f g) = inl (refl, refl)
settle_queue k (AtFill a b f g h) = inl (refl, refl)
settle_queue k (AtCommit a b f g h) = inl (refl, refl)
settle_queue k (AtFinish a b) = inl (refl, refl)
settle_queue k (RawAsk a b) = inl (refl, refl)
settle_queue k (PathAsk a) = inl (refl, refl)
settle_queue k (PreAsk a b) = inl (refl, refl)
settle_queue k (PrePut a b f) = inl (refl, refl)
settle_queue k (SizeAsk a b f) = inl (refl, refl)
settle_queue k (AtEnded a) = inl (refl, refl)
settle_queue k AtOver = inr (refl, refl, refl)

-- one that is over holds no token
pub settle_token : (k : Conn) (p : Phase) → held_token (settle k p).phase ≡ held_token p
settle_token k AtBegin = refl
settle_token k (AtSend a) = refl
settle_token k (AtStarted a) = refl
settle_token k (AtKey a b) = refl
settle_token k (AtAsk a b) = refl
settle_token k (AtPlace a b f) = refl
settle_token k (AtDist a) = refl
settle_token k (AtTake a) = refl
settle_token k (AtRun a) = refl
settle_token k (AtEnd a b f) = refl
settle_token k (AtStore a b f g) = refl
settle_token k (AtWrite a b f g) = refl
settle_token k (AtFill a b f g h) = refl
settle_token k (AtCommit a b f g h) = refl
settle_token k (AtFinish a b) = refl
settle_token k (RawAsk a b) = refl
settle_token k (PathAsk a) = refl
settle_token k (PreAsk a b) = refl
settle_token k (PrePut a b f) = refl
settle_token k (SizeAsk a b f) = refl
settle_token k (AtEnded a) = refl
settle_token k AtOver = refl

-- nor does one that waits for one
pub takes_none : (p : Phase) → standing_of p ≡ Takes → held_token p ≡ 0
takes_none AtBegin is_takes = refl
takes_none (AtSend a) is_takes = refl
takes_none (AtStarted a) is_takes = refl
takes_none (AtKey a b) is_takes = refl
takes_none (AtAsk a b) is_takes = refl
takes_none (AtPlace a b f) is_takes = refl
takes_none (AtDist a) is_takes = refl
takes_none (AtTake a) is_takes = refl
takes_none (AtRun a) is_takes = absurd (cc)
takes_none (AtEnd a b f) is_takes = refl
takes_none (AtStore a b f g) is_takes = refl
takes_none (AtWrite a b f g) is_takes = refl
takes_none (AtFill a b f g h) is_takes = refl
takes_none (AtCommit a b f g h) is_takes = refl
takes_none (AtFinish a b) is_takes = refl
takes_none (RawAsk a b) is_takes = refl
takes_none (PathAsk a) is_takes = refl
takes_none (PreAsk a b) is_takes = refl
takes_none (PrePut a b f) is_takes = refl
takes_none (SizeAsk a b f) is_takes = refl
takes_none (AtEnded a) is_takes = refl
takes_none AtOver is_takes = refl

-- nor one that was stopped
pub ended_none : (p : Phase) → standing_of p ≡ HasEnded → held_token p ≡ 0
ended_none AtBegin is_ended = refl
ended_none (AtSend a) is_ended = refl
ended_none (AtStarted a) is_ended = refl
ended_none (AtKey a b) is_ended = refl
ended_none (AtAsk a b) is_ended = refl
ended_none (AtPlace a b f) is_ended = refl
ended_none (AtDist a) is_ended = refl
ended_none (AtTake a) is_ended = refl
ended_none (AtRun a) is_ended = absurd (cc)
ended_none (AtEnd a b f) is_ended = refl
ended_none (AtStore a b f g) is_ended = refl
ended_none (AtWrite a b f g) is_ended = refl
ended_none (AtFill a b f g h) is_ended = refl
ended_none (AtCommit a b f g h) is_ended = refl
ended_none (AtFinish a b) is_ended = refl
ended_none (RawAsk a b) is_ended = refl
ended_none (PathAsk a) is_ended = refl
ended_none (PreAsk a b) is_ended = refl
ended_none (PrePut a b f) is_ended = refl
ended_none (SizeAsk a b f) is_ended = refl
ended_none (AtEnded a) is_ended = refl
ended_none AtOver is_ended = refl
