-- The first request of a connection.
use Rattle.std.proofs.Common.{◌≡◌, List, [], ◌∷◌, drop, Some, ap}
use Rattle.sc_daemon.specs.Lines.{Line, conn_of, first_of}
use Rattle.sc_model.specs.Conns.{current}
use Rattle.sc_model.specs.Trace.{request}
use Rattle.sc_model.specs.declared.message.Request.{Request}

pub first_rest : (w : List Request) (r : Request) → Some r ≡ first_of w → w ≡ r ∷ drop 1 w
first_rest [] r e = absurd (cc)
first_rest (x ∷ w) r e = let same : x ≡ r = cc in ap (λ (y : Request). y ∷ w) same

pub current_is : (l : Line) (r : Request) (rest : List Request) → l.waiting ≡ r ∷ rest → current (conn_of l) ≡ r
current_is l r rest e = ap (λ (w : List Request). request w 0) e
