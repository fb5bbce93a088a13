-- The last lookup of a request: what it hit lay there rightfully.
use Rattle.std.proofs.Common.{ℕ, ◌==◌, ◌&&◌, Bool, true, false, cond, inl, inr, List, [], ◌∷◌, subst}
use Rattle.sc_model.specs.Headline.{Carries, CarriesBy, Each, HasHit, Hits, IsRightful, LastHit, LastHitBy, is_of}
use Rattle.sc_model.specs.Job.{At, Own, job_of}
use Rattle.sc_model.specs.Origin.{Origin}
use Rattle.sc_model.specs.Script.{Script}
use Rattle.sc_model.specs.Trace.{Came, Did, Shut, about, all, mine, owned, request}
use Rattle.sc_model.specs.World.{World}
use Rattle.sc_model.specs.declared.event.Answer.TheVariants.{Hit}
use Rattle.sc_model.specs.declared.event.Event.{Event}
use Rattle.sc_model.specs.declared.event.Mode.TheVariants.{Whole}
use Rattle.sc_model.specs.declared.event.Owner.{Owner}
use Rattle.sc_model.specs.declared.event.Owner.TheVariants.{Nobody, Request as OfRequest, Write as OfWrite}
use Rattle.sc_model.specs.declared.event.What.{What}
use Rattle.sc_model.specs.declared.event.What.TheVariants.{Asked, Closed, Taken}
use Rattle.sc_model.specs.declared.message.CompileFinished.{CompileFinished}

module _ (s : Script) (start : World) (c n : ℕ) (k b : List ℕ) where
  -- an event of the request itself
  own_hit : (t : List Event) (x : What) (m : ℕ) (own : List Own) (rest : Type 0) → (HasHit k b own → rest) → Hits s start t x → HasHit k b (At m x ∷ own) → LastHitBy s start k b t true x rest
  own_hit t (Asked l i Whole (Hit d mark) hs) m own rest ih r h = (h.0, h.1, subst (λ v. Origin s start t l v b) h.0 (subst (λ v. Origin s start t l i v) h.1 r))
  own_hit t (Asked l i Whole _ hs) m own rest ih r h = absurd h
  own_hit t (Asked l i _ a hs) m own rest ih r h = absurd h
  own_hit t _ m own rest ih r h = ih h

  request_hit : (t : List Event) (j m : ℕ) (x : What) (rest : Type 0) → (HasHit k b (owned n (about c t)) → rest) → Hits s start t x → (p : Bool) → HasHit k b (owned n (cond p (Did j m x ∷ about c t) (about c t))) → LastHitBy s start k b t (p && (j == n)) x rest
  request_hit t j m x rest ih r false h = ih h
  request_hit t j m x rest ih r true h = inner (j == n) h
    where
      inner : (q : Bool) → HasHit k b (cond q (At m x ∷ owned n (about c t)) (owned n (about c t))) → LastHitBy s start k b t q x rest
      inner true g = own_hit t x m (owned n (about c t)) rest ih r g
      inner false g = ih g

  event_hit : (t : List Event) (o : Owner) (m : ℕ) (x : What) (rest : Type 0) → (HasHit k b (owned n (about c t)) → rest) → Hits s start t x → HasHit k b (owned n (mine c o m x (about c t))) → LastHitBy s start k b t (is_of c n o) x rest
  event_hit t (OfRequest d j) m x rest ih r h = request_hit t j m x rest ih r (d == c) h
  event_hit t (OfWrite i) m x rest ih r h = ih h
  event_hit t Nobody m (Taken d bytes) rest ih r h = came (d == c) h
    where
      came : (p : Bool) → HasHit k b (owned n (cond p (Came bytes ∷ about c t) (about c t))) → rest
      came true g = ih g
      came false g = ih g
  event_hit t Nobody m (Closed d) rest ih r h = shut (d == c) h
    where
      shut : (p : Bool) → HasHit k b (owned n (cond p (Shut ∷ about c t) (about c t))) → rest
      shut true g = ih g
      shut false g = ih g
  event_hit t Nobody m _ rest ih r h = ih h

  pub last_hit : (t : List Event) → Each (IsRightful s start) t → HasHit k b (owned n (about c t)) → LastHit s start c n k b t
  last_hit [] g h = h
  last_hit (e ∷ t) g h = event_hit t e.owner e.moment e.what (LastHit s start c n k b t) (last_hit t g.1) g.0 h

pub carries_hit : (s : Script) (start : World) (t : List Event) (c n : ℕ) (f : CompileFinished) → Each (IsRightful s start) t → Carries s.setup (request (all s c) n) f (owned n (about c t))
    → CarriesBy (λ b. LastHit s start c n (job_of (owned n (about c t))).found.key b t) s.setup (request (all s c) n) f (owned n (about c t))
carries_hit s start t c n f g (inl (inl h)) = inl (inl h)
carries_hit s start t c n f g (inl (inr h)) = inl (inr (h.0, last_hit s start c n (job_of (owned n (about c t))).found.key h.0 t g h.1, h.2))
carries_hit s start t c n f g (inr h) = inr h
