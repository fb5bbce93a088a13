-- What the headline says of one connection holds by its own events alone.
use Rattle.std.proofs.Common.{ℕ, ◌==◌, Bool, true, false, cond, List, [], ◌∷◌, subst}
use Rattle.sc_model.proofs.Claims.{lawful_finishes, lawful_notes}
use Rattle.sc_model.proofs.Conns.{owned_same}
use Rattle.sc_model.specs.Follows.{Fits, Lawful}
use Rattle.sc_model.specs.Job.{At}
use Rattle.sc_model.specs.Link.{EachOwn, FinishesLink}
use Rattle.sc_model.specs.Next.{due_of}
use Rattle.sc_model.specs.Script.{Script}
use Rattle.sc_model.specs.Trace.{Came, Did, Mine, Shut, owned, request}
use Rattle.sc_model.specs.declared.event.What.{What}
use Rattle.sc_model.specs.declared.event.What.TheVariants.{Sent}
use Rattle.sc_model.specs.declared.message.Request.{Request}
use Rattle.sc_model.specs.declared.message.Response.TheVariants.{ArtifactNotification as Note, CompileFinished as Finished}

module _ (s : Script) (rs : List Request) where
  abbrev pub AreLawful : List Mine → Type 0
  AreLawful t = (n : ℕ) → Lawful s.setup (request rs n) (owned n t)

  -- the events before an event are lawful too
  before_cond : (k m : ℕ) (x : What) (t : List Mine) (b : Bool) → Lawful s.setup (request rs k) (cond b (At m x ∷ owned k t) (owned k t)) → Lawful s.setup (request rs k) (owned k t)
  before_cond k m x t true l = l.1
  before_cond k m x t false l = l

  lawful_before : (n m : ℕ) (x : What) (t : List Mine) → AreLawful (Did n m x ∷ t) → AreLawful t
  lawful_before n m x t l k = before_cond k m x t (n == k) (l k)

  lawful_one : (n m : ℕ) (x : What) (t : List Mine) → AreLawful (Did n m x ∷ t) → Fits s.setup (request rs n) (due_of s.setup rs n t) x × Lawful s.setup (request rs n) (owned n t)
  lawful_one n m x t l = subst (λ v. Lawful s.setup (request rs n) v) (owned_same n m x t) (l n)

  finishes_one : (t : List Mine) (n : ℕ) (x : What) → Fits s.setup (request rs n) (due_of s.setup rs n t) x → Lawful s.setup (request rs n) (owned n t) → FinishesLink s.setup rs t n x
  finishes_one t n (Sent (Finished f)) h l = lawful_finishes s (request rs n) (owned n t) f h l
  finishes_one t n (Sent (Note line)) h l = lawful_notes s (request rs n) (owned n t) line h l
  finishes_one t n (Sent _) h l = tt
  finishes_one t n _ h l = tt

  pub finishes_link : (t : List Mine) → AreLawful t → EachOwn (FinishesLink s.setup rs) t
  finishes_link [] l = tt
  finishes_link (Came bytes ∷ t) l = finishes_link t l
  finishes_link (Shut ∷ t) l = finishes_link t l
  finishes_link (Did n m x ∷ t) l = let h = lawful_one n m x t l in (finishes_one t n x h.0 h.1, finishes_link t (lawful_before n m x t l))
