-- The steps that served a connection and weren't idle are the events of its requests.
use Rattle.std.proofs.Common.{◌≡◌, ℕ, suc, ◌==◌, Bool, true, false, cond, List, [], ◌∷◌, refl, ap, ◌∙◌, subst}
use Rattle.sc_model.specs.Headline.{is_served, own_count, serves}
use Rattle.sc_model.specs.Next.{Leads, NextStep}
use Rattle.sc_model.specs.Script.{Script}
use Rattle.sc_model.specs.Trace.{Came, Did, Mine, Shut, about, mine}
use Rattle.sc_model.specs.World.{World}
use Rattle.sc_model.specs.declared.event.Event.{Event}
use Rattle.sc_model.specs.declared.event.Owner.{Owner}
use Rattle.sc_model.specs.declared.event.Owner.TheVariants.{Nobody, Request as OfRequest, Write as OfWrite}
use Rattle.sc_model.specs.declared.event.Step.{Step}
use Rattle.sc_model.specs.declared.event.Step.TheVariants.{Back, Pass, Read, Serve}
use Rattle.sc_model.specs.declared.event.What.{What}
use Rattle.sc_model.specs.declared.event.What.TheVariants.{Closed, Idle, Passed, Taken}

count_cond : (b : Bool) (n m : ℕ) (x : What) (u : List Mine) → cond b (suc (own_count u)) (own_count u) ≡ own_count (cond b (Did n m x ∷ u) u)
count_cond true n m x u = refl
count_cond false n m x u = refl

came_cond : (b : Bool) (bytes : List ℕ) (u : List Mine) → own_count u ≡ own_count (cond b (Came bytes ∷ u) u)
came_cond true bytes u = refl
came_cond false bytes u = refl

shut_cond : (b : Bool) (u : List Mine) → own_count u ≡ own_count (cond b (Shut ∷ u) u)
shut_cond true u = refl
shut_cond false u = refl

module _ (s : Script) (c : ℕ) where
  one_step : (t : List Event) (p : Step) (m : ℕ) (o : Owner) (x : What) → NextStep s t p o x → (u : List Mine) → cond (is_served c p o) (suc (own_count u)) (own_count u) ≡ own_count (mine c o m x u)
  one_step t (Serve d) m (OfRequest e n) x h u = subst (λ v. cond (v == c) (suc (own_count u)) (own_count u) ≡ own_count (cond (e == c) (Did n m x ∷ u) u)) h.0 (count_cond (e == c) n m x u)
  one_step t (Serve d) m Nobody Idle h u = refl
  one_step t (Serve d) m Nobody _ h u = absurd h
  one_step t (Serve d) m (OfWrite i) x h u = refl
  one_step t (Read d n) m Nobody Idle h u = refl
  one_step t (Read d n) m Nobody (Taken e bytes) h u = came_cond (e == c) bytes u
  one_step t (Read d n) m Nobody (Closed e) h u = shut_cond (e == c) u
  one_step t (Read d n) m Nobody _ h u = absurd h
  one_step t (Read d n) m (OfRequest e k) x h u = absurd h
  one_step t (Read d n) m (OfWrite i) x h u = absurd h
  one_step t (Back i) m (OfRequest e k) x h u = absurd h
  one_step t (Back i) m (OfWrite n) x h u = refl
  one_step t (Back i) m Nobody Idle h u = refl
  one_step t (Back i) m Nobody _ h u = absurd h
  one_step t (Pass n) m (OfRequest e k) x h u = absurd h
  one_step t (Pass n) m (OfWrite i) x h u = absurd h
  one_step t (Pass n) m Nobody (Passed k) h u = refl
  one_step t (Pass n) m Nobody _ h u = absurd h

  pub serves_are : (start : World) (ps : List Step) (t : List Event) (end : World) → Leads s start ps t end → serves c ps t ≡ own_count (about c t)
  serves_are start [] [] end h = refl
  serves_are start (p ∷ ps) (e ∷ t) end h =
      let ih = serves_are start ps t h.0 h.1 in
      ap (λ v. cond (is_served c p e.owner) (suc v) v) ih ∙ one_step t p e.moment e.owner e.what h.2 (about c t)
  serves_are start [] (e ∷ t) end h = absurd h
  serves_are start (p ∷ ps) [] end h = absurd h
