-- Claims on a request's events.
use Rattle.std.proofs.Common.{◌≡◌, ℕ, zero, suc, ◌<◌, List, [], ◌∷◌, length, map, refl, sym, ◌∙◌, subst, arith, get_or}
use Rattle.sc_model.proofs.Keeping.{lawful_ties, phase_of}
use Rattle.sc_model.proofs.Requests.{IsPlain, Keeps}
use Rattle.sc_model.proofs.Steps.{start_is}
use Rattle.sc_model.specs.Afterwards.{first_reply}
use Rattle.sc_model.specs.Dues.{kind_at}
use Rattle.sc_model.specs.Follows.{Fits, Lawful, due}
use Rattle.sc_model.specs.Headline.{Carries, Stores}
use Rattle.sc_model.specs.Finishing.{finish}
use Rattle.sc_model.specs.Job.{Own}
use Rattle.sc_model.specs.DueAt.{due_at}
use Rattle.sc_model.specs.Next.{IsFirst, NextStep, due_of}
use Rattle.sc_model.specs.Script.{Script}
use Rattle.sc_model.specs.Trace.{about, all, request}
use Rattle.sc_model.specs.declared.event.Event.{Event}
use Rattle.sc_model.specs.declared.event.Owner.TheVariants.{Request as OfRequest}
use Rattle.sc_model.specs.declared.event.Step.{Step}
use Rattle.sc_model.specs.declared.event.Step.TheVariants.{Back, Pass, Read, Serve}
use Rattle.sc_model.specs.declared.event.What.{What}
use Rattle.sc_model.specs.declared.event.What.TheVariants.{Sent}
use Rattle.sc_model.specs.declared.message.CompileFinished.{CompileFinished}
use Rattle.sc_model.specs.declared.message.Request.{Request}
use Rattle.sc_model.specs.declared.message.Response.TheVariants.{ArtifactNotification as Note, CompileFinished as Finished}
use Rattle.sc_model.specs.declared.phase.Phase.{Phase}
use Rattle.sc_model.specs.declared.phase.Phase.TheVariants.{AtFinish, AtSend, AtStarted, AtWrite, PrePut}

last_is_none : (ns : List (List ℕ)) (last f : CompileFinished) → Finished f ≡ first_reply ns last → (ns ≡ []) × (f ≡ last)
last_is_none [] last f e = (refl, (cc))
last_is_none (n ∷ ns) last f e = (cc)

pub get_map : {A B : Type 0} (f : A → B) (xs : List A) (i : ℕ) (d : A) (e : B) → i < length xs → get_or (map f xs) i e ≡ f (get_or xs i d)
get_map f [] i d e h = absurd (omega arith)
get_map f (x ∷ xs) zero d e h = refl
get_map f (x ∷ xs) (suc i) d e h = get_map f xs i d e (omega arith)

module _ (s : Script) where
  -- a finished compile carries its own, and was stored before
  finishes : (r : Request) (own : List Own) (p : Phase) (f : CompileFinished) → Keeps s.setup r own p → Fits s.setup r (due_at s.setup r p) (Sent (Finished f)) → (f ≡ finish s.setup r own) × Carries s.setup r f own × Stores s.setup r own
  finishes r own (AtFinish ns last) f kp h =
      let e = (last_is_none ns last f h.0).1 in
      (e ∙ sym kp.last_is, subst (λ v. Carries s.setup r v own) (sym e) kp.carries, kp.stores)
  finishes r own (AtSend g) f kp h = absurd (subst IsPlain (sym h.0) kp)
  finishes r own (AtStarted task) f kp h = let e = h.0 in (cc)
  finishes r own (AtWrite b (l ∷ ls) g ending) f kp h = absurd (start_is s.setup r (kind_at s.setup.levels l) l b (Sent (Finished f)) h)
  finishes r own (AtWrite b [] g ending) f kp h = absurd h
  finishes r own (PrePut b [] g) f kp h = let e = h.0 in (cc)
  finishes r own (PrePut b (l ∷ ls) g) f kp h = absurd h
  finishes r own _ f kp h = absurd h

  notes_stored : (r : Request) (own : List Own) (p : Phase) (line : List ℕ) → Keeps s.setup r own p → Fits s.setup r (due_at s.setup r p) (Sent (Note line)) → Stores s.setup r own
  notes_stored r own (AtFinish ns last) line kp h = kp.stores
  notes_stored r own (AtSend g) line kp h = absurd (subst IsPlain (sym h.0) kp)
  notes_stored r own (AtStarted task) line kp h = let e = h.0 in (cc)
  notes_stored r own (AtWrite b (l ∷ ls) g ending) line kp h = absurd (start_is s.setup r (kind_at s.setup.levels l) l b (Sent (Note line)) h)
  notes_stored r own (AtWrite b [] g ending) line kp h = absurd h
  notes_stored r own (PrePut b [] g) line kp h = let e = h.0 in (cc)
  notes_stored r own (PrePut b (l ∷ ls) g) line kp h = absurd h
  notes_stored r own _ line kp h = absurd h

  pub lawful_finishes : (r : Request) (own : List Own) (f : CompileFinished) → Fits s.setup r (due s.setup r own) (Sent (Finished f)) → Lawful s.setup r own → (f ≡ finish s.setup r own) × Carries s.setup r f own × Stores s.setup r own
  lawful_finishes r own f h l = let t = lawful_ties s.setup r own l in finishes r own (phase_of s.setup r own) f t.keeps (subst (λ v. Fits s.setup r v (Sent (Finished f))) t.is_due h)

  pub lawful_notes : (r : Request) (own : List Own) (line : List ℕ) → Fits s.setup r (due s.setup r own) (Sent (Note line)) → Lawful s.setup r own → Stores s.setup r own
  lawful_notes r own line h l = let t = lawful_ties s.setup r own l in notes_stored r own (phase_of s.setup r own) line t.keeps (subst (λ v. Fits s.setup r v (Sent (Note line))) t.is_due h)

  -- an event of a request fits, whoever's step it is
  pub next_fits : (t : List Event) (p : Step) (c n : ℕ) (x : What) → NextStep s t p (OfRequest c n) x → IsFirst s (all s c) (about c t) n × Fits s.setup (request (all s c) n) (due_of s.setup (all s c) n (about c t)) x
  next_fits t (Serve d) c n x h =
      (subst (λ v. IsFirst s (all s v) (about v t) n) (sym h.0) h.1, subst (λ v. Fits s.setup (request (all s v) n) (due_of s.setup (all s v) n (about v t)) x) (sym h.0) h.2)
  next_fits t (Read d k) c n x h = absurd h
  next_fits t (Back i) c n x h = absurd h
  next_fits t (Pass k) c n x h = absurd h
