-- Once its requests are over a connection was sent all that they are owed, and so many steps end them.
use Rattle.std.proofs.Common.{◌≡◌, ℕ, zero, suc, ◌+◌, ◌*◌, ◌<◌, ◌≤◌, ◌==◌, Bool, true, false, cond, ◌⊎◌, inl, inr, ⊎_elim, List, [], ◌∷◌, ◌++◌, length, refl, sym, ap, ◌∙◌, subst, arith}
use Rattle.sc_model.proofs.Bounds.{all_few, few_events, weight}
use Rattle.sc_model.proofs.Conns.{ConnTie, owned_other, owned_same, reqs}
use Rattle.sc_model.proofs.Keeping.{lawful_ties, phase_of}
use Rattle.sc_model.specs.Dues.{Over}
use Rattle.sc_model.specs.Headline.{AreFew, allowed, frames_upto, notes_sent, own_count}
use Rattle.sc_model.specs.Job.{At}
use Rattle.sc_model.specs.Conns.{Conn}
use Rattle.sc_model.specs.DueAt.{due_at}
use Rattle.sc_model.specs.Machine.{IsOneWhereSingle}
use Rattle.sc_model.specs.Next.{Ended, due_of}
use Rattle.sc_model.specs.Script.{Script}
use Rattle.sc_model.specs.Trace.{Came, Did, Mine, Shut, owned, request, sent, sent_of}
use Rattle.sc_model.specs.declared.event.What.{What}
use Rattle.sc_model.specs.declared.message.Request.{Request}
use Rattle.sc_model.specs.declared.phase.Phase.{Phase}
use Rattle.sc_model.specs.declared.phase.Phase.TheVariants.{AtAsk, AtBegin, AtCommit, AtDist, AtEnd, AtEnded, AtFill, AtFinish, AtKey, AtOver, AtPlace, AtRun, AtSend, AtStarted, AtStore, AtTake, AtWrite, PathAsk, PreAsk, PrePut, RawAsk, SizeAsk}
use Rattle.std.proofs.lemmas.Bool.{cases_lt}
use Rattle.std.proofs.lemmas.List.{append-nil}

-- the events of the first n requests
abbrev total_own : ℕ → List Mine → ℕ
total_own zero t = 0
total_own (suc n) t = total_own n t + length (owned n t)

one_more_own : (n k m : ℕ) (x : What) (t : List Mine) → k < n → total_own n (Did k m x ∷ t) ≡ suc (total_own n t)
one_more_own zero k m x t l = absurd (omega (arith, l))
one_more_own (suc n) k m x t l =
    ⊎_elim (λ (h : k < n). let ih = one_more_own n k m x t h in let e = ap length (owned_other n k m x t (λ z. omega (arith, h, z))) in omega (arith, ih, e))
    (λ (h : n ≤ k).
    let same : n ≡ k = omega (arith, h, l) in
    let e : length (owned n (Did k m x ∷ t)) ≡ suc (length (owned n t)) = subst (λ v. length (owned n (Did v m x ∷ t)) ≡ suc (length (owned n t))) same (ap length (owned_same n m x t)) in
    let ih = others_own n k m x t h in omega (arith, ih, e))
    (cases_lt k n)
  where
    others_own : (n k m : ℕ) (x : What) (t : List Mine) → n ≤ k → total_own n (Did k m x ∷ t) ≡ total_own n t
    others_own zero k m x t l = refl
    others_own (suc n) k m x t l = let ih = others_own n k m x t (omega (arith, l)) in let e = ap length (owned_other n k m x t (λ z. omega (arith, l, z))) in omega (arith, ih, e)

came_own : (n : ℕ) (bytes : List ℕ) (t : List Mine) → total_own n (Came bytes ∷ t) ≡ total_own n t
came_own zero bytes t = refl
came_own (suc n) bytes t = let ih = came_own n bytes t in omega (arith, ih)

shut_own : (n : ℕ) (t : List Mine) → total_own n (Shut ∷ t) ≡ total_own n t
shut_own zero t = refl
shut_own (suc n) t = let ih = shut_own n t in omega (arith, ih)

none_before : (j k m : ℕ) (x : What) (t : List Mine) → owned j (Did k m x ∷ t) ≡ [] → owned j t ≡ []
none_before j k m x t e = by_owner (k == j) e
  where
    by_owner : (b : Bool) → cond b (At m x ∷ owned j t) (owned j t) ≡ [] → owned j t ≡ []
    by_owner true g = (cc)
    by_owner false g = g

-- all events are of the requests that came
all_own : (n : ℕ) (t : List Mine) → ((j : ℕ) → n ≤ j → owned j t ≡ []) → own_count t ≡ total_own n t
all_own n [] h = none n
  where
    none : (n : ℕ) → 0 ≡ total_own n []
    none zero = refl
    none (suc n) = let ih = none n in omega (arith, ih)
all_own n (Came bytes ∷ t) h = all_own n t h ∙ sym (came_own n bytes t)
all_own n (Shut ∷ t) h = all_own n t h ∙ sym (shut_own n t)
all_own n (Did k m x ∷ t) h =
    ⊎_elim (λ (l : k < n). ap suc (all_own n t (λ j g. none_before j k m x t (h j g))) ∙ sym (one_more_own n k m x t l))
    (λ (l : n ≤ k). let e = sym (owned_same k m x t) ∙ h k l in (cc))
    (cases_lt k n)

module _ (s : Script) (one : IsOneWhereSingle s.setup) where
  -- a phase after which nothing can come
  ended_by : (r : Request) (p : Phase) → weight (length s.setup.levels) p ≡ 0 → Ended (due_at s.setup r p) ⊎ (due_at s.setup r p ≡ Over)
  ended_by r AtOver e = inr refl
  ended_by r (AtEnded left) e = inl tt
  ended_by r AtBegin e = absurd (omega (arith, e))
  ended_by r (AtSend f) e = absurd (omega (arith, e))
  ended_by r (AtStarted task) e = absurd (omega (arith, e))
  ended_by r (AtKey task true) e = absurd (omega (arith, e))
  ended_by r (AtKey task false) e = absurd (omega (arith, e))
  ended_by r (AtAsk job l) e = absurd (omega (arith, e))
  ended_by r (AtPlace job b d) e = absurd (omega (arith, e))
  ended_by r (AtDist work) e = absurd (omega (arith, e))
  ended_by r (AtTake work) e = absurd (omega (arith, e))
  ended_by r (AtRun work) e = absurd (omega (arith, e))
  ended_by r (AtEnd v task ending) e = absurd (omega (arith, e))
  ended_by r (AtStore v task b ending) e = absurd (omega (arith, e))
  ended_by r (AtWrite b ls f ending) e = absurd (omega (arith, e))
  ended_by r (AtFill b l ls f ending) e = absurd (omega (arith, e))
  ended_by r (AtCommit b l ls f ending) e = absurd (omega (arith, e))
  ended_by r (AtFinish ns last) e = absurd (omega (arith, e))
  ended_by r (RawAsk l k) e = absurd (omega (arith, e))
  ended_by r (PathAsk k) e = absurd (omega (arith, e))
  ended_by r (PreAsk l k) e = absurd (omega (arith, e))
  ended_by r (PrePut b ls f) e = absurd (omega (arith, e))
  ended_by r (SizeAsk l stats zs) e = absurd (omega (arith, e))

  module _ (input : List ℕ) (t : List Mine) (k : Conn) (tie : ConnTie s input t k) where
    abbrev pub rs : List Request
    rs = s.reader.requests input

    -- the first request that isn't over is the one that is served
    served_last : ((n : ℕ) → n < length (reqs s t) → due_of s.setup rs n t ≡ Over) → k.at ≡ length (reqs s t)
    served_last h =
        ⊎_elim (λ (l : k.at < length (reqs s t)). absurd (tie.unfinished (request rs k.at) (sym tie.holds.ties.is_due ∙ h k.at l)))
        (λ (l : length (reqs s t) ≤ k.at). omega (arith, l, tie.holds.within))
        (cases_lt k.at (length (reqs s t)))

    pub conn_answered : ((n : ℕ) → n < length (reqs s t) → due_of s.setup rs n t ≡ Over) → sent t ≡ frames_upto s.setup rs (length (reqs s t)) t
    conn_answered h =
        let e = served_last h in
        tie.holds.sends ∙ ap (λ v. frames_upto s.setup rs k.at t ++ sent_of v) (tie.holds.absent k.at (omega (arith, e))) ∙ append-nil (frames_upto s.setup rs k.at t) ∙ ap (λ v. frames_upto s.setup rs v t) e

    few_own : (n : ℕ) → total_own n t ≤ allowed s.setup n t
    few_own zero = omega arith
    few_own (suc n) = let ih = few_own n in let f : AreFew s.setup (owned n t) = few_events s.setup one (request rs n) (owned n t) (tie.holds.lawful n) in omega (arith, ih, f)

    abbrev pub first : Phase
    first = phase_of s.setup (request rs k.at) (owned k.at t)

    -- fewer than are allowed, while more may come of the one that is served
    fewer_own : (n : ℕ) → k.at < n → 0 < weight (length s.setup.levels) first → total_own n t < allowed s.setup n t
    fewer_own zero l w = absurd (omega (arith, l))
    fewer_own (suc n) l w =
        ⊎_elim (λ (h : k.at < n). let ih = fewer_own n h w in let g : AreFew s.setup (owned n t) = few_events s.setup one (request rs n) (owned n t) (tie.holds.lawful n) in omega (arith, ih, g))
        (λ (h : n ≤ k.at).
        let same : k.at ≡ n = omega (arith, h, l) in
        let f = all_few s.setup one (request rs k.at) (owned k.at t) (tie.holds.lawful k.at) in
        let g : length (owned n t) + weight (length s.setup.levels) first ≤ 11 + 4 * length s.setup.levels + notes_sent (owned n t) = subst (λ v. length (owned v t) + weight (length s.setup.levels) first ≤ 11 + 4 * length s.setup.levels + notes_sent (owned v t)) same f in
        omega (arith, few_own n, g, w))
        (cases_lt k.at n)

    -- the first that isn't over ended its connection, or all are over
    pub conn_finishes : allowed s.setup (length (reqs s t)) t ≤ own_count t → ((k.at < length (reqs s t)) × Ended (due_of s.setup rs k.at t)) ⊎ ((n : ℕ) → n < length (reqs s t) → due_of s.setup rs n t ≡ Over)
    conn_finishes h =
        ⊎_elim (λ (l : k.at < length (reqs s t)).
        let e = all_own (length (reqs s t)) t tie.holds.absent in
        let ties = lawful_ties s.setup (request rs k.at) (owned k.at t) (tie.holds.lawful k.at) in
        ⊎_elim (λ (w : 0 < weight (length s.setup.levels) first). let f = fewer_own (length (reqs s t)) l w in absurd (omega (arith, h, e, f)))
        (λ (w : weight (length s.setup.levels) first ≤ 0).
        ⊎_elim (λ (g : Ended (due_at s.setup (request rs k.at) first)). inl (l, subst Ended (sym ties.is_due) g))
        (λ (g : due_at s.setup (request rs k.at) first ≡ Over). absurd (tie.unfinished (request rs k.at) (sym tie.holds.ties.is_due ∙ ties.is_due ∙ g)))
        (ended_by (request rs k.at) first (omega (arith, w))))
        (cases_lt 0 (weight (length s.setup.levels) first)))
        (λ (l : length (reqs s t) ≤ k.at). inr (λ n g. tie.holds.before n (omega (arith, l, g))))
        (cases_lt k.at (length (reqs s t)))
