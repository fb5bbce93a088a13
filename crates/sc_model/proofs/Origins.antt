-- What levels hold and what is handed on is rightful.
use Rattle.std.proofs.Common.{◌≡◌, ℕ, zero, suc, ◌⊎◌, ⊎_elim, inl, inr, Bool, true, false, cond, eqb, List, [], ◌∷◌, ◌++◌, length, Some, refl, sym, ap, ◌∙◌, subst, get_or, set}
use Rattle.sc_model.proofs.Claims.{next_fits}
use Rattle.sc_model.proofs.Entries.{PutsAt, keeps_held, level_held}
use Rattle.sc_model.proofs.Keeping.{lawful_ties, phase_of}
use Rattle.sc_model.proofs.Requests.{Keeps}
use Rattle.sc_model.proofs.Steps.{start_is, wrote_is}
use Rattle.sc_model.specs.Dues.{Due, ToAsk, kind_at}
use Rattle.sc_model.specs.Follows.{Fits, Lawful, bytes_in, due_back}
use Rattle.sc_model.specs.Headline.{Hits}
use Rattle.sc_model.specs.Job.{At, Own}
use Rattle.sc_model.specs.DueAt.{due_at}
use Rattle.sc_model.specs.Next.{NextStep, due_of, nth}
use Rattle.sc_model.specs.Origin.{Gives, PutBy, Rightful, entry_by, origins, write_by}
use Rattle.sc_model.specs.Plan.{backfilled, backfills, background, goes_on, hand_to, level_facts}
use Rattle.sc_model.specs.Rows.{level_named}
use Rattle.sc_model.specs.Script.{Script}
use Rattle.sc_model.specs.Trace.{Given, about, all, drop_done, drop_given, ends_write, given, hands, left_writes, no_request, numbered, owned, request, written}
use Rattle.sc_model.specs.Asking.{Answers, Answers_raw, Answers_whole}
use Rattle.sc_model.specs.Levels.{Level, held, no_level_held}
use Rattle.sc_model.specs.World.{Moves, MovesAt, Need, World, level_at, MovesLevels}
use Rattle.sc_model.specs.Writing.{MovesLevel}
use Rattle.sc_model.specs.declared.event.Answer.{Answer}
use Rattle.sc_model.specs.declared.event.Answer.TheVariants.{Hit}
use Rattle.sc_model.specs.declared.event.Event.{Event}
use Rattle.sc_model.specs.declared.event.Mode.{Mode}
use Rattle.sc_model.specs.declared.event.Mode.TheVariants.{Raw, Whole}
use Rattle.sc_model.specs.declared.event.Owner.{Owner}
use Rattle.sc_model.specs.declared.event.Owner.TheVariants.{Nobody, Request as OfRequest, Write as OfWrite}
use Rattle.sc_model.specs.declared.event.Step.{Step}
use Rattle.sc_model.specs.declared.event.Step.TheVariants.{Back, Pass, Read, Serve}
use Rattle.sc_model.specs.declared.event.What.{What}
use Rattle.sc_model.specs.declared.event.What.TheVariants.{Asked, Committed, Filled, Reserved, WriteEnded, Wrote}
use Rattle.sc_model.specs.declared.event.Written.TheVariants.{Done as WriteDone}
use Rattle.sc_model.specs.declared.level.Handed.{Handed}
use Rattle.sc_model.specs.declared.level.Put.{Put}
use Rattle.sc_model.specs.declared.message.Request.{Request}
use Rattle.sc_model.specs.declared.phase.Bytes.{Bytes}
use Rattle.sc_model.specs.declared.phase.Phase.{Phase}
use Rattle.sc_model.specs.declared.phase.Phase.TheVariants.{AtCommit, AtWrite, PrePut}
use Rattle.std.proofs.lemmas.Bool.{cases_Bool}
use Rattle.sc_entry.specs.Keys.{IsStoreKey}

set_cases : (xs : List Level) (j : ℕ) (v d : Level) (l : ℕ) → (get_or (set xs j v) l d ≡ get_or xs l d) ⊎ ((j ≡ l) × (get_or (set xs j v) l d ≡ v))
set_cases [] j v d l = inl refl
set_cases (x ∷ xs) zero v d zero = inr (refl, refl)
set_cases (x ∷ xs) zero v d (suc l) = inl refl
set_cases (x ∷ xs) (suc j) v d zero = inl refl
set_cases (x ∷ xs) (suc j) v d (suc l) =
    ⊎_elim (λ (e : get_or (set xs j v) l d ≡ get_or xs l d). inl e) (λ (e : (j ≡ l) × (get_or (set xs j v) l d ≡ v)). inr (ap suc e.0, e.1)) (set_cases xs j v d l)

gives_append : (gs hs : List Given) (i : ℕ) (k b : List ℕ) → Gives (gs ++ hs) i k b → Gives gs i k b ⊎ Gives hs i k b
gives_append [] hs i k b h = inr h
gives_append (g ∷ gs) hs i k b h =
    let ih = gives_append gs hs i k b in
    ⊎_elim (λ (y : (g.number ≡ i) × (g.handed.key ≡ k) × (g.handed.bytes ≡ b)). inl (inl y))
    (λ (y : Gives (gs ++ hs) i k b). ⊎_elim (λ (z : Gives gs i k b). inl (inr z)) (λ (z : Gives hs i k b). inr z) (ih y)) h

gives_drop : (n : ℕ) (gs : List Given) (i : ℕ) (k b : List ℕ) → Gives (drop_given n gs) i k b → Gives gs i k b
gives_drop n [] i k b h = h
gives_drop n (g ∷ gs) i k b h =
    let ih = gives_drop n gs i k b in
    ⊎_elim (λ (y : eqb g.number n ≡ true). inr (subst (λ v. Gives (cond v gs (g ∷ drop_given n gs)) i k b) y h))
    (λ (y : eqb g.number n ≡ false).
    let q : Gives (g ∷ drop_given n gs) i k b = subst (λ v. Gives (cond v gs (g ∷ drop_given n gs)) i k b) y h in
    ⊎_elim (λ (z : (g.number ≡ i) × (g.handed.key ≡ k) × (g.handed.bytes ≡ b)). inl z) (λ (z : Gives (drop_given n gs) i k b). inr (ih z)) q)
    (cases_Bool (eqb g.number n))

gives_done : (o : Owner) (d : Bool) (gs : List Given) (i : ℕ) (k b : List ℕ) → Gives (drop_done o d gs) i k b → Gives gs i k b
gives_done (OfWrite n) true gs i k b h = gives_drop n gs i k b h
gives_done (OfWrite n) false gs i k b h = h
gives_done _ d gs i k b h = h

gives_nth : (i : ℕ) (gs : List Given) (g : Given) → nth i gs ≡ Some g → Gives gs g.number g.handed.key g.handed.bytes
gives_nth i [] g e = (cc)
gives_nth zero (x ∷ xs) g e = let d : x ≡ g = (cc) in inl (ap (λ v. v.number) d, ap (λ v. v.handed.key) d, ap (λ v. v.handed.bytes) d)
gives_nth (suc i) (x ∷ xs) g e = inr (gives_nth i xs g e)

gives_handed : (c : Bytes) (ls : List ℕ) (n m : ℕ) (f : Bool) (i : ℕ) (k b : List ℕ) → Gives (numbered n m f (hand_to c ls)) i k b → (c.key ≡ k) × (c.bytes ≡ b)
gives_handed c [] n m f i k b h = absurd h
gives_handed c (l ∷ ls) n m f i k b h =
    let ih = gives_handed c ls (suc n) m f i k b in
    ⊎_elim (λ (y : (n ≡ i) × (c.key ≡ k) × (c.bytes ≡ b)). (y.1, y.2)) (λ (y : Gives (numbered (suc n) m f (hand_to c ls)) i k b). ih y) h

module _ (s : Script) where
  put_at : (r : Request) (own : List Own) (x y d b : List ℕ) (p q : List ℕ) → PutBy s.setup r own x d → y ≡ x → b ≡ d → y ≡ p → b ≡ q → PutBy s.setup r own p q
  put_at r own x y d b p q h e f g j = subst (λ v. PutBy s.setup r own v q) (sym e ∙ g) (subst (λ v. PutBy s.setup r own x v) (sym f ∙ j) h)

  -- a request puts what it may
  request_puts : (r : Request) (own : List Own) (p : Phase) (x : What) (k b : List ℕ) → Keeps s.setup r own p → Fits s.setup r (due_at s.setup r p) x → PutsAt x k b → PutBy s.setup r own k b
  request_puts r own (AtCommit c l ls g ending) (Committed j i d WriteDone) k b kp f h = put_at r own c.key i c.bytes d k b kp.3 f.1 f.2 h.0 h.1
  request_puts r own (AtWrite c (l ∷ ls) g ending) (Wrote j i d Whole mark WriteDone) k b kp f h =
      let q = wrote_is s.setup r (kind_at s.setup.levels l) l c j i d Whole mark WriteDone f in put_at r own c.key i c.bytes d k b kp.3 q.1 q.2 h.0 h.1
  request_puts r own (PrePut c (l ∷ ls) g) (Wrote j i d Whole mark WriteDone) k b kp f h = let e = f.3 in (cc)
  request_puts r own (PrePut c [] g) (Wrote j i d Whole mark WriteDone) k b kp f h = absurd f
  request_puts r own (AtWrite c [] g ending) (Wrote j i d Whole mark WriteDone) k b kp f h = absurd f
  request_puts r own (AtWrite c (l ∷ ls) g ending) (Committed j i d WriteDone) k b kp f h = absurd (start_is s.setup r (kind_at s.setup.levels l) l c (Committed j i d WriteDone) f)
  request_puts r own (AtWrite c [] g ending) (Committed j i d WriteDone) k b kp f h = absurd f
  request_puts r own (PrePut c (l ∷ ls) g) (Committed j i d WriteDone) k b kp f h = absurd f
  request_puts r own (PrePut c [] g) (Committed j i d WriteDone) k b kp f h = absurd f
  request_puts r own _ (Committed j i d WriteDone) k b kp f h = absurd f
  request_puts r own _ (Wrote j i d Whole mark WriteDone) k b kp f h = absurd f
  request_puts r own p _ k b kp f h = absurd h

  -- and hands on what it may
  request_hands : (r : Request) (own : List Own) (p : Phase) (put : Put) (hs : List Handed) (n m i : ℕ) (k b : List ℕ) → Keeps s.setup r own p → Fits s.setup r (due_at s.setup r p) (WriteEnded put hs) → Gives (numbered n m false hs) i k b → PutBy s.setup r own k b
  request_hands r own (AtWrite c [] g ending) put hs n m i k b kp f h =
      let q = gives_handed c (goes_on g (background s.setup.policy s.setup.levels)) n m false i k b (subst (λ v. Gives (numbered n m false v) i k b) f.1 h) in
      put_at r own c.key c.key c.bytes c.bytes k b kp.3 refl refl q.0 q.1
  request_hands r own (AtWrite c (l ∷ ls) g ending) put hs n m i k b kp f h = absurd (start_is s.setup r (kind_at s.setup.levels l) l c (WriteEnded put hs) f)
  request_hands r own (PrePut c (l ∷ ls) g) put hs n m i k b kp f h = absurd f
  request_hands r own (PrePut c [] g) put hs n m i k b kp f h = absurd f
  request_hands r own _ put hs n m i k b kp f h = absurd f

  fits_asked : (r : Request) (d : Due) (j : ℕ) (i : List ℕ) (kind : Mode) (a : Answer) (hs : List Handed) → Fits s.setup r d (Asked j i kind a hs) → hs ≡ backfills s.setup.policy s.setup.levels j i kind a
  fits_asked r (ToAsk mode l k) j i kind a hs f =
      f.3 ∙ ap (λ v. backfills s.setup.policy s.setup.levels v k mode a) (sym f.0) ∙ ap (λ v. backfills s.setup.policy s.setup.levels j v mode a) (sym f.1) ∙ ap (λ v. backfills s.setup.policy s.setup.levels j i v a) (sym f.2)
  fits_asked r _ j i kind a hs f = absurd f

  back_puts : (h : Handed) (own : List Own) (x : What) (k b : List ℕ) → Fits s.setup no_request (due_back s.setup.levels h own) x → PutsAt x k b → (h.key ≡ k) × (h.bytes ≡ b)
  back_puts h [] (Committed j i d WriteDone) k b f p = absurd (start_is s.setup no_request (kind_at s.setup.levels h.level) h.level (bytes_in h) (Committed j i d WriteDone) f)
  back_puts h [] (Wrote j i d Whole mark WriteDone) k b f p =
      let q = wrote_is s.setup no_request (kind_at s.setup.levels h.level) h.level (bytes_in h) j i d Whole mark WriteDone f in (sym q.1 ∙ p.0, sym q.2 ∙ p.1)
  back_puts h (At m (Reserved l key n WriteDone) ∷ own) (Committed j i d WriteDone) k b f p = absurd f
  back_puts h (At m (Reserved l key n WriteDone) ∷ own) (Wrote j i d Whole mark WriteDone) k b f p = absurd f
  back_puts h (At m (Filled l key e mark WriteDone) ∷ own) (Committed j i d WriteDone) k b f p = (sym f.1 ∙ p.0, sym f.2 ∙ p.1)
  back_puts h (At m (Filled l key e mark WriteDone) ∷ own) (Wrote j i d Whole mk WriteDone) k b f p = absurd f
  back_puts h (_ ∷ own) (Committed j i d WriteDone) k b f p = absurd f
  back_puts h (_ ∷ own) (Wrote j i d Whole mark WriteDone) k b f p = absurd f
  back_puts h own _ k b f p = absurd p

  abbrev IsHanding : What → Type 0
  IsHanding (Asked l k mode a hs) = Unit {0}
  IsHanding (WriteEnded put hs) = Unit {0}
  IsHanding _ = ⊥

  back_hands : (h : Handed) (own : List Own) (x : What) → IsHanding x → Fits s.setup no_request (due_back s.setup.levels h own) x → ⊥
  back_hands h [] (Asked l k mode a hs) w f = start_is s.setup no_request (kind_at s.setup.levels h.level) h.level (bytes_in h) (Asked l k mode a hs) f
  back_hands h [] (WriteEnded put hs) w f = start_is s.setup no_request (kind_at s.setup.levels h.level) h.level (bytes_in h) (WriteEnded put hs) f
  back_hands h (At m (Reserved l key n WriteDone) ∷ own) (Asked j k mode a hs) w f = f
  back_hands h (At m (Reserved l key n WriteDone) ∷ own) (WriteEnded put hs) w f = f
  back_hands h (At m (Filled l key e mark WriteDone) ∷ own) (Asked j k mode a hs) w f = f
  back_hands h (At m (Filled l key e mark WriteDone) ∷ own) (WriteEnded put hs) w f = f
  back_hands h (_ ∷ own) (Asked j k mode a hs) w f = f
  back_hands h (_ ∷ own) (WriteEnded put hs) w f = f
  back_hands h own _ w f = w

  -- what levels held after an event they held before, or it put it there
  world_held : (n : Need) (z : ℕ → ℕ) (x : What) (w w2 : World) (l : ℕ) (k b : List ℕ) → IsStoreKey k → Moves s.setup n z x w w2 → held (kind_at s.setup.levels l) (level_at w2 l) k ≡ Some b → (held (kind_at s.setup.levels l) (level_at w l) k ≡ Some b) ⊎ ((level_named x ≡ Some l) × PutsAt x k b)
  world_held n z x w w2 l k b st m e = by_kind x m.levels
    where
      at_level : (j : ℕ) (x : What) → level_named x ≡ Some j → MovesAt s.setup j (z j) n.mark x w w2 → (held (kind_at s.setup.levels l) (level_at w l) k ≡ Some b) ⊎ ((level_named x ≡ Some l) × PutsAt x k b)
      at_level j x nm h =
          let e2 : held (kind_at s.setup.levels l) (get_or (set w.levels j h.0) l no_level_held) k ≡ Some b = subst (λ v. held (kind_at s.setup.levels l) (get_or v l no_level_held) k ≡ Some b) h.2 e in
          ⊎_elim (λ (y : get_or (set w.levels j h.0) l no_level_held ≡ get_or w.levels l no_level_held). inl (subst (λ v. held (kind_at s.setup.levels l) v k ≡ Some b) y e2))
          (λ (y : (j ≡ l) × (get_or (set w.levels j h.0) l no_level_held ≡ h.0)).
          let e3 : held (kind_at s.setup.levels l) h.0 k ≡ Some b = subst (λ v. held (kind_at s.setup.levels l) v k ≡ Some b) y.1 e2 in
          let mv : MovesLevel s.setup (level_facts s.setup.levels l) (z j) n.mark x (level_at w l) h.0 = subst (λ v. MovesLevel s.setup (level_facts s.setup.levels v) (z j) n.mark x (level_at w v) h.0) y.0 h.1 in
          ⊎_elim (λ (q : held (kind_at s.setup.levels l) (level_at w l) k ≡ Some b). inl q) (λ (q : PutsAt x k b). inr (nm ∙ ap Some y.0, q))
          (level_held s.setup (level_facts s.setup.levels l) (z j) n.mark x (level_at w l) h.0 k b st mv e3))
          (set_cases w.levels j h.0 no_level_held l)

      stays : w2.levels ≡ w.levels → held (kind_at s.setup.levels l) (level_at w l) k ≡ Some b
      stays q = subst (λ v. held (kind_at s.setup.levels l) (get_or v l no_level_held) k ≡ Some b) q e

      by_kind : (x : What) → MovesLevels s.setup n z x w w2 → (held (kind_at s.setup.levels l) (level_at w l) k ≡ Some b) ⊎ ((level_named x ≡ Some l) × PutsAt x k b)
      by_kind (Asked j i mode a hs) h = at_level j (Asked j i mode a hs) refl h
      by_kind (Reserved j i y how) h = at_level j (Reserved j i y how) refl h
      by_kind (Filled j i d mark how) h = at_level j (Filled j i d mark how) refl h
      by_kind (Committed j i d how) h = at_level j (Committed j i d how) refl h
      by_kind (Wrote j i d mode mark how) h = at_level j (Wrote j i d mode mark how) refl h
      by_kind _ h = inl (stays h)

  module _ (start : World) (t : List Event) where
    -- what levels hold is rightful, and so is what is handed on and not done
    abbrev pub HoldsRightful : World → Type 0
    HoldsRightful w = (l : ℕ) (k b : List ℕ) → IsStoreKey k → held (kind_at s.setup.levels l) (level_at w l) k ≡ Some b → (origins s start t).entry l k b

    abbrev pub HandsRightful : Type 0
    HandsRightful = (i : ℕ) (k b : List ℕ) → Gives (left_writes t) i k b → (origins s start t).write i k b

    module _ (lawful : (c n : ℕ) → Lawful s.setup (request (all s c) n) (owned n (about c t))) (handing : HandsRightful) (p : Step) where
      back_of : (n : ℕ) (x : What) → NextStep s t p (OfWrite n) x → (g : Given) × ((i : ℕ) × (nth i (left_writes t) ≡ Some g)) × (n ≡ g.number) × Fits s.setup no_request (due_back s.setup.levels g.handed (written n t)) x
      back_of n x h = by_step p h
        where
          by_step : (p : Step) → NextStep s t p (OfWrite n) x → (g : Given) × ((i : ℕ) × (nth i (left_writes t) ≡ Some g)) × (n ≡ g.number) × Fits s.setup no_request (due_back s.setup.levels g.handed (written n t)) x
          by_step (Back i) h = (h.0, (i, h.1), h.2, h.3)
          by_step (Serve c) h = absurd h
          by_step (Read c k) h = absurd h
          by_step (Pass k) h = absurd h

      nobody_puts : (p : Step) (x : What) (k b : List ℕ) → NextStep s t p Nobody x → PutsAt x k b → ⊥
      nobody_puts (Serve c) (Committed j i d WriteDone) k b h q = h
      nobody_puts (Read c n) (Committed j i d WriteDone) k b h q = h
      nobody_puts (Back n) (Committed j i d WriteDone) k b h q = h
      nobody_puts (Pass n) (Committed j i d WriteDone) k b h q = h
      nobody_puts (Serve c) (Wrote j i d Whole mark WriteDone) k b h q = h
      nobody_puts (Read c n) (Wrote j i d Whole mark WriteDone) k b h q = h
      nobody_puts (Back n) (Wrote j i d Whole mark WriteDone) k b h q = h
      nobody_puts (Pass n) (Wrote j i d Whole mark WriteDone) k b h q = h
      nobody_puts p _ k b h q = q

      owner_puts : (o : Owner) (x : What) (k b : List ℕ) → NextStep s t p o x → PutsAt x k b → Rightful s t (origins s start t) o k b
      owner_puts (OfRequest c n) x k b h q =
          let f = next_fits s t p c n x h in
          let r = request (all s c) n in
          let own = owned n (about c t) in
          let ties = lawful_ties s.setup r own (lawful c n) in
          request_puts r own (phase_of s.setup r own) x k b ties.keeps (subst (λ v. Fits s.setup r v x) ties.is_due f.1) q
      owner_puts (OfWrite n) x k b h q =
          let g = back_of n x h in
          let e = back_puts g.0.handed (written n t) x k b g.3 q in
          let y = gives_nth g.1.0 (left_writes t) g.0 g.1.1 in
          handing n k b (subst (λ v. Gives (left_writes t) n v b) e.0 (subst (λ v. Gives (left_writes t) n g.0.handed.key v) e.1 (subst (λ v. Gives (left_writes t) v g.0.handed.key g.0.handed.bytes) (sym g.2) y)))
      owner_puts Nobody x k b h q = absurd (nobody_puts p x k b h q)

      entry_of_put : (o : Owner) (x : What) (l : ℕ) (k b : List ℕ) → level_named x ≡ Some l → PutsAt x k b → Rightful s t (origins s start t) o k b → entry_by s t (origins s start t) o x l k b
      entry_of_put o (Committed j i d WriteDone) l k b e q r = let z : j ≡ l = (cc) in (z, q.0, q.1, r)
      entry_of_put o (Wrote j i d Whole mark WriteDone) l k b e q r = let z : j ≡ l = (cc) in (z, q.0, q.1, r)
      entry_of_put o _ l k b e q r = absurd q

      module _ (n : Need) (z : ℕ → ℕ) (w w2 : World) (m : ℕ) (holds : HoldsRightful w) where
        pub entries_step : (o : Owner) (x : What) → NextStep s t p o x → Moves s.setup n z x w w2 → (l : ℕ) (k b : List ℕ) → IsStoreKey k → held (kind_at s.setup.levels l) (level_at w2 l) k ≡ Some b → (origins s start (record { moment = m; owner = o; what = x } ∷ t)).entry l k b
        entries_step o x h mv l k b st e =
            ⊎_elim (λ (y : held (kind_at s.setup.levels l) (level_at w l) k ≡ Some b). inl (holds l k b st y))
            (λ (y : (level_named x ≡ Some l) × PutsAt x k b). inr (entry_of_put o x l k b y.0 y.1 (owner_puts o x k b h y.1)))
            (world_held n z x w w2 l k b st mv e)

        -- a hit was there before, rightfully
        hit_entry : (j : ℕ) (i : List ℕ) (mode : Mode) (d : List ℕ) (mark : Bool) (hs : List Handed) → MovesAt s.setup j (z j) n.mark (Asked j i mode (Hit d mark) hs) w w2 → (mode ≡ Whole) ⊎ (mode ≡ Raw) → (origins s start t).entry j i d
        hit_entry j i mode d mark hs h y =
            let f = level_facts s.setup.levels j in
            let v = level_at w j in
            let a : IsStoreKey i × (held f.kind h.0 i ≡ Some d) =
            ⊎_elim (λ (e : mode ≡ Whole). let q : Answers_whole s.setup.codec.objects f.kind i (Hit d mark) v h.0 = subst (λ u. Answers s.setup.codec.objects f (z j) i u (Hit d mark) v h.0) e h.1.answers in (q.0, q.1))
            (λ (e : mode ≡ Raw). let q : Answers_raw f.kind i (Hit d mark) v h.0 = subst (λ u. Answers s.setup.codec.objects f (z j) i u (Hit d mark) v h.0) e h.1.answers in (q.0, q.1)) y in
            holds j i d a.0 (keeps_held f.kind v h.0 i d h.1.keeps a.1)

        pub rightful_step : (x : What) → Moves s.setup n z x w w2 → Hits s start t x
        rightful_step (Asked l k Whole (Hit b mark) hs) mv = hit_entry l k Whole b mark hs mv.levels (inl refl)
        rightful_step (Asked l k Raw (Hit b mark) hs) mv = hit_entry l k Raw b mark hs mv.levels (inr refl)
        rightful_step (Asked l k Whole _ hs) mv = tt
        rightful_step (Asked l k Raw _ hs) mv = tt
        rightful_step (Asked l k _ a hs) mv = tt
        rightful_step _ mv = tt

        -- what a lookup hands on is its hit's
        asked_hands : (o : Owner) (j : ℕ) (i : List ℕ) (mode : Mode) (a : Answer) (hs : List Handed) → hs ≡ backfills s.setup.policy s.setup.levels j i mode a → MovesAt s.setup j (z j) n.mark (Asked j i mode a hs) w w2
            → (g : ℕ) (k b : List ℕ) → Gives (numbered (length (given t)) m true hs) g k b → write_by s t (origins s start t) o m (Asked j i mode a hs) g k b
        asked_hands o j i Whole (Hit d mark) hs e mv g k b y =
            let q = gives_handed (record { key = i; bytes = d; run = mark }) (backfilled s.setup.policy s.setup.levels j) (length (given t)) m true g k b (subst (λ v. Gives (numbered (length (given t)) m true v) g k b) e y) in
            (y, q.0, q.1, subst (λ v. (origins s start t).entry j k v) q.1 (subst (λ v. (origins s start t).entry j v d) q.0 (hit_entry j i Whole d mark hs mv (inl refl))))
        asked_hands o j i Raw (Hit d mark) hs e mv g k b y =
            let q = gives_handed (record { key = i; bytes = d; run = mark }) (backfilled s.setup.policy s.setup.levels j) (length (given t)) m true g k b (subst (λ v. Gives (numbered (length (given t)) m true v) g k b) e y) in
            (y, q.0, q.1, subst (λ v. (origins s start t).entry j k v) q.1 (subst (λ v. (origins s start t).entry j v d) q.0 (hit_entry j i Raw d mark hs mv (inr refl))))
        asked_hands o j i Whole _ hs e mv g k b y = absurd (subst (λ v. Gives (numbered (length (given t)) m true v) g k b) e y)
        asked_hands o j i Raw _ hs e mv g k b y = absurd (subst (λ v. Gives (numbered (length (given t)) m true v) g k b) e y)
        asked_hands o j i _ a hs e mv g k b y = absurd (subst (λ v. Gives (numbered (length (given t)) m true v) g k b) e y)

        nobody_hands : (p : Step) (x : What) → IsHanding x → NextStep s t p Nobody x → ⊥
        nobody_hands (Serve c) (Asked j i mode a hs) y h = h
        nobody_hands (Read c k) (Asked j i mode a hs) y h = h
        nobody_hands (Back k) (Asked j i mode a hs) y h = h
        nobody_hands (Pass k) (Asked j i mode a hs) y h = h
        nobody_hands (Serve c) (WriteEnded put hs) y h = h
        nobody_hands (Read c k) (WriteEnded put hs) y h = h
        nobody_hands (Back k) (WriteEnded put hs) y h = h
        nobody_hands (Pass k) (WriteEnded put hs) y h = h
        nobody_hands p _ y h = y

        back_none : (k : ℕ) (x : What) → IsHanding x → NextStep s t p (OfWrite k) x → ⊥
        back_none k x y h = let g = back_of k x h in back_hands g.0.handed (written k t) x y g.3

        new_hands : (o : Owner) (x : What) → NextStep s t p o x → Moves s.setup n z x w w2 → (g : ℕ) (k b : List ℕ) → Gives (hands (length (given t)) m x) g k b → write_by s t (origins s start t) o m x g k b
        new_hands (OfRequest c j) (Asked l i mode a hs) h mv g k b y =
            let f = next_fits s t p c j (Asked l i mode a hs) h in
            asked_hands (OfRequest c j) l i mode a hs (fits_asked (request (all s c) j) (due_of s.setup (all s c) j (about c t)) l i mode a hs f.1) mv.levels g k b y
        new_hands (OfRequest c j) (WriteEnded put hs) h mv g k b y =
            let f = next_fits s t p c j (WriteEnded put hs) h in
            let r = request (all s c) j in
            let own = owned j (about c t) in
            let ties = lawful_ties s.setup r own (lawful c j) in
            (y, request_hands r own (phase_of s.setup r own) put hs (length (given t)) m g k b ties.keeps (subst (λ v. Fits s.setup r v (WriteEnded put hs)) ties.is_due f.1) y)
        new_hands (OfWrite j) (Asked l i mode a hs) h mv g k b y = absurd (back_none j (Asked l i mode a hs) tt h)
        new_hands (OfWrite j) (WriteEnded put hs) h mv g k b y = absurd (back_none j (WriteEnded put hs) tt h)
        new_hands Nobody (Asked l i mode a hs) h mv g k b y = absurd (nobody_hands p (Asked l i mode a hs) tt h)
        new_hands Nobody (WriteEnded put hs) h mv g k b y = absurd (nobody_hands p (WriteEnded put hs) tt h)
        new_hands o _ h mv g k b y = absurd y

        pub writes_step : (o : Owner) (x : What) → NextStep s t p o x → Moves s.setup n z x w w2 → (g : ℕ) (k b : List ℕ) → Gives (left_writes (record { moment = m; owner = o; what = x } ∷ t)) g k b → (origins s start (record { moment = m; owner = o; what = x } ∷ t)).write g k b
        writes_step o x h mv g k b y =
            ⊎_elim (λ (q : Gives (drop_done o (ends_write x) (left_writes t)) g k b). inl (handing g k b (gives_done o (ends_write x) (left_writes t) g k b q)))
            (λ (q : Gives (hands (length (given t)) m x) g k b). inr (new_hands o x h mv g k b q))
            (gives_append (drop_done o (ends_write x) (left_writes t)) (hands (length (given t)) m x) g k b y)
