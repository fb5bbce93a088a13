-- The headline holds of every run of the machine.
use Rattle.std.proofs.Common.{◌≡◌, ℕ, ◌<◌, ◌≤◌, inl, inr, ⊎_elim, List, [], ◌∷◌, length, map, refl, sym, ap, ◌∙◌, subst, arith, get_or, false, cond, Option, Some, None}
use Rattle.sc_entry.specs.Causes.{IfTold}
use Rattle.sc_model.proofs.Backs.{BackTie, IsWrite, back_due, back_new, pending_writes}
use Rattle.sc_model.proofs.Bounds.{few_events}
use Rattle.sc_model.proofs.Claims.{get_map, lawful_finishes, lawful_notes, next_fits}
use Rattle.sc_model.proofs.Completing.{conn_answered, conn_finishes}
use Rattle.sc_model.proofs.Conns.{ConnTie, conn_new, conn_prefix, current_is}
use Rattle.sc_model.proofs.Hits.{carries_hit}
use Rattle.sc_model.proofs.Machines.{Tie, tie_step}
use Rattle.sc_model.proofs.Origins.{HandsRightful, HoldsRightful, entries_step, rightful_step, writes_step}
use Rattle.sc_model.proofs.Requests.{Keeps}
use Rattle.sc_model.proofs.Serving.{serves_are}
use Rattle.sc_model.proofs.Steps.{start_is}
use Rattle.sc_model.specs.Dues.{Over, kind_at}
use Rattle.sc_model.specs.Follows.{Fits, Lawful}
use Rattle.sc_model.specs.Headline.{Begins_in_order, BytesWithin, Each, Finishes, Headline, IsFinished, IsInOrder, IsRightful, IsStoredFirst, RunsWithin, StoresBefore, allowed}
use Rattle.sc_model.specs.Job.{Own, entry_mark, mark_of}
use Rattle.sc_model.specs.Conns.{Conn, need_at, new_conn}
use Rattle.sc_model.specs.DueAt.{due_at}
use Rattle.sc_model.specs.Machine.{Does, DoesBack, DoesPass, DoesRead, DoesServe, DoesStep, IsIdle, Machine, Runs, conn, end_at, result_of_run, shown_levels}
use Rattle.sc_model.specs.Pendings.{given_of, need_back, stage_fills}
use Rattle.sc_model.specs.Next.{Ended, Leads, NextStep, at_moment, due_of, ticked}
use Rattle.sc_model.specs.Script.{IsOpen, ReadsOn, Script, input, is_single}
use Rattle.sc_model.specs.Trace.{Given, about, all, came, if_too_long, no_request, own_of, owned, request, request_of, reservations, reserved_at, taken, too_long, written}
use Rattle.sc_model.specs.Levels.{and_one}
use Rattle.sc_model.specs.World.{IsWithinBytes, Moves, MovesAt, MovesDist, MovesLevels, MovesPlaced, MovesShop, Need, World, first_missing, need_of, placed_of}
use Rattle.sc_model.specs.declared.event.Event.{Event}
use Rattle.sc_model.specs.declared.level.LevelFacts.{LevelFacts}
use Rattle.sc_model.specs.declared.level.Policy.{Policy}
use Rattle.sc_model.specs.declared.level.Policy.TheVariants.{Levels, Single}
use Rattle.sc_stats.specs.declared.counters.LevelStats.{LevelStats}
use Rattle.std.proofs.lemmas.List.{length-map}
use Rattle.sc_model.specs.declared.event.Owner.{Owner}
use Rattle.sc_model.specs.declared.event.Owner.TheVariants.{Nobody, Request as OfRequest, Write as OfWrite}
use Rattle.sc_model.specs.declared.event.Placing.{Placing}
use Rattle.sc_model.specs.declared.event.Placing.TheVariants.{Done as PlaceDone, Fault as PlaceFault, Missing}
use Rattle.sc_model.specs.declared.event.Step.{Step}
use Rattle.sc_model.specs.declared.event.Step.TheVariants.{Back, Pass, Read, Serve}
use Rattle.sc_model.specs.declared.event.What.{What}
use Rattle.sc_model.specs.declared.event.What.TheVariants.{Closed, Committed, Dist, Idle, Keyed, Passed, Placed, Ran, Sent, Taken}
use Rattle.sc_model.specs.declared.message.Request.{Request}
use Rattle.sc_model.specs.declared.message.Response.TheVariants.{ArtifactNotification as Note, CompileFinished as Finished}
use Rattle.sc_model.specs.declared.phase.Job.{Job}
use Rattle.sc_model.specs.declared.phase.Pending.{Pending}
use Rattle.sc_model.specs.declared.phase.Phase.{Phase}
use Rattle.sc_model.specs.declared.phase.Phase.TheVariants.{AtCommit, AtDist, AtPlace, AtRun, AtWrite, PrePut}
use Rattle.sc_stats.specs.Sums.{no_level_stats, sat}

shown_is : (p : Policy) (ls : List LevelStats) → is_single p ≡ false → shown_levels p ls ≡ ls
shown_is Single ls e = (cc)
shown_is (Levels ps) ls e = refl

shown_count : (p : Policy) (ls : List LevelStats) (fs : List LevelFacts) → length ls ≡ length fs → length (shown_levels p ls) ≡ cond (is_single p) 0 (length fs)
shown_count Single ls fs e = refl
shown_count (Levels ps) ls fs e = e

handed_same : (ps : List Pending) → map (λ (p : Pending). p.handed) ps ≡ map (λ (g : Given). g.handed) (map given_of ps)
handed_same [] = refl
handed_same (p ∷ ps) = ap (λ v. p.handed ∷ v) (handed_same ps)

module _ (s : Script) where
  module _ (t : List Event) (lawful : (c n : ℕ) → Lawful s.setup (request (all s c) n) (owned n (about c t))) (p : Step) where
    order_step : (o : Owner) (x : What) → NextStep s t p o x → Begins_in_order s t o x
    order_step (OfRequest c n) (Sent g) h = let f = next_fits s t p c n (Sent g) h in f.0.before
    order_step (OfRequest c n) _ h = tt
    order_step _ x h = tt

    finish_step : (start : World) → Each (IsRightful s start) t → (o : Owner) (x : What) → NextStep s t p o x → Finishes s start t o x
    finish_step start rightful (OfRequest c n) (Sent (Finished f)) h =
        let q = next_fits s t p c n (Sent (Finished f)) h in
        let a = lawful_finishes s (request (all s c) n) (owned n (about c t)) f q.1 (lawful c n) in
        (a.0, carries_hit s start t c n f rightful a.1)
    finish_step start rightful (OfRequest c n) (Sent _) h = tt
    finish_step start rightful (OfRequest c n) _ h = tt
    finish_step start rightful _ x h = tt

    stored_step : (o : Owner) (x : What) → NextStep s t p o x → StoresBefore s t o x
    stored_step (OfRequest c n) (Sent (Finished f)) h =
        let q = next_fits s t p c n (Sent (Finished f)) h in
        let a = lawful_finishes s (request (all s c) n) (owned n (about c t)) f q.1 (lawful c n) in a.2
    stored_step (OfRequest c n) (Sent (Note line)) h =
        let q = next_fits s t p c n (Sent (Note line)) h in lawful_notes s (request (all s c) n) (owned n (about c t)) line q.1 (lawful c n)
    stored_step (OfRequest c n) (Sent _) h = tt
    stored_step (OfRequest c n) _ h = tt
    stored_step _ x h = tt

  -- What an event needs of its owner is what the phase keeps. First the mark of its open entry.
  levels_same : (r : Request) (own : List Own) (p : Phase) (x : What) (z : ℕ → ℕ) (w w2 : World) → Keeps s.setup r own p → Fits s.setup r (due_at s.setup r p) x → MovesLevels s.setup (need_at s.setup r p) z x w w2 → MovesLevels s.setup (need_of s.setup r own) z x w w2
  levels_same r own (AtCommit b l ls g ending) (Committed j k d how) z w w2 kp f m = subst (λ v. MovesAt s.setup j (z j) v (Committed j k d how) w w2) (sym kp.5) m
  levels_same r own (AtWrite b (l ∷ ls) g ending) (Committed j k d how) z w w2 kp f m = absurd (start_is s.setup r (kind_at s.setup.levels l) l b (Committed j k d how) f)
  levels_same r own (AtWrite b [] g ending) (Committed j k d how) z w w2 kp f m = absurd f
  levels_same r own (PrePut b (l ∷ ls) g) (Committed j k d how) z w w2 kp f m = absurd f
  levels_same r own (PrePut b [] g) (Committed j k d how) z w w2 kp f m = absurd f
  levels_same r own _ (Committed j k d how) z w w2 kp f m = absurd f
  levels_same r own p _ z w w2 kp f m = m

  -- then its key, its outputs and its hit
  shop_same : (r : Request) (own : List Own) (p : Phase) (x : What) (w w2 : World) → Keeps s.setup r own p → Fits s.setup r (due_at s.setup r p) x → MovesShop s.setup (need_at s.setup r p) x w w2 → MovesShop s.setup (need_of s.setup r own) x w w2
  shop_same r own (AtRun work) (Ran a) w w2 kp f m = (
    m.0,
    m.1,
    subst (λ v. IfTold (s.setup.workshop v.found.key w.runs v.found.outputs) (λ b. a ≡ b)) (sym kp.has.job_is) m.2,
    subst (λ v. w2.runs ≡ and_one w.runs (v.found.key, a)) (sym kp.has.job_is) m.3,
    m.4,
  )
  shop_same r own (AtPlace job b d) (Placed p) w w2 kp f m = placed p m
    where
      missing_same : (v : Option (List ℕ)) → first_missing (s.setup.codec.objects b) (need_at s.setup r (AtPlace job b d)).outputs ≡ v → first_missing (s.setup.codec.objects (need_of s.setup r own).hit) (need_of s.setup r own).outputs ≡ v
      missing_same v e = ap (λ v. first_missing (s.setup.codec.objects v) (need_of s.setup r own).outputs) kp.1 ∙ ap (λ (v : Job). first_missing (s.setup.codec.objects b) (placed_of v.found.locally_preprocessed v.found.outputs)) kp.0.job_is ∙ e

      placed : (p : Placing) → MovesPlaced s.setup (need_at s.setup r (AtPlace job b d)) p w w2 → MovesPlaced s.setup (need_of s.setup r own) p w w2
      placed (Missing name) h = (missing_same (Some name) h.0, h.1)
      placed PlaceDone h = (
        missing_same None h.0,
        subst (λ (v : Job). IfTold (s.setup.placing v.found.key) (λ refusal. None ≡ refusal)) (sym kp.0.job_is) h.1,
        h.2,
        h.3 ∙ ap (λ (v : Job). and_one w.placings (record { outputs = placed_of v.found.locally_preprocessed v.found.outputs; bytes = b })) (sym kp.0.job_is)
            ∙ ap (λ (v : List ℕ). and_one w.placings (record { outputs = (need_of s.setup r own).outputs; bytes = v })) (sym kp.1),
        h.4,
      )
      placed (PlaceFault chain) h = (missing_same None h.0, subst (λ (v : Job). IfTold (s.setup.placing v.found.key) (λ refusal. Some chain ≡ refusal)) (sym kp.0.job_is) h.1, h.2, h.3, h.4, h.5)
  shop_same r own (AtWrite b (l ∷ ls) g ending) (Ran a) w w2 kp f m = absurd (start_is s.setup r (kind_at s.setup.levels l) l b (Ran a) f)
  shop_same r own (AtWrite b [] g ending) (Ran a) w w2 kp f m = absurd f
  shop_same r own (PrePut b (l ∷ ls) g) (Ran a) w w2 kp f m = absurd f
  shop_same r own (PrePut b [] g) (Ran a) w w2 kp f m = absurd f
  shop_same r own (AtWrite b (l ∷ ls) g ending) (Placed p) w w2 kp f m = absurd (start_is s.setup r (kind_at s.setup.levels l) l b (Placed p) f)
  shop_same r own (AtWrite b [] g ending) (Placed p) w w2 kp f m = absurd f
  shop_same r own (PrePut b (l ∷ ls) g) (Placed p) w w2 kp f m = absurd f
  shop_same r own (PrePut b [] g) (Placed p) w w2 kp f m = absurd f
  shop_same r own _ (Ran a) w w2 kp f m = absurd f
  shop_same r own _ (Placed p) w w2 kp f m = absurd f
  shop_same r own p _ w w2 kp f m = m

  dist_same : (r : Request) (own : List Own) (p : Phase) (x : What) (w w2 : World) → Keeps s.setup r own p → Fits s.setup r (due_at s.setup r p) x → MovesDist s.setup (need_at s.setup r p) x w w2 → MovesDist s.setup (need_of s.setup r own) x w w2
  dist_same r own (AtDist work) (Dist d) w w2 kp f m = (
    m.0,
    m.1,
    m.2,
    subst (λ v. IfTold (s.setup.dist v.found.key w.dists v.found.outputs) (λ b. d ≡ b)) (sym kp.has.job_is) m.3,
    subst (λ v. w2.dists ≡ and_one w.dists (v.found.key, d)) (sym kp.has.job_is) m.4,
  )
  dist_same r own (AtWrite b (l ∷ ls) g ending) (Dist d) w w2 kp f m = absurd (start_is s.setup r (kind_at s.setup.levels l) l b (Dist d) f)
  dist_same r own (AtWrite b [] g ending) (Dist d) w w2 kp f m = absurd f
  dist_same r own (PrePut b (l ∷ ls) g) (Dist d) w w2 kp f m = absurd f
  dist_same r own (PrePut b [] g) (Dist d) w w2 kp f m = absurd f
  dist_same r own _ (Dist d) w w2 kp f m = absurd f
  dist_same r own p _ w w2 kp f m = m

  moves_same : (r : Request) (own : List Own) (p : Phase) (x : What) (z : ℕ → ℕ) (w w2 : World) → Keeps s.setup r own p → Fits s.setup r (due_at s.setup r p) x → Moves s.setup (need_at s.setup r p) z x w w2 → Moves s.setup (need_of s.setup r own) z x w w2
  moves_same r own p x z w w2 kp f m = record { moment = m.moment; levels = levels_same r own p x z w w2 kp f m.levels; shop = shop_same r own p x w w2 kp f m.shop; dist = dist_same r own p x w w2 kp f m.dist }

  -- of its owner a handed write's event needs the mark alone
  write_levels : (n n2 : Need) (x : What) (z : ℕ → ℕ) (w w2 : World) → n.mark ≡ n2.mark → MovesLevels s.setup n z x w w2 → MovesLevels s.setup n2 z x w w2
  write_levels n n2 (Committed l k b how) z w w2 e m = subst (λ v. MovesAt s.setup l (z l) v (Committed l k b how) w w2) e m
  write_levels n n2 _ z w w2 e m = m

  write_shop : (n n2 : Need) (x : What) (w w2 : World) → IsWrite x → MovesShop s.setup n x w w2 → MovesShop s.setup n2 x w w2
  write_shop n n2 (Ran a) w w2 iw m = absurd iw
  write_shop n n2 (Placed p) w w2 iw m = absurd iw
  write_shop n n2 _ w w2 iw m = m

  write_dist : (n n2 : Need) (x : What) (w w2 : World) → IsWrite x → MovesDist s.setup n x w w2 → MovesDist s.setup n2 x w w2
  write_dist n n2 (Dist d) w w2 iw m = absurd iw
  write_dist n n2 (Keyed first client step) w w2 iw m = absurd iw
  write_dist n n2 _ w w2 iw m = m

  moves_write : (n n2 : Need) (x : What) (z : ℕ → ℕ) (w w2 : World) → IsWrite x → n.mark ≡ n2.mark → Moves s.setup n z x w w2 → Moves s.setup n2 z x w w2
  moves_write n n2 x z w w2 iw e m = record { moment = m.moment; levels = write_levels n n2 x z w w2 e m.levels; shop = write_shop n n2 x w w2 iw m.shop; dist = write_dist n n2 x w w2 iw m.dist }

  -- an event that moves no part
  abbrev IsStill : What → Type 0
  IsStill Idle = Unit {0}
  IsStill (Taken c b) = Unit {0}
  IsStill (Closed c) = Unit {0}
  IsStill (Passed k) = Unit {0}
  IsStill _ = ⊥

  still_moves : (n : Need) (z : ℕ → ℕ) (x : What) (w w2 : World) → IsStill x → w2 ≡ w → Moves s.setup n z x w w2
  still_moves n z Idle w w2 is e = record { moment = ap (λ v. v.moment) e; levels = ap (λ v. v.levels) e; shop = (ap (λ v. v.runs) e, ap (λ v. v.placings) e, ap (λ v. v.shop_faults) e); dist = (ap (λ v. v.container) e, (ap (λ v. v.dists) e, ap (λ v. v.dist_faults) e)) }
  still_moves n z (Taken c b) w w2 is e = record { moment = ap (λ v. v.moment) e; levels = ap (λ v. v.levels) e; shop = (ap (λ v. v.runs) e, ap (λ v. v.placings) e, ap (λ v. v.shop_faults) e); dist = (ap (λ v. v.container) e, (ap (λ v. v.dists) e, ap (λ v. v.dist_faults) e)) }
  still_moves n z (Closed c) w w2 is e = record { moment = ap (λ v. v.moment) e; levels = ap (λ v. v.levels) e; shop = (ap (λ v. v.runs) e, ap (λ v. v.placings) e, ap (λ v. v.shop_faults) e); dist = (ap (λ v. v.container) e, (ap (λ v. v.dists) e, ap (λ v. v.dist_faults) e)) }
  still_moves n z (Passed k) w w2 is e = record { moment = ap (λ v. v.moment) e; levels = ap (λ v. v.levels) e; shop = (ap (λ v. v.runs) e, ap (λ v. v.placings) e, ap (λ v. v.shop_faults) e); dist = (ap (λ v. v.container) e, (ap (λ v. v.dists) e, ap (λ v. v.dist_faults) e)) }
  still_moves n z _ w w2 is e = absurd is

  -- the parts' world moves as the trace tells
  module _ (t : List Event) (m : Machine) (h : Tie s t m) where
    serve_moves : (c z : ℕ) (o : Owner) (x : What) (m2 : Machine) → DoesServe s.setup m c z o x m2 → Moves s.setup (need_of s.setup (request_of s o) (own_of o t)) (λ l. reserved_at l (reservations t)) x (at_moment m.world (ticked m.world.moment x)) m2.world
    serve_moves c z Nobody Idle m2 g = still_moves _ _ Idle _ m2.world tt (ap (λ v. v.world) g.1)
    serve_moves c z (OfRequest d j) x m2 g =
        let k = conn m c in
        let tie = h.conns c in
        let w0 = at_moment m.world (ticked m.world.moment x) in
        let cur = current_is s (input s c) (about c t) k tie g.3 in
        let f = subst (λ v. Fits s.setup v (due_at s.setup v k.phase) x) cur g.4 in
        let a = moves_same (request (all s c) k.at) (owned k.at (about c t)) k.phase x (λ l. reserved_at l m.reserved) w0 g.7.0 tie.holds.ties.keeps f (subst (λ v. Moves s.setup (need_at s.setup v k.phase) (λ l. reserved_at l m.reserved) x w0 g.7.0) cur g.7.1) in
        let b : Moves s.setup (need_of s.setup (request (all s c) k.at) (owned k.at (about c t))) (λ l. reserved_at l (reservations t)) x w0 g.7.0 = subst (λ v. Moves s.setup (need_of s.setup (request (all s c) k.at) (owned k.at (about c t))) (λ l. reserved_at l v) x w0 g.7.0) h.reserved a in
        let q : Moves s.setup (need_of s.setup (request (all s d) j) (owned j (about d t))) (λ l. reserved_at l (reservations t)) x w0 g.7.0 =
        subst (λ v. Moves s.setup (need_of s.setup (request (all s v) j) (owned j (about v t))) (λ l. reserved_at l (reservations t)) x w0 g.7.0) (sym g.0) (subst (λ v. Moves s.setup (need_of s.setup (request (all s c) v) (owned v (about c t))) (λ l. reserved_at l (reservations t)) x w0 g.7.0) (sym g.2) b) in
        subst (λ v. Moves s.setup (need_of s.setup (request (all s d) j) (owned j (about d t))) (λ l. reserved_at l (reservations t)) x w0 v.world) (sym g.7.2) q
    serve_moves c z _ x m2 g = absurd g

    read_moves : (c n : ℕ) (o : Owner) (x : What) (m2 : Machine) → DoesRead s m c n o x m2 → Moves s.setup (need_of s.setup (request_of s o) (own_of o t)) (λ l. reserved_at l (reservations t)) x (at_moment m.world (ticked m.world.moment x)) m2.world
    read_moves c n Nobody Idle m2 g = still_moves _ _ Idle _ m2.world tt (ap (λ v. v.world) g.1)
    read_moves c n Nobody (Taken d bytes) m2 g = still_moves _ _ (Taken d bytes) _ m2.world tt (ap (λ v. v.world) g.5)
    read_moves c n Nobody (Closed d) m2 g = still_moves _ _ (Closed d) _ m2.world tt (ap (λ v. v.world) g.5)
    read_moves c n _ x m2 g = absurd g

    back_moves : (i z : ℕ) (o : Owner) (x : What) (m2 : Machine) → DoesBack s.setup m i z o x m2 → Moves s.setup (need_of s.setup (request_of s o) (own_of o t)) (λ l. reserved_at l (reservations t)) x (at_moment m.world (ticked m.world.moment x)) m2.world
    back_moves i z Nobody Idle m2 g = still_moves _ _ Idle _ m2.world tt (ap (λ v. v.world) g.1)
    back_moves i z (OfWrite n) x m2 g =
        let w0 = at_moment m.world (ticked m.world.moment x) in
        let p = g.0 in
        let mark : mark_of (stage_fills p.stage p.handed.marked) ≡ entry_mark (written n t) = ap mark_of (sym (back_due s.setup t m.background m.handed i p h.back g.1).2) ∙ ap (λ v. entry_mark (written v t)) (sym g.2) in
        let a = moves_write (need_back s.setup p) (need_of s.setup no_request (written n t)) x (λ l. reserved_at l m.reserved) w0 g.4.0 (pending_writes s.setup p x g.3) mark g.4.1 in
        let b : Moves s.setup (need_of s.setup no_request (written n t)) (λ l. reserved_at l (reservations t)) x w0 g.4.0 = subst (λ v. Moves s.setup (need_of s.setup no_request (written n t)) (λ l. reserved_at l v) x w0 g.4.0) h.reserved a in
        subst (λ v. Moves s.setup (need_of s.setup no_request (written n t)) (λ l. reserved_at l (reservations t)) x w0 v.world) (sym g.4.2) b
    back_moves i z _ x m2 g = absurd g

    pass_moves : (n : ℕ) (o : Owner) (x : What) (m2 : Machine) → DoesPass m n o x m2 → Moves s.setup (need_of s.setup (request_of s o) (own_of o t)) (λ l. reserved_at l (reservations t)) x (at_moment m.world (ticked m.world.moment x)) m2.world
    pass_moves n Nobody (Passed k) m2 g = still_moves _ _ (Passed k) _ m2.world tt (ap (λ v. v.world) g.1 ∙ ap (λ v. at_moment m.world (sat m.world.moment v)) (sym g.0))
    pass_moves n _ x m2 g = absurd g

    step_moves : (p : Step) (z : ℕ) (o : Owner) (x : What) (m2 : Machine) → DoesStep s m p z o x m2 → Moves s.setup (need_of s.setup (request_of s o) (own_of o t)) (λ l. reserved_at l (reservations t)) x (at_moment m.world (ticked m.world.moment x)) m2.world
    step_moves (Read c n) z o x m2 g = read_moves c n o x m2 g
    step_moves (Serve c) z o x m2 g = serve_moves c z o x m2 g
    step_moves (Back i) z o x m2 g = back_moves i z o x m2 g
    step_moves (Pass n) z o x m2 g = pass_moves n o x m2 g

  -- what holds after each event
  pub record Good (start : World) (ps : List Step) (t : List Event) (m : Machine) : Type 0 where
    pub tie : Tie s t m
    pub leads : Leads s start ps t m.world
    pub ordered : Each (IsInOrder s) t
    pub finished : Each (IsFinished s start) t
    pub stored : Each (IsStoredFirst s) t
    pub within : Each (RunsWithin s.setup) t
    pub bytes : BytesWithin s start ps t m.world leads
    pub rightful : Each (IsRightful s start) t
    pub holds : HoldsRightful s start t m.world
    pub hands : HandsRightful s start t

  good_step : ReadsOn s.reader → (start : World) (ps : List Step) (t : List Event) (m : Machine) (p : Step) (e : Event) (m2 : Machine) → Good start ps t m → Does s m p e m2 → Good start (p ∷ ps) (e ∷ t) m2
  good_step on start ps t m p e m2 g d =
      let a = tie_step s t m g.tie on p e.moment e.owner e.what m2 d.1 in
      let lawful : (c n : ℕ) → Lawful s.setup (request (all s c) n) (owned n (about c t)) = λ c n. (g.tie.conns c).holds.lawful n in
      let b : IsWithinBytes s.setup (reservations (e ∷ t)) m2.world = subst (λ v. IsWithinBytes s.setup v m2.world) a.1.reserved d.2 in
      let n = need_of s.setup (request_of s e.owner) (own_of e.owner t) in
      let z : ℕ → ℕ = λ l. reserved_at l (reservations t) in
      let w0 = at_moment m.world (ticked m.world.moment e.what) in
      let mv = step_moves t m g.tie p e.moment e.owner e.what m2 d.1 in
      record {
        rightful = (rightful_step s start t lawful g.hands p n z w0 m2.world e.moment g.holds e.what mv, g.rightful);
        holds = entries_step s start t lawful g.hands p n z w0 m2.world e.moment g.holds e.owner e.what a.0 mv;
        hands = writes_step s start t lawful g.hands p n z w0 m2.world e.moment g.holds e.owner e.what a.0 mv;
        tie = a.1;
        leads = (m.world, g.leads, a.0, (d.0, step_moves t m g.tie p e.moment e.owner e.what m2 d.1, b));
        ordered = (order_step t lawful p e.owner e.what a.0, g.ordered);
        finished = (finish_step t lawful p start g.rightful e.owner e.what a.0, g.finished);
        stored = (stored_step t lawful p e.owner e.what a.0, g.stored);
        within = (omega (arith, a.1.tokens), g.within);
        bytes = (b, g.bytes);
      }

  idle_tie : (m : Machine) → IsIdle s m → Tie s [] m
  idle_tie m i = record {
    conns = λ c. subst (λ v. ConnTie s (input s c) [] v) (sym (i.conns c)) (conn_new s i.reads_on (input s c));
    same_count = i.same_count;
    tokens = omega (arith, i.free);
    stats = i.stats;
    opens = λ c n q. (cc);
    reserved = i.reserved;
    back = subst (λ v. BackTie s.setup [] v m.handed) (sym i.background) (subst (λ v. BackTie s.setup [] [] v) (sym i.handed) (back_new s.setup));
    levels = record { same_length = ap length i.level_stats ∙ i.level_count; is = λ p l. ap (λ v. get_or v l no_level_stats) i.level_stats };
  }

  good_run : (m0 : Machine) (ps : List Step) (t : List Event) (m : Machine) → IsIdle s m0 → Runs s m0 ps t m → Good m0.world ps t m
  good_run m0 [] [] m i e = subst (λ v. Good m0.world [] [] v) (sym e) (record { tie = idle_tie m0 i; leads = refl; ordered = tt; finished = tt; stored = tt; within = tt; bytes = tt; rightful = tt; holds = λ l k b st e. e; hands = λ i k b y. y })
  good_run m0 (p ∷ ps) (e ∷ t) m i r = good_step i.reads_on m0.world ps t r.0 p e m (good_run m0 ps t r.0 i r.1) r.2
  good_run m0 [] (e ∷ t) m i r = absurd r
  good_run m0 (p ∷ ps) [] m i r = absurd r

  pub headline : (m0 : Machine) (ps : List Step) (t : List Event) (m : Machine) → IsIdle s m0 → Runs s m0 ps t m → Headline s m0.world ps t m.world (result_of_run s m)
  headline m0 ps t m i r =
      let g = good_run m0 ps t m i r in
      let on = i.reads_on in
      record {
        leads = g.leads;
        taken_bytes = λ c. ((g.tie.conns c).left, (g.tie.conns c).bytes);
        ends = λ c l. get_map (end_at s) m.conns c new_conn IsOpen (omega (arith, l, g.tie.same_count))
            ∙ ap (λ v. if_too_long v (s.reader.ends (conn m c).rest (conn m c).closed)) (sym (g.tie.conns c).long)
            ∙ ap (λ v. if_too_long (too_long (about c t)) (s.reader.ends v (conn m c).closed)) (sym (g.tie.conns c).rest)
            ∙ ap (λ v. if_too_long (too_long (about c t)) v) (sym (on.ends (taken (about c t)) (conn m c).closed))
            ∙ ap (λ v. if_too_long (too_long (about c t)) (s.reader.ends (taken (about c t)) v)) (sym (g.tie.conns c).closed);
        replies = λ c l. get_map (λ (k : Conn). k.out) m.conns c new_conn [] (omega (arith, l, g.tie.same_count)) ∙ sym (g.tie.conns c).out;
        each_connection = (length-map m.conns (end_at s) ∙ g.tie.same_count, length-map m.conns (λ (k : Conn). k.out) ∙ g.tie.same_count);
        each_level = shown_count s.setup.policy m.level_stats s.setup.levels g.tie.levels.same_length;
        sends = λ c. conn_prefix s (input s c) (about c t) (conn m c) (g.tie.conns c);
        in_order = g.ordered;
        answered = λ c h. conn_answered s i.one_level (input s c) (about c t) (conn m c) (g.tie.conns c) h;
        finishes = λ c h.
            ⊎_elim (λ (q : ((conn m c).at < length (came s c t)) × Ended (due_of s.setup (all s c) (conn m c).at (about c t))). inl (
              (conn m c).at,
              record {
                came = q.0;
                unfinished = λ e. (g.tie.conns c).unfinished (request (all s c) (conn m c).at) (sym (g.tie.conns c).holds.ties.is_due ∙ e);
                before = (g.tie.conns c).holds.before;
              },
              q.1,
            ))
            (λ (q : (n : ℕ) → n < length (came s c t) → due_of s.setup (all s c) n (about c t) ≡ Over). inr q)
            (conn_finishes s i.one_level (input s c) (about c t) (conn m c) (g.tie.conns c) (subst (λ v. allowed s.setup (length (came s c t)) (about c t) ≤ v) (serves_are s c m0.world ps t m.world g.leads) h));
        finished = g.finished;
        rightful = g.rightful;
        stored_first = g.stored;
        bytes_within = g.bytes;
        runs_within = g.within;
        counted = g.tie.stats;
        levels_counted = λ p l q. ap (λ v. get_or v l no_level_stats) (shown_is s.setup.policy m.level_stats p) ∙ g.tie.levels.is p l;
        tokens = g.tie.tokens;
        own_events = λ c n. few_events s.setup i.one_level (request (all s c) n) (owned n (about c t)) ((g.tie.conns c).holds.lawful n);
        background = handed_same m.background ∙ ap (map (λ (v : Given). v.handed)) g.tie.back.same;
      }
