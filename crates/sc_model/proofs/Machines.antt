-- The machine: its state is what the trace tells, and each event is one that may come next.
use Rattle.std.proofs.Common.{◌≡◌, ℕ, zero, suc, ◌+◌, ◌<◌, ◌≤◌, ◌⊎◌, ⊎_elim, inl, inr, Bool, true, false, cond, eqb, List, [], ◌∷◌, length, take, drop, map, Some, None, refl, sym, ap, ◌∙◌, subst, arith, get_or, set, get_or-set_same, get_or-set_other}
use Rattle.sc_model.proofs.Backs.{Apart, BackTie, IsWrite, Stages, above_at, back_due, back_length, back_more, back_nth, back_step, pending_writes}
use Rattle.sc_model.proofs.Conns.{ConnTie, conn_came, conn_did, conn_shut, current_is, first_only, first_waits, is_first, owned_other, owned_same}
use Rattle.sc_model.proofs.Counters.{length_set, policy_length, policy_row, row_back}
use Rattle.sc_model.proofs.Tokens.{Opens, opened_keeps, opened_own, tokens_step}
use Rattle.sc_model.specs.Dues.{ToRun, ToTake}
use Rattle.sc_model.specs.Follows.{Fits, due, due_back}
use Rattle.sc_model.specs.Job.{At, fills_of}
use Rattle.sc_model.specs.Conns.{Conn, advanced, current, more, new_conn, shut}
use Rattle.sc_model.specs.DueAt.{due_at}
use Rattle.sc_model.specs.Machine.{DoesBack, DoesPass, DoesRead, DoesServe, DoesStep, IsStopped, Machine, NoMore, Says, backed, conn, counters_at, served}
use Rattle.sc_model.specs.Pendings.{due_pending, given_of, pending_at}
use Rattle.sc_model.specs.Next.{Ended, HasEnded, IsDone, IsFirst, NextBack, NextPass, NextRead, NextServe, NextStep, Tells, Waits, at_moment, due_of}
use Rattle.sc_model.specs.Rows.{Direct, by_backfill, count, find_given, is_at, last_at, level_named, level_row, level_total, outcome_at, put_origin, reserved_since, row, total, zeroes}
use Rattle.sc_model.specs.Script.{BadFrame, ReadsOn, Script, Setup, input, is_single}
use Rattle.sc_model.specs.Trace.{Came, Did, Mine, Shut, about, all, given, is_closed, left_writes, mine, no_request, open_runs, opened, owned, request, reservations, reserved_by, taken, written}
use Rattle.sc_model.specs.World.{World}
use Rattle.sc_model.specs.declared.event.Answer.TheVariants.{Size as SizeIs}
use Rattle.sc_model.specs.declared.event.Event.{Event}
use Rattle.sc_model.specs.declared.event.Mode.TheVariants.{Size as Sizes}
use Rattle.sc_model.specs.declared.event.Owner.{Owner}
use Rattle.sc_model.specs.declared.event.Owner.TheVariants.{Nobody, Request as OfRequest, Write as OfWrite}
use Rattle.sc_model.specs.declared.event.Step.{Step}
use Rattle.sc_model.specs.declared.event.Step.TheVariants.{Back, Pass, Read, Serve}
use Rattle.sc_model.specs.declared.event.Told.TheVariants.{Stats as TellsStats}
use Rattle.sc_model.specs.declared.event.What.{What}
use Rattle.sc_model.specs.declared.event.What.TheVariants.{Asked, Began, Closed, Idle, Passed, Taken}
use Rattle.sc_model.specs.declared.level.Policy.{Policy}
use Rattle.sc_model.specs.declared.level.Policy.TheVariants.{Levels, Single}
use Rattle.sc_model.specs.declared.phase.Pending.{Pending}
use Rattle.sc_stats.specs.declared.counters.LevelStats.{LevelStats}
use Rattle.std.proofs.lemmas.Bool.{cases_eq, eq-eqb, ne_eqb}
use Rattle.std.proofs.lemmas.List.{append-nil}
use Rattle.sc_stats.specs.Sums.{add_level, no_level_stats, sat}

about_of : (c n z : ℕ) (x : What) (u : List Mine) → mine c (OfRequest c n) z x u ≡ Did n z x ∷ u
about_of c n z x u = ap (λ b. cond b (Did n z x ∷ u) u) (eq-eqb c c refl)

about_other : (c d n z : ℕ) (x : What) (u : List Mine) → (d ≡ c → ⊥) → mine c (OfRequest d n) z x u ≡ u
about_other c d n z x u h = ap (λ b. cond b (Did n z x ∷ u) u) (ne_eqb d c h)

about_taken : (c z : ℕ) (bytes : List ℕ) (u : List Mine) → mine c Nobody z (Taken c bytes) u ≡ Came bytes ∷ u
about_taken c z bytes u = ap (λ b. cond b (Came bytes ∷ u) u) (eq-eqb c c refl)

about_taken_other : (c d z : ℕ) (bytes : List ℕ) (u : List Mine) → (d ≡ c → ⊥) → mine c Nobody z (Taken d bytes) u ≡ u
about_taken_other c d z bytes u h = ap (λ b. cond b (Came bytes ∷ u) u) (ne_eqb d c h)

about_closed : (c z : ℕ) (u : List Mine) → mine c Nobody z (Closed c) u ≡ Shut ∷ u
about_closed c z u = ap (λ b. cond b (Shut ∷ u) u) (eq-eqb c c refl)

about_closed_other : (c d z : ℕ) (u : List Mine) → (d ≡ c → ⊥) → mine c Nobody z (Closed d) u ≡ u
about_closed_other c d z u h = ap (λ b. cond b (Shut ∷ u) u) (ne_eqb d c h)

owned_came : (b : Bool) (i : ℕ) (bytes : List ℕ) (u : List Mine) → owned i (cond b (Came bytes ∷ u) u) ≡ owned i u
owned_came true i bytes u = refl
owned_came false i bytes u = refl

owned_shut : (b : Bool) (i : ℕ) (u : List Mine) → owned i (cond b (Shut ∷ u) u) ≡ owned i u
owned_shut true i u = refl
owned_shut false i u = refl

-- one connection changes, and the others stay
update : (P : ℕ → Conn → Type 0) (cs : List Conn) (c : ℕ) (k : Conn) → c < length cs → P c k → ((j : ℕ) → (c ≡ j → ⊥) → P j (get_or cs j new_conn)) → (j : ℕ) → P j (get_or (set cs c k) j new_conn)
update P cs c k l here other j =
    ⊎_elim (λ (e : c ≡ j). subst (λ i. P i (get_or (set cs c k) i new_conn)) e (subst (λ v. P c v) (sym (get_or-set_same cs c k new_conn l)) here))
    (λ (d : c ≡ j → ⊥). subst (λ v. P j v) (sym (get_or-set_other cs c j k new_conn (λ e. d (sym e)))) (other j d)) (cases_eq c j)

pub record LevelTie (s : Script) (t : List Event) (ls : List LevelStats) : Type 0 where
  pub same_length : length ls ≡ length s.setup.levels
  pub is : is_single s.setup.policy ≡ false → (l : ℕ) → get_or ls l no_level_stats ≡ level_total s t l

pub record Tie (s : Script) (t : List Event) (m : Machine) : Type 0 where
  pub conns : (c : ℕ) → ConnTie s (input s c) (about c t) (conn m c)
  pub same_count : length m.conns ≡ length s.inputs
  pub tokens : m.free + length (open_runs t) ≡ s.setup.tokens
  pub stats : m.stats ≡ total s t
  pub opens : (c n : ℕ) → due_of s.setup (all s c) n (about c t) ≡ ToRun → Opens c n (open_runs t)
  pub reserved : m.reserved ≡ reservations t
  pub back : BackTie s.setup t m.background m.handed
  pub levels : LevelTie s t m.level_stats

stages_same : (s : Setup) (t : List Event) (e : Event) (ps : List Pending) → ((i : ℕ) → written i (e ∷ t) ≡ written i t) → Stages s t ps → Stages s (e ∷ t) ps
stages_same s t e [] w h = tt
stages_same s t e (p ∷ ps) w h = (ap (due_back s.levels p.handed) (w p.number) ∙ h.0, ap reserved_since (w p.number) ∙ h.1, ap fills_of (w p.number) ∙ h.2, stages_same s t e ps w h.3)

-- nothing is handed, and nothing done
back_quiet : (s : Setup) (t : List Event) (e : Event) (ps : List Pending) (n : ℕ) → ((i : ℕ) → written i (e ∷ t) ≡ written i t) → left_writes (e ∷ t) ≡ left_writes t → given (e ∷ t) ≡ given t → BackTie s t ps n → BackTie s (e ∷ t) ps n
back_quiet s t e ps n w l g h = record {
  same = h.same ∙ sym l;
  handed = h.handed ∙ sym (ap length g);
  below = h.below;
  apart = h.apart;
  stages = stages_same s t e ps w h.stages;
  none = λ i k. w i ∙ h.none i k;
}

ev : ℕ → Owner → What → Event
ev z o x = record { moment = z; owner = o; what = x }

module _ (s : Script) (t : List Event) (m : Machine) (h : Tie s t m) where
  tie_idle : (z : ℕ) → Tie s (record { moment = z; owner = Nobody; what = Idle } ∷ t) m
  tie_idle z = record {
    conns = h.conns;
    same_count = h.same_count;
    tokens = h.tokens;
    stats = h.stats;
    opens = h.opens;
    reserved = h.reserved;
    back = back_quiet s.setup t _ m.background m.handed (λ i. refl) (append-nil (left_writes t)) (append-nil (given t)) h.back;
    levels = record { same_length = h.levels.same_length; is = λ p l. h.levels.is p l };
  }

  tie_passed : (z n : ℕ) (w : World) → Tie s (record { moment = z; owner = Nobody; what = Passed n } ∷ t) (record m { world = w })
  tie_passed z n w = record {
    conns = h.conns;
    same_count = h.same_count;
    tokens = h.tokens;
    stats = h.stats;
    opens = h.opens;
    reserved = h.reserved;
    back = back_quiet s.setup t _ m.background m.handed (λ i. refl) (append-nil (left_writes t)) (append-nil (given t)) h.back;
    levels = record { same_length = h.levels.same_length; is = λ p l. h.levels.is p l };
  }

  tie_taken : ReadsOn s.reader → (z c n : ℕ) (bytes : List ℕ) → c < length m.conns → bytes ≡ take n (drop (conn m c).got (input s c)) → Tie s (record { moment = z; owner = Nobody; what = Taken c bytes } ∷ t) (record m { conns = set m.conns c (more s (conn m c) bytes) })
  tie_taken on z c n bytes l e = record {
    conns = update (λ j k. ConnTie s (input s j) (mine j Nobody z (Taken c bytes) (about j t)) k) m.conns c (more s (conn m c) bytes) l
        (subst (λ v. ConnTie s (input s c) v (more s (conn m c) bytes)) (sym (about_taken c z bytes (about c t))) (conn_came s on (input s c) (about c t) (conn m c) bytes n (h.conns c) e))
        (λ j d. subst (λ v. ConnTie s (input s j) v (conn m j)) (sym (about_taken_other j c z bytes (about j t) d)) (h.conns j));
    same_count = length_set m.conns c (more s (conn m c) bytes) ∙ h.same_count;
    tokens = h.tokens;
    stats = h.stats;
    reserved = h.reserved;
    opens = λ j i e. h.opens j i (ap (λ v. due s.setup (request (all s j) i) v) (sym (owned_came (eqb c j) i bytes (about j t))) ∙ e);
    back = back_quiet s.setup t _ m.background m.handed (λ i. refl) (append-nil (left_writes t)) (append-nil (given t)) h.back;
    levels = record { same_length = h.levels.same_length; is = λ p l. h.levels.is p l };
  }

  tie_closed : (z c : ℕ) → c < length m.conns → Tie s (record { moment = z; owner = Nobody; what = Closed c } ∷ t) (record m { conns = set m.conns c (shut (conn m c)) })
  tie_closed z c l = record {
    conns = update (λ j k. ConnTie s (input s j) (mine j Nobody z (Closed c) (about j t)) k) m.conns c (shut (conn m c)) l
        (subst (λ v. ConnTie s (input s c) v (shut (conn m c))) (sym (about_closed c z (about c t))) (conn_shut s (input s c) (about c t) (conn m c) (h.conns c)))
        (λ j d. subst (λ v. ConnTie s (input s j) v (conn m j)) (sym (about_closed_other j c z (about j t) d)) (h.conns j));
    same_count = length_set m.conns c (shut (conn m c)) ∙ h.same_count;
    tokens = h.tokens;
    stats = h.stats;
    reserved = h.reserved;
    opens = λ j i e. h.opens j i (ap (λ v. due s.setup (request (all s j) i) v) (sym (owned_shut (eqb c j) i (about j t))) ∙ e);
    back = back_quiet s.setup t _ m.background m.handed (λ i. refl) (append-nil (left_writes t)) (append-nil (given t)) h.back;
    levels = record { same_length = h.levels.same_length; is = λ p l. h.levels.is p l };
  }

  opens_own : (c n z : ℕ) (x : What) (i : ℕ) → due_of s.setup (all s c) i (mine c (OfRequest c n) z x (about c t)) ≡ ToRun → Opens c i (opened (OfRequest c n) x (open_runs t))
  opens_own c n z x i e =
      let r = request (all s c) i in
      let e1 : due s.setup r (owned i (Did n z x ∷ about c t)) ≡ ToRun = ap (λ v. due s.setup r (owned i v)) (sym (about_of c n z x (about c t))) ∙ e in
      ⊎_elim (λ (q : n ≡ i).
      let e2 : due s.setup r (At z x ∷ owned i (about c t)) ≡ ToRun = ap (λ v. due s.setup r v) (sym (owned_same i z x (about c t))) ∙ subst (λ v. due s.setup r (owned i (Did v z x ∷ about c t)) ≡ ToRun) q e1 in
      subst (λ v. Opens c i (opened (OfRequest c v) x (open_runs t))) (sym q) (opened_own s.setup r z x (owned i (about c t)) c i (open_runs t) e2))
      (λ (d : n ≡ i → ⊥). opened_keeps c n x c i (open_runs t) (λ p. d p.1) (h.opens c i (ap (λ v. due s.setup r v) (sym (owned_other i n z x (about c t) d)) ∙ e1)))
      (cases_eq n i)

  opens_step : (c n z : ℕ) (x : What) (j i : ℕ) → due_of s.setup (all s j) i (mine j (OfRequest c n) z x (about j t)) ≡ ToRun → Opens j i (opened (OfRequest c n) x (open_runs t))
  opens_step c n z x j i e =
      ⊎_elim (λ (q : c ≡ j). subst (λ v. Opens v i (opened (OfRequest c n) x (open_runs t))) q (opens_own c n z x i (subst (λ v. due_of s.setup (all s v) i (mine v (OfRequest c n) z x (about v t)) ≡ ToRun) (sym q) e)))
      (λ (d : c ≡ j → ⊥). opened_keeps c n x j i (open_runs t) (λ p. d p.0) (h.opens j i (ap (λ v. due_of s.setup (all s j) i v) (sym (about_other j c n z x (about j t) d)) ∙ e)))
      (cases_eq c j)

  row_same : (c z : ℕ) (x : What) → 0 < length (conn m c).queue →
      count (zeroes x) m.stats (row s.setup (current (conn m c)) (conn m c).outcome z x) ≡ count (zeroes x) (total s t) (row s.setup (request (all s c) (conn m c).at) (outcome_at (owned (conn m c).at (about c t))) z x)
  row_same c z x l =
      let k = conn m c in
      let tie = h.conns c in
      ap (λ v. count (zeroes x) v (row s.setup (current k) k.outcome z x)) h.stats ∙ ap (λ v. count (zeroes x) (total s t) (row s.setup v k.outcome z x)) (current_is s (input s c) (about c t) k tie l)
      ∙ ap (λ v. count (zeroes x) (total s t) (row s.setup (request (all s c) k.at) v z x)) (sym tie.outcome)

  tie_served : (c z : ℕ) (x : What) → c < length m.conns → 0 < length (conn m c).queue → Fits s.setup (current (conn m c)) (due_at s.setup (current (conn m c)) (conn m c).phase) x → (due_at s.setup (current (conn m c)) (conn m c).phase ≡ ToTake → 0 < m.free) → (w : World)
      → Tie s (record { moment = z; owner = OfRequest c (conn m c).at; what = x } ∷ t) (served s.setup m c z x w)
  tie_served c z x l a f room w =
      let k = conn m c in
      let tie = h.conns c in
      let own = owned k.at (about c t) in
      let cur = current_is s (input s c) (about c t) k tie a in
      record {
        conns = update (λ j i. ConnTie s (input s j) (mine j (OfRequest c k.at) z x (about j t)) i) m.conns c (advanced s.setup k z x) l
            (subst (λ v. ConnTie s (input s c) v (advanced s.setup k z x)) (sym (about_of c k.at z x (about c t))) (conn_did s (input s c) (about c t) k z x tie a f))
            (λ j d. subst (λ v. ConnTie s (input s j) v (conn m j)) (sym (about_other j c k.at z x (about j t) d)) (h.conns j));
        same_count = length_set m.conns c (advanced s.setup k z x) ∙ h.same_count;
        tokens = tokens_step s.setup (current k) (due_at s.setup (current k) k.phase) c k.at x m.free s.setup.tokens (open_runs t) f room
            (λ e. h.opens c k.at (tie.holds.ties.is_due ∙ subst (λ v. due_at s.setup v k.phase ≡ ToRun) cur e)) h.tokens;
        stats = row_same c z x a;
        opens = opens_step c k.at z x;
        reserved = ap (reserved_by (OfRequest c k.at) x) h.reserved;
        back = back_more s.setup t (record { moment = z; owner = OfRequest c k.at; what = x }) m.background m.handed (λ i. refl) refl (stages_same s.setup t (record { moment = z; owner = OfRequest c k.at; what = x }) m.background (λ i. refl) h.back.stages) h.back;
        levels = record {
          same_length = policy_length s.setup.policy (level_row Direct k.last k.reserved z x) x m.level_stats ∙ h.levels.same_length;
          is = λ p l. policy_row s.setup.policy x m.level_stats (length s.setup.levels) l (level_row Direct k.last k.reserved z x) (level_total s t l) p h.levels.same_length (h.levels.is p l)
              ∙ ap (λ v. cond (is_at (length s.setup.levels) l (level_named x)) (add_level (level_total s t l) (level_row Direct v k.reserved z x)) (level_total s t l)) (sym tie.last)
              ∙ ap (λ v. cond (is_at (length s.setup.levels) l (level_named x)) (add_level (level_total s t l) (level_row Direct (last_at own) v z x)) (level_total s t l)) (sym tie.reserved);
        };
      }

  find_at : (i : ℕ) (ps : List Pending) (p : Pending) → pending_at i ps ≡ Some p → Apart ps → find_given p.number (map given_of ps) ≡ by_backfill p.backfill p.at
  find_at i [] p e a = (cc)
  find_at zero (q ∷ qs) p e a =
      let d : q ≡ p = (cc) in
      ap (λ b. cond b (by_backfill q.backfill q.at) (find_given p.number (map given_of qs))) (eq-eqb q.number p.number (ap (λ v. v.number) d)) ∙ ap (λ v. by_backfill v.backfill v.at) d
  find_at (suc i) (q ∷ qs) p e a =
      let l = above_at q.number i qs p a.0 e in
      ap (λ b. cond b (by_backfill q.backfill q.at) (find_given p.number (map given_of qs))) (ne_eqb q.number p.number (λ z. omega (arith, l, z))) ∙ find_at i qs p e a.1

  tie_backed : (i z : ℕ) (p : Pending) (x : What) (w : World) → pending_at i m.background ≡ Some p → IsWrite x → Fits s.setup no_request (due_pending s.setup.levels p) x
      → Tie s (record { moment = z; owner = OfWrite p.number; what = x } ∷ t) (backed s.setup m i p z x w)
  tie_backed i z p x w e iw f =
      let origin : put_origin (OfWrite p.number) t ≡ by_backfill p.backfill p.at = ap (find_given p.number) (sym h.back.same) ∙ find_at i m.background p e h.back.apart in
      let since = (back_due s.setup t m.background m.handed i p h.back e).1 in
      record {
        conns = h.conns;
        same_count = h.same_count;
        tokens = h.tokens;
        stats = h.stats;
        opens = h.opens;
        reserved = ap (reserved_by (OfWrite p.number) x) h.reserved;
        back = back_step s.setup t m.background m.handed i z x p e iw f h.back;
        levels = record {
          same_length = policy_length s.setup.policy (level_row (by_backfill p.backfill p.at) 0 p.since z x) x m.level_stats ∙ h.levels.same_length;
          is = λ q l. policy_row s.setup.policy x m.level_stats (length s.setup.levels) l (level_row (by_backfill p.backfill p.at) 0 p.since z x) (level_total s t l) q h.levels.same_length (h.levels.is q l)
              ∙ ap (λ v. cond (is_at (length s.setup.levels) l (level_named x)) (add_level (level_total s t l) v) (level_total s t l))
              (row_back p.backfill p.at (last_at (written p.number t)) p.since z x iw ∙ ap (λ v. level_row (by_backfill p.backfill p.at) (last_at (written p.number t)) v z x) (sym since)
              ∙ ap (λ v. level_row v (last_at (written p.number t)) (reserved_since (written p.number t)) z x) (sym origin));
        };
      }

  -- what waits is the request that is served
  waits_is : (c : ℕ) → Waits s t c → (0 < length (conn m c).queue) × (due_at s.setup (current (conn m c)) (conn m c).phase ≡ ToTake) × (m.free ≡ 0)
  waits_is c w =
      let tie = h.conns c in
      let k = conn m c in
      let q = first_waits s (input s c) (about c t) k w.0 tie w.1 in
      let e = first_only s (input s c) (about c t) k w.0 tie w.1 in
      (q, subst (λ v. due_at s.setup v k.phase ≡ ToTake) (sym (current_is s (input s c) (about c t) k tie q)) (sym tie.holds.ties.is_due ∙ subst (λ v. due_of s.setup (all s c) v (about c t) ≡ ToTake) e w.2), omega (arith, h.tokens, w.3))

  stopped_has : (c : ℕ) → IsStopped m s.setup c → HasEnded s t c
  stopped_has c i =
      let tie = h.conns c in
      let k = conn m c in
      (k.at, is_first s (input s c) (about c t) k tie i.0, subst Ended (sym tie.holds.ties.is_due) (subst (λ v. Ended (due_at s.setup v k.phase)) (current_is s (input s c) (about c t) k tie i.0) i.1))

  has_stopped : (c : ℕ) → HasEnded s t c → IsStopped m s.setup c
  has_stopped c i =
      let tie = h.conns c in
      let k = conn m c in
      let q = first_waits s (input s c) (about c t) k i.0 tie i.1 in
      let e = first_only s (input s c) (about c t) k i.0 tie i.1 in
      (q, subst (λ v. Ended (due_at s.setup v k.phase)) (sym (current_is s (input s c) (about c t) k tie q)) (subst Ended tie.holds.ties.is_due (subst (λ v. Ended (due_of s.setup (all s c) v (about c t))) e i.2)))

  done_of : ReadsOn s.reader → (c : ℕ) → NoMore s m c → IsDone s t c
  done_of on c n =
      let tie = h.conns c in
      ⊎_elim (λ (y : ((conn m c).closed ≡ true) ⊎ (s.reader.ends (conn m c).rest false ≡ BadFrame)).
      inl (⊎_elim (λ (a : (conn m c).closed ≡ true). inl (tie.closed ∙ a)) (λ (a : s.reader.ends (conn m c).rest false ≡ BadFrame). inr (on.ends (taken (about c t)) false ∙ ap (λ v. s.reader.ends v false) tie.rest ∙ a)) y))
      (λ (y : IsStopped m s.setup c). inr (stopped_has c y)) n

  of_done : ReadsOn s.reader → (c : ℕ) → IsDone s t c → NoMore s m c
  of_done on c n =
      let tie = h.conns c in
      ⊎_elim (λ (y : (is_closed (about c t) ≡ true) ⊎ (s.reader.ends (taken (about c t)) false ≡ BadFrame)).
      inl (⊎_elim (λ (a : is_closed (about c t) ≡ true). inl (sym tie.closed ∙ a)) (λ (a : s.reader.ends (taken (about c t)) false ≡ BadFrame). inr (ap (λ v. s.reader.ends v false) (sym tie.rest) ∙ sym (on.ends (taken (about c t)) false) ∙ a)) y))
      (λ (y : HasEnded s t c). inr (has_stopped c y)) n

  counters_same : (p : Policy) (l : ℕ) → p ≡ s.setup.policy → counters_at p m.level_stats l ≡ cond (is_single p) None (Some (level_total s t l))
  counters_same Single l e = refl
  counters_same (Levels ps) l e = ap Some (h.levels.is (ap is_single (sym e)) l)

  says_tells : (x : What) → Says s.setup m x → Tells s t x
  says_tells (Began q (TellsStats stats)) g = g ∙ h.stats
  says_tells (Began q _) g = tt
  says_tells (Asked l k Sizes (SizeIs n c) hs) g = g ∙ counters_same s.setup.policy l refl
  says_tells (Asked l k Sizes _ hs) g = tt
  says_tells (Asked l k _ a hs) g = tt
  says_tells _ g = tt

  serve_step : (c z : ℕ) (o : Owner) (x : What) (m2 : Machine) → DoesServe s.setup m c z o x m2 → NextServe s t c o x × Tie s (record { moment = z; owner = o; what = x } ∷ t) m2
  serve_step c z Nobody Idle m2 g =
      let tie = h.conns c in
      let k = conn m c in (
        ⊎_elim (λ (y : (length k.queue ≡ 0) ⊎ IsStopped m s.setup c).
            inl (⊎_elim (λ (e : length k.queue ≡ 0). inl (λ n f. let q = first_waits s (input s c) (about c t) k n tie f in omega (arith, e, q))) (λ (i : IsStopped m s.setup c). inr (stopped_has c i)) y))
            (λ (y : (0 < length k.queue) × (due_at s.setup (current k) k.phase ≡ ToTake) × (m.free ≡ 0)).
            inr (k.at, is_first s (input s c) (about c t) k tie y.0, tie.holds.ties.is_due ∙ subst (λ v. due_at s.setup v k.phase ≡ ToTake) (current_is s (input s c) (about c t) k tie y.0) y.1, omega (arith, h.tokens, y.2))) g.0,
        subst (λ v. Tie s (record { moment = z; owner = Nobody; what = Idle } ∷ t) v) (sym g.1) (tie_idle z),
      )
  serve_step c z (OfRequest d j) x m2 g =
      let tie = h.conns c in
      let k = conn m c in
      let cur = current_is s (input s c) (about c t) k tie g.3 in
      let first = is_first s (input s c) (about c t) k tie g.3 in
      let f : Fits s.setup (request (all s c) k.at) (due_of s.setup (all s c) k.at (about c t)) x = subst (λ v. Fits s.setup (request (all s c) k.at) v x) (sym tie.holds.ties.is_due) (subst (λ v. Fits s.setup v (due_at s.setup v k.phase) x) cur g.4) in
      let room : Waits s t c → ⊥ = λ w. let q = waits_is c w in omega (arith, g.5 q.1, q.2) in (
        (g.0, subst (λ v. IsFirst s (all s c) (about c t) v) (sym g.2) first, subst (λ v. Fits s.setup (request (all s c) v) (due_of s.setup (all s c) v (about c t)) x) (sym g.2) f, room, says_tells x g.6),
        subst (λ v. Tie s (record { moment = z; owner = OfRequest v j; what = x } ∷ t) m2) (sym g.0) (subst (λ v. Tie s (record { moment = z; owner = OfRequest c v; what = x } ∷ t) m2) (sym g.2)
            (subst (λ v. Tie s (record { moment = z; owner = OfRequest c k.at; what = x } ∷ t) v) (sym g.7.2) (tie_served c z x g.1 g.3 g.4 g.5 g.7.0))),
      )
  serve_step c z _ x m2 g = absurd g

  read_step : ReadsOn s.reader → (c n z : ℕ) (o : Owner) (x : What) (m2 : Machine) → DoesRead s m c n o x m2 → NextRead s t c n o x × Tie s (record { moment = z; owner = o; what = x } ∷ t) m2
  read_step on c n z Nobody Idle m2 g = (
    ⊎_elim (λ (y : (n ≡ 0) ⊎ (length s.inputs ≤ c)). inl y) (λ (y : NoMore s m c). inr (done_of on c y)) g.0,
    subst (λ v. Tie s (record { moment = z; owner = Nobody; what = Idle } ∷ t) v) (sym g.1) (tie_idle z),
  )
  read_step on c n z Nobody (Taken d bytes) m2 g = (
    (g.0, omega (arith, g.1, h.same_count), (λ i. g.2 (of_done on c i)), subst (λ v. bytes ≡ take n (drop v (input s c))) (sym (h.conns c).got) g.3, g.4),
    subst (λ v. Tie s (record { moment = z; owner = Nobody; what = Taken v bytes } ∷ t) m2) (sym g.0) (subst (λ v. Tie s (record { moment = z; owner = Nobody; what = Taken c bytes } ∷ t) v) (sym g.5) (tie_taken on z c n bytes g.1 g.3)),
  )
  read_step on c n z Nobody (Closed d) m2 g = (
    (g.0, omega (arith, g.1, h.same_count), (λ i. g.2 (of_done on c i)), g.3, subst (λ v. length (input s c) ≤ v) (sym (h.conns c).got) g.4),
    subst (λ v. Tie s (record { moment = z; owner = Nobody; what = Closed v } ∷ t) m2) (sym g.0) (subst (λ v. Tie s (record { moment = z; owner = Nobody; what = Closed c } ∷ t) v) (sym g.5) (tie_closed z c g.1)),
  )
  read_step on c n z _ x m2 g = absurd g

  back_does : (i z : ℕ) (o : Owner) (x : What) (m2 : Machine) → DoesBack s.setup m i z o x m2 → NextBack s.setup t i o x × Tie s (record { moment = z; owner = o; what = x } ∷ t) m2
  back_does i z Nobody Idle m2 g =
      (omega (arith, g.0, back_length s.setup t m.background m.handed h.back), subst (λ v. Tie s (record { moment = z; owner = Nobody; what = Idle } ∷ t) v) (sym g.1) (tie_idle z))
  back_does i z (OfWrite n) x m2 g =
      let p = g.0 in
      let d = (back_due s.setup t m.background m.handed i p h.back g.1).0 in
      let f : Fits s.setup no_request (due_back s.setup.levels p.handed (written p.number t)) x = subst (λ v. Fits s.setup no_request v x) (sym d) g.3 in (
        (given_of p, back_nth s.setup t m.background m.handed i p h.back g.1, g.2, subst (λ v. Fits s.setup no_request (due_back s.setup.levels p.handed (written v t)) x) (sym g.2) f),
        subst (λ v. Tie s (record { moment = z; owner = OfWrite v; what = x } ∷ t) m2) (sym g.2) (subst (λ v. Tie s (record { moment = z; owner = OfWrite p.number; what = x } ∷ t) v) (sym g.4.2) (tie_backed i z p x g.4.0 g.1 (pending_writes s.setup p x g.3) g.3)),
      )
  back_does i z _ x m2 g = absurd g

  pass_does : (n z : ℕ) (o : Owner) (x : What) (m2 : Machine) → DoesPass m n o x m2 → NextPass n o x × Tie s (record { moment = z; owner = o; what = x } ∷ t) m2
  pass_does n z Nobody (Passed k) m2 g = (g.0, subst (λ v. Tie s (record { moment = z; owner = Nobody; what = Passed k } ∷ t) v) (sym g.1) (tie_passed z k (at_moment m.world (sat m.world.moment n))))
  pass_does n z _ x m2 g = absurd g

  -- a step of the machine is one that may come next, and keeps the tie
  pub tie_step : ReadsOn s.reader → (p : Step) (z : ℕ) (o : Owner) (x : What) (m2 : Machine) → DoesStep s m p z o x m2 → NextStep s t p o x × Tie s (record { moment = z; owner = o; what = x } ∷ t) m2
  tie_step on (Read c n) z o x m2 g = read_step on c n z o x m2 g
  tie_step on (Serve c) z o x m2 g = serve_step c z o x m2 g
  tie_step on (Back i) z o x m2 g = back_does i z o x m2 g
  tie_step on (Pass n) z o x m2 g = pass_does n z o x m2 g
