-- Handed writes: the queue that the code keeps is what the trace leaves.
use Rattle.std.proofs.Common.{◌≡◌, ℕ, zero, suc, ◌+◌, ◌<◌, ◌≤◌, Bool, true, false, cond, List, [], ◌∷◌, ◌++◌, length, map, Some, refl, sym, ap, ◌∙◌, subst, arith, length-append}
use Rattle.sc_model.specs.Dues.{kind_at}
use Rattle.sc_model.specs.Follows.{Fits, bytes_in, due_back}
use Rattle.sc_model.specs.Job.{At, Own, after_fill, fills_of}
use Rattle.sc_model.specs.Conns.{reserved_after}
use Rattle.sc_model.specs.Pendings.{due_pending, due_stage, given_of, pend, pending_after, pending_at, stage_after, stage_fills}
use Rattle.sc_model.specs.Next.{nth}
use Rattle.sc_model.specs.Rows.{reserved_since}
use Rattle.sc_model.specs.Script.{Setup}
use Rattle.sc_model.specs.Trace.{Given, drop_done, drop_given, ends_write, given, hands, left_writes, no_request, numbered, written, written_by}
use Rattle.sc_model.specs.declared.event.Event.{Event}
use Rattle.sc_model.specs.declared.event.Owner.TheVariants.{Write as OfWrite}
use Rattle.sc_model.specs.declared.event.What.{What}
use Rattle.sc_model.specs.declared.event.What.TheVariants.{Asked, Committed, Filled, Reserved, WriteEnded, Wrote}
use Rattle.sc_model.specs.declared.event.Written.TheVariants.{Done as WriteDone, Refused as WriteRefused}
use Rattle.sc_model.specs.declared.level.Handed.{Handed}
use Rattle.sc_model.specs.declared.level.LevelKind.{LevelKind}
use Rattle.sc_model.specs.declared.level.LevelKind.TheVariants.{Disk, Remote}
use Rattle.sc_model.specs.declared.message.Request.{Request}
use Rattle.sc_model.specs.declared.phase.Bytes.{Bytes}
use Rattle.sc_model.specs.declared.phase.Pending.{Pending}
use Rattle.sc_model.specs.declared.phase.Stage.{Stage}
use Rattle.sc_model.specs.declared.phase.Stage.TheVariants.{Filled as IsFilled, Fresh, Reserved as IsReserved}
use Rattle.std.proofs.lemmas.Bool.{eq-eqb, ne_eqb}
use Rattle.std.proofs.lemmas.List.{append-nil}

abbrev pub AllBelow : ℕ → List Pending → Type 0
AllBelow n [] = Unit {0}
AllBelow n (p ∷ ps) = (p.number < n) × AllBelow n ps

abbrev pub AllAbove : ℕ → List Pending → Type 0
AllAbove n [] = Unit {0}
AllAbove n (p ∷ ps) = (n < p.number) × AllAbove n ps

abbrev pub Apart : List Pending → Type 0
Apart [] = Unit {0}
Apart (p ∷ ps) = AllAbove p.number ps × Apart ps

abbrev pub From : ℕ → List Given → Type 0
From n [] = Unit {0}
From n (g ∷ gs) = (g.number ≡ n) × From (suc n) gs

from_numbered : (n m : ℕ) (b : Bool) (hs : List Handed) → From n (numbered n m b hs)
from_numbered n m b [] = tt
from_numbered n m b (h ∷ hs) = (refl, from_numbered (suc n) m b hs)

from_hands : (n m : ℕ) (x : What) → From n (hands n m x)
from_hands n m (Asked l k mode a hs) = from_numbered n m true hs
from_hands n m (WriteEnded put hs) = from_numbered n m false hs
from_hands n m _ = tt

above_from : (a n : ℕ) (gs : List Given) → a < n → From n gs → AllAbove a (pend gs)
above_from a n [] l f = tt
above_from a n (g ∷ gs) l f = (omega (arith, f.0), above_from a (suc n) gs (omega arith) f.1)

above_append : (a n : ℕ) (ps : List Pending) (gs : List Given) → AllAbove a ps → a < n → From n gs → AllAbove a (ps ++ pend gs)
above_append a n [] gs h l f = above_from a n gs l f
above_append a n (p ∷ ps) gs h l f = (h.0, above_append a n ps gs h.1 l f)

apart_from : (n : ℕ) (gs : List Given) → From n gs → Apart (pend gs)
apart_from n [] f = tt
apart_from n (g ∷ gs) f = (above_from g.number (suc n) gs (omega (arith, f.0)) f.1, apart_from (suc n) gs f.1)

apart_append : (n : ℕ) (ps : List Pending) (gs : List Given) → Apart ps → AllBelow n ps → From n gs → Apart (ps ++ pend gs)
apart_append n [] gs h b f = apart_from n gs f
apart_append n (p ∷ ps) gs h b f = (above_append p.number n ps gs h.0 b.0 f, apart_append n ps gs h.1 b.1 f)

below_more : (n k : ℕ) (ps : List Pending) → AllBelow n ps → n ≤ k → AllBelow k ps
below_more n k [] h l = tt
below_more n k (p ∷ ps) h l = (omega (arith, h.0), below_more n k ps h.1 l)

below_from : (n : ℕ) (gs : List Given) → From n gs → AllBelow (n + length gs) (pend gs)
below_from n [] f = tt
below_from n (g ∷ gs) f = (omega (arith, f.0), below_more (suc n + length gs) (n + suc (length gs)) (pend gs) (below_from (suc n) gs f.1) (omega arith))

below_append : (n : ℕ) (ps : List Pending) (gs : List Given) → AllBelow n ps → From n gs → AllBelow (n + length gs) (ps ++ pend gs)
below_append n [] gs h f = below_from n gs f
below_append n (p ∷ ps) gs h f = (omega (arith, h.0), below_append n ps gs h.1 f)

map_pend : (gs : List Given) → map given_of (pend gs) ≡ gs
map_pend [] = refl
map_pend (g ∷ gs) = ap (λ v. g ∷ v) (map_pend gs)

map_append : (ps : List Pending) (gs : List Given) → map given_of (ps ++ pend gs) ≡ map given_of ps ++ gs
map_append [] gs = map_pend gs
map_append (p ∷ ps) gs = ap (λ v. given_of p ∷ v) (map_append ps gs)

pub above_at : (a i : ℕ) (ps : List Pending) (p : Pending) → AllAbove a ps → pending_at i ps ≡ Some p → a < p.number
above_at a i [] p h e = (cc)
above_at a zero (q ∷ qs) p h e = let d : q ≡ p = (cc) in subst (λ v. a < v.number) d h.0
above_at a (suc i) (q ∷ qs) p h e = above_at a i qs p h.1 e

below_at : (n i : ℕ) (ps : List Pending) (p : Pending) → AllBelow n ps → pending_at i ps ≡ Some p → p.number < n
below_at n i [] p h e = (cc)
below_at n zero (q ∷ qs) p h e = let d : q ≡ p = (cc) in subst (λ v. v.number < n) d h.0
below_at n (suc i) (q ∷ qs) p h e = below_at n i qs p h.1 e

above_after : (a : ℕ) (b : Bool) (i m : ℕ) (x : What) (ps : List Pending) → AllAbove a ps → AllAbove a (pending_after b i m x ps)
above_after a b i m x [] h = tt
above_after a true zero m x (p ∷ ps) h = h.1
above_after a false zero m x (p ∷ ps) h = h
above_after a b (suc i) m x (p ∷ ps) h = (h.0, above_after a b i m x ps h.1)

below_after : (n : ℕ) (b : Bool) (i m : ℕ) (x : What) (ps : List Pending) → AllBelow n ps → AllBelow n (pending_after b i m x ps)
below_after a b i m x [] h = tt
below_after a true zero m x (p ∷ ps) h = h.1
below_after a false zero m x (p ∷ ps) h = h
below_after a b (suc i) m x (p ∷ ps) h = (h.0, below_after a b i m x ps h.1)

apart_after : (b : Bool) (i m : ℕ) (x : What) (ps : List Pending) → Apart ps → Apart (pending_after b i m x ps)
apart_after b i m x [] h = tt
apart_after true zero m x (p ∷ ps) h = h.1
apart_after false zero m x (p ∷ ps) h = h
apart_after b (suc i) m x (p ∷ ps) h = (above_after p.number b i m x ps h.0, apart_after b i m x ps h.1)

-- the ith is dropped by its number
same_after : (n : ℕ) (b : Bool) (i m : ℕ) (x : What) (ps : List Pending) (p : Pending) → pending_at i ps ≡ Some p → n ≡ p.number → Apart ps → map given_of (pending_after b i m x ps) ≡ drop_done (OfWrite n) b (map given_of ps)
same_after n b i m x [] p e q h = (cc)
same_after n true zero m x (r ∷ rs) p e q h =
    let d : r ≡ p = (cc) in
    let j : r.number ≡ n = ap (λ v. v.number) d ∙ sym q in
    sym (ap (λ b. cond b (map given_of rs) (given_of r ∷ drop_given n (map given_of rs))) (eq-eqb r.number n j))
same_after n true (suc i) m x (r ∷ rs) p e q h =
    let a = above_at r.number i rs p h.0 e in
    ap (λ v. given_of r ∷ v) (same_after n true i m x rs p e q h.1)
    ∙ sym (ap (λ b. cond b (map given_of rs) (given_of r ∷ drop_given n (map given_of rs))) (ne_eqb r.number n (λ z. omega (arith, a, q, z))))
same_after n false zero m x (r ∷ rs) p e q h = refl
same_after n false (suc i) m x (r ∷ rs) p e q h = ap (λ v. given_of r ∷ v) (same_after n false i m x rs p e q h.1)

written_same : (n m : ℕ) (x : What) (own : List Own) → written_by n (OfWrite n) m x own ≡ At m x ∷ own
written_same n m x own = ap (λ b. cond b (At m x ∷ own) own) (eq-eqb n n refl)

written_other : (i n m : ℕ) (x : What) (own : List Own) → (n ≡ i → ⊥) → written_by i (OfWrite n) m x own ≡ own
written_other i n m x own h = ap (λ b. cond b (At m x ∷ own) own) (ne_eqb n i h)

abbrev pub IsWrite : What → Type 0
IsWrite (Reserved l k n w) = Unit {0}
IsWrite (Filled l k b mark w) = Unit {0}
IsWrite (Committed l k b w) = Unit {0}
IsWrite (Wrote l k b mode mark w) = Unit {0}
IsWrite _ = ⊥

pub hands_none : (n m : ℕ) (x : What) → IsWrite x → hands n m x ≡ []
hands_none n m (Asked l k mode a hs) h = absurd h
hands_none n m (WriteEnded put hs) h = absurd h
hands_none n m _ h = refl

pending_is : (i j : ℕ) (ps : List Pending) (p : Pending) → pending_at i ps ≡ Some p → nth i (map given_of ps) ≡ Some (given_of p)
pending_is i j [] p e = (cc)
pending_is zero j (q ∷ qs) p e = let d : q ≡ p = (cc) in ap (λ v. Some (given_of v)) d
pending_is (suc i) j (q ∷ qs) p e = pending_is i j qs p e

length_map : (ps : List Pending) → length (map given_of ps) ≡ length ps
length_map [] = refl
length_map (p ∷ ps) = let ih = length_map ps in omega (arith, ih)

module _ (s : Setup) where
  -- each write's stage is what its events tell
  abbrev pub Stages : List Event → List Pending → Type 0
  Stages t [] = Unit {0}
  Stages t (p ∷ ps) =
      (due_back s.levels p.handed (written p.number t) ≡ due_pending s.levels p) × (reserved_since (written p.number t) ≡ p.since) × (fills_of (written p.number t) ≡ stage_fills p.stage p.handed.marked) × Stages t ps

  pub record BackTie (t : List Event) (ps : List Pending) (n : ℕ) : Type 0 where
    pub same : map given_of ps ≡ left_writes t
    pub handed : n ≡ length (given t)
    pub below : AllBelow n ps
    pub apart : Apart ps
    pub stages : Stages t ps
    pub none : (i : ℕ) → n ≤ i → written i t ≡ []

  pub back_new : BackTie [] [] 0
  back_new = record { same = refl; handed = refl; below = tt; apart = tt; stages = tt; none = λ i l. refl }

  stages_from : (t : List Event) (n : ℕ) (gs : List Given) → From n gs → ((i : ℕ) → n ≤ i → written i t ≡ []) → Stages t (pend gs)
  stages_from t n [] f h = tt
  stages_from t n (g ∷ gs) f h =
      let e : written g.number t ≡ [] = h g.number (omega (arith, f.0)) in
      (ap (due_back s.levels g.handed) e, ap reserved_since e, ap fills_of e, stages_from t (suc n) gs f.1 (λ i l. h i (omega arith)))

  stages_append : (t : List Event) (n : ℕ) (ps : List Pending) (gs : List Given) → Stages t ps → From n gs → ((i : ℕ) → n ≤ i → written i t ≡ []) → Stages t (ps ++ pend gs)
  stages_append t n [] gs h f k = stages_from t n gs f k
  stages_append t n (p ∷ ps) gs h f k = (h.0, h.1, h.2, stages_append t n ps gs h.3 f k)

  -- an event that is no handed write's, where left_writes and written are as here
  pub back_more : (t : List Event) (e : Event) (ps : List Pending) (n : ℕ) → ((i : ℕ) → written i (e ∷ t) ≡ written i t) → left_writes (e ∷ t) ≡ left_writes t ++ hands (length (given t)) e.moment e.what → Stages (e ∷ t) ps
      → BackTie t ps n → BackTie (e ∷ t) (ps ++ pend (hands n e.moment e.what)) (n + length (hands n e.moment e.what))
  back_more t e ps n w l st h =
      let gs = hands n e.moment e.what in
      let f = from_hands n e.moment e.what in
      let none : (i : ℕ) → n ≤ i → written i (e ∷ t) ≡ [] = λ i k. w i ∙ h.none i k in
      record {
        same = map_append ps gs ∙ ap (λ v. v ++ gs) h.same ∙ ap (λ v. left_writes t ++ hands v e.moment e.what) h.handed ∙ sym l;
        handed = ap (λ v. v + length (hands v e.moment e.what)) h.handed ∙ sym (length-append (given t) (hands (length (given t)) e.moment e.what));
        below = below_append n ps gs h.below f;
        apart = apart_append n ps gs h.apart h.below f;
        stages = stages_append (e ∷ t) n ps gs st f none;
        none = λ i k. none i (omega arith);
      }

  write_is : (r : Request) (st : Stage) (kind : LevelKind) (l : ℕ) (b : Bytes) (x : What) → Fits s r (due_stage st kind l b) x → IsWrite x
  write_is r st kind l b (Reserved j k n w) f = tt
  write_is r st kind l b (Filled j k d mark w) f = tt
  write_is r st kind l b (Committed j k d w) f = tt
  write_is r st kind l b (Wrote j k d mode mark w) f = tt
  write_is r Fresh Disk l b _ f = absurd f
  write_is r Fresh Remote l b _ f = absurd f
  write_is r IsReserved kind l b _ f = absurd f
  write_is r IsFilled kind l b _ f = absurd f

  pub pending_writes : (p : Pending) (x : What) → Fits s no_request (due_pending s.levels p) x → IsWrite x
  pending_writes p x f = write_is no_request p.stage (kind_at s.levels p.handed.level) p.handed.level (bytes_in p.handed) x f

  stage_step : (h : Handed) (st : Stage) (kind : LevelKind) (m : ℕ) (x : What) (own : List Own) → IsWrite x → ends_write x ≡ false → due_back s.levels h (At m x ∷ own) ≡ due_stage (stage_after st x) kind h.level (bytes_in h)
  stage_step h st kind m (Reserved l k n WriteDone) own w e = refl
  stage_step h st kind m (Reserved l k n (WriteRefused c)) own w e = (cc)
  stage_step h st kind m (Filled l k b mark WriteDone) own w e = refl
  stage_step h st kind m (Filled l k b mark (WriteRefused c)) own w e = (cc)
  stage_step h st kind m (Committed l k b v) own w e = (cc)
  stage_step h st kind m (Wrote l k b mode mark v) own w e = (cc)
  stage_step h st kind m _ own w e = absurd w

  fills_step : (h : Handed) (st : Stage) (kind : LevelKind) (m : ℕ) (x : What) (own : List Own) → Fits s no_request (due_stage st kind h.level (bytes_in h)) x → IsWrite x → ends_write x ≡ false → fills_of own ≡ stage_fills st h.marked
      → fills_of (At m x ∷ own) ≡ stage_fills (stage_after st x) h.marked
  fills_step h st kind m (Reserved l k n WriteDone) own f w e g = refl
  fills_step h IsReserved kind m (Filled l k b mark WriteDone) own f w e g = ap (λ v. Some (after_fill v mark)) g ∙ ap Some f.3
  fills_step h Fresh Disk m (Filled l k b mark WriteDone) own f w e g = absurd f
  fills_step h Fresh Remote m (Filled l k b mark WriteDone) own f w e g = absurd f
  fills_step h IsFilled kind m (Filled l k b mark WriteDone) own f w e g = absurd f
  fills_step h st kind m (Reserved l k n (WriteRefused c)) own f w e g = (cc)
  fills_step h st kind m (Filled l k b mark (WriteRefused c)) own f w e g = (cc)
  fills_step h st kind m (Committed l k b v) own f w e g = (cc)
  fills_step h st kind m (Wrote l k b mode mark v) own f w e g = (cc)
  fills_step h st kind m _ own f w e g = absurd w

  since_same : (m : ℕ) (x : What) (own : List Own) → reserved_since (At m x ∷ own) ≡ reserved_after (reserved_since own) m x
  since_same m (Reserved l k n WriteDone) own = refl
  since_same m (Reserved l k n (WriteRefused c)) own = refl
  since_same m _ own = refl

  stages_other : (t : List Event) (n m : ℕ) (x : What) (ps : List Pending) → AllAbove n ps → Stages t ps → Stages (record { moment = m; owner = OfWrite n; what = x } ∷ t) ps
  stages_other t n m x [] h st = tt
  stages_other t n m x (p ∷ ps) h st =
      let e = written_other p.number n m x (written p.number t) (λ z. let l = h.0 in omega (arith, l, z)) in
      (ap (due_back s.levels p.handed) e ∙ st.0, ap reserved_since e ∙ st.1, ap fills_of e ∙ st.2, stages_other t n m x ps h.1 st.3)

  stages_after : (t : List Event) (n : ℕ) (b : Bool) (i m : ℕ) (x : What) (ps : List Pending) (p : Pending) → pending_at i ps ≡ Some p → n ≡ p.number → IsWrite x → Fits s no_request (due_pending s.levels p) x → ends_write x ≡ b → Apart ps → Stages t ps
      → Stages (record { moment = m; owner = OfWrite n; what = x } ∷ t) (pending_after b i m x ps)
  stages_after t n b i m x [] p e q w f eb h st = tt
  stages_after t n true zero m x (r ∷ rs) p e q w f eb h st =
      let d : r ≡ p = (cc) in
      let j : r.number ≡ n = ap (λ v. v.number) d ∙ sym q in
      stages_other t n m x rs (subst (λ v. AllAbove v rs) j h.0) st.3
  stages_after t n false zero m x (r ∷ rs) p e q w f eb h st =
      let d : r ≡ p = (cc) in
      let j : n ≡ r.number = q ∙ ap (λ v. v.number) (sym d) in
      let own = written r.number t in
      let g : written r.number (record { moment = m; owner = OfWrite n; what = x } ∷ t) ≡ At m x ∷ own = subst (λ v. written_by r.number (OfWrite v) m x own ≡ At m x ∷ own) (sym j) (written_same r.number m x own) in (
        ap (due_back s.levels r.handed) g ∙ stage_step r.handed r.stage (kind_at s.levels r.handed.level) m x own w eb,
        ap reserved_since g ∙ since_same m x own ∙ ap (λ v. reserved_after v m x) st.1,
        ap fills_of g ∙ fills_step r.handed r.stage (kind_at s.levels r.handed.level) m x own (subst (λ v. Fits s no_request (due_pending s.levels v) x) (sym d) f) w eb st.2,
        stages_other t n m x rs (subst (λ v. AllAbove v rs) (sym j) h.0) st.3,
      )
  stages_after t n b (suc i) m x (r ∷ rs) p e q w f eb h st =
      let a = above_at r.number i rs p h.0 e in
      let g = written_other r.number n m x (written r.number t) (λ z. omega (arith, a, q, z)) in
      (ap (due_back s.levels r.handed) g ∙ st.0, ap reserved_since g ∙ st.1, ap fills_of g ∙ st.2, stages_after t n b i m x rs p e q w f eb h.1 st.3)

  -- an event of the ith handed write that is left
  pub back_step : (t : List Event) (ps : List Pending) (n i m : ℕ) (x : What) (p : Pending) → pending_at i ps ≡ Some p → IsWrite x → Fits s no_request (due_pending s.levels p) x → BackTie t ps n
      → BackTie (record { moment = m; owner = OfWrite p.number; what = x } ∷ t) (pending_after (ends_write x) i m x ps) n
  back_step t ps n i m x p e w f h =
      let k = length (given t) in
      let none = hands_none k m x w in
      record {
        same = same_after p.number (ends_write x) i m x ps p e refl h.apart ∙ ap (drop_done (OfWrite p.number) (ends_write x)) h.same
            ∙ sym (ap (λ v. drop_done (OfWrite p.number) (ends_write x) (left_writes t) ++ v) none ∙ append-nil (drop_done (OfWrite p.number) (ends_write x) (left_writes t)));
        handed = h.handed ∙ sym (ap length (ap (λ v. given t ++ v) none ∙ append-nil (given t)));
        below = below_after n (ends_write x) i m x ps h.below;
        apart = apart_after (ends_write x) i m x ps h.apart;
        stages = stages_after t p.number (ends_write x) i m x ps p e refl w f refl h.apart h.stages;
        none = λ j l. let b = below_at n i ps p h.below e in written_other j p.number m x (written j t) (λ z. omega (arith, b, z)) ∙ h.none j l;
      }

  pub back_nth : (t : List Event) (ps : List Pending) (n i : ℕ) (p : Pending) → BackTie t ps n → pending_at i ps ≡ Some p → nth i (left_writes t) ≡ Some (given_of p)
  back_nth t ps n i p h e = ap (nth i) (sym h.same) ∙ pending_is i 0 ps p e

  pub back_length : (t : List Event) (ps : List Pending) (n : ℕ) → BackTie t ps n → length (left_writes t) ≡ length ps
  back_length t ps n h = ap length (sym h.same) ∙ length_map ps

  stages_at : (t : List Event) (i : ℕ) (ps : List Pending) (p : Pending) → pending_at i ps ≡ Some p → Stages t ps → (due_back s.levels p.handed (written p.number t) ≡ due_pending s.levels p) × (reserved_since (written p.number t) ≡ p.since) × (fills_of (written p.number t) ≡ stage_fills p.stage p.handed.marked)
  stages_at t i [] p e h = (cc)
  stages_at t zero (q ∷ qs) p e h = let d : q ≡ p = (cc) in subst (λ v. (due_back s.levels v.handed (written v.number t) ≡ due_pending s.levels v) × (reserved_since (written v.number t) ≡ v.since) × (fills_of (written v.number t) ≡ stage_fills v.stage v.handed.marked)) d (h.0, h.1, h.2)
  stages_at t (suc i) (q ∷ qs) p e h = stages_at t i qs p e h.3

  pub back_due : (t : List Event) (ps : List Pending) (n i : ℕ) (p : Pending) → BackTie t ps n → pending_at i ps ≡ Some p → (due_back s.levels p.handed (written p.number t) ≡ due_pending s.levels p) × (reserved_since (written p.number t) ≡ p.since) × (fills_of (written p.number t) ≡ stage_fills p.stage p.handed.marked)
  back_due t ps n i p h e = stages_at t i ps p e h.stages
