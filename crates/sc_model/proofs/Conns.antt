-- One connection: its requests one after the other.
use Rattle.std.proofs.Common.{◌≡◌, ℕ, zero, suc, ◌<◌, ◌≤◌, ◌⊎◌, ⊎_elim, cond, List, [], ◌∷◌, ◌++◌, length, take, drop, refl, sym, ap, ◌∙◌, subst, arith, append_assoc, length-append, get_or}
use Rattle.sc_model.specs.declared.message.Response.{Response}
use Rattle.sc_model.proofs.Keeping.{Ties, ties_new, ties_step}
use Rattle.sc_model.proofs.Owed.{frames_are, owed}
use Rattle.sc_model.specs.Dues.{Over, kind_at, start_write}
use Rattle.sc_model.specs.Follows.{Fits, Lawful, due}
use Rattle.sc_model.specs.Frames.{frames}
use Rattle.sc_model.specs.Headline.{IsPrefixOf, frames_upto}
use Rattle.sc_model.specs.Job.{At, Own}
use Rattle.sc_model.specs.Conns.{Conn, advanced, current, long_after, more, new_conn, outcome_after, reserved_after, settle, shut, told_by}
use Rattle.sc_model.specs.DueAt.{due_at}
use Rattle.sc_model.specs.Phases.{after}
use Rattle.sc_model.specs.Next.{IsFirst, due_of}
use Rattle.sc_model.specs.Rows.{last_at, outcome_at, reserved_since}
use Rattle.sc_model.specs.Script.{ReadsOn, Script, Setup, input}
use Rattle.sc_model.specs.Trace.{frame_bytes, frame_of, Came, Did, Mine, Shut, is_closed, no_request, owned, request, sent, sent_by, sent_of, taken, too_long}
use Rattle.sc_model.specs.declared.event.What.{What}
use Rattle.sc_model.specs.declared.event.What.TheVariants.{Outcome, Reserved, TooLong}
use Rattle.sc_model.specs.declared.event.Written.TheVariants.{Done as WriteDone, Refused as WriteRefused}
use Rattle.sc_model.specs.declared.level.LevelKind.{LevelKind}
use Rattle.sc_model.specs.declared.level.LevelKind.TheVariants.{Disk, Remote}
use Rattle.sc_model.specs.declared.message.Request.{Request}
use Rattle.sc_model.specs.declared.phase.Bytes.{Bytes}
use Rattle.sc_model.specs.declared.phase.Phase.{Phase}
use Rattle.sc_model.specs.declared.phase.Phase.TheVariants.{AtBegin, AtOver, AtWrite, PrePut}
use Rattle.std.proofs.lemmas.Bool.{cases_eq, cases_lt, cases_order, eq-eqb, ne_eqb}
use Rattle.std.proofs.lemmas.List.{append-nil, drop_at, get_or_append_left, take-append-drop}

pub owned_same : (n m : ℕ) (x : What) (t : List Mine) → owned n (Did n m x ∷ t) ≡ At m x ∷ owned n t
owned_same n m x t = ap (λ b. cond b (At m x ∷ owned n t) (owned n t)) (eq-eqb n n refl)

pub owned_other : (j n m : ℕ) (x : What) (t : List Mine) → (n ≡ j → ⊥) → owned j (Did n m x ∷ t) ≡ owned j t
owned_other j n m x t h = ap (λ b. cond b (At m x ∷ owned j t) (owned j t)) (ne_eqb n j h)

drop_len : (n : ℕ) (xs : List Request) → 0 < length (drop n xs) → n < length xs
drop_len zero [] h = h
drop_len zero (x ∷ xs) h = omega arith
drop_len (suc n) [] h = absurd (omega (arith, h))
drop_len (suc n) (x ∷ xs) h = let ih = drop_len n xs h in omega (arith, ih)

len_drop : (n : ℕ) (xs : List Request) → n < length xs → 0 < length (drop n xs)
len_drop zero [] h = h
len_drop zero (x ∷ xs) h = omega arith
len_drop (suc n) [] h = absurd (omega arith)
len_drop (suc n) (x ∷ xs) h = len_drop n xs (omega arith)

drop_get : (n : ℕ) (xs : List Request) (d : Request) → get_or (drop n xs) 0 d ≡ get_or xs n d
drop_get zero [] d = refl
drop_get zero (x ∷ xs) d = refl
drop_get (suc n) [] d = refl
drop_get (suc n) (x ∷ xs) d = drop_get n xs d

drop_append : (n : ℕ) (xs ys : List Request) → n ≤ length xs → drop n (xs ++ ys) ≡ drop n xs ++ ys
drop_append zero xs ys h = refl
drop_append (suc n) [] ys h = absurd (omega arith)
drop_append (suc n) (x ∷ xs) ys h = drop_append n xs ys (omega arith)

drop_suc : (n : ℕ) (xs : List Request) → drop 1 (drop n xs) ≡ drop (suc n) xs
drop_suc zero [] = refl
drop_suc zero (x ∷ xs) = refl
drop_suc (suc n) [] = refl
drop_suc (suc n) (x ∷ xs) = drop_suc n xs

pub frame_bytes-append : (s : Setup) (gs hs : List Response) → frame_bytes s (gs ++ hs) ≡ frame_bytes s gs ++ frame_bytes s hs
frame_bytes-append s [] hs = refl
frame_bytes-append s (g ∷ gs) hs = ap (λ v. frame_of (s.codec.payload g) ++ v) (frame_bytes-append s gs hs) ∙ sym (append_assoc (frame_of (s.codec.payload g)) (frame_bytes s gs) (frame_bytes s hs))

module _ (s : Script) where
  abbrev pub reqs : List Mine → List Request
  reqs t = s.reader.requests (taken t)

  upto_same : (rs : List Request) (n : ℕ) (t u : List Mine) → ((m : ℕ) → m < n → owned m u ≡ owned m t) → frames_upto s.setup rs n u ≡ frames_upto s.setup rs n t
  upto_same rs zero t u h = refl
  upto_same rs (suc n) t u h =
      let ih = upto_same rs n t u (λ m l. h m (omega arith)) in
      let e = h n (omega arith) in
      ap (λ v. v ++ frames s.setup (request rs n) (owned n u)) ih ∙ ap (λ v. frames_upto s.setup rs n t ++ frames s.setup (request rs n) v) e

  start_not : (kind : LevelKind) (l : ℕ) (b : Bytes) → start_write kind l b ≡ Over → ⊥
  start_not Disk l b e = (cc)
  start_not Remote l b e = (cc)

  -- the requests before n are finished, n is at this phase, and no other has begun
  pub record Holds (rs : List Request) (t : List Mine) (n : ℕ) (p : Phase) : Type 0 where
    pub following : List Request
    pub comes : reqs t ++ following ≡ rs
    pub within : n ≤ length (reqs t)
    pub ties : Ties s.setup (request rs n) (owned n t) p
    pub before : (m : ℕ) → m < n → due_of s.setup rs m t ≡ Over
    pub later : (m : ℕ) → n < m → owned m t ≡ []
    pub absent : (m : ℕ) → length (reqs t) ≤ m → owned m t ≡ []
    pub sends : sent t ≡ frames_upto s.setup rs n t ++ sent_of (owned n t)
    pub lawful : (m : ℕ) → Lawful s.setup (request rs m) (owned m t)

  pub record ConnTie (input : List ℕ) (t : List Mine) (k : Conn) : Type 0 where
    pub left : List ℕ
    pub bytes : taken t ++ left ≡ input
    pub queue : drop k.at (reqs t) ≡ k.queue
    pub rest : s.reader.rest (taken t) ≡ k.rest
    pub got : length (taken t) ≡ k.got
    pub closed : is_closed t ≡ k.closed
    pub out : frame_bytes s.setup (sent t) ≡ k.out
    pub long : too_long t ≡ k.long
    pub last : last_at (owned k.at t) ≡ k.last
    pub outcome : outcome_at (owned k.at t) ≡ k.outcome
    pub reserved : reserved_since (owned k.at t) ≡ k.reserved
    pub holds : Holds (s.reader.requests input) t k.at k.phase
    pub unfinished : (r : Request) → due_at s.setup r k.phase ≡ Over → ⊥

  pub conn_new : ReadsOn s.reader → (input : List ℕ) → ConnTie input [] new_conn
  conn_new on input =
      let none : (m : ℕ) → Lawful s.setup (request (s.reader.requests input) m) [] = λ m. tt in
      record {
        left = input;
        bytes = refl;
        queue = on.none;
        rest = on.nothing;
        got = refl;
        closed = refl;
        out = refl;
        long = refl;
        last = refl;
        outcome = refl;
        reserved = refl;
        unfinished = λ r e. (cc);
        holds = record {
          following = s.reader.requests (s.reader.rest [] ++ input);
          comes = sym (on.requests [] input);
          within = omega arith;
          ties = ties_new s.setup _;
          before = λ m l. absurd (omega arith);
          later = λ m l. refl;
          absent = λ m l. refl;
          sends = refl;
          lawful = none;
        };
      }

  -- more bytes come
  pub conn_came : ReadsOn s.reader → (input : List ℕ) (t : List Mine) (k : Conn) (bytes : List ℕ) (n : ℕ) → ConnTie input t k → bytes ≡ take n (drop k.got input) → ConnTie input (Came bytes ∷ t) (more s k bytes)
  conn_came on input t k bytes n c e =
      let h = c.holds in
      let e1 : drop k.got input ≡ c.left = ap (λ v. drop v input) (sym c.got) ∙ ap (λ v. drop (length (taken t)) v) (sym c.bytes) ∙ drop_at (taken t) c.left (length (taken t)) refl in
      let e2 : bytes ≡ take n c.left = e ∙ ap (take n) e1 in
      let whole : (taken t ++ bytes) ++ drop n c.left ≡ input = append_assoc (taken t) bytes (drop n c.left) ∙ ap (λ v. taken t ++ (v ++ drop n c.left)) e2 ∙ ap (λ v. taken t ++ v) (take-append-drop n c.left) ∙ c.bytes in
      let grown : s.reader.requests (taken t ++ bytes) ≡ reqs t ++ s.reader.requests (k.rest ++ bytes) = on.requests (taken t) bytes ∙ ap (λ v. reqs t ++ s.reader.requests (v ++ bytes)) c.rest in
      let longer : length (reqs t) ≤ length (s.reader.requests (taken t ++ bytes)) = omega (arith, length-append (reqs t) (s.reader.requests (k.rest ++ bytes)), ap length grown) in
      record {
        left = drop n c.left;
        bytes = whole;
        queue = ap (drop k.at) grown ∙ drop_append k.at (reqs t) (s.reader.requests (k.rest ++ bytes)) h.within ∙ ap (λ v. v ++ s.reader.requests (k.rest ++ bytes)) c.queue;
        rest = on.rest (taken t) bytes ∙ ap (λ v. s.reader.rest (v ++ bytes)) c.rest;
        got = omega (arith, length-append (taken t) bytes, c.got);
        closed = c.closed;
        out = c.out;
        long = c.long;
        last = c.last;
        outcome = c.outcome;
        reserved = c.reserved;
        unfinished = c.unfinished;
        holds = record {
          following = s.reader.requests (s.reader.rest (taken t ++ bytes) ++ drop n c.left);
          comes = sym (on.requests (taken t ++ bytes) (drop n c.left)) ∙ ap s.reader.requests whole;
          within = omega (arith, longer, h.within);
          ties = h.ties;
          before = h.before;
          later = h.later;
          absent = λ m l. h.absent m (omega (arith, longer, l));
          sends = h.sends ∙ ap (λ v. v ++ sent_of (owned k.at t)) (sym (upto_same (s.reader.requests input) k.at t (Came bytes ∷ t) (λ m l. refl)));
          lawful = h.lawful;
        };
      }

  -- its end was met
  pub conn_shut : (input : List ℕ) (t : List Mine) (k : Conn) → ConnTie input t k → ConnTie input (Shut ∷ t) (shut k)
  conn_shut input t k c =
      let h = c.holds in
      record {
        left = c.left;
        bytes = c.bytes;
        queue = c.queue;
        rest = c.rest;
        got = c.got;
        closed = refl;
        out = c.out;
        long = c.long;
        last = c.last;
        outcome = c.outcome;
        reserved = c.reserved;
        unfinished = c.unfinished;
        holds = record {
          following = h.following;
          comes = h.comes;
          within = h.within;
          ties = h.ties;
          before = h.before;
          later = h.later;
          absent = h.absent;
          sends = h.sends ∙ ap (λ v. v ++ sent_of (owned k.at t)) (sym (upto_same (s.reader.requests input) k.at t (Shut ∷ t) (λ m l. refl)));
          lawful = h.lawful;
        };
      }

  pub came_is : (input : List ℕ) (t : List Mine) (k : Conn) → ConnTie input t k → 0 < length k.queue → k.at < length (reqs t)
  came_is input t k c l = drop_len k.at (reqs t) (subst (λ v. 0 < length v) (sym c.queue) l)

  -- the request that is served is the input's
  pub current_is : (input : List ℕ) (t : List Mine) (k : Conn) → ConnTie input t k → 0 < length k.queue → current k ≡ request (s.reader.requests input) k.at
  current_is input t k c l =
      let a = came_is input t k c l in
      ap (λ v. get_or v 0 no_request) (sym c.queue) ∙ drop_get k.at (reqs t) no_request
      ∙ sym (get_or_append_left (reqs t) c.holds.following no_request k.at a) ∙ ap (λ v. get_or v k.at no_request) c.holds.comes

  -- one event of the request that is served, which may then be over
  holds_did : (rs : List Request) (t : List Mine) (n : ℕ) (p : Phase) (z : ℕ) (x : What) → n < length (reqs t) → Holds rs t n p → Fits s.setup (request rs n) (due_at s.setup (request rs n) p) x → Holds rs (Did n z x ∷ t) n (after s.setup (request rs n) p z x)
  holds_did rs t n p z x w h f =
      let r = request rs n in
      let same = owned_same n z x t in
      let other : (m : ℕ) → (n ≡ m → ⊥) → owned m (Did n z x ∷ t) ≡ owned m t = λ m d. owned_other m n z x t d in
      let ties : Ties s.setup r (At z x ∷ owned n t) (after s.setup r p z x) = ties_step s.setup r (owned n t) p z x h.ties f in
      record {
        following = h.following;
        comes = h.comes;
        within = h.within;
        ties = subst (λ v. Ties s.setup r v (after s.setup r p z x)) (sym same) ties;
        before = λ m l. ap (λ v. due s.setup (request rs m) v) (other m (λ e. omega arith)) ∙ h.before m l;
        later = λ m l. other m (λ e. omega arith) ∙ h.later m l;
        absent = λ m l. other m (λ e. omega arith) ∙ h.absent m l;
        sends = ap (λ v. v ++ sent_by x) h.sends ∙ append_assoc (frames_upto s.setup rs n t) (sent_of (owned n t)) (sent_by x)
            ∙ ap (λ v. v ++ (sent_of (owned n t) ++ sent_by x)) (sym (upto_same rs n t (Did n z x ∷ t) (λ m l. other m (λ e. omega arith))))
            ∙ ap (λ v. frames_upto s.setup rs n (Did n z x ∷ t) ++ sent_of v) (sym same);
        lawful = λ m. ⊎_elim (λ (e : n ≡ m). subst (λ j. Lawful s.setup (request rs j) (owned j (Did n z x ∷ t))) e (subst (λ v. Lawful s.setup r v) (sym same) ties.lawful))
            (λ (d : n ≡ m → ⊥). subst (λ v. Lawful s.setup (request rs m) v) (sym (other m d)) (h.lawful m)) (cases_eq n m);
      }

  -- the next request, where this one is over
  over_holds : (rs : List Request) (t : List Mine) (n : ℕ) → n < length (reqs t) → Holds rs t n AtOver → Holds rs t (suc n) AtBegin
  over_holds rs t n l h =
      let r = request rs n in
      let none = h.later (suc n) (omega arith) in
      let all_of = frames_are s.setup r (owned n t) h.ties.lawful ∙ ap (λ v. sent_of (owned n t) ++ owed v) h.ties.is_due ∙ append-nil (sent_of (owned n t)) in
      record {
        following = h.following;
        comes = h.comes;
        within = omega arith;
        ties = subst (λ v. Ties s.setup (request rs (suc n)) v AtBegin) (sym none) (ties_new s.setup _);
        before = λ m j. ⊎_elim (λ (d : m ≡ n). subst (λ v. due_of s.setup rs v t ≡ Over) (sym d) h.ties.is_due) (λ (d : m ≡ n → ⊥). h.before m (let z : m < n = omega (arith, d) in z)) (cases_eq m n);
        later = λ m j. h.later m (omega arith);
        absent = h.absent;
        sends = h.sends ∙ ap (λ v. frames_upto s.setup rs n t ++ v) (sym all_of) ∙ sym (append-nil (frames_upto s.setup rs n t ++ frames s.setup r (owned n t)))
            ∙ ap (λ v. (frames_upto s.setup rs n t ++ frames s.setup r (owned n t)) ++ sent_of v) (sym none);
        lawful = h.lawful;
      }

  -- what is the same before the request is settled
  record Before (input : List ℕ) (t : List Mine) (k : Conn) : Type 0 where
    left : List ℕ
    bytes : taken t ++ left ≡ input
    queue : drop k.at (reqs t) ≡ k.queue
    rest : s.reader.rest (taken t) ≡ k.rest
    got : length (taken t) ≡ k.got
    closed : is_closed t ≡ k.closed
    out : frame_bytes s.setup (sent t) ≡ k.out
    long : too_long t ≡ k.long
    last : last_at (owned k.at t) ≡ k.last
    outcome : outcome_at (owned k.at t) ≡ k.outcome
    reserved : reserved_since (owned k.at t) ≡ k.reserved

  stays : (input : List ℕ) (t : List Mine) (k : Conn) (q : Phase) → Before input t k → Holds (s.reader.requests input) t k.at q → ((r : Request) → due_at s.setup r q ≡ Over → ⊥) → ConnTie input t (record k { phase = q })
  stays input t k q b h u = record { left = b.left; bytes = b.bytes; queue = b.queue; rest = b.rest; got = b.got; closed = b.closed; out = b.out; long = b.long; last = b.last; outcome = b.outcome; reserved = b.reserved; holds = h; unfinished = u }

  settle_tie : (input : List ℕ) (t : List Mine) (k : Conn) (q : Phase) → k.at < length (reqs t) → Before input t k → Holds (s.reader.requests input) t k.at q → ConnTie input t (settle k q)
  settle_tie input t k AtOver l b h =
      let none = h.later (suc k.at) (omega arith) in
      record {
        left = b.left;
        bytes = b.bytes;
        queue = sym (drop_suc k.at (reqs t)) ∙ ap (drop 1) b.queue;
        rest = b.rest;
        got = b.got;
        closed = b.closed;
        out = b.out;
        long = b.long;
        last = ap last_at none;
        outcome = ap outcome_at none;
        reserved = ap reserved_since none;
        holds = over_holds (s.reader.requests input) t k.at l h;
        unfinished = λ r e. (cc);
      }
  settle_tie input t k (AtWrite y [] g z) l b h = stays input t k (AtWrite y [] g z) b h (λ r e. (cc))
  settle_tie input t k (AtWrite y (j ∷ js) g z) l b h = stays input t k (AtWrite y (j ∷ js) g z) b h (λ r e. start_not (kind_at s.setup.levels j) j y e)
  settle_tie input t k (PrePut y [] g) l b h = stays input t k (PrePut y [] g) b h (λ r e. (cc))
  settle_tie input t k (PrePut y (j ∷ js) g) l b h = stays input t k (PrePut y (j ∷ js) g) b h (λ r e. (cc))
  settle_tie input t k _ l b h = stays input t k _ b h (λ r e. (cc))

  long_same : (n z : ℕ) (x : What) (t : List Mine) → too_long (Did n z x ∷ t) ≡ long_after (too_long t) x
  long_same n z (TooLong k) t = refl
  long_same n z _ t = refl

  outcome_same : (m : ℕ) (x : What) (own : List Own) → outcome_at (At m x ∷ own) ≡ outcome_after (outcome_at own) m x
  outcome_same m (Outcome v task) own = refl
  outcome_same m _ own = refl

  reserved_same : (m : ℕ) (x : What) (own : List Own) → reserved_since (At m x ∷ own) ≡ reserved_after (reserved_since own) m x
  reserved_same m (Reserved l k n WriteDone) own = refl
  reserved_same m (Reserved l k n (WriteRefused c)) own = refl
  reserved_same m _ own = refl

  pub conn_did : (input : List ℕ) (t : List Mine) (k : Conn) (z : ℕ) (x : What) → ConnTie input t k → 0 < length k.queue → Fits s.setup (current k) (due_at s.setup (current k) k.phase) x → ConnTie input (Did k.at z x ∷ t) (advanced s.setup k z x)
  conn_did input t k z x c l f =
      let r = current_is input t k c l in
      let w = came_is input t k c l in
      let f2 = subst (λ v. Fits s.setup v (due_at s.setup v k.phase) x) r f in
      let h = holds_did (s.reader.requests input) t k.at k.phase z x w c.holds f2 in
      let same = owned_same k.at z x t in
      settle_tie input (Did k.at z x ∷ t) (told_by s.setup k z x) (after s.setup (current k) k.phase z x) w
      (record {
        left = c.left;
        bytes = c.bytes;
        queue = c.queue;
        rest = c.rest;
        got = c.got;
        closed = c.closed;
        out = frame_bytes-append s.setup (sent t) (sent_by x) ∙ ap (λ v. v ++ frame_bytes s.setup (sent_by x)) c.out;
        long = long_same k.at z x t ∙ ap (λ v. long_after v x) c.long;
        last = ap last_at same;
        outcome = ap outcome_at same ∙ outcome_same z x (owned k.at t) ∙ ap (λ v. outcome_after v z x) c.outcome;
        reserved = ap reserved_since same ∙ reserved_same z x (owned k.at t) ∙ ap (λ v. reserved_after v z x) c.reserved;
      })
      (subst (λ v. Holds (s.reader.requests input) (Did k.at z x ∷ t) k.at (after s.setup v k.phase z x)) (sym r) h)

  -- it is the first that isn't finished
  pub is_first : (input : List ℕ) (t : List Mine) (k : Conn) → ConnTie input t k → 0 < length k.queue → IsFirst s (s.reader.requests input) t k.at
  is_first input t k c l = record {
    came = came_is input t k c l;
    unfinished = λ o. c.unfinished (request (s.reader.requests input) k.at) (sym c.holds.ties.is_due ∙ o);
    before = c.holds.before;
  }

  -- no other is
  pub first_only : (input : List ℕ) (t : List Mine) (k : Conn) (n : ℕ) → ConnTie input t k → IsFirst s (s.reader.requests input) t n → n ≡ k.at
  first_only input t k n c f =
      ⊎_elim (λ (e : n ≡ k.at). e) (λ (e : (n < k.at) ⊎ (k.at < n)).
      ⊎_elim (λ (l : n < k.at). absurd (f.unfinished (c.holds.before n l)))
      (λ (l : k.at < n). absurd (c.unfinished (request (s.reader.requests input) k.at) (sym c.holds.ties.is_due ∙ f.before k.at l))) e) (cases_order n k.at)

  -- it waits in the queue
  pub first_waits : (input : List ℕ) (t : List Mine) (k : Conn) (n : ℕ) → ConnTie input t k → IsFirst s (s.reader.requests input) t n → 0 < length k.queue
  first_waits input t k n c f =
      let e = first_only input t k n c f in
      subst (λ v. 0 < length v) c.queue (len_drop k.at (reqs t) (subst (λ v. v < length (reqs t)) e f.came))

  upto_later : (rs : List Request) (t : List Mine) (n L : ℕ) → ((m : ℕ) → n < m → owned m t ≡ []) → n < L → frames_upto s.setup rs L t ≡ frames_upto s.setup rs (suc n) t
  upto_later rs t n zero h l = absurd (omega arith)
  upto_later rs t n (suc L) h l =
      ⊎_elim (λ (e : n ≡ L). ap (λ v. frames_upto s.setup rs (suc v) t) (sym e))
      (λ (d : n ≡ L → ⊥). let z : n < L = omega (arith, d) in
      ap (λ v. frames_upto s.setup rs L t ++ frames s.setup (request rs L) v) (h L z) ∙ append-nil (frames_upto s.setup rs L t) ∙ upto_later rs t n L h z) (cases_eq n L)

  -- what a connection was sent is a prefix of what its requests are owed, one request after the other
  pub conn_prefix : (input : List ℕ) (t : List Mine) (k : Conn) → ConnTie input t k → IsPrefixOf (sent t) (frames_upto s.setup (s.reader.requests input) (length (reqs t)) t)
  conn_prefix input t k c =
      let rs = s.reader.requests input in
      let h = c.holds in
      let n = k.at in
      let own = owned n t in
      let all_of = frames_are s.setup (request rs n) own h.ties.lawful in
      ⊎_elim (λ (l : n < length (reqs t)). (
        owed (due_of s.setup rs n t),
        ap (λ v. v ++ owed (due_of s.setup rs n t)) h.sends ∙ append_assoc (frames_upto s.setup rs n t) (sent_of own) (owed (due_of s.setup rs n t))
            ∙ ap (λ v. frames_upto s.setup rs n t ++ v) (sym all_of) ∙ sym (upto_later rs t n (length (reqs t)) h.later l),
      ))
      (λ (l : length (reqs t) ≤ n).
      let e : n ≡ length (reqs t) = omega (arith, h.within) in
      ([], append-nil (sent t) ∙ h.sends ∙ ap (λ v. frames_upto s.setup rs n t ++ sent_of v) (h.absent n l) ∙ append-nil (frames_upto s.setup rs n t) ∙ ap (λ v. frames_upto s.setup rs v t) e)) (cases_lt n (length (reqs t)))
