-- The replies that are read off events in order, the oldest first, are those that the trace's own words tell of the same
-- events, the newest first.
use Rattle.std.proofs.Common.{◌≡◌, ℕ, ◌==◌, Bool, true, false, if◌then◌else◌, List, [], ◌∷◌, ◌++◌, reverse, refl, ap, sym, ◌∙◌, append_assoc}
use Rattle.std.proofs.lemmas.List.{append-nil, reverse-append}
use Rattle.sc_model.specs.Trace.{Mine, Came, Shut, Did, about, mine, sent, sent_by}
use Rattle.sc_model.specs.declared.event.Event.{Event}
use Rattle.sc_model.specs.declared.event.Owner.{Owner}
use Rattle.sc_model.specs.declared.event.Owner.TheVariants.{Nobody, Request, Write}
use Rattle.sc_model.specs.declared.event.What.{What}
use Rattle.sc_model.specs.declared.event.What.TheVariants.{Closed, Taken}
use Rattle.sc_model.specs.declared.message.Response.{Response}
use Rattle.sc_main_report.specs.Report.{replies_to, reply_in}

-- an event that is one of the connection's, or not, by this test
sent-did : (b : Bool) (n m : ℕ) (x : What) (t : List Mine) → sent (if b then Did n m x ∷ t else t) ≡ sent t ++ (if b then sent_by x else [])
sent-did true n m x t = refl
sent-did false n m x t = sym (append-nil (sent t))

sent-came : (b : Bool) (bytes : List ℕ) (t : List Mine) → sent (if b then Came bytes ∷ t else t) ≡ sent t ++ []
sent-came true bytes t = sym (append-nil (sent t))
sent-came false bytes t = sym (append-nil (sent t))

sent-shut : (b : Bool) (t : List Mine) → sent (if b then Shut ∷ t else t) ≡ sent t ++ []
sent-shut true t = sym (append-nil (sent t))
sent-shut false t = sym (append-nil (sent t))

sent-mine : (c : ℕ) (o : Owner) (m : ℕ) (x : What) (t : List Mine) → sent (mine c o m x t) ≡ sent t ++ reply_in c o x
sent-mine c (Request d n) m x t = sent-did (d == c) n m x t
sent-mine c (Write i) m x t = sym (append-nil (sent t))
sent-mine c Nobody m (Taken d bytes) t = sent-came (d == c) bytes t
sent-mine c Nobody m (Closed d) t = sent-shut (d == c) t
sent-mine c Nobody m _ t = sym (append-nil (sent t))

-- what the earlier events sent comes first
sent-about-append : (c : ℕ) (later earlier : List Event) → sent (about c (later ++ earlier)) ≡ sent (about c earlier) ++ sent (about c later)
sent-about-append c [] earlier = sym (append-nil (sent (about c earlier)))
sent-about-append c (e ∷ later) earlier =
    sent-mine c e.owner e.moment e.what (about c (later ++ earlier))
    ∙ ap (λ (rs : List Response). rs ++ reply_in c e.owner e.what) (sent-about-append c later earlier)
    ∙ append_assoc (sent (about c earlier)) (sent (about c later)) (reply_in c e.owner e.what)
    ∙ ap (λ (rs : List Response). sent (about c earlier) ++ rs) (sym (sent-mine c e.owner e.moment e.what (about c later)))

-- the printed replies are those of the daemon's theorem
pub replies_to_is_sent : (c : ℕ) (events : List Event) → replies_to c events ≡ sent (about c (reverse events))
replies_to_is_sent c [] = refl
replies_to_is_sent c (e ∷ events) =
    sym (
    ap (λ (t : List Event). sent (about c t)) (reverse-append (e ∷ []) events)
    ∙ sent-about-append c (reverse events) (e ∷ [])
    ∙ ap (λ (rs : List Response). rs ++ sent (about c (reverse events))) (sent-mine c e.owner e.moment e.what [])
    ∙ ap (λ (rs : List Response). reply_in c e.owner e.what ++ rs) (sym (replies_to_is_sent c events))
    )

-- one more event
pub replies_to-append : (c : ℕ) (earlier : List Event) (e : Event) → replies_to c (earlier ++ e ∷ []) ≡ replies_to c earlier ++ reply_in c e.owner e.what
replies_to-append c [] e = append-nil (reply_in c e.owner e.what)
replies_to-append c (x ∷ earlier) e =
    ap (λ (rs : List Response). reply_in c x.owner x.what ++ rs) (replies_to-append c earlier e)
    ∙ sym (append_assoc (reply_in c x.owner x.what) (replies_to c earlier) (reply_in c e.owner e.what))
