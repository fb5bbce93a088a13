-- The sections of the connections, as events come.
use Rattle.std.proofs.Common.{◌≡◌, ℕ, zero, suc, ◌+◌, ◌<◌, ◌≤◌, ◌==◌, Bool, true, false, if◌then◌else◌, List, [], ◌∷◌, ◌++◌, length, get_or, set, take, drop, refl, ap, sym, ◌∙◌, add-one, append_assoc, arith}
use Rattle.std.proofs.Math.ListN.{drop_of_length-le}
use Rattle.std.proofs.Math.Seq.{take-length, take-suc}
use Rattle.std.proofs.lemmas.Bool.{eq-eqb, ne_eqb}
use Rattle.std.proofs.lemmas.List.{append-nil}
use Rattle.sc_wire_conn.specs.declared.end.End.{End}
use Rattle.sc_model.specs.Trace.{sent_by}
use Rattle.sc_model.specs.declared.event.Event.{Event}
use Rattle.sc_model.specs.declared.event.Owner.{Owner}
use Rattle.sc_model.specs.declared.event.Owner.TheVariants.{Nobody, Request, Write}
use Rattle.sc_model.specs.declared.event.What.{What}
use Rattle.sc_model.specs.declared.event.What.TheVariants.{Sent}
use Rattle.sc_model.specs.declared.message.Response.{Response}
use Rattle.sc_main_report.proofs.Replies.{replies_to-append}
use Rattle.sc_main_report.specs.Report.{connection_line, replies_to, reply_in, reply_lines, sections}
use Rattle.sc_main_report.specs.Sections.{with_event}
use Rattle.sc_main_script.specs.Inputs.{appended}
use Rattle.sc_main_script_words.specs.Replies.{reply_line}

-- a text past the end goes nowhere
pub appended_past : (xs : List (List ℕ)) (i : ℕ) (bytes : List ℕ) → length xs ≤ i → appended xs i bytes ≡ xs
appended_past [] i bytes le = refl
appended_past (x ∷ xs) zero bytes le = absurd (omega arith)
appended_past (x ∷ xs) (suc i) bytes le = ap (λ (ys : List (List ℕ)). x ∷ ys) (appended_past xs i bytes (omega arith))

reply_lines-append : (xs ys : List Response) → reply_lines (xs ++ ys) ≡ reply_lines xs ++ reply_lines ys
reply_lines-append [] ys = refl
reply_lines-append (x ∷ xs) ys =
    ap (λ (t : List ℕ). reply_line x ++ t) (reply_lines-append xs ys) ∙ sym (append_assoc (reply_line x) (reply_lines xs) (reply_lines ys))

-- one more event adds the lines of what it sends
section-append : (c : ℕ) (end : End) (earlier : List Event) (e : Event)
    → connection_line c end ++ reply_lines (replies_to c (earlier ++ e ∷ [])) ≡ (connection_line c end ++ reply_lines (replies_to c earlier)) ++ reply_lines (reply_in c e.owner e.what)
section-append c end earlier e =
    ap (λ (rs : List Response). connection_line c end ++ reply_lines rs) (replies_to-append c earlier e)
    ∙ ap (λ (t : List ℕ). connection_line c end ++ t) (reply_lines-append (replies_to c earlier) (reply_in c e.owner e.what))
    ∙ sym (append_assoc (connection_line c end) (reply_lines (replies_to c earlier)) (reply_lines (reply_in c e.owner e.what)))

unsaid : (c : ℕ) (end : End) (earlier : List Event) (e : Event) → reply_in c e.owner e.what ≡ []
    → connection_line c end ++ reply_lines (replies_to c (earlier ++ e ∷ [])) ≡ connection_line c end ++ reply_lines (replies_to c earlier)
unsaid c end earlier e silent =
    section-append c end earlier e
    ∙ ap (λ (rs : List Response). (connection_line c end ++ reply_lines (replies_to c earlier)) ++ reply_lines rs) silent
    ∙ append-nil (connection_line c end ++ reply_lines (replies_to c earlier))

said : (c : ℕ) (end : End) (earlier : List Event) (e : Event) (reply : Response) → reply_in c e.owner e.what ≡ reply ∷ []
    → (connection_line c end ++ reply_lines (replies_to c earlier)) ++ reply_line reply ≡ connection_line c end ++ reply_lines (replies_to c (earlier ++ e ∷ []))
said c end earlier e reply sends =
    ap (λ (t : List ℕ). (connection_line c end ++ reply_lines (replies_to c earlier)) ++ t) (sym (append-nil (reply_line reply)))
    ∙ sym (ap (λ (rs : List Response). (connection_line c end ++ reply_lines (replies_to c earlier)) ++ reply_lines rs) sends)
    ∙ sym (section-append c end earlier e)

-- an event that sends nothing on any connection from number n on
all_unsaid : (n : ℕ) (ends : List End) (earlier : List Event) (e : Event) → ((c : ℕ) → n ≤ c → reply_in c e.owner e.what ≡ [])
    → sections n ends (earlier ++ e ∷ []) ≡ sections n ends earlier
all_unsaid n [] earlier e silent = refl
all_unsaid n (end ∷ ends) earlier e silent =
    let first = unsaid n end earlier e (silent n (omega arith)) in
    let later = all_unsaid (n + 1) ends earlier e (λ c le. silent c (omega arith)) in
    cc (first, later)

-- an event that sends one reply, on connection d alone
one_said : (n i d : ℕ) (ends : List End) (earlier : List Event) (e : Event) (reply : Response) → d ≡ n + i → reply_in d e.owner e.what ≡ reply ∷ []
    → ((c : ℕ) → (d ≡ c → ⊥) → reply_in c e.owner e.what ≡ [])
    → appended (sections n ends earlier) i (reply_line reply) ≡ sections n ends (earlier ++ e ∷ [])
one_said n i d [] earlier e reply at sends silent = refl
one_said n zero d (end ∷ ends) earlier e reply at sends silent =
    let here : d ≡ n = omega arith in
    let first = said n end earlier e reply (rw here at sends) in
    let later = all_unsaid (n + 1) ends earlier e (λ c le. silent c (λ same. omega arith)) in
    cc (first, later)
one_said n (suc i) d (end ∷ ends) earlier e reply at sends silent =
    let first = unsaid n end earlier e (silent n (λ same. omega arith)) in
    let later = one_said (n + 1) i d ends earlier e reply (omega arith) sends silent in
    cc (first, later)

nothing : (b : Bool) (rs : List Response) → rs ≡ [] → (if b then rs else []) ≡ []
nothing true rs none = none
nothing false rs none = refl

abbrev event_of : ℕ → Owner → What → Event
event_of m o x = record { moment = m; owner = o; what = x }

grown_by : (m : ℕ) (o : Owner) (x : What) (ends : List End) (earlier : List Event)
    → with_event (sections 0 ends earlier) o x ≡ sections 0 ends (earlier ++ event_of m o x ∷ [])
grown_by m (Request d k) (Sent reply) ends earlier =
    one_said 0 d d ends earlier (event_of m (Request d k) (Sent reply)) reply (omega arith)
    (ap (λ (b : Bool). if b then reply ∷ [] else []) (eq-eqb d d refl))
    (λ c other. ap (λ (b : Bool). if b then reply ∷ [] else []) (ne_eqb d c other))
grown_by m (Request d k) x ends earlier = sym (all_unsaid 0 ends earlier (event_of m (Request d k) x) (λ c le. nothing (d == c) (sent_by x) refl))
grown_by m (Write i) x ends earlier = sym (all_unsaid 0 ends earlier (event_of m (Write i) x) (λ c le. refl))
grown_by m Nobody x ends earlier = sym (all_unsaid 0 ends earlier (event_of m Nobody x) (λ c le. refl))

-- the sections after one more event
pub with_event-sections : (ends : List End) (earlier : List Event) (e : Event)
    → with_event (sections 0 ends earlier) e.owner e.what ≡ sections 0 ends (earlier ++ e ∷ [])
with_event-sections ends earlier e = grown_by e.moment e.owner e.what ends earlier

set-appended : (xs : List (List ℕ)) (i : ℕ) (d bytes more : List ℕ) → i < length xs → more ≡ get_or xs i d ++ bytes → set xs i more ≡ appended xs i bytes
set-appended [] i d bytes more lt longer = absurd (omega arith)
set-appended (x ∷ xs) zero d bytes more lt longer = ap (λ (y : List ℕ). y ∷ xs) longer
set-appended (x ∷ xs) (suc i) d bytes more lt longer = ap (λ (ys : List (List ℕ)). x ∷ ys) (set-appended xs i d bytes more (omega arith) longer)

pub with_reply : (xs : List (List ℕ)) (o : Owner) (x : What) (c n : ℕ) (reply : Response) (d more : List ℕ)
    → o ≡ Request c n → x ≡ Sent reply → c < length xs → more ≡ get_or xs c d ++ reply_line reply → set xs c more ≡ with_event xs o x
with_reply xs o x c n reply d more whose what lt longer = rw (whose, what) (set-appended xs c d (reply_line reply) more lt longer)

pub without_section : (xs : List (List ℕ)) (o : Owner) (x : What) (c n : ℕ) (reply : Response) → o ≡ Request c n → x ≡ Sent reply → length xs ≤ c → xs ≡ with_event xs o x
without_section xs o x c n reply whose what le = rw (whose, what) (sym (appended_past xs c (reply_line reply) le))

written_whole : (len : ℕ) (before after : List (List ℕ)) → len ≡ length before → length after ≡ length before → take len (after ++ drop (length after) before) ≡ after
written_whole len before after is same =
    let none : drop (length after) before ≡ [] = drop_of_length-le before (omega arith) in
    let all : len ≡ length after = omega arith in
    rw (none, append-nil after, all) (take-length after)

taken_more : (events : List Event) (i : ℕ) (e : Event) → e ≡ get_or events i e → i < length events → take (i + 1) events ≡ take i events ++ e ∷ []
taken_more events i e here lt =
    rw (add-one i) (take-suc events i e lt ∙ ap (λ (y : Event). take i events ++ y ∷ []) (sym here))

-- the sections that the loop holds, after one more event
pub next_sections : (len : ℕ) (before old after : List (List ℕ)) (ends : List End) (events : List Event) (i : ℕ) (e : Event)
    → before ≡ sections 0 ends (take i events) → old ≡ before → len ≡ length before → length after ≡ length before
    → after ≡ with_event old e.owner e.what → e ≡ get_or events i e → i < length events
    → take len (after ++ drop (length after) before) ≡ sections 0 ends (take (i + 1) events)
next_sections len before old after ends events i e so_far same is whole one here lt =
    written_whole len before after is whole
    ∙ one
    ∙ ap (λ (xs : List (List ℕ)). with_event xs e.owner e.what) (same ∙ so_far)
    ∙ with_event-sections ends (take i events) e
    ∙ ap (λ (es : List Event). sections 0 ends es) (sym (taken_more events i e here lt))
