-- What one step of a reading does to what is held and what is still to come, and that few bytes are held before a whole reply.
use Rattle.std.proofs.Common.{◌≡◌, ℕ, zero, suc, ◌+◌, ◌-◌, ◌*◌, ◌<◌, ◌≤◌, Bool, true, false, if◌then◌else◌, nat_lt, List, [], ◌∷◌, ◌++◌, length, take, drop, Option, Some, None, Result, Ok, Err, refl, sym, ap, subst, ◌∙◌, arith}
use Rattle.std.proofs.lemmas.Bool.{le-ltb, ltb-true, ltb-false}
use Rattle.std.proofs.lemmas.List.{length-append, length-take-le}
use Rattle.sc_entry.specs.Causes.{IfTold, Told}
use Rattle.sc_entry.specs.Streams.{WritesFront}
use Rattle.sc_entry.specs.declared.stream_error.WriteError.{WriteError}
use Rattle.sc_entry.specs.declared.stream_error.WriteError.TheVariants as write_errors
use Rattle.sc_model.specs.declared.message.Response.{Response}
use Rattle.sc_wire.specs.Codec.{Codec, read_all}
use Rattle.sc_wire.specs.Frames.{Ahead, Cut, Fault, Framing, GivesMessage, Long, Message, Part, Payload, Unfinished, ahead, cut, if_message, message_of}
use Rattle.sc_wire.specs.Responses.{response}
use Rattle.sc_wire.specs.declared.error.DecodeError.{DecodeError}
use Rattle.sc_wire.specs.declared.error.DecodeError.TheVariants as decode_errors
use Rattle.sc_client.specs.Conversations.{HearsBy, IsBroken, SendsBy, Takes, held, reply_front}
use Rattle.sc_client.specs.Refusals.{decode_refusal, write_refusal}
use Rattle.sc_client.specs.declared.request_error.RequestError.{RequestError}
use Rattle.sc_client.proofs.Fronts.{front_some}

above_none : (n : ℕ) → (n ≡ 0 → ⊥) → 0 < n
above_none zero some = absurd (some refl)
above_none (suc n) some = omega arith

take_more : (n : ℕ) (a b : List ℕ) → n ≤ length a → take n (a ++ b) ≡ take n a
take_more zero a b le = refl
take_more (suc n) [] b le = absurd (omega arith)
take_more (suc n) (x ∷ a) b le = ap (λ (xs : List ℕ). x ∷ xs) (take_more n a b (omega arith))

drop_more : (n : ℕ) (a b : List ℕ) → n ≤ length a → drop n (a ++ b) ≡ drop n a ++ b
drop_more zero a b le = refl
drop_more (suc n) [] b le = absurd (omega arith)
drop_more (suc n) (x ∷ a) b le = drop_more n a b (omega arith)

-- bytes behind a frame, and behind what can be none
abbrev followed : List ℕ → Cut → Cut → Type 0
followed more Part later = Unit {0}
followed more Long later = later ≡ Long
followed more (Payload payload rest) later = later ≡ Payload payload (rest ++ more)

whole_on : (n : ℕ) (bytes more : List ℕ) (short : Bool) → nat_lt (length bytes) n ≡ short
    → followed more (if short then Part else Payload (take n bytes) (drop n bytes)) (if nat_lt (length (bytes ++ more)) n then Part else Payload (take n (bytes ++ more)) (drop n (bytes ++ more)))
whole_on n bytes more true is = tt
whole_on n bytes more false is =
    let le : n ≤ length bytes = ltb-false (length bytes) n is in
    let on : nat_lt (length (bytes ++ more)) n ≡ false = le-ltb (length (bytes ++ more)) n (omega (arith, length-append bytes more)) in
    rw (on, take_more n bytes more le, drop_more n bytes more le) refl

within_on : (limit n : ℕ) (bytes more : List ℕ) (long : Bool) → followed more (if long then Long else (if nat_lt (length bytes) n then Part else Payload (take n bytes) (drop n bytes)))
    (if long then Long else (if nat_lt (length (bytes ++ more)) n then Part else Payload (take n (bytes ++ more)) (drop n (bytes ++ more))))
within_on limit n bytes more true = refl
within_on limit n bytes more false = whole_on n bytes more (nat_lt (length bytes) n) refl

cut_on : (limit : ℕ) (bytes more : List ℕ) → followed more (cut limit bytes) (cut limit (bytes ++ more))
cut_on limit [] more = tt
cut_on limit (x ∷ []) more = tt
cut_on limit (x ∷ y ∷ []) more = tt
cut_on limit (x ∷ y ∷ z ∷ []) more = tt
cut_on limit (x ∷ y ∷ z ∷ w ∷ bytes) more = within_on limit (((x * 256 + y) * 256 + z) * 256 + w) bytes more (nat_lt limit (((x * 256 + y) * 256 + z) * 256 + w))

-- bytes behind a message, and behind what is none
abbrev follows : {A : Type 0} → List ℕ → Ahead A → Ahead A → Type 0
follows more Unfinished later = Unit {0}
follows more Fault later = later ≡ Fault
follows more (Message message rest) later = later ≡ Message message (rest ++ more)

read_on : {A : Type 0} (o : Option A) (rest more : List ℕ) → follows more (if_message o rest) (if_message o (rest ++ more))
read_on None rest more = refl
read_on (Some message) rest more = refl

message_on : {A : Type 0} (a : Codec A) (more : List ℕ) (now later : Cut) → followed more now later → follows more (message_of a now) (message_of a later)
message_on a more Part later on = tt
message_on a more Long later on = ap (message_of a) on
message_on {A} a more (Payload payload rest) later on =
    subst (λ (c : Cut). follows {A = A} more (if_message (read_all a payload) rest) (message_of a c)) (sym on) (read_on (read_all a payload) rest more)

ahead_on : {A : Type 0} (a : Codec A) (limit : ℕ) (bytes more : List ℕ) → follows more (ahead a limit bytes) (ahead a limit (bytes ++ more))
unfolding ahead
ahead_on a limit bytes more = message_on a more (cut limit bytes) (cut limit (bytes ++ more)) (cut_on limit bytes more)

-- a reply stands at the front of what is held
took : (reply : Response) (rest after : List ℕ) (left : Option (List ℕ)) → reply_front rest ≡ Message reply after → Told (Takes reply) (held rest left) (held after left)
took reply rest after None is = tt
took reply rest after (Some left) is =
    subst (λ (f : Ahead Response). follows left f (reply_front (rest ++ left))) is (ahead_on _ 16777216 rest left)

-- what is held begins with what can be no reply
broke : (rest : List ℕ) (left : Option (List ℕ)) → reply_front rest ≡ Fault → IfTold (held rest left) IsBroken
broke rest None is = tt
broke rest (Some left) is = subst (λ (f : Ahead Response). follows left f (reply_front (rest ++ left))) is (ahead_on _ 16777216 rest left)

part_short : (limit n : ℕ) (bytes : List ℕ) (long short : Bool) → nat_lt limit n ≡ long → nat_lt (length bytes) n ≡ short
    → (if long then Long else (if short then Part else Payload (take n bytes) (drop n bytes))) ≡ Part → length bytes < limit
part_short limit n bytes true short over is part = absurd (cc)
part_short limit n bytes false false over is part = absurd (cc)
part_short limit n bytes false true over is part = omega (arith, ltb-false limit n over, ltb-true (length bytes) n is)

cut_short : (limit : ℕ) (bytes : List ℕ) → cut limit bytes ≡ Part → length bytes < limit + 4
cut_short limit [] part = omega arith
cut_short limit (x ∷ []) part = omega arith
cut_short limit (x ∷ y ∷ []) part = omega arith
cut_short limit (x ∷ y ∷ z ∷ []) part = omega arith
cut_short limit (x ∷ y ∷ z ∷ w ∷ bytes) part =
    let short = part_short limit (((x * 256 + y) * 256 + z) * 256 + w) bytes (nat_lt limit (((x * 256 + y) * 256 + z) * 256 + w)) (nat_lt (length bytes) (((x * 256 + y) * 256 + z) * 256 + w)) refl refl part in omega (arith, short)

if_whole : {A : Type 0} (o : Option A) (rest : List ℕ) → if_message o rest ≡ Unfinished → ⊥
if_whole None rest is = absurd (cc)
if_whole (Some message) rest is = absurd (cc)

is_part : {A : Type 0} (a : Codec A) (c : Cut) → message_of a c ≡ Unfinished → c ≡ Part
is_part a Part is = refl
is_part a Long is = absurd (cc)
is_part a (Payload payload rest) is = absurd (if_whole (read_all a payload) rest is)

ahead_short : {A : Type 0} (a : Codec A) (limit : ℕ) (bytes : List ℕ) → ahead a limit bytes ≡ Unfinished → length bytes < limit + 4
unfolding ahead
ahead_short a limit bytes is = cut_short limit bytes (is_part a (cut limit bytes) is)

-- as long as no reply is whole, few bytes are held
short : (rest : List ℕ) → reply_front rest ≡ Unfinished → length rest < 16777220
short rest is = ahead_short _ 16777216 rest is

-- ---- one step of a reading

-- what is told stays told
told_on : (o p : Option (List ℕ)) → p ≡ o → Told (λ (x y : List ℕ). Unit {0}) o p
told_on None None e = tt
told_on None (Some y) e = absurd (cc)
told_on (Some x) None e = absurd (cc)
told_on (Some x) (Some y) e = tt

-- a framer gave a reply
pub heard_reply : (o : Option Response) (reply : Response) (was new : Framing) (left before : Option (List ℕ)) → GivesMessage (Ok o) (ahead response was.limit was.rest) was new → o ≡ Some reply → was.limit ≡ 16777216
    → held was.rest left ≡ before → Told (Takes reply) before (held new.rest left)
heard_reply None reply was new left before gives is limit same = absurd (cc)
heard_reply (Some given) reply was new left before gives is limit same =
    let one : given ≡ reply = cc in
    let front : reply_front was.rest ≡ Message reply new.rest = subst (λ (n : ℕ). ahead response n was.rest ≡ Message reply new.rest) limit (subst (λ (r : Response). ahead response was.limit was.rest ≡ Message r new.rest) one gives.0) in
    subst (λ (b : Option (List ℕ)). Told (Takes reply) b (held new.rest left)) same (took reply was.rest new.rest left front)

-- a framer refused
pub heard_refused : (e : DecodeError) (was new : Framing) (refused : RequestError) (result : Result Response RequestError) (left before : Option (List ℕ)) → GivesMessage {A = Response} (Err e) (ahead response was.limit was.rest) was new
    → result ≡ Err refused → refused ≡ decode_refusal e → was.limit ≡ 16777216 → held was.rest left ≡ before → HearsBy before result (held new.rest left)
heard_refused decode_errors.NoMemory was new refused result left before gives is why limit same =
    subst (λ (r : Result Response RequestError). HearsBy before r (held new.rest left)) (sym (is ∙ ap Err why))
    (told_on before (held new.rest left) (ap (λ (f : Framing). held f.rest left) gives ∙ same))
heard_refused decode_errors.BadFrame was new refused result left before gives is why limit same =
    let front : reply_front was.rest ≡ Fault = subst (λ (n : ℕ). ahead response n was.rest ≡ Fault) limit gives.0 in
    subst (λ (r : Result Response RequestError). HearsBy before r (held new.rest left)) (sym (is ∙ ap Err why))
    (subst (λ (b : Option (List ℕ)). IfTold b IsBroken) same (broke was.rest left front), ap (λ (f : Framing). held f.rest left) gives.1 ∙ same)

-- a piece that was read and fed makes the rest longer, which is short as long as no reply is whole
pub grows : (o : Option Response) (was new fed_on : Framing) (n : ℕ) (buffer : List ℕ) → GivesMessage (Ok o) (ahead response was.limit was.rest) was new → o ≡ None → was.limit ≡ 16777216
    → n ≤ length buffer → (n ≡ 0 → ⊥) → fed_on.rest ≡ new.rest ++ take n buffer → 16777220 - length fed_on.rest < 16777220 - length was.rest
grows (Some given) was new fed_on n buffer gives is limit le some e = absurd (cc)
grows None was new fed_on n buffer gives is limit le some e =
    let few = short was.rest (subst (λ (m : ℕ). ahead response m was.rest ≡ Unfinished) limit gives.0) in
    let more : length fed_on.rest ≡ length was.rest + n = ap (λ (xs : List ℕ). length xs) e ∙ length-append new.rest (take n buffer) ∙ ap (λ (k : ℕ). length new.rest + k) (length-take-le n buffer le) ∙ ap (λ (f : Framing). length f.rest + n) gives.1 in
    let least : 0 < n = above_none n some in omega (arith, few, more, least)

-- ---- a frame out, and a reply in

-- the frame's write was refused: a front of it may stand
pub sends_refused : (e : WriteError) (bytes : List ℕ) (refused : RequestError) (result : Result Response RequestError) (before now : Option (List ℕ)) → result ≡ Err refused → refused ≡ write_refusal e
    → Told (WritesFront bytes) before now → SendsBy bytes result before now
sends_refused write_errors.NoMemory bytes refused result before now is why front = subst (λ (r : Result Response RequestError). SendsBy bytes r before now) (sym (is ∙ ap Err why)) (front_some bytes before now front)
sends_refused write_errors.WriteFault bytes refused result before now is why front = subst (λ (r : Result Response RequestError). SendsBy bytes r before now) (sym (is ∙ ap Err why)) front
