-- A frame is cut off again, whatever follows it.
use Rattle.std.proofs.Common.{◌≡◌, ℕ, ◌+◌, ◌*◌, ◌^◌, ◌<◌, ◌≤◌, false, List, [], ◌∷◌, ◌++◌, length, nat_lt, Option, Some, append_assoc, refl, sym, ap, subst, ◌∙◌, arith}
use Rattle.std.specs.Prelude.{IfSome}
use Rattle.std.specs.Int.{w32, from_be_bytes, to_be_bytes}
use Rattle.std.proofs.lemmas.Bool.{le-ltb}
use Rattle.std.proofs.lemmas.List.{append-nil, take_at, drop_at, length-append}
use Rattle.std.proofs.lemmas.Nat.{from_be_bytes-to_be_bytes_4}
use Rattle.sc_wire.specs.Codec.{Codec, Spells, all_again, all_found, read_all}
use Rattle.sc_wire.specs.Frames.{FramesAreApart, Message, Payload, SpellsAndReads, ahead, cut, cut_at, frame, if_message, message_of}

header_is : (x y z w n : ℕ) → n < 2 ^ 32 → to_be_bytes w32 n ≡ x ∷ y ∷ z ∷ w ∷ [] → ((x * 256 + y) * 256 + z) * 256 + w ≡ n
header_is x y z w n lt e =
    let back : from_be_bytes w32 (x ∷ y ∷ z ∷ w ∷ []) ≡ n = ap (from_be_bytes w32) (sym e) ∙ from_be_bytes-to_be_bytes_4 n lt in
    omega (arith, back)

cut_framed : (limit n : ℕ) (bytes : List ℕ) → n < 2 ^ 32 → cut limit (to_be_bytes w32 n ++ bytes) ≡ cut_at limit n bytes
cut_framed limit n bytes lt = ap (λ (k : ℕ). cut_at limit k bytes) (header_is _ _ _ _ n lt refl)

cut_whole : (limit : ℕ) (payload after : List ℕ) → length payload ≤ limit → cut_at limit (length payload) (payload ++ after) ≡ Payload payload after
cut_whole limit payload after le =
    let within : nat_lt limit (length payload) ≡ false = le-ltb _ _ le in
    let whole : nat_lt (length (payload ++ after)) (length payload) ≡ false = le-ltb _ _ (omega (arith, length-append payload after)) in
    rw (within, whole, take_at payload after (length payload) refl, drop_at payload after (length payload) refl) refl

cut_frame : (limit : ℕ) (payload after : List ℕ) → length payload < 2 ^ 32 → length payload ≤ limit → cut limit (frame payload ++ after) ≡ Payload payload after
cut_frame limit payload after lt le =
    ap (cut limit) (append_assoc (to_be_bytes w32 (length payload)) payload after)
    ∙ cut_framed limit (length payload) (payload ++ after) lt
    ∙ cut_whole limit payload after le

payloads_apart : (p q a b : List ℕ) → Payload p a ≡ Payload q b → (p ≡ q) × (a ≡ b)
payloads_apart p q a b e = (cc, cc)

pub frames_are_apart : FramesAreApart
frames_are_apart p q after lt kt e =
    let limit = length p + length q in
    payloads_apart p q after [] (sym (cut_frame limit p after lt (omega arith)) ∙ ap (cut limit) (e ∙ sym (append-nil (frame q))) ∙ cut_frame limit q [] kt (omega arith))

found_is : {A : Type 0} (a : Codec A) (bytes : List ℕ) (message : A) (o : Option A) → IfSome o (λ y. Spells a bytes y) → o ≡ Some message → Spells a bytes message
found_is a bytes message o h e = subst (λ r. IfSome r (λ y. Spells a bytes y)) e h

framed_is : {A : Type 0} (a : Codec A) (limit : ℕ) (message : A) (after : List ℕ) → a.Fits message → limit < 2 ^ 32 → length (a.spell message) ≤ limit → ahead a limit (frame (a.spell message) ++ after) ≡ Message message after
unfolding ahead
framed_is a limit message after fits lt le =
    ap (message_of a) (cut_frame limit (a.spell message) after (omega arith) le)
    ∙ ap (λ o. if_message o after) (all_again a (a.spell message) message (fits, refl))

pub spells_and_reads : {A : Type 0} (a : Codec A) → SpellsAndReads a
spells_and_reads a = record {
  read = all_again a;
  spelled = λ bytes message e. found_is a bytes message (read_all a bytes) (all_found a bytes) e;
  framed = framed_is a;
}
