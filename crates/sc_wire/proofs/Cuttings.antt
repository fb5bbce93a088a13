-- Requests come whole, whatever the cutting.
use Rattle.std.proofs.Common.{◌≡◌, ℕ, zero, suc, ◌<◌, List, [], ◌∷◌, ◌++◌, length, Option, refl, sym, ap, ◌∙◌, subst, append_assoc, arith}
use Rattle.std.proofs.lemmas.List.{append-nil}
use Rattle.sc_model.specs.Script.{Reader, ReadsOn}
use Rattle.sc_model.specs.Stream.{Bad, Frame, Front, Part, front, read_requests, read_rest, stream_reader}
use Rattle.sc_model.specs.declared.message.Request.{Request}
use Rattle.sc_model.proofs.Streams.{Shrinks, front_shrinks, reads_on, same_requests, same_rest}
use Rattle.sc_wire.specs.Streams.{AnyCutting, Follows, IsStopped}

module _ (limit : ℕ) (decode : List ℕ → Option Request) where
  abbrev reader : Reader
  reader = stream_reader limit decode

  on : ReadsOn reader
  on = reads_on limit decode

  abbrev requests_by : ℕ → Front → List Request
  requests_by n f = elim f [ Part ↦ [] | Bad ↦ [] | Frame r rest ↦ r ∷ read_requests limit decode n rest ]

  abbrev rest_by : ℕ → List ℕ → Front → List ℕ
  rest_by n b f = elim f [ Part ↦ b | Bad ↦ b | Frame r rest ↦ read_rest limit decode n rest ]

  starts : Follows limit decode [] [] []
  starts = record { requests = refl; rest = refl; ends = λ closed. refl }

  fed_on : (fed : List ℕ) (taken : List Request) (held piece : List ℕ) → Follows limit decode fed taken held → Follows limit decode (fed ++ piece) taken (held ++ piece)
  fed_on fed taken held piece h =
      let same : reader.rest (fed ++ piece) ≡ reader.rest (held ++ piece) =
      on.rest fed piece ∙ ap (λ b. reader.rest (b ++ piece)) h.rest ∙ sym (on.rest held piece) in
      record {
        requests = on.requests fed piece
            ∙ ap (λ rs. rs ++ reader.requests (reader.rest fed ++ piece)) h.requests
            ∙ ap (λ b. (taken ++ reader.requests held) ++ reader.requests (b ++ piece)) h.rest
            ∙ append_assoc taken (reader.requests held) (reader.requests (reader.rest held ++ piece))
            ∙ ap (λ rs. taken ++ rs) (sym (on.requests held piece));
        rest = same;
        ends = λ closed. on.ends (fed ++ piece) closed ∙ ap (λ b. reader.ends b closed) same ∙ sym (on.ends (held ++ piece) closed);
      }

  fewer_requests : (n : ℕ) (held : List ℕ) (r : Request) (rest : List ℕ) → n ≡ length held → length rest < n → front limit decode held ≡ Frame r rest → read_requests limit decode n held ≡ r ∷ reader.requests rest
  fewer_requests zero held r rest e lt is = absurd (omega arith)
  fewer_requests (suc n) held r rest e lt is =
      ap (requests_by n) is ∙ ap (λ rs. r ∷ rs) (same_requests limit decode n (length rest) rest (omega arith) (omega arith))

  fewer_rest : (n : ℕ) (held : List ℕ) (r : Request) (rest : List ℕ) → n ≡ length held → length rest < n → front limit decode held ≡ Frame r rest → read_rest limit decode n held ≡ reader.rest rest
  fewer_rest zero held r rest e lt is = absurd (omega arith)
  fewer_rest (suc n) held r rest e lt is =
      ap (rest_by n held) is ∙ same_rest limit decode n (length rest) rest (omega arith) (omega arith)

  is_fewer : (held : List ℕ) (r : Request) (rest : List ℕ) → front limit decode held ≡ Frame r rest → length rest < length held
  is_fewer held r rest is = subst (λ f. Shrinks limit decode f (length held)) is (front_shrinks limit decode held)

  given_on : (fed : List ℕ) (taken : List Request) (held : List ℕ) (r : Request) (rest : List ℕ) → front limit decode held ≡ Frame r rest → Follows limit decode fed taken held → Follows limit decode fed (taken ++ r ∷ []) rest
  given_on fed taken held r rest is h =
      let lt = is_fewer held r rest is in
      let same : reader.rest held ≡ reader.rest rest = fewer_rest (length held) held r rest refl lt is in
      record {
        requests = h.requests
            ∙ ap (λ rs. taken ++ rs) (fewer_requests (length held) held r rest refl lt is)
            ∙ sym (append_assoc taken (r ∷ []) (reader.requests rest));
        rest = h.rest ∙ same;
        ends = λ closed. h.ends closed ∙ on.ends held closed ∙ ap (λ b. reader.ends b closed) same ∙ sym (on.ends rest closed);
      }

  none_more : (n : ℕ) (held : List ℕ) (f : Front) → front limit decode held ≡ f → IsStopped f → read_requests limit decode n held ≡ []
  none_more zero held f is stopped = refl
  none_more (suc n) held Part is stopped = ap (requests_by n) is
  none_more (suc n) held Bad is stopped = ap (requests_by n) is
  none_more (suc n) held (Frame r rest) is stopped = absurd stopped

  all_left : (n : ℕ) (held : List ℕ) (f : Front) → front limit decode held ≡ f → IsStopped f → read_rest limit decode n held ≡ held
  all_left zero held f is stopped = refl
  all_left (suc n) held Part is stopped = ap (rest_by n held) is
  all_left (suc n) held Bad is stopped = ap (rest_by n held) is
  all_left (suc n) held (Frame r rest) is stopped = absurd stopped

  pub any_cutting_is : AnyCutting limit decode
  any_cutting_is = record {
    none = starts;
    fed = fed_on;
    given = given_on;
    all_taken = λ fed taken held stopped h. h.requests ∙ ap (λ rs. taken ++ rs) (none_more (length held) held (front limit decode held) refl stopped) ∙ append-nil taken;
    all_rest = λ fed taken held stopped h. h.rest ∙ all_left (length held) held (front limit decode held) refl stopped;
  }
