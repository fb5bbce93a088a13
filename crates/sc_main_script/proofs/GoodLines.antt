-- What holds of all that a line says.
use Rattle.std.proofs.Common.{◌≡◌, ℕ, ◌^◌, ◌-◌, true, ◌&&◌, nat_le, List, [], ◌∷◌, ◌++◌, Option, Some, None, refl, ap, subst}
use Rattle.sc_model.specs.GoodNames.{are_run_objects, is_chain, is_good_answer}
use Rattle.sc_compile.specs.declared.key_line.KeyRefusal.TheVariants.{Fault as KeyFault, ProcessError as KeyError}
use Rattle.sc_compile_dist.specs.GoodJobs.{is_good_dist}
use Rattle.sc_entry.specs.Keys.{is_store_key}
use Rattle.sc_model.specs.declared.event.DistAnswer.{DistAnswer}
use Rattle.sc_model.specs.declared.event.DistAnswer.TheVariants.{Done, Http, Other, TooLarge}
use Rattle.sc_model.specs.declared.event.Objects.TheVariants.{Collected}
use Rattle.sc_model.specs.declared.event.RunAnswer.TheVariants.{Fault, Output, ProcessError}
use Rattle.sc_main_script.proofs.GoodObjects.{good_objects}
use Rattle.sc_main_script_words.proofs.Tests.{by_only, by_then, some_same}
use Rattle.sc_main_script_words.specs.Fields.{bytes_of_token, hex_of, number_in, number_of, store_key_of, text_of_token}
use Rattle.sc_main_script.specs.Choices.{kind_of, outcome_of, level_kind_of, mode_of, policy_name_of}
use Rattle.sc_words.specs.Readers.{◌>>=◌, field, gives}
use Rattle.sc_main_script_words.specs.Requests.{request_words}
use Rattle.sc_main_script.specs.Lines.{ask_line, back_line, body, capacity_words, own_policy, policy_line, bytes_line, connections_line, dist_line, done_words, fail_line, hold_line, job_words, key_error_line, key_fault_line, keyword_of, level_line, limit_line, line_of_words, pass_line, place_fault_line, read_line, run_error_line, run_fault_line, run_line, serve_line, times_of, tokens_line, tool_line, version_line, whole}
use Rattle.sc_main_script_words.specs.Outputs.{chain_words, no_names, objects_onto, output_words, texts_onto}
use Rattle.sc_words.specs.Words.{Reader}
use Rattle.sc_main_script.specs.declared.job_rule.JobOutcome.{JobOutcome}
use Rattle.sc_main_script.specs.declared.job_rule.JobOutcome.TheVariants as job
use Rattle.sc_main_script.specs.declared.line.Line.{Line}
use Rattle.sc_main_script.specs.declared.line.Line.TheVariants.{Version, Connections, Tokens, Limit, Policy, Level, Hold, Fail, Tool, Run, KeyStep, Place, Job, Bytes, Ask, Read, Serve, Back, Pass}
use Rattle.sc_main_script.specs.declared.lines.Keyword.{Keyword}
use Rattle.sc_main_script.specs.declared.lines.Keyword.TheVariants as at

abbrev pub IsWithin : ℕ → ℕ → ℕ → Type 0
IsWithin low high n = (nat_le low n && nat_le n high) ≡ true

abbrev IsKey : List ℕ → Type 0
IsKey key = is_store_key key ≡ true

abbrev pub GoodLine : Line → Type 0
GoodLine (Tokens n) = IsWithin 1 65535 n
GoodLine (Limit n) = IsWithin 1 16777216 n
GoodLine (Hold h) = is_store_key h.key ≡ true
GoodLine (Run r) = is_good_answer r.answer ≡ true
GoodLine (Place r) = is_chain r.chain ≡ true
GoodLine (Job r) = is_good_dist r.answer ≡ true
GoodLine _ = Unit {0}

-- what holds of all that a reader gives
abbrev Ends : {A : Type 0} → (A → Type 0) → Reader A → Type 0
Ends {A} P r = (ws : List (List ℕ)) (x : A) (rest : List (List ℕ)) → r ws ≡ Some (x, rest) → P x

ends_then : {A B : Type 0} (P : B → Type 0) (Q : A → Type 0) (r : Reader A) (f : A → Reader B) → Ends Q r → ((x : A) → Q x → Ends P (f x)) → Ends P (r >>= f)
ends_then P Q r f q g ws y rest e = by_then (r ws) (λ p. f p.0 p.1) (y, rest) (λ p is made. g p.0 (q ws p.0 p.1 is) p.1 y rest made) e

ends_on : {A B : Type 0} (P : B → Type 0) (r : Reader A) (f : A → Reader B) → ((x : A) → Ends P (f x)) → Ends P (r >>= f)
ends_on P r f g = ends_then P (λ x. Unit {0}) r f (λ ws x rest e. tt) (λ x any. g x)

ends_gives : {A : Type 0} (P : A → Type 0) (x : A) → P x → Ends P (gives x)
ends_gives {A} P x p ws y rest e = subst P (ap (λ (q : A × List (List ℕ)). q.0) (some_same (x, ws) (y, rest) e)) p

ends_field : {A : Type 0} (P : A → Type 0) (f : List ℕ → Option A) → ((w : List ℕ) (x : A) → f w ≡ Some x → P x) → Ends P (field f)
ends_field {A} P f g [] x rest e = absurd (cc)
ends_field {A} P f g (w ∷ ws) x rest e = by_then (f w) (λ y. Some (y, ws)) (x, rest) (λ y is made. subst P (ap (λ (q : A × List (List ℕ)). q.0) (some_same (y, ws) (x, rest) made)) (g w y is)) e

within : (low high : ℕ) (w : List ℕ) (n : ℕ) → number_in low high w ≡ Some n → IsWithin low high n
unfolding number_in
within low high w n e = by_then (number_of w) _ n (λ m is. by_only (nat_le low m && nat_le m high) m n (λ test same. rw (← same) test)) e

store_key : (w key : List ℕ) → store_key_of w ≡ Some key → is_store_key key ≡ true
unfolding store_key_of
store_key w key e = by_then (text_of_token w) _ key (λ k is. by_only (is_store_key k) k key (λ test same. rw (← same) test)) e

good_version : Ends GoodLine version_line
unfolding version_line
good_version = ends_on GoodLine (field (number_in 1 1)) _ (λ n. ends_gives GoodLine Version tt)

good_connections : Ends GoodLine connections_line
unfolding connections_line
good_connections = ends_on GoodLine (field (number_in 0 1024)) _ (λ n. ends_gives GoodLine (Connections n) tt)

good_tokens : Ends GoodLine tokens_line
unfolding tokens_line
good_tokens = ends_then GoodLine (IsWithin 1 65535) (field (number_in 1 65535)) _ (ends_field (IsWithin 1 65535) (number_in 1 65535) (within 1 65535)) (λ n good. ends_gives GoodLine (Tokens n) good)

good_limit : Ends GoodLine limit_line
unfolding limit_line
good_limit = ends_then GoodLine (IsWithin 1 16777216) (field (number_in 1 16777216)) _ (ends_field (IsWithin 1 16777216) (number_in 1 16777216) (within 1 16777216)) (λ n good. ends_gives GoodLine (Limit n) good)

good_policy : Ends GoodLine policy_line
unfolding policy_line
good_policy = ends_on GoodLine (field policy_name_of) _ (λ n. ends_gives GoodLine (Policy n) tt)

good_level : Ends GoodLine level_line
unfolding level_line
good_level = ends_on GoodLine (field level_kind_of) _ (λ k. ends_on GoodLine (capacity_words k) _ (λ n. ends_on GoodLine (field mode_of) _ (λ m. ends_on GoodLine own_policy _ (λ p. ends_gives GoodLine (Level (record { kind = k; capacity = n; mode = m; policy = p })) tt))))

good_hold : Ends GoodLine hold_line
unfolding hold_line
good_hold = ends_on GoodLine (field number_of) _ (λ l. ends_then GoodLine IsKey (field store_key_of) _ (ends_field IsKey store_key_of store_key) (λ k good. ends_on GoodLine (field bytes_of_token) _ (λ b. ends_gives GoodLine (Hold (record { level = l; key = k; bytes = b })) good)))

good_fail : Ends GoodLine fail_line
unfolding fail_line
good_fail = ends_on GoodLine (field number_of) _ (λ l. ends_on GoodLine (field number_of) _ (λ c. ends_gives GoodLine (Fail l c) tt))

good_tool : Ends GoodLine tool_line
unfolding tool_line
good_tool = ends_on GoodLine (field bytes_of_token) _ (λ p. ends_on GoodLine (field number_of) _ (λ m. ends_on GoodLine (field kind_of) _ (λ k. ends_gives GoodLine (Tool (record { path = p; moment = m; kind = k })) tt)))

-- a chain of texts has one at least
abbrev IsChain : List (List ℕ) → Type 0
IsChain chain = is_chain chain ≡ true

chain_more : (sofar : List (List ℕ)) (t : List ℕ) → IsChain sofar → IsChain (sofar ++ t ∷ [])
chain_more [] t some = absurd (cc)
chain_more (x ∷ sofar) t some = refl

good_texts : (sofar : List (List ℕ)) → IsChain sofar → Ends IsChain (texts_onto sofar)
good_texts sofar some [] ts rest e = subst IsChain (ap (λ (q : List (List ℕ) × List (List ℕ)). q.0) (some_same (sofar, []) (ts, rest) e)) some
good_texts sofar some (w ∷ ws) ts rest e = by_then (text_of_token w) _ (ts, rest) (λ t is made. good_texts (sofar ++ t ∷ []) (chain_more sofar t some) ws ts rest made) e

good_chain : Ends IsChain chain_words
unfolding chain_words
good_chain = ends_on IsChain (field text_of_token) _ (λ t. good_texts (t ∷ []) refl)

good_run : Ends GoodLine run_line
unfolding run_line
good_run = ends_on GoodLine (field text_of_token) _ (λ k. ends_on GoodLine output_words _ (λ o. ends_then GoodLine (λ os. are_run_objects os ≡ true) (objects_onto [] no_names) _ good_objects (λ os good. ends_gives GoodLine (Run (record {
  key = k;
  answer = Output (record { output = o; objects = Collected os });
})) good)))

good_run_error : Ends GoodLine run_error_line
unfolding run_error_line
good_run_error = ends_on GoodLine (field text_of_token) _ (λ k. ends_on GoodLine output_words _ (λ o. ends_gives GoodLine (Run (record { key = k; answer = ProcessError o })) refl))

good_run_fault : Ends GoodLine run_fault_line
unfolding run_fault_line
good_run_fault = ends_on GoodLine (field text_of_token) _ (λ k. ends_then GoodLine IsChain chain_words _ good_chain (λ ts good. ends_gives GoodLine (Run (record { key = k; answer = Fault ts })) good))

good_key_error : Ends GoodLine key_error_line
unfolding key_error_line
good_key_error = ends_on GoodLine (field text_of_token) _ (λ k. ends_on GoodLine output_words _ (λ o. ends_gives GoodLine (KeyStep (record { key = k; refusal = KeyError o })) tt))

good_key_fault : Ends GoodLine key_fault_line
unfolding key_fault_line
good_key_fault = ends_on GoodLine (field text_of_token) _ (λ k. ends_on GoodLine chain_words _ (λ ts. ends_gives GoodLine (KeyStep (record { key = k; refusal = KeyFault ts })) tt))

good_place_fault : Ends GoodLine place_fault_line
unfolding place_fault_line
good_place_fault = ends_on GoodLine (field text_of_token) _ (λ k. ends_then GoodLine IsChain chain_words _ good_chain (λ ts good. ends_gives GoodLine (Place (record { key = k; chain = ts })) good))

-- what a distributed job may come to
abbrev IsJob : DistAnswer → Type 0
IsJob a = is_good_dist a ≡ true

good_done : Ends IsJob done_words
unfolding done_words
good_done = ends_on IsJob (field text_of_token) _ (λ s. ends_on IsJob output_words _ (λ o. ends_then IsJob (λ os. are_run_objects os ≡ true) (objects_onto [] no_names) _ good_objects (λ os good. ends_gives IsJob (Done s (record {
  output = o;
  objects = Collected os;
})) good)))

good_outcome : (o : JobOutcome) → Ends IsJob (job_words o)
unfolding job_words
good_outcome job.Done = good_done
good_outcome job.Http = ends_on IsJob (field text_of_token) _ (λ t. ends_gives IsJob (Http t) refl)
good_outcome job.Large = ends_on IsJob (field text_of_token) _ (λ t. ends_gives IsJob (TooLarge t) refl)
good_outcome job.Other = ends_on IsJob (field text_of_token) _ (λ t. ends_gives IsJob (Other t) refl)

good_dist : Ends GoodLine dist_line
unfolding dist_line
good_dist = ends_on GoodLine (field text_of_token) _ (λ k. ends_on GoodLine (field outcome_of) _ (λ o. ends_then GoodLine IsJob (job_words o) _ (good_outcome o) (λ a good. ends_gives GoodLine (Job (record { key = k; answer = a })) good)))

good_bytes : Ends GoodLine bytes_line
unfolding bytes_line
good_bytes = ends_on GoodLine (field number_of) _ (λ c. ends_on GoodLine (field hex_of) _ (λ b. ends_gives GoodLine (Bytes c b) tt))

good_ask : Ends GoodLine ask_line
unfolding ask_line
good_ask = ends_on GoodLine (field number_of) _ (λ c. ends_on GoodLine request_words _ (λ r. ends_gives GoodLine (Ask c r) tt))

good_read : Ends GoodLine read_line
unfolding read_line
good_read = ends_on GoodLine (field number_of) _ (λ c. ends_on GoodLine (field (number_in 1 (2 ^ 64 - 1))) _ (λ n. ends_gives GoodLine (Read c n) tt))

good_serve : Ends GoodLine serve_line
unfolding serve_line
good_serve = ends_on GoodLine (field number_of) _ (λ c. ends_on GoodLine (times_of) _ (λ n. ends_gives GoodLine (Serve c n) tt))

good_back : Ends GoodLine back_line
unfolding back_line
good_back = ends_on GoodLine (field number_of) _ (λ n. ends_gives GoodLine (Back n) tt)

good_pass : Ends GoodLine pass_line
unfolding pass_line
good_pass = ends_on GoodLine (field number_of) _ (λ n. ends_gives GoodLine (Pass n) tt)

good_body : (k : Keyword) → Ends GoodLine (body k)
unfolding body
good_body at.Version = good_version
good_body at.Connections = good_connections
good_body at.Tokens = good_tokens
good_body at.Limit = good_limit
good_body at.Policy = good_policy
good_body at.Level = good_level
good_body at.Hold = good_hold
good_body at.Fail = good_fail
good_body at.Tool = good_tool
good_body at.Run = good_run
good_body at.RunError = good_run_error
good_body at.RunFault = good_run_fault
good_body at.KeyError = good_key_error
good_body at.KeyFault = good_key_fault
good_body at.PlaceFault = good_place_fault
good_body at.Dist = good_dist
good_body at.Bytes = good_bytes
good_body at.Ask = good_ask
good_body at.Read = good_read
good_body at.Serve = good_serve
good_body at.Back = good_back
good_body at.Pass = good_pass

by_whole : {P : Type 0} (o : Option (Line × List (List ℕ))) (l : Line) → (o ≡ Some (l, []) → P) → whole o ≡ Some l → P
by_whole None l f e = absurd (cc)
by_whole (Some (line, [])) l f e = f (ap (λ (x : Line). Some (x, [])) (some_same line l e))
by_whole (Some (line, w ∷ ws)) l f e = absurd (cc)

-- every line that is good
pub good_line : (ws : List (List ℕ)) (l : Line) → line_of_words ws ≡ Some l → GoodLine l
unfolding line_of_words
good_line [] l e = absurd (cc)
good_line (w ∷ ws) l e = by_then (keyword_of w) _ l (λ k is. by_whole (body k ws) l (good_body k ws l [])) e
