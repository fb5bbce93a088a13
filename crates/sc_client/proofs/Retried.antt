-- A connect more, behind those that were refused.
use Rattle.std.proofs.Common.{◌≡◌, ℕ, zero, suc, ◌+◌, ◌-◌, ◌^◌, ◌≤◌, min, replicate, List, [], ◌∷◌, ◌++◌, Option, Some, None, Result, Ok, Err, arith, refl, sym, ap, ◌∙◌, subst, append_assoc, add-one}
use Rattle.sc_entry.specs.Causes.{Rose, Told}
use Rattle.sc_link.specs.Connecting.{GivesFirst, Gains as GainsOne}
use Rattle.sc_link.specs.declared.link_error.ConnectError.{ConnectError}
use Rattle.sc_link.specs.declared.link_error.ConnectError.TheVariants.{LinkFault, NoMemory}
use Rattle.sc_wire_address.specs.declared.socket_addr.SocketAddr.{SocketAddr}
use Rattle.sc_client.specs.Connecting.{ConnectsOnce, Gains, RoseBy}
use Rattle.sc_client.specs.Conversations.{Conversation}
use Rattle.sc_client.specs.Retrying.{IsOverFirst, Retries, Tries}
use Rattle.sc_client.specs.declared.client_error.ClientError.{ClientError}
use Rattle.sc_client.specs.declared.client_error.ClientError.TheVariants.{TimedOut}

one_more : {A : Type 0} (n : ℕ) (x : A) → replicate n x ++ x ∷ [] ≡ replicate (suc n) x
one_more zero x = refl
one_more (suc n) x = ap (λ xs. x ∷ xs) (one_more n x)

gains_more : (n : ℕ) (x : SocketAddr) (o p q : Option (List SocketAddr)) → Gains n x o p → GainsOne x p q → Gains (n + 1) x o q
gains_more n x None None None many one = tt
gains_more n x None None (Some c) many one = absurd one
gains_more n x None (Some b) q many one = absurd many
gains_more n x (Some a) None q many one = absurd many
gains_more n x (Some a) (Some b) None many one = absurd one
gains_more n x (Some a) (Some b) (Some c) many one =
    one ∙ ap (λ ys. ys ++ x ∷ []) many ∙ append_assoc a (replicate n x) (x ∷ []) ∙ ap (λ ys. a ++ ys) (one_more n x ∙ ap (λ (m : ℕ). replicate m x) (sym (add-one n)))

same_links : {K : Type 0} (refused : ConnectError) (o p : Option (List K)) → Told (GivesFirst (Err refused)) o p → p ≡ o
same_links refused None None told = refl
same_links refused None (Some y) told = absurd told
same_links refused (Some x) None told = absurd told
same_links refused (Some x) (Some y) told = ap Some told

rose_more : (most n f0 f1 f2 : ℕ) → min (f0 + n) most ≤ f1 → min (f1 + 1) most ≤ f2 → min (f0 + (n + 1)) most ≤ f2
rose_more most n f0 f1 f2 many one = omega (arith, many, one)

module _ {K : Type 0} (begun : K → Conversation) (addr : SocketAddr) (asked a1 a2 : Option (List SocketAddr)) (paused p1 : Option (List ℕ)) (links l1 l2 : Option (List K)) (f0 f1 f2 n : ℕ) (many : Gains n addr asked a1) (pauses : Gains n 500000000 paused p1) (same : l1 ≡ links) (counted : RoseBy n f0 f1) where
  gave : (answer : Result K ConnectError) (connection : Conversation) → n ≤ 10 → ConnectsOnce addr answer a1 a2 l1 l2 f1 f2 → Tries begun answer (Ok (Ok connection)) → Retries begun addr asked a2 paused p1 links l2 f0 f2 (Ok connection)
  gave (Ok link) connection few once tries = (
    n,
    few,
    gains_more n addr asked a1 a2 many once.asked_once,
    pauses,
    subst (λ (f : ℕ). RoseBy n f0 f) (sym once.caused) counted,
    (link, tries, subst (λ (o : Option (List K)). Told (λ old new. old ≡ link ∷ new) o l2) same once.first),
  )
  gave (Err NoMemory) connection few once tries = absurd tries
  gave (Err LinkFault) connection few once tries = absurd tries

  refused : (answer : Result K ConnectError) (why : ConnectError) → n ≡ 10 → ConnectsOnce addr answer a1 a2 l1 l2 f1 f2 → Tries begun answer (Ok (Err why)) → Retries begun addr asked a2 paused p1 links l2 f0 f2 (Err (TimedOut why))
  refused (Ok link) why ten once tries = absurd tries
  refused (Err NoMemory) why ten once tries = absurd tries
  refused (Err LinkFault) why ten once tries = (
    tries,
    subst (λ (m : ℕ). Gains (m + 1) addr asked a2) ten (gains_more n addr asked a1 a2 many once.asked_once),
    subst (λ (m : ℕ). Gains m 500000000 paused p1) ten pauses,
    subst (λ (m : ℕ). RoseBy (m + 1) f0 f2) ten (rose_more (2 ^ 64 - 1) n f0 f1 f2 counted once.caused),
    same_links LinkFault l1 l2 once.first ∙ same,
  )

  pub gave_by : (r : Result Conversation ConnectError) (connection : Conversation) → r ≡ Ok connection → n ≤ 10 → ((answer : Result K ConnectError) × ConnectsOnce addr answer a1 a2 l1 l2 f1 f2 × Tries begun answer (Ok r)) → Retries begun addr asked a2 paused p1 links l2 f0 f2 (Ok connection)
  gave_by r connection is few (answer, once, tries) = gave answer connection few once (subst (λ (x : Result Conversation ConnectError). Tries begun answer (Ok x)) is tries)

  pub refused_by : (r : Result Conversation ConnectError) (why : ConnectError) → r ≡ Err why → n ≡ 10 → ((answer : Result K ConnectError) × ConnectsOnce addr answer a1 a2 l1 l2 f1 f2 × Tries begun answer (Ok r)) → Retries begun addr asked a2 paused p1 links l2 f0 f2 (Err (TimedOut why))
  refused_by r why is ten (answer, once, tries) = refused answer why ten once (subst (λ (x : Result Conversation ConnectError). Tries begun answer (Ok x)) is tries)
