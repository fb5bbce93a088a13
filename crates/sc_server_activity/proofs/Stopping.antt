-- A poll is ready in the words of its contract exactly where it has a cause.
use Rattle.std.proofs.Common.{◌≡◌, ℕ, zero, suc, ◌+◌, ◌-◌, ◌<◌, ◌≤◌, Bool, true, false, nat_lt, nat_le, List, [], ◌∷◌, length, get_or, Option, Some, None, IsTrue, IsSome, is_some, Contains, ◌⊎◌, ◌↔◌, inl, inr, refl, arith}
use Rattle.std.specs.Option.{option_or}
use Rattle.std.proofs.lemmas.Bool.{and_from, and_parts, lt-ltb, ltb-true, le-leb, leb-true}
use Rattle.sc_server_activity.specs.Waits.{cause_of, has_passed, HasPassed, has_shutdown}
use Rattle.sc_server_activity.specs.declared.server_message.ServerMessage.{ServerMessage}
use Rattle.sc_server_activity.specs.declared.server_message.ServerMessage.TheVariants.{Request, Shutdown}
use Rattle.sc_server_activity.specs.declared.stop_cause.StopCause.{StopCause}

taken_shutdown : (standing : List ServerMessage) → has_shutdown standing ≡ true → Contains standing Shutdown
taken_shutdown [] e = (cc)
taken_shutdown (Request ∷ later) e = let there = taken_shutdown later e in (suc there.0, let small = there.1 in omega arith, there.2)
taken_shutdown (Shutdown ∷ later) e = (0, omega arith, refl)

takes_shutdown : (standing : List ServerMessage) (k : ℕ) → k < length standing → get_or standing k Shutdown ≡ Shutdown → has_shutdown standing ≡ true
takes_shutdown [] k small is = absurd (omega arith)
takes_shutdown (Shutdown ∷ later) k small is = refl
takes_shutdown (Request ∷ later) zero small is = (cc)
takes_shutdown (Request ∷ later) (suc k) small is = takes_shutdown later k (omega arith) is

passed : (idle_time since now : ℕ) → has_passed idle_time since now ≡ true → HasPassed idle_time since now
passed idle_time since now e =
    let both = and_parts (nat_lt 0 idle_time) (nat_le idle_time (now - since)) e in
    (ltb-true 0 idle_time both.0, leb-true idle_time (now - since) both.1)

passes : (idle_time since now : ℕ) → HasPassed idle_time since now → has_passed idle_time since now ≡ true
passes idle_time since now long =
    and_from (nat_lt 0 idle_time) (nat_le idle_time (now - since)) (lt-ltb 0 idle_time long.0) (le-leb idle_time (now - since) long.1)

-- a poll with a cause has one of four reasons
abbrev Reasons : Option StopCause → Bool → Bool → Bool → Type 0
Reasons old took is_closed has_idled = IsSome old ⊎ ((took ≡ true) ⊎ ((is_closed ≡ true) ⊎ (has_idled ≡ true)))

reason_of : (old : Option StopCause) (took is_closed has_idled : Bool) → is_some (option_or old (cause_of took is_closed has_idled)) ≡ true → Reasons old took is_closed has_idled
reason_of (Some cause) took is_closed has_idled e = inl refl
reason_of None true is_closed has_idled e = inr (inl refl)
reason_of None false true has_idled e = inr (inr (inl refl))
reason_of None false false true e = inr (inr (inr refl))
reason_of None false false false e = (cc)

cause_for : (old : Option StopCause) (took is_closed has_idled : Bool) → Reasons old took is_closed has_idled → is_some (option_or old (cause_of took is_closed has_idled)) ≡ true
cause_for (Some cause) took is_closed has_idled why = refl
cause_for None true is_closed has_idled why = refl
cause_for None false true has_idled why = refl
cause_for None false false true why = refl
cause_for None false false false (inl is) = (cc)
cause_for None false false false (inr (inl is)) = (cc)
cause_for None false false false (inr (inr (inl is))) = (cc)
cause_for None false false false (inr (inr (inr is))) = (cc)

-- the reasons in the words of the contract
abbrev pub Stops : Option StopCause → List ServerMessage → Bool → ℕ → ℕ → ℕ → Type 0
Stops old standing is_closed idle_time since now = IsSome old ⊎ (Contains standing Shutdown ⊎ (IsTrue is_closed ⊎ HasPassed idle_time since now))

in_words : (old : Option StopCause) (standing : List ServerMessage) (is_closed : Bool) (idle_time since now : ℕ)
    → Reasons old (has_shutdown standing) is_closed (has_passed idle_time since now) → Stops old standing is_closed idle_time since now
in_words old standing is_closed idle_time since now (inl is) = inl is
in_words old standing is_closed idle_time since now (inr (inl took)) = inr (inl (taken_shutdown standing took))
in_words old standing is_closed idle_time since now (inr (inr (inl closed))) = inr (inr (inl closed))
in_words old standing is_closed idle_time since now (inr (inr (inr long))) = inr (inr (inr (passed idle_time since now long)))

from_words : (old : Option StopCause) (standing : List ServerMessage) (is_closed : Bool) (idle_time since now : ℕ)
    → Stops old standing is_closed idle_time since now → Reasons old (has_shutdown standing) is_closed (has_passed idle_time since now)
from_words old standing is_closed idle_time since now (inl is) = inl is
from_words old standing is_closed idle_time since now (inr (inl there)) = inr (inl (takes_shutdown standing there.0 there.1 there.2))
from_words old standing is_closed idle_time since now (inr (inr (inl closed))) = inr (inr (inl closed))
from_words old standing is_closed idle_time since now (inr (inr (inr long))) = inr (inr (inr (passes idle_time since now long)))

pub ready_where : (old : Option StopCause) (standing : List ServerMessage) (is_closed : Bool) (idle_time since now : ℕ) (ready : Bool)
    → ready ≡ is_some (option_or old (cause_of (has_shutdown standing) is_closed (has_passed idle_time since now)))
    → IsTrue ready ↔ Stops old standing is_closed idle_time since now
ready_where old standing is_closed idle_time since now ready e = (
  λ is. in_words old standing is_closed idle_time since now (reason_of old (has_shutdown standing) is_closed (has_passed idle_time since now) (rw e at is)),
  λ why. rw e (cause_for old (has_shutdown standing) is_closed (has_passed idle_time since now) (from_words old standing is_closed idle_time since now why)),
)
