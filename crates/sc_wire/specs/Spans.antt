-- Spans of time: whole seconds as a u64, and nanoseconds below a second as a u32.
use Rattle.std.specs.Prelude.{◌≡◌, ℕ, ◌+◌, ◌*◌, ◌/◌, ◌%◌, ◌<◌, Bool, IsTrue, nat_lt}
use Rattle.std.proofs.Common.{arith, ltb-true}
use Rattle.sc_wire.specs.Codec.{Codec, fitting_as, where_true, ◌&◌}
use Rattle.sc_wire.specs.Numbers.{u32, u64}

abbrev pub is_below_second : ℕ × ℕ → Bool
is_below_second p = nat_lt p.1 1_000_000_000

abbrev pub nanoseconds_of : ℕ × ℕ → ℕ
nanoseconds_of p = p.0 * 1_000_000_000 + p.1

-- seconds, and nanoseconds below a second
abbrev pub parts_of : ℕ → ℕ × ℕ
parts_of n = (n / 1_000_000_000, n % 1_000_000_000)

same_seconds : (s n : ℕ) → n < 1_000_000_000 → (s * 1_000_000_000 + n) / 1_000_000_000 ≡ s
same_seconds s n lt = omega arith

same_nanoseconds : (s n : ℕ) → n < 1_000_000_000 → (s * 1_000_000_000 + n) % 1_000_000_000 ≡ n
same_nanoseconds s n lt = omega arith

pub parts_back : (p : ℕ × ℕ) → IsTrue (is_below_second p) → parts_of (nanoseconds_of p) ≡ p
parts_back p h =
    let lt : p.1 < 1_000_000_000 = ltb-true _ _ h in
    λ i. (same_seconds p.0 p.1 lt i, same_nanoseconds p.0 p.1 lt i)

pub parts_forth : (n : ℕ) → nanoseconds_of (parts_of n) ≡ n
parts_forth n = omega arith

abbrev pub span : Codec ℕ
span = fitting_as nanoseconds_of parts_of (where_true is_below_second (u64 & u32)) (λ p fits. parts_back p fits.0) parts_forth
