-- Escape sequences of terminals, and what is left of some bytes without them.
use Rattle.std.specs.Prelude.{◌≡◌, ℕ, zero, suc, ◌+◌, Bool, false, ◌==◌, ◌&&◌, if◌then◌else◌, nat_le, List, [], ◌∷◌, drop, Option, Some, None, option_map}
use Rattle.std.specs.Option.{option_map_or}

abbrev pub is_within : ℕ → ℕ → ℕ → Bool
is_within low high b = nat_le low b && nat_le b high

-- how many bytes at the front are within these
abbrev pub leading : ℕ → ℕ → List ℕ → ℕ
leading low high [] = 0
leading low high (b ∷ bs) = if is_within low high b then suc (leading low high bs) else 0

-- how many bytes end a control sequence: one of 0x40 to 0x7e, none where the end cuts it off
abbrev pub last_byte : List ℕ → Option ℕ
last_byte [] = Some 0
last_byte (b ∷ bs) = if is_within 64 126 b then Some 1 else None

-- behind so many parameter bytes come bytes of 0x20 to 0x2f, and the last
abbrev pub control_by : ℕ → List ℕ → Option ℕ
control_by parameters bs = option_map (λ last. parameters + leading 32 47 bs + last) (last_byte (drop (leading 32 47 bs) bs))

-- how many bytes behind `ESC [` belong to the sequence, if it is one: bytes of 0x30 to 0x3f come first
abbrev pub control : List ℕ → Option ℕ
control bs = control_by (leading 48 63 bs) (drop (leading 48 63 bs) bs)

-- how many bytes behind an ESC belong to the sequence that it begins, if it begins one
abbrev pub sequence : List ℕ → Option ℕ
sequence [] = Some 0
sequence (b ∷ bs) = if b == 91 then option_map suc (control bs) else if is_within 64 95 b then Some 1 else None

-- how many bytes go behind a byte that goes itself; none where it stands
abbrev pub skipped : ℕ → List ℕ → Option ℕ
skipped b bs = if b == 27 then sequence bs else None

-- what is left behind so many bytes that go
abbrev pub behind : ℕ → List ℕ → List ℕ
behind n [] = []
behind (suc n) (b ∷ bs) = behind n bs
behind zero (b ∷ bs) = option_map_or (λ n. behind n bs) (skipped b bs) (b ∷ behind zero bs)

-- the bytes without their sequences
abbrev pub filtered : List ℕ → List ℕ
filtered bs = behind 0 bs

-- no byte is an ESC
abbrev pub HasNoEscape : List ℕ → Type 0
HasNoEscape [] = Unit {0}
HasNoEscape (b ∷ bs) = ((b == 27) ≡ false) × HasNoEscape bs
