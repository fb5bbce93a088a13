use Rattle.std.specs.Prelude.{ℕ, ◌+◌, ◌-◌, ◌^◌, ◌≤◌, min, Option, Some, None}

-- A count went up by one at least, or stands at the end of u64.
abbrev pub Rose : ℕ → ℕ → Type 0
Rose before now = min (before + 1) (2 ^ 64 - 1) ≤ now

-- What is told stays told, and is changed by a relation. What isn't told stays so.
abbrev pub Told : {A : Type 0} → (A → A → Type 0) → Option A → Option A → Type 0
Told change None None = Unit {0}
Told change (Some old) (Some new) = change old new
Told change None (Some new) = ⊥
Told change (Some old) None = ⊥

-- a fact on what is told
abbrev pub IfTold : {A : Type 0} → Option A → (A → Type 0) → Type 0
IfTold None P = Unit {0}
IfTold (Some a) P = P a
