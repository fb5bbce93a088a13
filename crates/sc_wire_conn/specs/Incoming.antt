-- What came over a connection and spells no request yet.
use Rattle.std.specs.Prelude.{◌≡◌, ℕ, Bool, true, false, List}
use Rattle.sc_model.specs.Stream.{Bad, Front, Part}

pub record Incoming : Type 0 where
  -- the greatest payload of a frame
  pub limit : ℕ
  -- the bytes that spell no request yet
  pub rest : List ℕ
  -- how many bytes came
  pub got : ℕ
  -- no more come
  pub closed : Bool

-- No whole good frame stands at the front; the flag says whether it is bad.
abbrev pub StandsAt : Bool → Front → Type 0
StandsAt true at_front = at_front ≡ Bad
StandsAt false at_front = at_front ≡ Part
