-- What a mock command spawns.
use Rattle.std.specs.Prelude.{◌≡◌, Result}
use Rattle.sc_command.specs.declared.refusal.SpawnError.{SpawnError}
use Rattle.sc_command_mock.specs.declared.child_call.ChildCall.{ChildCall}
use Rattle.sc_command_mock.specs.declared.mock_child.MockChild.{MockChild}
use Rattle.sc_command_mock.specs.declared.mock_command.ChildOrCall.{ChildOrCall}
use Rattle.sc_command_mock.specs.declared.mock_command.ChildOrCall.TheVariants.{Child, Call}

-- a child gives what it is, a call what it may give
abbrev pub GivesChild : {X : _} {F : _} {g : _} → (ChildCall X F g → Result MockChild SpawnError → Type 0) → ChildOrCall X F g → Result MockChild SpawnError → Type 0
GivesChild by (Child child) answer = answer ≡ child
GivesChild by (Call call) answer = by call answer
