-- What a command that a client runs itself comes to.
use Rattle.std.proofs.Common.{◌≡◌, Bool, true, false, Option, Some, None, Result, Ok, Err, sym, subst}
use Rattle.sc_entry.specs.Causes.{IfTold}
use Rattle.sc_command.specs.Children.{Content, IfFault}
use Rattle.sc_command.specs.Spawning.{SpawnGives}
use Rattle.sc_command.specs.declared.output.Output.{Output}
use Rattle.sc_command.specs.declared.refusal.CommandError.{CommandError}
use Rattle.sc_command.specs.declared.refusal.CommandError.TheVariants as command_errors
use Rattle.sc_command.specs.declared.refusal.CommandRefusal.{CommandRefusal}
use Rattle.sc_command.specs.declared.refusal.CommandRefusal.TheVariants.{WaitFault}
use Rattle.sc_command.specs.declared.refusal.SpawnError.{SpawnError}
use Rattle.sc_client.specs.Local.{CameOf, GivesAs, MayRefuse}

-- a child was waited for
waited : {C F : Type 0} (collected : Bool) (gives : Result C SpawnError → Type 0) (content : C → Option Content) (why : F → CommandRefusal) (child : C) (came : Result Output (CommandError F)) → gives (Ok child)
    → IfTold (content child) (λ c. GivesAs collected c came) → IfFault came (λ fault. why fault ≡ WaitFault) → CameOf collected gives content why came
waited true gives content why child (Ok output) may told fault = (child, may, told)
waited false gives content why child (Ok output) may told fault = (child, may, told)
waited true gives content why child (Err command_errors.NoMemory) may told fault = tt
waited false gives content why child (Err command_errors.NoMemory) may told fault = tt
waited true gives content why child (Err (command_errors.Fault f)) may told fault = subst (MayRefuse gives content) (sym fault) (child, may, told)
waited false gives content why child (Err (command_errors.Fault f)) may told fault = subst (MayRefuse gives content) (sym fault) (child, may, told)

-- the same, where the command tells its words
pub came_of : {C F W : Type 0} (collected : Bool) (words : Option W) (gives : W → Result C SpawnError → Type 0) (content : C → Option Content) (why : F → CommandRefusal) (child : C) (came : Result Output (CommandError F))
    → IfTold words (λ ws. SpawnGives {F = F} (gives ws) (Ok child)) → IfTold (content child) (λ c. GivesAs collected c came) → IfFault came (λ fault. why fault ≡ WaitFault) → IfTold words (λ ws. CameOf collected (gives ws) content why came)
came_of collected None gives content why child came may told fault = tt
came_of collected (Some ws) gives content why child came may told fault = waited collected (gives ws) content why child came may told fault
