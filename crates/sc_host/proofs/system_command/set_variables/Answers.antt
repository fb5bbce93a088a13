use Rattle.std.proofs.Common.{ℕ, List, refl, ◌∙◌, rules}
use Rattle.std.specs.Process.{command_var}
use Rattle.sc_host.specs.Programs.{IsTextPair}
use Rattle.sc_host.proofs.Texts.{all_at, said_step}
use Rattle.sc_host.proofs.system_command.set_variables.Goals as goal

pub text_of-requires : goal.text_of-requires
text_of-requires c = (all_at IsTextPair c.args.variables.now c.loop-place.place _ c.requires c.pair_at.ensures).0

pub text_of-requires-in-loop-place : goal.text_of-requires-in-loop-place
text_of-requires-in-loop-place c = (all_at IsTextPair c.args.variables.now c.loop-place.place _ c.requires c.pair_at.ensures).1

pub loop-place-preserved : goal.loop-place-preserved
loop-place-preserved c =
    let pair : List ℕ × List ℕ = (c.pair_at.result.0.now, c.pair_at.result.1.now) in (
      (λ name. said_step c.args.variables.now c.loop-place.place pair name (command_var c.loop-place.command name) (command_var c.set.new.command name) _ c.pair_at.ensures
          (c.in_ok-set.ensures.set name ∙ rw (c.text_of.ensures, c.text_of-in-loop-place.ensures) refl) (c.loop-place.invariant.0 name)),
      search rules,
      search rules,
      search rules,
    )
