use Rattle.std.proofs.Common.{refl}
use Rattle.sc_compile.specs.Plain.{plain_key}
use Rattle.sc_compile_traits.specs.Plainly.{asked_of}
use Rattle.sc_compile_traits.proofs.Plain.{key_again, plain_tells}
use Rattle.sc_compile_traits.proofs.laws.plain_compilers_read_plainly.Goals as goal

pub returns-clause-parsed : goal.returns-clause-parsed
returns-clause-parsed c = λ p args cwd env_vars. plain_tells p.kind (asked_of p args cwd env_vars)

pub returns-clause-step : goal.returns-clause-step
returns-clause-step c = λ c. key_again (plain_key c)

pub returns-clause-command : goal.returns-clause-command
returns-clause-command c = λ c. refl
