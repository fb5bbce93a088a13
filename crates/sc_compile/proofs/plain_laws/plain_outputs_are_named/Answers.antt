use Rattle.sc_compile.proofs.Named.{plain_named}
use Rattle.sc_compile.proofs.plain_laws.plain_outputs_are_named.Goals as goal

pub returns : goal.returns
returns c = plain_named
