-- What a plain compiler runs.
use Rattle.std.specs.Prelude.{false}
use Rattle.sc_model.specs.declared.message.Compile.{Compile}
use Rattle.sc_compile.specs.Plain.{arguments, words_for}
use Rattle.sc_model.specs.declared.command.SingleCompileCommand.{SingleCompileCommand}

-- The asked path with the words for the compiler, the request's variables and folder, no jobserver.
abbrev pub plain_command : Compile → SingleCompileCommand
plain_command c = record { executable = c.exe; arguments = words_for (arguments c.args); env_vars = c.env_vars; cwd = c.cwd; share_jobserver = false }
