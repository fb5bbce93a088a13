-- What reading the words comes to.
use Rattle.std.specs.Prelude.{◌≡◌, Option, Some, None, Result, Ok, Err}
use Rattle.sc_main_words.specs.declared.command.Command.{Command}
use Rattle.sc_main_words.specs.declared.refusal.WordsRefusal.{WordsRefusal}
use Rattle.sc_main_words.specs.declared.refusal.WordsRefusal.TheVariants.{NoMemory, Usage}

-- The words are that command, or none, which is the one refusal; want of memory is free.
abbrev pub Parses : Option Command → Result Command WordsRefusal → Type 0
Parses command (Ok c) = command ≡ Some c
Parses command (Err Usage) = command ≡ None
Parses command (Err NoMemory) = Unit {0}
