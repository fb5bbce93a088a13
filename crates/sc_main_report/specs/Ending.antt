-- What a run's end is to its caller.
use Rattle.std.specs.Prelude.{ℕ, ◌%◌, List, [], ◌++◌, codes, decimal}
use Rattle.std.specs.Int.{cast_unsigned, w32}
use Rattle.sc_main_report.specs.declared.ended.Ended.{Ended}
use Rattle.sc_main_words.specs.Texts.{usage_line}
use Rattle.sc_main_report.specs.declared.ended.Ended.TheVariants.{Status, Usage, BadScript, NoMemory, ReadFault, WriteFault, LinkFault, Unexpected}

-- the exit status: of a status its low eight bits
abbrev pub exit_code_of : Ended → ℕ
exit_code_of (Status n) = cast_unsigned w32 n % 256
exit_code_of Usage = 120
exit_code_of (BadScript line) = 121
exit_code_of NoMemory = 122
exit_code_of ReadFault = 123
exit_code_of WriteFault = 124
exit_code_of LinkFault = 125
exit_code_of Unexpected = 126

-- the line on standard error, and nothing where the run was done or nothing can be written
unfoldable pub error_line : Ended → List ℕ
error_line (Status n) = []
error_line Usage = usage_line
error_line (BadScript line) = codes "bad script at line " ++ decimal line ++ codes "\n"
error_line NoMemory = codes "out of memory\n"
error_line ReadFault = codes "read fault\n"
error_line WriteFault = []
error_line LinkFault = codes "link fault\n"
error_line Unexpected = codes "Unexpected server response!\n"
