-- What the program prints of its commands.
use Rattle.std.specs.Prelude.{ℕ, List, ◌++◌, codes}

abbrev pub usage_line : List ℕ
usage_line =
    codes "usage: sccache drive | generate N | serve ADDR DIR BYTES TOKENS | compile ADDR EXE WORD.. | stats ADDR [--advanced] [--json] | zero ADDR | stop ADDR | dist-status ADDR | warm | dry CAP..\n"

abbrev pub drive_line : List ℕ
drive_line = codes "drive: reads a script from standard input, drives a daemon by it, and prints the report\n"

abbrev pub generate_line : List ℕ
generate_line = codes "generate: drives a daemon by a script that is made of the number N, 1 to 2000, and prints the report from its first level on\n"

abbrev pub serve_line : List ℕ
serve_line =
    codes "serve: serves clients at ADDR, a port or the path of a Unix socket, one link after the other for now; keeps results in DIR, BYTES bytes at most, and runs TOKENS compilers at once at most\n"

abbrev pub compile_line : List ℕ
compile_line = codes "compile: has the server at ADDR compile by EXE with the words WORD.., and runs EXE itself where the server does not\n"

abbrev pub stats_line : List ℕ
stats_line = codes "stats: prints the statistics of the server at ADDR, with --advanced by compiler too, with --json as JSON\n"

abbrev pub zero_line : List ℕ
zero_line = codes "zero: sets the statistics of the server at ADDR to zero\n"

abbrev pub stop_line : List ℕ
stop_line = codes "stop: stops the server at ADDR, and prints its statistics\n"

abbrev pub dist_status_line : List ℕ
dist_status_line = codes "dist-status: prints how the distributed compilation of the server at ADDR stands, as JSON\n"

abbrev pub warm_line : List ℕ
warm_line = codes "warm: reads a script of two levels and of keys from standard input, copies the keys' entries from the first level to the second, and prints what became of each\n"

abbrev pub dry_line : List ℕ
dry_line = codes "dry: reads the uses of a cache from standard input, lines get KEY and put KEY SIZE, and prints for each capacity CAP, in bytes, what they find there\n"

abbrev pub help_line : List ℕ
help_line = codes "--help: prints this text\n"

abbrev pub version_help_line : List ℕ
version_help_line = codes "--version: prints the program's version\n"

-- those that are no client's
abbrev pub server_lines : List ℕ
server_lines = drive_line ++ generate_line ++ serve_line

-- a client's that count, and the one that compiles
abbrev pub client_lines : List ℕ
client_lines = compile_line ++ stats_line ++ zero_line

abbrev pub server_end_lines : List ℕ
server_end_lines = stop_line ++ dist_status_line

-- those that read stores and uses, and ask no server
abbrev pub planning_lines : List ℕ
planning_lines = warm_line ++ dry_line

abbrev pub own_lines : List ℕ
own_lines = help_line ++ version_help_line

-- the usage, and a line for each command of what it does
abbrev pub help_lines : List ℕ
help_lines = usage_line ++ server_lines ++ client_lines ++ server_end_lines ++ planning_lines ++ own_lines
