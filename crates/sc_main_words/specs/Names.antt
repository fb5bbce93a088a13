-- The word that a command begins with.
use Rattle.std.specs.Prelude.{ℕ, List, Option, Some, None, if◌then◌else◌, codes, bytes_eq}
use Rattle.sc_main_words.specs.declared.command_name.CommandName.{CommandName}
use Rattle.sc_main_words.specs.declared.command_name.CommandName.TheVariants.{Drive, Generate, Serve, Compile, Stats, Zero, Stop, DistStatus, Warm, Dry, Help, Version}

unfoldable pub command_name : List ℕ → Option CommandName
command_name w =
    if bytes_eq w (codes "drive") then Some Drive
    else if bytes_eq w (codes "generate") then Some Generate
    else if bytes_eq w (codes "serve") then Some Serve
    else if bytes_eq w (codes "compile") then Some Compile
    else if bytes_eq w (codes "stats") then Some Stats
    else if bytes_eq w (codes "zero") then Some Zero
    else if bytes_eq w (codes "stop") then Some Stop
    else if bytes_eq w (codes "dist-status") then Some DistStatus
    else if bytes_eq w (codes "warm") then Some Warm
    else if bytes_eq w (codes "dry") then Some Dry
    else if bytes_eq w (codes "--help") then Some Help
    else if bytes_eq w (codes "--version") then Some Version
    else None
