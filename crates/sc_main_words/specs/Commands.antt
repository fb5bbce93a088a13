-- Which words are a command.
use Rattle.std.specs.Prelude.{◌≤◌, ℕ, List, [], ◌∷◌, ◌++◌, Bool, Option, Some, None, codes}
use Rattle.sc_words.specs.Words.{Reader, flag, word}
use Rattle.sc_words.specs.Words.{◌>>=◌ as ◌then◌}
use Rattle.sc_words.specs.Readers.{◌>>=◌, gives, field}
use Rattle.sc_main_script_words.specs.Fields.{number_in, number_of}
use Rattle.sc_main_words.specs.Addresses.{address_of}
use Rattle.sc_main_words.specs.Names.{command_name}
use Rattle.sc_main_words.specs.declared.command.Command.{Command}
use Rattle.sc_main_words.specs.declared.command.Command.TheVariants.{Drive, Generate, Serve, Compile, Stats, Zero, Stop, DistStatus, Warm, Dry, Help, Version}
use Rattle.sc_main_words.specs.declared.command_name.CommandName.{CommandName}
use Rattle.sc_main_words.specs.declared.command_name.CommandName.TheVariants as name

-- all words that are left, as they are
abbrev pub all_words : Reader (List (List ℕ))
all_words ws = Some (ws, [])

-- numbers so far, and then those that all words that are left are
abbrev pub numbers_onto : List ℕ → Reader (List ℕ)
numbers_onto ns [] = Some (ns, [])
numbers_onto ns (w ∷ ws) = number_of w then (λ n. numbers_onto (ns ++ n ∷ []) ws)

-- whether the next word is this one, which is taken then
abbrev pub may_have : List ℕ → Reader Bool
may_have w ws = Some (flag w ws)

-- generate N
unfoldable pub generate_command : Reader Command
generate_command = do
  number ← field (number_in 1 2000)
  gives (Generate number)

-- serve ADDR DIR BYTES TOKENS, where DIR may be any bytes
unfoldable pub serve_command : Reader Command
serve_command = do
  addr ← field address_of
  dir ← word
  bytes ← field number_of
  tokens ← field (number_in 1 65535)
  gives (Serve addr dir bytes tokens)

-- compile ADDR EXE WORD.., where EXE and each WORD may be any bytes, and no WORD need be there
unfoldable pub compile_command : Reader Command
compile_command = do
  addr ← field address_of
  exe ← word
  words ← all_words
  gives (Compile addr exe words)

-- stats ADDR [--advanced] [--json], in this order
unfoldable pub stats_command : Reader Command
stats_command = do
  addr ← field address_of
  advanced ← may_have (codes "--advanced")
  json ← may_have (codes "--json")
  gives (Stats addr advanced json)

-- zero ADDR
unfoldable pub zero_command : Reader Command
zero_command = do
  addr ← field address_of
  gives (Zero addr)

-- stop ADDR
unfoldable pub stop_command : Reader Command
stop_command = do
  addr ← field address_of
  gives (Stop addr)

-- dist-status ADDR
unfoldable pub dist_status_command : Reader Command
dist_status_command = do
  addr ← field address_of
  gives (DistStatus addr)

-- dry CAP.., where no CAP need be there
unfoldable pub dry_command : Reader Command
dry_command = do
  capacities ← numbers_onto []
  gives (Dry capacities)

-- what stands behind a command's name
unfoldable pub command_words : CommandName → Reader Command
command_words name.Drive = gives Drive
command_words name.Generate = generate_command
command_words name.Serve = serve_command
command_words name.Compile = compile_command
command_words name.Stats = stats_command
command_words name.Zero = zero_command
command_words name.Stop = stop_command
command_words name.DistStatus = dist_status_command
command_words name.Warm = gives Warm
command_words name.Dry = dry_command
command_words name.Help = gives Help
command_words name.Version = gives Version

-- no word is left over
abbrev pub whole : Option (Command × List (List ℕ)) → Option Command
whole None = None
whole (Some (command, [])) = Some command
whole (Some (command, w ∷ ws)) = None

-- the command that the words are; none where they are no command
unfoldable pub command_of : List (List ℕ) → Option Command
command_of ws = word ws then (λ p. command_name p.0 then (λ n. whole (command_words n p.1)))

-- the number of a script is 1 to 2,000, and a server that is told of tokens has 1 to 65,535
abbrev pub IsWithinLimits : Command → Type 0
IsWithinLimits (Generate number) = (1 ≤ number) × (number ≤ 2000)
IsWithinLimits (Serve addr dir bytes tokens) = (1 ≤ tokens) × (tokens ≤ 65535)
IsWithinLimits _ = Unit {0}
