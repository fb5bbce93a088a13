-- The report that a drive prints, line by line.
use Rattle.std.specs.Prelude.{ℕ, ◌+◌, Bool, true, false, ◌==◌, if◌then◌else◌, List, [], ◌∷◌, ◌++◌, Option, Some, None, count_by, slice_get, codes, decimal}
use Rattle.std.specs.List.{concat}
use Rattle.sc_wire_conn.specs.declared.end.End.{End}
use Rattle.sc_wire_conn.specs.declared.end.End.TheVariants.{Open, Ended, EndInFrame, BadFrame, ReplyTooLong}
use Rattle.sc_model.specs.Trace.{sent_by}
use Rattle.sc_model.specs.declared.event.Event.{Event}
use Rattle.sc_model.specs.declared.event.Owner.{Owner}
use Rattle.sc_model.specs.declared.event.Owner.TheVariants.{Request}
use Rattle.sc_model.specs.declared.event.What.{What}
use Rattle.sc_model.specs.declared.event.What.TheVariants.{Ran}
use Rattle.sc_model.specs.declared.message.Response.{Response}
use Rattle.sc_main_script.specs.declared.level_size.LevelSize.{LevelSize}
use Rattle.sc_main_script_words.specs.Counters.{counter_lines}
use Rattle.sc_main_script_words.specs.Numbers.{named_line}
use Rattle.sc_main_script_words.specs.Replies.{reply_line}
use Rattle.sc_stats.specs.declared.counters.LevelStats.{LevelStats}
use Rattle.sc_stats.specs.declared.counters.ServerStats.{ServerStats}

-- the reply that an event sends on connection c, if it sends one
abbrev pub reply_in : ℕ → Owner → What → List Response
reply_in c (Request d n) x = if d == c then sent_by x else []
reply_in c _ x = []

-- the replies that events, the oldest first, sent on connection c
abbrev pub replies_to : ℕ → List Event → List Response
replies_to c [] = []
replies_to c (e ∷ events) = reply_in c e.owner e.what ++ replies_to c events

-- how many events are runs
abbrev pub is_run : What → Bool
is_run (Ran answer) = true
is_run _ = false

abbrev pub runs_in : List Event → ℕ
runs_in events = count_by (λ e. is_run e.what) events

-- what a connection has come to
unfoldable pub end_text : End → List ℕ
end_text Open = codes "open"
end_text Ended = codes "ended"
end_text EndInFrame = codes "end-in-frame"
end_text BadFrame = codes "bad-frame"
end_text (ReplyTooLong size) = codes "reply-too-long " ++ decimal size

abbrev pub connection_line : ℕ → End → List ℕ
connection_line c end = codes "conn " ++ decimal c ++ codes " " ++ end_text end ++ codes "\n"

-- a line for each reply
abbrev pub reply_lines : List Response → List ℕ
reply_lines [] = []
reply_lines (reply ∷ replies) = reply_line reply ++ reply_lines replies

-- of each connection from number c on: its line, and a line for each reply that was sent on it
abbrev pub sections : ℕ → List End → List Event → List (List ℕ)
sections c [] events = []
sections c (end ∷ ends) events = (connection_line c end ++ reply_lines (replies_to c events)) ∷ sections (c + 1) ends events

-- a level's bytes and entries
unfoldable pub size_words : ℕ → LevelSize → List ℕ
size_words l size = codes "level " ++ decimal l ++ codes " " ++ decimal size.bytes ++ codes " " ++ decimal size.entries

-- what a level counts; a single store's level counts nothing
unfoldable pub counted_lookups : LevelStats → List ℕ
counted_lookups s = codes " hits " ++ decimal s.hits ++ codes " misses " ++ decimal s.misses ++ codes " writes " ++ decimal s.writes

unfoldable pub counted_writes : LevelStats → List ℕ
counted_writes s =
    codes " failures " ++ decimal s.write_failures ++ codes " from " ++ decimal s.backfills_from ++ codes " to " ++ decimal s.backfills_to

unfoldable pub counter_words : Option LevelStats → List ℕ
counter_words None = []
counter_words (Some s) = counted_lookups s ++ counted_writes s

unfoldable pub level_line : ℕ → LevelSize → Option LevelStats → List ℕ
level_line l size counted = size_words l size ++ counter_words counted ++ codes "\n"

-- a line for each level from number l on, whose sizes these are; the counters are those of all levels
abbrev pub level_lines : ℕ → List LevelSize → List LevelStats → List ℕ
level_lines l [] counters = []
level_lines l (size ∷ sizes) counters = level_line l size (slice_get counters l) ++ level_lines (l + 1) sizes counters

-- the background writes that are left, the tokens that are free, the runs
abbrev pub total_lines : ℕ → ℕ → ℕ → List ℕ
total_lines background tokens runs =
    named_line (codes "background") background ++ named_line (codes "tokens") tokens ++ named_line (codes "runs") runs

-- the report of a drive from its first level on
unfoldable pub totals_of : List Event → List LevelSize → List LevelStats → ℕ → ℕ → ServerStats → List ℕ
totals_of events levels counters background tokens stats =
    level_lines 0 levels counters
    ++ total_lines background tokens (runs_in events)
    ++ counter_lines stats
    ++ codes "end\n"

-- the report of a drive
unfoldable pub report_of : List End → List Event → List LevelSize → List LevelStats → ℕ → ℕ → ServerStats → List ℕ
report_of ends events levels counters background tokens stats =
    concat (sections 0 ends events) ++ totals_of events levels counters background tokens stats
