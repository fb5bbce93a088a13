-- How the sections of the connections grow by one event. No promise speaks of it.
use Rattle.std.specs.Prelude.{ℕ, List}
use Rattle.sc_model.specs.declared.event.Owner.{Owner}
use Rattle.sc_model.specs.declared.event.Owner.TheVariants.{Request}
use Rattle.sc_model.specs.declared.event.What.{What}
use Rattle.sc_model.specs.declared.event.What.TheVariants.{Sent}
use Rattle.sc_main_script.specs.Inputs.{appended}
use Rattle.sc_main_script_words.specs.Replies.{reply_line}

-- a reply's line goes to its connection's section, and nowhere where there is no such section
abbrev pub with_event : List (List ℕ) → Owner → What → List (List ℕ)
with_event sections (Request c n) (Sent reply) = appended sections c (reply_line reply)
with_event sections _ x = sections
