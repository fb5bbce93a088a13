use Rattle.std.specs.Prelude.{List, map}
use Rattle.std.specs.FinMap.{entries}
use Rattle.sc_entry.specs.Tally.{Tally}
use Rattle.sc_entry.specs.declared.counted_text.CountedText.{CountedText}

-- the texts of a tally with their counts, in order
abbrev pub listed : Tally → List CountedText
listed tally = map (λ e. record { text = e.0; count = e.1 }) (entries tally)
