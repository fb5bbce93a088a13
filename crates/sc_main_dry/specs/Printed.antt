-- How a capacity report is printed.
use Rattle.std.specs.Prelude.{ℕ, List, [], ◌∷◌, ◌++◌, codes, decimal}
use Rattle.sc_lru.specs.declared.capacity_report.DryLine.{DryLine}

-- CAPACITY hits H misses M
unfoldable pub got_words : DryLine → List ℕ
got_words l = decimal l.capacity ++ codes " hits " ++ decimal l.hits ++ codes " misses " ++ decimal l.misses

--  evicted E too-large T
unfoldable pub stored_words : DryLine → List ℕ
stored_words l = codes " evicted " ++ decimal l.evicted ++ codes " too-large " ++ decimal l.too_large

-- what is found at one capacity
unfoldable pub line_text : DryLine → List ℕ
line_text l = got_words l ++ stored_words l ++ codes "\n"

-- a line for each capacity, in their order
abbrev pub dry_text : List DryLine → List ℕ
dry_text [] = []
dry_text (l ∷ ls) = line_text l ++ dry_text ls
