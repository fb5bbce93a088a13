use Rattle.sc_store_warm.proofs.Endings as endings
use Rattle.sc_store_warm.proofs.laws.nothing_marked.Goals as goal

pub returns : goal.returns
returns c = record { copied = endings.copied_unmarked; fewer = endings.fewer_marked }
