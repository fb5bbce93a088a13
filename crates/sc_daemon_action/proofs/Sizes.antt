-- What levels told, one after the other.
use Rattle.std.proofs.Common.{◌≡◌, List, [], ◌∷◌, ◌++◌, Option, Some, None, refl, ap, sym, ◌∙◌, append_assoc}
use Rattle.sc_daemon_action.specs.Sizes.{counters_of}
use Rattle.sc_model.specs.Describing.{counters_in}
use Rattle.sc_model.specs.declared.phase.Sized.{Sized}
use Rattle.sc_stats.specs.declared.counters.LevelStats.{LevelStats}

counters_by : (c : Option LevelStats) (rest : List LevelStats) → elim c [ None ↦ rest | Some x ↦ x ∷ rest ] ≡ elim c [ None ↦ [] | Some x ↦ x ∷ [] ] ++ rest
counters_by None rest = refl
counters_by (Some x) rest = refl

-- the counters of one level more
pub counters_more : (cs : List LevelStats) (z : Sized) (zs : List Sized) → (cs ++ counters_of z) ++ counters_in zs ≡ cs ++ counters_in (z ∷ zs)
counters_more cs z zs = append_assoc cs (counters_of z) (counters_in zs) ∙ ap (λ ds. cs ++ ds) (sym (counters_by z.counters (counters_in zs)))
