-- What a call that moves nothing keeps.
use Rattle.std.proofs.Common.{refl}
use Rattle.sc_store_alone.specs.Storages.{KeepsStore, State, Alone, Layered, Wrapped}

pub keeps_same : (s : State) → KeepsStore s s
keeps_same (Alone l) = record { title = refl; facts = refl; told = refl; reserved = refl; entries = λ number. refl }
keeps_same (Layered m) = (record { titles = refl; facts = refl; policy = refl; told = refl; count = refl; reserved = λ l. refl; entries = λ l number. refl }, refl)
keeps_same (Wrapped s) = keeps_same s
