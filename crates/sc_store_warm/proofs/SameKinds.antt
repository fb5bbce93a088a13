-- Stores that a call keeps are of one kind before and after it.
use Rattle.sc_store.specs.Held.{HeldLevel}
use Rattle.sc_store_alone.specs.Storages.{Alone, KeepsAlone, KeepsStore, Layered, State, Wrapped}
use Rattle.sc_store_alone.specs.Stores.{Multilevel}

pub by_kind : (P : State → State → Type 0) → ((a b : HeldLevel) → KeepsAlone a b → P (Alone a) (Alone b)) → ((a b : Multilevel) → P (Layered a) (Layered b)) → ((a b : State) → P a b → P (Wrapped a) (Wrapped b)) → (f g : State) → KeepsStore f g → P f g
by_kind P alone layered wrapped (Alone a) (Alone b) k = alone a b k
by_kind P alone layered wrapped (Layered a) (Layered b) k = layered a b
by_kind P alone layered wrapped (Wrapped a) (Wrapped b) k = wrapped a b (by_kind P alone layered wrapped a b k)
by_kind P alone layered wrapped (Alone a) (Layered b) k = absurd k
by_kind P alone layered wrapped (Alone a) (Wrapped b) k = absurd k
by_kind P alone layered wrapped (Layered a) (Alone b) k = absurd k
by_kind P alone layered wrapped (Layered a) (Wrapped b) k = absurd k
by_kind P alone layered wrapped (Wrapped a) (Alone b) k = absurd k
by_kind P alone layered wrapped (Wrapped a) (Layered b) k = absurd k
