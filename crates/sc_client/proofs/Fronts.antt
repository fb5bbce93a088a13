-- How much two sinks took of what was written to them one behind the other.
use Rattle.std.proofs.Common.{ℕ, ◌-◌, List, [], ◌++◌, length, take, drop, Option, Some, None, Result, Ok, Err, OnErr, refl, ap, sym, ◌∙◌}
use Rattle.std.proofs.lemmas.List.{append-nil, append_assoc, take-append-drop}
use Rattle.sc_entry.specs.Causes.{Told}
use Rattle.sc_entry.specs.Streams.{WritesAll, WritesFront}
use Rattle.sc_client.specs.Finished.{WritesSome}

-- nothing was written
pub none_some : (bytes : List ℕ) (o : Option (List ℕ)) → Told (WritesSome bytes) o o
none_some bytes None = tt
none_some bytes (Some x) = ([], bytes, sym (append-nil x), refl)

-- a front
pub front_some : (bytes : List ℕ) (o p : Option (List ℕ)) → Told (WritesFront bytes) o p → Told (WritesSome bytes) o p
front_some bytes None None told = tt
front_some bytes None (Some y) told = absurd told
front_some bytes (Some x) None told = absurd told
front_some bytes (Some x) (Some y) told = (take (length y - length x) bytes, drop (length y - length x) bytes, told.0, sym (take-append-drop (length y - length x) bytes))

-- all
pub all_some : (bytes : List ℕ) (o p : Option (List ℕ)) → Told (WritesAll bytes) o p → Told (WritesSome bytes) o p
all_some bytes None None told = tt
all_some bytes None (Some y) told = absurd told
all_some bytes (Some x) None told = absurd told
all_some bytes (Some x) (Some y) told = (bytes, [], told, sym (append-nil bytes))

-- some, and more was to be written
pub some_of : (bytes more : List ℕ) (o p : Option (List ℕ)) → Told (WritesSome bytes) o p → Told (WritesSome (bytes ++ more)) o p
some_of bytes more None None told = tt
some_of bytes more None (Some y) told = absurd told
some_of bytes more (Some x) None told = absurd told
some_of bytes more (Some x) (Some y) told = (told.0, told.1 ++ more, told.2, ap (λ (bs : List ℕ). bs ++ more) told.3 ∙ append_assoc told.0 told.1 more)

-- all, and some of what follows
pub then_some : (bytes more : List ℕ) (o p q : Option (List ℕ)) → Told (WritesAll bytes) o p → Told (WritesSome more) p q → Told (WritesSome (bytes ++ more)) o q
then_some bytes more None None None all told = tt
then_some bytes more None None (Some z) all told = absurd told
then_some bytes more None (Some y) q all told = absurd all
then_some bytes more (Some x) None q all told = absurd all
then_some bytes more (Some x) (Some y) None all told = absurd told
then_some bytes more (Some x) (Some y) (Some z) all told =
    (bytes ++ told.0, told.1, told.2 ∙ ap (λ (bs : List ℕ). bs ++ told.0) all ∙ append_assoc x bytes told.0, ap (λ (bs : List ℕ). bytes ++ bs) told.3 ∙ sym (append_assoc bytes told.0 told.1))

-- what holds anyway holds of a refusal
pub on_refusal : {T E : Type 0} (r : Result T E) (P : Type 0) → P → OnErr r P
on_refusal (Ok x) P p = tt
on_refusal (Err e) P p = p

-- all of both
pub then_all : (bytes more : List ℕ) (o p q : Option (List ℕ)) → Told (WritesAll bytes) o p → Told (WritesAll more) p q → Told (WritesAll (bytes ++ more)) o q
then_all bytes more None None None all told = tt
then_all bytes more None None (Some z) all told = absurd told
then_all bytes more None (Some y) q all told = absurd all
then_all bytes more (Some x) None q all told = absurd all
then_all bytes more (Some x) (Some y) None all told = absurd told
then_all bytes more (Some x) (Some y) (Some z) all told = told ∙ ap (λ (bs : List ℕ). bs ++ more) all ∙ append_assoc x bytes more

-- nothing
pub none_all : (o : Option (List ℕ)) → Told (WritesAll []) o o
none_all None = tt
none_all (Some x) = sym (append-nil x)
