-- The levels of a chain, one after another.
use Rattle.std.proofs.Common.{◌≡◌, ℕ, ◌-◌, ◌≤◌, List, [], ◌∷◌, ◌++◌, length, map, take, drop, get_or, Option, Some, None, Result, Ok, Err, option_map, refl, ap, sym, ◌∙◌, append_assoc}
use Rattle.std.proofs.lemmas.List.{map-append}
use Rattle.std.specs.Str.{trim}
use Rattle.sc_store.proofs.Behind.{behind}
use Rattle.sc_model.specs.declared.level.LevelPolicy.{LevelPolicy}
use Rattle.sc_model.specs.declared.level.Policy.TheVariants.{Levels}
use Rattle.sc_store.specs.Held.{Held, HeldLevel}
use Rattle.sc_store.specs.Levels.{held_level, held_levels}
use Rattle.sc_store.specs.declared.level.Level.{Level}
use Rattle.sc_store_config.specs.Configs.{before, chain_levels, disk_behind, held_under, level_named, remotes_behind}
use Rattle.sc_store_config.specs.declared.disk_config.DiskConfig.{DiskConfig}
use Rattle.sc_store_config.specs.declared.remote_config.NamedRemote.{NamedRemote}
use Rattle.sc_store_config.specs.declared.remote_config.RemoteConfig.{RemoteConfig}

-- the store of a chain's levels
pub chain_held : {A B V : Type 0} (policies wanted : List LevelPolicy) (made : Result (List HeldLevel) (List ℕ)) (levels : List (Level A B V)) (store : Held) → policies ≡ wanted → made ≡ Ok (map held_level levels) → store ≡ held_levels levels (Levels policies)
    → held_under (Levels wanted) made ≡ Ok store
chain_held policies wanted made levels store by is kept =
    ap (λ m. held_under (Levels wanted) m) is ∙ ap (λ (p : List LevelPolicy). Ok (held_levels levels (Levels p))) (sym by) ∙ ap (λ (h : Held). Ok h) (sym kept)

-- levels before those of a chain
abbrev pub prepend : List HeldLevel → Result (List HeldLevel) (List ℕ) → Result (List HeldLevel) (List ℕ)
prepend front (Ok ls) = Ok (front ++ ls)
prepend front (Err name) = Err name

prepend_none : (made : Result (List HeldLevel) (List ℕ)) → prepend [] made ≡ made
prepend_none (Ok ls) = refl
prepend_none (Err name) = refl

-- no level is made yet
pub chain_init : {A B V : Type 0} (levels : List (Level A B V)) (made : Result (List HeldLevel) (List ℕ)) → levels ≡ [] → prepend (map held_level levels) made ≡ made
chain_init {A} {B} {V} levels made none = ap (λ (ls : List (Level A B V)). prepend (map held_level ls) made) none ∙ prepend_none made

one_more : (front : List HeldLevel) (l : HeldLevel) (name : List ℕ) (made : Result (List HeldLevel) (List ℕ)) → prepend (front ++ l ∷ []) made ≡ prepend front (before name (Some l) made)
one_more front l name (Ok ls) = ap Ok (append_assoc front (l ∷ []) ls)
one_more front l name (Err fault) = refl

-- one more level was made
pub chain_more : {R D A B V : Type 0} (remote_level : RemoteConfig R → HeldLevel) (disk_level : DiskConfig D → HeldLevel) (chain : List (List ℕ)) (word name : List ℕ) (disk disk2 : Option (DiskConfig D)) (remotes remotes2 : List (NamedRemote R))
    (levels levels2 : List (Level A B V)) (level : Level A B V) (found : Option (Level A B V)) (total : Result (List HeldLevel) (List ℕ)) → 1 ≤ length chain → word ≡ get_or chain 0 word → name ≡ trim word
    → option_map held_level found ≡ level_named remote_level disk_level name disk remotes → found ≡ Some level → disk2 ≡ disk_behind name disk → remotes2 ≡ remotes_behind name remotes → levels2 ≡ levels ++ level ∷ []
    → prepend (map held_level levels) (chain_levels remote_level disk_level chain disk remotes) ≡ total
    → prepend (map held_level levels2) (chain_levels remote_level disk_level (take (length chain - 1) (drop 1 chain)) disk2 remotes2) ≡ total
chain_more {R} {D} {A} {B} {V} remote_level disk_level chain word name disk disk2 remotes remotes2 levels levels2 level found total some first trimmed named is is_disk is_remotes pushed so_far =
    let rest = take (length chain - 1) (drop 1 chain) in
    let made = chain_levels remote_level disk_level rest (disk_behind name disk) (remotes_behind name remotes) in
    let front = map held_level levels in
    let next : Some (held_level level) ≡ level_named remote_level disk_level name disk remotes = ap (λ (o : Option (Level A B V)). option_map held_level o) (sym is) ∙ named in
    ap (λ (o : Option (DiskConfig D)). prepend (map held_level levels2) (chain_levels remote_level disk_level rest o remotes2)) is_disk
    ∙ ap (λ (rs : List (NamedRemote R)). prepend (map held_level levels2) (chain_levels remote_level disk_level rest (disk_behind name disk) rs)) is_remotes
    ∙ ap (λ (ls : List (Level A B V)). prepend (map held_level ls) made) pushed
    ∙ ap (λ (hs : List HeldLevel). prepend hs made) (map-append held_level levels (level ∷ []))
    ∙ one_more front (held_level level) name made
    ∙ ap (λ (o : Option HeldLevel). prepend front (before name o made)) next
    ∙ ap (λ (n : List ℕ). prepend front (before n (level_named remote_level disk_level n disk remotes) (chain_levels remote_level disk_level rest (disk_behind n disk) (remotes_behind n remotes)))) trimmed
    ∙ ap (λ (ws : List (List ℕ)). prepend front (chain_levels remote_level disk_level ws disk remotes)) (sym (behind chain word some first))
    ∙ so_far

-- a name without a configuration
pub chain_fault : {R D A B V : Type 0} (remote_level : RemoteConfig R → HeldLevel) (disk_level : DiskConfig D → HeldLevel) (chain : List (List ℕ)) (word name text : List ℕ) (disk : Option (DiskConfig D)) (remotes : List (NamedRemote R))
    (front : List HeldLevel) (found : Option (Level A B V)) (total : Result (List HeldLevel) (List ℕ)) → 1 ≤ length chain → word ≡ get_or chain 0 word → name ≡ trim word
    → option_map held_level found ≡ level_named remote_level disk_level name disk remotes → found ≡ None → text ≡ name
    → prepend front (chain_levels remote_level disk_level chain disk remotes) ≡ total → total ≡ Err text
chain_fault {R} {D} {A} {B} {V} remote_level disk_level chain word name text disk remotes front found total some first trimmed named is same so_far =
    let rest = take (length chain - 1) (drop 1 chain) in
    let none : level_named remote_level disk_level name disk remotes ≡ None = sym named ∙ ap (λ (o : Option (Level A B V)). option_map held_level o) is in
    sym so_far
    ∙ ap (λ (ws : List (List ℕ)). prepend front (chain_levels remote_level disk_level ws disk remotes)) (behind chain word some first)
    ∙ ap (λ (n : List ℕ). prepend front (before n (level_named remote_level disk_level n disk remotes) (chain_levels remote_level disk_level rest (disk_behind n disk) (remotes_behind n remotes)))) (sym trimmed)
    ∙ ap (λ (o : Option HeldLevel). prepend front (before name o (chain_levels remote_level disk_level rest (disk_behind name disk) (remotes_behind name remotes)))) none
    ∙ ap (λ (n : List ℕ). Err n) (sym same)
