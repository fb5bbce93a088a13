-- A chain's levels are no store that stands alone.
use Rattle.std.proofs.Common.{◌≡◌, ◌≢◌, ◌↔◌, ℕ, Bool, true, false, IsTrue, List, [], ◌∷◌, length, Result, Ok, Err, ap, sym, refl}
use Rattle.sc_model.specs.Script.{is_single}
use Rattle.sc_model.specs.declared.level.LevelPolicy.{LevelPolicy}
use Rattle.sc_model.specs.declared.level.Policy.TheVariants.{Levels}
use Rattle.sc_store.specs.Held.{Held, HeldLevel, held_of}
use Rattle.sc_store_config.specs.Configs.{chain_levels, chosen, held_under}
use Rattle.sc_store_config.specs.Policies.{chain_policies}
use Rattle.sc_store_config.specs.declared.disk_config.DiskConfig.{DiskConfig}
use Rattle.sc_store_config.specs.declared.remote_config.RemoteConfig.{RemoteConfig}
use Rattle.sc_store_config.specs.declared.store_config.StoreConfig.{StoreConfig}

held_many : (ps : List LevelPolicy) (r : Result (List HeldLevel) (List ℕ)) (made : Held) → held_under (Levels ps) r ≡ Ok made → is_single made.policy ≡ false
held_many ps (Ok ls) made is =
    let same : held_of ls (Levels ps) ≡ made = cc (is) in
    ap (λ (h : Held). is_single h.policy) (sym same)
held_many ps (Err f) made is = absurd (cc)

pub chain_many : {R D : Type 0} (remote : RemoteConfig R → HeldLevel) (disk : DiskConfig D → HeldLevel) (chain : List (List ℕ)) (c : StoreConfig R D) (made : Held) → chain ≢ [] → chosen remote disk chain c ≡ Ok made → is_single made.policy ≡ false
chain_many remote disk [] c made some is = absurd (some refl)
chain_many remote disk (name ∷ chain) c made some is = held_many (chain_policies c.level_policies c.write_error_policy (length c.chain)) (chain_levels remote disk c.chain c.disk c.remotes) made is

pub some_chain : (chain : List (List ℕ)) (empty : Bool) → (IsTrue empty ↔ (chain ≡ [])) → empty ≡ false → chain ≢ []
some_chain chain empty is filled none = let nothing : empty ≡ true = is.1 none in absurd (cc (nothing, filled))
