-- A level that is warmed from another stands alone and tells what it holds, before and after.
use Rattle.std.proofs.Common.{◌≡◌, ℕ, true, false, List, [], ◌∷◌, refl, sym, ap, ◌∙◌, subst}
use Rattle.sc_main_memory.proofs.Firsts.{kind_tells}
use Rattle.sc_main_memory.specs.Making.{first_held, held_as}
use Rattle.sc_main_script.specs.declared.level_rule.LevelRule.{LevelRule}
use Rattle.sc_main_script.specs.declared.level_size.LevelSize.{LevelSize}
use Rattle.sc_main_warm.specs.declared.warm_script.WarmScript.{WarmScript}
use Rattle.sc_main.specs.Warming.{WarmsScript, held_size, source, target, warm_text}
use Rattle.sc_model.specs.declared.level.LevelKind.{LevelKind}
use Rattle.sc_model.specs.declared.level.LevelKind.TheVariants.{Disk as IsDisk, Remote as IsRemote}
use Rattle.sc_store.specs.Held.{HeldLevel}
use Rattle.sc_store.specs.Levels.{held_level}
use Rattle.sc_store.specs.declared.level.Level.{Level}
use Rattle.sc_store.specs.declared.level.Level.TheVariants.{Disk, ReadOnly, Remote}
use Rattle.sc_store.specs.declared.read_only.ReadOnlyLevel.TheVariants.{Disk as DiskOnly, Remote as RemoteOnly}
use Rattle.sc_store_alone.specs.Storages.{Alone, KeepsStore, Layered, State, Wrapped, level_state}
use Rattle.sc_store_warm.specs.Causes.{AbsentWhere, CopiedWhere, FromRefusedWhere, ToRefusedWhere, TornWhere}
use Rattle.sc_store_warm.specs.Warming.{Each, WarmsKey, WarmsWith}
use Rattle.sc_store_warm.specs.declared.warmed.Warmed.{Warmed}
use Rattle.sc_store_warm.specs.declared.warmed.Warmed.TheVariants.{Absent, Copied, FromRefused, ToRefused, Torn}

-- a level that a script says is behind no wrapper
unwrapped : (kind : LevelKind) (level : ℕ) (rule : LevelRule) → (held_as kind level rule).facts.wrapped ≡ false
unwrapped IsDisk level rule = refl
unwrapped IsRemote level rule = refl

true_is_not_false : true ≡ false → ⊥
true_is_not_false e = absurd (cc)

pub first_alone : {R D V : Type 0} (made : Level R D V) (level : ℕ) (rule : LevelRule) → held_level made ≡ first_held level rule → level_state made ≡ Alone (first_held level rule)
first_alone (Remote store) level rule is = ap Alone is
first_alone (Disk store) level rule is = ap Alone is
first_alone (ReadOnly (RemoteOnly only)) level rule is = absurd (true_is_not_false (ap (λ (h : HeldLevel). h.facts.wrapped) is ∙ unwrapped rule.kind level rule))
first_alone (ReadOnly (DiskOnly only)) level rule is = absurd (true_is_not_false (ap (λ (h : HeldLevel). h.facts.wrapped) is ∙ unwrapped rule.kind level rule))

-- a store stands alone, and tells what it holds
abbrev pub StandsTold : State → Type 0
StandsTold (Alone level) = level.told ≡ true
StandsTold state = ⊥

pub first_told : (level : ℕ) (rule : LevelRule) → StandsTold (Alone (first_held level rule))
first_told level rule = kind_tells rule.kind level rule

kept_told : (f g : State) → KeepsStore f g → StandsTold f → StandsTold g
kept_told (Alone a) (Alone b) k told = k.told ∙ told
kept_told (Alone a) (Layered b) k told = absurd k
kept_told (Alone a) (Wrapped b) k told = absurd k
kept_told (Layered a) g k told = absurd told
kept_told (Wrapped a) g k told = absurd told

same_told : (t u : State) → u ≡ t → StandsTold t → StandsTold u
same_told t u same told = subst StandsTold (sym same) told

key_source : (key : List ℕ) (warmed : Warmed) (f g t u : State) → WarmsKey key warmed f g t u → StandsTold f → StandsTold g
key_source key (FromRefused refusal) f g t u h = kept_told f g h.1
key_source key Absent f g t u h = kept_told f g h.0.0
key_source key Torn f g t u h = kept_told f g h.1.0
key_source key (Copied size) f g t u h = kept_told f g h.1.0
key_source key (ToRefused refusal) f g t u h = kept_told f g h.1.0

key_target : (key : List ℕ) (warmed : Warmed) (f g t u : State) → WarmsKey key warmed f g t u → StandsTold t → StandsTold u
key_target key (FromRefused refusal) f g t u h = same_told t u h.3
key_target key Absent f g t u h = same_told t u h.1
key_target key Torn f g t u h = same_told t u h.3
key_target key (Copied size) f g t u h = kept_told t u h.3
key_target key (ToRefused refusal) f g t u h = kept_told t u h.3

pub source_told : (keys : List (List ℕ)) (warmed : List Warmed) (f g t u : State) → Each WarmsKey keys warmed f g t u → StandsTold f → StandsTold g
source_told [] [] f g t u (same, still) told = same_told f g same told
source_told [] (w ∷ warmed) f g t u none told = absurd none
source_told (k ∷ keys) [] f g t u none told = absurd none
source_told (k ∷ keys) (w ∷ warmed) f g t u (near, far, first, more) told = source_told keys warmed near g far u more (key_source k w f near t far first told)

pub target_told : (keys : List (List ℕ)) (warmed : List Warmed) (f g t u : State) → Each WarmsKey keys warmed f g t u → StandsTold t → StandsTold u
target_told [] [] f g t u (same, still) told = same_told t u still told
target_told [] (w ∷ warmed) f g t u none told = absurd none
target_told (k ∷ keys) [] f g t u none told = absurd none
target_told (k ∷ keys) (w ∷ warmed) f g t u (near, far, first, more) told = target_told keys warmed near g far u more (key_target k w f near t far first told)

-- of a level that stands alone
pub level_alone : {R D V : Type 0} (level : Level R D V) → StandsTold (level_state level) → level_state level ≡ Alone (held_level level)
level_alone (Remote store) told = refl
level_alone (Disk store) told = refl
level_alone (ReadOnly (RemoteOnly only)) told = absurd told
level_alone (ReadOnly (DiskOnly only)) told = absurd told

pub level_told : {R D V : Type 0} (level : Level R D V) → StandsTold (level_state level) → (held_level level).told ≡ true
level_told (Remote store) told = told
level_told (Disk store) told = told
level_told (ReadOnly (RemoteOnly only)) told = absurd told
level_told (ReadOnly (DiskOnly only)) told = absurd told

-- what held of the states of both levels holds of the levels that stand alone
pub between : (P : State → State → State → State → Type 0) (f f2 g g2 t t2 u u2 : State) → f ≡ f2 → g ≡ g2 → t ≡ t2 → u ≡ u2 → P f g t u → P f2 g2 t2 u2
between P f f2 g g2 t t2 u u2 a b c d p = subst (λ (s : State). P f2 g2 t2 s) d (subst (λ (s : State). P f2 g2 s u) c (subst (λ (s : State). P f2 s t u) b (subst (λ (s : State). P s g t u) a p)))

module _ {R D V : Type 0} (w : WarmScript) (keys : List (List ℕ)) (warmed : List Warmed) (from from2 to to2 : Level R D V) where
  -- what became of the keys, by the levels' states
  abbrev Along : (List ℕ → Warmed → State → State → State → State → Type 0) → Type 0
  Along step = Each step keys warmed (level_state from) (level_state from2) (level_state to) (level_state to2)

  -- the same by what both hold
  abbrev Held : (List ℕ → Warmed → State → State → State → State → Type 0) → Type 0
  Held step = Each step w.keys warmed (source w) (Alone (held_level from2)) (target w) (Alone (held_level to2))

  by_held : (step : List ℕ → Warmed → State → State → State → State → Type 0) → keys ≡ w.keys → level_state from ≡ source w → level_state from2 ≡ Alone (held_level from2) → level_state to ≡ target w → level_state to2 ≡ Alone (held_level to2)
      → Along step → Held step
  by_held step same f g t u each =
      subst (λ (ks : List (List ℕ)). Each step ks warmed (source w) (Alone (held_level from2)) (target w) (Alone (held_level to2))) same
      (between (λ s s2 r r2. Each step keys warmed s s2 r r2) (level_state from) (source w) (level_state from2) (Alone (held_level from2)) (level_state to) (target w) (level_state to2) (Alone (held_level to2)) f g t u each)

  pub warms : (text : List ℕ) (a b : LevelSize) → keys ≡ w.keys → held_level from ≡ first_held 0 w.from → held_level to ≡ first_held 1 w.to
      → Along WarmsKey → Along (WarmsWith AbsentWhere) → Along (WarmsWith TornWhere) → Along (WarmsWith CopiedWhere) → Along (WarmsWith FromRefusedWhere) → Along (WarmsWith ToRefusedWhere)
      → ((held_level from2).told ≡ true → a ≡ held_size (held_level from2)) → ((held_level to2).told ≡ true → b ≡ held_size (held_level to2)) → text ≡ warm_text keys warmed a b → WarmsScript w text
  warms text a b same from_is to_is each absent torn copied from_refused to_refused from_size to_size told =
      let f = first_alone from 0 w.from from_is in
      let t = first_alone to 1 w.to to_is in
      let g = source_told keys warmed (level_state from) (level_state from2) (level_state to) (level_state to2) each (subst StandsTold (sym f) (first_told 0 w.from)) in
      let u = target_told keys warmed (level_state from) (level_state from2) (level_state to) (level_state to2) each (subst StandsTold (sym t) (first_told 1 w.to)) in
      let f2 = level_alone from2 g in
      let t2 = level_alone to2 u in
      record {
        warmed = warmed;
        from2 = held_level from2;
        to2 = held_level to2;
        each = by_held WarmsKey same f f2 t t2 each;
        absent = by_held (WarmsWith AbsentWhere) same f f2 t t2 absent;
        torn = by_held (WarmsWith TornWhere) same f f2 t t2 torn;
        copied = by_held (WarmsWith CopiedWhere) same f f2 t t2 copied;
        from_refused = by_held (WarmsWith FromRefusedWhere) same f f2 t t2 from_refused;
        to_refused = by_held (WarmsWith ToRefusedWhere) same f f2 t t2 to_refused;
        told = told ∙ (λ i. warm_text (same i) warmed (from_size (level_told from2 g) i) (to_size (level_told to2 u) i));
      }
