-- The levels that a good script says.
use Rattle.std.proofs.Common.{◌≡◌, ℕ, zero, suc, ◌≤◌, ◌<◌, ◌&&◌, true, Bool, nat_lt, List, [], ◌∷◌, length, map as each, ap, sym, ◌∙◌, refl, arith}
use Rattle.std.specs.Cmp.Lexicographic.{pointwise, slice_cmp}
use Rattle.std.specs.FinMap as map
use Rattle.std.specs.Ordering.{nat_cmp}
use Rattle.sc_disk.specs.Memory.{outside_of}
use Rattle.sc_main_memory.specs.Making.{first_levels, held_as, held_first, held_from}
use Rattle.sc_model.specs.declared.level.LevelKind.{LevelKind}
use Rattle.sc_model.specs.declared.level.LevelKind.TheVariants.{Disk, Remote}
use Rattle.sc_model.specs.declared.level.Policy.{Policy}
use Rattle.sc_model.specs.declared.level.Policy.TheVariants.{Levels, Single}
use Rattle.sc_daemon_owned.specs.State.{is_count, is_good}
use Rattle.sc_disk_pair.specs.Parts.{same_outside, same_pair}
use Rattle.sc_main_script.specs.Goods.{IsGood}
use Rattle.sc_main_script.specs.declared.level_rule.LevelRule.{LevelRule}
use Rattle.sc_main_script.specs.declared.script.Script.{Script}
use Rattle.sc_store.specs.Held.{HeldLevel, all_tell, room_in}

no_list : (es : List (List ℕ × List ℕ)) → length es ≡ 0 → es ≡ []
no_list [] h = refl
no_list (e ∷ es) h = absurd (omega (arith, h))

-- nothing stands outside of either of its disks
pub nothing_outside : same_outside (outside_of []) (outside_of []) ≡ true
unfolding same_outside
nothing_outside = ap (λ (es : List (List ℕ × List ℕ)). pointwise same_pair es es) (no_list (map.entries (outside_of [])) (sym (map.len-entries (outside_of [])) ∙ map.len-empty (slice_cmp nat_cmp) (List ℕ)))

-- each tells what it holds
pub kind_tells : (kind : LevelKind) (level : ℕ) (rule : LevelRule) → (held_as kind level rule).told ≡ true
kind_tells Disk level rule = rw nothing_outside refl
kind_tells Remote level rule = refl

tell_from : (level : ℕ) (rules : List LevelRule) → all_tell (held_from level rules) ≡ true
tell_from level [] = refl
tell_from level (r ∷ rules) = ap (λ (t : Bool). t && all_tell (held_from (suc level) rules)) (kind_tells r.kind level r) ∙ tell_from (suc level) rules

pub firsts_tell : (rules : List LevelRule) → all_tell (held_first rules) ≡ true
firsts_tell rules = tell_from zero rules

-- nothing is open at it
kind_free : (kind : LevelKind) (level : ℕ) (rule : LevelRule) → (held_as kind level rule).room.reserved ≡ 0
kind_free Disk level rule = refl
kind_free Remote level rule = refl

free_from : (level : ℕ) (rules : List LevelRule) (l : ℕ) → (room_in (each (λ (h : HeldLevel). h.room) (held_from level rules)) l).reserved ≡ 0
free_from level [] l = refl
free_from level (r ∷ rules) zero = kind_free r.kind level r
free_from level (r ∷ rules) (suc l) = free_from (suc level) rules l

pub firsts_free : (rules : List LevelRule) (l : ℕ) → (room_in (each (λ (h : HeldLevel). h.room) (held_first rules)) l).reserved ≡ 0
firsts_free rules l = free_from zero rules l

count_from : (level : ℕ) (rules : List LevelRule) → length (each (λ (l : HeldLevel). l.facts) (held_from level rules)) ≡ length rules
count_from level [] = refl
count_from level (r ∷ rules) = ap suc (count_from (suc level) rules)

counts : (p : Policy) (n : ℕ) → n ≤ 16 → (p ≡ Single → n ≡ 1) → is_count p n ≡ true
counts Single n few one = rw (one refl) refl
counts (Levels ps) n few one = from_lt (omega arith)
  where
    from_lt : n < 17 → nat_lt n 17 ≡ true
    from_lt lt = grind (arith)

pub good_levels : (s : Script) → IsGood s → is_good s.policy (first_levels s).facts ≡ true
good_levels s good =
    rw (count_from zero s.levels) (counts s.policy (length s.levels) good.few_levels good.one_level)
