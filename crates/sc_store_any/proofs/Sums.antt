-- What levels take, level by level.
use Rattle.std.proofs.Common.{◌≡◌, ℕ, suc, ◌-◌, ◌<◌, ap, subst, sym, ◌∙◌}
use Rattle.sc_model.specs.Plan.{level_facts}
use Rattle.sc_model.specs.Asking.{level_size}
use Rattle.sc_model.specs.Levels.{Level}
use Rattle.sc_model.specs.declared.level.LevelFacts.{LevelFacts}
use Rattle.sc_stats.specs.Sums.{sat}
use Rattle.sc_store_any.proofs.Turns.{one_less}
use Rattle.sc_store_alone.specs.Sizes.{size_in, sizes_onto}
use Rattle.sc_store.specs.Held.{Held, HeldLevel, Room, level_in, room_in}
use Rattle.sc_store.specs.Telling.{known}

pub size_at : (h : Held) (l x : ℕ) (seen : HeldLevel) → seen.facts ≡ level_facts h.facts l → seen.level ≡ level_in h.levels l → seen.room ≡ room_in h.rooms l → x ≡ known (level_size seen.facts.kind seen.level seen.room.reserved) → x ≡ known (size_in h l)
size_at h l x seen facts level room is =
    is ∙ ap (λ (f : LevelFacts). known (level_size f.kind seen.level seen.room.reserved)) facts ∙ ap (λ (v : Level). known (level_size (level_facts h.facts l).kind v seen.room.reserved)) level
    ∙ ap (λ (r : Room). known (level_size (level_facts h.facts l).kind (level_in h.levels l) r.reserved)) room

pub next_sum : (h : Held) (count l next sum x new s : ℕ) → l < count → next ≡ suc l → new ≡ sat sum x → x ≡ known (size_in h l) → sizes_onto (count - l) l sum h ≡ s → sizes_onto (count - next) next new h ≡ s
next_sum h count l next sum x new s less after is size all =
    let from : sizes_onto (suc (count - suc l)) l sum h ≡ s = subst (λ (n : ℕ). sizes_onto n l sum h ≡ s) (one_less count l less) all in
    let here : new ≡ sat sum (known (size_in h l)) = is ∙ ap (λ (n : ℕ). sat sum n) size in
    subst (λ (n : ℕ). sizes_onto (count - n) n new h ≡ s) (sym after) (ap (λ (n : ℕ). sizes_onto (count - suc l) (suc l) n h) here ∙ from)
