-- Lookups and puts over levels, level by level.
use Rattle.std.proofs.Common.{◌≡◌, ℕ, suc, ◌-◌, ◌<◌, List, Option, Some, subst, sym, ◌∙◌}
use Rattle.sc_entry.specs.Entries.{objects}
use Rattle.sc_entry.specs.declared.object.Object.{Object}
use Rattle.sc_model.specs.declared.event.Answer.{Answer}
use Rattle.sc_model.specs.declared.event.Answer.TheVariants.{Found, Hit as AnswersHit, Miss, Refused, Size}
use Rattle.sc_model.specs.declared.event.Mode.{Mode}
use Rattle.sc_model.specs.declared.event.Mode.TheVariants.{Whole}
use Rattle.sc_model.specs.declared.level.LevelKind.{LevelKind}
use Rattle.sc_model.specs.Levels.{Level}
use Rattle.sc_store_alone.specs.Lookups.{FindsFrom, FoundOr, IsSpelled, LooksAt, hit_in}
use Rattle.sc_store_alone.specs.Moving.{Counted, Keeps}
use Rattle.sc_store_alone.specs.declared.hit.Hit.{Hit}
use Rattle.sc_store_alone.proofs.Spelled.{spelled_at}
use Rattle.sc_store_any.proofs.Turns.{one_less}
use Rattle.sc_store.specs.Asking.{CauseBy}
use Rattle.sc_store.specs.Held.{Held}

pub keeps_then : (a b c : Held) → Keeps a b → Keeps b c → Keeps a c
keeps_then a b c s t = record {
  titles = t.titles ∙ s.titles;
  facts = t.facts ∙ s.facts;
  policy = t.policy ∙ s.policy;
  told = t.told ∙ s.told;
  count = t.count ∙ s.count;
  reserved = λ l. t.reserved l ∙ s.reserved l;
  entries = λ l number. t.entries l number ∙ s.entries l number;
}

-- a level's lookup before those that are left
pub turn : (count l next : ℕ) (key : List ℕ) (mode : Mode) (answer : Answer) (hit found : Option Hit) (old between new : Counted) → l < count → next ≡ suc l → hit ≡ hit_in l answer → LooksAt l key mode answer old between
    → FoundOr hit found between new (FindsFrom (count - next) next key mode found between new) → FindsFrom (count - l) l key mode found old new
turn count l next key mode answer hit found old between new h after is looks rest =
    let more : FoundOr (hit_in l answer) found between new (FindsFrom (count - suc l) (suc l) key mode found between new) =
    subst (λ (x : Option Hit). FoundOr x found between new (FindsFrom (count - suc l) (suc l) key mode found between new)) is (subst (λ (n : ℕ). FoundOr hit found between new (FindsFrom (count - n) n key mode found between new)) after rest) in
    subst (λ (n : ℕ). FindsFrom n l key mode found old new) (sym (one_less count l h)) (answer, between, looks, more)

pub hit_spelled : (l : ℕ) (kind : LevelKind) (key : List ℕ) (mode : Mode) (answer : Answer) (hit : Hit) (v w : Level) → mode ≡ Whole → Some hit ≡ hit_in l answer → CauseBy kind mode answer key v w → IsSpelled (Some hit)
hit_spelled l kind key mode (AnswersHit bytes mark) hit v w whole is cause =
    let same : bytes ≡ hit.bytes = cc (is) in
    subst (λ (b : List ℕ). (held : List Object) × (objects b ≡ Some held)) same (spelled_at kind bytes key mark v w (subst (λ (m : Mode). CauseBy kind m (AnswersHit bytes mark) key v w) whole cause))
hit_spelled l kind key mode Miss hit v w whole is cause = absurd (cc)
hit_spelled l kind key mode (Refused c) hit v w whole is cause = absurd (cc)
hit_spelled l kind key mode (Found p) hit v w whole is cause = absurd (cc)
hit_spelled l kind key mode (Size n c) hit v w whole is cause = absurd (cc)
