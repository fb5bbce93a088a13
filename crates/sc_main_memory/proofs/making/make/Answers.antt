use Rattle.std.proofs.Common.{◌≡◌, List, true, sym, ap, ◌∙◌, subst}
use Rattle.sc_main_memory.proofs.Firsts.{firsts_free, firsts_tell, good_levels}
use Rattle.sc_daemon_owned.specs.State.{is_good}
use Rattle.sc_store.specs.Held.{Held, HeldLevel, Room, held_of, room_in}
use Rattle.sc_main_memory.proofs.making.make.Goals as goal

pub new-owned-requires-clause-levels : goal.new-owned-requires-clause-levels
new-owned-requires-clause-levels c =
    let s = c.args.script in
    let same = c.new-levels.ensures ∙ ap (λ (ls : List HeldLevel). held_of ls s.policy) c.in_ok-levels.ensures in
    subst (λ (h : Held). is_good h.policy h.facts ≡ true) (sym same) (good_levels s c.requires.good)

pub returns-clause-told : goal.returns-clause-told
returns-clause-told c =
    let s = c.args.script in
    let same = c.new-levels.ensures ∙ ap (λ (ls : List HeldLevel). held_of ls s.policy) c.in_ok-levels.ensures in
    c.new-owned.ensures.told ∙ ap (λ (h : Held). h.told) same ∙ firsts_tell s.levels

pub returns-clause-unreserved : goal.returns-clause-unreserved
returns-clause-unreserved c l =
    let s = c.args.script in
    let same = c.new-levels.ensures ∙ ap (λ (ls : List HeldLevel). held_of ls s.policy) c.in_ok-levels.ensures in
    ap (λ (rs : List Room). (room_in rs l).reserved) (c.new-owned.ensures.rooms ∙ ap (λ (h : Held). h.rooms) same) ∙ firsts_free s.levels l
