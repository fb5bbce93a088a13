use Rattle.std.proofs.Common.{◌≡◌, ◌+◌, ◌-◌, ◌∙◌, Bool, ap, arith, if◌then◌else◌, is_some, length, sym}
use Rattle.std.proofs.lemmas.Bool.{le-leb}
use Rattle.std.specs.Borrow.{Bor}
use Rattle.std.specs.Map.{lookup, remove_entry}
use Rattle.sc_lru.specs.DryRun.{put_in, shown}
use Rattle.sc_lru.proofs.Shown.{inserted-shown, length-inserted, length-removed, length-shown, remove_entry-shown}
use Rattle.sc_lru.proofs.capacity_report.put.Goals as goal

pub overflow_sub-result : goal.overflow_sub-result
overflow_sub-result g c =
    let k = c.args.key in let n = c.args.sizes.now.capacity in let es = c.args.sizes.now.entries in
    let test : Bor g.row.K.Denot → Bool = λ b. g.K.PartialEq.eq k.now b.now in
    let new = ap length c.in_ok-replaced.ensures.entries in
    let added : c.pairs_added.result ≡ (if is_some (lookup test es) then 0 else 1) = c.pairs_added.ensures ∙ ap (λ o. if is_some o then 0 else 1) c.in_ok-replaced.ensures.old in
    omega (arith, new, added, c.len-after.ensures.len, c.len-before.ensures.len, length-inserted (λ _ s. s) test n es k c.args.bytes, length-removed test es)

pub returns-clause-entries : goal.returns-clause-entries
returns-clause-entries g c =
    let k = c.args.key in let n = c.args.sizes.now.capacity in let es = c.args.sizes.now.entries in
    ap shown c.in_ok-replaced.ensures.entries ∙ sym (inserted-shown (g.K.PartialEq.eq k.now) n es k c.args.bytes)
    ∙ sym (ap (λ y. if y then put_in g.K.PartialEq.eq n (shown es) k.now c.args.bytes else shown es) (le-leb c.args.bytes n c.requires.fits))

pub returns-clause-evicted : goal.returns-clause-evicted
returns-clause-evicted g c =
    let k = c.args.key in let n = c.args.sizes.now.capacity in let es = c.args.sizes.now.entries in
    let test : Bor g.row.K.Denot → Bool = λ b. g.K.PartialEq.eq k.now b.now in
    let put = put_in g.K.PartialEq.eq n (shown es) k.now c.args.bytes in let rest = remove_entry (g.K.PartialEq.eq k.now) (shown es) in
    let after = c.in_ok-replaced.ensures.entries in
    let long : length put ≡ c.len-after.result = ap length (inserted-shown (g.K.PartialEq.eq k.now) n es k c.args.bytes) ∙ ap (λ l. length (shown l)) (sym after) ∙ length-shown c.insert.new.self.entries ∙ sym c.len-after.ensures.len in
    let left : length rest ≡ length (remove_entry test es) = ap length (remove_entry-shown (g.K.PartialEq.eq k.now) es) ∙ length-shown (remove_entry test es) in
    let added : c.pairs_added.result ≡ (if is_some (lookup test es) then 0 else 1) = c.pairs_added.ensures ∙ ap (λ o. if is_some o then 0 else 1) c.in_ok-replaced.ensures.old in
    let sum : c.len-before.result + c.pairs_added.result - c.len-after.result ≡ (length rest + 1) - length put = omega (arith, long, left, added, c.len-before.ensures.len, length-removed test es) in
    sum ∙ sym (ap (λ y. if y then (length rest + 1) - length put else 0) (le-leb c.args.bytes n c.requires.fits))
