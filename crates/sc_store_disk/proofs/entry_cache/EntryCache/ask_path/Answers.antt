use Rattle.std.proofs.Common.{ℕ, Bool, true, false, List, ◌∷◌, ◌++◌, sym, ap, subst, ◌∙◌}
use Rattle.sc_store_disk.specs.DiskStores.{bare_disk}
use Rattle.sc_store_disk.specs.Moving.{HasFile}
use Rattle.sc_store_disk.proofs.Askings.{asked-path, asked-path_bad, asked-path_none, asked-path_refused, disk-kind, steady-self}
use Rattle.sc_store_disk.proofs.Steadying.{steady-then}
use Rattle.sc_store_disk.proofs.entry_cache.EntryCache.ask_path.Goals as goal

pub returns-then-not-is_store_key-clause-steady : goal.returns-then-not-is_store_key-clause-steady
returns-then-not-is_store_key-clause-steady g c = steady-self (bare_disk c.args.self.now)

pub returns-then-not-is_store_key-clause-asked : goal.returns-then-not-is_store_key-clause-asked
returns-then-not-is_store_key-clause-asked g c = asked-path_bad c.args.self.now.marks c.args.key.now (bare_disk c.args.self.now) (disk-kind c.args.self.now.mode c.args.self.now.pair.max_size c.args.self.now.pair.opened c.args.self.now.pair.disks) (sym c.if-not-is_store_key.ensures)

pub returns-in_err-make_key_path-clause-steady : goal.returns-in_err-make_key_path-clause-steady
returns-in_err-make_key_path-clause-steady g c = steady-self (bare_disk c.args.self.now)

pub returns-in_err-touch-clause-steady : goal.returns-in_err-touch-clause-steady
returns-in_err-touch-clause-steady g c = steady-then (bare_disk c.args.self.now) (bare_disk c.open.new.self) (bare_disk c.touch.new.self) c.open.ensures.steady c.touch.ensures.steady

pub returns-then-not-branch-2-clause-steady : goal.returns-then-not-branch-2-clause-steady
returns-then-not-branch-2-clause-steady g c = steady-then (bare_disk c.args.self.now) (bare_disk c.open.new.self) (bare_disk c.touch.new.self) c.open.ensures.steady c.touch.ensures.steady

pub returns-then-not-branch-2-clause-asked : goal.returns-then-not-branch-2-clause-asked
returns-then-not-branch-2-clause-asked g c =
    let old = bare_disk c.args.self.now in
    let mid = bare_disk c.open.new.self in
    let new = bare_disk c.touch.new.self in
    let at = c.new-path.ensures ∙ c.in_ok-make_key_path.ensures in
    let there = subst (λ (p : List ℕ). HasFile p false old.told new.level) at (subst (λ (t : Bool). HasFile c.new-path.result false t new.level) c.open.ensures.steady.told
    (subst (λ (b : Bool). HasFile c.new-path.result b mid.told new.level) c.if-not-branch-2.true c.in_ok-touch.ensures.there)) in
    asked-path_none c.args.self.now.marks c.touch.new.self.marks (c.touch.ensures.marks ∙ c.open.ensures.marks) c.args.key.now old new (disk-kind c.args.self.now.mode c.args.self.now.pair.max_size c.args.self.now.pair.opened c.args.self.now.pair.disks) (sym c.if-not-is_store_key.ensures) (steady-then old mid new c.open.ensures.steady c.touch.ensures.steady) there c.touch.ensures.opened

pub returns-in_err-whole-clause-steady : goal.returns-in_err-whole-clause-steady
returns-in_err-whole-clause-steady g c = steady-then (bare_disk c.args.self.now) (bare_disk c.open.new.self) (bare_disk c.touch.new.self) c.open.ensures.steady c.touch.ensures.steady

pub returns-clause-steady : goal.returns-clause-steady
returns-clause-steady g c = steady-then (bare_disk c.args.self.now) (bare_disk c.open.new.self) (bare_disk c.touch.new.self) c.open.ensures.steady c.touch.ensures.steady

pub returns-clause-asked : goal.returns-clause-asked
returns-clause-asked g c =
    let old = bare_disk c.args.self.now in
    let mid = bare_disk c.open.new.self in
    let new = bare_disk c.touch.new.self in
    let at = c.new-path.ensures ∙ c.in_ok-make_key_path.ensures in
    let there = subst (λ (p : List ℕ). HasFile p true old.told new.level) at (subst (λ (t : Bool). HasFile c.new-path.result true t new.level) c.open.ensures.steady.told
    (subst (λ (b : Bool). HasFile c.new-path.result b mid.told new.level) c.if-not-branch-2.false c.in_ok-touch.ensures.there)) in
    asked-path c.args.self.now.marks c.touch.new.self.marks (c.touch.ensures.marks ∙ c.open.ensures.marks) c.args.key.now old new (disk-kind c.args.self.now.mode c.args.self.now.pair.max_size c.args.self.now.pair.opened c.args.self.now.pair.disks) (sym c.if-not-is_store_key.ensures) (steady-then old mid new c.open.ensures.steady c.touch.ensures.steady)
    c.path-2.result.now c.in_ok-whole.whole there c.touch.ensures.opened
    c.path-2.ensures (c.in_ok-whole.ensures ∙ ap (λ (p : List ℕ). c.path-2.result.now ++ 47 ∷ p) at)

pub returns-then-not-branch-clause-asked : goal.returns-then-not-branch-clause-asked
returns-then-not-branch-clause-asked g c =
    let fault = c.in_ok-open.ensures.fault c.if-not-branch.true in
    asked-path_refused c.args.self.now.marks c.open.new.self.marks c.open.ensures.marks c.args.key.now (bare_disk c.args.self.now) (bare_disk c.open.new.self)
    (disk-kind c.args.self.now.mode c.args.self.now.pair.max_size c.args.self.now.pair.opened c.args.self.now.pair.disks) (sym c.if-not-is_store_key.ensures) c.open.ensures.steady fault.0 fault.1
