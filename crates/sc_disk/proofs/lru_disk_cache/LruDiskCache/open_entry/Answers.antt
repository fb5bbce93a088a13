use Rattle.std.proofs.Common.{◌≡◌, ℕ, List, true, sym, ap, subst, arith, ◌∷◌, [], ◌∙◌, rules, None, Some}
use Rattle.slab.specs.Slab.{get, Updates}
use Rattle.sc_lru.specs.LruCache.{total}
use Rattle.sc_disk.specs.Disks.{Does, has_place}
use Rattle.sc_disk.specs.declared.change.Change.TheVariants.{Made}
use Rattle.sc_disk.specs.declared.pending.Pending.{Pending}
use Rattle.sc_disk.specs.Names.{is_temporary_path, temporary}
use Rattle.sc_disk.specs.Store.{declared, size_of}
use Rattle.sc_disk.proofs.Keeping.{Keeps-opened, on_err, opened_as}
use Rattle.sc_disk.proofs.Places.{alters-nothing, place-temporary}
use Rattle.sc_disk.proofs.Slots.{declared-opened}
use Rattle.sc_disk.proofs.lru_disk_cache.LruDiskCache.open_entry.Goals as goal

pub invariant_of-self-2 : goal.invariant_of-self-2
invariant_of-self-2 g c = let s = c.self.inside in let i = c.self.invariant in let r = c.insert_reserved-number.ensures in let state = g.D.Disk.state in let v = c.self.view_is in
    let n = c.insert_reserved-number.result in
    let e : Pending = record { key = c.in_ok-reserved_key.reserved_key; size = c.args.size } in
    let key : e.key ≡ c.args.key.now = search rules in
    let t = temporary (state s.disk).divided e.key n in
    let path : c.in_ok-path.path ≡ t = search rules in
    let did : Does (Made t c.args.now ∷ []) (state s.disk) (state c.create.new.self) = subst (λ (k : List ℕ). Does (Made k c.args.now ∷ []) (state s.disk) (state c.create.new.self)) path c.in_ok-create.ensures.ok in
    let more = declared-opened s.pending c.insert_reserved-number.new.self n e r.was_vacant r.updates in
    Keeps-opened s.index.entries s.index.capacity s.pending c.insert_reserved-number.new.self s.held _ s.capacity (state s.disk) (state c.create.new.self) n e c.args.now r.updates
    (ap is_temporary_path key ∙ c.requires.key) (omega (arith, i.reserved, more))
    (omega (arith, c.requires.room, i.reserved, ap (λ w. total size_of w.index) v, ap (λ w. declared w.pending.slots) v, ap (λ w. w.capacity) v)) did i

pub returns-clause-ok : goal.returns-clause-ok
returns-clause-ok g c = let s = c.self.inside in let r = c.insert_reserved-number.ensures in let state = g.D.Disk.state in let v = c.self.view_is in
    let n = c.insert_reserved-number.result in let old = c.args.self.now in
    let e : Pending = record { key = c.in_ok-reserved_key.reserved_key; size = c.args.size } in
    let key : e.key ≡ c.args.key.now = search rules in
    let key2 : c.in_ok-key.key ≡ c.args.key.now = search rules in
    let d = c.is_divided-divided.result in let t = temporary d c.in_ok-key.key n in
    let path : c.in_ok-path.path ≡ t = search rules in
    let more = declared-opened s.pending c.insert_reserved-number.new.self n e r.was_vacant r.updates in
    record {
      key = key2;
      divided = c.is_divided-divided.ensures ∙ ap (λ w. w.disk.divided) v;
      opened = record {
        free = subst (λ w. get w.pending n ≡ None) v r.was_vacant;
        entry = subst (λ w. Updates w.pending c.insert_reserved-number.new.self n (Some (record { key = c.in_ok-key.key; size = c.args.size }))) v (opened_as s.pending c.insert_reserved-number.new.self n e.key c.in_ok-key.key c.args.size (key ∙ sym key2) r.updates);
        reserved = omega (arith, more, ap (λ w. declared w.pending.slots) v);
      };
      index = ap (λ w. w.index) v;
      capacity = ap (λ w. w.capacity) v;
      disk = subst (λ w. Does (Made t c.args.now ∷ []) w.disk (state c.create.new.self)) v (subst (λ (k : List ℕ). Does (Made k c.args.now ∷ []) (state s.disk) (state c.create.new.self)) path c.in_ok-create.ensures.ok);
    }

pub returns-in_err-create-clause-err : goal.returns-in_err-create-clause-err
returns-in_err-create-clause-err g c =
    let s = c.self.inside in let state = g.D.Disk.state in
    let path : c.in_ok-path.path ≡ temporary (state s.disk).divided c.args.key.now c.vacant_key-number.result = search rules in
    let placed : has_place (state s.disk) c.in_ok-path.path ≡ true = ap (has_place (state s.disk)) path ∙ place-temporary (state s.disk) c.args.key.now c.vacant_key-number.result (ap (λ w. has_place w.disk c.args.key.now) c.self.view_is ∙ c.requires.placed) in
    on_err c.from_residual-in_err-create.result _ (alters-nothing c.args.self.now s.index.entries s.index.spare s.pending s.capacity (state s.disk) c.self.view_is (state c.create.new.self) (c.in_err-create.ensures.placed placed))
