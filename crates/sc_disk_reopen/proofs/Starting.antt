-- A stop inside an opening, and a second opening.
use Rattle.std.proofs.Common.{◌≡◌, inl, inr, ℕ, List, [], ◌∷◌, ◌++◌, Option, Some, option_map, refl, sym, ap, ◌∙◌, subst}
use Rattle.sc_entry.specs.Causes.{IfTold}
use Rattle.sc_disk.specs.Disks.{DiskFiles, DiskRecord, DiskState, Does, change, did_all, files_now, replay}
use Rattle.sc_disk.specs.Opening.{Begins, Indexes, IsReopened, RefusesOpening, Reopens}
use Rattle.sc_disk.specs.Store.{gone}
use Rattle.sc_disk.specs.declared.change.Change.{Change}
use Rattle.sc_disk.specs.declared.change.Change.TheVariants.{Gone}
use Rattle.sc_disk.proofs.Again.{again-late, again-refused}
use Rattle.sc_disk.proofs.Doing.{replay-append}
use Rattle.sc_disk_reopen.specs.Moments.{LeftBy}
use Rattle.sc_disk_reopen.specs.Openings.{Lost, ReopensOpening, ReopensRefusedOpening, StopsOpening, StopsRefusedOpening}
use Rattle.sc_disk_reopen.specs.Reopening.{StopsAt}
use Rattle.sc_disk_reopen.proofs.Playing.{LeftBy-append, plays-gone}
use Rattle.sc_disk_reopen.proofs.Resuming.{cancel, of-told, same_record}

-- the changes that a stop came into are those that were made
left-by : (a b : DiskState) (r : DiskRecord) (xs : List Change) (c : DiskFiles) → a.told ≡ Some r → Does xs a b → StopsAt a b c → LeftBy (files_now r) xs c
left-by a b r xs c told did stop =
    let same : stop.0 ≡ xs = cancel stop.0 xs r.done (ap (λ (v : DiskRecord). v.done) (same_record (did_all stop.0 r) (did_all xs r)
    (sym (stop.1.told ∙ ap (option_map (did_all stop.0)) told) ∙ (did.told ∙ ap (option_map (did_all xs)) told)))) in
    subst (λ ys. LeftBy (files_now r) ys c) same (subst (λ (o : Option DiskRecord). IfTold o (λ w. LeftBy (files_now w) stop.0 c)) told stop.2)

lost : (a b : DiskState) (r : DiskRecord) (ks : List (List ℕ)) (c : DiskFiles) → a.told ≡ Some r → Does (gone ks) a b → StopsAt a b c → Lost r c
lost a b r ks c told did stop = (ks, (plays-gone ks (files_now r)).left c (left-by a b r (gone ks) c told did stop))

pub stops_opening : StopsOpening
unfolding Reopens
stops_opening capacity index a b r c told o stop = lost a b r o.0 c told o.1 stop

pub stops_refused_opening : StopsRefusedOpening
unfolding RefusesOpening
stops_refused_opening capacity a b r c told o stop = lost a b r o.0 c told o.1 stop

abbrev Path : Type 0
Path = List ℕ

-- the first ones of the files went
left-gone : (ks : List Path) (f c : DiskFiles) → LeftBy f (gone ks) c → (ls : List Path) × (rs : List Path) × (ls ++ rs ≡ ks) × (c ≡ replay f (gone ls))
left-gone [] f c l = ([], [], refl, l)
left-gone (k ∷ ks) f c l = elim (LeftBy-append f c (gone ks) (Gone k ∷ []) l) [
  | inl m ↦ let on = left-gone ks (change (Gone k) f) c m in (k ∷ on.0, on.1, ap (λ l. k ∷ l) on.2, on.3 ∙ sym (replay-append f (gone on.0) (Gone k ∷ [])))
  | inr m ↦ elim m [
    | inl now ↦ (k ∷ [], ks, refl, now)
    | inr rest ↦ elim rest [ inl torn ↦ absurd torn | inr first ↦ ([], k ∷ ks, refl, first) ]
  ]
]

pub reopens_opening : ReopensOpening
unfolding Reopens
reopens_opening capacity index a b d r c t told o stop has opened =
    let left = left-gone o.0 (files_now r) c (left-by a b r (gone o.0) c told o.1 stop) in
    let i : Indexes capacity index o.0 (files_now r) = subst (λ (w : Option DiskRecord). IfTold w (λ v. Indexes capacity index o.0 (files_now v))) told o.2 in
    let second : IsReopened capacity c t.index = of-told d.told has.0 c (λ f. IsReopened capacity f t.index) has.1 has.2 opened.reopened in
    again-late capacity i.n (files_now r) i.order left.0 left.1 o.0 t.index i.ordered i.evicted.0 i.removed left.2 (subst (λ f. IsReopened capacity f t.index) left.3 second)

pub reopens_refused_opening : ReopensRefusedOpening
unfolding RefusesOpening
reopens_refused_opening capacity a b d r c t told o stop has opened =
    let left = left-gone o.0 (files_now r) c (left-by a b r (gone o.0) c told o.1 stop) in
    let begins : Begins capacity o.0 (files_now r) = subst (λ (w : Option DiskRecord). IfTold w (λ v. Begins capacity o.0 (files_now v))) told o.2 in
    let second : IsReopened capacity c t.index = of-told d.told has.0 c (λ f. IsReopened capacity f t.index) has.1 has.2 opened.reopened in
    again-refused capacity (files_now r) o.0 left.0 left.1 t.index begins left.2 (subst (λ f. IsReopened capacity f t.index) left.3 second)
