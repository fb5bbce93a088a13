-- How an entry is gathered from files, one source after the other.
use Rattle.std.proofs.Common.{◌≡◌, ℕ, suc, ◌+◌, ◌-◌, ◌^◌, ◌<◌, ◌≤◌, min, List, [], ◌∷◌, ◌++◌, length, get_or, Option, Some, None, inl, inr, refl, sym, ap, subst, ◌∙◌, arith, add-one, length-append}
use Rattle.std.specs.Prelude.{slice_get}
use Rattle.std.proofs.lemmas.Option.{slice_get_read}
use Rattle.sc_entry.specs.declared.object.Object.{Object}
use Rattle.sc_entry.specs.declared.object.FileObjectSource.{FileObjectSource}
use Rattle.sc_entry.specs.declared.entry_files.FromObjectsError.{FromObjectsError}
use Rattle.sc_entry.specs.declared.entry_files.FromObjectsError.TheVariants as from_errors
use Rattle.sc_entry.specs.Causes.{Rose}
use Rattle.sc_entry.specs.FileMaps.{FileMap}
use Rattle.sc_entry.specs.Gathering.{Gathered, begun, read, skipped, TakesSource, SourceCause, FromCause}

-- the source at a place
pub at_place : (sources : List FileObjectSource) (i : ℕ) (s : FileObjectSource) → i < length sources → s ≡ get_or sources i s → slice_get sources i ≡ Some s
at_place sources i s lt is = slice_get_read sources (length sources) i s refl lt is

pub gathered_none : (held : Option FileMap) (sources : List FileObjectSource) (os : List Object) → os ≡ [] → Gathered held sources 0 os
gathered_none held sources os none = subst (λ (l : List Object). Gathered held sources 0 l) (sym none) begun

module _ (held : Option FileMap) (sources : List FileObjectSource) (i : ℕ) (s : FileObjectSource) (os after : List Object) (faults faults' : ℕ) where
  gathered_suc : Gathered held sources i os → slice_get sources i ≡ Some s → TakesSource held s os after faults faults' → Gathered held sources (suc i) after
  gathered_suc so at (inl t) = subst (λ (l : List Object). Gathered held sources (suc i) l) (sym t.2) (read so s t.0 at t.1)
  gathered_suc so at (inr t) = subst (λ (l : List Object). Gathered held sources (suc i) l) (sym t.1) (skipped so s at t.0)

  pub gathered_on : Gathered held sources i os → slice_get sources i ≡ Some s → TakesSource held s os after faults faults' → Gathered held sources (i + 1) after
  gathered_on so at step = subst (λ (n : ℕ). Gathered held sources n after) (sym (add-one i)) (gathered_suc so at step)

  pub whole_on : (start : ℕ) → start ≤ faults → ((Rose start faults → ⊥) → length os ≡ i) → TakesSource held s os after faults faults' → (Rose start faults' → ⊥) → length after ≡ i + 1
  whole_on start later so (inl t) quiet =
      let n = so (λ rose. quiet (subst (λ (f : ℕ). Rose start f) (sym t.3) rose)) in
      let l = ap (λ (l : List Object). length l) t.2 in
      omega (arith, n, l, length-append os (t.0 ∷ []))
  whole_on start later so (inr t) quiet = absurd (quiet (let rose = t.2 in omega (arith, rose, later)))

pub rose_later : (before faults now : ℕ) → before ≤ faults → Rose faults now → Rose before now
rose_later before faults now later rose = omega (arith, rose, later)

pub from_cause : (held : Option FileMap) (sources : List FileObjectSource) (i : ℕ) (s : FileObjectSource) (os : List Object) (before faults now : ℕ) (e : FromObjectsError) → before ≤ faults
    → Gathered held sources i os → slice_get sources i ≡ Some s → SourceCause s os faults now e → FromCause held sources before now e
from_cause held sources i s os before faults now from_errors.NoMemory later so at cause = tt
from_cause held sources i s os before faults now from_errors.NameTaken later so at cause = (i, os, s, so, at, cause)
from_cause held sources i s os before faults now from_errors.BadName later so at cause = (i, os, s, so, at, cause)
from_cause held sources i s os before faults now from_errors.TooManyObjects later so at cause = (i, os, s, so, at, cause)
from_cause held sources i s os before faults now from_errors.FileFault later so at cause = rose_later before faults now later cause.0
