-- Where the bytes of an entry come from.
use Rattle.std.specs.Prelude.{◌≡◌, ℕ, true, false, List, [], ◌∷◌, length, Some, ◌⊎◌}
use Rattle.sc_model.specs.Dues.{kind_at}
use Rattle.sc_model.specs.Job.{At, Own, entry_of, job_of}
use Rattle.sc_model.specs.Script.{Script, Setup}
use Rattle.sc_model.specs.Trace.{Given, about, all, given, numbered, owned, request}
use Rattle.sc_model.specs.Levels.{held}
use Rattle.sc_model.specs.World.{World, level_at}
use Rattle.sc_model.specs.declared.event.Answer.TheVariants.{Hit}
use Rattle.sc_model.specs.declared.event.DistAnswer.TheVariants.{Done as DistDone}
use Rattle.sc_model.specs.declared.event.Event.{Event}
use Rattle.sc_model.specs.declared.event.Mode.TheVariants.{Whole}
use Rattle.sc_model.specs.declared.event.Objects.{Objects}
use Rattle.sc_model.specs.declared.event.Objects.TheVariants.{Broken, Collected}
use Rattle.sc_model.specs.declared.event.Owner.{Owner}
use Rattle.sc_model.specs.declared.event.Owner.TheVariants.{Request as OfRequest, Write as OfWrite}
use Rattle.sc_model.specs.declared.event.RunAnswer.TheVariants.{Output as RanOutput}
use Rattle.sc_model.specs.declared.event.RunOutput.{RunOutput}
use Rattle.sc_model.specs.declared.event.Status.TheVariants.{Code}
use Rattle.sc_model.specs.declared.event.What.{What}
use Rattle.sc_model.specs.declared.event.What.TheVariants.{Asked, Committed, Dist, Ran, WriteEnded, Wrote}
use Rattle.sc_model.specs.declared.event.Written.TheVariants.{Done as WriteDone}
use Rattle.sc_model.specs.declared.message.Request.{Request}
use Rattle.sc_model.specs.declared.message.Request.TheVariants.{Compile, StoragePutRaw as PutRaw}

-- a run event of status 0 whose objects were collected and whose entry is b stands among these
abbrev pub IsCollected : Objects → Type 0
IsCollected (Collected os) = Unit {0}
IsCollected (Broken chain) = ⊥

abbrev pub IsEntryOf : Setup → RunOutput → List ℕ → Type 0
IsEntryOf s out b = (out.output.status ≡ Code 0) × IsCollected out.objects × (entry_of s out ≡ b)

abbrev pub HasRun : Setup → List ℕ → List Own → Type 0
HasRun s b [] = ⊥
HasRun s b (At m (Ran (RanOutput out)) ∷ own) = IsEntryOf s out b ⊎ HasRun s b own
HasRun s b (At m (Dist (DistDone server out)) ∷ own) = IsEntryOf s out b ⊎ HasRun s b own
HasRun s b (_ ∷ own) = HasRun s b own

-- a request put b under k: a compile of that key, its own run's entry; a put-raw, its bytes
abbrev pub PutBy : Setup → Request → List Own → List ℕ → List ℕ → Type 0
PutBy s (Compile c) own k b = ((job_of own).found.key ≡ k) × HasRun s b own
PutBy s (PutRaw key bytes) own k b = (key ≡ k) × (bytes ≡ b)
PutBy s _ own k b = ⊥

abbrev pub PutByOwner : Script → Owner → List Event → List ℕ → List ℕ → Type 0
PutByOwner s (OfRequest c n) t k b = PutBy s.setup (request (all s c) n) (owned n (about c t)) k b
PutByOwner s _ t k b = ⊥

-- what a trace tells of origins
pub record Origins : Type 1 where
  -- these bytes lie under this key in this level rightfully
  pub entry : ℕ → List ℕ → List ℕ → Type 0
  -- so does what this handed write puts
  pub write : ℕ → List ℕ → List ℕ → Type 0

-- its owner put them there
abbrev pub Rightful : Script → List Event → Origins → Owner → List ℕ → List ℕ → Type 0
Rightful s t o (OfWrite i) k b = o.write i k b
Rightful s t o owner k b = PutByOwner s owner t k b

abbrev pub entry_by : Script → List Event → Origins → Owner → What → ℕ → List ℕ → List ℕ → Type 0
entry_by s t o owner (Committed j i d WriteDone) l k b = (j ≡ l) × (i ≡ k) × (d ≡ b) × Rightful s t o owner k b
entry_by s t o owner (Wrote j i d Whole mark WriteDone) l k b = (j ≡ l) × (i ≡ k) × (d ≡ b) × Rightful s t o owner k b
entry_by s t o owner _ l k b = ⊥

-- a handed write of this number is among these, with this key and these bytes
abbrev pub Gives : List Given → ℕ → List ℕ → List ℕ → Type 0
Gives [] i k b = ⊥
Gives (g ∷ gs) i k b = ((g.number ≡ i) × (g.handed.key ≡ k) × (g.handed.bytes ≡ b)) ⊎ Gives gs i k b

-- handed now: a hit's bytes that had an origin before, or the owner's own
abbrev pub write_by : Script → List Event → Origins → Owner → ℕ → What → ℕ → List ℕ → List ℕ → Type 0
write_by s t o owner m (Asked j a mode (Hit d mark) hs) i k b = Gives (numbered (length (given t)) m true hs) i k b × (a ≡ k) × (d ≡ b) × o.entry j k b
write_by s t o owner m (WriteEnded put hs) i k b = Gives (numbered (length (given t)) m false hs) i k b × PutByOwner s owner t k b
write_by s t o owner m _ i k b = ⊥

abbrev pub origins : Script → World → List Event → Origins
origins s start [] = record { entry = λ l k b. held (kind_at s.setup.levels l) (level_at start l) k ≡ Some b; write = λ i k b. ⊥ }
origins s start (e ∷ t) =
    let o = origins s start t in
    record {
      entry = λ l k b. o.entry l k b ⊎ entry_by s t o e.owner e.what l k b;
      write = λ i k b. o.write i k b ⊎ write_by s t o e.owner e.moment e.what i k b;
    }

abbrev pub Origin : Script → World → List Event → ℕ → List ℕ → List ℕ → Type 0
Origin s start t l k b = (origins s start t).entry l k b
