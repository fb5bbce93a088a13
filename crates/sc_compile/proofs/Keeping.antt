-- What is kept of each path, over a table that does not change.
use Rattle.std.proofs.Common.{◌≡◌, ℕ, ◌==◌, Bool, true, false, cond, if◌then◌else◌, List, Option, Some, None, option_map, codes, refl, ap, sym, ◌∙◌}
use Rattle.std.specs.Cmp.Lexicographic.{slice_cmp, texts_ties}
use Rattle.std.specs.Ordering.{is_eq, nat_cmp}
use Rattle.std.specs.Str.{bytes_eq}
use Rattle.std.proofs.lemmas.Slice.Eq.{bytes_eq-Decides}
use Rattle.sc_compile_language.specs.declared.compiler_kind.CompilerKind.{CompilerKind}
use Rattle.sc_compile.specs.Tools.{detected_by, detected_of, moment_of, tool_at}
use Rattle.sc_compile.specs.declared.tool.Detected.{Detected}
use Rattle.sc_compile.specs.declared.tool.Detected.TheVariants.{Compiler, Refused}
use Rattle.sc_compile.specs.declared.tool.Tool.{Tool}
use Rattle.sc_compile.specs.Kept.{AreDetected, Informs, InformsAt, InformsBy, Kept, Sets, Stays, entry_at, entry_for, if_unchanged, kept_at}
use Rattle.sc_compile.specs.declared.map.CompilerCacheEntry.{CompilerCacheEntry}

-- an entry that was put in or taken out, by the order of keys
pub set_at : (path other : List ℕ) (e old new : Option CompilerCacheEntry) → new ≡ cond (is_eq (slice_cmp nat_cmp path other)) e old → new ≡ (if bytes_eq path other then e else old)
set_at path other e old new set = rw (texts_ties path other) set

-- ---- a map that keeps nothing

none_unchanged : {P : Type 0} (mtime : ℕ) (e : Option CompilerCacheEntry) (kind : CompilerKind) → e ≡ None → if_unchanged mtime e ≡ Some kind → P
none_unchanged mtime None kind none is = absurd (cc)
none_unchanged mtime (Some e) kind none is = absurd (cc)

pub none_agrees : (tools : List Tool) (kept : Kept) → ((path : List ℕ) → entry_at kept path ≡ None) → AreDetected tools kept
none_agrees tools kept none path mtime kind is moment = none_unchanged mtime (entry_at kept path) kind (none path) is

-- ---- all stays, or one path's entry is set

stays_agrees : (tools : List Tool) (old new : Kept) → AreDetected tools old → Stays old new → AreDetected tools new
stays_agrees tools old new agrees stays path mtime kind is moment = agrees path mtime kind (sym (ap (if_unchanged mtime) (stays path)) ∙ is) moment

of_if : (b : Bool) (k kind : CompilerKind) → (if b then Some k else None) ≡ Some kind → Compiler k ≡ Compiler kind
of_if true k kind is = let same : k ≡ kind = cc in ap Compiler same
of_if false k kind is = absurd (cc)

kind_of : (at mtime : ℕ) (kind : CompilerKind) (found : Detected) → if_unchanged mtime (entry_for at found) ≡ Some kind → found ≡ Compiler kind
kind_of at mtime kind (Compiler k) is = of_if (at == mtime) k kind is
kind_of at mtime kind (Refused why) is = absurd (cc)

set_agrees : (b : Bool) (tools : List Tool) (path other : List ℕ) (found : Detected) (at mtime : ℕ) (kind : CompilerKind) (before after : Option CompilerCacheEntry) → after ≡ (if b then entry_for at found else before)
    → (b ≡ true → path ≡ other) → found ≡ detected_of tools path → (if_unchanged mtime before ≡ Some kind → detected_of tools other ≡ Compiler kind) → if_unchanged mtime after ≡ Some kind → detected_of tools other ≡ Compiler kind
set_agrees true tools path other found at mtime kind before after set same is agrees e =
    ap (detected_of tools) (sym (same refl)) ∙ sym is ∙ kind_of at mtime kind found (sym (ap (if_unchanged mtime) set) ∙ e)
set_agrees false tools path other found at mtime kind before after set same is agrees e = agrees (sym (ap (if_unchanged mtime) set) ∙ e)

same_path : (path other : List ℕ) → bytes_eq path other ≡ true → path ≡ other
same_path path other e = (bytes_eq-Decides path other).0 e

sets_agrees : (tools : List Tool) (path : List ℕ) (found : Detected) (at : ℕ) (old new : Kept) → found ≡ detected_of tools path → Sets path (entry_for at found) old new → AreDetected tools old → AreDetected tools new
sets_agrees tools path found at old new is sets agrees other mtime kind e moment =
    set_agrees (bytes_eq path other) tools path other found at mtime kind (entry_at old other) (entry_at new other) (sets other) (same_path path other) is (λ before. agrees other mtime kind before moment) e

-- ---- what a map answers

no_tool : (o : Option Tool) → None ≡ option_map (λ (t : Tool). t.moment) o → Refused (codes "compiler not found") ≡ detected_by o
no_tool None e = refl
no_tool (Some t) e = absurd (cc)

answers_by : (kept : Option CompilerKind) (tools : List Tool) (path : List ℕ) (found : Detected) (old new : Kept) (mtime : ℕ) → kept_at old path mtime ≡ kept → Some mtime ≡ moment_of tools path → AreDetected tools old
    → InformsBy kept (Some tools) mtime path found old new → found ≡ detected_of tools path
answers_by None tools path found old new mtime is moment agrees informs = informs.0
answers_by (Some kind) tools path found old new mtime is moment agrees informs = informs.0 ∙ sym (agrees path mtime kind is (sym moment))

agrees_by : (kept : Option CompilerKind) (tools : List Tool) (path : List ℕ) (found : Detected) (old new : Kept) (mtime : ℕ) → AreDetected tools old → InformsBy kept (Some tools) mtime path found old new → AreDetected tools new
agrees_by None tools path found old new mtime agrees informs = sets_agrees tools path found mtime old new informs.0 informs.1 agrees
agrees_by (Some kind) tools path found old new mtime agrees informs = stays_agrees tools old new agrees informs.1

answers_at : (mtime : Option ℕ) (tools : List Tool) (path : List ℕ) (found : Detected) (old new : Kept) → mtime ≡ moment_of tools path → AreDetected tools old → InformsAt mtime (Some tools) path found old new → found ≡ detected_of tools path
answers_at None tools path found old new moment agrees informs = informs.0 ∙ no_tool (tool_at tools path) moment
answers_at (Some mtime) tools path found old new moment agrees informs = answers_by (kept_at old path mtime) tools path found old new mtime refl moment agrees informs

agrees_at : (mtime : Option ℕ) (tools : List Tool) (path : List ℕ) (found : Detected) (old new : Kept) → AreDetected tools old → InformsAt mtime (Some tools) path found old new → AreDetected tools new
agrees_at None tools path found old new agrees informs = stays_agrees tools old new agrees informs.1
agrees_at (Some mtime) tools path found old new agrees informs = agrees_by (kept_at old path mtime) tools path found old new mtime agrees informs

pub informs_answers : (tools : List Tool) (path : List ℕ) (found : Detected) (old new : Kept) → AreDetected tools old → Informs (Some tools) path found old new → found ≡ detected_of tools path
informs_answers tools path found old new agrees informs = answers_at (informs.0) tools path found old new (informs.1) agrees (informs.2)

pub informs_agrees : (tools : List Tool) (path : List ℕ) (found : Detected) (old new : Kept) → AreDetected tools old → Informs (Some tools) path found old new → AreDetected tools new
informs_agrees tools path found old new agrees informs = agrees_at (informs.0) tools path found old new agrees (informs.2)
