-- Notifications that came, one behind the other.
use Rattle.std.proofs.Common.{◌≡◌, ◌==◌, ℕ, zero, suc, ◌+◌, ◌<◌, ◌≤◌, Bool, true, false, ◌||◌, if◌then◌else◌, List, [], ◌∷◌, ◌++◌, length, take, drop, Option, Ok, refl, sym, ap, subst, ◌∙◌, append_assoc, add-one, arith}
use Rattle.std.proofs.Math.Seq.{drop-length, take-length}
use Rattle.std.proofs.lemmas.List.{append-nil}
use Rattle.std.specs.Prelude.{remove}
use Rattle.std.specs.Str.{bytes_eq}
use Rattle.sc_entry.specs.Causes.{Told}
use Rattle.sc_entry.specs.Streams.{WritesAll}
use Rattle.sc_model.specs.declared.message.Response.TheVariants.{ArtifactNotification}
use Rattle.sc_client.specs.Conversations.{Conversation, Reads}
use Rattle.sc_client.specs.Notes.{bare, before_feed, is_among, kept_of, lines_of, note_lines, place_among, put, without, without_notes}
use Rattle.sc_client.specs.Talking.{HearsNotes}
use Rattle.sc_client.proofs.Fronts.{then_all}

-- one notification more came
hears_more : (old : Conversation) (notes : List (List ℕ)) (between : Conversation) (note : List ℕ) (new : Conversation) → HearsNotes old notes between → Reads between (Ok (ArtifactNotification note)) new
    → HearsNotes old (notes ++ note ∷ []) new
hears_more old [] between note new heard read = (new, subst (λ (c : Conversation). Reads c (Ok (ArtifactNotification note)) new) heard read, refl)
hears_more old (n ∷ notes) between note new heard read = (heard.0, heard.1, hears_more heard.0 notes between note new heard.2 read)

note_lines-more : (notes : List (List ℕ)) (note : List ℕ) → note_lines (notes ++ note ∷ []) ≡ note_lines notes ++ (note ++ 10 ∷ [])
note_lines-more [] note = append-nil (note ++ 10 ∷ [])
note_lines-more (n ∷ notes) note = ap (λ (bs : List ℕ). (n ++ 10 ∷ []) ++ bs) (note_lines-more notes note) ∙ sym (append_assoc (n ++ 10 ∷ []) (note_lines notes) (note ++ 10 ∷ []))

pub hears_then : (old : Conversation) (notes more : List (List ℕ)) (between : Conversation) (note : List ℕ) (new : Conversation) → HearsNotes old notes between → Reads between (Ok (ArtifactNotification note)) new
    → more ≡ notes ++ note ∷ [] → HearsNotes old more new
hears_then old notes more between note new heard read is = subst (λ (ns : List (List ℕ)). HearsNotes old ns new) (sym is) (hears_more old notes between note new heard read)

-- it was written behind those before
pub told_then : (notes more : List (List ℕ)) (note : List ℕ) (o p q : Option (List ℕ)) → Told (WritesAll (note_lines notes)) o p → Told (WritesAll (note ++ 10 ∷ [])) p q → more ≡ notes ++ note ∷ []
    → Told (WritesAll (note_lines more)) o q
told_then notes more note o p q all told is =
    subst (λ (bs : List ℕ). Told (WritesAll bs) o q) (sym (ap note_lines is ∙ note_lines-more notes note)) (then_all (note_lines notes) (note ++ 10 ∷ []) o p q all told)

kept-put : (b : ℕ) (ls : List (List ℕ)) → kept_of [] (put b ls) ≡ b ∷ kept_of [] ls
kept-put b [] = refl
kept-put b (l ∷ ls) = put_by (b == 10)
  where
    put_by : (t : Bool) → kept_of [] (if t then (b ∷ []) ∷ (l ∷ ls) else (b ∷ l) ∷ ls) ≡ b ∷ kept_of [] (l ∷ ls)
    put_by true = refl
    put_by false = refl

-- without notifications a text stays as it is
pub without_notes-nil : (text : List ℕ) → without_notes [] text ≡ text
without_notes-nil [] = refl
without_notes-nil (b ∷ bs) = kept-put b (lines_of bs) ∙ ap (λ (xs : List ℕ). b ∷ xs) (without_notes-nil bs)

-- ---- the first line

-- a line feed at the front of lines is a line of its own
put-feed : (b : ℕ) (ls : List (List ℕ)) → (b == 10) ≡ true → put b ls ≡ (b ∷ []) ∷ ls
put-feed b [] is = refl
put-feed b (l ∷ ls) is = ap (λ (t : Bool). if t then (b ∷ []) ∷ (l ∷ ls) else (b ∷ l) ∷ ls) is

-- another byte is put to the first line
put-other : (b : ℕ) (l : List ℕ) (ls : List (List ℕ)) → (b == 10) ≡ false → put b (l ∷ ls) ≡ (b ∷ l) ∷ ls
put-other b l ls is = ap (λ (t : Bool). if t then (b ∷ []) ∷ (l ∷ ls) else (b ∷ l) ∷ ls) is

-- a line that a line feed ends
abbrev FirstLine : List ℕ → List (List ℕ) → ℕ → Type 0
FirstLine bs ls n = ls ≡ take (suc n) bs ∷ lines_of (drop (suc n) bs)

first_by : (b : ℕ) (bs : List ℕ) (t : Bool) → (b == 10) ≡ t → ((n : ℕ) → before_feed bs ≡ n → n < length bs → FirstLine bs (lines_of bs) n)
    → (n : ℕ) → (if t then 0 else suc (before_feed bs)) ≡ n → n < suc (length bs) → FirstLine (b ∷ bs) (put b (lines_of bs)) n
first_by b bs true test rest zero is within = put-feed b (lines_of bs) test
first_by b bs true test rest (suc n) is within = absurd (cc)
first_by b bs false test rest zero is within = absurd (omega arith)
first_by b bs false test rest (suc n) is within =
    ap (put b) (rest n (omega arith) (omega arith)) ∙ put-other b (take (suc n) bs) (lines_of (drop (suc n) bs)) test

lines_first : (bs : List ℕ) (n : ℕ) → before_feed bs ≡ n → n < length bs → FirstLine bs (lines_of bs) n
lines_first [] n is within = absurd (omega arith)
lines_first (b ∷ bs) n is within = first_by b bs (b == 10) refl (lines_first bs) n is within

-- the only line, without a line feed
only_by : (b : ℕ) (bs : List ℕ) (t : Bool) → (b == 10) ≡ t → (0 < length bs → length bs ≤ before_feed bs → lines_of bs ≡ bs ∷ []) → 0 < length bs
    → suc (length bs) ≤ (if t then 0 else suc (before_feed bs)) → put b (lines_of bs) ≡ (b ∷ bs) ∷ []
only_by b bs true test rest some all = absurd (omega arith)
only_by b bs false test rest some all = ap (put b) (rest some (omega arith)) ∙ put-other b bs [] test

lines_only : (bs : List ℕ) → 0 < length bs → length bs ≤ before_feed bs → lines_of bs ≡ bs ∷ []
lines_only [] some all = absurd (omega arith)
lines_only (b ∷ []) some all = refl
lines_only (b ∷ c ∷ bs) some all = only_by b (c ∷ bs) (b == 10) refl (lines_only (c ∷ bs)) (omega arith) all

pub lines_split : (bs : List ℕ) (n : ℕ) → n ≡ before_feed bs → n < length bs → lines_of bs ≡ take (n + 1) bs ∷ lines_of (drop (n + 1) bs)
lines_split bs n is within = rw add-one (lines_first bs n (sym is) within)

pub lines_all : (bs : List ℕ) (n : ℕ) → n ≡ before_feed bs → 0 < length bs → length bs ≤ n → n ≤ length bs → lines_of bs ≡ take n bs ∷ lines_of (drop n bs)
lines_all bs n is some all within =
    let same : n ≡ length bs = omega arith in
    rw (same, take-length, drop-length) (lines_only bs some (omega arith))

bare_by : (b : ℕ) (bs : List ℕ) (t : Bool) → take (before_feed bs) bs ≡ bare bs → take (if t then 0 else suc (before_feed bs)) (b ∷ bs) ≡ (if t then [] else b ∷ bare bs)
bare_by b bs true rest = refl
bare_by b bs false rest = ap (λ (xs : List ℕ). b ∷ xs) rest

pub bare_take : (bs : List ℕ) → take (before_feed bs) bs ≡ bare bs
bare_take [] = refl
bare_take (b ∷ bs) = bare_by b bs (b == 10) (bare_take bs)

-- ---- the first notification that is a line

abbrev Stands : List ℕ → List (List ℕ) → Type 0
Stands line ns = (is_among line ns ≡ true) × (without line ns ≡ remove ns (place_among line ns))

among_by : (line n : List ℕ) (ns : List (List ℕ)) (t : Bool) → (place_among line ns < length ns → Stands line ns) → (if t then 0 else suc (place_among line ns)) < suc (length ns)
    → ((t || is_among line ns) ≡ true) × ((if t then ns else n ∷ without line ns) ≡ remove (n ∷ ns) (if t then 0 else suc (place_among line ns)))
among_by line n ns true rest within = (refl, refl)
among_by line n ns false rest within = let below = rest (omega arith) in (below.0, ap (λ (xs : List (List ℕ)). n ∷ xs) below.1)

among_place : (line : List ℕ) (ns : List (List ℕ)) → place_among line ns < length ns → Stands line ns
among_place line [] within = absurd (omega arith)
among_place line (n ∷ ns) within = among_by line n ns (bytes_eq n line) (among_place line ns) within

abbrev StandsNot : List ℕ → List (List ℕ) → Type 0
StandsNot line ns = (is_among line ns ≡ false) × (without line ns ≡ ns)

none_by : (line n : List ℕ) (ns : List (List ℕ)) (t : Bool) → (length ns ≤ place_among line ns → StandsNot line ns) → suc (length ns) ≤ (if t then 0 else suc (place_among line ns))
    → ((t || is_among line ns) ≡ false) × ((if t then ns else n ∷ without line ns) ≡ n ∷ ns)
none_by line n ns true rest all = absurd (omega arith)
none_by line n ns false rest all = let below = rest (omega arith) in (below.0, ap (λ (xs : List (List ℕ)). n ∷ xs) below.1)

among_none : (line : List ℕ) (ns : List (List ℕ)) → length ns ≤ place_among line ns → StandsNot line ns
among_none line [] all = (refl, refl)
among_none line (n ∷ ns) all = none_by line n ns (bytes_eq n line) (among_none line ns) all

-- ---- what a line does

-- the line is taken with its notification
pub line_taken : (n : ℕ) (line : List ℕ) (ns : List (List ℕ)) → n ≡ place_among line ns → n < length ns → (true ≡ is_among line ns) × (remove ns n ≡ without line ns)
line_taken n line ns is within =
    let rest = among_place line ns (omega arith) in
    (sym rest.0, ap (remove ns) is ∙ sym rest.1)

-- no notification is the line
pub line_stays : (n : ℕ) (line : List ℕ) (ns : List (List ℕ)) → n ≡ place_among line ns → length ns ≤ n → (false ≡ is_among line ns) × (ns ≡ without line ns)
line_stays n line ns is all =
    let rest = among_none line ns (omega arith) in
    (sym rest.0, sym rest.1)

-- a line that isn't there takes nothing
gone_by : (line n : List ℕ) (ns : List (List ℕ)) (t : Bool) → (is_among line ns ≡ false → without line ns ≡ ns) → (t || is_among line ns) ≡ false → (if t then ns else n ∷ without line ns) ≡ n ∷ ns
gone_by line n ns true rest is = absurd (cc)
gone_by line n ns false rest is = ap (λ (xs : List (List ℕ)). n ∷ xs) (rest is)

without_none : (line : List ℕ) (ns : List (List ℕ)) → is_among line ns ≡ false → without line ns ≡ ns
without_none line [] is = refl
without_none line (n ∷ ns) is = gone_by line n ns (bytes_eq n line) (without_none line ns) is

pub kept_stays : (kept more line : List ℕ) (notes left : List (List ℕ)) → more ≡ kept ++ line → is_among (bare line) notes ≡ false → left ≡ without (bare line) notes
    → (ls : List (List ℕ)) → more ++ kept_of left ls ≡ kept ++ kept_of notes (line ∷ ls)
kept_stays kept more line notes left grown is same ls =
    ap (λ (bs : List ℕ). bs ++ kept_of left ls) grown ∙ ap (λ (ns : List (List ℕ)). (kept ++ line) ++ kept_of ns ls) (same ∙ without_none (bare line) notes is)
    ∙ append_assoc kept line (kept_of notes ls) ∙ ap (λ (t : Bool). kept ++ (if t then kept_of (without (bare line) notes) ls else line ++ kept_of notes ls)) (sym is)
