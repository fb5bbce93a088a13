-- How a state moves by what its parts did.
use Rattle.std.proofs.Common.{◌≡◌, ℕ, ◌≤◌, Bool, IsTrue, List, [], Option, Some, None, refl, ap, sym, subst, ◌∙◌, option_map}
use Rattle.sc_compile.specs.Answers.{Runs, told_answer}
use Rattle.sc_compile.specs.Placings.{Places, told_refusal}
use Rattle.sc_entry.specs.Causes.{IfTold}
use Rattle.sc_entry.specs.Entries.{objects}
use Rattle.sc_entry.specs.declared.object.FileObjectSource.{FileObjectSource}
use Rattle.sc_model.specs.Dues.{kind_at}
use Rattle.sc_daemon_hold.specs.Holding.{OpensNone, ReservesBy}
use Rattle.sc_model.specs.Plan.{level_facts}
use Rattle.sc_model.specs.Asking.{Asks, Opens_by, Asks_calls, CallsOf}
use Rattle.sc_model.specs.Levels.{Level, and_one}
use Rattle.sc_model.specs.World.{Need, Place, RunCause, World, first_missing}
use Rattle.sc_model.specs.declared.event.Answer.{Answer}
use Rattle.sc_model.specs.declared.event.Answer.TheVariants.{Found as FoundAt, Hit, Miss, Refused, Size as SizeIs}
use Rattle.sc_model.specs.declared.event.Mode.{Mode}
use Rattle.sc_model.specs.declared.event.Mode.TheVariants.{Path, Pre, Raw, Size, Whole}
use Rattle.sc_model.specs.declared.event.RunAnswer.{RunAnswer}
use Rattle.sc_daemon_job.specs.Setups.{setup}
use Rattle.sc_daemon_owned.specs.Facts.{config_of}
use Rattle.sc_model.specs.declared.event.What.{What}
use Rattle.sc_model.specs.declared.event.What.TheVariants.{Asked, Began, Closed, Committed, Dist, Filled, Idle, Keyed, Outcome, Passed, Placed, Ran, Reserved, Sent, Taken, TokenTaken, TooLong, WriteEnded, Wrote}
use Rattle.sc_model.specs.declared.event.Written.{Written}
use Rattle.sc_model.specs.declared.level.Handed.{Handed}
use Rattle.sc_model.specs.declared.level.LevelKind.{LevelKind}
use Rattle.sc_model.specs.declared.level.LevelKind.TheVariants.{Disk, Remote}
use Rattle.sc_daemon_owned.specs.Moving.{MovesWorld, SameRooms, placing_of, size_in}
use Rattle.sc_daemon_owned.specs.State.{State, reserved_in}
use Rattle.sc_store.specs.Asking.{AsksAt, PutsAt, has_mode}
use Rattle.sc_stats.specs.declared.counters.LevelStats.{LevelStats}
use Rattle.sc_store.specs.Held.{Held, Room, level_in, room_in}

not_disk : Remote ≡ Disk → ⊥
not_disk e = absurd (cc)

any_mode : (kind : LevelKind) (mode : Mode) → (mode ≡ Path → kind ≡ Disk) → IsTrue (has_mode kind mode)
any_mode Disk mode h = refl
any_mode Remote Whole h = refl
any_mode Remote Raw h = refl
any_mode Remote Path h = absurd (not_disk (h refl))
any_mode Remote Pre h = refl
any_mode Remote Size h = refl

-- how a state moves to what is told and held
abbrev pub MovesTo : State → Need → What → Bool → World → Type 0
MovesTo o n x told w = (told ≡ o.told) × MovesWorld (setup (config_of o.config)) n (reserved_in o) o.told x o.world w

-- what the levels of a state hold
abbrev pub held_in : State → Held
held_in o = record { titles = []; facts = o.config.levels; policy = o.config.policy; told = o.told; levels = o.world.levels; rooms = o.rooms; marks = [] }

asked_of : (o : State) (after : Held) (l : ℕ) (key : List ℕ) (mode : Mode) (a : Answer) (hs : List Handed) (n : Need) → (mode ≡ Path → kind_at o.config.levels l ≡ Disk) → after.told ≡ o.told → AsksAt l key mode a (held_in o) after
    → MovesTo o n (Asked l key mode a hs) after.told (record o.world { levels = after.levels })
asked_of o after l key mode a hs n path same asks = (
  same,
  record { moment = refl; levels = λ told. asks told (any_mode (kind_at o.config.levels l) mode path); shop = (refl, refl, refl); dist = (refl, (refl, refl)) },
)

-- a level was asked
pub asked : (o now : State) (after : Held) (l : ℕ) (key : List ℕ) (mode : Mode) (a : Answer) (hs : List Handed) (n : Need) → o ≡ now → (mode ≡ Path → kind_at now.config.levels l ≡ Disk) → after.told ≡ o.told → AsksAt l key mode a (held_in o) after
    → MovesTo now n (Asked l key mode a hs) after.told (record o.world { levels = after.levels })
asked o now after l key mode a hs n is path same asks =
    subst (λ (s : State). MovesTo s n (Asked l key mode a hs) after.told (record o.world { levels = after.levels })) is (asked_of o after l key mode a hs n (subst (λ (s : State). mode ≡ Path → kind_at s.config.levels l ≡ Disk) (sym is) path) same asks)

size_no_path : (kind : LevelKind) → Size ≡ Path → kind ≡ Disk
size_no_path kind e = absurd (cc)

-- a level that was asked for its size may tell whatever was counted
opens_any : (kind : LevelKind) (z : Option ℕ) (c d : Option LevelStats) (v w : Level) → Opens_by kind Size (SizeIs z c) v w → Opens_by kind Size (SizeIs z d) v w
opens_any Disk z c d v w h = h
opens_any Remote z c d v w h = h

calls_any : (kind : LevelKind) (z : Option ℕ) (c d : Option LevelStats) (v w : Level) → CallsOf kind (Asks_calls kind Size [] (SizeIs z c) v w) v w → CallsOf kind (Asks_calls kind Size [] (SizeIs z d) v w) v w
calls_any Disk z c d v w h = h
calls_any Remote z c d v w h = h

sizes_of : (o : State) (v : Level) (l : ℕ) (a : Answer) (d : Option LevelStats) → Asks objects (level_facts o.config.levels l) (reserved_in o l) [] Size a (level_in o.world.levels l) v
    → Asks objects (level_facts o.config.levels l) (reserved_in o l) [] Size (SizeIs (size_in a) d) (level_in o.world.levels l) v
sizes_of o v l (SizeIs z c) d e = record { later = e.later; keeps = e.keeps; answers = e.answers; opens = opens_any (kind_at o.config.levels l) z c d (level_in o.world.levels l) v e.opens; marks = e.marks; tells_mark = tt; calls = calls_any (kind_at o.config.levels l) z c d (level_in o.world.levels l) v e.calls; written = e.written }
sizes_of o v l (Hit b m) d e = absurd e.answers
sizes_of o v l Miss d e = absurd e.answers
sizes_of o v l (Refused c) d e = absurd e.answers
sizes_of o v l (FoundAt p) d e = absurd e.answers

sized_of : (o : State) (after : Held) (l : ℕ) (a : Answer) (d : Option LevelStats) (n : Need) → after.told ≡ o.told → AsksAt l [] Size a (held_in o) after
    → MovesTo o n (Asked l [] Size (SizeIs (size_in a) d) []) after.told (record o.world { levels = after.levels })
sized_of o after l a d n same asks = (
  same,
  record {
    moment = refl;
    levels = λ told. let h = asks told (any_mode (kind_at o.config.levels l) Size (size_no_path (kind_at o.config.levels l))) in (h.0, sizes_of o h.0 l a d h.1, h.2);
    shop = (refl, refl, refl);
    dist = (refl, (refl, refl));
  },
)

-- a level was asked for its size
pub sized : (o now : State) (after : Held) (l : ℕ) (key : List ℕ) (a : Answer) (d : Option LevelStats) (n : Need) → o ≡ now → key ≡ [] → after.told ≡ o.told → AsksAt l key Size a (held_in o) after
    → MovesTo now n (Asked l [] Size (SizeIs (size_in a) d) []) after.told (record o.world { levels = after.levels })
sized o now after l key a d n is none same asks =
    subst (λ (s : State). MovesTo s n (Asked l [] Size (SizeIs (size_in a) d) []) after.told (record o.world { levels = after.levels })) is
    (sized_of o after l a d n same (subst (λ (k : List ℕ). AsksAt l k Size a (held_in o) after) none asks))

wrote_of : (o : State) (after : Held) (l : ℕ) (key bytes : List ℕ) (run : Bool) (how : Written) (n : Need) → after.told ≡ o.told → PutsAt l key bytes run how (held_in o) after
    → MovesTo o n (Wrote l key bytes Whole run how) after.told (record o.world { levels = after.levels })
wrote_of o after l key bytes run how n same puts = (
  same,
  record { moment = refl; levels = λ told. let h = puts told (reserved_in o l) in (h.0, (h.1, h.2), h.3); shop = (refl, refl, refl); dist = (refl, (refl, refl)) },
)

-- an entry was put at a level
pub wrote : (o now : State) (after : Held) (l : ℕ) (key bytes : List ℕ) (run : Bool) (how : Written) (n : Need) → o ≡ now → after.told ≡ o.told → PutsAt l key bytes run how (held_in o) after
    → MovesTo now n (Wrote l key bytes Whole run how) after.told (record o.world { levels = after.levels })
wrote o now after l key bytes run how n is same puts =
    subst (λ (s : State). MovesTo s n (Wrote l key bytes Whole run how) after.told (record o.world { levels = after.levels })) is (wrote_of o after l key bytes run how n same puts)

-- what the workshop has after a call
abbrev pub with_shop : World → Option Runs → Option (List Place) → ℕ → World
with_shop w runs placings faults = record w { runs = runs; placings = placings; shop_faults = faults }

ran_of : (o : State) (n : Need) (a : RunAnswer) (runs : Option Runs) (placings : Option (List Place)) (g : ℕ) → runs ≡ and_one o.world.runs (n.key, a) → placings ≡ o.world.placings → o.world.shop_faults ≤ g → RunCause a o.world.shop_faults g
    → IfTold (told_answer o.config.lines n.key o.world.runs n.wanted) (λ b. a ≡ b) → MovesTo o n (Ran a) o.told (with_shop o.world runs placings g)
ran_of o n a runs placings g ran placed later cause answer = (
  refl,
  record { moment = refl; levels = λ told. refl; shop = (later, cause, answer, ran, placed); dist = (refl, (refl, refl)) },
)

-- a compile was run
pub ran : (o now : State) (n : Need) (key : List ℕ) (wanted : List FileObjectSource) (a : RunAnswer) (runs : Option Runs) (placings : Option (List Place)) (g : ℕ) → o ≡ now → n.key ≡ key → n.wanted ≡ wanted → runs ≡ and_one o.world.runs (key, a)
    → placings ≡ o.world.placings → o.world.shop_faults ≤ g → RunCause a o.world.shop_faults g → IfTold (told_answer o.config.lines key o.world.runs wanted) (λ b. a ≡ b)
    → MovesTo now n (Ran a) o.told (with_shop o.world runs placings g)
ran o now n key wanted a runs placings g is keyed wants added placed later cause answer =
    let k : runs ≡ and_one o.world.runs (n.key, a) = rw keyed added in
    let b : IfTold (told_answer o.config.lines n.key o.world.runs n.wanted) (λ b. a ≡ b) = rw (keyed, wants) answer in
    subst (λ (s : State). MovesTo s n (Ran a) o.told (with_shop o.world runs placings g)) is (ran_of o n a runs placings g k placed later cause b)

placed_of : (o : State) (n : Need) (failed : Option (List (List ℕ))) (runs : Option Runs) (placings : Option (List Place)) (g : ℕ) → first_missing (objects n.hit) n.outputs ≡ None → runs ≡ o.world.runs → o.world.shop_faults ≤ g
    → Places (record { outputs = n.outputs; bytes = n.hit }) o.world.placings placings o.world.shop_faults g failed → IfTold (told_refusal o.config.refusals n.key) (λ refusal. failed ≡ refusal)
    → MovesTo o n (Placed (placing_of failed)) o.told (with_shop o.world runs placings g)
placed_of o n None runs placings g none same later places answer = (refl, record { moment = refl; levels = λ told. refl; shop = (none, answer, same, places.0, places.1); dist = (refl, (refl, refl)) })
placed_of o n (Some chain) runs placings g none same later places answer = (refl, record { moment = refl; levels = λ told. refl; shop = (none, answer, same, places.0, places.1, later); dist = (refl, (refl, refl)) })

-- a hit's outputs were placed, or a fault is told
pub placed : (o now : State) (n : Need) (key : List ℕ) (outputs : List FileObjectSource) (hit : List ℕ) (failed : Option (List (List ℕ))) (runs : Option Runs) (placings : Option (List Place)) (g : ℕ)
    → o ≡ now → n.key ≡ key → n.outputs ≡ outputs → n.hit ≡ hit → first_missing (objects hit) outputs ≡ None
    → runs ≡ o.world.runs → o.world.shop_faults ≤ g → Places (record { outputs = outputs; bytes = hit }) o.world.placings placings o.world.shop_faults g failed
    → IfTold (told_refusal o.config.refusals key) (λ refusal. failed ≡ refusal) → MovesTo now n (Placed (placing_of failed)) o.told (with_shop o.world runs placings g)
placed o now n key outputs hit failed runs placings g is keyed wants hits none same later places answer =
    let m : first_missing (objects n.hit) n.outputs ≡ None = rw (hits, wants) none in
    let p : Places (record { outputs = n.outputs; bytes = n.hit }) o.world.placings placings o.world.shop_faults g failed = rw (hits, wants) places in
    let b : IfTold (told_refusal o.config.refusals n.key) (λ refusal. failed ≡ refusal) = rw keyed answer in
    subst (λ (s : State). MovesTo s n (Placed (placing_of failed)) o.told (with_shop o.world runs placings g)) is (placed_of o n failed runs placings g m same later p b)

-- nothing was found, so none is there
pub none_found : {A B : Type 0} (found : Option A) (f : A → B) (there : Option B) → ((x : A) → found ≡ Some x → ⊥) → option_map f found ≡ there → there ≡ None
none_found None f there not_some is = sym is
none_found (Some x) f there not_some is = absurd (not_some x refl)

-- what is open stays by an event that opens and closes nothing
same_reserves : (x : What) (r : ℕ → ℕ) → OpensNone x → ReservesBy x r r
same_reserves Idle r none = λ l. refl
same_reserves (Passed a) r none = λ l. refl
same_reserves (Taken a b) r none = λ l. refl
same_reserves (Closed a) r none = λ l. refl
same_reserves (Began a b) r none = λ l. refl
same_reserves (Keyed a b c) r none = λ l. refl
same_reserves (Asked a b c d e) r none = λ l. refl
same_reserves (Placed a) r none = λ l. refl
same_reserves TokenTaken r none = λ l. refl
same_reserves (Ran a) r none = λ l. refl
same_reserves (Dist a) r none = λ l. refl
same_reserves (Outcome a b) r none = λ l. refl
same_reserves (Reserved a b c d) r none = absurd none
same_reserves (Filled a b c d e) r none = absurd none
same_reserves (Committed a b c d) r none = absurd none
same_reserves (Wrote a b c d e f) r none = λ l. refl
same_reserves (WriteEnded a b) r none = λ l. refl
same_reserves (Sent a) r none = λ l. refl
same_reserves (TooLong a) r none = λ l. refl

pub still : (o now : State) (x : What) (rooms : List Room) → o ≡ now → OpensNone x → rooms ≡ o.rooms → (OpensNone x → SameRooms now.rooms rooms) × ReservesBy x (reserved_in now) (λ l. (room_in rooms l).reserved)
still o now x rooms is none same =
    let there : rooms ≡ now.rooms = same ∙ ap (λ (s : State). s.rooms) is in
    (λ _. subst (λ (rs : List Room). SameRooms now.rooms rs) (sym there) (λ l. (refl, λ number. refl)), subst (λ (rs : List Room). ReservesBy x (reserved_in now) (λ l. (room_in rs l).reserved)) (sym there) (same_reserves x (reserved_in now) none))
