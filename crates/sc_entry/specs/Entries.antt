-- An entry: how a list of named objects is spelled as bytes, and which objects some bytes spell.
use Rattle.std.specs.Prelude.{ℕ, zero, suc, ◌<◌, ◌^◌, Bool, true, false, cond, not, ◌==◌, ◌&&◌, ◌||◌, List, [], ◌∷◌, ◌++◌, length, take, drop, codes, Option, Some, None, IsTrue, nat_lt}
use Rattle.std.specs.Str.{bytes_eq, is_utf8}
use Rattle.std.specs.Int.{Width, w16, w32, w64, byte_len, from_le_bytes, to_le_bytes}
use Rattle.sc_entry.specs.declared.object.Object.{Object}

-- ---- what an entry may hold

-- the name of an object: 1 to 65,535 bytes of UTF-8
abbrev pub is_object_name : List ℕ → Bool
is_object_name name = nat_lt 0 (length name) && (nat_lt (length name) 65536 && is_utf8 name)

-- a mode is a number of 32 bits
abbrev pub FitsMode : Option ℕ → Type 0
FitsMode None = Unit {0}
FitsMode (Some mode) = mode < 2 ^ 32

abbrev pub IsObject : Object → Type 0
IsObject o = IsTrue (is_object_name o.name) × FitsMode o.mode × (length o.bytes < 2 ^ 64)

abbrev pub AreObjects : List Object → Type 0
AreObjects [] = Unit {0}
AreObjects (o ∷ os) = IsObject o × AreObjects os

-- the object of a name
abbrev pub find_object : List ℕ → List Object → Option Object
find_object name [] = None
find_object name (o ∷ os) = cond (bytes_eq name o.name) (Some o) (find_object name os)

abbrev pub has_name : List ℕ → List Object → Bool
has_name name [] = false
has_name name (o ∷ os) = bytes_eq name o.name || has_name name os

-- no object of the second list has a name that stands before it, in the first list or in its own
abbrev pub are_new : List Object → List Object → Bool
are_new before [] = true
are_new before (o ∷ os) = not (has_name o.name before) && are_new (before ++ (o ∷ [])) os

-- What an entry spells: at most 65,535 objects with distinct names.
abbrev pub IsEntryList : List Object → Type 0
IsEntryList os = AreObjects os × (length os < 2 ^ 16) × IsTrue (are_new [] os)

-- ---- the one spelling of a list

-- a number in as many bytes as its width has, the lowest first
unfoldable pub spell_number : Width → ℕ → List ℕ
spell_number w n = to_le_bytes w n

-- 0, or 1 and the mode
abbrev pub spell_mode : Option ℕ → List ℕ
spell_mode None = 0 ∷ []
spell_mode (Some mode) = 1 ∷ spell_number w32 mode

-- the name with its length, the mode, the data with its length
abbrev pub spell_object : Object → List ℕ
spell_object o = spell_number w16 (length o.name) ++ (o.name ++ (spell_mode o.mode ++ (spell_number w64 (length o.bytes) ++ o.bytes)))

abbrev pub spell_objects : List Object → List ℕ
spell_objects [] = []
spell_objects (o ∷ os) = spell_object o ++ spell_objects os

-- four letters, the number of objects, and the objects
abbrev pub entry : List Object → List ℕ
entry os = codes "SCE1" ++ (spell_number w16 (length os) ++ spell_objects os)

-- ---- reading it

-- what follows, where something was read
infixl 10 ◌>>=◌
abbrev pub ◌>>=◌ : {A B : Type 0} → Option A → (A → Option B) → Option B
(Some a) >>= f = f a
None >>= f = None

-- the number that the bytes at the front stand for
abbrev pub number_at : Width → List ℕ → ℕ
number_at w bytes = from_le_bytes w (take (byte_len w) bytes)

-- the bytes at the front are those of their number, which is below a limit
abbrev pub has_number : Width → ℕ → List ℕ → Bool
has_number w limit bytes = bytes_eq (spell_number w (number_at w bytes)) (take (byte_len w) bytes) && nat_lt (number_at w bytes) limit

-- a number and the bytes after it
unfoldable pub read_number : Width → ℕ → List ℕ → Option (ℕ × List ℕ)
read_number w limit bytes = cond (has_number w limit bytes) (Some (number_at w bytes, drop (byte_len w) bytes)) None

-- so many bytes and those after them
unfoldable pub read_front : ℕ → List ℕ → Option (List ℕ × List ℕ)
read_front n bytes = cond (nat_lt (length bytes) n) None (Some (take n bytes, drop n bytes))

unfoldable pub read_name : List ℕ → Option (List ℕ × List ℕ)
read_name bytes = read_number w16 (2 ^ 16) bytes >>= λ n. (read_front n.0 n.1 >>= λ name. cond (is_object_name name.0) (Some name) None)

unfoldable pub read_mode : List ℕ → Option (Option ℕ × List ℕ)
read_mode [] = None
read_mode (b ∷ bytes) = cond (b == 0) (Some (None, bytes)) (cond (b == 1) (read_number w32 (2 ^ 32) bytes >>= λ n. Some (Some n.0, n.1)) None)

unfoldable pub read_data : List ℕ → Option (List ℕ × List ℕ)
read_data bytes = read_number w64 (2 ^ 64) bytes >>= λ n. read_front n.0 n.1

unfoldable pub read_object : List ℕ → Option (Object × List ℕ)
read_object bytes =
    read_name bytes >>= λ name. (read_mode name.1 >>= λ mode. (read_data mode.1 >>= λ data'. Some (record { name = name.0; mode = mode.0; bytes = data'.0 }, data'.1)))

-- so many objects with new names, to the end of the bytes, after those before
unfoldable pub read_objects : ℕ → List Object → List ℕ → Option (List Object)
read_objects zero before [] = Some before
read_objects zero before (b ∷ bytes) = None
read_objects (suc n) before bytes = read_object bytes >>= λ o. cond (has_name o.0.name before) None (read_objects n (before ++ (o.0 ∷ [])) o.1)

-- The list whose spelling the bytes are, where there is one.
unfoldable pub objects : List ℕ → Option (List Object)
objects bytes = cond (bytes_eq (take 4 bytes) (codes "SCE1")) (read_number w16 (2 ^ 16) (drop 4 bytes) >>= λ n. read_objects n.0 [] n.1) None

-- the list that the bytes of an entry spell
abbrev pub listed : Option (List Object) → List Object
listed None = []
listed (Some os) = os
