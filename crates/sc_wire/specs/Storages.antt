-- What is told of a store, and what its calls answer.
use Rattle.std.specs.Prelude.{◌≡◌, ℕ, ◌⊎◌, List, refl}
use Rattle.std.proofs.Common.{inl, inr, lit<}
use Rattle.sc_wire.specs.Codec.{Codec, nothing, ◌&◌, same_as}
use Rattle.sc_wire.specs.Numbers.{u64, flag}
use Rattle.sc_wire.specs.Lists.{optional, list, byte_text, text}
use Rattle.sc_wire.specs.Variants.{variants, either, last}
use Rattle.sc_entry.specs.declared.cache_mode.CacheMode.{CacheMode}
use Rattle.sc_entry.specs.declared.cache_mode.CacheMode.TheVariants.{ReadOnly, ReadWrite}
use Rattle.sc_model.specs.declared.message.StorageHandshakeInfo.{StorageHandshakeInfo}
use Rattle.sc_entry.specs.declared.get_path_result.GetPathResult.{GetPathResult}
use Rattle.sc_entry.specs.declared.get_path_result.GetPathResult.TheVariants.{Found, Miss, Unsupported}

-- the fields of each variant, in the variants' order
abbrev pub CacheModeForm : Type 0
CacheModeForm = (Unit {0} ⊎ Unit {0})

abbrev pub cache_mode_to : CacheModeForm → CacheMode
cache_mode_to (inl _) = ReadOnly
cache_mode_to (inr _) = ReadWrite

abbrev pub cache_mode_of : CacheMode → CacheModeForm
cache_mode_of ReadOnly = (inl tt)
cache_mode_of ReadWrite = (inr tt)

pub cache_mode_back : (x : CacheModeForm) → cache_mode_of (cache_mode_to x) ≡ x
cache_mode_back (inl _) = refl
cache_mode_back (inr _) = refl

pub cache_mode_forth : (y : CacheMode) → cache_mode_to (cache_mode_of y) ≡ y
cache_mode_forth ReadOnly = refl
cache_mode_forth ReadWrite = refl

abbrev pub cache_mode : Codec CacheMode
cache_mode =
    same_as cache_mode_to cache_mode_of cache_mode_back cache_mode_forth (variants
    (either 0 nothing
    (last 1 nothing (lit< tt)) (lit< tt) (lit< tt)))

abbrev pub handshake_info : Codec StorageHandshakeInfo
handshake_info =
    same_as (λ p. record { location = p.0.0; cache_type_name = p.0.1.0; basedirs = p.0.1.1; use_preprocessor_cache_mode = p.1.0; cache_mode = p.1.1.0; max_size = p.1.1.1 })
    (λ c. ((c.location, (c.cache_type_name, c.basedirs)), (c.use_preprocessor_cache_mode, (c.cache_mode, c.max_size)))) (λ _. refl) (λ _. refl)
    ((text & (text & list byte_text)) & (flag & (cache_mode & optional u64)))

-- the fields of each variant, in the variants' order
abbrev pub GetPathResultForm : Type 0
GetPathResultForm = (List ℕ ⊎ (Unit {0} ⊎ Unit {0}))

abbrev pub get_path_result_to : GetPathResultForm → GetPathResult
get_path_result_to (inl path) = (Found path)
get_path_result_to (inr (inl _)) = Miss
get_path_result_to (inr (inr _)) = Unsupported

abbrev pub get_path_result_of : GetPathResult → GetPathResultForm
get_path_result_of (Found path) = (inl path)
get_path_result_of Miss = (inr (inl tt))
get_path_result_of Unsupported = (inr (inr tt))

pub get_path_result_back : (x : GetPathResultForm) → get_path_result_of (get_path_result_to x) ≡ x
get_path_result_back (inl path) = refl
get_path_result_back (inr (inl _)) = refl
get_path_result_back (inr (inr _)) = refl

pub get_path_result_forth : (y : GetPathResult) → get_path_result_to (get_path_result_of y) ≡ y
get_path_result_forth (Found path) = refl
get_path_result_forth Miss = refl
get_path_result_forth Unsupported = refl

abbrev pub get_path_result : Codec GetPathResult
get_path_result =
    same_as get_path_result_to get_path_result_of get_path_result_back get_path_result_forth (variants
    (either 0 byte_text
    (either 1 nothing
    (last 2 nothing (lit< tt)) (lit< tt) (lit< tt)) (lit< tt) (lit< tt)))
