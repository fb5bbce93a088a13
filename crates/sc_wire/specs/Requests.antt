-- Requests: the number of the variant, then its fields.
use Rattle.std.specs.Prelude.{◌≡◌, ℕ, ◌⊎◌, List, Option, refl}
use Rattle.std.proofs.Common.{inl, inr, lit<}
use Rattle.sc_wire.specs.Codec.{Codec, nothing, ◌&◌, same_as, read_all}
use Rattle.sc_wire.specs.Lists.{byte_text, text}
use Rattle.sc_wire.specs.Variants.{variants, either, last}
use Rattle.sc_wire.specs.Compiles.{compile}
use Rattle.sc_wire.specs.Stats.{server_stats}
use Rattle.sc_stats.specs.declared.counters.ServerStats.{ServerStats}
use Rattle.sc_model.specs.declared.message.Compile.{Compile}
use Rattle.sc_model.specs.declared.message.Request.{Request}
use Rattle.sc_model.specs.declared.message.Request.TheVariants.{ZeroStats, GetStats, DistStatus, Shutdown, Compile as CompileRequest, StorageHandshake, StorageGetPath, StorageGetRaw, StoragePutRaw, StorageGetPreprocessorEntry, StoragePutPreprocessorEntry, RecordStats}

-- the fields of each variant, in the variants' order
abbrev pub RequestForm : Type 0
RequestForm = (Unit {0} ⊎ (Unit {0} ⊎ (Unit {0} ⊎ (Unit {0} ⊎ (Compile ⊎ (Unit {0} ⊎ (List ℕ ⊎ (List ℕ ⊎ ((List ℕ × List ℕ) ⊎ (List ℕ ⊎ ((List ℕ × List ℕ) ⊎ ServerStats)))))))))))

abbrev pub request_to : RequestForm → Request
request_to (inl _) = ZeroStats
request_to (inr (inl _)) = GetStats
request_to (inr (inr (inl _))) = DistStatus
request_to (inr (inr (inr (inl _)))) = Shutdown
request_to (inr (inr (inr (inr (inl compiled))))) = (CompileRequest compiled)
request_to (inr (inr (inr (inr (inr (inl _)))))) = StorageHandshake
request_to (inr (inr (inr (inr (inr (inr (inl key))))))) = (StorageGetPath key)
request_to (inr (inr (inr (inr (inr (inr (inr (inl key)))))))) = (StorageGetRaw key)
request_to (inr (inr (inr (inr (inr (inr (inr (inr (inl (key, bytes)))))))))) = (StoragePutRaw key bytes)
request_to (inr (inr (inr (inr (inr (inr (inr (inr (inr (inl key)))))))))) = (StorageGetPreprocessorEntry key)
request_to (inr (inr (inr (inr (inr (inr (inr (inr (inr (inr (inl (key, bytes)))))))))))) = (StoragePutPreprocessorEntry key bytes)
request_to (inr (inr (inr (inr (inr (inr (inr (inr (inr (inr (inr delta))))))))))) = (RecordStats delta)

abbrev pub request_of : Request → RequestForm
request_of ZeroStats = (inl tt)
request_of GetStats = (inr (inl tt))
request_of DistStatus = (inr (inr (inl tt)))
request_of Shutdown = (inr (inr (inr (inl tt))))
request_of (CompileRequest compiled) = (inr (inr (inr (inr (inl compiled)))))
request_of StorageHandshake = (inr (inr (inr (inr (inr (inl tt))))))
request_of (StorageGetPath key) = (inr (inr (inr (inr (inr (inr (inl key)))))))
request_of (StorageGetRaw key) = (inr (inr (inr (inr (inr (inr (inr (inl key))))))))
request_of (StoragePutRaw key bytes) = (inr (inr (inr (inr (inr (inr (inr (inr (inl (key, bytes))))))))))
request_of (StorageGetPreprocessorEntry key) = (inr (inr (inr (inr (inr (inr (inr (inr (inr (inl key))))))))))
request_of (StoragePutPreprocessorEntry key bytes) = (inr (inr (inr (inr (inr (inr (inr (inr (inr (inr (inl (key, bytes))))))))))))
request_of (RecordStats delta) = (inr (inr (inr (inr (inr (inr (inr (inr (inr (inr (inr delta)))))))))))

pub request_back : (x : RequestForm) → request_of (request_to x) ≡ x
request_back (inl _) = refl
request_back (inr (inl _)) = refl
request_back (inr (inr (inl _))) = refl
request_back (inr (inr (inr (inl _)))) = refl
request_back (inr (inr (inr (inr (inl compiled))))) = refl
request_back (inr (inr (inr (inr (inr (inl _)))))) = refl
request_back (inr (inr (inr (inr (inr (inr (inl key))))))) = refl
request_back (inr (inr (inr (inr (inr (inr (inr (inl key)))))))) = refl
request_back (inr (inr (inr (inr (inr (inr (inr (inr (inl (key, bytes)))))))))) = refl
request_back (inr (inr (inr (inr (inr (inr (inr (inr (inr (inl key)))))))))) = refl
request_back (inr (inr (inr (inr (inr (inr (inr (inr (inr (inr (inl (key, bytes)))))))))))) = refl
request_back (inr (inr (inr (inr (inr (inr (inr (inr (inr (inr (inr delta))))))))))) = refl

pub request_forth : (y : Request) → request_to (request_of y) ≡ y
request_forth ZeroStats = refl
request_forth GetStats = refl
request_forth DistStatus = refl
request_forth Shutdown = refl
request_forth (CompileRequest compiled) = refl
request_forth StorageHandshake = refl
request_forth (StorageGetPath key) = refl
request_forth (StorageGetRaw key) = refl
request_forth (StoragePutRaw key bytes) = refl
request_forth (StorageGetPreprocessorEntry key) = refl
request_forth (StoragePutPreprocessorEntry key bytes) = refl
request_forth (RecordStats delta) = refl

abbrev pub request : Codec Request
request =
    same_as request_to request_of request_back request_forth (variants
    (either 0 nothing
    (either 1 nothing
    (either 2 nothing
    (either 3 nothing
    (either 4 compile
    (either 5 nothing
    (either 6 text
    (either 7 text
    (either 8 (text & byte_text)
    (either 9 text
    (either 10 (text & byte_text)
    (last 11 server_stats (lit< tt)) (lit< tt) (lit< tt)) (lit< tt) (lit< tt)) (lit< tt) (lit< tt)) (lit< tt) (lit< tt)) (lit< tt) (lit< tt)) (lit< tt) (lit< tt)) (lit< tt) (lit< tt)) (lit< tt) (lit< tt)) (lit< tt) (lit< tt)) (lit< tt) (lit< tt)) (lit< tt) (lit< tt)))

-- the bytes that spell a request
unfoldable pub spell_request : Request → List ℕ
spell_request message = request.spell message

-- the request that all of the bytes spell
unfoldable pub read_request : List ℕ → Option Request
read_request bytes = read_all request bytes
