-- Responses: the number of the variant, then its fields.
use Rattle.std.specs.Prelude.{◌≡◌, ℕ, ◌⊎◌, List, Option, Result, refl}
use Rattle.std.proofs.Common.{inl, inr, lit<}
use Rattle.sc_wire.specs.Codec.{Codec, nothing, same_as, read_all}
use Rattle.sc_wire.specs.Lists.{optional, byte_text, text}
use Rattle.sc_wire.specs.Variants.{result, variants, either, last}
use Rattle.sc_wire.specs.Compiles.{compile_response, compile_finished}
use Rattle.sc_wire.specs.Storages.{handshake_info, get_path_result}
use Rattle.sc_wire.specs.Stats.{server_info, dist_info}
use Rattle.sc_stats.specs.declared.counters.ServerInfo.{ServerInfo}
use Rattle.sc_stats.specs.declared.counters.DistInfo.{DistInfo}
use Rattle.sc_model.specs.declared.message.CompileResponse.{CompileResponse}
use Rattle.sc_model.specs.declared.message.CompileFinished.{CompileFinished}
use Rattle.sc_model.specs.declared.message.StorageHandshakeInfo.{StorageHandshakeInfo}
use Rattle.sc_entry.specs.declared.get_path_result.GetPathResult.{GetPathResult}
use Rattle.sc_model.specs.declared.message.Response.{Response}
use Rattle.sc_model.specs.declared.message.Response.TheVariants.{Compile as Compiles, ZeroStats, Stats, DistStatus, ShuttingDown, CompileFinished as Finished, StorageHandshake, StorageGetPath, StorageGetRaw, StoragePutRaw, StorageGetPreprocessorEntry, StoragePutPreprocessorEntry, RecordStats, ArtifactNotification}

-- the fields of each variant, in the variants' order
abbrev pub ResponseForm : Type 0
ResponseForm = (CompileResponse ⊎ (Unit {0} ⊎ (ServerInfo ⊎ (DistInfo ⊎ (ServerInfo ⊎ (CompileFinished ⊎ (StorageHandshakeInfo ⊎ (GetPathResult ⊎ (Option (List ℕ) ⊎ (Result (Unit {0}) (List ℕ) ⊎ (Result (Option (List ℕ)) (List ℕ) ⊎ (Result (Unit {0}) (List ℕ) ⊎ (Unit {0} ⊎ List ℕ)))))))))))))

abbrev pub response_to : ResponseForm → Response
response_to (inl answer) = (Compiles answer)
response_to (inr (inl _)) = ZeroStats
response_to (inr (inr (inl info))) = (Stats info)
response_to (inr (inr (inr (inl info)))) = (DistStatus info)
response_to (inr (inr (inr (inr (inl info))))) = (ShuttingDown info)
response_to (inr (inr (inr (inr (inr (inl done)))))) = (Finished done)
response_to (inr (inr (inr (inr (inr (inr (inl info))))))) = (StorageHandshake info)
response_to (inr (inr (inr (inr (inr (inr (inr (inl path)))))))) = (StorageGetPath path)
response_to (inr (inr (inr (inr (inr (inr (inr (inr (inl bytes))))))))) = (StorageGetRaw bytes)
response_to (inr (inr (inr (inr (inr (inr (inr (inr (inr (inl done)))))))))) = (StoragePutRaw done)
response_to (inr (inr (inr (inr (inr (inr (inr (inr (inr (inr (inl entry))))))))))) = (StorageGetPreprocessorEntry entry)
response_to (inr (inr (inr (inr (inr (inr (inr (inr (inr (inr (inr (inl done)))))))))))) = (StoragePutPreprocessorEntry done)
response_to (inr (inr (inr (inr (inr (inr (inr (inr (inr (inr (inr (inr (inl _))))))))))))) = RecordStats
response_to (inr (inr (inr (inr (inr (inr (inr (inr (inr (inr (inr (inr (inr line))))))))))))) = (ArtifactNotification line)

abbrev pub response_of : Response → ResponseForm
response_of (Compiles answer) = (inl answer)
response_of ZeroStats = (inr (inl tt))
response_of (Stats info) = (inr (inr (inl info)))
response_of (DistStatus info) = (inr (inr (inr (inl info))))
response_of (ShuttingDown info) = (inr (inr (inr (inr (inl info)))))
response_of (Finished done) = (inr (inr (inr (inr (inr (inl done))))))
response_of (StorageHandshake info) = (inr (inr (inr (inr (inr (inr (inl info)))))))
response_of (StorageGetPath path) = (inr (inr (inr (inr (inr (inr (inr (inl path))))))))
response_of (StorageGetRaw bytes) = (inr (inr (inr (inr (inr (inr (inr (inr (inl bytes)))))))))
response_of (StoragePutRaw done) = (inr (inr (inr (inr (inr (inr (inr (inr (inr (inl done))))))))))
response_of (StorageGetPreprocessorEntry entry) = (inr (inr (inr (inr (inr (inr (inr (inr (inr (inr (inl entry)))))))))))
response_of (StoragePutPreprocessorEntry done) = (inr (inr (inr (inr (inr (inr (inr (inr (inr (inr (inr (inl done))))))))))))
response_of RecordStats = (inr (inr (inr (inr (inr (inr (inr (inr (inr (inr (inr (inr (inl tt)))))))))))))
response_of (ArtifactNotification line) = (inr (inr (inr (inr (inr (inr (inr (inr (inr (inr (inr (inr (inr line)))))))))))))

pub response_back : (x : ResponseForm) → response_of (response_to x) ≡ x
response_back (inl answer) = refl
response_back (inr (inl _)) = refl
response_back (inr (inr (inl info))) = refl
response_back (inr (inr (inr (inl info)))) = refl
response_back (inr (inr (inr (inr (inl info))))) = refl
response_back (inr (inr (inr (inr (inr (inl done)))))) = refl
response_back (inr (inr (inr (inr (inr (inr (inl info))))))) = refl
response_back (inr (inr (inr (inr (inr (inr (inr (inl path)))))))) = refl
response_back (inr (inr (inr (inr (inr (inr (inr (inr (inl bytes))))))))) = refl
response_back (inr (inr (inr (inr (inr (inr (inr (inr (inr (inl done)))))))))) = refl
response_back (inr (inr (inr (inr (inr (inr (inr (inr (inr (inr (inl entry))))))))))) = refl
response_back (inr (inr (inr (inr (inr (inr (inr (inr (inr (inr (inr (inl done)))))))))))) = refl
response_back (inr (inr (inr (inr (inr (inr (inr (inr (inr (inr (inr (inr (inl _))))))))))))) = refl
response_back (inr (inr (inr (inr (inr (inr (inr (inr (inr (inr (inr (inr (inr line))))))))))))) = refl

pub response_forth : (y : Response) → response_to (response_of y) ≡ y
response_forth (Compiles answer) = refl
response_forth ZeroStats = refl
response_forth (Stats info) = refl
response_forth (DistStatus info) = refl
response_forth (ShuttingDown info) = refl
response_forth (Finished done) = refl
response_forth (StorageHandshake info) = refl
response_forth (StorageGetPath path) = refl
response_forth (StorageGetRaw bytes) = refl
response_forth (StoragePutRaw done) = refl
response_forth (StorageGetPreprocessorEntry entry) = refl
response_forth (StoragePutPreprocessorEntry done) = refl
response_forth RecordStats = refl
response_forth (ArtifactNotification line) = refl

abbrev pub response : Codec Response
response =
    same_as response_to response_of response_back response_forth (variants
    (either 0 compile_response
    (either 1 nothing
    (either 2 server_info
    (either 3 dist_info
    (either 4 server_info
    (either 5 compile_finished
    (either 6 handshake_info
    (either 7 get_path_result
    (either 8 (optional byte_text)
    (either 9 (result nothing text)
    (either 10 (result (optional byte_text) text)
    (either 11 (result nothing text)
    (either 12 nothing
    (last 13 byte_text (lit< tt)) (lit< tt) (lit< tt)) (lit< tt) (lit< tt)) (lit< tt) (lit< tt)) (lit< tt) (lit< tt)) (lit< tt) (lit< tt)) (lit< tt) (lit< tt)) (lit< tt) (lit< tt)) (lit< tt) (lit< tt)) (lit< tt) (lit< tt)) (lit< tt) (lit< tt)) (lit< tt) (lit< tt)) (lit< tt) (lit< tt)) (lit< tt) (lit< tt)))

-- the bytes that spell a response
unfoldable pub payload : Response → List ℕ
payload message = response.spell message

-- the response that all of the bytes spell
unfoldable pub read_response : List ℕ → Option Response
read_response bytes = read_all response bytes
