use Rattle.std.proofs.Common.{◌≡◌, List, ℕ, ap, ◌∙◌, rules}
use Rattle.sc_entry.specs.declared.files.FileContent.{FileContent}
use Rattle.sc_entry.specs.FileMaps.{with_file, file_map_of}
use Rattle.sc_entry.proofs.TextMaps.{one_inserted}
use Rattle.sc_entry.proofs.mem_files.MemFilesFiles.place.Goals as goal

pub returns-clause-told : goal.returns-clause-told
returns-clause-told c =
    let same : c.in_ok-path.path ≡ c.args.path.now = search rules in
    let bytes : c.in_ok-from_slice.field-0 ≡ c.args.bytes.now = search rules in
    one_inserted c.args.self.now.by_path.entries c.insert.new.self.entries c.in_ok-path.path (record { bytes = c.in_ok-from_slice.field-0; mode = c.args.mode }) c.in_ok-insert.ensures.updates.0
    ∙ ap (λ (path : List ℕ). with_file (file_map_of c.args.self.now.by_path.entries) path (record { bytes = c.in_ok-from_slice.field-0; mode = c.args.mode })) same
    ∙ ap (λ (text : List ℕ). with_file (file_map_of c.args.self.now.by_path.entries) c.args.path.now (record { bytes = text; mode = c.args.mode })) bytes
