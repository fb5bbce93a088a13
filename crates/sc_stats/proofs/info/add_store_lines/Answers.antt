use Rattle.std.proofs.Common.{◌≡◌, codes, ap, ◌∙◌, rules}
use Rattle.std.specs.Option.{option_copied}
use Rattle.sc_stats.specs.Info.{field_line, joined, mode_line, preprocessor_line, size_line, store_lines}
use Rattle.sc_stats.proofs.info.add_store_lines.Goals as goal

pub returns : goal.returns
unfolding store_lines
returns c =
    let directories : c.as_str.result.now ≡ joined c.args.info.now.basedirs = search rules in
    c.in_ok-add_size-2.ensures
    ∙ ap (size_line c.args.names c.args.values (codes "Max cache size") c.args.info.now.max_cache_size) (c.in_ok-add_size.ensures
    ∙ ap (size_line c.args.names c.args.values (codes "Cache size") c.args.info.now.cache_size) (c.in_ok-add_field-2.ensures
    ∙ ap (λ t. field_line c.args.names (codes "Version (client)") t c.add_preprocessor_line.new.lines) c.as_str-2.ensures
    ∙ ap (field_line c.args.names (codes "Version (client)") c.args.info.now.version) (c.in_ok-add_preprocessor_line.ensures
    ∙ ap (preprocessor_line c.args.names c.args.info.now) (c.in_ok-add_field.ensures
    ∙ ap (λ t. field_line c.args.names (codes "Base directories") t c.add_mode_line.new.lines) directories
    ∙ ap (field_line c.args.names (codes "Base directories") (joined c.args.info.now.basedirs)) (c.in_ok-add_mode_line.ensures
    ∙ ap (mode_line c.args.names c.args.advanced (option_copied c.args.mode)) c.in_ok-add_place_lines.ensures)))))
