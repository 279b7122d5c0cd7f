use Rattle.std.proofs.Common.{◌++◌, ap, sym, ◌∙◌, string_bytes}
use Rattle.cargo_lock_parts.proofs.FileUrlLemmas.{added_part}
use Rattle.cargo_lock_parts.proofs.package.source.file_url.push_part.Goals as goal

pub returns : goal.returns
returns c =
    let escaped = ap (λ text. string_bytes c.push_str.new.self ++ text) c.utf8_percent_encode.ensures.text in
    added_part _ _ _ _ (sym c.is_empty.ensures ∙ c.if-is_empty.false) (sym c.eq.ensures ∙ c.if-eq.false)
    c.in_ok-push_str.ensures.bytes (c.in_ok-append_to.ensures.ok ∙ escaped)
