use Rattle.std.proofs.Common.{◌≡◌, ◌++◌, string_bytes, length}
use denote.Text.{Utf8}
use denote.Shadow.{shadow}
use Rattle.cargo_lock_parts.specs.FileUrl.{path_parts_text}
use Rattle.cargo_lock_parts.proofs.package.source.file_url.push_parts.Given as goal

abbrev pub invariant-loop-part : goal.invariant-loop-part
invariant-loop-part l = record {
  utf8 : shadow (Utf8 l.rest);
  text : string_bytes l.text ++ path_parts_text l.rest ≡ string_bytes l.initial.text ++ path_parts_text l.path;
}

abbrev pub decreases-loop-part : goal.decreases-loop-part
decreases-loop-part l = length l.rest
