-- The URL of the index of crates.io is read, and its text is the text that was read.
use Rattle.std.proofs.Common.{◌≡◌, true, [], Some, None, Ok, bytes_eq, codes, refl, subst}
use Rattle.url.proofs.OnLiterals.{url_on_literals}
use Rattle.url.specs.declared.host.Host.TheVariants.{Domain}
use Rattle.url.specs.Parser.{parse_url}
use Rattle.url.specs.Parts.{Parts, serialize}
use Rattle.cargo_lock_parts.specs.SourceShown.{crates_io_index}

abbrev crates_io_parts : Parts
crates_io_parts = record {
  scheme = codes "https";
  username = [];
  password = [];
  host = Some (Domain (codes "github.com"));
  port = None;
  path = codes "/rust-lang/crates.io-index";
  query = None;
  fragment = None;
}

parse_url-crates_io : parse_url None crates_io_index ≡ Ok crates_io_parts
unfolding url_on_literals
parse_url-crates_io = refl

serialize-crates_io : bytes_eq (serialize crates_io_parts) crates_io_index ≡ true
unfolding url_on_literals
serialize-crates_io = refl

-- the URL that is read from this text has this text
pub keeps_text : (url : Parts) → parse_url None crates_io_index ≡ Ok url → bytes_eq (serialize url) crates_io_index ≡ true
keeps_text url read =
    let same : crates_io_parts ≡ url = cc (parse_url-crates_io, read) in
    subst (λ (u : Parts). bytes_eq (serialize u) crates_io_index ≡ true) same serialize-crates_io
