-- In which folders of Cargo's `registry/cache` the archives of a package lie. Cargo names such an
-- index folder HOST-HASH, by the host of the registry's URL (`short_name` in Cargo's
-- `src/cargo/core/registry.rs`). crates.io has two indexes, and so two hosts.
use Rattle.std.specs.Prelude.{◌&&◌, ◌||◌, ℕ, Bool, List, Option, None, Some, bytes_eq, codes}
use Rattle.std.specs.Prelude.{false, option_copied, option_map, true, unwrap_or, []}
use Rattle.std.specs.List.{list_any}
use Rattle.url.specs.Host.{host_text}
use Rattle.url.specs.Parts.{Parts, nonempty_host}
use Rattle.cargo_lock_order.specs.Canonical.{is_canonically_crates_io}
use Rattle.cargo_lock_parts.specs.Source.{Source}
use Rattle.cargo_lock_verify.specs.declared.hosts.Hosts.{Hosts}

-- the hosts of a source: that of its URL, if there is a source, and those of crates.io, if it is that
pub record HostsData : Type 0 where
  pub own : Option (List ℕ)
  pub is_crates_io : Bool

-- the data of the hosts of the program
abbrev pub hosts_data : Hosts → HostsData
hosts_data h = record { own = option_copied h.own; is_crates_io = h.is_crates_io }

-- the host of a URL; an empty text if it has none, as Cargo writes it
abbrev pub host_of : Parts → List ℕ
host_of url = unwrap_or (option_map host_text (nonempty_host url)) []

-- the hosts of a source
abbrev pub hosts_of : Option Source → HostsData
hosts_of None = record { own = None; is_crates_io = false }
hosts_of (Some s) =
    record { own = Some (host_of s.url); is_crates_io = is_canonically_crates_io s }

-- the host is that of an index of crates.io
abbrev pub is_host_of_crates_io : List ℕ → Bool
is_host_of_crates_io host =
    bytes_eq host (codes "github.com") || bytes_eq host (codes "index.crates.io")

-- the host is this one, if there is one
abbrev pub is_own : Option (List ℕ) → List ℕ → Bool
is_own None host = false
is_own (Some own) host = bytes_eq own host

-- the host is one of these
abbrev pub has_host : HostsData → List ℕ → Bool
has_host h host = is_own h.own host || h.is_crates_io && is_host_of_crates_io host

-- what lies in an index folder of this host, or, without a host, in the folder of archives itself, is
-- of a source with these hosts, or of a mirror
abbrev pub is_in_reach : List (List ℕ) → HostsData → Option (List ℕ) → Bool
is_in_reach mirrors hosts None = true
is_in_reach mirrors hosts (Some host) = has_host hosts host || list_any (bytes_eq host) mirrors
