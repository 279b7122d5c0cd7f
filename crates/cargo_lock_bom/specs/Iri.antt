-- URLs as references of RFC 3987. The URL Standard does not escape some bytes that may not be in a
-- reference, such as `|` in a path.
-- The JSON schema of CycloneDX 1.6 asks for an `iri-reference`; the URL Standard is that of 19
-- November 2026.
use Rattle.std.specs.Prelude.{ℕ, List, ◌++◌, codes}
use Rattle.url.specs.declared.slicing.Position.TheVariants.{BeforeScheme, BeforeHost, AfterHost}
use Rattle.url.specs.declared.slicing.Position.TheVariants.{AfterFragment}
use Rattle.url.specs.Parts.{Parts, text_between}
use Rattle.cargo_lock_bom.specs.Purl.{escaped_but}

-- the marks that are not escaped in a reference, and the sign of an escape
abbrev pub plain_iri_marks : List ℕ
plain_iri_marks = codes "-._~:/?#@!$&'()*+,;=%"

-- the marks that are not escaped in a host: an IPv6 address has brackets, and no other host has
-- them
abbrev pub plain_host_marks : List ℕ
plain_host_marks = codes "-._~:/?#@!$&'()*+,;=%[]"

-- a text in a reference
unfoldable pub escaped_iri : List ℕ → List ℕ
escaped_iri text = escaped_but plain_iri_marks text

-- a host in a reference
unfoldable pub escaped_host : List ℕ → List ℕ
escaped_host text = escaped_but plain_host_marks text

-- the text of a URL as a reference: the text before its host needs no escape
abbrev pub iri_text : Parts → List ℕ
iri_text url = text_between url BeforeScheme BeforeHost
    ++ (escaped_host (text_between url BeforeHost AfterHost)
    ++ escaped_iri (text_between url AfterHost AfterFragment))
