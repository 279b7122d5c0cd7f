-- The members of the objects of a bill, in the order of their keys, and their tokens.
use Rattle.std.proofs.Common.{◌≡◌, ◌∙◌, ℕ, Bool, List, [], ◌∷◌, ◌++◌, Option, None, Some, ap, codes, decimal, option_map, refl}
use Rattle.std.specs.Fmt.{digits}
use Rattle.semver.specs.Identifiers.{parts_text}
use Rattle.json.specs.Token as token
use Rattle.json.specs.Token.{Token}
use Rattle.json.specs.Tree.{members_tokens}
use Rattle.serde_json.specs.Data.{Data, Members, array, member, no_members, object, string}
use Rattle.serde_json.specs.View.{items_of}
use Rattle.serde_json.specs.Written.{members_outline}
use Rattle.cargo_lock_parts.specs.Identity.{PackageData, identity_of}
use Rattle.cargo_lock_bom.specs.Options.{LicenseData}
use Rattle.cargo_lock_bom.specs.Component.{component_of, hashes_of, licenses_of, put_some, repositories_if, repositories_of, type_text}
use Rattle.cargo_lock_bom.specs.Contents.{with_serial_if}
use Rattle.cargo_lock_bom.specs.Document.{bill_document}
use Rattle.cargo_lock_bom.specs.Tokens.{data_tokens, member_tokens}
use Rattle.cargo_lock_bom.specs.Metadata.{authors_if, bill_metadata, lifecycles, own_members, properties_if, tools_of}
use Rattle.cargo_lock_bom.specs.Purl.{purl_of}
use Rattle.cargo_lock_bom.specs.References.{package_reference}

-- the member before these, if there is a value for it
abbrev pub with_some : List ℕ → Option Data → Members → Members
with_some name None members = members
with_some name (Some d) members = member name d members

-- its tokens
pub some-tokens : (name : List ℕ) (o : Option Data) (ms : Members)
    → members_tokens (members_outline (with_some name o ms)) ≡ member_tokens name o ++ members_tokens (members_outline ms)
some-tokens name None ms = refl
some-tokens name (Some d) ms = refl

-- the members of a component
pub component-members : (reference name type version : List ℕ) (r h l u : Option Data)
    → put_some (codes "externalReferences") r (put_some (codes "hashes") h
    (put_some (codes "licenses") l (put_some (codes "purl") u
    (member (codes "bom-ref") (string reference) (member (codes "name") (string name)
    (member (codes "type") (string type) (member (codes "version") (string version) no_members)))))))
    ≡ member (codes "bom-ref") (string reference)
    (with_some (codes "externalReferences") r (with_some (codes "hashes") h
    (with_some (codes "licenses") l (member (codes "name") (string name)
    (with_some (codes "purl") u (member (codes "type") (string type)
    (member (codes "version") (string version) no_members)))))))
component-members reference name type version None None None None = refl
component-members reference name type version None None None (Some u) = refl
component-members reference name type version None None (Some l) None = refl
component-members reference name type version None None (Some l) (Some u) = refl
component-members reference name type version None (Some h) None None = refl
component-members reference name type version None (Some h) None (Some u) = refl
component-members reference name type version None (Some h) (Some l) None = refl
component-members reference name type version None (Some h) (Some l) (Some u) = refl
component-members reference name type version (Some r) None None None = refl
component-members reference name type version (Some r) None None (Some u) = refl
component-members reference name type version (Some r) None (Some l) None = refl
component-members reference name type version (Some r) None (Some l) (Some u) = refl
component-members reference name type version (Some r) (Some h) None None = refl
component-members reference name type version (Some r) (Some h) None (Some u) = refl
component-members reference name type version (Some r) (Some h) (Some l) None = refl
component-members reference name type version (Some r) (Some h) (Some l) (Some u) = refl

-- the members of the metadata
pub metadata-members : (version : List ℕ) (a p c t : Option Data)
    → put_some (codes "timestamp") t (put_some (codes "properties") p (put_some (codes "component") c
    (put_some (codes "authors") a (own_members version))))
    ≡ with_some (codes "authors") a (with_some (codes "component") c
    (member (codes "lifecycles") lifecycles (with_some (codes "properties") p (with_some (codes "timestamp") t
    (member (codes "tools") (tools_of version) no_members)))))
metadata-members version None None None None = refl
metadata-members version None None None (Some t) = refl
metadata-members version None None (Some c) None = refl
metadata-members version None None (Some c) (Some t) = refl
metadata-members version None (Some p) None None = refl
metadata-members version None (Some p) None (Some t) = refl
metadata-members version None (Some p) (Some c) None = refl
metadata-members version None (Some p) (Some c) (Some t) = refl
metadata-members version (Some a) None None None = refl
metadata-members version (Some a) None None (Some t) = refl
metadata-members version (Some a) None (Some c) None = refl
metadata-members version (Some a) None (Some c) (Some t) = refl
metadata-members version (Some a) (Some p) None None = refl
metadata-members version (Some a) (Some p) None (Some t) = refl
metadata-members version (Some a) (Some p) (Some c) None = refl
metadata-members version (Some a) (Some p) (Some c) (Some t) = refl

-- ---- their tokens

pub repository-tokens : (url : List ℕ) (precise : Option (List ℕ))
    → member_tokens (codes "externalReferences") (Some (repositories_of url precise))
    ≡ token.key (codes "externalReferences") ∷ token.begin_array ∷ token.begin_object
    ∷ (member_tokens (codes "comment") (option_map string precise)
    ++ token.key (codes "type") ∷ token.string (codes "vcs") ∷ token.key (codes "url") ∷ token.string url
    ∷ token.end_object ∷ token.end_array ∷ [])
repository-tokens url None = refl
repository-tokens url (Some text) = refl

pub component-tokens : (application : Bool) (license : Option LicenseData) (p : PackageData)
    → data_tokens (component_of application license p)
    ≡ token.begin_object ∷ token.key (codes "bom-ref") ∷ token.string (package_reference p)
    ∷ (member_tokens (codes "externalReferences") (repositories_if p.source)
    ++ (member_tokens (codes "hashes") (option_map hashes_of p.checksum)
    ++ (member_tokens (codes "licenses") (option_map licenses_of license)
    ++ token.key (codes "name") ∷ token.string p.name
    ∷ (member_tokens (codes "purl") (option_map string (purl_of (identity_of p)))
    ++ token.key (codes "type") ∷ token.string (type_text application)
    ∷ token.key (codes "version") ∷ token.string (parts_text p.version) ∷ token.end_object ∷ []))))
unfolding component_of
component-tokens application license p =
    let r = repositories_if p.source in
    let h = option_map hashes_of p.checksum in
    let l = option_map licenses_of license in
    let u = option_map string (purl_of (identity_of p)) in
    ap (λ ms. data_tokens (object ms)) (component-members (package_reference p) p.name (type_text application) (parts_text p.version) r h l u)
    ∙ ap (λ ts. token.begin_object ∷ token.key (codes "bom-ref") ∷ token.string (package_reference p) ∷ ts)
    (some-tokens (codes "externalReferences") r _
    ∙ ap (λ ts. member_tokens (codes "externalReferences") r ++ ts)
    (some-tokens (codes "hashes") h _
    ∙ ap (λ ts. member_tokens (codes "hashes") h ++ ts)
    (some-tokens (codes "licenses") l _
    ∙ ap (λ ts. member_tokens (codes "licenses") l ++ token.key (codes "name") ∷ token.string p.name ∷ ts)
    (some-tokens (codes "purl") u _))))

pub metadata-tokens : (version : List ℕ) (authors : List (List ℕ)) (properties : List (List ℕ × List ℕ)) (component : Option Data) (time : Option (List ℕ))
    → data_tokens (bill_metadata version authors properties component time)
    ≡ token.begin_object ∷ (member_tokens (codes "authors") (authors_if authors)
    ++ (member_tokens (codes "component") component
    ++ token.key (codes "lifecycles") ∷ (data_tokens lifecycles
    ++ (member_tokens (codes "properties") (properties_if properties)
    ++ (member_tokens (codes "timestamp") (option_map string time)
    ++ token.key (codes "tools") ∷ (data_tokens (tools_of version) ++ token.end_object ∷ []))))))
unfolding bill_metadata
metadata-tokens version authors properties component time =
    let a = authors_if authors in
    let p = properties_if properties in
    let t = option_map string time in
    ap (λ ms. data_tokens (object ms)) (metadata-members version a p component t)
    ∙ ap (λ ts. token.begin_object ∷ ts)
    (some-tokens (codes "authors") a _
    ∙ ap (λ ts. member_tokens (codes "authors") a ++ ts)
    (some-tokens (codes "component") component _
    ∙ ap (λ ts. member_tokens (codes "component") component ++ token.key (codes "lifecycles") ∷ (data_tokens lifecycles ++ ts))
    (some-tokens (codes "properties") p _
    ∙ ap (λ ts. member_tokens (codes "properties") p ++ ts)
    (some-tokens (codes "timestamp") t _))))

pub bill-tokens : (serial : Option (List ℕ)) (components entries : List Data) (metadata : Data)
    → data_tokens (with_serial_if serial (bill_document components entries metadata))
    ≡ token.begin_object ∷ token.key (codes "bomFormat") ∷ token.string (codes "CycloneDX")
    ∷ token.key (codes "components") ∷ (data_tokens (array (items_of components))
    ++ token.key (codes "dependencies") ∷ (data_tokens (array (items_of entries))
    ++ token.key (codes "metadata") ∷ (data_tokens metadata
    ++ (member_tokens (codes "serialNumber") (option_map string serial)
    ++ token.key (codes "specVersion") ∷ token.string (codes "1.6")
    ∷ token.key (codes "version") ∷ token.number (decimal 1) ∷ token.end_object ∷ []))))
unfolding bill_document digits
bill-tokens None components entries metadata = refl
bill-tokens (Some serial) components entries metadata = refl
