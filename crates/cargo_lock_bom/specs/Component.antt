-- The components of a bill of materials: one for each package, and one for the workspace if that is
-- the root.
-- The members are those of `component` in the JSON schema of CycloneDX 1.6.
use Rattle.std.specs.Prelude.{◌≡◌, ℕ, Bool, true, false, List, codes, map, length, slice_get}
use Rattle.std.specs.Prelude.{Option, Some, None, option_and_then, option_map}
use Rattle.semver.specs.Identifiers.{parts_text}
use Rattle.serde_json.specs.Data.{Data, Members, null, string, array, object, item, no_items}
use Rattle.serde_json.specs.Data.{member, no_members, put}
use Rattle.cargo_lock_parts.specs.Checksum.{digest_text}
use Rattle.cargo_lock_parts.specs.Identity.{PackageData, identity_of}
use Rattle.cargo_lock_parts.specs.Source.{Kind, Source, Git}
use Rattle.cargo_lock_graph.specs.Edges.{GraphData}
use Rattle.cargo_lock_bom.specs.declared.root.Root.{Root}
use Rattle.cargo_lock_bom.specs.declared.root.Root.TheVariants.{Package, Workspace, Nothing}
use Rattle.cargo_lock_bom.specs.Iri.{iri_text}
use Rattle.lists.specs.Places.{IsPlaces}
use Rattle.cargo_lock_bom.specs.Purl.{purl_of}
use Rattle.cargo_lock_bom.specs.References.{package_reference, workspace_reference}
use Rattle.cargo_lock_bom.specs.Options.{Expression, LicenseData, Named, OptionsData}
use Rattle.cargo_lock_bom.specs.Root.{IsInBill, is_application}
use Rattle.cargo_lock_bom.specs.UserInfo.{without_user_info}

-- the type of a component: an application, or else a library
abbrev pub type_text : Bool → List ℕ
type_text true = codes "application"
type_text false = codes "library"

-- the members that each component has
abbrev pub base_members : Bool → PackageData → Members
base_members application p = member (codes "bom-ref") (string (package_reference p))
    (member (codes "name") (string p.name)
    (member (codes "type") (string (type_text application))
    (member (codes "version") (string (parts_text p.version)) no_members)))

-- the list with the one hash of a package, by the bytes of its checksum
abbrev pub hashes_of : List ℕ → Data
hashes_of digest = array (item (object
    (member (codes "alg") (string (codes "SHA-256"))
    (member (codes "content") (string (digest_text digest)) no_members))) no_items)

-- the members, with the value at the key if there is one
abbrev pub put_some : List ℕ → Option Data → Members → Members
put_some key None members = members
put_some key (Some value) members = put key value members

-- the list with the one repository at a URL, with the commit, tag, branch or revision, if it is
-- known
abbrev pub repositories_of : List ℕ → Option (List ℕ) → Data
repositories_of url precise = array (item (object (put_some (codes "comment")
    (option_map string precise)
    (member (codes "type") (string (codes "vcs"))
    (member (codes "url") (string url) no_members)))) no_items)

-- the repositories of a source of this kind, with this URL text and precise text
abbrev pub repositories_by : Kind → List ℕ → Option (List ℕ) → Option Data
repositories_by (Git reference) url precise = Some (repositories_of url precise)
repositories_by other url precise = None

-- the repositories of a source: that of a git source, whose URL is a reference without user name
-- and password
abbrev pub repositories_if : Option Source → Option Data
repositories_if None = None
repositories_if (Some s) = repositories_by s.kind (iri_text (without_user_info s.url)) s.precise

-- a licence text at this key, which the author of the package declared
abbrev pub declared : List ℕ → List ℕ → Data
declared key text = object (member (codes "acknowledgement") (string (codes "declared"))
    (member key (string text) no_members))

-- a licence: an expression, or the name of one
abbrev pub license_data : LicenseData → Data
license_data (Expression text) = declared (codes "expression") text
license_data (Named text) =
    object (member (codes "license") (declared (codes "name") text) no_members)

-- the list with the one licence of a package
abbrev pub licenses_of : LicenseData → Data
licenses_of license = array (item (license_data license) no_items)

-- the licence of the package of a node, among those of packages by their place, if it is there
abbrev pub license_at : List (Option LicenseData) → ℕ → Option LicenseData
license_at licenses node = option_and_then (λ license. license) (slice_get licenses node)

-- the component of a package: `purl` if it has a package URL, `licenses` if it has this licence,
-- `hashes` if it has a checksum, and `externalReferences` if it comes from a repository
unfoldable pub component_of : Bool → Option LicenseData → PackageData → Data
component_of application license p = object
    (put_some (codes "externalReferences") (repositories_if p.source)
    (put_some (codes "hashes") (option_map hashes_of p.checksum)
    (put_some (codes "licenses") (option_map licenses_of license)
    (put_some (codes "purl") (option_map string (purl_of (identity_of p)))
    (base_members application p)))))

-- the component of a package, if there is one
abbrev pub component_if : Bool → Option LicenseData → Option PackageData → Data
component_if application license None = null
component_if application license (Some p) = component_of application license p

-- the component of the package of a node, with its licence among those of the packages:
-- an application if the package has no source and no other package needs it
abbrev pub component_at : GraphData → List (Option LicenseData) → ℕ → Data
component_at graph licenses node = component_if (is_application graph node)
    (license_at licenses node) (slice_get graph.packages node)

-- the bill lists the package of the node, which is not the root
abbrev pub IsComponent : GraphData → OptionsData → Root → ℕ → Type 0
IsComponent graph options root k =
    IsInBill graph options.listed options.root k × ¬ (root ≡ Package k)

-- the components of the packages that are listed and not the root, in order, each listed once, with
-- the licences of the packages
pub record AreComponents (graph : GraphData) (options : OptionsData) (root : Root)
    (components : List Data) : Type 0 where
  pub nodes : List ℕ
  pub are_others : IsPlaces (IsComponent graph options root) (length graph.packages) nodes
  pub are : components ≡ map (component_at graph options.licenses) nodes

-- the component of the workspace
abbrev pub workspace_component : Data
workspace_component = object (member (codes "bom-ref") (string workspace_reference)
    (member (codes "name") (string (codes "workspace"))
    (member (codes "type") (string (codes "application")) no_members)))

-- the component of the root, if there is one, with these licences of the packages
abbrev pub root_component : GraphData → List (Option LicenseData) → Root → Option Data
root_component graph licenses (Package node) = Some (component_at graph licenses node)
root_component graph licenses Workspace = Some workspace_component
root_component graph licenses Nothing = None
