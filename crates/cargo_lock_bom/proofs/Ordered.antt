-- A bill has its members in the order of their keys.
use Rattle.std.proofs.Common.{◌≡◌, ◌∙◌, ℕ, arith, Bool, true, false, IfSome, List, [], ◌∷◌, ◌++◌, map, slice_get, codes, Option, Some, None, option_map, ap, refl, sym, subst}
use Rattle.std.specs.Cmp.Lexicographic.{slice_cmp}
use Rattle.std.specs.Ordering.{nat_cmp}
use Rattle.std.specs.declared.cmp.Ordering.TheVariants.{Greater}
use Rattle.std.specs.List.{AllZip}
use Rattle.serde_json.specs.Data.{Data, Members, member, no_members, string}
use Rattle.serde_json.specs.View.{items_of}
use Rattle.serde_json.specs.Written.{compact_text}
use Rattle.serde_json.proofs.Numbers.{number_of-decimal}
use Rattle.cargo_lock_parts.specs.Identity.{PackageData, identity_of}
use Rattle.cargo_lock_parts.specs.Source.{Kind, Source, Git, Path, Registry, SparseRegistry, LocalRegistry, Directory}
use Rattle.cargo_lock_graph.specs.Edges.{GraphData}
use Rattle.cargo_lock_bom.specs.declared.root.Root.{Root}
use Rattle.cargo_lock_bom.specs.declared.root.Root.TheVariants.{Package, Workspace, Nothing}
use Rattle.cargo_lock_bom.specs.Component.{AreComponents, component_at, component_if, component_of, hashes_of, license_at, licenses_of, put_some, repositories_by, repositories_if, repositories_of, root_component}
use Rattle.cargo_lock_bom.specs.Dependencies.{AreBillEntries, AreOwnEntries, IsNodeEntry, entry_with, node_reference}
use Rattle.cargo_lock_bom.specs.Document.{IsBill, bill_document}
use Rattle.cargo_lock_bom.specs.Iri.{iri_text}
use Rattle.cargo_lock_bom.specs.Metadata.{IsBillMetadata, author_of, authors_if, bill_metadata, own_members, properties_if, property_object}
use Rattle.cargo_lock_bom.specs.Options.{Expression, LicenseData, Named, OptionsData}
use Rattle.cargo_lock_bom.specs.Purl.{purl_of}
use Rattle.cargo_lock_bom.specs.References.{workspace_reference}
use Rattle.cargo_lock_bom.specs.Root.{is_application}
use Rattle.cargo_lock_bom.specs.Serial.{numbered, serial_text, with_serial}
use Rattle.cargo_lock_bom.specs.UserInfo.{without_user_info}
use Rattle.cargo_lock_bom.proofs.Members.{component-members, metadata-members, with_some}
use Rattle.cargo_lock_bom.proofs.Outlines.{InOrder, IsBefore, ItemsInOrder, MembersInOrder}

-- ---- lists

items-map : {X : Type 0} (f : X → Data) → ((x : X) → InOrder (f x)) → (xs : List X) → ItemsInOrder (items_of (map f xs))
items-map f order [] = tt
items-map f order (x ∷ xs) = (order x, items-map f order xs)

items-zip : {X : Type 0} (R : X → Data → Type 0) → ((x : X) (d : Data) → R x d → InOrder d)
    → (xs : List X) (ds : List Data) → AllZip R xs ds → ItemsInOrder (items_of ds)
items-zip R order xs [] all = tt
items-zip R order [] (d ∷ ds) all = absurd all
items-zip R order (x ∷ xs) (d ∷ ds) all = (order x d all.0, items-zip R order xs ds all.1)

items-append : (xs ys : List Data) → ItemsInOrder (items_of xs) → ItemsInOrder (items_of ys) → ItemsInOrder (items_of (xs ++ ys))
items-append [] ys a b = b
items-append (x ∷ xs) ys a b = (a.0, items-append xs ys a.1 b)

-- ---- members that may be absent

abbrev IfOrder : Option Data → Type 0
IfOrder o = IfSome o InOrder

before-some : (k l : List ℕ) (o : Option Data) (ms : Members) → slice_cmp nat_cmp l k ≡ Greater → IsBefore k ms → IsBefore k (with_some l o ms)
before-some k l None ms above rest = rest
before-some k l (Some d) ms above rest = (above, rest)

order-some : (l : List ℕ) (o : Option Data) (ms : Members) → IfOrder o → IsBefore l ms → MembersInOrder ms → MembersInOrder (with_some l o ms)
order-some l None ms order before rest = rest
order-some l (Some d) ms order before rest = (before, order, rest)

map-order : {X : Type 0} (f : X → Data) (o : Option X) → ((x : X) → InOrder (f x)) → IfOrder (option_map f o)
map-order f None order = tt
map-order f (Some x) order = order x

-- ---- components

repository_order : (url : List ℕ) (precise : Option (List ℕ)) → InOrder (repositories_of url precise)
repository_order url None = (((refl, tt), tt, (tt, tt, tt)), tt)
repository_order url (Some text) = (((refl, (refl, tt)), tt, ((refl, tt), tt, (tt, tt, tt))), tt)

kind_order : (kind : Kind) (url : List ℕ) (precise : Option (List ℕ)) → IfOrder (repositories_by kind url precise)
kind_order (Git reference) url precise = repository_order url precise
kind_order Path url precise = tt
kind_order Registry url precise = tt
kind_order SparseRegistry url precise = tt
kind_order LocalRegistry url precise = tt
kind_order Directory url precise = tt

repositories_order : (source : Option Source) → IfOrder (repositories_if source)
repositories_order None = tt
repositories_order (Some s) = kind_order s.kind (iri_text (without_user_info s.url)) s.precise

-- the members of a component, in their order
component_order-members : (reference name type version : List ℕ) (r h l u : Option Data) → IfOrder r → IfOrder h → IfOrder l → IfOrder u
    → MembersInOrder (put_some (codes "externalReferences") r (put_some (codes "hashes") h
    (put_some (codes "licenses") l (put_some (codes "purl") u
    (member (codes "bom-ref") (string reference) (member (codes "name") (string name)
    (member (codes "type") (string type) (member (codes "version") (string version) no_members))))))))
component_order-members reference name type version r h l u a b c d =
    subst MembersInOrder (sym (component-members reference name type version r h l u)) (
      before-some (codes "bom-ref") (codes "externalReferences") r _ refl
          (before-some (codes "bom-ref") (codes "hashes") h _ refl
          (before-some (codes "bom-ref") (codes "licenses") l _ refl
          (refl, before-some (codes "bom-ref") (codes "purl") u _ refl (refl, (refl, tt))))),
      tt,
      order-some (codes "externalReferences") r _ a
          (before-some (codes "externalReferences") (codes "hashes") h _ refl
          (before-some (codes "externalReferences") (codes "licenses") l _ refl
          (refl, before-some (codes "externalReferences") (codes "purl") u _ refl (refl, (refl, tt)))))
          (order-some (codes "hashes") h _ b
          (before-some (codes "hashes") (codes "licenses") l _ refl
          (refl, before-some (codes "hashes") (codes "purl") u _ refl (refl, (refl, tt))))
          (order-some (codes "licenses") l _ c
          (refl, before-some (codes "licenses") (codes "purl") u _ refl (refl, (refl, tt))) (
            before-some (codes "name") (codes "purl") u _ refl (refl, (refl, tt)),
            tt,
            order-some (codes "purl") u _ d (refl, (refl, tt)) ((refl, tt), tt, (tt, tt, tt)),
          ))),
    )

license_order : (license : LicenseData) → InOrder (licenses_of license)
license_order (Expression text) = (((refl, tt), tt, (tt, tt, tt)), tt)
license_order (Named text) = ((tt, ((refl, tt), tt, (tt, tt, tt)), tt), tt)

component_order : (application : Bool) (license : Option LicenseData) (p : PackageData) → InOrder (component_of application license p)
unfolding component_of
component_order application license p =
    component_order-members _ _ _ _ (repositories_if p.source) (option_map hashes_of p.checksum) (option_map licenses_of license) (option_map string (purl_of (identity_of p)))
    (repositories_order p.source) (map-order hashes_of p.checksum (λ d. (((refl, tt), tt, (tt, tt, tt)), tt)))
    (map-order licenses_of license license_order) (map-order string (purl_of (identity_of p)) (λ t. tt))

if_order : (application : Bool) (license : Option LicenseData) (o : Option PackageData) → InOrder (component_if application license o)
if_order application license None = tt
if_order application license (Some p) = component_order application license p

component_at_order : (graph : GraphData) (licenses : List (Option LicenseData)) (node : ℕ) → InOrder (component_at graph licenses node)
component_at_order graph licenses node = if_order (is_application graph node) (license_at licenses node) (slice_get graph.packages node)

components_order : (graph : GraphData) (options : OptionsData) (root : Root) (components : List Data)
    → AreComponents graph options root components → ItemsInOrder (items_of components)
components_order graph options root components are =
    subst (λ (ds : List Data). ItemsInOrder (items_of ds)) (sym are.are) (items-map (component_at graph options.licenses) (component_at_order graph options.licenses) are.nodes)

-- ---- entries

with_order : (packages : List PackageData) (own : List ℕ) (targets : List ℕ) → InOrder (entry_with packages own targets)
unfolding entry_with
with_order packages own targets = ((refl, tt), items-map (λ k. string (node_reference packages k)) (λ k. tt) targets, (tt, tt, tt))

entry_order : (graph : GraphData) (node : ℕ) (d : Data) → IsNodeEntry graph node d → InOrder d
entry_order graph node d entry = subst InOrder (sym entry.is) (with_order graph.packages (node_reference graph.packages node) entry.targets)

own_order : (packages : List PackageData) (root : Root) (own : List Data) → AreOwnEntries packages root own → ItemsInOrder (items_of own)
own_order packages (Package node) own are = subst (λ (ds : List Data). ItemsInOrder (items_of ds)) (sym are) tt
own_order packages Workspace own are =
    let order : InOrder are.0 = subst InOrder (sym are.1.is) (with_order packages workspace_reference are.1.members) in
    subst (λ (ds : List Data). ItemsInOrder (items_of ds)) (sym are.2) (order, tt)
own_order packages Nothing own are = subst (λ (ds : List Data). ItemsInOrder (items_of ds)) (sym are) tt

entries_order : (graph : GraphData) (options : OptionsData) (root : Root) (entries : List Data) → AreBillEntries graph options root entries → ItemsInOrder (items_of entries)
entries_order graph options root entries bill =
    let are = bill.are_entries in
    subst (λ (ds : List Data). ItemsInOrder (items_of ds)) (sym are.are) (items-append are.of_nodes are.own
    (items-zip (IsNodeEntry graph) (entry_order graph) bill.nodes are.of_nodes are.are_of_nodes)
    (own_order graph.packages root are.own are.are_own))

-- ---- the metadata

root_order : (graph : GraphData) (licenses : List (Option LicenseData)) (root : Root) → IfOrder (root_component graph licenses root)
root_order graph licenses (Package node) = component_at_order graph licenses node
root_order graph licenses Workspace = ((refl, (refl, tt)), tt, ((refl, tt), tt, (tt, tt, tt)))
root_order graph licenses Nothing = tt

metadata_order-members : (version : List ℕ) (a p c t : Option Data) → IfOrder a → IfOrder p → IfOrder c → IfOrder t
    → MembersInOrder (put_some (codes "timestamp") t (put_some (codes "properties") p (put_some (codes "component") c (put_some (codes "authors") a (own_members version)))))
metadata_order-members version a p c t x v y z =
    subst MembersInOrder (sym (metadata-members version a p c t))
    (order-some (codes "authors") a _ x
    (before-some (codes "authors") (codes "component") c _ refl
    (refl, before-some (codes "authors") (codes "properties") p _ refl (before-some (codes "authors") (codes "timestamp") t _ refl (refl, tt))))
    (order-some (codes "component") c _ y
    (refl, before-some (codes "component") (codes "properties") p _ refl (before-some (codes "component") (codes "timestamp") t _ refl (refl, tt))) (
      before-some (codes "lifecycles") (codes "properties") p _ refl (before-some (codes "lifecycles") (codes "timestamp") t _ refl (refl, tt)),
      ((tt, tt, tt), tt),
      order-some (codes "properties") p _ v (before-some (codes "properties") (codes "timestamp") t _ refl (refl, tt))
          (order-some (codes "timestamp") t _ z (refl, tt) (tt, (tt, (((refl, (refl, tt)), tt, ((refl, tt), tt, (tt, tt, tt))), tt), tt), tt)),
    )))

authors_order : (names : List (List ℕ)) → IfOrder (authors_if names)
authors_order [] = tt
authors_order (name ∷ names) = items-map author_of (λ n. (tt, tt, tt)) (name ∷ names)

properties_order : (properties : List (List ℕ × List ℕ)) → IfOrder (properties_if properties)
properties_order [] = tt
properties_order (p ∷ ps) = items-map property_object (λ q. ((refl, tt), tt, (tt, tt, tt))) (p ∷ ps)

metadata_order : (graph : GraphData) (root : Root) (options : OptionsData) (d : Data) → IsBillMetadata graph root options d → InOrder d
unfolding bill_metadata
metadata_order graph root options d is =
    subst InOrder (sym is.is)
    (metadata_order-members options.tool_version (authors_if options.authors) (properties_if options.properties) (root_component graph options.licenses root) (option_map string is.time)
    (authors_order options.authors) (properties_order options.properties) (root_order graph options.licenses root) (map-order string is.time (λ t. tt)))

-- ---- the document

document_order : (components entries : List Data) (metadata : Data) → ItemsInOrder (items_of components) → ItemsInOrder (items_of entries) → InOrder metadata
    → InOrder (bill_document components entries metadata)
unfolding bill_document
document_order components entries metadata a b c =
    ((refl, (refl, (refl, (refl, (refl, tt))))), tt, ((refl, (refl, (refl, (refl, tt)))), a, ((refl, (refl, (refl, tt))), b, ((refl, (refl, tt)), c, ((refl, tt), tt, (tt, number_of-decimal 1 (omega arith), tt))))))

signed_order : (serial : List ℕ) (components entries : List Data) (metadata : Data) → ItemsInOrder (items_of components) → ItemsInOrder (items_of entries) → InOrder metadata
    → InOrder (with_serial serial (bill_document components entries metadata))
unfolding bill_document
signed_order serial components entries metadata a b c =
    ((refl, (refl, (refl, (refl, (refl, (refl, tt)))))), tt, ((refl, (refl, (refl, (refl, (refl, tt))))), a, ((refl, (refl, (refl, (refl, tt)))), b, ((refl, (refl, (refl, tt))), c, ((refl, (refl, tt)), tt, ((refl, tt), tt, (tt, number_of-decimal 1 (omega arith), tt)))))))

numbered_order : (has_serial : Bool) (components entries : List Data) (metadata : Data) → ItemsInOrder (items_of components) → ItemsInOrder (items_of entries) → InOrder metadata
    → InOrder (numbered has_serial (bill_document components entries metadata))
numbered_order false components entries metadata a b c = document_order components entries metadata a b c
numbered_order true components entries metadata a b c =
    signed_order (serial_text (compact_text (bill_document components entries metadata))) components entries metadata a b c

pub bill_order : (graph : GraphData) (options : OptionsData) (d : Data) → IsBill graph options d → InOrder d
bill_order graph options d bill =
    let about = bill.about in
    subst InOrder (sym (bill.is ∙ ap (numbered options.has_serial) about.is))
    (numbered_order options.has_serial about.components about.entries about.metadata
    (components_order graph options bill.root about.components about.are_components)
    (entries_order graph options bill.root about.entries about.are_entries)
    (metadata_order graph bill.root options about.metadata about.is_metadata))
