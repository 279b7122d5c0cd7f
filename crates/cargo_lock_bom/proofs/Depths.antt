-- How deep a bill nests: a document, a list of components, a component, its hashes, a hash.
use Rattle.std.proofs.Common.{◌≡◌, ℕ, ◌≤◌, suc, max, Bool, true, false, IfSome, List, [], ◌∷◌, ◌++◌, map, slice_get, codes, Option, Some, None, option_map, arith, lit≤}
use Rattle.std.specs.List.{AllZip}
use Rattle.std.proofs.Math.Nat.{max-le}
use Rattle.std.specs.Cmp.Lexicographic.{slice_cmp}
use Rattle.std.specs.declared.cmp.Ordering.{Ordering}
use Rattle.std.specs.declared.cmp.Ordering.TheVariants.{Less, Equal, Greater}
use Rattle.std.specs.Ordering.{match_ordering, nat_cmp}
use Rattle.serde_json.specs.Data.{Data, Members, Num, unsigned, null, boolean, number, array, object, string, member, no_members, put, depth, items_depth, members_depth}
use Rattle.serde_json.specs.Read.{max_depth}
use Rattle.serde_json.specs.View.{items_of}
use Rattle.serde_json.specs.Written.{compact_text}
use Rattle.cargo_lock_parts.specs.Identity.{PackageData, identity_of}
use Rattle.cargo_lock_parts.specs.Source.{Kind, Source, Git, Path, Registry, SparseRegistry, LocalRegistry, Directory}
use Rattle.cargo_lock_graph.specs.Edges.{GraphData}
use Rattle.cargo_lock_bom.specs.declared.root.Root.{Root}
use Rattle.cargo_lock_bom.specs.declared.root.Root.TheVariants.{Package, Workspace, Nothing}
use Rattle.cargo_lock_bom.specs.Component.{AreComponents, base_members, component_at, component_if, component_of, hashes_of, license_at, licenses_of, put_some, repositories_by, repositories_if, repositories_of, root_component}
use Rattle.cargo_lock_bom.specs.Dependencies.{AreBillEntries, AreOwnEntries, IsNodeEntry, entry_with, node_reference}
use Rattle.cargo_lock_bom.specs.Document.{IsAbout, IsBill, bill_document}
use Rattle.cargo_lock_bom.specs.Iri.{iri_text}
use Rattle.cargo_lock_bom.specs.Metadata.{IsBillMetadata, author_of, authors_if, bill_metadata, own_members, properties_if, property_object}
use Rattle.cargo_lock_bom.specs.Options.{Expression, LicenseData, Named, OptionsData}
use Rattle.cargo_lock_bom.specs.Purl.{purl_of}
use Rattle.cargo_lock_bom.specs.References.{workspace_reference}
use Rattle.cargo_lock_bom.specs.Root.{is_application}
use Rattle.cargo_lock_bom.specs.Serial.{numbered, serial_text, with_serial}
use Rattle.cargo_lock_bom.specs.UserInfo.{without_user_info}

items_depth-map : {X : Type 0} (f : X → Data) (n : ℕ) → ((x : X) → depth (f x) ≤ n) → (xs : List X) → items_depth (items_of (map f xs)) ≤ n
items_depth-map f n low [] = omega arith
items_depth-map f n low (x ∷ xs) = max-le (low x) (items_depth-map f n low xs)

items_depth-zip : {X : Type 0} (R : X → Data → Type 0) (n : ℕ) → ((x : X) (d : Data) → R x d → depth d ≤ n)
    → (xs : List X) (ds : List Data) → AllZip R xs ds → items_depth (items_of ds) ≤ n
items_depth-zip R n low xs [] all = omega arith
items_depth-zip R n low [] (d ∷ ds) all = absurd all
items_depth-zip R n low (x ∷ xs) (d ∷ ds) all = max-le (low x d all.0) (items_depth-zip R n low xs ds all.1)

suc_low : (a n : ℕ) → a ≤ n → suc a ≤ suc n
suc_low a n low = omega (arith, low)

string_low : (text : List ℕ) (n : ℕ) → depth (string text) ≤ n
string_low text n = omega arith

number_low : (x : Num) (n : ℕ) → depth (number x) ≤ n
number_low x n = omega arith

none_low : (n : ℕ) → members_depth no_members ≤ n
none_low n = omega arith

low-from : (d : Data) (n m : ℕ) → depth d ≡ n → n ≤ m → depth d ≤ m
low-from d n m at low = omega (arith, at, low)

-- ---- members that are put among others

one_of_three : (o : Ordering) (a b c : Members) (n : ℕ) → members_depth a ≤ n → members_depth b ≤ n → members_depth c ≤ n → members_depth (match_ordering o a b c) ≤ n
one_of_three Less a b c n x y z = x
one_of_three Equal a b c n x y z = y
one_of_three Greater a b c n x y z = z

first_low : (a b n : ℕ) → max a b ≤ n → a ≤ n
first_low a b n h = omega (arith, h)

later_low : (a b n : ℕ) → max a b ≤ n → b ≤ n
later_low a b n h = omega (arith, h)

put_low : (key : List ℕ) (d : Data) (ms : Members) (n : ℕ) → depth d ≤ n → members_depth ms ≤ n → members_depth (put key d ms) ≤ n
put_low key d no_members n low rest = max-le low (none_low n)
put_low key d (member k e ms) n low rest =
    let here = first_low (depth e) (members_depth ms) n rest in
    let later = later_low (depth e) (members_depth ms) n rest in
    one_of_three (slice_cmp nat_cmp key k) (member key d (member k e ms)) (member k d ms) (member k e (put key d ms)) n
    (max-le low rest) (max-le low later) (max-le here (put_low key d ms n low later))

-- the values that there are nest no deeper
abbrev IfLow : Option Data → ℕ → Type 0
IfLow o n = IfSome o (λ d. depth d ≤ n)

put_some_low : (key : List ℕ) (o : Option Data) (ms : Members) (n : ℕ) → IfLow o n → members_depth ms ≤ n → members_depth (put_some key o ms) ≤ n
put_some_low key None ms n low rest = rest
put_some_low key (Some d) ms n low rest = put_low key d ms n low rest

map_low : {X : Type 0} (f : X → Data) (o : Option X) (n : ℕ) → ((x : X) → depth (f x) ≤ n) → IfLow (option_map f o) n
map_low f None n low = tt
map_low f (Some x) n low = low x

-- ---- components

repository_low : (url : List ℕ) (precise : Option (List ℕ)) → depth (repositories_of url precise) ≤ 3
repository_low url None = lit≤ tt
repository_low url (Some text) = lit≤ tt

kind_low : (kind : Kind) (url : List ℕ) (precise : Option (List ℕ)) → IfLow (repositories_by kind url precise) 3
kind_low (Git reference) url precise = repository_low url precise
kind_low Path url precise = tt
kind_low Registry url precise = tt
kind_low SparseRegistry url precise = tt
kind_low LocalRegistry url precise = tt
kind_low Directory url precise = tt

repositories_low : (source : Option Source) → IfLow (repositories_if source) 3
repositories_low None = tt
repositories_low (Some s) = kind_low s.kind (iri_text (without_user_info s.url)) s.precise

base_low : (application : Bool) (p : PackageData) → members_depth (base_members application p) ≤ 3
base_low application p = lit≤ tt

license_low : (license : LicenseData) → depth (licenses_of license) ≤ 3
license_low (Expression text) = lit≤ tt
license_low (Named text) = lit≤ tt

component_low : (application : Bool) (license : Option LicenseData) (p : PackageData) → depth (component_of application license p) ≤ 4
unfolding component_of
component_low application license p =
    suc_low _ 3
    (put_some_low (codes "externalReferences") (repositories_if p.source) _ 3 (repositories_low p.source)
    (put_some_low (codes "hashes") (option_map hashes_of p.checksum) _ 3 (map_low hashes_of p.checksum 3 (λ d. lit≤ tt))
    (put_some_low (codes "licenses") (option_map licenses_of license) _ 3 (map_low licenses_of license 3 license_low)
    (put_some_low (codes "purl") (option_map string (purl_of (identity_of p))) _ 3 (map_low string (purl_of (identity_of p)) 3 (λ t. lit≤ tt))
    (base_low application p)))))

if_low : (application : Bool) (license : Option LicenseData) (o : Option PackageData) → depth (component_if application license o) ≤ 4
if_low application license None = omega arith
if_low application license (Some p) = component_low application license p

component_at_low : (graph : GraphData) (licenses : List (Option LicenseData)) (node : ℕ) → depth (component_at graph licenses node) ≤ 4
component_at_low graph licenses node = if_low (is_application graph node) (license_at licenses node) (slice_get graph.packages node)

components_low : (graph : GraphData) (options : OptionsData) (root : Root) (components : List Data) → AreComponents graph options root components → items_depth (items_of components) ≤ 4
components_low graph options root components are =
    rw are.are (items_depth-map (component_at graph options.licenses) 4 (component_at_low graph options.licenses) are.nodes)

with_low : (packages : List PackageData) (own : List ℕ) (targets : List ℕ) → depth (entry_with packages own targets) ≤ 2
unfolding entry_with
with_low packages own targets =
    let low : items_depth (items_of (map (λ k. string (node_reference packages k)) targets)) ≤ 0 =
    items_depth-map (λ k. string (node_reference packages k)) 0 (λ k. string_low (node_reference packages k) 0) targets in
    suc_low _ 1 (max-le (suc_low _ 0 low) (max-le (string_low own 1) (none_low 1)))

entry_low : (graph : GraphData) (node : ℕ) (d : Data) → IsNodeEntry graph node d → depth d ≤ 2
entry_low graph node d entry = rw entry.is (with_low graph.packages (node_reference graph.packages node) entry.targets)

own_low : (packages : List PackageData) (root : Root) (own : List Data) → AreOwnEntries packages root own → items_depth (items_of own) ≤ 2
own_low packages (Package node) own are = rw are (omega arith)
own_low packages Workspace own are =
    let low : depth are.0 ≤ 2 = rw are.1.is (with_low packages workspace_reference are.1.members) in
    rw are.2 (max-le low (omega arith))
own_low packages Nothing own are = rw are (omega arith)

items_depth-append : (n : ℕ) (xs ys : List Data) → items_depth (items_of xs) ≤ n → items_depth (items_of ys) ≤ n → items_depth (items_of (xs ++ ys)) ≤ n
items_depth-append n [] ys a b = b
items_depth-append n (x ∷ xs) ys a b = max-le (first_low (depth x) (items_depth (items_of xs)) n a) (items_depth-append n xs ys (later_low (depth x) (items_depth (items_of xs)) n a) b)

entries_low : (graph : GraphData) (options : OptionsData) (root : Root) (entries : List Data) → AreBillEntries graph options root entries → items_depth (items_of entries) ≤ 2
entries_low graph options root entries bill =
    let are = bill.are_entries in
    rw are.are (items_depth-append 2 are.of_nodes are.own
    (items_depth-zip (IsNodeEntry graph) 2 (entry_low graph) bill.nodes are.of_nodes are.are_of_nodes)
    (own_low graph.packages root are.own are.are_own))

-- ---- the metadata

root_low : (graph : GraphData) (licenses : List (Option LicenseData)) (root : Root) → IfLow (root_component graph licenses root) 4
root_low graph licenses (Package node) = component_at_low graph licenses node
root_low graph licenses Workspace = lit≤ tt
root_low graph licenses Nothing = tt

authors_low : (names : List (List ℕ)) → IfLow (authors_if names) 4
authors_low [] = tt
authors_low (name ∷ names) = suc_low _ 3 (items_depth-map author_of 3 (λ n. lit≤ tt) (name ∷ names))

properties_low : (properties : List (List ℕ × List ℕ)) → IfLow (properties_if properties) 4
properties_low [] = tt
properties_low (p ∷ ps) = suc_low _ 3 (items_depth-map property_object 3 (λ q. lit≤ tt) (p ∷ ps))

metadata_low : (graph : GraphData) (root : Root) (options : OptionsData) (d : Data) → IsBillMetadata graph root options d → depth d ≤ 5
unfolding bill_metadata
metadata_low graph root options d is =
    rw is.is (suc_low _ 4
    (put_some_low (codes "timestamp") (option_map string is.time) _ 4 (map_low string is.time 4 (λ t. lit≤ tt))
    (put_some_low (codes "properties") (properties_if options.properties) _ 4 (properties_low options.properties)
    (put_some_low (codes "component") (root_component graph options.licenses root) _ 4 (root_low graph options.licenses root)
    (put_some_low (codes "authors") (authors_if options.authors) _ 4 (authors_low options.authors)
    (let own : members_depth (own_members options.tool_version) ≤ 4 = lit≤ tt in own))))))

-- a bill nests less deep than a reader of JSON follows
about_low : (graph : GraphData) (root : Root) (options : OptionsData) (d : Data) → IsAbout graph root options d → depth d ≤ 126
unfolding bill_document
about_low graph root options d about =
    let components = components_low graph options root about.components about.are_components in
    let entries = entries_low graph options root about.entries about.are_entries in
    let metadata = metadata_low graph root options about.metadata about.is_metadata in
    let components_list : suc (items_depth (items_of about.components)) ≤ 125 = omega (arith, components) in
    let entries_list : suc (items_depth (items_of about.entries)) ≤ 125 = omega (arith, entries) in
    let metadata_part : depth about.metadata ≤ 125 = omega (arith, metadata) in
    rw about.is (suc_low _ 125 (max-le (string_low (codes "CycloneDX") 125) (max-le components_list (max-le entries_list
    (max-le metadata_part (max-le (string_low (codes "1.6") 125) (max-le (number_low (unsigned 1) 125) (none_low 125))))))))

serial_low : (serial : List ℕ) (d : Data) → depth d ≤ 126 → depth (with_serial serial d) ≤ 126
serial_low serial null low = low
serial_low serial (boolean b) low = low
serial_low serial (number n) low = low
serial_low serial (string s) low = low
serial_low serial (array ds) low = low
serial_low serial (object ms) low =
    let rest : members_depth ms ≤ 125 = omega (arith, low) in
    suc_low _ 125 (put_low (codes "serialNumber") (string serial) ms 125 (omega arith) rest)

numbered_low : (has_serial : Bool) (d : Data) → depth d ≤ 126 → depth (numbered has_serial d) ≤ 126
numbered_low false d low = low
numbered_low true d low = serial_low (serial_text (compact_text d)) d low

pub bill_low : (graph : GraphData) (options : OptionsData) (d : Data) → IsBill graph options d → depth d ≤ max_depth
bill_low graph options d bill =
    let low = numbered_low options.has_serial bill.plain (about_low graph bill.root options bill.plain bill.about) in
    let more : depth (numbered options.has_serial bill.plain) ≤ max_depth = omega (arith, low) in
    rw bill.is more
