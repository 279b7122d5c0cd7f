-- The table that the lines of a lockfile make.
use Rattle.std.proofs.Common.{◌≡◌, ℕ, ℤ, suc, ◌==◌, true, false, List, [], ◌∷◌, ◌++◌, length, map, Option, Some, None, option_map, option_and_then, refl, sym, ap, ◌∙◌, arith}
use Rattle.std.proofs.lemmas.List.{map-append}
use Rattle.std.proofs.lemmas.Option.{none-some, same_Some}
use Rattle.std.specs.List.{flat_map, AllByRecursion}
use Rattle.std.specs.Option.{option_to_list}
use Rattle.toml_parser.specs.Lexical.{first}
use Rattle.toml.specs.Data.{Data, string, integer, array, table, Items, Members, member, no_members, is_before}
use Rattle.toml.specs.Tables.{Node, Nodes, no_nodes, node, open_table, implicit, header, std_table, put, open_array, value, get_node, insert, close, close_node, Expression, along_dots, along_header, at_key, define, Document}
use Rattle.toml.specs.Parse.{lines, parse_document, skip_bom}
use Rattle.toml.proofs.ReadLines.{run}
use Rattle.toml.proofs.Fill.{roots, run-append}
use Rattle.toml.proofs.Blanks.{Below, below_from, snoc, join, join-none, join-last, get_node-below, insert-below, close-snoc, Below-snoc}
use Rattle.toml.proofs.NodeLaws.{get_node-insert, replace-insert, along_missing}
use Rattle.toml.proofs.Turns.{at_key_new, document_some}
use Rattle.cargo_lock_lines.specs.Layout.{Ascends}
use Rattle.cargo_lock_lines.specs.Sections.{at_checksum, metadata_section, package_section, patch_section, at_replace, unused_section, at_version}
use Rattle.cargo_lock_lines.specs.Held.{HoldsExactly}
use Rattle.cargo_lock_lines.specs.TableOfWords.{identity_pairs, identity_table, identity_value, lined_expressions, lined_pairs, lined_table, lined_value, LinedIdentity, LinedLockfile, LinedPackage, list_pairs, metadata_expressions, number_pairs, optional_pairs, pair_expression, patch_expressions, present_members, text_members, text_pairs, unless_empty, unless_no_patch, unless_no_text, words_table}
use Rattle.cargo_lock_lines.proofs.PrintedLines.{lines_read}
use Rattle.cargo_lock_lines.proofs.PrintedEdits.{Makes, elements, fill_elements, puts, run_elements, run_entry}

-- ---- the parts

abbrev with_node : List ℕ → Option Node → Nodes → Nodes
with_node k None ns = ns
with_node k (Some x) ns = insert k x ns

-- the expressions leave this node at the key, whatever the section
record Part (k : List ℕ) (wanted : Option Data) (root : Nodes) (es : List Expression) : Type 0 where
  part : Option Node
  left : (s : List (List ℕ)) → roots (run (root, s) es) ≡ Some (with_node k part root)
  stands : option_map close_node part ≡ wanted

-- ---- the expressions of a package

pub package-parts : (p : LinedPackage)
    → map pair_expression (lined_pairs p) ≡ map pair_expression (identity_pairs p.identity) ++ (map pair_expression (optional_pairs at_checksum p.checksum) ++ (map pair_expression (list_pairs p.dependencies) ++ map pair_expression (optional_pairs at_replace p.replace)))
package-parts p =
    let i = identity_pairs p.identity in
    let k = optional_pairs at_checksum p.checksum in
    let l = list_pairs p.dependencies in
    let r = optional_pairs at_replace p.replace in
    map-append pair_expression i (k ++ (l ++ r)) ∙ ap (λ (es : List Expression). map pair_expression i ++ es) (map-append pair_expression k (l ++ r) ∙ ap (λ (es : List Expression). map pair_expression k ++ es) (map-append pair_expression l r))

-- ---- the table of a package

abbrev words_of : List ℕ → List ℕ → Option (List ℕ) → Option (List ℕ) → List (List ℕ) → Option (List ℕ) → LinedPackage
words_of n v s c ds r = record { identity = record { name = n; version = v; source = s }; checksum = c; dependencies = ds; replace = r }

makes-words : (n v : List ℕ) (s c : Option (List ℕ)) (ds : List (List ℕ)) (r : Option (List ℕ)) → Makes lined_pairs lined_table (words_of n v s c ds r)
unfolding along_dots at_key
makes-words n v None None [] None = record { nodes = _; put = refl; closed = refl }
makes-words n v None None [] (Some r) = record { nodes = _; put = refl; closed = refl }
makes-words n v None None (d ∷ ds) None = record { nodes = _; put = refl; closed = refl }
makes-words n v None None (d ∷ ds) (Some r) = record { nodes = _; put = refl; closed = refl }
makes-words n v None (Some c) [] None = record { nodes = _; put = refl; closed = refl }
makes-words n v None (Some c) [] (Some r) = record { nodes = _; put = refl; closed = refl }
makes-words n v None (Some c) (d ∷ ds) None = record { nodes = _; put = refl; closed = refl }
makes-words n v None (Some c) (d ∷ ds) (Some r) = record { nodes = _; put = refl; closed = refl }
makes-words n v (Some s) None [] None = record { nodes = _; put = refl; closed = refl }
makes-words n v (Some s) None [] (Some r) = record { nodes = _; put = refl; closed = refl }
makes-words n v (Some s) None (d ∷ ds) None = record { nodes = _; put = refl; closed = refl }
makes-words n v (Some s) None (d ∷ ds) (Some r) = record { nodes = _; put = refl; closed = refl }
makes-words n v (Some s) (Some c) [] None = record { nodes = _; put = refl; closed = refl }
makes-words n v (Some s) (Some c) [] (Some r) = record { nodes = _; put = refl; closed = refl }
makes-words n v (Some s) (Some c) (d ∷ ds) None = record { nodes = _; put = refl; closed = refl }
makes-words n v (Some s) (Some c) (d ∷ ds) (Some r) = record { nodes = _; put = refl; closed = refl }

all-make : (ws : List LinedPackage) → AllByRecursion (Makes lined_pairs lined_table) ws
all-make [] = tt
all-make (w ∷ ws) = (makes-words w.identity.name w.identity.version w.identity.source w.checksum w.dependencies w.replace, all-make ws)

lined_part : (ws : List LinedPackage) (root : Nodes) → get_node (package_section) root ≡ None
    → Part (package_section) (unless_empty (map lined_value ws)) root (flat_map lined_expressions ws)
unfolding along_header
lined_part [] root none = record { part = None; left = λ s. refl; stands = refl }
lined_part (w ∷ ws) root none =
    let f = fill_elements lined_pairs lined_table (package_section) w ws root (all-make (w ∷ ws)) none in
    record {
      part = Some (open_array f.done f.last);
      left = λ s. run_elements lined_pairs lined_table [] (package_section) w ws root s ∙ f.filled;
      stands = ap (λ (i : Items). Some (array i)) f.items;
    }

number_left : (v : Option ℤ) → roots (run (no_nodes, []) (option_to_list (option_map (λ z. pair_expression (at_version, integer z)) v))) ≡ Some (with_node at_version (option_map (λ z. value (integer z)) v) no_nodes)
unfolding define along_header along_dots at_key
number_left None = refl
number_left (Some z) = refl

number_stands : (v : Option ℤ) → option_map close_node (option_map (λ z. value (integer z)) v) ≡ option_map integer v
number_stands None = refl
number_stands (Some z) = refl

-- one part after another
then_part : (o : Option Document) (es : List Expression) (r : Nodes) (final : Option Nodes) → roots o ≡ Some r → ((s : List (List ℕ)) → roots (run (r, s) es) ≡ final)
    → roots (option_and_then (λ d. run d es) o) ≡ final
then_part None es r final e more = absurd (none-some r e)
then_part (Some d) es r final e more = rw (← same_Some d.0 r e) at (more d.1)

after_part : (doc : Document) (es fs : List Expression) (r : Nodes) (final : Option Nodes) → roots (run doc es) ≡ Some r → ((s : List (List ℕ)) → roots (run (r, s) fs) ≡ final)
    → roots (run doc (es ++ fs)) ≡ final
after_part doc es fs r final e more = rw (run-append doc es fs) (then_part (run doc es) fs r final e more)

from_roots : (o : Option Document) (n : Nodes) → roots o ≡ Some n → (doc : Document) × (o ≡ Some doc) × (doc.0 ≡ n)
from_roots None n e = absurd (none-some n e)
from_roots (Some doc) n e = (doc, refl, same_Some doc.0 n e)

pub no_skip : (text : List ℕ) → (first text == 239) ≡ false → skip_bom text ≡ text
unfolding skip_bom
no_skip text h = rw h

-- ---- unused patches

makes_with : (n v : List ℕ) (o : Option (List ℕ)) → let i : LinedIdentity = record { name = n; version = v; source = o } in Makes identity_pairs identity_table i
unfolding along_dots at_key
makes_with n v None = record { nodes = _; put = refl; closed = refl }
makes_with n v (Some s) = record { nodes = _; put = refl; closed = refl }

makes_patches : (is : List LinedIdentity) → AllByRecursion (Makes identity_pairs identity_table) is
makes_patches [] = tt
makes_patches (i ∷ is) = (makes_with i.name i.version i.source, makes_patches is)

-- ---- the pairs of the metadata

-- each key is before those that follow it
abbrev Before : List (List ℕ × List ℕ) → Type 0
Before [] = Unit {0}
Before (m ∷ ms) = (is_before m.0 (text_members ms) ≡ true) × Before ms

Before-ascends : (ms : List (List ℕ × List ℕ)) → Ascends ms → Before ms
Before-ascends [] h = tt
Before-ascends (m ∷ []) h = (refl, tt)
Before-ascends (m ∷ n ∷ ms) h = (h.0, Before-ascends (n ∷ ms) h.1)

put-new : (found : Nodes) (k : List ℕ) (d : Data) → Below found k → put ([], k) d found ≡ Some (snoc found k (value d))
unfolding along_dots at_key
put-new found k d h = rw (get_node-below found k h, insert-below found k (value d) h)

-- the found nodes stand before the pairs to come
abbrev FitsTexts : Nodes → List (List ℕ × List ℕ) → Type 0
FitsTexts found [] = Unit {0}
FitsTexts found (m ∷ ms) = Below found m.0

fits_next : (found : Nodes) (k : List ℕ) (x : Node) (ms : List (List ℕ × List ℕ)) → Below found k → is_before k (text_members ms) ≡ true → FitsTexts (snoc found k x) ms
fits_next found k x [] h order = tt
fits_next found k x (m ∷ ms) h order = Below-snoc found k m.0 x h (below_from k m.0 order)

fits_none : (ms : List (List ℕ × List ℕ)) → FitsTexts no_nodes ms
fits_none [] = tt
fits_none (m ∷ ms) = tt

abbrev with_texts : Nodes → List (List ℕ × List ℕ) → Nodes
with_texts found [] = found
with_texts found (m ∷ ms) = with_texts (snoc found m.0 (value (string m.1))) ms

puts_texts : (ms : List (List ℕ × List ℕ)) (found : Nodes) → FitsTexts found ms → Before ms → puts (text_pairs ms) found ≡ Some (with_texts found ms)
puts_texts [] found fits h = refl
puts_texts (m ∷ ms) found fits h =
    rw (put-new found m.0 (string m.1) fits) (puts_texts ms (snoc found m.0 (value (string m.1))) (fits_next found m.0 (value (string m.1)) ms fits h.0) h.1)

close_texts : (ms : List (List ℕ × List ℕ)) (found : Nodes) → close (with_texts found ms) ≡ join (close found) (text_members ms)
close_texts [] found = sym (join-none (close found))
close_texts (m ∷ ms) found =
    close_texts ms (snoc found m.0 (value (string m.1))) ∙ rw (close-snoc found m.0 (value (string m.1))) (join-last (close found) m.0 (string m.1) (text_members ms))

patch_part : (is : List LinedIdentity) (root : Nodes) → get_node (patch_section) root ≡ None
    → Part (patch_section) (unless_no_patch (map identity_value is)) root (flat_map patch_expressions is)
unfolding along_header
patch_part [] root none = record { part = None; left = λ s. refl; stands = refl }
patch_part (i ∷ is) root none =
    let f = fill_elements identity_pairs identity_table (unused_section) i is no_nodes (makes_patches (i ∷ is)) refl in
    record {
      part = Some (open_table implicit (node (unused_section) (open_array f.done f.last) no_nodes));
      left = λ s. run_elements identity_pairs identity_table (patch_section ∷ []) (unused_section) i is root s ∙ along_missing (patch_section) [] (elements identity_pairs identity_table (unused_section) (i ∷ is)) root none ∙ rw f.filled refl;
      stands = ap (λ (i : Items). Some (table (member (unused_section) (array i) no_members))) f.items;
    }

metadata_part : (ms : List (List ℕ × List ℕ)) (root : Nodes) → Before ms → get_node (metadata_section) root ≡ None
    → Part (metadata_section) (unless_no_text ms) root (metadata_expressions ms)
unfolding along_header
metadata_part [] root h none = record { part = None; left = λ s. refl; stands = refl }
metadata_part (m ∷ ms) root h none =
    let k = metadata_section in
    let w = open_table header no_nodes in
    let n = with_texts no_nodes (m ∷ ms) in
    record {
      part = Some (open_table header n);
      left = λ s. run_entry [] k std_table (text_pairs (m ∷ ms)) root s tt
          ∙ rw (at_key_new k std_table root none, get_node-insert k w root, puts_texts (m ∷ ms) no_nodes (fits_none (m ∷ ms)) h, replace-insert k w (open_table header n) root) refl;
      stands = ap (λ (t : Members). Some (table t)) (close_texts (m ∷ ms) no_nodes);
    }

-- ---- the parts together

abbrev root_of : Option Node → Option Node → Option Node → Option Node → Nodes
root_of v p t m = with_node (metadata_section) m (with_node (patch_section) t (with_node (package_section) p (with_node at_version v no_nodes)))

no_package : (v : Option Node) → get_node (package_section) (with_node at_version v no_nodes) ≡ None
no_package None = refl
no_package (Some x) = refl

no_patch : (v p : Option Node) → get_node (patch_section) (with_node (package_section) p (with_node at_version v no_nodes)) ≡ None
no_patch None None = refl
no_patch None (Some y) = refl
no_patch (Some x) None = refl
no_patch (Some x) (Some y) = refl

no_metadata : (v p t : Option Node) → get_node (metadata_section) (with_node (patch_section) t (with_node (package_section) p (with_node at_version v no_nodes))) ≡ None
no_metadata None None None = refl
no_metadata None None (Some z) = refl
no_metadata None (Some y) None = refl
no_metadata None (Some y) (Some z) = refl
no_metadata (Some x) None None = refl
no_metadata (Some x) None (Some z) = refl
no_metadata (Some x) (Some y) None = refl
no_metadata (Some x) (Some y) (Some z) = refl

abbrev closed_of : Option Data → Option Data → Option Data → Option Data → Members
closed_of m p t v = present_members ((metadata_section, m) ∷ (package_section, p) ∷ (patch_section, t) ∷ (at_version, v) ∷ [])

close_root : (v p t m : Option Node) → close (root_of v p t m) ≡ closed_of (option_map close_node m) (option_map close_node p) (option_map close_node t) (option_map close_node v)
close_root None None None None = refl
close_root None None None (Some w) = refl
close_root None None (Some z) None = refl
close_root None None (Some z) (Some w) = refl
close_root None (Some y) None None = refl
close_root None (Some y) None (Some w) = refl
close_root None (Some y) (Some z) None = refl
close_root None (Some y) (Some z) (Some w) = refl
close_root (Some x) None None None = refl
close_root (Some x) None None (Some w) = refl
close_root (Some x) None (Some z) None = refl
close_root (Some x) None (Some z) (Some w) = refl
close_root (Some x) (Some y) None None = refl
close_root (Some x) (Some y) None (Some w) = refl
close_root (Some x) (Some y) (Some z) None = refl
close_root (Some x) (Some y) (Some z) (Some w) = refl

number-run : (v : Option ℤ) → map pair_expression (number_pairs v) ≡ option_to_list (option_map (λ z. pair_expression (at_version, integer z)) v)
number-run None = refl
number-run (Some z) = refl

abbrev pub all_expressions : LinedLockfile → List Expression
all_expressions w = map pair_expression (number_pairs w.number) ++ (flat_map lined_expressions w.packages ++ (flat_map patch_expressions w.patches ++ metadata_expressions w.metadata))

-- the table of such lines
pub lined-parsed : (w : LinedLockfile) (text : List ℕ) → Ascends w.metadata → HoldsExactly (all_expressions w) text → skip_bom text ≡ text
    → parse_document text ≡ Some (words_table w)
unfolding words_table
lined-parsed w text ascends held start =
    let v = w.number in
    let es = all_expressions w in
    let read : lines (suc (length text)) (no_nodes, []) text ≡ run (no_nodes, []) es = lines_read es text text (no_nodes, []) (suc (length text)) held refl (omega arith) in
    let n = option_map (λ z. value (integer z)) v in
    let r0 = with_node at_version n no_nodes in
    let p = lined_part w.packages r0 (no_package n) in
    let r1 = with_node (package_section) p.part r0 in
    let t = patch_part w.patches r1 (no_patch n p.part) in
    let r2 = with_node (patch_section) t.part r1 in
    let m = metadata_part w.metadata r2 (Before-ascends w.metadata ascends) (no_metadata n p.part t.part) in
    let final = Some (with_node (metadata_section) m.part r2) in
    let first_run : roots (run (no_nodes, []) (map pair_expression (number_pairs v))) ≡ Some r0 = ap (λ (xs : List Expression). roots (run (no_nodes, []) xs)) (number-run v) ∙ number_left v in
    let ran : roots (run (no_nodes, []) es) ≡ final =
    after_part (no_nodes, []) (map pair_expression (number_pairs v)) _ r0 final first_run
    (λ s0. after_part (r0, s0) (flat_map lined_expressions w.packages) _ r1 final (p.left s0)
    (λ s1. after_part (r1, s1) (flat_map patch_expressions w.patches) (metadata_expressions w.metadata) r2 final (t.left s1) m.left)) in
    let (doc, some, same) = from_roots (run (no_nodes, []) es) (root_of n p.part t.part m.part) ran in
    let wanted : Members = closed_of (unless_no_text w.metadata) (unless_empty (map lined_value w.packages)) (unless_no_patch (map identity_value w.patches)) (option_map integer v) in
    let stands : closed_of (option_map close_node m.part) (option_map close_node p.part) (option_map close_node t.part) (option_map close_node n) ≡ wanted = rw (m.stands, p.stands, t.stands, number_stands v) refl in
    let closed : close doc.0 ≡ wanted = ap close same ∙ close_root n p.part t.part m.part ∙ stands in
    let parsed : parse_document text ≡ Some (close doc.0) = document_some text doc (rw start (read ∙ some)) in
    parsed ∙ ap Some closed
