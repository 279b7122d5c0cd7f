-- The printed text of a lockfile is read as its table, since its lines are those of words.
use Rattle.std.proofs.Common.{◌≡◌, ◌<◌, ◌^◌, ℕ, ℤ, pos, negsuc, nat_le, Bool, true, false, if◌then◌else◌, List, [], ◌∷◌, ◌++◌, map, codes, Option, Some, None, option_map, refl, sym, ap, ◌∙◌, arith, append-nil}
use Rattle.std.specs.Prelude.{T, decimal}
use Rattle.std.proofs.lemmas.Bool.{and_parts}
use Rattle.std.specs.FinMap.{entries, entries_sorted, is_sorted}
use Rattle.std.specs.FinMap.Entries.{below_all}
use Rattle.std.specs.List.{flat_map}
use Rattle.std.specs.Option.{option_to_list}
use Rattle.std.specs.Cmp.Lexicographic.{slice_cmp}
use Rattle.std.specs.Ordering.{nat_cmp, is_lt}
use Rattle.semver.specs.Parse.{Parts}
use Rattle.semver.specs.Identifiers.{parts_text}
use Rattle.toml.specs.Data.{Data, string, integer, table}
use Rattle.toml.specs.Parse.{parse_document}
use Rattle.cargo_lock_lines.specs.Sections.{at_checksum, at_dependencies, metadata_section, at_name, package_section, patch_section, at_replace, at_source, at_version}
use Rattle.cargo_lock_lines.specs.TableOfWords.{LinedIdentity, LinedLockfile, LinedPackage, identity_value, lined_value, present_members, unless_empty, unless_no_patch, unless_no_text, words_table}
use Rattle.cargo_lock_lines.specs.Layout.{Ascends, IsReadNumber, comment_lines, field, join_lines, lined_lines, lines_of_words, list_lines, metadata_lines, number_lines, optional_line, quote_line, unused_lines}
use Rattle.cargo_lock_lines.proofs.PrintedWords.{words-are-read}
use Rattle.cargo_lock_parts.specs.Checksum.{digest_text}
use Rattle.cargo_lock_parts.specs.Identity.{Identity}
use Rattle.cargo_lock_parts.specs.Source.{MarkedSource}
use Rattle.cargo_lock_parts.specs.SourceText.{marked_text}
use Rattle.cargo_lock_references.specs.Reference.{Reference, reference_text}
use Rattle.cargo_lock_references.specs.Records.{EncodedPackage, Texts}
use Rattle.cargo_lock_references.specs.declared.version.ResolveVersion.{ResolveVersion}
use Rattle.cargo_lock_references.specs.declared.version.ResolveVersion.TheVariants.{V1, V2, V3, V4}
use Rattle.cargo_lock_references.specs.WrittenReference.{written_source}
use Rattle.cargo_lock_encoding.specs.Lockfiles.{EncodedData, is_escaped_number}
use Rattle.cargo_lock_encoding.specs.Table.{encoded_of, encoded_package_value, reference_value, unused_patch_value, written_version}
use Rattle.cargo_lock_encoding.specs.Text.{dependency_line, encoded_lines, package_lines, patch_lines, reference_lines, version_lines}
use Rattle.cargo_lock_encoding.specs.PrintedTable.{HasSmallNumber, TextIsRead, ValuesAreRead, printed_number, printed_package, printed_replace, printed_table}

-- ---- the words of values

abbrev identity_words : List ℕ → Parts → Option MarkedSource → LinedIdentity
identity_words name version source = record { name = name; version = parts_text version; source = option_map marked_text source }

abbrev package_words : EncodedPackage → LinedPackage
package_words e = record {
  identity = identity_words e.name e.version e.source;
  checksum = option_map digest_text e.checksum;
  dependencies = map reference_text e.dependencies;
  replace = option_map reference_text (printed_replace e.dependencies e.replace);
}

abbrev patch_words : Bool → Identity → LinedIdentity
patch_words escaped i = identity_words i.name i.version (written_source escaped i.source)

abbrev printed_words : EncodedData → LinedLockfile
printed_words e = record {
  number = printed_number e.version;
  packages = map package_words e.packages;
  patches = map (patch_words (is_escaped_number e.version)) e.patch;
  metadata = entries e.metadata;
}

-- ---- their lines

joined : {a b c d e f : List (List ℕ)} → a ≡ b → c ≡ d → e ≡ f → a ++ (c ++ e) ≡ b ++ (d ++ f)
joined one two three = rw (one, two, three) refl

lines-of-option : {A : Type 0} (k : List ℕ) (text : A → List ℕ) (o : Option A) → optional_line k (option_map text o) ≡ option_to_list (option_map (λ x. field k (text x)) o)
lines-of-option k text None = refl
lines-of-option k text (Some x) = refl

lines-of-list : (fs : List Reference) → map quote_line (map reference_text fs) ≡ map dependency_line fs
lines-of-list [] = refl
lines-of-list (f ∷ fs) = ap (λ (ls : List (List ℕ)). dependency_line f ∷ ls) (lines-of-list fs)

lines-of-references : (ds : List Reference) (r : Option Reference)
    → list_lines (map reference_text ds) ++ optional_line at_replace (option_map reference_text (printed_replace ds r)) ≡ reference_lines ds r
lines-of-references [] r = lines-of-option at_replace reference_text r
lines-of-references (d ∷ ds) r =
    append-nil (list_lines (map reference_text (d ∷ ds))) ∙ ap (λ (ls : List (List ℕ)). codes "dependencies = [" ∷ (ls ++ codes "]" ∷ [])) (lines-of-list (d ∷ ds))

lines-of-package : (e : EncodedPackage) → lined_lines (package_words e) ≡ package_lines e
lines-of-package e =
    ap (λ (ls : List (List ℕ)). [] ∷ codes "[[package]]" ∷ field at_name e.name ∷ field at_version (parts_text e.version) ∷ ls)
    (joined (lines-of-option at_source marked_text e.source) (lines-of-option at_checksum digest_text e.checksum) (lines-of-references e.dependencies e.replace))

lines-of-patch : (escaped : Bool) (i : Identity) → unused_lines (patch_words escaped i) ≡ patch_lines escaped i
lines-of-patch escaped i =
    ap (λ (ls : List (List ℕ)). [] ∷ codes "[[patch.unused]]" ∷ field at_name i.name ∷ field at_version (parts_text i.version) ∷ (ls ++ [] ∷ []))
    (lines-of-option at_source marked_text (written_source escaped i.source))

lines-of-all : {A X : Type 0} (f : A → X) (g : X → List (List ℕ)) (h : A → List (List ℕ)) → ((x : A) → g (f x) ≡ h x) → (xs : List A) → flat_map g (map f xs) ≡ flat_map h xs
lines-of-all f g h same [] = refl
lines-of-all f g h same (x ∷ xs) = rw (same x, lines-of-all f g h same xs) refl

lines-of-number : (n : ℕ) (b : Bool) → number_lines (if b then Some (pos n) else None) ≡ (if b then (codes "version = " ++ decimal n) ∷ [] else [])
lines-of-number n true = refl
lines-of-number n false = refl

lines-of-version : (v : Option ℤ) → number_lines (printed_number v) ≡ version_lines v
lines-of-version None = refl
lines-of-version (Some (negsuc n)) = refl
lines-of-version (Some (pos n)) = lines-of-number n (nat_le 3 n)

lines-of-values : (e : EncodedData) → lines_of_words (printed_words e) ≡ encoded_lines e
lines-of-values e =
    let escaped = is_escaped_number e.version in
    let packages = lines-of-all package_words lined_lines package_lines lines-of-package e.packages in
    let patches = lines-of-all (patch_words escaped) unused_lines (patch_lines escaped) (lines-of-patch escaped) e.patch in
    ap (λ (ls : List (List ℕ)). comment_lines ++ ls)
    (joined (lines-of-version e.version) packages (ap (λ (ls : List (List ℕ)). ls ++ metadata_lines (entries e.metadata)) patches))

-- ---- their table

data-of-option : {A : Type 0} (text : A → List ℕ) (o : Option A) → option_map string (option_map text o) ≡ option_map (λ x. string (text x)) o
data-of-option text None = refl
data-of-option text (Some x) = refl

data-of-all : {A X : Type 0} (f : A → X) (g : X → Data) (h : A → Data) → ((x : A) → g (f x) ≡ h x) → (xs : List A) → map g (map f xs) ≡ map h xs
data-of-all f g h same [] = refl
data-of-all f g h same (x ∷ xs) = rw (same x, data-of-all f g h same xs) refl

members-of-package : {a b c d e f g h : Option Data} (name version : Option Data) → a ≡ b → c ≡ d → e ≡ f → g ≡ h
    → present_members ((at_checksum, a) ∷ (at_dependencies, c) ∷ (at_name, name) ∷ (at_replace, e) ∷ (at_source, g) ∷ (at_version, version) ∷ [])
    ≡ present_members ((at_checksum, b) ∷ (at_dependencies, d) ∷ (at_name, name) ∷ (at_replace, f) ∷ (at_source, h) ∷ (at_version, version) ∷ [])
members-of-package name version one two three four = rw (one, two, three, four) refl

data-of-package : (e : EncodedPackage) → lined_value (package_words e) ≡ encoded_package_value (printed_package e)
data-of-package e =
    let references = data-of-all reference_text string reference_value (λ f. refl) e.dependencies in
    ap table (members-of-package (Some (string e.name)) (Some (string (parts_text e.version)))
    (data-of-option digest_text e.checksum) (ap unless_empty references) (data-of-option reference_text (printed_replace e.dependencies e.replace)) (data-of-option marked_text e.source))

data-of-packages : (es : List EncodedPackage) → map lined_value (map package_words es) ≡ map encoded_package_value (map printed_package es)
data-of-packages es =
    data-of-all package_words lined_value (λ e. encoded_package_value (printed_package e)) data-of-package es
    ∙ sym (data-of-all printed_package encoded_package_value (λ e. encoded_package_value (printed_package e)) (λ e. refl) es)

data-of-patch : (escaped : Bool) (i : Identity) → identity_value (patch_words escaped i) ≡ unused_patch_value escaped i
data-of-patch escaped i =
    ap (λ (s : Option Data). table (present_members ((at_name, Some (string i.name)) ∷ (at_source, s) ∷ (at_version, Some (string (parts_text i.version))) ∷ [])))
    (data-of-option marked_text (written_source escaped i.source))

members-of-lockfile : {a b c d : List Data} (metadata version : Option Data) → a ≡ b → c ≡ d
    → present_members ((metadata_section, metadata) ∷ (package_section, unless_empty a) ∷ (patch_section, unless_no_patch c) ∷ (at_version, version) ∷ [])
    ≡ present_members ((metadata_section, metadata) ∷ (package_section, unless_empty b) ∷ (patch_section, unless_no_patch d) ∷ (at_version, version) ∷ [])
members-of-lockfile metadata version one two = rw (one, two) refl

table-of-values : (e : EncodedData) → words_table (printed_words e) ≡ printed_table e
unfolding words_table
table-of-values e =
    let escaped = is_escaped_number e.version in
    members-of-lockfile (unless_no_text (entries e.metadata)) (option_map integer (printed_number e.version))
    (data-of-packages e.packages) (data-of-all (patch_words escaped) identity_value (unused_patch_value escaped) (data-of-patch escaped) e.patch)

-- ---- what is read

-- the keys of a map ascend
ascends-sorted : (ms : List (List ℕ × List ℕ)) → is_sorted (slice_cmp nat_cmp) ms ≡ true → Ascends ms
ascends-sorted [] h = tt
ascends-sorted (m ∷ []) h = tt
ascends-sorted (m ∷ n ∷ ms) h =
    let (low, more) = and_parts (below_all (slice_cmp nat_cmp) m.0 (n ∷ ms)) (is_sorted (slice_cmp nat_cmp) (n ∷ ms)) h in
    let next = and_parts (is_lt (slice_cmp nat_cmp m.0 n.0)) (below_all (slice_cmp nat_cmp) m.0 ms) low in
    (next.0, ascends-sorted (n ∷ ms) more)

true_from : (b : Bool) → T b → b ≡ true
true_from true h = refl
true_from false h = absurd h

ascends-entries : (m : Texts) → Ascends (entries m)
ascends-entries m = ascends-sorted (entries m) (true_from _ (entries_sorted m))

number-if : (n : ℕ) (b : Bool) → n < 2 ^ 63 → IsReadNumber (if b then Some (pos n) else None)
number-if n true small = small
number-if n false small = tt

number-read : (v : Option ℤ) → HasSmallNumber v → IsReadNumber (printed_number v)
number-read None small = tt
number-read (Some (negsuc n)) small = tt
number-read (Some (pos n)) small = number-if n (nat_le 3 n) small

pub values-are-read : ValuesAreRead
values-are-read e number =
    ap (λ (ls : List (List ℕ)). parse_document (join_lines ls)) (sym (lines-of-values e))
    ∙ words-are-read (printed_words e) (number-read e.version number) (ascends-entries e.metadata) ∙ ap Some (table-of-values e)

number_of : (format : ResolveVersion) → HasSmallNumber (written_version format)
number_of V1 = tt
number_of V2 = tt
number_of V3 = omega arith
number_of V4 = omega arith

pub text-is-read : TextIsRead
unfolding encoded_of
text-is-read l = values-are-read (encoded_of l) (number_of l.version)
