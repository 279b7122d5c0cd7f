-- The lines of words are read as the table of the words.
use Rattle.std.proofs.Common.{ℕ, ℤ, pos, negsuc, List, [], ◌∷◌, ◌++◌, map, Option, Some, None, true, false, refl, sym, subst, append-nil}
use Rattle.std.specs.List.{flat_map}
use Rattle.toml_parser.proofs.LexicalLemmas.{skip_from-nil}
use Rattle.toml.specs.Tables.{Expression, array_table}
use Rattle.cargo_lock_lines.specs.Sections.{at_checksum, at_name, package_section, at_replace, at_source, at_version}
use Rattle.cargo_lock_lines.specs.TableOfWords.{LinedIdentity, LinedLockfile, LinedPackage, identity_pairs, lined_expressions, list_pairs, metadata_expressions, number_pairs, optional_pairs, pair_expression, patch_expressions, text_pair, text_pairs}
use Rattle.cargo_lock_lines.specs.Layout.{IsReadNumber, WordsAreRead, field, identity_lines, join_lines, lined_lines, lines_of_words, list_lines, metadata_lines, number_lines, optional_line, pair_line, unused_lines}
use Rattle.cargo_lock_lines.specs.Held.{HoldsExactly}
use Rattle.cargo_lock_lines.proofs.Documents.{all_expressions, lined-parsed, no_skip, package-parts}
use Rattle.cargo_lock_lines.proofs.PrintedLines.{Front, front_blank, front_comments, front_list, front_metadata, front_none, front_number, front_package, front_pair, front_patch, front_then}

-- ---- packages

front_optional : (k : List ℕ) → ((s : List ℕ) → Front (pair_expression (text_pair k s) ∷ []) (field k s ∷ [])) → (o : Option (List ℕ)) → Front (map pair_expression (optional_pairs k o)) (optional_line k o)
front_optional k one None = front_none
front_optional k one (Some s) = one s

front_identity : (i : LinedIdentity) → Front (map pair_expression (identity_pairs i)) (identity_lines i)
front_identity i =
    front_then (front_pair at_name i.name) (front_then (front_pair at_version i.version) (front_optional at_source (λ s. front_pair at_source s) i.source))

front_dependencies : (ws : List (List ℕ)) → Front (map pair_expression (list_pairs ws)) (list_lines ws)
front_dependencies [] = front_none
front_dependencies (w ∷ ws) = front_list (λ t. t) (w ∷ ws)

front_lined : (p : LinedPackage) → Front (lined_expressions p) (lined_lines p)
front_lined p =
    let checksum = front_optional at_checksum (λ s. front_pair at_checksum s) p.checksum in
    let replace = front_optional at_replace (λ s. front_pair at_replace s) p.replace in
    let fields = front_then (front_identity p.identity) (front_then checksum (front_then (front_dependencies p.dependencies) replace)) in
    let whole = front_then front_blank (front_then front_package fields) in
    subst (λ (es : List Expression). Front ((([], package_section), array_table) ∷ es) (lined_lines p)) (sym (package-parts p)) whole

-- ---- unused patches and the metadata

front_unused : (i : LinedIdentity) → Front (patch_expressions i) (unused_lines i)
front_unused i =
    let es = map pair_expression (identity_pairs i) in
    let last = front_then {gs = []} (front_identity i) front_blank in
    let fields = subst (λ (fs : List Expression). Front fs (identity_lines i ++ [] ∷ [])) (append-nil es) last in
    front_then front_blank (front_then front_patch fields)

front_texts : (ms : List (List ℕ × List ℕ)) → Front (map pair_expression (text_pairs ms)) (map pair_line ms)
front_texts [] = front_none
front_texts (m ∷ ms) = front_then (front_pair m.0 m.1) (front_texts ms)

front_metadata_lines : (ms : List (List ℕ × List ℕ)) → Front (metadata_expressions ms) (metadata_lines ms)
front_metadata_lines [] = front_none
front_metadata_lines (m ∷ ms) = front_then front_blank (front_then front_metadata (front_texts (m ∷ ms)))

-- ---- the whole

front_flat_map : {X : Type 0} (f : X → List Expression) (g : X → List (List ℕ)) → ((x : X) → Front (f x) (g x)) → (xs : List X) → Front (flat_map f xs) (flat_map g xs)
front_flat_map f g one [] = front_none
front_flat_map f g one (x ∷ xs) = front_then (one x) (front_flat_map f g one xs)

front_version : (v : Option ℤ) → IsReadNumber v → Front (map pair_expression (number_pairs v)) (number_lines v)
front_version None small = front_none
front_version (Some (negsuc n)) small = absurd small
front_version (Some (pos n)) small = front_number n small

front_words : (w : LinedLockfile) → IsReadNumber w.number → Front (all_expressions w) (lines_of_words w)
front_words w number =
    front_then front_comments
    (front_then (front_version w.number number)
    (front_then (front_flat_map lined_expressions lined_lines front_lined w.packages)
    (front_then (front_flat_map patch_expressions unused_lines front_unused w.patches) (front_metadata_lines w.metadata))))

pub words-are-read : WordsAreRead
words-are-read w number ascends =
    let es = all_expressions w in
    let text = join_lines (lines_of_words w) in
    let none : HoldsExactly [] [] = skip_from-nil true false in
    let all : HoldsExactly (es ++ []) (text ++ []) = (front_words w number).holds [] [] none in
    let held : HoldsExactly es text = subst (λ (fs : List Expression). HoldsExactly fs text) (append-nil es) (subst (λ (t : List ℕ). HoldsExactly (es ++ []) t) (append-nil text) all) in
    lined-parsed w text ascends held (no_skip text refl)
