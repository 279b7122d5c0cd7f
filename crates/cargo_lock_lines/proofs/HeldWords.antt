-- What the lines of a text hold.
use Rattle.std.proofs.Common.{◌≡◌, ℕ, pos, ◌+◌, ◌<◌, ◌≤◌, ◌^◌, ◌==◌, true, false, List, [], ◌∷◌, ◌++◌, length, map, codes, Some, refl, sym, ap, subst, ◌∙◌, arith, append_assoc, append-nil, length-append}
use Rattle.std.specs.Borrow.{Bor}
use Rattle.std.proofs.lemmas.Bool.{and_parts, false≢true}
use Rattle.std.proofs.lemmas.Grind.{flat_map-append}
use Rattle.std.proofs.lemmas.List.{map-append}
use Rattle.std.specs.Cmp.Lexicographic.{slice_cmp}
use Rattle.std.specs.Ordering.{is_lt, nat_cmp}
use Rattle.std.specs.Fmt.{decimal}
use Rattle.std.specs.List.{flat_map, list_all}
use Rattle.toml_parser.proofs.LexicalLemmas.{skip_from-nil}
use Rattle.toml.specs.Tables.{Expression, array_table}
use Rattle.toml.specs.Parse.{parse_document}
use Rattle.cargo_lock_lines.specs.Quoting.{is_bare_byte, is_bare_key, is_plain_byte, key_text, quote}
use Rattle.cargo_lock_lines.specs.Layout.{Ascends, comment_lines, join_lines, quote_line}
use Rattle.cargo_lock_lines.specs.Sections.{at_checksum, package_section, at_replace}
use Rattle.cargo_lock_lines.specs.Held.{ArePackagesAt, ArePairsAt, ArePatchesAt, AreReferencesAt, Holds, HoldsList, IsBetween, IsLastKey, IsMetadataAt, HoldsExactly, word_line}
use Rattle.cargo_lock_lines.specs.TableOfWords.{LinedIdentity, LinedLockfile, LinedPackage, identity_pairs, lined_expressions, lined_pairs, metadata_expressions, number_pairs, optional_pairs, pair_expression, patch_expressions, text_pair, text_pairs, words_table}
use Rattle.cargo_lock_lines.proofs.Plain.{escape-plain}
use Rattle.cargo_lock_lines.proofs.PrintedLines.{Front, front_blank, front_comments, front_list, front_metadata, front_number, front_package, front_pair, front_patch}
use Rattle.cargo_lock_lines.proofs.Documents.{all_expressions, lined-parsed, no_skip, package-parts}

-- ---- what stands one after another

pub Holds-none : (text : List ℕ) → Holds text [] text
Holds-none text = record { holds = λ fs h. h; within = omega arith }

pub Holds-then : {es gs : List Expression} {text middle rest : List ℕ} → Holds text es middle → Holds middle gs rest → Holds text (es ++ gs) rest
Holds-then {es} {gs} a b = record {
  holds = λ fs h. rw (append_assoc es gs fs) (a.holds (gs ++ fs) (b.holds fs h));
  within = omega (arith, a.within, b.within);
}

Holds-front : {es : List Expression} {ls : List (List ℕ)} → Front es ls → (text rest : List ℕ) → text ≡ join_lines ls ++ rest → Holds text es rest
Holds-front {es} {ls} front text rest e = record {
  holds = λ fs h. subst (λ (x : List ℕ). HoldsExactly (es ++ fs) x) (sym e) (front.holds fs rest h);
  within = omega (arith, ap length e, length-append (join_lines ls) rest);
}

pub Holds-comments : (text rest : List ℕ) → text ≡ join_lines comment_lines ++ rest → Holds text [] rest
Holds-comments text rest e = Holds-front front_comments text rest e

pub Holds-blank : (text rest : List ℕ) → text ≡ codes "\n" ++ rest → Holds text [] rest
Holds-blank text rest e = Holds-front front_blank text rest e

pub Holds-header : (text rest : List ℕ) → text ≡ codes "[[package]]\n" ++ rest → Holds text ((([], package_section), array_table) ∷ []) rest
Holds-header text rest e = Holds-front front_package text rest e

pub Holds-field : (key text beginning word rest : List ℕ) → is_bare_key key ≡ true → beginning ≡ key ++ codes " = \"" → IsBetween text beginning word (codes "\"\n") rest
    → Holds text (pair_expression (text_pair key word) ∷ []) rest
Holds-field key text beginning word rest bare starts found =
    Holds-front (front_pair key word) text rest
    (found.whole ∙ rw (starts, bare, escape-plain word found.plain) (simp append_assoc refl))

pub Holds-number : (n : ℕ) (text rest : List ℕ) → n < 2 ^ 63 → text ≡ join_lines ((codes "version = " ++ decimal n) ∷ []) ++ rest → Holds text (map pair_expression (number_pairs (Some (pos n)))) rest
Holds-number n text rest small e = Holds-front (front_number n small) text rest e

-- ---- the list of references

words-lines : (ws : List (List ℕ)) → list_all (list_all is_plain_byte) ws ≡ true → map quote_line ws ≡ map word_line ws
words-lines [] h = refl
words-lines (w ∷ ws) h =
    let parts = and_parts (list_all is_plain_byte w) (list_all (list_all is_plain_byte) ws) h in
    let here : quote_line w ≡ word_line w = rw (escape-plain w parts.0) (ap (λ (t : List ℕ). 32 ∷ 34 ∷ t) (append_assoc w (34 ∷ []) (44 ∷ []))) in
    rw (here, words-lines ws parts.1) refl

-- no reference, and one more
pub References-none : (text : List ℕ) → AreReferencesAt text [] text
References-none text = record { plain = refl; whole = refl }

plain-more : (ws : List (List ℕ)) (w : List ℕ) → list_all (list_all is_plain_byte) ws ≡ true → list_all is_plain_byte w ≡ true → list_all (list_all is_plain_byte) (ws ++ w ∷ []) ≡ true
plain-more [] w h one = rw one refl
plain-more (v ∷ vs) w h one =
    let parts = and_parts (list_all is_plain_byte v) (list_all (list_all is_plain_byte) vs) h in
    rw (parts.0, plain-more vs w parts.1 one) refl

more-lines : (ws : List (List ℕ)) (w rest : List ℕ) → join_lines (map word_line (ws ++ w ∷ [])) ++ rest ≡ join_lines (map word_line ws) ++ (codes " \"" ++ (w ++ (codes "\",\n" ++ rest)))
more-lines [] w rest = simp append_assoc refl
more-lines (v ∷ vs) w rest = simp append_assoc (ap (λ (t : List ℕ). 32 ∷ 34 ∷ (v ++ (34 ∷ 44 ∷ 10 ∷ t))) (more-lines vs w rest))

pub References-more : (text rest onward word : List ℕ) (ws : List (List ℕ)) → AreReferencesAt text ws rest → IsBetween rest (codes " \"") word (codes "\",\n") onward
    → AreReferencesAt text (ws ++ word ∷ []) onward
References-more text rest onward word ws at found = record {
  plain = plain-more ws word at.plain found.plain;
  whole = at.whole ∙ ap (λ (t : List ℕ). join_lines (map word_line ws) ++ t) found.whole ∙ sym (more-lines ws word onward);
}

-- ---- the list

list-lines : (ws : List (List ℕ)) (rest : List ℕ) → join_lines (codes "dependencies = [" ∷ (map quote_line ws ++ codes "]" ∷ [])) ++ rest ≡ codes "dependencies = [\n" ++ (join_lines (map quote_line ws) ++ (codes "]\n" ++ rest))
list-lines ws rest = rw (flat_map-append (λ (line : List ℕ). line ++ 10 ∷ []) (map quote_line ws) (codes "]" ∷ [])) (simp append_assoc refl)

list-holds : (ws : List (List ℕ)) (text rest : List ℕ) → ¬ (length ws ≡ 0) → text ≡ join_lines (codes "dependencies = [" ∷ (map quote_line ws ++ codes "]" ∷ [])) ++ rest → HoldsList text ws rest
list-holds [] text rest some e = absurd (some refl)
list-holds (w ∷ ws) text rest some e = Holds-front (front_list (λ t. t) (w ∷ ws)) text rest e

pub List-at : (ws : List (List ℕ)) (text list end rest : List ℕ) → ¬ (length ws ≡ 0)
    → text ≡ codes "dependencies = [\n" ++ list → AreReferencesAt list ws end → end ≡ codes "]\n" ++ rest → HoldsList text ws rest
List-at ws text list end rest some starts at ends =
    list-holds ws text rest some (starts ∙ ap (λ (t : List ℕ). codes "dependencies = [\n" ++ t) (at.whole ∙ rw (ends, ← words-lines ws at.plain) refl) ∙ sym (list-lines ws rest))

pub lined-is : (w : LinedLockfile) (text r0 r1 r2 r3 r4 : List ℕ) → text ≡ join_lines comment_lines ++ r0 → Holds r0 (map pair_expression (number_pairs w.number)) r1 → ArePackagesAt r1 w.packages r2 → ArePatchesAt r2 w.patches r3
    → IsMetadataAt r3 w.metadata r4 → Holds r4 [] [] → parse_document text ≡ Some (words_table w)
lined-is w text r0 r1 r2 r3 r4 starts number packages patches metadata ends =
    let ms = metadata_expressions w.metadata in
    let exprs = all_expressions w in
    let none : HoldsExactly [] [] = skip_from-nil true false in
    let all = Holds-then (Holds-comments text r0 starts) (Holds-then number (Holds-then packages (Holds-then patches (Holds-then metadata.holds ends)))) in
    let held : HoldsExactly exprs text = rw (append-nil ms, append-nil exprs) at (all.holds [] none) in
    lined-parsed w text metadata.ascends held (no_skip text (rw starts refl))

-- ---- packages, patches and pairs, one after another

more-all : {X : Type 0} (f : X → List Expression) (text rest onward : List ℕ) (ws : List X) (w : X) → Holds text (flat_map f ws) rest → Holds rest (f w) onward → Holds text (flat_map f (ws ++ w ∷ [])) onward
more-all f text rest onward ws w at more =
    let all : flat_map f (ws ++ w ∷ []) ≡ flat_map f ws ++ f w =
    flat_map-append f ws (w ∷ []) ∙ ap (λ (xs : List Expression). flat_map f ws ++ xs) (append-nil (f w)) in
    subst (λ (xs : List Expression). Holds text xs onward) (sym all) (Holds-then at more)

pub Packages-none : (text : List ℕ) → ArePackagesAt text [] text
Packages-none text = Holds-none text

pub Patches-none : (text : List ℕ) → ArePatchesAt text [] text
Patches-none text = Holds-none text

pub Packages-more : (text rest start below onward : List ℕ) (ws : List LinedPackage) (w : LinedPackage) → ArePackagesAt text ws rest → Holds rest [] start → start ≡ codes "[[package]]\n" ++ below → Holds below (map pair_expression (lined_pairs w)) onward
    → ArePackagesAt text (ws ++ w ∷ []) onward
Packages-more text rest start below onward ws w at blank heads one =
    more-all lined_expressions text rest onward ws w at (Holds-then blank (Holds-then (Holds-header start below heads) one))

pub Patches-more : (text rest start below onward : List ℕ) (ws : List LinedIdentity) (w : LinedIdentity) → ArePatchesAt text ws rest → Holds rest [] start → start ≡ codes "[[patch.unused]]\n" ++ below → Holds below (map pair_expression (identity_pairs w)) onward
    → ArePatchesAt text (ws ++ w ∷ []) onward
Patches-more text rest start below onward ws w at blank heads one =
    more-all patch_expressions text rest onward ws w at (Holds-then blank (Holds-then (Holds-front front_patch start below heads) one))

Ascends-more : (ms : List (List ℕ × List ℕ)) (m : List ℕ × List ℕ) (k : List ℕ) → Ascends ms → IsLastKey ms k → is_lt (slice_cmp nat_cmp k m.0) ≡ true → Ascends (ms ++ m ∷ [])
Ascends-more [] m k h last before = tt
Ascends-more (n ∷ []) m k h last before = (rw last before, tt)
Ascends-more (n ∷ l ∷ ms) m k h last before = (h.0, Ascends-more (l ∷ ms) m k h.1 last before)

pub LastKey-more : (ms : List (List ℕ × List ℕ)) (m : List ℕ × List ℕ) → IsLastKey (ms ++ m ∷ []) m.0
LastKey-more [] m = refl
LastKey-more (n ∷ []) m = refl
LastKey-more (n ∷ l ∷ ms) m = LastKey-more (l ∷ ms) m

pub Pairs-none : (text : List ℕ) → ArePairsAt text [] text
Pairs-none text = record { holds = Holds-none text; ascends = tt }

pub Pairs-more : (text rest onward : List ℕ) (ms : List (List ℕ × List ℕ)) (m : List ℕ × List ℕ) (k : List ℕ) → ArePairsAt text ms rest → IsLastKey ms k → is_lt (slice_cmp nat_cmp k m.0) ≡ true
    → Holds rest (pair_expression (text_pair m.0 m.1) ∷ []) onward → ArePairsAt text (ms ++ m ∷ []) onward
Pairs-more text rest onward ms m k at last before one = record {
  holds = rw (map-append (λ (x : List ℕ × List ℕ). text_pair x.0 x.1) ms (m ∷ []), map-append pair_expression (text_pairs ms) (text_pair m.0 m.1 ∷ [])) (Holds-then at.holds one);
  ascends = Ascends-more ms m k at.ascends last before;
}

metadata-holds : (ms : List (List ℕ × List ℕ)) (start below rest : List ℕ) → ¬ (length ms ≡ 0) → start ≡ codes "[metadata]\n" ++ below → Holds below (map pair_expression (text_pairs ms)) rest → Holds start (metadata_expressions ms) rest
metadata-holds [] start below rest some heads pairs = absurd (some refl)
metadata-holds (m ∷ ms) start below rest some heads pairs = Holds-then (Holds-front front_metadata start below heads) pairs

pub Metadata-none : (text : List ℕ) → IsMetadataAt text [] text
Metadata-none text = record { holds = Holds-none text; ascends = tt }

pub Metadata-at : (ms : List (List ℕ × List ℕ)) (text start below rest : List ℕ) → ¬ (length ms ≡ 0) → Holds text [] start → start ≡ codes "[metadata]\n" ++ below → ArePairsAt below ms rest → IsMetadataAt text ms rest
Metadata-at ms text start below rest some blank heads pairs =
    record { holds = Holds-then blank (metadata-holds ms start below rest some heads pairs.holds); ascends = pairs.ascends }

is-quoted : (key : List ℕ) → list_all is_bare_byte key ≡ false → is_bare_key key ≡ false
is-quoted [] other = refl
is-quoted (b ∷ bs) other = other

quoted-key : (key : List ℕ) → list_all is_bare_byte key ≡ false → key_text key ≡ quote key
quoted-key key other = rw (is-quoted key other)

pair-line : (k v rest : List ℕ) → join_lines (((34 ∷ (k ++ 34 ∷ [])) ++ (codes " = " ++ (34 ∷ (v ++ 34 ∷ [])))) ∷ []) ++ rest ≡ 34 ∷ (k ++ (34 ∷ 32 ∷ 61 ∷ 32 ∷ 34 ∷ (v ++ (34 ∷ 10 ∷ rest))))
pair-line k v rest =
    let q : List ℕ = 34 ∷ [] in
    let b : List ℕ = 32 ∷ 61 ∷ 32 ∷ 34 ∷ (v ++ 34 ∷ []) in
    let n : List ℕ = 10 ∷ [] in
    ap (λ (t : List ℕ). 34 ∷ t) (append_assoc (((k ++ q) ++ b) ++ n) [] rest ∙ append_assoc ((k ++ q) ++ b) n rest ∙ append_assoc (k ++ q) b (10 ∷ rest) ∙ append_assoc k q (b ++ (10 ∷ rest))
    ∙ ap (λ (t : List ℕ). k ++ (34 ∷ 32 ∷ 61 ∷ 32 ∷ 34 ∷ t)) (append_assoc v q (10 ∷ rest)))

pub Holds-pair : (text key onward held rest : List ℕ) → list_all is_bare_byte key ≡ false → IsBetween text (codes "\"") key (codes "\" = ") onward → IsBetween onward (codes "\"") held (codes "\"\n") rest
    → Holds text (pair_expression (text_pair key held) ∷ []) rest
Holds-pair text key onward held rest other one two =
    Holds-front (front_pair key held) text rest
    (one.whole ∙ rw (two.whole, quoted-key key other, escape-plain key one.plain, escape-plain held two.plain) (sym (pair-line key held rest)))

pub Some-words : (ws : List (Bor (List ℕ))) (n : ℕ) → length ws ≡ n → (n == 0) ≡ false → ¬ (length (map (λ (w : Bor (List ℕ)). w.now) ws) ≡ 0)
Some-words [] n len other e = let f : true ≡ false = rw (← len) at other in false≢true (sym f)
Some-words (w ∷ ws) n len other e = omega (arith, e)

pub Package-at : (p : LinedPackage) (text a b c rest : List ℕ) → Holds text (map pair_expression (identity_pairs p.identity)) a → Holds a (map pair_expression (optional_pairs at_checksum p.checksum)) b
    → HoldsList b p.dependencies c → Holds c (map pair_expression (optional_pairs at_replace p.replace)) rest → Holds text (map pair_expression (lined_pairs p)) rest
Package-at p text a b c rest identity checksum dependencies replace =
    subst (λ (es : List Expression). Holds text es rest) (sym (package-parts p)) (Holds-then identity (Holds-then checksum (Holds-then dependencies replace)))

-- the end of the text
pub Holds-end : (text rest : List ℕ) → Holds text [] rest → length rest ≡ 0 → Holds text [] []
Holds-end text [] held none = held
Holds-end text (x ∷ xs) held none = absurd (omega (arith, none))

pub Between-within : (text beginning word end rest : List ℕ) → IsBetween text beginning word end rest → length beginning + length rest ≤ length text
Between-within text beginning word end rest found =
    omega (arith, ap length found.whole, length-append beginning (word ++ (end ++ rest)), length-append word (end ++ rest), length-append end rest)

pub Not-zero : (k n : ℕ) → k ≡ n → (n == 0) ≡ false → ¬ (k ≡ 0)
Not-zero k n same other e = let z : n ≡ 0 = sym same ∙ e in let f : true ≡ false = rw z at other in false≢true (sym f)
