-- The lines of a text are read one after another.
use Rattle.std.proofs.Common.{◌≡◌, ℕ, pos, suc, ◌-◌, ◌^◌, ◌<◌, true, false, ◌==◌, List, [], ◌∷◌, ◌++◌, length, map, codes, Option, Some, None, option_and_then, refl, sym, ap, ◌∙◌, arith, append_assoc, append-nil, length-append}
use Rattle.std.proofs.lemmas.Bool.Decides.{nat_tests}
use Rattle.std.proofs.lemmas.Grind.{flat_map-append}
use Rattle.std.specs.Fmt.{decimal}
use Rattle.toml_parser.specs.Lexical.{first, is_ws, skip_blank, skip_from, skip_ws}
use Rattle.toml_parser.proofs.LexicalLemmas.{skip_ws_none}
use Rattle.toml.specs.Data.{Data, Items, no_items, push_item, string, integer, array}
use Rattle.toml.specs.View.{items_of}
use Rattle.toml.specs.Tables.{Document, Expression, define, key_value, std_table, array_table}
use Rattle.toml.specs.Parse.{val, items, after_element, expression, ends_line, line, lines}
use Rattle.toml.proofs.Blanks.{skip_none, skip_start, skip_newline, skip_space, skip_within}
use Rattle.toml.proofs.OnLiterals.{toml_on_literals}
use Rattle.toml.proofs.ReadLines.{run}
use Rattle.toml.specs.Text.{IsValueText}
use Rattle.toml.proofs.ReadValues.{item_join, item_join-none, item_join-push, read_value, value_start}
use Rattle.toml.proofs.Turns.{val_array, items_end, items_more, keyval_ok, lines_end, lines_more, lines_refused}
use Rattle.cargo_lock_lines.specs.Quoting.{quote, key_text}
use Rattle.cargo_lock_lines.specs.Layout.{comment_lines, join_lines, quote_line}
use Rattle.cargo_lock_lines.specs.Held.{HoldsExactly}
use Rattle.cargo_lock_lines.specs.Sections.{at_dependencies, metadata_section, package_section, patch_section, unused_section, at_version}
use Rattle.cargo_lock_lines.proofs.PrintedQuotes.{val-quote, key_equals-pair, key_start, key_some}

pub HoldsExactly-same : (es : List Expression) (a b : List ℕ) → skip_blank a ≡ skip_blank b → HoldsExactly es b → HoldsExactly es a
HoldsExactly-same [] a b same h = same ∙ h
HoldsExactly-same (e ∷ es) a b same h = let (s, rest, at, read, size, more) = h in (s, rest, same ∙ at, read, size, more)

read_step : (m : ℕ) (doc : Document) (x : List ℕ) (e : Expression) (after : List ℕ) (es : List Expression) (defined : Option Document) → defined ≡ define doc e → 0 < m → (length (skip_blank x) == 0) ≡ false
    → line (skip_blank x) ≡ Some (e, after) → ((next : Document) → lines (m - 1) next after ≡ option_and_then (λ n. run n es) (Some next)) → lines m doc x ≡ option_and_then (λ n. run n es) defined
read_step m doc x e after es None same some other read more = lines_refused m doc x e after some other read (sym same)
read_step m doc x e after es (Some next) same some other read more = lines_more m doc next x e after some other read (sym same) ∙ more next

pub lines_read : (es : List Expression) (text x : List ℕ) (doc : Document) (m : ℕ) → HoldsExactly es text → skip_blank x ≡ skip_blank text → length x < m → lines m doc x ≡ run doc es
lines_read [] text x doc m h skip room = lines_end m doc x (omega arith) (rw (skip, h) refl)
lines_read (e ∷ es) text x doc m h skip room =
    let (s, rest, at, read, size, more) = h in
    let same : skip_blank x ≡ s = skip ∙ at in
    let other : (length (skip_blank x) == 0) ≡ false = rw same (grind (arith, nat_tests)) in
    let within = skip_within x in
    read_step m doc x e (10 ∷ rest) es (define doc e) refl (omega arith) other (rw same read) (λ next. lines_read es rest (10 ∷ rest) next (m - 1) more (skip_newline rest) (omega (arith, ap length same)))

-- these lines hold these expressions, whatever follows
pub record Front (es : List Expression) (ls : List (List ℕ)) : Type 0 where
  pub holds : (fs : List Expression) (rest : List ℕ) → HoldsExactly fs rest → HoldsExactly (es ++ fs) (join_lines ls ++ rest)

pub front_then : {es gs : List Expression} {ls ms : List (List ℕ)} → Front es ls → Front gs ms → Front (es ++ gs) (ls ++ ms)
front_then {es} {gs} {ls} {ms} a b = record {
  holds = λ fs rest h.
      rw (append_assoc es gs fs, flat_map-append (λ (line : List ℕ). line ++ 10 ∷ []) ls ms, append_assoc (join_lines ls) (join_lines ms) rest)
      (a.holds (gs ++ fs) (join_lines ms ++ rest) (b.holds fs rest h));
}

pub front_none : Front [] []
front_none = record { holds = λ fs rest h. h }

pub front_blank : Front [] ([] ∷ [])
front_blank = record { holds = λ fs rest h. HoldsExactly-same fs (10 ∷ rest) rest (skip_newline rest) h }

pub front_comments : Front [] comment_lines
unfolding skip_from
front_comments = record { holds = λ fs rest h. HoldsExactly-same fs (join_lines comment_lines ++ rest) rest refl h }

-- an expression whose text is t and a newline
pub front_text : (e : Expression) (ls : List (List ℕ)) (t : List ℕ) → join_lines ls ≡ t ++ 10 ∷ [] → 0 < length t
    → ((rest : List ℕ) → skip_blank (t ++ 10 ∷ rest) ≡ t ++ 10 ∷ rest) → ((rest : List ℕ) → line (t ++ 10 ∷ rest) ≡ Some (e, 10 ∷ rest)) → Front (e ∷ []) ls
front_text e ls t same some start read = record {
  holds = λ fs rest h.
      let s = t ++ 10 ∷ rest in
      let whole : join_lines ls ++ rest ≡ s = rw same (append_assoc t (10 ∷ []) rest) in
      (s, rest, rw whole (start rest), read rest, omega (arith, length-append t (10 ∷ rest)), h);
}

one_line : (t : List ℕ) → join_lines (t ∷ []) ≡ t ++ 10 ∷ []
one_line t = append-nil (t ++ 10 ∷ [])

-- ---- pairs

line_pair : (k s rest : List ℕ) → line (key_text k ++ (codes " = " ++ (quote s ++ 10 ∷ rest))) ≡ Some ((([], k), key_value (string s)), 10 ∷ rest)
unfolding line expression
line_pair k s rest =
    let value_at = quote s ++ 10 ∷ rest in
    let t = key_text k ++ (codes " = " ++ value_at) in
    let pair = keyval_ok (val 80) t value_at (10 ∷ rest) ([], k) (string s) (key_equals-pair k value_at refl) (val-quote 80 s (10 ∷ rest) refl) in
    let start = key_start k (codes " = " ++ value_at) in
    let other : (first t == 91) ≡ false = grind (arith, nat_tests) in
    let ends : ends_line (skip_ws (10 ∷ rest)) ≡ true = rw (skip_ws_none (10 ∷ rest) refl) (grind (arith, nat_tests)) in
    rw (other, pair, ends)

skip_key : (k rest : List ℕ) → skip_blank (key_text k ++ rest) ≡ key_text k ++ rest
skip_key k rest =
    let start = key_start k rest in
    skip_start (key_text k ++ rest) (grind (arith, nat_tests))

pub front_pair : (k s : List ℕ) → Front ((([], k), key_value (string s)) ∷ []) ((key_text k ++ (codes " = " ++ quote s)) ∷ [])
front_pair k s =
    let t = key_text k ++ (codes " = " ++ quote s) in
    let shape : (rest : List ℕ) → t ++ 10 ∷ rest ≡ key_text k ++ (codes " = " ++ (quote s ++ 10 ∷ rest)) = λ rest. append_assoc (key_text k) (codes " = " ++ quote s) (10 ∷ rest) in
    front_text (([], k), key_value (string s)) (t ∷ []) t (one_line t) (omega (arith, key_some k, length-append (key_text k) (codes " = " ++ quote s)))
    (λ rest. rw (shape rest) (skip_key k _)) (λ rest. rw (shape rest) (line_pair k s rest))

-- ---- lists of texts

after_comma : (closing : ℕ) (t : List ℕ) → after_element closing (44 ∷ t) ≡ Some t
unfolding after_element
after_comma closing t = rw (skip_none (44 ∷ t) 44 refl refl)

module _ {X : Type 0} (text : X → List ℕ) where
  -- the line of what has a text, and its value
  abbrev pub line_of : X → List ℕ
  line_of x = quote_line (text x)

  abbrev pub value_of : X → Data
  value_of x = string (text x)

  -- the lines of some texts, and what follows
  texts_front : (x : X) (xs : List X) (rest : List ℕ)
      → join_lines (map line_of (x ∷ xs)) ++ rest ≡ 32 ∷ (quote (text x) ++ (44 ∷ 10 ∷ (join_lines (map line_of xs) ++ rest)))
  texts_front x xs rest = simp append_assoc refl

  read_quotes : (xs : List X) (n : ℕ) (rest s : List ℕ) (found : Items) (m : ℕ) → skip_blank s ≡ skip_blank (join_lines (map line_of xs) ++ (93 ∷ rest)) → length s < m
      → items (val n) m found s ≡ Some (item_join found (items_of (map value_of xs)), rest)
  read_quotes [] n rest s found m skip room =
      let closing : skip_blank s ≡ 93 ∷ rest = skip ∙ skip_none (93 ∷ rest) 93 refl refl in
      items_end (val n) m found s (omega arith) (rw closing refl) ∙ rw (closing, item_join-none found)
  read_quotes (x ∷ xs) n rest s found m skip room =
      let more = join_lines (map line_of xs) ++ (93 ∷ rest) in
      let r2 = 44 ∷ 10 ∷ more in
      let t = quote (text x) ++ r2 in
      let at_start : skip_blank s ≡ t = skip ∙ ap skip_blank (texts_front x xs (93 ∷ rest)) ∙ skip_space t ∙ skip_none t 34 refl refl in
      let other : (first (skip_blank s) == 93) ≡ false = rw at_start refl in
      let within = skip_within s in
      let sizes = length-append (quote (text x)) r2 in
      let shorter : length (skip_blank s) ≡ length t = ap length at_start in
      let tail = read_quotes xs n rest (10 ∷ more) (push_item found (value_of x)) (m - 1) (skip_newline more) (omega arith) in
      items_more (val n) m found s (value_of x) r2 (10 ∷ more) (omega arith) other (rw at_start (val-quote n (text x) r2 refl)) (after_comma 93 (10 ∷ more)) ∙ tail ∙ ap (λ t. Some (t, rest)) (item_join-push found (value_of x) (items_of (map value_of xs)))

  val-quotes : (xs : List X) (rest : List ℕ) → val 80 (91 ∷ 10 ∷ (join_lines (map line_of xs) ++ (93 ∷ rest))) ≡ Some (array (items_of (map value_of xs)), rest)
  val-quotes xs rest =
      let t = join_lines (map line_of xs) ++ (93 ∷ rest) in
      val_array 79 (91 ∷ 10 ∷ t) refl ∙ rw (read_quotes xs 79 rest (10 ∷ t) no_items (length (91 ∷ 10 ∷ t)) (skip_newline t) (omega arith))

  line_list : (k : List ℕ) (xs : List X) (rest : List ℕ)
      → line (key_text k ++ (codes " = " ++ (91 ∷ 10 ∷ (join_lines (map line_of xs) ++ (93 ∷ 10 ∷ rest))))) ≡ Some ((([], k), key_value (array (items_of (map value_of xs)))), 10 ∷ rest)
  unfolding line expression
  line_list k xs rest =
      let value_at = 91 ∷ 10 ∷ (join_lines (map line_of xs) ++ (93 ∷ 10 ∷ rest)) in
      let t = key_text k ++ (codes " = " ++ value_at) in
      let pair = keyval_ok (val 80) t value_at (10 ∷ rest) ([], k) (array (items_of (map value_of xs))) (key_equals-pair k value_at refl) (val-quotes xs (10 ∷ rest)) in
      let start = key_start k (codes " = " ++ value_at) in
      let other : (first t == 91) ≡ false = grind (arith, nat_tests) in
      let ends : ends_line (skip_ws (10 ∷ rest)) ≡ true = rw (skip_ws_none (10 ∷ rest) refl) (grind (arith, nat_tests)) in
      rw (other, pair, ends)

  pub front_list : (xs : List X) → Front ((([], at_dependencies), key_value (array (items_of (map value_of xs)))) ∷ []) (codes "dependencies = [" ∷ (map line_of xs ++ codes "]" ∷ []))
  front_list xs =
      let ls = codes "dependencies = [" ∷ (map line_of xs ++ codes "]" ∷ []) in
      let inner = join_lines (map line_of xs) in
      let t = at_dependencies ++ (codes " = " ++ (91 ∷ 10 ∷ (inner ++ 93 ∷ []))) in
      let same : join_lines ls ≡ t ++ 10 ∷ [] = rw (flat_map-append (λ (line : List ℕ). line ++ 10 ∷ []) (map line_of xs) (codes "]" ∷ [])) (simp append_assoc refl) in
      let shape : (rest : List ℕ) → t ++ 10 ∷ rest ≡ at_dependencies ++ (codes " = " ++ (91 ∷ 10 ∷ (inner ++ (93 ∷ 10 ∷ rest)))) = λ rest. simp append_assoc refl in
      front_text (([], at_dependencies), key_value (array (items_of (map value_of xs)))) ls t same (omega arith)
      (λ rest. rw (shape rest) (skip_key at_dependencies _)) (λ rest. rw (shape rest) (line_list at_dependencies xs rest))

-- ---- headers and the number

not_empty : (rest : List ℕ) → (suc (length rest) == 0) ≡ false
not_empty rest = grind (arith, nat_tests)

pub front_package : Front ((([], package_section), array_table) ∷ []) (codes "[[package]]" ∷ [])
unfolding toml_on_literals
front_package = front_text (([], package_section), array_table) (codes "[[package]]" ∷ []) (codes "[[package]]") refl (omega arith) (λ rest. refl) (λ rest. rw (not_empty rest) refl)

pub front_patch : Front (((patch_section ∷ [], unused_section), array_table) ∷ []) (codes "[[patch.unused]]" ∷ [])
unfolding toml_on_literals
front_patch = front_text ((patch_section ∷ [], unused_section), array_table) (codes "[[patch.unused]]" ∷ []) (codes "[[patch.unused]]") refl (omega arith) (λ rest. refl) (λ rest. rw (not_empty rest) refl)

pub front_metadata : Front ((([], metadata_section), std_table) ∷ []) (codes "[metadata]" ∷ [])
unfolding toml_on_literals
front_metadata = front_text (([], metadata_section), std_table) (codes "[metadata]" ∷ []) (codes "[metadata]") refl (omega arith) (λ rest. refl) (λ rest. rw (not_empty rest) refl)

line_number : (n : ℕ) (rest : List ℕ) → n < 2 ^ 63 → line (codes "version = " ++ (decimal n ++ 10 ∷ rest)) ≡ Some ((([], at_version), key_value (integer (pos n))), 10 ∷ rest)
unfolding line expression
line_number n rest small =
    let value_at = decimal n ++ 10 ∷ rest in
    let t = at_version ++ (codes " = " ++ value_at) in
    let text : IsValueText false (integer (pos n)) (decimal n) = (refl, omega arith) in
    let start = (value_start false (integer (pos n)) (decimal n) (10 ∷ rest) text refl).1 in
    let read : val 80 value_at ≡ Some (integer (pos n), 10 ∷ rest) = read_value false (integer (pos n)) 80 (decimal n) (10 ∷ rest) text (omega arith) refl ((refl, refl), (refl, refl)) in
    let none : is_ws (first value_at) ≡ false = grind (arith, nat_tests) in
    let pair = keyval_ok (val 80) t value_at (10 ∷ rest) ([], at_version) (integer (pos n)) (key_equals-pair at_version value_at none) read in
    let other : (first t == 91) ≡ false = refl in
    let ends : ends_line (skip_ws (10 ∷ rest)) ≡ true = rw (skip_ws_none (10 ∷ rest) refl) (grind (arith, nat_tests)) in
    rw (other, pair, ends)

pub front_number : (n : ℕ) → n < 2 ^ 63 → Front ((([], at_version), key_value (integer (pos n))) ∷ []) ((codes "version = " ++ decimal n) ∷ [])
front_number n small =
    let t = codes "version = " ++ decimal n in
    let shape : (rest : List ℕ) → t ++ 10 ∷ rest ≡ codes "version = " ++ (decimal n ++ 10 ∷ rest) = λ rest. append_assoc (codes "version = ") (decimal n) (10 ∷ rest) in
    front_text (([], at_version), key_value (integer (pos n))) (t ∷ []) t (one_line t) (omega arith)
    (λ rest. rw (shape rest) (skip_key at_version _)) (λ rest. rw (shape rest) (line_number n rest small))
