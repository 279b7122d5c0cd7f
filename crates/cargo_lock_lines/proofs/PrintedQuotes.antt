-- A quoted text is read back.
use Rattle.std.proofs.Common.{◌≡◌, ℕ, suc, ◌<◌, true, false, cond, ◌&&◌, ◌||◌, ◌==◌, List, [], ◌∷◌, ◌++◌, length, slice_index, Some, refl, sym, ap, ◌∙◌, inl, inr, arith, append_assoc, codes}
use Rattle.std.proofs.lemmas.Bool.{cases_Bool, and_parts, and_left, false≢true}
use Rattle.std.proofs.lemmas.Bool.Decides.{nat_tests}
use Rattle.std.specs.List.{list_all}
use Rattle.toml_parser.specs.Lexical.{first, is_bare, is_ws, skip_ws, split_while}
use Rattle.toml_parser.specs.Strings.{starts_string, body, one_line, quoted, simple_key}
use Rattle.toml_parser.proofs.LexicalLemmas.{split_while-run, skip_ws_none, skip_ws_space}
use Rattle.toml_parser.proofs.StringsLemmas.{key_after_turn}
use Rattle.toml_writer.specs.Text.{escaped, needs_escape, escape_text, quotes_after}
use Rattle.toml_writer.proofs.Escapes.{Escaped-needed, apart_from_plain, needs_quote, quotes_after_needed, quotes_after_other}
use Rattle.toml_writer.proofs.Bodies.{escaped-cons, escaped-nil, body_escaped}
use Rattle.toml.specs.Data.{string}
use Rattle.toml.specs.Parse.{read_map, atom, val, key_equals}
use Rattle.toml.proofs.Turns.{val_atom}
use Rattle.cargo_lock_lines.specs.Quoting.{escape, escape_byte, quote, is_bare_key, is_bare_byte, key_text}

-- a byte is escaped as the kit's writer does it
byte_same : (c : ℕ) → escape_byte c ≡ cond (needs_escape false 0 c) (escape_text c) (c ∷ [])
unfolding needs_escape
byte_same c = grind (arith, nat_tests)

quotes_zero : (c : ℕ) → quotes_after false 0 c ≡ 0
quotes_zero c =
    elim (cases_Bool (needs_escape false 0 c)) [
      | inl needed ↦ quotes_after_needed false 0 c needed
      | inr plain ↦ quotes_after_other false 0 c (apart_from_plain false 0 c 34 plain (needs_quote 0))
    ]

pub escape_same : (s : List ℕ) → escape s ≡ escaped false 0 s
unfolding escape escaped
escape_same [] = refl
escape_same (c ∷ cs) = rw (byte_same c, quotes_zero c, escape_same cs) refl

quoted_one_line : (d : ℕ) (t : List ℕ) → (first t == d && slice_index t 1 == d) ≡ false → quoted (d ∷ t) ≡ body d false (suc (length t)) t
unfolding quoted one_line
quoted_one_line d t other = rw other

basic_head : (s rest : List ℕ) → (first rest == 34) ≡ false
    → let t = escaped false 0 s ++ (34 ∷ rest) in (first t == 34 && slice_index t 1 == 34) ≡ false
basic_head [] rest other = rw (escaped-nil false 0) other
basic_head (c ∷ cs) rest other =
    let step = escaped-cons false 0 c cs (34 ∷ rest) in
    elim (cases_Bool (needs_escape false 0 c)) [
      | inl needed ↦ let e = Escaped-needed false 0 c needed in rw (step, needed, e.text)
      | inr plain ↦
          let apart = apart_from_plain false 0 c 34 plain (needs_quote 0) in
          rw (step, plain) (and_left (c == 34) _ apart)
    ]

pub quoted-quote : (s rest : List ℕ) → (first rest == 34) ≡ false → quoted (quote s ++ rest) ≡ Some (s, rest)
quoted-quote s rest stop =
    let t = escaped false 0 s ++ (34 ∷ rest) in
    let e : quote s ++ rest ≡ 34 ∷ t = rw (escape_same s) (ap (λ (x : List ℕ). 34 ∷ x) (append_assoc (escaped false 0 s) (34 ∷ []) rest)) in
    rw e (quoted_one_line 34 t (basic_head s rest stop) ∙ body_escaped false s rest 0 _ (omega arith) stop (omega arith))

pub quote-append : (s rest : List ℕ) → quote s ++ rest ≡ 34 ∷ (escaped false 0 s ++ (34 ∷ rest))
quote-append s rest = rw (escape_same s) (ap (λ (x : List ℕ). 34 ∷ x) (append_assoc (escaped false 0 s) (34 ∷ []) rest))

atom_string : (text : List ℕ) → starts_string text ≡ true → atom text ≡ read_map string (quoted text)
unfolding atom
atom_string text h = rw h

-- as a value
pub val-quote : (n : ℕ) (s rest : List ℕ) → (first rest == 34) ≡ false → val n (quote s ++ rest) ≡ Some (string s, rest)
val-quote n s rest stop =
    let t = quote s ++ rest in
    val_atom n t refl refl ∙ atom_string t refl ∙ rw (quoted-quote s rest stop)

-- ---- keys

-- as a key
simple_key_string : (t : List ℕ) → simple_key (34 ∷ t) ≡ body 34 false (suc (length t)) t
unfolding simple_key one_line
simple_key_string t = refl

simple_key-quote : (k rest : List ℕ) → (first rest == 34) ≡ false → simple_key (quote k ++ rest) ≡ Some (k, rest)
simple_key-quote k rest stop =
    let t = escaped false 0 k ++ (34 ∷ rest) in
    rw (quote-append k rest) (simple_key_string t ∙ body_escaped false k rest 0 _ (omega arith) stop (omega arith))

bare_same : (c : ℕ) → is_bare_byte c ≡ is_bare c
bare_same c = grind (arith, nat_tests)

all_bare : (k : List ℕ) → list_all is_bare_byte k ≡ list_all is_bare k
all_bare [] = refl
all_bare (c ∷ cs) = rw (bare_same c, all_bare cs) refl

simple_key_on : (text : List ℕ) → starts_string text ≡ false → is_bare (first text) ≡ true → simple_key text ≡ Some (split_while is_bare text)
unfolding simple_key
simple_key_on text neither bare = rw (neither, bare)

simple_key-bare : (k rest : List ℕ) → is_bare_key k ≡ true → is_bare (first rest) ≡ false → simple_key (k ++ rest) ≡ Some (k, rest)
simple_key-bare [] rest bare stop = absurd (false≢true bare)
simple_key-bare (c ∷ cs) rest bare stop =
    let all : list_all is_bare (c ∷ cs) ≡ true = sym (all_bare (c ∷ cs)) ∙ bare in
    let here = (and_parts (is_bare c) (list_all is_bare cs) all).0 in
    let apart : (c == 34) ≡ false = grind (arith, nat_tests) in
    let other : (c == 39) ≡ false = grind (arith, nat_tests) in
    simple_key_on ((c ∷ cs) ++ rest) (rw (apart, other)) here ∙ ap Some (split_while-run is_bare (c ∷ cs) rest all stop)

simple_key-key_text : (k rest : List ℕ) → (first rest == 34) ≡ false → is_bare (first rest) ≡ false → simple_key (key_text k ++ rest) ≡ Some (k, rest)
simple_key-key_text k rest quote_stop bare_stop =
    elim (cases_Bool (is_bare_key k)) [
      | inl bare ↦ rw bare (simple_key-bare k rest bare bare_stop)
      | inr other ↦ rw other (simple_key-quote k rest quote_stop)
    ]

-- a key and an equals sign
pub key_equals-pair : (k value_text : List ℕ) → is_ws (first value_text) ≡ false → key_equals (key_text k ++ (codes " = " ++ value_text)) ≡ Some (([], k), value_text)
unfolding key_equals
key_equals-pair k value_text start =
    let t = 32 ∷ 61 ∷ 32 ∷ value_text in
    let after_key : skip_ws t ≡ 61 ∷ 32 ∷ value_text = skip_ws_space (61 ∷ 32 ∷ value_text) ∙ skip_ws_none (61 ∷ 32 ∷ value_text) refl in
    let read = key_after_turn 80 [] (key_text k ++ t) (omega arith) in
    rw (read, simple_key-key_text k t refl refl, after_key, skip_ws_space value_text, skip_ws_none value_text start)

bare_start : (k rest : List ℕ) → is_bare_key k ≡ true → is_bare (first (k ++ rest)) ≡ true
bare_start [] rest bare = absurd (false≢true bare)
bare_start (c ∷ cs) rest bare = sym (bare_same c) ∙ (and_parts (is_bare_byte c) (list_all is_bare_byte cs) bare).0

pub key_start : (k rest : List ℕ) → (is_bare (first (key_text k ++ rest)) || first (key_text k ++ rest) == 34) ≡ true
key_start k rest =
    elim (cases_Bool (is_bare_key k)) [
      | inl bare ↦ rw (bare, bare_start k rest bare)
      | inr other ↦ rw other
    ]

key_some-bare : (k : List ℕ) → is_bare_key k ≡ true → 0 < length k
key_some-bare [] bare = absurd (false≢true bare)
key_some-bare (c ∷ cs) bare = omega arith

pub key_some : (k : List ℕ) → 0 < length (key_text k)
key_some k =
    elim (cases_Bool (is_bare_key k)) [
      | inl bare ↦ rw bare (key_some-bare k bare)
      | inr other ↦ rw other (omega arith)
    ]
