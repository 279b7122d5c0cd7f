-- The URL text of each path from the root is read as a URL.
use Rattle.std.proofs.Common.{◌≡◌, ℕ, ◌<◌, Bool, true, false, not, ◌&&◌, ◌==◌, List, [], ◌∷◌, ◌++◌, length, get_or, take, drop, ◌-◌, Option, Some, None, is_some, codes, refl, sym, ap, ◌∙◌, subst, arith, All, true≢false}
use Rattle.std.specs.Prelude.{Ok, Err, is_ok, option_map, option_and_then}
use Rattle.std.specs.List.{flat_map, prefix_len, suffix_len}
use Rattle.std.specs.Result.{result_ok}
use Rattle.std.proofs.lemmas.Bool.{cond-true, cond-false}
use Rattle.std.proofs.lemmas.Bool.Decides.{nat_tests}
use Rattle.std.proofs.lemmas.List.{take_all}
use Rattle.std.proofs.lemmas.List.Elements.{All-nil, All-cons, All-append, All-weaker}
use Rattle.std.proofs.lemmas.List.Sums.{suffix_len-take_no}
use Rattle.percent_encoding.proofs.PercentLemmas.{IsEscapeByte, All-percent_encode}
use Rattle.url.specs.Input.{is_c0_control_or_space, is_tab_or_new_line, trim_end, trim_c0_control_and_space, strip_tabs_and_new_lines, split_once}
use Rattle.url.specs.Parts.{Parts}
use Rattle.url.specs.Parser.{Parsed, parse_by_scheme, parse_url, split_scheme}
use Rattle.url.proofs.InputLemmas.{IsNot, Passes, All_from_list_all, filter_all, split_once_none}
use Rattle.url.proofs.OnLiterals.{url_on_literals}
use Rattle.url.proofs.SetLemmas.{passes_from_kept}
use Rattle.cargo_lock_parts.specs.declared.package.source.file_url.TheConstants.{ESCAPED}
use Rattle.cargo_lock_parts.specs.Source.{Kind}
use Rattle.cargo_lock_parts.specs.SourceReading.{plain_source, url_of}
use Rattle.cargo_lock_parts.specs.FileUrl.{escaped_part, part_text, file_url_of, path_parts, begins_with_slash, source_at, RootedPathsHaveSources}
use Rattle.cargo_lock_parts.proofs.FileUrlLemmas.{escaped_right}

-- ---- what stands in the text

-- no control, no space, and neither `#` nor `?`
abbrev is_clean : ℕ → Bool
is_clean b = not (is_c0_control_or_space b) && not (b == 35) && not (b == 63)

clean_escape : (b : ℕ) → IsEscapeByte b → Passes is_clean b
clean_escape b escape = grind (arith, nat_tests)

clean_part : (part : List ℕ) → All (Passes is_clean) (escaped_part part)
clean_part part =
    subst (All (Passes is_clean)) (escaped_right part)
    (All-percent_encode (Passes is_clean) ESCAPED part (passes_from_kept ESCAPED is_clean refl) clean_escape)

clean_parts : (parts : List (List ℕ)) → All (Passes is_clean) (flat_map part_text parts)
clean_parts [] = All-nil (Passes is_clean)
clean_parts (part ∷ parts) =
    All-cons (Passes is_clean) 47 _ refl (All-append (Passes is_clean) _ _ (clean_part part) (clean_parts parts))

abbrev root : List ℕ
root = codes "file:///"

-- the text is the root and what is clean
record IsRooted (text : List ℕ) : Type 0 where
  more : List ℕ
  clean : All (Passes is_clean) more
  shape : text ≡ root ++ more

rooted : (parts : List (List ℕ)) → IsRooted (file_url_of parts)
rooted [] = record { more = []; clean = All-nil (Passes is_clean); shape = refl }
rooted (part ∷ parts) = record {
  more = escaped_part part ++ flat_map part_text parts;
  clean = All-append (Passes is_clean) _ _ (clean_part part) (clean_parts parts);
  shape = refl;
}

-- ---- nothing is trimmed, removed or cut off

visible : (b : ℕ) → Passes is_clean b → is_c0_control_or_space b ≡ false
visible b passes = grind (arith, nat_tests)

visible_end : (bytes : List ℕ) → 0 < length bytes → All (Passes is_clean) bytes → suffix_len is_c0_control_or_space bytes ≡ 0
visible_end bytes filled clean =
    let last = visible (get_or bytes (length bytes - 1) 0) (clean (length bytes - 1) 0 (omega arith)) in
    ap (suffix_len is_c0_control_or_space) (sym (take_all (length bytes) bytes (omega arith)))
    ∙ suffix_len-take_no is_c0_control_or_space bytes (length bytes) 0 filled (omega arith) last

trimmed : (b : ℕ) (bytes : List ℕ) → All (Passes is_clean) (b ∷ bytes) → trim_c0_control_and_space (b ∷ bytes) ≡ b ∷ bytes
unfolding trim_c0_control_and_space
trimmed b bytes clean =
    let start : prefix_len is_c0_control_or_space (b ∷ bytes) ≡ 0 = cond-false _ _ _ (visible b (clean 0 0 (omega arith))) in
    let end = visible_end (b ∷ bytes) (omega arith) clean in
    ap (λ n. trim_end is_c0_control_or_space (drop n (b ∷ bytes))) start
    ∙ ap (λ n. take (length (b ∷ bytes) - n) (b ∷ bytes)) end
    ∙ take_all _ (b ∷ bytes) (omega arith)

stripped : (text : List ℕ) → All (Passes is_clean) text → strip_tabs_and_new_lines text ≡ text
unfolding strip_tabs_and_new_lines
stripped text clean =
    filter_all _ text (All-weaker (Passes is_clean) (Passes (λ b. not (is_tab_or_new_line b))) (λ b passes. grind (arith, nat_tests)) text clean)

no_hash : (text : List ℕ) → All (Passes is_clean) text → split_once 35 text ≡ (text, None)
no_hash text clean = split_once_none 35 text (All-weaker (Passes is_clean) (IsNot 35) (λ b passes. grind (arith, nat_tests)) text clean)

no_question : (text : List ℕ) → All (Passes is_clean) text → split_once 63 text ≡ (text, None)
no_question text clean = split_once_none 63 text (All-weaker (Passes is_clean) (IsNot 63) (λ b passes. grind (arith, nat_tests)) text clean)

-- ---- it is read

abbrev after_question : List ℕ × Option (List ℕ) → Parsed Parts
after_question cut = parse_by_scheme (split_scheme cut.0) None cut.0 cut.1 None

abbrev after_hash : List ℕ × Option (List ℕ) → Parsed Parts
after_hash cut =
    let question = split_once 63 cut.0 in
    parse_by_scheme (split_scheme question.0) None question.0 question.1 cut.1

by_scheme : (text : List ℕ) → trim_c0_control_and_space text ≡ text → strip_tabs_and_new_lines text ≡ text
    → split_once 35 text ≡ (text, None) → split_once 63 text ≡ (text, None)
    → parse_url None text ≡ parse_by_scheme (split_scheme text) None text None None
unfolding parse_url
by_scheme text trim strip hash question =
    ap (λ t. after_hash (split_once 35 (strip_tabs_and_new_lines t))) trim
    ∙ ap (λ t. after_hash (split_once 35 t)) strip
    ∙ ap after_hash hash
    ∙ ap after_question question

read_rooted : (more : List ℕ) → is_ok (parse_by_scheme (split_scheme (root ++ more)) None (root ++ more) None None) ≡ true
unfolding url_on_literals
read_rooted more = refl

read_clean : (more : List ℕ) → All (Passes is_clean) more → is_ok (parse_url None (root ++ more)) ≡ true
read_clean more clean =
    let all = All-append (Passes is_clean) root more (All_from_list_all is_clean root refl) clean in
    ap is_ok (by_scheme (root ++ more) (trimmed 102 _ all) (stripped _ all) (no_hash _ all) (no_question _ all))
    ∙ read_rooted more

read_parts : (parts : List (List ℕ)) → is_ok (parse_url None (file_url_of parts)) ≡ true
read_parts parts =
    let text = rooted parts in
    ap (λ t. is_ok (parse_url None t)) text.shape ∙ read_clean text.more text.clean

source_from_url : (kind : Kind) (read : Parsed Parts) → is_ok read ≡ true → is_some (option_map (plain_source kind None) (result_ok read)) ≡ true
source_from_url kind (Ok url) ok = refl
source_from_url kind (Err e) ok = absurd (true≢false (sym ok))

pub rooted_paths_have_sources : RootedPathsHaveSources
unfolding source_at
rooted_paths_have_sources kind path begins =
    ap (λ text. is_some (option_map (plain_source kind None) (option_and_then url_of text)))
    (cond-true (begins_with_slash path) (Some (file_url_of (path_parts path))) None begins)
    ∙ source_from_url kind (parse_url None (file_url_of (path_parts path))) (read_parts (path_parts path))
