-- Texts put one after another, their keys ascending, stand in the order of the keys.
use Rattle.std.proofs.Common.{◌≡◌, ℕ, List, [], ◌∷◌, nat_cmp, Less, Greater, refl, ap, ◌∙◌}
use Rattle.std.specs.Cmp.Lexicographic.{slice_cmp, nat_list_cmp_total}
use Rattle.std.specs.List.{AllByRecursion}
use Rattle.std.specs.List.Sorted.{IsStrictlySortedBy}
use Rattle.std.specs.Map.{keys_of}
use Rattle.std.specs.Ordering.{ordering_reverse}
use Rattle.toml.specs.Data.{Data, Members, no_members, member, string}
use Rattle.cargo_lock_encoding.specs.Table.{put}
use Rattle.cargo_lock_lines.specs.TableOfWords.{text_members}

-- each text put in turn
abbrev pub put_texts : Members → List (List ℕ × List ℕ) → Members
put_texts ms [] = ms
put_texts ms (e ∷ es) = put_texts (put e.0 (string e.1) ms) es

above : (k l : List ℕ) → slice_cmp nat_cmp k l ≡ Less → slice_cmp nat_cmp l k ≡ Greater
above k l h = nat_list_cmp_total.antisymm l k ∙ ap ordering_reverse h

put-past : (k l : List ℕ) (d e : Data) (ms : Members) → slice_cmp nat_cmp k l ≡ Less → put l e (member k d ms) ≡ member k d (put l e ms)
put-past k l d e ms h = rw (above k l h)

puts-past : (k : List ℕ) (d : Data) (ms : Members) (es : List (List ℕ × List ℕ)) → AllByRecursion (λ l. slice_cmp nat_cmp k l ≡ Less) (keys_of es)
    → put_texts (member k d ms) es ≡ member k d (put_texts ms es)
puts-past k d ms [] h = refl
puts-past k d ms (e ∷ es) h =
    ap (λ t. put_texts t es) (put-past k e.0 d (string e.1) ms h.0) ∙ puts-past k d (put e.0 (string e.1) ms) es h.1

pub put_texts-sorted : (es : List (List ℕ × List ℕ)) → IsStrictlySortedBy (slice_cmp nat_cmp) (keys_of es) → put_texts no_members es ≡ text_members es
unfolding IsStrictlySortedBy
put_texts-sorted [] h = refl
put_texts-sorted (e ∷ es) h =
    puts-past e.0 (string e.1) no_members es h.0 ∙ ap (member e.0 (string e.1)) (put_texts-sorted es h.1)
