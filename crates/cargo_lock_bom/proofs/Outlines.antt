-- A value whose members are in the order of their keys is read back from its tokens.
use Rattle.std.proofs.Common.{◌≡◌, ◌∙◌, ◌≤◌, ℕ, List, [], Some, ap, ap₂, append-nil, arith, option_and_then, option_map, refl, suc, max, sym}
use Rattle.std.specs.Cmp.Lexicographic.{slice_cmp}
use Rattle.std.specs.Ordering.{nat_cmp}
use Rattle.std.specs.declared.cmp.Ordering.TheVariants.{Greater}
use Rattle.json.specs.Json.{if_last, value}
use Rattle.json.specs.Lex.{tokens}
use Rattle.json.specs.Tree as tree
use Rattle.json.proofs.Printed.Trees.{value-json_tokens}
use Rattle.serde_json.specs.Data.{Data, Items, Members, array, boolean, depth, item, items_depth, member, members_depth, no_items, no_members, null, number, object, put, string}
use Rattle.serde_json.specs.Read.{max_depth, number_of, of_items, of_json, of_members, read}
use Rattle.serde_json.specs.Written.{items_outline, members_outline, number_text, outline}
use Rattle.cargo_lock_bom.specs.Tokens.{data_tokens}

-- the key is before those of all members
abbrev pub IsBefore : List ℕ → Members → Type 0
IsBefore k no_members = Unit {0}
IsBefore k (member l d ms) = (slice_cmp nat_cmp l k ≡ Greater) × IsBefore k ms

-- each object has its members in the order of their keys, each number is read back from its text
abbrev mutual
  pub InOrder : Data → Type 0
  InOrder null = Unit {0}
  InOrder (boolean b) = Unit {0}
  InOrder (number n) = number_of (number_text n) ≡ Some n
  InOrder (string s) = Unit {0}
  InOrder (array ds) = ItemsInOrder ds
  InOrder (object ms) = MembersInOrder ms

  pub ItemsInOrder : Items → Type 0
  ItemsInOrder no_items = Unit {0}
  ItemsInOrder (item d ds) = InOrder d × ItemsInOrder ds

  pub MembersInOrder : Members → Type 0
  MembersInOrder no_members = Unit {0}
  MembersInOrder (member k d ms) = IsBefore k ms × InOrder d × MembersInOrder ms

-- ---- members that are read after others

-- the first members, and then the others
abbrev join : Members → Members → Members
join no_members ms = ms
join (member k d ls) ms = member k d (join ls ms)

-- the keys of the first members are before those of the others
abbrev AreBefore : Members → Members → Type 0
AreBefore no_members ms = Unit {0}
AreBefore (member k d ls) ms = IsBefore k ms × AreBefore ls ms

put-last : (found : Members) (k : List ℕ) (d : Data) (ms : Members) → AreBefore found (member k d ms) → put k d found ≡ join found (member k d no_members)
put-last no_members k d ms h = refl
put-last (member l e ls) k d ms h = rw h.0.0 (ap (member l e) (put-last ls k d ms h.1))

before-next : (found : Members) (k : List ℕ) (d : Data) (ms : Members) → AreBefore found (member k d ms) → IsBefore k ms
    → AreBefore (join found (member k d no_members)) ms
before-next no_members k d ms h next = (next, tt)
before-next (member l e ls) k d ms h next = (h.0.1, before-next ls k d ms h.1 next)

join-next : (found : Members) (k : List ℕ) (d : Data) (ms : Members) → join (join found (member k d no_members)) ms ≡ join found (member k d ms)
join-next no_members k d ms = refl
join-next (member l e ls) k d ms = ap (member l e) (join-next ls k d ms)

join-none : (found : Members) → join found no_members ≡ found
join-none no_members = refl
join-none (member l e ls) = ap (member l e) (join-none ls)

mutual
  reads : (d : Data) → InOrder d → of_json (outline d) ≡ Some d
  reads null h = refl
  reads (boolean b) h = refl
  reads (number n) h = ap (option_map number) h
  reads (string s) h = refl
  reads (array ds) h = ap (option_map array) (reads_items ds h)
  reads (object ms) h = ap (option_map object) (reads_members ms no_members h tt)

  reads_items : (ds : Items) → ItemsInOrder ds → of_items (items_outline ds) ≡ Some ds
  reads_items no_items h = refl
  reads_items (item d ds) h =
      ap (option_and_then (λ e. option_map (item e) (of_items (items_outline ds)))) (reads d h.0)
      ∙ ap (option_map (item d)) (reads_items ds h.1)

  reads_members : (ms found : Members) → MembersInOrder ms → AreBefore found ms → of_members (members_outline ms) found ≡ Some (join found ms)
  reads_members no_members found h before = ap Some (sym (join-none found))
  reads_members (member k d ms) found h before =
      ap (option_and_then (λ e. of_members (members_outline ms) (put k e found))) (reads d h.1)
      ∙ ap (of_members (members_outline ms)) (put-last found k d ms before)
      ∙ reads_members ms (join found (member k d no_members)) h.2 (before-next found k d ms before h.0)
      ∙ ap Some (join-next found k d ms)

mutual
  same_depth : (d : Data) → tree.depth (outline d) ≡ depth d
  same_depth null = refl
  same_depth (boolean b) = refl
  same_depth (number n) = refl
  same_depth (string s) = refl
  same_depth (array ds) = ap suc (same_items_depth ds)
  same_depth (object ms) = ap suc (same_members_depth ms)

  same_items_depth : (ds : Items) → tree.items_depth (items_outline ds) ≡ items_depth ds
  same_items_depth no_items = refl
  same_items_depth (item d ds) = ap₂ max (same_depth d) (same_items_depth ds)

  same_members_depth : (ms : Members) → tree.members_depth (members_outline ms) ≡ members_depth ms
  same_members_depth no_members = refl
  same_members_depth (member k d ms) = ap₂ max (same_depth d) (same_members_depth ms)

-- the text with these tokens reads as the value
pub read_text : (d : Data) (text : List ℕ) → tokens text ≡ data_tokens d → depth d ≤ max_depth → InOrder d → read text ≡ Some d
read_text d text has low order =
    let shallow : tree.depth (outline d) ≤ 127 = omega (arith, same_depth d, low) in
    ap (λ us. option_and_then of_json (option_and_then (λ p. if_last p.0 p.1) (value 127 us))) (has ∙ sym (append-nil _))
    ∙ ap (λ r. option_and_then of_json (option_and_then (λ p. if_last p.0 p.1) r)) (value-json_tokens (outline d) 127 [] shallow)
    ∙ reads d order
