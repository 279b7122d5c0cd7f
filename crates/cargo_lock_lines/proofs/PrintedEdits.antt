-- What these expressions do to the nodes.
use Rattle.std.proofs.Common.{◌≡◌, ℕ, List, [], ◌∷◌, ◌++◌, map, Option, Some, None, option_map, option_and_then, refl, sym, ◌∙◌}
use Rattle.std.specs.List.{flat_map, AllByRecursion}
use Rattle.toml.specs.Data.{Data, Items, no_items, push_item, table, Members}
use Rattle.toml.specs.View.{items_of}
use Rattle.toml.specs.Tables.{Nodes, no_nodes, open_array, get_node, insert, Edit, close, Definition, Document, Expression, key_value, std_table, array_table, define, put, along_header, at_key}
use Rattle.toml.proofs.Turns.{at_key_new}
use Rattle.toml.proofs.NodeLaws.{seq, keep, get_node-insert, replace-insert, along_seq, along_stable, along_append}
use Rattle.toml.proofs.ReadLines.{run}
use Rattle.toml.proofs.ReadValues.{item_join, item_join-none, item_join-push}
use Rattle.toml.proofs.Fill.{Exists, Exists-after, IsHeader, roots, run-append, header_there}
use Rattle.cargo_lock_lines.specs.TableOfWords.{Pair, element, pair_expression}

-- pairs put one after another
abbrev pub puts : List Pair → Edit
puts [] = keep
puts (m ∷ ms) = seq (put ([], m.0) m.1) (puts ms)

run_puts_step : (ms : List Pair) (p : List (List ℕ)) (m : Pair) (root : Nodes) (o : Option Nodes) → o ≡ along_header p (put ([], m.0) m.1) root
    → ((r : Nodes) → Exists p r → run (r, p) (map pair_expression ms) ≡ option_map (λ x. (x, p)) (along_header p (puts ms) r))
    → option_and_then (λ next. run next (map pair_expression ms)) (option_map (λ r. (r, p)) o) ≡ option_map (λ x. (x, p)) (option_and_then (along_header p (puts ms)) o)
run_puts_step ms p m root None e ih = refl
run_puts_step ms p m root (Some r) e ih = ih r (Exists-after p (put ([], m.0) m.1) root r (sym e))

pub run_puts : (ms : List Pair) (p : List (List ℕ)) (root : Nodes) → Exists p root → run (root, p) (map pair_expression ms) ≡ option_map (λ r. (r, p)) (along_header p (puts ms) root)
unfolding define
run_puts [] p root there = rw there
run_puts (m ∷ ms) p root there =
    rw (along_seq p (put ([], m.0) m.1) (puts ms) root) (run_puts_step ms p m root (along_header p (put ([], m.0) m.1) root) refl (λ r there_now. run_puts ms p r there_now))

roots_then : (o : Option Document) (es : List Expression) (a : Option Nodes) (b : Nodes → Option Nodes) → roots o ≡ a
    → ((d : Document) → a ≡ Some d.0 → roots (run d es) ≡ b d.0) → roots (option_and_then (λ x. run x es) o) ≡ option_and_then b a
roots_then None es a b e more = rw (← e)
roots_then (Some d) es a b e more = rw (← e) (more d (sym e))

roots-pair : (q : List (List ℕ)) (o : Option Nodes) → roots (option_map (λ r. (r, q)) o) ≡ o
roots-pair q None = refl
roots-pair q (Some r) = refl

-- a header and its pairs
abbrev pub entry : Definition → List ℕ → List Pair → Edit
entry what k ms = seq (at_key k what) (along_header (k ∷ []) (puts ms))

header_step : (p : List (List ℕ)) (k : List ℕ) (what : Definition) (ms : List Pair) (root : Nodes) (a : Option Nodes) → IsHeader what → a ≡ along_header p (at_key k what) root
    → roots (option_and_then (λ n. run n (map pair_expression ms)) (option_map (λ r. (r, p ++ k ∷ [])) a)) ≡ option_and_then (along_header p (along_header (k ∷ []) (puts ms))) a
header_step p k what ms root None h e = refl
header_step p k what ms root (Some r) h e =
    let stable = along_stable p (at_key k what) (along_header (k ∷ []) keep) root r (λ x y made. header_there k what x y h made) (sym e) in
    let there : Exists (p ++ k ∷ []) r = along_append p (k ∷ []) keep r ∙ stable in
    rw (run_puts ms (p ++ k ∷ []) r there) (roots-pair (p ++ k ∷ []) _ ∙ along_append p (k ∷ []) (puts ms) r)

pub run_entry : (p : List (List ℕ)) (k : List ℕ) (what : Definition) (ms : List Pair) (root : Nodes) (s : List (List ℕ)) → IsHeader what
    → roots (run (root, s) (((p, k), what) ∷ map pair_expression ms)) ≡ along_header p (entry what k ms) root
unfolding define
run_entry p k (key_value d) ms root s h = absurd h
run_entry p k std_table ms root s h = rw (along_seq p (at_key k std_table) (along_header (k ∷ []) (puts ms)) root) (header_step p k std_table ms root (along_header p (at_key k std_table) root) h refl)
run_entry p k array_table ms root s h = rw (along_seq p (at_key k array_table) (along_header (k ∷ []) (puts ms)) root) (header_step p k array_table ms root (along_header p (at_key k array_table) root) h refl)

-- ---- an array of tables

module _ {X : Type 0} (pairs : X → List Pair) (made : X → Members) where
  -- the elements, one after another
  abbrev pub elements : List ℕ → List X → Edit
  elements k [] = keep
  elements k (x ∷ xs) = seq (entry array_table k (pairs x)) (elements k xs)

  -- what the pairs of an element make
  pub record Makes (x : X) : Type 0 where
    pub nodes : Nodes
    pub put : puts (pairs x) no_nodes ≡ Some nodes
    pub closed : close nodes ≡ made x

  -- the lines of the elements, where the path is there
  pub run_later : (p : List (List ℕ)) (k : List ℕ) (xs : List X) (root : Nodes) (s : List (List ℕ)) → Exists p root
      → roots (run (root, s) (flat_map (λ x. element p k (pairs x)) xs)) ≡ along_header p (elements k xs) root
  run_later p k [] root s there = rw there
  run_later p k (x ∷ xs) root s there =
      rw (run-append (root, s) (element p k (pairs x)) (flat_map (λ x. element p k (pairs x)) xs), along_seq p (entry array_table k (pairs x)) (elements k xs) root)
      (roots_then _ _ _ _ (run_entry p k array_table (pairs x) root s tt) (λ doc e. run_later p k xs doc.0 doc.1 (Exists-after p (entry array_table k (pairs x)) root doc.0 e)))

  pub run_elements : (p : List (List ℕ)) (k : List ℕ) (x : X) (xs : List X) (root : Nodes) (s : List (List ℕ))
      → roots (run (root, s) (flat_map (λ x. element p k (pairs x)) (x ∷ xs))) ≡ along_header p (elements k (x ∷ xs)) root
  run_elements p k x xs root s =
      rw (run-append (root, s) (element p k (pairs x)) (flat_map (λ x. element p k (pairs x)) xs), along_seq p (entry array_table k (pairs x)) (elements k xs) root)
      (roots_then _ _ _ _ (run_entry p k array_table (pairs x) root s tt) (λ doc e. run_later p k xs doc.0 doc.1 (Exists-after p (entry array_table k (pairs x)) root doc.0 e)))

  -- one element after others
  next_element : (k : List ℕ) (x : X) (done : Items) (last ns : Nodes) (m : Makes x)
      → entry array_table k (pairs x) (insert k (open_array done last) ns) ≡ Some (insert k (open_array (push_item done (table (close last))) m.nodes) ns)
  unfolding at_key along_header
  next_element k x done last ns m =
      let w = open_array (push_item done (table (close last))) no_nodes in
      let at : at_key k array_table (insert k (open_array done last) ns) ≡ Some (insert k w ns) =
      rw (get_node-insert k (open_array done last) ns, replace-insert k (open_array done last) w ns) refl in
      rw (at, get_node-insert k w ns, m.put, replace-insert k w (open_array (push_item done (table (close last))) m.nodes) ns) refl

  first_element : (k : List ℕ) (x : X) (ns : Nodes) (m : Makes x) → get_node k ns ≡ None
      → entry array_table k (pairs x) ns ≡ Some (insert k (open_array no_items m.nodes) ns)
  unfolding along_header
  first_element k x ns m none =
      let w = open_array no_items no_nodes in
      rw (at_key_new k array_table ns none, get_node-insert k w ns, m.put, replace-insert k w (open_array no_items m.nodes) ns) refl

  -- the value of an element
  abbrev pub element_value : X → Data
  element_value x = table (made x)

  -- what the elements leave
  pub record Filled (k : List ℕ) (xs : List X) (before : Items) (ns : Nodes) (result : Option Nodes) : Type 0 where
    pub done : Items
    pub last : Nodes
    pub filled : result ≡ Some (insert k (open_array done last) ns)
    pub items : push_item done (table (close last)) ≡ item_join before (items_of (map element_value xs))

  fill_later : (k : List ℕ) (xs : List X) (done : Items) (last ns : Nodes) → AllByRecursion Makes xs
      → Filled k xs (push_item done (table (close last))) ns (elements k xs (insert k (open_array done last) ns))
  fill_later k [] done last ns all = record { done = done; last = last; filled = refl; items = sym (item_join-none _) }
  fill_later k (x ∷ xs) done last ns all =
      let (m, others) = all in
      let before = push_item done (table (close last)) in
      let f = fill_later k xs before m.nodes ns others in
      record {
        done = f.done;
        last = f.last;
        filled = rw (next_element k x done last ns m) f.filled;
        items = f.items ∙ item_join-push before (table (close m.nodes)) (items_of (map element_value xs)) ∙ rw m.closed refl;
      }

  pub fill_elements : (k : List ℕ) (x : X) (xs : List X) (ns : Nodes) → AllByRecursion Makes (x ∷ xs) → get_node k ns ≡ None
      → Filled k (x ∷ xs) no_items ns (elements k (x ∷ xs) ns)
  fill_elements k x xs ns all none =
      let (m, others) = all in
      let f = fill_later k xs no_items m.nodes ns others in
      record {
        done = f.done;
        last = f.last;
        filled = rw (first_element k x ns m none) f.filled;
        items = f.items ∙ rw m.closed refl;
      }
