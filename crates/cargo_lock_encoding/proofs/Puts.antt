-- What an insert into the map of a table leaves, said of its members.
use Rattle.std.proofs.Common.{◌≡◌, ℕ, ◌++◌, Bool, true, codes, Option, Some, None, nat_cmp, List, [], ◌∷◌, String, Global, Ordering, Less, Equal, Greater, string_bytes, refl, ap, ◌∙◌}
use Rattle.std.specs.String.{string_cmp}
use Rattle.std.specs.BTreeMap.{insert_entry}
use Rattle.std.specs.Ordering.{match_ordering}
use Rattle.toml.specs.declared.value.Value.{Value}
use Rattle.toml.specs.View.{view, members_view}
use Rattle.toml.proofs.Views.{Entry}
use Rattle.std.specs.List.{list_all}
use Rattle.std.specs.Ordering.{is_gt}
use Rattle.std.specs.Cmp.Lexicographic.{slice_cmp}
use Rattle.std.proofs.lemmas.Bool.{false≢true, and_parts}
use Rattle.toml.specs.Data.{Data, Members, member, no_members}
use Rattle.cargo_lock_lines.specs.TableOfWords.{present_members, present_member}
use Rattle.cargo_lock_encoding.specs.Table.{put, put_present}

match_members : (o : Ordering) (a b c : List Entry) → members_view (match_ordering o a b c) ≡ match_ordering o (members_view a) (members_view b) (members_view c)
match_members Less a b c = refl
match_members Equal a b c = refl
match_members Greater a b c = refl

pub members_view-insert : (es : List Entry) (k : String Global) (v : Value) → members_view (insert_entry string_cmp es k v) ≡ put (string_bytes k) (view v) (members_view es)
members_view-insert [] k v = refl
members_view-insert (e ∷ es) k v = match_members (string_cmp k e.0) _ _ _ ∙ rw (members_view-insert es k v)

-- ---- puts at the end

-- the key comes after those of all these members
abbrev pub is_after : List ℕ → List (List ℕ × Option Data) → Bool
is_after k ms = list_all (λ m. is_gt (slice_cmp nat_cmp k m.0)) ms

greater : (o : Ordering) → is_gt o ≡ true → o ≡ Greater
greater Less h = absurd (false≢true h)
greater Equal h = absurd (false≢true h)
greater Greater h = refl

put-after-one : (k : List ℕ) (d : Data) (l : List ℕ) (o : Option Data) (ms : List (List ℕ × Option Data)) → slice_cmp nat_cmp k l ≡ Greater → put k d (present_members ms) ≡ present_members (ms ++ (k, Some d) ∷ [])
    → put k d (present_member l o (present_members ms)) ≡ present_member l o (present_members (ms ++ (k, Some d) ∷ []))
put-after-one k d l None ms g e = e
put-after-one k d l (Some x) ms g e = rw g (ap (member l x) e)

put-after : (k : List ℕ) (d : Data) (ms : List (List ℕ × Option Data)) → is_after k ms ≡ true → put k d (present_members ms) ≡ present_members (ms ++ (k, Some d) ∷ [])
put-after k d [] h = refl
put-after k d (m ∷ ms) h =
    let (g, more) = and_parts _ _ h in
    put-after-one k d m.0 m.1 ms (greater _ g) (put-after k d ms more)

present_members-last : (k : List ℕ) (ms : List (List ℕ × Option Data)) → present_members ms ≡ present_members (ms ++ (k, None) ∷ [])
present_members-last k [] = refl
present_members-last k (m ∷ ms) = ap (present_member m.0 m.1) (present_members-last k ms)

pub put_present-after : (k : List ℕ) (o : Option Data) (ms : List (List ℕ × Option Data)) → is_after k ms ≡ true → put_present k o (present_members ms) ≡ present_members (ms ++ (k, o) ∷ [])
put_present-after k None ms h = present_members-last k ms
put_present-after k (Some d) ms h = put-after k d ms h

-- one more member, after those that stand
pub then-put : (k : List ℕ) (o : Option Data) (ms : List (List ℕ × Option Data)) (t u : Members) → t ≡ present_members ms → u ≡ put_present k o t → is_after k ms ≡ true → u ≡ present_members (ms ++ (k, o) ∷ [])
then-put k o ms t u before step h = step ∙ ap (put_present k o) before ∙ put_present-after k o ms h

-- the six puts of a package
pub entry-puts : (c d n r s v : Option Data) (t0 t1 t2 t3 t4 t5 t6 : Members) → t0 ≡ no_members
    → t1 ≡ put_present (codes "checksum") c t0
    → t2 ≡ put_present (codes "dependencies") d t1
    → t3 ≡ put_present (codes "name") n t2
    → t4 ≡ put_present (codes "replace") r t3
    → t5 ≡ put_present (codes "source") s t4
    → t6 ≡ put_present (codes "version") v t5
    → t6 ≡ present_members ((codes "checksum", c) ∷ (codes "dependencies", d) ∷ (codes "name", n) ∷ (codes "replace", r) ∷ (codes "source", s) ∷ (codes "version", v) ∷ [])
entry-puts c d n r s v t0 t1 t2 t3 t4 t5 t6 e0 e1 e2 e3 e4 e5 e6 =
    let p1 : t1 ≡ present_members ((codes "checksum", c) ∷ []) = then-put (codes "checksum") c [] t0 t1 e0 e1 refl in
    let p2 : t2 ≡ present_members ((codes "checksum", c) ∷ (codes "dependencies", d) ∷ []) = then-put (codes "dependencies") d ((codes "checksum", c) ∷ []) t1 t2 p1 e2 refl in
    let p3 : t3 ≡ present_members ((codes "checksum", c) ∷ (codes "dependencies", d) ∷ (codes "name", n) ∷ []) = then-put (codes "name") n ((codes "checksum", c) ∷ (codes "dependencies", d) ∷ []) t2 t3 p2 e3 refl in
    let p4 : t4 ≡ present_members ((codes "checksum", c) ∷ (codes "dependencies", d) ∷ (codes "name", n) ∷ (codes "replace", r) ∷ []) = then-put (codes "replace") r ((codes "checksum", c) ∷ (codes "dependencies", d) ∷ (codes "name", n) ∷ []) t3 t4 p3 e4 refl in
    let p5 : t5 ≡ present_members ((codes "checksum", c) ∷ (codes "dependencies", d) ∷ (codes "name", n) ∷ (codes "replace", r) ∷ (codes "source", s) ∷ []) = then-put (codes "source") s ((codes "checksum", c) ∷ (codes "dependencies", d) ∷ (codes "name", n) ∷ (codes "replace", r) ∷ []) t4 t5 p4 e5 refl in
    then-put (codes "version") v ((codes "checksum", c) ∷ (codes "dependencies", d) ∷ (codes "name", n) ∷ (codes "replace", r) ∷ (codes "source", s) ∷ []) t5 t6 p5 e6 refl

-- the three puts of an unused patch
pub patch-puts : (n s v : Option Data) (t0 t1 t2 t3 : Members) → t0 ≡ no_members
    → t1 ≡ put_present (codes "name") n t0
    → t2 ≡ put_present (codes "source") s t1
    → t3 ≡ put_present (codes "version") v t2
    → t3 ≡ present_members ((codes "name", n) ∷ (codes "source", s) ∷ (codes "version", v) ∷ [])
patch-puts n s v t0 t1 t2 t3 e0 e1 e2 e3 =
    let p1 : t1 ≡ present_members ((codes "name", n) ∷ []) = then-put (codes "name") n [] t0 t1 e0 e1 refl in
    let p2 : t2 ≡ present_members ((codes "name", n) ∷ (codes "source", s) ∷ []) = then-put (codes "source") s ((codes "name", n) ∷ []) t1 t2 p1 e2 refl in
    then-put (codes "version") v ((codes "name", n) ∷ (codes "source", s) ∷ []) t2 t3 p2 e3 refl

-- the five puts of a lockfile
pub lockfile-puts : (m p q r v : Option Data) (t0 t1 t2 t3 t4 t5 : Members) → t0 ≡ no_members
    → t1 ≡ put_present (codes "metadata") m t0
    → t2 ≡ put_present (codes "package") p t1
    → t3 ≡ put_present (codes "patch") q t2
    → t4 ≡ put_present (codes "root") r t3
    → t5 ≡ put_present (codes "version") v t4
    → t5 ≡ present_members ((codes "metadata", m) ∷ (codes "package", p) ∷ (codes "patch", q) ∷ (codes "root", r) ∷ (codes "version", v) ∷ [])
lockfile-puts m p q r v t0 t1 t2 t3 t4 t5 e0 e1 e2 e3 e4 e5 =
    let p1 : t1 ≡ present_members ((codes "metadata", m) ∷ []) = then-put (codes "metadata") m [] t0 t1 e0 e1 refl in
    let p2 : t2 ≡ present_members ((codes "metadata", m) ∷ (codes "package", p) ∷ []) = then-put (codes "package") p ((codes "metadata", m) ∷ []) t1 t2 p1 e2 refl in
    let p3 : t3 ≡ present_members ((codes "metadata", m) ∷ (codes "package", p) ∷ (codes "patch", q) ∷ []) = then-put (codes "patch") q ((codes "metadata", m) ∷ (codes "package", p) ∷ []) t2 t3 p2 e3 refl in
    let p4 : t4 ≡ present_members ((codes "metadata", m) ∷ (codes "package", p) ∷ (codes "patch", q) ∷ (codes "root", r) ∷ []) = then-put (codes "root") r ((codes "metadata", m) ∷ (codes "package", p) ∷ (codes "patch", q) ∷ []) t3 t4 p3 e4 refl in
    then-put (codes "version") v ((codes "metadata", m) ∷ (codes "package", p) ∷ (codes "patch", q) ∷ (codes "root", r) ∷ []) t4 t5 p4 e5 refl
