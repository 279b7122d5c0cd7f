-- The metadata of a table key by key.
use Rattle.std.proofs.Common.{◌≡◌, ◌≢◌, ◌<◌, ◌⊎◌, inl, inr, ℕ, zero, suc, Bool, true, false, cond, List, [], ◌∷◌, map, slice_get, Option, Some, None, refl, sym, ap, ◌∙◌, subst, arith, codes}
use Rattle.std.specs.Prelude.{ℤ, option_map}
use Rattle.std.proofs.lemmas.Bool.{cases_Bool}
use Rattle.std.proofs.lemmas.Option.{same_Some, none-some}
use Rattle.std.specs.Cmp.Lexicographic.{nat_list_cmp_total}
use Rattle.std.specs.FinMap.{empty, get, get-empty, get-insert, insert}
use Rattle.std.specs.Ordering.{eq_by_cmp}
use Rattle.toml.specs.Data.{Data, string, integer, float, boolean, datetime, array, table, Members, no_members, member, get_member}
use Rattle.cargo_lock_parts.specs.Identity.{Identity}
use Rattle.cargo_lock_parts.specs.Optional.{◌>>=◌}
use Rattle.cargo_lock_encoding.specs.Lockfiles.{EncodedData}
use Rattle.cargo_lock_references.specs.Records.{Texts}
use Rattle.cargo_lock_encoding.specs.TableMetadata.{HasTextsAlone, IsLastText, IsMetadata, IsTableOfTexts, MeansKeyByKey, ReadsKeyByKey, TextsAtKeys, pairs_of}
use Rattle.toml_fields.specs.Fields.{number_in, optional_by, text_in}
use Rattle.cargo_lock_encoding.specs.TableReading.{EncodedPackages, all_encoded_packages_at, encoded_at, metadata_in, pairs_in, patch_in, put_all, texts_in}
use Rattle.cargo_lock_references.proofs.LeastKeys.{order, Pairs, own_words-equal, same-key}
use Rattle.cargo_lock_references.proofs.Texts.{same_texts}
use Rattle.cargo_lock_encoding.proofs.PutAll.{or_else}

-- ---- values that are there

mapped : {X Y : Type 0} (f : X → Y) (o : Option X) (y : Y) → option_map f o ≡ Some y → (x : X) × (o ≡ Some x) × (f x ≡ y)
mapped f None y e = cc e
mapped f (Some x) y e = (x, refl, same_Some (f x) y e)

same_optional : (o p : Option (List ℕ)) → ((x : List ℕ) → o ≡ Some x → p ≡ Some x) → ((x : List ℕ) → p ≡ Some x → o ≡ Some x) → o ≡ p
same_optional None None f g = refl
same_optional None (Some y) f g = g y refl
same_optional (Some x) p f g = sym (f x refl)

-- ---- the pairs of a table of texts

abbrev DataPairs : Type 0
DataPairs = List (List ℕ × Data)

as_data : List ℕ × List ℕ → List ℕ × Data
as_data e = (e.0, string e.1)

read-pair : (k : List ℕ) (d : Data) (o : Option Pairs) (es : Pairs) → (text_in d >>= λ v. option_map (λ rest. (k, v) ∷ rest) o) ≡ Some es
    → (v : List ℕ) × (rest : Pairs) × (d ≡ string v) × (o ≡ Some rest) × (((k, v) ∷ rest) ≡ es)
read-pair k (string v) o es e =
    let found = mapped (λ rest. (k, v) ∷ rest) o es e in
    (v, found.0, refl, found.1, found.2)
read-pair k (integer z) o es e = cc e
read-pair k (float x) o es e = cc e
read-pair k (boolean b) o es e = cc e
read-pair k (datetime t) o es e = cc e
read-pair k (array ds) o es e = cc e
read-pair k (table ms) o es e = cc e

pairs-read : (ms : Members) (es : Pairs) → pairs_in ms ≡ Some es → pairs_of ms ≡ map as_data es
unfolding as_data
pairs-read no_members es e = ap (map as_data) (same_Some [] es e)
pairs-read (member k d ms) es e =
    let found = read-pair k d (pairs_in ms) es e in
    let tail = pairs-read ms found.1 found.3 in
    (λ i. (k, found.2 i) ∷ tail i) ∙ ap (map as_data) found.4

same_pair-key : (x y : List ℕ × Data) → Some x ≡ Some y → x.0 ≡ y.0
same_pair-key x y e = ap (λ p. p.0) (same_Some x y e)

same_pair-text : (k l v w : List ℕ) → Some (as_data (k, v)) ≡ Some (l, string w) → v ≡ w
unfolding as_data
same_pair-text k l v w e = same_Some v w (ap (λ p. text_in p.1) (same_Some (as_data (k, v)) (l, string w) e))

texts-alone : (es : Pairs) → HasTextsAlone (map as_data es)
unfolding as_data
texts-alone [] j key value s = absurd (none-some _ s)
texts-alone (e ∷ es) zero key value s = (e.1, sym (ap (λ p. p.1) (same_Some _ _ s)))
texts-alone (e ∷ es) (suc j) key value s = texts-alone es j key value s

pairs-there : (ms : Members) → HasTextsAlone (pairs_of ms) → (es : Pairs) × (pairs_in ms ≡ Some es)
pairs-there no_members h = ([], refl)
pairs-there (member k d ms) h =
    let found = h 0 k d refl in
    let rest = pairs-there ms (λ j key value s. h (suc j) key value s) in (
      (k, found.0) ∷ rest.0,
      ap (λ v. text_in v >>= λ t. option_map (λ es. (k, t) ∷ es) (pairs_in ms)) found.1
          ∙ ap (option_map (λ es. (k, found.0) ∷ es)) rest.1,
    )

-- ---- the last text at a key

at_pair : List ℕ → List ℕ × List ℕ → Option (List ℕ)
at_pair key e = cond (eq_by_cmp order key e.0) (Some e.1) None

last_at : List ℕ → Pairs → Option (List ℕ)
last_at key [] = None
last_at key (e ∷ es) = or_else (last_at key es) (at_pair key e)

join_lines_or : (b : Bool) (o p : Option (List ℕ)) (v : List ℕ) → or_else o (cond b (Some v) p) ≡ or_else (or_else o (cond b (Some v) None)) p
join_lines_or true None p v = refl
join_lines_or true (Some w) p v = refl
join_lines_or false None p v = refl
join_lines_or false (Some w) p v = refl

put_all-last : (es : Pairs) (m : Texts) (key : List ℕ) → get (put_all m es) key ≡ or_else (last_at key es) (get m key)
unfolding last_at at_pair
put_all-last [] m key = refl
put_all-last (e ∷ es) m key =
    put_all-last es (insert m e.0 e.1) key
    ∙ ap (or_else (last_at key es)) (get-insert nat_list_cmp_total m e.0 e.1 key)
    ∙ join_lines_or (eq_by_cmp order key e.0) (last_at key es) (get m key) e.1

or_none : (o : Option (List ℕ)) → or_else o None ≡ o
or_none None = refl
or_none (Some v) = refl

put-last : (es : Pairs) (key : List ℕ) → get (put_all empty es) key ≡ last_at key es
put-last es key = put_all-last es empty key ∙ ap (or_else (last_at key es)) (get-empty order key) ∙ or_none (last_at key es)

at_pair-hit : (key : List ℕ) (e : List ℕ × List ℕ) → e.0 ≡ key → at_pair key e ≡ Some e.1
unfolding at_pair
at_pair-hit key e h = ap (λ b. cond b (Some e.1) None) (ap (eq_by_cmp order key) h ∙ own_words-equal key)

at_pair-found : (key : List ℕ) (e : List ℕ × List ℕ) (text : List ℕ) → at_pair key e ≡ Some text → (e.0 ≡ key) × (e.1 ≡ text)
unfolding at_pair
at_pair-found key e text h = elim (cases_Bool (eq_by_cmp order key e.0)) [
  | inl t ↦ (sym (same-key key e.0 t), same_Some e.1 text (sym (ap (λ b. cond b (Some e.1) None) t) ∙ h))
  | inr t ↦ absurd (none-some text (sym (ap (λ b. cond b (Some e.1) None) t) ∙ h))
]

abbrev NoneAt : DataPairs → List ℕ → Type 0
NoneAt pairs key = (j : ℕ) (value : Data) → slice_get pairs j ≢ Some (key, value)

or_else-none : (o p : Option (List ℕ)) → or_else o p ≡ None → (o ≡ None) × (p ≡ None)
or_else-none None p e = (refl, e)
or_else-none (Some v) p e = cc e

none-at : (es : Pairs) (key : List ℕ) → last_at key es ≡ None → NoneAt (map as_data es) key
unfolding last_at as_data
none-at [] key h j value s = none-some _ s
none-at (e ∷ es) key h zero value s =
    let parts = or_else-none (last_at key es) (at_pair key e) h in
    none-some e.1 (sym parts.1 ∙ at_pair-hit key e (same_pair-key (as_data e) (key, value) s))
none-at (e ∷ es) key h (suc j) value s =
    let parts = or_else-none (last_at key es) (at_pair key e) h in
    none-at es key parts.0 j value s

last-none : (es : Pairs) (key : List ℕ) → NoneAt (map as_data es) key → last_at key es ≡ None
unfolding last_at as_data at_pair
last-none [] key h = refl
last-none (e ∷ es) key h =
    ap (λ o. or_else o (at_pair key e)) (last-none es key (λ j value s. h (suc j) value s))
    ∙ elim (cases_Bool (eq_by_cmp order key e.0)) [
      | inl t ↦ absurd (h 0 (string e.1) (ap (λ k. Some (k, string e.1)) (sym (same-key key e.0 t))))
      | inr t ↦ ap (λ b. cond b (Some e.1) None) t
    ]

or_else-some : (o p : Option (List ℕ)) (v : List ℕ) → or_else o p ≡ Some v → (o ≡ Some v) ⊎ ((o ≡ None) × (p ≡ Some v))
or_else-some None p v e = inr (refl, e)
or_else-some (Some w) p v e = inl e

after : (pairs : DataPairs) (x : List ℕ × Data) (key : List ℕ) (n : ℕ) → ((j : ℕ) (value : Data) → n < j → slice_get pairs j ≢ Some (key, value))
    → (j : ℕ) (value : Data) → suc n < j → slice_get (x ∷ pairs) j ≢ Some (key, value)
after pairs x key n h zero value l s = absurd (omega (arith, l))
after pairs x key n h (suc j) value l s = h j value (omega (arith, l)) s

behind : (pairs : DataPairs) (x : List ℕ × Data) (key : List ℕ) → NoneAt pairs key → (j : ℕ) (value : Data) → 0 < j → slice_get (x ∷ pairs) j ≢ Some (key, value)
behind pairs x key h zero value l s = absurd (omega (arith, l))
behind pairs x key h (suc j) value l s = h j value s

last-stands : (es : Pairs) (key text : List ℕ) → last_at key es ≡ Some text → IsLastText (map as_data es) key text
unfolding last_at as_data
last-stands [] key text h = absurd (none-some text h)
last-stands (e ∷ es) key text h = elim (or_else-some (last_at key es) (at_pair key e) text h) [
  | inl t ↦
      let found = last-stands es key text t in
      record {
        place = suc found.place;
        stands = found.stands;
        last = after (map as_data es) (as_data e) key found.place found.last;
      }
  | inr t ↦
      let here = at_pair-found key e text t.1 in
      record {
        place = 0;
        stands = λ i. Some (here.0 i, string (here.1 i));
        last = behind (map as_data es) (as_data e) key (none-at es key t.0);
      }
]

stands-last : (es : Pairs) (key text : List ℕ) (place : ℕ) → slice_get (map as_data es) place ≡ Some (key, string text)
    → ((j : ℕ) (value : Data) → place < j → slice_get (map as_data es) j ≢ Some (key, value)) → last_at key es ≡ Some text
unfolding last_at as_data
stands-last [] key text place s h = absurd (none-some _ s)
stands-last (e ∷ es) key text zero s h =
    ap (λ o. or_else o (at_pair key e)) (last-none es key (λ j value t. h (suc j) value (omega arith) t))
    ∙ at_pair-hit key e (same_pair-key (as_data e) (key, string text) s)
    ∙ ap Some (same_pair-text e.0 key e.1 text s)
stands-last (e ∷ es) key text (suc place) s h =
    ap (λ o. or_else o (at_pair key e)) (stands-last es key text place s (λ j value l t. h (suc j) value (omega (arith, l)) t))

-- ---- the map of the pairs

pairs-at-keys : (es : Pairs) → TextsAtKeys (map as_data es) (put_all empty es)
pairs-at-keys es key text = (
  λ h. last-stands es key text (sym (put-last es key) ∙ h),
  λ h. put-last es key ∙ stands-last es key text h.place h.stands h.last,
)

one-map : (pairs : DataPairs) (m n : Texts) → TextsAtKeys pairs m → TextsAtKeys pairs n → m ≡ n
one-map pairs m n f g =
    same_texts m n (λ key. same_optional (get m key) (get n key)
    (λ text e. (g key text).1 ((f key text).0 e)) (λ text e. (f key text).1 ((g key text).0 e)))

table-read : (ms : Members) (m : Texts) → texts_in ms ≡ Some m → IsTableOfTexts (table ms) m
table-read ms m e =
    let found = mapped (put_all empty) (pairs_in ms) m e in
    let pairs = sym (pairs-read ms found.0 found.1) in (
      subst HasTextsAlone pairs (texts-alone found.0),
      subst (λ n. TextsAtKeys (pairs_of ms) n) found.2 (subst (λ it. TextsAtKeys it (put_all empty found.0)) pairs (pairs-at-keys found.0)),
    )

table-there : (ms : Members) (m : Texts) → IsTableOfTexts (table ms) m → texts_in ms ≡ Some m
table-there ms m h =
    let found = pairs-there ms h.0 in
    let made = subst (λ it. TextsAtKeys it (put_all empty found.0)) (sym (pairs-read ms found.0 found.1)) (pairs-at-keys found.0) in
    ap (option_map (put_all empty)) found.1 ∙ ap Some (one-map (pairs_of ms) (put_all empty found.0) m made h.1)

value-read : (d : Data) (m : Texts) → metadata_in (Some d) ≡ Some m → IsTableOfTexts d m
value-read (table ms) m e = table-read ms m e
value-read (string s) m e = cc e
value-read (integer z) m e = cc e
value-read (float x) m e = cc e
value-read (boolean b) m e = cc e
value-read (datetime t) m e = cc e
value-read (array ds) m e = cc e

value-there : (d : Data) (m : Texts) → IsTableOfTexts d m → metadata_in (Some d) ≡ Some m
value-there (table ms) m h = table-there ms m h
value-there (string s) m h = absurd h
value-there (integer z) m h = absurd h
value-there (float x) m h = absurd h
value-there (boolean b) m h = absurd h
value-there (datetime t) m h = absurd h
value-there (array ds) m h = absurd h

is-read : (value : Option Data) (m : Texts) → metadata_in value ≡ Some m → IsMetadata value m
is-read None m e = λ key. ap (λ n. get n key) (sym (same_Some empty m e)) ∙ get-empty order key
is-read (Some d) m e = value-read d m e

is-there : (value : Option Data) (m : Texts) → IsMetadata value m → metadata_in value ≡ Some m
is-there None m h = ap Some (same_texts empty m (λ key. get-empty order key ∙ sym (h key)))
is-there (Some d) m h = value-there d m h

pub reads_key_by_key : ReadsKeyByKey
reads_key_by_key value m = (is-read value m, is-there value m)

-- ---- of the lockfile that a table means

of-values : (v : Option (Option ℤ)) (es : Option EncodedPackages) (m : Option Texts) (p : Option (List Identity)) (e : EncodedData)
    → (v >>= λ version. es >>= λ all. m >>= λ metadata. p >>= λ patch.
    Some (record { version = version; packages = all.listed; root = all.root; metadata = metadata; patch = patch })) ≡ Some e
    → m ≡ Some e.metadata
of-values None es m p e h = cc h
of-values (Some v) None m p e h = cc h
of-values (Some v) (Some es) None p e h = cc h
of-values (Some v) (Some es) (Some m) None e h = cc h
of-values (Some v) (Some es) (Some m) (Some p) e h = ap (option_map (λ (d : EncodedData). d.metadata)) h

encoded-metadata : (t : Members) (e : EncodedData) → encoded_at t ≡ Some e → metadata_in (get_member (codes "metadata") t) ≡ Some e.metadata
unfolding encoded_at
encoded-metadata t e h =
    of-values (optional_by number_in (get_member (codes "version") t)) (all_encoded_packages_at t)
    (metadata_in (get_member (codes "metadata") t)) (patch_in (get_member (codes "patch") t)) e h

pub means_key_by_key : MeansKeyByKey
means_key_by_key t l means =
    is-read (get_member (codes "metadata") t) l.metadata
    (encoded-metadata t means.encoded means.values ∙ ap Some (sym means.lockfile_of.metadata))
