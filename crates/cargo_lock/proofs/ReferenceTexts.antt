-- A reference survives exactly where its text reads back.
use Rattle.std.proofs.Common.{◌≡◌, ℕ, suc, ◌+◌, ◌-◌, true, List, [], ◌∷◌, ◌++◌, length, get_or, take, nat_le, ◌==◌, Option, Some, None, IfSome, option_map, Result, Ok, Err, refl, sym, subst, ◌∙◌, ap, arith, IsUtf8, append-nil, append_assoc, length-append}
use Rattle.std.specs.List.{AllByRecursion}
use Rattle.std.specs.Result.{result_ok}
use Rattle.std.proofs.Math.Seq.{get_or-append_seam, take-append_seam}
use Rattle.std.proofs.lemmas.Bool.Decides.{nat_tests}
use Rattle.std.proofs.lemmas.Str.{IsUtf8-append}
use Rattle.std.proofs.lemmas.Option.{none-some, same_Some}
use Rattle.semver.specs.Parse.{Parts, version_parts}
use Rattle.semver.specs.Identifiers.{parts_text, marked}
use Rattle.semver.specs.declared.error.Error.{Error as Fault}
use Rattle.semver.proofs.Grammar.{version_parts-sound}
use Rattle.std.specs.Fmt.{decimal}
use Rattle.cargo_lock_parts.specs.Source.{MarkedSource, Source}
use Rattle.cargo_lock_parts.specs.SourceKey.{Key, key_of}
use Rattle.cargo_lock_parts.specs.SourceReading.{source_of}
use Rattle.cargo_lock_parts.specs.SourceText.{marked_text}
use Rattle.cargo_lock_references.specs.Words.{words, IsWord, IsDense}
use Rattle.cargo_lock_references.specs.Reference.{Reference, Refusal, after_source, after_version, bracketed_source, reference_of, reference_of_words, reference_or_refusal, reference_text, one_word, two_words, three_words, mark_plain, marked_source_part, version_part}
use Rattle.cargo_lock_references.specs.ReferenceOrder.{marked_key}
use Rattle.cargo_lock_parts.specs.Optional.{◌>>=◌}
use Rattle.cargo_lock_references.specs.ReadBack.{WordsReadBack, SourceTextReadsBack, VersionSurvives}
use Rattle.cargo_lock_references.specs.Reference.{version_of}
use Rattle.cargo_lock_references.proofs.DenseWords.{bracketed, words-words, words-utf8, words-word, words-more, utf8-cut, some-word, dense-utf8, utf8-ascii, bracketed-whole, bracketed-dense, dense-bracketed}

-- ---- the form of some words, where there is one

-- the form that words are, if they are one
abbrev pub reference_in_words : List (List ℕ) → Option Reference
reference_in_words [] = None
reference_in_words (name ∷ []) = Some (one_word name)
reference_in_words (name ∷ version ∷ []) = option_map (two_words name) (version_of version)
reference_in_words (name ∷ version ∷ source ∷ []) = version_of version >>= λ v. option_map (three_words name v) (bracketed_source source)
reference_in_words (name ∷ version ∷ source ∷ more ∷ others) = None

after_version-ok : (r : Result Parts Fault) (next : Parts → Result Reference Refusal) → result_ok (after_version r next) ≡ (result_ok r >>= λ v. result_ok (next v))
after_version-ok (Ok v) next = refl
after_version-ok (Err e) next = refl

after_source-ok : (o : Option Source) (next : Source → Result Reference Refusal) → result_ok (after_source o next) ≡ (o >>= λ s. result_ok (next s))
after_source-ok (Some s) next = refl
after_source-ok None next = refl

nothing : {A B : Type 0} (o : Option A) (f : A → Option B) → ((a : A) → f a ≡ None) → (o >>= f) ≡ None
nothing None f h = refl
nothing (Some a) f h = h a

map-of : {A B : Type 0} (o : Option A) (f : A → Option B) (g : A → B) → ((a : A) → f a ≡ Some (g a)) → (o >>= f) ≡ option_map g o
map-of None f g h = refl
map-of (Some a) f g h = h a

bind-by : {A B : Type 0} (o : Option A) (f g : A → Option B) → ((a : A) → f a ≡ g a) → (o >>= f) ≡ (o >>= g)
bind-by None f g h = refl
bind-by (Some a) f g h = h a

in-words : (ws : List (List ℕ)) → result_ok (reference_of_words ws) ≡ reference_in_words ws
unfolding version_of
in-words [] = refl
in-words (n ∷ []) = refl
in-words (n ∷ v ∷ []) = after_version-ok (version_parts v) _ ∙ map-of (result_ok (version_parts v)) _ (two_words n) (λ w. refl)
in-words (n ∷ v ∷ s ∷ []) =
    after_version-ok (version_parts v) _
    ∙ bind-by (result_ok (version_parts v)) _ _ (λ w. after_source-ok (bracketed_source s) _ ∙ map-of (bracketed_source s) _ (three_words n w) (λ x. refl))
in-words (n ∷ v ∷ s ∷ m ∷ ws) =
    after_version-ok (version_parts v) _
    ∙ nothing (result_ok (version_parts v)) _ (λ w. after_source-ok (bracketed_source s) _ ∙ nothing (bracketed_source s) _ (λ x. refl))

-- the form that a text is, if it is one
abbrev reference_from : List ℕ → Option Reference
reference_from text = reference_in_words (words text)

reference_of-at : (t : List ℕ) → reference_of t ≡ reference_from t
unfolding reference_or_refusal
reference_of-at t = in-words (words t)

-- ---- the parts

ok-is : (r : Result Parts Fault) (v : Parts) → result_ok r ≡ Some v → r ≡ Ok v
ok-is (Ok w) v e = ap Ok (same_Some w v e)
ok-is (Err e) v h = absurd (none-some v h)

-- a text that reads as a version is the version's text
pub version-text : (w : List ℕ) (v : Parts) → version_of w ≡ Some v → parts_text v ≡ w
unfolding version_of
version-text w v e = (version_parts-sound w v (ok-is (version_parts w) v e)).0

-- the source in brackets
pub bracketed-source : (t : List ℕ) → bracketed_source (bracketed t) ≡ source_of t
unfolding bracketed_source
bracketed-source t =
    let l : length (t ++ 41 ∷ []) ≡ length t + 1 = length-append t (41 ∷ []) in
    let last : suc (length (t ++ 41 ∷ [])) - 1 ≡ suc (length t) = omega arith in
    let end : suc (length (t ++ 41 ∷ [])) - 1 - 1 ≡ length t = omega arith in
    let long : nat_le 2 (suc (length (t ++ 41 ∷ []))) ≡ true = grind (arith, nat_tests) in
    let at_end : (get_or (40 ∷ (t ++ 41 ∷ [])) (suc (length (t ++ 41 ∷ [])) - 1) 0 == 41) ≡ true =
    ap (λ (i : ℕ). get_or (40 ∷ (t ++ 41 ∷ [])) i 0 == 41) last ∙ ap (λ (c : ℕ). c == 41) (get_or-append_seam t 41 [] 0) in
    let middle : take (suc (length (t ++ 41 ∷ [])) - 1 - 1) (t ++ 41 ∷ []) ≡ t =
    ap (λ (i : ℕ). take i (t ++ 41 ∷ [])) end ∙ take-append_seam t (41 ∷ []) in
    rw (long, at_end, middle) refl

-- ---- what the first words are

pub first-word : (ws : List (List ℕ)) (g : Reference) → reference_in_words ws ≡ Some g → (rest : List (List ℕ)) × (ws ≡ g.name ∷ rest)
first-word [] g e = absurd (none-some g e)
first-word (n ∷ []) g e = ([], ap (λ (f : Reference). f.name ∷ []) (same_Some _ _ e))
first-word (n ∷ v ∷ []) g e = by (version_of v) e
  where
    by : (o : Option Parts) → option_map (two_words n) o ≡ Some g → (rest : List (List ℕ)) × (n ∷ v ∷ [] ≡ g.name ∷ rest)
    by None e = absurd (none-some g e)
    by (Some p) e = (v ∷ [], ap (λ (f : Reference). f.name ∷ v ∷ []) (same_Some _ _ e))
first-word (n ∷ v ∷ s ∷ []) g e = by (version_of v) (bracketed_source s) e
  where
    by : (o : Option Parts) (b : Option Source) → (o >>= λ v. option_map (three_words n v) b) ≡ Some g → (rest : List (List ℕ)) × (n ∷ v ∷ s ∷ [] ≡ g.name ∷ rest)
    by None b e = absurd (none-some g e)
    by (Some p) None e = absurd (none-some g e)
    by (Some p) (Some b) e = (v ∷ s ∷ [], ap (λ (f : Reference). f.name ∷ v ∷ s ∷ []) (same_Some _ _ e))
first-word (n ∷ v ∷ s ∷ m ∷ ws) g e = absurd (none-some g e)

-- the second
pub second-word : (n w : List ℕ) (ws : List (List ℕ)) (g : Reference) → reference_in_words (n ∷ w ∷ ws) ≡ Some g → (v : Parts) × (version_of w ≡ Some v) × (g.version ≡ Some v)
second-word n w [] g e = by (version_of w) refl e
  where
    by : (o : Option Parts) → version_of w ≡ o → option_map (two_words n) o ≡ Some g → (v : Parts) × (version_of w ≡ Some v) × (g.version ≡ Some v)
    by None is e = absurd (none-some g e)
    by (Some p) is e = (p, is, ap (λ (f : Reference). f.version) (sym (same_Some _ _ e)))
second-word n w (s ∷ []) g e = by (version_of w) refl (bracketed_source s) e
  where
    by : (o : Option Parts) → version_of w ≡ o → (b : Option Source) → (o >>= λ v. option_map (three_words n v) b) ≡ Some g → (v : Parts) × (version_of w ≡ Some v) × (g.version ≡ Some v)
    by None is b e = absurd (none-some g e)
    by (Some p) is None e = absurd (none-some g e)
    by (Some p) is (Some b) e = (p, is, ap (λ (f : Reference). f.version) (sym (same_Some _ _ e)))
second-word n w (s ∷ m ∷ ws) g e = absurd (none-some g e)

-- the third, which is the last
pub third-word : (n w b : List ℕ) (ws : List (List ℕ)) (g : Reference) → reference_in_words (n ∷ w ∷ b ∷ ws) ≡ Some g → (ws ≡ []) × (s : Source) × (bracketed_source b ≡ Some s) × (g.source ≡ Some (mark_plain s))
third-word n w b [] g e = by (version_of w) (bracketed_source b) refl e
  where
    by : (o : Option Parts) (c : Option Source) → bracketed_source b ≡ c → (o >>= λ v. option_map (three_words n v) c) ≡ Some g → (◌≡◌ {A = List (List ℕ)} [] []) × (s : Source) × (bracketed_source b ≡ Some s) × (g.source ≡ Some (mark_plain s))
    by None c is e = absurd (none-some g e)
    by (Some p) None is e = absurd (none-some g e)
    by (Some p) (Some s) is e = (refl, s, is, ap (λ (f : Reference). f.source) (sym (same_Some _ _ e)))
third-word n w b (m ∷ ws) g e = absurd (none-some g e)

first-is-word : (ws : List (List ℕ)) (w : List ℕ) (rest : List (List ℕ)) → ws ≡ w ∷ rest → AllByRecursion IsWord ws → IsWord w
first-is-word ws w rest e h = (subst (AllByRecursion IsWord) e h).0

-- ---- from a text that reads

pub named : (t : List ℕ) (g : Reference) → reference_from t ≡ Some g → IsUtf8 t × IsWord g.name × (rest : List (List ℕ)) × (words t ≡ g.name ∷ rest) × (reference_in_words (g.name ∷ rest) ≡ Some g)
named t g e =
    let f = first-word (words t) g e in
    (words-utf8 t g.name f.0 f.1, first-is-word (words t) g.name f.0 f.1 (words-words t), f.0, f.1, subst (λ (ws : List (List ℕ)). reference_in_words ws ≡ Some g) f.1 e)

-- what a reference reads as agrees with what was written
pub record Agrees (f g : Reference) : Type 0 where
  pub name : g.name ≡ f.name
  pub version : IfSome f.version (λ v. IfSome g.version (λ w. w ≡ v))
  pub source : IfSome f.source (λ s. IfSome g.source (λ r. marked_key r ≡ marked_key s))

name-survives : (n : List ℕ) (g : Reference) → reference_from (n ++ []) ≡ Some g → g.name ≡ n → IsWord n
name-survives n g e same = subst IsWord same (named (n ++ []) g e).1

-- a version that is read back
version-back : (v : Parts) (w : List ℕ) → version_of w ≡ Some v → IsWord w → IsWord (parts_text v) × VersionSurvives v
version-back v w e h =
    let same = version-text w v e in
    (subst IsWord (sym same) h, subst (λ (t : List ℕ). version_of t ≡ Some v) (sym same) e)

-- the text after the name, and what the rest of its words are
after-name : (n rest : List ℕ) (g : Reference) → reference_from (n ++ 32 ∷ rest) ≡ Some g → g.name ≡ n
    → IsWord n × IsUtf8 rest × (reference_in_words (n ∷ words rest) ≡ Some g)
after-name n rest g e same =
    let h = named (n ++ 32 ∷ rest) g e in
    let word = subst IsWord same h.1 in
    let u = (utf8-cut n rest 32 (omega arith) h.0).1 in
    (word, u, subst (λ (ws : List (List ℕ)). reference_in_words ws ≡ Some g) (words-more n rest word u) e)

-- the words after a name that begin with a version
with-version : (n : List ℕ) (ws : List (List ℕ)) (g : Reference) (v : Parts) → reference_in_words (n ∷ ws) ≡ Some g → ¬ (ws ≡ []) → AllByRecursion IsWord ws
    → IfSome g.version (λ w. w ≡ v)
    → (rest : List (List ℕ)) × (ws ≡ parts_text v ∷ rest) × IsWord (parts_text v) × VersionSurvives v
with-version n [] g v e some h is = absurd (some refl)
with-version n (w ∷ ws) g v e some h is =
    let s = second-word n w ws g e in
    let same : s.0 ≡ v = subst (λ (o : Option Parts). IfSome o (λ x. x ≡ v)) s.2 is in
    let read : version_of w ≡ Some v = s.1 ∙ ap Some same in
    let b = version-back v w read h.0 in
    (ws, ap (λ (x : List ℕ). x ∷ ws) (sym (version-text w v read)), b.0, b.1)

-- the text of a version has a visible byte
some-version : (v : Parts) → IsUtf8 (parts_text v) → ¬ (words (parts_text v) ≡ [])
some-version v u = some-word (decimal v.0) (decimal v.1 ++ (46 ∷ (decimal v.2 ++ (marked 45 v.3 ++ marked 43 v.4)))) 46 (omega arith) refl u

versioned-survives : (n : List ℕ) (v : Parts) (g : Reference) → reference_from (n ++ 32 ∷ parts_text v) ≡ Some g → g.name ≡ n → IfSome g.version (λ w. w ≡ v)
    → IsWord n × IsWord (parts_text v) × VersionSurvives v
versioned-survives n v g e same is =
    let a = after-name n (parts_text v) g e same in
    let w = with-version n (words (parts_text v)) g v a.2 (some-version v a.1) (words-words (parts_text v)) is in
    (a.0, w.2, w.3)

-- the words after a name and a version that begin with a source
bracketed-survives : (n : List ℕ) (v : Parts) (s : MarkedSource) (ws : List (List ℕ)) (g : Reference)
    → reference_in_words (n ∷ parts_text v ∷ ws) ≡ Some g → words (bracketed (marked_text s)) ≡ ws → IsUtf8 (bracketed (marked_text s))
    → IfSome g.source (λ r. marked_key r ≡ marked_key s)
    → IsDense (marked_text s) × SourceTextReadsBack s
bracketed-survives n v s [] g e is u key = absurd (some-word [] (marked_text s ++ 41 ∷ []) 40 (omega arith) refl u is)
bracketed-survives n v s (b ∷ ws) g e is u key =
    let t = third-word n (parts_text v) b ws g e in
    let alone : words (bracketed (marked_text s)) ≡ b ∷ [] = is ∙ ap (λ (l : List (List ℕ)). b ∷ l) t.0 in
    let whole = bracketed-whole (marked_text s) b alone in
    let word : IsWord b = first-is-word _ b ws is (words-words (bracketed (marked_text s))) in
    let read : source_of (marked_text s) ≡ Some t.1 = sym (bracketed-source (marked_text s)) ∙ ap bracketed_source (sym whole) ∙ t.2 in
    let same : key_of t.1 ≡ marked_key s = subst (λ (o : Option MarkedSource). IfSome o (λ x. marked_key x ≡ marked_key s)) t.3 key in
    (bracketed-dense (marked_text s) (subst IsWord whole word), ap (option_map key_of) read ∙ ap Some same)

sourced-survives : (n : List ℕ) (v : Parts) (s : MarkedSource) (g : Reference)
    → reference_from (n ++ (32 ∷ (parts_text v ++ 32 ∷ bracketed (marked_text s)))) ≡ Some g → g.name ≡ n → IfSome g.version (λ w. w ≡ v)
    → IfSome g.source (λ r. marked_key r ≡ marked_key s)
    → IsWord n × IsWord (parts_text v) × VersionSurvives v × IsDense (marked_text s) × SourceTextReadsBack s
sourced-survives n v s g e same is key =
    let t = bracketed (marked_text s) in
    let rest = parts_text v ++ 32 ∷ t in
    let a = after-name n rest g e same in
    let cut = utf8-cut (parts_text v) t 32 (omega arith) a.1 in
    let bracket : IsUtf8 ((parts_text v ++ 32 ∷ []) ++ 40 ∷ (marked_text s ++ 41 ∷ [])) = subst IsUtf8 (sym (append_assoc (parts_text v) (32 ∷ []) t)) a.1 in
    let some : ¬ (words rest ≡ []) = λ none. some-word (parts_text v ++ 32 ∷ []) (marked_text s ++ 41 ∷ []) 40 (omega arith) refl bracket (ap words (append_assoc (parts_text v) (32 ∷ []) t) ∙ none) in
    let w = with-version n (words rest) g v a.2 some (words-words rest) is in
    let ws : words rest ≡ parts_text v ∷ words t = words-more (parts_text v) t w.2 cut.1 in
    let words-read : reference_in_words (n ∷ parts_text v ∷ words t) ≡ Some g = subst (λ (l : List (List ℕ)). reference_in_words (n ∷ l) ≡ Some g) ws a.2 in
    let b = bracketed-survives n v s (words t) g words-read refl cut.1 key in
    (a.0, w.2, w.3, b.0, b.1)

-- ---- a form that survives

-- a source stands after a version
abbrev pub IsWhole : Option Parts → Option MarkedSource → Type 0
IsWhole v None = Unit {0}
IsWhole None (Some s) = ⊥
IsWhole (Some v) (Some s) = Unit {0}

by-parts : (n : List ℕ) (v : Option Parts) (s : Option MarkedSource) (g : Reference) → IsWhole v s
    → reference_from (n ++ (version_part v ++ marked_source_part s)) ≡ Some g → g.name ≡ n → IfSome v (λ x. IfSome g.version (λ w. w ≡ x))
    → IfSome s (λ x. IfSome g.source (λ r. marked_key r ≡ marked_key x))
    → IsWord n × IfSome v (λ x. IsWord (parts_text x) × VersionSurvives x) × IfSome s (λ x. IsDense (marked_text x) × SourceTextReadsBack x)
by-parts n None None g whole e same is key = (name-survives n g e same, tt, tt)
by-parts n (Some v) None g whole e same is key =
    let r = versioned-survives n v g (subst (λ (l : List ℕ). reference_from (n ++ 32 ∷ l) ≡ Some g) (append-nil (parts_text v)) e) same is in
    (r.0, (r.1, r.2), tt)
by-parts n None (Some s) g whole e same is key = absurd whole
by-parts n (Some v) (Some s) g whole e same is key =
    let r = sourced-survives n v s g e same is key in
    (r.0, (r.1, r.2), (r.3, r.4))

-- the text of a form, part after part
parted : (f : Reference) → reference_from (reference_text f) ≡ reference_from (f.name ++ (version_part f.version ++ marked_source_part f.source))
unfolding reference_text
parted f = ap reference_from (append_assoc f.name (version_part f.version) (marked_source_part f.source))

pub whole-survives : (f g : Reference) → IsWhole f.version f.source → reference_of (reference_text f) ≡ Some g → Agrees f g → WordsReadBack f
whole-survives f g whole e a =
    let r = by-parts f.name f.version f.source g whole (sym (reference_of-at (reference_text f) ∙ parted f) ∙ e) a.name a.version a.source in
    record { name = r.0; version = r.1; source = r.2 }

-- ---- what survives reads back

-- the form with another source
abbrev pub reference_with : List ℕ → Option Parts → Option MarkedSource → Reference
reference_with n v s = record { name = n; version = v; source = s }

source-found : (o : Option Source) (k : Key) → option_map key_of o ≡ Some k → (s : Source) × (o ≡ Some s) × (key_of s ≡ k)
source-found None k e = absurd (none-some k e)
source-found (Some s) k e = (s, refl, same_Some _ _ e)

utf8-word : (w : List ℕ) → IsWord w → IsUtf8 w
utf8-word w h = dense-utf8 w h.dense

-- the words of a reference
name-words : (n : List ℕ) → IsWord n → words (n ++ []) ≡ n ∷ []
name-words n h = ap words (append-nil n) ∙ words-word n h

version-words : (n t : List ℕ) → IsWord n → IsWord t → words (n ++ 32 ∷ (t ++ [])) ≡ n ∷ t ∷ []
version-words n t h k =
    ap (λ (l : List ℕ). words (n ++ 32 ∷ l)) (append-nil t) ∙ words-more n t h (utf8-word t k) ∙ ap (λ (ws : List (List ℕ)). n ∷ ws) (words-word t k)

source-words : (n t b : List ℕ) → IsWord n → IsWord t → IsWord b → words (n ++ 32 ∷ (t ++ 32 ∷ b)) ≡ n ∷ t ∷ b ∷ []
source-words n t b h k l =
    words-more n (t ++ 32 ∷ b) h (IsUtf8-append t (32 ∷ b) (utf8-word t k) (utf8-ascii 32 b (omega arith) (utf8-word b l)))
    ∙ ap (λ (ws : List (List ℕ)). n ∷ ws) (words-more t b k (utf8-word b l) ∙ ap (λ (ws : List (List ℕ)). t ∷ ws) (words-word b l))

reads-by : (n : List ℕ) (v : Option Parts) (s : Option MarkedSource) → IsWhole v s → IsWord n
    → IfSome v (λ x. IsWord (parts_text x) × VersionSurvives x) → IfSome s (λ x. IsDense (marked_text x) × SourceTextReadsBack x)
    → (r : Option MarkedSource) × (reference_from (n ++ (version_part v ++ marked_source_part s)) ≡ Some (reference_with n v r)) × (option_map marked_key r ≡ option_map marked_key s)
reads-by n None None whole h k l = (None, rw (name-words n h) refl, refl)
reads-by n (Some v) None whole h k l = (None, rw (version-words n (parts_text v) h k.0, k.1) refl, refl)
reads-by n None (Some s) whole h k l = absurd whole
reads-by n (Some v) (Some s) whole h k l =
    let f = source-found (source_of (marked_text s)) (marked_key s) l.1 in
    let b : bracketed_source (bracketed (marked_text s)) ≡ Some f.0 = bracketed-source (marked_text s) ∙ f.1 in
    (Some (mark_plain f.0), rw (source-words n (parts_text v) (bracketed (marked_text s)) h k.0 (dense-bracketed (marked_text s) l.0), k.1, b) refl, ap Some f.2)

-- equal but for what a key leaves out
pub record Alike (f g : Reference) : Type 0 where
  pub name : g.name ≡ f.name
  pub version : g.version ≡ f.version
  pub source : option_map marked_key g.source ≡ option_map marked_key f.source

pub whole-reads : (f : Reference) → IsWhole f.version f.source → WordsReadBack f → (g : Reference) × (reference_of (reference_text f) ≡ Some g) × Alike f g
whole-reads f whole h =
    let r = reads-by f.name f.version f.source whole h.name h.version h.source in
    (reference_with f.name f.version r.0, reference_of-at (reference_text f) ∙ parted f ∙ r.1, record { name = refl; version = refl; source = r.2 })
