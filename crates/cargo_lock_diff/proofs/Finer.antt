-- What is alike by one likeness is alike by a coarser one.
use Rattle.std.proofs.Common.{◌≡◌, true, List, [], ◌∷◌, Option, Some, None, map, refl, subst, All}
use Rattle.std.specs.declared.cmp.Ordering.{Ordering}
use Rattle.std.specs.declared.cmp.Ordering.TheVariants.{Less, Equal, Greater}
use Rattle.std.specs.Ordering.{eq_by_cmp, is_eq, nat_cmp, ordering_then}
use Rattle.std.specs.Option.{option_cmp}
use Rattle.std.specs.Cmp.{Equal-is}
use Rattle.std.specs.Cmp.Lexicographic.{nat_list_cmp_total, slice_cmp}
use Rattle.std.proofs.lemmas.Cmp.{tied_itself}
use Rattle.std.proofs.lemmas.List.Elements.{All-append, All-cons, All-head, All-nil, All-tail, All-weaker}
use Rattle.url.specs.Parts.{serialize}
use Rattle.cargo_lock_parts.specs.Identity.{PackageData}
use Rattle.cargo_lock_parts.specs.IdentityLaws.{tied-first, tied-second, version_cmp-anti}
use Rattle.cargo_lock_parts.specs.IdentityOrder.{version_cmp}
use Rattle.cargo_lock_parts.specs.Source.{Source}
use Rattle.cargo_lock_parts.specs.SourceKey.{git_reference_text, kind_number, precise_if_git, source_cmp, text_cmp}
use Rattle.cargo_lock_diff.specs.declared.likeness.Likeness.{Likeness}
use Rattle.cargo_lock_diff.specs.declared.likeness.Likeness.TheVariants.{Name, Origin, Version, Line, Place, Whole}
use Rattle.cargo_lock_diff.specs.Likeness.{is_alike, likeness_cmp, release_line}
use Rattle.cargo_lock_diff.specs.Place.{origin_cmp, other_source, place_cmp, repository_cmp}
use Rattle.cargo_lock_diff.specs.Pairing.{ArePairedInTurn, IsFiner}
use Rattle.cargo_lock_diff.specs.Difference.{turns}
use Rattle.cargo_lock_diff.proofs.InTurn.{all_pairs}
use Rattle.cargo_lock_diff.proofs.Pairs.{AreAlike}

tied-both : (r s : Ordering) → r ≡ Equal → s ≡ Equal → ordering_then r s ≡ Equal
tied-both Less s e f = cc e
tied-both Equal s e f = f
tied-both Greater s e f = cc e

pub eq-both : (r s : Ordering) → is_eq r ≡ true → is_eq s ≡ true → is_eq (ordering_then r s) ≡ true
eq-both Less s e f = cc e
eq-both Equal s e f = f
eq-both Greater s e f = cc e

-- packages that tie by one order tie by another one
finer : (C D : PackageData → PackageData → Ordering) → ((a b : PackageData) → C a b ≡ Equal → D a b ≡ Equal) → IsFiner (eq_by_cmp C) (eq_by_cmp D)
finer C D ties a b e = (Equal-is (D a b)).1 (ties a b ((Equal-is (C a b)).0 e))

tied-option : {S : Type 0} (C D : S → S → Ordering) → ((a b : S) → C a b ≡ Equal → D a b ≡ Equal)
    → (x y : Option S) → option_cmp C x y ≡ Equal → option_cmp D x y ≡ Equal
tied-option C D ties None None e = refl
tied-option C D ties None (Some y) e = cc e
tied-option C D ties (Some x) None e = cc e
tied-option C D ties (Some x) (Some y) e = ties x y e

-- of five comparisons in a row that tie, the first, the third and the fourth in a row tie
tied-five : (u n k r p : Ordering) → ordering_then (ordering_then (ordering_then (ordering_then u n) k) r) p ≡ Equal → ordering_then u (ordering_then k r) ≡ Equal
tied-five Less n k r p e = cc e
tied-five Greater n k r p e = cc e
tied-five Equal Less k r p e = cc e
tied-five Equal Greater k r p e = cc e
tied-five Equal Equal Less r p e = cc e
tied-five Equal Equal Greater r p e = cc e
tied-five Equal Equal Equal Less p e = cc e
tied-five Equal Equal Equal Greater p e = cc e
tied-five Equal Equal Equal Equal p e = refl

source-repository : (a b : Source) → source_cmp a b ≡ Equal → repository_cmp (λ kind. kind) a b ≡ Equal
source-repository a b e = tied-five (text_cmp (serialize a.url) (serialize b.url)) (option_cmp text_cmp a.name b.name)
    (nat_cmp (kind_number a.kind) (kind_number b.kind)) (text_cmp (git_reference_text a.kind) (git_reference_text b.kind))
    (option_cmp text_cmp (precise_if_git a.kind a.precise) (precise_if_git b.kind b.precise)) e

place-origin : (x y : Option Source) → option_cmp place_cmp x y ≡ Equal → option_cmp origin_cmp x y ≡ Equal
place-origin = tied-option place_cmp origin_cmp
    (λ a b. tied-option source_cmp (repository_cmp (λ kind. kind)) source-repository (other_source a) (other_source b))

version-line : (a b : PackageData) → version_cmp a.version b.version ≡ Equal
    → slice_cmp nat_cmp (release_line a.version) (release_line b.version) ≡ Equal
version-line a b e =
    let same : a.version ≡ b.version = version_cmp-anti a.version b.version e in
    subst (λ v. slice_cmp nat_cmp (release_line a.version) (release_line v) ≡ Equal) same
    (tied_itself nat_list_cmp_total (release_line a.version))

pub place-line : IsFiner (is_alike Place) (is_alike Line)
place-line = finer (likeness_cmp Place) (likeness_cmp Line) (λ a b e.
    let front = tied-first _ _ e in
    tied-both _ _ (tied-both _ _ (tied-first _ _ front) (place-origin a.source b.source (tied-second _ _ e)))
    (version-line a b (tied-second _ _ front)))

pub whole-place : IsFiner (is_alike Whole) (is_alike Place)
whole-place = finer (likeness_cmp Whole) (likeness_cmp Place) (λ a b e. tied-first _ _ (tied-first _ _ e))

pub place-version : IsFiner (is_alike Place) (is_alike Version)
place-version = finer (likeness_cmp Place) (likeness_cmp Version) (λ a b e. tied-first _ _ e)

pub line-origin : IsFiner (is_alike Line) (is_alike Origin)
line-origin = finer (likeness_cmp Line) (likeness_cmp Origin) (λ a b e. tied-first _ _ e)

pub origin-name : IsFiner (is_alike Origin) (is_alike Name)
origin-name = finer (likeness_cmp Origin) (likeness_cmp Name) (λ a b e. tied-first _ _ e)

pub version-name : IsFiner (is_alike Version) (is_alike Name)
version-name = finer (likeness_cmp Version) (likeness_cmp Name) (λ a b e. tied-first _ _ e)

pub place-origins : IsFiner (is_alike Place) (is_alike Origin)
place-origins a b e = line-origin a b (place-line a b e)

pub place-name : IsFiner (is_alike Place) (is_alike Name)
place-name a b e = version-name a b (place-version a b e)

pub line-name : IsFiner (is_alike Line) (is_alike Name)
line-name a b e = origin-name a b (line-origin a b e)

abbrev ByName : Likeness → Type 0
ByName likeness = IsFiner (is_alike likeness) (is_alike Name)

abbrev OfPlace : Likeness → Type 0
OfPlace other = IsFiner (is_alike Place) (is_alike other)

-- a likeness by which the packages of a difference are paired is finer than that by name
all-names : All (λ likeness. IsFiner (is_alike likeness) (is_alike Name)) turns
all-names = All-cons ByName Place (Line ∷ Version ∷ Origin ∷ Name ∷ []) place-name (All-cons ByName Line (Version ∷ Origin ∷ Name ∷ []) line-name
    (All-cons ByName Version (Origin ∷ Name ∷ []) version-name (All-cons ByName Origin (Name ∷ []) origin-name (All-cons ByName Name [] (λ a b e. e) (All-nil ByName)))))

-- the packages of all pairs are alike by what each pass is finer than
alike-in-turn : (coarse : Likeness) (ls : List Likeness) → All (λ likeness. IsFiner (is_alike likeness) (is_alike coarse)) ls
    → (olds news : List PackageData) (passes : List (List (PackageData × PackageData))) (old new : List PackageData)
    → ArePairedInTurn (map is_alike ls) olds news passes old new → AreAlike coarse (all_pairs passes)
alike-in-turn coarse [] finer olds news [] old new h = All-nil (λ p. is_alike coarse p.0 p.1 ≡ true)
alike-in-turn coarse [] finer olds news (p ∷ ps) old new h = absurd h
alike-in-turn coarse (l ∷ ls) finer olds news [] old new h = absurd h
alike-in-turn coarse (l ∷ ls) finer olds news (p ∷ ps) old new h =
    All-append (λ (q : PackageData × PackageData). is_alike coarse q.0 q.1 ≡ true) p (all_pairs ps)
    (All-weaker (λ (q : PackageData × PackageData). is_alike l q.0 q.1 ≡ true) (λ (q : PackageData × PackageData). is_alike coarse q.0 q.1 ≡ true)
    (λ q. All-head (λ likeness. IsFiner (is_alike likeness) (is_alike coarse)) l ls finer q.0 q.1) p h.2.alike)
    (alike-in-turn coarse ls (All-tail (λ likeness. IsFiner (is_alike likeness) (is_alike coarse)) l ls finer) h.0 h.1 ps old new h.3)

pub names-in-turn : (olds news : List PackageData) (passes : List (List (PackageData × PackageData))) (old new : List PackageData)
    → ArePairedInTurn (map is_alike turns) olds news passes old new → AreAlike Name (all_pairs passes)
names-in-turn = alike-in-turn Name turns all-names

pub none-place : All (λ other. IsFiner (is_alike Place) (is_alike other)) (Line ∷ Version ∷ Origin ∷ Name ∷ [])
none-place = All-cons OfPlace Line (Version ∷ Origin ∷ Name ∷ []) place-line (All-cons OfPlace Version (Origin ∷ Name ∷ []) place-version
    (All-cons OfPlace Origin (Name ∷ []) place-origins (All-cons OfPlace Name [] place-name (All-nil OfPlace))))

pub none-origin : All (λ other. IsFiner (is_alike Origin) (is_alike other)) (Name ∷ [])
none-origin = All-cons (λ other. IsFiner (is_alike Origin) (is_alike other)) Name [] origin-name (All-nil (λ other. IsFiner (is_alike Origin) (is_alike other)))

pub none-name : All (λ other. IsFiner (is_alike Name) (is_alike other)) []
none-name = All-nil (λ other. IsFiner (is_alike Name) (is_alike other))
