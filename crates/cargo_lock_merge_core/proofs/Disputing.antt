-- The git sources about whose commit the sides are in conflict.
use Rattle.std.proofs.Common.{◌≡◌, ◌≢◌, ◌⊎◌, ◌↔◌, ◌<◌, ◌≤◌, ◌+◌, ◌++◌, ◌∷◌, [], inl, inr, ℕ, zero, suc, Bool, true, false, cond, IsSome, List, length, get_or, map, slice_get, Option, Some, None, option_map, refl, sym, ap, subst, ◌∙◌, arith, true≢false}
use Rattle.std.specs.Borrow.{Bor}
use Rattle.std.specs.BTreeMap.{BTreeMap, get, is_at}
use Rattle.std.specs.List.{AllPairs, Contains}
use Rattle.std.proofs.lemmas.Bool.{cases_Bool}
use Rattle.std.proofs.lemmas.List.Elements.{All-push, Contains-append_left, Contains-get_or, Contains-push, Contains-push_cases}
use Rattle.std.proofs.lemmas.List.Quantifiers.{all_pairs_push}
use Rattle.std.proofs.lemmas.Option.{same_Some, slice_get-get_or, slice_get_within}
use Rattle.cargo_lock_parts.specs.Source.{Source, is_git}
use Rattle.cargo_lock_parts.specs.SourceKey.{Key, key_of, source_cmp}
use Rattle.cargo_lock_parts.specs.SourceLaws.{is_same_source-Decides}
use Rattle.cargo_lock_merge_core.specs.declared.commits.SourceCommits.{SourceCommits}
use Rattle.cargo_lock_merge_core.specs.declared.entry.Entry.{Entry}
use Rattle.cargo_lock_merge_core.specs.declared.plan.Plan.{Plan}
use Rattle.cargo_lock_merge_core.specs.CommitMaps.{IsBareGit, commit_if}
use Rattle.cargo_lock_merge_core.specs.Commits.{AreCommits, Lockfiles, git_in}
use Rattle.cargo_lock_merge_core.specs.Disputes.{AreDisputes, AreInDispute, AreListedDisputes, HasCommits, HasNoDispute, HasPutDispute, HasPutNew, IsDisputeAt, IsDisputeOf, IsDisputedOf, IsSourceOf, source_key}
use Rattle.cargo_lock_merge_core.specs.Merge.{IsMatter, OfSource, Triple, lockfiles_of}
use Rattle.cargo_lock_merge_core.specs.Merged.{HasPlan}
use Rattle.cargo_lock_merge_core.specs.Numbered.{data_if}
use Rattle.cargo_lock_merge_core.specs.Placed.{PlacedData}
use Rattle.lists.specs.Marks.{IsMarked}
use Rattle.cargo_lock_merge_core.specs.Rule3.{IsDisputed}
use Rattle.cargo_lock_merge_core.proofs.Conflicting.{dispute-conflict, entry-among, marked-entry, reached-entry, row-at}
use Rattle.cargo_lock_merge_core.proofs.Merging.{bare-key}
use Rattle.lists.proofs.Members.{none-in}
use Rattle.cargo_lock_merge_core.proofs.Once.{at-same}
use Rattle.cargo_lock_merge_core.proofs.Planning.{map-push}
use Rattle.cargo_lock_merge_core.proofs.SoFar.{row-of}
use Rattle.cargo_lock_merge_core.proofs.Sourced.{commits-same}

-- ---- the source of a package

pub is-dispute : (all : Lockfiles) (x : PlacedData ℕ) (c : SourceCommits) → IsSourceOf all x.content c → AreInDispute c → IsDisputeOf all (Some x) c
is-dispute all x c of dispute = record {
  of = (of.source, (commit_if c.base, commit_if c.ours, commit_if c.theirs, of.commits.commits, dispute));
  commits = of.commits;
  dispute = dispute;
}

-- sources of which the sides agree on the commit
pub no-dispute : (all : Lockfiles) (x : PlacedData ℕ) (c : SourceCommits) → IsSourceOf all x.content c → ¬ AreInDispute c → HasNoDispute all (Some x)
no-dispute all x c of none g (is, (b, o, t, are, disputed)) =
    let same : source_key c ≡ g = same_Some (source_key c) g (sym of.source ∙ is) in
    none (commits-same all of.one g b o t (commit_if c.base) (commit_if c.ours) (commit_if c.theirs) are
    (subst (λ (k : Key). AreCommits all k (commit_if c.base) (commit_if c.ours) (commit_if c.theirs)) same of.commits.commits)
    (λ x y z. IsDisputed x (option_map Some y) (option_map Some z)) disputed)

pub no-git : (all : Lockfiles) (x : PlacedData ℕ) → git_in x.content.source ≡ None → HasNoDispute all (Some x)
no-git all x none g (is, conflict) = let e = sym none ∙ is in absurd cc

-- ---- one more source

module _ (all : Lockfiles) (c : SourceCommits) (old : List SourceCommits) (before after : BTreeMap Source (Bor Source)) (bare : Source) (value : Bor Source)
    (is : bare ≡ record c.source.now { precise = None }) (git : is_git c.source.now.kind ≡ true)
    (grows : (s : Source) → get source_cmp after s ≡ cond (is_at (source_cmp bare) s) (Some value) (get source_cmp before s)) where
  key-is : key_of bare ≡ source_key c
  key-is = bare-key c.source.now bare is

  is-bare : IsBareGit bare
  is-bare = record { git = ap (λ (s : Source). is_git s.kind) is ∙ git; bare = ap (λ (s : Source). s.precise) is }

  here-some : (s : Source) → is_at (source_cmp bare) s ≡ true → IsSome (get source_cmp after s)
  here-some s at = subst (λ (o : Option (Bor Source)). IsSome o) (sym (grows s ∙ ap (λ (b : Bool). cond b (Some value) (get source_cmp before s)) at)) refl

  elsewhere : (s : Source) → is_at (source_cmp bare) s ≡ false → get source_cmp after s ≡ get source_cmp before s
  elsewhere s at = grows s ∙ ap (λ (b : Bool). cond b (Some value) (get source_cmp before s)) at

  key-at : (s : Source) → is_at (source_cmp bare) s ≡ true → source_key c ≡ key_of s
  key-at s at = sym key-is ∙ (is_same_source-Decides bare s).0 at

  key-apart : (s : Source) → is_at (source_cmp bare) s ≡ false → ¬ (source_key c ≡ key_of s)
  key-apart s at e = let t = (is_same_source-Decides bare s).1 (key-is ∙ e) in absurd (let n = sym t ∙ at in cc)

  -- one that was not there
  pub put-new : AreListedDisputes all old before → get source_cmp before bare ≡ None → HasPutNew all c old (old ++ c ∷ []) after
  put-new listed none = record { listed = λ commits dispute. by commits dispute; holds = holds }
    where
      grown : map source_key (old ++ c ∷ []) ≡ map source_key old ++ source_key c ∷ []
      grown = map-push source_key old c

      apart : ¬ Contains (map source_key old) (source_key c)
      apart there =
          let some = (listed.seen bare is-bare).1 (subst (λ (k : Key). Contains (map source_key old) k) (sym key-is) there) in
          true≢false (sym (subst (λ (o : Option (Bor Source)). IsSome o) none some))

      holds : (g : Key) → Contains (map source_key (old ++ c ∷ [])) g ↔ (Contains (map source_key old) g ⊎ (source_key c ≡ g))
      holds g = (
        λ h. Contains-push_cases (map source_key old) (source_key c) g (subst (λ (ks : List Key). Contains ks g) grown h),
        λ h. subst (λ (ks : List Key). Contains ks g) (sym grown) (elim h [
          | inl there ↦ Contains-append_left (map source_key old) (source_key c ∷ []) g there
          | inr same ↦ subst (λ (k : Key). Contains (map source_key old ++ source_key c ∷ []) k) same (Contains-push (map source_key old) (source_key c))
        ]),
      )

      by : HasCommits all c → AreInDispute c → AreListedDisputes all (old ++ c ∷ []) after
      by commits dispute = record {
        each = All-push (λ c. HasCommits all c × AreInDispute c) old c listed.each (commits, dispute);
        once = subst (AllPairs (λ g k. g ≢ k)) (sym grown)
            (all_pairs_push (λ g k. g ≢ k) (map source_key old) (source_key c) listed.once
            (λ k d low e. apart (subst (λ (g : Key). Contains (map source_key old) g) e (Contains-get_or (map source_key old) k d low))));
        seen = λ s b. elim (cases_Bool (is_at (source_cmp bare) s)) [
          | inl at ↦ (λ h. (holds (key_of s)).1 (inr (key-at s at)), λ h. here-some s at)
          | inr at ↦ (
            λ h. (holds (key_of s)).1 (inl ((listed.seen s b).0 (subst (λ (o : Option (Bor Source)). IsSome o) (elsewhere s at) h))),
            λ h. subst (λ (o : Option (Bor Source)). IsSome o) (sym (elsewhere s at)) ((listed.seen s b).1 (elim ((holds (key_of s)).0 h) [
              | inl there ↦ there
              | inr same ↦ absurd (key-apart s at same)
            ])),
          )
        ];
      }

  -- one that was there
  pub put-again : AreListedDisputes all old before → IsSome (get source_cmp before bare) → HasPutNew all c old old after
  put-again listed some = record {
    listed = λ commits dispute. record {
      each = listed.each;
      once = listed.once;
      seen = λ s b. elim (cases_Bool (is_at (source_cmp bare) s)) [
        | inl at ↦ (λ h. subst (λ (k : Key). Contains (map source_key old) k) (key-at s at) among, λ h. here-some s at)
        | inr at ↦ (
          λ h. (listed.seen s b).0 (subst (λ (o : Option (Bor Source)). IsSome o) (elsewhere s at) h),
          λ h. subst (λ (o : Option (Bor Source)). IsSome o) (sym (elsewhere s at)) ((listed.seen s b).1 h),
        )
      ];
    };
    holds = λ g. (
      λ h. inl h,
      λ h. elim h [ inl there ↦ there | inr same ↦ subst (λ (k : Key). Contains (map source_key old) k) same among ],
    );
  }
    where
      among : Contains (map source_key old) (source_key c)
      among = subst (λ (k : Key). Contains (map source_key old) k) key-is ((listed.seen bare is-bare).0 some)

-- the source of a package
pub put-dispute : (all : Lockfiles) (o : Option (PlacedData ℕ)) (c : SourceCommits) (old new : List SourceCommits) (seen : BTreeMap Source (Bor Source)) → IsDisputeOf all o c
    → HasPutNew all c old new seen → HasPutDispute all o old new seen
put-dispute all o c old new seen is put = record {
  listed = put.listed is.commits is.dispute;
  holds = λ g. (
    λ h. elim ((put.holds g).0 h) [ inl there ↦ inl there | inr same ↦ inr (subst (λ (k : Key). IsDisputedOf all o k) same is.of) ],
    λ h. (put.holds g).1 (elim h [ inl there ↦ inl there | inr other ↦ inr (one o g is.of other) ]),
  );
}
  where
    one : (o : Option (PlacedData ℕ)) (g : Key) → IsDisputedOf all o (source_key c) → IsDisputedOf all o g → source_key c ≡ g
    one None g h k = absurd h
    one (Some x) g h k = same_Some (source_key c) g (sym h.0 ∙ k.0)

pub put-none : (all : Lockfiles) (o : Option (PlacedData ℕ)) (list : List SourceCommits) (seen : BTreeMap Source (Bor Source)) → HasNoDispute all o → AreListedDisputes all list seen
    → HasPutDispute all o list list seen
put-none all o list seen none listed = record {
  listed = listed;
  holds = λ g. (λ h. inl h, λ h. elim h [ inl there ↦ there | inr other ↦ absurd (none g other) ]);
}

-- ---- the sources of the first entries

split : (k i : ℕ) → k < i + 1 → (k < i) ⊎ (k ≡ i)
split zero zero less = inr refl
split zero (suc i) less = inl (omega arith)
split (suc k) zero less = absurd (omega (arith, less))
split (suc k) (suc i) less = elim (split k i (omega (arith, less))) [
  | inl l ↦ inl (omega (arith, l))
  | inr e ↦ inr (ap suc e)
]

pub record AreSourcesSoFar (plan : Plan) (all : Lockfiles) (i : ℕ) (list : List SourceCommits) (seen : BTreeMap Source (Bor Source)) : Type 0 where
  pub listed : AreListedDisputes all list seen
  pub holds : (g : Key) → Contains (map source_key list) g ↔ ((k : ℕ) × (k < i) × IsDisputeAt plan all k g)

module _ (plan : Plan) (all : Lockfiles) where
  pub sources-start : (seen : BTreeMap Source (Bor Source)) → ((s : Source) → get source_cmp seen s ≡ None) → AreSourcesSoFar plan all 0 [] seen
  sources-start seen none = record {
    listed = record {
      each = λ k d low. absurd (omega (arith, low));
      once = λ i j d less low. absurd (omega (arith, low));
      seen = λ s b. (λ h. absurd (true≢false (sym (subst (λ (o : Option (Bor Source)). IsSome o) (none s) h))), λ h. absurd (none-in (key_of s) h));
    };
    holds = λ g. (λ h. absurd (none-in g h), λ (k, low, h). absurd (omega (arith, low)));
  }

  -- an entry with a mark, whose two sources are added
  pub sources-more : (i : ℕ) (e : Entry) (old mid new : List SourceCommits) (seen seen' seen'' : BTreeMap Source (Bor Source)) → i < length plan.entries.items → e ≡ get_or plan.entries.items i e
      → IsMarked plan.reached.items i → AreSourcesSoFar plan all i old seen
      → HasPutDispute all (data_if e.row.ours) old mid seen' → HasPutDispute all (data_if e.row.theirs) mid new seen'' → AreSourcesSoFar plan all (i + 1) new seen''
  sources-more i e old mid new seen seen' seen'' low is marked f ours theirs =
      let at = slice_get-get_or plan.entries.items i e low ∙ ap Some (sym is) in
      record {
        listed = theirs.listed;
        holds = λ g. (
          λ h. elim ((theirs.holds g).0 h) [
            | inl h' ↦ elim ((ours.holds g).0 h') [
              | inl there ↦ let (k, less, d) = (f.holds g).0 there in (k, omega (arith, less), d)
              | inr d ↦ (i, omega arith, (e, at, marked, inl d))
            ]
            | inr d ↦ (i, omega arith, (e, at, marked, inr d))
          ],
          λ (k, less, (d, at', marked', which)). elim (split k i less) [
            | inl before ↦ (theirs.holds g).1 (inl ((ours.holds g).1 (inl ((f.holds g).1 (k, before, (d, at', marked', which))))))
            | inr same ↦
                let one : d ≡ e = same_Some d e (sym at' ∙ ap (λ n. slice_get plan.entries.items n) same ∙ at) in
                elim which [
                  | inl w ↦ (theirs.holds g).1 (inl ((ours.holds g).1 (inr (subst (λ (z : Entry). IsDisputedOf all (data_if z.row.ours) g) one w))))
                  | inr w ↦ (theirs.holds g).1 (inr (subst (λ (z : Entry). IsDisputedOf all (data_if z.row.theirs) g) one w))
                ]
          ],
        );
      }

  -- an entry without a mark
  pub sources-pass : (i : ℕ) (list : List SourceCommits) (seen : BTreeMap Source (Bor Source)) → ¬ IsMarked plan.reached.items i → AreSourcesSoFar plan all i list seen → AreSourcesSoFar plan all (i + 1) list seen
  sources-pass i list seen unmarked f = record {
    listed = f.listed;
    holds = λ g. (
      λ h. let (k, less, d) = (f.holds g).0 h in (k, omega (arith, less), d),
      λ (k, less, (d, at, marked, which)). elim (split k i less) [
        | inl before ↦ (f.holds g).1 (k, before, (d, at, marked, which))
        | inr same ↦ absurd (unmarked (subst (IsMarked plan.reached.items) same marked))
      ],
    );
  }

-- ---- those of all entries

module _ (s : Triple ℕ) (plan : Plan) (h : HasPlan s plan) where
  to-conflict : (k : ℕ) (g : Key) → IsDisputeAt plan (lockfiles_of s) k g → IsMatter s (OfSource g)
  to-conflict k g (e, at, marked, which) =
      dispute-conflict s plan h e e.row.place g (marked-entry s plan h k e at marked) (row-at s plan h e e.row.place refl (row-of s plan h e (entry-among s plan h k e at))) which

  of-conflict : (g : Key) → IsMatter s (OfSource g) → (k : ℕ) × (k < length plan.entries.items) × IsDisputeAt plan (lockfiles_of s) k g
  of-conflict g ((p, reached, (x, y, z, c, at, side, is)), conflict) =
      let (k, e, here, place, marked) = reached-entry s plan h p reached in
      let row = row-at s plan h e p place (row-of s plan h e (entry-among s plan h k e here)) in
      let ey : y ≡ data_if e.row.ours = at-same s.ours h.ours.order p y (data_if e.row.ours) at.ours row.ours in
      let ez : z ≡ data_if e.row.theirs = at-same s.theirs h.theirs.order p z (data_if e.row.theirs) at.theirs row.theirs in (
        k,
        slice_get_within plan.entries.items k e here,
        (
          e,
          here,
          marked,
          elim side [
            | inl w ↦ inl (subst (λ (o : Option (PlacedData ℕ)). IsDisputedOf (lockfiles_of s) o g) (sym w ∙ ey) (is, conflict))
            | inr w ↦ inr (subst (λ (o : Option (PlacedData ℕ)). IsDisputedOf (lockfiles_of s) o g) (sym w ∙ ez) (is, conflict))
          ],
        ),
      )

  pub sources-end : (all : Lockfiles) → all ≡ lockfiles_of s → (i : ℕ) (list : List SourceCommits) (seen : BTreeMap Source (Bor Source)) → AreSourcesSoFar plan all i list seen
      → length plan.entries.items ≤ i → AreDisputes s list
  sources-end all same i list seen g end =
      let f = subst (λ (a : Lockfiles). AreSourcesSoFar plan a i list seen) same g in
      record {
        exact = λ g. (
          λ c. let (k, less, d) = (f.holds g).0 c in to-conflict k g d,
          λ c. let (k, low, d) = of-conflict g c in (f.holds g).1 (k, omega (arith, low, end), d),
        );
        once = f.listed.once;
        each = f.listed.each;
      }
