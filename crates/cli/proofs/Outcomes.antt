-- The outcomes of several arguments: what is read of them, and how much is counted.
use Rattle.std.proofs.Common.{◌≡◌, ◌∙◌, ◌+◌, ◌-◌, ◌<◌, ◌≤◌, ◌++◌, ◌∷◌, [], ◌^◌, ℕ, true, false, List, None, Option, Some, Result, Ok, Err, ap, append-nil, arith, length, length-append, map, min, refl, sym}
use Rattle.std.specs.Prelude.{IfErr, IfOk}
use Rattle.std.specs.List.{AllZip, sum_by}
use Rattle.std.proofs.lemmas.Bool.{false≢true}
use Rattle.std.proofs.lemmas.List.{map-append}
use Rattle.std.proofs.lemmas.List.Elements.{filter_map-append}
use Rattle.std.proofs.lemmas.List.Sums.{sum_by-append}
use Rattle.clap.specs.declared.parser.matches.Found.{Found}
use Rattle.cargo_lock_graph.proofs.Zipped.{zip-push}
use Rattle.cli_input.specs.Told.{IsToldAs}
use Rattle.cli_input.specs.declared.findings.Form.{Form}
use Rattle.cli.specs.declared.checked.Checked.{Checked}
use Rattle.cli.specs.declared.several.Several.{Several}
use Rattle.cli.specs.Check.{CheckedData, IsCheckedAs, IsCheckedOne, IsOutcome, IsSeveralOf, are_all_read, read_of}

-- ---- how many are read

pub read-length : (os : List (Option CheckedData)) → length (read_of os) ≤ length os
read-length [] = omega arith
read-length (None ∷ os) = let rest = read-length os in omega (arith, rest)
read-length (Some c ∷ os) = let rest = read-length os in omega (arith, rest)

-- where each is read, as many are read
pub all-read : (os : List (Option CheckedData)) → are_all_read os ≡ true → length (read_of os) ≡ length os
all-read [] all = refl
all-read (None ∷ os) all = absurd (false≢true all)
all-read (Some c ∷ os) all = let rest = all-read os all in omega (arith, rest)

-- and where one is not, fewer are
pub not-all-read : (os : List (Option CheckedData)) → are_all_read os ≡ false → length (read_of os) < length os
not-all-read [] other = absurd (false≢true (sym other))
not-all-read (None ∷ os) other = let rest = read-length os in omega (arith, rest)
not-all-read (Some c ∷ os) other = let rest = not-all-read os other in omega (arith, rest)

-- ---- one more

pub read-more : (os : List (Option CheckedData)) (c : CheckedData) → read_of (os ++ Some c ∷ []) ≡ read_of os ++ c ∷ []
read-more os c = filter_map-append (λ (o : Option CheckedData). o) os (Some c ∷ [])

pub none-more : (os : List (Option CheckedData)) → read_of (os ++ None ∷ []) ≡ read_of os
none-more os = filter_map-append (λ (o : Option CheckedData). o) os (None ∷ []) ∙ append-nil (read_of os)

-- ---- counts

-- of one there is as much as that one has
one-sum : (f : CheckedData → ℕ) (c : CheckedData) → sum_by f (c ∷ []) ≡ f c
one-sum f c = omega arith

saturated : (a b m : ℕ) → min (min a m + b) m ≡ min (a + b) m
saturated a b m = omega arith

counted-more : (f : CheckedData → ℕ) (before : List CheckedData) (c : CheckedData) (m old more new : ℕ) → new ≡ min (old + more) m
    → old ≡ min (sum_by f before) m → more ≡ f c → new ≡ min (sum_by f (before ++ c ∷ [])) m
counted-more f before c m old more new is was one =
    is ∙ ap (λ n. min (n + more) m) was ∙ ap (λ n. min (min (sum_by f before) m + n) m) one
    ∙ saturated (sum_by f before) (f c) m ∙ ap (λ n. min n m) (sym (sum_by-append f before (c ∷ []) ∙ ap (λ n. sum_by f before + n) (one-sum f c)))

-- what is found in lockfiles, and then what is found in one more
pub checked-more : (form : Form) (before : List CheckedData) (c : CheckedData) (old more new : Checked)
    → (IsToldAs form (map (λ c. c.found) before) old.told → IsToldAs form (c.found ∷ []) more.told
    → IsToldAs form (map (λ (c : CheckedData). c.found) before ++ c.found ∷ []) new.told)
    → new.packages ≡ min (old.packages + more.packages) (2 ^ 64 - 1) → new.findings ≡ min (old.findings + more.findings) (2 ^ 64 - 1)
    → IsCheckedAs form before old → IsCheckedOne form c more → IsCheckedAs form (before ++ c ∷ []) new
checked-more form before c old more new tells ps fs was one = record {
  told = rw (map-append (λ (c : CheckedData). c.found) before (c ∷ [])) (tells was.told one.told);
  packages = counted-more (λ c. c.packages) before c (2 ^ 64 - 1) old.packages more.packages new.packages ps was.packages one.packages;
  findings = counted-more (λ c. c.count) before c (2 ^ 64 - 1) old.findings more.findings new.findings fs was.findings one.findings;
}

-- ---- several

-- one more lockfile is read
pub several-read : (form : Form) (before : List (Option CheckedData)) (c : CheckedData) (old new : Several)
    → (IsCheckedAs form (read_of before) old.checked → IsCheckedAs form (read_of before ++ c ∷ []) new.checked)
    → length new.faults.items ≡ length old.faults.items → IsSeveralOf form before old → IsSeveralOf form (before ++ Some c ∷ []) new
several-read form before c old new more same is = record {
  checked = rw (read-more before c) (more is.checked);
  faults =
      let count = is.faults in
      let all = length-append before (Some c ∷ []) in
      let read = ap length (read-more before c) ∙ length-append (read_of before) (c ∷ []) in
      omega (arith, same, count, all, read);
}

-- one more is not
pub several-unread : (form : Form) (before : List (Option CheckedData)) (old new : Several) → new.checked ≡ old.checked
    → length new.faults.items ≡ length old.faults.items + 1 → IsSeveralOf form before old → IsSeveralOf form (before ++ None ∷ []) new
several-unread form before old new kept one is = record {
  checked = rw (none-more before, kept) is.checked;
  faults =
      let count = is.faults in
      let all = length-append before (None ∷ []) in
      let read = ap length (none-more before) in
      let low = read-length before in
      omega (arith, one, count, all, read, low);
}

-- no fault is kept exactly where each is read
pub none-unread : (form : Form) (outcomes : List (Option CheckedData)) (several : Several) → IsSeveralOf form outcomes several
    → length several.faults.items ≡ 0 → are_all_read outcomes ≡ false → ⊥
none-unread form outcomes several is none other =
    let count = is.faults in let fewer = not-all-read outcomes other in omega (arith, count, none, fewer)

pub none-kept : (form : Form) (outcomes : List (Option CheckedData)) (several : Several) → IsSeveralOf form outcomes several
    → are_all_read outcomes ≡ true → length several.faults.items ≡ 0
none-kept form outcomes several is all =
    let count = is.faults in let same = all-read outcomes all in omega (arith, count, same)

-- one more argument, of which something is found or no lockfile is read
pub outcome-more : {E : Type 0} (found : Found) (form : Form) (argument : List ℕ) (arguments : List (List ℕ)) (outcome : Result Checked E) (old new : Several)
    → IfOk outcome (λ checked. (c : CheckedData) × IsOutcome found argument (Some c) × IsCheckedOne form c checked)
    → IfOk outcome (λ checked. (f : Form) (before : List (Option CheckedData)) (c : CheckedData) → IsSeveralOf f before old
    → IsCheckedOne f c checked → IsSeveralOf f (before ++ Some c ∷ []) new)
    → IfErr outcome (λ _. (f : Form) (before : List (Option CheckedData)) → IsSeveralOf f before old → IsSeveralOf f (before ++ None ∷ []) new)
    → (outcomes : List (Option CheckedData)) × AllZip (IsOutcome found) arguments outcomes × IsSeveralOf form outcomes old
    → (outcomes : List (Option CheckedData)) × AllZip (IsOutcome found) (arguments ++ argument ∷ []) outcomes × IsSeveralOf form outcomes new
outcome-more found form argument arguments (Ok checked) old new is read unread before =
    let (c, told, kept) = is in
    let (outcomes, zip, several) = before in
    (outcomes ++ Some c ∷ [], zip-push (IsOutcome found) arguments outcomes argument (Some c) zip told, read form outcomes c several kept)
outcome-more found form argument arguments (Err fault) old new is read unread before =
    let (outcomes, zip, several) = before in
    (outcomes ++ None ∷ [], zip-push (IsOutcome found) arguments outcomes argument None zip tt, unread form outcomes several)
