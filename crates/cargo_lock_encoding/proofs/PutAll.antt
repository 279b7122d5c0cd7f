-- Pairs that are put one by one.
use Rattle.std.proofs.Common.{◌≡◌, ℕ, List, [], ◌∷◌, Option, Some, None, Bool, true, false, cond, nat_cmp, refl, ap, ◌∙◌, sym}
use Rattle.std.specs.Prelude.{T}
use Rattle.std.specs.Ordering.{eq_by_cmp}
use Rattle.std.specs.Cmp.{Equal-is}
use Rattle.std.specs.Cmp.Lexicographic.{slice_cmp, nat_list_cmp_total}
use Rattle.std.specs.FinMap.{empty, entries_sorted, find, is_sorted, entries, get, get-empty, insert, get-entries, get-insert}
use Rattle.cargo_lock_references.specs.Records.{Texts}
use Rattle.cargo_lock_references.proofs.Texts.{and-first, and-second, find-below, same_texts, texts_tie}
use Rattle.cargo_lock_encoding.specs.TableReading.{put_all}

abbrev pub or_else : Option (List ℕ) → Option (List ℕ) → Option (List ℕ)
or_else None o = o
or_else (Some v) o = Some v

put_all-get : (es : List (List ℕ × List ℕ)) (m : Texts) (q : List ℕ) → T (is_sorted (slice_cmp nat_cmp) es)
    → get (put_all m es) q ≡ or_else (find (slice_cmp nat_cmp) q es) (get m q)
put_all-get [] m q h = refl
put_all-get (e ∷ es) m q h =
    put_all-get es (insert m e.0 e.1) q (and-second _ _ h)
    ∙ ap (or_else (find (slice_cmp nat_cmp) q es)) (get-insert nat_list_cmp_total m e.0 e.1 q)
    ∙ by (eq_by_cmp (slice_cmp nat_cmp) q e.0) refl
  where
    unfound : eq_by_cmp (slice_cmp nat_cmp) q e.0 ≡ true → find (slice_cmp nat_cmp) q es ≡ None
    unfound tied =
        ap (λ k. find (slice_cmp nat_cmp) k es) (texts_tie q e.0 ((Equal-is _).0 tied)) ∙ find-below e.0 es (and-first _ _ h)

    by : (b : Bool) → eq_by_cmp (slice_cmp nat_cmp) q e.0 ≡ b
        → or_else (find (slice_cmp nat_cmp) q es) (cond b (Some e.1) (get m q)) ≡ or_else (cond b (Some e.1) (find (slice_cmp nat_cmp) q es)) (get m q)
    by true tied = ap (λ o. or_else o (Some e.1)) (unfound tied)
    by false apart = refl

or_none : (o : Option (List ℕ)) → or_else o None ≡ o
or_none None = refl
or_none (Some v) = refl

-- the pairs of a map, put into the empty map, are the map
pub put_all-entries : (m : Texts) → put_all empty (entries m) ≡ m
put_all-entries m = same_texts _ _ (λ q. put_all-get (entries m) empty q (entries_sorted m) ∙ ap (or_else _) (get-empty (slice_cmp nat_cmp) q) ∙ or_none _ ∙ sym (get-entries m q))
