use Rattle.std.proofs.Common.{◌≡◌, List, ◌++◌, map, subst, ap, ◌∙◌, IsPermutation}
use Rattle.std.proofs.lemmas.List.Sorted.{IsPermutation-refl}
use Rattle.cargo_lock_diff.specs.declared.matching.Placed.{Placed}
use Rattle.cargo_lock_diff.specs.Matching.{AreMatched, is_alike_at}
use Rattle.cargo_lock_diff.specs.Pairing.{ArePaired, AreSplit}
use Rattle.cargo_lock_diff.specs.Placing.{are_alike, unplaced_pair}
use Rattle.cargo_lock_diff.proofs.Orders.{laws_at, placed_laws}
use Rattle.cargo_lock_diff.proofs.Once.{paired}
use Rattle.cargo_lock_diff.proofs.InOrder.{put-in-order}
use Rattle.cargo_lock_diff.proofs.InTurn.{paired-map, paired-permuted}
use Rattle.cargo_lock_diff.proofs.matching.pair_unique.Goals as goal

pub returns-clause-paired : goal.returns-clause-paired
returns-clause-paired c =
    let item = λ (p : Placed). p.item in
    let same = are_alike c.args.likeness in
    let so = c.in_ok-olds.olds.items in
    let sn = c.in_ok-news.news.items in
    let os = c.in_ok-olds-2.olds in
    let ns = c.in_ok-news-2.news in
    let m = c.in_ok-merged.merged in
    let jo = c.in_ok-joined.field-0.items in
    let jn = c.in_ok-joined-2.field-0.items in
    let o_split : AreSplit same so os.alone.items os.others.items = rw c.as_slice.ensures.value at c.in_ok-olds-2.ensures.split in
    let n_split : AreSplit same sn ns.alone.items ns.others.items = rw c.as_slice-2.ensures.value at c.in_ok-news-2.ensures.split in
    let matched : AreMatched same os.alone.items ns.alone.items m.pairs.items m.old.items m.new.items = rw (c.as_slice-3.ensures.value, c.as_slice-4.ensures.value) at c.in_ok-merged.ensures in
    let o_joined : jo ≡ m.old.items ++ os.others.items = c.in_ok-joined.ensures ∙ ap (λ (zs : List Placed). m.old.items ++ zs) c.as_slice-5.ensures.value in
    let n_joined : jn ≡ m.new.items ++ ns.others.items = c.in_ok-joined-2.ensures ∙ ap (λ (zs : List Placed). m.new.items ++ zs) c.as_slice-6.ensures.value in
    let whole : ArePaired same so sn m.pairs.items jo jn = paired same (placed_laws c.args.likeness) so sn os.alone.items ns.alone.items os.others.items ns.others.items m.pairs.items m.old.items m.new.items jo jn
    o_split n_split matched
    (subst (λ (zs : List Placed). IsPermutation zs jo) o_joined (IsPermutation-refl jo)) (subst (λ (zs : List Placed). IsPermutation zs jn) n_joined (IsPermutation-refl jn)) in
    paired-permuted (is_alike_at c.args.likeness) (map item so) (map item sn) (map unplaced_pair m.pairs.items) (map item jo) (map item jn)
    c.args.olds.now.items c.args.news.now.items c.in_ok-pairs.pairs.items c.in_ok-old.old.items c.in_ok-new.new.items
    (paired-map item (is_alike_at c.args.likeness) (laws_at c.args.likeness) so sn m.pairs.items jo jn whole)
    c.in_ok-olds.ensures.items c.in_ok-news.ensures.items c.in_ok-pairs.ensures.items c.in_ok-old.ensures.items c.in_ok-new.ensures.items

pub returns-clause-in_order : goal.returns-clause-in_order
returns-clause-in_order c =
    let same = are_alike c.args.likeness in
    let so = c.in_ok-olds.olds.items in
    let sn = c.in_ok-news.news.items in
    let os = c.in_ok-olds-2.olds in
    let ns = c.in_ok-news-2.news in
    let m = c.in_ok-merged.merged in
    let jo = c.in_ok-joined.field-0.items in
    let jn = c.in_ok-joined-2.field-0.items in
    let o_split : AreSplit same so os.alone.items os.others.items = rw c.as_slice.ensures.value at c.in_ok-olds-2.ensures.split in
    let n_split : AreSplit same sn ns.alone.items ns.others.items = rw c.as_slice-2.ensures.value at c.in_ok-news-2.ensures.split in
    let matched : AreMatched same os.alone.items ns.alone.items m.pairs.items m.old.items m.new.items = rw (c.as_slice-3.ensures.value, c.as_slice-4.ensures.value) at c.in_ok-merged.ensures in
    let o_joined : jo ≡ m.old.items ++ os.others.items = c.in_ok-joined.ensures ∙ ap (λ (zs : List Placed). m.old.items ++ zs) c.as_slice-5.ensures.value in
    let n_joined : jn ≡ m.new.items ++ ns.others.items = c.in_ok-joined-2.ensures ∙ ap (λ (zs : List Placed). m.new.items ++ zs) c.as_slice-6.ensures.value in
    let whole : ArePaired same so sn m.pairs.items jo jn = paired same (placed_laws c.args.likeness) so sn os.alone.items ns.alone.items os.others.items ns.others.items m.pairs.items m.old.items m.new.items jo jn
    o_split n_split matched
    (subst (λ (zs : List Placed). IsPermutation zs jo) o_joined (IsPermutation-refl jo)) (subst (λ (zs : List Placed). IsPermutation zs jn) n_joined (IsPermutation-refl jn)) in
    put-in-order c.args.olds.now.items c.args.news.now.items so sn m.pairs.items jo jn
    c.in_ok-pairs.pairs.items c.in_ok-old.old.items c.in_ok-new.new.items
    c.in_ok-olds.ensures.placed c.in_ok-news.ensures.placed whole.olds_told whole.news_told
    c.in_ok-pairs.ensures.in_order c.in_ok-old.ensures.in_order c.in_ok-new.ensures.in_order
