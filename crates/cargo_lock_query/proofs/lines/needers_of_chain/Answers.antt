use Rattle.std.proofs.Common.{◌≡◌, ◌∙◌, [], List, ap, drop, map, reverse, sym}
use Rattle.std.specs.Borrow.{Bor}
use Rattle.std.proofs.lemmas.Bool.{eqb-true}
use Rattle.std.proofs.lemmas.List.{nil_from_length}
use Rattle.cargo_lock_parts.specs.Identity.{PackageData}
use Rattle.cargo_lock_query.specs.Lines.{packages_at}
use Rattle.cargo_lock_query.proofs.Writing.{first-removed, map-reverse}
use Rattle.cargo_lock_query.proofs.lines.needers_of_chain.Goals as goal
use Rattle.cargo_lock_query.proofs.lines.needers_of_chain.Goals.{then-not-is_empty, else-not-is_empty}

pub returns : goal.returns
returns c =
    let now : Bor PackageData → PackageData = λ (b : Bor PackageData). b.now in
    let all : List PackageData = packages_at c.args.graph.now.packages c.args.chain.now in
    let turned : map now c.reverse.new.self.items ≡ reverse all = ap (map now) c.reverse.ensures.items ∙ map-reverse now c.in_ok-needers.needers.items ∙ ap reverse c.in_ok-needers.ensures in
    elim c.if-not-is_empty.branch [
      | then-not-is_empty w ↦ rw w.needers-is (ap (map now) w.remove.ensures.items ∙ first-removed now c.reverse.new.self.items ∙ ap (drop 1) turned)
      | else-not-is_empty w ↦
          let len = eqb-true _ 0 (sym c.is_empty.ensures ∙ w.if-not-is_empty.false) in
          let empty : c.reverse.new.self.items ≡ [] = nil_from_length _ (sym c.reverse.new.self.ok.0 ∙ len) in
          rw w.needers-is (ap (map now) empty ∙ sym (ap (drop 1) (sym turned ∙ ap (map now) empty)))
    ]
