use Rattle.std.proofs.Common.{◌∙◌, map, sym}
use Rattle.cargo_lock_encoding.proofs.EachWith.{put-more, put-none, put-all}
use Rattle.cargo_lock_encoding.proofs.resolve_words.put_dependencies.Goals.{in-Some, in_default}
use Rattle.cargo_lock_encoding.proofs.resolve_words.put_dependencies.Goals as goal

pub loop-package-preserved : goal.loop-package-preserved
loop-package-preserved c = elim c.match-next.branch [
  | in-Some w ↦
      let more = put-more (λ list. list.items) c.args.lists.items c.next.new.self.rest.items c.args.packages.now c.loop-package.packages c.loop-package.package-index _ c.package-item.result w.in-Some.list c.loop-package-test.true c.loop-package.invariant.0 (sym w.in-Some.ensures.items ∙ c.loop-package.invariant.1) c.package.view_is in
      (w.packages-is ∙ more.0, more.1)
  | in_default w ↦
      let none = put-none (λ list. list.items) c.args.lists.items c.loop-package.lists.rest.items c.args.packages.now c.loop-package.packages c.loop-package.package-index c.package-item.result c.loop-package-test.true c.loop-package.invariant.0 c.loop-package.invariant.1 (sym c.loop-package.lists.rest.ok.0 ∙ w.in_default.ensures.cases.0) in
      (w.packages-is ∙ none.0, sym w.in_default.ensures.items ∙ none.1)
]

pub returns : goal.returns
returns c = put-all (map (λ list. list.items) c.args.lists.items) c.args.packages.now c.loop-package.packages c.loop-package.package-index c.loop-package-test.false c.loop-package.invariant.0
