use Rattle.std.proofs.Common.{◌≡◌, ◌∙◌, ◌++◌, ◌∷◌, [], ℕ, List, sym, subst, rules}
use Rattle.cargo_lock_lines.specs.Held.{ArePairsAt, IsLastKey}
use Rattle.cargo_lock_lines.proofs.HeldWords.{LastKey-more, Pairs-more}
use Rattle.cargo_lock_lines.proofs.scan.pairs.Goals as goal

pub loop-key-preserved : goal.loop-key-preserved
loop-key-preserved c =
    let m : List ℕ × List ℕ = (c.in-Some.key.now, c.in-Some.value.now) in
    let before = sym c.is_before.ensures ∙ c.if-is_before.true in
    let at = Pairs-more c.args.text.now c.loop-key.rest.now c.in-Some.onward.now c.loop-key.words.items m c.loop-key.last.now c.loop-key.invariant.2 c.loop-key.invariant.3 before c.in-Some.ensures.holds in
    let items : c.push.new.self.items ≡ c.loop-key.words.items ++ m ∷ [] = c.in_ok-push.ensures.items in
    (search rules, search rules, subst (λ (ms : List (List ℕ × List ℕ)). ArePairsAt c.args.text.now ms c.in-Some.onward.now) (sym items) at, subst (λ (ms : List (List ℕ × List ℕ)). IsLastKey ms c.in-Some.key.now) (sym items) (LastKey-more c.loop-key.words.items m))
