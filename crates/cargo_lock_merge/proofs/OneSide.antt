-- What one side alone changed is merged, and what is merged is sound.
use Rattle.std.proofs.Common.{◌≡◌, ◌∙◌, inl, inr, Some, ap, sym}
use Rattle.std.proofs.lemmas.Option.{same_Some}
use Rattle.cargo_lock_parts.specs.Identity.{identity_key}
use Rattle.cargo_lock_merge_core.specs.Placed.{key}
use Rattle.cargo_lock_merge_core.specs.Rule3.{IsAgreed}
use Rattle.cargo_lock_merge_core.proofs.Staying.{from-at}
use Rattle.cargo_lock_merge.specs.Headline.{OneSideIsMerged}

-- what is agreed on is that of ours, where theirs is as the base
agreed-ours : {X : Type 0} (b o t x : X) → IsAgreed b o t x → t ≡ b → x ≡ o
agreed-ours b o t x (inl both) same = both.1
agreed-ours b o t x (inr (inl ours)) same = ours.1 ∙ same ∙ sym ours.0
agreed-ours b o t x (inr (inr theirs)) same = theirs.1

pub one-side-is-merged : OneSideIsMerged
one-side-is-merged s m p b o t x one h base ours theirs merged none same =
    let (c, from) = from-at s one.base one.ours one.theirs p x (Some b) (Some o) (Some t) merged.1
    (record { base = base; ours = ours; theirs = theirs }) (h.each x merged.0) in
    ap identity_key from.identity ∙ elim from.chosen.1 [
      | inl git ↦ absurd (none git.0)
      | inr rule ↦ elim rule.1 [
        | inl agreed ↦ same_Some (key c) (key o) (agreed-ours (Some (key b)) (Some (key o)) (Some (key t)) (Some (key c)) agreed (ap Some same))
        | inr version ↦ absurd (version.0.changed.theirs (ap Some same))
      ]
    ]
