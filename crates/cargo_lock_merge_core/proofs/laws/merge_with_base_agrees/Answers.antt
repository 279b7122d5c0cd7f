use Rattle.cargo_lock_merge_core.proofs.Unchanged.{base-agrees, base-kept}
use Rattle.cargo_lock_merge_core.proofs.laws.merge_with_base_agrees.Goals as goal

pub returns : goal.returns
returns c = λ b x base side h. (λ p w y aw ay git e. base-agrees b x base side h p w y aw ay git e, base-kept b x base side h)
