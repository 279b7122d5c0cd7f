use Rattle.lists.specs.Places.{IsPlaces}
use Rattle.cargo_lock_flaws.specs.Sources.{HasUserInfo, IsFromAt}
use Rattle.cargo_lock_flaws.proofs.sources.sources_with_user_info.Given as goal

abbrev pub invariant-loop-place : goal.invariant-loop-place
invariant-loop-place l = IsPlaces (IsFromAt HasUserInfo l.packages) l.place l.places.items
