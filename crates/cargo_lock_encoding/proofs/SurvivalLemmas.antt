-- The list among which references are looked up.
use Rattle.std.proofs.Common.{◌≡◌, ◌⊎◌, inl, inr, List, sym, ap}
use Rattle.cargo_lock_parts.specs.Identity.{Identity}
use Rattle.cargo_lock_references.specs.declared.version.ResolveVersion.{ResolveVersion}
use Rattle.cargo_lock_references.specs.declared.version.ResolveVersion.TheVariants.{V2, V3, V4}
use Rattle.cargo_lock_encoding.specs.Means.{reading_list}

-- from V2 on references are looked up in the list
pub reads-in-list : (format : ResolveVersion) (list : List Identity) → (format ≡ V2) ⊎ ((format ≡ V3) ⊎ (format ≡ V4)) → list ≡ reading_list format list
reads-in-list format list (inl e) = ap (λ f. reading_list f list) (sym e)
reads-in-list format list (inr (inl e)) = ap (λ f. reading_list f list) (sym e)
reads-in-list format list (inr (inr e)) = ap (λ f. reading_list f list) (sym e)
