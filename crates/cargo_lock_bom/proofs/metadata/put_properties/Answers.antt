use Rattle.std.proofs.Common.{◌≡◌, ◌∷◌, ◌∙◌, List, [], codes, false, length, map, nat_eq, refl, sym, true}
use Rattle.json.specs.Token.{key}
use Rattle.cargo_lock_bom.specs.Metadata.{properties_if, properties_of}
use Rattle.cargo_lock_bom.specs.Options.{property_of}
use Rattle.cargo_lock_bom.specs.Tokens.{data_tokens, member_tokens}
use Rattle.cargo_lock_bom.specs.declared.options.Property.{Property}
use Rattle.printing.proofs.Behind.{then}
use Rattle.printing.proofs.Drafts.{as_tokens}
use Rattle.cargo_lock_bom.proofs.metadata.put_properties.Goals as goal

-- the member of a list that is not empty
some : (properties : List Property) → nat_eq (length properties) 0 ≡ false
    → key (codes "properties") ∷ data_tokens (properties_of (map property_of properties))
    ≡ member_tokens (codes "properties") (properties_if (map property_of properties))
some [] empty = let e : true ≡ false = empty in cc e
some (p ∷ ps) other = refl

pub returns : goal.returns
returns c = as_tokens (some c.args.properties.now (sym c.is_empty.ensures ∙ c.if-is_empty.false)) (then c.in_ok-key.ensures c.put_property_list.ensures)
