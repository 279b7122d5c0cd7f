use Rattle.std.proofs.Common.{◌∙◌, List, [], ◌∷◌, ℕ, ap, codes, option_map, subst, sym}
use Rattle.semver.specs.Identifiers.{parts_text}
use Rattle.json.specs.Token.{key, string}
use Rattle.cargo_lock_parts.specs.Identity.{PackageData}
use Rattle.cargo_lock_bom.specs.Component.{hashes_of, repositories_if}
use Rattle.cargo_lock_bom.specs.Options.{license_of}
use Rattle.cargo_lock_bom.specs.Tokens.{member_tokens}
use Rattle.printing.specs.Json.{Adds}
use Rattle.cargo_lock_bom.proofs.Members.{component-tokens}
use Rattle.printing.proofs.Drafts.{as_tokens}
use Rattle.printing.proofs.Behind.{then}
use Rattle.cargo_lock_bom.proofs.component.put_component_of.Goals as goal

pub returns : goal.returns
returns c =
    let same = c.«package».view_is in
    let reference = ap (λ (t : List ℕ). key (codes "bom-ref") ∷ string t ∷ []) c.requires in
    let repositories = ap (λ (p : PackageData). member_tokens (codes "externalReferences") (repositories_if p.source)) same in
    let hashes = ap (λ (p : PackageData). member_tokens (codes "hashes") (option_map hashes_of p.checksum)) same in
    let name = ap (λ (n : List ℕ). key (codes "name") ∷ string n ∷ []) (c.as_str.ensures ∙ ap (λ (p : PackageData). p.name) same) in
    let type = ap (λ (t : List ℕ). key (codes "type") ∷ string t ∷ []) c.type_text.ensures in
    let version = ap (λ (p : PackageData). key (codes "version") ∷ string (parts_text p.version) ∷ []) same in
    subst (Adds c.end_object.result c.args.out.now c.end_object.new.self)
    (sym (component-tokens c.args.application (option_map (λ l. license_of l.now) c.args.license) c.args.«package».now))
    (then c.in_ok-begin_object.ensures (then (as_tokens reference c.in_ok-string_member.ensures)
    (then (as_tokens repositories c.in_ok-put_repositories.ensures) (then (as_tokens hashes c.in_ok-put_hashes.ensures)
    (then c.in_ok-put_licenses.ensures (then (as_tokens name c.in_ok-string_member-2.ensures)
    (then c.in_ok-put_purl.ensures (then (as_tokens type c.in_ok-string_member-3.ensures)
    (then (as_tokens version c.in_ok-displayed_member.ensures) c.end_object.ensures)))))))))
