use Rattle.std.proofs.Common.{◌≡◌, ◌∙◌, ℕ, List, [], ◌∷◌, ◌++◌, ap, append-nil, map, refl, rules, sym}
use Rattle.std.specs.Borrow.{Bor}
use Rattle.std.specs.List.{flat_map}
use Rattle.std.specs.Map.Iter.{deref_pair}
use Rattle.std.proofs.Output.{has_written_append, has_written_of_eq}
use Rattle.std.proofs.lemmas.Grind.{flat_map-append}
use Rattle.std.proofs.lemmas.Map.Iter.{iter_end}
use Rattle.cargo_lock_parts.specs.Ascii.{newline}
use Rattle.cargo_lock_merge.specs.declared.metadata.MetadataConflict.{MetadataConflict}
use Rattle.cargo_lock_merge.specs.Lines.{metadata_conflict_lines, metadata_line}
use Rattle.cargo_lock_merge.proofs.lines.write_metadata.Goals as goal

lines-behind : (es : List (Bor (List ℕ) × Bor MetadataConflict)) → flat_map (λ e. metadata_line e.0.now e.1.now ++ newline ∷ []) es ≡ metadata_conflict_lines (map deref_pair es)
lines-behind [] = refl
lines-behind (e ∷ es) = ap (λ (rest : List ℕ). (metadata_line e.0.now e.1.now ++ newline ∷ []) ++ rest) (lines-behind es)

pub returns : goal.returns
returns g c = λ plain ok.
    let e : map deref_pair c.loop-key.yielded ≡ c.args.conflicts.now.entries = search (rules, iter_end) in
    has_written_of_eq _ _ _ _ _ (lines-behind c.loop-key.yielded ∙ ap metadata_conflict_lines e) (c.loop-key.invariant plain)

line-next : (es : List (Bor (List ℕ) × Bor MetadataConflict)) (e : Bor (List ℕ) × Bor MetadataConflict)
    → flat_map (λ x. metadata_line x.0.now x.1.now ++ newline ∷ []) es ++ (metadata_line e.0.now e.1.now ++ newline ∷ [])
    ≡ flat_map (λ x. metadata_line x.0.now x.1.now ++ newline ∷ []) (es ++ e ∷ [])
line-next es e =
    let lines : Bor (List ℕ) × Bor MetadataConflict → List ℕ = λ x. metadata_line x.0.now x.1.now ++ newline ∷ [] in
    ap (λ (t : List ℕ). flat_map lines es ++ t) (sym (append-nil (lines e))) ∙ sym (flat_map-append lines es (e ∷ []))

pub loop-key-preserved : goal.loop-key-preserved
loop-key-preserved g c = λ plain.
    has_written_of_eq _ _ _ _ _ (line-next c.loop-key.yielded (c.in-Some.key, c.in-Some.conflict))
    (has_written_append _ _ _ _ _ _ (c.loop-key.invariant plain) (search rules))
