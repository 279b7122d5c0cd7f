-- The bill of packages is that of their graph, whose packages have their references.
use Rattle.std.proofs.Common.{◌≡◌, ◌∙◌, ◌∷◌, [], inl, inr, Err, List, Ok, Result, Contains, ap, ap₂, map, refl, subst, sym, take}
use Rattle.std.specs.Result.{IfErr, IsErrAnd}
use Rattle.std.proofs.lemmas.List.{take-map}
use Rattle.std.specs.List.{AllZip}
use Rattle.cargo_lock_parts.specs.Identity.{PackageData}
use Rattle.cargo_lock_parts.specs.declared.error.Error.{Error}
use Rattle.cargo_lock_parts.specs.Error.{IsParse}
use Rattle.cargo_lock_graph.specs.Edges.{GraphData}
use Rattle.cargo_lock_edges.specs.OwnGraph.{IsAlikeButForWords, IsOwnGraph}
use Rattle.cargo_lock_edges.proofs.SettledGraph.{right-at}
use Rattle.cargo_lock_bom.specs.Printed.{IsUnprinted}
use Rattle.cargo_lock_bom.specs.References.{IsRepeatedFault, IsRepeatedReference, package_reference, repeated_text}

-- packages that are alike but for how their dependencies are written have the same references
same-references : (ps qs : List PackageData) → AllZip IsAlikeButForWords ps qs
    → map package_reference qs ≡ map package_reference ps
same-references [] [] h = refl
same-references [] (q ∷ qs) h = absurd h
same-references (p ∷ ps) [] h = absurd h
same-references (p ∷ ps) (q ∷ qs) h =
    ap₂ (λ x xs. x ∷ xs) (ap package_reference h.0) (same-references ps qs h.1)

pub own-fault : (packages : List PackageData) (graph : GraphData) (e : Error)
    → IsOwnGraph packages graph → IsRepeatedFault graph.packages e → IsRepeatedFault packages e
own-fault packages graph e own (inl memory) = inl memory
own-fault packages graph e own (inr (q, repeated, parse)) =
    let place = repeated.place in
    let (p, here, alike) =
    right-at IsAlikeButForWords packages graph.packages place q own.nodes repeated.stands in
    let same : map package_reference (take place graph.packages)
    ≡ map package_reference (take place packages) =
    sym (take-map package_reference place graph.packages)
    ∙ ap (take place) (same-references packages graph.packages own.nodes)
    ∙ take-map package_reference place packages in
    inr (
      p,
      record {
        place = place;
        stands = here;
        earlier = subst (λ x. Contains (map package_reference (take place packages)) x)
            (ap package_reference alike)
            (subst (λ xs. Contains xs (package_reference q)) same repeated.earlier);
      },
      subst (IsParse e) (ap repeated_text alike) parse,
    )

-- a reason that is passed on is the reason of the result
pub unprinted : {T : Type 0} (packages : List PackageData) (r : Result T Error) (first : Error)
    → IsErrAnd r (λ e. e ≡ first) → IsUnprinted packages first → IfErr r (IsUnprinted packages)
unprinted packages (Ok x) first impossible why = absurd impossible
unprinted packages (Err e) first same why = subst (IsUnprinted packages) (sym same) why
