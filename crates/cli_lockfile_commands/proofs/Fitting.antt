-- The places of packages that several specifications fit.
use Rattle.std.proofs.Common.{◌≡◌, ◌≢◌, ◌<◌, ◌++◌, ◌∷◌, [], All, ap, inl, inr, ℕ, List, arith, get_or, length, refl, subst, sym}
use Rattle.std.specs.List.{Contains}
use Rattle.std.proofs.lemmas.List.Elements.{Contains-append_left, Contains-append_right, Contains-append_cases, Contains-get_or, Contains-push, Contains-push_cases}
use Rattle.lists.specs.Places.{IsPlaces}
use Rattle.cargo_lock_graph.specs.Edges.{GraphData}
use Rattle.cargo_lock_parts.specs.Identity.{PackageData}
use Rattle.cli_lockfile_commands.specs.Graph.{AreBegun, AreDrawnStarts, AreFitting}
use Rattle.cargo_lock_query.specs.Spec.{SpecFits}

pub none-fitting : (packages : List PackageData) → AreFitting [] packages []
none-fitting packages = record {
  listed = λ k. (λ c. absurd (let b = c.1 in omega (arith, b)), λ h. absurd (let c = h.2 in let b = c.1 in omega (arith, b)));
  some = λ spec c. absurd (let b = c.1 in omega (arith, b));
}

some-there : (nodes : List ℕ) → nodes ≢ [] → (k : ℕ) × Contains nodes k
some-there [] some = absurd (some refl)
some-there (k ∷ nodes) some = (k, Contains-get_or (k ∷ nodes) 0 k (omega arith))

-- one more specification
pub fitting-more : (specs : List (List ℕ)) (spec : List ℕ) (packages : List PackageData) (starts nodes after : List ℕ) → AreFitting specs packages starts
    → IsPlaces (SpecFits spec packages) (length packages) nodes → nodes ≢ [] → after ≡ starts ++ nodes → AreFitting (specs ++ spec ∷ []) packages after
fitting-more specs spec packages starts nodes after are here some grows =
    rw grows record {
      listed = λ k. (
        λ c. elim (Contains-append_cases starts nodes k c) [
          | inl old ↦ let h = (are.listed k).0 old in (h.0, h.1, Contains-append_left specs (spec ∷ []) h.1 h.2, h.3)
          | inr new ↦ let h = (here.listed k).0 new in (h.0, spec, Contains-push specs spec, h.1)
        ],
        λ h. elim (Contains-push_cases specs spec h.1 h.2) [
          | inl old ↦ Contains-append_left starts nodes k ((are.listed k).1 (h.0, h.1, old, h.3))
          | inr new ↦ Contains-append_right starts nodes k ((here.listed k).1 (h.0, subst (λ (s : List ℕ). SpecFits s packages k) (sym new) h.3))
        ],
      );
      some = λ other c. elim (Contains-push_cases specs spec other c) [
        | inl old ↦ let h = are.some other old in (h.0, Contains-append_left starts nodes h.0 h.1, h.2)
        | inr new ↦
            let (k, there) = some-there nodes some in
            (k, Contains-append_right starts nodes k there, subst (λ (s : List ℕ). SpecFits s packages k) new ((here.listed k).0 there).1)
      ];
    }

-- the places are below the length
pub fitting-within : (specs : List (List ℕ)) (packages : List PackageData) (starts : List ℕ) → AreFitting specs packages starts → All (λ k. k < length packages) starts
fitting-within specs packages starts are k d low = ((are.listed (get_or starts k d)).0 (Contains-get_or starts k d low)).0

-- ---- where a picture begins

pub begun-at-roots : (specs : List (List ℕ)) (graph : GraphData) (starts : List ℕ) → specs ≡ [] → AreDrawnStarts graph starts → AreBegun specs graph starts
begun-at-roots specs graph starts none are = record {
  drawn = λ _. are;
  specified = λ some. absurd (some none);
}

pub begun-at-fitting : (specs : List (List ℕ)) (graph : GraphData) (packages : List PackageData) (starts : List ℕ) → 0 < length specs → packages ≡ graph.packages
    → AreFitting specs packages starts → AreBegun specs graph starts
begun-at-fitting specs graph packages starts some alike are = record {
  drawn = λ none. (let e : length specs ≡ 0 = ap length none in absurd (omega (arith, e, some)));
  specified = λ _. subst (λ (ps : List PackageData). AreFitting specs ps starts) alike are;
}
