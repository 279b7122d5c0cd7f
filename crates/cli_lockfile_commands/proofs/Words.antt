-- The words of an option, one after another.
use Rattle.std.proofs.Common.{◌≡◌, ◌∙◌, ◌+◌, ◌<◌, ◌++◌, ◌∷◌, [], ℕ, Bor, List, ap, get_or, length, map, subst, sym, take}
use Rattle.std.specs.List.{AllZip}
use Rattle.std.proofs.lemmas.List.{map-append, take_more}
use Rattle.cargo_lock_diff.specs.declared.accepted.Accepted.{Accepted}
use Rattle.cargo_lock_graph.proofs.Zipped.{zip-push}
use Rattle.cli_lockfile_commands.specs.Diff.{IsAcceptedBy}

-- what a loop over borrowed words reads past their end
abbrev pub past : Bor (List ℕ)
past = record { ref_ptr = (0, 0); now = [] }

-- one more word names a source
pub next-word : (words : List (Bor (List ℕ))) (i : ℕ) (old new : List Accepted) (one : Accepted) → i < length words
    → AllZip IsAcceptedBy (map (λ word. word.now) (take i words)) old → IsAcceptedBy (get_or words i past).now one → new ≡ old ++ one ∷ []
    → AllZip IsAcceptedBy (map (λ word. word.now) (take (i + 1) words)) new
next-word words i old new one within all named grown =
    let now : Bor (List ℕ) → List ℕ = λ word. word.now in
    let more : map now (take (i + 1) words) ≡ map now (take i words) ++ (get_or words i past).now ∷ []
    = ap (map now) (take_more words i past within) ∙ map-append now (take i words) (get_or words i past ∷ []) in
    rw (more, grown) (zip-push IsAcceptedBy (map now (take i words)) old (get_or words i past).now one all named)
