use Rattle.std.proofs.Common.{◌≡◌, ◌++◌, ◌∷◌, [], ◌∙◌, List, ap, append_assoc, string_bytes, ℕ}
use Rattle.sha2.specs.Sha256.{sha256}
use Rattle.cargo_lock_report.specs.declared.reported.Reported.TheInside.{Inside}
use Rattle.cargo_lock_report.specs.Reported.{ReportedData}
use Rattle.cargo_lock_report.proofs.fingerprint.fingerprint.Goals as goal

joined : (a m b n d : List ℕ) → (((a ++ m) ++ b) ++ n) ++ d ≡ a ++ (m ++ (b ++ (n ++ d)))
joined a m b n d = simp append_assoc

pub returns : goal.returns
returns c =
    let one = c.update.ensures [] c.new-hasher.ensures in
    let two = c.update-2.ensures _ one in
    let three = c.update-3.ensures _ two in
    let four = c.update-4.ensures _ three in
    let five = c.update-5.ensures _ four in
    let f : ReportedData = c.args.finding.now in
    let id : c.as_bytes.result.now ≡ f.rule.id = c.as_bytes.ensures.value ∙ ap (λ (x : Inside). x.rule.id) c.finding-inside.view_is
    ∙ ap (λ (x : ReportedData). x.rule.id) c.finding.view_is in
    let name : c.as_bytes-2.result.now ≡ f.name = c.as_bytes-2.ensures.value ∙ ap (λ (x : Inside). string_bytes x.name) c.finding-inside.view_is
    ∙ ap (λ (x : ReportedData). x.name) c.finding.view_is in
    let version : c.as_bytes-3.result.now ≡ f.version = c.as_bytes-3.ensures.value ∙ ap (λ (x : Inside). string_bytes x.version) c.finding-inside.view_is
    ∙ ap (λ (x : ReportedData). x.version) c.finding.view_is in
    let parts : (((c.as_bytes.result.now ++ c.as_slice.result.now) ++ c.as_bytes-2.result.now) ++ c.as_slice-2.result.now) ++ c.as_bytes-3.result.now
    ≡ (((f.rule.id ++ (10 ∷ [])) ++ f.name) ++ (10 ∷ [])) ++ f.version =
    λ i. (((id i ++ c.as_slice.ensures i) ++ name i) ++ c.as_slice-2.ensures i) ++ version i in
    c.from_bytes.ensures ∙ c.finalize.ensures _ five
    ∙ ap sha256 (parts ∙ joined f.rule.id (10 ∷ []) f.name (10 ∷ []) f.version)
