-- What is told of lockfiles, and of further ones.
use Rattle.std.proofs.Common.{◌≡◌, ◌∙◌, ◌++◌, ◌∷◌, [], ℕ, IfSome, List, None, Option, Some, ap, map, sym}
use Rattle.std.specs.List.{AllZip, flat_map}
use Rattle.std.proofs.lemmas.Grind.{flat_map-append}
use Rattle.std.proofs.lemmas.List.{append-nil, map-append}
use Rattle.std.proofs.lemmas.List.Concat.{flat_map-cons}
use Rattle.std.proofs.lemmas.Option.{IfSome_then}
use Rattle.json.specs.Json.{Json}
use Rattle.printing.specs.Json.{IsJsonText}
use Rattle.cargo_lock_parts.specs.Ascii.{newline}
use Rattle.cargo_lock_report.specs.Reported.{ReportedData}
use Rattle.cli_input.specs.declared.findings.Form.{Form}
use Rattle.cli_input.specs.declared.findings.Form.TheVariants as form
use Rattle.cli_input.specs.Told.{IsToldAs, KeptTold, LockfileFound}

-- two lists side by side, and further elements of both
zip-both : {X Y : Type 0} (R : X → Y → Type 0) (xs us : List X) (ys vs : List Y) → AllZip R xs ys → AllZip R us vs → AllZip R (xs ++ us) (ys ++ vs)
zip-both R [] us [] vs first second = second
zip-both R [] us (y ∷ ys) vs first second = absurd first
zip-both R (x ∷ xs) us [] vs first second = absurd first
zip-both R (x ∷ xs) us (y ∷ ys) vs first second = (first.0, zip-both R xs us ys vs first.1 second)

-- both texts, one behind the other
texts-both : {X : Type 0} (f : X → List ℕ) (xs ys : List X) (old more new : List ℕ) → new ≡ old ++ more → old ≡ flat_map f xs → more ≡ flat_map f ys
    → new ≡ flat_map f (xs ++ ys)
texts-both f xs ys old more new is before later =
    is ∙ ap (λ t. t ++ more) before ∙ ap (λ t. flat_map f xs ++ t) later ∙ sym (flat_map-append f xs ys)

-- the same of findings
reports-both : (xs ys : List LockfileFound) (old more new : List ReportedData) → new ≡ old ++ more → old ≡ flat_map (λ f. f.reported) xs
    → more ≡ flat_map (λ f. f.reported) ys → new ≡ flat_map (λ f. f.reported) (xs ++ ys)
reports-both xs ys old more new is before later =
    is ∙ ap (λ r. r ++ more) before ∙ ap (λ r. flat_map (λ (f : LockfileFound). f.reported) xs ++ r) later
    ∙ sym (flat_map-append (λ (f : LockfileFound). f.reported) xs ys)

-- nothing twice
none-both : {X : Type 0} (old more new : List X) → new ≡ old ++ more → old ≡ [] → more ≡ [] → new ≡ []
none-both old more new is before later = is ∙ ap (λ all. all ++ more) before ∙ later

-- what is told of some lockfiles, and then what is told of further ones
pub told-both : (asked : Form) (first second : List LockfileFound) (old more new : KeptTold) → new.text ≡ old.text ++ more.text
    → new.reported ≡ old.reported ++ more.reported → IsToldAs asked first old → IsToldAs asked second more → IsToldAs asked (first ++ second) new
told-both form.Lines first second old more new text reported before later = (
  texts-both (λ (f : LockfileFound). f.lines) first second old.text more.text new.text text before.0 later.0,
  none-both old.reported more.reported new.reported reported before.1 later.1,
)
told-both form.Json first second old more new text reported before later =
    let (one, ones, is_one, none_one) = before in
    let (two, twos, is_two, none_two) = later in (
      one ++ two,
      rw (map-append (λ (f : LockfileFound). f.document) first second)
          (zip-both IsJsonText (map (λ (f : LockfileFound). f.document) first) (map (λ (f : LockfileFound). f.document) second) one two ones twos),
      texts-both (λ (t : List ℕ). t ++ newline ∷ []) one two old.text more.text new.text text is_one is_two,
      none-both old.reported more.reported new.reported reported none_one none_two,
    )
told-both form.Sarif first second old more new text reported before later = (
  none-both old.text more.text new.text text before.0 later.0,
  reports-both first second old.reported more.reported new.reported reported before.1 later.1,
)
told-both form.Github first second old more new text reported before later = (
  none-both old.text more.text new.text text before.0 later.0,
  reports-both first second old.reported more.reported new.reported reported before.1 later.1,
)

-- ---- one lockfile

-- a text of one piece
one-piece : {X : Type 0} (f : X → List ℕ) (x : X) (text : List ℕ) → text ≡ f x → text ≡ flat_map f (x ∷ [])
one-piece f x text is = is ∙ sym (append-nil (f x)) ∙ sym (flat_map-cons f x [])

-- a text that is the lines of a lockfile
pub told-lines : (asked : Form) (o : Option (List ℕ)) (told : KeptTold) (document : Json) (reported : List ReportedData) → asked ≡ form.Lines → IfSome o (λ lines. told.text ≡ lines)
    → told.reported ≡ [] → IfSome o (λ lines. IsToldAs asked (record { lines = lines; document = document; reported = reported } ∷ []) told)
told-lines asked o told document reported is said none =
    rw is (IfSome_then o said (λ lines same. (one-piece (λ (f : LockfileFound). f.lines) (record { lines = lines; document = document; reported = reported }) told.text same, none)))

-- a text that is the document of a lockfile, and a newline
pub told-document : (asked : Form) (o : Option (List ℕ)) (told : KeptTold) (document : Json) (reported : List ReportedData) → asked ≡ form.Json
    → (text : List ℕ) × IsJsonText document text × (told.text ≡ text ++ newline ∷ [])
    → told.reported ≡ [] → IfSome o (λ lines. IsToldAs asked (record { lines = lines; document = document; reported = reported } ∷ []) told)
told-document asked None told document reported is said none = tt
told-document asked (Some lines) told document reported is (text, holds, same) none =
    rw is (text ∷ [], (holds, tt), one-piece (λ (t : List ℕ). t ++ newline ∷ []) text told.text same, none)
