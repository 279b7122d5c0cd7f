-- The chain of a translation, by relations and as it is computed, and what it keeps.
use Rattle.std.proofs.Common.{◌≡◌, inl, inr, List, [], ◌∷◌, map, Option, Some, None, Result, Ok, Err, IfOk, IfErr, IsOkUnless, refl, sym, subst, ◌∙◌, ap}
use Rattle.std.proofs.lemmas.Option.{same_Some, none-some}
use Rattle.cargo_lock_parts.specs.declared.error.Error.{Error}
use Rattle.cargo_lock_parts.specs.declared.error.Error.TheVariants.{Io, Parse, Version, Resolution, Memory}
use Rattle.cargo_lock_parts.specs.Error.{Reads, Refuses}
use Rattle.cargo_lock_parts.specs.Identity.{PackageData, package_key}
use Rattle.cargo_lock_references.specs.declared.version.ResolveVersion.{ResolveVersion}
use Rattle.cargo_lock_encoding.specs.Meaning.{meaning}
use Rattle.cargo_lock_references.specs.Metadata.{metadata_of}
use Rattle.cargo_lock_parts.specs.Optional.{◌>>=◌}
use Rattle.cargo_lock_encoding.specs.Lockfiles.{LockfileData}
use Rattle.cargo_lock_references.specs.Records.{Texts}
use Rattle.cargo_lock_encoding.specs.Survives.{in_format}
use Rattle.cargo_lock_encoding.specs.Table.{table_of}
use Rattle.cargo_lock.specs.Translation.{IsStuck, KeepsThrough, LeadsTo, SurvivesEach, last_format, metadata_through, translate_in_turn}
use Rattle.cargo_lock.proofs.KeyTexts.{metadata_of-same}
use Rattle.cargo_lock_encoding.proofs.MeansLemmas.{Means-from, bind-parts, meaning-from}
use Rattle.cargo_lock.proofs.Survival.{reading}
use Rattle.cargo_lock_references.proofs.Walk.{Refuses-by}

leads-to : (fs : List ResolveVersion) (l x : LockfileData) → translate_in_turn fs l ≡ Some x → LeadsTo fs l x
leads-to [] l x e = sym (same_Some _ _ e)
leads-to (f ∷ fs) l x e =
    let p = bind-parts (meaning (table_of (in_format f l))) (translate_in_turn fs) x e in
    (p.0, Means-from (table_of (in_format f l)) p.0 p.1, leads-to fs p.0 x p.2)

stuck : (fs : List ResolveVersion) (l : LockfileData) → translate_in_turn fs l ≡ None → IsStuck fs l
stuck [] l e = none-some l (sym e)
stuck (f ∷ fs) l e = by (meaning (table_of (in_format f l))) refl e (λ y none. stuck fs y none)
  where
    by : (o : Option LockfileData) → meaning (table_of (in_format f l)) ≡ o → (o >>= translate_in_turn fs) ≡ None
        → ((y : LockfileData) → translate_in_turn fs y ≡ None → IsStuck fs y) → IsStuck (f ∷ fs) l
    by None given none later = inl (λ y s. none-some y (sym given ∙ meaning-from (table_of (in_format f l)) y s))
    by (Some y) given none later = inr (y, Means-from (table_of (in_format f l)) y given, later y none)

through-same : (fs : List ResolveVersion) (m : Texts) (ps qs : List PackageData) → map package_key ps ≡ map package_key qs
    → metadata_through fs m ps ≡ metadata_through fs m qs
through-same [] m ps qs e = refl
through-same (f ∷ fs) m ps qs e =
    through-same fs (metadata_of f m ps) ps qs e
    ∙ ap (λ (n : Texts). metadata_through fs n qs) (metadata_of-same f m ps qs e)

record IsThrough (fs : List ResolveVersion) (l : LockfileData) : Type 0 where
  end : LockfileData
  gives : translate_in_turn fs l ≡ Some end
  keeps : KeepsThrough fs l end

through : (fs : List ResolveVersion) (l : LockfileData) → SurvivesEach fs l → IsThrough fs l
through [] l h = record {
  end = l;
  gives = refl;
  keeps = record { version = refl; same = record { packages = refl; root = refl; patch = refl }; metadata = refl };
}
through (f ∷ fs) l h =
    let r = reading l f h.0 in
    let t = through fs r.read (h.1 r.read (Means-from (table_of (in_format f l)) r.read r.means)) in
    let k = t.keeps in
    record {
      end = t.end;
      gives = ap (λ (o : Option LockfileData). o >>= translate_in_turn fs) r.means ∙ t.gives;
      keeps = record {
        version = k.version ∙ ap (λ (v : ResolveVersion). last_format v fs) r.version;
        same = record {
          packages = k.same.packages ∙ r.same.packages;
          root = k.same.root ∙ r.same.root;
          patch = k.same.patch ∙ r.same.patch;
        };
        metadata = k.metadata
            ∙ ap (λ (m : Texts). metadata_through fs m r.read.packages) r.metadata
            ∙ through-same fs (metadata_of f l.metadata l.packages) r.read.packages l.packages r.same.packages;
      };
    }

-- ---- what the call answers

pub chain-from : (fs : List ResolveVersion) (l : LockfileData) (r : Result LockfileData Error) → Reads (λ x. x) r (translate_in_turn fs l) → IfOk r (LeadsTo fs l)
chain-from fs l (Ok x) h = leads-to fs l x h
chain-from fs l (Err e) h = tt

pub stuck-from : (fs : List ResolveVersion) (l : LockfileData) (r : Result LockfileData Error) → Reads (λ x. x) r (translate_in_turn fs l) → IfErr r (λ e. Refuses e (IsStuck fs l))
stuck-from fs l (Ok x) h = tt
stuck-from fs l (Err e) h = Refuses-by e _ _ h (stuck fs l)

pub kept-from : (fs : List ResolveVersion) (l : LockfileData) (r : Result LockfileData Error) → Reads (λ x. x) r (translate_in_turn fs l) → SurvivesEach fs l → IfOk r (KeepsThrough fs l)
kept-from fs l (Ok x) h s = let t = through fs l s in subst (KeepsThrough fs l) (same_Some _ _ (sym t.gives ∙ h)) t.keeps
kept-from fs l (Err e) h s = tt

pub only-memory : (e : Error) → Refuses e ⊥ → e ≡ Memory
only-memory (Io kind) h = absurd h
only-memory (Parse message) h = absurd h
only-memory (Version fault) h = absurd h
only-memory (Resolution message) h = absurd h
only-memory Memory h = refl

pub refused-from : (fs : List ResolveVersion) (l : LockfileData) (r : Result LockfileData Error) → Reads (λ x. x) r (translate_in_turn fs l) → SurvivesEach fs l → IsOkUnless r Memory
refused-from fs l (Ok x) h s = tt
refused-from fs l (Err e) h s = let t = through fs l s in only-memory e (Refuses-by e _ _ h (λ none. none-some t.end (sym none ∙ t.gives)))
