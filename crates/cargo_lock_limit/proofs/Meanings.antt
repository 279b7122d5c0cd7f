-- What is read of values is what is read of their table, and of a text with that table.
use Rattle.std.proofs.Common.{◌≡◌, ◌∙◌, ℕ, List, MatchOption, None, Option, Some, subst, sym}
use Rattle.std.proofs.lemmas.Option.{none-some, same_Some}
use Rattle.toml.specs.Data.{Members}
use Rattle.toml.specs.Parse.{parse_document}
use Rattle.cargo_lock.proofs.PrintedTexts.{text-means-one}
use Rattle.cargo_lock_encoding.specs.Lockfiles.{EncodedData, LockfileData}
use Rattle.cargo_lock_encoding.specs.Means.{IsLocked, Means, TextMeans}
use Rattle.cargo_lock_encoding.specs.TableReading.{encoded_at}
use Rattle.cargo_lock_parts.specs.declared.error.Error.{Error}
use Rattle.cargo_lock_parts.specs.Error.{IsLong, Refuses, RefusesUrls}
use Rattle.cargo_lock_references.proofs.Walk.{Refuses-by, RefusesUrls-exactly}
use Rattle.cargo_lock_limit.specs.Limits.{AreBeyond, HoldsWithin}

-- ---- values and their table

-- what the table means is a lockfile of the values
of-values : (t : Members) (e : EncodedData) (l : LockfileData) → encoded_at t ≡ Some e → Means t l → IsLocked e l
of-values t e l read m = subst (λ (x : EncodedData). IsLocked x l) (same_Some _ _ (sym m.values ∙ read)) m.lockfile_of

-- what is read of values is read of their table
pub table-read : (limit : ℕ) (t : Members) (e : EncodedData) → encoded_at t ≡ Some e → (o : Option LockfileData)
    → MatchOption o (AreBeyond limit (IsLocked e)) (IsLocked e) → MatchOption o (AreBeyond limit (Means t)) (Means t)
table-read limit t e read None beyond = λ l m. beyond l (of-values t e l read m)
table-read limit t e read (Some l) locked = record { encoded = e; values = read; lockfile_of = locked }

-- a table whose values are refused is refused
pub table-refused : (t : Members) (e : EncodedData) → encoded_at t ≡ Some e → (error : Error) → Refuses error ((l : LockfileData) → ¬ IsLocked e l)
    → Refuses error ((l : LockfileData) → ¬ Means t l)
table-refused t e read error h = Refuses-by error _ _ h (λ never l m. never l (of-values t e l read m))

-- so is one that has no values
pub table-unread : (t : Members) (error : Error) → Refuses error (encoded_at t ≡ None) → Refuses error ((l : LockfileData) → ¬ Means t l)
table-unread t error h = Refuses-by error _ _ h (λ none l m. none-some m.encoded (sym none ∙ m.values))

-- ---- a table and its text

-- what the text means is a lockfile of the table
of-table : (text : List ℕ) (t : Members) (l : LockfileData) → parse_document text ≡ Some t → TextMeans text l → Means t l
of-table text t l parsed m = subst (λ (u : Members). Means u l) (same_Some _ _ (sym m.parsed ∙ parsed)) m.means

-- what is read of a table is read of the text
pub text-read : (limit : ℕ) (text : List ℕ) (t : Members) → parse_document text ≡ Some t → (o : Option LockfileData)
    → MatchOption o (AreBeyond limit (Means t)) (Means t) → MatchOption o (AreBeyond limit (TextMeans text)) (TextMeans text)
text-read limit text t parsed None beyond = λ l m. beyond l (of-table text t l parsed m)
text-read limit text t parsed (Some l) means = record { table = t; parsed = parsed; means = means }

-- a text whose table is refused is refused
pub text-refused : (text : List ℕ) (t : Members) → parse_document text ≡ Some t → (error : Error) → Refuses error ((l : LockfileData) → ¬ Means t l)
    → RefusesUrls (IsLong text) error ((l : LockfileData) → ¬ TextMeans text l)
text-refused text t parsed error h = RefusesUrls-exactly error _ _ _ h (λ never l m. never l (of-table text t l parsed m))

-- ---- the limit

-- what is asked of the lockfile that a text means is asked of each that it means
pub text-within : (limit : ℕ) (text : List ℕ) (l : LockfileData) → TextMeans text l → (o : Option LockfileData)
    → MatchOption o (AreBeyond limit (λ x. x ≡ l)) (HoldsWithin limit (λ x. x ≡ l)) → MatchOption o (AreBeyond limit (TextMeans text)) (HoldsWithin limit (TextMeans text))
text-within limit text l means None beyond = λ x there. beyond x (text-means-one text x l there means)
text-within limit text l means (Some x) within = record { holds = subst (TextMeans text) (sym within.holds) means; within = within.within }
