-- Each finding is one line: each part of it is printable.
use Rattle.std.proofs.Common.{◌==◌, ◌++◌, Bool, ℕ, List, codes, decimal, if◌then◌else◌, length, true, false, Option, Some, None, refl}
use Rattle.printing.specs.declared.form.Form.TheVariants.{Plain, Quoted}
use Rattle.printing.specs.Shown.{shown}
use Rattle.printing.proofs.LinesOf.{each-is-line}
use Rattle.printing.proofs.Printable.{Prints, decimal-prints, join, literal, shown-prints, words}
use Rattle.cargo_lock_parts.specs.Source.{Source}
use Rattle.cargo_lock_references.specs.Records.{EncodedPackage, unmarked_source}
use Rattle.cargo_lock_table_flaws.specs.declared.finding.Key.{Key}
use Rattle.cargo_lock_table_flaws.specs.declared.finding.Key.TheVariants as key
use Rattle.cargo_lock_table_flaws.specs.declared.finding.Place.{Place}
use Rattle.cargo_lock_table_flaws.specs.declared.finding.Place.TheVariants.{Listed, Root, Unused}
use Rattle.cargo_lock_table_flaws.specs.declared.finding.Role.{Role}
use Rattle.cargo_lock_table_flaws.specs.declared.finding.Role.TheVariants.{Dependency, FullDependency, Replacement}
use Rattle.cargo_lock_table_flaws.specs.Finding.{EachTableFindingIsOneLine, NoList, NoText, Nothing, OwnerData, TableFindingData, Text, Unread, Unresolved, WrittenData}
use Rattle.cargo_lock_table_flaws.specs.Finding.{encoded_by, encoded_shown, key_word, named_by, owner_by, owner_shown, place_words, role_fault, role_verb, table_finding_line, why, why_text}

word-prints : (k : Key) → Prints (key_word k)
word-prints key.Name = literal (codes "name") refl
word-prints key.Version = literal (codes "version") refl
word-prints key.Source = literal (codes "source") refl
word-prints key.Checksum = literal (codes "checksum") refl
word-prints key.Dependencies = literal (codes "dependencies") refl
word-prints key.Replace = literal (codes "replace") refl

place-prints : (p : Place) → Prints (place_words p)
place-prints (Listed n) = words (codes "package ") refl (decimal-prints n)
place-prints Root = literal (codes "root") refl
place-prints (Unused n) = words (codes "patch ") refl (decimal-prints n)

named-prints : (name : List ℕ) (version : Option (List ℕ)) → Prints (named_by name version)
named-prints name None = shown-prints Plain name
named-prints name (Some version) = join (shown-prints Plain name) (words (codes " ") refl (shown-prints Plain version))

owner-by-prints : (name : Option (List ℕ)) (o : OwnerData) → Prints (owner_by name o)
owner-by-prints None o = place-prints o.place
owner-by-prints (Some name) o = named-prints name o.version

owner-prints : (o : OwnerData) → Prints (owner_shown o)
owner-prints o = owner-by-prints o.name o

digits-print : (b : Bool) (n : ℕ) → Prints (if b then codes "not hexadecimal" else (codes "expected 64 hex digits, got " ++ decimal n))
digits-print true n = literal (codes "not hexadecimal") refl
digits-print false n = words (codes "expected 64 hex digits, got ") refl (decimal-prints n)

no-prints : (text noun : List ℕ) → Prints noun → Prints (codes "`" ++ (shown Quoted text ++ (codes "` is not a " ++ noun)))
no-prints text noun h = words (codes "`") refl (join (shown-prints Quoted text) (words (codes "` is not a ") refl h))

why-text-prints : (k : Key) (text : List ℕ) → Prints (why_text k text)
why-text-prints key.Name text = no-prints text (codes "name") (literal (codes "name") refl)
why-text-prints key.Version text = no-prints text (codes "version") (literal (codes "version") refl)
why-text-prints key.Source text = no-prints text (codes "source") (literal (codes "source") refl)
why-text-prints key.Checksum text = digits-print (length text == 64) (length text)
why-text-prints key.Dependencies text = no-prints text (codes "reference") (literal (codes "reference") refl)
why-text-prints key.Replace text = no-prints text (codes "reference") (literal (codes "reference") refl)

why-prints : (k : Key) (w : WrittenData) → Prints (why k w)
why-prints k Nothing = literal (codes "missing") refl
why-prints k (Text text) = why-text-prints k text
why-prints k NoText = literal (codes "not a text") refl
why-prints k NoList = literal (codes "not a list") refl

encoded-by-prints : (p : EncodedPackage) (s : Option Source) → Prints (encoded_by p s)
encoded-by-prints p None = join (shown-prints Plain _) (words (codes " ") refl (shown-prints Plain _))
encoded-by-prints p (Some s) =
    join (shown-prints Plain _) (words (codes " ") refl (join (shown-prints Plain _)
    (words (codes " (") refl (join (shown-prints Plain _) (literal (codes ")") refl)))))

encoded-prints : (p : EncodedPackage) → Prints (encoded_shown p)
encoded-prints p = encoded-by-prints p (unmarked_source p.source)

verb-prints : (r : Role) → Prints (role_verb r)
verb-prints Dependency = literal (codes " depends on ") refl
verb-prints FullDependency = literal (codes " depends on ") refl
verb-prints Replacement = literal (codes " is replaced by ") refl

fault-prints : (r : Role) → Prints (role_fault r)
fault-prints Dependency = literal (codes ", which no package is") refl
fault-prints FullDependency = literal (codes ", which is named without a version") refl
fault-prints Replacement = literal (codes ", which is named without a version") refl

line-prints : (f : TableFindingData) → Prints (table_finding_line f)
line-prints (Unread o k w) =
    join (word-prints k) (words (codes ": ") refl (join (owner-prints o) (words (codes ": ") refl (why-prints k w))))
line-prints (Unresolved place p f r) =
    words (codes "reference: ") refl (join (encoded-prints p) (join (verb-prints r) (join (shown-prints Plain f.name) (fault-prints r))))

pub each-table-finding-is-one-line : EachTableFindingIsOneLine
each-table-finding-is-one-line = each-is-line table_finding_line line-prints
