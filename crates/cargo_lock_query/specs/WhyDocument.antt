-- Why packages are in a lockfile, in JSON: the document that `why --json` prints.
use Rattle.std.specs.Prelude.{List, codes, map}
use Rattle.json.specs.Json.{Json, null, object, member, no_members}
use Rattle.cargo_lock_query.specs.Lines.{AnswerData, Needed, Nothing}
use Rattle.cargo_lock_parts.specs.Identity.{PackageData}
use Rattle.cargo_lock_display.specs.File.{FileData, list_document}
use Rattle.cargo_lock_display.specs.PackageJson.{package_json, packages_json}

-- the package that an answer is about
abbrev pub package_in : AnswerData → PackageData
package_in (Needed p needers) = p
package_in (Nothing p) = p

-- the packages of a chain, each of which needs the one before it, from the one that needs the
-- package on, or null if nothing leads to the package
abbrev pub needed_by_json : AnswerData → Json
needed_by_json (Needed p needers) = packages_json needers
needed_by_json (Nothing p) = null

-- the JSON of an answer
unfoldable pub answer_json : AnswerData → Json
answer_json answer = object
    (member (codes "package") (package_json (package_in answer))
    (member (codes "needed_by") (needed_by_json answer) no_members))

-- the answers, each once and in order
unfoldable pub answers_json : FileData → List AnswerData → Json
answers_json file answers = list_document (codes "cargo-lock-why/1") file (codes "answers")
    (map answer_json answers)
