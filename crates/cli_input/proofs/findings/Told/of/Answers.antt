use Rattle.std.proofs.Common.{[], string_bytes}
use Rattle.cli_input.specs.Told.{lines_in, subject_of}
use Rattle.cli_input.proofs.Telling.{told-document, told-lines}
use Rattle.cli_input.proofs.findings.Told.of.Goals as goal

pub returns-in_ok-text-in-Lines : goal.returns-in_ok-text-in-Lines
returns-in_ok-text-in-Lines g c =
    let s = subject_of c.args.subject in
    told-lines c.args.form (g.F.Display.output c.args.findings.now) (record { text = string_bytes c.in_ok-text-in-Lines.text; reported = c.new.result.items })
    (g.F.Findings.json s.file (lines_in s) c.args.findings.now) (g.F.Findings.reported s.path (lines_in s) c.args.findings.now) c.in-Lines.is c.in_ok-text-in-Lines.ensures.ok c.new.ensures.items

pub returns-in_ok-text-in-Json : goal.returns-in_ok-text-in-Json
returns-in_ok-text-in-Json g c =
    let s = subject_of c.args.subject in
    told-document c.args.form (g.F.Display.output c.args.findings.now) (record { text = string_bytes c.in_ok-text-in-Json.text; reported = c.new-in-Json.result.items })
    (g.F.Findings.json s.file (lines_in s) c.args.findings.now) (g.F.Findings.reported s.path (lines_in s) c.args.findings.now) c.in-Json.is c.in_ok-text-in-Json.ensures c.new-in-Json.ensures.items
