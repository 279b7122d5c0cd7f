use Rattle.std.proofs.Common.{rules}
use Rattle.json.proofs.Printed.Decimals.{IsNumber-decimal}
use Rattle.printing.proofs.document.JsonWriter.number.Goals as goal

pub token-requires-clause-printable : goal.token-requires-clause-printable
token-requires-clause-printable c =
    rw c.format.ensures.text (IsNumber-decimal c.args.number (search rules))
