use Rattle.std.proofs.Common.{string_bytes}
use Rattle.printing.proofs.Texts.{written_in_line}
use Rattle.printing.proofs.value.json_line.Goals as goal

pub returns : goal.returns
returns g c =
    written_in_line (g.T.ToJson.json c.args.value.now) c.new-out.result c.write_json.new.out
    (string_bytes c.into_string.result) c.requires c.new-out.ensures c.in_ok-write_json.ensures
    c.into_string.ensures.text c.into_string.ensures.tokens c.into_string.ensures.numbers
