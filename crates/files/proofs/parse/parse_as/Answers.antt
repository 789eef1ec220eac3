use Rattle.files.proofs.AccessLaws.{read_as, read_other}
use Rattle.files.proofs.parse.parse_as.Goals as goal

pub returns-then-r-kind : goal.returns-then-r-kind
returns-then-r-kind c = read_as c.args.kind _ _ c.read-r.ensures _ c.if-r-kind.true c.parsed.ensures

pub returns : goal.returns
returns c = read_other c.args.kind _ _ c.read-r.ensures c.if-r-kind.false
