use Rattle.std.specs.Prelude.{codes}
use Rattle.mq_objects.specs.Attributes.{in_brackets}
use Rattle.mq_sync.specs.Units.{unit_text}
use Rattle.mq_status.proofs.JoinLaws.{joined}
use Rattle.mq_status.proofs.lines.put_unsettled.Goals as goal

pub returns : goal.returns
returns c =
    joined c.put_unit.result c.args.out.now c.put_pair.new.out c.put_unit.new.out (in_brackets (codes " INDOUBT") (codes "YES")) (in_brackets (codes " CURLUWID") (unit_text c.args.unit.now))
    c.in_ok-put_pair.ensures c.put_unit.ensures
