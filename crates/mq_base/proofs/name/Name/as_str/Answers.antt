use Rattle.mq_base.proofs.Fields.{name_utf8}
use Rattle.std.proofs.Common.{subst, sym}
use Rattle.std.specs.Str.{IsUtf8}
use Rattle.mq_base.proofs.name.Name.as_str.Goals as goal

pub unreachable-requires : goal.unreachable-requires
unreachable-requires g c = c.in-Err.ensures.cases.0 (subst IsUtf8 (sym c.text.ensures.text) (name_utf8 g.row.N c.args.self.now c.text.ensures.name))
