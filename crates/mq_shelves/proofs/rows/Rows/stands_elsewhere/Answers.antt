use Rattle.std.proofs.Common.{sym, ap, ◌∙◌}
use Rattle.std.specs.Prelude.{not}
use Rattle.std.specs.Str.{bytes_eq}
use Rattle.mq_shelves.proofs.rows.Rows.stands_elsewhere.Goals as goal

pub returns-in-None : goal.returns-in-None
returns-in-None c = sym (c.in-None.ensures.any (λ n row. not (bytes_eq c.args.queue.now n)))

pub returns-in-Some : goal.returns-in-Some
returns-in-Some c = ap not c.is_name.ensures ∙ sym (c.in-Some.ensures.any (λ n row. not (bytes_eq c.args.queue.now n)))
