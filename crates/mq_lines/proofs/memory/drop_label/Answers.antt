use Rattle.std.proofs.Common.{rules}
use Rattle.std.specs.Prelude.{not}
use Rattle.std.specs.Str.{bytes_eq}
use Rattle.std.proofs.lemmas.Fn.{filter_same}
use Rattle.mq_spec_node.specs.Scripts.{Bound}
use Rattle.mq_lines.proofs.memory.drop_label.Goals as goal

pub returns-clause-handles : goal.returns-clause-handles
returns-clause-handles c = filter_same _ (λ (b : Bound). not (bytes_eq c.args.label.now b.label)) _ (λ x b f h. search rules) _ _ c.retain.ensures.filtered
