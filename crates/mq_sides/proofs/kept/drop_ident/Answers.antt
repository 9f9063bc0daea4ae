use Rattle.std.proofs.Common.{rules}
use Rattle.std.specs.Prelude.{not}
use Rattle.std.proofs.lemmas.Fn.{filter_same}
use Rattle.mq_unit.specs.from_message.{Ident}
use Rattle.mq_unit.specs.from_calls.Words.{same_ident}
use Rattle.mq_sides.proofs.kept.drop_ident.Goals as goal

pub returns : goal.returns
returns c = filter_same _ (λ (other : Ident). not (same_ident c.args.ident.now other)) _ (λ x b f h. search rules) _ _ c.retain.ensures.filtered
