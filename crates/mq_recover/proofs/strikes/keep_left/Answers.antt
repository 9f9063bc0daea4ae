use Rattle.std.proofs.Common.{rules}
use Rattle.std.specs.Prelude.{nat_le}
use Rattle.std.proofs.lemmas.Fn.{filter_same}
use Rattle.mq_message.specs.declared.message.Ident.{Ident}
use Rattle.mq_recover.specs.Kept.{struck_at}
use Rattle.mq_recover.proofs.strikes.keep_left.Goals as goal

pub returns : goal.returns
returns c = filter_same _ (λ (ident : Ident). nat_le (struck_at c.args.struck.now ident) c.args.since) _ (λ x b f h. search rules) _ _ c.retain.ensures.filtered
