use Rattle.std.proofs.Common.{rules, List, ℕ}
use Rattle.std.specs.Prelude.{not}
use Rattle.std.specs.Str.{bytes_eq}
use Rattle.std.proofs.lemmas.Fn.{filter_same}
use Rattle.mq_place.proofs.due.keep_others.Goals as goal

pub returns-clause-kept : goal.returns-clause-kept
returns-clause-kept c = filter_same _ (λ (n : List ℕ). not (bytes_eq c.args.name.now n)) _ (λ x b f h. search rules) _ _ c.retain.ensures.filtered
