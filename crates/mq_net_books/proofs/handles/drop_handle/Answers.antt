use Rattle.std.proofs.Common.{rules, ◌==◌}
use Rattle.std.specs.Prelude.{not}
use Rattle.std.proofs.lemmas.Fn.{filter_same}
use Rattle.mq_calls.specs.declared.state.Handle.{Handle}
use Rattle.mq_net_books.proofs.handles.drop_handle.Goals as goal

pub returns : goal.returns
returns c = filter_same _ (λ (x : Handle). not (x.number == c.args.number)) _ (λ x b f h. search rules) _ _ c.retain.ensures.filtered
