use Rattle.std.proofs.Common.{ap, ◌∙◌}
use Rattle.mq_message.specs.declared.message.Dest.{Dest}
use Rattle.mq_spec_network.specs.Ledger.{resolved_at}
use Rattle.mq_net_ledger.specs.Posts.{routed}
use Rattle.mq_net_ledger.proofs.posts.routed_by_names.Goals as goal

pub returns : goal.returns
returns c = c.routed.ensures ∙ ap (λ (d : Dest). routed c.args.message (resolved_at c.args.m d.queue d.qmgr c.args.books.now)) c.names_of-names.ensures
