use Rattle.std.proofs.Common.{◌∙◌}
use Rattle.mq_spec_manager.specs.Words.{message_put}
use Rattle.mq_mqi.proofs.drafts.draft_of.Goals as goal

pub returns-clause-message : goal.returns-clause-message
returns-clause-message g c = λ body. c.make_draft.ensures.message body
    ∙ (λ i. message_put (c.next_ident.ensures i) (c.appl.ensures i) (record { end = c.args.end.now; path = c.args.path.now }) c.args.md.now body (record { own = (c.parts.view_is i).name; definitions = (c.parts.view_is i).defs.definitions; moment = (c.parts.view_is i).moment }))
