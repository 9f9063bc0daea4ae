use Rattle.std.proofs.Common.{◌≡◌, ap, ◌∙◌}
use Rattle.std.proofs.lemmas.Result.{IfOk-weaker}
use Rattle.mq_message.specs.declared.message.Message.{Message}
use Rattle.mq_history.specs.declared.story.ManagerPlaces.{ManagerPlaces}
use Rattle.mq_fill.specs.Drafts.{message_of}
use Rattle.mq_spec_manager.specs.Put.{message_put}
use Rattle.mq_net_books.proofs.accounts.Account.message_put.Goals as goal

pub returns : goal.returns
returns c =
    let by : ManagerPlaces → Message = λ p. message_put c.args.ident.now c.args.appl.now (record { end = c.args.end.now; path = c.args.path.now }) c.args.md.now c.args.body.now (record { own = p.name; definitions = p.definitions; moment = c.args.moment }) in
    IfOk-weaker c.with_body.result (λ (m : Message). m ≡ message_of c.make_draft-draft.result c.args.body.now) (λ (m : Message). m ≡ by c.args.self.now)
    (λ m is. is ∙ c.make_draft-draft.ensures.message c.args.body.now ∙ ap by c.self.view_is) c.with_body.ensures
