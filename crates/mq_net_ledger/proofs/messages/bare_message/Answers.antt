use Rattle.std.proofs.Common.{ℕ, List, ◌≡◌, ap, sym, ◌∙◌}
use Rattle.std.specs.Prelude.{drop}
use Rattle.std.proofs.lemmas.Result.{IfOk-weaker}
use Rattle.mq_message.specs.declared.message.Message.{Message}
use Rattle.mq_heads.specs.Headers.{dlh_read}
use Rattle.mq_heads.specs.declared.headers.Dlh.{Dlh}
use Rattle.mq_spec_manager.specs.Moves.{bare_message}
use Rattle.mq_net_ledger.proofs.HeadLaws.{head_long, head_is}
use Rattle.mq_net_ledger.proofs.messages.bare_message.Goals as goal

pub bare_by-requires : goal.bare_by-requires
bare_by-requires c = head_long c.args.message.now.body c.in-Ok.head (ap (λ (b : List ℕ). dlh_read b) (sym c.as_slice.ensures) ∙ sym c.in-Ok.ensures.value)

pub returns-in-Ok : goal.returns-in-Ok
returns-in-Ok c =
    let message = c.args.message.now in
    let by : Dlh → Message = λ h. record message { md = record message.md { format = h.format; encoding = h.encoding; coded_char_set_id = h.coded_char_set_id }; body = drop 172 message.body } in
    IfOk-weaker c.bare_by.result (λ (m : Message). m ≡ by c.in-Ok.head) (λ (m : Message). m ≡ bare_message message)
    (λ m is. is ∙ ap by (head_is message.body c.in-Ok.head (ap (λ (b : List ℕ). dlh_read b) (sym c.as_slice.ensures) ∙ sym c.in-Ok.ensures.value))) c.bare_by.ensures
