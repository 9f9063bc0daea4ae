use Rattle.std.proofs.Common.{◌≡◌, ◌∙◌, true, false, sym, ap}
use Rattle.mq_calls.specs.Words.{receiver_data}
use Rattle.mq_calls.specs.declared.agents.Note.TheVariants as notes
use Rattle.mq_agents.specs.Written.{is_live}
use Rattle.mq_agents.proofs.WriteLaws.{closed_live, in_room}
use Rattle.mq_core.specs.Values.{CoreValue, manager_of}
use Rattle.mq_spec_manager.specs.Agents.{harden}
use Rattle.mq_agents.proofs.hardening.harden_closed.Goals as goal

pub close-requires-clause-live : goal.close-requires-clause-live
close-requires-clause-live g c = ap (λ (w : CoreValue). is_live (receiver_data c.args.channel.now w.plain)) (sym c.core.view_is) ∙ sym c.has_live.ensures ∙ c.if-has_live.true

pub returns-then-has_live-clause-room : goal.returns-then-has_live-clause-room
returns-then-has_live-clause-room g c = λ can. in_room (manager_of c.args.core.now) _ (harden c.args.channel.now (notes.Closed c.args.session) c.args.core.now.plain) c.close.result c.close.ensures.wants c.close.ensures.meets

pub returns-clause-room : goal.returns-clause-room
returns-clause-room g c = λ can.
    absurd (let wrong : true ≡ false = sym (closed_live c.args.channel.now c.args.session c.args.core.now.plain can) ∙ ap (λ (w : CoreValue). is_live (receiver_data c.args.channel.now w.plain)) (sym c.core.view_is) ∙ sym c.has_live.ensures ∙ c.if-has_live.false in cc)
