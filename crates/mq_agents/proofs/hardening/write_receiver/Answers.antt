use Rattle.std.proofs.Common.{◌∙◌, ap, subst, sym}
use Rattle.std.specs.Prelude.{List, Err}
use Rattle.mq_calls.specs.Words.{set_receiver}
use Rattle.mq_calls.specs.declared.state.ReceiverSide.{ReceiverSide}
use Rattle.mq_core.specs.declared.parts.ChannelEnds.{ChannelEnds}
use Rattle.mq_core.specs.Views.{PartsValue}
use Rattle.mq_core.specs.declared.parts.StoppedWrite.TheVariants as writes
use Rattle.mq_sides.specs.Places.{standing}
use Rattle.mq_agents.specs.Written.{Writes, with_receivers}
use Rattle.mq_agents.proofs.WriteLaws.{forced_written, not_forced}
use Rattle.mq_agents.proofs.hardening.write_receiver.Goals as goal

put_in : List ReceiverSide → ChannelEnds → ChannelEnds
put_in sides e = with_receivers sides e

pub returns-in-Err-clause-written : goal.returns-in-Err-clause-written
unfolding put_in
returns-in-Err-clause-written g c =
    let x : PartsValue = c.args.parts.now in
    let seen = c.parts.view_is in
    let made = put_in (set_receiver c.args.side x.ends.receivers) x.ends in
    let u = c.in-Err.unwritten in
    let sides = c.in-Err.ensures.forced.0 ∙ ap (λ (p : PartsValue). p.ends.receivers) seen in
    subst (Writes c.args.bytes.now made (writes.Hardened c.args.channel.now c.args.note.now) x (Err u)) (sym c.go_down_if.ensures)
    (not_forced (writes.Hardened c.args.channel.now c.args.note.now) u c.args.bytes.now x _ made _ c.force_side.new.log seen (λ i. put_in (sides i) (seen i).ends) c.in-Err.ensures.forced.1)

pub returns-clause-written : goal.returns-clause-written
unfolding put_in
returns-clause-written g c =
    let x : PartsValue = c.args.parts.now in
    let seen = c.parts.view_is in
    let w = c.in-Ok.ensures.forced in
    let sides = w.1 ∙ ap (λ (p : PartsValue). set_receiver c.args.side p.ends.receivers) seen in (
      w.0 ∙ ap (λ (p : PartsValue). standing (λ (s : ReceiverSide). s.channel) c.args.side.channel p.ends.receivers) seen,
      forced_written c.args.bytes.now x _ (put_in (set_receiver c.args.side x.ends.receivers) x.ends) _ c.force_side.new.log seen (λ i. put_in (sides i) (seen i).ends) c.requires.ends w.2,
    )
