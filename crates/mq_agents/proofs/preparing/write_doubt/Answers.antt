use Rattle.std.proofs.Common.{◌∙◌, ap, subst, sym, ℕ}
use Rattle.std.specs.Prelude.{List, Ok, Err}
use Rattle.mq_calls.specs.Words.{set_sender}
use Rattle.mq_calls.specs.declared.state.SenderSide.{SenderSide}
use Rattle.mq_core.specs.declared.parts.ChannelEnds.{ChannelEnds}
use Rattle.mq_core.specs.Views.{PartsValue}
use Rattle.mq_core.specs.declared.parts.StoppedWrite.TheVariants as writes
use Rattle.mq_agents.specs.Written.{IsLogged, IsUnlogged, Writes, with_senders}
use Rattle.mq_agents.proofs.WriteLaws.{forced_written, not_forced}
use Rattle.mq_agents.proofs.preparing.write_doubt.Goals as goal

put_in : List SenderSide → ChannelEnds → ChannelEnds
put_in sides e = with_senders sides e

pub returns-in-Err : goal.returns-in-Err
unfolding put_in
returns-in-Err g c =
    let x : PartsValue = c.args.parts.now in
    let seen = c.parts.view_is in
    let bytes = c.as_slice.ensures ∙ ap (λ (p : PartsValue). p.body.bytes) seen in
    let made = put_in (set_sender c.args.side x.ends.senders) x.ends in
    let u = c.in-Err.unwritten in
    let sides = c.in-Err.ensures.forced.0 ∙ ap (λ (p : PartsValue). p.ends.senders) seen in
    subst (Writes x.body.bytes made (writes.Prepared c.args.channel.now c.args.last) x (Err u)) (sym c.go_down_if.ensures)
    (not_forced (writes.Prepared c.args.channel.now c.args.last) u x.body.bytes x _ made _ c.force_side.new.log seen (λ i. put_in (sides i) (seen i).ends) (subst (λ (b : List ℕ). IsUnlogged b c.parts.inside.log u c.force_side.new.log) bytes c.in-Err.ensures.forced.1))

pub returns : goal.returns
unfolding put_in
returns g c =
    let x : PartsValue = c.args.parts.now in
    let seen = c.parts.view_is in
    let bytes = c.as_slice.ensures ∙ ap (λ (p : PartsValue). p.body.bytes) seen in
    let w = c.in-Ok.ensures.forced in
    let sides = w.1 ∙ ap (λ (p : PartsValue). set_sender c.args.side p.ends.senders) seen in
    forced_written x.body.bytes x _ (put_in (set_sender c.args.side x.ends.senders) x.ends) _ c.force_side.new.log seen (λ i. put_in (sides i) (seen i).ends) c.requires.ends
    (subst (λ (b : List ℕ). IsLogged b c.parts.inside.log (Ok tt) c.force_side.new.log) bytes w.2)
