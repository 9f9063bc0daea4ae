use Rattle.std.proofs.Common.{◌≡◌, ◌+◌, ◌∙◌, ℕ, ap, subst, refl, length}
use Rattle.std.specs.Prelude.{List, Option, None, find, Err}
use Rattle.std.specs.Str.{bytes_eq}
use Rattle.mq_calls.specs.Words.{set_sender}
use Rattle.mq_calls.specs.declared.state.SenderSide.{SenderSide}
use Rattle.mq_log.specs.State.{LogState}
use Rattle.mq_place.specs.Rooms.{RowsKept}
use Rattle.mq_sides.specs.Places.{AreByName, standing}
use Rattle.mq_core.specs.declared.parts.ChannelEnds.{ChannelEnds}
use Rattle.mq_core.specs.Views.{PartsValue}
use Rattle.mq_core.specs.declared.parts.StoppedWrite.TheVariants as writes
use Rattle.mq_core.specs.Forced.{downed}
use Rattle.mq_agents.specs.Settling.{none_named, with_named}
use Rattle.mq_agents.specs.Written.{IsLogged, IsUnlogged, Lacks, with_senders}
use Rattle.mq_agents.specs.declared.hardening.Unwritten.{Unwritten}
use Rattle.mq_agents.specs.declared.hardening.Unwritten.TheVariants as unwritten
use Rattle.mq_agents.proofs.WriteLaws.{forced_written, not_forced}
use Rattle.mq_agents.proofs.settling.write_settled.Goals as goal

put_in : List SenderSide → ChannelEnds → ChannelEnds
put_in sides e = with_senders sides e

pub force_side-requires-clause-live : goal.force_side-requires-clause-live
force_side-requires-clause-live g c = ap (λ (p : PartsValue). p.log.live) c.parts.view_is ∙ c.requires.live

abbrev LacksFor : List ℕ → ℕ → PartsValue → Unwritten → Type 0
LacksFor channel n p u = Lacks {T = Option SenderSide} (AreByName (λ (s : SenderSide). s.channel) p.ends.senders → find (λ (s : SenderSide). bytes_eq channel s.channel) p.ends.senders ≡ None) n p.log (Err u)

lacks_seen : (channel : List ℕ) (n : ℕ) (x y : PartsValue) (u : Unwritten) → y ≡ x → u ≡ unwritten.NoMemory → LacksFor channel n y u → LacksFor channel n x unwritten.NoMemory
lacks_seen channel n x y u seen is l = subst (λ (p : PartsValue). LacksFor channel n p unwritten.NoMemory) seen (subst (LacksFor channel n y) is l)

pub returns-in-Err-NoMemory-clause-lacks : goal.returns-in-Err-NoMemory-clause-lacks
returns-in-Err-NoMemory-clause-lacks g c =
    lacks_seen c.args.side.channel (5 + length c.args.bytes.now) c.args.parts.now _ c.in-Err-NoMemory.field-0 c.parts.view_is c.in-Err-NoMemory.field-0-is c.in-Err-NoMemory.ensures.lacks

pub returns-in-Err-NoMemory-clause-written : goal.returns-in-Err-NoMemory-clause-written
unfolding put_in
returns-in-Err-NoMemory-clause-written g c =
    let x : PartsValue = c.args.parts.now in
    let seen = c.parts.view_is in
    let w = c.in-Err-NoMemory.ensures.forced in
    let sides = w.0 ∙ ap (λ (p : PartsValue). p.ends.senders) seen in
    not_forced (writes.Settled c.args.channel.now c.args.unit.now c.args.commit c.args.operator x.ends.rows.rows) unwritten.NoMemory c.args.bytes.now x _ x.ends _ c.force_side.new.log seen (λ i. put_in (sides i) (seen i).ends)
    (subst (λ (u : Unwritten). IsUnlogged c.args.bytes.now c.parts.inside.log u c.force_side.new.log) c.in-Err-NoMemory.field-0-is w.1)

pub returns-in-Err-Stopped-clause-written : goal.returns-in-Err-Stopped-clause-written
unfolding put_in
returns-in-Err-Stopped-clause-written g c =
    let x : PartsValue = c.args.parts.now in
    let seen = c.parts.view_is in
    let new : LogState = c.force_side.new.log in
    let stop = c.in-Err-Stopped.stop in
    let w = c.in-Err-Stopped.ensures.forced in
    let sides = w.0 ∙ ap (λ (p : PartsValue). p.ends.senders) seen in
    let undone : PartsValue = record x { log = new } in
    let logged : IsLogged c.args.bytes.now c.parts.inside.log (Err stop) new = subst (λ (u : Unwritten). IsUnlogged c.args.bytes.now c.parts.inside.log u new) c.in-Err-Stopped.field-0-is w.1 in
    let named : c.into_items.result ≡ x.ends.rows.rows = c.into_items.ensures ∙ ap (λ (k : RowsKept). k.rows) (c.take_rows-rows.ensures.rows ∙ ap (λ (p : PartsValue). p.ends.rows) seen) in
    let taken : c.take_rows-rows.new.parts ≡ with_named none_named undone = c.take_rows-rows.ensures.same ∙ ap (with_named none_named) (λ i. record (seen i) { ends = put_in (sides i) (seen i).ends; log = new }) in
    record {
      at = with_named none_named undone;
      is = record { same = refl; log = subst (λ (l : LogState). IsLogged c.args.bytes.now l (Err stop) new) (ap (λ (p : PartsValue). p.log) seen) logged; ends = tt };
      down = c.go_down.ensures ∙ (λ i. downed (writes.Settled c.args.channel.now c.args.unit.now c.args.commit c.args.operator (named i)) (taken i));
    }

pub returns-clause-written : goal.returns-clause-written
unfolding put_in
returns-clause-written g c =
    let x : PartsValue = c.args.parts.now in
    let seen = c.parts.view_is in
    let w = c.in-Ok.ensures.forced in
    let sides = w.1 ∙ ap (λ (p : PartsValue). set_sender c.args.side p.ends.senders) seen in (
      w.0 ∙ ap (λ (p : PartsValue). standing (λ (s : SenderSide). s.channel) c.args.side.channel p.ends.senders) seen,
      forced_written c.args.bytes.now x _ (put_in (set_sender c.args.side x.ends.senders) x.ends) _ c.force_side.new.log seen (λ i. put_in (sides i) (seen i).ends) c.requires.ends w.2,
    )
