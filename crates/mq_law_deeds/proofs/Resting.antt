-- Deeds that aren't this end's own hold no row for its channel, and leave its batch.
use Rattle.std.proofs.Common.{ℕ, ◌≡◌, true, List, [], ◌∷◌, ◌++◌, refl, ◌∙◌}
use Rattle.std.specs.Prelude.{Option, Some, None, Result, Ok, Err}
use Rattle.mq_codes.specs.declared.reason.Reason.{Reason}
use Rattle.mq_message.specs.declared.place.Holder.TheVariants as holders
use Rattle.mq_frame.specs.declared.frame.Seen.{Seen}
use Rattle.mq_sync.specs.declared.unit.Unit.{Unit as Luw}
use Rattle.mq_receiver.specs.declared.turns.ReceiverDoes.{ReceiverDoes}
use Rattle.mq_receiver.specs.declared.turns.ReceiverDoes.TheVariants as takes
use Rattle.mq_receiver.specs.After.{last_by}
use Rattle.mq_sync.specs.Settlement.{receiver_or}
use Rattle.mq_calls.specs.declared.deltas.Did.TheVariants as did
use Rattle.mq_calls.specs.State.{Change}
use Rattle.mq_calls.specs.State.Change.{Hold, SetReceiver}
use Rattle.mq_calls.specs.Reads.{batch_of, is_full, receiver_data}
use Rattle.mq_calls.specs.Sizes.{need}
use Rattle.mq_calls.specs.Steps.{Part, do_all}
use Rattle.mq_spec_manager.specs.Agents.{Landed, landed, receive_landed, received_record}
use Rattle.mq_spec_node.specs.Node.{Node, ReceiverEnd}
use Rattle.mq_spec_node.specs.Deeds.{Deed}
use Rattle.mq_spec_node.specs.Receivers.{place_deed, receiver_deed_by}
use Rattle.mq_law_node.specs.Ends.{Where}
use Rattle.mq_law_node.specs.Quiet.{EachQuiet, is_quiet, parts_apart, parts_quiet}
use Rattle.mq_law_unshared.proofs.from_law_seized.Each.{parts_weaker}
use Rattle.mq_law_node.proofs.Named.{bool_case}
use Rattle.mq_law_node.proofs.DataLaws.{batch_done_all}
use Rattle.mq_law_node.proofs.Aside.{EachApart, batch_parts_apart}
use Rattle.mq_law_node.proofs.Quiet.{batch_parts_quiet}
use Rattle.mq_law_node.proofs.AsideTakings.{QuietBatch, landed_batch}
use Rattle.mq_law_node.proofs.Landings.{batch_changes}
use Rattle.mq_law_node.proofs.ReceiverTurns.{placed_by}
use Rattle.mq_law_turns.specs.Turns.{EachForOthers, is_for_others, parts_for_others}
use Rattle.mq_law_node.proofs.FarAside.{placed_part as commit_part}

-- it holds no row for the channel, and leaves its batch
abbrev pub Rests : Where → Node → Deed → Type 0
Rests w n d = (parts_for_others w.channel d.parts ≡ true) × (batch_of w.channel (do_all d.parts n.manager).channels.batches ≡ batch_of w.channel n.manager.channels.batches)

abbrev pub EachRests : Where → Node → Option Deed → Type 0
EachRests w n None = Unit {0}
EachRests w n (Some d) = Rests w n d

-- QUIET DEEDS
quiet_others : (channel : List ℕ) (c : Change) → is_quiet c ≡ true → is_for_others channel c ≡ true
quiet_others channel (Hold which (holders.Batch other)) e = absurd cc
quiet_others channel (Hold which (holders.Unit number)) e = refl
quiet_others channel c e = refl

parts_quiet_others : (channel : List ℕ) (parts : List Part) → parts_quiet parts ≡ true → parts_for_others channel parts ≡ true
parts_quiet_others channel parts e = parts_weaker is_quiet (is_for_others channel) (quiet_others channel) parts e

pub quiet_rests : (w : Where) (n : Node) (o : Option Deed) → EachQuiet n.own o → EachRests w n o
quiet_rests w n None q = tt
quiet_rests w n (Some d) q = (parts_quiet_others w.channel d.parts q.parts, batch_done_all w.channel d.parts n.manager ∙ batch_parts_quiet w.channel d.parts _ q.parts)

-- DEEDS APART
pub apart_batch : (w : Where) (n : Node) (d : Deed) → parts_apart w.channel d.parts ≡ true → batch_of w.channel (do_all d.parts n.manager).channels.batches ≡ batch_of w.channel n.manager.channels.batches
apart_batch w n d e = batch_done_all w.channel d.parts n.manager ∙ batch_parts_apart w.channel d.parts (batch_of w.channel n.manager.channels.batches) e

pub apart_rests : (w : Where) (n : Node) (o : Option Deed) → EachApart w n o → EachForOthers w.channel o → EachRests w n o
apart_rests w n None a f = tt
apart_rests w n (Some d) a f = (f, apart_batch w n d a.1)

-- TURNS OF RECEIVERS' ENDS
abbrev EachSame : Where → Node → Option Deed → Type 0
EachSame w n None = Unit {0}
EachSame w n (Some d) = batch_of w.channel (do_all d.parts n.manager).channels.batches ≡ batch_of w.channel n.manager.channels.batches

places_same : (w : Where) (e : ReceiverEnd) (unit : Luw) (seen : Seen) (last : ℕ) (res : Result Landed Reason) (n : Node) → QuietBatch w.channel res → EachSame w n (Some (place_deed e unit seen (receive_landed e.channel unit last res n.manager) n))
places_same w e unit seen last (Err reason) n quiet = refl
places_same w e unit seen last (Ok l) n quiet = bool_case (is_full (need (received_record e.channel unit last l)) n.manager)
    (λ b. EachSame w n (Some (place_deed e unit seen (placed_by (record { cable = e.cable; channel = e.channel; partner = e.partner }) unit last l n.manager b) n)))
    (λ z. refl)
    (λ z. let old = batch_of w.channel n.manager.channels.batches in
    batch_done_all w.channel (commit_part e unit last l n.manager ∷ []) n.manager ∙ batch_changes w.channel l.changes (SetReceiver e.channel (record (receiver_or (receiver_data e.channel n.manager)) { unit = unit; last = last }) ∷ []) old ∙ quiet old)

abbrev EachPartsApart : Where → Option Deed → Type 0
EachPartsApart w None = Unit {0}
EachPartsApart w (Some d) = parts_apart w.channel d.parts ≡ true

apart_same : (w : Where) (n : Node) (o : Option Deed) → EachPartsApart w o → EachSame w n o
apart_same w n None e = tt
apart_same w n (Some d) e = apart_batch w n d e

takes_same : (w : Where) (stamp : ℕ) (e : ReceiverEnd) (seen : Seen) (d : ReceiverDoes) (n : Node) → EachSame w n (receiver_deed_by stamp e seen d n)
takes_same w stamp e seen takes.Still n = tt
takes_same w stamp e seen takes.Ignore n = refl
takes_same w stamp e seen takes.PushOwed n = refl
takes_same w stamp e seen takes.Bind n = apart_same w n (receiver_deed_by stamp e seen takes.Bind n) refl
takes_same w stamp e seen takes.Keep n = refl
takes_same w stamp e seen (takes.Place unit) n = places_same w e unit seen (last_by seen e.machine.last) (landed e.channel e.kept n.manager) n (landed_batch w.channel e.channel e.kept n.manager)
takes_same w stamp e seen takes.Again n = refl
takes_same w stamp e seen takes.Close n = apart_same w n (receiver_deed_by stamp e seen takes.Close n) refl

both : (w : Where) (n : Node) (o : Option Deed) → EachForOthers w.channel o → EachSame w n o → EachRests w n o
both w n None f s = tt
both w n (Some d) f s = (f, s)

pub takes_rests : (w : Where) (stamp : ℕ) (e : ReceiverEnd) (seen : Seen) (d : ReceiverDoes) (n : Node) → EachForOthers w.channel (receiver_deed_by stamp e seen d n) → EachRests w n (receiver_deed_by stamp e seen d n)
takes_rests w stamp e seen d n f = both w n (receiver_deed_by stamp e seen d n) f (takes_same w stamp e seen d n)
