-- Each turn of a sender's end at a node is the turn of its channel: batches, and the whole table.
use Rattle.std.proofs.Common.{ℕ, add-one, ◌≡◌, Bool, true, false, List, [], ◌∷◌, ◌++◌, refl, ap, sym, ◌∙◌, subst, arith, take}
use Rattle.std.specs.Prelude.{Option, Some, None, if◌then◌else◌, min, ◌&&◌}
use Rattle.std.specs.Option.{option_map}
use Rattle.std.specs.List.{slice_get}
use Rattle.std.proofs.lemmas.List.{length-take}
use Rattle.mq_message.specs.declared.place.Holder.TheVariants as holders
use Rattle.mq_queue.specs.declared.row.Row.{Row}
use Rattle.mq_queue.specs.Queues.{AreDistinct}
use Rattle.mq_queue.specs.Rows.{is_free}
use Rattle.mq_sync.specs.declared.unit.Unit.{Unit as Luw}
use Rattle.std.proofs.lemmas.List.{length-map}
use Rattle.mq_frame.specs.declared.frame.Seen.{Seen}
use Rattle.mq_sync.specs.declared.data.SenderData.{SenderData}
use Rattle.mq_sync.specs.Units.{unit_named}
use Rattle.mq_sync.specs.declared.unit.Settle.TheVariants as settles
use Rattle.mq_sender.specs.declared.state.Sender.{Sender}
use Rattle.mq_sender.specs.declared.state.Kept.{Kept}
use Rattle.mq_sender.specs.declared.turns.SenderDoes.{SenderDoes}
use Rattle.mq_sender.specs.declared.turns.SenderDoes.TheVariants as does
use Rattle.mq_sender.specs.declared.turns.SenderOut.TheVariants as outs
use Rattle.mq_sender.specs.States.{unit_begun}
use Rattle.mq_sender.specs.Table.{is_sending, messages_sent, sender_next}
use Rattle.mq_sender.specs.After.{sender_after, number_sent}
use Rattle.mq_calls.specs.State.{Plain, Queue}
use Rattle.mq_calls.specs.declared.state.Batch.{Batch}
use Rattle.mq_calls.specs.State.Which.{Among}
use Rattle.mq_calls.specs.Reads.{is_up, stored, free_rows, batch_of, sender_data, is_full}
use Rattle.mq_calls.specs.Changes.{retag_if, selects}
use Rattle.mq_calls.specs.Sizes.{need}
use Rattle.mq_calls.specs.Steps.{Step, do_all}
use Rattle.mq_spec_manager.specs.Get.{idents_of}
use Rattle.mq_sync.specs.Settlement.{sender_or}
use Rattle.mq_spec_manager.specs.Agents.{queue_of_sender, hold_batch, batch_row, batch_idents, batch_queue, row_with, stock, prepare_of, prepared_record, release_of, leave}
use Rattle.mq_spec_node.specs.Node.{Node}
use Rattle.mq_spec_node.specs.Deeds.{parts_of}
use Rattle.mq_spec_node.specs.Senders.{sender_deed_by, sender_deed, prepare_deed}
use Rattle.mq_law_channel.specs.Facts.{Letter}
use Rattle.mq_law_channel.specs.Channel.{Channel}
use Rattle.mq_law_channel.specs.Turns.{SenderTurn, SenderMay, SeenIn, sender_done, sender_turned, sender_turn, letter_offered}
use Rattle.mq_law_node.specs.Data.{sends_at, sender_in_parts, batch_in_parts}
use Rattle.mq_calls.specs.declared.agents.PrepareFault.TheVariants as prepare_faults
use Rattle.mq_calls.specs.Steps.{refused_or}
use Rattle.mq_calls.specs.Steps.Step.{Do}
use Rattle.mq_calls.specs.declared.deltas.Did.TheVariants as did
use Rattle.mq_spec_manager.specs.Agents.{prepared_changes}
use Rattle.mq_calls.specs.declared.agents.PrepareFault.{PrepareFault}
use Rattle.mq_law_node.specs.Ends.{prepare_out, Where, sender_of, told_sends, letter_of, letters_of, Reads, SendsAs, EachSent, Guard, turn_of, batch_letters, out_of}
use Rattle.mq_law_node.proofs.Named.{bool_case, name_self}
use Rattle.mq_law_node.proofs.Named.{batch_set}
use Rattle.mq_law_node.proofs.Batches.{queue_held, reads_held, held_ident, take_mem, filter_mem}
use Rattle.mq_law_node.proofs.SenderTurns.{leaves, ends_set, found_data, carried_offers, binding_apart, waiting_apart, guarded, ignores, hardens, hails, expires, ends_unit, settling, agreed_apart}

-- BEGIN
abbrev batch_begun : Where → Sender → ℕ → ℕ → Plain → Batch
batch_begun w m k count p = record {
  channel = w.channel;
  unit = unit_named m.kept.session k;
  queue = queue_of_sender w.channel p;
  idents = idents_of (take count (free_rows (queue_of_sender w.channel p) p));
}

abbrev held_plain : Where → Sender → ℕ → ℕ → Plain → Plain
held_plain w m k count p = do_all (parts_of (hold_batch w.channel (unit_named m.kept.session k) count p)) p

pub begun_found : (w : Where) (m : Sender) (k count : ℕ) (p : Plain) → batch_of w.channel (held_plain w m k count p).channels.batches ≡ Some (batch_begun w m k count p)
begun_found w m k count p = batch_set w.channel (batch_begun w m k count p) p.channels.batches
    ∙ ap (λ (b : Bool). if b then Some (batch_begun w m k count p) else batch_of w.channel p.channels.batches) (name_self w.channel)

pub begun_reads : (w : Where) (m : Sender) (k count : ℕ) (p : Plain) → AreDistinct (stored (queue_of_sender w.channel p) p).rows
    → Reads w.channel (letters_of (take count (free_rows (queue_of_sender w.channel p) p))) (held_plain w m k count p)
begun_reads w m k count p distinct i =
    let q : List ℕ = queue_of_sender w.channel p in
    let held : List Row = take count (free_rows q p) in
    ap (λ (o : Option Batch). option_map letter_of (row_with (slice_get (batch_idents o) i) (stored (batch_queue o) (held_plain w m k count p)).rows)) (begun_found w m k count p)
    ∙ ap (λ (x : Queue). option_map letter_of (row_with (slice_get (idents_of held) i) x.rows)) (queue_held (Among q (idents_of held)) (holders.Batch w.channel) q p.queues)
    ∙ reads_held (λ (row : Row). retag_if (selects (Among q (idents_of held)) (stored q p).name row && is_free row) (Some (holders.Batch w.channel)) row) (stored q p).rows held i
    (λ r. held_ident (selects (Among q (idents_of held)) (stored q p).name r && is_free r) (Some (holders.Batch w.channel)) r)
    distinct
    (λ x mem. filter_mem x is_free (stored q p).rows (take_mem x count (free_rows q p) mem))

pub begins_unit : (w : Where) (stamp : ℕ) (seen : Seen) (n : Node) (c : Channel) (k count : ℕ) → SendsAs w n c → is_up n.manager.running ≡ true → AreDistinct (stored (queue_of_sender w.channel n.manager) n.manager).rows
    → Guard c.sender (stock w.channel n.manager) (does.Begin k count)
    → EachSent w n (sender_deed_by stamp (sender_of w c.sender) (does.Begin k count) n) c.out (sender_done (does.Begin k count) (turn_of w stamp seen c.sender n.manager) c)
begins_unit w stamp seen n c k count h up distinct g =
    let reads : Reads w.channel (batch_letters w c.sender n.manager) (held_plain w c.sender k count n.manager) =
    subst (λ (x : ℕ). Reads w.channel (letters_of (take x (free_rows (queue_of_sender w.channel n.manager) n.manager))) (held_plain w c.sender k count n.manager)) g.2 (begun_reads w c.sender k count n.manager distinct) in
    leaves w n _ c c.sends (sender_after c.sender (does.Begin k count) outs.Done) (batch_letters w c.sender n.manager) _ up
    (ends_set w n _ c.sender h.here) h.data_
    (λ e. record { batch = batch_begun w c.sender k count n.manager; is = begun_found w c.sender k count n.manager; unit = refl; reads = reads })
    (λ e. absurd cc)
    (carried_offers stamp w c.sender k 1 (batch_row w.channel 1 (held_plain w c.sender k count n.manager)) c.out
    ∙ ap (λ (o : Option Letter). letter_offered stamp c.sender k 1 o c.out) (reads 0))

-- MSG
pub sends_message : (w : Where) (stamp : ℕ) (seen : Seen) (n : Node) (c : Channel) (index : ℕ) → SendsAs w n c → is_up n.manager.running ≡ true
    → Guard c.sender (stock w.channel n.manager) (does.PushMsg index)
    → EachSent w n (sender_deed_by stamp (sender_of w c.sender) (does.PushMsg index) n) c.out (sender_done (does.PushMsg index) (turn_of w stamp seen c.sender n.manager) c)
sends_message w stamp seen n c index h up g =
    let b = h.batched g.0 in
    leaves w n _ c c.sends (sender_after c.sender (does.PushMsg index) outs.Done) c.batch _ up
    (ends_set w n _ c.sender h.here) h.data_
    (λ e. record { batch = b.batch; is = b.is; unit = b.unit; reads = b.reads })
    (λ e. absurd cc)
    (carried_offers stamp w c.sender c.sender.begun index (batch_row w.channel index n.manager) c.out
    ∙ ap (λ (o : Option Letter). letter_offered stamp c.sender c.sender.begun index o c.out)
    (subst (λ (x : ℕ). option_map letter_of (batch_row w.channel x n.manager) ≡ slice_get c.batch (messages_sent c.sender.state)) (sym (g.1 ∙ add-one (messages_sent c.sender.state))) (b.reads (messages_sent c.sender.state))))

-- PREPARE
pub releases_data : (channel : List ℕ) (o : Option Batch) (p : Plain) (old : Option SenderData) → sender_in_parts channel (parts_of (release_of channel o) ++ parts_of (leave channel p)) old ≡ old
releases_data channel None p old = refl
releases_data channel (Some b) p old = refl

pub releases_batch : (channel : List ℕ) (o : Option Batch) (p : Plain) → batch_in_parts channel (parts_of (release_of channel o) ++ parts_of (leave channel p)) o ≡ None
releases_batch channel None p = refl
releases_batch channel (Some b) p = ap (λ (t : Bool). if t then None else Some b) (name_self channel)

-- the log has room, or not
abbrev pub prepared_by : Where → ℕ → Batch → Plain → Bool → Step PrepareFault (Unit {0})
prepared_by w last b p full = refused_or (if full then Some prepare_faults.NoRoom else None) (Do tt (record {
  forced = Some (prepared_record w.channel last b);
  changes = prepared_changes w.channel last b (sender_or (sender_data w.channel p));
  delta = did.Prepared w.channel b.unit ∷ [];
} ∷ []))

pub prepares : (w : Where) (stamp : ℕ) (seen : Seen) (n : Node) (c : Channel) → SendsAs w n c → is_up n.manager.running ≡ true → is_sending c.sender.state ≡ true
    → EachSent w n (sender_deed_by stamp (sender_of w c.sender) does.Prepare n) c.out (sender_turned (out_of does.Prepare w c.sender n.manager) does.Prepare (turn_of w stamp seen c.sender n.manager) c)
prepares w stamp seen n c h up g =
    let b = h.batched g in
    let last : ℕ = number_sent c.sender.state c.sender.kept.last in
    let t : SenderTurn = turn_of w stamp seen c.sender n.manager in
    subst (λ (o : Option Batch). EachSent w n (Some (prepare_deed (sender_of w c.sender) (prepare_of w.channel last o n.manager) n)) c.out (sender_turned (prepare_out (prepare_of w.channel last o n.manager)) does.Prepare t c)) (sym b.is)
    (bool_case (is_full (need (prepared_record w.channel last b.batch)) n.manager)
    (λ f. EachSent w n (Some (prepare_deed (sender_of w c.sender) (prepared_by w last b.batch n.manager f) n)) c.out (sender_turned (prepare_out (prepared_by w last b.batch n.manager f)) does.Prepare t c))
    (λ e. leaves w n _ c c.sends (sender_after c.sender does.Prepare outs.NoRoom) c.batch c.out up
    (ends_set w n _ c.sender h.here)
    (h.data_ ∙ ap (λ (o : Option SenderData). told_sends (sender_or o)) (sym (releases_data w.channel (batch_of w.channel n.manager.channels.batches) n.manager (sender_data w.channel n.manager))))
    (λ z. absurd cc)
    (λ z. releases_batch w.channel (batch_of w.channel n.manager.channels.batches) n.manager)
    refl)
    (λ e. leaves w n _ c _ (sender_after c.sender does.Prepare outs.Done) c.batch c.out up
    (ends_set w n _ c.sender h.here)
    (ap (λ (k : Kept). record k { force = false; doubt = Some (record { unit = unit_begun c.sender; last = last }) }) h.data_
    ∙ ap (λ (u : Luw). record (told_sends (sends_at w.channel n.manager)) { force = false; doubt = Some (record { unit = u; last = last }) }) (sym b.unit)
    ∙ found_data w.channel (record (sends_at w.channel n.manager) { force = false; in_doubt = Some (record { unit = b.batch.unit; queue = b.batch.queue; idents = b.batch.idents; last = last }) }) (sender_data w.channel n.manager))
    (λ z. absurd cc)
    (λ z. ap (λ (x : Bool). if x then None else batch_of w.channel n.manager.channels.batches) (name_self w.channel))
    refl))

-- THE TABLE
pub turns_by : (w : Where) (stamp : ℕ) (seen : Seen) (n : Node) (c : Channel) (d : SenderDoes) → SendsAs w n c → is_up n.manager.running ≡ true → AreDistinct (stored (queue_of_sender w.channel n.manager) n.manager).rows
    → Guard c.sender (stock w.channel n.manager) d
    → EachSent w n (sender_deed_by stamp (sender_of w c.sender) d n) c.out (sender_turned (out_of d w c.sender n.manager) d (turn_of w stamp seen c.sender n.manager) c)
turns_by w stamp seen n c does.Still h up distinct g = tt
turns_by w stamp seen n c does.Ignore h up distinct g = ignores w stamp seen n c h up
turns_by w stamp seen n c (does.HardenSession session) h up distinct g = hardens w stamp seen n c session h up g.0
turns_by w stamp seen n c does.PushBind h up distinct g = hails w stamp seen n c h up g
turns_by w stamp seen n c does.Expire h up distinct g = expires w stamp seen n c h up g
turns_by w stamp seen n c (does.Begin k count) h up distinct g = begins_unit w stamp seen n c k count h up distinct g
turns_by w stamp seen n c (does.PushMsg index) h up distinct g = sends_message w stamp seen n c index h up g
turns_by w stamp seen n c does.Prepare h up distinct g = prepares w stamp seen n c h up g
turns_by w stamp seen n c does.PushEnd h up distinct g = ends_unit w stamp seen n c h up g
turns_by w stamp seen n c (does.Bound settle partner) h up distinct g = settling w stamp seen n c (does.Bound settle partner) settle _ h up refl (binding_apart c.sender.state g) (agreed_apart _ partner)
turns_by w stamp seen n c does.Commit h up distinct g = settling w stamp seen n c does.Commit (Some settles.Commit) _ h up refl (waiting_apart c.sender.state g) refl
turns_by w stamp seen n c (does.Backout reason) h up distinct g = settling w stamp seen n c (does.Backout reason) (Some settles.Backout) _ h up refl (waiting_apart c.sender.state g) refl

pub turns_as : (w : Where) (stamp : ℕ) (seen : Seen) (n : Node) (c : Channel) → SendsAs w n c → is_up n.manager.running ≡ true → AreDistinct (stored (queue_of_sender w.channel n.manager) n.manager).rows
    → EachSent w n (sender_deed stamp (sender_of w c.sender) seen n) c.out (sender_turn (turn_of w stamp seen c.sender n.manager) c)
turns_as w stamp seen n c h up distinct = turns_by w stamp seen n c (sender_next c.sender seen (stock w.channel n.manager)) h up distinct (guarded c.sender seen (stock w.channel n.manager))

-- such a turn may be taken
pub no_room_prepares : (d : SenderDoes) (w : Where) (m : Sender) (p : Plain) → out_of d w m p ≡ outs.NoRoom → d ≡ does.Prepare
no_room_prepares does.Prepare w m p e = refl
no_room_prepares d w m p e = absurd cc

pub min_within : (a b : ℕ) → min (min a b) b ≡ min a b
min_within a b = omega arith

pub may_turn : (w : Where) (stamp : ℕ) (seen : Seen) (p : Plain) (c : Channel) → SeenIn seen c.back → SenderMay (turn_of w stamp seen c.sender p) c
may_turn w stamp seen p c offered = record {
  offered = offered;
  no_room = λ e. no_room_prepares (sender_next c.sender seen (stock w.channel p)) w c.sender p e;
  counted = λ k count e. (subst (Guard c.sender (stock w.channel p)) e (guarded c.sender seen (stock w.channel p))).2
      ∙ sym (length-map (take (min c.sender.limits.batch_size (stock w.channel p).free) (free_rows (queue_of_sender w.channel p) p)) (λ (row : Row). letter_of row.message)
      ∙ length-take (min c.sender.limits.batch_size (stock w.channel p).free) (free_rows (queue_of_sender w.channel p) p)
      ∙ min_within c.sender.limits.batch_size (stock w.channel p).free);
}
