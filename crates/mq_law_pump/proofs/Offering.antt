-- What a sender offers is of its rows, and what a receiver keeps came to it: so they go where those went.
use Rattle.std.proofs.Common.{ℕ, zero, suc, ◌≡◌, Bool, true, List, [], ◌∷◌, ◌++◌, refl, ap, sym, subst, ◌∙◌}
use Rattle.std.specs.Prelude.{if◌then◌else◌, Option, Some, None, ◌==◌, find, take}
use Rattle.std.specs.Option.{option_map}
use Rattle.mq_calls.specs.declared.agents.PrepareFault.{PrepareFault}
use Rattle.mq_calls.specs.declared.state.Batch.{Batch}
use Rattle.mq_codes.specs.declared.reason.Reason.{Reason}
use Rattle.mq_codes.specs.Numbers.{number}
use Rattle.mq_frame.specs.declared.frame.Frame.{Frame}
use Rattle.mq_frame.specs.declared.frame.FrameKind.{FrameKind}
use Rattle.mq_frame.specs.declared.frame.FrameKind.TheVariants as kinds
use Rattle.mq_frame.specs.declared.frame.Seen.{Seen}
use Rattle.mq_frame.specs.declared.frame.Seen.TheVariants as items
use Rattle.mq_message.specs.declared.message.Dest.{Dest}
use Rattle.mq_message.specs.declared.message.Ident.{Ident}
use Rattle.mq_message.specs.declared.message.Message.{Message}
use Rattle.mq_queue.specs.declared.row.Row.{Row}
use Rattle.mq_receiver.specs.After.{last_by, receiver_after}
use Rattle.mq_receiver.specs.Table.{receiver_next}
use Rattle.mq_receiver.specs.declared.state.Receiver.{Receiver}
use Rattle.mq_receiver.specs.declared.turns.ReceiverDoes.{ReceiverDoes}
use Rattle.mq_receiver.specs.declared.turns.ReceiverDoes.TheVariants as takes
use Rattle.mq_receiver.specs.declared.turns.ReceiverOut.{ReceiverOut}
use Rattle.mq_receiver.specs.declared.turns.ReceiverOut.TheVariants as ends
use Rattle.mq_sender.specs.After.{number_sent}
use Rattle.mq_sender.specs.States.{is_running}
use Rattle.mq_sender.specs.Table.{sender_next}
use Rattle.mq_sender.specs.declared.turns.SenderDoes.{SenderDoes}
use Rattle.mq_sender.specs.declared.turns.SenderDoes.TheVariants as does_
use Rattle.mq_sync.specs.Units.{unit_named}
use Rattle.mq_sync.specs.declared.unit.Unit.{Unit as Luw}
use Rattle.mq_calls.specs.Reads.{batch_of, free_rows, stored}
use Rattle.mq_calls.specs.State.{Plain}
use Rattle.mq_calls.specs.Steps.{Part, Step, do_all}
use Rattle.mq_calls.specs.Steps.Step.{Do, Refuse}
use Rattle.mq_spec_manager.specs.Agents.{at_number, batch_idents, batch_queue, batch_row, hold_batch, names_of, prepare, queue_of_sender, receive, row_with, stock}
use Rattle.mq_spec_manager.specs.Get.{idents_of}
use Rattle.mq_spec_node.specs.Deeds.{parts_of}
use Rattle.mq_spec_node.specs.Node.{Node, ReceiverEnd, SenderEnd, end_in, with_end}
use Rattle.mq_spec_node.specs.Node.ChannelEnd.{Receives}
use Rattle.mq_spec_node.specs.Receivers.{is_receiver_defined, kept_kind, kept_seen, place_deed, receiver_deed, receiver_deed_by}
use Rattle.mq_spec_node.specs.Senders.{carried, prepare_deed, sender_deed, sender_deed_by}
use Rattle.mq_law_idle.specs.Roads.{ReceiverTurn, Road, behind, laid, receiver_does, receiver_turn, receiver_turned, taken_by, waiting}
use Rattle.mq_law_node.specs.Rows.{rows_at}
use Rattle.mq_law_node.proofs.DataLaws.{batch_done_all}
use Rattle.mq_law_node.proofs.Named.{bool_case, end_set, name_self}
use Rattle.mq_law_pump.specs.Away.{AllAway, EachKeepsAway, EachPushesAway, FrameAway, IsAway, KindAway, RowsAway, SeenAway, WayAway}
use Rattle.mq_law_pump.specs.Rows.{rows_of}
use Rattle.mq_law_pump.proofs.Leaving.{parts_away}
use Rattle.mq_law_pump.proofs.Staying.{Runs, runs_by}

-- A MESSAGE OF A BATCH IS A ROW
abbrev EachAway : Node → Option Message → Type 0
EachAway n None = Unit {0}
EachAway n (Some m) = IsAway n (names_of m.route)

find_away : (n : Node) (test : Row → Bool) (rows : List Row) → RowsAway n rows → EachAway n (option_map (λ (row : Row). row.message) (find test rows))
find_away n test [] h = tt
find_away n test (r ∷ rs) h = bool_case (test r) (λ b. EachAway n (option_map (λ (row : Row). row.message) (if b then Some r else find test rs))) (λ e. h.0) (λ e. find_away n test rs h.1)

row_away : (n : Node) (o : Option Ident) (rows : List Row) → RowsAway n rows → EachAway n (row_with o rows)
row_away n None rows h = tt
row_away n (Some i) rows h = find_away n _ rows h

none_at : (n : Node) (index : ℕ) (rows : List Row) → EachAway n (row_with (at_number index []) rows)
none_at n zero rows = tt
none_at n (suc i) rows = tt

in_batch : (n : Node) (index : ℕ) (o : Option Batch) (p : Plain) → ((b : Batch) → o ≡ Some b → RowsAway n (rows_at b.queue p)) → EachAway n (row_with (at_number index (batch_idents o)) (stored (batch_queue o) p).rows)
in_batch n index None p h = none_at n index _
in_batch n index (Some b) p h = row_away n (at_number index b.idents) (stored b.queue p).rows (h b refl)

carried_away : (n : Node) (stamp : ℕ) (e : SenderEnd) (k index : ℕ) (o : Option Message) → EachAway n o → FrameAway n (option_map (carried stamp e k index) o)
carried_away n stamp e k index None h = tt
carried_away n stamp e k index (Some m) h = h

some_batch : (a b : Batch) → Some a ≡ Some b → a ≡ b
some_batch a b z = cc

-- the batch that is begun is of the sender's queue
begun_away : (n : Node) (stamp : ℕ) (e : SenderEnd) (k count : ℕ) (p : Plain) (unit : Luw) → RowsAway n (rows_of e.channel p)
    → FrameAway n (option_map (carried stamp e k 1) (batch_row e.channel 1 (do_all (parts_of (hold_batch e.channel unit count p)) p)))
begun_away n stamp e k count p unit rows =
    let parts : List Part = parts_of (hold_batch e.channel unit count p) in
    let v : Plain = do_all parts p in
    let q : List ℕ = queue_of_sender e.channel p in
    let b0 : Batch = record { channel = e.channel; unit = unit; queue = q; idents = idents_of (take count (free_rows q p)) } in
    let there : batch_of e.channel v.channels.batches ≡ Some b0 = batch_done_all e.channel parts p ∙ ap (λ (t : Bool). if t then Some b0 else batch_of e.channel p.channels.batches) (name_self e.channel) in
    carried_away n stamp e k 1 (batch_row e.channel 1 v) (in_batch n 1 (batch_of e.channel v.channels.batches) v (λ b is.
    subst (λ (name : List ℕ). RowsAway n (rows_at name v)) (ap (λ (x : Batch). x.queue) (some_batch b0 b (sym there ∙ is))) (parts_away n e.channel q parts p refl rows)))

prepared_away : (n : Node) (e : SenderEnd) (s : Step PrepareFault (Unit {0})) (x : Node) → EachPushesAway n (Some (prepare_deed e s x))
prepared_away n e (Refuse fault) x = tt
prepared_away n e (Do reply parts) x = tt

-- the batch of a sender that runs is of its queue
abbrev IsOfQueue : SenderEnd → Node → Type 0
IsOfQueue e x = is_running e.machine.state ≡ true → (b : Batch) → batch_of e.channel x.manager.channels.batches ≡ Some b → b.queue ≡ queue_of_sender e.channel x.manager

senders_by : (n : Node) (stamp : ℕ) (e : SenderEnd) (d : SenderDoes) (x : Node) → Runs e.machine d → (is_running e.machine.state ≡ true → RowsAway n (rows_of e.channel x.manager)) → IsOfQueue e x → EachPushesAway n (sender_deed_by stamp e d x)
senders_by n stamp e does_.Still x runs rows queue = tt
senders_by n stamp e does_.Ignore x runs rows queue = tt
senders_by n stamp e (does_.HardenSession session) x runs rows queue = tt
senders_by n stamp e does_.PushBind x runs rows queue = tt
senders_by n stamp e does_.Expire x runs rows queue = tt
senders_by n stamp e (does_.Begin k count) x runs rows queue = begun_away n stamp e k count x.manager (unit_named e.machine.kept.session k) (rows runs)
senders_by n stamp e (does_.PushMsg index) x runs rows queue = carried_away n stamp e e.machine.begun index (batch_row e.channel index x.manager)
    (in_batch n index (batch_of e.channel x.manager.channels.batches) x.manager (λ b is. subst (λ (name : List ℕ). RowsAway n (rows_at name x.manager)) (sym (queue runs b is)) (rows runs)))
senders_by n stamp e does_.Prepare x runs rows queue = prepared_away n e (prepare e.channel (number_sent e.machine.state e.machine.kept.last) x.manager) x
senders_by n stamp e does_.PushEnd x runs rows queue = tt
senders_by n stamp e (does_.Bound settle partner) x runs rows queue = tt
senders_by n stamp e does_.Commit x runs rows queue = tt
senders_by n stamp e (does_.Backout reason) x runs rows queue = tt

pub senders_push_away : (n : Node) (stamp : ℕ) (e : SenderEnd) (seen : Seen) (x : Node) → (is_running e.machine.state ≡ true → RowsAway n (rows_of e.channel x.manager))
    → (is_running e.machine.state ≡ true → (b : Batch) → batch_of e.channel x.manager.channels.batches ≡ Some b → b.queue ≡ queue_of_sender e.channel x.manager) → EachPushesAway n (sender_deed stamp e seen x)
senders_push_away n stamp e seen x rows queue = senders_by n stamp e (sender_next e.machine seen (stock e.channel x.manager)) x (runs_by e.machine seen (stock e.channel x.manager)) rows queue

-- it lies on the cable last
laid_last_away : (n : Node) (f : Frame) (xs : List Seen) → KindAway n f.kind → WayAway n xs → WayAway n (xs ++ items.Frame f ∷ [])
laid_last_away n f [] g h = (g, tt)
laid_last_away n f (x ∷ xs) g h = (h.0, laid_last_away n f xs g h.1)

pub laid_away : (n : Node) (o : Option Frame) (xs : List Seen) → FrameAway n o → WayAway n xs → WayAway n (laid o xs)
laid_away n None xs g h = h
laid_away n (Some f) xs g h = laid_last_away n f xs g h

-- and is taken first
behind_away : (n : Node) (xs : List Seen) → WayAway n xs → WayAway n (behind xs)
behind_away n [] h = tt
behind_away n (x ∷ xs) h = h.1

taken_away : (n : Node) (d : ReceiverDoes) (xs : List Seen) → WayAway n xs → WayAway n (taken_by d xs)
taken_away n takes.Still xs h = h
taken_away n takes.PushOwed xs h = h
taken_away n takes.Ignore xs h = behind_away n xs h
taken_away n takes.Bind xs h = behind_away n xs h
taken_away n takes.Keep xs h = behind_away n xs h
taken_away n (takes.Place unit) xs h = behind_away n xs h
taken_away n takes.Again xs h = behind_away n xs h
taken_away n takes.Close xs h = behind_away n xs h

turned_away : (n : Node) (o : ReceiverOut) (d : ReceiverDoes) (t : ReceiverTurn) (w : Road) → WayAway n w.out → WayAway n (receiver_turned o d t w).out
turned_away n ends.Done d t w h = taken_away n d w.out h
turned_away n ends.Full d t w h = h
turned_away n (ends.Refused reason) d t w h = taken_away n d w.out h

pub takes_away : (n : Node) (t : ReceiverTurn) (w : Road) → WayAway n w.out → WayAway n (receiver_turn t w).out
takes_away n t w h = turned_away n t.outcome (receiver_does t w) t w h

pub waiting_away : (n : Node) (xs : List Seen) → WayAway n xs → SeenAway n (waiting xs)
waiting_away n [] h = tt
waiting_away n (x ∷ xs) h = h.0

-- WHAT A RECEIVER KEEPS
some_receives : (a b : ReceiverEnd) → Some (Receives a) ≡ Some (Receives b) → a ≡ b
some_receives a b z = cc

all_last : (n : Node) (m : Message) (ms : List Message) → AllAway n ms → IsAway n (names_of m.route) → AllAway n (ms ++ m ∷ [])
all_last n m [] h g = (g, tt)
all_last n m (x ∷ xs) h g = (h.0, all_last n m xs h.1 g)

abbrev stamped_ : Dest → Message → Message
stamped_ dest message = record message { route = Some dest }

kind_kept : (n : Node) (k : FrameKind) (ms : List Message) → AllAway n ms → KindAway n k → AllAway n (kept_kind k ms)
kind_kept n (kinds.Msg unit index last dest message) ms h g =
    bool_case (index == 1) (λ b. AllAway n (if b then stamped_ dest message ∷ [] else ms ++ stamped_ dest message ∷ [])) (λ e. (g, tt)) (λ e. all_last n (stamped_ dest message) ms h g)
kind_kept n (kinds.Bind last force) ms h g = h
kind_kept n (kinds.Status unit_session unit_n last) ms h g = h
kind_kept n (kinds.End unit count last) ms h g = h
kind_kept n (kinds.Ack unit) ms h g = h
kind_kept n (kinds.Err unit reason) ms h g = h

seen_kept : (n : Node) (seen : Seen) (ms : List Message) → AllAway n ms → SeenAway n seen → AllAway n (kept_seen seen ms)
seen_kept n (items.Frame f) ms h g = kind_kept n f.kind ms h g
seen_kept n items.Nothing ms h g = h
seen_kept n items.Spoiled ms h g = h

set_kept : (n : Node) (e : ReceiverEnd) (x : Node) (m : Receiver) (kept : List Message) (r : ReceiverEnd) → end_in e.cable x.own.ends ≡ Some (Receives e)
    → end_in e.cable (with_end (Receives (record e { machine = m; kept = kept })) x.own).ends ≡ Some (Receives r) → AllAway n kept → AllAway n r.kept
set_kept n e x m kept r here is h =
    subst (λ (z : ReceiverEnd). AllAway n z.kept) (some_receives (record e { machine = m; kept = kept }) r (sym (end_set (Receives (record e { machine = m; kept = kept })) (Receives e) x.own.ends here) ∙ is)) h

placed_kept : (n : Node) (e : ReceiverEnd) (unit : Luw) (seen : Seen) (s : Step Reason (Unit {0})) (x : Node) → end_in e.cable x.own.ends ≡ Some (Receives e) → EachKeepsAway n e (Some (place_deed e unit seen s x))
placed_kept n e unit seen (Refuse reason) x here r is = set_kept n e x (receiver_after e.machine (takes.Place unit) seen (ends.Refused (number reason))) [] r here is tt
placed_kept n e unit seen (Do reply parts) x here r is = set_kept n e x (receiver_after e.machine (takes.Place unit) seen ends.Done) [] r here is tt

receivers_by : (n : Node) (stamp : ℕ) (e : ReceiverEnd) (seen : Seen) (d : ReceiverDoes) (x : Node) → end_in e.cable x.own.ends ≡ Some (Receives e) → AllAway n e.kept → SeenAway n seen → EachKeepsAway n e (receiver_deed_by stamp e seen d x)
receivers_by n stamp e seen takes.Still x here h g = tt
receivers_by n stamp e seen takes.Ignore x here h g = λ r is. subst (λ (z : ReceiverEnd). AllAway n z.kept) (some_receives e r (sym here ∙ is)) h
receivers_by n stamp e seen takes.PushOwed x here h g = λ r is. set_kept n e x (receiver_after e.machine takes.PushOwed seen ends.Done) e.kept r here is h
receivers_by n stamp e seen takes.Bind x here h g = λ r is. set_kept n e x (receiver_after e.machine takes.Bind seen ends.Done) [] r here is tt
receivers_by n stamp e seen takes.Keep x here h g = λ r is. set_kept n e x (receiver_after e.machine takes.Keep seen ends.Done) (kept_seen seen e.kept) r here is (seen_kept n seen e.kept h g)
receivers_by n stamp e seen (takes.Place unit) x here h g = placed_kept n e unit seen (receive e.channel unit (last_by seen e.machine.last) e.kept x.manager) x here
receivers_by n stamp e seen takes.Again x here h g = λ r is. set_kept n e x (receiver_after e.machine takes.Again seen ends.Done) e.kept r here is h
receivers_by n stamp e seen takes.Close x here h g = λ r is. set_kept n e x (receiver_after e.machine takes.Close seen ends.Done) [] r here is tt

pub receivers_keep_away : (n : Node) (stamp : ℕ) (e : ReceiverEnd) (seen : Seen) (x : Node) → end_in e.cable x.own.ends ≡ Some (Receives e) → AllAway n e.kept → SeenAway n seen → EachKeepsAway n e (receiver_deed stamp e seen x)
receivers_keep_away n stamp e seen x here h g = receivers_by n stamp e seen (receiver_next e.machine seen (is_receiver_defined e.channel x.manager.definitions)) x here h g
