-- The rows of a batch that is being sent stay as they are over all that holds no row for its channel.
use Rattle.std.proofs.Common.{ℕ, ◌≡◌, ◌+◌, Bool, true, false, not, List, [], ◌∷◌, ◌++◌, refl, ap, sym, subst, ◌∙◌, inl, inr}
use Rattle.std.specs.Prelude.{Option, Some, None, Result, Ok, Err, ◌&&◌, if◌then◌else◌, find, slice_get}
use Rattle.std.specs.Option.{option_map}
use Rattle.std.specs.Str.{bytes_eq}
use Rattle.mq_codes.specs.declared.reason.Reason.{Reason}
use Rattle.mq_codes.specs.declared.reason.Reason.TheVariants as reasons
use Rattle.mq_message.specs.declared.message.Ident.{Ident}
use Rattle.mq_message.specs.declared.message.Message.{Message}
use Rattle.mq_message.specs.declared.place.Holder.{Holder}
use Rattle.mq_message.specs.declared.place.Holder.TheVariants as holders
use Rattle.mq_queue.specs.declared.row.Row.{Row}
use Rattle.mq_queue.specs.Rows.{has_ident, is_free}
use Rattle.mq_objects.specs.Names.{local_of}
use Rattle.mq_sync.specs.declared.unit.Unit.{Unit as Luw}
use Rattle.mq_sync.specs.declared.unit.Settle.{Settle}
use Rattle.mq_sync.specs.declared.unit.Settle.TheVariants as settles
use Rattle.mq_frame.specs.declared.frame.Seen.{Seen}
use Rattle.mq_sender.specs.declared.state.SenderState.{SenderState}
use Rattle.mq_sender.specs.declared.turns.SenderDoes.{SenderDoes}
use Rattle.mq_sender.specs.declared.turns.SenderDoes.TheVariants as does
use Rattle.mq_sender.specs.After.{number_sent, sender_after}
use Rattle.mq_sender.specs.declared.turns.SenderOut.TheVariants as outs
use Rattle.mq_sync.specs.Units.{unit_named}
use Rattle.mq_calls.specs.declared.agents.Note.TheVariants as notes
use Rattle.mq_sender.specs.States.{is_running}
use Rattle.mq_receiver.specs.declared.turns.ReceiverDoes.{ReceiverDoes}
use Rattle.mq_receiver.specs.declared.turns.ReceiverDoes.TheVariants as takes
use Rattle.mq_receiver.specs.After.{last_by}
use Rattle.mq_calls.specs.declared.agents.PrepareFault.TheVariants as faults
use Rattle.mq_calls.specs.declared.deltas.Did.TheVariants as did
use Rattle.mq_calls.specs.declared.records.LogRecord.{LogRecord}
use Rattle.mq_calls.specs.State.{Change, Plain}
use Rattle.mq_calls.specs.declared.state.Batch.{Batch}
use Rattle.mq_calls.specs.State.Change.{Place as Places, Hold, Release, Renew, DropQueue, SetReceiver}
use Rattle.mq_calls.specs.Reads.{batch_of, is_full, is_persistent, receiver_data, sender_data, stored}
use Rattle.mq_sync.specs.Settlement.{receiver_or, sender_or}
use Rattle.mq_calls.specs.Sizes.{need}
use Rattle.mq_calls.specs.Changes.{lane_of, new_row, release_if, retag_if, selects}
use Rattle.mq_calls.specs.Steps.{Part, do_all, logged, refused_or}
use Rattle.mq_calls.specs.Steps.Step.{Do}
use Rattle.mq_spec_manager.specs.Get.{expired_parts}
use Rattle.mq_spec_manager.specs.Put.{placed}
use Rattle.mq_spec_manager.specs.Agents.{Standing, Absent, InDoubtAt, Present, harden, hold_batch, batch_idents, batch_queue, drop_changes, expired_rows, land_changes, Landed, landed, leave, prepare_of, prepared_changes, prepared_record, queue_of_sender, receive_landed, received_record, release_of, row_with, undoubted}
use Rattle.mq_spec_node.specs.Node.{Node, ReceiverEnd, SenderEnd}
use Rattle.mq_spec_node.specs.Deeds.{parts_of}
use Rattle.mq_spec_node.specs.Receivers.{place_deed, receiver_deed_by}
use Rattle.mq_spec_node.specs.Senders.{leave_if_stopped, prepare_deed, sender_deed_by, settle_parts, settle_parts_if}
use Rattle.mq_law_channel.specs.Facts.{Letter, Mem}
use Rattle.mq_law_node.proofs.from_law_seized.Each.{all_behind, kept_behind, parts_behind as behind, parts_keep}
use Rattle.mq_law_story.proofs.from_law_rows.Lists.{bool_case, mem_insert, mem_keep, mem_retag, true_false}
use Rattle.mq_law_manager.specs.Facts.{IsSound}
use Rattle.mq_law_manager.proofs.Lists.{distinct_of}
use Rattle.mq_law_manager.proofs.Named.{name_yes}
use Rattle.mq_law_node.proofs.from_law_seized.Landing.{LandedHas, landed_has}
use Rattle.mq_law_node.specs.Ends.{Reads, letter_of}
use Rattle.mq_law_node.specs.Rows.{RowKind, Same, Placed, Kept, Retagged, Emptied, row_kind, rows_at, rows_do}
use Rattle.mq_law_node.proofs.Batches.{found, get_mem}
use Rattle.mq_law_node.proofs.RowLaws.{rows_applied}
use Rattle.mq_law_turns.specs.Turns.{EachForOthers, all_for_others, is_for_others, parts_for_others}

-- A row that a channel's batch holds stood there before, held so

abbrev pub KeepsHeld : List ℕ → RowKind → Type 0
KeepsHeld c Same = Unit {0}
KeepsHeld c (Placed lane m) = Unit {0}
KeepsHeld c (Kept test) = Unit {0}
KeepsHeld c (Retagged change) = (r : Row) → (change r).by ≡ Some (holders.Batch c) → change r ≡ r
KeepsHeld c Emptied = Unit {0}

none_some : (h : Holder) → None ≡ Some h → ⊥
none_some h e = cc

kind_before : (k : RowKind) (arrivals : ℕ) (c : List ℕ) (x : Row) (rows : List Row) → KeepsHeld c k → Mem x (rows_do k arrivals rows) → x.by ≡ Some (holders.Batch c) → Mem x rows
kind_before Same arrivals c x rows k n e = n
kind_before (Placed lane m) arrivals c x rows k n e = elim (mem_insert x (new_row lane (arrivals + 1) m) rows n) [ inl q ↦ absurd (none_some (holders.Batch c) (sym (ap (λ (r : Row). r.by) q) ∙ e)) | inr r ↦ r ]
kind_before (Kept test) arrivals c x rows k n e = (mem_keep test x rows n).0
kind_before (Retagged change) arrivals c x rows k n e = let o = mem_retag change x rows n in subst (λ (r : Row). Mem r rows) (sym (o.2 ∙ k o.0 (sym (ap (λ (r : Row). r.by) o.2) ∙ e))) o.1
kind_before Emptied arrivals c x rows k n e = absurd n

held_apart : (t : Bool) (c d : List ℕ) (r : Row) → not (bytes_eq c d) ≡ true → (retag_if t (Some (holders.Batch d)) r).by ≡ Some (holders.Batch c) → retag_if t (Some (holders.Batch d)) r ≡ r
held_apart false c d r apart e = refl
held_apart true c d r apart e = let same : d ≡ c = other d c e in absurd (true_false (sym apart ∙ ap not (name_yes c d (sym same))))
  where
    other : (d c : List ℕ) → Some (holders.Batch d) ≡ Some (holders.Batch c) → d ≡ c
    other d c e = cc

unit_apart : (t : Bool) (c : List ℕ) (n : ℕ) (r : Row) → (retag_if t (Some (holders.Unit n)) r).by ≡ Some (holders.Batch c) → retag_if t (Some (holders.Unit n)) r ≡ r
unit_apart false c n r e = refl
unit_apart true c n r e = absurd cc

free_apart : (t counted : Bool) (c : List ℕ) (r : Row) → (release_if t counted r).by ≡ Some (holders.Batch c) → release_if t counted r ≡ r
free_apart false counted c r e = refl
free_apart true true c r e = absurd (none_some (holders.Batch c) e)
free_apart true false c r e = absurd (none_some (holders.Batch c) e)

change_keeps : (c name : List ℕ) (x : Change) (p : Plain) → is_for_others c x ≡ true → KeepsHeld c (row_kind name x p)
change_keeps c name (Places queue m) p e = bool_case (bytes_eq name queue) (λ t. KeepsHeld c (if t then Placed (lane_of (local_of queue p.definitions) m.md.priority) m else Same)) (λ z. tt) (λ z. tt)
change_keeps c name (Renew queue) p e = bool_case (bytes_eq name queue) (λ t. KeepsHeld c (if t then Emptied else Same)) (λ z. tt) (λ z. tt)
change_keeps c name (DropQueue queue) p e = bool_case (bytes_eq name queue) (λ t. KeepsHeld c (if t then Emptied else Same)) (λ z. tt) (λ z. tt)
change_keeps c name (Hold which (holders.Unit n)) p e = λ r f. unit_apart (selects which name r && is_free r) c n r f
change_keeps c name (Hold which (holders.Batch d)) p e = λ r f. held_apart (selects which name r && is_free r) c d r e f
change_keeps c name (Release which counted) p e = λ r f. free_apart (selects which name r && not (is_free r)) counted c r f
change_keeps c name x p e = tt

logged_before : (name : List ℕ) (o : Option LogRecord) (p : Plain) (x : Row) → Mem x (rows_at name (logged o p)) → Mem x (rows_at name p)
logged_before name None p x n = n
logged_before name (Some r) p x n = n

parts_before : (c name : List ℕ) (parts : List Part) (p : Plain) (x : Row) → parts_for_others c parts ≡ true → Mem x (rows_at name (do_all parts p)) → x.by ≡ Some (holders.Batch c) → Mem x (rows_at name p)
parts_before c name parts p x e n h = kept_behind Came parts p (λ m. m) (parts_keep (is_for_others c) Came
    (λ y v z g m. g (kind_before (row_kind name y v) (stored name v).arrivals c x (rows_at name v) (change_keeps c name y v z) (subst (λ rows. Mem x rows) (rows_applied name y v) m) h))
    (λ o v g m. g (logged_before name o v x m)) parts p e (λ m. m)) n
  where
    Came : Plain → Type 0
    Came v = Mem x (rows_at name v) → Mem x (rows_at name p)

-- So what a sender reads of its batch stays

row_read : (c : List ℕ) (p q : Plain) (b : Batch) (i : Ident) → IsSound p → IsSound q → batch_of c q.channels.batches ≡ Some b → Mem i b.idents → ((name : List ℕ) (x : Row) → Mem x (rows_at name q) → x.by ≡ Some (holders.Batch c) → Mem x (rows_at name p))
    → find (has_ident i) (rows_at b.queue q) ≡ find (has_ident i) (rows_at b.queue p)
row_read c p q b i sp sq is n old =
    let r = sq.facts.batched.full c b i is n in
    let there : find (has_ident r.row.message.ident) (rows_at b.queue q) ≡ Some r.row = found r.row (rows_at b.queue q) (distinct_of (rows_at b.queue q) (sq.facts.apart.once b.queue)) r.there in
    let before_ : find (has_ident r.row.message.ident) (rows_at b.queue p) ≡ Some r.row = found r.row (rows_at b.queue p) (distinct_of (rows_at b.queue p) (sp.facts.apart.once b.queue)) (old b.queue r.row r.there r.by) in
    subst (λ (j : Ident). find (has_ident j) (rows_at b.queue q) ≡ find (has_ident j) (rows_at b.queue p)) r.is (there ∙ sym before_)

read_by : (c : List ℕ) (p q : Plain) (i : ℕ) (o : Option Batch) → IsSound p → IsSound q → batch_of c q.channels.batches ≡ o → ((name : List ℕ) (x : Row) → Mem x (rows_at name q) → x.by ≡ Some (holders.Batch c) → Mem x (rows_at name p))
    → row_with (slice_get (batch_idents o) i) (stored (batch_queue o) q).rows ≡ row_with (slice_get (batch_idents o) i) (stored (batch_queue o) p).rows
read_by c p q i None sp sq is old = refl
read_by c p q i (Some b) sp sq is old = go (slice_get b.idents i) refl
  where
    go : (o : Option Ident) → slice_get b.idents i ≡ o → row_with o (stored b.queue q).rows ≡ row_with o (stored b.queue p).rows
    go None e = refl
    go (Some j) e = ap (option_map (λ (row : Row). row.message)) (row_read c p q b j sp sq is (get_mem j b.idents i e) old)

pub stays : (c : List ℕ) (p : Plain) (parts : List Part) → IsSound p → IsSound (do_all parts p) → batch_of c (do_all parts p).channels.batches ≡ batch_of c p.channels.batches → parts_for_others c parts ≡ true
    → (letters : List Letter) → Reads c letters p → Reads c letters (do_all parts p)
stays c p parts sp sq same e letters reads i =
    let q : Plain = do_all parts p in
    let o : Option Batch = batch_of c p.channels.batches in
    ap (option_map letter_of) ((λ j. row_with (slice_get (batch_idents (same j)) i) (stored (batch_queue (same j)) q).rows) ∙ read_by c p q i o sp sq same (λ name x n h. parts_before c name parts p x e n h)) ∙ reads i

-- TURNS OF OTHER ENDS

pub parts_behind : (c : List ℕ) (xs ys : List Part) → parts_for_others c xs ≡ true → parts_for_others c ys ≡ true → parts_for_others c (xs ++ ys) ≡ true
parts_behind c xs ys e f = behind (is_for_others c) xs ys e f

pub leaving_others : (c d : List ℕ) (st : SenderState) (p : Plain) → parts_for_others c (leave_if_stopped d st p) ≡ true
leaving_others c d st p = bool_case (is_running st) (λ t. parts_for_others c (if t then [] else parts_of (leave d p)) ≡ true) (λ e. refl) (λ e. refl)

expired_others : (c q : List ℕ) (rows : List Row) → parts_for_others c (expired_parts q rows) ≡ true
expired_others c q [] = refl
expired_others c q (x ∷ xs) = refl

settled_others : (c : List ℕ) (e : SenderEnd) (o : Option Settle) (p : Plain) → parts_for_others c (settle_parts_if e o p) ≡ true
settled_others c e None p = refl
settled_others c e (Some settles.Commit) p = refl
settled_others c e (Some settles.Backout) p = refl

pub released_others : (c d : List ℕ) (o : Option Batch) → parts_for_others c (parts_of (release_of d o)) ≡ true
released_others c d None = refl
released_others c d (Some b) = refl

-- the parts of a turn, and then the end may leave its queue
sent_others : (c : List ℕ) (e : SenderEnd) (d : SenderDoes) (xs : List Part) (n : Node) → parts_for_others c xs ≡ true → parts_for_others c (xs ++ leave_if_stopped e.channel (sender_after e.machine d outs.Done).state n.manager) ≡ true
sent_others c e d xs n k = parts_behind c xs (leave_if_stopped e.channel (sender_after e.machine d outs.Done).state n.manager) k (leaving_others c e.channel (sender_after e.machine d outs.Done).state n.manager)

prepared_others : (c : List ℕ) (e : SenderEnd) (last : ℕ) (o : Option Batch) (n : Node) → EachForOthers c (Some (prepare_deed e (prepare_of e.channel last o n.manager) n))
prepared_others c e last None n = sent_others c e does.Prepare [] n refl
prepared_others c e last (Some b) n =
    let part : Part = record { forced = Some (prepared_record e.channel last b); changes = prepared_changes e.channel last b (sender_or (sender_data e.channel n.manager)); delta = did.Prepared e.channel b.unit ∷ [] } in
    bool_case (is_full (need (prepared_record e.channel last b)) n.manager)
    (λ t. EachForOthers c (Some (prepare_deed e (refused_or (if t then Some faults.NoRoom else None) (Do tt (part ∷ []))) n)))
    (λ z. parts_behind c (parts_of (release_of e.channel (batch_of e.channel n.manager.channels.batches))) (parts_of (leave e.channel n.manager)) (released_others c e.channel (batch_of e.channel n.manager.channels.batches)) refl)
    (λ z. sent_others c e does.Prepare (part ∷ []) n refl)

one_true : (t : Bool) → t ≡ true → ((t && true) && true) ≡ true
one_true true e = refl
one_true false e = absurd (true_false (sym e))

pub senders_others : (c : List ℕ) (stamp : ℕ) (e : SenderEnd) (d : SenderDoes) (n : Node) → bytes_eq c e.channel ≡ false → EachForOthers c (sender_deed_by stamp e d n)
senders_others c stamp e does.Still n apart = tt
senders_others c stamp e does.Ignore n apart = refl
senders_others c stamp e (does.HardenSession session) n apart = sent_others c e (does.HardenSession session) (parts_of (harden e.channel (notes.Session e.partner session) n.manager)) n refl
senders_others c stamp e does.PushBind n apart = sent_others c e does.PushBind [] n refl
senders_others c stamp e does.Expire n apart = sent_others c e does.Expire (expired_parts (queue_of_sender e.channel n.manager) (expired_rows (queue_of_sender e.channel n.manager) n.manager)) n
    (expired_others c (queue_of_sender e.channel n.manager) (expired_rows (queue_of_sender e.channel n.manager) n.manager))
senders_others c stamp e (does.Begin k count) n apart = sent_others c e (does.Begin k count) (parts_of (hold_batch e.channel (unit_named e.machine.kept.session k) count n.manager)) n (held_others (bytes_eq c e.channel) apart)
  where
    held_others : (t : Bool) → t ≡ false → ((not t && true) && true) ≡ true
    held_others t f = one_true (not t) (ap not f)
senders_others c stamp e (does.PushMsg index) n apart = sent_others c e (does.PushMsg index) [] n refl
senders_others c stamp e does.Prepare n apart = prepared_others c e (number_sent e.machine.state e.machine.kept.last) (batch_of e.channel n.manager.channels.batches) n
senders_others c stamp e does.PushEnd n apart = sent_others c e does.PushEnd [] n refl
senders_others c stamp e (does.Bound settle partner) n apart = sent_others c e (does.Bound settle partner) (settle_parts_if e settle n.manager) n (settled_others c e settle n.manager)
senders_others c stamp e does.Commit n apart = sent_others c e does.Commit (settle_parts e true n.manager) n refl
senders_others c stamp e (does.Backout reason) n apart = sent_others c e (does.Backout reason) (settle_parts e false n.manager) n refl

-- what lands holds nothing
undoubted_others : (c : List ℕ) (b : Bool) (i : Ident) → all_for_others c (undoubted b i) ≡ true
undoubted_others c true i = refl
undoubted_others c false i = refl

drops_others : (c : List ℕ) (m : Message) (s : Standing) → all_for_others c (drop_changes m s) ≡ true
drops_others c m Absent = undoubted_others c (is_persistent m) m.ident
drops_others c m Present = undoubted_others c (is_persistent m) m.ident
drops_others c m (InDoubtAt q) = undoubted_others c (is_persistent m) m.ident

abbrev IsForOthers : List ℕ → Landed → Type 0
IsForOthers c l = all_for_others c l.changes ≡ true

abbrev EachLanding : List ℕ → Result Landed Reason → Type 0
EachLanding c r = LandedHas (IsForOthers c) r

landed_others : (c d : List ℕ) (ms : List Message) (p : Plain) → EachLanding c (landed d ms p)
landed_others c d ms p = landed_has (IsForOthers c) refl
    (λ m l s rest k. all_behind (is_for_others c) (land_changes l s) rest.changes (all_behind (is_for_others c) (drop_changes l.message s) (placed l.queue l.message) (drops_others c l.message s) refl) k) d ms p

places_others : (c : List ℕ) (e : ReceiverEnd) (unit : Luw) (seen : Seen) (last : ℕ) (o : Result Landed Reason) (n : Node) → EachLanding c o → EachForOthers c (Some (place_deed e unit seen (receive_landed e.channel unit last o n.manager) n))
places_others c e unit seen last (Err reason) n k = refl
places_others c e unit seen last (Ok l) n k = bool_case (is_full (need (received_record e.channel unit last l)) n.manager)
    (λ t. EachForOthers c (Some (place_deed e unit seen (refused_or (if t then Some reasons.ResourceProblem else None) (Do tt (record { forced = Some (received_record e.channel unit last l); changes = l.changes ++ SetReceiver e.channel (record (receiver_or (receiver_data e.channel n.manager)) { unit = unit; last = last }) ∷ []; delta = l.delta ++ did.Received e.channel unit ∷ [] } ∷ []))) n)))
    (λ z. refl)
    (λ z. (λ i. all_behind (is_for_others c) l.changes (SetReceiver e.channel (record (receiver_or (receiver_data e.channel n.manager)) { unit = unit; last = last }) ∷ []) k refl i && true))

pub receivers_others : (c : List ℕ) (stamp : ℕ) (e : ReceiverEnd) (seen : Seen) (d : ReceiverDoes) (n : Node) → EachForOthers c (receiver_deed_by stamp e seen d n)
receivers_others c stamp e seen takes.Still n = tt
receivers_others c stamp e seen takes.Ignore n = refl
receivers_others c stamp e seen takes.PushOwed n = refl
receivers_others c stamp e seen takes.Bind n = refl
receivers_others c stamp e seen takes.Keep n = refl
receivers_others c stamp e seen (takes.Place unit) n = places_others c e unit seen (last_by seen e.machine.last) (landed e.channel e.kept n.manager) n (landed_others c e.channel e.kept n.manager)
receivers_others c stamp e seen takes.Again n = refl
receivers_others c stamp e seen takes.Close n = refl
