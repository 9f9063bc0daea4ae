-- A sender that runs on keeps its queue, and no row comes to it: by its own turns, and by what others do.
use Rattle.std.proofs.Common.{ℕ, ◌≡◌, Bool, true, false, List, [], ◌∷◌, ◌++◌, refl, ap, sym, subst, ◌∙◌, append-nil}
use Rattle.std.specs.Prelude.{if◌then◌else◌, Option, Some, None, ◌&&◌, not, filter}
use Rattle.std.specs.Str.{bytes_eq}
use Rattle.mq_calls.specs.declared.agents.Note.TheVariants as notes
use Rattle.mq_calls.specs.declared.agents.PrepareFault.{PrepareFault}
use Rattle.mq_calls.specs.declared.agents.PrepareFault.TheVariants as prepare_faults
use Rattle.mq_calls.specs.declared.deltas.Did.TheVariants as did
use Rattle.mq_calls.specs.declared.records.LogRecord.{LogRecord}
use Rattle.mq_calls.specs.declared.state.Batch.{Batch}
use Rattle.mq_frame.specs.declared.frame.Frame.{Frame}
use Rattle.mq_frame.specs.declared.frame.Seen.{Seen}
use Rattle.mq_message.specs.declared.place.Holder.{Holder}
use Rattle.mq_objects.specs.Names.{local_of}
use Rattle.mq_queue.specs.declared.row.Row.{Row}
use Rattle.mq_queue.specs.Rows.{is_free, keep, retag}
use Rattle.mq_sender.specs.After.{number_sent, sender_after}
use Rattle.mq_sender.specs.Frames.{bind_frame, end_frame}
use Rattle.mq_sender.specs.States.{awaits, is_running, timed_out}
use Rattle.mq_sender.specs.Table.{sender_next}
use Rattle.mq_sender.specs.declared.state.Sender.{Sender}
use Rattle.mq_sender.specs.declared.state.SenderState.{SenderState}
use Rattle.mq_sender.specs.declared.turns.SenderDoes.{SenderDoes}
use Rattle.mq_sender.specs.declared.turns.SenderDoes.TheVariants as does_
use Rattle.mq_sender.specs.declared.turns.SenderOut.{SenderOut}
use Rattle.mq_sender.specs.declared.turns.SenderOut.TheVariants as outs
use Rattle.mq_sync.specs.Settlement.{sender_or}
use Rattle.mq_sync.specs.Units.{unit_named}
use Rattle.mq_sync.specs.declared.unit.Settle.{Settle}
use Rattle.mq_sync.specs.declared.unit.Settle.TheVariants as settles
use Rattle.mq_calls.specs.Changes.{apply, lane_of, release_if, retag_if, selects, try_if}
use Rattle.mq_calls.specs.Condition.{condition}
use Rattle.mq_calls.specs.Reads.{batch_of, is_full, sender_data, stored, seizure_of}
use Rattle.mq_calls.specs.Sizes.{need}
use Rattle.mq_calls.specs.State.{Change, Plain}
use Rattle.mq_calls.specs.State.Change.{DropQueue, ForgetAll, Hold, Leave, Place, Release, Renew, Seize, SetBound, Try, Unseize}
use Rattle.mq_calls.specs.Steps.{Part, Step, do_all, logged, refused_or}
use Rattle.mq_calls.specs.Steps.Step.{Do, Refuse}
use Rattle.mq_spec_manager.specs.Agents.{expired_rows, harden, hold_batch, leave, names_of, prepare, prepare_of, prepared_changes, prepared_record, queue_of_sender, release_batch, seized_queue, stock}
use Rattle.mq_spec_manager.specs.Get.{expired_parts}
use Rattle.mq_spec_node.specs.Deeds.{parts_of}
use Rattle.mq_spec_node.specs.Node.{Node, SenderEnd, end_in, with_end}
use Rattle.mq_spec_node.specs.Node.ChannelEnd.{Sends}
use Rattle.mq_spec_node.specs.Senders.{after_timeout, leave_if_stopped, prepare_deed, sender_deed, sender_deed_by, sent, settle_parts_if, timeout_deed}
use Rattle.mq_law_seized.proofs.Each.{kept_behind, parts_keep, parts_weaker}
use Rattle.mq_law_node.specs.Rows.{RowKind, row_kind, rows_at, rows_do}
use Rattle.mq_law_node.proofs.Aside.{not_true}
use Rattle.mq_law_node.proofs.Named.{bool_case, end_set, name_is}
use Rattle.mq_law_node.proofs.RowLaws.{rows_applied}
use Rattle.mq_law_pump.specs.Away.{IsAway, RowsAway}
use Rattle.mq_law_pump.specs.Leaves.{EachLeavesOwn, leaves, parts_leave}
use Rattle.mq_law_pump.specs.Others.{adds_none, parts_add_none}
use Rattle.mq_calls.specs.declared.state.Seizure.{Seizure}

-- ROWS STAY AWAY
kept_away : (n : Node) (test : Row → Bool) (rows : List Row) → RowsAway n rows → RowsAway n (keep test rows)
kept_away n test [] h = tt
kept_away n test (r ∷ rs) h = bool_case (test r) (λ b. RowsAway n (if b then r ∷ keep test rs else keep test rs)) (λ e. (h.0, kept_away n test rs h.1)) (λ e. kept_away n test rs h.1)

retagged_away : (n : Node) (f : Row → Row) (rows : List Row) → ((r : Row) → names_of (f r).message.route ≡ names_of r.message.route) → RowsAway n rows → RowsAway n (retag f rows)
retagged_away n f [] same h = tt
retagged_away n f (r ∷ rs) same h = (subst (IsAway n) (sym (same r)) h.0, retagged_away n f rs same h.1)

retag_same : (b : Bool) (by_ : Option Holder) (r : Row) → names_of (retag_if b by_ r).message.route ≡ names_of r.message.route
retag_same true by_ r = refl
retag_same false by_ r = refl

release_same : (b counted : Bool) (r : Row) → names_of (release_if b counted r).message.route ≡ names_of r.message.route
release_same true true r = refl
release_same true false r = refl
release_same false counted r = refl

if_placed : (b : Bool) (x : RowKind) (arrivals : ℕ) (rows : List Row) → b ≡ false → rows_do (if b then x else RowKind.Same) arrivals rows ≡ rows
if_placed true x arrivals rows h = absurd cc
if_placed false x arrivals rows h = refl

if_emptied : (n : Node) (b : Bool) (arrivals : ℕ) (rows : List Row) → RowsAway n rows → RowsAway n (rows_do (if b then RowKind.Emptied else RowKind.Same) arrivals rows)
if_emptied n true arrivals rows h = tt
if_emptied n false arrivals rows h = h

done_away : (n : Node) (channel q : List ℕ) (c : Change) (p : Plain) → leaves channel q c ≡ true → RowsAway n (rows_at q p) → RowsAway n (rows_do (row_kind q c p) (stored q p).arrivals (rows_at q p))
done_away n channel q (Place other m) p h away = subst (RowsAway n) (sym (if_placed (bytes_eq q other) (RowKind.Placed (lane_of (local_of other p.definitions) m.md.priority) m) (stored q p).arrivals (rows_at q p) (not_true (bytes_eq q other) h))) away
done_away n channel q (Leave which) p h away = kept_away n (λ (row : Row). not (selects which q row)) (rows_at q p) away
done_away n channel q (Hold which by_) p h away = retagged_away n (λ (row : Row). retag_if (selects which q row && is_free row) (Some by_) row) (rows_at q p) (λ r. retag_same (selects which q r && is_free r) (Some by_) r) away
done_away n channel q (Release which counted) p h away = retagged_away n (λ (row : Row). release_if (selects which q row && not (is_free row)) counted row) (rows_at q p) (λ r. release_same (selects which q r && not (is_free r)) counted r) away
done_away n channel q (Renew other) p h away = if_emptied n (bytes_eq q other) (stored q p).arrivals (rows_at q p) away
done_away n channel q (DropQueue other) p h away = if_emptied n (bytes_eq q other) (stored q p).arrivals (rows_at q p) away
done_away n channel q c p h away = away

logged_away : (n : Node) (q : List ℕ) (o : Option LogRecord) (p : Plain) → RowsAway n (rows_at q p) → RowsAway n (rows_at q (logged o p))
logged_away n q None p h = h
logged_away n q (Some r) p h = h

pub parts_away : (n : Node) (channel q : List ℕ) (parts : List Part) (p : Plain) → parts_leave channel q parts ≡ true → RowsAway n (rows_at q p) → RowsAway n (rows_at q (do_all parts p))
parts_away n channel q parts p h away = kept_behind (λ v. RowsAway n (rows_at q v)) parts p away (parts_keep (leaves channel q) (λ v. RowsAway n (rows_at q v))
    (λ c v z g. subst (RowsAway n) (sym (rows_applied q c v)) (done_away n channel q c v z g)) (λ o v g. logged_away n q o v g) parts p h away)

-- THE QUEUE STAYS OPEN
seizure_stays : (channel other : List ℕ) (ss : List Seizure) → bytes_eq channel other ≡ false → seizure_of channel (filter (λ (s : Seizure). not (bytes_eq other s.channel)) ss) ≡ seizure_of channel ss
seizure_stays channel other [] apart = refl
seizure_stays channel other (s ∷ ss) apart = one (bytes_eq other s.channel) refl (seizure_stays channel other ss apart)
  where
    one : (b : Bool) → bytes_eq other s.channel ≡ b → seizure_of channel (filter (λ (x : Seizure). not (bytes_eq other x.channel)) ss) ≡ seizure_of channel ss
        → seizure_of channel (filter (λ (x : Seizure). not (bytes_eq other x.channel)) (s ∷ ss)) ≡ seizure_of channel (s ∷ ss)
    one true is h =
        let away : bytes_eq channel s.channel ≡ false = ap (bytes_eq channel) (sym (name_is other s.channel is)) ∙ apart in
        ap (λ (b : Bool). seizure_of channel (if not b then s ∷ filter (λ (x : Seizure). not (bytes_eq other x.channel)) ss else filter (λ (x : Seizure). not (bytes_eq other x.channel)) ss)) is
        ∙ h ∙ ap (λ (b : Bool). if b then Some s else seizure_of channel ss) (sym away)
    one false is h =
        ap (λ (b : Bool). seizure_of channel (if not b then s ∷ filter (λ (x : Seizure). not (bytes_eq other x.channel)) ss else filter (λ (x : Seizure). not (bytes_eq other x.channel)) ss)) is
        ∙ ap (λ (o : Option Seizure). if bytes_eq channel s.channel then Some s else o) h

tries_open : (channel name : List ℕ) (b : Bool) (p : Plain) → queue_of_sender channel (try_if b name p) ≡ queue_of_sender channel p
tries_open channel name true p = refl
tries_open channel name false p = refl

change_open : (channel q : List ℕ) (c : Change) (p : Plain) → leaves channel q c ≡ true → queue_of_sender channel (apply c p) ≡ queue_of_sender channel p
change_open channel q (Try name priority) p h = tries_open channel name (condition (local_of name p.definitions) priority p) p
change_open channel q (SetBound other true) p h = refl
change_open channel q (SetBound other false) p h = refl
change_open channel q (Unseize other) p h = ap seized_queue (seizure_stays channel other p.channels.seizures (not_true (bytes_eq channel other) h))
change_open channel q (Seize s) p h = absurd cc
change_open channel q ForgetAll p h = absurd cc
change_open channel q c p h = refl

logged_open : (channel : List ℕ) (o : Option LogRecord) (p : Plain) → queue_of_sender channel (logged o p) ≡ queue_of_sender channel p
logged_open channel None p = refl
logged_open channel (Some r) p = refl

pub stays_open : (channel q : List ℕ) (parts : List Part) (p : Plain) → parts_leave channel q parts ≡ true → queue_of_sender channel (do_all parts p) ≡ queue_of_sender channel p
stays_open channel q parts p h = kept_behind (λ v. queue_of_sender channel v ≡ queue_of_sender channel p) parts p refl (parts_keep (leaves channel q) (λ v. queue_of_sender channel v ≡ queue_of_sender channel p)
    (λ c v z g. change_open channel q c v z ∙ g) (λ o v g. logged_open channel o v ∙ g) parts p h refl)

-- WHAT ADDS NONE LEAVES
change_leaves : (channel q : List ℕ) (c : Change) → adds_none channel q c ≡ true → leaves channel q c ≡ true
change_leaves channel q (Place other m) h = h
change_leaves channel q (Unseize other) h = h
change_leaves channel q (Seize s) h = absurd cc
change_leaves channel q ForgetAll h = absurd cc
change_leaves channel q c h = refl

pub none_leaves : (channel q : List ℕ) (parts : List Part) → parts_add_none channel q parts ≡ true → parts_leave channel q parts ≡ true
none_leaves channel q parts h = parts_weaker (adds_none channel q) (leaves channel q) (change_leaves channel q) parts h

-- A SENDER'S OWN TURNS
some_sends : (a b : SenderEnd) → Some (Sends a) ≡ Some (Sends b) → a ≡ b
some_sends a b z = cc

-- the end that a turn sets
set_machine : (e : SenderEnd) (n : Node) (x : SenderDoes) (o : SenderOut) (m : Sender) → end_in e.cable n.own.ends ≡ Some (Sends e)
    → end_in e.cable (with_end (Sends (record e { machine = sender_after e.machine x o })) n.own).ends ≡ Some (Sends (record e { machine = m })) → sender_after e.machine x o ≡ m
set_machine e n x o m here is = ap (λ (s : SenderEnd). s.machine) (some_sends (record e { machine = sender_after e.machine x o }) (record e { machine = m }) (sym (end_set (Sends (record e { machine = sender_after e.machine x o })) (Sends e) n.own.ends here) ∙ is))

runs_on : (channel q : List ℕ) (st : SenderState) (parts : List Part) (p : Plain) → is_running st ≡ true → parts_leave channel q parts ≡ true → parts_leave channel q (parts ++ leave_if_stopped channel st p) ≡ true
runs_on channel q st parts p runs h =
    ap (λ (b : Bool). parts_leave channel q (parts ++ (if b then [] else parts_of (leave channel p)))) runs ∙ ap (parts_leave channel q) (append-nil parts) ∙ h

sent_leaves : (q : List ℕ) (e : SenderEnd) (x : SenderDoes) (parts : List Part) (pushed : Option Frame) (n : Node) → end_in e.cable n.own.ends ≡ Some (Sends e) → parts_leave e.channel q parts ≡ true → EachLeavesOwn q e (Some (sent e x parts pushed n))
sent_leaves q e x parts pushed n here h m is runs =
    runs_on e.channel q (sender_after e.machine x outs.Done).state parts n.manager (ap (λ (s : Sender). is_running s.state) (set_machine e n x outs.Done m here is) ∙ runs) h

expiring : (channel q queue : List ℕ) (rows : List Row) → parts_leave channel q (expired_parts queue rows) ≡ true
expiring channel q queue [] = refl
expiring channel q queue (r ∷ rs) = refl

settling : (q : List ℕ) (e : SenderEnd) (o : Option Settle) (p : Plain) → parts_leave e.channel q (settle_parts_if e o p) ≡ true
settling q e None p = refl
settling q e (Some settles.Commit) p = refl
settling q e (Some settles.Backout) p = refl

abbrev StepLeaves : {F T : Type 0} → List ℕ → List ℕ → Step F T → Type 0
StepLeaves channel q (Refuse fault) = Unit {0}
StepLeaves channel q (Do reply parts) = parts_leave channel q parts ≡ true

refused_leaves : {F T : Type 0} (channel q : List ℕ) (o : Option F) (s : Step F T) → StepLeaves channel q s → StepLeaves channel q (refused_or o s)
refused_leaves channel q None s h = h
refused_leaves channel q (Some fault) s h = tt

preparing : (q ch : List ℕ) (last : ℕ) (o : Option Batch) (p : Plain) → StepLeaves ch q (prepare_of ch last o p)
preparing q ch last None p = refl
preparing q ch last (Some b) p = refused_leaves ch q (if is_full (need (prepared_record ch last b)) p then Some prepare_faults.NoRoom else None) (Do tt (record {
  forced = Some (prepared_record ch last b);
  changes = prepared_changes ch last b (sender_or (sender_data ch p));
  delta = did.Prepared ch b.unit ∷ [];
} ∷ [])) refl

prepared : (q : List ℕ) (e : SenderEnd) (s : Step PrepareFault (Unit {0})) (n : Node) → end_in e.cable n.own.ends ≡ Some (Sends e) → StepLeaves e.channel q s → EachLeavesOwn q e (Some (prepare_deed e s n))
prepared q e (Refuse fault) n here h m is runs = stopped (ap (λ (s : Sender). is_running s.state) (set_machine e n does_.Prepare outs.NoRoom m here is) ∙ runs)
  where
    stopped : is_running (sender_after e.machine does_.Prepare outs.NoRoom).state ≡ true → parts_leave e.channel q (parts_of (release_batch e.channel n.manager) ++ parts_of (leave e.channel n.manager)) ≡ true
    stopped z = absurd cc
prepared q e (Do reply parts) n here h m is runs = sent_leaves q e does_.Prepare parts None n here h m is runs

senders_by : (q : List ℕ) (stamp : ℕ) (e : SenderEnd) (x : SenderDoes) (n : Node) → end_in e.cable n.own.ends ≡ Some (Sends e) → EachLeavesOwn q e (sender_deed_by stamp e x n)
senders_by q stamp e does_.Still n here = tt
senders_by q stamp e does_.Ignore n here = λ m is runs. refl
senders_by q stamp e (does_.HardenSession session) n here = sent_leaves q e (does_.HardenSession session) (parts_of (harden e.channel (notes.Session e.partner session) n.manager)) None n here refl
senders_by q stamp e does_.PushBind n here = sent_leaves q e does_.PushBind [] (Some (bind_frame stamp e.machine)) n here refl
senders_by q stamp e does_.Expire n here =
    sent_leaves q e does_.Expire (expired_parts (queue_of_sender e.channel n.manager) (expired_rows (queue_of_sender e.channel n.manager) n.manager)) None n here
    (expiring e.channel q (queue_of_sender e.channel n.manager) (expired_rows (queue_of_sender e.channel n.manager) n.manager))
senders_by q stamp e (does_.Begin k count) n here = sent_leaves q e (does_.Begin k count) (parts_of (hold_batch e.channel (unit_named e.machine.kept.session k) count n.manager)) None n here refl
senders_by q stamp e (does_.PushMsg index) n here = sent_leaves q e (does_.PushMsg index) [] None n here refl
senders_by q stamp e does_.Prepare n here =
    prepared q e (prepare e.channel (number_sent e.machine.state e.machine.kept.last) n.manager) n here (preparing q e.channel (number_sent e.machine.state e.machine.kept.last) (batch_of e.channel n.manager.channels.batches) n.manager)
senders_by q stamp e does_.PushEnd n here = sent_leaves q e does_.PushEnd [] (Some (end_frame stamp e.machine)) n here refl
senders_by q stamp e (does_.Bound settle partner) n here = sent_leaves q e (does_.Bound settle partner) (settle_parts_if e settle n.manager) None n here (settling q e settle n.manager)
senders_by q stamp e does_.Commit n here = sent_leaves q e does_.Commit (settle_parts_if e (Some settles.Commit) n.manager) None n here (settling q e (Some settles.Commit) n.manager)
senders_by q stamp e (does_.Backout reason) n here = sent_leaves q e (does_.Backout reason) (settle_parts_if e (Some settles.Backout) n.manager) None n here (settling q e (Some settles.Backout) n.manager)

pub senders_leave_own : (q : List ℕ) (stamp : ℕ) (e : SenderEnd) (seen : Seen) (n : Node) → end_in e.cable n.own.ends ≡ Some (Sends e) → EachLeavesOwn q e (sender_deed stamp e seen n)
senders_leave_own q stamp e seen n here = senders_by q stamp e (sender_next e.machine seen (stock e.channel n.manager)) n here

timed_leaves : (q : List ℕ) (e : SenderEnd) (machine : Sender) (n : Node) → end_in e.cable n.own.ends ≡ Some (Sends e) → EachLeavesOwn q e (Some (after_timeout e machine n))
timed_leaves q e machine n here m is runs =
    let same : machine ≡ m = ap (λ (s : SenderEnd). s.machine) (some_sends (record e { machine = machine }) (record e { machine = m }) (sym (end_set (Sends (record e { machine = machine })) (Sends e) n.own.ends here) ∙ is)) in
    runs_on e.channel q machine.state [] n.manager (ap (λ (s : Sender). is_running s.state) same ∙ runs) refl

pub timeouts_leave_own : (q : List ℕ) (e : SenderEnd) (n : Node) → end_in e.cable n.own.ends ≡ Some (Sends e) → EachLeavesOwn q e (timeout_deed e n)
timeouts_leave_own q e n here = bool_case (awaits e.machine.state) (λ b. EachLeavesOwn q e (if b then Some (after_timeout e (timed_out e.machine) n) else None)) (λ x. timed_leaves q e (timed_out e.machine) n here) (λ x. tt)
