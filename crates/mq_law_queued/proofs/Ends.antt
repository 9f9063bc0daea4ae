-- Turns and timeouts of ends, and commands on them: a sender's batch is of the queue that it has open and lists each row once, and where it sends
-- none it has none; a sender that runs keeps its limits.
use Rattle.std.proofs.Common.{ℕ, zero, suc, ◌≡◌, ◌≤◌, ◌⊎◌, Bool, true, false, List, [], ◌∷◌, ◌++◌, refl, ap, sym, subst, ◌∙◌, inl, inr}
use Rattle.std.specs.Prelude.{Option, Some, None, ◌+◌, nat_lt, ◌||◌, ◌&&◌, if◌then◌else◌, not, filter, take}
use Rattle.std.specs.Str.{bytes_eq}
use Rattle.mq_base.specs.Members.{AreDistinct, Mem}
use Rattle.mq_frame.specs.declared.frame.Seen.{Seen}
use Rattle.mq_message.specs.declared.message.Ident.{Ident}
use Rattle.mq_queue.specs.declared.row.Row.{Row}
use Rattle.mq_queue.specs.Rows.{is_free}
use Rattle.mq_objects.specs.declared.object.Channel.{Channel}
use Rattle.mq_objects.specs.declared.object.ChannelKind.{ChannelKind}
use Rattle.mq_objects.specs.declared.object.ChannelKind.TheVariants as kinds
use Rattle.mq_objects.specs.Names.{channel_of, local_of}
use Rattle.mq_sync.specs.declared.data.Stock.{Stock}
use Rattle.mq_sync.specs.declared.unit.Settle.{Settle}
use Rattle.mq_sync.specs.Settlement.{sender_or}
use Rattle.mq_sync.specs.Units.{unit_named}
use Rattle.mq_sender.specs.declared.state.Limits.{Limits}
use Rattle.mq_sender.specs.declared.state.Sender.{Sender}
use Rattle.mq_sender.specs.declared.state.SenderState.{SenderState}
use Rattle.mq_sender.specs.declared.state.SenderState.TheVariants as states
use Rattle.mq_sender.specs.declared.state.StopCause.TheVariants as causes
use Rattle.mq_sender.specs.declared.turns.SenderDoes.{SenderDoes}
use Rattle.mq_sender.specs.declared.turns.SenderDoes.TheVariants as does
use Rattle.mq_sender.specs.declared.turns.SenderOut.TheVariants as outs
use Rattle.mq_sender.specs.After.{number_sent, sender_after}
use Rattle.mq_sender.specs.States as senders
use Rattle.mq_sender.specs.Table.{sender_lines, sender_next, is_binding, is_hailing, is_idle, is_ready, is_sending, is_starting, is_waiting}
use Rattle.mq_calls.specs.declared.agents.Note.TheVariants as notes
use Rattle.mq_calls.specs.declared.agents.PrepareFault.{PrepareFault}
use Rattle.mq_calls.specs.declared.agents.SeizeFault.{SeizeFault}
use Rattle.mq_calls.specs.declared.agents.SeizeFault.TheVariants as seize_faults
use Rattle.mq_calls.specs.declared.deltas.Why.TheVariants as whys
use Rattle.mq_calls.specs.declared.state.Batch.{Batch}
use Rattle.mq_sc_parse.specs.declared.command.Op.{Op}
use Rattle.mq_sc_parse.specs.declared.command.Op.TheVariants as ops
use Rattle.mq_history.specs.declared.acts.OpRefusal.TheVariants as reasons
use Rattle.mq_calls.specs.State.{Plain}
use Rattle.mq_calls.specs.declared.state.Seizure.{Seizure}
use Rattle.mq_calls.specs.State.Change.{Seize}
use Rattle.mq_calls.specs.Reads.{batch_of, has_held_by_other, is_open_for_input, is_up, sender_data, free_rows, is_full, stored}
use Rattle.mq_calls.specs.Steps.{Part, Step, do_all, refusal, refused_or as step_or, silent, when, do_part}
use Rattle.mq_calls.specs.Steps.Step.{Do, Refuse}
use Rattle.mq_spec_manager.specs.Get.{expired_parts}
use Rattle.mq_spec_manager.specs.Handles.{is_transmission_queue}
use Rattle.mq_spec_manager.specs.Agents.{channel_queue, expired_rows, harden, hold_batch, leave, prepare, queue_of_sender, release_of, seize, stock, prepare_of, prepared_changes, prepared_record}
use Rattle.mq_spec_node.specs.Node.{ChannelEnd, Node, ReceiverEnd, SenderEnd, receiver_named, sender_named, with_end}
use Rattle.mq_spec_node.specs.Node.ChannelEnd.{Receives, Sends}
use Rattle.mq_spec_node.specs.Deeds.{Deed, parts_of}
use Rattle.mq_spec_node.specs.Operators as operators
use Rattle.mq_spec_node.specs.Operators.{kind_limits, limits_here, limits_of, operate_up, refused_or, start_end, start_seized, stop_end}
use Rattle.mq_spec_node.specs.Senders.{after_timeout, leave_if_stopped, prepare_deed, sender_deed, sender_deed_by, settle_parts, settle_parts_if, timeout_deed}
use Rattle.mq_law_manager.specs.Facts.{Differ, ident_of}
use Rattle.mq_law_manager.proofs.Lists.{bool_case, name_yes, name_self}
use Rattle.mq_law_unshared.specs.from_law_keys.Keys.{IsKeyed}
use Rattle.mq_law_unshared.proofs.from_law_keys.Telling.{receiver_mem, sender_mem}
use Rattle.mq_calls.specs.declared.agents.PrepareFault.TheVariants as prepare_faults
use Rattle.mq_calls.specs.declared.deltas.Did.TheVariants as did
use Rattle.mq_sync.specs.declared.unit.Unit.{Unit as Luw}
use Rattle.mq_calls.specs.Sizes.{need}
use Rattle.mq_spec_manager.specs.Words.{idents_of}
use Rattle.mq_law_manager.proofs.Named.{batch_set}
use Rattle.mq_law_manager.proofs.Removals.{mem_filter}
use Rattle.mq_law_channel.proofs.Told.{by_lines}
use Rattle.std.proofs.lemmas.Bool.{and_parts, true≢false}
use Rattle.mq_law_queued.specs.Queued.{AreQueued, HaveSome, IsKindSome, IsQueued, parts_bare, parts_calm, parts_calm_for, is_calm, is_calm_for}
use Rattle.mq_law_queued.proofs.Calms.{Same, bare_behind, bare_parts, batch_at, batch_gone, for_behind, for_parts, parts_none, parts_same, common_calm, for_one, written_calm}
use Rattle.mq_sync.specs.declared.unit.Settle.TheVariants as settles
use Rattle.mq_law_unshared.specs.from_law_node.Deeds.{HoldsBehind}
use Rattle.mq_law_unshared.specs.Senders.{AreEach, IsLeftBy}
use Rattle.mq_law_unshared.proofs.Senders.{awaits_runs, receiver_starts, receiver_stops, refused_each, removed, resets_each, resolves_each, set_each, settled, turn_has}

-- behind a deed
abbrev pub EachQueued : Node → Option Deed → Type 0
EachQueued n o = HoldsBehind (AreEach IsQueued) n o

-- WHAT IS KNOWN OF ONE
same_queued : (e : SenderEnd) (p q : Plain) → Same e.channel p q → IsQueued e p → IsQueued e q
same_queued e p q s h = record {
  none = λ z. s.0 ∙ h.none z;
  of = λ b k. h.of b (sym s.0 ∙ k) ∙ sym s.1;
  once = λ b k. h.once b (sym s.0 ∙ k);
  some = h.some;
}

none_some : {A : Type 0} {x : A} → None ≡ Some x → ⊥
none_some e = cc

pub none_queued : (e : SenderEnd) (p : Plain) → batch_at e.channel p ≡ None → (senders.is_running e.machine.state ≡ true → 1 ≤ e.machine.limits.batch_size) → IsQueued e p
none_queued e p h some = record { none = λ z. h; of = λ b k. absurd (none_some (sym h ∙ k)); once = λ b k. absurd (none_some (sym h ∙ k)); some = some }

-- no turn changes the limits, and neither does a timeout
limits_done : (m : Sender) (d : SenderDoes) → (sender_after m d outs.Done).limits ≡ m.limits
limits_done m does.Still = refl
limits_done m does.Ignore = refl
limits_done m (does.HardenSession session) = refl
limits_done m does.PushBind = refl
limits_done m does.Expire = refl
limits_done m (does.Begin k count) = refl
limits_done m (does.PushMsg index) = refl
limits_done m does.Prepare = refl
limits_done m does.PushEnd = refl
limits_done m (does.Bound settle partner) = refl
limits_done m does.Commit = refl
limits_done m (does.Backout reason) = refl

limits_timed : (m : Sender) → (senders.timed_out m).limits ≡ m.limits
limits_timed m = bool_case (senders.awaits m.state) (λ b. (if b then senders.tried_again m else m).limits ≡ m.limits) (λ z. limits_tried m) (λ z. refl)
  where
    limits_tried : (m : Sender) → (senders.tried_again m).limits ≡ m.limits
    limits_tried m = bool_case (nat_lt m.tries m.limits.short_retry) (λ b. (if b then record m { state = states.Starting; tries = m.tries + 1 } else record m { state = states.Stopped causes.NoAnswer }).limits ≡ m.limits) (λ z. refl) (λ z. refl)

big_enough : (a b : Limits) → b ≡ a → 1 ≤ a.batch_size → 1 ≤ b.batch_size
big_enough a b same big = subst (λ (l : Limits). 1 ≤ l.batch_size) (sym same) big

-- which changes leave it
pub queued_left : IsLeftBy IsQueued is_calm is_calm_for
queued_left = record { wider = for_one; kept = λ e parts p w h. same_queued e p (do_all parts p) (parts_same e.channel parts p w) h; common = common_calm; written = written_calm }

set_queued : (n : Node) (e : SenderEnd) (m : Sender) (parts : List Part) → IsKeyed n → Mem (Sends e) n.own.ends → AreQueued n.own.ends n.manager → ((c : List ℕ) → bytes_eq c e.channel ≡ false → parts_calm_for c parts ≡ true)
    → IsQueued (record e { machine = m }) (do_all parts n.manager) → AreQueued (with_end (Sends (record e { machine = m })) n.own).ends (do_all parts n.manager)
set_queued n e m parts h there q others mine = set_each IsQueued is_calm is_calm_for queued_left n e m parts h there q others mine

-- LEAVING
leave_for : (c e : List ℕ) (p : Plain) → bytes_eq c e ≡ false → parts_calm_for c (parts_of (leave e p)) ≡ true
leave_for c e p apart = ap (λ b. (not b && true) && true) apart

leaving_for : (c e : List ℕ) (st : SenderState) (p : Plain) → bytes_eq c e ≡ false → parts_calm_for c (leave_if_stopped e st p) ≡ true
leaving_for c e st p apart = bool_case (senders.is_running st) (λ b. parts_calm_for c (if b then [] else parts_of (leave e p)) ≡ true) (λ z. refl) (λ z. leave_for c e p apart)

leaving_bare : (e : List ℕ) (st : SenderState) (p : Plain) → parts_bare (leave_if_stopped e st p) ≡ true
leaving_bare e st p = bool_case (senders.is_running st) (λ b. parts_bare (if b then [] else parts_of (leave e p)) ≡ true) (λ z. refl) (λ z. refl)

-- A SENDER'S TURN: what its state is in each line but the two that send a batch
not_sends : (st : SenderState) → (is_sending st ≡ false) ⊎ ((is_binding st ≡ false) × (is_waiting st ≡ false) × (is_starting st ≡ false) × (is_hailing st ≡ false) × (is_idle st ≡ false) × (is_ready st ≡ false))
not_sends (states.Sending sent number) = inr (refl, refl, refl, refl, refl, refl)
not_sends states.Inactive = inl refl
not_sends (states.Stopped cause) = inl refl
not_sends states.Starting = inl refl
not_sends states.Hailing = inl refl
not_sends states.Binding = inl refl
not_sends states.Running = inl refl
not_sends states.Ready = inl refl
not_sends states.Waiting = inl refl

abbrev Suits : SenderState → SenderDoes → Type 0
Suits st (does.HardenSession session) = is_sending st ≡ false
Suits st does.PushBind = is_sending st ≡ false
Suits st does.Expire = is_sending st ≡ false
Suits st does.PushEnd = is_sending st ≡ false
Suits st (does.Bound settle partner) = is_sending st ≡ false
Suits st does.Commit = is_sending st ≡ false
Suits st (does.Backout reason) = is_sending st ≡ false
Suits st _ = Unit {0}

no_way : {P : Type 0} (b : Bool) → b ≡ true → b ≡ false → P
no_way b e f = absurd (true≢false (sym e ∙ f))

suits : (m : Sender) (seen : Seen) (st : Stock) → Suits m.state (sender_next m seen st)
suits m seen st = by_lines (Suits m.state) does.Still (sender_lines m seen st) (
  (λ z. off (λ k. no_way (is_binding m.state) (and_parts _ _ z).0 k.0)),
  λ e0. (
    (λ z. off (λ k. no_way (is_waiting m.state) (and_parts _ _ z).0 k.1)),
    λ e1. (
      (λ z. off (λ k. no_way (is_waiting m.state) (and_parts _ _ z).0 k.1)),
      λ e2. (
        (λ z. tt),
        λ e3. (
          (λ z. off (λ k. no_way (is_starting m.state) z k.2)),
          λ e4. (
            (λ z. off (λ k. no_way (is_hailing m.state) z k.3)),
            λ e5. (
              (λ z. off (λ k. no_way (is_idle m.state) (first_of (is_idle m.state) _ _ z) k.4)),
              λ e6. ((λ z. tt), λ e7. ((λ z. tt), λ e8. ((λ z. tt), λ e9. ((λ z. off (λ k. no_way (is_ready m.state) z k.5)), λ e10. tt)))),
            ),
          ),
        ),
      ),
    ),
  ),
)
  where
    off : ((is_binding m.state ≡ false) × (is_waiting m.state ≡ false) × (is_starting m.state ≡ false) × (is_hailing m.state ≡ false) × (is_idle m.state ≡ false) × (is_ready m.state ≡ false) → is_sending m.state ≡ false) → is_sending m.state ≡ false
    off f = by_kind (not_sends m.state)
      where
        by_kind : (is_sending m.state ≡ false) ⊎ ((is_binding m.state ≡ false) × (is_waiting m.state ≡ false) × (is_starting m.state ≡ false) × (is_hailing m.state ≡ false) × (is_idle m.state ≡ false) × (is_ready m.state ≡ false)) → is_sending m.state ≡ false
        by_kind (inl k) = k
        by_kind (inr k) = f k

    first_of : (a b c : Bool) → (a && b && c) ≡ true → a ≡ true
    first_of true b c e = refl
    first_of false b c e = absurd cc

-- where it sends no batch it has none behind it
sent_none : (n : Node) (e : SenderEnd) (d : SenderDoes) (parts : List Part) → IsKeyed n → Mem (Sends e) n.own.ends → AreQueued n.own.ends n.manager → is_sending e.machine.state ≡ false → 1 ≤ e.machine.limits.batch_size → parts_calm parts ≡ true
    → AreQueued (with_end (Sends (record e { machine = sender_after e.machine d outs.Done })) n.own).ends (do_all (parts ++ leave_if_stopped e.channel (sender_after e.machine d outs.Done).state n.manager) n.manager)
sent_none n e d parts h there q off big calm =
    let st : SenderState = (sender_after e.machine d outs.Done).state in
    let all : List Part = parts ++ leave_if_stopped e.channel st n.manager in
    set_queued n e (sender_after e.machine d outs.Done) all h there q
    (λ c apart. for_behind c parts (leave_if_stopped e.channel st n.manager) (for_parts c parts calm) (leaving_for c e.channel st n.manager apart))
    (none_queued (record e { machine = sender_after e.machine d outs.Done }) (do_all all n.manager)
    (parts_none e.channel all n.manager (bare_behind parts (leave_if_stopped e.channel st n.manager) (bare_parts parts calm) (leaving_bare e.channel st n.manager)) ((q e there).none off))
    (λ on. big_enough e.machine.limits (sender_after e.machine d outs.Done).limits (limits_done e.machine d) big))

-- a batch that is released, or prepared, is none any more
release_for : (c e : List ℕ) (o : Option Batch) → bytes_eq c e ≡ false → parts_calm_for c (parts_of (release_of e o)) ≡ true
release_for c e None apart = refl
release_for c e (Some b) apart = ap (λ t. (not t && true) && true) apart

released : (e : List ℕ) (p : Plain) (o : Option Batch) → batch_at e p ≡ o → batch_at e (do_all (parts_of (release_of e o)) p) ≡ None
released e p None is = is
released e p (Some b) is = batch_gone e p.channels.batches

do_behind : (xs ys : List Part) (p : Plain) → do_all (xs ++ ys) p ≡ do_all ys (do_all xs p)
do_behind [] ys p = refl
do_behind (x ∷ xs) ys p = do_behind xs ys (do_part x p)

let_go : (n : Node) (e : SenderEnd) (m : Sender) → IsKeyed n → Mem (Sends e) n.own.ends → AreQueued n.own.ends n.manager → senders.is_running m.state ≡ false
    → AreQueued (with_end (Sends (record e { machine = m })) n.own).ends (do_all (parts_of (release_of e.channel (batch_of e.channel n.manager.channels.batches)) ++ parts_of (leave e.channel n.manager)) n.manager)
let_go n e m h there q off =
    let o : Option Batch = batch_of e.channel n.manager.channels.batches in
    let freed : List Part = parts_of (release_of e.channel o) in
    set_queued n e m (freed ++ parts_of (leave e.channel n.manager)) h there q
    (λ c apart. for_behind c freed (parts_of (leave e.channel n.manager)) (release_for c e.channel o apart) (leave_for c e.channel n.manager apart))
    (none_queued (record e { machine = m }) (do_all (freed ++ parts_of (leave e.channel n.manager)) n.manager)
    (ap (batch_at e.channel) (do_behind freed (parts_of (leave e.channel n.manager)) n.manager) ∙ parts_none e.channel (parts_of (leave e.channel n.manager)) (do_all freed n.manager) refl (released e.channel n.manager o refl))
    (λ on. absurd (true≢false (sym on ∙ off))))

-- a prepared batch is the unit in doubt
abbrev Prepares : List ℕ → Plain → Step PrepareFault (Unit {0}) → Type 0
Prepares e p (Refuse fault) = Unit {0}
Prepares e p (Do reply parts) = (batch_at e (do_all parts p) ≡ None) × ((c : List ℕ) → bytes_eq c e ≡ false → parts_calm_for c parts ≡ true)

tested_prepares : (e : List ℕ) (p : Plain) (o : Option PrepareFault) (s : Step PrepareFault (Unit {0})) → Prepares e p s → Prepares e p (step_or o s)
tested_prepares e p None s k = k
tested_prepares e p (Some fault) s k = tt

prepare_so : (e : List ℕ) (last : ℕ) (p : Plain) (o : Option Batch) → batch_at e p ≡ o → Prepares e p (prepare_of e last o p)
prepare_so e last p None is = (is, λ c apart. refl)
prepare_so e last p (Some b) is =
    tested_prepares e p (refusal (when (is_full (need (prepared_record e last b)) p) prepare_faults.NoRoom ∷ [])) (Do tt (record {
      forced = Some (prepared_record e last b);
      changes = prepared_changes e last b (sender_or (sender_data e p));
      delta = did.Prepared e b.unit ∷ [];
    } ∷ [])) (batch_gone e p.channels.batches, λ c apart. ap (λ t. (not t && true) && true) apart)

prepares_queued : (n : Node) (e : SenderEnd) (s : Step PrepareFault (Unit {0})) → IsKeyed n → Mem (Sends e) n.own.ends → AreQueued n.own.ends n.manager → 1 ≤ e.machine.limits.batch_size → Prepares e.channel n.manager s → EachQueued n (Some (prepare_deed e s n))
prepares_queued n e (Refuse fault) h there q big k = let_go n e (sender_after e.machine does.Prepare outs.NoRoom) h there q refl
prepares_queued n e (Do reply parts) h there q big k =
    let st : SenderState = (sender_after e.machine does.Prepare outs.Done).state in
    let all : List Part = parts ++ leave_if_stopped e.channel st n.manager in
    set_queued n e (sender_after e.machine does.Prepare outs.Done) all h there q
    (λ c apart. for_behind c parts (leave_if_stopped e.channel st n.manager) (k.1 c apart) (leaving_for c e.channel st n.manager apart))
    (none_queued (record e { machine = sender_after e.machine does.Prepare outs.Done }) (do_all all n.manager)
    (ap (batch_at e.channel) (do_behind parts (leave_if_stopped e.channel st n.manager) n.manager) ∙ parts_none e.channel (leave_if_stopped e.channel st n.manager) (do_all parts n.manager) (leaving_bare e.channel st n.manager) k.0) (λ on. big))

-- a batch that is begun is of the queue that is open
some_is : {A : Type 0} (a b : A) → Some a ≡ Some b → a ≡ b
some_is a b e = cc

-- of rows that stand once it lists each once
filter_differ : (test : Row → Bool) (rows : List Row) → Differ ident_of rows → Differ ident_of (filter test rows)
filter_differ test [] h = tt
filter_differ test (r ∷ rs) h = bool_case (test r) (λ b. Differ ident_of (if b then r ∷ filter test rs else filter test rs))
    (λ z. (λ y m. h.0 y (mem_filter y test rs m).0, filter_differ test rs h.1)) (λ z. filter_differ test rs h.1)

take_in : (k : ℕ) (rows : List Row) (x : Row) → Mem x (take k rows) → Mem x rows
take_in zero rows x m = absurd m
take_in (suc k) [] x m = m
take_in (suc k) (r ∷ rs) x (inl e) = inl e
take_in (suc k) (r ∷ rs) x (inr m) = inr (take_in k rs x m)

take_differ : (k : ℕ) (rows : List Row) → Differ ident_of rows → Differ ident_of (take k rows)
take_differ zero rows h = tt
take_differ (suc k) [] h = tt
take_differ (suc k) (r ∷ rs) h = (λ y m. h.0 y (take_in k rs y m), take_differ k rs h.1)

ident_there : (i : Ident) (rows : List Row) → Mem i (idents_of rows) → (r : Row) × Mem r rows × (i ≡ r.message.ident)
ident_there i [] m = absurd m
ident_there i (r ∷ rs) (inl e) = (r, inl refl, e)
ident_there i (r ∷ rs) (inr m) = let t = ident_there i rs m in (t.0, inr t.1, t.2)

idents_once : (rows : List Row) → Differ ident_of rows → AreDistinct (idents_of rows)
idents_once [] h = tt
idents_once (r ∷ rs) h = (λ m. let t = ident_there r.message.ident rs m in h.0 t.0 t.1 t.2, idents_once rs h.1)

begun_queued : (n : Node) (e : SenderEnd) (m : Sender) (unit : Luw) (count : ℕ) → IsKeyed n → Mem (Sends e) n.own.ends → AreQueued n.own.ends n.manager → ((name : List ℕ) → Differ ident_of (stored name n.manager).rows) → 1 ≤ m.limits.batch_size → is_sending m.state ≡ true
    → AreQueued (with_end (Sends (record e { machine = m })) n.own).ends (do_all (parts_of (hold_batch e.channel unit count n.manager)) n.manager)
begun_queued n e m unit count h there q once big on =
    set_queued n e m (parts_of (hold_batch e.channel unit count n.manager)) h there q (λ c apart. ap (λ t. (not t && true) && true) apart) (record {
      none = λ z. absurd (true≢false (sym on ∙ z));
      of = λ b k. sym (ap (λ (x : Batch). x.queue) (some_is new b (sym found ∙ k)));
      once = λ b k. subst (λ (x : Batch). AreDistinct x.idents) (some_is new b (sym found ∙ k)) (idents_once (take count (free_rows queue n.manager)) (take_differ count (free_rows queue n.manager) (filter_differ is_free (stored queue n.manager).rows (once queue))));
      some = λ z. big;
    })
  where
    queue : List ℕ
    queue = queue_of_sender e.channel n.manager

    new : Batch
    new = record { channel = e.channel; unit = unit; queue = queue; idents = idents_of (take count (free_rows queue n.manager)) }

    found : batch_at e.channel (do_all (parts_of (hold_batch e.channel unit count n.manager)) n.manager) ≡ Some new
    found = batch_set e.channel new n.manager.channels.batches ∙ ap (λ t. if t then Some new else batch_of e.channel n.manager.channels.batches) (name_self e.channel)

settle_calm : (e : SenderEnd) (o : Option Settle) (p : Plain) → parts_calm (settle_parts_if e o p) ≡ true
settle_calm e o p = settled IsQueued is_calm is_calm_for queued_left e o p

turned_by : (stamp : ℕ) (n : Node) (e : SenderEnd) (d : SenderDoes) → IsKeyed n → Mem (Sends e) n.own.ends → AreQueued n.own.ends n.manager → ((name : List ℕ) → Differ ident_of (stored name n.manager).rows) → 1 ≤ e.machine.limits.batch_size
    → Suits e.machine.state d → EachQueued n (sender_deed_by stamp e d n)
turned_by stamp n e does.Still h there q once big off = tt
turned_by stamp n e does.Ignore h there q once big off = q
turned_by stamp n e (does.HardenSession session) h there q once big off = sent_none n e (does.HardenSession session) (parts_of (harden e.channel (notes.Session e.partner session) n.manager)) h there q off big refl
turned_by stamp n e does.PushBind h there q once big off = sent_none n e does.PushBind [] h there q off big refl
turned_by stamp n e does.Expire h there q once big off = sent_none n e does.Expire (expired_parts (queue_of_sender e.channel n.manager) (expired_rows (queue_of_sender e.channel n.manager) n.manager)) h there q off big (removed IsQueued is_calm is_calm_for queued_left whys.Expired (queue_of_sender e.channel n.manager) (expired_rows (queue_of_sender e.channel n.manager) n.manager))
turned_by stamp n e (does.Begin k count) h there q once big off = begun_queued n e (sender_after e.machine (does.Begin k count) outs.Done) (unit_named e.machine.kept.session k) count h there q once big refl
turned_by stamp n e (does.PushMsg index) h there q once big off =
    set_queued n e (sender_after e.machine (does.PushMsg index) outs.Done) [] h there q (λ c apart. refl) (record { none = λ z. absurd (true≢false z); of = (q e there).of; once = (q e there).once; some = λ z. big })
turned_by stamp n e does.Prepare h there q once big off =
    prepares_queued n e (prepare e.channel (number_sent e.machine.state e.machine.kept.last) n.manager) h there q big (prepare_so e.channel (number_sent e.machine.state e.machine.kept.last) n.manager (batch_of e.channel n.manager.channels.batches) refl)
turned_by stamp n e does.PushEnd h there q once big off = sent_none n e does.PushEnd [] h there q off big refl
turned_by stamp n e (does.Bound settle partner) h there q once big off = sent_none n e (does.Bound settle partner) (settle_parts_if e settle n.manager) h there q off big (settle_calm e settle n.manager)
turned_by stamp n e does.Commit h there q once big off = sent_none n e does.Commit (settle_parts e true n.manager) h there q off big (settle_calm e (Some settles.Commit) n.manager)
turned_by stamp n e (does.Backout reason) h there q once big off = sent_none n e (does.Backout reason) (settle_parts e false n.manager) h there q off big (settle_calm e (Some settles.Backout) n.manager)

pub sender_queued : (stamp : ℕ) (n : Node) (e : SenderEnd) (seen : Seen) → IsKeyed n → Mem (Sends e) n.own.ends → AreQueued n.own.ends n.manager → ((name : List ℕ) → Differ ident_of (stored name n.manager).rows)
    → EachQueued n (sender_deed stamp e seen n)
sender_queued stamp n e seen h there q once = turn_has (EachQueued n) stamp e seen n tt q
    (λ on. turned_by stamp n e (sender_next e.machine seen (stock e.channel n.manager)) h there q once ((q e there).some on) (suits e.machine seen (stock e.channel n.manager)))

-- A TIMEOUT
awaits_off : (st : SenderState) → senders.awaits st ≡ true → is_sending st ≡ false
awaits_off states.Binding e = refl
awaits_off states.Waiting e = refl
awaits_off states.Inactive e = refl
awaits_off (states.Stopped cause) e = refl
awaits_off states.Starting e = refl
awaits_off states.Hailing e = refl
awaits_off states.Running e = refl
awaits_off (states.Sending sent number) e = absurd cc
awaits_off states.Ready e = refl

pub timeout_queued : (n : Node) (e : SenderEnd) → IsKeyed n → Mem (Sends e) n.own.ends → AreQueued n.own.ends n.manager → EachQueued n (timeout_deed e n)
timeout_queued n e h there q = bool_case (senders.awaits e.machine.state) (λ b. senders.awaits e.machine.state ≡ b → EachQueued n (if b then Some (after_timeout e (senders.timed_out e.machine) n) else None))
    (λ z w.
    let m : Sender = senders.timed_out e.machine in
    let left : List Part = leave_if_stopped e.channel m.state n.manager in
    set_queued n e m left h there q (λ c apart. leaving_for c e.channel m.state n.manager apart)
    (none_queued (record e { machine = m }) (do_all left n.manager) (parts_none e.channel left n.manager (leaving_bare e.channel m.state n.manager) ((q e there).none (awaits_off e.machine.state w)))
    (λ on. big_enough e.machine.limits m.limits (limits_timed e.machine) ((q e there).some (awaits_runs e.machine.state w)))))
    (λ z w. tt) refl

-- START
off_run : (st : SenderState) → senders.is_running st ≡ false → is_sending st ≡ false
off_run states.Binding e = refl
off_run states.Waiting e = refl
off_run states.Inactive e = refl
off_run (states.Stopped cause) e = refl
off_run states.Starting e = refl
off_run states.Hailing e = refl
off_run states.Running e = refl
off_run (states.Sending sent number) e = absurd cc
off_run states.Ready e = refl

abbrev Opens : SenderEnd → Step SeizeFault (Unit {0}) → Type 0
Opens e (Refuse fault) = Unit {0}
Opens e (Do reply parts) = ((c : List ℕ) → bytes_eq c e.channel ≡ false → parts_calm_for c parts ≡ true) × (parts_bare parts ≡ true)

refused_opens : (e : SenderEnd) (o : Option SeizeFault) (s : Step SeizeFault (Unit {0})) → Opens e s → Opens e (step_or o s)
refused_opens e None s k = k
refused_opens e (Some fault) s k = tt

seize_opens : (e : SenderEnd) (p : Plain) → Opens e (seize e.channel p)
seize_opens e p =
    let queue : List ℕ = channel_queue (channel_of e.channel p.definitions) in
    let new : Seizure = record { channel = e.channel; queue = queue } in
    refused_opens e (refusal (when (not (is_transmission_queue (local_of queue p.definitions))) seize_faults.BadQueue
    ∷ when (is_open_for_input queue p || has_held_by_other e.channel queue p) seize_faults.QueueInUse
    ∷ [])) (Do tt (silent (Seize new ∷ []) ∷ [])) ((λ c apart. ap (λ t. (not t && true) && true) apart), refl)

seized_queued : (n : Node) (e : SenderEnd) (s : Step SeizeFault (Unit {0})) → IsKeyed n → Mem (Sends e) n.own.ends → AreQueued n.own.ends n.manager → is_sending e.machine.state ≡ false → 1 ≤ (limits_here e.channel n).batch_size → Opens e s → EachQueued n (Some (start_seized e s n))
seized_queued n e (Refuse fault) h there q off big k = q
seized_queued n e (Do reply parts) h there q off big k =
    let m : Sender = senders.started (senders.kept_of (sender_data e.channel n.manager)) (limits_here e.channel n) in
    set_queued n e m parts h there q (λ c apart. k.0 c apart) (none_queued (record e { machine = m }) (do_all parts n.manager) (parts_none e.channel parts n.manager k.1 ((q e there).none off)) (λ on. big))

started_if : (n : Node) (b : Bool) (d : Deed) → AreQueued n.own.ends n.manager → (b ≡ false → EachQueued n (Some d)) → EachQueued n (Some (refused_or (refusal (when b reasons.Running ∷ [])) n.own d))
started_if n true d q k = q
started_if n false d q k = k refl

-- the end that a channel's definition speaks of: a sender's has what that definition allows
abbrev EachThere : Node → Option ChannelEnd → Type 0
EachThere n None = Unit {0}
EachThere n (Some (Sends e)) = Mem (Sends e) n.own.ends × (1 ≤ (limits_here e.channel n).batch_size)
EachThere n (Some (Receives e)) = Mem (Receives e) n.own.ends

named_is : (channel : List ℕ) (es : List ChannelEnd) (x : SenderEnd) → sender_named channel es ≡ Some x → channel ≡ x.channel
named_is channel [] x e = absurd (none_some e)
named_is channel (Receives y ∷ es) x e = named_is channel es x e
named_is channel (Sends y ∷ es) x e = bool_case (bytes_eq channel y.channel) (λ b. bytes_eq channel y.channel ≡ b → (if b then Some y else sender_named channel es) ≡ Some x → channel ≡ x.channel)
    (λ z w k. name_yes channel y.channel w ∙ ap (λ (v : SenderEnd). v.channel) (some_is y x k)) (λ z w k. named_is channel es x k) refl e

end_there : (channel : List ℕ) (n : Node) → HaveSome n.manager.definitions → EachThere n (operators.end_here channel n)
end_there channel n have = at (channel_of channel n.manager.definitions) refl
  where
    sends_ : (o : Option SenderEnd) → sender_named channel n.own.ends ≡ o → 1 ≤ (limits_here channel n).batch_size → EachThere n (elim o as (λ x. Option ChannelEnd) [ None ↦ None | Some e ↦ Some (Sends e) ])
    sends_ None e big = tt
    sends_ (Some x) e big = (sender_mem channel n.own.ends x e, subst (λ (c : List ℕ). 1 ≤ (limits_here c n).batch_size) (named_is channel n.own.ends x e) big)

    takes_ : (o : Option ReceiverEnd) → receiver_named channel n.own.ends ≡ o → EachThere n (elim o as (λ x. Option ChannelEnd) [ None ↦ None | Some e ↦ Some (Receives e) ])
    takes_ None e = tt
    takes_ (Some x) e = receiver_mem channel n.own.ends x e

    kind : (c : Channel) (k : ChannelKind) → channel_of channel n.manager.definitions ≡ Some c → c.kind ≡ k → EachThere n (operators.end_of_kind channel k n.own.ends)
    kind c (kinds.Sender batch retry xmitq) is of = sends_ (sender_named channel n.own.ends) refl
        (subst (λ (o : Option Channel). 1 ≤ (limits_of o).batch_size) (sym is) (subst (λ (k : ChannelKind). 1 ≤ (kind_limits c.sequence_wrap k).batch_size) (sym of) (subst IsKindSome of (have channel c is))))
    kind c (kinds.Receiver dead) is of = takes_ (receiver_named channel n.own.ends) refl

    at : (c : Option Channel) → channel_of channel n.manager.definitions ≡ c → EachThere n (operators.end_defined channel c n.own.ends)
    at None is = tt
    at (Some c) is = kind c c.kind is refl

starts : (n : Node) (o : Option ChannelEnd) → IsKeyed n → EachThere n o → AreQueued n.own.ends n.manager → EachQueued n (Some (start_end o n))
starts n None h there q = q
starts n (Some (Sends e)) h there q = started_if n (senders.is_running e.machine.state) (start_seized e (seize e.channel n.manager) n) q (λ off. seized_queued n e (seize e.channel n.manager) h there.0 q (off_run e.machine.state off) there.1 (seize_opens e n.manager))
starts n (Some (Receives e)) h there q = receiver_starts IsQueued is_calm is_calm_for queued_left n e q

stops : (n : Node) (o : Option ChannelEnd) → IsKeyed n → EachThere n o → AreQueued n.own.ends n.manager → EachQueued n (Some (stop_end o n))
stops n None h there q = q
stops n (Some (Sends e)) h there q = let_go n e (senders.stopped e.machine) h there.0 q refl
stops n (Some (Receives e)) h there q = receiver_stops IsQueued is_calm is_calm_for queued_left n e q

up_opens : (op : Op) (n : Node) → IsKeyed n → HaveSome n.manager.definitions → AreQueued n.own.ends n.manager → EachQueued n (Some (operate_up op n))
up_opens (ops.Start channel) n h have q = starts n (operators.end_here channel n) h (end_there channel n have) q
up_opens (ops.Stop channel) n h have q = stops n (operators.end_here channel n) h (end_there channel n have) q
up_opens (ops.Reset channel seqnum) n h have q = resets_each IsQueued is_calm is_calm_for queued_left seqnum n (operators.end_here channel n) q
up_opens (ops.Resolve channel settle) n h have q = resolves_each IsQueued is_calm is_calm_for queued_left settle n (sender_named channel n.own.ends) q

pub operate_queued : (op : Op) (n : Node) → IsKeyed n → HaveSome n.manager.definitions → AreQueued n.own.ends n.manager → EachQueued n (Some (operators.operate op n))
operate_queued op n h have q = refused_each IsQueued is_calm is_calm_for queued_left n (refusal (when (not (is_up n.manager.running)) reasons.Down ∷ [])) (operate_up op n) q (up_opens op n h have q)
