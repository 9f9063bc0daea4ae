-- What holds of a manager, holds behind each turn of its ends: the conditions of what they ask are met, as the machines' states say.
use Rattle.std.proofs.Common.{ℕ, ◌≡◌, ◌+◌, ◌<◌, Bool, true, false, List, [], ◌∷◌, ◌++◌, refl, ap, sym, ◌∙◌, take, arith}
use Rattle.std.specs.Prelude.{Option, Some, None, if◌then◌else◌}
use Rattle.std.specs.Option.{option_map}
use Rattle.mq_frame.specs.declared.frame.Seen.{Seen}
use Rattle.mq_codes.specs.declared.reason.Reason.{Reason}
use Rattle.mq_sync.specs.declared.unit.Unit.{Unit as Luw}
use Rattle.mq_sync.specs.declared.unit.Settle.TheVariants as settles
use Rattle.mq_sync.specs.declared.data.Doubt.{Doubt}
use Rattle.mq_sync.specs.declared.data.InDoubt.{InDoubt}
use Rattle.mq_sync.specs.Settlement.{sender_or}
use Rattle.mq_sync.specs.Units.{unit_named}
use Rattle.mq_sender.specs.declared.state.Kept.{Kept}
use Rattle.mq_sender.specs.declared.state.SenderState.{SenderState}
use Rattle.mq_sender.specs.declared.turns.SenderDoes.{SenderDoes}
use Rattle.mq_sender.specs.declared.turns.SenderDoes.TheVariants as does
use Rattle.mq_sender.specs.After.{number_sent, sender_after}
use Rattle.mq_sender.specs.declared.turns.SenderOut.TheVariants as outs
use Rattle.mq_sender.specs.States.{is_running}
use Rattle.mq_sender.specs.States as states
use Rattle.mq_sender.specs.Table.{is_starting, sender_next, status_unit}
use Rattle.mq_receiver.specs.declared.turns.ReceiverDoes.{ReceiverDoes}
use Rattle.mq_receiver.specs.declared.turns.ReceiverDoes.TheVariants as takes
use Rattle.mq_receiver.specs.Table.{receiver_next}
use Rattle.mq_receiver.specs.After.{bound_by, last_by}
use Rattle.mq_calls.specs.declared.agents.Note.{Note}
use Rattle.mq_calls.specs.declared.agents.Note.TheVariants as notes
use Rattle.mq_calls.specs.declared.agents.PrepareFault.{PrepareFault}
use Rattle.mq_calls.specs.State.{Plain}
use Rattle.mq_calls.specs.Reads.{batch_of, free_rows, in_doubt_of, sender_data, stored}
use Rattle.mq_calls.specs.Steps.{Part, Step, do_all, do_part}
use Rattle.mq_calls.specs.Steps.Step.{Refuse, Do}
use Rattle.mq_spec_manager.specs.Agents.{harden, hold_batch, leave, prepare, queue_of_sender, receive, release_batch, set_bound, stock}
use Rattle.mq_spec_manager.specs.Conditions.{unit_of}
use Rattle.mq_spec_node.specs.Node.{Node, ReceiverEnd, SenderEnd}
use Rattle.mq_spec_node.specs.Deeds.{parts_of}
use Rattle.mq_spec_node.specs.Receivers.{close_parts, is_receiver_defined, place_deed, receiver_deed, receiver_deed_by}
use Rattle.mq_spec_node.specs.Senders.{doubted, leave_if_stopped, prepare_deed, sender_deed, sender_deed_by}
use Rattle.mq_law_channel.specs.Channel.{Channel, Facts, Past}
use Rattle.mq_law_channel.specs.Turns.{SeenIn}
use Rattle.mq_law_channel.proofs.Sending.{binding_is, fits_at, idle_is, starting_is, waiting_is}
use Rattle.mq_law_channel.proofs.Told.{ack_told, doubt_is, err_told, no_doubt}
use Rattle.mq_law_story.proofs.from_law_rows.Lists.{bool_case}
use Rattle.mq_law_manager.specs.Facts.{IsSound}
use Rattle.mq_law_manager.specs.Kept.{AllKeep, Keeps, StepKeeps}
use Rattle.mq_law_manager.proofs.Batches.{harden_keeps, prepare_keeps, release_batch_keeps}
use Rattle.mq_law_manager.proofs.Ending.{done, joined}
use Rattle.mq_law_manager.proofs.Handling.{expire_keeps, leave_keeps, set_bound_keeps}
use Rattle.mq_law_manager.proofs.Receiving.{receive_keeps}
use Rattle.mq_law_manager.proofs.Removals.{mem_filter}
use Rattle.mq_law_manager.proofs.Steps.{free_is}
use Rattle.mq_law_manager.proofs.Stocks.{bound_stocked, expire_stocked, harden_stocked, hold_stocked, leave_stocked, prepare_stocked, receive_stocked, release_stocked}
use Rattle.mq_law_manager.proofs.Stopping.{sound_held, take_mem}
use Rattle.mq_law_node.specs.Data.{sends_at}
use Rattle.mq_law_node.specs.Ends.{Guard, SendsAs, sender_of}
use Rattle.mq_law_node.proofs.Operators.{doubt_there}
use Rattle.mq_law_node.proofs.SenderTurns.{binding_apart, guarded, idle_apart, waiting_apart}
use Rattle.mq_law_node.specs.Ends.{Where}
use Rattle.mq_law_turns.specs.Turns.{EachSound}
use Rattle.mq_law_turns.proofs.Sending.{Settling, settled_some, settles_so}
use Rattle.mq_spec_manager.specs.Agents.{expire}
use Rattle.mq_queue.specs.Rows.{is_free}

-- Parts behind parts

pub all_then : (xs ys : List Part) (p : Plain) → AllKeep IsSound xs p → AllKeep IsSound ys (do_all xs p) → AllKeep IsSound (xs ++ ys) p
all_then [] ys p k l = l
all_then (x ∷ xs) ys p k l = (k.0, all_then xs ys (do_part x p) k.1 l)

pub leave_sound : (c : List ℕ) (p : Plain) → IsSound p → StepKeeps IsSound (leave c p) p
leave_sound c p h = joined (leave c p) p h (leave_keeps c p h.facts) (leave_stocked c p h.stocked)

leaving_sound : (c : List ℕ) (st : SenderState) (p q : Plain) → IsSound q → AllKeep IsSound (leave_if_stopped c st p) q
leaving_sound c st p q h = bool_case (is_running st) (λ t. AllKeep IsSound (if t then [] else parts_of (leave c p)) q) (λ e. tt) (λ e. leave_sound c q h)

-- the parts of a step, and then the end may leave its queue
step_then : {F T : Type 0} (s : Step F T) (c : List ℕ) (st : SenderState) (p : Plain) → IsSound p → StepKeeps IsSound s p → AllKeep IsSound (parts_of s ++ leave_if_stopped c st p) p
step_then (Refuse reason) c st p h k = leaving_sound c st p p h
step_then (Do reply parts) c st p h k = all_then parts (leave_if_stopped c st p) p k (leaving_sound c st p (do_all parts p) (done parts p h k))

-- What a sender's end asks

pub hardens_sound : (c : List ℕ) (note : Note) (p : Plain) → IsSound p → Keeps (harden c note p) p → StepKeeps IsSound (harden c note p) p
hardens_sound c note p h k = joined (harden c note p) p h k (harden_stocked c note p h.stocked)

holds_sound : (c : List ℕ) (unit : Luw) (most : ℕ) (p : Plain) → IsSound p → batch_of c p.channels.batches ≡ None → in_doubt_of (sender_data c p) ≡ None → StepKeeps IsSound (hold_batch c unit most p) p
holds_sound c unit most p h batch doubt =
    let q : List ℕ = queue_of_sender c p in
    joined (hold_batch c unit most p) p h (
      sound_held c q unit (take most (free_rows q p)) p h.facts batch doubt
          (λ r m. let k = mem_filter r is_free (stored q p).rows (take_mem r most (free_rows q p) m) in (k.0, free_is r k.1)),
      tt,
    ) (hold_stocked c unit most p h.stocked)

pub releases_sound : (c : List ℕ) (p : Plain) → IsSound p → StepKeeps IsSound (release_batch c p) p
releases_sound c p h = joined (release_batch c p) p h (release_batch_keeps c p h.facts) (release_stocked c p h.facts h.stocked)

-- the unit that the machine knows to be in doubt
pub record IsKnown (w : Where) (p : Plain) (q : Doubt) : Type 0 where
  pub doubt : InDoubt
  pub is : in_doubt_of (sender_data w.channel p) ≡ Some doubt
  pub unit : doubt.unit ≡ q.unit

is_known : (w : Where) (n : Node) (x : Channel) (y : Past) (q : Doubt) → SendsAs w n x → Facts x y → is_running x.sender.state ≡ true → x.sender.kept.doubt ≡ Some q → IsKnown w n.manager q
is_known w n x y q sends facts runs e =
    let k = doubt_is (sends_at w.channel n.manager).in_doubt q (sym (ap (λ (o : Kept). o.doubt) sends.data_) ∙ sym (ap (λ (o : Kept). o.doubt) (facts.tied.running runs)) ∙ e) in
    record { doubt = k.data_; is = doubt_there (sender_data w.channel n.manager) ∙ k.is; unit = k.unit }

settles_sound : (w : Where) (n : Node) (x : Channel) (y : Past) (commit : Bool) (q : Doubt) → SendsAs w n x → Facts x y → IsSound n.manager → is_running x.sender.state ≡ true → x.sender.kept.doubt ≡ Some q → batch_of w.channel n.manager.channels.batches ≡ None
    → StepKeeps IsSound (harden w.channel (notes.Resolved (doubted x.sender.kept.doubt) commit false) n.manager) n.manager
settles_sound w n x y commit q sends facts h runs e free =
    let k = is_known w n x y q sends facts runs e in
    hardens_sound w.channel (notes.Resolved (doubted x.sender.kept.doubt) commit false) n.manager h
    (harden_keeps w.channel (notes.Resolved (doubted x.sender.kept.doubt) commit false) n.manager (ap (option_map unit_of) k.is ∙ ap (λ u. Some u) (k.unit ∙ sym (ap doubted e)), free) h.facts)

prepares_sound : (e : SenderEnd) (s : Step PrepareFault (Unit {0})) (n : Node) → IsSound n.manager → StepKeeps IsSound s n.manager → EachSound n.manager (Some (prepare_deed e s n))
prepares_sound e (Refuse fault) n h k = released (release_batch e.channel n.manager) (releases_sound e.channel n.manager h)
  where
    released : {F T : Type 0} (s : Step F T) → StepKeeps IsSound s n.manager → AllKeep IsSound (parts_of s ++ parts_of (leave e.channel n.manager)) n.manager
    released (Refuse reason) l = leave_sound e.channel n.manager h
    released (Do reply parts) l = all_then parts (parts_of (leave e.channel n.manager)) n.manager l (leave_sound e.channel (do_all parts n.manager) (done parts n.manager h l))
prepares_sound e (Do reply parts) n h k = all_then parts (leave_if_stopped e.channel (sender_after e.machine does.Prepare outs.Done).state n.manager) n.manager k
    (leaving_sound e.channel (sender_after e.machine does.Prepare outs.Done).state n.manager (do_all parts n.manager) (done parts n.manager h k))

-- a sender that runs, and has begun no unit in this turn, has none in doubt
none_or : (o : Option InDoubt) → ((d : InDoubt) → o ≡ Some d → ⊥) → o ≡ None
none_or None f = refl
none_or (Some d) f = absurd (f d refl)

is_certain : (w : Where) (n : Node) (x : Channel) (y : Past) → SendsAs w n x → Facts x y → y.near.holds ≡ None → in_doubt_of (sender_data w.channel n.manager) ≡ None
is_certain w n x y sends facts none =
    let mine : x.sends.in_doubt ≡ None = none_or x.sends.in_doubt (λ d e. none_some d.unit (sym none ∙ (facts.tied.in_doubt d e).0)) in
    doubt_there (sender_data w.channel n.manager) ∙ no_doubt (sends_at w.channel n.manager).in_doubt (sym (ap (λ (o : Kept). o.doubt) sends.data_) ∙ ap states.doubt_of mine)
  where
    none_some : (u : Luw) → None ≡ Some u → ⊥
    none_some u e = cc

session_rises : (w : Where) (n : Node) (x : Channel) (y : Past) (session : ℕ) → SendsAs w n x → Facts x y → is_starting x.sender.state ≡ true → session ≡ x.sender.kept.session + 1 → (sender_or (sender_data w.channel n.manager)).session < session
session_rises w n x y session sends facts starts e =
    let a : x.sender.kept.session ≡ x.sends.session = ap (λ (o : Kept). o.session) (facts.tied.running (ap is_running (starting_is x.sender.state starts))) in
    let b : x.sends.session ≡ (sends_at w.channel n.manager).session = ap (λ (o : Kept). o.session) sends.data_ in
    above x.sender.kept.session x.sends.session (sends_at w.channel n.manager).session session a b e
  where
    above : (i j k l : ℕ) → i ≡ j → j ≡ k → l ≡ i + 1 → k < l
    above i j k l a b e = omega arith

-- each line
sender_by : (w : Where) (n : Node) (x : Channel) (y : Past) (stamp : ℕ) (seen : Seen) (d : SenderDoes) → SendsAs w n x → Facts x y → IsSound n.manager → SeenIn seen x.back → Guard x.sender (stock w.channel n.manager) d → Settling x.sender seen d
    → EachSound n.manager (sender_deed_by stamp (sender_of w x.sender) d n)
sender_by w n x y stamp seen does.Still s f h o g k = tt
sender_by w n x y stamp seen does.Ignore s f h o g k = tt
sender_by w n x y stamp seen (does.HardenSession session) s f h o g k = step_then (harden w.channel (notes.Session w.partner session) n.manager) w.channel (sender_after x.sender (does.HardenSession session) outs.Done).state n.manager h
    (hardens_sound w.channel (notes.Session w.partner session) n.manager h (harden_keeps w.channel (notes.Session w.partner session) n.manager (session_rises w n x y session s f g.0 g.1) h.facts))
sender_by w n x y stamp seen does.PushBind s f h o g k = leaving_sound w.channel (sender_after x.sender does.PushBind outs.Done).state n.manager n.manager h
sender_by w n x y stamp seen does.Expire s f h o g k = step_then (expire w.channel n.manager) w.channel (sender_after x.sender does.Expire outs.Done).state n.manager h (joined (expire w.channel n.manager) n.manager h (expire_keeps w.channel n.manager h.facts) (expire_stocked w.channel n.manager h.stocked))
sender_by w n x y stamp seen (does.Begin i count) s f h o g k = step_then (hold_batch w.channel (unit_named x.sender.kept.session i) count n.manager) w.channel (sender_after x.sender (does.Begin i count) outs.Done).state n.manager h
    (holds_sound w.channel (unit_named x.sender.kept.session i) count n.manager h (s.unbatched (idle_apart x.sender.state g.0)) (is_certain w n x y s f (fits_at x y _ f.tied (idle_is x.sender.state g.0)).0))
sender_by w n x y stamp seen (does.PushMsg index) s f h o g k = leaving_sound w.channel (sender_after x.sender (does.PushMsg index) outs.Done).state n.manager n.manager h
sender_by w n x y stamp seen does.Prepare s f h o g k = prepares_sound (sender_of w x.sender) (prepare w.channel (number_sent x.sender.state x.sender.kept.last) n.manager) n h
    (joined (prepare w.channel (number_sent x.sender.state x.sender.kept.last) n.manager) n.manager h (prepare_keeps w.channel (number_sent x.sender.state x.sender.kept.last) n.manager h.facts)
    (prepare_stocked w.channel (number_sent x.sender.state x.sender.kept.last) n.manager h.facts h.stocked))
sender_by w n x y stamp seen does.PushEnd s f h o g k = leaving_sound w.channel (sender_after x.sender does.PushEnd outs.Done).state n.manager n.manager h
sender_by w n x y stamp seen (does.Bound None partner) s f h o g k = leaving_sound w.channel (sender_after x.sender (does.Bound None partner) outs.Done).state n.manager n.manager h
sender_by w n x y stamp seen (does.Bound (Some settles.Commit) partner) s f h o g k =
    let q = settled_some x.sender.kept.doubt (status_unit seen) settles.Commit k.1 in
    step_then (harden w.channel (notes.Resolved (doubted x.sender.kept.doubt) true false) n.manager) w.channel (sender_after x.sender (does.Bound (Some settles.Commit) partner) outs.Done).state n.manager h
    (settles_sound w n x y true q.0 s f h (ap is_running (binding_is x.sender.state k.0)) q.1 (s.unbatched (binding_apart x.sender.state k.0)))
sender_by w n x y stamp seen (does.Bound (Some settles.Backout) partner) s f h o g k =
    let q = settled_some x.sender.kept.doubt (status_unit seen) settles.Backout k.1 in
    step_then (harden w.channel (notes.Resolved (doubted x.sender.kept.doubt) false false) n.manager) w.channel (sender_after x.sender (does.Bound (Some settles.Backout) partner) outs.Done).state n.manager h
    (settles_sound w n x y false q.0 s f h (ap is_running (binding_is x.sender.state k.0)) q.1 (s.unbatched (binding_apart x.sender.state k.0)))
sender_by w n x y stamp seen does.Commit s f h o g k =
    let q = ack_told x.sender.kept.doubt seen x.back k.1 o in
    step_then (harden w.channel (notes.Resolved (doubted x.sender.kept.doubt) true false) n.manager) w.channel (sender_after x.sender does.Commit outs.Done).state n.manager h
    (settles_sound w n x y true q.doubt s f h (ap is_running (waiting_is x.sender.state k.0)) q.is (s.unbatched (waiting_apart x.sender.state k.0)))
sender_by w n x y stamp seen (does.Backout reason) s f h o g k =
    let q = err_told x.sender.kept.doubt seen x.back k.1 o in
    step_then (harden w.channel (notes.Resolved (doubted x.sender.kept.doubt) false false) n.manager) w.channel (sender_after x.sender (does.Backout reason) outs.Done).state n.manager h
    (settles_sound w n x y false q.doubt s f h (ap is_running (waiting_is x.sender.state k.0)) q.is (s.unbatched (waiting_apart x.sender.state k.0)))

pub senders_sound : (w : Where) (n : Node) (x : Channel) (y : Past) (stamp : ℕ) (seen : Seen) → SendsAs w n x → Facts x y → IsSound n.manager → SeenIn seen x.back → EachSound n.manager (sender_deed stamp (sender_of w x.sender) seen n)
senders_sound w n x y stamp seen s f h o = sender_by w n x y stamp seen (sender_next x.sender seen (stock w.channel n.manager)) s f h o (guarded x.sender seen (stock w.channel n.manager)) (settles_so x.sender seen (stock w.channel n.manager))

-- What a receiver's end asks

pub words_sound : (c : List ℕ) (note : Note) (is : Bool) (p : Plain) → IsSound p → StepKeeps IsSound (harden c note p) p → AllKeep IsSound (parts_of (harden c note p) ++ parts_of (set_bound c is p)) p
words_sound c note is p h k = all_then (parts_of (harden c note p)) (parts_of (set_bound c is p)) p k
    (let q : Plain = do_all (parts_of (harden c note p)) p in let s : IsSound q = done (parts_of (harden c note p)) p h k in joined (set_bound c is q) q s (set_bound_keeps c is q s.facts) (bound_stocked c is q s.stocked))

closes_sound : (e : ReceiverEnd) (p : Plain) → IsSound p → AllKeep IsSound (close_parts e p) p
closes_sound e p h = words_sound e.channel (notes.Closed e.machine.session) false p h (hardens_sound e.channel (notes.Closed e.machine.session) p h (h.facts, tt))

places_sound : (e : ReceiverEnd) (unit : Luw) (seen : Seen) (s : Step Reason (Unit {0})) (n : Node) → IsSound n.manager → StepKeeps IsSound s n.manager → EachSound n.manager (Some (place_deed e unit seen s n))
places_sound e unit seen (Refuse reason) n h k = closes_sound e n.manager h
places_sound e unit seen (Do reply parts) n h k = k

receiver_by : (stamp : ℕ) (e : ReceiverEnd) (seen : Seen) (d : ReceiverDoes) (n : Node) → IsSound n.manager → EachSound n.manager (receiver_deed_by stamp e seen d n)
receiver_by stamp e seen takes.Still n h = tt
receiver_by stamp e seen takes.Ignore n h = tt
receiver_by stamp e seen takes.PushOwed n h = tt
receiver_by stamp e seen takes.Bind n h = words_sound e.channel (notes.Bound e.partner (bound_by seen e.machine).session (bound_by seen e.machine).last) true n.manager h
    (hardens_sound e.channel (notes.Bound e.partner (bound_by seen e.machine).session (bound_by seen e.machine).last) n.manager h (h.facts, tt))
receiver_by stamp e seen takes.Keep n h = tt
receiver_by stamp e seen (takes.Place unit) n h = places_sound e unit seen (receive e.channel unit (last_by seen e.machine.last) e.kept n.manager) n h
    (joined (receive e.channel unit (last_by seen e.machine.last) e.kept n.manager) n.manager h (receive_keeps e.channel unit (last_by seen e.machine.last) e.kept n.manager h.named h.facts) (receive_stocked e.channel unit (last_by seen e.machine.last) e.kept n.manager h.stocked))
receiver_by stamp e seen takes.Again n h = tt
receiver_by stamp e seen takes.Close n h = closes_sound e n.manager h

pub receivers_sound : (stamp : ℕ) (e : ReceiverEnd) (seen : Seen) (n : Node) → IsSound n.manager → EachSound n.manager (receiver_deed stamp e seen n)
receivers_sound stamp e seen n h = receiver_by stamp e seen (receiver_next e.machine seen (is_receiver_defined e.channel n.manager.definitions)) n h
