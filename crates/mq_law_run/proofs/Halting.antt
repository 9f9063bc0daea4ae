-- The stopped write of an end's turn, as a move of the network.
use Rattle.std.proofs.Common.{ℕ, ◌≡◌, ◌⊎◌, List, [], ◌∷◌, ◌++◌, refl, ap, sym, subst, ◌∙◌, inl, inr, map}
use Rattle.std.specs.Prelude.{Option, Some, None, Ok, true, false, slice_get}
use Rattle.mq_codes.specs.declared.reason.Reason.{Reason}
use Rattle.mq_message.specs.declared.message.Message.{Message}
use Rattle.mq_sync.specs.declared.unit.Unit.{Unit as Luw}
use Rattle.mq_sync.specs.Units.{no_unit}
use Rattle.mq_disk.specs.declared.cutter.Stop.{Stop}
use Rattle.mq_frame.specs.declared.frame.Seen.{Seen}
use Rattle.mq_queue.specs.declared.row.Row.{Row}
use Rattle.mq_sender.specs.declared.turns.SenderDoes.{SenderDoes}
use Rattle.mq_sender.specs.declared.turns.SenderDoes.TheVariants as does
use Rattle.mq_sender.specs.Table.{sender_next}
use Rattle.mq_receiver.specs.declared.turns.ReceiverDoes.{ReceiverDoes}
use Rattle.mq_receiver.specs.declared.turns.ReceiverDoes.TheVariants as takes
use Rattle.mq_receiver.specs.declared.turns.ReceiverOut.{ReceiverOut}
use Rattle.mq_receiver.specs.declared.turns.ReceiverOut.TheVariants as outs
use Rattle.mq_receiver.specs.After.{last_by}
use Rattle.mq_receiver.specs.Table.{receiver_next}
use Rattle.mq_calls.specs.declared.agents.Note.TheVariants as notes
use Rattle.mq_calls.specs.declared.deltas.Did.TheVariants as did
use Rattle.mq_calls.specs.declared.choices.Choice.TheVariants.{Stopped}
use Rattle.mq_calls.specs.declared.deltas.Why.TheVariants as whys
use Rattle.mq_calls.specs.declared.records.LogRecord.{LogRecord}
use Rattle.mq_history.specs.declared.calls.Call.TheVariants as calls
use Rattle.mq_history.specs.declared.calls.Entry.{Entry}
use Rattle.mq_history.specs.declared.calls.Reply.TheVariants as replies
use Rattle.mq_history.specs.declared.history.History.{History}
use Rattle.mq_history.specs.declared.scenario.CableLine.{CableLine}
use Rattle.mq_history.specs.declared.scenario.Scenario.{Scenario}
use Rattle.mq_history.specs.Scenarios.{IsScenario}
use Rattle.mq_calls.specs.State.{Plain}
use Rattle.mq_calls.specs.State.Running.{Up}
use Rattle.mq_queue.specs.Rows.{is_free}
use Rattle.mq_calls.specs.Reads.{free_rows, is_expired, is_up, stored}
use Rattle.mq_calls.specs.declared.agents.PrepareFault.{PrepareFault}
use Rattle.mq_calls.specs.Steps.{Part, Step}
use Rattle.mq_calls.specs.Steps.Step.{Do, Refuse}
use Rattle.mq_spec_manager.specs.Get.{expired_parts, removal_part}
use Rattle.mq_spec_manager.specs.Agents.{Landed, expired_rows, landed, queue_of_sender, receive, stock, taken_of}
use Rattle.mq_spec_network.specs.Ledger as ledgers
use Rattle.mq_spec_network.specs.Conflict.{deeds}
use Rattle.mq_spec_network.specs.Ledger.{Ledger, ledger, move_all, receive_if, received_on}
use Rattle.mq_spec_network.specs.Standing.{managers_at, node_after, opening_ledger}
use Rattle.mq_spec_network.specs.Story.{Line, Mem}
use Rattle.mq_spec_node.specs.Node.{Node, ReceiverEnd, SenderEnd}
use Rattle.mq_spec_node.specs.Deeds.{CanCome, Deed, Done, done}
use Rattle.mq_spec_node.specs.Receivers.{is_receiver_defined, place_deed, receiver_deed, receiver_deed_by}
use Rattle.mq_spec_node.specs.Replays.{done_by}
use Rattle.mq_spec_node.specs.Senders.{leave_if_stopped, prepare_deed, sender_deed, sender_deed_by}
use Rattle.mq_law_channel.specs.Channel.{Channel, Facts, Past}
use Rattle.mq_law_channel.specs.Turns.{ReceiverMay, ReceiverTurn, SeenIn, SenderTurn, receiver_does, receiver_turn, sender_turn}
use Rattle.mq_law_channel.proofs.Following as following
use Rattle.mq_law_manager.specs.Facts.{IsSound, ident_of}
use Rattle.mq_law_manager.specs.Kept.{AllKeep}
use Rattle.mq_law_manager.proofs.Removals.{differ_filter, mem_filter}
use Rattle.mq_law_node.specs.Ends.{EachSent, EachTaken as EachTook, SendsAs, TakesAs, Where, place_out, receiver_of, receiver_out, sender_of, stamped, taking_turn, turn_of}
use Rattle.mq_law_node.specs.Moves.{FarStep, NearStep}
use Rattle.mq_law_node.specs.Nodes.{EachSingle}
use Rattle.mq_law_node.proofs.FarSingles.{EachTold, commits_told, taking_singles}
use Rattle.mq_law_node.proofs.ReceiverTurns.{refused_places, takes_as}
use Rattle.mq_law_node.proofs.SenderTable.{may_turn, turns_as}
use Rattle.mq_law_node.proofs.Singles.{singles}
use Rattle.mq_law_rows.proofs.Lists.{bool_case}
use Rattle.mq_law_events.proofs.Taking.{removed_all}
use Rattle.mq_law_stopped.specs.from_law_found.Finds.{IsNoted, stopped_call}
use Rattle.mq_law_stopped.proofs.from_law_found.Finding.{frozen_noted}
use Rattle.mq_law_stopped.proofs.from_law_found.Going.{IsGoing, PostsNone, removal_noted}
use Rattle.mq_law_stopped.specs.from_law_receipts.Receipts.{Comes}
use Rattle.mq_law_stopped.specs.from_law_turns.Turns.{EachSound, IsAtFar, Scene, is_expiry}
use Rattle.mq_law_stopped.proofs.from_law_turns.Sending.{free_by}
use Rattle.mq_law_stopped.proofs.from_law_turns.Sounds.{receivers_sound, senders_sound}
use Rattle.mq_law_stopped.proofs.from_law_turns.Taking.{all_come}
use Rattle.mq_law_deeds.proofs.Sounding.{behind}
use Rattle.mq_law_stopped.specs.Noted.{EachFirst, EachWrites, IsCommitting, IsOfEnd, SaysReceiver, SaysSender, noted_of, told_at}
use Rattle.mq_law_stopped.proofs.Noting.{leaving_first, receiver_says, sender_says}
use Rattle.mq_law_one.proofs.Running.{Told_}
use Rattle.mq_law_run.specs.Run.{Moves, Stand, far_at, near_at}
use Rattle.mq_law_run.proofs.Beside.{distinct_of}
use Rattle.mq_law_run.proofs.Cutting.{SaysCommit, SaysFar, SaysNear, cut_as, each_first, far_cut, near_cut, stopped_entry}
use Rattle.mq_law_run.proofs.Expiring.{expires_so}
use Rattle.mq_law_run.proofs.Lining.{else_channel, else_index, mem_at}
use Rattle.mq_law_run.proofs.Owning.{next_managers}
use Rattle.mq_law_run.proofs.Receiving as receiving
use Rattle.mq_law_run.proofs.Receiving.{channel_else}
use Rattle.mq_law_run.proofs.Running.{joint_here, scene, sends_here, sound_at, takes_here}
use Rattle.mq_law_run.proofs.Sending as sending

-- EXPIRED ROWS
expired_received : (q : List ℕ) (ys : List Row) → received_on (removed_all whys.Expired q ys) ≡ None
expired_received q [] = refl
expired_received q (y ∷ ys) = expired_received q ys

expired_moves : (m : ℕ) (q : List ℕ) (ys : List Row) (l : Ledger) → move_all m (removed_all whys.Expired q ys) l ≡ l
expired_moves m q [] l = refl
expired_moves m q (y ∷ ys) l = expired_moves m q ys l

expired_posts : (m : ℕ) (q : List ℕ) → PostsNone m calls.Turn whys.Expired q
expired_posts m q ys l by_ = λ i. receive_if m (expired_received q ys i) [] (removed_all whys.Expired q ys) (expired_moves m q ys l i)

-- the call that is stopped is a turn
turn_stopped : (e : Entry) (b : Plain) (by_ : Stop) → e.call ≡ calls.Turn → e.reply ≡ replies.Stopped by_ → e.effect.received ≡ [] → stopped_call e calls.Turn e.chance by_ e.effect.delta b.moment ≡ stopped_entry e b
turn_stopped e b by_ call reply received = λ i. record {
  entry = record e { call = sym call i; reply = sym reply i; effect = record e.effect { received = sym received i } };
  moment = b.moment;
}

abbrev IsNotedFirst : ℕ → Entry → ℕ → Plain → Part → LogRecord → Type 0
IsNotedFirst m e left b part r = IsNoted m (stopped_entry e b) (noted_of part r) (cut_as part r left b)

removal_first : (m : ℕ) (e : Entry) (by_ : Stop) (left : ℕ) (b : Plain) (q : List ℕ) (rows : List Row) (rest : List Part) → IsSound b → IsGoing q rows b → AllKeep IsSound (expired_parts q rows ++ rest) b
    → e.call ≡ calls.Turn → e.reply ≡ replies.Stopped by_ → e.effect.received ≡ [] → EachFirst (IsNotedFirst m e left b) rest → EachFirst (IsNotedFirst m e left b) (expired_parts q rows ++ rest)
removal_first m e by_ left b q [] rest sound going keeps call reply received more = more
removal_first m e by_ left b q (x ∷ xs) rest sound going keeps call reply received more = λ r f.
    let part : Part = removal_part whys.Expired q (x ∷ xs) in
    subst (λ (s : ledgers.Stopped). IsNoted m s (noted_of part r) (cut_as part r left b)) (turn_stopped e b by_ call reply received)
    (frozen_noted m (stopped_call e calls.Turn e.chance by_ e.effect.delta b.moment) (noted_of part r) (Some (noted_of part r)) left b
    (removal_noted m calls.Turn b.moment b whys.Expired q (x ∷ xs) sound going keeps.0 refl (expired_posts m q) r e e.chance by_ e.effect.delta f))

expiry_first : (m : ℕ) (x : Entry) (by_ : Stop) (left stamp : ℕ) (e : SenderEnd) (n : Node) → IsSound n.manager → EachSound n.manager (sender_deed_by stamp e does.Expire n) → x.call ≡ calls.Turn → x.reply ≡ replies.Stopped by_ → x.effect.received ≡ []
    → EachWrites (IsNotedFirst m x left n.manager) (sender_deed_by stamp e does.Expire n)
expiry_first m x by_ left stamp e n sound keeps call reply received =
    let p : Plain = n.manager in
    let q : List ℕ = queue_of_sender e.channel p in
    removal_first m x by_ left p q (expired_rows q p) (leave_if_stopped e.channel e.machine.state p) sound (record {
      each = λ y k.
          let a = mem_filter y (is_expired p) (free_rows q p) k in
          let b = mem_filter y is_free (stored q p).rows a.0 in
          (b.0, free_by y.by y refl b.1);
      once = differ_filter ident_of (is_expired p) (free_rows q p) (differ_filter ident_of is_free (stored q p).rows (sound.facts.apart.once q));
    }) keeps call reply received (leaving_first (IsNotedFirst m x left p) e.channel e.machine.state p)

-- a sender's turn receives nothing, and takes no memory
abbrev pub EachBare : Option Deed → Type 0
EachBare None = Unit {0}
EachBare (Some d) = (d.received ≡ []) × (d.wanting ≡ None)

prepare_bare : (e : SenderEnd) (way : Step PrepareFault (Unit {0})) (n : Node) → EachBare (Some (prepare_deed e way n))
prepare_bare e (Refuse fault) n = (refl, refl)
prepare_bare e (Do reply parts) n = (refl, refl)

pub sender_bare : (stamp : ℕ) (e : SenderEnd) (d : SenderDoes) (n : Node) → EachBare (sender_deed_by stamp e d n)
sender_bare stamp e does.Still n = tt
sender_bare stamp e does.Ignore n = (refl, refl)
sender_bare stamp e (does.HardenSession session) n = (refl, refl)
sender_bare stamp e does.PushBind n = (refl, refl)
sender_bare stamp e does.Expire n = (refl, refl)
sender_bare stamp e (does.Begin k count) n = (refl, refl)
sender_bare stamp e (does.PushMsg index) n = (refl, refl)
sender_bare stamp e does.Prepare n = prepare_bare e _ n
sender_bare stamp e does.PushEnd n = (refl, refl)
sender_bare stamp e (does.Bound settle partner) n = (refl, refl)
sender_bare stamp e does.Commit n = (refl, refl)
sender_bare stamp e (does.Backout reason) n = (refl, refl)

-- A SENDER'S TURN
pub sender_halts : (s : Scenario) (hs : List History) (p : List Line) (x : Line) (z : Stand s hs p) (t : Told_ s hs p x) (i : ℕ) (k : CableLine) (d : Deed) (by_ : Stop) (n_ left : ℕ) → IsScenario s → slice_get s.cables i ≡ Some k → k.sender ≡ x.manager → x.entry.call ≡ calls.Turn
    → (node_after s x.manager p t.h).manager.running ≡ Up → done_by x.entry (node_after s x.manager p t.h) ≡ done d (Stopped by_ n_ left) (node_after s x.manager p t.h) → CanCome d (Stopped by_ n_ left) (node_after s x.manager p t.h)
    → sender_deed x.entry.stamp (sender_of (near_at s i k) (z.xs k.sender k.channel).sender) x.entry.effect.popped (node_after s x.manager p t.h) ≡ Some d → SeenIn x.entry.effect.popped (z.xs k.sender k.channel).back → Moves s hs p x t.h z
sender_halts s hs p x z t i k d by_ n_ left scenario e q call up same can is offered =
    let m : ℕ = x.manager in
    let n : Node = node_after s m p t.h in
    let b : Plain = n.manager in
    let w : Where = near_at s i k in
    let c : Channel = z.xs k.sender k.channel in
    let y : Past = z.ys k.sender k.channel in
    let seen : Seen = x.entry.effect.popped in
    let stamp : ℕ = x.entry.stamp in
    let end : SenderEnd = sender_of w c.sender in
    let turn : SenderTurn = turn_of w stamp seen c.sender b in
    let does_ : SenderDoes = sender_next c.sender seen (stock k.channel b) in
    let sends : SendsAs w n c = sends_here s hs p x z t i k e q up in
    let facts : Facts c y = (z.lines i k e).facts in
    let sound : IsSound b = sound_at s hs p x z t up in
    let all_keep : EachSound b (sender_deed stamp end seen n) = senders_sound w n c y stamp seen sends facts sound offered in
    let keeps : AllKeep IsSound d.parts b = subst (EachSound b) is all_keep in
    let after = behind d.parts b sound keeps in
    let reply : x.entry.reply ≡ replies.Stopped by_ = t.tells.reply ∙ ap (λ (o : Done). o.reply) same in
    let received : x.entry.effect.received ≡ [] = t.tells.received ∙ ap (λ (o : Done). o.received) same ∙ (subst EachBare is (sender_bare stamp end does_ n)).0 in
    near_cut s hs p x z t i k d by_ n_ left (NearStep.Turn turn) scenario e q up same can (subst IsOfEnd (sym call) tt) sound keeps
    (subst EachSingle is (singles stamp end seen n))
    (may_turn w stamp seen b c offered)
    (subst (λ (o : Option Deed). EachSent w n o c.out (sender_turn turn c)) is
    (turns_as w stamp seen n c sends (ap is_up up) (distinct_of (stored (queue_of_sender w.channel b) b).rows (sound.facts.apart.once (queue_of_sender w.channel b)))))
    (bool_case (is_expiry does_) (λ v. is_expiry does_ ≡ v → EachFirst (SaysNear m x.entry k.channel left b c (NearStep.Turn turn)) d.parts)
    (λ v f.
    let by_that : sender_deed_by stamp end does.Expire n ≡ Some d = ap (λ (o : SenderDoes). sender_deed_by stamp end o n) (sym (expires_so does_ f)) ∙ is in
    each_first (IsNotedFirst m x.entry left b) (SaysNear m x.entry k.channel left b c (NearStep.Turn turn)) d.parts (λ part r h. inr h)
    (subst (EachWrites (IsNotedFirst m x.entry left b)) by_that (expiry_first m x.entry by_ left stamp end n sound (subst (λ (o : SenderDoes). EachSound b (sender_deed_by stamp end o n)) (expires_so does_ f) all_keep) call reply received)))
    (λ v f. each_first (SaysSender k.channel left b c (NearStep.Turn turn)) (SaysNear m x.entry k.channel left b c (NearStep.Turn turn)) d.parts (λ part r h. inl h)
    (subst (EachWrites (SaysSender k.channel left b c (NearStep.Turn turn))) is (sender_says w left stamp seen n c y does_ sends facts offered refl f))) refl)
    (λ j h f out a. sending.near_else (near_at s j h) stamp end seen n d is (else_index s i j k h e f out) (else_channel k h (a ∙ sym q) out) sound after)
    (λ j h f out a. sending.far_else (far_at s j h) stamp end seen n d is (else_index s i j k h e f out))

-- A RECEIVER'S TURN
abbrev turn_out : FarStep → ReceiverOut
turn_out (FarStep.Turn t) = t.outcome
turn_out _ = outs.Full

abbrev turn_does : Channel → FarStep → ReceiverDoes
turn_does c (FarStep.Turn t) = receiver_does t c
turn_does c _ = takes.Still

-- the messages of a commit are those that its entry has
received_so : (e : ReceiverEnd) (seen : Seen) (n : Node) (u : Luw) (d : Deed) (ld : Landed) (so : Step Reason (Unit {0})) → place_deed e u seen so n ≡ d → place_out so ≡ outs.Done → landed e.channel e.kept n.manager ≡ Ok ld → d.received ≡ ld.taken
received_so e seen n u d ld (Refuse reason) f o lands = absurd cc
received_so e seen n u d ld (Do reply parts) f o lands = ap (λ (v : Deed). v.received) (sym f) ∙ ap taken_of lands

abbrev unit_in : ReceiverDoes → Luw
unit_in (takes.Place u) = u
unit_in _ = no_unit

commit_so : (s : Scenario) (hs : List History) (p : List Line) (x : Line) (z : Stand s hs p) (t : Told_ s hs p x) (i : ℕ) (k : CableLine) (d : Deed) (g : History) (part : Part) (r : LogRecord) → IsScenario s → slice_get s.cables i ≡ Some k → k.receiver ≡ x.manager → slice_get hs k.sender ≡ Some g
    → (node_after s x.manager p t.h).manager.running ≡ Up → receiver_deed x.entry.stamp (receiver_of (far_at s i k) (z.xs k.sender k.channel).receiver (z.xs k.sender k.channel).kept) x.entry.effect.popped (node_after s x.manager p t.h) ≡ Some d
    → SeenIn x.entry.effect.popped (z.xs k.sender k.channel).out
    → IsCommitting k.channel (node_after s x.manager p t.h).manager (z.xs k.sender k.channel) (taking_turn (far_at s i k) x.entry.stamp x.entry.effect.popped (z.xs k.sender k.channel).receiver (z.xs k.sender k.channel).kept (node_after s x.manager p t.h).manager) part r
    → SaysCommit (deeds p) k.sender d.received k.channel (node_after s x.manager p t.h).manager (z.xs k.sender k.channel)
    (FarStep.Turn (taking_turn (far_at s i k) x.entry.stamp x.entry.effect.popped (z.xs k.sender k.channel).receiver (z.xs k.sender k.channel).kept (node_after s x.manager p t.h).manager)) part r
commit_so s hs p x z t i k d g part r scenario e q from up is offered o =
    let m : ℕ = x.manager in
    let n : Node = node_after s m p t.h in
    let b : Plain = n.manager in
    let l : Ledger = ledger (opening_ledger s hs) p in
    let w : Where = far_at s i k in
    let c : Channel = z.xs k.sender k.channel in
    let y : Past = z.ys k.sender k.channel in
    let u : Luw = o.unit in
    let seen : Seen = x.entry.effect.popped in
    let stamp : ℕ = x.entry.stamp in
    let end : ReceiverEnd = receiver_of w c.receiver c.kept in
    let turn : ReceiverTurn = taking_turn w stamp seen c.receiver c.kept b in
    let zz : Scene = scene s hs p z k w in
    let there : Mem k s.cables = mem_at s.cables i k e in
    let facts : Facts c y = (z.lines i k e).facts in
    let come : Step Reason (Unit {0}) = receive k.channel u (last_by seen c.receiver.last) (map stamped c.kept) b in
    let deed : place_deed end u seen come n ≡ d = some_deed (place_deed end u seen come n) (ap (λ (v : ReceiverDoes). receiver_deed_by stamp end seen v n) (sym o.does) ∙ is) in
    let out : place_out come ≡ outs.Done = ap (λ (v : ReceiverDoes). receiver_out v w seen c.receiver c.kept b) (sym o.does) ∙ o.ran in
    record {
      turn = turn;
      is = refl;
      commits = o;
      received = received_so end seen n u d o.land come deed out o.lands;
      agrees = bool_case (y.near.undone u) (λ v. y.near.undone u ≡ v → Mem (told_at k.sender (did.Hardened k.channel (notes.Resolved u false true))) (deeds p) ⊎ ((a : Message) → Mem a (map stamped c.kept) → Comes b a))
          (λ v f. inl ((z.told k there).undone u f))
          (λ v f.
          let may : ReceiverMay turn c y = record {
            offered = offered;
            refused = λ reason f_. refused_places (receiver_next c.receiver seen (is_receiver_defined k.channel b.definitions)) w seen c.receiver c.kept b reason f_;
            agreed = λ a ran does_. ap (λ (h : Luw). y.near.undone h) (ap unit_in (sym does_ ∙ o.does)) ∙ f;
          } in
          let far : IsAtFar zz n c y l = record {
            at = subst (λ a. slice_get (managers_at s p hs) a ≡ Some b) (sym q) (next_managers s hs p x t).at;
            takes_ = takes_here s hs p x z t i k e q up;
            facts = facts;
            joint = joint_here s hs p z k there;
            book = refl;
          } in
          inr (all_come zz n c y l u far (following.placed turn c y u facts may o.does) (following.awaited turn c y u facts may o.does f) (receiving.ready s hs p x z t k w scenario there q refl g from (sound_at s hs p x z t up)))) refl;
    }
  where
    some_deed : (v : Deed) → Some v ≡ Some d → v ≡ d
    some_deed v f = cc

pub receiver_halts : (s : Scenario) (hs : List History) (p : List Line) (x : Line) (z : Stand s hs p) (t : Told_ s hs p x) (i : ℕ) (k : CableLine) (d : Deed) (by_ : Stop) (n_ left : ℕ) (g : History) → slice_get hs k.sender ≡ Some g → IsScenario s → slice_get s.cables i ≡ Some k → k.receiver ≡ x.manager → x.entry.call ≡ calls.Turn
    → (node_after s x.manager p t.h).manager.running ≡ Up → done_by x.entry (node_after s x.manager p t.h) ≡ done d (Stopped by_ n_ left) (node_after s x.manager p t.h) → CanCome d (Stopped by_ n_ left) (node_after s x.manager p t.h)
    → receiver_deed x.entry.stamp (receiver_of (far_at s i k) (z.xs k.sender k.channel).receiver (z.xs k.sender k.channel).kept) x.entry.effect.popped (node_after s x.manager p t.h) ≡ Some d → SeenIn x.entry.effect.popped (z.xs k.sender k.channel).out → Moves s hs p x t.h z
receiver_halts s hs p x z t i k d by_ n_ left g from scenario e q call up same can is offered =
    let m : ℕ = x.manager in
    let n : Node = node_after s m p t.h in
    let b : Plain = n.manager in
    let w : Where = far_at s i k in
    let c : Channel = z.xs k.sender k.channel in
    let seen : Seen = x.entry.effect.popped in
    let stamp : ℕ = x.entry.stamp in
    let end : ReceiverEnd = receiver_of w c.receiver c.kept in
    let turn : ReceiverTurn = taking_turn w stamp seen c.receiver c.kept b in
    let does_ : ReceiverDoes = receiver_next c.receiver seen (is_receiver_defined k.channel b.definitions) in
    let takes_ : TakesAs w n c = takes_here s hs p x z t i k e q up in
    let sound : IsSound b = sound_at s hs p x z t up in
    let keeps : AllKeep IsSound d.parts b = subst (EachSound b) is (receivers_sound stamp end seen n sound) in
    let after = behind d.parts b sound keeps in
    far_cut s hs p x z t i k d by_ n_ left (FarStep.Turn turn) scenario e q up same can (subst IsOfEnd (sym call) tt) (inr call) sound keeps
    (subst EachSingle is (taking_singles stamp end seen n))
    (offered, λ reason f. refused_places does_ w seen c.receiver c.kept b reason f)
    (subst (λ (o : Option Deed). EachTook w n o c.back (receiver_turn turn c)) is (takes_as w stamp seen n c takes_ (ap is_up up)))
    (λ o u at out place. subst (EachTold w u) is (commits_told w stamp seen n c.receiver c.kept does_ u (ap (turn_does c) at ∙ place) (ap turn_out at ∙ out)))
    (each_first (SaysReceiver k.channel b c turn) (SaysFar (deeds p) k.sender d.received k.channel b c (FarStep.Turn turn)) d.parts
    (λ part r h. elim h [
      | inl v ↦ inl (v.0, v.1, λ o u at out place. v.2 u (ap turn_out at ∙ out) (ap (turn_does c) at ∙ place))
      | inr v ↦ inr (commit_so s hs p x z t i k d g part r scenario e q from up is offered v)
    ])
    (subst (EachWrites (SaysReceiver k.channel b c turn)) is (receiver_says w stamp seen n c does_ refl)))
    (λ j h f out a. receiving.near_else (near_at s j h) stamp end seen n d is (else_index s i j k h e f out) sound after)
    (λ j h f out a. let ne = else_index s i j k h e f out in receiving.far_else (far_at s j h) stamp end seen n d is ne (channel_else s i j k h scenario e f ne))
