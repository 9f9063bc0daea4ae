-- Where neither end of a cable has anything to do, its lane is quiet.
use Rattle.std.proofs.Common.{ℕ, zero, suc, ◌≡◌, ◌⊎◌, Bool, true, false, List, [], ◌∷◌, ◌++◌, length, refl, ap, sym, subst, ◌∙◌, inl, inr}
use Rattle.std.specs.Prelude.{Option, Some, None, drop, is_some, not}
use Rattle.std.proofs.lemmas.Bool.{true≢false}
use Rattle.mq_calls.specs.declared.agents.PrepareFault.{PrepareFault}
use Rattle.mq_cable.specs.Faults.{Offer, offered_of}
use Rattle.mq_codes.specs.declared.reason.Reason.{Reason}
use Rattle.mq_frame.specs.declared.frame.Frame.{Frame}
use Rattle.mq_frame.specs.declared.frame.Seen.{Seen}
use Rattle.mq_history.specs.declared.calls.Entry.{Entry}
use Rattle.mq_message.specs.declared.message.Dest.{Dest}
use Rattle.mq_message.specs.declared.message.Message.{Message}
use Rattle.mq_sync.specs.declared.unit.Unit.{Unit as Luw}
use Rattle.mq_sender.specs.declared.state.Sender.{Sender}
use Rattle.mq_sender.specs.declared.turns.SenderDoes.{SenderDoes}
use Rattle.mq_sender.specs.declared.turns.SenderDoes.TheVariants as does
use Rattle.mq_sender.specs.declared.turns.SenderOut.TheVariants as outs
use Rattle.mq_sender.specs.After.{number_sent}
use Rattle.mq_sender.specs.Frames.{pushed_by}
use Rattle.mq_sender.specs.Table.{sender_next}
use Rattle.mq_receiver.specs.After.{last_by}
use Rattle.mq_receiver.specs.declared.state.Receiver.{Receiver}
use Rattle.mq_receiver.specs.declared.turns.ReceiverDoes.{ReceiverDoes}
use Rattle.mq_receiver.specs.declared.turns.ReceiverDoes.TheVariants as takes
use Rattle.mq_receiver.specs.declared.turns.ReceiverOut.TheVariants as ends
use Rattle.mq_receiver.specs.Table.{receiver_next}
use Rattle.mq_calls.specs.Steps.{Step}
use Rattle.mq_calls.specs.Steps.Step.{Do, Refuse}
use Rattle.mq_spec_manager.specs.Agents.{names_of, prepare, receive, stock}
use Rattle.mq_spec_node.specs.Node.{Node, ReceiverEnd, SenderEnd}
use Rattle.mq_spec_node.specs.Deeds.{Deed}
use Rattle.mq_spec_node.specs.Receivers.{is_receiver_defined, place_deed, receiver_deed, receiver_deed_by}
use Rattle.mq_spec_node.specs.Senders.{prepare_deed, sender_deed, sender_deed_by}
use Rattle.mq_spec_network.specs.Cables.{Lying, lying, offered_by, offered_if, pops_of}
use Rattle.mq_spec_network.specs.Steps.{pushed_of}
use Rattle.mq_spec_network.specs.Turns.{changes, is_full as is_full_way}
use Rattle.mq_law_idle.specs.Roads.{Items, Quiet, ReceiverTurn, Road, SenderTurn, is_full, receiver_does, sender_does, waiting}
use Rattle.mq_law_idle.proofs.Resting.{still_is_quiet}
use Rattle.mq_law_pump.specs.Deeds.{HasReceiver, HasSender, IsStillEnd}
use Rattle.mq_law_pump.specs.Ways.{seen_of}
use Rattle.mq_law_pump.proofs.Sending.{no_message}
use Rattle.mq_law_pump.proofs.Ways.{frames_of, full_as, lies}

-- A CABLE
not_false : (b : Bool) → not b ≡ false → b ≡ true
not_false true h = refl
not_false false h = absurd cc

pub changes_none : (pushes : List Entry) (xs : List Lying) (o : Option Deed) → changes (record { faults = []; pushes = pushes; items = xs }) o ≡ false → IsStillEnd o (seen_of xs)
changes_none pushes xs None h = inl refl
changes_none pushes xs (Some d) h = one d.pushed refl
  where
    one : (p : Option Frame) → d.pushed ≡ p → IsStillEnd (Some d) (seen_of xs)
    one None is = absurd (true≢false (ap (λ (p : Option Frame). changes (record { faults = []; pushes = pushes; items = xs }) (Some (record d { pushed = p }))) (sym is) ∙ h))
    one (Some f) is = inr (ap is_some is, sym (full_as xs) ∙ not_false (is_full_way xs) (ap (λ (p : Option Frame). changes (record { faults = []; pushes = pushes; items = xs }) (Some (record d { pushed = p }))) (sym is) ∙ h))

items_if : (o : Option Frame) (extras : ℕ) (xs : List Lying) → Items (seen_of xs) → Items (seen_of (offered_of (offered_if o extras) ++ xs))
items_if None extras xs h = h
items_if (Some f) extras xs h = (refl, h)

items_offered : (es : List Entry) → Items (seen_of (frames_of es))
items_offered [] = tt
items_offered (e ∷ es) = subst (λ (xs : List Lying). Items (seen_of xs)) (sym (behind (offered_if e.effect.pushed e.effect.extras) (offered_by es))) (items_if e.effect.pushed e.effect.extras (frames_of es) (items_offered es))
  where
    behind : (xs ys : List (Offer Lying)) → offered_of (xs ++ ys) ≡ offered_of xs ++ offered_of ys
    behind [] ys = refl
    behind (x ∷ xs) ys = ap (λ (l : List Lying). x.item ∷ l) (behind xs ys)

items_dropped : (n : ℕ) (xs : List Lying) → Items (seen_of xs) → Items (seen_of (drop n xs))
items_dropped zero xs h = h
items_dropped (suc n) [] h = tt
items_dropped (suc n) (x ∷ xs) h = items_dropped n xs h.1

pub items_lie : (pushes pops : List Entry) → Items (seen_of (lying [] pushes pops))
items_lie pushes pops = subst (λ (xs : List Lying). Items (seen_of xs)) (sym (lies pushes pops)) (items_dropped (length (pops_of pops)) (frames_of pushes) (items_offered pushes))

-- SENDERS
some_not : (d : Deed) → Some d ≡ None → ⊥
some_not d h = absurd cc

none_still : (stamp : ℕ) (e : SenderEnd) (x : SenderDoes) (n : Node) → sender_deed_by stamp e x n ≡ None → x ≡ does.Still
none_still stamp e does.Still n h = refl
none_still stamp e does.Ignore n h = absurd (some_not _ h)
none_still stamp e (does.HardenSession session) n h = absurd (some_not _ h)
none_still stamp e does.PushBind n h = absurd (some_not _ h)
none_still stamp e does.Expire n h = absurd (some_not _ h)
none_still stamp e (does.Begin k count) n h = absurd (some_not _ h)
none_still stamp e (does.PushMsg index) n h = absurd (some_not _ h)
none_still stamp e does.Prepare n h = absurd (some_not _ h)
none_still stamp e does.PushEnd n h = absurd (some_not _ h)
none_still stamp e (does.Bound settle partner) n h = absurd (some_not _ h)
none_still stamp e does.Commit n h = absurd (some_not _ h)
none_still stamp e (does.Backout reason) n h = absurd (some_not _ h)

prepared_silent : (e : SenderEnd) (s : Step PrepareFault (Unit {0})) (n : Node) → (prepare_deed e s n).pushed ≡ None
prepared_silent e (Refuse fault) n = refl
prepared_silent e (Do reply parts) n = refl

false_not : {P : Type 0} → false ≡ true → P
false_not h = absurd cc

pushes_as : (stamp : ℕ) (e : SenderEnd) (x : SenderDoes) (n : Node) (dest : Dest) (message : Message) (m : Sender) → is_some (pushed_of (sender_deed_by stamp e x n)) ≡ true → is_some (pushed_by stamp dest message m x) ≡ true
pushes_as stamp e does.Still n dest message m h = false_not h
pushes_as stamp e does.Ignore n dest message m h = false_not h
pushes_as stamp e (does.HardenSession session) n dest message m h = false_not h
pushes_as stamp e does.PushBind n dest message m h = refl
pushes_as stamp e does.Expire n dest message m h = false_not h
pushes_as stamp e (does.Begin k count) n dest message m h = refl
pushes_as stamp e (does.PushMsg index) n dest message m h = refl
pushes_as stamp e does.Prepare n dest message m h = false_not (sym (ap is_some (prepared_silent e (prepare e.channel (number_sent e.machine.state e.machine.kept.last) n.manager) n)) ∙ h)
pushes_as stamp e does.PushEnd n dest message m h = refl
pushes_as stamp e (does.Bound settle partner) n dest message m h = false_not h
pushes_as stamp e does.Commit n dest message m h = false_not h
pushes_as stamp e (does.Backout reason) n dest message m h = false_not h

abbrev looks : ℕ → SenderEnd → Node → SenderTurn
looks stamp e n = record { stamp = stamp; dest = names_of None; message = no_message; stock = stock e.channel n.manager; outcome = outs.Done; free = 0; held = 0 }

sender_still : (stamp : ℕ) (e : SenderEnd) (n : Node) (w : Road) → HasSender e n w → IsStillEnd (sender_deed stamp e (waiting w.back) n) w.out
    → (sender_does (looks stamp e n) w ≡ does.Still) ⊎ ((is_some (pushed_by stamp (names_of None) no_message w.sender (sender_does (looks stamp e n) w)) ≡ true) × (is_full w.out ≡ true))
sender_still stamp e n w g (inl none) = inl (ap (λ (m : Sender). sender_next m (waiting w.back) (stock e.channel n.manager)) g.machine ∙ none_still stamp e (sender_next e.machine (waiting w.back) (stock e.channel n.manager)) n none)
sender_still stamp e n w g (inr (pushes, full)) = inr (
  subst (λ (x : SenderDoes). is_some (pushed_by stamp (names_of None) no_message w.sender x) ≡ true) (ap (λ (m : Sender). sender_next m (waiting w.back) (stock e.channel n.manager)) (sym g.machine))
      (pushes_as stamp e (sender_next e.machine (waiting w.back) (stock e.channel n.manager)) n (names_of None) no_message w.sender pushes),
  full,
)

-- RECEIVERS
none_taken : (stamp : ℕ) (e : ReceiverEnd) (seen : Seen) (x : ReceiverDoes) (n : Node) → receiver_deed_by stamp e seen x n ≡ None → x ≡ takes.Still
none_taken stamp e seen takes.Still n h = refl
none_taken stamp e seen takes.Ignore n h = absurd (some_not _ h)
none_taken stamp e seen takes.PushOwed n h = absurd (some_not _ h)
none_taken stamp e seen takes.Bind n h = absurd (some_not _ h)
none_taken stamp e seen takes.Keep n h = absurd (some_not _ h)
none_taken stamp e seen (takes.Place unit) n h = absurd (some_not _ h)
none_taken stamp e seen takes.Again n h = absurd (some_not _ h)
none_taken stamp e seen takes.Close n h = absurd (some_not _ h)

placed_silent : (e : ReceiverEnd) (unit : Luw) (seen : Seen) (s : Step Reason (Unit {0})) (n : Node) → (place_deed e unit seen s n).pushed ≡ None
placed_silent e unit seen (Refuse reason) n = refl
placed_silent e unit seen (Do reply parts) n = refl

pays_as : (stamp : ℕ) (e : ReceiverEnd) (seen : Seen) (x : ReceiverDoes) (n : Node) → is_some (pushed_of (receiver_deed_by stamp e seen x n)) ≡ true → x ≡ takes.PushOwed
pays_as stamp e seen takes.Still n h = false_not h
pays_as stamp e seen takes.Ignore n h = false_not h
pays_as stamp e seen takes.PushOwed n h = refl
pays_as stamp e seen takes.Bind n h = false_not h
pays_as stamp e seen takes.Keep n h = false_not h
pays_as stamp e seen (takes.Place unit) n h = false_not (sym (ap is_some (placed_silent e unit seen (receive e.channel unit (last_by seen e.machine.last) e.kept n.manager) n)) ∙ h)
pays_as stamp e seen takes.Again n h = false_not h
pays_as stamp e seen takes.Close n h = false_not h

abbrev looks_there : ℕ → ReceiverEnd → Node → ReceiverTurn
looks_there stamp e n = record { stamp = stamp; defined = is_receiver_defined e.channel n.manager.definitions; outcome = ends.Done }

receiver_still : (stamp : ℕ) (e : ReceiverEnd) (n : Node) (w : Road) → HasReceiver e n w → IsStillEnd (receiver_deed stamp e (waiting w.out) n) w.back
    → (receiver_does (looks_there stamp e n) w ≡ takes.Still) ⊎ ((receiver_does (looks_there stamp e n) w ≡ takes.PushOwed) × (is_full w.back ≡ true))
receiver_still stamp e n w g (inl none) =
    inl (ap (λ (m : Receiver). receiver_next m (waiting w.out) (is_receiver_defined e.channel n.manager.definitions)) g.machine
    ∙ none_taken stamp e (waiting w.out) (receiver_next e.machine (waiting w.out) (is_receiver_defined e.channel n.manager.definitions)) n none)
receiver_still stamp e n w g (inr (pushes, full)) =
    inr (
      ap (λ (m : Receiver). receiver_next m (waiting w.out) (is_receiver_defined e.channel n.manager.definitions)) g.machine
          ∙ pays_as stamp e (waiting w.out) (receiver_next e.machine (waiting w.out) (is_receiver_defined e.channel n.manager.definitions)) n pushes,
      full,
    )

-- BOTH
pub quiet_lane : (stamp : ℕ) (e : SenderEnd) (r : ReceiverEnd) (n v : Node) (w : Road) → HasSender e n w → HasReceiver r v w → Items w.out → Items w.back
    → IsStillEnd (sender_deed stamp e (waiting w.back) n) w.out → IsStillEnd (receiver_deed stamp r (waiting w.out) v) w.back → Quiet w
quiet_lane stamp e r n v w g h out back x y = still_is_quiet (looks stamp e n) (looks_there stamp r v) w out back (sender_still stamp e n w g x) (receiver_still stamp r v w h y)
