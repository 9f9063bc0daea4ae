-- A turn of a receiver's end that runs, as a move of the network.
use Rattle.std.proofs.Common.{ℕ, ◌≡◌, ◌<◌, ◌≤◌, ◌⊎◌, true, false, List, [], ◌∷◌, ◌++◌, refl, ap, sym, subst, ◌∙◌, inl, inr, arith}
use Rattle.std.specs.Prelude.{Option, Some, None, ◌==◌, ◌+◌, if◌then◌else◌, slice_get}
use Rattle.std.specs.Option.{option_map}
use Rattle.std.specs.Str.{bytes_eq}
use Rattle.mq_frame.specs.declared.frame.Frame.{Frame}
use Rattle.mq_frame.specs.declared.frame.Seen.{Seen}
use Rattle.mq_sync.specs.declared.unit.Unit.{Unit as Luw}
use Rattle.mq_sync.specs.Units.{Below, Upto, same_unit}
use Rattle.mq_receiver.specs.declared.turns.ReceiverDoes.{ReceiverDoes}
use Rattle.mq_receiver.specs.declared.turns.ReceiverDoes.TheVariants as takes
use Rattle.mq_receiver.specs.declared.turns.ReceiverOut.{ReceiverOut}
use Rattle.mq_receiver.specs.declared.turns.ReceiverOut.TheVariants as ends
use Rattle.mq_receiver.specs.Table.{receiver_next}
use Rattle.mq_calls.specs.declared.choices.Choice.TheVariants.{Runs}
use Rattle.mq_calls.specs.declared.deltas.Did.TheVariants as did
use Rattle.mq_history.specs.declared.calls.Actor.{Actor}
use Rattle.mq_history.specs.declared.calls.Actor.TheVariants as actors
use Rattle.mq_history.specs.declared.calls.Call.TheVariants as calls
use Rattle.mq_history.specs.declared.calls.Entry.{Entry}
use Rattle.mq_history.specs.declared.calls.Reply.{Reply}
use Rattle.mq_history.specs.declared.calls.Reply.TheVariants as replies
use Rattle.mq_history.specs.declared.history.History.{History}
use Rattle.mq_history.specs.declared.story.ManagerPlaces.{ManagerPlaces}
use Rattle.mq_history.specs.declared.scenario.CableLine.{CableLine}
use Rattle.mq_history.specs.declared.scenario.Scenario.{Scenario}
use Rattle.mq_history.specs.Scenarios.{IsScenario}
use Rattle.mq_calls.specs.State.{Given, Numbers, Plain, Running}
use Rattle.mq_calls.specs.State.Running.{Up}
use Rattle.mq_calls.specs.Reads.{is_up}
use Rattle.mq_calls.specs.Steps.{delta_of, do_all}
use Rattle.mq_spec_node.specs.Node.{Node, ReceiverEnd}
use Rattle.mq_spec_node.specs.Deeds.{Deed, Done, done}
use Rattle.mq_spec_node.specs.Receivers.{is_receiver_defined, receiver_deed}
use Rattle.mq_spec_network.specs.Conflict.{Deed as ToldDeed, NoConflict, committed_in, deeds, deeds_in, is_committed}
use Rattle.mq_spec_network.specs.Ledger as ledgers
use Rattle.mq_spec_network.specs.Ledger.{Ledger, Users, idents_of, ledger, ledger_rows, posted, take_all_gone}
use Rattle.mq_spec_network.specs.Order.{KeepsOrder, OrderAt, committed_messages, messages_found, others as others_of, unit_received}
use Rattle.mq_spec_network.specs.Standing.{managers_at, node_after, opening_ledger, opening_managers}
use Rattle.mq_spec_network.specs.Story.{Line, Mem}
use Rattle.mq_law_channel.specs.Channel.{Channel, Facts, Past}
use Rattle.mq_law_channel.specs.Turns.{ReceiverMay, ReceiverTurn, SeenIn, receiver_does, receiver_turn, receiver_turned}
use Rattle.mq_law_channel.proofs.Told.{unit_yes}
use Rattle.mq_law_channel.proofs.Following as following
use Rattle.mq_law_manager.specs.Facts.{IsSound}
use Rattle.mq_law_manager.proofs.Named.{name_is}
use Rattle.mq_law_manager.proofs.Untouched.{parts_running}
use Rattle.mq_law_manager.proofs.Lists.{mem_before, mem_behind}
use Rattle.mq_law_node.specs.Beside.{AsideFar, AsideNear}
use Rattle.mq_law_node.specs.Ends.{TakesAs, Taken as Took, Where, offering, receiver_of, receiver_out, taking_turn}
use Rattle.mq_law_node.specs.Ends.{EachTaken as EachTook}
use Rattle.mq_law_node.specs.Moves.{FarStep}
use Rattle.mq_law_node.specs.Nodes.{FarAt}
use Rattle.mq_law_node.proofs.AsideTakings.{EachAsideNear, receivers_aside}
use Rattle.mq_law_node.proofs.FarAside.{EachAsideOf, receivers_far}
use Rattle.mq_law_node.proofs.FarFreezing.{far_near}
use Rattle.mq_law_node.proofs.Moving.{far_keeps}
use Rattle.mq_law_node.proofs.Pairs.{offering_among}
use Rattle.mq_law_node.proofs.ReceiverTurns.{refused_places, takes_as}
use Rattle.mq_law_rows.specs.Families.{is_here, put_at}
use Rattle.mq_law_rows.specs.World.{Book, World}
use Rattle.mq_law_rows.proofs.Lists.{bool_case, eqb_self, here_self, here_yes, keep_all, true_false, and_left, and_right}
use Rattle.mq_law_seen.specs.Seen.{book_of, world_of}
use Rattle.mq_law_events.specs.Tied.{AreShelved}
use Rattle.mq_law_one.proofs.from_law_story.Weaving.{ledger_step, manager_at}
use Rattle.mq_law_stopped.specs.from_law_receipts.Receipts.{IsCabled}
use Rattle.mq_law_stopped.proofs.from_law_receipts.Cabling.{cabled}
use Rattle.mq_law_stopped.specs.from_law_turns.Agreed.{IsToldOf, TellsCommit}
use Rattle.mq_law_stopped.specs.from_law_turns.Turns.{EachSound, EachTaken, IsAtFar, IsReady, Scene, Taken, world_in}
use Rattle.mq_law_stopped.proofs.from_law_turns.Agreeing.{agreed, grows, receiver_tells}
use Rattle.mq_law_stopped.proofs.from_law_turns.Reading.{receivers_others, stays}
use Rattle.mq_law_stopped.proofs.from_law_turns.Sounds.{receivers_sound}
use Rattle.mq_law_stopped.proofs.from_law_turns.Taking as taking
use Rattle.mq_law_cables.proofs.Differing.{leads}
use Rattle.mq_law_cables.proofs.Keeping.{taken_joint}
use Rattle.mq_law_deeds.specs.Deeds.{each_delta}
use Rattle.mq_law_deeds.proofs.Counting.{numbered}
use Rattle.mq_law_deeds.proofs.Resting.{EachRests, takes_rests}
use Rattle.mq_law_deeds.proofs.Sounding.{behind}
use Rattle.mq_law_deeds.proofs.Telling.{commits_told}
use Rattle.mq_law_deeds.specs.Numbers.{AreCountedAt}
use Rattle.mq_law_stopped.specs.Noted.{EndNote}
use Rattle.mq_law_one.specs.Alone.{IsAt}
use Rattle.mq_law_one.proofs.Happening.{noted_up, state_up}
use Rattle.mq_law_one.proofs.Running.{Told_}
use Rattle.mq_law_run.specs.Ordered.{HasRow, IsOnly, forced_over}
use Rattle.mq_law_run.specs.Run.{IsMoved, Moves, Stand, far_at, near_at}
use Rattle.mq_law_run.proofs.Beside.{IsBeside, parts_beside}
use Rattle.mq_law_run.proofs.Cabled.{parts_cabled}
use Rattle.mq_law_run.proofs.Housing as housing
use Rattle.mq_law_run.proofs.Keeping.{EachKept, EachTaking, EachTells, IsCommit, IsKept, kept_by, post_of, takes_so, tells_by}
use Rattle.mq_law_run.proofs.Later.{places_anew}
use Rattle.mq_law_run.proofs.Listing.{forced_still, quiet_order}
use Rattle.mq_law_run.proofs.Receipting.{EachCommits, IsCommitOf, commits_by, landed_listed, landed_order}
use Rattle.mq_law_run.proofs.Lining.{index_of, all_moved, else_index, left_aside, mem_at, same_cable, same_index, here}
use Rattle.mq_law_run.proofs.Running.{IsRun, joint_here, move_to, run_next, scene, sends_here, sound_at, takes_here, told_all}
use Rattle.mq_law_run.proofs.Telling.{deeds_more, risen_told, still_not, told_before, told_now}

-- each manager has its number
pub numbers_of : (s : Scenario) (hs : List History) (p : List Line) → Stand s hs p → (a : ℕ) (v : Plain) → slice_get (managers_at s p hs) a ≡ Some v → v.given.number ≡ a + 1
numbers_of s hs p z a v e = go (slice_get hs a) refl (sym (manager_at s p hs a) ∙ e)
  where
    go : (o : Option History) → slice_get hs a ≡ o → option_map (λ (h : History). (node_after s a p h).manager) o ≡ Some v → v.given.number ≡ a + 1
    go None f w = absurd cc
    go (Some h) f w = let same : (node_after s a p h).manager ≡ v = cc in subst (λ (q : Plain). q.given.number ≡ a + 1) same (z.at a h f).number

-- the ledger's lists are shelved
pub shelved_of : (s : Scenario) (hs : List History) (p : List Line) (z : Stand s hs p) (a : ℕ) (w : ManagerPlaces) → slice_get (ledger (opening_ledger s hs) p).places a ≡ Some w → AreShelved w.queues
shelved_of s hs p z a w e =
    let h = z.housed a w e in
    let t = (z.at a h.0 h.1).told in
    subst (λ (o : ManagerPlaces). AreShelved o.queues) (some_is t.places w (sym t.placed ∙ e)) t.shelved
  where
    some_is : (x y : ManagerPlaces) → Some x ≡ Some y → x ≡ y
    some_is x y q = cc

-- where it may commit
pub ready : (s : Scenario) (hs : List History) (p : List Line) (x : Line) (z : Stand s hs p) (t : Told_ s hs p x) (k : CableLine) (w : Where) → IsScenario s → Mem k s.cables → k.receiver ≡ x.manager → w.channel ≡ k.channel → (g : History) → slice_get hs k.sender ≡ Some g
    → IsSound (node_after s x.manager p t.h).manager → IsReady (scene s hs p z k w) (node_after s x.manager p t.h).manager (ledger (opening_ledger s hs) p)
ready s hs p x z t k w scenario there q channel g from sound =
    let n : Node = node_after s x.manager p t.h in
    let l : Ledger = ledger (opening_ledger s hs) p in
    let a : IsAt (EndNote s (deeds p) z.xs x.manager) k.receiver z.given n l = subst (λ m. IsAt (EndNote s (deeds p) z.xs x.manager) m z.given n l) (sym q) (z.at x.manager t.h t.is) in
    let c = subst (λ m. AreCountedAt n.manager.numbers.connections m l) (sym q) (z.counted x.manager t.h t.is) in
    record {
      cabled = subst (λ d. IsCabled s (managers_at s p hs) k.sender k.receiver d) (sym channel)
          (cabled s (managers_at s p hs) k (node_after s k.sender p g).manager scenario there (numbers_of s hs p z) (manager_at s p hs k.sender ∙ ap (option_map (λ (h : History). (node_after s k.sender p h).manager)) from));
      sound = sound;
      numbered = numbered n.manager.numbers.connections k.receiver n.manager l a.told c;
      fresh = a.fresh;
      told = a.told;
      timed = a.timed;
      shelved = shelved_of s hs p z;
    }

-- no operator has backed it out: a prefix that has this entry has no conflict
undone_not : (s : Scenario) (hs : List History) (whole p : List Line) (x : Line) (es : List ToldDeed) (m : ℕ) (c : List ℕ) (ch : Channel) (y : Past) (u : Luw) (out : ReceiverOut) (does : ReceiverDoes) → NoConflict s hs whole → deeds whole ≡ deeds (p ++ x ∷ []) ++ es
    → IsToldOf s (opening_managers s hs) (deeds p) m c ch y → does ≡ takes.Place u → out ≡ ends.Done → TellsCommit out does c (deeds_in x.manager x.entry.effect.delta) → y.near.undone u ≡ false
undone_not s hs whole p x es m c ch y u out does none split told d o tells =
    let r : TellsCommit ends.Done (takes.Place u) c (deeds_in x.manager x.entry.effect.delta) = subst (λ w. TellsCommit ends.Done w c (deeds_in x.manager x.entry.effect.delta)) d (subst (λ w. TellsCommit w does c (deeds_in x.manager x.entry.effect.delta)) o tells) in
    agreed s hs whole (deeds (p ++ x ∷ [])) es m r.0 c ch y u none split
    (subst (λ ds. IsToldOf s (opening_managers s hs) ds m c ch y) (sym (deeds_more p x)) (grows s (opening_managers s hs) (deeds p) (deeds_in x.manager x.entry.effect.delta) m c ch y told))
    (subst (λ (ds : List ToldDeed). Mem (record { manager = r.0; did = did.Received c u }) ds) (sym split) (mem_before _ (deeds (p ++ x ∷ [])) es (told_now p x _ r.1)))

abbrev receiver_number : Actor → Option ℕ
receiver_number (actors.Receiver i) = Some i
receiver_number _ = None

same_number : (a i : ℕ) → Some a ≡ Some i → a ≡ i
same_number a i e = cc

none_number : (i : ℕ) → None ≡ Some i → ⊥
none_number i e = cc

posted_as : (m r : ℕ) (e : Entry) (l : Ledger) (d : Deed) → r ≡ m → e.call ≡ calls.Turn → e.reply ≡ d.reply → d.reply ≡ replies.Changed → e.effect.received ≡ d.received → e.effect.delta ≡ delta_of d.parts → posted m e e.reply l ≡ post_of r l d
posted_as m r e l d q call reply changed received delta =
    ap (λ (o : Reply). posted m e o l) (reply ∙ changed)
    ∙ (λ i. ledgers.post_call (sym q i) (call i) (reply i) (received i) (delta i) (take_all_gone (sym q i) (delta i) l))

-- names
pub channel_else : (s : Scenario) (i j : ℕ) (k h : CableLine) → IsScenario s → slice_get s.cables i ≡ Some k → slice_get s.cables j ≡ Some h → (i == j) ≡ false → bytes_eq h.channel k.channel ≡ false
channel_else s i j k h scenario e f ne = bool_case (bytes_eq h.channel k.channel) (λ t. bytes_eq h.channel k.channel ≡ t → t ≡ false)
    (λ z g. absurd (true_false (sym (ap (λ n. i == n) (sym (same_index s i j k h scenario e f (sym (name_is h.channel k.channel g)))) ∙ eqb_self i) ∙ ne)))
    (λ z g. refl) refl

below_not : (u : Luw) → Below u u → ⊥
below_not u (inl e) = less_not u.session e
  where
    less_not : (n : ℕ) → n < n → ⊥
    less_not n e = omega arith
below_not u (inr e) = less_not u.n e.1
  where
    less_not : (n : ℕ) → n < n → ⊥
    less_not n e = omega arith

-- OTHER ENDS
pub near_else : (v : Where) (stamp : ℕ) (e : ReceiverEnd) (seen : Seen) (n : Node) (d : Deed) → receiver_deed stamp e seen n ≡ Some d → (e.cable == v.cable) ≡ false → IsSound n.manager → IsSound (do_all d.parts n.manager) → AsideNear v n d
near_else v stamp e seen n d is cable before after =
    let does : ReceiverDoes = receiver_next e.machine seen (is_receiver_defined e.channel n.manager.definitions) in
    let a : EachAsideNear v n (Some d) = subst (EachAsideNear v n) is (receivers_aside v stamp e seen n cable) in
    let f : EachRests v n (Some d) = subst (EachRests v n) is (takes_rests v stamp e seen does n (receivers_others v.channel stamp e seen does n)) in
    a (stays v.channel n.manager d.parts before after f.1 f.0)

pub far_else : (v : Where) (stamp : ℕ) (e : ReceiverEnd) (seen : Seen) (n : Node) (d : Deed) → receiver_deed stamp e seen n ≡ Some d → (e.cable == v.cable) ≡ false → bytes_eq v.channel e.channel ≡ false → AsideFar v n d
far_else v stamp e seen n d is cable other = subst (EachAsideOf v n) is (receivers_far v stamp e seen n cable other)

pub receiver_run : (s : Scenario) (hs : List History) (p : List Line) (x : Line) (z : Stand s hs p) (t : Told_ s hs p x) (e : ReceiverEnd) (d : Deed) → (node_after s x.manager p t.h).manager.running ≡ Up
    → receiver_deed x.entry.stamp e x.entry.effect.popped (node_after s x.manager p t.h) ≡ Some d → IsSound (do_all d.parts (node_after s x.manager p t.h).manager)
receiver_run s hs p x z t e d up is =
    let n : Node = node_after s x.manager p t.h in
    let sound : IsSound n.manager = sound_at s hs p x z t up in
    behind d.parts n.manager sound (subst (EachSound n.manager) is (receivers_sound x.entry.stamp e x.entry.effect.popped n sound))

tells_right : (out : ReceiverOut) (does : ReceiverDoes) (c : List ℕ) (xs ys : List ToldDeed) → TellsCommit out does c ys → TellsCommit out does c (xs ++ ys)
tells_right ends.Done (takes.Place u) c xs ys r = (r.0, mem_behind _ xs ys r.1)
tells_right ends.Done takes.Still c xs ys r = tt
tells_right ends.Done takes.Ignore c xs ys r = tt
tells_right ends.Done takes.PushOwed c xs ys r = tt
tells_right ends.Done takes.Bind c xs ys r = tt
tells_right ends.Done takes.Keep c xs ys r = tt
tells_right ends.Done takes.Again c xs ys r = tt
tells_right ends.Done takes.Close c xs ys r = tt
tells_right ends.Full does c xs ys r = tt
tells_right (ends.Refused reason) does c xs ys r = tt

-- what an operator had committed, and no more
pub operated_old : (z : Scene) (v : World) (b : Book) (c : Channel) (y : Past) (r : Taken z v b c y) (a : ℕ) (d : List ℕ) (u : Luw) → r.ghost.operated a d u ≡ true → z.ghost.operated a d u ≡ true
operated_old z v b c y r a d u e = bool_case (is_here z.sender z.place.channel a d) (λ t. is_here z.sender z.place.channel a d ≡ t → z.ghost.operated a d u ≡ true)
    (λ w f.
    let q = here_yes z.sender z.place.channel a d f in
    subst (λ m. z.ghost.operated m d u ≡ true) (sym q.0) (subst (λ o. z.ghost.operated z.sender o u ≡ true) (sym q.1)
    (r.own u (subst (λ o. r.ghost.operated z.sender o u ≡ true) q.1 (subst (λ m. r.ghost.operated m d u ≡ true) q.0 e))).0))
    (λ w f. sym (r.operated a d u f) ∙ e) refl

-- the unit that is committed is no more one that an operator has committed
pub committed_apart : (z : Scene) (v : World) (b : Book) (c : Channel) (y : Past) (turn : ReceiverTurn) (u w : Luw) → (r : Taken z v b (receiver_turn turn c) y) → (world_in z).last z.sender z.place.channel ≡ c.receives.unit → receiver_does turn c ≡ takes.Place u → turn.outcome ≡ ends.Done
    → Below c.receives.unit u → w ≡ u → r.ghost.operated z.sender z.place.channel w ≡ true → ⊥
committed_apart z v b c y turn u w r last does out rises same f =
    let now : (receiver_turn turn c).receives.unit ≡ u = (λ i. (receiver_turned (out i) (does i) turn c).receives.unit) in
    elim (r.own w f).1 [
      | inl ne ↦ ne (r.joint.tied.last ∙ now ∙ sym same)
      | inr e ↦ below_not u (subst (λ (o : Luw). Below o u) (sym last ∙ sym e ∙ r.joint.tied.last ∙ now) rises)
    ]

-- the last unit rises
pub upto_self : (u : Luw) → Upto u u
upto_self u = inr (refl, same u.n)
  where
    same : (n : ℕ) → n ≤ n
    same n = omega arith

pub upto_on : (u v w : Luw) → Upto u v → Upto v w → Upto u w
upto_on u v w e f = grind (arith, e, f)

pub upto_below : (u v : Luw) → Below u v → Upto u v
upto_below u v e = grind (arith, e)

unit_rises : (o : ReceiverOut) (d : ReceiverDoes) (t : ReceiverTurn) (c : Channel) → ((u : Luw) → d ≡ takes.Place u → o ≡ ends.Done → Below c.receives.unit u) → Upto c.receives.unit (receiver_turned o d t c).receives.unit
unit_rises ends.Done (takes.Place u) t c f = upto_below c.receives.unit u (f u refl refl)
unit_rises ends.Done takes.Still t c f = upto_self c.receives.unit
unit_rises ends.Done takes.Ignore t c f = upto_self c.receives.unit
unit_rises ends.Done takes.PushOwed t c f = upto_self c.receives.unit
unit_rises ends.Done takes.Bind t c f = upto_self c.receives.unit
unit_rises ends.Done takes.Keep t c f = upto_self c.receives.unit
unit_rises ends.Done takes.Again t c f = upto_self c.receives.unit
unit_rises ends.Done takes.Close t c f = upto_self c.receives.unit
unit_rises ends.Full d t c f = upto_self c.receives.unit
unit_rises (ends.Refused reason) d t c f = upto_self c.receives.unit

-- its unit was not in doubt at the opening, and so its batch was the front of its queue
pub not_loose : (s : Scenario) (hs : List History) (p : List Line) (z : Stand s hs p) (k : CableLine) → Mem k s.cables → (turn : ReceiverTurn) (y : Past) (u : Luw) → Facts (z.xs k.sender k.channel) y → ReceiverMay turn (z.xs k.sender k.channel) y
    → receiver_does turn (z.xs k.sender k.channel) ≡ takes.Place u → z.ghost.loose k.sender k.channel u ≡ false
not_loose s hs p z k there turn y u facts may is = bool_case (z.ghost.loose k.sender k.channel u) (λ t. z.ghost.loose k.sender k.channel u ≡ t → t ≡ false)
    (λ t e. absurd (places_anew turn (z.xs k.sender k.channel) y u facts may is (z.anew k there u (z.loose k.sender k.channel u e)))) (λ t e. refl) refl

-- a channel's name has one sender
pub only_one : (s : Scenario) (hs : List History) (p : List Line) (z : Stand s hs p) (i : ℕ) (k : CableLine) → IsScenario s → slice_get s.cables i ≡ Some k → IsOnly z.ghost k.sender k.channel
only_one s hs p z i k scenario e a d u on name =
    let o = z.owned a d u on in
    let same : o.1 ≡ k = same_cable s o.0 i o.1 k o.2 e (same_index s o.0 i o.1 k scenario o.2 e (o.4 ∙ name)) in
    sym o.3 ∙ ap (λ (h : CableLine). h.sender) same

-- THE TURN
pub receiver_moves : (s : Scenario) (hs : List History) (whole p : List Line) (es : List ToldDeed) (x : Line) (z : Stand s hs p) (t : Told_ s hs p x) (i : ℕ) (k : CableLine) (d : Deed) (g : History) → IsScenario s → NoConflict s hs whole → deeds whole ≡ deeds (p ++ x ∷ []) ++ es
    → slice_get s.cables i ≡ Some k → k.receiver ≡ x.manager → slice_get hs k.sender ≡ Some g → x.entry.actor ≡ actors.Receiver i → x.entry.call ≡ calls.Turn → IsRun s hs p x t d
    → receiver_deed x.entry.stamp (receiver_of (far_at s i k) (z.xs k.sender k.channel).receiver (z.xs k.sender k.channel).kept) x.entry.effect.popped (node_after s x.manager p t.h) ≡ Some d → SeenIn x.entry.effect.popped (z.xs k.sender k.channel).out → Moves s hs p x t.h z
receiver_moves s hs whole p es x z t i k d g scenario none split e q from actor call r is offered =
    let m : ℕ = x.manager in
    let n : Node = node_after s m p t.h in
    let l : Ledger = ledger (opening_ledger s hs) p in
    let w : Where = far_at s i k in
    let c : Channel = z.xs k.sender k.channel in
    let y : Past = z.ys k.sender k.channel in
    let seen : Seen = x.entry.effect.popped in
    let stamp : ℕ = x.entry.stamp in
    let end : ReceiverEnd = receiver_of w c.receiver c.kept in
    let turn : ReceiverTurn = taking_turn w stamp seen c.receiver c.kept n.manager in
    let c1 : Channel = receiver_turn turn c in
    let does : ReceiverDoes = receiver_next c.receiver seen (is_receiver_defined k.channel n.manager.definitions) in
    let takes_ : TakesAs w n c = takes_here s hs p x z t i k e q r.up in
    let facts : Facts c y = (z.lines i k e).facts in
    let there : Mem k s.cables = mem_at s.cables i k e in
    let zz : Scene = scene s hs p z k w in
    let next = run_next s hs p x t d k.receiver r q in
    let ms : List Plain = managers_at s (p ++ x ∷ []) hs in
    let joint = joint_here s hs p z k there in
    let taking_ : EachTaking (Some d) = subst EachTaking is (takes_so stamp end seen does n) in
    let delta : x.entry.effect.delta ≡ delta_of d.parts = t.tells.delta ∙ ap (λ (o : Done). o.delta) r.is in
    let reply : x.entry.reply ≡ d.reply = t.tells.reply ∙ ap (λ (o : Done). o.reply) r.is in
    let pushed : x.entry.effect.pushed ≡ d.pushed = t.tells.pushed ∙ ap (λ (o : Done). o.pushed) r.is in
    let received : x.entry.effect.received ≡ d.received = t.tells.received ∙ ap (λ (o : Done). o.received) r.is in
    let tells : TellsCommit turn.outcome does k.channel (deeds_in m x.entry.effect.delta) =
    subst (λ ds. TellsCommit turn.outcome does k.channel (deeds_in m ds)) (sym delta) (subst (λ (o : Option Deed). TellsCommit turn.outcome does k.channel (deeds_in m (each_delta o))) is (commits_told w stamp m seen n c.receiver c.kept does)) in
    let given : (u : Luw) → receiver_does turn c ≡ takes.Place u → turn.outcome ≡ ends.Done → (y.near.undone u ≡ false) × IsReady zz n.manager l =
    λ u a b. (undone_not s hs whole p x es k.sender k.channel c y u turn.outcome does none split (z.told k there) a b tells, ready s hs p x z t k w scenario there q refl g from r.before) in
    let may : ReceiverMay turn c y = record { offered = offered; refused = λ reason f. refused_places does w seen c.receiver c.kept n.manager reason f; agreed = λ u o f. (given u f o).0 } in
    let far : IsAtFar zz n c y l = record { at = next.at; takes_ = takes_; facts = facts; joint = joint; book = refl } in
    let l1 : Ledger = post_of k.receiver l d in
    let took : Taken zz (world_of s z.given ms) (book_of l1) c1 y =
    (subst (λ (o : Option Deed). EachTaken zz n.manager l o c1 y) is (taking.turns zz n c y l stamp seen next.at takes_ facts joint refl offered given)) ms next in
    let before : IsAt (EndNote s (deeds p) z.xs m) k.receiver z.given n l = subst (λ a. IsAt (EndNote s (deeds p) z.xs m) a z.given n l) (sym q) (z.at m t.h t.is) in
    let kept0 : IsKept k.receiver z.given (do_all d.parts n.manager) l l1 =
    (subst (λ (o : Option Deed). EachKept zz n.manager l o) is (kept_by zz n c y l stamp seen does far (taking.committing zz n c y l stamp seen does refl facts offered given) (record { fresh = before.fresh; told = before.told; timed = before.timed }))) ms next in
    let kept : IsKept m z.given (do_all d.parts n.manager) l l1 = subst (λ a. IsKept a z.given (do_all d.parts n.manager) l l1) q kept0 in
    let facts_of : ((unit_received (delta_of d.parts) ≡ None) × (l1 ≡ l)) ⊎ IsCommitOf zz n c l seen does d =
    (subst (λ (o : Option Deed). EachCommits zz n c l seen does o) is (commits_by zz n c y l stamp seen does far (taking.committing zz n c y l stamp seen does refl facts offered given))) ms next in
    let beside : IsBeside n.manager (do_all d.parts n.manager) = parts_beside d.parts n.manager taking_.0 in
    let up : (do_all d.parts n.manager).running ≡ Up = beside.running ∙ r.up in
    let counted = z.counted m t.h t.is in
    let took_ : Took w n d c.back c1 = subst (λ (o : Option Deed). EachTook w n o c.back c1) is (takes_as w stamp seen n c takes_ (ap is_up r.up)) in
    let mine : IsMoved s m (done d Runs n).next i k c c1 y = record {
      facts = far_keeps (FarStep.Turn turn) c y facts may;
      near = λ a. absurd ((z.joint.tied k there).apart (q ∙ sym a));
      far = λ a. (
        subst (λ (o : Running). FarAt w (done d Runs n).next c1 o) (sym (parts_running d.parts n.manager ∙ r.up)) took_.takes,
        far_near (FarStep.Turn turn) c,
        λ f j. subst (λ (fs : List Frame). Mem f fs) took_.offers (offering_among d.pushed c.back f j),
      );
      later = λ a. absurd ((z.joint.tied k there).apart (q ∙ sym a));
      else = λ a b. absurd (true_false (sym (ap (λ o. o == m) q ∙ eqb_self m) ∙ b));
    } in
    move_to s hs p x t.h z (done d Runs n) l1 r.is (ledger_step (opening_ledger s hs) p x ∙ posted_as m k.receiver x.entry l d q call reply taking_.2 received delta) (record {
      given = z.given;
      ghost = took.ghost;
      xs = put_at z.xs k.sender k.channel c1;
      ys = put_at z.ys k.sender k.channel y;
      joint = taken_joint zz (world_of s z.given ms) (book_of l1) c1 y s.cables z.xs z.ys took (leads s k scenario there) z.joint;
      moved = all_moved s m (done d Runs n).next i k c1 y z.xs z.ys scenario e mine
          (λ j h f out. left_aside s m n j h (z.xs h.sender h.channel) (z.ys h.sender h.channel) d Runs r.up (z.lines j h f).facts r.can
          (λ a. (sends_here s hs p x z t j h f a r.up, near_else (near_at s j h) stamp end seen n d is (else_index s i j k h e f out) r.before r.after))
          (λ a. (takes_here s hs p x z t j h f a r.up, far_else (far_at s j h) stamp end seen n d is (else_index s i j k h e f out) (channel_else s i j k h scenario e f (else_index s i j k h e f out)))));
      out = λ j h f o a by_ push. absurd (none_number i (ap receiver_number (sym by_ ∙ actor)));
      back = λ j h f o a by_ push.
          let same : k ≡ h = same_cable s i j k h e o (sym (same_number j i (ap receiver_number (sym by_ ∙ actor)))) in
          subst (λ (v : CableLine). Mem f (put_at z.xs k.sender k.channel c1 v.sender v.channel).back) same
          (subst (λ (v : Channel). Mem f v.back) (sym (put_here c1))
          (subst (λ (fs : List Frame). Mem f fs) took_.offers (subst (λ (v : Option Frame). Mem f (offering v c.back)) (sym push ∙ pushed) (inl refl))));
      told = λ h n_. subst (λ ds. IsToldOf s (opening_managers s hs) ds h.sender h.channel (put_at z.xs k.sender k.channel c1 h.sender h.channel) (put_at z.ys k.sender k.channel y h.sender h.channel)) (sym (deeds_more p x))
          (told_all s (opening_managers s hs) (deeds p) (deeds_in m x.entry.effect.delta) k c1 y z.xs z.ys
          (receiver_tells s (opening_managers s hs) (deeds p ++ deeds_in m x.entry.effect.delta) k.sender k.channel c y turn (tells_right turn.outcome does k.channel (deeds p) (deeds_in m x.entry.effect.delta) tells)
          (grows s (opening_managers s hs) (deeds p) (deeds_in m x.entry.effect.delta) k.sender k.channel c y (z.told k there))) z.told h n_);
      resolved = λ a b u f. told_before p x _ (z.resolved a b u (operated_old zz (world_of s z.given ms) (book_of l1) c1 y took a b u f));
      not_yet = λ a b u f.
          let old = operated_old zz (world_of s z.given ms) (book_of l1) c1 y took a b u f in
          still_not s (opening_managers s hs) p x b u
          (subst (λ ds. committed_in b u (deeds_in m ds) ≡ false) (sym delta)
          (elim (subst (EachTells m b u (IsCommit end seen n does b u)) is (tells_by m b u stamp end seen does n)) [
            | inl none_ ↦ none_
            | inr commit ↦ absurd (no_commit a b u does refl commit old (λ v apart. committed_apart zz (world_of s z.given ms) (book_of l1) c y turn v u took joint.tied.last apart.0 apart.1
                (following.placed turn c y v facts may apart.0).rises apart.2 (subst (λ o. took.ghost.operated k.sender o u ≡ true) apart.4 (subst (λ o. took.ghost.operated o b u ≡ true) apart.3 f))))
          ]))
          (z.not_yet a b u old);
      risen = λ h n_ u f. bool_case (here k h) (λ o. here k h ≡ o → Upto u (if o then c1 else z.xs h.sender h.channel).receives.unit)
          (λ o w.
          let v = here_yes k.sender k.channel h.sender h.channel w in
          let mine : is_committed s (opening_managers s hs) (deeds (p ++ x ∷ [])) k.channel u ≡ true = (λ j. is_committed s (opening_managers s hs) (deeds (p ++ x ∷ [])) (sym v.1 j) u) ∙ f in
          elim (subst (EachTells m k.channel u (IsCommit end seen n does k.channel u)) is (tells_by m k.channel u stamp end seen does n)) [
            | inl none_ ↦ upto_on u c.receives.unit c1.receives.unit (risen_told s (opening_managers s hs) p x k.channel c.receives.unit (z.risen k there) u (subst (λ ds. committed_in k.channel u (deeds_in m ds) ≡ false) (sym delta) none_) mine)
                (unit_rises turn.outcome (receiver_does turn c) turn c (λ b_ d_ o_. (following.placed turn c y b_ facts may d_).rises))
            | inr commit ↦ now_last u does refl commit
          ])
          (λ o w. elim (subst (EachTells m h.channel u (IsCommit end seen n does h.channel u)) is (tells_by m h.channel u stamp end seen does n)) [
            | inl none_ ↦ risen_told s (opening_managers s hs) p x h.channel (z.xs h.sender h.channel).receives.unit (z.risen h n_) u (subst (λ ds. committed_in h.channel u (deeds_in m ds) ≡ false) (sym delta) none_) f
            | inr commit ↦ absurd (not_else h n_ u w does commit)
          ]) refl;
      owned = λ a b u f. z.owned a b u (operated_old zz (world_of s z.given ms) (book_of l1) c1 y took a b u f);
      loose = λ a b u f. (λ v. sym took.loose v a b u) ∙ f;
      at = record {
        told = kept.told;
        fresh = kept.fresh;
        number = ap (λ (o : Given). o.number) beside.given ∙ (z.at m t.h t.is).number;
        timed = kept.timed;
        state = state_up (do_all d.parts n.manager) up r.after;
        noted = noted_up (EndNote s (deeds p) (put_at z.xs k.sender k.channel c1) m) m (do_all d.parts n.manager) l1 up;
      };
      known = λ i_ f. refl;
      others = kept.others;
      users = λ a f. ap (λ (us : List Users). slice_get us a) kept.users;
      counted = subst (λ (v : Numbers). AreCountedAt v.connections m l1) (sym beside.numbers) (record { users = counted.users; used = ap (λ (us : List Users). slice_get us m) kept.users ∙ counted.used; counted = counted.counted });
      cabled = parts_cabled s.cables m d.parts n.manager taking_.1 (z.cabled m t.h t.is);
      housed = housing.turned k.receiver d.reply d.received (delta_of d.parts) l;
      listed = elim facts_of [
        | inl o ↦ forced_still z.ghost took.ghost x.entry.effect.delta (book_of l).rows (book_of l1).rows (λ a b u f. (operated_old zz (world_of s z.given ms) (book_of l1) c1 y took a b u f, λ v. took.sent v a b u))
            (λ i_ g_. subst (λ (v : Ledger). HasRow i_ (book_of v).rows) o.1 g_)
        | inr o ↦ landed_listed (world_of s z.given (managers_at s p hs)) z.ghost took.ghost l l1 k.sender k.receiver k.channel o.unit x.entry.effect.delta z.joint.inv o.commits o.landed (λ a b u f. (
          operated_old zz (world_of s z.given ms) (book_of l1) c1 y took a b u f,
          (λ v. took.sent v a b u),
          λ from name unit. committed_apart zz (world_of s z.given ms) (book_of l1) c y turn o.unit u took joint.tied.last o.is (ran o.unit o.is o.ran) (following.placed turn c y o.unit facts may o.is).rises unit
              (subst (λ v. took.ghost.operated k.sender v u ≡ true) name (subst (λ v. took.ghost.operated v b u ≡ true) from f)),
        ))
      ];
      order = elim facts_of [
        | inl o ↦ quiet_order (forced_over [] p) x l l1 (ap unit_received delta ∙ o.0)
        | inr o ↦ ordered l1 o.unit (ap unit_received delta ∙ o.told) (landed_order (world_of s z.given (managers_at s p hs)) z.ghost l l1 l1 k.sender k.receiver k.channel o.unit (forced_over [] p) x.entry.effect.delta (committed_messages l x) (λ w_. true)
            z.joint.inv o.commits (not_loose s hs p z k there turn y o.unit facts may o.is) z.listed (only_one s hs p z i k scenario e) o.landed
            (ap idents_of ((λ v. messages_found ((reply ∙ taking_.2) v) x.entry.chance x.entry.effect.received (ledgers.users_at m l).cut) ∙ received) ∙ o.ids)
            (λ w_. sym (keep_all (λ v_. true) (ledger_rows k.receiver w_ l1) (λ v_ n_. refl))))
      ];
    })
  where
    ran : (u : Luw) → receiver_next (z.xs k.sender k.channel).receiver x.entry.effect.popped (is_receiver_defined k.channel (node_after s x.manager p t.h).manager.definitions) ≡ takes.Place u
        → receiver_out (takes.Place u) (far_at s i k) x.entry.effect.popped (z.xs k.sender k.channel).receiver (z.xs k.sender k.channel).kept (node_after s x.manager p t.h).manager ≡ ends.Done
        → (taking_turn (far_at s i k) x.entry.stamp x.entry.effect.popped (z.xs k.sender k.channel).receiver (z.xs k.sender k.channel).kept (node_after s x.manager p t.h).manager).outcome ≡ ends.Done
    ran u is_ done_ = ap (λ (dd : ReceiverDoes). receiver_out dd (far_at s i k) x.entry.effect.popped (z.xs k.sender k.channel).receiver (z.xs k.sender k.channel).kept (node_after s x.manager p t.h).manager) is_ ∙ done_

    ordered : (after : Ledger) (u : Luw) → unit_received x.entry.effect.delta ≡ Some (k.channel, u)
        → KeepsOrder (others_of k.channel u (forced_over [] p)) k.receiver x.entry.effect.delta (committed_messages (ledger (opening_ledger s hs) p) x) (ledger (opening_ledger s hs) p) after
        → OrderAt (unit_received x.entry.effect.delta) (forced_over [] p) x (ledger (opening_ledger s hs) p) after
    ordered after u told keeps = subst (λ o. OrderAt o (forced_over [] p) x (ledger (opening_ledger s hs) p) after) (sym told)
        (subst (λ (a : ℕ). KeepsOrder (others_of k.channel u (forced_over [] p)) a x.entry.effect.delta (committed_messages (ledger (opening_ledger s hs) p) x) (ledger (opening_ledger s hs) p) after) q keeps)

    put_here : (c1 : Channel) → put_at z.xs k.sender k.channel c1 k.sender k.channel ≡ c1
    put_here c1 = ap (λ b. if b then c1 else z.xs k.sender k.channel) (here_self k.sender k.channel)

    -- a commit makes its unit the last one; none is of another channel
    now_last : (u : Luw) (dd : ReceiverDoes) → receiver_next (z.xs k.sender k.channel).receiver x.entry.effect.popped (is_receiver_defined k.channel (node_after s x.manager p t.h).manager.definitions) ≡ dd
        → IsCommit (receiver_of (far_at s i k) (z.xs k.sender k.channel).receiver (z.xs k.sender k.channel).kept) x.entry.effect.popped (node_after s x.manager p t.h) dd k.channel u
        → Upto u (receiver_turn (taking_turn (far_at s i k) x.entry.stamp x.entry.effect.popped (z.xs k.sender k.channel).receiver (z.xs k.sender k.channel).kept (node_after s x.manager p t.h).manager) (z.xs k.sender k.channel)).receives.unit
    now_last u (takes.Place v) is_ commit =
        let c : Channel = z.xs k.sender k.channel in
        let turn : ReceiverTurn = taking_turn (far_at s i k) x.entry.stamp x.entry.effect.popped c.receiver c.kept (node_after s x.manager p t.h).manager in
        let out : turn.outcome ≡ ends.Done = ap (λ (dd : ReceiverDoes). receiver_out dd (far_at s i k) x.entry.effect.popped c.receiver c.kept (node_after s x.manager p t.h).manager) is_ ∙ commit.0 in
        let now : (receiver_turn turn c).receives.unit ≡ v = (λ j. (receiver_turned (out j) (is_ j) turn c).receives.unit) in
        subst (λ (w : Luw). Upto u w) (sym now) (subst (λ (w : Luw). Upto u w) (unit_yes u v (and_right (bytes_eq k.channel k.channel) (same_unit u v) commit.1)) (upto_self u))
    now_last u takes.Still is_ commit = absurd commit
    now_last u takes.Ignore is_ commit = absurd commit
    now_last u takes.PushOwed is_ commit = absurd commit
    now_last u takes.Bind is_ commit = absurd commit
    now_last u takes.Keep is_ commit = absurd commit
    now_last u takes.Again is_ commit = absurd commit
    now_last u takes.Close is_ commit = absurd commit

    not_else : (h : CableLine) → Mem h s.cables → (u : Luw) → here k h ≡ false → (dd : ReceiverDoes) → IsCommit (receiver_of (far_at s i k) (z.xs k.sender k.channel).receiver (z.xs k.sender k.channel).kept) x.entry.effect.popped (node_after s x.manager p t.h) dd h.channel u → ⊥
    not_else h n_ u apart (takes.Place v) commit =
        let ch : h.channel ≡ k.channel = name_is h.channel k.channel (and_left (bytes_eq h.channel k.channel) (same_unit u v) commit.1) in
        let o = index_of s.cables h n_ in
        let one : h ≡ k = same_cable s o.0 i h k o.1 e (same_index s o.0 i h k scenario o.1 e ch) in
        true_false (sym (ap (λ (w : CableLine). here k w) one ∙ here_self k.sender k.channel) ∙ apart)
    not_else h n_ u apart takes.Still commit = commit
    not_else h n_ u apart takes.Ignore commit = commit
    not_else h n_ u apart takes.PushOwed commit = commit
    not_else h n_ u apart takes.Bind commit = commit
    not_else h n_ u apart takes.Keep commit = commit
    not_else h n_ u apart takes.Again commit = commit
    not_else h n_ u apart takes.Close commit = commit

    -- a commit that is told of this unit is the turn's
    no_commit : (a : ℕ) (b : List ℕ) (u : Luw) (dd : ReceiverDoes) → receiver_next (z.xs k.sender k.channel).receiver x.entry.effect.popped (is_receiver_defined k.channel (node_after s x.manager p t.h).manager.definitions) ≡ dd
        → IsCommit (receiver_of (far_at s i k) (z.xs k.sender k.channel).receiver (z.xs k.sender k.channel).kept) x.entry.effect.popped (node_after s x.manager p t.h) dd b u → z.ghost.operated a b u ≡ true
        → ((v : Luw) → (receiver_does (taking_turn (far_at s i k) x.entry.stamp x.entry.effect.popped (z.xs k.sender k.channel).receiver (z.xs k.sender k.channel).kept (node_after s x.manager p t.h).manager) (z.xs k.sender k.channel) ≡ takes.Place v)
        × ((taking_turn (far_at s i k) x.entry.stamp x.entry.effect.popped (z.xs k.sender k.channel).receiver (z.xs k.sender k.channel).kept (node_after s x.manager p t.h).manager).outcome ≡ ends.Done)
        × (u ≡ v) × (a ≡ k.sender) × (b ≡ k.channel) → ⊥) → ⊥
    no_commit a b u (takes.Place v) is_ commit old f =
        let ch : b ≡ k.channel = name_is b k.channel (and_left (bytes_eq b k.channel) (same_unit u v) commit.1) in
        let o = z.owned a b u old in
        let same : o.1 ≡ k = same_cable s o.0 i o.1 k o.2 e (same_index s o.0 i o.1 k scenario o.2 e (o.4 ∙ ch)) in
        f v (
          is_,
          ap (λ (dd : ReceiverDoes). receiver_out dd (far_at s i k) x.entry.effect.popped (z.xs k.sender k.channel).receiver (z.xs k.sender k.channel).kept (node_after s x.manager p t.h).manager) is_ ∙ commit.0,
          unit_yes u v (and_right (bytes_eq b k.channel) (same_unit u v) commit.1),
          sym o.3 ∙ ap (λ (h : CableLine). h.sender) same,
          ch,
        )
    no_commit a b u takes.Still is_ commit old f = commit
    no_commit a b u takes.Ignore is_ commit old f = commit
    no_commit a b u takes.PushOwed is_ commit old f = commit
    no_commit a b u takes.Bind is_ commit old f = commit
    no_commit a b u takes.Keep is_ commit old f = commit
    no_commit a b u takes.Again is_ commit old f = commit
    no_commit a b u takes.Close is_ commit old f = commit
