-- A turn of a cable's end, in a PUMP, moves that cable's lane.
use Rattle.std.proofs.Common.{◌≡◌, ◌≤◌, ◌<◌, ◌⊎◌, ℕ, zero, suc, Bool, true, false, List, [], ◌∷◌, ◌++◌, length, refl, sym, ap, subst, ◌∙◌, append-nil, arith, inl, inr}
use Rattle.std.specs.Prelude.{Option, None, Some, drop, is_some, ◌==◌}
use Rattle.std.specs.Option.{option_map}
use Rattle.std.proofs.lemmas.Bool.{true≢false}
use Rattle.mq_cable.specs.declared.fault.Fault.{Fault}
use Rattle.mq_frame.specs.declared.frame.Frame.{Frame}
use Rattle.mq_frame.specs.declared.frame.Seen.{Seen}
use Rattle.mq_frame.specs.declared.frame.Seen.TheVariants as items
use Rattle.mq_history.specs.declared.calls.Actor.TheVariants as actors
use Rattle.mq_history.specs.declared.calls.Call.TheVariants as calls
use Rattle.mq_history.specs.declared.calls.Entry.{Entry}
use Rattle.mq_history.specs.declared.scenario.CableLine.{CableLine}
use Rattle.mq_sync.specs.declared.data.Stock.{Stock}
use Rattle.mq_sync.specs.declared.data.Doubt.{Doubt}
use Rattle.mq_receiver.specs.States.{owed_frame}
use Rattle.mq_receiver.specs.Table.{receiver_lines, receiver_next}
use Rattle.mq_receiver.specs.declared.state.Owed.{Owed}
use Rattle.mq_receiver.specs.declared.state.Receiver.{Receiver}
use Rattle.mq_receiver.specs.declared.turns.ReceiverDoes.{ReceiverDoes}
use Rattle.mq_receiver.specs.declared.turns.ReceiverDoes.TheVariants as takes
use Rattle.mq_sender.specs.declared.state.Sender.{Sender}
use Rattle.mq_sender.specs.declared.turns.SenderDoes.{SenderDoes}
use Rattle.mq_sender.specs.declared.turns.SenderDoes.TheVariants as does_
use Rattle.mq_sender.specs.States.{is_running}
use Rattle.mq_sender.specs.Table.{is_ack, is_binding, is_err, is_status, is_waiting, sender_lines, sender_next, waits}
use Rattle.mq_spec_manager.specs.Agents.{queue_of_sender}
use Rattle.mq_calls.specs.State.{Plain}
use Rattle.mq_calls.specs.State.Running.{Up}
use Rattle.mq_calls.specs.Steps.{do_all}
use Rattle.mq_spec_node.specs.Deeds.{Deed}
use Rattle.mq_spec_node.specs.Doers.{by, is_receiver, is_sender}
use Rattle.mq_spec_node.specs.Happens.{deed_of}
use Rattle.mq_spec_node.specs.Node.{ChannelEnd, Node, ReceiverEnd, SenderEnd, end_in}
use Rattle.mq_spec_node.specs.Node.ChannelEnd.{Receives, Sends}
use Rattle.mq_spec_node.specs.Replays.{after, done_by}
use Rattle.mq_spec_node.specs.Receivers.{is_receiver_defined, receiver_deed, receiver_deed_by}
use Rattle.mq_spec_node.specs.Senders.{sender_deed, timeout_deed}
use Rattle.mq_spec_network.specs.Cables.{Lying, is_popped, lying, pops_of, whole}
use Rattle.mq_spec_network.specs.Steps.{TakesTurn, popped_by, pushed_of, turn_in}
use Rattle.mq_spec_network.specs.Tasks.{Slot}
use Rattle.mq_spec_network.specs.Turns.{Network, back_of, deed_at, does, node_at, node_of, out_of, waiting as first_lying}
use Rattle.mq_law_channel.proofs.Told.{and_both, by_lines}
use Rattle.mq_law_idle.specs.Counts.{free_in, held_in}
use Rattle.mq_law_idle.specs.Lanes.{Lane, lane}
use Rattle.mq_law_idle.specs.Roads.{Road, laid, receiver_does, receiver_turn, sender_does, sender_timed_out, sender_turn, taken_by, taken_from, waiting}
use Rattle.mq_law_idle.proofs.Less.{completes_waits, continues_waits, new_waits, repeats_waits, spoiled_waits, waits_same}
use Rattle.mq_law_manager.proofs.Lists.{eqb_yes}
use Rattle.mq_law_node.proofs.Named.{bool_case, nat_self}
use Rattle.mq_law_pump.specs.Deeds.{EachWantsNone, TakesLane, TimesOutLane, TurnsLane}
use Rattle.mq_law_pump.specs.Entries.{Ran, RanDeed}
use Rattle.mq_law_pump.specs.Fit.{FitsSender, Good, IsFit}
use Rattle.mq_law_pump.specs.Rows.{AreWithin, rows_of}
use Rattle.mq_law_pump.specs.Shown.{ReceiverMoves, SenderMoves, SenderTimesOut, Shows}
use Rattle.mq_law_pump.specs.Ways.{IsWithin, behind_if, seen_of}
use Rattle.mq_law_pump.proofs.Entries.{entry_ran, taking_there, timeout_there, turn_there}
use Rattle.mq_law_pump.proofs.Histories.{after_more, earlier, else_done, here_done, told_here}
use Rattle.mq_law_pump.proofs.Popping.{receivers_pop, receivers_want, senders_pop, senders_want, timeouts_want}
use Rattle.mq_law_pump.proofs.Sending.{sender_turns}
use Rattle.mq_law_pump.proofs.Taking.{owed_first, receiver_takes}
use Rattle.mq_law_pump.proofs.TimingOut.{sender_times_out}
use Rattle.mq_law_pump.proofs.Ways.{by_more, frames_more, frames_of, kept_if, laid_last, lies, offer_if, pops_more, taken_first, waits_as}

-- WHAT IS THERE
pub node_there : (w : Network) (j : ℕ) (n : Node) → w.first j ≡ Some n → node_at w j ≡ Some (after n (w.done j))
node_there w j n first = ap (λ (o : Option Node). node_of o (w.done j)) first

pub fit_now : (w : Network) (j : ℕ) (n : Node) → Good w → w.first j ≡ Some n → IsFit (after n (w.done j))
fit_now w j n g first = g.fit j n (w.done j) [] first (sym (append-nil (w.done j))) (g.up j n first)

pub next_node : (w : Network) (m : ℕ) (x : Entry) (n : Node) → after n ((does m (x ∷ []) w).done m) ≡ (done_by x (after n (w.done m))).next
next_node w m x n = ap (after n) (here_done w m x) ∙ after_more n (w.done m) (x ∷ [])

pub some_node : (a b : Node) → Some a ≡ Some b → a ≡ b
some_node a b e = cc

both_ends : (o : Option ChannelEnd) (e : SenderEnd) (r : ReceiverEnd) → o ≡ Some (Sends e) → o ≡ Some (Receives r) → ⊥
both_ends o e r a b = clash (sym a ∙ b)
  where
    clash : Some (Sends e) ≡ Some (Receives r) → ⊥
    clash z = absurd cc

-- one cable has two managers
pub two_managers : (w : Network) (k : ℕ) (c : CableLine) (near far : Node) (e : SenderEnd) (r : ReceiverEnd) (l : Lane) → Shows w k c near far e r l → (c.receiver == c.sender) ≡ false
two_managers w k c near far e r l h = bool_case (c.receiver == c.sender) (λ b. (c.receiver == c.sender) ≡ b → b ≡ false)
    (λ is z. absurd (
    let same : c.receiver ≡ c.sender = eqb_yes c.receiver c.sender z in
    let one : far ≡ near = some_node far near (sym h.far_is ∙ ap w.first same ∙ h.near_is) in
    both_ends (end_in k (after near (w.done c.sender)).own.ends) e r (ap (λ (i : ℕ). end_in i (after near (w.done c.sender)).own.ends) (sym h.cables.0) ∙ h.sends.here)
    ((λ i. end_in (sym h.cables.1 i) (after (sym one i) (w.done (sym same i))).own.ends) ∙ h.takes.here)))
    (λ is z. refl) refl

turned_eq : (a b : ℕ) → (a == b) ≡ false → (b == a) ≡ false
turned_eq a b e = bool_case (b == a) (λ t. (b == a) ≡ t → t ≡ false) (λ z f. absurd (true≢false (sym (ap (λ (n : ℕ). a == n) (eqb_yes b a f) ∙ nat_self a) ∙ e))) (λ z f. refl) refl

-- WHAT AN END TAKES
abbrev TakesSeen : Seen → SenderDoes → Type 0
TakesSeen seen does_.Ignore = waits seen ≡ true
TakesSeen seen (does_.Bound settle partner) = waits seen ≡ true
TakesSeen seen does_.Commit = waits seen ≡ true
TakesSeen seen (does_.Backout reason) = waits seen ≡ true
TakesSeen seen _ = waits seen ≡ false

status_waits : (session : ℕ) (seen : Seen) → is_status session seen ≡ true → waits seen ≡ true
status_waits session (items.Frame f) e = refl
status_waits session items.Nothing e = absurd cc
status_waits session items.Spoiled e = refl

ack_waits : (o : Option Doubt) (seen : Seen) → is_ack o seen ≡ true → waits seen ≡ true
ack_waits o (items.Frame f) e = refl
ack_waits o items.Nothing e = absurd cc
ack_waits o items.Spoiled e = refl

err_waits : (o : Option Doubt) (seen : Seen) → is_err o seen ≡ true → waits seen ≡ true
err_waits o (items.Frame f) e = refl
err_waits o items.Nothing e = absurd cc
err_waits o items.Spoiled e = refl

takes_seen : (m : Sender) (seen : Seen) (st : Stock) → TakesSeen seen (sender_next m seen st)
takes_seen m seen st = by_lines (TakesSeen seen) does_.Still (sender_lines m seen st) (
  (λ e. status_waits m.kept.session seen (and_both (is_binding m.state) (is_status m.kept.session seen) e).1),
  λ x1. (
    (λ e. ack_waits m.kept.doubt seen (and_both (is_waiting m.state) (is_ack m.kept.doubt seen) e).1),
    λ x2. (
      (λ e. err_waits m.kept.doubt seen (and_both (is_waiting m.state) (is_err m.kept.doubt seen) e).1),
      λ x3. (
        (λ e. e),
        λ x4. (
          (λ e. x4),
          λ x5. (
            (λ e. x4),
            λ x6. ((λ e. x4), λ x7. ((λ e. x4), λ x8. ((λ e. x4), λ x9. ((λ e. x4), λ x10. ((λ e. x4), λ x11. x4))))),
          ),
        ),
      ),
    ),
  ),
)

taken_as : (d : SenderDoes) (xs : List Seen) → TakesSeen (waiting xs) d → taken_from d xs ≡ behind_if (waits (waiting xs)) xs
taken_as does_.Ignore xs h = ap (λ (b : Bool). behind_if b xs) (sym h)
taken_as (does_.Bound settle partner) xs h = ap (λ (b : Bool). behind_if b xs) (sym h)
taken_as does_.Commit xs h = ap (λ (b : Bool). behind_if b xs) (sym h)
taken_as (does_.Backout reason) xs h = ap (λ (b : Bool). behind_if b xs) (sym h)
taken_as does_.Still xs h = ap (λ (b : Bool). behind_if b xs) (sym h)
taken_as (does_.HardenSession session) xs h = ap (λ (b : Bool). behind_if b xs) (sym h)
taken_as does_.PushBind xs h = ap (λ (b : Bool). behind_if b xs) (sym h)
taken_as does_.Expire xs h = ap (λ (b : Bool). behind_if b xs) (sym h)
taken_as (does_.Begin n count) xs h = ap (λ (b : Bool). behind_if b xs) (sym h)
taken_as (does_.PushMsg index) xs h = ap (λ (b : Bool). behind_if b xs) (sym h)
taken_as does_.Prepare xs h = ap (λ (b : Bool). behind_if b xs) (sym h)
taken_as does_.PushEnd xs h = ap (λ (b : Bool). behind_if b xs) (sym h)

popped_waits : (s : Seen) → (elim s as (λ x. Bool) [ items.Nothing ↦ false | items.Spoiled ↦ true | items.Frame f ↦ true ]) ≡ waits s
popped_waits items.Nothing = refl
popped_waits items.Spoiled = refl
popped_waits (items.Frame f) = refl

pub pops_as : (x : Entry) (s : Seen) → x.effect.popped ≡ s → is_popped x ≡ waits s
pops_as x s e = popped_waits x.effect.popped ∙ ap waits e

-- NO MORE WAS TAKEN THAN LIES THERE
drop_there : (n : ℕ) (xs : List Lying) → waits (waiting (seen_of (drop n xs))) ≡ true → n < length xs
drop_there zero [] e = absurd cc
drop_there zero (x ∷ xs) e = omega arith
drop_there (suc n) [] e = absurd cc
drop_there (suc n) (x ∷ xs) e = let h = drop_there n xs e in omega (arith, h)

longer : {A : Type 0} (xs : List A) (x : A) → length (xs ++ x ∷ []) ≡ suc (length xs)
longer [] x = refl
longer (y ∷ xs) x = ap suc (longer xs x)

none_more : {A : Type 0} (xs : List A) → length (xs ++ []) ≡ length xs
none_more xs = ap length (append-nil xs)

at_most : (a b c : ℕ) → a ≡ suc b → b < c → a ≤ c
at_most a b c e h = omega (arith, e, h)

as_much : (a b c : ℕ) → a ≡ b → b ≤ c → a ≤ c
as_much a b c e h = omega (arith, e, h)

no_more : (a b c : ℕ) → a ≤ b → b ≤ c → a ≤ c
no_more a b c g h = omega (arith, g, h)

same_least : (a b : ℕ) → b ≡ a → a ≤ b
same_least a b e = omega (arith, e)

pub pops_within : (pushes pops : List Entry) (x : Entry) → IsWithin pushes pops → (is_popped x ≡ true → waits (waiting (seen_of (lying [] pushes pops))) ≡ true) → IsWithin pushes (pops ++ x ∷ [])
pops_within pushes pops x h there = bool_case (is_popped x) (λ b. is_popped x ≡ b → IsWithin pushes (pops ++ x ∷ []))
    (λ z is. at_most (length (pops_of (pops ++ x ∷ []))) (length (pops_of pops)) (length (frames_of pushes)) (ap length (pops_more pops x ∙ ap (λ (b : Bool). pops_of pops ++ kept_if b x) is) ∙ longer (pops_of pops) x)
    (drop_there (length (pops_of pops)) (frames_of pushes) (ap (λ (xs : List Lying). waits (waiting (seen_of xs))) (sym (lies pushes pops)) ∙ there is)))
    (λ z is. as_much (length (pops_of (pops ++ x ∷ []))) (length (pops_of pops)) (length (frames_of pushes)) (ap length (pops_more pops x ∙ ap (λ (b : Bool). pops_of pops ++ kept_if b x) is) ∙ none_more (pops_of pops)) h) refl

offers_more : (o : Option Frame) (xs : List Lying) → length xs ≤ length (xs ++ offer_if o)
offers_more None xs = same_least (length xs) (length (xs ++ [])) (none_more xs)
offers_more (Some f) xs = one_longer xs (whole f)
  where
    one_longer : (xs : List Lying) (y : Lying) → length xs ≤ length (xs ++ y ∷ [])
    one_longer [] y = omega arith
    one_longer (x ∷ xs) y = let h = one_longer xs y in omega (arith, h)

pub pushes_within : (pushes pops : List Entry) (x : Entry) → IsWithin pushes pops → IsWithin (pushes ++ x ∷ []) pops
pushes_within pushes pops x h = no_more (length (pops_of pops)) (length (frames_of pushes)) (length (frames_of (pushes ++ x ∷ []))) h
    (subst (λ (xs : List Lying). length (frames_of pushes) ≤ length xs) (sym (frames_more pushes x)) (offers_more x.effect.pushed (frames_of pushes)))

-- A WAY, AND ONE ENTRY MORE
-- what lies on a way, and that no more was taken than that
record WayIs (faults : List Fault) (pushes pops : List Entry) (seen : List Seen) : Type 0 where
  is : seen ≡ seen_of (lying faults pushes pops)
  within : IsWithin pushes pops

-- behind an entry of the end that pushes there
pushed_more : (fs : List Fault) (pushes pops pushes1 pops1 : List Entry) (x : Entry) (o : Option Frame) (seen : List Seen) → fs ≡ [] → pushes1 ≡ pushes ++ x ∷ [] → pops1 ≡ pops → x.effect.pushed ≡ o → WayIs fs pushes pops seen → WayIs fs pushes1 pops1 (laid o seen)
pushed_more fs pushes pops pushes1 pops1 x o seen none mine theirs pushed h = record {
  is = ap (laid o) (h.is ∙ ap (λ (f : List Fault). seen_of (lying f pushes pops)) none) ∙ sym (laid_last pushes pops x o h.within pushed) ∙ (λ i. seen_of (lying (sym none i) (sym mine i) (sym theirs i)));
  within = subst (λ (ps : List Entry). IsWithin ps pops1) (sym mine) (subst (IsWithin (pushes ++ x ∷ [])) (sym theirs) (pushes_within pushes pops x h.within));
}

-- behind an entry of the end that pops there
popped_more : (fs : List Fault) (pushes pops pushes1 pops1 : List Entry) (x : Entry) (seen : List Seen) → fs ≡ [] → pushes1 ≡ pushes → pops1 ≡ pops ++ x ∷ [] → (is_popped x ≡ true → waits (waiting seen) ≡ true) → WayIs fs pushes pops seen → WayIs fs pushes1 pops1 (behind_if (is_popped x) seen)
popped_more fs pushes pops pushes1 pops1 x seen none theirs mine there h =
    let clean : seen ≡ seen_of (lying [] pushes pops) = h.is ∙ ap (λ (f : List Fault). seen_of (lying f pushes pops)) none in
    record {
      is = ap (behind_if (is_popped x)) clean ∙ sym (taken_first pushes pops x) ∙ (λ i. seen_of (lying (sym none i) (sym theirs i) (sym mine i)));
      within = subst (λ (ps : List Entry). IsWithin ps pops1) (sym theirs) (subst (IsWithin pushes) (sym mine) (pops_within pushes pops x h.within (λ p. ap (λ (xs : List Seen). waits (waiting xs)) (sym clean) ∙ there p)));
    }

-- WHAT A SENDER'S ENTRY LEAVES
record SenderLeaves (w : Network) (k : ℕ) (c : CableLine) (l : Lane) (x : Entry) (o : Option Frame) : Type 0 where
  still : (does c.sender (x ∷ []) w).done c.receiver ≡ w.done c.receiver
  out : WayIs c.out (by (is_sender k) ((does c.sender (x ∷ []) w).done c.sender)) (by (is_receiver k) ((does c.sender (x ∷ []) w).done c.receiver)) (laid o l.road.out)
  back : WayIs c.back (by (is_receiver k) ((does c.sender (x ∷ []) w).done c.receiver)) (by (is_sender k) ((does c.sender (x ∷ []) w).done c.sender)) (behind_if (is_popped x) l.road.back)

by_here : (k : ℕ) (x : Entry) (es : List Entry) → x.actor ≡ actors.Sender k → by (is_sender k) (es ++ x ∷ []) ≡ by (is_sender k) es ++ x ∷ []
by_here k x es a = by_more (is_sender k) es x ∙ ap (λ b. by (is_sender k) es ++ kept_if b x) (ap (is_sender k) a ∙ nat_self k)

sender_leaves : (w : Network) (k : ℕ) (c : CableLine) (near far : Node) (e : SenderEnd) (r : ReceiverEnd) (l : Lane) (x : Entry) (o : Option Frame) → Shows w k c near far e r l → x.actor ≡ actors.Sender k → x.effect.pushed ≡ o → (is_popped x ≡ true → waits (waiting l.road.back) ≡ true)
    → SenderLeaves w k c l x o
sender_leaves w k c near far e r l x o h actor pushed there =
    let v : Network = does c.sender (x ∷ []) w in
    let still : v.done c.receiver ≡ w.done c.receiver = else_done w c.sender x c.receiver (two_managers w k c near far e r l h) in
    let mine : by (is_sender k) (v.done c.sender) ≡ by (is_sender k) (w.done c.sender) ++ x ∷ [] = ap (by (is_sender k)) (here_done w c.sender x) ∙ by_here k x (w.done c.sender) actor in
    let theirs : by (is_receiver k) (v.done c.receiver) ≡ by (is_receiver k) (w.done c.receiver) = ap (by (is_receiver k)) still in
    record {
      still = still;
      out = pushed_more c.out (by (is_sender k) (w.done c.sender)) (by (is_receiver k) (w.done c.receiver)) (by (is_sender k) (v.done c.sender)) (by (is_receiver k) (v.done c.receiver)) x o l.road.out h.faultless.0 mine theirs pushed (record { is = h.out; within = h.out_within });
      back = popped_more c.back (by (is_receiver k) (w.done c.receiver)) (by (is_sender k) (w.done c.sender)) (by (is_receiver k) (v.done c.receiver)) (by (is_sender k) (v.done c.sender)) x l.road.back h.faultless.1 theirs mine there (record { is = h.back; within = h.back_within });
    }

-- what is shown of the lane that it makes
sender_shows : (w : Network) (k : ℕ) (c : CableLine) (near far : Node) (e : SenderEnd) (r : ReceiverEnd) (l : Lane) (x : Entry) (o : Option Frame) (d : Deed) (fresh : Bool) (road : Road) → Shows w k c near far e r l → SenderLeaves w k c l x o → Ran x (after near (w.done c.sender)) d
    → end_in e.cable d.own.ends ≡ Some (Sends (record e { machine = road.sender })) → (is_running road.sender.state ≡ true → AreWithin (rows_of e.channel (do_all d.parts (after near (w.done c.sender)).manager)) road)
    → road.receiver ≡ l.road.receiver → road.out ≡ laid o l.road.out → road.back ≡ behind_if (is_popped x) l.road.back → Shows (does c.sender (x ∷ []) w) k c near far (record e { machine = road.sender }) r (lane fresh road)
sender_shows w k c near far e r l x o d fresh road h left did ends rows receiver out back =
    let next : after near ((does c.sender (x ∷ []) w).done c.sender) ≡ (done_by x (after near (w.done c.sender))).next = next_node w c.sender x near in
    record {
      faultless = h.faultless;
      near_is = h.near_is;
      far_is = h.far_is;
      cables = h.cables;
      sends = record {
        machine = refl;
        here = ap (λ (z : Node). end_in e.cable z.own.ends) next ∙ ap (end_in e.cable) did.ends ∙ ends;
        rows = λ on. subst (λ (z : Node). AreWithin (rows_of e.channel z.manager) road) (sym next) (subst (λ (z : Plain). AreWithin (rows_of e.channel z) road) (sym did.manager) (rows on));
      };
      takes = record {
        machine = receiver ∙ h.takes.machine;
        here = ap (λ (es : List Entry). end_in r.cable (after far es).own.ends) left.still ∙ h.takes.here;
      };
      out = out ∙ left.out.is;
      back = back ∙ left.back.is;
      out_within = left.out.within;
      back_within = left.back.within;
    }

-- A SENDER'S TURN
sends_at : (w : Network) (k : ℕ) (c : CableLine) (near far : Node) (e : SenderEnd) (r : ReceiverEnd) (l : Lane) (x : Entry) → Good (does c.sender (x ∷ []) w) → Shows w k c near far e r l → x.actor ≡ actors.Sender k → x.call ≡ calls.Turn
    → x.effect.popped ≡ popped_by (turn_in w Slot.Sends k c).seen (pushed_of (turn_in w Slot.Sends k c).deed) → SenderMoves w k c near far e r l c.sender x
sends_at w k c near far e r l x g h actor call popped =
    let m : ℕ = c.sender in
    let n : Node = after near (w.done m) in
    let v : Network = does m (x ∷ []) w in
    let g0 : Good w = earlier w m x (inl call) g in
    let up : n.manager.running ≡ Up = g0.up m near h.near_is in
    let here : end_in k n.own.ends ≡ Some (Sends e) = ap (λ (i : ℕ). end_in i n.own.ends) (sym h.cables.0) ∙ h.sends.here in
    let seen0 : Seen = first_lying (back_of w k c) in
    let sees : seen0 ≡ waiting l.road.back = waits_as (back_of w k c) ∙ ap waiting (sym h.back) in
    let pops : x.effect.popped ≡ waiting l.road.back = popped
    ∙ ap (λ (o : Option Deed). popped_by seen0 (pushed_of o)) (ap (deed_at (actors.Sender k) calls.Turn seen0) (node_there w m near h.near_is) ∙ turn_there k 0 e n seen0 up here)
    ∙ senders_pop 0 e seen0 n ∙ sees in
    let ran : RanDeed x n = entry_ran w m x near g h.near_is (inl call) in
    let d : Deed = ran.deed in
    let is : sender_deed x.stamp e (waiting l.road.back) n ≡ Some d = sym (turn_there k x.stamp e n (waiting l.road.back) up here) ∙ (λ i. deed_of x.stamp (sym actor i) (sym call i) (sym pops i) n) ∙ ran.is in
    let wants : d.wanting ≡ None = subst EachWantsNone is (senders_want x.stamp e (waiting l.road.back) n) in
    let did : Ran x n d = ran.ran wants in
    let fit : IsFit n = fit_now w m near g0 h.near_is in
    let fits : FitsSender e n = fit.senders k e here in
    let t : TurnsLane e n d l.road = sender_turns e n l.road x.stamp d h.sends fits (fit.distinct (queue_of_sender e.channel n.manager)) is in
    let road : Road = sender_turn t.turn l.road in
    let next : after near (v.done m) ≡ (done_by x n).next = next_node w m x near in
    let told = told_here w m x near g h.near_is in
    let pushed : x.effect.pushed ≡ d.pushed = told.1.pushed ∙ did.pushed in
    let left : SenderLeaves w k c l x d.pushed = sender_leaves w k c near far e r l x d.pushed h actor pushed (λ p. sym (pops_as x (waiting l.road.back) pops) ∙ p) in
    let takes_ : taken_from (sender_does t.turn l.road) l.road.back ≡ behind_if (is_popped x) l.road.back = taken_as (sender_does t.turn l.road) l.road.back (takes_seen l.road.sender (waiting l.road.back) t.turn.stock) ∙ ap (λ (b : Bool). behind_if b l.road.back) (sym (pops_as x (waiting l.road.back) pops)) in
    record {
      turn = t.turn;
      may = t.may;
      deed = d;
      at = refl;
      is = is;
      did = did;
      next = next;
      still = left.still;
      ends = t.ends;
      out = t.out;
      shows = sender_shows w k c near far e r l x d.pushed d l.fresh road h left did t.ends t.rows t.receiver t.out (t.back ∙ takes_);
    }

pub sends_move : (w : Network) (k : ℕ) (c : CableLine) (near far : Node) (e : SenderEnd) (r : ReceiverEnd) (l : Lane) (m : ℕ) (x : Entry) → Good (does m (x ∷ []) w) → Shows w k c near far e r l → TakesTurn (turn_in w Slot.Sends k c) m x → SenderMoves w k c near far e r l m x
sends_move w k c near far e r l m x g h t = subst (λ (i : ℕ). Good (does i (x ∷ []) w) → SenderMoves w k c near far e r l i x) (sym t.is.0) (λ g1. sends_at w k c near far e r l x g1 h t.is.1 t.is.2 t.popped) g

-- A SENDER'S TIMEOUT
nothing_popped : (o : Option Frame) → popped_by items.Nothing o ≡ items.Nothing
nothing_popped None = refl
nothing_popped (Some f) = refl

times_out_at : (w : Network) (k : ℕ) (c : CableLine) (near far : Node) (e : SenderEnd) (r : ReceiverEnd) (l : Lane) (x : Entry) → Good (does c.sender (x ∷ []) w) → Shows w k c near far e r l → x.actor ≡ actors.Sender k → x.call ≡ calls.Timeout
    → x.effect.popped ≡ popped_by (turn_in w Slot.TimesOut k c).seen (pushed_of (turn_in w Slot.TimesOut k c).deed) → SenderTimesOut w k c near far e r l c.sender x
times_out_at w k c near far e r l x g h actor call popped =
    let m : ℕ = c.sender in
    let n : Node = after near (w.done m) in
    let v : Network = does m (x ∷ []) w in
    let g0 : Good w = earlier w m x (inr (inl call)) g in
    let up : n.manager.running ≡ Up = g0.up m near h.near_is in
    let here : end_in k n.own.ends ≡ Some (Sends e) = ap (λ (i : ℕ). end_in i n.own.ends) (sym h.cables.0) ∙ h.sends.here in
    let pops : x.effect.popped ≡ items.Nothing = popped ∙ nothing_popped (pushed_of (turn_in w Slot.TimesOut k c).deed) in
    let none : is_popped x ≡ false = pops_as x items.Nothing pops in
    let ran : RanDeed x n = entry_ran w m x near g h.near_is (inr (inl call)) in
    let d : Deed = ran.deed in
    let is : timeout_deed e n ≡ Some d = sym (timeout_there k x.stamp e n x.effect.popped up here) ∙ (λ i. deed_of x.stamp (sym actor i) (sym call i) x.effect.popped n) ∙ ran.is in
    let wants : d.wanting ≡ None = subst EachWantsNone is (timeouts_want e n) in
    let did : Ran x n d = ran.ran wants in
    let t : TimesOutLane e n d l.road = sender_times_out e n l.road d h.sends is in
    let next : after near (v.done m) ≡ (done_by x n).next = next_node w m x near in
    let told = told_here w m x near g h.near_is in
    let pushed : x.effect.pushed ≡ None = told.1.pushed ∙ did.pushed ∙ t.pushed in
    let left : SenderLeaves w k c l x None = sender_leaves w k c near far e r l x None h actor pushed (λ p. absurd (true≢false (sym p ∙ none))) in
    record {
      waits = t.waits;
      deed = d;
      at = refl;
      is = is;
      did = did;
      next = next;
      still = left.still;
      ends = t.ends;
      shows = sender_shows w k c near far e r l x None d true (sender_timed_out l.road) h left did t.ends (λ on. record { free = (t.rows on).free; held = (t.rows on).held }) refl refl (ap (λ (b : Bool). behind_if b l.road.back) (sym none));
    }

pub times_out_moves : (w : Network) (k : ℕ) (c : CableLine) (near far : Node) (e : SenderEnd) (r : ReceiverEnd) (l : Lane) (m : ℕ) (x : Entry) → Good (does m (x ∷ []) w) → Shows w k c near far e r l → TakesTurn (turn_in w Slot.TimesOut k c) m x → SenderTimesOut w k c near far e r l m x
times_out_moves w k c near far e r l m x g h t = subst (λ (i : ℕ). Good (does i (x ∷ []) w) → SenderTimesOut w k c near far e r l i x) (sym t.is.0) (λ g1. times_out_at w k c near far e r l x g1 h t.is.1 t.is.2 t.popped) g

-- A RECEIVER'S TURN
abbrev TakesWaiting : Bool → Seen → ReceiverDoes → Type 0
TakesWaiting owes seen takes.Still = Unit {0}
TakesWaiting owes seen takes.PushOwed = owes ≡ true
TakesWaiting owes seen _ = waits seen ≡ true

takes_waiting : (m : Receiver) (seen : Seen) (defined : Bool) → TakesWaiting (is_some m.owes) seen (receiver_next m seen defined)
takes_waiting m seen defined = by_lines (TakesWaiting (is_some m.owes) seen) takes.Still (receiver_lines m seen defined) (
  (λ e. e),
  λ e0. (
    (λ e. new_waits m seen (and_both _ _ (and_both _ _ e).0).0),
    λ e1. (
      (λ e. continues_waits m seen e),
      λ e2. (
        (λ e. repeats_waits m seen e),
        λ e3. (
          (λ e. completes_waits m seen e),
          λ e4. (
            (λ e. spoiled_waits seen (and_both _ _ e).0),
            λ e5. ((λ e. waits_same seen e), λ e6. tt),
          ),
        ),
      ),
    ),
  ),
)

received_as : (d : ReceiverDoes) (xs : List Seen) → TakesWaiting false (waiting xs) d → (d ≡ takes.Still → ⊥) → taken_by d xs ≡ behind_if (waits (waiting xs)) xs
received_as takes.Still xs h changed = absurd (changed refl)
received_as takes.PushOwed xs h changed = absurd cc
received_as takes.Ignore xs h changed = ap (λ (b : Bool). behind_if b xs) (sym h)
received_as takes.Bind xs h changed = ap (λ (b : Bool). behind_if b xs) (sym h)
received_as takes.Keep xs h changed = ap (λ (b : Bool). behind_if b xs) (sym h)
received_as (takes.Place unit) xs h changed = ap (λ (b : Bool). behind_if b xs) (sym h)
received_as takes.Again xs h changed = ap (λ (b : Bool). behind_if b xs) (sym h)
received_as takes.Close xs h changed = ap (λ (b : Bool). behind_if b xs) (sym h)

owes_pushes : (stamp : ℕ) (o : Option Owed) (seen : Seen) → is_some o ≡ true → popped_by seen (option_map (owed_frame stamp) o) ≡ items.Nothing
owes_pushes stamp None seen e = absurd cc
owes_pushes stamp (Some o) seen e = refl

-- what a receiver's turn takes is what it popped
abbrev TakesIt : (m : Receiver) (defined : Bool) (x : Entry) (xs : List Seen) → Type 0
TakesIt m defined x xs = (taken_by (receiver_next m (waiting xs) defined) xs ≡ behind_if (is_popped x) xs) × (is_popped x ≡ true → waits (waiting xs) ≡ true)

takes_it : (r : ReceiverEnd) (n : Node) (x : Entry) (xs : List Seen) (seen : Seen) → seen ≡ waiting xs → x.effect.popped ≡ popped_by seen (pushed_of (receiver_deed 0 r seen n))
    → (receiver_next r.machine (waiting xs) (is_receiver_defined r.channel n.manager.definitions) ≡ takes.Still → ⊥) → TakesIt r.machine (is_receiver_defined r.channel n.manager.definitions) x xs
takes_it r n x xs seen sees popped changed = bool_case (is_some r.machine.owes) (λ b. is_some r.machine.owes ≡ b → TakesIt r.machine (is_receiver_defined r.channel n.manager.definitions) x xs)
    (λ z owes.
    let none : is_popped x ≡ false = pops_as x items.Nothing (popped ∙ ap (λ (y : ReceiverDoes). popped_by seen (pushed_of (receiver_deed_by 0 r seen y n))) (owed_first r.machine seen (is_receiver_defined r.channel n.manager.definitions) owes) ∙ owes_pushes 0 r.machine.owes seen owes) in (
      ap (λ (y : ReceiverDoes). taken_by y xs) (owed_first r.machine (waiting xs) (is_receiver_defined r.channel n.manager.definitions) owes) ∙ ap (λ (b : Bool). behind_if b xs) (sym none),
      λ p. absurd (true≢false (sym p ∙ none)),
    ))
    (λ z free.
    let all : x.effect.popped ≡ waiting xs = popped ∙ unowed (receivers_pop 0 r seen n) free ∙ sees in (
      received_as (receiver_next r.machine (waiting xs) (is_receiver_defined r.channel n.manager.definitions)) xs (subst (λ (b : Bool). TakesWaiting b (waiting xs) (receiver_next r.machine (waiting xs) (is_receiver_defined r.channel n.manager.definitions))) free (takes_waiting r.machine (waiting xs) (is_receiver_defined r.channel n.manager.definitions))) changed
          ∙ ap (λ (b : Bool). behind_if b xs) (sym (pops_as x (waiting xs) all)),
      λ p. sym (pops_as x (waiting xs) all) ∙ p,
    )) refl
  where
    unowed : {A : Type 0} → A ⊎ (is_some r.machine.owes ≡ true) → is_some r.machine.owes ≡ false → A
    unowed (inl a) free = a
    unowed (inr owes) free = absurd (true≢false (sym owes ∙ free))

receives_at : (w : Network) (k : ℕ) (c : CableLine) (near far : Node) (e : SenderEnd) (r : ReceiverEnd) (l : Lane) (x : Entry) → Good (does c.receiver (x ∷ []) w) → Shows w k c near far e r l → x.actor ≡ actors.Receiver k → x.call ≡ calls.Turn
    → x.effect.popped ≡ popped_by (turn_in w Slot.Receives k c).seen (pushed_of (turn_in w Slot.Receives k c).deed) → ReceiverMoves w k c near far e r l c.receiver x
receives_at w k c near far e r l x g h actor call popped =
    let m : ℕ = c.receiver in
    let n : Node = after far (w.done m) in
    let v : Network = does m (x ∷ []) w in
    let g0 : Good w = earlier w m x (inl call) g in
    let up : n.manager.running ≡ Up = g0.up m far h.far_is in
    let here : end_in k n.own.ends ≡ Some (Receives r) = ap (λ (i : ℕ). end_in i n.own.ends) (sym h.cables.1) ∙ h.takes.here in
    let seen0 : Seen = first_lying (out_of w k c) in
    let sees : seen0 ≡ waiting l.road.out = waits_as (out_of w k c) ∙ ap waiting (sym h.out) in
    let pops0 : x.effect.popped ≡ popped_by seen0 (pushed_of (receiver_deed 0 r seen0 n)) = popped
    ∙ ap (λ (o : Option Deed). popped_by seen0 (pushed_of o)) (ap (deed_at (actors.Receiver k) calls.Turn seen0) (node_there w m far h.far_is) ∙ taking_there k 0 r n seen0 up here) in
    let pops : (x.effect.popped ≡ waiting l.road.out) ⊎ (is_some r.machine.owes ≡ true) = or_owes (receivers_pop 0 r seen0 n) (λ z. pops0 ∙ z ∙ sees) in
    let ran : RanDeed x n = entry_ran w m x far g h.far_is (inl call) in
    let d : Deed = ran.deed in
    let is : receiver_deed x.stamp r x.effect.popped n ≡ Some d = sym (taking_there k x.stamp r n x.effect.popped up here) ∙ (λ i. deed_of x.stamp (sym actor i) (sym call i) x.effect.popped n) ∙ ran.is in
    let wants : d.wanting ≡ None = subst EachWantsNone is (receivers_want x.stamp r x.effect.popped n) in
    let did : Ran x n d = ran.ran wants in
    let t : TakesLane r n d l.road = receiver_takes r n l.road x.stamp x.effect.popped d h.takes pops is in
    let road : Road = receiver_turn t.turn l.road in
    let next : after far (v.done m) ≡ (done_by x n).next = next_node w m x far in
    let apart : (c.sender == m) ≡ false = turned_eq c.receiver c.sender (two_managers w k c near far e r l h) in
    let still : v.done c.sender ≡ w.done c.sender = else_done w m x c.sender apart in
    let told = told_here w m x far g h.far_is in
    let pushed : x.effect.pushed ≡ d.pushed = told.1.pushed ∙ did.pushed in
    let mine : by (is_receiver k) (v.done m) ≡ by (is_receiver k) (w.done m) ++ x ∷ [] = ap (by (is_receiver k)) (here_done w m x) ∙ by_receiver k x (w.done m) actor in
    let theirs : by (is_sender k) (v.done c.sender) ≡ by (is_sender k) (w.done c.sender) = ap (by (is_sender k)) still in
    let does_so : receiver_next r.machine (waiting l.road.out) (is_receiver_defined r.channel n.manager.definitions) ≡ receiver_does t.turn l.road = (λ i. receiver_next (sym h.takes.machine i) (waiting l.road.out) (sym t.defined i)) in
    let it : TakesIt r.machine (is_receiver_defined r.channel n.manager.definitions) x l.road.out = takes_it r n x l.road.out seen0 sees pops0 (λ z. t.may.changed.0 (sym does_so ∙ z)) in
    let out : WayIs c.out (by (is_sender k) (v.done c.sender)) (by (is_receiver k) (v.done m)) (behind_if (is_popped x) l.road.out) =
    popped_more c.out (by (is_sender k) (w.done c.sender)) (by (is_receiver k) (w.done m)) (by (is_sender k) (v.done c.sender)) (by (is_receiver k) (v.done m)) x l.road.out h.faultless.0 theirs mine it.1 (record { is = h.out; within = h.out_within }) in
    let back : WayIs c.back (by (is_receiver k) (v.done m)) (by (is_sender k) (v.done c.sender)) (laid d.pushed l.road.back) =
    pushed_more c.back (by (is_receiver k) (w.done m)) (by (is_sender k) (w.done c.sender)) (by (is_receiver k) (v.done m)) (by (is_sender k) (v.done c.sender)) x d.pushed l.road.back h.faultless.1 mine theirs pushed (record { is = h.back; within = h.back_within }) in
    record {
      turn = t.turn;
      defined = t.defined;
      may = t.may;
      deed = d;
      at = refl;
      is = is;
      did = did;
      next = next;
      still = still;
      popped = seen_or seen0 (pushed_of (receiver_deed 0 r seen0 n)) (waiting l.road.out) x.effect.popped sees pops0;
      kept = t.kept;
      ends = t.ends;
      shows = record {
        faultless = h.faultless;
        near_is = h.near_is;
        far_is = h.far_is;
        cables = h.cables;
        sends = record {
          machine = t.sender ∙ h.sends.machine;
          here = ap (λ (es : List Entry). end_in e.cable (after near es).own.ends) still ∙ h.sends.here;
          rows = λ on. subst (λ (es : List Entry). AreWithin (rows_of e.channel (after near es).manager) road) (sym still) (record {
            free = subst (λ (a : ℕ). free_in (rows_of e.channel (after near (w.done c.sender)).manager) ≤ a) (sym t.free) (h.sends.rows on).free;
            held = subst (λ (a : ℕ). held_in (rows_of e.channel (after near (w.done c.sender)).manager) ≤ a) (sym t.held) (h.sends.rows on).held;
          });
        };
        takes = record {
          machine = refl;
          here = ap (λ (z : Node). end_in r.cable z.own.ends) next ∙ ap (end_in r.cable) did.ends ∙ t.ends;
        };
        out = t.out ∙ ap (λ (y : ReceiverDoes). taken_by y l.road.out) (sym does_so) ∙ it.0 ∙ out.is;
        back = t.back ∙ back.is;
        out_within = out.within;
        back_within = back.within;
      };
    }
  where
    seen_or : (seen : Seen) (o : Option Frame) (first popped : Seen) → seen ≡ first → popped ≡ popped_by seen o → (popped ≡ first) ⊎ (popped ≡ items.Nothing)
    seen_or seen None first popped a b = inl (b ∙ a)
    seen_or seen (Some f) first popped a b = inr b

    or_owes : {A B C : Type 0} → A ⊎ C → (A → B) → B ⊎ C
    or_owes (inl a) f = inl (f a)
    or_owes (inr z) f = inr z

    by_receiver : (j : ℕ) (x1 : Entry) (es : List Entry) → x1.actor ≡ actors.Receiver j → by (is_receiver j) (es ++ x1 ∷ []) ≡ by (is_receiver j) es ++ x1 ∷ []
    by_receiver j x1 es a = by_more (is_receiver j) es x1 ∙ ap (λ b. by (is_receiver j) es ++ kept_if b x1) (ap (is_receiver j) a ∙ nat_self j)

pub receives_move : (w : Network) (k : ℕ) (c : CableLine) (near far : Node) (e : SenderEnd) (r : ReceiverEnd) (l : Lane) (m : ℕ) (x : Entry) → Good (does m (x ∷ []) w) → Shows w k c near far e r l → TakesTurn (turn_in w Slot.Receives k c) m x → ReceiverMoves w k c near far e r l m x
receives_move w k c near far e r l m x g h t = subst (λ (i : ℕ). Good (does i (x ∷ []) w) → ReceiverMoves w k c near far e r l i x) (sym t.is.0) (λ g1. receives_at w k c near far e r l x g1 h t.is.1 t.is.2 t.popped) g
