-- An entry of a PUMP that is of another cable, or a trigger turn, leaves what a lane sees.
use Rattle.std.proofs.Common.{ℕ, ◌≡◌, Bool, true, false, List, [], ◌∷◌, ◌++◌, refl, ap, sym, subst, ◌∙◌, append-nil, inl, inr}
use Rattle.std.specs.Prelude.{if◌then◌else◌, Option, Some, None, ◌==◌, ◌&&◌, slice_get}
use Rattle.std.proofs.lemmas.Bool.{true≢false}
use Rattle.mq_cable.specs.declared.fault.Fault.{Fault}
use Rattle.mq_frame.specs.declared.frame.Frame.{Frame}
use Rattle.mq_frame.specs.declared.frame.Seen.{Seen}
use Rattle.mq_frame.specs.declared.frame.Seen.TheVariants as items
use Rattle.mq_history.specs.declared.calls.Actor.{Actor}
use Rattle.mq_history.specs.declared.calls.Actor.TheVariants as actors
use Rattle.mq_history.specs.declared.calls.Call.{Call}
use Rattle.mq_history.specs.declared.calls.Call.TheVariants as calls
use Rattle.mq_history.specs.declared.calls.Entry.{Entry}
use Rattle.mq_history.specs.declared.scenario.CableLine.{CableLine}
use Rattle.mq_sender.specs.States.{is_running}
use Rattle.mq_sender.specs.Table.{waits}
use Rattle.mq_calls.specs.Steps.{do_all}
use Rattle.mq_spec_manager.specs.Agents.{queue_of_sender}
use Rattle.mq_spec_node.specs.Calls.{trigger_deed}
use Rattle.mq_spec_node.specs.Deeds.{Deed}
use Rattle.mq_spec_node.specs.Doers.{by, is_receiver, is_sender}
use Rattle.mq_spec_node.specs.Happens.{deed_of}
use Rattle.mq_spec_node.specs.Node.{Node, ReceiverEnd, SenderEnd, end_in}
use Rattle.mq_spec_node.specs.Node.ChannelEnd.{Sends}
use Rattle.mq_spec_node.specs.Receivers.{receiver_deed}
use Rattle.mq_spec_node.specs.Replays.{IsPop, after, done_by}
use Rattle.mq_spec_node.specs.Senders.{sender_deed, timeout_deed}
use Rattle.mq_spec_network.specs.Cables.{is_popped, lying}
use Rattle.mq_spec_network.specs.Steps.{TakesTurn, turn_in}
use Rattle.mq_spec_network.specs.Tasks.{Slot}
use Rattle.mq_spec_network.specs.Turns.{Network, does, node_at}
use Rattle.mq_law_channel.proofs.Told.{and_both}
use Rattle.mq_law_idle.specs.Lanes.{Lane}
use Rattle.mq_law_idle.specs.Roads.{Road, waiting}
use Rattle.mq_law_manager.proofs.Lists.{eqb_yes}
use Rattle.mq_law_node.proofs.Named.{bool_case}
use Rattle.mq_law_pump.specs.Apart.{EachEndStays, EachIsSilent}
use Rattle.mq_law_pump.specs.Away.{AllAway, IsAsBegun, RunsOn}
use Rattle.mq_law_pump.specs.Deeds.{EachWantsNone, HasReceiver, HasSender}
use Rattle.mq_law_pump.specs.Entries.{Ran, RanDeed}
use Rattle.mq_law_pump.specs.Fit.{Good, IsFit}
use Rattle.mq_law_pump.specs.Leaves.{EachDefinesNone}
use Rattle.mq_law_pump.specs.Others.{EachAddsNone}
use Rattle.mq_law_pump.specs.Sees.{BesideFar, BesideNear, FarNeeds, NearNeeds, Sees}
use Rattle.mq_law_pump.specs.Shown.{ReceiverMoves, SenderMoves, SenderTimesOut}
use Rattle.mq_law_pump.specs.Steady.{IsOf}
use Rattle.mq_law_pump.specs.Ways.{IsWithin, behind_if, seen_of}
use Rattle.mq_law_pump.proofs.Aparting.{all_elsewhere, open_alone, other_sender_none, other_timeout_none, receivers_end, senders_end, timeouts_end, triggers_end, triggers_silent}
use Rattle.mq_law_pump.proofs.Defining.{receivers_define_none, senders_define_none, timeouts_define_none, triggers_define_none}
use Rattle.mq_law_pump.proofs.Entries.{entry_ran, triggers_want}
use Rattle.mq_law_pump.proofs.Histories.{after_more, earlier, here_done, never_empty, told_here}
use Rattle.mq_law_pump.proofs.Landing.{receivers_add_none, triggers_add_none}
use Rattle.mq_law_pump.proofs.Leaving.{none_leaves}
use Rattle.mq_law_pump.proofs.Moving.{fit_now, pops_as, pops_within, pushes_within, receives_move, sends_move, some_node, times_out_moves}
use Rattle.mq_law_pump.proofs.Openings.{lane_stays}
use Rattle.mq_law_pump.proofs.Seeing.{far_on, near_on, sees_on}
use Rattle.mq_law_pump.proofs.Ways.{by_more, kept_if, laid_last, taken_first}

apart_eq : (a b : ℕ) → (b ≡ a → ⊥) → (a == b) ≡ false
apart_eq a b h = bool_case (a == b) (λ t. t ≡ false) (λ z. absurd (h (sym (eqb_yes a b z)))) (λ z. refl)

-- WHAT LIES ON ITS CABLE
by_does : (test : Actor → Bool) (w : Network) (m : ℕ) (x : Entry) (i : ℕ) → by test ((does m (x ∷ []) w).done i) ≡ by test (w.done i) ++ kept_if ((i == m) && test x.actor) x
by_does test w m x i = bool_case (i == m) (λ b. by test (if b then w.done i ++ x ∷ [] else w.done i) ≡ by test (w.done i) ++ kept_if (b && test x.actor) x)
    (λ z. by_more test (w.done i) x) (λ z. sym (append-nil (by test (w.done i))))

pushes_quiet : (b : Bool) (pushes pops : List Entry) (x : Entry) → IsWithin pushes pops → (b ≡ true → x.effect.pushed ≡ None)
    → (seen_of (lying [] (pushes ++ kept_if b x) pops) ≡ seen_of (lying [] pushes pops)) × IsWithin (pushes ++ kept_if b x) pops
pushes_quiet true pushes pops x within h = (laid_last pushes pops x None within (h refl), pushes_within pushes pops x within)
pushes_quiet false pushes pops x within h = (ap (λ (es : List Entry). seen_of (lying [] es pops)) (append-nil pushes), subst (λ (es : List Entry). IsWithin es pops) (sym (append-nil pushes)) within)

pops_quiet : (b : Bool) (pushes pops : List Entry) (x : Entry) → IsWithin pushes pops → (b ≡ true → is_popped x ≡ false)
    → (seen_of (lying [] pushes (pops ++ kept_if b x)) ≡ seen_of (lying [] pushes pops)) × IsWithin pushes (pops ++ kept_if b x)
pops_quiet true pushes pops x within h = (
  taken_first pushes pops x ∙ ap (λ (t : Bool). behind_if t (seen_of (lying [] pushes pops))) (h refl),
  pops_within pushes pops x within (λ p. absurd (true≢false (sym p ∙ h refl))),
)
pops_quiet false pushes pops x within h = (ap (λ (es : List Entry). seen_of (lying [] pushes es)) (append-nil pops), subst (IsWithin pushes) (sym (append-nil pops)) within)

abbrev WayStays : List Fault → (pushes pops pushes1 pops1 : List Entry) → Type 0
WayStays fs pushes pops pushes1 pops1 = (seen_of (lying fs pushes1 pops1) ≡ seen_of (lying fs pushes pops)) × IsWithin pushes1 pops1

way_quiet : (a b : Bool) (pushes pops : List Entry) (x : Entry) → IsWithin pushes pops → (a ≡ true → x.effect.pushed ≡ None) → (b ≡ true → is_popped x ≡ false) → WayStays [] pushes pops (pushes ++ kept_if a x) (pops ++ kept_if b x)
way_quiet a b pushes pops x within g h =
    let p = pushes_quiet a pushes pops x within g in
    let q = pops_quiet b (pushes ++ kept_if a x) pops x p.1 h in
    (q.0 ∙ p.0, q.1)

way_beside : (fs : List Fault) (w : Network) (m : ℕ) (x : Entry) (ti tj : Actor → Bool) (i j : ℕ) → fs ≡ [] → IsWithin (by ti (w.done i)) (by tj (w.done j)) → (ti x.actor ≡ true → x.effect.pushed ≡ None) → (tj x.actor ≡ true → is_popped x ≡ false)
    → WayStays fs (by ti (w.done i)) (by tj (w.done j)) (by ti ((does m (x ∷ []) w).done i)) (by tj ((does m (x ∷ []) w).done j))
way_beside fs w m x ti tj i j none within g h =
    let p : by ti ((does m (x ∷ []) w).done i) ≡ by ti (w.done i) ++ kept_if ((i == m) && ti x.actor) x = by_does ti w m x i in
    let q : by tj ((does m (x ∷ []) w).done j) ≡ by tj (w.done j) ++ kept_if ((j == m) && tj x.actor) x = by_does tj w m x j in
    let y : WayStays [] (by ti (w.done i)) (by tj (w.done j)) (by ti (w.done i) ++ kept_if ((i == m) && ti x.actor) x) (by tj (w.done j) ++ kept_if ((j == m) && tj x.actor) x) =
    way_quiet ((i == m) && ti x.actor) ((j == m) && tj x.actor) (by ti (w.done i)) (by tj (w.done j)) x within (λ z. g (and_both (i == m) (ti x.actor) z).1) (λ z. h (and_both (j == m) (tj x.actor) z).1) in
    subst (λ (zs : List Entry). WayStays fs (by ti (w.done i)) (by tj (w.done j)) zs (by tj ((does m (x ∷ []) w).done j))) (sym p)
    (subst (λ (zs : List Entry). WayStays fs (by ti (w.done i)) (by tj (w.done j)) (by ti (w.done i) ++ kept_if ((i == m) && ti x.actor) x) zs) (sym q)
    (subst (λ (gs : List Fault). WayStays gs (by ti (w.done i)) (by tj (w.done j)) (by ti (w.done i) ++ kept_if ((i == m) && ti x.actor) x) (by tj (w.done j) ++ kept_if ((j == m) && tj x.actor) x)) (sym none) y))

-- an entry that offers nothing to this cable and pops nothing of it
record IsQuietFor (j : ℕ) (x : Entry) : Type 0 where
  sends : is_sender j x.actor ≡ true → (x.effect.pushed ≡ None) × (is_popped x ≡ false)
  takes : is_receiver j x.actor ≡ true → (x.effect.pushed ≡ None) × (is_popped x ≡ false)

-- ITS TWO MANAGERS
near_beside : (w : Network) (m : ℕ) (x : Entry) (i : ℕ) (base : Node) (e : SenderEnd) (road : Road) (near0 far0 : Node) → HasSender e (after base (w.done i)) road → NearNeeds (after base (w.done i)) near0 far0 e
    → ((i == m) ≡ true → BesideNear e (after base (w.done i)) x) → HasSender e (after base ((does m (x ∷ []) w).done i)) road × NearNeeds (after base ((does m (x ∷ []) w).done i)) near0 far0 e
near_beside w m x i base e road near0 far0 has needs beside =
    bool_case (i == m) (λ b. HasSender e (after base (if b then w.done i ++ x ∷ [] else w.done i)) road × NearNeeds (after base (if b then w.done i ++ x ∷ [] else w.done i)) near0 far0 e)
    (λ z. with_deed (beside z)) (λ z. (has, needs))
  where
    with_deed : BesideNear e (after base (w.done i)) x → HasSender e (after base (w.done i ++ x ∷ [])) road × NearNeeds (after base (w.done i ++ x ∷ [])) near0 far0 e
    with_deed b =
        let n : Node = after base (w.done i) in
        let n1 : Node = after base (w.done i ++ x ∷ []) in
        let step : n1 ≡ (done_by x n).next = after_more base (w.done i) (x ∷ []) in
        let is : n1.manager ≡ do_all b.deed.parts n.manager = ap (λ (y : Node). y.manager) step ∙ b.ran.manager in (
          lane_stays e n n1 b.deed road has (ap (λ (y : Node). end_in e.cable y.own.ends) step ∙ ap (end_in e.cable) b.ran.ends ∙ b.ends) is b.adds,
          near_on n n1 near0 far0 e e.machine b.deed needs is b.defines (λ on. on) (λ on. none_leaves e.channel (queue_of_sender e.channel n.manager) b.deed.parts (b.adds on).0),
        )

far_beside : (w : Network) (m : ℕ) (x : Entry) (i : ℕ) (base : Node) (r : ReceiverEnd) (road : Road) (far0 : Node) → HasReceiver r (after base (w.done i)) road → FarNeeds (after base (w.done i)) far0 r
    → ((i == m) ≡ true → BesideFar r (after base (w.done i)) x) → HasReceiver r (after base ((does m (x ∷ []) w).done i)) road × FarNeeds (after base ((does m (x ∷ []) w).done i)) far0 r
far_beside w m x i base r road far0 has needs beside =
    bool_case (i == m) (λ b. HasReceiver r (after base (if b then w.done i ++ x ∷ [] else w.done i)) road × FarNeeds (after base (if b then w.done i ++ x ∷ [] else w.done i)) far0 r)
    (λ z. with_deed (beside z)) (λ z. (has, needs))
  where
    with_deed : BesideFar r (after base (w.done i)) x → HasReceiver r (after base (w.done i ++ x ∷ [])) road × FarNeeds (after base (w.done i ++ x ∷ [])) far0 r
    with_deed b =
        let n : Node = after base (w.done i) in
        let n1 : Node = after base (w.done i ++ x ∷ []) in
        let step : n1 ≡ (done_by x n).next = after_more base (w.done i) (x ∷ []) in (
          record { machine = has.machine; here = ap (λ (y : Node). end_in r.cable y.own.ends) step ∙ ap (end_in r.cable) b.ran.ends ∙ b.ends ∙ has.here },
          far_on n n1 far0 r r.machine r.kept b.deed needs (ap (λ (y : Node). y.manager) step ∙ b.ran.manager) b.defines needs.kept,
        )

sees_beside : (w0 w : Network) (m : ℕ) (x : Entry) (j : ℕ) (d : CableLine) (l : Lane) (h : Sees w0 w j d l) → IsQuietFor j x → ((d.sender == m) ≡ true → BesideNear h.sender (after h.near (w.done d.sender)) x)
    → ((d.receiver == m) ≡ true → BesideFar h.receiver (after h.far (w.done d.receiver)) x) → Sees w0 (does m (x ∷ []) w) j d l
sees_beside w0 w m x j d l h quiet nb fb =
    let near = near_beside w m x d.sender h.near h.sender l.road h.near0 h.far0 h.shows.sends h.near_needs nb in
    let far = far_beside w m x d.receiver h.far h.receiver l.road h.far0 h.shows.takes h.far_needs fb in
    let out = way_beside d.out w m x (is_sender j) (is_receiver j) d.sender d.receiver h.shows.faultless.0 h.shows.out_within (λ z. (quiet.sends z).0) (λ z. (quiet.takes z).1) in
    let back = way_beside d.back w m x (is_receiver j) (is_sender j) d.receiver d.sender h.shows.faultless.1 h.shows.back_within (λ z. (quiet.takes z).0) (λ z. (quiet.sends z).1) in
    sees_on w0 w (does m (x ∷ []) w) j d l l h h.sender h.receiver (record {
      faultless = h.shows.faultless;
      near_is = h.shows.near_is;
      far_is = h.shows.far_is;
      cables = h.shows.cables;
      sends = near.0;
      takes = far.0;
      out = h.shows.out ∙ sym out.0;
      back = h.shows.back ∙ sym back.0;
      out_within = out.1;
      back_within = back.1;
    }) near.1 far.1 h.lane_needs

-- AN ENTRY WHOSE DEED RAN
-- at this manager, whatever a sender of the cable there may be
abbrev AddsNone : Network → Network → ℕ → Node → ℕ → Option Deed → Type 0
AddsNone w0 w m n j o = (e : SenderEnd) (near0 : Node) → end_in j n.own.ends ≡ Some (Sends e) → is_running e.machine.state ≡ true → node_at w0 m ≡ Some near0 → IsAsBegun n.manager near0.manager
    → RunsOn near0 (queue_of_sender e.channel n.manager) → EachAddsNone e.channel (queue_of_sender e.channel n.manager) o

entry_beside : (w0 w : Network) (m : ℕ) (x : Entry) (b : Node) (deed : Deed) (o : Option Deed) (j : ℕ) (d : CableLine) (l : Lane) → Good w → w.first m ≡ Some b → Sees w0 w j d l → IsQuietFor j x → o ≡ Some deed → Ran x (after b (w.done m)) deed
    → EachEndStays j (after b (w.done m)) o → EachDefinesNone o → AddsNone w0 w m (after b (w.done m)) j o → Sees w0 (does m (x ∷ []) w) j d l
entry_beside w0 w m x b deed o j d l g first h quiet is ran stays defines adds = sees_beside w0 w m x j d l h quiet
    (λ z. let same : d.sender ≡ m = eqb_yes d.sender m z in near same (some_node h.near b (sym h.shows.near_is ∙ ap w.first same ∙ first)))
    (λ z. let same : d.receiver ≡ m = eqb_yes d.receiver m z in far same (some_node h.far b (sym h.shows.far_is ∙ ap w.first same ∙ first)))
  where
    near : d.sender ≡ m → h.near ≡ b → BesideNear h.sender (after h.near (w.done d.sender)) x
    near same one =
        let n : Node = after h.near (w.done d.sender) in
        let nodes : after b (w.done m) ≡ n = (λ i. after (sym one i) (w.done (sym same i))) in
        let here : end_in j n.own.ends ≡ Some (Sends h.sender) = ap (λ (i : ℕ). end_in i n.own.ends) (sym h.shows.cables.0) ∙ h.shows.sends.here in
        let fit : IsFit n = fit_now w d.sender h.near g h.shows.near_is in
        record {
          deed = deed;
          ran = subst (λ (y : Node). Ran x y deed) nodes ran;
          ends = subst (λ (i : ℕ). end_in i deed.own.ends ≡ end_in i n.own.ends) (sym h.shows.cables.0) (subst (λ (y : Node). EachEndStays j y (Some deed)) nodes (subst (EachEndStays j (after b (w.done m))) is stays));
          defines = subst EachDefinesNone is defines;
          adds = λ on. (
            subst (EachAddsNone h.sender.channel (queue_of_sender h.sender.channel n.manager)) is
                ((subst (λ (y : Node). AddsNone w0 w m y j o) nodes adds) h.sender h.near0 here on (sym (ap (node_at w0) same) ∙ h.near0_is) h.near_needs.same (h.near_needs.queue on)),
            (open_alone h.sender.channel n.manager ((fit.senders j h.sender here).open_ on) fit.seized).1,
          );
        }

    far : d.receiver ≡ m → h.far ≡ b → BesideFar h.receiver (after h.far (w.done d.receiver)) x
    far same one =
        let n : Node = after h.far (w.done d.receiver) in
        let nodes : after b (w.done m) ≡ n = (λ i. after (sym one i) (w.done (sym same i))) in
        record {
          deed = deed;
          ran = subst (λ (y : Node). Ran x y deed) nodes ran;
          ends = subst (λ (i : ℕ). end_in i deed.own.ends ≡ end_in i n.own.ends) (sym h.shows.cables.1) (subst (λ (y : Node). EachEndStays j y (Some deed)) nodes (subst (EachEndStays j (after b (w.done m))) is stays));
          defines = subst EachDefinesNone is defines;
        }

-- ANOTHER CABLE'S ENTRIES
quiet_sends : (k j : ℕ) (x : Entry) → (j ≡ k → ⊥) → x.actor ≡ actors.Sender k → IsQuietFor j x
quiet_sends k j x apart actor = record {
  sends = λ z. absurd (apart (sym (eqb_yes k j (sym (ap (is_sender j) actor) ∙ z))));
  takes = λ z. absurd (true≢false (sym z ∙ ap (is_receiver j) actor));
}

quiet_takes : (k j : ℕ) (x : Entry) → (j ≡ k → ⊥) → x.actor ≡ actors.Receiver k → IsQuietFor j x
quiet_takes k j x apart actor = record {
  sends = λ z. absurd (true≢false (sym z ∙ ap (is_sender j) actor));
  takes = λ z. absurd (apart (sym (eqb_yes k j (sym (ap (is_receiver j) actor) ∙ z))));
}

other_sends : (w0 w : Network) (k : ℕ) (c : CableLine) (m : ℕ) (x : Entry) (j : ℕ) (d : CableLine) (l moving : Lane) → Good (does m (x ∷ []) w) → Sees w0 w j d l → Sees w0 w k c moving → TakesTurn (turn_in w Slot.Sends k c) m x → (j ≡ k → ⊥)
    → Sees w0 (does m (x ∷ []) w) j d l
other_sends w0 w k c m x j d l moving g h there t apart =
    let s : SenderMoves w k c there.near there.far there.sender there.receiver moving m x = sends_move w k c there.near there.far there.sender there.receiver moving m x g there.shows t in
    let g0 : Good w = earlier w m x (inl t.is.2) g in
    let f : SenderEnd = there.sender in
    let n : Node = after there.near (w.done m) in
    let first : w.first m ≡ Some there.near = ap w.first s.at ∙ there.shows.near_is in
    let seen : Seen = waiting moving.road.back in
    let is : sender_deed x.stamp f seen n ≡ Some s.deed = ap (λ (i : ℕ). sender_deed x.stamp f seen (after there.near (w.done i))) s.at ∙ s.is in
    let fit : IsFit n = fit_now w m there.near g0 first in
    let mine : end_in k n.own.ends ≡ Some (Sends f) = (λ i. end_in (sym there.shows.cables.0 i) (after there.near (w.done (s.at i))).own.ends) ∙ there.shows.sends.here in
    entry_beside w0 w m x there.near s.deed (sender_deed x.stamp f seen n) j d l g0 first h (quiet_sends k j x apart t.is.1) is (subst (λ (i : ℕ). Ran x (after there.near (w.done i)) s.deed) (sym s.at) s.did)
    (senders_end j x.stamp f seen n (apart_eq f.cable j (λ z. apart (z ∙ there.shows.cables.0)))) (senders_define_none x.stamp f seen n)
    (λ e near0 here on base same runs. other_sender_none n j k x.stamp e f seen fit.keyed fit.seized here mine apart ((fit.senders j e here).open_ on) (fit.senders k f mine).open_)

other_times_out : (w0 w : Network) (k : ℕ) (c : CableLine) (m : ℕ) (x : Entry) (j : ℕ) (d : CableLine) (l moving : Lane) → Good (does m (x ∷ []) w) → Sees w0 w j d l → Sees w0 w k c moving → TakesTurn (turn_in w Slot.TimesOut k c) m x → (j ≡ k → ⊥)
    → Sees w0 (does m (x ∷ []) w) j d l
other_times_out w0 w k c m x j d l moving g h there t apart =
    let s : SenderTimesOut w k c there.near there.far there.sender there.receiver moving m x = times_out_moves w k c there.near there.far there.sender there.receiver moving m x g there.shows t in
    let g0 : Good w = earlier w m x (inr (inl t.is.2)) g in
    let f : SenderEnd = there.sender in
    let n : Node = after there.near (w.done m) in
    let first : w.first m ≡ Some there.near = ap w.first s.at ∙ there.shows.near_is in
    let is : timeout_deed f n ≡ Some s.deed = ap (λ (i : ℕ). timeout_deed f (after there.near (w.done i))) s.at ∙ s.is in
    let fit : IsFit n = fit_now w m there.near g0 first in
    let mine : end_in k n.own.ends ≡ Some (Sends f) = (λ i. end_in (sym there.shows.cables.0 i) (after there.near (w.done (s.at i))).own.ends) ∙ there.shows.sends.here in
    entry_beside w0 w m x there.near s.deed (timeout_deed f n) j d l g0 first h (quiet_sends k j x apart t.is.1) is (subst (λ (i : ℕ). Ran x (after there.near (w.done i)) s.deed) (sym s.at) s.did)
    (timeouts_end j f n (apart_eq f.cable j (λ z. apart (z ∙ there.shows.cables.0)))) (timeouts_define_none f n)
    (λ e near0 here on base same runs. other_timeout_none n j k e f fit.keyed here mine apart)

other_receives : (w0 w : Network) (k : ℕ) (c : CableLine) (m : ℕ) (x : Entry) (j : ℕ) (d : CableLine) (l moving : Lane) → Good (does m (x ∷ []) w) → Sees w0 w j d l → Sees w0 w k c moving → TakesTurn (turn_in w Slot.Receives k c) m x → (j ≡ k → ⊥)
    → Sees w0 (does m (x ∷ []) w) j d l
other_receives w0 w k c m x j d l moving g h there t apart =
    let s : ReceiverMoves w k c there.near there.far there.sender there.receiver moving m x = receives_move w k c there.near there.far there.sender there.receiver moving m x g there.shows t in
    let g0 : Good w = earlier w m x (inl t.is.2) g in
    let r : ReceiverEnd = there.receiver in
    let n : Node = after there.far (w.done m) in
    let first : w.first m ≡ Some there.far = ap w.first s.at ∙ there.shows.far_is in
    let is : receiver_deed x.stamp r x.effect.popped n ≡ Some s.deed = ap (λ (i : ℕ). receiver_deed x.stamp r x.effect.popped (after there.far (w.done i))) s.at ∙ s.is in
    let fit : IsFit n = fit_now w m there.far g0 first in
    entry_beside w0 w m x there.far s.deed (receiver_deed x.stamp r x.effect.popped n) j d l g0 first h (quiet_takes k j x apart t.is.1) is (subst (λ (i : ℕ). Ran x (after there.far (w.done i)) s.deed) (sym s.at) s.did)
    (receivers_end j x.stamp r x.effect.popped n (apart_eq r.cable j (λ z. apart (z ∙ there.shows.cables.1)))) (receivers_define_none x.stamp r x.effect.popped n)
    (λ e near0 here on base same runs.
    let one : there.far0 ≡ near0 = some_node there.far0 near0 (sym there.far0_is ∙ sym (ap (node_at w0) s.at) ∙ base) in
    receivers_add_none e.channel (queue_of_sender e.channel n.manager) x.stamp r x.effect.popped n (open_alone e.channel n.manager ((fit.senders j e here).open_ on) fit.seized).0
    (all_elsewhere near0 n.manager (queue_of_sender e.channel n.manager) r.kept same runs (subst (λ (y : Node). AllAway y r.kept) one there.far_needs.kept)))

pub others_stay : (w0 w : Network) (k : ℕ) (c : CableLine) (m : ℕ) (x : Entry) (j : ℕ) (d : CableLine) (l moving : Lane) → Good (does m (x ∷ []) w) → slice_get w.scenario.cables k ≡ Some c → slice_get w.scenario.cables j ≡ Some d → Sees w0 w j d l
    → Sees w0 w k c moving → IsOf w k c m x → (j ≡ k → ⊥) → Sees w0 (does m (x ∷ []) w) j d l
others_stay w0 w k c m x j d l moving g known is h there (Slot.Sends, t) apart = other_sends w0 w k c m x j d l moving g h there t apart
others_stay w0 w k c m x j d l moving g known is h there (Slot.Receives, t) apart = other_receives w0 w k c m x j d l moving g h there t apart
others_stay w0 w k c m x j d l moving g known is h there (Slot.TimesOut, t) apart = other_times_out w0 w k c m x j d l moving g h there t apart

-- A TRIGGER TURN
no_pop : (seen : Seen) (actor : Actor) → IsPop seen None calls.Trigger actor → waits seen ≡ false
no_pop items.Nothing actor h = refl
no_pop items.Spoiled actor h = absurd h
no_pop (items.Frame f) actor h = absurd h

trigger_there : (stamp : ℕ) (actor : Actor) (call : Call) (seen : Seen) (n : Node) → call ≡ calls.Trigger → deed_of stamp actor call seen n ≡ trigger_deed n
trigger_there stamp actor call seen n is = ap (λ (y : Call). deed_of stamp actor y seen n) is

trigger_at : (w0 w : Network) (m : ℕ) (x : Entry) (j : ℕ) (d : CableLine) (l : Lane) (b : Node) → Good (does m (x ∷ []) w) → w.first m ≡ Some b → Sees w0 w j d l → x.call ≡ calls.Trigger → Sees w0 (does m (x ∷ []) w) j d l
trigger_at w0 w m x j d l b g first h call =
    let n : Node = after b (w.done m) in
    let g0 : Good w = earlier w m x (inr (inr call)) g in
    let ran : RanDeed x n = entry_ran w m x b g first (inr (inr call)) in
    let is : trigger_deed n ≡ Some ran.deed = sym (trigger_there x.stamp x.actor x.call x.effect.popped n call) ∙ ran.is in
    let wants : ran.deed.wanting ≡ None = subst EachWantsNone is (triggers_want n) in
    let did : Ran x n ran.deed = ran.ran wants in
    let told = told_here w m x b g first in
    let pushed : x.effect.pushed ≡ None = told.1.pushed ∙ did.pushed ∙ subst EachIsSilent is (triggers_silent n) in
    let pops : IsPop x.effect.popped None calls.Trigger x.actor = subst (λ (y : Call). IsPop x.effect.popped None y x.actor) call (subst (λ (o : Option Frame). IsPop x.effect.popped o x.call x.actor) pushed told.1.popped) in
    let none : is_popped x ≡ false = pops_as x x.effect.popped refl ∙ no_pop x.effect.popped x.actor pops in
    let fit : IsFit n = fit_now w m b g0 first in
    entry_beside w0 w m x b ran.deed (trigger_deed n) j d l g0 first h (record { sends = λ z. (pushed, none); takes = λ z. (pushed, none) }) is did (triggers_end j n) (triggers_define_none n)
    (λ e near0 here on base same runs. triggers_add_none e.channel (queue_of_sender e.channel n.manager) n (open_alone e.channel n.manager ((fit.senders j e here).open_ on) fit.seized).0)

pub triggers_stay : (w0 w : Network) (m : ℕ) (x : Entry) (j : ℕ) (d : CableLine) (l : Lane) → Good (does m (x ∷ []) w) → slice_get w.scenario.cables j ≡ Some d → Sees w0 w j d l → x.call ≡ calls.Trigger → Sees w0 (does m (x ∷ []) w) j d l
triggers_stay w0 w m x j d l g known h call = at (w.first m) refl
  where
    at : (o : Option Node) → w.first m ≡ o → Sees w0 (does m (x ∷ []) w) j d l
    at None none = absurd (never_empty (w.done m) x (sym (here_done w m x) ∙ g.there m none))
    at (Some b) first = trigger_at w0 w m x j d l b g first h call
