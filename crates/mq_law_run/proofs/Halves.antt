-- The two halves of a channel over what is a manager's own: the channel stays as it is.
use Rattle.std.proofs.Common.{ℕ, ◌≡◌, [], refl, ap, sym, subst, ◌∙◌}
use Rattle.std.specs.Prelude.{Option, Some, None}
use Rattle.mq_frame.specs.declared.frame.Seen.{Seen}
use Rattle.mq_calls.specs.declared.choices.Choice.{Choice}
use Rattle.mq_calls.specs.declared.choices.Choice.TheVariants.{Runs, NoMemory, Stopped}
use Rattle.mq_calls.specs.declared.choices.Return.{Return}
use Rattle.mq_sc_parse.specs.declared.command.Command.TheVariants as commands
use Rattle.mq_history.specs.declared.acts.Act.TheVariants as acts
use Rattle.mq_history.specs.declared.acts.Acted.TheVariants as acted
use Rattle.mq_history.specs.declared.calls.Actor.{Actor}
use Rattle.mq_history.specs.declared.calls.Actor.TheVariants as actors
use Rattle.mq_history.specs.declared.calls.Call.{Call}
use Rattle.mq_history.specs.declared.calls.Call.TheVariants as calls
use Rattle.mq_history.specs.declared.calls.Chance.{Chance}
use Rattle.mq_history.specs.declared.calls.Chance.TheVariants as chances
use Rattle.mq_history.specs.declared.calls.Reply.TheVariants as replies
use Rattle.mq_calls.specs.State.{Noted, Running}
use Rattle.mq_calls.specs.State.Running.{Up, Down}
use Rattle.mq_spec_manager.specs.Stops.{advance_clock, cut}
use Rattle.mq_calls.specs.Reads.{receiver_data, sender_data}
use Rattle.mq_calls.specs.Steps.{delta_of, do_all, stopped_at}
use Rattle.mq_sync.specs.declared.data.ReceiverData.{ReceiverData}
use Rattle.mq_sync.specs.declared.data.SenderData.{SenderData}
use Rattle.mq_sync.specs.Settlement.{receiver_or, sender_or}
use Rattle.mq_spec_node.specs.Node.{Node, end_in}
use Rattle.mq_spec_node.specs.Deeds.{CanCome, Deed, Done, done, forgotten_rows, quiet}
use Rattle.mq_spec_node.specs.Happens.{IsDeed, IsEvent, RunsAlone, choice_event, deed_of, event, remembered, remembering}
use Rattle.mq_spec_node.specs.Replays.{IsOwn}
use Rattle.mq_law_channel.specs.Channel.{Channel, Facts, Past}
use Rattle.mq_law_manager.specs.Facts.{IsSound}
use Rattle.mq_law_manager.proofs.Untouched.{parts_running}
use Rattle.mq_law_node.specs.Beside.{AsideFar, AsideNear}
use Rattle.mq_law_node.specs.Data.{receives_at}
use Rattle.mq_law_node.specs.Ends.{SendsAs, TakesAs, Where, told_receives, told_sends}
use Rattle.mq_law_node.specs.Nodes.{FarAt, FarNode, NearAt, NearNode, SendsDown, TakesDown}
use Rattle.mq_law_node.specs.Quiet.{EachQuiet, IsOrdinary, IsQuietDeed}
use Rattle.mq_law_node.proofs.Aside.{quiet_asides}
use Rattle.mq_law_node.proofs.DataLaws.{receiver_done_all, sender_done_all}
use Rattle.mq_law_node.proofs.Quiet.{receiver_parts_quiet, sender_parts_quiet}
use Rattle.mq_law_node.proofs.FarAside.{quiet_far_asides}
use Rattle.mq_law_node.proofs.FarEvents.{far_noted_moved}
use Rattle.mq_law_node.proofs.FarFreezing.{far_freezes_quiet, far_goes_down, far_quiet_noted}
use Rattle.mq_law_node.proofs.FarTotal.{far_aside_noted, far_ends, far_same_channels}
use Rattle.mq_law_node.proofs.Freezing.{goes_down}
use Rattle.mq_law_node.proofs.NearEvents.{noted_moved, quiet_stops, running_is}
use Rattle.mq_law_node.proofs.NearTotal.{aside_noted, near_ends, remembered_ends, same_channels}
use Rattle.mq_law_node.proofs.Ordinary.{ordinary_is_quiet}
use Rattle.mq_law_stopped.specs.from_law_turns.Turns.{EachSound}
use Rattle.mq_law_stopped.proofs.from_law_turns.Reading.{stays}
use Rattle.mq_law_deeds.proofs.Resting.{quiet_rests}
use Rattle.mq_law_deeds.proofs.Sounding.{behind, ordinary_kept}
use Rattle.mq_law_one.specs.Alone.{IsOwnCall, IsState}

-- WHAT IS A MANAGER'S OWN: the deed of an ordinary call, an armed cut, or a clock advance
never : (o : Option Deed) (choice : Return) (n : Node) → IsDeed o (chances.Restart choice) n → ⊥
never None choice n e = e
never (Some d) choice n e = e

abbrev pub EachHappens : (Done → Type 0) → ℕ → Actor → Call → Chance → Seen → Node → Type 0
EachHappens P stamp actor call chance seen n = (choice : Choice) (d : Deed) → deed_of stamp actor call seen n ≡ Some d → chance ≡ chances.Call choice → CanCome d choice n → P (remembering actor call (done d choice n))

chosen : (P : Done → Type 0) (stamp : ℕ) (actor : Actor) (call : Call) (chance : Chance) (seen : Seen) (n : Node) → IsDeed (deed_of stamp actor call seen n) chance n → IsOwn chance → EachHappens P stamp actor call chance seen n
    → P (remembering actor call (choice_event chance (deed_of stamp actor call seen n) n))
chosen P stamp actor call (chances.Call choice) seen n e own f = go (deed_of stamp actor call seen n) refl e
  where
    go : (o : Option Deed) → deed_of stamp actor call seen n ≡ o → IsDeed o (chances.Call choice) n → P (remembering actor call (choice_event (chances.Call choice) o n))
    go None is can = absurd can
    go (Some d) is can = f choice d is refl can
chosen P stamp actor call (chances.Restart choice) seen n e own f = absurd (never (deed_of stamp actor call seen n) choice n e)
chosen P stamp actor call (chances.Foreign image length left) seen n e own f = absurd own

pub runs_alone : (chance : Chance) → RunsAlone chance → chance ≡ chances.Call Runs
runs_alone (chances.Call choice) e = ap (λ (c : Choice). chances.Call c) e
runs_alone (chances.Restart choice) e = absurd e
runs_alone (chances.Foreign image length left) e = absurd e

pub own_elim : (P : Done → Type 0) (stamp : ℕ) (actor : Actor) (call : Call) (chance : Chance) (seen : Seen) (n : Node) → IsOwnCall actor call → IsEvent stamp actor call chance seen n → IsOwn chance
    → (IsOrdinary actor call → EachHappens P stamp actor call chance seen n)
    → ((k : ℕ) → call ≡ calls.Act (acts.Cut k) → chance ≡ chances.Call Runs → P (quiet (replies.Acted acted.Done) [] (record n { manager = cut k n.manager })))
    → ((by : ℕ) → call ≡ calls.Act (acts.Clock by) → chance ≡ chances.Call Runs → P (quiet (replies.Acted acted.Done) [] (record n { manager = advance_clock by n.manager })))
    → P (event stamp actor call chance seen n)
own_elim P stamp (actors.Sender k) calls.Turn chance seen n is e own f armed clock = absurd is
own_elim P stamp (actors.Receiver k) calls.Turn chance seen n is e own f armed clock = absurd is
own_elim P stamp actor calls.Timeout chance seen n is e own f armed clock = absurd is
own_elim P stamp actor (calls.Act (acts.Obey (commands.Operate op))) chance seen n is e own f armed clock = absurd is
own_elim P stamp actor (calls.Act acts.Crash) chance seen n is e own f armed clock = absurd is
own_elim P stamp actor (calls.Act acts.Restart) chance seen n is e own f armed clock = absurd is
own_elim P stamp actor (calls.Act (acts.Cut k)) chance seen n is e own f armed clock = armed k refl (runs_alone chance e)
own_elim P stamp actor (calls.Act (acts.Clock by)) chance seen n is e own f armed clock = clock by refl (runs_alone chance e)
own_elim P stamp actor call chance seen n is e own f armed clock = chosen P stamp actor call chance seen n e own (f tt)

-- HALVES. A deed that leaves them aside, at a manager that is up; a quiet one, at a manager that is down.
pub near_aside : (w : Where) (n : Node) (c : Channel) (p : Past) (d : Deed) (choice : Choice) → n.manager.running ≡ Up → SendsAs w n c → Facts c p → AsideNear w n d → CanCome d choice n → NearNode w (done d choice n).next c
near_aside w n c p d Runs up h facts a can = subst (λ (r : Running). NearAt w (done d Runs n).next c r) (sym (parts_running d.parts n.manager ∙ up)) (record {
  here = a.ends ∙ h.here;
  data_ = h.data_ ∙ sym a.data_;
  batched = λ e. let b = h.batched e in record { batch = b.batch; is = a.batch ∙ b.is; unit = b.unit; reads = a.reads c.batch b.reads };
  unbatched = λ e. a.batch ∙ h.unbatched e;
})
near_aside w n c p d NoMemory up h facts a can = subst (NearAt w n c) (sym up) h
near_aside w n c p d (Stopped by_ k left) up h facts a can =
    let s = a.stops k left can.0 in
    goes_down w n.own _ s.written 0 c s.running h.here (h.data_ ∙ sym s.data_) (aside_noted w _ s.written c (h.data_ ∙ sym s.data_) s.noted)

pub near_down : (w : Where) (n : Node) (c : Channel) (p : Past) (d : Deed) (choice : Choice) (written : Option Noted) (starts : ℕ) → n.manager.running ≡ Down written starts → SendsDown w n written c → Facts c p → IsQuietDeed n.own d → CanCome d choice n
    → NearNode w (done d choice n).next c
near_down w n c p d Runs written starts down h facts q can =
    let same : sender_data w.channel (do_all d.parts n.manager) ≡ sender_data w.channel n.manager = sender_done_all w.channel d.parts n.manager ∙ sender_parts_quiet w.channel d.parts _ q.parts in
    goes_down w (forgotten_rows (delta_of d.parts) d.own) (do_all d.parts n.manager) written starts c (parts_running d.parts n.manager ∙ down)
    (ap (end_in w.cable) q.ends ∙ h.here)
    (h.data_ ∙ ap (λ (o : Option SenderData). told_sends (sender_or o)) (sym same))
    (noted_moved w n.manager (do_all d.parts n.manager) written c same h.noted)
near_down w n c p d NoMemory written starts down h facts q can = subst (NearAt w n c) (sym down) h
near_down w n c p d (Stopped by_ k left) written starts down h facts q can = quiet_stops w n c d k left h.here h.data_ q can.0

pub far_aside : (w : Where) (n : Node) (c : Channel) (p : Past) (d : Deed) (choice : Choice) → n.manager.running ≡ Up → TakesAs w n c → Facts c p → AsideFar w n d → CanCome d choice n → FarNode w (done d choice n).next c
far_aside w n c p d Runs up h facts a can = subst (λ (r : Running). FarAt w (done d Runs n).next c r) (sym (parts_running d.parts n.manager ∙ up)) (record { here = a.ends ∙ h.here; data_ = h.data_ ∙ sym a.data_ })
far_aside w n c p d NoMemory up h facts a can = subst (FarAt w n c) (sym up) h
far_aside w n c p d (Stopped by_ k left) up h facts a can =
    let s = a.stops k left can.0 in
    far_goes_down w n.own _ s.written 0 c s.running h.here (h.data_ ∙ sym s.data_) (far_aside_noted w _ s.written c (h.data_ ∙ sym s.data_) s.noted)

pub far_down : (w : Where) (n : Node) (c : Channel) (p : Past) (d : Deed) (choice : Choice) (written : Option Noted) (starts : ℕ) → n.manager.running ≡ Down written starts → TakesDown w n written c → Facts c p → IsQuietDeed n.own d → CanCome d choice n
    → FarNode w (done d choice n).next c
far_down w n c p d Runs written starts down h facts q can =
    let same : receiver_data w.channel (do_all d.parts n.manager) ≡ receiver_data w.channel n.manager = receiver_done_all w.channel d.parts n.manager ∙ receiver_parts_quiet w.channel d.parts _ q.parts in
    far_goes_down w (forgotten_rows (delta_of d.parts) d.own) (do_all d.parts n.manager) written starts c (parts_running d.parts n.manager ∙ down)
    (ap (end_in w.cable) q.ends ∙ h.here)
    (h.data_ ∙ ap (λ (o : Option ReceiverData). told_receives (receiver_or o)) (sym same))
    (far_noted_moved w n.manager (do_all d.parts n.manager) written c same h.noted)
far_down w n c p d NoMemory written starts down h facts q can = subst (FarAt w n c) (sym down) h
far_down w n c p d (Stopped by_ k left) written starts down h facts q can =
    let f = far_freezes_quiet w.channel k d.parts left n.manager q.parts can.0 in
    let data1 : told_receives c.receives ≡ told_receives (receives_at w.channel (stopped_at k d.parts left n.manager)) = h.data_ ∙ ap (λ (o : Option ReceiverData). told_receives (receiver_or o)) (sym f.data_) in
    far_goes_down w n.own (stopped_at k d.parts left n.manager) _ 0 c f.running h.here data1 (far_quiet_noted w (stopped_at k d.parts left n.manager) f.part f.part.forced c f.quiet data1)

-- what a monitor remembers touches no half
pub near_remembers : (w : Where) (actor : Actor) (call : Call) (d : Done) (c : Channel) → NearNode w d.next c → NearNode w (remembering actor call d).next c
near_remembers w actor call d c h = near_ends w d.next (remembered actor call d.reply d.next.own) c d.next.manager.running (remembered_ends actor call d.reply d.next.own) h

pub far_remembers : (w : Where) (actor : Actor) (call : Call) (d : Done) (c : Channel) → FarNode w d.next c → FarNode w (remembering actor call d).next c
far_remembers w actor call d c h = far_ends w d.next (remembered actor call d.reply d.next.own) c d.next.manager.running (remembered_ends actor call d.reply d.next.own) h

-- rows of a batch stay over a quiet deed of a sound manager
quiet_aside : (w : Where) (n : Node) (d : Deed) → IsQuietDeed n.own d → IsSound n.manager → EachSound n.manager (Some d) → AsideNear w n d
quiet_aside w n d q sound keeps = let r = quiet_rests w n (Some d) q in quiet_asides w n d q (stays w.channel n.manager d.parts sound (behind d.parts n.manager sound keeps) r.1 r.0)

near_quiet : (w : Where) (n : Node) (c : Channel) (p : Past) (d : Deed) (choice : Choice) → NearNode w n c → Facts c p → IsState n.manager.running n.manager → IsQuietDeed n.own d → (IsSound n.manager → EachSound n.manager (Some d)) → CanCome d choice n
    → NearNode w (done d choice n).next c
near_quiet w n c p d choice h facts state q keeps can = running_is n.manager.running (λ r. NearAt w n c r → IsState r n.manager → NearNode w (done d choice n).next c)
    (λ up z sound. near_aside w n c p d choice up z facts (quiet_aside w n d q sound (keeps sound)) can)
    (λ written starts down z frozen. near_down w n c p d choice written starts down z facts q can) h state

far_quiet : (w : Where) (n : Node) (c : Channel) (p : Past) (d : Deed) (choice : Choice) → FarNode w n c → Facts c p → IsQuietDeed n.own d → CanCome d choice n → FarNode w (done d choice n).next c
far_quiet w n c p d choice h facts q can = running_is n.manager.running (λ r. FarAt w n c r → FarNode w (done d choice n).next c)
    (λ up z. far_aside w n c p d choice up z facts (quiet_far_asides w n d q) can)
    (λ written starts down z. far_down w n c p d choice written starts down z facts q can) h

-- a deed by its name
pub deed_quiet : (stamp : ℕ) (actor : Actor) (call : Call) (seen : Seen) (n : Node) (d : Deed) → IsOrdinary actor call → deed_of stamp actor call seen n ≡ Some d → IsQuietDeed n.own d
deed_quiet stamp actor call seen n d is e = subst (EachQuiet n.own) e (ordinary_is_quiet stamp actor call seen n is)

pub deed_sound : (stamp : ℕ) (actor : Actor) (call : Call) (seen : Seen) (n : Node) (d : Deed) → IsOrdinary actor call → deed_of stamp actor call seen n ≡ Some d → IsSound n.manager → EachSound n.manager (Some d)
deed_sound stamp actor call seen n d is e sound = subst (EachSound n.manager) e (ordinary_kept stamp actor call seen n is sound)

pub near_own : (w : Where) (stamp : ℕ) (actor : Actor) (call : Call) (chance : Chance) (seen : Seen) (n : Node) (c : Channel) (p : Past) → IsOwnCall actor call → IsEvent stamp actor call chance seen n → IsOwn chance
    → NearNode w n c → Facts c p → IsState n.manager.running n.manager → NearNode w (event stamp actor call chance seen n).next c
near_own w stamp actor call chance seen n c p is e own h facts state = own_elim (λ (d : Done). NearNode w d.next c) stamp actor call chance seen n is e own
    (λ o choice d f g can. near_remembers w actor call (done d choice n) c (near_quiet w n c p d choice h facts state (deed_quiet stamp actor call seen n d o f) (deed_sound stamp actor call seen n d o f) can))
    (λ k f g. same_channels w n (cut k n.manager) c n.manager.running refl refl h)
    (λ by f g. same_channels w n (advance_clock by n.manager) c n.manager.running refl refl h)

pub far_own : (w : Where) (stamp : ℕ) (actor : Actor) (call : Call) (chance : Chance) (seen : Seen) (n : Node) (c : Channel) (p : Past) → IsOwnCall actor call → IsEvent stamp actor call chance seen n → IsOwn chance
    → FarNode w n c → Facts c p → FarNode w (event stamp actor call chance seen n).next c
far_own w stamp actor call chance seen n c p is e own h facts = own_elim (λ (d : Done). FarNode w d.next c) stamp actor call chance seen n is e own
    (λ o choice d f g can. far_remembers w actor call (done d choice n) c (far_quiet w n c p d choice h facts (deed_quiet stamp actor call seen n d o f) can))
    (λ k f g. far_same_channels w n (cut k n.manager) c n.manager.running refl h)
    (λ by f g. far_same_channels w n (advance_clock by n.manager) c n.manager.running refl h)
