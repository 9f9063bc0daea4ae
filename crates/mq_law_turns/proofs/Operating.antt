-- An operator's START, STOP, RESET and RESOLVE at a sender's end, and its timeouts, as what they are of the network.
use Rattle.std.proofs.Common.{ℕ, ◌≡◌, ◌≢◌, ◌⊎◌, true, false, List, ◌++◌, refl, ap, sym, subst, ◌∙◌, inl, inr}
use Rattle.std.specs.Prelude.{Option, Some, None, ◌&&◌, if◌then◌else◌}
use Rattle.mq_sync.specs.declared.unit.Unit.{Unit as Luw}
use Rattle.mq_sync.specs.declared.unit.Settle.TheVariants as settles
use Rattle.mq_sync.specs.declared.data.End.TheVariants as ends
use Rattle.mq_sync.specs.declared.data.InDoubt.{InDoubt}
use Rattle.mq_sync.specs.Settlement.{sender_or}
use Rattle.mq_sync.specs.Units.{Upto, same_unit}
use Rattle.mq_sender.specs.declared.state.SenderState.{SenderState}
use Rattle.mq_sender.specs.declared.state.SenderState.TheVariants.{Inactive, Stopped, Starting, Hailing, Binding, Running, Sending, Ready, Waiting}
use Rattle.mq_sender.specs.declared.state.Sender.{Sender}
use Rattle.mq_sender.specs.Table.{is_sending}
use Rattle.mq_calls.specs.declared.agents.Note.TheVariants as notes
use Rattle.mq_sender.specs.declared.state.Limits.{Limits}
use Rattle.mq_calls.specs.State.{Plain}
use Rattle.mq_calls.specs.declared.state.Seizure.{Seizure}
use Rattle.mq_calls.specs.State.Change.{Seize}
use Rattle.mq_calls.specs.Reads.{batch_of, in_doubt_of, sender_data}
use Rattle.mq_calls.specs.Changes.{apply, apply_all}
use Rattle.mq_calls.specs.Steps.{do_all, do_part}
use Rattle.mq_spec_manager.specs.Agents.{harden_part, leave, release_batch, release_of}
use Rattle.mq_spec_network.specs.Ledger.{change_at}
use Rattle.mq_spec_node.specs.Node.{Node}
use Rattle.mq_spec_node.specs.Deeds.{parts_of}
use Rattle.mq_spec_node.specs.Senders.{leave_if_stopped}
use Rattle.mq_law_channel.specs.Facts.{Letter, Near, now}
use Rattle.mq_law_channel.specs.Channel.{Channel, Fits, Past}
use Rattle.mq_law_channel.specs.Turns.{emptied, past_resolved, released, resolved, sender_numbered, sender_started, sender_stopped, sender_timed_out, undone}
use Rattle.mq_law_channel.proofs.Sending.{not_forced}
use Rattle.mq_law_story.specs.from_law_rows.Families.{is_here}
use Rattle.mq_law_story.specs.from_law_rows.World.{Ghost}
use Rattle.mq_law_story.specs.from_law_rows.Kinds.{after, freed, ghost_force}
use Rattle.mq_law_story.proofs.from_law_rows.Lists.{bool_case, here_self, name_self, true_false}
use Rattle.mq_law_channel.proofs.Told.{unit_no, unit_self, unit_yes}
use Rattle.mq_law_story.specs.from_law_seen.Seen.{doubt_of, holds_of, last_of, world_of}
use Rattle.mq_law_batches.specs.from_law_events.Tied.{IsNext}
use Rattle.mq_law_batches.specs.Releases.{release_changes, settled_changes}
use Rattle.mq_law_batches.proofs.Settling.{backs_out, drops, forces, settled_doubts, settled_holds}
use Rattle.mq_law_batches.proofs.Wording.{Stays, stays, words}
use Rattle.mq_law_turns.specs.Turns.{IsAt, Scene, Turned, TurnedBy, world_in}
use Rattle.mq_law_turns.proofs.Parts.{changed, doubt_held, leaving_stays, next_mid, next_to, part_stays, same_turned, turned_on, world_behind}
use Rattle.mq_law_turns.proofs.Sending.{IsSending, here_of, is_in_sending, released_turned, settled_only}

-- NOTHING OF ROWS
-- a deed that leaves rows, batches and units: the channel's machine alone changes
pub still : (z : Scene) (n : Node) (x k : Channel) (y : Past) (q : Plain) (rs : List Plain) → IsAt z n x y → k.receives ≡ x.receives → Stays n.manager q → IsNext z.sender n.manager q z.managers rs → Turned z (world_of z.scenario z.given rs) k y
still z n x k y q rs a far s h = turned_on z (world_in z) _ k y (sym (stays z.scenario z.given z.sender n.manager q z.managers rs h s)) (same_turned z x k y y a.joint far refl refl refl (λ u. refl) (λ u e. e))

pub starts : (z : Scene) (n : Node) (x : Channel) (y : Past) (limits : Limits) (seizure : Seizure) (rs : List Plain) → IsAt z n x y → IsNext z.sender n.manager (apply (Seize seizure) n.manager) z.managers rs → Turned z (world_of z.scenario z.given rs) (sender_started limits x) y
starts z n x y limits seizure rs a h = still z n x (sender_started limits x) y _ rs a refl (record { queues = refl; connections = refl; batches = refl; doubts = λ d. refl; near = record { given = refl; receivers = λ d. refl } }) h

pub times_out : (z : Scene) (n : Node) (x : Channel) (y : Past) (st : SenderState) (rs : List Plain) → IsAt z n x y → IsNext z.sender n.manager (do_all (leave_if_stopped z.place.channel st n.manager) n.manager) z.managers rs
    → Turned z (world_of z.scenario z.given rs) (sender_timed_out x) y
times_out z n x y st rs a h = still z n x (sender_timed_out x) y _ rs a refl (leaving_stays z.place.channel st n.manager n.manager) h

-- a sender's number is set
pub numbers : (z : Scene) (n : Node) (x : Channel) (y : Past) (last : ℕ) (rs : List Plain) → IsAt z n x y → IsNext z.sender n.manager (do_part (harden_part z.place.channel (notes.SeqSet ends.Sender last) n.manager) n.manager) z.managers rs
    → Turned z (world_of z.scenario z.given rs) (sender_numbered last x) y
numbers z n x y last rs a h =
    let p : Plain = n.manager in
    let part = harden_part z.place.channel (notes.SeqSet ends.Sender last) p in
    let q : Plain = apply_all part.changes p in
    let e = world_behind z.scenario z.given z.sender p q _ z.managers rs h (part_stays part p) in
    let f = words z.scenario z.given z.sender p z.managers (change_at z.sender (λ (o : Plain). q) z.managers) z.place.channel (notes.SeqSet ends.Sender last) tt (next_mid z.sender p q _ z.managers rs h) in
    turned_on z (world_in z) _ _ y (sym (e ∙ f)) (same_turned z x (sender_numbered last x) y y a.joint refl refl refl refl (λ u. refl) (λ u k. k))

-- STOP
quiet_none : (o : Option Luw) → ((u : Luw) → o ≡ Some u → ⊥) → o ≡ None
quiet_none None g = refl
quiet_none (Some u) g = absurd (g u refl)

-- a sender that sends no unit and has prepared none holds none
idle_holds : (st : SenderState) (m : Sender) (s : Near) (content : Luw → List Letter) (batch : List Letter) → is_sending st ≡ false → Fits st m s content batch → s.doubt ≡ false → s.holds ≡ None
idle_holds Inactive m s content batch e f d = quiet_none s.holds (λ u h. true_false (sym (f u h) ∙ d))
idle_holds (Stopped cause) m s content batch e f d = quiet_none s.holds (λ u h. true_false (sym (f u h) ∙ d))
idle_holds Starting m s content batch e f d = quiet_none s.holds (λ u h. true_false (sym (f u h) ∙ d))
idle_holds Hailing m s content batch e f d = quiet_none s.holds (λ u h. true_false (sym (f.0 u h) ∙ d))
idle_holds Binding m s content batch e f d = quiet_none s.holds (λ u h. true_false (sym (f.0 u h) ∙ d))
idle_holds Running m s content batch e f d = f.0
idle_holds (Sending sent number) m s content batch e f d = absurd (true_false e)
idle_holds Ready m s content batch e f d = absurd (true_false (sym f.1 ∙ d))
idle_holds Waiting m s content batch e f d = quiet_none s.holds (λ u h. true_false (sym (f.0 u h) ∙ d))

stops_idle : (z : Scene) (n : Node) (x : Channel) (y : Past) (rs : List Plain) → IsAt z n x y → is_sending x.sender.state ≡ false
    → IsNext z.sender n.manager (do_all (parts_of (release_batch z.place.channel n.manager) ++ parts_of (leave z.place.channel n.manager)) n.manager) z.managers rs → Turned z (world_of z.scenario z.given rs) (sender_stopped x) (released y)
stops_idle z n x y rs a e h =
    let c : List ℕ = z.place.channel in
    let p : Plain = n.manager in
    let h1 = next_to z.sender p _ _ z.managers rs h (ap (λ o. do_all (parts_of (release_of c o) ++ parts_of (leave c p)) p) (a.sends.unbatched e)) in
    let world = stays z.scenario z.given z.sender p _ z.managers rs h1 (record { queues = refl; connections = refl; batches = refl; doubts = λ d. refl; near = record { given = refl; receivers = λ d. refl } }) in
    bool_case y.near.doubt (λ t. y.near.doubt ≡ t → Turned z (world_of z.scenario z.given rs) (sender_stopped x) (if t then y else emptied y))
    (λ g d. turned_on z (world_in z) _ _ y (sym world) (same_turned z x (sender_stopped x) y y a.joint refl refl refl refl (λ u. refl) (λ u k. k)))
    (λ g d. turned_on z (world_in z) _ _ (emptied y) (sym world) (same_turned z x (sender_stopped x) y (emptied y) a.joint refl (sym (idle_holds x.sender.state x.sender y.near y.content x.batch e a.facts.tied.fits d)) (sym d) (sym (not_forced x y a.facts.tied d)) (λ u. refl) (λ u k. k))) refl

stops_sending : (z : Scene) (n : Node) (x : Channel) (y : Past) (rs : List Plain) → IsAt z n x y → is_sending x.sender.state ≡ true
    → IsNext z.sender n.manager (do_all (parts_of (release_batch z.place.channel n.manager) ++ parts_of (leave z.place.channel n.manager)) n.manager) z.managers rs → Turned z (world_of z.scenario z.given rs) (sender_stopped x) (released y)
stops_sending z n x y rs a e h =
    let c : List ℕ = z.place.channel in
    let p : Plain = n.manager in
    let b = a.sends.batched e in
    let s : IsSending z n x y b.batch = is_in_sending z n x y b.batch (here_of a) e b.is in
    let q : Plain = apply_all (release_changes c) p in
    let h1 = next_to z.sender p _ _ z.managers rs h (ap (λ o. do_all (parts_of (release_of c o) ++ parts_of (leave c p)) p) b.is) in
    let k = world_behind z.scenario z.given z.sender p q _ z.managers rs h1 (record { queues = refl; connections = refl; batches = refl; doubts = λ d. refl; near = record { given = refl; receivers = λ d. refl } }) in
    subst (λ t. Turned z (world_of z.scenario z.given rs) (sender_stopped x) (if t then y else emptied y)) (sym s.doubt)
    (turned_on z _ (world_of z.scenario z.given rs) (sender_stopped x) (emptied y) (sym k) (released_turned z n x (sender_stopped x) y b.batch (change_at z.sender (λ (o : Plain). q) z.managers) (here_of a) s b.is refl (next_mid z.sender p q _ z.managers rs h1)))

pub stops : (z : Scene) (n : Node) (x : Channel) (y : Past) (rs : List Plain) → IsAt z n x y
    → IsNext z.sender n.manager (do_all (parts_of (release_batch z.place.channel n.manager) ++ parts_of (leave z.place.channel n.manager)) n.manager) z.managers rs → Turned z (world_of z.scenario z.given rs) (sender_stopped x) (released y)
stops z n x y rs a h = bool_case (is_sending x.sender.state) (λ t. is_sending x.sender.state ≡ t → Turned z (world_of z.scenario z.given rs) (sender_stopped x) (released y)) (λ t e. stops_sending z n x y rs a e h) (λ t e. stops_idle z n x y rs a e h) refl

-- RESOLVE
-- the unit in doubt, as the manager has it
record IsOpen (z : Scene) (n : Node) (x : Channel) (y : Past) (d : InDoubt) : Type 0 where
  doubt : InDoubt
  is : in_doubt_of (sender_data z.place.channel n.manager) ≡ Some doubt
  unit : doubt.unit ≡ d.unit
  held : y.near.holds ≡ Some d.unit
  plain : y.forced ≡ false
  upto : Upto d.unit (now y.near)

is_open : (z : Scene) (n : Node) (x : Channel) (y : Past) (d : InDoubt) → IsAt z n x y → x.sends.in_doubt ≡ Some d → IsOpen z n x y d
is_open z n x y d a e =
    let c : List ℕ = z.place.channel in
    let t = a.facts.tied.in_doubt d e in
    let w = a.joint.tied.held t.2 in
    let o = doubt_held (in_doubt_of (sender_data c n.manager)) (batch_of c n.manager.channels.batches) d.unit (sym (ap (doubt_of c) a.at) ∙ w.1 ∙ t.1) (sym (ap (holds_of c) a.at) ∙ w.0 ∙ t.0) in
    record { doubt = o.0; is = o.1; unit = o.2; held = t.0; plain = t.2; upto = (a.facts.sound.held d.unit t.0).1 }

abbrev unit_or : Luw → Option Luw → Luw
unit_or u None = u
unit_or u (Some v) = v

-- an operator says that the unit was committed, and it was
committed_there : (by_ : Option Luw) (z : Scene) (n : Node) (x : Channel) (y : Past) (d : InDoubt) (rs : List Plain) → IsAt z n x y → IsOpen z n x y d → batch_of z.place.channel n.manager.channels.batches ≡ None → x.receives.unit ≡ d.unit
    → IsNext z.sender n.manager (apply_all (settled_changes true z.place.channel (sender_or (sender_data z.place.channel n.manager))) n.manager) z.managers rs → TurnedBy by_ z (world_of z.scenario z.given rs) (resolved settles.Commit x) (record y { forced = true })
committed_there by_ z n x y d rs a o free so h =
    let c : List ℕ = z.place.channel in
    let p : Plain = n.manager in
    let s = sender_or (sender_data c p) in
    let last : last_of z.scenario z.managers c (Some p) ≡ o.doubt.unit = sym (ap (last_of z.scenario z.managers c) a.at) ∙ a.joint.tied.last ∙ so ∙ sym o.unit in
    let inv = drops z.scenario z.given z.sender p z.managers rs c s o.doubt z.ghost z.book h free o.is last a.joint.inv in
    changed z p _ rs z.ghost x (resolved settles.Commit x) y (record y { forced = true }) a.joint h (settled_only true c p free) inv (record {
      far = refl;
      held = λ f. absurd (true_false f);
      idle = λ f. settled_holds true c c s p free ∙ ap (λ t. if t then None else holds_of c (Some p)) (name_self c);
      forced = λ u f e no_. absurd (no_ (so ∙ ap (unit_or u) (sym o.held ∙ e)));
      content = a.joint.tied.content;
      begun = a.joint.begun;
      sent = λ q e v f. refl;
      operated = λ q e v f. refl;
      own = λ v e. inl e;
      kept = λ v e. refl;
      loose = λ q e v f. f;
    })

-- and it was not yet: its rows are in the ledger alone
force_self : (g : Ghost) (m : ℕ) (c : List ℕ) (u : Luw) → (ghost_force g m c u).operated m c u ≡ true
force_self g m c u = λ i. if here_self m c i && unit_self u i then true else g.operated m c u

forced_there : (z : Scene) (n : Node) (x : Channel) (y : Past) (d : InDoubt) (rs : List Plain) → IsAt z n x y → IsOpen z n x y d → batch_of z.place.channel n.manager.channels.batches ≡ None → x.receives.unit ≢ d.unit
    → IsNext z.sender n.manager (apply_all (settled_changes true z.place.channel (sender_or (sender_data z.place.channel n.manager))) n.manager) z.managers rs → TurnedBy (Some d.unit) z (world_of z.scenario z.given rs) (resolved settles.Commit x) (record y { forced = true })
forced_there z n x y d rs a o free not_so h =
    let c : List ℕ = z.place.channel in
    let p : Plain = n.manager in
    let s = sender_or (sender_data c p) in
    let last : last_of z.scenario z.managers c (Some p) ≢ o.doubt.unit = λ e. not_so (sym a.joint.tied.last ∙ ap (last_of z.scenario z.managers c) a.at ∙ e ∙ o.unit) in
    let inv = forces z.scenario z.given z.sender p z.managers rs c s o.doubt z.ghost z.book h free o.is last a.joint.inv in
    let g : Ghost = ghost_force z.ghost z.sender c o.doubt.unit in
    changed z p _ rs g x (resolved settles.Commit x) y (record y { forced = true }) a.joint h (settled_only true c p free) inv (record {
      far = refl;
      held = λ f. absurd (true_false f);
      idle = λ f. settled_holds true c c s p free ∙ ap (λ t. if t then None else holds_of c (Some p)) (name_self c);
      forced = λ u f e no_. subst (λ (v : Luw). g.operated z.sender c v ≡ true) (o.unit ∙ ap (unit_or u) (sym o.held ∙ e)) (force_self z.ghost z.sender c o.doubt.unit);
      content = a.joint.tied.content;
      begun = λ v e. bool_case (is_here z.sender c z.sender c && same_unit v o.doubt.unit) (λ t. (is_here z.sender c z.sender c && same_unit v o.doubt.unit) ≡ t → (if t then true else z.ghost.operated z.sender c v) ≡ true → Upto v (now y.near))
          (λ t f k. subst (λ (u : Luw). Upto u (now y.near)) (sym o.unit ∙ sym (unit_is v o.doubt.unit f)) o.upto) (λ t f k. a.joint.begun v k) refl e;
      sent = λ q e v f. refl;
      operated = λ q e v f. ap (λ t. if t && same_unit v o.doubt.unit then true else z.ghost.operated q e v) f;
      own = λ v e. bool_case (is_here z.sender c z.sender c && same_unit v o.doubt.unit) (λ t. (is_here z.sender c z.sender c && same_unit v o.doubt.unit) ≡ t → (if t then true else z.ghost.operated z.sender c v) ≡ true → (z.ghost.operated z.sender c v ≡ true) ⊎ (Some d.unit ≡ Some v))
          (λ t f k. inr (ap (λ (u : Luw). Some u) (sym o.unit ∙ sym (unit_is v o.doubt.unit f)))) (λ t f k. inl k) refl e;
      kept = λ v e. refl;
      loose = λ q e v f. f;
    })
  where
    unit_is : (u v : Luw) → (is_here z.sender z.place.channel z.sender z.place.channel && same_unit u v) ≡ true → u ≡ v
    unit_is u v e = unit_yes u v (sym (ap (λ t. t && same_unit u v) (here_self z.sender z.place.channel)) ∙ e)

-- an operator says that it was backed out, and it is not its receiver's last unit
undone_there : (z : Scene) (n : Node) (x : Channel) (y : Past) (d : InDoubt) (rs : List Plain) → IsAt z n x y → IsOpen z n x y d → batch_of z.place.channel n.manager.channels.batches ≡ None → x.receives.unit ≢ d.unit
    → IsNext z.sender n.manager (apply_all (settled_changes false z.place.channel (sender_or (sender_data z.place.channel n.manager))) n.manager) z.managers rs → Turned z (world_of z.scenario z.given rs) (resolved settles.Backout x) (undone d.unit y)
undone_there z n x y d rs a o free not_so h =
    let c : List ℕ = z.place.channel in
    let p : Plain = n.manager in
    let s = sender_or (sender_data c p) in
    let last : last_of z.scenario z.managers c (Some p) ≢ o.doubt.unit = λ e. not_so (sym a.joint.tied.last ∙ ap (last_of z.scenario z.managers c) a.at ∙ e ∙ o.unit) in
    let inv = backs_out z.scenario z.given z.sender p z.managers rs c s o.doubt z.ghost z.book h free o.is last a.joint.inv in
    changed z p _ rs (after z.ghost (freed z.ghost z.sender c)) x (resolved settles.Backout x) y (undone d.unit y) a.joint h (settled_only false c p free) inv (record {
      far = refl;
      held = λ f. (settled_holds false c c s p free ∙ ap (λ t. if t then None else holds_of c (Some p)) (name_self c), settled_doubts false c c s p ∙ ap (λ t. if t then false else doubt_of c (Some p)) (name_self c));
      idle = λ f. absurd (true_false (sym f ∙ o.plain));
      forced = λ u f. absurd (true_false (sym f ∙ o.plain));
      content = λ u f. absurd cc;
      begun = a.joint.begun;
      sent = λ q e v f. refl;
      operated = λ q e v f. refl;
      own = λ v e. inl e;
      kept = λ v e. refl;
      loose = λ q e v f. f;
    })

-- the part that settles it
pub resolves_commit : (z : Scene) (n : Node) (x : Channel) (y : Past) (d : InDoubt) (u : Luw) (rs : List Plain) → IsAt z n x y → x.sends.in_doubt ≡ Some d → is_sending x.sender.state ≡ false
    → IsNext z.sender n.manager (do_part (harden_part z.place.channel (notes.Resolved u true true) n.manager) n.manager) z.managers rs → TurnedBy (Some d.unit) z (world_of z.scenario z.given rs) (resolved settles.Commit x) (past_resolved settles.Commit d y)
resolves_commit z n x y d u rs a e off h =
    let c : List ℕ = z.place.channel in
    let p : Plain = n.manager in
    let part = harden_part c (notes.Resolved u true true) p in
    let q : Plain = apply_all (settled_changes true c (sender_or (sender_data c p))) p in
    let k = world_behind z.scenario z.given z.sender p q _ z.managers rs h (part_stays part p) in
    let mid : List Plain = change_at z.sender (λ (o : Plain). q) z.managers in
    let h1 = next_mid z.sender p q _ z.managers rs h in
    let o = is_open z n x y d a e in
    let free = a.sends.unbatched off in
    turned_on z _ (world_of z.scenario z.given rs) (resolved settles.Commit x) (record y { forced = true }) (sym k)
    (bool_case (same_unit x.receives.unit d.unit) (λ t. same_unit x.receives.unit d.unit ≡ t → TurnedBy (Some d.unit) z (world_of z.scenario z.given mid) (resolved settles.Commit x) (record y { forced = true }))
    (λ t f. committed_there (Some d.unit) z n x y d mid a o free (unit_yes x.receives.unit d.unit f) h1)
    (λ t f. forced_there z n x y d mid a o free (unit_no x.receives.unit d.unit f) h1) refl)

-- where its receiver has it already, nothing is told of it
pub resolves_committed : (z : Scene) (n : Node) (x : Channel) (y : Past) (d : InDoubt) (u : Luw) (rs : List Plain) → IsAt z n x y → x.sends.in_doubt ≡ Some d → is_sending x.sender.state ≡ false → x.receives.unit ≡ d.unit
    → IsNext z.sender n.manager (do_part (harden_part z.place.channel (notes.Resolved u true true) n.manager) n.manager) z.managers rs → Turned z (world_of z.scenario z.given rs) (resolved settles.Commit x) (past_resolved settles.Commit d y)
resolves_committed z n x y d u rs a e off so h =
    let c : List ℕ = z.place.channel in
    let p : Plain = n.manager in
    let part = harden_part c (notes.Resolved u true true) p in
    let q : Plain = apply_all (settled_changes true c (sender_or (sender_data c p))) p in
    let k = world_behind z.scenario z.given z.sender p q _ z.managers rs h (part_stays part p) in
    let mid : List Plain = change_at z.sender (λ (o : Plain). q) z.managers in
    let h1 = next_mid z.sender p q _ z.managers rs h in
    turned_on z _ (world_of z.scenario z.given rs) (resolved settles.Commit x) (record y { forced = true }) (sym k) (committed_there None z n x y d mid a (is_open z n x y d a e) (a.sends.unbatched off) so h1)

pub resolves_backout : (z : Scene) (n : Node) (x : Channel) (y : Past) (d : InDoubt) (u : Luw) (rs : List Plain) → IsAt z n x y → x.sends.in_doubt ≡ Some d → is_sending x.sender.state ≡ false → x.receives.unit ≢ d.unit
    → IsNext z.sender n.manager (do_part (harden_part z.place.channel (notes.Resolved u false true) n.manager) n.manager) z.managers rs → Turned z (world_of z.scenario z.given rs) (resolved settles.Backout x) (past_resolved settles.Backout d y)
resolves_backout z n x y d u rs a e off not_so h =
    let c : List ℕ = z.place.channel in
    let p : Plain = n.manager in
    let part = harden_part c (notes.Resolved u false true) p in
    let q : Plain = apply_all (settled_changes false c (sender_or (sender_data c p))) p in
    let k = world_behind z.scenario z.given z.sender p q _ z.managers rs h (part_stays part p) in
    let h1 = next_mid z.sender p q _ z.managers rs h in
    turned_on z _ (world_of z.scenario z.given rs) (resolved settles.Backout x) (undone d.unit y) (sym k) (undone_there z n x y d (change_at z.sender (λ (o : Plain). q) z.managers) a (is_open z n x y d a e) (a.sends.unbatched off) not_so h1)
