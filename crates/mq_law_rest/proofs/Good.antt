-- What a PUMP asks of the network behind it, and of the one before it, is what a run has.
use Rattle.std.proofs.Common.{ℕ, zero, suc, ◌≡◌, ◌≤◌, ◌<◌, Bool, true, List, [], ◌∷◌, ◌++◌, length, refl, ap, sym, subst, ◌∙◌, inl, inr}
use Rattle.std.specs.Prelude.{◌==◌, if◌then◌else◌, Option, Some, None, drop, slice_get}
use Rattle.mq_base.specs.Members.{Mem}
use Rattle.mq_frame.specs.declared.frame.Frame.{Frame}
use Rattle.mq_frame.specs.declared.frame.FrameKind.{FrameKind}
use Rattle.mq_frame.specs.declared.frame.FrameKind.TheVariants as kinds
use Rattle.mq_frame.specs.declared.frame.Seen.{Seen}
use Rattle.mq_frame.specs.declared.frame.Seen.TheVariants as items
use Rattle.mq_receiver.specs.Table.{kind_is_bind}
use Rattle.mq_sender.specs.declared.state.Kept.{Kept}
use Rattle.mq_sender.specs.States.{is_running}
use Rattle.mq_history.specs.declared.calls.Actor.{Actor}
use Rattle.mq_history.specs.declared.calls.Actor.TheVariants as actors
use Rattle.mq_history.specs.declared.calls.Entry.{Entry}
use Rattle.mq_history.specs.declared.history.History.{History}
use Rattle.mq_history.specs.declared.scenario.Scenario.{Scenario}
use Rattle.mq_history.specs.Scenarios.{IsCable}
use Rattle.mq_cable.specs.declared.fault.Fault.{Fault}
use Rattle.mq_calls.specs.State.Running.{Up}
use Rattle.mq_spec_node.specs.Doers.{by, is_receiver, is_sender}
use Rattle.mq_spec_node.specs.Node.{Node, ReceiverEnd, SenderEnd}
use Rattle.mq_spec_node.specs.Replays.{Follows, after, opening_node}
use Rattle.mq_spec_network.specs.Given.{surroundings}
use Rattle.mq_cable.specs.Faults.{Offer, offered_of}
use Rattle.mq_spec_network.specs.Cables.{Lying, lying, offered_by, offered_if, pops_of}
use Rattle.mq_spec_network.specs.Turns.{node_of, out_of}
use Rattle.mq_spec_network.specs.Lawful.{node_begun}
use Rattle.mq_spec_network.specs.Promised.{Premises}
use Rattle.mq_spec_network.specs.Standing.{node_after}
use Rattle.mq_spec_network.specs.Story.{Line, entries_at, entries_or, part}
use Rattle.mq_law_image.proofs.Naming.{mapped_mem}
use Rattle.mq_law_ran.specs.from_course.Courses.{net_of}
use Rattle.mq_law_channel.specs.Channel.{Channel, Facts, Past, tale, tale_of, tales}
use Rattle.mq_law_channel.specs.Facts.{Binds, Tale}
use Rattle.mq_law_idle.proofs.Serving.{session_serves}
use Rattle.mq_law_node.specs.Ends.{SendsAs, TakesAs, receiver_of, sender_of}
use Rattle.mq_law_node.proofs.Named.{bool_case, nat_yes}
use Rattle.mq_law_pump.specs.Below.{BindsUpto}
use Rattle.mq_law_pump.specs.Fit.{Good, IsFit}
use Rattle.mq_law_pump.specs.Restful.{Restful}
use Rattle.mq_law_pump.specs.Ways.{seen_of}
use Rattle.mq_law_pump.proofs.Ways.{frames_of, lies, offer_if}
use Rattle.mq_law_ran.specs.from_law_run.Run.{Stand, far_at, near_at}
use Rattle.mq_law_ran.proofs.from_law_run.Acting.{cable_is, some_at}
use Rattle.mq_law_ran.proofs.from_law_run.Lining.{mem_at}
use Rattle.mq_law_rest.specs.Within.{AllWithin}
use Rattle.mq_law_rest.specs.Rests.{AllMayRest, AllUp, AreSome, EndsAre, IsPeaceful, MayRest}
use Rattle.mq_law_rest.proofs.Calm.{IsCalm, calm_of}
use Rattle.mq_law_rest.proofs.Fitting.{fit_at, sends_there, takes_there}
use Rattle.mq_law_rest.proofs.Standing.{stand_whole}
use Rattle.mq_law_rest.proofs.Steps.{none_some, some_is}

-- THE HISTORY OF A NODE
record Told (s : Scenario) (hs : List History) (m : ℕ) (n : Node) : Type 0 where
  history : History
  is : slice_get hs m ≡ Some history
  begins : n ≡ opening_node (surroundings s m) history

told : (s : Scenario) (hs : List History) (m : ℕ) (n : Node) → (net_of s hs).first m ≡ Some n → Told s hs m n
told s hs m n first = at (slice_get hs m) refl
  where
    at : (o : Option History) → slice_get hs m ≡ o → Told s hs m n
    at None e = absurd (none_some (sym (ap (node_begun (surroundings s m)) e) ∙ first))
    at (Some h) e = record { history = h; is = e; begins = sym (some_is (opening_node (surroundings s m) h) n (sym (ap (node_begun (surroundings s m)) e) ∙ first)) }

-- BEHIND IT
pub good : (s : Scenario) (hs : List History) → Premises s hs → IsPeaceful s hs → AreSome s hs → AllUp (net_of s hs) → Good (net_of s hs)
good s hs premises calm some up = record {
  there = λ m none. nothing m (slice_get hs m) refl none;
  replays = λ m n first. let t = told s hs m n first in
      subst (λ (x : Node). Follows x 0 (entries_at hs m)) (sym t.begins) (subst (Follows (opening_node (surroundings s m) t.history) 0) (sym (ap entries_or t.is)) (premises.lawful.histories m t.history t.is).replays.follows);
  fit = λ m n front back first split on. let t = told s hs m n first in
      subst (λ (x : Node). (after x front).manager.running ≡ Up → IsFit (after x front)) (sym t.begins)
      (λ k. fit_at s hs premises calm some m t.history front back t.is (sym (ap entries_or t.is) ∙ split) k) on;
  up = λ m n first. up m (after n (entries_at hs m)) (ap (λ (o : Option Node). node_of o (entries_at hs m)) first);
}
  where
    nothing : (m : ℕ) (o : Option History) → slice_get hs m ≡ o → (net_of s hs).first m ≡ None → entries_at hs m ≡ []
    nothing m None e none = ap entries_or e
    nothing m (Some h) e none = absurd (none_some (sym none ∙ ap (node_begun (surroundings s m)) e))

-- BEFORE IT
-- what lies on a cable was offered by an entry of its sender's end
one_frame : (o : Option Frame) (extras : ℕ) (os : List (Offer Lying)) → offered_of (offered_if o extras ++ os) ≡ offer_if o ++ offered_of os
one_frame None extras os = refl
one_frame (Some f) extras os = refl

abbrev Offers : List Entry → Frame → Type 0
Offers es f = (o : Entry) × Mem o es × (o.effect.pushed ≡ Some f)

same_frame : (f g : Frame) → items.Frame f ≡ items.Frame g → g ≡ f
same_frame f g k = cc

one_offered : (e : Entry) (es : List Entry) (f : Frame) → (Mem (items.Frame f) (seen_of (frames_of es)) → Offers es f) → (p : Option Frame) → e.effect.pushed ≡ p → Mem (items.Frame f) (seen_of (offer_if p ++ frames_of es)) → Offers (e ∷ es) f
one_offered e es f rest None is k = let r = rest k in (r.0, inr r.1, r.2)
one_offered e es f rest (Some g) is (inl q) = (e, inl refl, is ∙ ap (λ (x : Frame). Some x) (same_frame f g q))
one_offered e es f rest (Some g) is (inr q) = let r = rest q in (r.0, inr r.1, r.2)

offered_entry : (es : List Entry) (f : Frame) → Mem (items.Frame f) (seen_of (frames_of es)) → Offers es f
offered_entry [] f m = absurd m
offered_entry (e ∷ es) f m = one_offered e es f (λ k. offered_entry es f k) e.effect.pushed refl (subst (λ (xs : List Lying). Mem (items.Frame f) (seen_of xs)) (one_frame e.effect.pushed e.effect.extras (offered_by es)) m)

drop_mem : (n : ℕ) (xs : List Lying) (x : Seen) → Mem x (seen_of (drop n xs)) → Mem x (seen_of xs)
drop_mem zero xs x m = m
drop_mem (suc n) [] x m = m
drop_mem (suc n) (y ∷ xs) x m = inr (drop_mem n xs x m)

lies_offered : (fs : List Fault) (P Q : List Entry) (f : Frame) → fs ≡ [] → Mem (items.Frame f) (seen_of (lying fs P Q)) → Offers P f
lies_offered fs P Q f none m = offered_entry P f (drop_mem (length (pops_of Q)) (frames_of P) (items.Frame f)
    (subst (λ (xs : List Lying). Mem (items.Frame f) (seen_of xs)) (ap (λ (gs : List Fault). lying gs P Q) none ∙ lies P Q) m))

sender_is : (k : ℕ) (a : Actor) → is_sender k a ≡ true → a ≡ actors.Sender k
sender_is k (actors.Sender c) e = ap actors.Sender (nat_yes c k e)
sender_is k (actors.Receiver c) e = absurd cc
sender_is k (actors.Script c) e = absurd cc
sender_is k (actors.Handler c) e = absurd cc
sender_is k (actors.Monitor c) e = absurd cc
sender_is k actors.Operator e = absurd cc
sender_is k actors.Clock e = absurd cc

by_mem : (test : Actor → Bool) (es : List Entry) (o : Entry) → Mem o (by test es) → Mem o es × (test o.actor ≡ true)
by_mem test [] o m = absurd m
by_mem test (e ∷ es) o m = bool_case (test e.actor) (λ b. test e.actor ≡ b → Mem o (if b then e ∷ by test es else by test es) → Mem o (e ∷ es) × (test o.actor ≡ true))
    (λ z on k. elim k [ inl q ↦ (inl q, ap (λ (x : Entry). test x.actor) q ∙ on) | inr n ↦ let r = by_mem test es o n in (inr r.0, r.1) ])
    (λ z off k. let r = by_mem test es o k in (inr r.0, r.1)) refl m

line_mem : (m : ℕ) (p : List Line) (o : Entry) → Mem o (part m p) → Mem (record { manager = m; entry = o }) p
line_mem m [] o k = absurd k
line_mem m (x ∷ p) o k = bool_case (m == x.manager) (λ b. (m == x.manager) ≡ b → Mem o (if b then x.entry ∷ part m p else part m p) → Mem (record { manager = m; entry = o }) (x ∷ p))
    (λ z on n. elim n [ inl q ↦ inl (λ i. record { manager = nat_yes m x.manager on i; entry = q i }) | inr j ↦ inr (line_mem m p o j) ])
    (λ z off n. inr (line_mem m p o n)) refl k

-- a BIND that was offered bears no session above the sender's
bind_below : (x : Channel) (y : Past) → Facts x y → (f : Frame) → Mem f x.out → kind_is_bind f.kind ≡ true → f.session ≤ x.sends.session
bind_below x y facts f m on = at f.kind refl on
  where
    at : (k : FrameKind) → f.kind ≡ k → kind_is_bind k ≡ true → f.session ≤ x.sends.session
    at (kinds.Bind last force) is e =
        let there : Mem (Binds f.session last force) (tales x.out) = subst (λ (t : Tale). Mem t (tales x.out)) (ap (tale_of f.session) is) (mapped_mem tale f x.out m) in
        subst (λ (n : ℕ). f.session ≤ n) facts.tied.session (facts.sound.binds f.session last force there)
    at (kinds.Status a b c) is e = absurd cc
    at (kinds.Msg a b c d g) is e = absurd cc
    at (kinds.End a b c) is e = absurd cc
    at (kinds.Ack a) is e = absurd cc
    at (kinds.Err a b) is e = absurd cc

binds_upto : (session : ℕ) (xs : List Seen) → ((f : Frame) → Mem (items.Frame f) xs → kind_is_bind f.kind ≡ true → f.session ≤ session) → BindsUpto session xs
binds_upto session [] h = tt
binds_upto session (items.Frame f ∷ xs) h = (λ on. h f (inl refl) on, binds_upto session xs (λ g m. h g (inr m)))
binds_upto session (items.Nothing ∷ xs) h = binds_upto session xs (λ g m. h g (inr m))
binds_upto session (items.Spoiled ∷ xs) h = binds_upto session xs (λ g m. h g (inr m))

running_session : (x : Channel) (y : Past) → Facts x y → is_running x.sender.state ≡ true → x.sends.session ≡ x.sender.kept.session
running_session x y facts on = sym (ap (λ (k : Kept). k.session) (facts.tied.running on))

pub restful : (s : Scenario) (hs : List History) → Premises s hs → IsPeaceful s hs → Good (net_of s hs) → AllWithin (net_of s hs) → AllMayRest (net_of s hs) → Restful (net_of s hs)
restful s hs premises calm g within rests k c is = record {
  faultless = may.faultless;
  near = near;
  far = far;
  near_is = near_is;
  far_is = far_is;
  sender = sender;
  receiver = receiver;
  cables = (refl, refl);
  here = sends.here;
  there = takes.here;
  out_within = (within k c is).out;
  back_within = (within k c is).back;
  served = λ on. may.served here there sender receiver ends on;
  known = λ on. session_serves x (z.ys c.sender c.channel) facts on;
  binds = λ on. binds_upto x.sender.kept.session (seen_of (out_of (net_of s hs) k c)) (λ f m bind. below f (lies_offered c.out (by (is_sender k) (entries_at hs c.sender)) (by (is_receiver k) (entries_at hs c.receiver)) f may.faultless.0 m) bind on);
  rows = λ on. may.rows here there sender receiver ends on;
  way = may.way here there sender receiver ends;
  kept = may.kept here there sender receiver ends;
}
  where
    may : MayRest (net_of s hs) k c
    may = rests k c is

    line : IsCable s c
    line = cable_is s s.cables c premises.scenario.cables (mem_at s.cables k c is)

    g1 : (h : History) × (slice_get hs c.sender ≡ Some h)
    g1 = some_at hs c.sender (subst (λ (l : ℕ). c.sender < l) (sym premises.joined.all) line.sender)

    g2 : (h : History) × (slice_get hs c.receiver ≡ Some h)
    g2 = some_at hs c.receiver (subst (λ (l : ℕ). c.receiver < l) (sym premises.joined.all) line.receiver)

    near : Node
    near = opening_node (surroundings s c.sender) g1.0

    far : Node
    far = opening_node (surroundings s c.receiver) g2.0

    near_is : (net_of s hs).first c.sender ≡ Some near
    near_is = ap (node_begun (surroundings s c.sender)) g1.1

    far_is : (net_of s hs).first c.receiver ≡ Some far
    far_is = ap (node_begun (surroundings s c.receiver)) g2.1

    here : Node
    here = after near (entries_at hs c.sender)

    there : Node
    there = after far (entries_at hs c.receiver)

    c0 : IsCalm s hs
    c0 = calm_of s hs premises calm

    z : Stand s hs c0.story
    z = stand_whole s hs premises c0

    x : Channel
    x = z.xs c.sender c.channel

    facts : Facts x (z.ys c.sender c.channel)
    facts = (z.lines k c is).facts

    same_near : node_after s c.sender c0.story g1.0 ≡ here
    same_near = ap (after near) (c0.is.parts c.sender)

    same_far : node_after s c.receiver c0.story g2.0 ≡ there
    same_far = ap (after far) (c0.is.parts c.receiver)

    sends : SendsAs (near_at s k c) here x
    sends = subst (λ (n : Node). SendsAs (near_at s k c) n x) same_near
        (sends_there s hs c0.story c.sender g1.0 z k c is refl g1.1 (subst (λ (n : Node). n.manager.running ≡ Up) (sym same_near) (g.up c.sender near near_is)))

    takes : TakesAs (far_at s k c) there x
    takes = subst (λ (n : Node). TakesAs (far_at s k c) n x) same_far
        (takes_there s hs c0.story c.receiver g2.0 z k c is refl g2.1 (subst (λ (n : Node). n.manager.running ≡ Up) (sym same_far) (g.up c.receiver far far_is)))

    sender : SenderEnd
    sender = sender_of (near_at s k c) x.sender

    receiver : ReceiverEnd
    receiver = receiver_of (far_at s k c) x.receiver x.kept

    ends : EndsAre (net_of s hs) k c here there sender receiver
    ends = record {
      near_is = ap (λ (o : Option Node). node_of o (entries_at hs c.sender)) near_is;
      far_is = ap (λ (o : Option Node). node_of o (entries_at hs c.receiver)) far_is;
      here = sends.here;
      there = takes.here;
    }

    below : (f : Frame) → Offers (by (is_sender k) (entries_at hs c.sender)) f → kind_is_bind f.kind ≡ true → is_running x.sender.state ≡ true → f.session ≤ x.sender.kept.session
    below f o bind on =
        let m = by_mem (is_sender k) (entries_at hs c.sender) o.0 o.1 in
        let told_ : Mem (record { manager = c.sender; entry = o.0 }) c0.story = line_mem c.sender c0.story o.0 (subst (λ (es : List Entry). Mem o.0 es) (sym (c0.is.parts c.sender)) m.0) in
        subst (λ (n : ℕ). f.session ≤ n) (running_session x (z.ys c.sender c.channel) facts on)
        (bind_below x (z.ys c.sender c.channel) facts f ((z.offered k c is).out o.0 f told_ (sender_is k o.0.actor m.1) o.2) bind)
