-- A restart of a manager that finds the write of one of its ends, as a move of the network: what the write does, and then the start.
use Rattle.std.proofs.Common.{ℕ, ◌≡◌, true, false, List, [], ◌∷◌, ◌++◌, refl, ap, sym, subst, ◌∙◌}
use Rattle.std.specs.Prelude.{Bool, Option, Some, None, ◌==◌, if◌then◌else◌, slice_get}
use Rattle.mq_frame.specs.declared.frame.Frame.{Frame}
use Rattle.mq_sync.specs.declared.data.ReceiverData.{ReceiverData}
use Rattle.mq_history.specs.declared.history.History.{History}
use Rattle.mq_history.specs.declared.scenario.CableLine.{CableLine}
use Rattle.mq_history.specs.declared.scenario.Scenario.{Scenario}
use Rattle.mq_history.specs.Scenarios.{IsScenario}
use Rattle.mq_calls.specs.State.{Plain}
use Rattle.mq_calls.specs.State.Running.{Down}
use Rattle.mq_calls.specs.Reads.{is_persistent, receiver_data, receiver_in, sender_in}
use Rattle.mq_spec_network.specs.Story.{Line, Mem}
use Rattle.mq_law_run.proofs.Lining.{here, mem_at}
use Rattle.mq_history.specs.declared.acts.Act.TheVariants as acts
use Rattle.mq_history.specs.declared.acts.Acted.TheVariants as acted
use Rattle.mq_history.specs.declared.calls.Call.TheVariants as calls
use Rattle.mq_history.specs.declared.calls.Chance.TheVariants as chances
use Rattle.mq_history.specs.declared.calls.Entry.{Entry}
use Rattle.mq_history.specs.declared.calls.Reply.{Reply}
use Rattle.mq_history.specs.declared.calls.Reply.TheVariants as replies
use Rattle.mq_spec_node.specs.Node.{Node}
use Rattle.mq_spec_node.specs.Node.ChannelEnd.{Receives}
use Rattle.mq_spec_node.specs.Deeds.{Done, begun_anew, quiet}
use Rattle.mq_spec_node.specs.Replays.{done_by}
use Rattle.mq_spec_network.specs.Ledger as ledgers
use Rattle.mq_spec_network.specs.Ledger.{Ledger, Users, ledger, posted}
use Rattle.mq_spec_network.specs.Standing.{managers_at, node_after, opening_ledger, opening_managers}
use Rattle.mq_law_node.specs.Ends.{receiver_of}
use Rattle.mq_law_node.specs.Nodes.{FarNode, NearNode, SameFar, SameNear, SendsDown, TakesDown}
use Rattle.mq_law_stopped.specs.from_law_batches.Releases.{AreUnprepared, Rested}
use Rattle.mq_law_stopped.proofs.from_law_batches.Stopping as batches
use Rattle.mq_law_one.proofs.from_law_story.Weaving.{ledger_step}
use Rattle.mq_law_stopped.specs.from_law_turns.Agreed.{IsToldOf}
use Rattle.mq_law_cables.proofs.Keeping.{rests}
use Rattle.mq_law_one.proofs.Running.{Told_}
use Rattle.mq_law_events.proofs.Telling.{else_changed, else_places, else_then, else_users, here_changed, left_shelved}
use Rattle.mq_law_run.proofs.Owning.{housed_else, next_managers, others_told}
use Rattle.mq_law_run.proofs.Running.{far_here, move_to, near_here}
use Rattle.mq_law_events.proofs.Locals.{stays_leads}
use Rattle.mq_law_events.proofs.Sounds.{restart_fresh}
use Rattle.mq_law_events.specs.Local.{sheet_of, side_of}
use Rattle.mq_law_node.proofs.FarEvents.{far_begun_here, made_of}
use Rattle.mq_law_node.proofs.NearEvents.{begun_here}
use Rattle.mq_calls.specs.declared.choices.Return.TheVariants.{Comes}
use Rattle.mq_receiver.specs.declared.state.Receiver.{Receiver}
use Rattle.mq_receiver.specs.States as receivers
use Rattle.mq_calls.specs.State.{Noted}
use Rattle.mq_spec_manager.specs.Stops.{grown, redone, redone_delta, restarted}
use Rattle.mq_calls.specs.declared.deltas.Did.{Did}
use Rattle.mq_law_node.specs.Nodes.{FarAt, NearAt}
use Rattle.mq_law_run.proofs.Tying.{leads_on, forced_then, keeps_less, keeps_then, stop_less}
use Rattle.mq_calls.specs.State.{Given}
use Rattle.mq_queue.specs.declared.row.Row.{Row}
use Rattle.mq_sync.specs.Settlement.{receiver_or, sender_or}
use Rattle.mq_calls.specs.Images.{begun, lasting, raised}
use Rattle.mq_calls.specs.declared.image.Image.{Image}
use Rattle.mq_spec_network.specs.Ledger.{change_at}
use Rattle.mq_law_node.specs.Ends.{told_receives, told_sends}
use Rattle.mq_message.specs.declared.message.Ident.{Ident}
use Rattle.mq_sync.specs.declared.unit.Unit.{Unit as Luw}
use Rattle.mq_law_events.proofs.Taking.{gone_users}
use Rattle.mq_law_deeds.specs.Numbers.{AreCounted}
use Rattle.mq_sender.specs.declared.state.Sender.{Sender}
use Rattle.mq_sender.specs.States as senders
use Rattle.mq_sync.specs.Units.{Upto, no_unit, same_unit}
use Rattle.mq_calls.specs.declared.agents.Note.TheVariants as notes
use Rattle.mq_spec_network.specs.Conflict.{Deed as ToldDeed, deeds, is_committed}
use Rattle.mq_law_channel.specs.Channel.{Channel, Facts, Past}
use Rattle.mq_law_channel.specs.Turns.{receiver_rests, released, sender_rests}
use Rattle.mq_law_channel.proofs.Operating.{receiver_inactive, sender_inactive}
use Rattle.mq_law_rows.specs.World.{Book, Ghost}
use Rattle.mq_law_rows.specs.Families.{put_at}
use Rattle.mq_law_rows.proofs.Lists.{bool_case, eqb_self, here_yes}
use Rattle.mq_law_seen.specs.Seen.{book_of, world_of}
use Rattle.mq_law_manager.specs.Facts.{IsSound}
use Rattle.mq_law_node.specs.Data.{receives_at, sends_at}
use Rattle.mq_law_cables.specs.Joints.{AreJoint, rested}
use Rattle.mq_law_events.specs.Tied.{IsElse, IsFresh, IsNext, IsTold}
use Rattle.mq_law_stopped.specs.from_law_found.Finds.{posted_again}
use Rattle.mq_law_stopped.proofs.from_law_turns.Agreeing.{released_tells}
use Rattle.mq_law_run.specs.Run.{Among, Housed, IsMoved, Moves, Stand, back_done, far_at, near_at, IsLater}
use Rattle.mq_law_run.proofs.Stopping.{at_rest_far, eqb_no, receives_so, receives_on}
use Rattle.mq_calls.specs.declared.deltas.Did.TheVariants as did
use Rattle.mq_law_run.specs.Ordered.{AreForced, HasRow, forced_over}
use Rattle.mq_law_run.proofs.Later.{later_rests}
use Rattle.mq_spec_network.specs.Order.{OrderAt, unit_received}

-- WHAT THE WRITE DOES: the network as the manager would have it, its channels and what is told, from what was kept before
abbrev pub base_of : (s : Scenario) (p : List Line) (x : Line) → History → Plain
base_of s p x h = (node_after s x.manager p h).manager

abbrev pub mid_of : (s : Scenario) (hs : List History) (p : List Line) (x : Line) → Plain → List Plain
mid_of s hs p x g = change_at x.manager (λ (o : Plain). g) (managers_at s p hs)

pub mid_next : (s : Scenario) (hs : List History) (p : List Line) (x : Line) (t : Told_ s hs p x) (g : Plain) → IsNext x.manager (base_of s p x t.h) g (managers_at s p hs) (mid_of s hs p x g)
mid_next s hs p x t g =
    let ps : List Plain = managers_at s p hs in
    let at_b = (next_managers s hs p x t).at in
    record { at = at_b; to = here_changed x.manager (λ (o : Plain). g) ps (base_of s p x t.h) at_b; others = λ c f. else_changed x.manager c (λ (o : Plain). g) ps f }

-- a cable's channel at its sender's manager, and at its receiver's
abbrev pub NearPart : Channel → Channel → List ℕ → Plain → Type 0
NearPart c d ch g = SameFar c d × Among c.out d.out × (told_sends d.sends ≡ told_sends (sends_at ch g)) × IsLater c d

abbrev pub FarPart : Channel → Channel → List ℕ → Plain → Type 0
FarPart c d ch g = SameNear c d × Among c.back d.back × (told_receives d.receives ≡ told_receives (receives_at ch g))

-- what is so of a cable whose channel is another, and of each whose channel stays
pub part_of : (P : Channel → Channel → List ℕ → Type 0) (xs : ℕ → List ℕ → Channel) (k h : CableLine) (c : Channel) → (here k h ≡ true → P (xs k.sender k.channel) c k.channel) → (here k h ≡ false → P (xs h.sender h.channel) (xs h.sender h.channel) h.channel)
    → P (xs h.sender h.channel) (put_at xs k.sender k.channel c h.sender h.channel) h.channel
part_of P xs k h c mine other = bool_case (here k h) (λ v. here k h ≡ v → P (xs h.sender h.channel) (if v then c else xs h.sender h.channel) h.channel)
    (λ d v.
    let u = here_yes k.sender k.channel h.sender h.channel v in
    subst (λ (e : List ℕ). P (xs h.sender e) c e) (sym u.1) (subst (λ (e : ℕ). P (xs e k.channel) c k.channel) (sym u.0) (mine v)))
    (λ d v. other v) refl

-- of the channels and of what is told of their units
pub record ChannelsRedone (s : Scenario) (hs : List History) (p : List Line) (x : Line) (h : History) (z : Stand s hs p) (g : Plain) (given : Ident → Bool) (ghost : Ghost) (xs : ℕ → List ℕ → Channel) (ys : ℕ → List ℕ → Past) (k : Ledger) : Type 0 where
  pub joint : AreJoint (world_of s given (mid_of s hs p x g)) ghost (book_of k) s.cables xs ys
  pub facts : (c : CableLine) → Mem c s.cables → Facts (xs c.sender c.channel) (ys c.sender c.channel)
  pub near : (i : ℕ) (c : CableLine) → slice_get s.cables i ≡ Some c → c.sender ≡ x.manager → NearPart (z.xs c.sender c.channel) (xs c.sender c.channel) c.channel g
  pub far : (i : ℕ) (c : CableLine) → slice_get s.cables i ≡ Some c → c.receiver ≡ x.manager → FarPart (z.xs c.sender c.channel) (xs c.sender c.channel) c.channel g
  pub aside : (c : CableLine) → Mem c s.cables → (c.sender == x.manager) ≡ false → (c.receiver == x.manager) ≡ false → xs c.sender c.channel ≡ z.xs c.sender c.channel
  pub tells : (c : CableLine) → Mem c s.cables → IsToldOf s (opening_managers s hs) (deeds (p ++ x ∷ [])) c.sender c.channel (xs c.sender c.channel) (ys c.sender c.channel)
  pub resolved : (a : ℕ) (c : List ℕ) (u : Luw) → ghost.operated a c u ≡ true → Mem (record { manager = a; did = did.Hardened c (notes.Resolved u true true) }) (deeds (p ++ x ∷ []))
  pub not_yet : (a : ℕ) (c : List ℕ) (u : Luw) → ghost.operated a c u ≡ true → is_committed s (opening_managers s hs) (deeds (p ++ x ∷ [])) c u ≡ false
  pub risen : (c : CableLine) → Mem c s.cables → (u : Luw) → is_committed s (opening_managers s hs) (deeds (p ++ x ∷ [])) c.channel u ≡ true → Upto u (xs c.sender c.channel).receives.unit
  pub owned : (a : ℕ) (c : List ℕ) (u : Luw) → ghost.operated a c u ≡ true → (i : ℕ) × (k : CableLine) × (slice_get s.cables i ≡ Some k) × (k.sender ≡ a) × (k.channel ≡ c)
  pub loose : (a : ℕ) (c : List ℕ) (u : Luw) → ghost.loose a c u ≡ true → z.ghost.loose a c u ≡ true
  pub listed : AreForced z.ghost ghost x.entry.effect.delta (book_of (ledger (opening_ledger s hs) p)).rows (book_of k).rows

-- and of the manager and the ledger (what is posted may tell less than what was done, as long as both come to one when the manager is up again)
pub record IsRedone (s : Scenario) (hs : List History) (p : List Line) (x : Line) (h : History) (z : Stand s hs p) (g : Plain) (given : Ident → Bool) (ghost : Ghost) (xs : ℕ → List ℕ → Channel) (ys : ℕ → List ℕ → Past) (k n : Ledger) : Type 0 where
  pub channels : ChannelsRedone s hs p x h z g given ghost xs ys k
  pub told : IsTold x.manager g k
  pub fresh : IsFresh given g
  pub now : IsTold x.manager g n
  pub moment : now.users.moment ≡ (base_of s p x h).moment
  pub books : book_of (ledgers.up_again x.manager k) ≡ book_of (ledgers.up_again x.manager n)
  pub same : g.given ≡ (base_of s p x h).given
  pub steady : g.moment ≡ (base_of s p x h).moment
  pub free : AreUnprepared s (mid_of s hs p x g) g
  pub known : (i : Ident) → (i.manager == (base_of s p x h).given.number) ≡ false → given i ≡ z.given i
  pub others : (a : ℕ) (r : Plain) → (a == x.manager) ≡ false → IsTold a r (ledger (opening_ledger s hs) p) → IsTold a r n
  pub users : (a : ℕ) → (a == x.manager) ≡ false → slice_get n.users a ≡ slice_get (ledger (opening_ledger s hs) p).users a
  pub housed : Housed (ledger (opening_ledger s hs) p) n
  pub order : OrderAt (unit_received x.entry.effect.delta) (forced_over [] p) x (ledger (opening_ledger s hs) p) (ledgers.up_again x.manager n)

-- AND THEN THE START: nothing is stopped any more, and no program is connected; ends begin with what is hardened, with the machines that they had
abbrev pub clear : Users → Users
clear u = record u { cut = None }

abbrev pub alone : Users → Users
alone u = record u { connections = [] }

pub none_counted : (last : ℕ) → AreCounted last []
none_counted last = record { apart = tt; upto = λ k n. absurd n }

abbrev near_back : Bool → Sender → Channel → Channel
near_back true m x = sender_rests (senders.halted m) x
near_back false m x = x

abbrev all_back : List CableLine → ℕ → (ℕ → List ℕ → Channel) → (ℕ → List ℕ → Channel) → ℕ → List ℕ → Channel
all_back ks m ws xs a c = at_rest_far receiver_rests (receives_on ks m a c) (near_back (a == m) (ws a c).sender (xs a c))

back_at : (s : Scenario) (m : ℕ) (k : CableLine) (ws xs : ℕ → List ℕ → Channel) → IsScenario s → Mem k s.cables
    → all_back s.cables m ws xs k.sender k.channel ≡ at_rest_far receiver_rests (k.receiver == m) (near_back (k.sender == m) (ws k.sender k.channel).sender (xs k.sender k.channel))
back_at s m k ws xs scenario n = ap (λ t. at_rest_far receiver_rests t (near_back (k.sender == m) (ws k.sender k.channel).sender (xs k.sender k.channel))) (receives_so s m k scenario n)

back_receives : (a b : Bool) (m : Sender) (x : Channel) → (at_rest_far receiver_rests a (near_back b m x)).receives ≡ x.receives
back_receives true true m x = refl
back_receives true false m x = refl
back_receives false true m x = refl
back_receives false false m x = refl

back_facts : (a b : Bool) (m : Sender) (x : Channel) (y : Past) → Facts x y → Facts (at_rest_far receiver_rests a (near_back b m x)) (if b then released y else y)
back_facts true true m x y h = receiver_inactive (sender_rests (senders.halted m) x) (released y) (sender_inactive (senders.halted m) x y h refl)
back_facts true false m x y h = receiver_inactive x y h
back_facts false true m x y h = sender_inactive (senders.halted m) x y h refl
back_facts false false m x y h = h

back_told : (s : Scenario) (ps : List Plain) (ds : List ToldDeed) (m : ℕ) (c : List ℕ) (a b : Bool) (w : Sender) (x : Channel) (y : Past) → IsToldOf s ps ds m c x y → IsToldOf s ps ds m c (at_rest_far receiver_rests a (near_back b w x)) (if b then released y else y)
back_told s ps ds m c a true w x y h = released_tells s ps ds m c x (at_rest_far receiver_rests a (near_back true w x)) y (back_receives a true w x) h
back_told s ps ds m c a false w x y h = record {
  undone = h.undone;
  last = subst (λ (r : ReceiverData). same_unit r.unit no_unit ≡ false → is_committed s ps ds c r.unit ≡ true) (sym (back_receives a false w x)) h.last;
}

sender_back : (k : CableLine) (m : ℕ) (a : Bool) (w : Sender) (x : Channel) → k.sender ≡ m → a ≡ false → at_rest_far receiver_rests a (near_back (k.sender == m) w x) ≡ sender_rests (senders.halted w) x
sender_back k m a w x q e = ap (λ t. at_rest_far receiver_rests t (near_back (k.sender == m) w x)) e ∙ ap (λ t. near_back t w x) (ap (λ o. o == m) q ∙ eqb_self m)

receiver_back : (k : CableLine) (m : ℕ) (b : Bool) (w : Sender) (x : Channel) → k.receiver ≡ m → b ≡ false → at_rest_far receiver_rests (k.receiver == m) (near_back b w x) ≡ receiver_rests x
receiver_back k m b w x q e = ap (λ t. at_rest_far receiver_rests (k.receiver == m) (near_back t w x)) e ∙ ap (λ t. at_rest_far receiver_rests t x) (ap (λ o. o == m) q ∙ eqb_self m)

-- the manager that comes up, of one that was down and of what lasts of this
abbrev pub up_from : ℕ → Plain → Plain → Plain
up_from started r b = begun b.given (raised started (lasting r)) (grown started r) b.moment

pub comes_up : (s : Scenario) (hs : List History) (p : List Line) (x : Line) (z : Stand s hs p) (t : Told_ s hs p x) (noted : Option Noted) (starts started : ℕ) (ds : List Did) (base : Plain) (given : Ident → Bool) (ghost : Ghost) (xs : ℕ → List ℕ → Channel) (ys : ℕ → List ℕ → Past) (g : Plain) (k1 kn : Ledger) → IsScenario s
    → (node_after s x.manager p t.h).manager.running ≡ Down noted starts → done_by x.entry (node_after s x.manager p t.h) ≡ quiet (replies.Acted acted.Done) ds (begun_anew (up_from started base (base_of s p x t.h)) (node_after s x.manager p t.h).own)
    → ledger (opening_ledger s hs) (p ++ x ∷ []) ≡ ledgers.up_again x.manager kn → IsSound (up_from started base (base_of s p x t.h)) → lasting g ≡ lasting base → IsRedone s hs p x t.h z g given ghost xs ys k1 kn → Moves s hs p x t.h z
comes_up s hs p x z t noted starts started ds base given ghost xs ys g k1 kn scenario down is posts sound last r1 =
    let m : ℕ = x.manager in
    let n : Node = node_after s m p t.h in
    let b : Plain = n.manager in
    let l : Ledger = ledger (opening_ledger s hs) p in
    let e : Entry = x.entry in
    let a = z.at m t.h t.is in
    let q : Plain = up_from started base b in
    let d : Done = quiet (replies.Acted acted.Done) ds (begun_anew q n.own) in
    let l0 : Ledger = ledgers.with_users m clear k1 in
    let ln : Ledger = ledgers.with_users m clear kn in
    let l1 : Ledger = ledgers.up_again m kn in
    let ps : List Plain = managers_at s p hs in
    let mid : List Plain = mid_of s hs p x g in
    let ms : List Plain = managers_at s (p ++ x ∷ []) hs in
    let next : IsNext m b q ps ms = subst (λ (w : Done). IsNext m b w.next.manager ps ms) is (next_managers s hs p x t) in
    let n1 : IsNext m b g ps mid = mid_next s hs p x t g in
    let n2 : IsNext m g q mid ms = record { at = n1.to; to = next.to; others = λ c f. next.others c f ∙ sym (n1.others c f) } in
    let used0 : slice_get l0.users m ≡ Some (clear r1.told.users) = here_changed m clear k1.users r1.told.users r1.told.used in
    let t0 : IsTold m g l0 = record { places = r1.told.places; placed = r1.told.placed; shelved = r1.told.shelved; name = r1.told.name; definitions = r1.told.definitions; users = clear r1.told.users; used = used0; connections = r1.told.connections } in
    let stay : IsNext m g g mid mid = record { at = n1.to; to = n1.to; others = λ c f. refl } in
    let j0 = leads_on s given given m g g mid mid k1 l0 ghost s.cables xs ys stay r1.told (stays_leads m (side_of g given) (sheet_of m k1)) (record { given = refl; senders = refl; receivers = refl; batches = refl }) t0 (else_users m clear k1) r1.channels.joint in
    let same : begun g.given (raised started (lasting g)) (grown started base) g.moment ≡ q = λ i. begun (r1.same i) (raised started (last i)) (grown started base) (r1.steady i) in
    let r : Rested s given m g q ms j0.0.ghost l0 = subst (λ (o : Plain). IsNext m g o mid ms → Rested s given m g o ms j0.0.ghost l0) same
    (λ on. batches.restarts s given m started g (grown started base) mid ms l0 j0.0.ghost on t0 (restart_fresh given g started (grown started base) r1.fresh) r1.free j0.0.joint.inv) n2 in
    let zs : ℕ → List ℕ → Channel = all_back s.cables m z.xs xs in
    let pushed : e.effect.pushed ≡ None = t.tells.pushed ∙ ap (λ (o : Done). o.pushed) is in
    let other1 : IsElse m kn l1 = else_then m kn ln l1 (else_users m clear kn) (else_then m ln (ledgers.with_users m alone ln) l1 (else_users m alone ln) (else_places m _ (ledgers.with_users m alone ln))) in
    let used_n : slice_get ln.users m ≡ Some (clear r1.now.users) = here_changed m clear kn.users r1.now.users r1.now.used in
    let used_1 : slice_get l1.users m ≡ Some (alone (clear r1.now.users)) = here_changed m alone ln.users (clear r1.now.users) used_n in
    let operated : (c : ℕ) (d : List ℕ) (u : Luw) → r.stands.ghost.operated c d u ≡ true → ghost.operated c d u ≡ true = λ c d u f. (λ i. sym j0.1 i c d u) ∙ (λ i. sym r.stands.operated i c d u) ∙ f in
    move_to s hs p x t.h z d l1 is posts (record {
      given = r.now;
      ghost = r.stands.ghost;
      xs = zs;
      ys = rested m ys;
      joint = subst (λ (o : Book). AreJoint (world_of s r.now ms) r.stands.ghost o s.cables zs (rested m ys)) r1.books
          (rests s given r.now m g q mid ms j0.0.ghost r.stands.ghost (book_of l0) (book_of (ledgers.up_again m k1)) s.cables xs zs ys n2
          (record { given = sym r1.same; senders = ap (λ (o : Image). o.senders) (sym last); receivers = ap (λ (o : Image). o.receivers) (sym last); batches = refl }) r.stands.sent r.stands.operated r.stands.inv r1.channels.facts
          (λ k w. ap (λ (o : Channel). o.receives) (back_at s m k z.xs xs scenario w) ∙ back_receives (k.receiver == m) (k.sender == m) (z.xs k.sender k.channel).sender (xs k.sender k.channel)) j0.0.joint);
      moved = λ i k f.
          let there : Mem k s.cables = mem_at s.cables i k f in
          let c : Channel = z.xs k.sender k.channel in
          let v1 : Channel = xs k.sender k.channel in
          let v : zs k.sender k.channel ≡ at_rest_far receiver_rests (k.receiver == m) (near_back (k.sender == m) c.sender v1) = back_at s m k z.xs xs scenario there in
          subst (λ (o : Channel). IsMoved s m d.next i k c o (rested m ys k.sender k.channel)) (sym v) (record {
            facts = back_facts (k.receiver == m) (k.sender == m) c.sender v1 (ys k.sender k.channel) (r1.channels.facts k there);
            near = λ w.
                let v0 : SendsDown (near_at s i k) n noted c = subst (NearAt (near_at s i k) n c) down (near_here s hs p x z t i k f w) in
                let d0 = r1.channels.near i k f w in
                let o = sender_back k m (k.receiver == m) c.sender v1 w (eqb_no k.receiver m (λ y. (z.joint.tied k there).apart (y ∙ sym w))) in
                subst (λ (y : Channel). NearNode (near_at s i k) d.next y × SameFar c y × Among c.out y.out) (sym o) (
                  record {
                    here = begun_here i q n.own.ends (near_at s i k) c.sender v0.here;
                    data_ = d0.2 ∙ (λ a_. told_sends (sender_or (sender_in k.channel (last a_).senders)));
                    batched = λ y. absurd cc;
                    unbatched = λ y. refl;
                  },
                  record { receives = d0.0.receives; receiver = d0.0.receiver; kept = d0.0.kept; back = d0.0.back },
                  d0.1,
                );
            far = λ w.
                let v0 : TakesDown (far_at s i k) n noted c = subst (FarAt (far_at s i k) n c) down (far_here s hs p x z t i k f w) in
                let d0 = r1.channels.far i k f w in
                let data_now : told_receives v1.receives ≡ told_receives (receives_at k.channel q) = d0.2 ∙ (λ a_. told_receives (receiver_or (receiver_in k.channel (last a_).receivers))) in
                let o = receiver_back k m (k.sender == m) c.sender v1 w (eqb_no k.sender m (λ y. (z.joint.tied k there).apart (w ∙ sym y))) in
                subst (λ (y : Channel). FarNode (far_at s i k) d.next y × SameNear c y × Among c.back y.back) (sym o) (
                  record {
                    here = far_begun_here i q n.own.ends (far_at s i k) c.receiver c.kept v0.here
                        ∙ ap (λ (o : Receiver). Some (Receives (receiver_of (far_at s i k) o []))) (made_of (receiver_data k.channel q) ∙ sym (ap (λ (o : ReceiverData). receivers.receiver_of (Some o)) data_now));
                    data_ = data_now;
                  },
                  record { sends = d0.0.sends; sender = d0.0.sender; batch = d0.0.batch; out = d0.0.out },
                  d0.1,
                );
            later = λ w. subst (λ (y : Channel). IsLater c y) (sym (sender_back k m (k.receiver == m) c.sender v1 w (eqb_no k.receiver m (λ y. (z.joint.tied k there).apart (y ∙ sym w)))))
                (later_rests (senders.halted c.sender) c v1 refl (r1.channels.near i k f w).3);
            else = λ w y. ap (λ o. at_rest_far receiver_rests (k.receiver == m) (near_back o c.sender v1)) w ∙ ap (λ o. at_rest_far receiver_rests o v1) y ∙ r1.channels.aside k there w y;
          });
      out = λ i k f g w actor push. absurd (no_frame f (sym pushed ∙ push));
      back = λ i k f g w actor push. absurd (no_frame f (sym pushed ∙ push));
      told = λ k w. subst (λ (o : Channel). IsToldOf s (opening_managers s hs) (deeds (p ++ x ∷ [])) k.sender k.channel o (rested m ys k.sender k.channel)) (sym (back_at s m k z.xs xs scenario w))
          (back_told s (opening_managers s hs) (deeds (p ++ x ∷ [])) k.sender k.channel (k.receiver == m) (k.sender == m) (z.xs k.sender k.channel).sender (xs k.sender k.channel) (ys k.sender k.channel) (r1.channels.tells k w));
      resolved = λ c d u f. r1.channels.resolved c d u (operated c d u f);
      not_yet = λ c d u f. r1.channels.not_yet c d u (operated c d u f);
      risen = λ k w u f. subst (λ (o : Luw). Upto u o) (sym (ap (λ (o : Channel). o.receives.unit) (back_at s m k z.xs xs scenario w)
          ∙ ap (λ (o : ReceiverData). o.unit) (back_receives (k.receiver == m) (k.sender == m) (z.xs k.sender k.channel).sender (xs k.sender k.channel)))) (r1.channels.risen k w u f);
      owned = λ c d u f. r1.channels.owned c d u (operated c d u f);
      loose = λ c d u f. r1.channels.loose c d u ((λ i. sym j0.2 i c d u) ∙ (λ i. sym r.stands.loose i c d u) ∙ f);
      at = record {
        told = record {
          places = record r1.now.places { queues = ledgers.leave_queues (λ (row : Row). is_persistent row.message) r1.now.places.queues };
          placed = here_changed m (λ o. record o { queues = ledgers.leave_queues (λ (row : Row). is_persistent row.message) o.queues }) kn.places r1.now.places r1.now.placed;
          name = r1.now.name ∙ ap (λ (o : Given). o.name) r1.same;
          definitions = r1.now.definitions ∙ ap (λ (o : Image). o.definitions) last;
          shelved = left_shelved (λ (row : Row). is_persistent row.message) r1.now.places.queues r1.now.shelved;
          users = alone (clear r1.now.users);
          used = used_1;
          connections = refl;
        };
        fresh = r.fresh;
        number = a.number;
        timed = record { users = alone (clear r1.now.users); used = used_1; moment = r1.moment };
        state = sound;
        noted = tt;
      };
      known = λ i w. r.known i (ap (λ (o : Given). i.manager == o.number) r1.same ∙ w) ∙ r1.known i w;
      others = λ c o ne h. others_told m c o kn l1 ne other1 (r1.others c o ne h);
      users = λ c ne. other1.users c ne ∙ r1.users c ne;
      counted = record { users = alone (clear r1.now.users); used = used_1; counted = none_counted q.numbers.connections };
      cabled = record { once = λ c w. absurd w; line = λ c w. absurd w };
      listed = forced_then z.ghost ghost r.stands.ghost e.effect.delta (book_of l).rows (book_of k1).rows (book_of l1).rows r1.channels.listed
          (keeps_then ghost j0.0.ghost r.stands.ghost (book_of k1).rows (book_of l0).rows (book_of l1).rows j0.3
          (keeps_less j0.0.ghost r.stands.ghost (book_of l0).rows (book_of l1).rows r.stands.operated r.stands.sent (λ i_ g. stop_less m l0 i_ (subst (λ (o : Book). HasRow i_ o.rows) (sym r1.books) g))));
      order = r1.order;
      housed = λ c w f. let v = housed_else m kn l1 r1.now.places r1.now.placed other1 c w f in r1.housed c v.0 v.1;
    })
  where
    no_frame : (f : Frame) → None ≡ Some f → ⊥
    no_frame f e = cc

-- and where it finds the write
pub found_posted : (s : Scenario) (hs : List History) (p : List Line) (x : Line) (t : Told_ s hs p x) (noted : Noted) (started : ℕ) (st : ledgers.Stopped) → x.entry.call ≡ calls.Act acts.Restart → x.entry.chance ≡ chances.Restart (Comes true started)
    → done_by x.entry (node_after s x.manager p t.h) ≡ back_done started noted (node_after s x.manager p t.h) → (ledgers.users_at x.manager (ledger (opening_ledger s hs) p)).cut ≡ Some st
    → ledger (opening_ledger s hs) (p ++ x ∷ []) ≡ ledgers.up_again x.manager (posted_again x.manager st (redone_delta true (Some noted) (base_of s p x t.h)) (ledger (opening_ledger s hs) p))
found_posted s hs p x t noted started st call chance is cut =
    let m : ℕ = x.manager in
    let l : Ledger = ledger (opening_ledger s hs) p in
    let e : Entry = x.entry in
    let ds : List Did = redone_delta true (Some noted) (base_of s p x t.h) in
    let reply : e.reply ≡ replies.Acted acted.Done = t.tells.reply ∙ ap (λ (o : Done). o.reply) is in
    let delta : e.effect.delta ≡ ds = t.tells.delta ∙ ap (λ (o : Done). o.delta) is in
    let cut_ : (ledgers.users_at m (ledgers.take_all_gone m ds l)).cut ≡ Some st = ap (λ us. (ledgers.users_or (slice_get us m)).cut) (gone_users m ds l) ∙ cut in
    ledger_step (opening_ledger s hs) p x ∙ ap (λ (o : Reply). posted m e o l) reply
    ∙ (λ i. ledgers.come_up m (chance i) (delta i) (ledgers.post_call m (call i) (reply i) e.effect.received (delta i) (ledgers.take_all_gone m (delta i) l)))
    ∙ ap (λ o. ledgers.up_again m (ledgers.found m o ds (ledgers.take_all_gone m ds l))) cut_

pub end_returns : (s : Scenario) (hs : List History) (p : List Line) (x : Line) (z : Stand s hs p) (t : Told_ s hs p x) (noted : Noted) (starts started : ℕ) (st : ledgers.Stopped) (given : Ident → Bool) (ghost : Ghost) (xs : ℕ → List ℕ → Channel) (ys : ℕ → List ℕ → Past) (g : Plain) (k1 kn : Ledger) → IsScenario s
    → (node_after s x.manager p t.h).manager.running ≡ Down (Some noted) starts → x.entry.call ≡ calls.Act acts.Restart → x.entry.chance ≡ chances.Restart (Comes true started) → done_by x.entry (node_after s x.manager p t.h) ≡ back_done started noted (node_after s x.manager p t.h)
    → (ledgers.users_at x.manager (ledger (opening_ledger s hs) p)).cut ≡ Some st → posted_again x.manager st (redone_delta true (Some noted) (node_after s x.manager p t.h).manager) (ledger (opening_ledger s hs) p) ≡ kn
    → IsSound (restarted true started (Some noted) (node_after s x.manager p t.h).manager) → lasting g ≡ lasting (redone noted (node_after s x.manager p t.h).manager) → IsRedone s hs p x t.h z g given ghost xs ys k1 kn → Moves s hs p x t.h z
end_returns s hs p x z t noted starts started st given ghost xs ys g k1 kn scenario down call chance is cut posts sound last r1 =
    let b : Plain = base_of s p x t.h in
    comes_up s hs p x z t (Some noted) starts started (redone_delta true (Some noted) b) (redone noted b) given ghost xs ys g k1 kn scenario down is
    (found_posted s hs p x t noted started st call chance is cut ∙ ap (ledgers.up_again x.manager) posts) sound last r1
