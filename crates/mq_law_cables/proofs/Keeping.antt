-- Each event leaves all channels tied to the network.
use Rattle.std.proofs.Common.{ℕ, ◌≡◌, Bool, true, false, List, refl, sym, subst, ◌∙◌}
use Rattle.std.specs.Prelude.{Option, ◌==◌, if◌then◌else◌}
use Rattle.mq_message.specs.declared.message.Ident.{Ident}
use Rattle.mq_sync.specs.declared.unit.Unit.{Unit as Luw}
use Rattle.mq_sync.specs.Units.{Upto}
use Rattle.mq_history.specs.declared.scenario.CableLine.{CableLine}
use Rattle.mq_history.specs.declared.scenario.Scenario.{Scenario}
use Rattle.mq_calls.specs.State.{Plain}
use Rattle.mq_spec_network.specs.Ledger.{Ledger}
use Rattle.mq_spec_network.specs.Story.{Mem}
use Rattle.mq_law_channel.specs.Channel.{Channel, Facts, Past}
use Rattle.mq_law_channel.specs.Facts.{now}
use Rattle.mq_law_channel.specs.Turns.{emptied, released}
use Rattle.mq_law_rows.specs.Families.{is_here, put_at}
use Rattle.mq_law_rows.specs.World.{Book, Ghost, Inv, Owner, World}
use Rattle.mq_law_rows.proofs.Lists.{bool_case, here_yes}
use Rattle.mq_law_turns.specs.from_law_seen.Seen.{book_of, world_of}
use Rattle.mq_law_turns.specs.from_law_events.Local.{with_owner}
use Rattle.mq_law_turns.specs.from_law_events.Tied.{Follow, IsNext, IsTold}
use Rattle.mq_law_turns.proofs.from_law_events.Stepping.{follows_on}
use Rattle.mq_law_turns.specs.from_law_story.Needs.{IsTied}
use Rattle.mq_law_turns.specs.Turns.{AreBegun, IsAtRest, IsJoint, Scene, Taken, TurnedBy, world_in}
use Rattle.mq_law_turns.proofs.Keeping as keeping
use Rattle.mq_law_turns.proofs.Resting as resting
use Rattle.mq_law_cables.specs.Joints.{AreJoint, Joined, LeadTo, rested}

-- one of them
pub joint_of : (w : World) (g : Ghost) (b : Book) (ks : List CableLine) (xs : ℕ → List ℕ → Channel) (ys : ℕ → List ℕ → Past) (k : CableLine) → Mem k ks → AreJoint w g b ks xs ys → IsJoint w g b k.sender k.receiver k.channel (xs k.sender k.channel) (ys k.sender k.channel)
joint_of w g b ks xs ys k n j = record { inv = j.inv; tied = j.tied k n; begun = j.begun k n }

-- owners say nothing of a channel
retied : (w : World) (g : Ghost) (e f : Ident → Owner) (m t : ℕ) (c : List ℕ) (x : Channel) (y : Past) → IsTied w (with_owner g e) m t c x y → IsTied w (with_owner g f) m t c x y
retied w g e f m t c x y k = record { apart = k.apart; last = k.last; held = k.held; idle = k.idle; forced = k.forced; content = k.content }

pub follows : (s : Scenario) (given : Ident → Bool) (a : ℕ) (p q : Plain) (ps qs : List Plain) (l k : Ledger) (g : Ghost) (ks : List CableLine) (xs : ℕ → List ℕ → Channel) (ys : ℕ → List ℕ → Past) → IsNext a p q ps qs → IsTold a p l → (f : Follow a given p l q k)
    → AreJoint (world_of s given ps) g (book_of l) ks xs ys → Joined (world_of s f.now qs) (book_of k) ks xs ys
follows s given a p q ps qs l k g ks xs ys n told f j =
    let o = follows_on s given a p q ps qs l k g n told f j.inv in
    record {
      ghost = with_owner g o.owner;
      joint = record {
        inv = o.inv;
        tied = λ c i.
            let r = keeping.follows s given a p q ps qs l k g n told f c.sender c.receiver c.channel (xs c.sender c.channel) (ys c.sender c.channel) (joint_of (world_of s given ps) g (book_of l) ks xs ys c i j) in
            retied (world_of s f.now qs) g r.0.owner o.owner c.sender c.receiver c.channel (xs c.sender c.channel) (ys c.sender c.channel) r.1.tied;
        begun = λ c i. j.begun c i;
      };
    }

-- a channel's own facts, at a cable that is found here
tied_at : (w : World) (g : Ghost) (m t : ℕ) (c : List ℕ) (k : CableLine) (x : Channel) (y : Past) → k.sender ≡ m → k.channel ≡ c → k.receiver ≡ t → IsTied w g m t c x y → IsTied w g k.sender k.receiver k.channel x y
tied_at w g m t c k x y p q r i =
    subst (λ a. IsTied w g a k.receiver k.channel x y) (sym p) (subst (λ b. IsTied w g m b k.channel x y) (sym r) (subst (λ d. IsTied w g m t d x y) (sym q) i))

begun_at : (g : Ghost) (m : ℕ) (c : List ℕ) (k : CableLine) (y : Past) → k.sender ≡ m → k.channel ≡ c → AreBegun g m c y → AreBegun g k.sender k.channel y
begun_at g m c k y p q i = subst (λ a. AreBegun g a k.channel y) (sym p) (subst (λ d. AreBegun g m d y) (sym q) i)

pub turned_joint : {o : Option Luw} (z : Scene) (v : World) (x : Channel) (y : Past) (ks : List CableLine) (xs : ℕ → List ℕ → Channel) (ys : ℕ → List ℕ → Past) → (r : TurnedBy o z v x y) → LeadTo ks z.sender z.place.channel z.receiver → AreJoint (world_in z) z.ghost z.book ks xs ys
    → AreJoint v r.ghost z.book ks (put_at xs z.sender z.place.channel x) (put_at ys z.sender z.place.channel y)
turned_joint z v x y ks xs ys r lead j =
    let m : ℕ = z.sender in
    let c : List ℕ = z.place.channel in
    record {
      inv = r.joint.inv;
      tied = λ k n. bool_case (is_here m c k.sender k.channel) (λ t. is_here m c k.sender k.channel ≡ t → IsTied v r.ghost k.sender k.receiver k.channel (if t then x else xs k.sender k.channel) (if t then y else ys k.sender k.channel))
          (λ e f. let p = here_yes m c k.sender k.channel f in tied_at v r.ghost m z.receiver c k x y p.0 p.1 (lead k n f) r.joint.tied)
          (λ e f. (keeping.senders_others z v x y r k.sender k.receiver k.channel (xs k.sender k.channel) (ys k.sender k.channel) f (joint_of (world_in z) z.ghost z.book ks xs ys k n j)).tied) refl;
      begun = λ k n. bool_case (is_here m c k.sender k.channel) (λ t. is_here m c k.sender k.channel ≡ t → AreBegun r.ghost k.sender k.channel (if t then y else ys k.sender k.channel))
          (λ e f. let p = here_yes m c k.sender k.channel f in begun_at r.ghost m c k y p.0 p.1 r.joint.begun)
          (λ e f. (keeping.senders_others z v x y r k.sender k.receiver k.channel (xs k.sender k.channel) (ys k.sender k.channel) f (joint_of (world_in z) z.ghost z.book ks xs ys k n j)).begun) refl;
    }

pub turned : {o : Option Luw} (z : Scene) (v : World) (x : Channel) (y : Past) (ks : List CableLine) (xs : ℕ → List ℕ → Channel) (ys : ℕ → List ℕ → Past) → TurnedBy o z v x y → LeadTo ks z.sender z.place.channel z.receiver → AreJoint (world_in z) z.ghost z.book ks xs ys
    → Joined v z.book ks (put_at xs z.sender z.place.channel x) (put_at ys z.sender z.place.channel y)
turned z v x y ks xs ys r lead j = record { ghost = r.ghost; joint = turned_joint z v x y ks xs ys r lead j }

pub taken_joint : (z : Scene) (v : World) (b : Book) (x : Channel) (y : Past) (ks : List CableLine) (xs : ℕ → List ℕ → Channel) (ys : ℕ → List ℕ → Past) → (r : Taken z v b x y) → LeadTo ks z.sender z.place.channel z.receiver → AreJoint (world_in z) z.ghost z.book ks xs ys
    → AreJoint v r.ghost b ks (put_at xs z.sender z.place.channel x) (put_at ys z.sender z.place.channel y)
taken_joint z v b x y ks xs ys r lead j =
    let m : ℕ = z.sender in
    let c : List ℕ = z.place.channel in
    record {
      inv = r.joint.inv;
      tied = λ k n. bool_case (is_here m c k.sender k.channel) (λ t. is_here m c k.sender k.channel ≡ t → IsTied v r.ghost k.sender k.receiver k.channel (if t then x else xs k.sender k.channel) (if t then y else ys k.sender k.channel))
          (λ e f. let p = here_yes m c k.sender k.channel f in tied_at v r.ghost m z.receiver c k x y p.0 p.1 (lead k n f) r.joint.tied)
          (λ e f. (keeping.receivers_others z v b x y r k.sender k.receiver k.channel (xs k.sender k.channel) (ys k.sender k.channel) f (joint_of (world_in z) z.ghost z.book ks xs ys k n j)).tied) refl;
      begun = λ k n. bool_case (is_here m c k.sender k.channel) (λ t. is_here m c k.sender k.channel ≡ t → AreBegun r.ghost k.sender k.channel (if t then y else ys k.sender k.channel))
          (λ e f. let p = here_yes m c k.sender k.channel f in begun_at r.ghost m c k y p.0 p.1 r.joint.begun)
          (λ e f. (keeping.receivers_others z v b x y r k.sender k.receiver k.channel (xs k.sender k.channel) (ys k.sender k.channel) f (joint_of (world_in z) z.ghost z.book ks xs ys k n j)).begun) refl;
    }

pub taken : (z : Scene) (v : World) (b : Book) (x : Channel) (y : Past) (ks : List CableLine) (xs : ℕ → List ℕ → Channel) (ys : ℕ → List ℕ → Past) → Taken z v b x y → LeadTo ks z.sender z.place.channel z.receiver → AreJoint (world_in z) z.ghost z.book ks xs ys
    → Joined v b ks (put_at xs z.sender z.place.channel x) (put_at ys z.sender z.place.channel y)
taken z v b x y ks xs ys r lead j = record { ghost = r.ghost; joint = taken_joint z v b x y ks xs ys r lead j }

-- STOPS AND RESTARTS
now_released : (y : Past) → now (released y).near ≡ now y.near
now_released y = bool_case y.near.doubt (λ t. now (if t then y else emptied y).near ≡ now y.near) (λ e. refl) (λ e. refl)

begun_released : (g : Ghost) (m : ℕ) (c : List ℕ) (t : Bool) (y : Past) → AreBegun g m c y → AreBegun g m c (if t then released y else y)
begun_released g m c false y i = i
begun_released g m c true y i = λ u e. subst (λ (v : Luw). Upto u v) (sym (now_released y)) (i u e)

pub rests : (s : Scenario) (given later : Ident → Bool) (a : ℕ) (p q : Plain) (ps qs : List Plain) (g h : Ghost) (b d : Book) (ks : List CableLine) (xs zs : ℕ → List ℕ → Channel) (ys : ℕ → List ℕ → Past) → IsNext a p q ps qs → IsAtRest p q
    → h.sent ≡ g.sent → h.operated ≡ g.operated → Inv (world_of s later qs) h d → ((k : CableLine) → Mem k ks → Facts (xs k.sender k.channel) (ys k.sender k.channel)) → ((k : CableLine) → Mem k ks → (zs k.sender k.channel).receives ≡ (xs k.sender k.channel).receives)
    → AreJoint (world_of s given ps) g b ks xs ys → AreJoint (world_of s later qs) h d ks zs (rested a ys)
rests s given later a p q ps qs g h b d ks xs zs ys n r sent ops inv facts far j = record {
  inv = inv;
  tied = λ k i. resting.rests s given later a p q ps qs g h k.sender k.receiver k.channel (xs k.sender k.channel) (zs k.sender k.channel) (ys k.sender k.channel) n r sent ops (facts k i) (far k i) (j.tied k i);
  begun = λ k i. begun_released h k.sender k.channel (k.sender == a) (ys k.sender k.channel) (λ u e. j.begun k i u ((λ o. sym ops o k.sender k.channel u) ∙ e));
}
