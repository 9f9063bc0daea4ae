-- Each turn of a receiver's end, as what it is of the network: a unit's commit, or nothing of rows.
use Rattle.std.proofs.Common.{ℕ, ◌≡◌, ◌≢◌, ◌⊎◌, Bool, true, false, List, [], ◌∷◌, ◌++◌, refl, ap, sym, subst, ◌∙◌, inl, inr, map}
use Rattle.std.specs.Prelude.{Option, Some, None, Result, Ok, Err, ◌&&◌, if◌then◌else◌, slice_get}
use Rattle.std.proofs.lemmas.List.{append-nil}
use Rattle.mq_codes.specs.declared.reason.Reason.{Reason}
use Rattle.mq_message.specs.declared.message.Message.{Message}
use Rattle.mq_frame.specs.declared.frame.Seen.{Seen}
use Rattle.mq_sync.specs.declared.unit.Unit.{Unit as Luw}
use Rattle.mq_sync.specs.Units.{same_unit}
use Rattle.mq_receiver.specs.declared.turns.ReceiverDoes.{ReceiverDoes}
use Rattle.mq_receiver.specs.declared.turns.ReceiverDoes.TheVariants as takes
use Rattle.mq_receiver.specs.declared.turns.ReceiverOut.TheVariants as ends
use Rattle.mq_receiver.specs.Table.{receiver_next}
use Rattle.mq_receiver.specs.After.{bound_by, last_by}
use Rattle.mq_calls.specs.declared.agents.Note.{Note}
use Rattle.mq_calls.specs.declared.agents.Note.TheVariants as notes
use Rattle.mq_calls.specs.declared.deltas.Did.{Did}
use Rattle.mq_history.specs.declared.calls.Call.TheVariants as calls
use Rattle.mq_history.specs.declared.calls.Reply.{Reply}
use Rattle.mq_history.specs.declared.calls.Reply.TheVariants as replies
use Rattle.mq_calls.specs.State.{Plain}
use Rattle.mq_calls.specs.Reads.{is_full}
use Rattle.mq_calls.specs.Sizes.{need}
use Rattle.mq_calls.specs.Changes.{apply_all}
use Rattle.mq_calls.specs.Steps.{do_all, do_part}
use Rattle.mq_spec_manager.specs.Agents.{Landed, harden, harden_part, landed, receive_landed, received_part, received_record, set_bound, taken_of}
use Rattle.mq_spec_network.specs.Ledger.{Ledger, change_at, post_call, take_all_gone}
use Rattle.mq_spec_network.specs.Story.{Mem}
use Rattle.mq_law_manager.specs.Facts.{IsSound}
use Rattle.mq_spec_node.specs.Node.{Node}
use Rattle.mq_spec_node.specs.Deeds.{parts_of}
use Rattle.mq_spec_node.specs.Receivers.{is_receiver_defined, place_deed, receiver_deed, receiver_deed_by}
use Rattle.mq_law_channel.specs.Facts.{Letter}
use Rattle.mq_law_channel.specs.Channel.{Channel, Facts, Past}
use Rattle.mq_law_channel.specs.Following.{Awaited, Placed}
use Rattle.mq_law_channel.specs.Turns.{ReceiverMay, SeenIn, receiver_does, receiver_turn, receiver_turned}
use Rattle.mq_law_channel.proofs.Following as following
use Rattle.mq_law_story.specs.from_law_rows.Families.{put_at}
use Rattle.mq_law_story.specs.from_law_rows.World.{Book, Ghost, Inv, World, tag_idents, tag_of}
use Rattle.mq_law_story.specs.from_law_rows.Kinds.{ghost_receive, unit_at}
use Rattle.mq_law_channel.proofs.Told.{unit_self}
use Rattle.mq_law_story.proofs.from_law_rows.Lists.{bool_case, here_self, true_false}
use Rattle.mq_law_story.specs.from_law_seen.Seen.{book_of, world_of}
use Rattle.mq_law_batches.specs.from_law_events.Tied.{IsNext}
use Rattle.mq_law_batches.specs.Releases.{IsWord}
use Rattle.mq_law_batches.proofs.Wording.{Stays, stays, words}
use Rattle.mq_law_node.specs.Ends.{TakesAs, place_out, receiver_of, receiver_out, stamped, taking_turn}
use Rattle.mq_law_node.proofs.ReceiverTurns.{placed_by, refused_places}
use Rattle.mq_law_receipts.specs.Receipts.{Comes, IsAwaitedAt, IsReceipt, IsShadow, Receipt}
use Rattle.mq_law_receipts.proofs.Knowing.{comes_in}
use Rattle.mq_law_receipts.proofs.Landing.{Lands}
use Rattle.mq_law_receipts.proofs.Receiving as receiving
use Rattle.mq_law_story.specs.Needs.{letter_tag}
use Rattle.mq_law_story.proofs.Tying.{commit_tied}
use Rattle.mq_law_turns.specs.Turns.{EachTaken, Found, IsAtFar, IsHome, IsJoint, IsReady, Scene, Taken, world_in}
use Rattle.mq_law_turns.proofs.Parts.{next_mid, part_stays, stays_none, stays_then, world_behind}

-- NOTHING OF ROWS
pub same_taken : (z : Scene) (x k : Channel) (y : Past) → IsJoint (world_in z) z.ghost z.book z.sender z.receiver z.place.channel x y → k.receives.unit ≡ x.receives.unit → Taken z (world_in z) z.book k y
same_taken z x k y j far = record {
  ghost = z.ghost;
  joint = record {
    inv = j.inv;
    tied = record {
      apart = j.tied.apart;
      last = j.tied.last ∙ sym far;
      held = j.tied.held;
      idle = j.tied.idle;
      forced = λ u f h no_. j.tied.forced u f h (λ e. no_ (far ∙ e));
      content = j.tied.content;
    };
    begun = j.begun;
  };
  sent = refl;
  loose = refl;
  operated = λ a d u e. refl;
  own = λ u e. (e, inr refl);
  holds = λ a d. refl;
  doubt = λ a d. refl;
  last = λ a d e. refl;
}

-- a world that looks the same, and a ledger that is the same
pub taken_on : (z : Scene) (w : World) (l : Ledger) (x : Channel) (y : Past) → w ≡ world_in z → z.book ≡ book_of l → Taken z (world_in z) z.book x y → Taken z w (book_of l) x y
taken_on z w l x y e f t = subst (λ (v : World). Taken z v (book_of l) x y) (sym e) (subst (λ (b : Book). Taken z (world_in z) b x y) f t)

pub quiet : (z : Scene) (n : Node) (x k : Channel) (y : Past) (l : Ledger) (rs : List Plain) → IsAtFar z n x y l → k.receives.unit ≡ x.receives.unit → IsNext z.receiver n.manager n.manager z.managers rs → Taken z (world_of z.scenario z.given rs) (book_of l) k y
quiet z n x k y l rs a far h = taken_on z (world_of z.scenario z.given rs) l k y (stays z.scenario z.given z.receiver n.manager n.manager z.managers rs h (stays_none n.manager)) a.book (same_taken z x k y a.joint far)

pub bound_stays : (c : List ℕ) (is : Bool) (p : Plain) → Stays p (do_all (parts_of (set_bound c is p)) p)
bound_stays c true p = record { queues = refl; connections = refl; batches = refl; doubts = λ d. refl; near = record { given = refl; receivers = λ d. refl } }
bound_stays c false p = record { queues = refl; connections = refl; batches = refl; doubts = λ d. refl; near = record { given = refl; receivers = λ d. refl } }

bound_after : (c : List ℕ) (is : Bool) (p q : Plain) → Stays q (do_all (parts_of (set_bound c is p)) q)
bound_after c true p q = bound_stays c true q
bound_after c false p q = bound_stays c false q

-- a word is hardened, and the end is bound or not
pub says : (z : Scene) (n : Node) (x k : Channel) (y : Past) (l : Ledger) (note : Note) (is : Bool) (rs : List Plain) → IsAtFar z n x y l → IsWord note → k.receives.unit ≡ x.receives.unit
    → IsNext z.receiver n.manager (do_all (parts_of (harden z.place.channel note n.manager) ++ parts_of (set_bound z.place.channel is n.manager)) n.manager) z.managers rs → Taken z (world_of z.scenario z.given rs) (book_of l) k y
says z n x k y l note is rs a word far h =
    let c : List ℕ = z.place.channel in
    let p : Plain = n.manager in
    let part = harden_part c note p in
    let q : Plain = apply_all part.changes p in
    let e = world_behind z.scenario z.given z.receiver p q _ z.managers rs h (stays_then q (do_part part p) _ (part_stays part p) (bound_after c is p (do_part part p))) in
    let f = words z.scenario z.given z.receiver p z.managers (change_at z.receiver (λ (o : Plain). q) z.managers) c note word (next_mid z.receiver p q _ z.managers rs h) in
    taken_on z (world_of z.scenario z.given rs) l k y (e ∙ f) a.book (same_taken z x k y a.joint far)

-- A COMMIT
tags_stamped : (letters : List Letter) → map tag_of (map stamped letters) ≡ map letter_tag letters
tags_stamped [] = refl
tags_stamped (x ∷ xs) = ap (λ ts. letter_tag x ∷ ts) (tags_stamped xs)

abbrev unit_or : Luw → Option Luw → Luw
unit_or u None = u
unit_or u (Some v) = v

less_operated : (t : Bool) (f : Bool) → (if t then false else f) ≡ true → f ≡ true
less_operated true f e = absurd (true_false (sym e))
less_operated false f e = e

-- what the facts of the network and of the channel are after it
pub receipt_taken : (z : Scene) (x k : Channel) (y : Past) (l j : Ledger) (u : Luw) (qs : List Plain) (q : Plain) → IsJoint (world_in z) z.ghost z.book z.sender z.receiver z.place.channel x y → Awaited x y u → k.receives.unit ≡ u
    → ((a : ℕ) (d : List ℕ) → (world_of z.scenario z.given qs).holds a d ≡ (world_in z).holds a d) → ((a : ℕ) (d : List ℕ) → (world_of z.scenario z.given qs).doubt a d ≡ (world_in z).doubt a d)
    → ((a : ℕ) (d : List ℕ) → (world_of z.scenario z.given qs).last a d ≡ put_at (world_in z).last z.sender z.place.channel u a d)
    → Receipt z.scenario z.given qs q l j z.ghost z.sender z.receiver z.place.channel u → Taken z (world_of z.scenario z.given qs) (book_of j) k y
receipt_taken z x k y l j u qs q joint waits far holds doubt last r =
    let m : ℕ = z.sender in
    let c : List ℕ = z.place.channel in
    let g : Ghost = ghost_receive z.ghost m c u z.receiver (tag_idents (z.ghost.sent m c u)) r.lands in
    record {
      ghost = g;
      joint = record {
        inv = r.inv;
        tied = record {
          apart = joint.tied.apart;
          last = last m c ∙ ap (λ t. if t then u else (world_in z).last m c) (here_self m c) ∙ sym far;
          held = λ f. let o = joint.tied.held f in (holds m c ∙ o.0, doubt m c ∙ o.1);
          idle = λ f. holds m c ∙ joint.tied.idle f;
          forced = λ v f e no_. absurd (no_ (far ∙ ap (unit_or u) (sym waits.held ∙ e)));
          content = joint.tied.content;
        };
        begun = λ v e. joint.begun v (less_operated (unit_at m c u m c v) (z.ghost.operated m c v) e);
      };
      sent = refl;
      loose = refl;
      operated = λ o d v e. ap (λ t. if t && same_unit v u then false else z.ghost.operated o d v) e;
      own = λ v e. bool_case (unit_at m c u m c v) (λ t. unit_at m c u m c v ≡ t → (if t then false else z.ghost.operated m c v) ≡ true → (z.ghost.operated m c v ≡ true) × ((world_of z.scenario z.given qs).last m c ≢ v ⊎ ((world_of z.scenario z.given qs).last m c ≡ (world_in z).last m c)))
          (λ t f k. absurd (true_false (sym k)))
          (λ t f k. (k, inl (λ w. true_false (sym (ap (λ b. b && same_unit v u) (here_self m c) ∙ ap (λ (o : Luw). same_unit v o) (sym (sym w ∙ last m c ∙ ap (λ b. if b then u else (world_in z).last m c) (here_self m c))) ∙ unit_self v) ∙ f)))) refl e;
      holds = holds;
      doubt = doubt;
      last = λ o d e. last o d ∙ ap (λ t. if t then u else (world_in z).last o d) e;
    }

pub receipt_of : (z : Scene) (n : Node) (x : Channel) (y : Past) (l : Ledger) (u : Luw) (last : ℕ) (ld : Landed) (rs : List Plain) → IsAtFar z n x y l → Placed x y u → Awaited x y u → IsReady z n.manager l → landed z.place.channel (map stamped x.kept) n.manager ≡ Ok ld
    → IsNext z.receiver n.manager (do_part (received_part z.place.channel u last ld n.manager) n.manager) z.managers rs
    → (taken_of (landed z.place.channel (map stamped x.kept) n.manager) ≡ map stamped x.kept)
    × Receipt z.scenario z.given rs (do_part (received_part z.place.channel u last ld n.manager) n.manager) l
    (post_call z.receiver calls.Turn replies.Changed (map stamped x.kept) (received_part z.place.channel u last ld n.manager).delta (take_all_gone z.receiver (received_part z.place.channel u last ld n.manager).delta l)) z.ghost z.sender z.receiver z.place.channel u
receipt_of z n x y l u last ld rs a placed waits ready lands h =
    let c : List ℕ = z.place.channel in
    let tied = commit_tied (world_in z) z.ghost z.book z.sender z.receiver c x y u a.joint.inv a.joint.tied placed waits in
    receiving.receives z.scenario z.given z.managers rs n.manager l z.ghost z.sender z.receiver c u last (map stamped x.kept) ld replies.Changed lands h (record {
      commits = tied.0;
      sent = tags_stamped x.kept ∙ tied.1;
      cabled = ready.cabled;
      sound = ready.sound;
      numbered = ready.numbered;
      fresh = ready.fresh;
      told = ready.told;
      timed = ready.timed;
      shelved = ready.shelved;
    }) (subst (λ (b : Book). Inv (world_in z) z.ghost b) a.book a.joint.inv)

commits : (z : Scene) (n : Node) (x k : Channel) (y : Past) (l : Ledger) (u : Luw) (last : ℕ) (ld : Landed) (rs : List Plain) → IsAtFar z n x y l → Placed x y u → Awaited x y u → IsReady z n.manager l → landed z.place.channel (map stamped x.kept) n.manager ≡ Ok ld
    → k.receives.unit ≡ u → IsNext z.receiver n.manager (do_part (received_part z.place.channel u last ld n.manager) n.manager) z.managers rs
    → Taken z (world_of z.scenario z.given rs) (book_of (post_call z.receiver calls.Turn replies.Changed (taken_of (landed z.place.channel (map stamped x.kept) n.manager)) ((received_part z.place.channel u last ld n.manager).delta ++ [])
    (take_all_gone z.receiver ((received_part z.place.channel u last ld n.manager).delta ++ []) l))) k y
commits z n x k y l u last ld rs a placed waits ready lands far h =
    let c : List ℕ = z.place.channel in
    let p : Plain = n.manager in
    let ms : List Message = map stamped x.kept in
    let ds : List Did = (received_part c u last ld p).delta in
    let q : Plain = do_part (received_part c u last ld p) p in
    let tied = commit_tied (world_in z) z.ghost z.book z.sender z.receiver c x y u a.joint.inv a.joint.tied placed waits in
    let inv : Inv (world_in z) z.ghost (book_of l) = subst (λ (b : Book). Inv (world_in z) z.ghost b) a.book a.joint.inv in
    let receipt : IsReceipt z.scenario z.given z.managers p l z.ghost z.sender z.receiver c u ms = record {
      commits = tied.0;
      sent = tags_stamped x.kept ∙ tied.1;
      cabled = ready.cabled;
      sound = ready.sound;
      numbered = ready.numbered;
      fresh = ready.fresh;
      told = ready.told;
      timed = ready.timed;
      shelved = ready.shelved;
    } in
    let o = receiving.receives z.scenario z.given z.managers rs p l z.ghost z.sender z.receiver c u last ms ld replies.Changed lands h receipt inv in
    let seen = receiving.seen_after z.scenario z.given z.managers rs p l z.ghost z.sender z.receiver c u last ms ld lands h receipt inv in
    let t = receipt_taken z x k y l _ u rs q a.joint waits far seen.holds seen.doubt seen.last o.1 in
    (λ (b : Taken z (world_of z.scenario z.given rs) (book_of (post_call z.receiver calls.Turn replies.Changed ms ds (take_all_gone z.receiver ds l))) k y).
    subst (λ (v : List Message). Taken z (world_of z.scenario z.given rs) (book_of (post_call z.receiver calls.Turn replies.Changed v (ds ++ []) (take_all_gone z.receiver (ds ++ []) l))) k y) (sym o.0)
    (subst (λ (v : List Did). Taken z (world_of z.scenario z.given rs) (book_of (post_call z.receiver calls.Turn replies.Changed ms v (take_all_gone z.receiver v l))) k y) (sym (append-nil ds)) b)) t

-- COMMITS THAT ARE FOUND. What holds of each message where a commit comes, of the manager as it is then.
pub all_come : (z : Scene) (n : Node) (x : Channel) (y : Past) (l : Ledger) (u : Luw) → IsAtFar z n x y l → Placed x y u → Awaited x y u → IsReady z n.manager l → (m : Message) → Mem m (map stamped x.kept) → Comes n.manager m
all_come z n x y l u a placed waits ready m there =
    let c : List ℕ = z.place.channel in
    let tied = commit_tied (world_in z) z.ghost z.book z.sender z.receiver c x y u a.joint.inv a.joint.tied placed waits in
    comes_in z.scenario z.given z.managers n.manager l z.ghost z.sender z.receiver c u (map stamped x.kept) a.at (record {
      commits = tied.0;
      sent = tags_stamped x.kept ∙ tied.1;
      cabled = ready.cabled;
      sound = ready.sound;
      numbered = ready.numbered;
      fresh = ready.fresh;
      told = ready.told;
      timed = ready.timed;
      shelved = ready.shelved;
    }) (subst (λ (b : Book). Inv (world_in z) z.ghost b) a.book a.joint.inv) m there

-- the commit by that manager, at one that has lost rows since
pub found_at : (z : Scene) (p : Plain) (x : Channel) (y : Past) (l : Ledger) (u : Luw) → IsJoint (world_in z) z.ghost z.book z.sender z.receiver z.place.channel x y → Placed x y u → Awaited x y u → IsHome z p l
    → IsAwaitedAt z.scenario z.given z.managers p l z.ghost z.sender z.receiver z.place.channel u (map stamped x.kept)
found_at z p x y l u joint placed waits home =
    let tied = commit_tied (world_in z) z.ghost z.book z.sender z.receiver z.place.channel x y u joint.inv joint.tied placed waits in
    record { commits = tied.0; sent = tags_stamped x.kept ∙ tied.1; cabled = home.cabled; fresh = home.fresh; told = home.told; timed = home.timed; shelved = home.shelved }

pub found_commits : (z : Scene) (p : Plain) (x k : Channel) (y : Past) (l : Ledger) (u : Luw) (last : ℕ) (ld : Landed) (reply : Reply) (rs : List Plain) → IsJoint (world_in z) z.ghost z.book z.sender z.receiver z.place.channel x y → z.book ≡ book_of l
    → Placed x y u → Awaited x y u → IsHome z p l → Lands z.receiver z.place.channel p (map stamped x.kept) ld → k.receives.unit ≡ u → IsNext z.receiver p (do_part (received_part z.place.channel u last ld p) p) z.managers rs
    → Found z p l u last (map stamped x.kept) ld reply k y rs
found_commits z p x k y l u last ld reply rs joint book placed waits home lands far h =
    let c : List ℕ = z.place.channel in
    let ms : List Message = map stamped x.kept in
    let q : Plain = do_part (received_part c u last ld p) p in
    let r = found_at z p x y l u joint placed waits home in
    let inv : Inv (world_in z) z.ghost (book_of l) = subst (λ (b : Book). Inv (world_in z) z.ghost b) book joint.inv in
    let o = receiving.receives_by z.scenario z.given z.managers rs p l z.ghost z.sender z.receiver c u last ms ld reply lands h r inv in
    let seen = receiving.seen_by z.scenario z.given z.managers rs p l z.ghost z.sender z.receiver c u last ms ld lands h r in
    record { receipt = o; taken = receipt_taken z x k y l _ u rs q joint waits far seen.holds seen.doubt seen.last o }

pub found_taken : (z : Scene) (b p : Plain) (x k : Channel) (y : Past) (l : Ledger) (u : Luw) (last : ℕ) (ld : Landed) (reply : Reply) (rs : List Plain) → IsJoint (world_in z) z.ghost z.book z.sender z.receiver z.place.channel x y → z.book ≡ book_of l
    → Placed x y u → Awaited x y u → IsHome z p l → landed z.place.channel (map stamped x.kept) b ≡ Ok ld → IsSound b → IsShadow b p → ((m : Message) → Mem m (map stamped x.kept) → Comes b m) → k.receives.unit ≡ u
    → IsNext z.receiver p (do_part (received_part z.place.channel u last ld p) p) z.managers rs → Found z p l u last (map stamped x.kept) ld reply k y rs
found_taken z b p x k y l u last ld reply rs joint book placed waits home e sound shadow comes far h =
    let inv : Inv (world_in z) z.ghost (book_of l) = subst (λ (o : Book). Inv (world_in z) z.ghost o) book joint.inv in
    found_commits z p x k y l u last ld reply rs joint book placed waits home
    (receiving.lands_then z.scenario z.given z.managers b p l z.ghost z.sender z.receiver z.place.channel u (map stamped x.kept) ld e sound shadow comes h.at (found_at z p x y l u joint placed waits home) inv) far h

-- a unit that is placed, or refused
places : (z : Scene) (n : Node) (x : Channel) (y : Past) (l : Ledger) (stamp : ℕ) (seen : Seen) (u : Luw) (o : Result Landed Reason) → IsAtFar z n x y l → (place_out (receive_landed z.place.channel u (last_by seen x.receiver.last) o n.manager) ≡ ends.Done → Placed x y u × Awaited x y u × IsReady z n.manager l) → landed z.place.channel (map stamped x.kept) n.manager ≡ o
    → EachTaken z n.manager l (Some (place_deed (receiver_of z.place x.receiver x.kept) u seen (receive_landed z.place.channel u (last_by seen x.receiver.last) o n.manager) n))
    (receiver_turned (place_out (receive_landed z.place.channel u (last_by seen x.receiver.last) o n.manager)) (takes.Place u) (taking_turn z.place stamp seen x.receiver x.kept n.manager) x) y
places z n x y l stamp seen u (Err reason) a k lands = λ rs h. says z n x _ y l (notes.Closed x.receiver.session) false rs a tt refl h
places z n x y l stamp seen u (Ok ld) a k lands =
    let c : List ℕ = z.place.channel in
    let last : ℕ = last_by seen x.receiver.last in
    bool_case (is_full (need (received_record c u last ld)) n.manager)
    (λ b. EachTaken z n.manager l (Some (place_deed (receiver_of z.place x.receiver x.kept) u seen (placed_by z.place u last ld n.manager b) n))
    (receiver_turned (place_out (placed_by z.place u last ld n.manager b)) (takes.Place u) (taking_turn z.place stamp seen x.receiver x.kept n.manager) x) y)
    (λ e rs h. says z n x _ y l (notes.Closed x.receiver.session) false rs a tt refl h)
    (λ e rs h. let o = k (ap (λ b. place_out (placed_by z.place u last ld n.manager b)) e) in commits z n x _ y l u last ld rs a o.0 o.1 o.2 lands refl h)

-- THE TABLE
-- what a commit rests on, where the table says that one comes
abbrev pub Committing : Scene → Node → Channel → Past → Ledger → Seen → ReceiverDoes → Type 0
Committing z n x y l seen (takes.Place u) = receiver_out (takes.Place u) z.place seen x.receiver x.kept n.manager ≡ ends.Done → Placed x y u × Awaited x y u × IsReady z n.manager l
Committing z n x y l seen _ = Unit {0}

taken_by : (z : Scene) (n : Node) (x : Channel) (y : Past) (l : Ledger) (stamp : ℕ) (seen : Seen) (d : ReceiverDoes) → IsAtFar z n x y l → Committing z n x y l seen d
    → EachTaken z n.manager l (receiver_deed_by stamp (receiver_of z.place x.receiver x.kept) seen d n) (receiver_turned (receiver_out d z.place seen x.receiver x.kept n.manager) d (taking_turn z.place stamp seen x.receiver x.kept n.manager) x) y
taken_by z n x y l stamp seen takes.Still a k = tt
taken_by z n x y l stamp seen takes.Ignore a k = λ rs h. quiet z n x _ y l rs a refl h
taken_by z n x y l stamp seen takes.PushOwed a k = λ rs h. quiet z n x _ y l rs a refl h
taken_by z n x y l stamp seen takes.Bind a k = λ rs h. says z n x _ y l (notes.Bound z.place.partner (bound_by seen x.receiver).session (bound_by seen x.receiver).last) true rs a tt refl h
taken_by z n x y l stamp seen takes.Keep a k = λ rs h. quiet z n x _ y l rs a refl h
taken_by z n x y l stamp seen (takes.Place u) a k = places z n x y l stamp seen u (landed z.place.channel (map stamped x.kept) n.manager) a k refl
taken_by z n x y l stamp seen takes.Again a k = λ rs h. quiet z n x _ y l rs a refl h
taken_by z n x y l stamp seen takes.Close a k = λ rs h. says z n x _ y l (notes.Closed x.receiver.session) false rs a tt refl h

-- the channel's facts give it
pub committing : (z : Scene) (n : Node) (x : Channel) (y : Past) (l : Ledger) (stamp : ℕ) (seen : Seen) (d : ReceiverDoes) → receiver_does (taking_turn z.place stamp seen x.receiver x.kept n.manager) x ≡ d → Facts x y → SeenIn seen x.out
    → ((u : Luw) → receiver_does (taking_turn z.place stamp seen x.receiver x.kept n.manager) x ≡ takes.Place u → (taking_turn z.place stamp seen x.receiver x.kept n.manager).outcome ≡ ends.Done → (y.near.undone u ≡ false) × IsReady z n.manager l) → Committing z n x y l seen d
committing z n x y l stamp seen (takes.Place u) e facts offered given = λ o.
    let done = ap (λ d. receiver_out d z.place seen x.receiver x.kept n.manager) e ∙ o in
    let may : ReceiverMay (taking_turn z.place stamp seen x.receiver x.kept n.manager) x y = record {
      offered = offered;
      refused = λ reason f. refused_places (receiver_next x.receiver seen (is_receiver_defined z.place.channel n.manager.definitions)) z.place seen x.receiver x.kept n.manager reason f;
      agreed = λ v f g. (given v g f).0;
    } in
    let k = given u e done in
    (following.placed (taking_turn z.place stamp seen x.receiver x.kept n.manager) x y u facts may e, following.awaited (taking_turn z.place stamp seen x.receiver x.kept n.manager) x y u facts may e k.0, k.1)
committing z n x y l stamp seen takes.Still e facts offered given = tt
committing z n x y l stamp seen takes.Ignore e facts offered given = tt
committing z n x y l stamp seen takes.PushOwed e facts offered given = tt
committing z n x y l stamp seen takes.Bind e facts offered given = tt
committing z n x y l stamp seen takes.Keep e facts offered given = tt
committing z n x y l stamp seen takes.Again e facts offered given = tt
committing z n x y l stamp seen takes.Close e facts offered given = tt

pub turns : (z : Scene) (n : Node) (x : Channel) (y : Past) (l : Ledger) (stamp : ℕ) (seen : Seen) → slice_get z.managers z.receiver ≡ Some n.manager → TakesAs z.place n x → Facts x y → IsJoint (world_in z) z.ghost z.book z.sender z.receiver z.place.channel x y
    → z.book ≡ book_of l → SeenIn seen x.out
    → ((u : Luw) → receiver_does (taking_turn z.place stamp seen x.receiver x.kept n.manager) x ≡ takes.Place u → (taking_turn z.place stamp seen x.receiver x.kept n.manager).outcome ≡ ends.Done → (y.near.undone u ≡ false) × IsReady z n.manager l)
    → EachTaken z n.manager l (receiver_deed stamp (receiver_of z.place x.receiver x.kept) seen n) (receiver_turn (taking_turn z.place stamp seen x.receiver x.kept n.manager) x) y
turns z n x y l stamp seen at takes_ facts joint book offered given =
    taken_by z n x y l stamp seen (receiver_next x.receiver seen (is_receiver_defined z.place.channel n.manager.definitions)) (record { at = at; takes_ = takes_; facts = facts; joint = joint; book = book })
    (committing z n x y l stamp seen (receiver_next x.receiver seen (is_receiver_defined z.place.channel n.manager.definitions)) refl facts offered given)
