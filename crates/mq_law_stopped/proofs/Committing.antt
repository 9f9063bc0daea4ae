-- A receiver's commit whose write was stopped, where a restart finds it: the manager that the restart makes of it, and what is posted.
use Rattle.std.proofs.Common.{ℕ, zero, suc, ◌≡◌, ◌≢◌, true, false, List, [], ◌∷◌, ◌++◌, refl, ap, sym, subst, ◌∙◌, inl, inr, map}
use Rattle.std.specs.Prelude.{Option, Some, Result, Ok, ◌==◌, filter, not, slice_get}
use Rattle.mq_message.specs.declared.message.Message.{Message}
use Rattle.mq_codes.specs.declared.reason.Reason.{Reason}
use Rattle.mq_queue.specs.declared.row.Row.{Row}
use Rattle.mq_queue.specs.Rows.{keep}
use Rattle.mq_sync.specs.declared.unit.Unit.{Unit as Luw}
use Rattle.mq_sync.specs.declared.data.ReceiverData.{ReceiverData}
use Rattle.mq_sync.specs.Settlement.{receiver_or}
use Rattle.mq_calls.specs.declared.deltas.Did.{Did}
use Rattle.mq_calls.specs.declared.deltas.Did.TheVariants as did
use Rattle.mq_history.specs.declared.calls.Call.TheVariants as calls
use Rattle.mq_history.specs.declared.scenario.Scenario.{Scenario}
use Rattle.mq_calls.specs.State.{Change, Given, Noted, Plain}
use Rattle.mq_calls.specs.State.Change.{SetReceiver}
use Rattle.mq_calls.specs.Reads.{connection_at, receiver_data, stored}
use Rattle.mq_calls.specs.Changes.{apply_all}
use Rattle.mq_calls.specs.Images.{lasting}
use Rattle.mq_calls.specs.declared.image.Image.{Image}
use Rattle.mq_calls.specs.Steps.{Part, do_part, logged, stands_in, volatile_gone}
use Rattle.mq_spec_manager.specs.Stops.{lasts, redone, redone_delta}
use Rattle.mq_spec_manager.specs.Put.{placed}
use Rattle.mq_spec_manager.specs.Agents.{Landed, landed, received_part, received_record}
use Rattle.mq_spec_network.specs.Conflict.{Deed as ToldDeed}
use Rattle.mq_spec_network.specs.Ledger as ledgers
use Rattle.mq_spec_network.specs.Ledger.{Ledger, Users, at_moment, change_at, post_call, take_all_gone, unit_of, up_again, users_at, users_or}
use Rattle.mq_spec_network.specs.Standing.{cable_from}
use Rattle.mq_spec_network.specs.Story.{Mem}
use Rattle.mq_law_channel.specs.Channel.{Channel, Past}
use Rattle.mq_law_channel.specs.Following.{Awaited, Placed}
use Rattle.mq_law_channel.specs.Turns.{receiver_turn, receiver_turned}
use Rattle.mq_law_turns.specs.from_law_rows.Kinds.{among, place_all}
use Rattle.mq_law_turns.specs.from_law_rows.World.{Book, Inv, World, tag_idents}
use Rattle.mq_law_turns.proofs.from_law_rows.Lists.{bool_case, eqb_yes, is_false}
use Rattle.mq_law_turns.specs.from_law_seen.Seen.{book_of, world_of}
use Rattle.mq_law_manager.specs.Facts.{IsSound}
use Rattle.mq_law_found.proofs.from_law_log.Landings.{LandedSteady, landed_steady}
use Rattle.mq_law_found.proofs.from_law_log.Steady.{steady_append}
use Rattle.mq_law_found.specs.Finds.{posted_again, since}
use Rattle.mq_law_found.proofs.Again.{steady_lasts}
use Rattle.mq_law_found.proofs.Finding.{moments_back, timed_then, told_then}
use Rattle.mq_law_found.proofs.Going.{left_row}
use Rattle.mq_law_found.specs.from_law_events.Tied.{IsNext, IsTold, connections_told}
use Rattle.mq_law_found.proofs.from_law_events.Telling.{else_changed, here_changed}
use Rattle.mq_law_turns.proofs.from_law_batches.Wording.{stays}
use Rattle.mq_law_node.specs.Ends.{stamped}
use Rattle.mq_law_turns.specs.from_law_receipts.Receipts.{Comes, IsAwaitedAt, IsCabled, IsShadow}
use Rattle.mq_law_turns.proofs.from_law_receipts.Knowing.{idents_tagged}
use Rattle.mq_law_turns.proofs.from_law_receipts.Landing.{Lands}
use Rattle.mq_law_turns.proofs.from_law_receipts.Losing.{posts_alike, posts_found}
use Rattle.mq_law_turns.proofs.from_law_receipts.Receiving.{IsDone, done_beside, lands_then, posts, receipt_keeps, receipt_told}
use Rattle.mq_law_turns.specs.Turns.{Found, IsHome, IsJoint, Scene, Taken, world_in}
use Rattle.mq_law_turns.proofs.Taking.{found_at, found_commits}
use Rattle.mq_law_stopped.specs.Noted.{CommitFound, CommitNote, Stays_, left_as, noted_of}
use Rattle.mq_law_stopped.proofs.Channels.{all_after}

-- WHAT LASTS OF IT follows from what lasted: so wherever a restart finds it, it has the image that the turn would have had
pub commit_lasts : (c : List ℕ) (u : Luw) (last : ℕ) (ms : List Message) (x : Landed) (p : Plain) → landed c ms p ≡ Ok x → IsSound p → Stays_ p (received_part c u last x p)
commit_lasts c u last ms x p e sound running moment log =
    steady_lasts (received_part c u last x p).changes p (Some (received_record c u last x)) running moment log sound
    (steady_append x.changes _ p (subst (λ (o : Result Landed Reason). LandedSteady o p) e (landed_steady c ms p sound)) (tt, tt))

-- AT WHAT IS LEFT
pub shadow_left : (was p : Plain) → left_as p ≡ left_as (volatile_gone was) → IsShadow was (record p { moment = was.moment })
shadow_left was p left = record {
  given = ap (λ (o : Plain). o.given) left;
  definitions = ap (λ (o : Plain). o.definitions) left;
  connections = ap (λ (o : Plain). o.connections) left;
  moment = refl;
  rows = λ d h n. (h, left_row was d h (subst (λ (o : Plain). Mem h (stored d o).rows) left n), refl);
}

-- the ledger at another moment has the same
abbrev set_moment : ℕ → Users → Users
set_moment t u = record u { moment = t }

moment_connections : (t v a : ℕ) (us : List Users) → (users_or (slice_get (change_at t (set_moment v) us) a)).connections ≡ (users_or (slice_get us a)).connections
moment_connections t v a [] = refl
moment_connections zero v zero (u ∷ us) = refl
moment_connections zero v (suc a) (u ∷ us) = refl
moment_connections (suc t) v zero (u ∷ us) = refl
moment_connections (suc t) v (suc a) (u ∷ us) = moment_connections t v a us

moment_book : (t v : ℕ) (l : Ledger) → book_of (at_moment t v l) ≡ book_of l
moment_book t v l = λ i. record {
  rows = λ a d. ledgers.ledger_rows a d l;
  units = λ a e. unit_of (connection_at e (moment_connections t v a l.users i));
  gone = l.gone;
  got = l.got;
}

-- all managers of a cable but one stay, and that one keeps its number
some_is : {A : Type 0} (a b : A) → Some a ≡ Some b → a ≡ b
some_is a b e = cc

cabled_on : (s : Scenario) (ps qs : List Plain) (m t : ℕ) (c : List ℕ) (p q : Plain) → IsNext t p q ps qs → q.given ≡ p.given → t ≢ m → IsCabled s ps m t c → IsCabled s qs m t c
cabled_on s ps qs m t c p q n given apart k = record {
  sender = k.sender;
  at = n.others m (is_false (m == t) (λ e. apart (sym (eqb_yes m t e)))) ∙ k.at;
  cable = k.cable;
  from = k.from;
  to = k.to;
  alone = λ a x y at from to. bool_case (a == t) (λ z. (a == t) ≡ z → a ≡ m)
      (λ z e.
      let is : a ≡ t = eqb_yes a t e in
      let same : x ≡ q = some_is x q (sym at ∙ ap (slice_get qs) is ∙ n.to) in
      k.alone a p y (ap (slice_get ps) is ∙ n.at) (ap (λ (g : Given). cable_from g.number c s.cables) (sym (ap (λ (o : Plain). o.given) same ∙ given)) ∙ from) to)
      (λ z e. k.alone a x y (sym (n.others a e) ∙ at) from to) refl;
}

told_else : (t v a : ℕ) (r : Plain) (l : Ledger) → (a == t) ≡ false → IsTold a r l → IsTold a r (at_moment t v l)
told_else t v a r l ne h = record { places = h.places; placed = h.placed; name = h.name; definitions = h.definitions; shelved = h.shelved; users = h.users; used = else_changed t a (set_moment v) l.users ne ∙ h.used; connections = h.connections }

told_over : (t : ℕ) (p r : Plain) (l : Ledger) → r.given ≡ p.given → r.definitions ≡ p.definitions → r.connections ≡ p.connections → IsTold t p l → IsTold t r l
told_over t p r l given definitions connections h = record {
  places = h.places;
  placed = h.placed;
  name = h.name ∙ ap (λ (g : Given). g.name) (sym given);
  definitions = h.definitions ∙ sym definitions;
  shelved = h.shelved;
  users = h.users;
  used = h.used;
  connections = h.connections ∙ ap connections_told (sym connections);
}

-- THE RESTART
pub commit_found : (z : Scene) (p : Plain) (x : Channel) (y : Past) (l : Ledger) (note : Noted) (st : ledgers.Stopped) (ds : List ToldDeed) (sender : ℕ) (h : CommitNote ds sender z.place.channel st note (left_as p) x)
    → slice_get z.managers z.receiver ≡ Some p → IsJoint (world_in z) z.ghost z.book z.sender z.receiver z.place.channel x y → z.book ≡ book_of l → Placed x y h.commits.unit → Awaited x y h.commits.unit → IsHome z p l
    → ((m : Message) → Mem m (map stamped x.kept) → Comes h.was m) → CommitFound z p l note st (receiver_turn h.turn x) y
commit_found z p x y l note st ds sender h at joint book placed waits home comes =
    let t : ℕ = z.receiver in
    let c : List ℕ = z.place.channel in
    let u : Luw = h.commits.unit in
    let last : ℕ = h.commits.last in
    let ld : Landed = h.commits.land in
    let was : Plain = h.was in
    let ms : List Message = map stamped x.kept in
    let k : Channel = receiver_turn h.turn x in
    let p1 : Plain = record p { moment = was.moment } in
    let ps1 : List Plain = change_at t (λ (o : Plain). p1) z.managers in
    let n1 : IsNext t p p1 z.managers ps1 = record { at = at; to = here_changed t (λ (o : Plain). p1) z.managers p at; others = λ a e. else_changed t a (λ (o : Plain). p1) z.managers e } in
    let l1 : Ledger = at_moment t was.moment l in
    let now : ℕ = (users_at t l).moment in
    let same_book : book_of l1 ≡ book_of l = moment_book t was.moment l in
    let z1 : Scene = record z { managers = ps1; book = book_of l1 } in
    let world1 : world_in z1 ≡ world_in z = stays z.scenario z.given t p p1 z.managers ps1 n1 (record { queues = refl; connections = refl; batches = refl; doubts = λ d. refl; near = record { given = refl; receivers = λ d. refl } }) in
    let joint1 : IsJoint (world_in z1) z.ghost (book_of l1) z.sender t c x y =
    subst (λ (w : World). IsJoint w z.ghost (book_of l1) z.sender t c x y) (sym world1) (subst (λ (b : Book). IsJoint (world_in z) z.ghost b z.sender t c x y) (book ∙ sym same_book) joint) in
    let told1 : IsTold t p1 l1 = told_then t was.moment p1 l (told_over t p p1 l refl refl refl home.told) in
    let home1 : IsHome z1 p1 l1 = record {
      cabled = cabled_on z.scenario z.managers ps1 z.sender t c p p1 n1 refl joint.tied.apart home.cabled;
      fresh = home.fresh;
      told = told1;
      timed = timed_then t p1 l (told_over t p p1 l refl refl refl home.told);
      shelved = home.shelved;
    } in
    let shadow : IsShadow was p1 = shadow_left was p h.left in
    let awaited : IsAwaitedAt z.scenario z.given ps1 p1 l1 z.ghost z.sender t c u ms = found_at z1 p1 x y l1 u joint1 placed waits home1 in
    let inv1 : Inv (world_of z.scenario z.given ps1) z.ghost (book_of l1) = joint1.inv in
    let lands : Lands t c p1 ms ld = lands_then z.scenario z.given ps1 was p1 l1 z.ghost z.sender t c u ms ld h.commits.lands h.whole shadow comes n1.to awaited inv1 in
    let part : Part = received_part c u last ld p1 in
    let q1 : Plain = do_part part p1 in
    let qs1 : List Plain = change_at t (λ (o : Plain). q1) ps1 in
    let n2 : IsNext t p1 q1 ps1 qs1 = record { at = n1.to; to = here_changed t (λ (o : Plain). q1) ps1 p1 n1.to; others = λ a e. else_changed t a (λ (o : Plain). q1) ps1 e } in
    let far : k.receives.unit ≡ u = λ i. (receiver_turned (h.commits.ran i) (h.commits.does i) h.turn x).receives.unit in
    let f : Found z1 p1 l1 u last ms ld st.entry.reply k y qs1 = found_commits z1 p1 x k y l1 u last ld st.entry.reply qs1 joint1 refl placed waits home1 lands far n2 in
    let told_ : List Did = ld.delta ++ did.Received c u ∷ [] in
    let less : List Did = filter (lasts (received_record c u last ld) p) told_ in
    let j : Ledger = ledgers.receive t c ms told_ l1 in
    let i_ : Ledger = ledgers.receive t c ms less l1 in
    let posted : post_call t calls.Turn st.entry.reply ms part.delta (take_all_gone t part.delta l1) ≡ j = posts t c u st.entry.reply ms ld.delta l1 lands.still in
    let g : Plain = record q1 { moment = p.moment } in
    let beside : IsDone p1 q1 = done_beside t c u last ms ld p1 lands in
    let note_is : note ≡ noted_of (received_part c u last ld was) (received_record c u last ld) = h.is ∙ (λ e. noted_of (h.commits.part_ e) (h.commits.record_ e)) in
    let actual : posted_again t st (redone_delta true (Some note) p) l ≡ at_moment t now i_ =
    ap (λ (o : Noted). posted_again t st (redone_delta true (Some o) p) l) note_is
    ∙ posts_found t c u st ms (lasts (received_record c u last ld) p) ld.delta l h.call (h.received ∙ lands.taken) lands.plain refl
    ∙ ap (λ (v : ℕ). at_moment t now (ledgers.receive t c ms less (at_moment t v l))) h.moment in
    let users_j : j.users ≡ l1.users = (receipt_keeps t c ms told_ l1).users in
    let users_i : i_.users ≡ l1.users = (receipt_keeps t c ms less l1).users in
    let back : change_at t (set_moment now) l1.users ≡ l.users = ap (λ (o : Ledger). o.users) (moments_back t was.moment l) in
    let told_q : IsTold t q1 l1 = told_over t p1 q1 l1 beside.given beside.definitions beside.connections told1 in
    let told_i : IsTold t g (at_moment t now i_) = told_then t now g i_ (told_over t q1 g i_ refl refl refl (receipt_told t t q1 c ms less l1 told_q)) in
    let cs : List Change = (received_part c u last ld was).changes in
    let data_ : receiver_data c p ≡ receiver_data c was = ap (receiver_data c) h.left in
    let same_changes : part.changes ≡ cs = ap (λ (o : Option ReceiverData). ld.changes ++ SetReceiver c (record (receiver_or o) { unit = u; last = last }) ∷ []) data_ in
    let lasting_was : Stays_ was (received_part c u last ld was) = commit_lasts c u last ms ld was h.commits.lands h.whole in
    let image : Image = lasting (do_part (received_part c u last ld was) was) in
    let lasting_g : lasting g ≡ image =
    ap (λ (xs : List Change). lasting (apply_all xs (logged part.forced p1))) same_changes
    ∙ ap (λ (o : Plain). lasting (apply_all cs (since o p.running was.moment (logged part.forced p1).log))) h.left
    ∙ lasting_was p.running was.moment (logged part.forced p1).log in
    let unit_idents : tag_idents (z.ghost.sent z.sender c u) ≡ tag_idents (z.ghost.sent z.sender c k.receives.unit) = ap (λ (v : Luw). tag_idents (z.ghost.sent z.sender c v)) (sym far) in
    let received_idents : ledgers.idents_of st.entry.effect.received ≡ tag_idents (z.ghost.sent z.sender c u) = ap ledgers.idents_of (h.received ∙ lands.taken) ∙ sym (idents_tagged ms) ∙ ap tag_idents awaited.sent in
    let received_rows : (a : ℕ) (d : List ℕ) → ledgers.ledger_rows a d j ≡ place_all t f.receipt.placings a d (keep (λ (o : Row). not (among (tag_idents (z.ghost.sent z.sender c u)) o.message.ident)) (ledgers.ledger_rows a d l)) =
    λ a d. ap (ledgers.ledger_rows a d) (sym posted) ∙ f.receipt.rows a d in
    let lasting_n : lasting (redone note p) ≡ image =
    ap (λ (o : Noted). lasting (redone o p)) note_is
    ∙ ap (λ (o : Plain). lasting (apply_all cs (since o p.running p.moment (stands_in (received_record c u last ld) p.log)))) h.left
    ∙ lasting_was p.running p.moment (stands_in (received_record c u last ld) p.log) in
    record {
      behind = g;
      posted = at_moment t now j;
      given = beside.given;
      moment = refl;
      channels = all_after part.changes (logged part.forced p1) (record p { log = stands_in (received_record c u last ld) p.log }) refl
          ∙ ap (λ (xs : List Change). (apply_all xs (record p { log = stands_in (received_record c u last ld) p.log })).channels) same_changes
          ∙ ap (λ (o : Noted). (redone o p).channels) (sym note_is);
      lasts_ = lasting_g ∙ sym lasting_n;
      taken = λ rs n.
          let n3 : IsNext t q1 g qs1 rs = record { at = n2.to; to = n.to; others = λ a e. n.others a e ∙ sym (n2.others a e ∙ n1.others a e) } in
          let seen : world_of z.scenario z.given rs ≡ world_of z.scenario z.given qs1 = stays z.scenario z.given t q1 g qs1 rs n3 (record { queues = refl; connections = refl; batches = refl; doubts = λ d. refl; near = record { given = refl; receivers = λ d. refl } }) in
          let books_ : book_of (post_call t calls.Turn st.entry.reply ms part.delta (take_all_gone t part.delta l1)) ≡ book_of (at_moment t now j) = ap book_of posted ∙ sym (moment_book t now j) in
          let took : Taken z1 (world_of z.scenario z.given rs) (book_of (at_moment t now j)) k y =
          subst (λ (w : World). Taken z1 w (book_of (at_moment t now j)) k y) (sym seen) (subst (λ (b : Book). Taken z1 (world_of z.scenario z.given qs1) b k y) books_ f.taken) in
          record {
            ghost = took.ghost;
            joint = took.joint;
            sent = took.sent;
            loose = took.loose;
            operated = took.operated;
            own = λ v e. let o = took.own v e in (o.0, elim o.1 [ inl w ↦ inl w | inr w ↦ inr (w ∙ ap (λ (o : World). o.last z.sender c) world1) ]);
            holds = λ a d. took.holds a d ∙ ap (λ (o : World). o.holds a d) world1;
            doubt = λ a d. took.doubt a d ∙ ap (λ (o : World). o.doubt a d) world1;
            last = λ a d e. took.last a d e ∙ ap (λ (o : World). o.last a d) world1;
          };
      fresh = f.receipt.fresh;
      told = told_then t now g j (told_over t q1 g j refl refl refl (receipt_told t t q1 c ms told_ l1 told_q));
      users = ap (change_at t (set_moment now)) users_j ∙ back;
      now = subst (λ (o : Ledger). IsTold t g o) (sym actual) told_i;
      now_users = ap (λ (o : Ledger). o.users) actual ∙ ap (change_at t (set_moment now)) users_i ∙ back;
      others = λ a r ne o. subst (λ (v : Ledger). IsTold a r v) (sym actual) (told_else t now a r i_ ne (receipt_told t a r c ms less l1 (told_else t was.moment a r l ne o)));
      messages = received_idents ∙ unit_idents;
      placings = f.receipt.placings;
      named = f.receipt.named ∙ unit_idents;
      rows = λ a d. received_rows a d
          ∙ ap (λ (v : Luw). place_all t f.receipt.placings a d (keep (λ (o : Row). not (among (tag_idents (z.ghost.sent z.sender c v)) o.message.ident)) (ledgers.ledger_rows a d l))) (sym far);
      books = posts_alike z.scenario z.given ps1 p1 p l1 z.ghost z.sender t now c u last ms ld lands awaited inv1 ∙ ap (λ (o : Ledger). book_of (up_again t o)) (sym actual);
    }
