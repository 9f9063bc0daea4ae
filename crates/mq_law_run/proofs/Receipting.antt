-- What a receiver's commit leaves of the order: of its own unit, and of those that operators have committed.
use Rattle.std.proofs.Common.{ℕ, ◌≡◌, ◌⊎◌, Bool, true, false, List, [], ◌∷◌, ◌++◌, refl, ap, sym, subst, ◌∙◌, inl, inr, map}
use Rattle.std.specs.Prelude.{Option, Some, None, Result, Ok, Err, if◌then◌else◌, not}
use Rattle.std.proofs.lemmas.List.{append-nil}
use Rattle.mq_message.specs.declared.message.Ident.{Ident}
use Rattle.mq_message.specs.declared.message.Message.{Message}
use Rattle.mq_codes.specs.declared.reason.Reason.{Reason}
use Rattle.mq_queue.specs.declared.row.Row.{Row}
use Rattle.mq_queue.specs.Rows.{keep}
use Rattle.mq_frame.specs.declared.frame.Seen.{Seen}
use Rattle.mq_sync.specs.declared.unit.Unit.{Unit as Luw}
use Rattle.mq_receiver.specs.declared.turns.ReceiverDoes.{ReceiverDoes}
use Rattle.mq_receiver.specs.declared.turns.ReceiverDoes.TheVariants as takes
use Rattle.mq_receiver.specs.declared.turns.ReceiverOut.TheVariants as ends
use Rattle.mq_receiver.specs.After.{last_by}
use Rattle.mq_calls.specs.declared.deltas.Did.{Did}
use Rattle.mq_calls.specs.declared.deltas.Did.TheVariants as did
use Rattle.mq_history.specs.declared.calls.Call.TheVariants as calls
use Rattle.mq_history.specs.declared.calls.Reply.TheVariants as replies
use Rattle.mq_calls.specs.State.{Plain}
use Rattle.mq_calls.specs.Reads.{is_full}
use Rattle.mq_calls.specs.Sizes.{need}
use Rattle.mq_calls.specs.Steps.{delta_of, do_all, do_part}
use Rattle.mq_spec_manager.specs.Receiving.{Landed, landed, receive_landed, received_part, received_record}
use Rattle.mq_spec_node.specs.Node.{Node}
use Rattle.mq_spec_node.specs.Deeds.{Deed}
use Rattle.mq_spec_node.specs.Receivers.{place_deed, receiver_deed_by}
use Rattle.mq_spec_network.specs.Ledger.{Ledger, idents_of, ledger_rows, post_call, take_all_gone}
use Rattle.mq_spec_network.specs.Order.{Before, Forced, KeepsOrder, KeepsQueue, others, unforced, unit_received}
use Rattle.mq_spec_network.specs.Story.{Mem}
use Rattle.mq_law_channel.specs.Channel.{Channel, Past}
use Rattle.mq_law_node.specs.Ends.{place_out, receiver_of, receiver_out, stamped}
use Rattle.mq_law_node.proofs.ReceiverTurns.{placed_by}
use Rattle.mq_law_rows.specs.Kinds.{Commits, Landing, among, awaits, place_all}
use Rattle.mq_law_rows.specs.World.{Ghost, InBatch, Inv, Tag, World, tag_idents}
use Rattle.mq_law_rows.specs.World as owners
use Rattle.mq_law_rows.proofs.Lists.{bool_case, map_mem, mem_keep, mem_map}
use Rattle.mq_law_rows.proofs.Ordering.{commit_lists}
use Rattle.mq_law_rows.proofs.Receiving.{mem_all}
use Rattle.mq_law_rows.proofs.Young.{before_kept}
use Rattle.mq_law_seen.specs.Seen.{book_of}
use Rattle.mq_law_events.specs.Tied.{IsNext}
use Rattle.mq_law_stopped.specs.from_law_receipts.Receipts.{IsAwaitedAt}
use Rattle.mq_law_stopped.proofs.from_law_receipts.Knowing.{idents_tagged}
use Rattle.mq_law_stopped.specs.from_law_turns.Turns.{IsAtFar, Scene, world_in}
use Rattle.mq_law_stopped.proofs.from_law_turns.Taking.{Committing, found_at, receipt_of}
use Rattle.mq_law_run.specs.Ordered.{AreForced, AreListed, IsOnly}
use Rattle.mq_law_run.proofs.Dropping.{forced_is}
use Rattle.mq_law_run.proofs.Keeping.{post_of}
use Rattle.mq_law_run.proofs.Landing.{EachBoth, landed_both}
use Rattle.mq_law_run.proofs.Ordering.{keeps_its_queue}

-- the unit's rows have left the ledger wherever they were, and stand where they were placed
pub record IsLanded (g : Ghost) (l k : Ledger) (m t : ℕ) (c : List ℕ) (u : Luw) : Type 0 where
  pub placings : List Landing
  pub named : map (λ (x : Landing). x.row.message.ident) placings ≡ tag_idents (g.sent m c u)
  pub rows : (a : ℕ) (d : List ℕ) → ledger_rows a d k ≡ place_all t placings a d (keep (λ (x : Row). not (among (tag_idents (g.sent m c u)) x.message.ident)) (ledger_rows a d l))

-- OTHER UNITS: none of theirs comes
in_batch_not : (b : Bool) (m : ℕ) (c : List ℕ) (u : Luw) (a : ℕ) (d : List ℕ) (v : Luw) → (if b then InBatch m c else owners.Forced m c u) ≡ owners.Forced a d v → (a ≡ m) × (d ≡ c) × (v ≡ u)
in_batch_not true m c u a d v e = absurd cc
in_batch_not false m c u a d v e = forced_is a m d c v u (sym e)

pub landed_listed : (w : World) (g h : Ghost) (l k : Ledger) (m t : ℕ) (c : List ℕ) (u : Luw) (ds : List Did) → Inv w g (book_of l) → Commits w g m c u t → IsLanded g l k m t c u
    → ((a : ℕ) (d : List ℕ) (v : Luw) → h.operated a d v ≡ true → (g.operated a d v ≡ true) × (h.sent a d v ≡ g.sent a d v) × (a ≡ m → d ≡ c → v ≡ u → ⊥)) → AreForced g h ds (book_of l).rows (book_of k).rows
landed_listed w g h l k m t c u ds inv commits landed old a d v on =
    let o = old a d v on in
    inl (record {
      operated = o.0;
      sent = o.1;
      rows = λ i n no_ r.
          let x = map_mem (λ (y : Tag). y.ident) i (g.sent a d v) (subst (λ (ts : List Tag). Mem i (tag_idents ts)) o.1 n) in
          let own : g.owner i ≡ owners.Forced a d v = ap g.owner x.2 ∙ inv.operated a d v x.0 o.0 x.1 in
          let rest : List Row = keep (λ (y : Row). not (among (tag_idents (g.sent m c u)) y.message.ident)) (ledger_rows r.0 r.1 l) in
          elim (mem_all t landed.placings r.0 r.1 rest r.2 (subst (λ (xs : List Row). Mem r.2 xs) (landed.rows r.0 r.1) r.3)) [
            | inl z ↦ no_ (r.0, r.1, r.2, (mem_keep (λ (y : Row). not (among (tag_idents (g.sent m c u)) y.message.ident)) r.2 (ledger_rows r.0 r.1 l) z).0, r.4)
            | inr z ↦
                (let there : Mem i (tag_idents (g.sent m c u)) = subst (λ j. Mem j (tag_idents (g.sent m c u))) (ap (λ (y : Row). y.message.ident) (sym z.1.2) ∙ r.4)
                (subst (λ (is : List Ident). Mem z.1.0.row.message.ident is) landed.named (mem_map (λ (y : Landing). y.row.message.ident) z.1.0 landed.placings z.1.1)) in
                let same = in_batch_not (awaits w m c u) m c u a d v (sym (commits.mine i there) ∙ own) in
                o.2 same.0 same.1 same.2)
          ];
    })

-- ITS OWN: against the ledger behind it, of which the rows may be fewer
pub landed_order : (w : World) (g : Ghost) (l k after : Ledger) (m t : ℕ) (c : List ℕ) (u : Luw) (fs : List Forced) (ds : List Did) (ms : List Message) (stays : Row → Bool) → Inv w g (book_of l) → Commits w g m c u t → g.loose m c u ≡ false
    → AreListed g (book_of l).rows fs → IsOnly g m c → IsLanded g l k m t c u → idents_of ms ≡ tag_idents (g.sent m c u) → ((d : List ℕ) → ledger_rows t d after ≡ keep stays (ledger_rows t d k)) → KeepsOrder (others c u fs) t ds ms l after
landed_order w g l k after m t c u fs ds ms stays inv commits tight listed only landed ids less = record {
  queue = λ a d. subst (λ (is : List Ident). KeepsQueue is (unforced (others c u fs) (ledger_rows a d l))) (sym ids) (keeps_its_queue w g (book_of l) m c u t fs inv commits tight listed only a d);
  list = λ d x y nx ny dx dy lane before.
      let rest : List Row = keep (λ (z : Row). not (among (tag_idents (g.sent m c u)) z.message.ident)) (ledger_rows t d l) in
      let all : List Row = place_all t landed.placings t d rest in
      let is : ledger_rows t d after ≡ keep stays all = less d ∙ ap (keep stays) (landed.rows t d) in
      let hx = mem_keep stays x all (subst (λ (xs : List Row). Mem x xs) is nx) in
      let hy = mem_keep stays y all (subst (λ (xs : List Row). Mem y xs) is ny) in
      subst (λ (xs : List Row). Before x y xs) (sym is) (before_kept stays x y all
      (commit_lists t (tag_idents (g.sent m c u)) landed.placings d (ledger_rows t d l) landed.named commits.once (inv.shelved t d) x y hx.0 hy.0 lane
      (subst (λ (js : List Ident). Before x.message.ident y.message.ident js) ids before)) hx.1 hy.1);
}

-- A TURN of a receiver's end: it commits a unit, or posts nothing
pub record IsCommitOf (z : Scene) (n : Node) (x : Channel) (l : Ledger) (seen : Seen) (does : ReceiverDoes) (d : Deed) : Type 0 where
  pub unit : Luw
  pub is : does ≡ takes.Place unit
  pub ran : receiver_out (takes.Place unit) z.place seen x.receiver x.kept n.manager ≡ ends.Done
  pub told : unit_received (delta_of d.parts) ≡ Some (z.place.channel, unit)
  pub commits : Commits (world_in z) z.ghost z.sender z.place.channel unit z.receiver
  pub ids : idents_of d.received ≡ tag_idents (z.ghost.sent z.sender z.place.channel unit)
  pub landed : IsLanded z.ghost l (post_of z.receiver l d) z.sender z.receiver z.place.channel unit

abbrev pub EachCommits : Scene → Node → Channel → Ledger → Seen → ReceiverDoes → Option Deed → Type 0
EachCommits z n x l seen does None = Unit {0}
EachCommits z n x l seen does (Some d) = (rs : List Plain) → IsNext z.receiver n.manager (do_all d.parts n.manager) z.managers rs
    → ((unit_received (delta_of d.parts) ≡ None) × (post_of z.receiver l d ≡ l)) ⊎ IsCommitOf z n x l seen does d

received_behind : (ds : List Did) (c : List ℕ) (u : Luw) → unit_received ds ≡ None → unit_received (ds ++ did.Received c u ∷ []) ≡ Some (c, u)
received_behind [] c u e = refl
received_behind (did.Received d v ∷ ds) c u e = absurd cc
received_behind (did.Placed q i dead ∷ ds) c u e = received_behind ds c u e
received_behind (did.Removed q i why ∷ ds) c u e = received_behind ds c u e
received_behind (did.Moved q i to target bare ∷ ds) c u e = received_behind ds c u e
received_behind (did.Held q i by_ ∷ ds) c u e = received_behind ds c u e
received_behind (did.Released q i ∷ ds) c u e = received_behind ds c u e
received_behind (did.Hardened d note ∷ ds) c u e = received_behind ds c u e
received_behind (did.Prepared d v ∷ ds) c u e = received_behind ds c u e

commit_is : (z : Scene) (n : Node) (x : Channel) (y : Past) (l : Ledger) (seen : Seen) (u : Luw) (ld : Landed) (rs : List Plain) → IsAtFar z n x y l → landed z.place.channel (map stamped x.kept) n.manager ≡ Ok ld → Committing z n x y l seen (takes.Place u)
    → receiver_out (takes.Place u) z.place seen x.receiver x.kept n.manager ≡ ends.Done
    → IsNext z.receiver n.manager (do_part (received_part z.place.channel u (last_by seen x.receiver.last) ld n.manager) n.manager) z.managers rs
    → IsCommitOf z n x l seen (takes.Place u) (place_deed (receiver_of z.place x.receiver x.kept) u seen (placed_by z.place u (last_by seen x.receiver.last) ld n.manager false) n)
commit_is z n x y l seen u ld rs a lands k done h =
    let c : List ℕ = z.place.channel in
    let last : ℕ = last_by seen x.receiver.last in
    let p : Plain = n.manager in
    let ms : List Message = map stamped x.kept in
    let ds : List Did = (received_part c u last ld p).delta in
    let o = k done in
    let w = receipt_of z n x y l u last ld rs a o.0 o.1 o.2 lands h in
    let r : IsAwaitedAt z.scenario z.given z.managers p l z.ghost z.sender z.receiver c u ms = found_at z p x y l u a.joint o.0 o.1 (record { cabled = o.2.cabled; fresh = o.2.fresh; told = o.2.told; timed = o.2.timed; shelved = o.2.shelved }) in
    let quiet : EachBoth (Ok ld) = subst EachBoth lands (landed_both c ms p) in
    let there : IsLanded z.ghost l (post_call z.receiver calls.Turn replies.Changed ms ds (take_all_gone z.receiver ds l)) z.sender z.receiver c u = record { placings = w.1.placings; named = w.1.named; rows = w.1.rows } in
    record {
      unit = u;
      is = refl;
      ran = done;
      told = ap unit_received (append-nil ds) ∙ received_behind ld.delta c u quiet.1;
      commits = r.commits;
      ids = ap idents_of w.0 ∙ sym (idents_tagged ms) ∙ ap tag_idents r.sent;
      landed = subst (λ (v : List Message). IsLanded z.ghost l (post_call z.receiver calls.Turn replies.Changed v (ds ++ []) (take_all_gone z.receiver (ds ++ []) l)) z.sender z.receiver c u) (sym w.0)
          (subst (λ (v : List Did). IsLanded z.ghost l (post_call z.receiver calls.Turn replies.Changed ms v (take_all_gone z.receiver v l)) z.sender z.receiver c u) (sym (append-nil ds)) there);
    }

places_commit : (z : Scene) (n : Node) (x : Channel) (y : Past) (l : Ledger) (seen : Seen) (u : Luw) (o : Result Landed Reason) → IsAtFar z n x y l → Committing z n x y l seen (takes.Place u) → landed z.place.channel (map stamped x.kept) n.manager ≡ o
    → EachCommits z n x l seen (takes.Place u) (Some (place_deed (receiver_of z.place x.receiver x.kept) u seen (receive_landed z.place.channel u (last_by seen x.receiver.last) o n.manager) n))
places_commit z n x y l seen u (Err reason) a k lands = λ rs h. inl (refl, refl)
places_commit z n x y l seen u (Ok ld) a k lands =
    let c : List ℕ = z.place.channel in
    let last : ℕ = last_by seen x.receiver.last in
    bool_case (is_full (need (received_record c u last ld)) n.manager)
    (λ t. is_full (need (received_record c u last ld)) n.manager ≡ t → EachCommits z n x l seen (takes.Place u) (Some (place_deed (receiver_of z.place x.receiver x.kept) u seen (placed_by z.place u last ld n.manager t) n)))
    (λ e f rs h. inl (refl, refl))
    (λ e f rs h. inr (commit_is z n x y l seen u ld rs a lands k ((λ i. place_out (receive_landed c u last (lands i) n.manager)) ∙ ap (λ t. place_out (placed_by z.place u last ld n.manager t)) f) h)) refl

pub commits_by : (z : Scene) (n : Node) (x : Channel) (y : Past) (l : Ledger) (stamp : ℕ) (seen : Seen) (d : ReceiverDoes) → IsAtFar z n x y l → Committing z n x y l seen d
    → EachCommits z n x l seen d (receiver_deed_by stamp (receiver_of z.place x.receiver x.kept) seen d n)
commits_by z n x y l stamp seen takes.Still a k = tt
commits_by z n x y l stamp seen (takes.Place u) a k = places_commit z n x y l seen u (landed z.place.channel (map stamped x.kept) n.manager) a k refl
commits_by z n x y l stamp seen takes.Ignore a k = λ rs h. inl (refl, refl)
commits_by z n x y l stamp seen takes.PushOwed a k = λ rs h. inl (refl, refl)
commits_by z n x y l stamp seen takes.Bind a k = λ rs h. inl (refl, refl)
commits_by z n x y l stamp seen takes.Keep a k = λ rs h. inl (refl, refl)
commits_by z n x y l stamp seen takes.Again a k = λ rs h. inl (refl, refl)
commits_by z n x y l stamp seen takes.Close a k = λ rs h. inl (refl, refl)
