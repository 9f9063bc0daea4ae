-- Each turn of a sender's end, as what it is of the network: rows are held, prepared, released or settled, or nothing of them.
use Rattle.std.proofs.Common.{ℕ, ◌≡◌, ◌≢◌, ◌+◌, zero, suc, Bool, true, false, not, ◌⊎◌, List, [], ◌∷◌, ◌++◌, refl, ap, sym, subst, ◌∙◌, inl, inr, map, take, arith}
use Rattle.std.specs.Prelude.{Option, Some, None, if◌then◌else◌, ◌&&◌, ◌||◌, slice_get, is_some, filter}
use Rattle.std.specs.List.{list_any}
use Rattle.std.specs.Str.{bytes_eq}
use Rattle.mq_message.specs.declared.message.Ident.{Ident}
use Rattle.mq_message.specs.declared.place.Holder.{Holder}
use Rattle.mq_message.specs.declared.place.Holder.TheVariants as holders
use Rattle.mq_queue.specs.declared.row.Row.{Row}
use Rattle.mq_queue.specs.Rows.{is_free, keep}
use Rattle.mq_frame.specs.declared.frame.Seen.{Seen}
use Rattle.mq_sync.specs.declared.unit.Unit.{Unit as Luw}
use Rattle.mq_sync.specs.declared.unit.Settle.{Settle}
use Rattle.mq_sync.specs.declared.unit.Settle.TheVariants as settles
use Rattle.mq_sync.specs.declared.data.Doubt.{Doubt}
use Rattle.mq_sync.specs.declared.data.InDoubt.{InDoubt}
use Rattle.mq_sync.specs.declared.data.Stock.{Stock}
use Rattle.mq_sync.specs.Units.{Upto, same_unit, unit_named}
use Rattle.mq_sync.specs.Settlement.{sender_or}
use Rattle.mq_sender.specs.declared.state.Sender.{Sender}
use Rattle.mq_sender.specs.declared.state.Kept.{Kept}
use Rattle.mq_sender.specs.declared.state.SenderState.{SenderState}
use Rattle.mq_sender.specs.declared.turns.SenderDoes.{SenderDoes}
use Rattle.mq_sender.specs.declared.turns.SenderDoes.TheVariants as does
use Rattle.mq_sender.specs.declared.turns.SenderOut.TheVariants as outs
use Rattle.mq_sender.specs.States.{is_running}
use Rattle.mq_sender.specs.After.{number_sent, sender_after}
use Rattle.mq_sender.specs.Table.{is_ack, is_binding, is_err, is_idle, is_sending, is_status, is_waiting, sender_lines, sender_next, settled_by, status_unit}
use Rattle.mq_calls.specs.declared.agents.Note.TheVariants as notes
use Rattle.mq_calls.specs.declared.state.Batch.{Batch}
use Rattle.mq_calls.specs.State.{Plain}
use Rattle.mq_calls.specs.Reads.{batch_of, free_rows, has_held, in_doubt_of, is_by_other, is_full, sender_data, stored}
use Rattle.mq_calls.specs.Sizes.{need}
use Rattle.mq_calls.specs.Changes.{apply_all}
use Rattle.mq_calls.specs.Steps.{do_all, do_part}
use Rattle.mq_spec_manager.specs.Get.{idents_of}
use Rattle.mq_spec_manager.specs.Agents.{harden_part, leave, prepare_of, prepared_changes, prepared_record, queue_of_sender, release_of, stock}
use Rattle.mq_spec_network.specs.Ledger.{change_at}
use Rattle.mq_spec_network.specs.Promised.{AreDistinct}
use Rattle.mq_spec_network.specs.Story.{Mem}
use Rattle.mq_spec_node.specs.Node.{Node}
use Rattle.mq_spec_node.specs.Deeds.{parts_of}
use Rattle.mq_spec_node.specs.Senders.{doubted, leave_if_stopped, prepare_deed, sender_deed, sender_deed_by}
use Rattle.mq_law_channel.specs.Facts.{given, now}
use Rattle.mq_law_channel.specs.Channel.{Channel, Facts, Past}
use Rattle.mq_law_channel.specs.Following.{Said, WasCommitted, WasNot}
use Rattle.mq_law_channel.specs.Turns.{SenderTurn, SeenIn, begun_unit, emptied, past_turned, sender_done, sender_past, sender_turn, sender_turned}
use Rattle.mq_law_channel.proofs.Following.{said}
use Rattle.mq_law_channel.proofs.Sending.{binding_is, fits_at, fits_sending, idle_is, kept_session, not_forced, waiting_is}
use Rattle.mq_law_channel.proofs.Told.{ack_told, and_both, by_lines, doubt_is, err_told, given_self, no_doubt, unit_self, unit_yes}
use Rattle.mq_law_story.specs.from_law_rows.Families.{is_here}
use Rattle.mq_law_story.specs.from_law_rows.World.{Ghost, Inv, Tag, World, away, idents_in, row_stands, standing, stands, tag_idents, tag_of}
use Rattle.mq_law_story.specs.from_law_rows.Kinds.{Chosen, after, freed, ghost_take, unit_at}
use Rattle.mq_law_story.specs.from_law_rows.Ordered.{IsFront}
use Rattle.mq_law_story.proofs.from_law_rows.Lists.{bool_case, here_self, keep_all, map_mem, mem_map, name_self, name_yes, true_false}
use Rattle.mq_law_story.proofs.from_law_rows.Ordering.{first_is_front}
use Rattle.mq_law_story.specs.from_law_seen.Seen.{doubt_of, held_unit, holds_of, last_of, rows_of, world_of}
use Rattle.mq_law_manager.proofs.Removals.{mem_filter}
use Rattle.mq_law_manager.proofs.Named.{batch_dropped}
use Rattle.mq_law_batches.specs.from_law_events.Tied.{IsNext}
use Rattle.mq_law_batches.specs.Releases.{held_changes, release_changes, settled_changes}
use Rattle.mq_law_batches.proofs.Holding as holding
use Rattle.mq_law_batches.proofs.Holding.{held_holds}
use Rattle.mq_law_batches.proofs.Releasing.{IsNear, releases}
use Rattle.mq_law_batches.proofs.Settling as settling
use Rattle.mq_law_batches.proofs.Settling.{backs_out, drops, prepared_doubts, prepared_holds, settled_doubts, settled_holds}
use Rattle.mq_law_batches.proofs.Wording.{stays, words}
use Rattle.mq_law_node.specs.Ends.{Guard, SendsAs, batch_letters, letters_of, out_of, prepare_out, sender_of, turn_of}
use Rattle.mq_law_node.proofs.Batches.{take_mem}
use Rattle.mq_law_node.proofs.SenderTable.{may_turn, prepared_by}
use Rattle.mq_law_node.proofs.SenderTurns.{binding_apart, guarded, idle_apart, waiting_apart}
use Rattle.mq_law_story.specs.Needs.{letter_tag}
use Rattle.mq_law_story.proofs.Tying.{next_tied, unprepared_tied}
use Rattle.mq_law_turns.specs.Turns.{EachTurned, IsAlone, IsAt, IsHere, IsJoint, Scene, Turned, is_expiry, world_in}
use Rattle.mq_law_turns.proofs.Parts.{IsLeft, IsOnly, changed, doubt_held, here_holds, leaving_stays, next_mid, next_to, no_doubt_held, not_doubted, part_stays, same_turned, stays_none, stays_then, turned_on, world_behind}

-- no part at all
none_turned : (z : Scene) (n : Node) (x k : Channel) (y l : Past) (rs : List Plain) → IsNext z.sender n.manager n.manager z.managers rs → Turned z (world_in z) k l → Turned z (world_of z.scenario z.given rs) k l
none_turned z n x k y l rs h t = turned_on z (world_in z) (world_of z.scenario z.given rs) k l (sym (same_lists)) t
  where
    same_lists : world_of z.scenario z.given rs ≡ world_in z
    same_lists = stays z.scenario z.given z.sender n.manager n.manager z.managers rs h (stays_none n.manager)

quiet : (z : Scene) (n : Node) (x k : Channel) (y : Past) (rs : List Plain) → IsAt z n x y → k.receives ≡ x.receives → IsNext z.sender n.manager n.manager z.managers rs → Turned z (world_of z.scenario z.given rs) k y
quiet z n x k y rs a far h = none_turned z n x k y y rs h (same_turned z x k y y a.joint far refl refl refl (λ u. refl) (λ u e. e))

-- HARDEN SESSION
rises : (y : Past) (u : Luw) → Upto u (now y.near) → Upto u (unit_named (y.near.session + 1) 0)
rises y u (inl e) = inl (omega arith)
rises y u (inr e) = inl (let s = e.0 in omega arith)

hardens : (z : Scene) (n : Node) (x : Channel) (y : Past) (stamp : ℕ) (seen : Seen) (session : ℕ) → IsAt z n x y
    → EachTurned z n.manager (sender_deed_by stamp (sender_of z.place x.sender) (does.HardenSession session) n) (sender_done (does.HardenSession session) (turn_of z.place stamp seen x.sender n.manager) x)
    (record y { near = record y.near { session = y.near.session + 1; begun = 0 } })
hardens z n x y stamp seen session a rs h =
    let p : Plain = n.manager in
    let note = notes.Session z.place.partner session in
    let q : Plain = apply_all (harden_part z.place.channel note p).changes p in
    let mid : List Plain = change_at z.sender (λ (o : Plain). q) z.managers in
    let e = world_behind z.scenario z.given z.sender p q _ z.managers rs h (part_stays (harden_part z.place.channel note p) p) in
    let f = words z.scenario z.given z.sender p z.managers mid z.place.channel note tt (next_mid z.sender p q _ z.managers rs h) in
    turned_on z (world_in z) _ _ _ (sym (e ∙ f)) (same_turned z x _ y _ a.joint refl refl refl refl (λ u. refl) (λ u k. rises y u k))

-- BEGIN: what is chosen

abbrev pub tags_of : List Row → List Tag
tags_of rows = map (λ (row : Row). tag_of row.message) rows

tags_named : (rows : List Row) → tag_idents (tags_of rows) ≡ idents_of rows
tags_named [] = refl
tags_named (x ∷ xs) = ap (λ is. x.message.ident ∷ is) (tags_named xs)

letters_tags : (rows : List Row) → map letter_tag (letters_of rows) ≡ tags_of rows
letters_tags [] = refl
letters_tags (x ∷ xs) = ap (λ ts. tag_of x.message ∷ ts) (letters_tags xs)

pub free_by : (o : Option Holder) (row : Row) → row.by ≡ o → is_free row ≡ true → row.by ≡ None
free_by None row e f = e
free_by (Some h) row e f = absurd (true_false (sym f ∙ (λ i. elim (e i) as (λ h. Bool) [ None ↦ true | Some h ↦ false ])))

take_ident : (k : ℕ) (xs : List Row) (i : Ident) → Mem i (idents_in (take k xs)) → Mem i (idents_in xs)
take_ident k xs i n = let r = map_mem (λ (row : Row). row.message.ident) i (take k xs) n in subst (λ (j : Ident). Mem j (idents_in xs)) (sym r.2) (mem_map (λ (row : Row). row.message.ident) r.0 xs (take_mem r.0 k xs r.1))

take_distinct : (k : ℕ) (xs : List Row) → AreDistinct (idents_in xs) → AreDistinct (idents_in (take k xs))
take_distinct zero xs d = tt
take_distinct (suc k) [] d = tt
take_distinct (suc k) (x ∷ xs) d = (λ y n. d.0 y (take_ident k xs y n), take_distinct k xs d.1)

filter_ident : (test : Row → Bool) (xs : List Row) (i : Ident) → Mem i (idents_in (filter test xs)) → Mem i (idents_in xs)
filter_ident test xs i n = let r = map_mem (λ (row : Row). row.message.ident) i (filter test xs) n in subst (λ (j : Ident). Mem j (idents_in xs)) (sym r.2) (mem_map (λ (row : Row). row.message.ident) r.0 xs (mem_filter r.0 test xs r.1).0)

filter_distinct : (test : Row → Bool) (xs : List Row) → AreDistinct (idents_in xs) → AreDistinct (idents_in (filter test xs))
filter_distinct test [] d = tt
filter_distinct test (x ∷ xs) d = bool_case (test x) (λ t. AreDistinct (idents_in (if t then x ∷ filter test xs else filter test xs)))
    (λ e. (λ y n. d.0 y (filter_ident test xs y n), filter_distinct test xs d.1)) (λ e. filter_distinct test xs d.1)

chosen : (z : Scene) (p : Plain) (q : List ℕ) (count : ℕ) → slice_get z.managers z.sender ≡ Some p → Inv (world_in z) z.ghost z.book → Chosen (world_in z) z.sender q (tags_of (take count (free_rows q p)))
chosen z p q count at h = record {
  rows = λ t n.
      let r = map_mem (λ (row : Row). tag_of row.message) t (take count (free_rows q p)) n in
      let f = mem_filter r.0 is_free (stored q p).rows (take_mem r.0 count (free_rows q p) r.1) in
      (r.0, subst (λ (o : Option Plain). Mem r.0 (rows_of q o)) (sym at) f.0, free_by r.0.by r.0 refl f.1, sym r.2);
  once = subst AreDistinct (sym (tags_named (take count (free_rows q p)))) (take_distinct count (free_rows q p) (filter_distinct is_free (stored q p).rows (subst (λ (o : Option Plain). AreDistinct (idents_in (rows_of q o))) at (h.distinct z.sender q))));
}

-- where all rows of the queue are free, what is chosen is its front

twice : (t : Bool) → not (not t) ≡ true → t ≡ true
twice true e = refl
twice false e = absurd cc

no_not : (t : Bool) → not t ≡ true → t ≡ false
no_not true e = absurd cc
no_not false e = refl

take_rest : (k : ℕ) (xs : List Row) → (rest : List Row) × (take k xs ++ rest ≡ xs)
take_rest zero xs = (xs, refl)
take_rest (suc k) [] = ([], refl)
take_rest (suc k) (x ∷ xs) = let r = take_rest k xs in (r.0, ap (λ (l : List Row). x ∷ l) r.1)

all_free : (xs : List Row) → list_any (λ (row : Row). not (is_free row)) xs ≡ false → (row : Row) → Mem row xs → is_free row ≡ true
all_free [] e row n = absurd n
all_free (x ∷ xs) e row n =
    bool_case (is_free x) (λ t. is_free x ≡ t → (not t || list_any (λ (row : Row). not (is_free row)) xs) ≡ false → is_free row ≡ true)
    (λ t f k. elim n [ inl s ↦ ap is_free s ∙ f | inr s ↦ all_free xs k row s ]) (λ t f k. absurd (true_false k)) refl e

filter_same : (xs : List Row) → ((row : Row) → Mem row xs → is_free row ≡ true) → filter is_free xs ≡ xs
filter_same [] all = refl
filter_same (x ∷ xs) all = ap (λ t. if t then x ∷ filter is_free xs else filter is_free xs) (all x (inl refl)) ∙ ap (λ (l : List Row). x ∷ l) (filter_same xs (λ row n. all row (inr n)))

front_rows : (xs : List Row) (k : ℕ) → AreDistinct (idents_in xs) → IsFront (idents_in (take k xs)) xs
front_rows xs k once =
    let r = take_rest k xs in
    subst (λ (l : List Row). IsFront (idents_in (take k xs)) l) r.1 (first_is_front (take k xs) r.0 (subst (λ (l : List Row). AreDistinct (idents_in l)) (sym r.1) once))

front_now : (z : Scene) (p : Plain) (q : List ℕ) (count : ℕ) → slice_get z.managers z.sender ≡ Some p → Inv (world_in z) z.ghost z.book → not (has_held q p) ≡ true
    → IsFront (tag_idents (tags_of (take count (free_rows q p)))) (standing (world_in z) z.sender q)
front_now z p q count at h clear =
    let rows : List Row = (stored q p).rows in
    let stays_ : Row → Bool = row_stands (away (world_in z) z.sender) in
    let free : (row : Row) → Mem row rows → is_free row ≡ true = all_free rows (no_not (has_held q p) clear) in
    let here : (world_in z).rows z.sender q ≡ rows = ap (rows_of q) at in
    let stand : standing (world_in z) z.sender q ≡ rows = ap (keep stays_) here ∙ keep_all stays_ rows (λ row n. ap (stands (away (world_in z) z.sender)) (free_by row.by row refl (free row n))) in
    let ids : tag_idents (tags_of (take count (free_rows q p))) ≡ idents_in (take count rows) = tags_named (take count (free_rows q p)) ∙ ap (λ (l : List Row). idents_in (take count l)) (filter_same rows free) in
    subst (λ (is : List Ident). IsFront is (standing (world_in z) z.sender q)) (sym ids)
    (subst (λ (l : List Row). IsFront (idents_in (take count rows)) l) (sym stand) (front_rows rows count (subst (λ (l : List Row). AreDistinct (idents_in l)) here (h.distinct z.sender q))))

-- A sender that is idle has no batch: where no other holds a row of its queue, none of its rows is held, and what it begins next is
-- the front of it.
own_only : (c : List ℕ) (o : Option Holder) → is_by_other c o ≡ false → (o ≡ None) ⊎ (o ≡ Some (holders.Batch c))
own_only c None e = inl refl
own_only c (Some (holders.Unit k)) e = absurd (true_false e)
own_only c (Some (holders.Batch d)) e = inr (ap (λ (f : List ℕ). Some (holders.Batch f)) (sym (name_yes c d (twice (bytes_eq c d) (ap not e)))))

is_free_by : (row : Row) → row.by ≡ None → is_free row ≡ true
is_free_by row e = ap (λ (o : Option Holder). elim o as (λ h. Bool) [ None ↦ true | Some h ↦ false ]) e

none_held : (c : List ℕ) (xs : List Row) → list_any (λ (row : Row). is_by_other c row.by) xs ≡ false → ((row : Row) → Mem row xs → row.by ≡ Some (holders.Batch c) → ⊥)
    → list_any (λ (row : Row). not (is_free row)) xs ≡ false
none_held c [] e no_ = refl
none_held c (x ∷ xs) e no_ =
    bool_case (is_by_other c x.by) (λ t. is_by_other c x.by ≡ t → (t || list_any (λ (row : Row). is_by_other c row.by) xs) ≡ false → (not (is_free x) || list_any (λ (row : Row). not (is_free row)) xs) ≡ false)
    (λ t f k. absurd (true_false k))
    (λ t f k. elim (own_only c x.by f) [
      | inl z ↦ ap (λ b. not b || list_any (λ (row : Row). not (is_free row)) xs) (is_free_by x z) ∙ none_held c xs k (λ row n. no_ row (inr n))
      | inr z ↦ absurd (no_ x (inl refl) z)
    ]) refl e

clear_queue : (z : Scene) (n : Node) (x : Channel) (y : Past) → IsAt z n x y → is_idle x.sender.state ≡ true → IsAlone z n x → has_held (queue_of_sender z.place.channel n.manager) n.manager ≡ false
clear_queue z n x y a idle alone =
    let p : Plain = n.manager in
    let c : List ℕ = z.place.channel in
    let q : List ℕ = queue_of_sender c p in
    let fits = fits_at x y _ a.facts.tied (idle_is x.sender.state idle) in
    let plain : y.forced ≡ false = not_forced x y a.facts.tied fits.1 in
    let none : (world_in z).holds z.sender c ≡ None = (a.joint.tied.held plain).0 ∙ fits.0 in
    let apart : (row : Row) → Mem row (stored q p).rows → row.by ≡ Some (holders.Batch c) → ⊥ = λ row h by_.
    (a.joint.inv.batch z.sender q row c (subst (λ (o : Option Plain). Mem row (rows_of q o)) (sym a.at) h) by_).1 none in
    none_held c (stored q p).rows (alone (ap is_running (idle_is x.sender.state idle))) apart

sent_self : (g : Ghost) (m : ℕ) (q c : List ℕ) (u : Luw) (ts : List Tag) (front : Bool) → (ghost_take g m q c u ts front).sent m c u ≡ ts
sent_self g m q c u ts front = (λ i. if here_self m c i && unit_self u i then ts else g.sent m c u)

sent_else : (g : Ghost) (m : ℕ) (q c : List ℕ) (u : Luw) (ts : List Tag) (front : Bool) (a : ℕ) (d : List ℕ) (v : Luw) → is_here m c a d ≡ false → (ghost_take g m q c u ts front).sent a d v ≡ g.sent a d v
sent_else g m q c u ts front a d v e = ap (λ t. if t && same_unit v u then ts else g.sent a d v) e

next_begun : (y : Past) (u : Luw) → Upto u (now y.near) → Upto u (unit_named y.near.session (y.near.begun + 1))
next_begun y u (inl e) = inl e
next_begun y u (inr e) = inr (e.0, let k = e.1 in omega arith)

next_new : (y : Past) (u : Luw) → u ≡ unit_named y.near.session (y.near.begun + 1) → Upto u (now y.near) → ⊥
next_new y u e (inl k) = let s : u.session ≡ y.near.session = ap (λ (v : Luw). v.session) e in omega arith
next_new y u e (inr k) = let l = k.1 in let s : u.n ≡ y.near.begun + 1 = ap (λ (v : Luw). v.n) e in omega arith

abbrev unit_or : Luw → Option Luw → Luw
unit_or u None = u
unit_or u (Some v) = v

-- rows are held as the next unit, which has these messages
begun_turned : (z : Scene) (n : Node) (x k : Channel) (y : Past) (u : Luw) (count : ℕ) (rs : List Plain) → IsAt z n x y → is_idle x.sender.state ≡ true → IsAlone z n x → k.receives ≡ x.receives → u ≡ unit_named y.near.session (y.near.begun + 1)
    → IsNext z.sender n.manager (apply_all (held_changes z.place.channel u (queue_of_sender z.place.channel n.manager) (idents_of (take count (free_rows (queue_of_sender z.place.channel n.manager) n.manager)))) n.manager) z.managers rs
    → Turned z (world_of z.scenario z.given rs) k (begun_unit y (letters_of (take count (free_rows (queue_of_sender z.place.channel n.manager) n.manager))))
begun_turned z n x k y u count rs a idle alone far is h =
    let p : Plain = n.manager in
    let c : List ℕ = z.place.channel in
    let q : List ℕ = queue_of_sender c p in
    let rows : List Row = take count (free_rows q p) in
    let ts : List Tag = tags_of rows in
    let fits = fits_at x y _ a.facts.tied (idle_is x.sender.state idle) in
    let plain : y.forced ≡ false = not_forced x y a.facts.tied fits.1 in
    let held = a.joint.tied.held plain in
    let none : holds_of c (Some p) ≡ None = here_holds z p None a.at (held.0 ∙ fits.0) in
    let certain : in_doubt_of (sender_data c p) ≡ None = no_doubt_held (in_doubt_of (sender_data c p)) (batch_of c p.channels.batches) none in
    let free : batch_of c p.channels.batches ≡ None = a.sends.unbatched (idle_apart x.sender.state idle) in
    let n1 = next_to z.sender p _ (apply_all (held_changes c u q (tag_idents ts)) p) z.managers rs h (ap (λ is. apply_all (held_changes c u q is) p) (sym (tags_named rows))) in
    let new : last_of z.scenario z.managers c (Some p) ≢ u = λ e. next_tied (world_in z) z.ghost z.sender z.receiver c x y a.joint.tied a.facts (ap (last_of z.scenario z.managers c) a.at ∙ e ∙ is) in
    let fresh : z.ghost.operated z.sender c u ≡ false = bool_case (z.ghost.operated z.sender c u) (λ t. z.ghost.operated z.sender c u ≡ t → t ≡ false) (λ e f. absurd (next_new y u is (a.joint.begun u f))) (λ e f. refl) refl in
    let front : Bool = not (has_held q p) in
    let inv = holding.takes z.scenario z.given z.sender p z.managers rs c u q ts front z.ghost z.book n1 free certain new fresh (chosen z p q count a.at a.joint.inv) (λ e. front_now z p q count a.at a.joint.inv e) a.joint.inv in
    let after_ : Plain = apply_all (held_changes c u q (tag_idents ts)) p in
    let hold : (d : List ℕ) → holds_of d (Some after_) ≡ (if bytes_eq d c then Some u else holds_of d (Some p)) = λ d. held_holds c d u q (tag_idents ts) p certain in
    let sure : (d : List ℕ) → doubt_of d (Some after_) ≡ doubt_of d (Some p) = λ d. refl in
    changed z p after_ rs (ghost_take z.ghost z.sender q c u ts front) x k y (begun_unit y (letters_of rows)) a.joint n1
    (record {
      near = record { given = refl; receivers = λ d. refl };
      holds = λ d e. hold d ∙ ap (λ t. if t then Some u else holds_of d (Some p)) e;
      doubts = λ d e. sure d;
    }) inv (record {
      far = far;
      held = λ f. (hold c ∙ ap (λ t. if t then Some u else holds_of c (Some p)) (name_self c) ∙ ap (λ v. Some v) is, ap (λ o. is_some o) certain);
      idle = λ f. absurd (true_false (sym f ∙ plain));
      forced = λ v f. absurd (true_false (sym f ∙ plain));
      content = λ v e.
          let same : unit_named y.near.session (y.near.begun + 1) ≡ v = ap (unit_or v) e in
          subst (λ (o : Luw). map letter_tag (given y.content (unit_named y.near.session (y.near.begun + 1)) (letters_of rows) o) ≡ (ghost_take z.ghost z.sender q c u ts front).sent z.sender c o) same
          (ap (map letter_tag) (given_self y.content (unit_named y.near.session (y.near.begun + 1)) (letters_of rows)) ∙ letters_tags rows
          ∙ sym (sent_self z.ghost z.sender q c u ts front) ∙ ap ((ghost_take z.ghost z.sender q c u ts front).sent z.sender c) is);
      begun = λ v e. next_begun y v (a.joint.begun v e);
      sent = λ o d v e. sent_else z.ghost z.sender q c u ts front o d v e;
      operated = λ o d v e. refl;
      own = λ v e. inl e;
      kept = λ v e. bool_case (unit_at z.sender c u z.sender c v) (λ t. unit_at z.sender c u z.sender c v ≡ t → (if t then ts else z.ghost.sent z.sender c v) ≡ z.ghost.sent z.sender c v)
          (λ t f. absurd (true_false (sym e ∙ ap (z.ghost.operated z.sender c) (unit_yes v u (sym (ap (λ b. b && same_unit v u) (here_self z.sender c)) ∙ f)) ∙ fresh))) (λ t f. refl) refl;
      loose = λ o d v e. bool_case (unit_at z.sender c u o d v) (λ t. (if t then not front else z.ghost.loose o d v) ≡ true → z.ghost.loose o d v ≡ true)
          (λ t f. absurd (true_false (sym (twice (has_held q p) f) ∙ clear_queue z n x y a idle alone))) (λ t f. f) e;
    })

begins : (z : Scene) (n : Node) (x : Channel) (y : Past) (stamp : ℕ) (seen : Seen) (k count : ℕ) → IsAt z n x y → IsAlone z n x → Guard x.sender (stock z.place.channel n.manager) (does.Begin k count)
    → EachTurned z n.manager (sender_deed_by stamp (sender_of z.place x.sender) (does.Begin k count) n) (sender_done (does.Begin k count) (turn_of z.place stamp seen x.sender n.manager) x)
    (begun_unit y (batch_letters z.place x.sender n.manager))
begins z n x y stamp seen k count a alone g rs h =
    let c : List ℕ = z.place.channel in
    let q : List ℕ = queue_of_sender c n.manager in
    let fits = fits_at x y _ a.facts.tied (idle_is x.sender.state g.0) in
    let session : x.sender.kept.session ≡ y.near.session = sym (kept_session x y a.facts.tied (ap is_running (idle_is x.sender.state g.0))) in
    let u : unit_named x.sender.kept.session k ≡ unit_named y.near.session (y.near.begun + 1) = (λ i. unit_named (session i) ((g.1 ∙ ap (λ j. j + 1) fits.2) i)) in
    let t = begun_turned z n x (sender_done (does.Begin k count) (turn_of z.place stamp seen x.sender n.manager) x) y (unit_named x.sender.kept.session k) count rs a g.0 alone refl u h in
    subst (λ (j : ℕ). Turned z (world_of z.scenario z.given rs) (sender_done (does.Begin k count) (turn_of z.place stamp seen x.sender n.manager) x) (begun_unit y (letters_of (take j (free_rows q n.manager))))) g.2 t

pub here_of : {z : Scene} {n : Node} {x : Channel} {y : Past} → IsAt z n x y → IsHere z n x y
here_of a = record { at = a.at; facts = a.facts; joint = a.joint }

-- PREPARE
-- what holds while a unit is sent
pub record IsSending (z : Scene) (n : Node) (x : Channel) (y : Past) (b : Batch) : Type 0 where
  pub plain : y.forced ≡ false
  pub doubt : y.near.doubt ≡ false
  pub certain : in_doubt_of (sender_data z.place.channel n.manager) ≡ None
  pub held : y.near.holds ≡ Some b.unit
  pub apart : last_of z.scenario z.managers z.place.channel (Some n.manager) ≢ b.unit

pub is_in_sending : (z : Scene) (n : Node) (x : Channel) (y : Past) (b : Batch) → IsHere z n x y → is_sending x.sender.state ≡ true → batch_of z.place.channel n.manager.channels.batches ≡ Some b → IsSending z n x y b
is_in_sending z n x y b a e is =
    let c : List ℕ = z.place.channel in
    let fits = fits_sending x.sender.state x.sender y.near y.content x.batch e (fits_at x y x.sender.state a.facts.tied refl) in
    let plain : y.forced ≡ false = not_forced x y a.facts.tied fits.1 in
    let tied = a.joint.tied.held plain in
    let certain : in_doubt_of (sender_data c n.manager) ≡ None = not_doubted (in_doubt_of (sender_data c n.manager)) (sym (ap (doubt_of c) a.at) ∙ tied.1 ∙ fits.1) in
    let holds : (world_in z).holds z.sender c ≡ Some b.unit = ap (holds_of c) a.at ∙ (λ i. held_unit (certain i) (is i)) in
    record {
      plain = plain;
      doubt = fits.1;
      certain = certain;
      held = sym tied.0 ∙ holds;
      apart = λ f. unprepared_tied (world_in z) z.ghost z.sender z.receiver c x y a.joint.tied a.facts plain fits.1 b.unit holds (ap (last_of z.scenario z.managers c) a.at ∙ f);
    }

pub prepared_turned : (z : Scene) (n : Node) (x k : Channel) (y : Past) (b : Batch) (last : ℕ) (rs : List Plain) → IsHere z n x y → IsSending z n x y b → batch_of z.place.channel n.manager.channels.batches ≡ Some b → k.receives ≡ x.receives
    → IsNext z.sender n.manager (apply_all (prepared_changes z.place.channel last b (sender_or (sender_data z.place.channel n.manager))) n.manager) z.managers rs
    → Turned z (world_of z.scenario z.given rs) k (record y { near = record y.near { doubt = true } })
prepared_turned z n x k y b last rs a s is far h =
    let p : Plain = n.manager in
    let c : List ℕ = z.place.channel in
    let d = sender_or (sender_data c p) in
    let q : Plain = apply_all (prepared_changes c last b d) p in
    let inv = settling.prepares z.scenario z.given z.sender p z.managers rs c last b d z.ghost z.book h is s.certain s.apart a.joint.inv in
    let hold : (e : List ℕ) → holds_of e (Some q) ≡ holds_of e (Some p) = λ e. prepared_holds c e last b d p is s.certain in
    let sure : (e : List ℕ) → doubt_of e (Some q) ≡ (if bytes_eq e c then true else doubt_of e (Some p)) = λ e. prepared_doubts c e last b d p in
    changed z p q rs z.ghost x k y (record y { near = record y.near { doubt = true } }) a.joint h
    (record { near = record { given = refl; receivers = λ e. refl }; holds = λ e f. hold e; doubts = λ e f. sure e ∙ ap (λ t. if t then true else doubt_of e (Some p)) f }) inv (record {
      far = far;
      held = λ f. (hold c ∙ here_holds z p y.near.holds a.at (a.joint.tied.held s.plain).0, sure c ∙ ap (λ t. if t then true else doubt_of c (Some p)) (name_self c));
      idle = λ f. absurd (true_false (sym f ∙ s.plain));
      forced = λ v f. absurd (true_false (sym f ∙ s.plain));
      content = a.joint.tied.content;
      begun = a.joint.begun;
      sent = λ o e v f. refl;
      operated = λ o e v f. refl;
      own = λ v e. inl e;
      kept = λ v e. refl;
      loose = λ o e v f. f;
    })

pub released_turned : (z : Scene) (n : Node) (x k : Channel) (y : Past) (b : Batch) (rs : List Plain) → IsHere z n x y → IsSending z n x y b → batch_of z.place.channel n.manager.channels.batches ≡ Some b → k.receives ≡ x.receives
    → IsNext z.sender n.manager (apply_all (release_changes z.place.channel) n.manager) z.managers rs → Turned z (world_of z.scenario z.given rs) k (emptied y)
released_turned z n x k y b rs a s is far h =
    let p : Plain = n.manager in
    let c : List ℕ = z.place.channel in
    let q : Plain = apply_all (release_changes c) p in
    let inv = releases z.scenario z.given z.sender p z.managers rs c z.ghost z.book h s.certain (λ o e. subst (λ (v : Batch). last_of z.scenario z.managers c (Some p) ≢ v.unit) (ap (batch_or o) (sym is ∙ e)) s.apart) a.joint.inv in
    let hold : (e : List ℕ) → holds_of e (Some q) ≡ held_unit (in_doubt_of (sender_data e p)) (if bytes_eq e c then None else batch_of e p.channels.batches) = λ e. ap (held_unit (in_doubt_of (sender_data e p))) (batch_dropped e c p.channels.batches) in
    changed z p q rs (after z.ghost (freed z.ghost z.sender c)) x k y (emptied y) a.joint h
    (record {
      near = record { given = refl; receivers = λ e. refl };
      holds = λ e f. hold e ∙ ap (λ t. held_unit (in_doubt_of (sender_data e p)) (if t then None else batch_of e p.channels.batches)) f;
      doubts = λ e f. refl;
    }) inv (record {
      far = far;
      held = λ f. (hold c ∙ (λ i. held_unit (s.certain i) (if name_self c i then None else batch_of c p.channels.batches)), ap (λ o. is_some o) s.certain);
      idle = λ f. absurd (true_false (sym f));
      forced = λ v f. absurd (true_false (sym f));
      content = λ v f. absurd cc;
      begun = a.joint.begun;
      sent = λ o e v f. refl;
      operated = λ o e v f. refl;
      own = λ v e. inl e;
      kept = λ v e. refl;
      loose = λ o e v f. f;
    })
  where
    batch_or : Batch → Option Batch → Batch
    batch_or o None = o
    batch_or o (Some v) = v

prepares : (z : Scene) (n : Node) (x : Channel) (y : Past) (stamp : ℕ) (seen : Seen) → IsAt z n x y → is_sending x.sender.state ≡ true
    → EachTurned z n.manager (sender_deed_by stamp (sender_of z.place x.sender) does.Prepare n) (sender_turned (out_of does.Prepare z.place x.sender n.manager) does.Prepare (turn_of z.place stamp seen x.sender n.manager) x)
    (past_turned (out_of does.Prepare z.place x.sender n.manager) does.Prepare (turn_of z.place stamp seen x.sender n.manager) y)
prepares z n x y stamp seen a e =
    let c : List ℕ = z.place.channel in
    let p : Plain = n.manager in
    let b = a.sends.batched e in
    let last : ℕ = number_sent x.sender.state x.sender.kept.last in
    let t : SenderTurn = turn_of z.place stamp seen x.sender p in
    let s : IsSending z n x y b.batch = is_in_sending z n x y b.batch (here_of a) e b.is in
    subst (λ (o : Option Batch). EachTurned z p (Some (prepare_deed (sender_of z.place x.sender) (prepare_of c last o p) n)) (sender_turned (prepare_out (prepare_of c last o p)) does.Prepare t x) (past_turned (prepare_out (prepare_of c last o p)) does.Prepare t y)) (sym b.is)
    (bool_case (is_full (need (prepared_record c last b.batch)) p)
    (λ f. EachTurned z p (Some (prepare_deed (sender_of z.place x.sender) (prepared_by z.place last b.batch p f) n)) (sender_turned (prepare_out (prepared_by z.place last b.batch p f)) does.Prepare t x) (past_turned (prepare_out (prepared_by z.place last b.batch p f)) does.Prepare t y))
    (λ f rs h.
    let q : Plain = apply_all (release_changes c) p in
    let h1 = next_to z.sender p _ _ z.managers rs h (ap (λ o. do_all (parts_of (release_of c o) ++ parts_of (leave c p)) p) b.is) in
    let k = world_behind z.scenario z.given z.sender p q _ z.managers rs h1 (record { queues = refl; connections = refl; batches = refl; doubts = λ d. refl; near = record { given = refl; receivers = λ d. refl } }) in
    turned_on z _ (world_of z.scenario z.given rs) _ _ (sym k) (released_turned z n x _ y b.batch (change_at z.sender (λ (o : Plain). q) z.managers) (here_of a) s b.is refl (next_mid z.sender p q _ z.managers rs h1)))
    (λ f rs h.
    let d = sender_or (sender_data c p) in
    let q : Plain = apply_all (prepared_changes c last b.batch d) p in
    let k = world_behind z.scenario z.given z.sender p q _ z.managers rs h (part_stays (record { forced = Some (prepared_record c last b.batch); changes = prepared_changes c last b.batch d; delta = [] }) p) in
    turned_on z _ (world_of z.scenario z.given rs) _ _ (sym k) (prepared_turned z n x _ y b.batch last (change_at z.sender (λ (o : Plain). q) z.managers) (here_of a) s b.is refl (next_mid z.sender p q _ z.managers rs h))))

-- SETTLED
-- the unit that the machine knows to be in doubt is so at the manager
pub record IsDoubted (z : Scene) (n : Node) (y : Past) : Type 0 where
  pub doubt : InDoubt
  pub is : in_doubt_of (sender_data z.place.channel n.manager) ≡ Some doubt
  pub held : y.near.holds ≡ Some doubt.unit
  pub sure : y.near.doubt ≡ true
  pub plain : y.forced ≡ false

pub is_doubted : (z : Scene) (n : Node) (x : Channel) (y : Past) (o : Doubt) → IsHere z n x y → is_running x.sender.state ≡ true → x.sender.kept.doubt ≡ Some o → IsDoubted z n y
is_doubted z n x y o a runs e =
    let c : List ℕ = z.place.channel in
    let k = doubt_is x.sends.in_doubt o (sym (ap (λ (q : Kept). q.doubt) (a.facts.tied.running runs)) ∙ e) in
    let t = a.facts.tied.in_doubt k.data_ k.is in
    let w = a.joint.tied.held t.2 in
    let d = doubt_held (in_doubt_of (sender_data c n.manager)) (batch_of c n.manager.channels.batches) k.data_.unit (sym (ap (doubt_of c) a.at) ∙ w.1 ∙ t.1) (sym (ap (holds_of c) a.at) ∙ w.0 ∙ t.0) in
    record { doubt = d.0; is = d.1; held = t.0 ∙ ap (λ v. Some v) (sym d.2); sure = t.1; plain = t.2 }

pub settled_left : (z : Scene) (n : Node) (commit : Bool) (x k : Channel) (y : Past) (g : Ghost) → IsHere z n x y → batch_of z.place.channel n.manager.channels.batches ≡ None → k.receives ≡ x.receives → g.operated ≡ z.ghost.operated → g.loose ≡ z.ghost.loose → g.sent ≡ z.ghost.sent
    → IsLeft None z (apply_all (settled_changes commit z.place.channel (sender_or (sender_data z.place.channel n.manager))) n.manager) g x k (emptied y)
settled_left z n commit x k y g a free far ops loose sent =
    let c : List ℕ = z.place.channel in
    let p : Plain = n.manager in
    let d = sender_or (sender_data c p) in
    record {
      far = far;
      held = λ f. (settled_holds commit c c d p free ∙ ap (λ t. if t then None else holds_of c (Some p)) (name_self c), settled_doubts commit c c d p ∙ ap (λ t. if t then false else doubt_of c (Some p)) (name_self c));
      idle = λ f. absurd (true_false (sym f));
      forced = λ v f. absurd (true_false (sym f));
      content = λ v f. absurd cc;
      begun = λ v e. a.joint.begun v (sym (λ i. ops i z.sender c v) ∙ e);
      sent = λ o e v f i. sent i o e v;
      operated = λ o e v f i. ops i o e v;
      own = λ v e. inl (sym (λ i. ops i z.sender c v) ∙ e);
      kept = λ v e i. sent i z.sender c v;
      loose = λ o e v f. sym (λ i. loose i o e v) ∙ f;
    }

pub settled_only : (commit : Bool) (c : List ℕ) (p : Plain) → batch_of c p.channels.batches ≡ None → IsOnly c p (apply_all (settled_changes commit c (sender_or (sender_data c p))) p)
settled_only commit c p free =
    let d = sender_or (sender_data c p) in
    record {
      near = settled_near commit c p;
      holds = λ e f. settled_holds commit c e d p free ∙ ap (λ t. if t then None else holds_of e (Some p)) f;
      doubts = λ e f. settled_doubts commit c e d p ∙ ap (λ t. if t then false else doubt_of e (Some p)) f;
    }
  where
    settled_near : (commit : Bool) (c : List ℕ) (p : Plain) → IsNear p (apply_all (settled_changes commit c (sender_or (sender_data c p))) p)
    settled_near true c p = record { given = refl; receivers = λ e. refl }
    settled_near false c p = record { given = refl; receivers = λ e. refl }

pub committed_turned : (z : Scene) (n : Node) (x k : Channel) (y : Past) (rs : List Plain) → IsHere z n x y → IsDoubted z n y → batch_of z.place.channel n.manager.channels.batches ≡ None → WasCommitted x y → k.receives ≡ x.receives
    → IsNext z.sender n.manager (apply_all (settled_changes true z.place.channel (sender_or (sender_data z.place.channel n.manager))) n.manager) z.managers rs → Turned z (world_of z.scenario z.given rs) k (emptied y)
committed_turned z n x k y rs a o free was far h =
    let c : List ℕ = z.place.channel in
    let p : Plain = n.manager in
    let d = sender_or (sender_data c p) in
    let last : last_of z.scenario z.managers c (Some p) ≡ o.doubt.unit = sym (ap (last_of z.scenario z.managers c) a.at) ∙ a.joint.tied.last ∙ sym (was o.doubt.unit o.held) in
    let inv = drops z.scenario z.given z.sender p z.managers rs c d o.doubt z.ghost z.book h free o.is last a.joint.inv in
    changed z p _ rs z.ghost x k y (emptied y) a.joint h (settled_only true c p free) inv (settled_left z n true x k y z.ghost a free far refl refl refl)

pub backed_turned : (z : Scene) (n : Node) (x k : Channel) (y : Past) (rs : List Plain) → IsHere z n x y → IsDoubted z n y → batch_of z.place.channel n.manager.channels.batches ≡ None → WasNot x y → k.receives ≡ x.receives
    → IsNext z.sender n.manager (apply_all (settled_changes false z.place.channel (sender_or (sender_data z.place.channel n.manager))) n.manager) z.managers rs → Turned z (world_of z.scenario z.given rs) k (emptied y)
backed_turned z n x k y rs a o free was far h =
    let c : List ℕ = z.place.channel in
    let p : Plain = n.manager in
    let d = sender_or (sender_data c p) in
    let last : last_of z.scenario z.managers c (Some p) ≢ o.doubt.unit = λ e. (was o.doubt.unit o.held).0 (sym e ∙ sym (ap (last_of z.scenario z.managers c) a.at) ∙ a.joint.tied.last) in
    let inv = backs_out z.scenario z.given z.sender p z.managers rs c d o.doubt z.ghost z.book h free o.is last a.joint.inv in
    changed z p _ rs (after z.ghost (freed z.ghost z.sender c)) x k y (emptied y) a.joint h (settled_only false c p free) inv (settled_left z n false x k y (after z.ghost (freed z.ghost z.sender c)) a free far refl refl refl)

-- the part that settles, and then the end may leave its queue
commits : (z : Scene) (n : Node) (x k : Channel) (y : Past) (u : Luw) (st : SenderState) (rs : List Plain) → IsHere z n x y → IsDoubted z n y → batch_of z.place.channel n.manager.channels.batches ≡ None → WasCommitted x y → k.receives ≡ x.receives
    → IsNext z.sender n.manager (do_all (harden_part z.place.channel (notes.Resolved u true false) n.manager ∷ leave_if_stopped z.place.channel st n.manager) n.manager) z.managers rs → Turned z (world_of z.scenario z.given rs) k (emptied y)
commits z n x k y u st rs a o free was far h =
    let c : List ℕ = z.place.channel in
    let p : Plain = n.manager in
    let part = harden_part c (notes.Resolved u true false) p in
    let q : Plain = apply_all (settled_changes true c (sender_or (sender_data c p))) p in
    let e = world_behind z.scenario z.given z.sender p q _ z.managers rs h (stays_then q (do_part part p) _ (part_stays part p) (leaving_stays c st p (do_part part p))) in
    turned_on z _ (world_of z.scenario z.given rs) k (emptied y) (sym e) (committed_turned z n x k y (change_at z.sender (λ (v : Plain). q) z.managers) a o free was far (next_mid z.sender p q _ z.managers rs h))

backs : (z : Scene) (n : Node) (x k : Channel) (y : Past) (u : Luw) (st : SenderState) (rs : List Plain) → IsHere z n x y → IsDoubted z n y → batch_of z.place.channel n.manager.channels.batches ≡ None → WasNot x y → k.receives ≡ x.receives
    → IsNext z.sender n.manager (do_all (harden_part z.place.channel (notes.Resolved u false false) n.manager ∷ leave_if_stopped z.place.channel st n.manager) n.manager) z.managers rs → Turned z (world_of z.scenario z.given rs) k (emptied y)
backs z n x k y u st rs a o free was far h =
    let c : List ℕ = z.place.channel in
    let p : Plain = n.manager in
    let part = harden_part c (notes.Resolved u false false) p in
    let q : Plain = apply_all (settled_changes false c (sender_or (sender_data c p))) p in
    let e = world_behind z.scenario z.given z.sender p q _ z.managers rs h (stays_then q (do_part part p) _ (part_stays part p) (leaving_stays c st p (do_part part p))) in
    turned_on z _ (world_of z.scenario z.given rs) k (emptied y) (sym e) (backed_turned z n x k y (change_at z.sender (λ (v : Plain). q) z.managers) a o free was far (next_mid z.sender p q _ z.managers rs h))

-- STATUS
pub settled_some : (o : Option Doubt) (v : Luw) (s : Settle) → Some s ≡ settled_by o v → (q : Doubt) × (o ≡ Some q)
settled_some None v s e = absurd cc
settled_some (Some q) v s e = (q, refl)

settled_none : (o : Option Doubt) (v : Luw) → None ≡ settled_by o v → o ≡ None
settled_none None v e = refl
settled_none (Some q) v e = absurd cc

-- nothing was in doubt: the sender's hands are empty, or an operator emptied them
held_none : (o : Option Luw) → ((u : Luw) → o ≡ Some u → ⊥) → o ≡ None
held_none None f = refl
held_none (Some u) f = absurd (f u refl)

status_none : (z : Scene) (n : Node) (x k : Channel) (y : Past) (st : SenderState) (rs : List Plain) → IsAt z n x y → is_binding x.sender.state ≡ true → x.sender.kept.doubt ≡ None → k.receives ≡ x.receives
    → IsNext z.sender n.manager (do_all (leave_if_stopped z.place.channel st n.manager) n.manager) z.managers rs → Turned z (world_of z.scenario z.given rs) k (emptied y)
status_none z n x k y st rs a binds none far h =
    let c : List ℕ = z.place.channel in
    let p : Plain = n.manager in
    let runs : is_running x.sender.state ≡ true = ap is_running (binding_is x.sender.state binds) in
    let empty : x.sends.in_doubt ≡ None = no_doubt x.sends.in_doubt (sym (ap (λ (q : Kept). q.doubt) (a.facts.tied.running runs)) ∙ none) in
    let fits = fits_at x y _ a.facts.tied (binding_is x.sender.state binds) in
    let holds : holds_of c (Some p) ≡ None = bool_case y.forced (λ t. y.forced ≡ t → holds_of c (Some p) ≡ None)
    (λ e f. here_holds z p None a.at (a.joint.tied.idle f))
    (λ e f. here_holds z p None a.at ((a.joint.tied.held f).0 ∙ held_none y.near.holds (λ u g. true_false (sym (fits.0 u g) ∙ a.facts.tied.settled empty f)))) refl in
    let sure : doubt_of c (Some p) ≡ false = ap (λ o. is_some o) (no_doubt_held (in_doubt_of (sender_data c p)) (batch_of c p.channels.batches) holds) in
    let e = world_behind z.scenario z.given z.sender p p _ z.managers rs h (leaving_stays c st p p) in
    let n1 = next_mid z.sender p p _ z.managers rs h in
    let same = stays z.scenario z.given z.sender p p z.managers (change_at z.sender (λ (v : Plain). p) z.managers) n1 (stays_none p) in
    turned_on z _ (world_of z.scenario z.given rs) k (emptied y) (sym e) (changed z p p (change_at z.sender (λ (v : Plain). p) z.managers) z.ghost x k y (emptied y) a.joint n1
    (record { near = record { given = refl; receivers = λ d. refl }; holds = λ d f. refl; doubts = λ d f. refl })
    (subst (λ (v : World). Inv v z.ghost z.book) (sym same) a.joint.inv)
    (record {
      far = far;
      held = λ f. (holds, sure);
      idle = λ f. absurd (true_false (sym f));
      forced = λ v f. absurd (true_false (sym f));
      content = λ v f. absurd cc;
      begun = a.joint.begun;
      sent = λ o d v f. refl;
      operated = λ o d v f. refl;
      own = λ v e. inl e;
      kept = λ v e. refl;
      loose = λ o e v f. f;
    }))

-- what the table says where a unit is settled
abbrev pub Settling : Sender → Seen → SenderDoes → Type 0
Settling m seen (does.Bound settle partner) = (is_binding m.state ≡ true) × (settle ≡ settled_by m.kept.doubt (status_unit seen))
Settling m seen does.Commit = (is_waiting m.state ≡ true) × (is_ack m.kept.doubt seen ≡ true)
Settling m seen (does.Backout reason) = (is_waiting m.state ≡ true) × (is_err m.kept.doubt seen ≡ true)
Settling m seen _ = Unit {0}

pub settles_so : (m : Sender) (seen : Seen) (stock_ : Stock) → Settling m seen (sender_next m seen stock_)
settles_so m seen stock_ = by_lines (Settling m seen) does.Still (sender_lines m seen stock_) (
  (λ e. ((and_both (is_binding m.state) (is_status m.kept.session seen) e).0, refl)),
  λ x1. (
    (λ e. and_both (is_waiting m.state) (is_ack m.kept.doubt seen) e),
    λ x2. (
      (λ e. and_both (is_waiting m.state) (is_err m.kept.doubt seen) e),
      λ x3. ((λ e. tt), λ x4. ((λ e. tt), λ x5. ((λ e. tt), λ x6. ((λ e. tt), λ x7. ((λ e. tt), λ x8. ((λ e. tt), λ x9. ((λ e. tt), λ x10. ((λ e. tt), λ x11. tt)))))))),
    ),
  ),
)

binds : (z : Scene) (n : Node) (x : Channel) (y : Past) (stamp : ℕ) (seen : Seen) (o : Option Settle) (partner : ℕ) → IsAt z n x y → Settling x.sender seen (does.Bound o partner) → Said (does.Bound o partner) (turn_of z.place stamp seen x.sender n.manager) x y
    → EachTurned z n.manager (sender_deed_by stamp (sender_of z.place x.sender) (does.Bound o partner) n) (sender_done (does.Bound o partner) (turn_of z.place stamp seen x.sender n.manager) x) (emptied y)
binds z n x y stamp seen None partner a g s rs h = status_none z n x _ y _ rs a g.0 (settled_none x.sender.kept.doubt (status_unit seen) g.1) refl h
binds z n x y stamp seen (Some settles.Commit) partner a g s rs h =
    let q = settled_some x.sender.kept.doubt (status_unit seen) settles.Commit g.1 in
    commits z n x _ y (doubted x.sender.kept.doubt) _ rs (here_of a) (is_doubted z n x y q.0 (here_of a) (ap is_running (binding_is x.sender.state g.0)) q.1) (a.sends.unbatched (binding_apart x.sender.state g.0)) s.2 refl h
binds z n x y stamp seen (Some settles.Backout) partner a g s rs h =
    let q = settled_some x.sender.kept.doubt (status_unit seen) settles.Backout g.1 in
    backs z n x _ y (doubted x.sender.kept.doubt) _ rs (here_of a) (is_doubted z n x y q.0 (here_of a) (ap is_running (binding_is x.sender.state g.0)) q.1) (a.sends.unbatched (binding_apart x.sender.state g.0)) s.2 refl h

-- THE TABLE
turned_by : (z : Scene) (n : Node) (x : Channel) (y : Past) (stamp : ℕ) (seen : Seen) (d : SenderDoes) → IsAt z n x y → IsAlone z n x → SeenIn seen x.back → Guard x.sender (stock z.place.channel n.manager) d → Settling x.sender seen d → Said d (turn_of z.place stamp seen x.sender n.manager) x y
    → is_expiry d ≡ false → EachTurned z n.manager (sender_deed_by stamp (sender_of z.place x.sender) d n) (sender_turned (out_of d z.place x.sender n.manager) d (turn_of z.place stamp seen x.sender n.manager) x)
    (past_turned (out_of d z.place x.sender n.manager) d (turn_of z.place stamp seen x.sender n.manager) y)
turned_by z n x y stamp seen does.Still a alone o g k s e = tt
turned_by z n x y stamp seen does.Ignore a alone o g k s e = λ rs h. quiet z n x _ y rs a refl h
turned_by z n x y stamp seen (does.HardenSession session) a alone o g k s e = hardens z n x y stamp seen session a
turned_by z n x y stamp seen does.PushBind a alone o g k s e = λ rs h. quiet z n x _ y rs a refl h
turned_by z n x y stamp seen does.Expire a alone o g k s e = absurd (true_false e)
turned_by z n x y stamp seen (does.Begin i count) a alone o g k s e = begins z n x y stamp seen i count a alone g
turned_by z n x y stamp seen (does.PushMsg index) a alone o g k s e = λ rs h. quiet z n x _ y rs a refl h
turned_by z n x y stamp seen does.Prepare a alone o g k s e = prepares z n x y stamp seen a g
turned_by z n x y stamp seen does.PushEnd a alone o g k s e = λ rs h. quiet z n x _ y rs a refl h
turned_by z n x y stamp seen (does.Bound settle partner) a alone o g k s e = binds z n x y stamp seen settle partner a k s
turned_by z n x y stamp seen does.Commit a alone o g k s e = λ rs h.
    let q = ack_told x.sender.kept.doubt seen x.back k.1 o in
    commits z n x _ y (doubted x.sender.kept.doubt) (sender_after x.sender does.Commit outs.Done).state rs (here_of a) (is_doubted z n x y q.doubt (here_of a) (ap is_running (waiting_is x.sender.state k.0)) q.is) (a.sends.unbatched (waiting_apart x.sender.state k.0)) s refl h
turned_by z n x y stamp seen (does.Backout reason) a alone o g k s e = λ rs h.
    let q = err_told x.sender.kept.doubt seen x.back k.1 o in
    backs z n x _ y (doubted x.sender.kept.doubt) (sender_after x.sender (does.Backout reason) outs.Done).state rs (here_of a) (is_doubted z n x y q.doubt (here_of a) (ap is_running (waiting_is x.sender.state k.0)) q.is) (a.sends.unbatched (waiting_apart x.sender.state k.0)) s refl h

pub turns : (z : Scene) (n : Node) (x : Channel) (y : Past) (stamp : ℕ) (seen : Seen) → slice_get z.managers z.sender ≡ Some n.manager → SendsAs z.place n x → Facts x y → IsJoint (world_in z) z.ghost z.book z.sender z.receiver z.place.channel x y → IsAlone z n x → SeenIn seen x.back
    → is_expiry (sender_next x.sender seen (stock z.place.channel n.manager)) ≡ false
    → EachTurned z n.manager (sender_deed stamp (sender_of z.place x.sender) seen n) (sender_turn (turn_of z.place stamp seen x.sender n.manager) x) (sender_past (turn_of z.place stamp seen x.sender n.manager) x y)
turns z n x y stamp seen at sends facts joint alone offered e =
    let t : SenderTurn = turn_of z.place stamp seen x.sender n.manager in
    turned_by z n x y stamp seen (sender_next x.sender seen (stock z.place.channel n.manager)) (record { at = at; sends = sends; facts = facts; joint = joint }) alone offered (guarded x.sender seen (stock z.place.channel n.manager))
    (settles_so x.sender seen (stock z.place.channel n.manager)) (said t x y facts (may_turn z.place stamp seen n.manager x offered)) e
