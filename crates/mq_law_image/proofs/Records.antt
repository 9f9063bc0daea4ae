-- Each record of the log that applies keeps what holds of an image.
use Rattle.std.proofs.Common.{ℕ, ◌≡◌, ◌≤◌, Bool, true, false, List, [], ◌∷◌, refl, ap, sym, subst, ◌∙◌, arith, inl, inr}
use Rattle.std.specs.Prelude.{Option, Some, None, is_some, ◌&&◌, ◌||◌, ◌==◌, nat_lt, nat_le, max, not, All}
use Rattle.std.specs.Str.{bytes_eq}
use Rattle.std.specs.List.{list_any, list_all}
use Rattle.std.proofs.lemmas.Bool.Decides.{nat_tests}
use Rattle.mq_message.specs.declared.message.Ident.{Ident}
use Rattle.mq_message.specs.declared.place.Holder.TheVariants as holders
use Rattle.mq_queue.specs.declared.row.Row.{Row}
use Rattle.mq_queue.specs.Rows.{same_ident}
use Rattle.mq_sync.specs.declared.unit.Unit.{Unit as Luw}
use Rattle.mq_sync.specs.declared.data.End.TheVariants as ends
use Rattle.mq_sync.specs.declared.data.InDoubt.{InDoubt}
use Rattle.mq_sync.specs.declared.data.SenderData.{SenderData}
use Rattle.mq_sync.specs.declared.data.ReceiverData.{ReceiverData}
use Rattle.mq_sync.specs.Settlement.{receiver_or, data_prepared, data_settled, settle_by}
use Rattle.mq_calls.specs.declared.records.Add.{Add}
use Rattle.mq_calls.specs.declared.records.LogRecord.{LogRecord}
use Rattle.mq_calls.specs.declared.records.LogRecord.TheVariants as records
use Rattle.mq_calls.specs.State.{Given}
use Rattle.mq_calls.specs.declared.state.SenderSide.{SenderSide}
use Rattle.mq_calls.specs.declared.state.ReceiverSide.{ReceiverSide}
use Rattle.mq_calls.specs.State.Which.{HeldBy}
use Rattle.mq_calls.specs.Reads.{sender_in, receiver_in, in_doubt_of}
use Rattle.mq_calls.specs.Changes.{selects, set_sender}
use Rattle.mq_calls.specs.declared.image.Image.{Image}
use Rattle.mq_calls.specs.declared.image.Shelf.{Shelf}
use Rattle.mq_calls.specs.Recovery.{IsReceiverSide, IsKnown, IsDoubtKnown}
use Rattle.mq_law_log.specs.from_spec_log.Applies.{Start, applies, suits, was_given, idents_in, is_in_bounds, can_add, can_add_all, can_remove, can_remove_all, can_prepare, can_receive, is_unit, are_distinct, is_held_among, is_elsewhere, is_above, fits, stands_on}
use Rattle.mq_law_log.specs.from_spec_log.Records.{doing, settled_rows}
use Rattle.mq_law_log.specs.from_spec_log.Shelves.{sender_at, receiver_at, with_sender, with_receiver, added, added_all, removed, removed_all, freed_row}
use Rattle.mq_law_log.specs.from_law_manager.Facts.{Mem}
use Rattle.mq_law_log.proofs.from_law_manager.Beginning.{all_mem}
use Rattle.mq_law_image.specs.SoFar.{Sight, sight, IsRowOf, IsSideOf, IsSoFar, IsKept}
use Rattle.mq_law_image.proofs.Members.{both, none_any, all_all, on_all_names, sender_side, receiver_side, every}
use Rattle.mq_law_image.proofs.Rowing.{seen_shelved, kept_on, kept_shelved, tagged_on, tagged_shelved}
use Rattle.mq_law_image.proofs.Siding.{sides_set, receivers_set, sorted_set, doubt_set, doubt_or, doubt_stays, doubt_rises, distinct_pairs, numbered, row_doubts}
use Rattle.mq_law_image.proofs.Doubting.{settling, held_tag, tag_same, row_held, row_left, freed_same, row_freed}
use Rattle.mq_law_image.proofs.Placing.{AreGiven, added_so_far, added_all_so_far, removed_so_far, removed_all_so_far, removed_all_same, given_known, given_adds}
use Rattle.mq_law_image.proofs.Defining.{changed_so_far}

not_true : (b : Bool) → not b ≡ true → b ≡ false
not_true true e = absurd cc
not_true false e = refl

not_some : {A : Type 0} (o : Option A) → not (is_some o) ≡ true → o ≡ None
not_some None e = refl
not_some (Some x) e = absurd cc

lt_le : (a b : ℕ) → nat_lt a b ≡ true → a ≤ b
lt_le a b e = grind (arith, nat_tests)

le_le : (a b : ℕ) → nat_le a b ≡ true → a ≤ b
le_le a b e = grind (arith, nat_tests)

eq_le : (a b : ℕ) → (a == b) ≡ true → a ≤ b
eq_le a b e = grind (arith, nat_tests)

on_le : (a b c : ℕ) → a ≤ b → b ≤ c → a ≤ c
on_le a b c x y = omega (arith, x, y)

-- ---- data of senders and receivers

-- what is hardened of a sender, there or not
sender_of : (number : ℕ) (channel : List ℕ) (i : Image) → IsSoFar number i → IsSideOf number i.incarnation (record { channel = channel; hardened = sender_at channel i })
sender_of number channel i h = sender_side (IsSideOf number i.incarnation) channel i.senders (record { side = tt; known = tt }) h.senders

receiver_of : (number : ℕ) (channel : List ℕ) (i : Image) → IsSoFar number i → IsReceiverSide (record { channel = channel; hardened = receiver_at channel i })
receiver_of number channel i h = receiver_side IsReceiverSide channel i.receivers (omega arith, inl refl) h.receivers

-- a sender's data are set, but for its unit in doubt
sender_so_far : (number : ℕ) (channel : List ℕ) (d : SenderData) (i : Image) → d.in_doubt ≡ (sender_at channel i).in_doubt → IsSideOf number i.incarnation (record { channel = channel; hardened = d }) → IsSoFar number i → IsSoFar number (with_sender channel d i)
sender_so_far number channel d i same side h = record {
  once = h.once;
  shelves = h.shelves;
  rows = seen_shelved (sight number i) (sight number (with_sender channel d i)) i.shelves
      (λ s row m n r. row_doubts (sight number i) (λ c. in_doubt_of (sender_in c (set_sender (record { channel = channel; hardened = d }) i.senders))) s.name row (doubt_stays channel d i.senders same) r) h.rows;
  senders = sides_set number i.incarnation channel d i.senders side h.senders;
  receivers = h.receivers;
  senders_sorted = sorted_set (λ (s : SenderSide). s.channel) (record { channel = channel; hardened = d }) i.senders h.senders_sorted;
  receivers_sorted = h.receivers_sorted;
}

receiver_so_far : (number : ℕ) (channel : List ℕ) (d : ReceiverData) (i : Image) → IsReceiverSide (record { channel = channel; hardened = d }) → IsSoFar number i → IsSoFar number (with_receiver channel d i)
receiver_so_far number channel d i side h = record {
  once = h.once;
  shelves = h.shelves;
  rows = h.rows;
  senders = h.senders;
  receivers = receivers_set channel d i.receivers side h.receivers;
  senders_sorted = h.senders_sorted;
  receivers_sorted = sorted_set (λ (r : ReceiverSide). r.channel) (record { channel = channel; hardened = d }) i.receivers h.receivers_sorted;
}

-- ---- a start

known_more : (number a b : ℕ) (ident : Ident) → a ≤ b → IsKnown number a ident → IsKnown number b ident
known_more number a b ident le k e = on_le ident.incarnation a b (k e) le

doubt_more : (number a b : ℕ) (o : Option InDoubt) → a ≤ b → IsDoubtKnown number a o → IsDoubtKnown number b o
doubt_more number a b None le k = tt
doubt_more number a b (Some d) le k = every (IsKnown number b) d.idents (λ x m. known_more number a b x le (all_mem (IsKnown number a) d.idents x k m))

row_more : (v : Sight) (b : ℕ) (queue : List ℕ) (h : Row) → v.incarnation ≤ b → IsRowOf v queue h → IsRowOf (record v { incarnation = b }) queue h
row_more v b queue h le r = record {
  persistent = r.persistent;
  lane = r.lane;
  uncounted = r.uncounted;
  unbacked = r.unbacked;
  routed = r.routed;
  held = r.held;
  doubted = r.doubted;
  known = known_more v.number v.incarnation b h.message.ident le r.known;
}

started_so_far : (number incarnation : ℕ) (i : Image) → IsSoFar number i → IsSoFar number (record i { incarnation = max i.incarnation incarnation })
started_so_far number incarnation i h = record {
  once = h.once;
  shelves = h.shelves;
  rows = seen_shelved (sight number i) (record (sight number i) { incarnation = max i.incarnation incarnation }) i.shelves (λ s row m n r. row_more (sight number i) (max i.incarnation incarnation) s.name row (more i.incarnation incarnation) r) h.rows;
  senders = λ s m. let k = h.senders s m in record { side = k.side; known = doubt_more number i.incarnation (max i.incarnation incarnation) s.hardened.in_doubt (more i.incarnation incarnation) k.known };
  receivers = h.receivers;
  senders_sorted = h.senders_sorted;
  receivers_sorted = h.receivers_sorted;
}
  where
    more : (a b : ℕ) → a ≤ max a b
    more a b = omega arith

-- ---- units in doubt

prepared_so_far : (number : ℕ) (channel : List ℕ) (unit : Luw) (last : ℕ) (queue : List ℕ) (idents : List Ident) (i : Image) → can_prepare unit queue idents (sender_at channel i) i.shelves ≡ true → All (IsKnown number i.incarnation) idents
    → IsSoFar number i → IsSoFar number (doing (records.Prepared channel unit last queue idents) i)
prepared_so_far number channel unit last queue idents i can known h = record {
  once = h.once;
  shelves = on_all_names (tagged_on (held_tag queue idents channel)) (λ s. refl) i.shelves ∙ h.shelves;
  rows = tagged_shelved (sight number i) w (held_tag queue idents channel) i.shelves (λ name row. tag_same queue idents channel name row) rows h.rows;
  senders = sides_set number i.incarnation channel d i.senders (record { side = (numbered unit unit_is, le_le unit.session (sender_at channel i).session below, distinct_pairs idents distinct); known = known }) h.senders;
  receivers = h.receivers;
  senders_sorted = sorted_set (λ (s : SenderSide). s.channel) (record { channel = channel; hardened = d }) i.senders h.senders_sorted;
  receivers_sorted = h.receivers_sorted;
}
  where
    doubt : InDoubt
    doubt = record { unit = unit; queue = queue; idents = idents; last = last }

    d : SenderData
    d = data_prepared doubt (sender_at channel i)

    w : Sight
    w = record (sight number i) { doubt = λ c. in_doubt_of (sender_in c (set_sender (record { channel = channel; hardened = d }) i.senders)) }

    held : Bool
    held = list_any (λ (s : Shelf). list_any (is_held_among idents) s.rows) i.shelves

    clear : Bool
    clear = (((is_unit unit && not (is_some (sender_at channel i).in_doubt)) && nat_le unit.session (sender_at channel i).session) && are_distinct idents) && not held

    a0 : (clear ≡ true) × (not (list_any (is_elsewhere queue idents) i.shelves) ≡ true)
    a0 = both clear (not (list_any (is_elsewhere queue idents) i.shelves)) can

    a1 : ((((is_unit unit && not (is_some (sender_at channel i).in_doubt)) && nat_le unit.session (sender_at channel i).session) && are_distinct idents) ≡ true) × (not held ≡ true)
    a1 = both (((is_unit unit && not (is_some (sender_at channel i).in_doubt)) && nat_le unit.session (sender_at channel i).session) && are_distinct idents) (not held) a0.0

    a2 : (((is_unit unit && not (is_some (sender_at channel i).in_doubt)) && nat_le unit.session (sender_at channel i).session) ≡ true) × (are_distinct idents ≡ true)
    a2 = both ((is_unit unit && not (is_some (sender_at channel i).in_doubt)) && nat_le unit.session (sender_at channel i).session) (are_distinct idents) a1.0

    a3 : ((is_unit unit && not (is_some (sender_at channel i).in_doubt)) ≡ true) × (nat_le unit.session (sender_at channel i).session ≡ true)
    a3 = both (is_unit unit && not (is_some (sender_at channel i).in_doubt)) (nat_le unit.session (sender_at channel i).session) a2.0

    a4 : (is_unit unit ≡ true) × (not (is_some (sender_at channel i).in_doubt) ≡ true)
    a4 = both (is_unit unit) (not (is_some (sender_at channel i).in_doubt)) a3.0

    unit_is : is_unit unit ≡ true
    unit_is = a4.0

    below : nat_le unit.session (sender_at channel i).session ≡ true
    below = a3.1

    distinct : are_distinct idents ≡ true
    distinct = a2.1

    none : in_doubt_of (sender_in channel i.senders) ≡ None
    none = sym (doubt_or (sender_in channel i.senders)) ∙ not_some (sender_at channel i).in_doubt a4.1

    loose : (s : Shelf) (row : Row) → Mem s i.shelves → Mem row s.rows → is_held_among idents row ≡ false
    loose s row m n = none_any (is_held_among idents) s.rows (none_any (λ (x : Shelf). list_any (is_held_among idents) x.rows) i.shelves (not_true held a1.1) s m) row n

    there : (a b : Bool) → (not a && b) ≡ false → b ≡ true → a ≡ true
    there true b e f = refl
    there false b e f = absurd (cc (e, f))

    here : (s : Shelf) (row : Row) → Mem s i.shelves → Mem row s.rows → list_any (same_ident row.message.ident) idents ≡ true → bytes_eq queue s.name ≡ true
    here s row m n e = there (bytes_eq queue s.name) (list_any (λ (x : Row). list_any (same_ident x.message.ident) idents) s.rows)
        (none_any (is_elsewhere queue idents) i.shelves (not_true (list_any (is_elsewhere queue idents) i.shelves) a0.1) s m)
        (some row s.rows n e)
      where
        some : (x : Row) (rows : List Row) → Mem x rows → list_any (same_ident x.message.ident) idents ≡ true → list_any (λ (y : Row). list_any (same_ident y.message.ident) idents) rows ≡ true
        some x [] k f = absurd k
        some x (y ∷ ys) (inl k) f = ap (λ (b : Bool). b || list_any (λ (z : Row). list_any (same_ident z.message.ident) idents) ys) (ap (λ (z : Row). list_any (same_ident z.message.ident) idents) (sym k) ∙ f)
        some x (y ∷ ys) (inr k) f = right (list_any (same_ident y.message.ident) idents) (list_any (λ (z : Row). list_any (same_ident z.message.ident) idents) ys) (some x ys k f)
          where
            right : (a b : Bool) → b ≡ true → (a || b) ≡ true
            right true b g = refl
            right false b g = g

    rows : (s : Shelf) (row : Row) → Mem s i.shelves → Mem row s.rows → IsRowOf (sight number i) s.name row → IsRowOf w s.name (held_tag queue idents channel s.name row)
    rows s row m n r = row_doubts (settling (sight number i) channel (Some doubt)) w.doubt s.name (held_tag queue idents channel s.name row) (λ c. doubt_set c channel d i.senders)
        (row_held (sight number i) channel unit last queue idents s.name row none (loose s row m n) (here s row m n) r)

settled_so_far : (number : ℕ) (channel : List ℕ) (commit : Bool) (i : Image) → IsSoFar number i
    → IsSoFar number (with_sender channel (data_settled (Some (settle_by commit)) (sender_at channel i)) (settled_rows commit channel i))
settled_so_far number channel true i h = record {
  once = h.once;
  shelves = on_all_names (kept_on (λ name row. not (selects (HeldBy (holders.Batch channel)) name row))) (λ s. refl) i.shelves ∙ h.shelves;
  rows = kept_shelved (sight number i) w (λ name row. not (selects (HeldBy (holders.Batch channel)) name row)) i.shelves
      (λ s row m n keep r. row_doubts (settling (sight number i) channel None) w.doubt s.name row (λ c. doubt_set c channel d i.senders) (row_left (sight number i) channel s.name row keep r)) h.rows;
  senders = sides_set number i.incarnation channel d i.senders (record { side = tt; known = tt }) h.senders;
  receivers = h.receivers;
  senders_sorted = sorted_set (λ (s : SenderSide). s.channel) (record { channel = channel; hardened = d }) i.senders h.senders_sorted;
  receivers_sorted = h.receivers_sorted;
}
  where
    d : SenderData
    d = data_settled (Some (settle_by true)) (sender_at channel i)

    w : Sight
    w = record (sight number i) { doubt = λ c. in_doubt_of (sender_in c (set_sender (record { channel = channel; hardened = d }) i.senders)) }
settled_so_far number channel false i h = record {
  once = h.once;
  shelves = on_all_names (tagged_on (λ name. freed_row (holders.Batch channel))) (λ s. refl) i.shelves ∙ h.shelves;
  rows = tagged_shelved (sight number i) w (λ name. freed_row (holders.Batch channel)) i.shelves (λ name row. freed_same channel row)
      (λ s row m n r. row_doubts (settling (sight number i) channel None) w.doubt s.name (freed_row (holders.Batch channel) row) (λ c. doubt_set c channel d i.senders) (row_freed (sight number i) channel s.name row r)) h.rows;
  senders = sides_set number i.incarnation channel d i.senders (record { side = tt; known = tt }) h.senders;
  receivers = h.receivers;
  senders_sorted = sorted_set (λ (s : SenderSide). s.channel) (record { channel = channel; hardened = d }) i.senders h.senders_sorted;
  receivers_sorted = h.receivers_sorted;
}
  where
    d : SenderData
    d = data_settled (Some (settle_by false)) (sender_at channel i)

    w : Sight
    w = record (sight number i) { doubt = λ c. in_doubt_of (sender_in c (set_sender (record { channel = channel; hardened = d }) i.senders)) }

-- ---- a receiver's commit

received_side : (channel : List ℕ) (unit : Luw) (last : ℕ) (d : ReceiverData) → can_receive unit d ≡ true → IsReceiverSide (record { channel = channel; hardened = record d { unit = unit; last = last } })
received_side channel unit last d e =
    let a = both (((is_unit unit && (unit.session == d.session)) && not d.closed) && nat_lt 0 d.session) (is_above unit d.unit) e in
    let b = both ((is_unit unit && (unit.session == d.session)) && not d.closed) (nat_lt 0 d.session) a.0 in
    let c = both (is_unit unit && (unit.session == d.session)) (not d.closed) b.0 in
    let f = both (is_unit unit) (unit.session == d.session) c.0 in
    (eq_le unit.session d.session f.1, inr (numbered unit f.0))

risen_receiver : (channel : List ℕ) (partner : List ℕ) (session last : ℕ) (d : ReceiverData) → nat_lt d.session session ≡ true → IsReceiverSide (record { channel = channel; hardened = d }) → IsReceiverSide (record { channel = channel; hardened = record d { partner = partner; session = session; closed = false; last = last } })
risen_receiver channel partner session last d e h = (on_le d.unit.session d.session session h.0 (lt_le d.session session e), h.1)

-- ---- each record

applied : (g : Given) (start : Start) (r : LogRecord) (i : Image) → applies g start r i ≡ true → (suits g r i ≡ true) × (list_all (was_given g i) (idents_in r) ≡ true)
applied g start r i e = both (suits g r i) (list_all (was_given g i) (idents_in r)) (both (suits g r i && list_all (was_given g i) (idents_in r)) (is_in_bounds start r) e).0

known_on : (number : ℕ) (a b : ℕ) (adds : List Add) → a ≡ b → AreGiven number b adds → AreGiven number a adds
known_on number a b adds e k = subst (λ (n : ℕ). AreGiven number n adds) (sym e) k

suited : (g : Given) (r : LogRecord) (i : Image) → suits g r i ≡ true → list_all (was_given g i) (idents_in r) ≡ true → IsKept r → IsSoFar g.number i → IsSoFar g.number (doing r i)
suited g (records.Started manager name incarnation) i can given kept h = started_so_far g.number incarnation i h
suited g (records.Objects change) i can given kept h = changed_so_far g.number change i can h
suited g (records.Unit adds removes) i can given kept h =
    let b = both (can_remove_all removes i) (can_add_all adds (removed_all removes i)) can in
    added_all_so_far g.number adds (removed_all removes i) b.1 kept (known_on g.number (removed_all removes i).incarnation i.incarnation adds (removed_all_same removes i) (given_adds g i adds given)) (removed_all_so_far g.number removes i h)
suited g (records.Session channel partner session) i can given kept h =
    let s = sender_of g.number channel i h in
    sender_so_far g.number channel (record (sender_at channel i) { partner = partner; session = session }) i refl
    (record { side = doubt_rises (sender_at channel i).session session (sender_at channel i).in_doubt (lt_le (sender_at channel i).session session can) s.side; known = s.known }) h
suited g (records.Prepared channel unit last queue idents) i can given kept h =
    prepared_so_far g.number channel unit last queue idents i can (every (IsKnown g.number i.incarnation) idents (λ x m. given_known g i x (all_all (was_given g i) idents given x m))) h
suited g (records.Resolved channel unit commit operator) i can given kept h = settled_so_far g.number channel commit i h
suited g (records.Bound channel partner session last) i can given kept h =
    receiver_so_far g.number channel (record (receiver_at channel i) { partner = partner; session = session; closed = false; last = last }) i (risen_receiver channel partner session last (receiver_at channel i) can (receiver_of g.number channel i h)) h
suited g (records.Closed channel session) i can given kept h =
    receiver_so_far g.number channel (record (receiver_at channel i) { closed = (receiver_at channel i).closed || (session == (receiver_at channel i).session) }) i (receiver_of g.number channel i h) h
suited g (records.Received channel unit last adds) i can given kept h =
    let b = both (can_receive unit (receiver_at channel i)) (can_add_all adds i) can in
    receiver_so_far g.number channel (record (receiver_at channel (added_all adds i)) { unit = unit; last = last }) (added_all adds i)
    (received_side channel unit last (receiver_at channel (added_all adds i)) (ap (λ (rs : List ReceiverSide). can_receive unit (receiver_or (receiver_in channel rs))) (receivers_same adds i) ∙ b.0))
    (added_all_so_far g.number adds i b.1 kept (given_adds g i adds given) h)
  where
    receivers_same : (adds : List Add) (i : Image) → (added_all adds i).receivers ≡ i.receivers
    receivers_same [] i = refl
    receivers_same (a ∷ as_) i = receivers_same as_ (added a i)
suited g (records.SeqSet channel ends.Sender last) i can given kept h =
    let s = sender_of g.number channel i h in
    sender_so_far g.number channel (record (sender_at channel i) { last = last; force = true }) i refl (record { side = s.side; known = s.known }) h
suited g (records.SeqSet channel ends.Receiver last) i can given kept h = receiver_so_far g.number channel (record (receiver_at channel i) { last = last }) i (receiver_of g.number channel i h) h
suited g (records.Moved from ident to message) i can given kept h =
    let b = both (same_ident ident message.ident && can_remove (record { queue = from; ident = ident }) i) (can_add (record { queue = to; message = message }) (removed (record { queue = from; ident = ident }) i)) can in
    let a = both (fits to message i.definitions) (not (stands_on message.ident (removed (record { queue = from; ident = ident }) i).shelves)) b.1 in
    added_so_far g.number (record { queue = to; message = message }) (removed (record { queue = from; ident = ident }) i) a.0 kept
    (given_known g i message.ident (both (was_given g i message.ident) true given).0)
    (removed_so_far g.number (record { queue = from; ident = ident }) i h)

pub record_so_far : (g : Given) (start : Start) (r : LogRecord) (i : Image) → applies g start r i ≡ true → IsKept r → IsSoFar g.number i → IsSoFar g.number (doing r i)
record_so_far g start r i e kept h = let a = applied g start r i e in suited g r i a.0 a.1 kept h
