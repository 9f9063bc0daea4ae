-- What the facts of a network say of a batch that comes: where its idents are, and what the ledger has of it.
use Rattle.std.proofs.Common.{ℕ, ◌≡◌, ◌≢◌, Bool, true, false, not, List, [], ◌∷◌, refl, ap, sym, subst, ◌∙◌, suc, inl, inr, map}
use Rattle.std.specs.Prelude.{Option, Some, None, if◌then◌else◌, ◌&&◌, ◌||◌, slice_get, is_some}
use Rattle.std.specs.List.{list_any}
use Rattle.mq_message.specs.declared.message.Ident.{Ident}
use Rattle.mq_message.specs.declared.message.Message.{Message}
use Rattle.mq_message.specs.declared.place.Holder.{Holder}
use Rattle.mq_message.specs.declared.place.Holder.TheVariants as holders
use Rattle.mq_queue.specs.declared.row.Row.{Row}
use Rattle.mq_queue.specs.Rows.{same_ident}
use Rattle.mq_sync.specs.declared.unit.Unit.{Unit as Luw}
use Rattle.mq_sync.specs.declared.data.InDoubt.{InDoubt}
use Rattle.mq_calls.specs.declared.state.Connection.{Connection}
use Rattle.mq_calls.specs.declared.state.Item.{Item}
use Rattle.mq_calls.specs.declared.state.Item.TheVariants.{Put, Take}
use Rattle.mq_history.specs.declared.scenario.Scenario.{Scenario}
use Rattle.mq_history.specs.declared.story.ManagerPlaces.{ManagerPlaces}
use Rattle.mq_calls.specs.State.{Plain}
use Rattle.mq_calls.specs.declared.state.Batch.{Batch}
use Rattle.mq_calls.specs.Reads.{batch_of, connection_at, in_doubt_of, is_persistent, sender_data}
use Rattle.mq_spec_manager.specs.Agents.{has_put, is_pending, is_unborn}
use Rattle.mq_spec_network.specs.Ledger.{Ledger, idents_of, ledger_rows, own_or, places_or, row_at, row_in, rows_in, unit_of}
use Rattle.mq_spec_network.specs.Story.{Mem}
use Rattle.mq_law_events.specs.from_law_rows.World.{Gone, Ghost, InBatch, InUnit, Inv, IsPlaced, Forced, Tag, Unborn, World, away, is_last, mark_of, put_idents, stands, tag_idents, tag_mark, tag_of}
use Rattle.mq_law_events.specs.from_law_rows.Kinds.{awaits}
use Rattle.mq_law_events.proofs.from_law_rows.Lists.{and_left, bool_case, eqb_self, is_false, true_false, ident_yes, mem_map}
use Rattle.mq_law_events.proofs.from_law_rows.Owners.{standing_row}
use Rattle.mq_law_events.proofs.from_law_rows.Settling.{sent_lasting, sent_words}
use Rattle.mq_law_events.proofs.from_law_rows.Receiving.{any_mem, holds_means, in_batch_or_forced, luw_self, mine_claim}
use Rattle.mq_law_events.specs.from_law_seen.Seen.{book_of, doubt_of, rows_of, units_of, world_of}
use Rattle.mq_law_events.proofs.from_law_seen.Receipts.{admitted}
use Rattle.mq_law_events.specs.Tied.{AreShelved}
use Rattle.mq_law_events.proofs.Moving.{InShelves, row_in_is}
use Rattle.mq_law_receipts.specs.Receipts.{AreNumbered, Comes, IsAwaitedAt, IsReceipt}
use Rattle.mq_law_receipts.proofs.Landing.{IsOwn, uncounted}

-- Its idents are the unit's

pub idents_tagged : (ms : List Message) → tag_idents (map tag_of ms) ≡ idents_of ms
idents_tagged [] = refl
idents_tagged (m ∷ ms) = ap (λ is. m.ident ∷ is) (idents_tagged ms)

pub marks_tagged : (ms : List Message) → map mark_of ms ≡ map tag_mark (map tag_of ms)
marks_tagged [] = refl
marks_tagged (m ∷ ms) = ap (λ ts. mark_of m ∷ ts) (marks_tagged ms)

-- An uncommitted put of an ident is of a connection's unit

put_there : (i : Ident) (items : List Item) → list_any (has_put i) items ≡ true → Mem i (put_idents items)
put_there i [] e = absurd cc
put_there i (Take queue ident persistent ∷ items) e = put_there i items e
put_there i (Put queue message ∷ items) e = bool_case (same_ident i message.ident) (λ t. same_ident i message.ident ≡ t → (t || list_any (has_put i) items) ≡ true → Mem i (message.ident ∷ put_idents items))
    (λ z w f. inl (ident_yes i message.ident w)) (λ z w f. inr (put_there i items f)) refl e

unit_there : (i : Ident) (cs : List Connection) → AreNumbered cs → list_any (λ (c : Connection). list_any (has_put i) c.unit) cs ≡ true
    → (c : Connection) × Mem c cs × (connection_at c.number cs ≡ Some c) × Mem i (put_idents c.unit)
unit_there i [] n e = absurd cc
unit_there i (c ∷ cs) n e = bool_case (list_any (has_put i) c.unit) (λ t. list_any (has_put i) c.unit ≡ t → (t || list_any (λ (c : Connection). list_any (has_put i) c.unit) cs) ≡ true
    → (d : Connection) × Mem d (c ∷ cs) × (connection_at d.number (c ∷ cs) ≡ Some d) × Mem i (put_idents d.unit))
    (λ z w f. (c, inl refl, ap (λ t. if t then Some c else connection_at c.number cs) (eqb_self c.number), put_there i c.unit w))
    (λ z w f. let k = unit_there i cs n.1 f in (k.0, inr k.1, ap (λ t. if t then Some c else connection_at k.0.number cs) (n.0 k.0 k.1) ∙ k.2, k.3)) refl e

-- How its idents stand at its receiver

not_standing : (f : List ℕ → Bool) (o : Option Holder) → stands f o ≡ false → (d : List ℕ) × (o ≡ Some (holders.Batch d)) × (f d ≡ true)
not_standing f None e = absurd (true_false e)
not_standing f (Some (holders.Unit n)) e = absurd (true_false e)
not_standing f (Some (holders.Batch d)) e = (d, refl, not_yes (f d) e)
  where
    not_yes : (t : Bool) → not t ≡ false → t ≡ true
    not_yes true z = refl
    not_yes false z = absurd cc

none_where : (o : Option InDoubt) → is_some o ≡ true → o ≡ None → ⊥
none_where o e f = true_false (sym e ∙ ap is_some f)

no_batch : (o : Option Batch) → ((b : Batch) → o ≡ Some b → ⊥) → o ≡ None
no_batch None f = refl
no_batch (Some b) f = absurd (f b refl)

pub comes_in : (s : Scenario) (given : Ident → Bool) (ps : List Plain) (p : Plain) (l : Ledger) (g : Ghost) (m t : ℕ) (c : List ℕ) (u : Luw) (ms : List Message) → slice_get ps t ≡ Some p → IsReceipt s given ps p l g m t c u ms
    → Inv (world_of s given ps) g (book_of l) → (x : Message) → Mem x ms → Comes p x
comes_in s given ps p l g m t c u ms at r h x n =
    let w : World = world_of s given ps in
    let i : Ident = x.ident in
    let tag : Mem (tag_of x) (g.sent m c u) = subst (λ (ts : List Tag). Mem (tag_of x) ts) r.sent (mem_map tag_of x ms n) in
    let own = r.commits.mine i (mem_map (λ (y : Tag). y.ident) (tag_of x) (g.sent m c u) tag) in
    record {
      rows = λ q y k e.
          let here : Mem y (w.rows t q) = subst (λ (o : Option Plain). Mem y (rows_of q o)) (sym at) k in
          let owner = ap g.owner e ∙ own in
          let z = not_standing (away w t) y.by (is_false (stands (away w t) y.by) (λ f. r.commits.apart (mine_claim (awaits w m c u) m t c q u y.by (sym owner ∙ h.claims t q y here f)).1)) in
          let doubted : is_some (in_doubt_of (sender_data z.0 p)) ≡ true = sym (ap (doubt_of z.0) at) ∙ and_left (w.doubt t z.0) (is_last (w.holds t z.0) (w.last t z.0)) z.2 in
          (z.0, z.1, no_batch (batch_of z.0 p.channels.batches) (λ b f. none_where (in_doubt_of (sender_data z.0 p)) doubted (r.sound.facts.batched.one z.0 b f)), sent_lasting w g (book_of l) m c u t h r.commits (tag_of x) t q y tag here e);
      pending = is_false (is_pending i p) (λ f.
          let k = unit_there i p.connections r.numbered f in
          let there : Mem i (put_idents (w.units t k.0.number)) = subst (λ (o : Option Plain). Mem i (put_idents (units_of k.0.number o))) (sym at) (subst (λ (o : Option Connection). Mem i (put_idents (unit_of o))) (sym k.2) k.3) in
          in_batch_or_forced (awaits w m c u) m c u (InUnit t k.0.number) (λ e. cc) (λ e. cc) (sym own ∙ h.pending t k.0.number i there));
      unborn = is_false (is_unborn i p) (λ f. in_batch_or_forced (awaits w m c u) m c u Unborn (λ e. cc) (λ e. cc) (sym own ∙ h.unborn i (r.fresh i f)));
    }

-- What the ledger has of it

abbrev some_or : Row → Option Row → Row
some_or r None = r
some_or r (Some x) = x

row_at_is : (i : Ident) (ps : List ManagerPlaces) → ((a : ℕ) (x : ManagerPlaces) → slice_get ps a ≡ Some x → AreShelved x.queues) → (row : Row) → row_at i ps ≡ Some row
    → (a : ℕ) × ((q : List ℕ) × Mem row (rows_in q (places_or (slice_get ps a)).queues) × (row.message.ident ≡ i))
row_at_is i [] apart row e = absurd cc
row_at_is i (p ∷ ps) apart row e = go (row_in i p.queues) (row_in_is i p.queues (apart 0 p refl)) (λ f. row_at_is i ps (λ a x z. apart (suc a) x z) row f) e
  where
    go : (o : Option Row) → InShelves i p.queues o → (row_at i ps ≡ Some row → (a : ℕ) × ((q : List ℕ) × Mem row (rows_in q (places_or (slice_get ps a)).queues) × (row.message.ident ≡ i)))
        → elim o as (λ r. Option Row) [ None ↦ row_at i ps | Some row ↦ Some row ] ≡ Some row → (a : ℕ) × ((q : List ℕ) × Mem row (rows_in q (places_or (slice_get (p ∷ ps) a)).queues) × (row.message.ident ≡ i))
    go None none rest f = let k = rest f in (suc k.0, k.1)
    go (Some x) is rest f = let same : x ≡ row = ap (some_or x) f in (0, (is.queue, subst (λ (y : Row). Mem y (rows_in is.queue p.queues)) same is.there, ap (λ (y : Row). y.message.ident) (sym same) ∙ is.is))

pub own_in : (s : Scenario) (given : Ident → Bool) (ps : List Plain) (p : Plain) (l : Ledger) (g : Ghost) (m t : ℕ) (c : List ℕ) (u : Luw) (ms : List Message) → IsAwaitedAt s given ps p l g m t c u ms
    → Inv (world_of s given ps) g (book_of l) → (y : Message) → Mem y ms → IsOwn l y
own_in s given ps p l g m t c u ms r h y n =
    record { admitted = admitted l m y lasting fleeting; own = text (row_at y.ident l.places) refl }
  where
    w : World
    w = world_of s given ps

    tag : Mem (tag_of y) (g.sent m c u)
    tag = subst (λ (ts : List Tag). Mem (tag_of y) ts) r.sent (mem_map tag_of y ms n)

    mine : g.owner y.ident ≡ (if awaits w m c u then InBatch m c else Forced m c u)
    mine = r.commits.mine y.ident (mem_map (λ (x : Tag). x.ident) (tag_of y) (g.sent m c u) tag)

    text : (o : Option Row) → row_at y.ident l.places ≡ o → uncounted (own_or y o) ≡ uncounted y
    text None e = refl
    text (Some row) e = let k = row_at_is y.ident l.places r.shelved row e in ap (λ (x : Message). record x { route = y.route }) (ap (λ (s : Tag). s.word) (sent_words w g (book_of l) m c u t h r.commits (tag_of y) k.0 k.1.0 row tag k.1.1 k.1.2))

    fleeting : is_persistent y ≡ false → list_any (same_ident y.ident) l.gone ≡ false
    fleeting e = is_false (list_any (same_ident y.ident) l.gone) (λ f. in_batch_or_forced (awaits w m c u) m c u Gone (λ e. cc) (λ e. cc) (sym mine ∙ h.gone y.ident (any_mem y.ident l.gone f)))

    waits : awaits w m c u ≡ true → is_persistent y ≡ true → IsPlaced (tag_of y) (λ q. ledger_rows m q l)
    waits f e =
        let doubted : w.doubt m c ≡ true = and_left (w.doubt m c) (is_last (w.holds m c) u) f in
        let holds : w.holds m c ≡ Some u = holds_means (w.doubt m c) (w.holds m c) u f in
        let new : w.last m c ≢ u = λ z. true_false (sym ((λ i. doubted i && is_last (holds i) (z i)) ∙ luw_self u) ∙ r.commits.new) in
        let k = h.present m c u (tag_of y) holds new tag e in
        let b = standing_row w g (book_of l) h m (g.source m c) k.row k.there (ap (stands (away w m)) k.by ∙ ap not r.commits.new) in
        record { queue = g.source m c; row = b.0; there = b.1; tag = sym (ap (λ (x : Row). tag_of x.message) b.2) ∙ k.tag }

    forced : awaits w m c u ≡ false → is_persistent y ≡ true → IsPlaced (tag_of y) (λ q. ledger_rows m q l)
    forced f e =
        let o = h.forced m c u y.ident (mine ∙ ap (λ z. if z then InBatch m c else Forced m c u) f) in
        h.operated_there m c u (tag_of y) o.0 tag e

    lasting : is_persistent y ≡ true → IsPlaced (tag_of y) (λ q. ledger_rows m q l)
    lasting e = bool_case (awaits w m c u) (λ z. awaits w m c u ≡ z → IsPlaced (tag_of y) (λ q. ledger_rows m q l)) (λ z f. waits f e) (λ z f. forced f e) refl
