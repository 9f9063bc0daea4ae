-- A node with the facts that each history keeps fits.
use Rattle.std.proofs.Common.{ℕ, zero, suc, ◌≡◌, ◌≢◌, ◌≤◌, ◌<◌, Bool, true, false, List, [], ◌∷◌, length, refl, ap, sym, subst, ◌∙◌, arith, inl, inr}
use Rattle.std.specs.Prelude.{if◌then◌else◌, Option, Some, None, is_some, slice_get}
use Rattle.std.specs.Option.{option_map}
use Rattle.mq_base.specs.Members.{AreDistinct as AreOnce, Mem}
use Rattle.mq_message.specs.declared.message.Ident.{Ident}
use Rattle.mq_message.specs.declared.place.Holder.{Holder}
use Rattle.mq_queue.specs.declared.row.Row.{Row}
use Rattle.mq_queue.specs.Queues.{AreDistinct, Lacks}
use Rattle.mq_queue.specs.Rows.{is_free, same_ident}
use Rattle.mq_calls.specs.declared.state.Batch.{Batch}
use Rattle.mq_calls.specs.Reads.{stored}
use Rattle.mq_spec_manager.specs.Agents.{at_number, batch_idents, batch_queue, batch_row, row_with}
use Rattle.mq_spec_node.specs.Node.{Node, SenderEnd, end_in}
use Rattle.mq_spec_node.specs.Node.ChannelEnd.{Sends}
use Rattle.mq_law_idle.specs.Counts.{held_in}
use Rattle.mq_law_unshared.proofs.from_law_keys.Telling.{end_mem}
use Rattle.mq_law_manager.specs.Facts.{Differ, IsBatched, ident_of}
use Rattle.mq_law_manager.proofs.Lists.{ident_yes}
use Rattle.mq_law_node.proofs.Batches.{found}
use Rattle.mq_law_node.proofs.Named.{bool_case}
use Rattle.mq_law_pump.specs.Fit.{FitsSender, IsFit}
use Rattle.mq_law_pump.specs.Kept.{IsKeptNode, SendsBatch}
use Rattle.mq_law_pump.specs.Rows.{rows_of}

up_to : (a b c : ℕ) → a ≤ b → b ≤ c → a ≤ c
up_to a b c g h = omega (arith, g, h)

-- THE ROWS OF A BATCH
slice_there : (xs : List Ident) (i : ℕ) → i < length xs → (x : Ident) × (slice_get xs i ≡ Some x) × Mem x xs
slice_there [] i less = absurd (omega (arith, less))
slice_there (x ∷ xs) zero less = (x, refl, inl refl)
slice_there (x ∷ xs) (suc i) less = let r = slice_there xs i (omega (arith, less)) in (r.0, r.1, inr r.2)

row_there : (b : Batch) (rows : List Row) (c : List ℕ) (i : ℕ) → AreDistinct rows → ((x : Ident) → Mem x b.idents → IsBatched rows c x) → i < length b.idents → is_some (row_with (slice_get b.idents i) rows) ≡ true
row_there b rows c i distinct full less =
    let s = slice_there b.idents i less in
    let r : IsBatched rows c s.0 = full s.0 s.2 in
    ap (λ (o : Option Ident). is_some (row_with o rows)) s.1
    ∙ ap (λ (x : Ident). is_some (row_with (Some x) rows)) (sym r.is)
    ∙ ap (λ (o : Option Row). is_some (option_map (λ (row : Row). row.message) o)) (found r.row rows distinct r.there)

-- each of them is held
record Without (x : Row) (rows : List Row) : Type 0 where
  less : List Row
  held : held_in rows ≡ suc (held_in less)
  keeps : (y : Row) → Mem y rows → (y ≡ x → ⊥) → Mem y less

without_row : (x : Row) (rows : List Row) → Mem x rows → is_free x ≡ false → Without x rows
without_row x [] m off = absurd m
without_row x (r ∷ rs) (inl same) off = record {
  less = rs;
  held = ap (λ (b : Bool). if b then held_in rs else suc (held_in rs)) (ap is_free (sym same) ∙ off);
  keeps = λ y m apart. other y m apart;
}
  where
    other : (y : Row) → Mem y (r ∷ rs) → (y ≡ x → ⊥) → Mem y rs
    other y (inl is) apart = absurd (apart (is ∙ sym same))
    other y (inr m) apart = m
without_row x (r ∷ rs) (inr m) off =
    let w : Without x rs = without_row x rs m off in
    record {
      less = r ∷ w.less;
      held = bool_case (is_free r) (λ b. (if b then held_in rs else suc (held_in rs)) ≡ suc (if b then held_in w.less else suc (held_in w.less))) (λ z. w.held) (λ z. ap suc w.held);
      keeps = λ y there apart. other w y there apart;
    }
  where
    other : (w : Without x rs) (y : Row) → Mem y (r ∷ rs) → (y ≡ x → ⊥) → Mem y (r ∷ w.less)
    other w y (inl is) apart = inl is
    other w y (inr there) apart = inr (w.keeps y there apart)

held_many : (c : List ℕ) (is : List Ident) (rows : List Row) → AreOnce is → ((i : Ident) → Mem i is → IsBatched rows c i) → length is ≤ held_in rows
held_many c [] rows once there = omega arith
held_many c (i ∷ is) rows once there =
    let b : IsBatched rows c i = there i (inl refl) in
    let w : Without b.row rows = without_row b.row rows b.there (ap (λ (o : Option Holder). elim o as (λ h. Bool) [ None ↦ true | Some h ↦ false ]) b.by) in
    let rest : length is ≤ held_in w.less = held_many c is w.less once.1 (λ j m. let u : IsBatched rows c j = there j (inr m) in record {
      row = u.row;
      there = w.keeps u.row u.there (λ same. once.0 (subst (λ (k : Ident). Mem k is) (sym u.is ∙ ap (λ (r : Row). r.message.ident) same ∙ b.is) m));
      is = u.is;
      by = u.by;
    }) in
    omega (arith, rest, w.held)

-- idents that differ stand once
not_same : (i j : Ident) → i ≢ j → same_ident j i ≡ false
not_same i j apart = bool_case (same_ident j i) (λ b. b ≡ false) (λ z. absurd (apart (sym (ident_yes j i z)))) (λ z. refl)

lacks_of : (x : Row) (rows : List Row) → ((y : Row) → Mem y rows → ident_of x ≢ ident_of y) → Lacks x.message.ident rows
lacks_of x [] h = tt
lacks_of x (r ∷ rs) h = (not_same x.message.ident r.message.ident (h r (inl refl)), lacks_of x rs (λ y m. h y (inr m)))

distinct_of : (rows : List Row) → Differ ident_of rows → AreDistinct rows
distinct_of [] h = tt
distinct_of (x ∷ rows) h = (lacks_of x rows h.0, distinct_of rows h.1)

-- A NODE
fits_sender : (n : Node) (k : ℕ) (e : SenderEnd) → IsKeptNode n → ((name : List ℕ) → AreDistinct (stored name n.manager).rows) → end_in k n.own.ends ≡ Some (Sends e) → FitsSender e n
fits_sender n k e h distinct here =
    let m : Mem (Sends e) n.own.ends = (end_mem k n.own.ends (Sends e) here).0 in
    record {
      there = λ sending i less. row_of (h.sends e m sending) i less;
      held = λ sending. held_of m (h.sends e m sending);
      queue = h.queued e m;
      open_ = h.unshared.open_ e m;
      some = h.some e m;
    }
  where
    row_of : SendsBatch e n → (i : ℕ) → i < e.machine.count → is_some (batch_row e.channel (suc i) n.manager) ≡ true
    row_of s i less = ap (λ (o : Option Batch). is_some (row_with (at_number (suc i) (batch_idents o)) (stored (batch_queue o) n.manager).rows)) s.is
        ∙ row_there s.batch (stored s.batch.queue n.manager).rows e.channel i (distinct s.batch.queue) (λ x there. h.sound.batched.full e.channel s.batch x s.is there) (omega (arith, less, s.many))

    held_of : Mem (Sends e) n.own.ends → SendsBatch e n → e.machine.count ≤ held_in (rows_of e.channel n.manager)
    held_of m s = subst (λ (name : List ℕ). e.machine.count ≤ held_in (stored name n.manager).rows) (h.queued e m s.batch s.is)
        (up_to e.machine.count (length s.batch.idents) (held_in (stored s.batch.queue n.manager).rows) s.many
        (held_many e.channel s.batch.idents (stored s.batch.queue n.manager).rows s.once (λ x there. h.sound.batched.full e.channel s.batch x s.is there)))

pub fits : (n : Node) → IsKeptNode n → IsFit n
fits n h =
    let distinct : (name : List ℕ) → AreDistinct (stored name n.manager).rows = λ name. distinct_of (stored name n.manager).rows (h.sound.apart.once name) in
    record {
      keyed = h.keyed;
      seized = h.unshared.seized;
      distinct = distinct;
      senders = λ k e here. fits_sender n k e h distinct here;
    }
