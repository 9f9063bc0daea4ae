-- A batch that may be held, and one that is given up again.
use Rattle.std.proofs.Common.{◌≡◌, ℕ, refl, sym, ap, subst, ◌∙◌, List, [], ◌∷◌, Bool, true, false, not}
use Rattle.std.specs.Prelude.{Option, Some, None, map, filter, ◌&&◌, if◌then◌else◌, take}
use Rattle.std.specs.Str.{bytes_eq}
use Rattle.std.specs.List.{AllByRecursion}
use Rattle.mq_message.specs.declared.message.Ident.{Ident}
use Rattle.mq_message.specs.declared.place.Holder.{Holder}
use Rattle.mq_message.specs.declared.place.Holder.TheVariants as holders
use Rattle.mq_queue.specs.declared.row.Row.{Row}
use Rattle.mq_queue.specs.Rows.{held_by, is_free, retag}
use Rattle.mq_sync.specs.declared.unit.Unit.{Unit as Luw}
use Rattle.mq_calls.specs.declared.state.Batch.{Batch}
use Rattle.mq_calls.specs.State.{Plain, Queue}
use Rattle.mq_calls.specs.State.Which.{Among, HeldBy}
use Rattle.mq_calls.specs.Reads.{batch_of, free_rows}
use Rattle.mq_calls.specs.Changes.{comes_before, held_in, release_if, released_in, retag_if, selects, set_named, without_batch}
use Rattle.mq_calls.specs.Steps.{do_all}
use Rattle.mq_spec_manager.specs.Words.{idents_of}
use Rattle.mq_spec_manager.specs.Agents.{CanHold, HasNoBatch, HasNoDoubt, HasSeized, HoldsNone, IsUp, hold_batch, queue_of_sender, release_batch, release_of}
use Rattle.mq_spec_node.specs.Words.{parts_of}
use Rattle.mq_law_manager.specs.Facts.{IsOf, IsSound}
use Rattle.mq_law_manager.specs.View.{view}
use Rattle.mq_law_manager.proofs.Batches.{by_batch}
use Rattle.mq_law_manager.proofs.Named.{batch_set, name_self}
use Rattle.mq_turn_parts.proofs.from_law_log.Bridge.{all_of, each_queue}
use Rattle.mq_turn_parts.specs.from_manager.Facts.{IsWell}

-- A channel that has its queue, no batch and nothing in doubt holds no row: so it may hold a batch.
not_true : (b : Bool) → (b ≡ true → ⊥) → b ≡ false
not_true true n = absurd (n refl)
not_true false n = refl

holds_none : (channel : List ℕ) (p : Plain) → IsSound p → HasNoBatch channel p → HasNoDoubt channel p → AllByRecursion (HoldsNone channel) p.queues
holds_none channel p s batch doubt = each_queue (λ rows. AllByRecursion (λ (row : Row). held_by (holders.Batch channel) row.by ≡ false) rows) p s.named (λ name.
    all_of (λ (row : Row). held_by (holders.Batch channel) row.by ≡ false) ((view p).rows name) (λ row m.
    not_true (held_by (holders.Batch channel) row.by) (λ e.
    let of = s.facts.batched.of name row channel m (by_batch channel row.by e) in
    let B : Option Batch → Type 0 = λ b. IsOf name row.message.ident b ((view p).doubt channel) in
    subst (λ d. IsOf name row.message.ident None d) doubt (subst B batch of))))

pub can_hold : (channel : List ℕ) (p : Plain) → IsWell p → IsUp p → HasSeized channel p → HasNoBatch channel p → HasNoDoubt channel p → CanHold channel p
can_hold channel p w up seized batch doubt = record { seized = seized; batch = batch; doubt = doubt; rows = holds_none channel p (w.up up) batch doubt }

-- A batch is held, and released again: all is as it was.
module _ (channel queue : List ℕ) (idents : List Ident) where
  abbrev by : Holder
  by = holders.Batch channel

  abbrev held : List ℕ → Row → Row
  held name row = retag_if (selects (Among queue idents) name row && is_free row) (Some by) row

  abbrev back : List ℕ → Row → Row
  back name row = release_if (selects (HeldBy by) name row && not (is_free row)) false row

  was_free : (row : Row) → is_free row ≡ true → record row { by = None } ≡ row
  was_free row e = at row.by refl e
    where
      at : (o : Option Holder) → row.by ≡ o → is_free (record row { by = o }) ≡ true → record row { by = None } ≡ row
      at None h f = ap (λ (x : Option Holder). record row { by = x }) (sym h)
      at (Some x) h f = absurd cc

  both : (a b : Bool) → (a && b) ≡ true → b ≡ true
  both true b e = e
  both false b e = absurd cc

  back_held : (name : List ℕ) (row : Row) (b : Bool) → (b ≡ true → is_free row ≡ true) → held_by by row.by ≡ false → back name (retag_if b (Some by) row) ≡ row
  back_held name row true f h = ap (λ (x : Bool). release_if (x && true) false (record row { by = Some by })) (name_self channel) ∙ was_free row (f refl)
  back_held name row false f h = ap (λ (x : Bool). release_if (x && not (is_free row)) false row) h

  row_back : (name : List ℕ) (row : Row) → held_by by row.by ≡ false → back name (held name row) ≡ row
  row_back name row h = back_held name row (selects (Among queue idents) name row && is_free row) (both (selects (Among queue idents) name row) (is_free row)) h

  rows_back : (name : List ℕ) (rows : List Row) → AllByRecursion (λ (row : Row). held_by by row.by ≡ false) rows → retag (back name) (retag (held name) rows) ≡ rows
  rows_back name [] h = refl
  rows_back name (row ∷ rows) h = ap (λ (x : Row). x ∷ retag (back name) (retag (held name) rows)) (row_back name row h.0) ∙ ap (λ (xs : List Row). row ∷ xs) (rows_back name rows h.1)

  queues_back : (qs : List Queue) → AllByRecursion (HoldsNone channel) qs → map (released_in (HeldBy by) false) (map (held_in (Among queue idents) by) qs) ≡ qs
  queues_back [] h = refl
  queues_back (q ∷ qs) h =
      ap (λ (rows : List Row). record q { rows = rows } ∷ map (released_in (HeldBy by) false) (map (held_in (Among queue idents) by) qs)) (rows_back q.name q.rows h.0)
      ∙ ap (λ (xs : List Queue). q ∷ xs) (queues_back qs h.1)

-- the batch itself
others_if : (b : Bool) (channel : List ℕ) (x : Batch) (xs : List Batch) → bytes_eq channel x.channel ≡ b → (if b then Some x else batch_of channel xs) ≡ None → (b ≡ false) × (batch_of channel xs ≡ None)
others_if true channel x xs e h = absurd cc
others_if false channel x xs e h = (refl, h)

none_of : (channel : List ℕ) (bs : List Batch) → batch_of channel bs ≡ None → filter (λ (b : Batch). not (bytes_eq channel b.channel)) bs ≡ bs
none_of channel [] h = refl
none_of channel (x ∷ xs) h =
    let o = others_if (bytes_eq channel x.channel) channel x xs refl h in
    ap (λ (t : Bool). if not t then x ∷ filter (λ (b : Batch). not (bytes_eq channel b.channel)) xs else filter (λ (b : Batch). not (bytes_eq channel b.channel)) xs) o.0 ∙ ap (λ (l : List Batch). x ∷ l) (none_of channel xs o.1)

gone_at : (channel : List ℕ) (b x : Batch) (xs : List Batch) → b.channel ≡ channel → batch_of channel (x ∷ xs) ≡ None → bytes_eq channel x.channel ≡ false → batch_of channel xs ≡ None → (s t : Bool) → bytes_eq b.channel x.channel ≡ s
    → filter (λ (y : Batch). not (bytes_eq channel y.channel)) (set_named (λ (y : Batch). y.channel) b xs) ≡ xs
    → filter (λ (y : Batch). not (bytes_eq channel y.channel)) (if s then b ∷ xs else (if t then b ∷ x ∷ xs else x ∷ set_named (λ (y : Batch). y.channel) b xs)) ≡ x ∷ xs
gone_at channel b x xs c h f n true t e k = let g : true ≡ false = sym e ∙ ap (λ (n : List ℕ). bytes_eq n x.channel) c ∙ f in absurd cc
gone_at channel b x xs c h f n false true e k =
    ap (λ (u : Bool). if not u then b ∷ filter (λ (y : Batch). not (bytes_eq channel y.channel)) (x ∷ xs) else filter (λ (y : Batch). not (bytes_eq channel y.channel)) (x ∷ xs)) (ap (bytes_eq channel) c ∙ name_self channel) ∙ none_of channel (x ∷ xs) h
gone_at channel b x xs c h f n false false e k =
    ap (λ (u : Bool). if not u then x ∷ filter (λ (y : Batch). not (bytes_eq channel y.channel)) (set_named (λ (y : Batch). y.channel) b xs) else filter (λ (y : Batch). not (bytes_eq channel y.channel)) (set_named (λ (y : Batch). y.channel) b xs)) f
    ∙ ap (λ (l : List Batch). x ∷ l) k

gone : (channel : List ℕ) (b : Batch) (bs : List Batch) → b.channel ≡ channel → batch_of channel bs ≡ None → filter (λ (x : Batch). not (bytes_eq channel x.channel)) (set_named (λ (x : Batch). x.channel) b bs) ≡ bs
gone channel b [] c h = ap (λ (t : Bool). if not t then b ∷ [] else []) (ap (bytes_eq channel) c ∙ name_self channel)
gone channel b (x ∷ xs) c h =
    let o = others_if (bytes_eq channel x.channel) channel x xs refl h in
    gone_at channel b x xs c h o.0 o.1 (bytes_eq b.channel x.channel) (comes_before b.channel x.channel) refl (gone channel b xs c o.1)

-- the whole manager
module _ (channel : List ℕ) (unit : Luw) (most : ℕ) (p : Plain) where
  abbrev queue : List ℕ
  queue = queue_of_sender channel p

  abbrev idents : List Ident
  idents = idents_of (take most (free_rows queue p))

  abbrev batch : Batch
  batch = record { channel = channel; unit = unit; queue = queue; idents = idents }

  abbrev mid : Plain
  mid = do_all (parts_of (hold_batch channel unit most p)) p

  pub own_batch : batch_of channel mid.channels.batches ≡ Some batch
  own_batch = batch_set channel batch p.channels.batches ∙ ap (λ (t : Bool). if t then Some batch else batch_of channel p.channels.batches) (name_self channel)

  pub given_up : CanHold channel p → do_all (parts_of (release_batch channel mid)) mid ≡ p
  given_up can =
      ap (λ (o : Option Batch). do_all (parts_of (release_of channel o)) mid) own_batch
      ∙ ap (λ (qs : List Queue). record p { queues = qs; channels = without_batch channel (record p.channels { batches = set_named (λ (x : Batch). x.channel) batch p.channels.batches }) }) (queues_back channel queue idents p.queues can.rows)
      ∙ ap (λ (bs : List Batch). record p { channels = record p.channels { batches = bs } }) (gone channel batch p.channels.batches refl can.batch)
