-- Messages that a record places and rows that it removes.
use Rattle.std.proofs.Common.{ℕ, ◌≡◌, ◌≢◌, ◌≤◌, Bool, true, false, List, [], ◌∷◌, refl, ap, sym, subst, ◌∙◌, arith, map, inl, inr}
use Rattle.std.specs.Prelude.{Option, Some, None, is_some, ◌||◌, ◌==◌, nat_le, not}
use Rattle.std.specs.Str.{bytes_eq}
use Rattle.std.specs.List.{list_any, list_all}
use Rattle.std.proofs.lemmas.Bool.Decides.{nat_tests}
use Rattle.mq_message.specs.declared.message.Ident.{Ident}
use Rattle.mq_message.specs.declared.message.Message.{Message}
use Rattle.mq_queue.specs.declared.row.Row.{Row}
use Rattle.mq_queue.specs.Rows.{same_ident, has_ident}
use Rattle.mq_objects.specs.declared.object.LocalQueue.{LocalQueue}
use Rattle.mq_objects.specs.Names.{local_of}
use Rattle.mq_sync.specs.declared.data.InDoubt.{InDoubt}
use Rattle.mq_calls.specs.declared.records.Add.{Add}
use Rattle.mq_calls.specs.declared.records.Remove.{Remove}
use Rattle.mq_calls.specs.State.{Given}
use Rattle.mq_calls.specs.State.Which.{Among}
use Rattle.mq_calls.specs.Reads.{is_persistent, sender_in, in_doubt_of}
use Rattle.mq_calls.specs.Changes.{selects, less_ident, off_lists}
use Rattle.mq_calls.specs.declared.image.Image.{Image}
use Rattle.mq_calls.specs.declared.image.Shelf.{Shelf}
use Rattle.mq_calls.specs.Recovery.{listed, IsKnown}
use Rattle.mq_law_log.specs.from_spec_log.Applies.{fits, fits_local, can_add_all, can_add, stands_on, was_given}
use Rattle.mq_law_log.specs.from_spec_log.Shelves.{shelf_in, without_ident, cleared, added, added_all, removed, removed_all}
use Rattle.mq_law_log.specs.from_law_manager.Facts.{Mem}
use Rattle.mq_law_log.proofs.from_law_manager.Lists.{same_self, mem_keep}
use Rattle.mq_law_log.proofs.from_law_manager.Named.{doubt_less}
use Rattle.mq_law_image.specs.SoFar.{sight, IsSoFar, ArePersistent}
use Rattle.mq_law_image.proofs.Members.{both, on_all_mem, on_all_names, shelf_there}
use Rattle.mq_law_image.proofs.Rowing.{kept_on, kept_shelved, placed_on, placed_shelved}
use Rattle.mq_law_image.proofs.Siding.{less_off, off_sides, off_sorted, doubting, row_doubts}
use Rattle.mq_law_image.proofs.Doubting.{row_less}
use Rattle.mq_law_image.proofs.Naming.{shelf_names, set_shelf_names, add_there, name_listed}

-- An ident goes

not_has : (ident : Ident) (row : Row) → not (has_ident ident row) ≡ true → ident ≢ row.message.ident
not_has ident row e w = cc (e, ap (λ (i : Ident). not (same_ident row.message.ident i)) w ∙ ap not (same_self row.message.ident))

pub cleared_so_far : (number : ℕ) (ident : Ident) (i : Image) → IsSoFar number i → IsSoFar number (cleared ident i)
cleared_so_far number ident i h = record {
  once = h.once;
  shelves = on_all_names (without_ident ident) (λ s. refl) i.shelves ∙ h.shelves;
  rows = kept_shelved (sight number i) (sight number (cleared ident i)) (λ name row. not (has_ident ident row)) i.shelves
      (λ s row m n keep r.
      row_doubts (doubting (sight number i) (λ c. less_ident ident (in_doubt_of (sender_in c i.senders)))) (λ c. in_doubt_of (sender_in c (off_lists ident i.senders))) s.name row (λ c. doubt_less c ident i.senders)
      (row_less (sight number i) ident s.name row (not_has ident row keep) r)) h.rows;
  senders = off_sides number i.incarnation ident i.senders h.senders;
  receivers = h.receivers;
  senders_sorted = off_sorted ident i.senders h.senders_sorted;
  receivers_sorted = h.receivers_sorted;
}

-- A message is placed

is_there : (o : Option LocalQueue) (m : Message) → fits_local o m ≡ true → is_some o ≡ true
is_there None m e = absurd cc
is_there (Some q) m e = refl

pub added_so_far : (number : ℕ) (a : Add) (i : Image) → fits a.queue a.message i.definitions ≡ true → is_persistent a.message ≡ true → IsKnown number i.incarnation a.message.ident → IsSoFar number i → IsSoFar number (added a i)
added_so_far number a i fit lasts known h = record {
  once = k.once;
  shelves = set_shelf_names (placed_on a.queue a.message i.definitions j.shelves) j.shelves
      ∙ add_there (shelf_in a.queue j.shelves).name (shelf_names j.shelves) (ap (λ (n : List ℕ). list_any (bytes_eq n) (shelf_names j.shelves)) there.1 ∙ listed_there) ∙ k.shelves;
  rows = placed_shelved (sight number j) a.queue a.message j.shelves there lasts fit known new off k.rows;
  senders = k.senders;
  receivers = k.receivers;
  senders_sorted = k.senders_sorted;
  receivers_sorted = k.receivers_sorted;
}
  where
    j : Image
    j = cleared a.message.ident i

    k : IsSoFar number j
    k = cleared_so_far number a.message.ident i h

    listed_there : list_any (bytes_eq a.queue) (shelf_names j.shelves) ≡ true
    listed_there = ap (list_any (bytes_eq a.queue)) k.shelves ∙ name_listed a.queue i.definitions.objects (is_there (local_of a.queue i.definitions) a.message fit)

    there : Mem (shelf_in a.queue j.shelves) j.shelves × ((shelf_in a.queue j.shelves).name ≡ a.queue)
    there = shelf_there a.queue j.shelves listed_there

    new : (s : Shelf) (row : Row) → Mem s j.shelves → Mem row s.rows → row.message.ident ≢ a.message.ident
    new s row m n e =
        let o = on_all_mem (without_ident a.message.ident) s i.shelves m in
        let kept = mem_keep (λ (x : Row). not (has_ident a.message.ident x)) row o.0.rows (subst (λ (x : Shelf). Mem row x.rows) o.2 n) in
        not_has a.message.ident row kept.1 (sym e)

    off : (c : List ℕ) → list_any (same_ident a.message.ident) (listed (in_doubt_of (sender_in c j.senders))) ≡ false
    off c = ap (λ (o : Option InDoubt). list_any (same_ident a.message.ident) (listed o)) (doubt_less c a.message.ident i.senders) ∙ less_off a.message.ident (in_doubt_of (sender_in c i.senders))

-- (all of them, each known)
abbrev pub AreGiven : ℕ → ℕ → List Add → Type 0
AreGiven number incarnation adds = (a : Add) → Mem a adds → IsKnown number incarnation a.message.ident

pub added_all_so_far : (number : ℕ) (adds : List Add) (i : Image) → can_add_all adds i ≡ true → ArePersistent adds → AreGiven number i.incarnation adds → IsSoFar number i → IsSoFar number (added_all adds i)
added_all_so_far number [] i can lasts known h = h
added_all_so_far number (a ∷ as_) i can lasts known h =
    let b = both (can_add a i) (can_add_all as_ (added a i)) can in
    added_all_so_far number as_ (added a i) b.1 (λ x m. lasts x (inr m)) (λ x m. known x (inr m))
    (added_so_far number a i ((both (fits a.queue a.message i.definitions) (not (stands_on a.message.ident i.shelves)) b.0).0) (lasts a (inl refl)) (known a (inl refl)) h)

-- (they change neither definitions nor incarnations)
pub added_all_same : (adds : List Add) (i : Image) → (added_all adds i).incarnation ≡ i.incarnation
added_all_same [] i = refl
added_all_same (a ∷ as_) i = added_all_same as_ (added a i)

-- A row is removed

pub removed_so_far : (number : ℕ) (r : Remove) (i : Image) → IsSoFar number i → IsSoFar number (removed r i)
removed_so_far number r i h = record {
  once = h.once;
  shelves = on_all_names (kept_on (λ name row. not (selects (Among r.queue (r.ident ∷ [])) name row))) (λ s. refl) i.shelves ∙ h.shelves;
  rows = kept_shelved (sight number i) (sight number i) (λ name row. not (selects (Among r.queue (r.ident ∷ [])) name row)) i.shelves (λ s row m n keep k. k) h.rows;
  senders = h.senders;
  receivers = h.receivers;
  senders_sorted = h.senders_sorted;
  receivers_sorted = h.receivers_sorted;
}

pub removed_all_so_far : (number : ℕ) (rs : List Remove) (i : Image) → IsSoFar number i → IsSoFar number (removed_all rs i)
removed_all_so_far number [] i h = h
removed_all_so_far number (r ∷ rs) i h = removed_all_so_far number rs (removed r i) (removed_so_far number r i h)

pub removed_all_same : (rs : List Remove) (i : Image) → (removed_all rs i).incarnation ≡ i.incarnation
removed_all_same [] i = refl
removed_all_same (r ∷ rs) i = removed_all_same rs (removed r i)

-- Idents that were given

pub given_known : (g : Given) (i : Image) (ident : Ident) → was_given g i ident ≡ true → IsKnown g.number i.incarnation ident
given_known g i ident e same = le ident.incarnation i.incarnation (least (ident.manager == g.number) (nat_le ident.incarnation i.incarnation) (own ident.manager g.number same) e)
  where
    own : (a b : ℕ) → a ≡ b → (a == b) ≡ true
    own a b e = grind (arith, nat_tests)

    least : (a b : Bool) → a ≡ true → (not a || b) ≡ true → b ≡ true
    least true b e f = f
    least false b e f = absurd cc

    le : (a b : ℕ) → nat_le a b ≡ true → a ≤ b
    le a b e = grind (arith, nat_tests)

pub given_adds : (g : Given) (i : Image) (adds : List Add) → list_all (was_given g i) (map (λ (a : Add). a.message.ident) adds) ≡ true → AreGiven g.number i.incarnation adds
given_adds g i [] e a m = absurd m
given_adds g i (x ∷ xs) e a m =
    let b = both (was_given g i x.message.ident) (list_all (was_given g i) (map (λ (y : Add). y.message.ident) xs)) e in
    elim m [ inl k ↦ subst (λ (y : Add). IsKnown g.number i.incarnation y.message.ident) (sym k) (given_known g i x.message.ident b.0) | inr k ↦ given_adds g i xs b.1 a k ]
