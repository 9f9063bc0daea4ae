-- What a record does to rows: they are kept, retagged or placed, and seen against other data.
use Rattle.std.proofs.Common.{ℕ, ◌≡◌, ◌≢◌, ◌⊎◌, Bool, true, false, List, refl, ap, sym, subst, ◌∙◌, inl, inr}
use Rattle.std.specs.Prelude.{Option, Some, None, is_some}
use Rattle.std.specs.List.{list_any}
use Rattle.mq_message.specs.declared.message.Message.{Message}
use Rattle.mq_queue.specs.declared.row.Row.{Row}
use Rattle.mq_queue.specs.Rows.{same_ident, keep, retag}
use Rattle.mq_objects.specs.declared.object.LocalQueue.{LocalQueue}
use Rattle.mq_objects.specs.declared.object.Definitions.{Definitions}
use Rattle.mq_objects.specs.Names.{local_of, is_transmission}
use Rattle.mq_calls.specs.Reads.{is_persistent}
use Rattle.mq_calls.specs.Changes.{lane_of, new_row}
use Rattle.mq_calls.specs.Images.{uncounted_message}
use Rattle.mq_calls.specs.declared.image.Shelf.{Shelf}
use Rattle.mq_calls.specs.Recovery.{listed, routes, IsKnown}
use Rattle.mq_law_log.specs.from_spec_log.Shelves.{shelf_in, set_shelf, on_all, shelved_in}
use Rattle.mq_law_log.specs.from_spec_log.Applies.{agrees, fits, fits_local}
use Rattle.mq_law_log.specs.from_law_manager.Facts.{Mem, Differ, ident_of, AreLaned}
use Rattle.mq_law_log.proofs.from_law_manager.Lists.{mem_insert, mem_keep, mem_retag, differ_insert, differ_keep, differ_retag}
use Rattle.mq_law_image.specs.SoFar.{Sight, IsRowOf, AreShelved}
use Rattle.mq_law_image.proofs.Members.{laned_insert, laned_keep, laned_retag, on_all_mem, set_shelf_mem}

-- a row comes from one of the same ident on a shelf of the same name
pub record Came (ss : List Shelf) (name : List ℕ) (h : Row) : Type 0 where
  pub shelf : Shelf
  pub there : Mem shelf ss
  pub is : shelf.name ≡ name
  pub row : Row
  pub on : Mem row shelf.rows
  pub ident : h.message.ident ≡ row.message.ident

alone_on : (v : Sight) (ss ts : List Shelf) → ((t : Shelf) (h : Row) → Mem t ts → Mem h t.rows → Came ss t.name h) → AreShelved v ss
    → (s t : Shelf) (h k : Row) → Mem s ts → Mem t ts → Mem h s.rows → Mem k t.rows → h.message.ident ≡ k.message.ident → s.name ≡ t.name
alone_on v ss ts came a s t h k m n x y e =
    let f = came s h m x in
    let g = came t k n y in
    sym f.is ∙ a.alone f.shelf g.shelf f.row g.row f.there g.there f.on g.on (sym f.ident ∙ e ∙ g.ident) ∙ g.is

-- seen against other data
pub seen_shelved : (v w : Sight) (ss : List Shelf) → ((s : Shelf) (h : Row) → Mem s ss → Mem h s.rows → IsRowOf v s.name h → IsRowOf w s.name h) → AreShelved v ss → AreShelved w ss
seen_shelved v w ss to a = record { row = λ s h m n. to s h m n (a.row s h m n); alone = a.alone; laned = a.laned; once = a.once }

abbrev pub kept_on : (List ℕ → Row → Bool) → Shelf → Shelf
kept_on test s = record s { rows = keep (test s.name) s.rows }

abbrev pub tagged_on : (List ℕ → Row → Row) → Shelf → Shelf
tagged_on g s = record s { rows = retag (g s.name) s.rows }

-- rows are kept
pub kept_shelved : (v w : Sight) (test : List ℕ → Row → Bool) (ss : List Shelf) → ((s : Shelf) (h : Row) → Mem s ss → Mem h s.rows → test s.name h ≡ true → IsRowOf v s.name h → IsRowOf w s.name h) → AreShelved v ss → AreShelved w (on_all (kept_on test) ss)
kept_shelved v w test ss to a = record {
  row = λ t h m n.
      let s = on_all_mem (kept_on test) t ss m in
      let k = mem_keep (test s.0.name) h s.0.rows (subst (λ (x : Shelf). Mem h x.rows) s.2 n) in
      subst (λ (x : Shelf). IsRowOf w x.name h) (sym s.2) (to s.0 h s.1 k.0 k.1 (a.row s.0 h s.1 k.0));
  alone = alone_on v ss (on_all (kept_on test) ss) came a;
  laned = λ t m. let s = on_all_mem (kept_on test) t ss m in subst (λ (x : Shelf). AreLaned x.rows) (sym s.2) (laned_keep (test s.0.name) s.0.rows (a.laned s.0 s.1));
  once = λ t m. let s = on_all_mem (kept_on test) t ss m in subst (λ (x : Shelf). Differ ident_of x.rows) (sym s.2) (differ_keep (test s.0.name) s.0.rows (a.once s.0 s.1));
}
  where
    came : (t : Shelf) (h : Row) → Mem t (on_all (kept_on test) ss) → Mem h t.rows → Came ss t.name h
    came t h m n =
        let s = on_all_mem (kept_on test) t ss m in
        let k = mem_keep (test s.0.name) h s.0.rows (subst (λ (x : Shelf). Mem h x.rows) s.2 n) in
        record { shelf = s.0; there = s.1; is = sym (ap (λ (x : Shelf). x.name) s.2); row = h; on = k.0; ident = refl }

-- rows are retagged
pub tagged_shelved : (v w : Sight) (g : List ℕ → Row → Row) (ss : List Shelf) → ((name : List ℕ) (r : Row) → ((g name r).message ≡ r.message) × ((g name r).place ≡ r.place)) → ((s : Shelf) (h : Row) → Mem s ss → Mem h s.rows → IsRowOf v s.name h → IsRowOf w s.name (g s.name h)) → AreShelved v ss → AreShelved w (on_all (tagged_on g) ss)
tagged_shelved v w g ss same to a = record {
  row = λ t h m n.
      let s = on_all_mem (tagged_on g) t ss m in
      let k = mem_retag (g s.0.name) h s.0.rows (subst (λ (x : Shelf). Mem h x.rows) s.2 n) in
      subst (λ (x : Shelf). IsRowOf w x.name h) (sym s.2) (subst (IsRowOf w s.0.name) (sym k.2) (to s.0 k.0 s.1 k.1 (a.row s.0 k.0 s.1 k.1)));
  alone = alone_on v ss (on_all (tagged_on g) ss) came a;
  laned = λ t m. let s = on_all_mem (tagged_on g) t ss m in subst (λ (x : Shelf). AreLaned x.rows) (sym s.2) (laned_retag (g s.0.name) (λ r. (same s.0.name r).1) s.0.rows (a.laned s.0 s.1));
  once = λ t m. let s = on_all_mem (tagged_on g) t ss m in subst (λ (x : Shelf). Differ ident_of x.rows) (sym s.2) (differ_retag (g s.0.name) (λ r. ap (λ (x : Message). x.ident) ((same s.0.name r).0)) s.0.rows (a.once s.0 s.1));
}
  where
    came : (t : Shelf) (h : Row) → Mem t (on_all (tagged_on g) ss) → Mem h t.rows → Came ss t.name h
    came t h m n =
        let s = on_all_mem (tagged_on g) t ss m in
        let k = mem_retag (g s.0.name) h s.0.rows (subst (λ (x : Shelf). Mem h x.rows) s.2 n) in
        record { shelf = s.0; there = s.1; is = sym (ap (λ (x : Shelf). x.name) s.2); row = k.0; on = k.1; ident = ap ident_of k.2 ∙ ap (λ (x : Message). x.ident) ((same s.0.name k.0).0) }

-- a message is placed on a queue that it fits, where no row has its ident and no unit in doubt lists it

abbrev pub placed_row : List ℕ → Message → Definitions → Row
placed_row queue m d = new_row (lane_of (local_of queue d) m.md.priority) 0 (uncounted_message m)

abbrev pub placed_on : List ℕ → Message → Definitions → List Shelf → Shelf
placed_on queue m d ss = shelved_in (lane_of (local_of queue d) m.md.priority) m (shelf_in queue ss)

pub fits_routes : (o : Option LocalQueue) (m : Message) → fits_local o m ≡ true → is_some m.route ≡ routes o
fits_routes None m e = absurd cc
fits_routes (Some q) m e = agree (is_transmission q.usage) (is_some m.route) e
  where
    agree : (a b : Bool) → agrees a b ≡ true → b ≡ a
    agree true b f = f
    agree false true f = absurd cc
    agree false false f = refl

placed_is : (v : Sight) (queue : List ℕ) (m : Message) → is_persistent m ≡ true → fits queue m v.definitions ≡ true → IsKnown v.number v.incarnation m.ident
    → ((channel : List ℕ) → list_any (same_ident m.ident) (listed (v.doubt channel)) ≡ false) → IsRowOf v queue (placed_row queue m v.definitions)
placed_is v queue m lasts fit known off = record {
  persistent = lasts;
  lane = refl;
  uncounted = refl;
  unbacked = refl;
  routed = fits_routes (local_of queue v.definitions) m fit;
  held = tt;
  doubted = λ channel e. absurd (cc (e, off channel));
  known = known;
}

pub placed_shelved : (v : Sight) (queue : List ℕ) (m : Message) (ss : List Shelf) → Mem (shelf_in queue ss) ss × ((shelf_in queue ss).name ≡ queue) → is_persistent m ≡ true → fits queue m v.definitions ≡ true → IsKnown v.number v.incarnation m.ident
    → ((s : Shelf) (h : Row) → Mem s ss → Mem h s.rows → h.message.ident ≢ m.ident) → ((channel : List ℕ) → list_any (same_ident m.ident) (listed (v.doubt channel)) ≡ false)
    → AreShelved v ss → AreShelved v (set_shelf (placed_on queue m v.definitions ss) ss)
placed_shelved v queue m ss there lasts fit known new off a = record {
  row = λ t h x y. elim (from t h x y) [
    | inl z ↦ subst (λ (n : List ℕ). IsRowOf v n h) (sym z.1) (subst (IsRowOf v queue) (sym z.0) (placed_is v queue m lasts fit known off))
    | inr z ↦ subst (λ (n : List ℕ). IsRowOf v n h) z.2 (a.row z.0 h z.1 z.3)
  ];
  alone = λ s t h k x y n l e. elim (from s h x n) [
    | inl z ↦ elim (from t k y l) [
      | inl w ↦ z.1 ∙ sym w.1
      | inr w ↦ absurd (new w.0 k w.1 w.3 (sym e ∙ ap ident_of z.0))
    ]
    | inr z ↦ elim (from t k y l) [
      | inl w ↦ absurd (new z.0 h z.1 z.3 (e ∙ ap ident_of w.0))
      | inr w ↦ sym z.2 ∙ a.alone z.0 w.0 h k z.1 w.1 z.3 w.3 e ∙ w.2
    ]
  ];
  laned = λ t x. elim (set_shelf_mem on t ss x) [ inl z ↦ subst (λ (s : Shelf). AreLaned s.rows) (sym z) (laned_insert row base.rows (a.laned base there.0)) | inr z ↦ a.laned t z ];
  once = λ t x. elim (set_shelf_mem on t ss x) [
    | inl z ↦ subst (λ (s : Shelf). Differ ident_of s.rows) (sym z) (differ_insert row base.rows (λ y n e. new base y there.0 n (sym e)) (a.once base there.0))
    | inr z ↦ a.once t z
  ];
}
  where
    base : Shelf
    base = shelf_in queue ss

    on : Shelf
    on = placed_on queue m v.definitions ss

    row : Row
    row = placed_row queue m v.definitions

    from : (t : Shelf) (h : Row) → Mem t (set_shelf on ss) → Mem h t.rows → ((h ≡ row) × (t.name ≡ queue)) ⊎ ((s : Shelf) × Mem s ss × (s.name ≡ t.name) × Mem h s.rows)
    from t h x y = elim (set_shelf_mem on t ss x) [
      | inl z ↦ elim (mem_insert h row base.rows (subst (λ (s : Shelf). Mem h s.rows) z y)) [
        | inl w ↦ inl (w, ap (λ (s : Shelf). s.name) z ∙ there.1)
        | inr w ↦ inr (base, there.0, sym (ap (λ (s : Shelf). s.name) z), w)
      ]
      | inr z ↦ inr (t, z, refl, y)
    ]
