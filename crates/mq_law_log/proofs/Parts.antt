-- Parts that place and remove rows keep the law.
use Rattle.std.proofs.Common.{ℕ, ◌≡◌, Bool, true, false, List, [], ◌∷◌, refl, ap, sym, ◌∙◌, subst}
use Rattle.std.specs.Prelude.{Some, None, not, ◌&&◌, ◌||◌, if◌then◌else◌, flat_map, ◌++◌}
use Rattle.std.specs.List.{AllByRecursion}
use Rattle.std.specs.Str.{bytes_eq}
use Rattle.mq_message.specs.declared.message.Ident.{Ident}
use Rattle.mq_message.specs.declared.message.Message.{Message}
use Rattle.mq_queue.specs.declared.row.Row.{Row}
use Rattle.mq_queue.specs.Rows.{keep}
use Rattle.mq_queue.specs.Queues.{Lacks}
use Rattle.mq_calls.specs.declared.records.Add.{Add}
use Rattle.mq_calls.specs.declared.records.Remove.{Remove}
use Rattle.mq_calls.specs.declared.records.LogRecord.{LogRecord}
use Rattle.mq_calls.specs.declared.records.LogRecord.TheVariants as records
use Rattle.mq_calls.specs.declared.state.Item.{Item}
use Rattle.mq_calls.specs.declared.state.Item.TheVariants.{Put, Take}
use Rattle.mq_calls.specs.State.{Plain, Change}
use Rattle.mq_calls.specs.declared.state.Connection.{Connection}
use Rattle.mq_calls.specs.State.Which.{Among}
use Rattle.mq_calls.specs.State.Change.{Place as Places, Leave, CountIdent, EndUnit}
use Rattle.mq_calls.specs.Reads.{is_persistent}
use Rattle.mq_calls.specs.Changes.{apply, apply_all, selects}
use Rattle.mq_spec_manager.specs.Put.{placed, put_part}
use Rattle.mq_spec_manager.specs.Get.{taking_part}
use Rattle.mq_spec_manager.specs.Units.{adds_of, removes_of, record_of, placed_item, taken_item, commit_part, commit_changes}
use Rattle.mq_spec_manager.specs.Agents.{Landing, move_part, moved_record}
use Rattle.mq_message.specs.declared.message.Dest.{Dest}
use Rattle.mq_calls.specs.Images.{lasting}
use Rattle.mq_calls.specs.declared.image.Shelf.{Shelf}
use Rattle.mq_calls.specs.declared.image.Image.{Image}
use Rattle.mq_spec_log.specs.Shelves.{left, less_rows, on_all, shelved, added, added_all, removed, removed_all}
use Rattle.mq_spec_log.specs.Applies.{can_add, can_add_all, can_remove, can_remove_all, stands_on}
use Rattle.mq_law_log.specs.Keeps.{Told, Does, IsPlaceable, ArePlaceable, IsTakeable, AreTakeable, less_item}
use Rattle.mq_law_log.proofs.Rows.{bool_case, same_self}
use Rattle.mq_law_log.proofs.Shelves.{none_stands}
use Rattle.mq_law_log.proofs.Changes.{left_lasts, placed_lasts, placed_aside, placed_is_there, tried_lasts, nothing_cleared, unit_holds_aside}

-- One message placed, and its trigger tried.
pub placing_told : (queue : List ℕ) (m : Message) (p : Plain) → IsPlaceable queue m p → is_persistent m ≡ true
    → (can_add (record { queue = queue; message = m }) (lasting p) ≡ true) × (lasting (apply_all (placed queue m) p) ≡ added (record { queue = queue; message = m }) (lasting p))
placing_told queue m p h e = (
  ap (λ (b : Bool). b && not (stands_on m.ident (lasting p).shelves)) (h.fit e) ∙ ap (λ (b : Bool). not b) (none_stands p.channels.batches m.ident p.queues (h.fresh e).rows),
  tried_lasts queue m.md.priority (apply (Places queue m) p) (placed_is_there queue m p) ∙ placed_lasts queue m p h.laned e
      ∙ ap (λ (i : Image). shelved queue m i) (sym (nothing_cleared m.ident p (h.fresh e))),
)

pub placing_aside : (queue : List ℕ) (m : Message) (p : Plain) → IsPlaceable queue m p → is_persistent m ≡ false → lasting (apply_all (placed queue m) p) ≡ lasting p
placing_aside queue m p h e = tried_lasts queue m.md.priority (apply (Places queue m) p) (placed_is_there queue m p) ∙ placed_aside queue m p h.there e

-- A put outside units, persistent or not.
pub put_does : (c : Connection) (queue : List ℕ) (m : Message) (p : Plain) → IsPlaceable queue m p → Does (put_part false c queue m) p
put_does c queue m p h =
    let r : LogRecord = records.Unit (record { queue = queue; message = m } ∷ []) [] in
    let g : IsPlaceable queue m (apply CountIdent p) = record { there = h.there; laned = h.laned; fit = h.fit; fresh = λ w. record { rows = (h.fresh w).rows; lists = (h.fresh w).lists } } in
    bool_case (is_persistent m)
    (λ b. is_persistent m ≡ b → Told (if b then Some r else None) p (lasting (apply_all (placed queue m) (apply CountIdent p))))
    (λ e z. (ap (λ (b : Bool). b && true) (placing_told queue m p h e).0, (placing_told queue m (apply CountIdent p) g e).1))
    (λ e z. placing_aside queue m (apply CountIdent p) g e)
    refl

-- a put under syncpoint
pub pend_does : (c : Connection) (queue : List ℕ) (m : Message) (p : Plain) → Does (put_part true c queue m) p
pend_does c queue m p = refl

-- All puts of a unit.
pub placings_told : (items : List Item) (p : Plain) → ArePlaceable items p
    → (can_add_all (adds_of items) (lasting p) ≡ true) × (lasting (apply_all (flat_map placed_item items) p) ≡ added_all (adds_of items) (lasting p))
placings_told [] p h = (refl, refl)
placings_told (Put queue m ∷ items) p h = bool_case (is_persistent m)
    (λ b. is_persistent m ≡ b → (can_add_all (if b then record { queue = queue; message = m } ∷ adds_of items else adds_of items) (lasting p) ≡ true)
    × (lasting (apply_all (flat_map placed_item items) (apply_all (placed queue m) p)) ≡ added_all (if b then record { queue = queue; message = m } ∷ adds_of items else adds_of items) (lasting p)))
    (λ e z. (
      ap (λ (b : Bool). b && can_add_all (adds_of items) (added (record { queue = queue; message = m }) (lasting p))) (placing_told queue m p h.0 e).0
          ∙ subst (λ (i : Image). can_add_all (adds_of items) i ≡ true) (placing_told queue m p h.0 e).1 (placings_told items (apply_all (placed queue m) p) h.1).0,
      (placings_told items (apply_all (placed queue m) p) h.1).1 ∙ ap (added_all (adds_of items)) (placing_told queue m p h.0 e).1,
    ))
    (λ e z. (
      subst (λ (i : Image). can_add_all (adds_of items) i ≡ true) (placing_aside queue m p h.0 e) (placings_told items (apply_all (placed queue m) p) h.1).0,
      (placings_told items (apply_all (placed queue m) p) h.1).1 ∙ ap (added_all (adds_of items)) (placing_aside queue m p h.0 e),
    ))
    refl
placings_told (Take queue ident persistent ∷ items) p h = placings_told items p h

-- Rows go, one after the other or at once.
none_selected : (queue name : List ℕ) (ident : Ident) (rows : List Row) → Lacks ident rows → keep (λ (row : Row). not (selects (Among queue (ident ∷ [])) name row)) rows ≡ rows
none_selected queue name ident [] h = refl
none_selected queue name ident (row ∷ rows) h = ap (λ (b : Bool). if not (bytes_eq name queue && (b || false)) then row ∷ keep (λ (x : Row). not (selects (Among queue (ident ∷ [])) name x)) rows else keep (λ (x : Row). not (selects (Among queue (ident ∷ [])) name x)) rows) h.0
    ∙ bool_case (bytes_eq name queue) (λ b. (if not (b && false) then row ∷ keep (λ (x : Row). not (selects (Among queue (ident ∷ [])) name x)) rows else keep (λ (x : Row). not (selects (Among queue (ident ∷ [])) name x)) rows) ≡ row ∷ rows)
    (λ e. ap (λ (x : List Row). row ∷ x) (none_selected queue name ident rows h.1)) (λ e. ap (λ (x : List Row). row ∷ x) (none_selected queue name ident rows h.1))

none_gone : (queue : List ℕ) (ident : Ident) (ss : List Shelf) → AllByRecursion (λ (s : Shelf). Lacks ident s.rows) ss → on_all (less_rows (Among queue (ident ∷ []))) ss ≡ ss
none_gone queue ident [] h = refl
none_gone queue ident (s ∷ ss) h = ap (λ (x : List Row). record s { rows = x } ∷ on_all (less_rows (Among queue (ident ∷ []))) ss) (none_selected queue s.name ident s.rows h.0)
    ∙ ap (λ (x : List Shelf). s ∷ x) (none_gone queue ident ss h.1)

-- one that lasts is removed by the record, one that doesn't is none of the image's
pub leaving_told : (persistent : Bool) (queue : List ℕ) (ident : Ident) (i : Image) → IsTakeable persistent queue ident i → left (Among queue (ident ∷ [])) i ≡ less_item persistent queue ident i
leaving_told true queue ident i h = refl
leaving_told false queue ident i h = ap (λ (x : List Shelf). record i { shelves = x }) (none_gone queue ident i.shelves h)

pub takings_told : (items : List Item) (p : Plain) → AreTakeable items (lasting p)
    → (can_remove_all (removes_of items) (lasting p) ≡ true) × (lasting (apply_all (flat_map taken_item items) p) ≡ removed_all (removes_of items) (lasting p))
takings_told [] p h = (refl, refl)
takings_told (Put queue m ∷ items) p h = takings_told items p h
takings_told (Take queue ident true ∷ items) p h = (
  ap (λ (b : Bool). b && can_remove_all (removes_of items) (removed (record { queue = queue; ident = ident }) (lasting p))) h.0
      ∙ subst (λ (i : Image). can_remove_all (removes_of items) i ≡ true) (left_lasts queue (ident ∷ []) p)
      (takings_told items (apply (Leave (Among queue (ident ∷ []))) p) (subst (λ (i : Image). AreTakeable items i) (sym (left_lasts queue (ident ∷ []) p)) h.1)).0,
  (takings_told items (apply (Leave (Among queue (ident ∷ []))) p) (subst (λ (i : Image). AreTakeable items i) (sym (left_lasts queue (ident ∷ []) p)) h.1)).1
      ∙ ap (removed_all (removes_of items)) (left_lasts queue (ident ∷ []) p),
)
takings_told (Take queue ident false ∷ items) p h = (
  subst (λ (i : Image). can_remove_all (removes_of items) i ≡ true) (left_lasts queue (ident ∷ []) p ∙ leaving_told false queue ident (lasting p) h.0)
      (takings_told items (apply (Leave (Among queue (ident ∷ []))) p) (subst (λ (i : Image). AreTakeable items i) (sym (left_lasts queue (ident ∷ []) p ∙ leaving_told false queue ident (lasting p) h.0)) h.1)).0,
  (takings_told items (apply (Leave (Among queue (ident ∷ []))) p) (subst (λ (i : Image). AreTakeable items i) (sym (left_lasts queue (ident ∷ []) p ∙ leaving_told false queue ident (lasting p) h.0)) h.1)).1
      ∙ ap (removed_all (removes_of items)) (left_lasts queue (ident ∷ []) p ∙ leaving_told false queue ident (lasting p) h.0),
)

pub applied_append : (a b : List Change) (p : Plain) → apply_all (a ++ b) p ≡ apply_all b (apply_all a p)
applied_append [] b p = refl
applied_append (c ∷ cs) b p = applied_append cs b (apply c p)

-- a record of what is added and removed, or none where it is nothing
record_told : (adds : List Add) (removes : List Remove) (p : Plain) (new : Image) → can_remove_all removes (lasting p) ≡ true → can_add_all adds (removed_all removes (lasting p)) ≡ true
    → new ≡ added_all adds (removed_all removes (lasting p)) → Told (record_of adds removes) p new
record_told [] [] p new a b e = e
record_told [] (r ∷ rs) p new a b e = (ap (λ (x : Bool). x && true) a, e)
record_told (x ∷ xs) rs p new a b e = (ap (λ (y : Bool). y && can_add_all (x ∷ xs) (removed_all rs (lasting p))) a ∙ b, e)

commit_done : (more : List Change) (c : Connection) (p : Plain) → ((q : Plain) → lasting (apply_all more q) ≡ lasting q)
    → lasting (apply_all (commit_part more c).changes p) ≡ lasting (apply_all (flat_map placed_item c.unit) (apply_all (flat_map taken_item c.unit) p))
commit_done more c p aside = ap lasting (applied_append (commit_changes c) more p) ∙ aside (apply_all (commit_changes c) p)
    ∙ ap lasting (applied_append (flat_map taken_item c.unit ++ flat_map placed_item c.unit) (EndUnit c.number ∷ []) p)
    ∙ ap lasting (applied_append (flat_map taken_item c.unit) (flat_map placed_item c.unit) p)

-- The end of a unit: MQCMIT, and MQDISC with what it does beside.
pub commit_does : (more : List Change) (c : Connection) (p : Plain) → ((q : Plain) → lasting (apply_all more q) ≡ lasting q) → AreTakeable c.unit (lasting p)
    → ArePlaceable c.unit (apply_all (flat_map taken_item c.unit) p) → Does (commit_part more c) p
commit_does more c p aside take place =
    record_told (adds_of c.unit) (removes_of c.unit) p (lasting (apply_all (commit_part more c).changes p))
    (takings_told c.unit p take).0
    (subst (λ (i : Image). can_add_all (adds_of c.unit) i ≡ true) (takings_told c.unit p take).1 (placings_told c.unit (apply_all (flat_map taken_item c.unit) p) place).0)
    (commit_done more c p aside ∙ (placings_told c.unit (apply_all (flat_map taken_item c.unit) p) place).1 ∙ ap (added_all (adds_of c.unit)) (takings_told c.unit p take).1)

-- A handler's move.
pub move_does : (from : List ℕ) (to : Dest) (bare : Bool) (l : Landing) (p : Plain) → IsTakeable (is_persistent l.message) from l.message.ident (lasting p)
    → IsPlaceable l.queue l.message (apply (Leave (Among from (l.message.ident ∷ []))) p) → Does (move_part from to bare l) p
move_does from to bare l p take place =
    let s : Plain = apply (Leave (Among from (l.message.ident ∷ []))) p in
    let a : Add = record { queue = l.queue; message = l.message } in
    let r : Remove = record { queue = from; ident = l.message.ident } in
    bool_case (is_persistent l.message)
    (λ b. is_persistent l.message ≡ b → IsTakeable b from l.message.ident (lasting p) → Told (if b then Some (moved_record from l) else None) p (lasting (apply_all (placed l.queue l.message) s)))
    (λ y e t. (
      ap (λ (b : Bool). (b && can_remove r (lasting p)) && can_add a (removed r (lasting p))) (same_self l.message.ident)
          ∙ ap (λ (b : Bool). b && can_add a (removed r (lasting p))) t
          ∙ subst (λ (i : Image). can_add a i ≡ true) (left_lasts from (l.message.ident ∷ []) p) (placing_told l.queue l.message s place e).0,
      (placing_told l.queue l.message s place e).1 ∙ ap (added a) (left_lasts from (l.message.ident ∷ []) p),
    ))
    (λ y e t. placing_aside l.queue l.message s place e ∙ left_lasts from (l.message.ident ∷ []) p ∙ leaving_told false from l.message.ident (lasting p) t)
    refl take

-- a get under syncpoint
pub taking_does : (c : Connection) (queue : List ℕ) (row : Row) (p : Plain) → Does (taking_part true c queue row) p
taking_does c queue row p = unit_holds_aside (Among queue (row.message.ident ∷ [])) c.number p
