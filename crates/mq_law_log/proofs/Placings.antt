-- The puts of a sound manager's unit can be placed one after the other.
use Rattle.std.proofs.Common.{ℕ, ℤ, ◌≡◌, Bool, true, false, List, [], ◌∷◌, refl, ap, ◌∙◌, arith}
use Rattle.std.specs.Prelude.{Option, Some, None, not, nat_le, is_some, ◌||◌, ◌+◌, if◌then◌else◌, map, flat_map}
use Rattle.std.specs.List.{AllByRecursion}
use Rattle.std.specs.Str.{bytes_eq}
use Rattle.std.proofs.lemmas.Bool.Decides.{nat_tests}
use Rattle.mq_message.specs.declared.message.Ident.{Ident}
use Rattle.mq_message.specs.declared.message.Message.{Message}
use Rattle.mq_queue.specs.declared.row.Row.{Row}
use Rattle.mq_queue.specs.Rows.{same_ident, has_ident, keep, insert_row}
use Rattle.mq_queue.specs.Queues.{Lacks}
use Rattle.mq_queue.proofs.Edits.{same_turned}
use Rattle.mq_objects.specs.declared.object.LocalQueue.{LocalQueue}
use Rattle.mq_objects.specs.Names.{local_of}
use Rattle.mq_calls.specs.declared.state.Item.{Item}
use Rattle.mq_calls.specs.declared.state.Item.TheVariants.{Put, Take}
use Rattle.mq_calls.specs.State.{Plain, Queue, Which, Running, LogState}
use Rattle.mq_calls.specs.State.Which.{Among}
use Rattle.mq_calls.specs.State.Change.{Place as Places, Try, Leave}
use Rattle.mq_calls.specs.Reads.{stored, queue_in}
use Rattle.mq_calls.specs.Condition.{condition}
use Rattle.mq_calls.specs.Changes.{apply, apply_all, set_queue, placed_in, lane_of, new_row, kept_in, selects, try_if, made_due, depth_type}
use Rattle.mq_spec_manager.specs.Put.{placed}
use Rattle.mq_spec_manager.specs.Units.{taken_item}
use Rattle.mq_spec_log.specs.Applies.{fits, fits_local}
use Rattle.mq_law_log.specs.Keeps.{AreLaned, has_queue, IsNew, IsPlaceable, ArePlaceable}
use Rattle.mq_law_log.specs.Sound.{IsItem, item_ident, AreApart, IsLogSound}
use Rattle.mq_law_log.proofs.Rows.{bool_case, name_is}
use Rattle.mq_law_log.proofs.Ready.{lacks_kept}

-- Lanes stay in order.
lane_behind : (a b c : ℕ) → nat_le a b ≡ false → nat_le a c ≡ true → nat_le b c ≡ true
lane_behind a b c e f = grind (arith, nat_tests)

lane_before : (a b : ℕ) → nat_le a b ≡ false → nat_le b a ≡ true
lane_before a b e = grind (arith, nat_tests)

pub all_inserted : (P : Row → Type 0) (new : Row) (rows : List Row) → P new → AllByRecursion P rows → AllByRecursion P (insert_row new rows)
all_inserted P new [] n h = (n, tt)
all_inserted P new (row ∷ rows) n h = bool_case (nat_le row.place.lane new.place.lane) (λ b. AllByRecursion P (if b then row ∷ insert_row new rows else new ∷ row ∷ rows))
    (λ e. (h.0, all_inserted P new rows n h.1)) (λ e. (n, h))

all_later : (first lane : ℕ) (rows : List Row) → nat_le first lane ≡ false → AllByRecursion (λ (other : Row). nat_le first other.place.lane ≡ true) rows → AllByRecursion (λ (other : Row). nat_le lane other.place.lane ≡ true) rows
all_later first lane [] e h = tt
all_later first lane (row ∷ rows) e h = (lane_behind first lane row.place.lane e h.0, all_later first lane rows e h.1)

pub laned_inserted : (new : Row) (rows : List Row) → AreLaned rows → AreLaned (insert_row new rows)
laned_inserted new [] h = (tt, tt)
laned_inserted new (row ∷ rows) h = bool_case (nat_le row.place.lane new.place.lane)
    (λ b. nat_le row.place.lane new.place.lane ≡ b → AreLaned (if b then row ∷ insert_row new rows else new ∷ row ∷ rows))
    (λ y e. (all_inserted (λ (other : Row). nat_le row.place.lane other.place.lane ≡ true) new rows e h.0, laned_inserted new rows h.1))
    (λ y e. ((lane_before row.place.lane new.place.lane e, all_later row.place.lane new.place.lane rows e h.0), h)) refl

pub all_kept : (P : Row → Type 0) (t : Row → Bool) (rows : List Row) → AllByRecursion P rows → AllByRecursion P (keep t rows)
all_kept P t [] h = tt
all_kept P t (row ∷ rows) h = bool_case (t row) (λ b. AllByRecursion P (if b then row ∷ keep t rows else keep t rows)) (λ e. (h.0, all_kept P t rows h.1)) (λ e. all_kept P t rows h.1)

pub laned_kept : (t : Row → Bool) (rows : List Row) → AreLaned rows → AreLaned (keep t rows)
laned_kept t [] h = tt
laned_kept t (row ∷ rows) h = bool_case (t row) (λ b. AreLaned (if b then row ∷ keep t rows else keep t rows))
    (λ e. (all_kept (λ (other : Row). nat_le row.place.lane other.place.lane ≡ true) t rows h.0, laned_kept t rows h.1)) (λ e. laned_kept t rows h.1)

-- Queues that are set, found, mapped.
pub all_found : (P : Queue → Type 0) (name : List ℕ) (qs : List Queue) → P (queue_in name []) → AllByRecursion P qs → P (queue_in name qs)
all_found P name [] n h = n
all_found P name (q ∷ qs) n h = bool_case (bytes_eq name q.name) (λ b. P (if b then q else queue_in name qs)) (λ e. h.0) (λ e. all_found P name qs n h.1)

pub all_set : (P : Queue → Type 0) (new : Queue) (qs : List Queue) → P new → AllByRecursion P qs → AllByRecursion P (set_queue new qs)
all_set P new [] n h = (n, tt)
all_set P new (q ∷ qs) n h = bool_case (bytes_eq new.name q.name) (λ b. AllByRecursion P (if b then new ∷ qs else q ∷ set_queue new qs)) (λ e. (n, h.1)) (λ e. (h.0, all_set P new qs n h.1))

pub all_mapped : (P : Queue → Type 0) (f : Queue → Queue) → ((q : Queue) → P q → P (f q)) → (qs : List Queue) → AllByRecursion P qs → AllByRecursion P (map f qs)
all_mapped P f g [] h = tt
all_mapped P f g (q ∷ qs) h = (g q h.0, all_mapped P f g qs h.1)

pub has_mapped : (name : List ℕ) (which : Which) (qs : List Queue) → has_queue name (map (kept_in which) qs) ≡ has_queue name qs
has_mapped name which [] = refl
has_mapped name which (q ∷ qs) = ap (λ (b : Bool). bytes_eq name q.name || b) (has_mapped name which qs)

pub has_set : (name : List ℕ) (new : Queue) (qs : List Queue) → has_queue name qs ≡ true → has_queue name (set_queue new qs) ≡ true
has_set name new [] h = absurd (cc h)
has_set name new (q ∷ qs) h = bool_case (bytes_eq new.name q.name)
    (λ b. bytes_eq new.name q.name ≡ b → has_queue name (if b then new ∷ qs else q ∷ set_queue new qs) ≡ true)
    (λ y e. ap (λ (x : List ℕ). bytes_eq name x || has_queue name qs) (name_is new.name q.name e) ∙ h)
    (λ y e. bool_case (bytes_eq name q.name) (λ b. (b || has_queue name qs) ≡ true → (b || has_queue name (set_queue new qs)) ≡ true) (λ z w. refl) (λ z w. has_set name new qs w) h)
    refl

-- A put that is ready, wherever the log stands and whatever is placed or removed before it.
pub record IsReady (queue : List ℕ) (m : Message) (p : Plain) : Type 0 where
  pub there : has_queue queue p.queues ≡ true
  pub laned : AllByRecursion (λ (q : Queue). AreLaned q.rows) p.queues
  pub fit : fits queue m p.definitions ≡ true
  pub fresh : IsNew m.ident p

pub ready_placeable : (queue : List ℕ) (m : Message) (p : Plain) → IsReady queue m p → IsPlaceable queue m p
ready_placeable queue m p r = record {
  there = r.there;
  laned = all_found (λ (q : Queue). AreLaned q.rows) queue p.queues tt r.laned;
  fit = λ e. r.fit;
  fresh = λ e. r.fresh;
}

pub ready_left : (queue : List ℕ) (m : Message) (which : Which) (p : Plain) → IsReady queue m p → IsReady queue m (apply (Leave which) p)
ready_left queue m which p r = record {
  there = has_mapped queue which p.queues ∙ r.there;
  laned = all_mapped (λ (q : Queue). AreLaned q.rows) (kept_in which) (λ q h. laned_kept (λ (row : Row). not (selects which q.name row)) q.rows h) p.queues r.laned;
  fit = r.fit;
  fresh = record {
    rows = all_mapped (λ (q : Queue). Lacks m.ident q.rows) (kept_in which) (λ q h. lacks_kept (λ (row : Row). not (selects which q.name row)) m.ident q.rows h) p.queues r.fresh.rows;
    lists = r.fresh.lists;
  };
}

pub ready_placed : (queue from : List ℕ) (m new : Message) (p : Plain) → same_ident new.ident m.ident ≡ false → IsReady queue m p → IsReady queue m (apply (Places from new) p)
ready_placed queue from m new p e r =
    let lane : ℕ = lane_of (local_of from p.definitions) new.md.priority in
    record {
      there = has_set queue (placed_in lane new (stored from p)) p.queues r.there;
      laned = all_set (λ (q : Queue). AreLaned q.rows) (placed_in lane new (stored from p)) p.queues
          (laned_inserted (new_row lane ((stored from p).arrivals + 1) new) (stored from p).rows (all_found (λ (q : Queue). AreLaned q.rows) from p.queues tt r.laned)) r.laned;
      fit = r.fit;
      fresh = record {
        rows = all_set (λ (q : Queue). Lacks m.ident q.rows) (placed_in lane new (stored from p)) p.queues
            (all_inserted (λ (row : Row). has_ident m.ident row ≡ false) (new_row lane ((stored from p).arrivals + 1) new) (stored from p).rows e (all_found (λ (q : Queue). Lacks m.ident q.rows) from p.queues tt r.fresh.rows)) r.fresh.rows;
        lists = r.fresh.lists;
      };
    }

pub ready_tried : (queue from : List ℕ) (m : Message) (priority : ℤ) (p : Plain) → IsReady queue m p → IsReady queue m (apply (Try from priority) p)
ready_tried queue from m priority p r = bool_case (condition (local_of from p.definitions) priority p) (λ b. IsReady queue m (try_if b from p))
    (λ z. record {
      there = has_set queue (made_due (depth_type (local_of from p.definitions)) p.moment (stored from p)) p.queues r.there;
      laned = all_set (λ (q : Queue). AreLaned q.rows) (made_due (depth_type (local_of from p.definitions)) p.moment (stored from p)) p.queues (all_found (λ (q : Queue). AreLaned q.rows) from p.queues tt r.laned) r.laned;
      fit = r.fit;
      fresh = record {
        rows = all_set (λ (q : Queue). Lacks m.ident q.rows) (made_due (depth_type (local_of from p.definitions)) p.moment (stored from p)) p.queues (all_found (λ (q : Queue). Lacks m.ident q.rows) from p.queues tt r.fresh.rows) r.fresh.rows;
        lists = r.fresh.lists;
      };
    })
    (λ z. r)

-- the puts of a unit
abbrev pub ItemReady : Plain → Item → Type 0
ItemReady p (Put queue m) = IsReady queue m p
ItemReady p (Take queue ident persistent) = Unit {0}

pub all_ready_left : (which : Which) (items : List Item) (p : Plain) → AllByRecursion (ItemReady p) items → AllByRecursion (ItemReady (apply (Leave which) p)) items
all_ready_left which [] p h = tt
all_ready_left which (Put queue m ∷ items) p h = (ready_left queue m which p h.0, all_ready_left which items p h.1)
all_ready_left which (Take queue ident persistent ∷ items) p h = (tt, all_ready_left which items p h.1)

all_ready_placed : (from : List ℕ) (new : Message) (items : List Item) (p : Plain) → AllByRecursion (λ (other : Item). same_ident (item_ident other) new.ident ≡ false) items → AllByRecursion (ItemReady p) items
    → AllByRecursion (ItemReady (apply_all (placed from new) p)) items
all_ready_placed from new [] p a h = tt
all_ready_placed from new (Put queue m ∷ items) p a h =
    (ready_tried queue from m new.md.priority (apply (Places from new) p) (ready_placed queue from m new p (same_turned new.ident m.ident ∙ a.0) h.0), all_ready_placed from new items p a.1 h.1)
all_ready_placed from new (Take queue ident persistent ∷ items) p a h = (tt, all_ready_placed from new items p a.1 h.1)

pub puts_one_by_one : (items : List Item) (p : Plain) → AreApart items → AllByRecursion (ItemReady p) items → ArePlaceable items p
puts_one_by_one [] p a h = tt
puts_one_by_one (Put queue m ∷ items) p a h = (ready_placeable queue m p h.0, puts_one_by_one items (apply_all (placed queue m) p) a.1 (all_ready_placed queue m items p a.0 h.1))
puts_one_by_one (Take queue ident persistent ∷ items) p a h = puts_one_by_one items p a.1 h.1

-- behind all removals of a unit
pub ready_behind : (takes items : List Item) (p : Plain) → AllByRecursion (ItemReady p) items → AllByRecursion (ItemReady (apply_all (flat_map taken_item takes) p)) items
ready_behind [] items p h = h
ready_behind (Put queue m ∷ takes) items p h = ready_behind takes items p h
ready_behind (Take queue ident persistent ∷ takes) items p h = ready_behind takes items (apply (Leave (Among queue (ident ∷ []))) p) (all_ready_left (Among queue (ident ∷ [])) items p h)

-- what a sound manager gives
has_local : (q : Option LocalQueue) (m : Message) → fits_local q m ≡ true → is_some q ≡ true
has_local None m e = absurd (cc e)
has_local (Some q) m e = refl

pub sound_ready : (queue : List ℕ) (m : Message) (p : Plain) → IsLogSound p → fits queue m p.definitions ≡ true → IsNew m.ident p → IsReady queue m p
sound_ready queue m p s f n = record { there = s.stocked queue (has_local (local_of queue p.definitions) m f); laned = s.laned; fit = f; fresh = n }

item_ready : (item : Item) (p : Plain) → IsLogSound p → IsItem item p → ItemReady p item
item_ready (Put queue m) p s h = sound_ready queue m p s h.0 h.1
item_ready (Take queue ident persistent) p s h = tt

pub items_ready : (items : List Item) (p : Plain) → IsLogSound p → AllByRecursion (λ (item : Item). IsItem item p) items → AllByRecursion (ItemReady p) items
items_ready [] p s h = tt
items_ready (item ∷ items) p s h = (item_ready item p s h.0, items_ready items p s h.1)

-- wherever the log stands, up or down
pub ready_elsewhere : (queue : List ℕ) (m : Message) (running : Running) (log : LogState) (moment : ℕ) (p : Plain) → IsReady queue m p → IsReady queue m (record p { running = running; log = log; moment = moment })
ready_elsewhere queue m running log moment p r = record { there = r.there; laned = r.laned; fit = r.fit; fresh = record { rows = r.fresh.rows; lists = r.fresh.lists } }

pub all_elsewhere : (running : Running) (log : LogState) (moment : ℕ) (items : List Item) (p : Plain) → AllByRecursion (ItemReady p) items → AllByRecursion (ItemReady (record p { running = running; log = log; moment = moment })) items
all_elsewhere running log moment [] p h = tt
all_elsewhere running log moment (Put queue m ∷ items) p h = (ready_elsewhere queue m running log moment p h.0, all_elsewhere running log moment items p h.1)
all_elsewhere running log moment (Take queue ident persistent ∷ items) p h = (tt, all_elsewhere running log moment items p h.1)
