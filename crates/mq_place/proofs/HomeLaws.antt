-- Where idents stand stays noted, whatever is done to the queues.
use Rattle.std.proofs.Common.{◌≡◌, ℕ, ◌+◌, ◌-◌, ◌<◌, ◌≤◌, Bool, true, false, cond, List, [], ◌∷◌, ◌++◌, refl, sym, ap, subst, ◌∙◌, arith, Bor}
use Rattle.std.specs.Prelude.{Option, Some, None, map, find, not, nat_lt, ◌&&◌, ◌||◌, option_map, option_copied, is_some, IfSome}
use Rattle.std.specs.List.{AllByRecursion}
use Rattle.std.specs.Str.{bytes_eq}
use Rattle.std.proofs.lemmas.Bool.Decides.{nat_tests}
use Rattle.mq_message.specs.declared.message.Ident.{Ident}
use Rattle.mq_message.specs.declared.message.Message.{Message}
use Rattle.mq_message.specs.declared.place.Holder.{Holder}
use Rattle.mq_queue.specs.declared.row.Row.{Row}
use Rattle.mq_queue.specs.Rows.{same_ident, has_ident, is_free, keep}
use Rattle.mq_queue.specs.Queues.{Lacks, lane_of, freed, message_of}
use Rattle.mq_queue.proofs.Edits.{same_is, same_turned}
use Rattle.mq_queue.proofs.QueueLaws.{all_insert, all_keep, all_retag, all_imply}
pub use Rattle.mq_queue.proofs.Edits.{same_self}
use Rattle.mq_calls.specs.State.{Queue, Which}
use Rattle.mq_calls.specs.State.Which.{Among}
use Rattle.mq_calls.specs.Changes.{selects, retag_if, release_if, kept_in, held_in, released_in, new_row}
use Rattle.mq_place.specs.States.{QueueState, has_name, state_in, change_state, on_queue, on_queues, without_state, expecting, unpended, arrived, fresh_state, or_fresh, state_or, IsNowhere, CanPlace, IsUnnamed, AreApart, Located, row_found, row_at}
use Rattle.mq_place.specs.Slots.{rows_of_slot}
use Rattle.mq_place.specs.Homes.{is_home, IsHome, AreHome, all_pending}
use Rattle.mq_place.proofs.NameLaws.{name_is, name_self}

-- Idents.

-- All queues, or one, are changed.

abbrev pub Homes : Type 0
Homes = Ident → Option (List ℕ)

module _ (home new : Homes) (f : QueueState → QueueState) where
  pub home_map : ((s : QueueState) → IsHome home s → IsHome new (f s)) → (states : List QueueState) → AreHome home states → AreHome new (map f states)
  home_map step [] all = tt
  home_map step (s ∷ ss) all = (step s all.0, home_map step ss all.1)

  change_step : (name : List ℕ) (s : QueueState) (ss : List QueueState) → IsHome new s → AreHome new ss → AreHome new (change_state name f ss) → (b : Bool) → (b ≡ true → IsHome new (f s))
      → AreHome new (cond b (f s ∷ ss) (s ∷ change_state name f ss))
  change_step name s ss own others changed true step = (step refl, others)
  change_step name s ss own others changed false step = (own, changed)

  all_kept : ((s : QueueState) → IsHome home s → IsHome new s) → (ss : List QueueState) → AreHome home ss → AreHome new ss
  all_kept keeps [] all = tt
  all_kept keeps (s ∷ ss) all = (keeps s all.0, all_kept keeps ss all.1)

  pub home_change : (name : List ℕ) → ((s : QueueState) → has_name name s ≡ true → IsHome home s → IsHome new (f s)) → ((s : QueueState) → IsHome home s → IsHome new s)
      → (states : List QueueState) → AreHome home states → AreHome new (change_state name f states)
  home_change name step keeps [] all = tt
  home_change name step keeps (s ∷ ss) all =
      change_step name s ss (keeps s all.0) (all_kept keeps ss all.1) (home_change name step keeps ss all.1) (has_name name s) (λ e. step s e all.0)

-- a map that says the same
pub home_same : (home new : Homes) → ((ident : Ident) → new ident ≡ home ident) → (states : List QueueState) → AreHome home states → AreHome new states
home_same home new same [] all = tt
home_same home new same (s ∷ ss) all = (all_imply (λ (row : Row). home row.message.ident ≡ Some s.queue.name) (λ (row : Row). new row.message.ident ≡ Some s.queue.name) (λ row e. same row.message.ident ∙ e) s.queue.rows all.0, home_same home new same ss all.1)

-- rows that stay, or have another holder
module _ (home : Homes) where
  pub same_rows : (name : List ℕ) (f : QueueState → QueueState) → ((s : QueueState) → IsHome home s → IsHome home (f s)) → (states : List QueueState) → AreHome home states → AreHome home (change_state name f states)
  same_rows name f step = home_change home home f name (λ s e. step s) (λ s h. h)

  retag_home : (b : Bool) (by : Option Holder) (name : List ℕ) (row : Row) → home row.message.ident ≡ Some name → home (retag_if b by row).message.ident ≡ Some name
  retag_home true by name row e = e
  retag_home false by name row e = e

  pub held_home : (which : Which) (by : Holder) (states : List QueueState) → AreHome home states → AreHome home (on_queues (held_in which by) states)
  held_home which by = home_map home home (on_queue (held_in which by)) (λ s h.
      all_retag (λ (row : Row). home row.message.ident ≡ Some s.queue.name) (λ (row : Row). home row.message.ident ≡ Some s.queue.name) _
      (λ row e. retag_home (selects which s.queue.name row && is_free row) (Some by) s.queue.name row e) s.queue.rows h)

  freed_home : (counted : Bool) (name : List ℕ) (row : Row) → home row.message.ident ≡ Some name → home (freed counted row).message.ident ≡ Some name
  freed_home true name row e = e
  freed_home false name row e = e

  release_home : (b counted : Bool) (name : List ℕ) (row : Row) → home row.message.ident ≡ Some name → home (release_if b counted row).message.ident ≡ Some name
  release_home true counted name row e = freed_home counted name row e
  release_home false counted name row e = e

  pub released_home : (which : Which) (counted : Bool) (states : List QueueState) → AreHome home states → AreHome home (on_queues (released_in which counted) states)
  released_home which counted = home_map home home (on_queue (released_in which counted)) (λ s h.
      all_retag (λ (row : Row). home row.message.ident ≡ Some s.queue.name) (λ (row : Row). home row.message.ident ≡ Some s.queue.name) _
      (λ row e. release_home (selects which s.queue.name row && not (is_free row)) counted s.queue.name row e) s.queue.rows h)

  pub kept_home : (which : Which) (states : List QueueState) → AreHome home states → AreHome home (on_queues (kept_in which) states)
  kept_home which = home_map home home (on_queue (kept_in which)) (λ s h.
      all_keep (λ (row : Row). home row.message.ident ≡ Some s.queue.name) (λ (row : Row). not (selects which s.queue.name row)) s.queue.rows h)

  pub pushed_home : (name : List ℕ) (prioritized : Bool) (states : List QueueState) → AreHome home states → AreHome home (states ++ fresh_state name prioritized ∷ [])
  pushed_home name prioritized [] all = (tt, tt)
  pushed_home name prioritized (s ∷ ss) all = (all.0, pushed_home name prioritized ss all.1)

  without_step : (s : QueueState) (ss : List QueueState) (b : Bool) → IsHome home s → AreHome home ss → AreHome home (cond b (s ∷ ss) ss)
  without_step s ss true own all = (own, all)
  without_step s ss false own all = all

  pub without_home : (name : List ℕ) (states : List QueueState) → AreHome home states → AreHome home (without_state name states)
  without_home name [] all = tt
  without_home name (s ∷ ss) all = without_step s (without_state name ss) (not (has_name name s)) all.0 (without_home name ss all.1)

-- A message is placed, and its queue noted.

module _ (home new : Homes) (name : List ℕ) (message : Message) (noted : (other : Ident) → new other ≡ cond (same_ident message.ident other) (Some name) (home other)) where
  other_rows : (queue : List ℕ) (rows : List Row) → Lacks message.ident rows → AllByRecursion (λ (row : Row). home row.message.ident ≡ Some queue) rows → AllByRecursion (λ (row : Row). new row.message.ident ≡ Some queue) rows
  other_rows queue [] lacks all = tt
  other_rows queue (row ∷ rows) lacks all =
      let other = same_turned message.ident row.message.ident ∙ lacks.0 in
      (noted row.message.ident ∙ (λ i. cond (other i) (Some name) (all.0 i)), other_rows queue rows lacks.1 all.1)

  new_home : (s : QueueState) → has_name name s ≡ true → new message.ident ≡ Some s.queue.name
  new_home s e = let self = same_self message.ident in noted message.ident ∙ (λ i. cond (self i) (Some (name_is name s.queue.name e i)) (home message.ident))

  place_step : (s : QueueState) (ss changed : List QueueState) → Lacks message.ident s.queue.rows → IsHome home s → AreHome new ss → AreHome new changed → (b : Bool) → has_name name s ≡ b
      → AreHome new (cond b (arrived message s ∷ ss) (s ∷ changed))
  place_step s ss changed lacks own others rest true e =
      (all_insert (λ (row : Row). new row.message.ident ≡ Some s.queue.name) (new_row (lane_of s.by_priority message) (s.queue.arrivals + 1) message) s.queue.rows (new_home s e) (other_rows s.queue.name s.queue.rows lacks own), others)
  place_step s ss changed lacks own others rest false e = (other_rows s.queue.name s.queue.rows lacks own, rest)

  others_home : (states : List QueueState) → IsNowhere message.ident states → AreHome home states → AreHome new states
  others_home [] n all = tt
  others_home (s ∷ ss) n all = (other_rows s.queue.name s.queue.rows n.0 all.0, others_home ss n.1 all.1)

  pub placed_home : (states : List QueueState) → IsNowhere message.ident states → AreHome home states → AreHome new (change_state name (arrived message) states)
  placed_home [] n all = tt
  placed_home (s ∷ ss) n all = place_step s ss (change_state name (arrived message) ss) n.0 all.0 (others_home ss n.1 all.1) (placed_home ss n.1 all.1) (has_name name s) refl

-- A row is taken out, and its note dropped where it is of that queue.

module _ (home new : Homes) (name : List ℕ) (ident : Ident) (dropped : (other : Ident) → new other ≡ cond (same_ident ident other && is_home name (home ident)) None (home other)) where
  stays : (queue : List ℕ) (row : Row) → home row.message.ident ≡ Some queue → not (bytes_eq queue name && (same_ident row.message.ident ident || false)) ≡ true → new row.message.ident ≡ Some queue
  stays queue row own kept = dropped row.message.ident ∙ by (same_ident ident row.message.ident) refl
    where
      none : (b : Bool) → (b && false) ≡ false
      none true = refl
      none false = refl

      here : same_ident ident row.message.ident ≡ true → (b : Bool) → is_home name (home ident) ≡ b → cond b None (home row.message.ident) ≡ Some queue
      here e false h = own
      here e true h =
          let is : ident ≡ row.message.ident = same_is ident row.message.ident e in
          let homed : home ident ≡ Some queue = ap home is ∙ own in
          let same : bytes_eq name queue ≡ true = sym (ap (is_home name) homed) ∙ h in
          let named : name ≡ queue = name_is name queue same in
          let back : bytes_eq queue name ≡ true = ap (bytes_eq queue) named ∙ name_self queue in
          let swapped : same_ident row.message.ident ident ≡ true = same_turned row.message.ident ident ∙ e in
          let gone : false ≡ true = (λ i. not (sym back i && (sym swapped i || false))) ∙ kept in
          absurd cc

      by : (a : Bool) → same_ident ident row.message.ident ≡ a → cond (a && is_home name (home ident)) None (home row.message.ident) ≡ Some queue
      by false e = own
      by true e = here e (is_home name (home ident)) refl

  keep_stays : (queue : List ℕ) (row : Row) (rows : List Row) → home row.message.ident ≡ Some queue → AllByRecursion (λ (r : Row). new r.message.ident ≡ Some queue) rows
      → (b : Bool) → not (bytes_eq queue name && (same_ident row.message.ident ident || false)) ≡ b → AllByRecursion (λ (r : Row). new r.message.ident ≡ Some queue) (cond b (row ∷ rows) rows)
  keep_stays queue row rows own rest true e = (stays queue row own e, rest)
  keep_stays queue row rows own rest false e = rest

  rows_stay : (queue : List ℕ) (rows : List Row) → AllByRecursion (λ (row : Row). home row.message.ident ≡ Some queue) rows
      → AllByRecursion (λ (row : Row). new row.message.ident ≡ Some queue) (keep (λ (row : Row). not (selects (Among name (ident ∷ [])) queue row)) rows)
  rows_stay queue [] all = tt
  rows_stay queue (row ∷ rows) all = keep_stays queue row _ all.0 (rows_stay queue rows all.1) (not (selects (Among name (ident ∷ [])) queue row)) refl

  pub removed_home : (states : List QueueState) → AreHome home states → AreHome new (on_queues (kept_in (Among name (ident ∷ []))) states)
  removed_home = home_map home new (on_queue (kept_in (Among name (ident ∷ [])))) (λ s h. rows_stay s.queue.name s.queue.rows h)

-- Uncommitted puts.

pub pending_same : (f : QueueState → QueueState) → ((s : QueueState) → (f s).pending ≡ s.pending) → (states : List QueueState) → all_pending (map f states) ≡ all_pending states
pending_same f e [] = refl
pending_same f e (s ∷ ss) = let first = e s in let rest = pending_same f e ss in λ i. first i + rest i

pending_step : (f : QueueState → QueueState) (more : ℕ) (s : QueueState) (ss changed : List QueueState) → (f s).pending ≤ s.pending + more → all_pending changed ≤ all_pending ss + more → (b : Bool)
    → all_pending (cond b (f s ∷ ss) (s ∷ changed)) ≤ all_pending (s ∷ ss) + more
pending_step f more s ss changed first rest true = omega (arith, first)
pending_step f more s ss changed first rest false = omega (arith, rest)

pub pending_most : (name : List ℕ) (f : QueueState → QueueState) (more : ℕ) → ((s : QueueState) → (f s).pending ≤ s.pending + more) → (states : List QueueState) → all_pending (change_state name f states) ≤ all_pending states + more
pending_most name f more e [] = omega arith
pending_most name f more e (s ∷ ss) = pending_step f more s ss (change_state name f ss) (e s) (pending_most name f more e ss) (has_name name s)

fewer_step : (name : List ℕ) (f : QueueState → QueueState) (s t : QueueState) (ss changed : List QueueState) → ((u : QueueState) → 0 < u.pending → (f u).pending + 1 ≡ u.pending) → 0 < t.pending
    → (state_in name ss ≡ Some t → all_pending changed + 1 ≡ all_pending ss) → (b : Bool) → cond b (Some s) (state_in name ss) ≡ Some t → all_pending (cond b (f s ∷ ss) (s ∷ changed)) + 1 ≡ all_pending (s ∷ ss)
fewer_step name f s t ss changed less waits rest true e =
    let is : s ≡ t = grind (arith, e) in
    let one = less s (subst (λ (u : QueueState). 0 < u.pending) (sym is) waits) in
    omega (arith, one)
fewer_step name f s t ss changed less waits rest false e = let one = rest e in omega (arith, one)

-- one that waits there waits no longer
pub pending_fewer : (name : List ℕ) (f : QueueState → QueueState) → ((u : QueueState) → 0 < u.pending → (f u).pending + 1 ≡ u.pending) → (states : List QueueState) (t : QueueState) → state_in name states ≡ Some t → 0 < t.pending
    → all_pending (change_state name f states) + 1 ≡ all_pending states
pending_fewer name f less [] t e waits = absurd cc
pending_fewer name f less (s ∷ ss) t e waits = fewer_step name f s t ss (change_state name f ss) less waits (λ h. pending_fewer name f less ss t h waits) (has_name name s) e

pub pending_pushed : (name : List ℕ) (prioritized : Bool) (states : List QueueState) → all_pending (states ++ fresh_state name prioritized ∷ []) ≡ all_pending states
pending_pushed name prioritized [] = refl
pending_pushed name prioritized (s ∷ ss) = ap (λ n. s.pending + n) (pending_pushed name prioritized ss)

left_step : (s : QueueState) (ss kept : List QueueState) → all_pending kept ≤ all_pending ss → (b : Bool) → all_pending (cond b (s ∷ kept) kept) ≤ all_pending (s ∷ ss)
left_step s ss kept le true = omega (arith, le)
left_step s ss kept le false = omega (arith, le)

pub pending_left : (name : List ℕ) (states : List QueueState) → all_pending (without_state name states) ≤ all_pending states
pending_left name [] = omega arith
pending_left name (s ∷ ss) = left_step s ss (without_state name ss) (pending_left name ss) (not (has_name name s))

-- What is kept of a manager's queues.
abbrev pub AreNoted : Homes → List QueueState → ℕ → ℕ → Type 0
AreNoted home states expected spare = AreHome home states × (all_pending states ≤ expected) × (expected ≤ spare)

pub noted : (home : Homes) (states next new : List QueueState) (expected spare : ℕ) → AreNoted home states expected spare → new ≡ next → AreHome home next → all_pending next ≤ all_pending states → AreNoted home new expected spare
noted home states next new expected spare n is homes fewer = (subst (AreHome home) (sym is) homes, omega (arith, ap all_pending is, fewer, n.1), n.2)

-- a change of one queue whose rows stay
pub noted_one : (home : Homes) (name : List ℕ) (f : QueueState → QueueState) → ((s : QueueState) → IsHome home s → IsHome home (f s)) → ((s : QueueState) → (f s).pending ≤ s.pending) → (states new : List QueueState) (expected spare : ℕ)
    → AreNoted home states expected spare → new ≡ change_state name f states → AreNoted home new expected spare
noted_one home name f step less states new expected spare n is =
    let most = pending_most name f 0 (λ s. omega (arith, less s)) states in
    noted home states (change_state name f states) new expected spare n is (same_rows home name f step states n.0) (omega (arith, most))

-- a change of all queues as the plain manager sees them
pub noted_all : (home : Homes) (g : Queue → Queue) (states new : List QueueState) (expected spare : ℕ) → AreNoted home states expected spare → new ≡ on_queues g states → AreHome home (on_queues g states) → AreNoted home new expected spare
noted_all home g states new expected spare n is homes =
    let same = pending_same (on_queue g) (λ s. refl) states in
    noted home states (on_queues g states) new expected spare n is homes (omega (arith, same))

-- where no queue has the name nothing is changed
pub absent_same : (name : List ℕ) (f : QueueState → QueueState) (states : List QueueState) → state_in name states ≡ None → change_state name f states ≡ states
absent_same name f [] e = refl
absent_same name f (s ∷ ss) e = at (has_name name s) e (absent_same name f ss)
  where
    at : (b : Bool) → cond b (Some s) (state_in name ss) ≡ None → (state_in name ss ≡ None → change_state name f ss ≡ ss) → cond b (f s ∷ ss) (s ∷ change_state name f ss) ≡ s ∷ ss
    at true e rest = absurd cc
    at false e rest = ap (λ (qs : List QueueState). s ∷ qs) (rest e)

-- a put waits: its queue is there
pub waiting : (name : List ℕ) (o : Option QueueState) → 0 < (or_fresh name o).pending → (t : QueueState) × (o ≡ Some t) × (0 < t.pending)
waiting name None w = absurd (omega (arith, w))
waiting name (Some s) w = (s, refl, w)

pub not_waiting : (name : List ℕ) (message : Message) (o : Option QueueState) → (or_fresh name o).pending ≤ 0 → IfSome o (CanPlace message) → o ≡ None
not_waiting name message None w can = refl
not_waiting name message (Some s) w can = absurd (omega (arith, w, can.expected))

-- The row of an ident, by its queue's note.

-- a queue of that name has a row with the ident
abbrev pub row_found_in : Ident → List ℕ → List QueueState → Bool
row_found_in ident name [] = false
row_found_in ident name (s ∷ ss) = (has_name name s && is_some (find (has_ident ident) s.queue.rows)) || row_found_in ident name ss

home_step : (home : Homes) (ident : Ident) (name : List ℕ) (x row : Row) (xs : List Row) → home x.message.ident ≡ Some name → (b : Bool) → has_ident ident x ≡ b → cond b (Some x) (find (has_ident ident) xs) ≡ Some row
    → (find (has_ident ident) xs ≡ Some row → home ident ≡ Some name) → home ident ≡ Some name
home_step home ident name x row xs own true h e rest = ap home (sym (same_is x.message.ident ident h)) ∙ own
home_step home ident name x row xs own false h e rest = rest e

found_home : (home : Homes) (ident : Ident) (name : List ℕ) (rows : List Row) (row : Row) → AllByRecursion (λ (r : Row). home r.message.ident ≡ Some name) rows → find (has_ident ident) rows ≡ Some row → home ident ≡ Some name
found_home home ident name [] row all e = absurd cc
found_home home ident name (x ∷ xs) row all e = home_step home ident name x row xs all.0 (has_ident ident x) refl e (found_home home ident name xs row all.1)

row_step : (home : Homes) (ident : Ident) (s : QueueState) (rest : Option Located) (r : Located) → IsHome home s → (o : Option Row) → find (has_ident ident) s.queue.rows ≡ o → row_found o s.queue.name rest ≡ Some r
    → (rest ≡ Some r → home ident ≡ Some r.name) → home ident ≡ Some r.name
row_step home ident s rest r own None h e next = next e
row_step home ident s rest r own (Some row) h e next =
    let is : record { name = s.queue.name; row = row } ≡ r = some_is _ r e in
    found_home home ident s.queue.name s.queue.rows row own h ∙ ap (λ (x : Located). Some x.name) is
  where
    some_is : (a b : Located) → Some a ≡ Some b → a ≡ b
    some_is a b e = grind (arith, e)

pub row_homed : (home : Homes) (ident : Ident) (states : List QueueState) (r : Located) → AreHome home states → row_at ident states ≡ Some r → home ident ≡ Some r.name
row_homed home ident [] r all e = absurd cc
row_homed home ident (s ∷ ss) r all e = row_step home ident s (row_at ident ss) r all.0 (find (has_ident ident) s.queue.rows) refl e (row_homed home ident ss r all.1)

-- no note, no row
pub no_home : (home : Homes) (ident : Ident) (states : List QueueState) → AreHome home states → home ident ≡ None → option_map (λ (r : Located). r.name) (row_at ident states) ≡ None
no_home home ident states all e = by (row_at ident states) refl
  where
    by : (o : Option Located) → row_at ident states ≡ o → option_map (λ (r : Located). r.name) o ≡ None
    by None h = refl
    by (Some r) h = absurd (let t : None ≡ Some r.name = sym e ∙ row_homed home ident states r all h in cc)

some_name : (a b : List ℕ) → Some a ≡ Some b → a ≡ b
some_name a b e = grind (arith, e)

named_home : (home : Homes) (ident : Ident) (name : List ℕ) (s : QueueState) (row : Row) → home ident ≡ Some name → IsHome home s → find (has_ident ident) s.queue.rows ≡ Some row → has_name name s ≡ true
named_home home ident name s row e own h =
    let same = some_name name s.queue.name (sym e ∙ found_home home ident s.queue.name s.queue.rows row own h) in
    ap (bytes_eq name) (sym same) ∙ name_self name

without_row : (home : Homes) (ident : Ident) (name : List ℕ) (s : QueueState) (ss : List QueueState) → home ident ≡ Some name → IsHome home s → (o : Option Row) → find (has_ident ident) s.queue.rows ≡ o → (b : Bool) → has_name name s ≡ b
    → ((b && is_some o) || row_found_in ident name ss) ≡ false → (row_found_in ident name ss ≡ false → option_map (λ (r : Located). r.name) (row_at ident ss) ≡ None) → option_map (λ (r : Located). r.name) (row_found o s.queue.name (row_at ident ss)) ≡ None
without_row home ident name s ss e own None h true n none rest = rest none
without_row home ident name s ss e own None h false n none rest = rest none
without_row home ident name s ss e own (Some row) h true n none rest = absurd cc
without_row home ident name s ss e own (Some row) h false n none rest = absurd (let t : true ≡ false = sym (named_home home ident name s row e own h) ∙ n in cc)

-- the row is on the noted queue, or nowhere
pub home_without : (home : Homes) (ident : Ident) (name : List ℕ) (states : List QueueState) → AreHome home states → home ident ≡ Some name → row_found_in ident name states ≡ false → option_map (λ (r : Located). r.name) (row_at ident states) ≡ None
home_without home ident name [] all e none = refl
home_without home ident name (s ∷ ss) all e none = without_row home ident name s ss e all.0 (find (has_ident ident) s.queue.rows) refl (has_name name s) refl none (home_without home ident name ss all.1 e)

some_step : (ident : Ident) (name : List ℕ) (s : QueueState) (ss : List QueueState) → (o : Option Row) (b : Bool) → ((b && is_some o) || row_found_in ident name ss) ≡ true → row_found o s.queue.name (row_at ident ss) ≡ None
    → (row_found_in ident name ss ≡ true → row_at ident ss ≡ None → ⊥) → ⊥
some_step ident name s ss None true there none rest = rest there none
some_step ident name s ss None false there none rest = rest there none
some_step ident name s ss (Some row) b there none rest = absurd cc

some_row : (ident : Ident) (name : List ℕ) (states : List QueueState) → row_found_in ident name states ≡ true → row_at ident states ≡ None → ⊥
some_row ident name [] there none = absurd cc
some_row ident name (s ∷ ss) there none = some_step ident name s ss (find (has_ident ident) s.queue.rows) (has_name name s) there none (some_row ident name ss)

-- and where it stands there it is found
pub home_with : (home : Homes) (ident : Ident) (name : List ℕ) (states : List QueueState) → AreHome home states → home ident ≡ Some name → row_found_in ident name states ≡ true → option_map (λ (r : Located). r.name) (row_at ident states) ≡ Some name
home_with home ident name states all e there = by (row_at ident states) refl
  where
    by : (o : Option Located) → row_at ident states ≡ o → option_map (λ (r : Located). r.name) o ≡ Some name
    by None h = absurd (some_row ident name states there h)
    by (Some r) h = sym (row_homed home ident states r all h) ∙ e

-- the queue of a name has a row with the ident
pub found_there : (ident : Ident) (name : List ℕ) (states : List QueueState) → AreApart states → row_found_in ident name states ≡ is_some (find (has_ident ident) (rows_of_slot (state_in name states)))
found_there ident name [] apart = refl
found_there ident name (s ∷ ss) apart = at (has_name name s) refl (found_there ident name ss apart.1)
  where
    none : (ss : List QueueState) → IsUnnamed name ss → row_found_in ident name ss ≡ false
    none [] n = refl
    none (x ∷ xs) n = let first = n.0 in let rest = none xs n.1 in λ i. (first i && is_some (find (has_ident ident) x.queue.rows)) || rest i

    or_none : (b : Bool) → (b || false) ≡ b
    or_none true = refl
    or_none false = refl

    at : (b : Bool) → has_name name s ≡ b → row_found_in ident name ss ≡ is_some (find (has_ident ident) (rows_of_slot (state_in name ss)))
        → ((b && is_some (find (has_ident ident) s.queue.rows)) || row_found_in ident name ss) ≡ is_some (find (has_ident ident) (rows_of_slot (cond b (Some s) (state_in name ss))))
    at true e rest =
        let others = none ss (subst (λ (x : List ℕ). IsUnnamed x ss) (sym (name_is name s.queue.name e)) apart.0) in
        (λ i. is_some (find (has_ident ident) s.queue.rows) || others i) ∙ or_none (is_some (find (has_ident ident) s.queue.rows))
    at false e rest = rest

pub no_message : (ident : Ident) (rows : List Row) → message_of ident rows ≡ None → is_some (find (has_ident ident) rows) ≡ false
no_message ident rows e = by (find (has_ident ident) rows) e
  where
    by : (o : Option Row) → option_map (λ (row : Row). row.message) o ≡ None → is_some o ≡ false
    by None e = refl
    by (Some row) e = absurd cc

pub some_message : (ident : Ident) (rows : List Row) → is_some (message_of ident rows) ≡ true → is_some (find (has_ident ident) rows) ≡ true
some_message ident rows e = by (find (has_ident ident) rows) e
  where
    by : (o : Option Row) → is_some (option_map (λ (row : Row). row.message) o) ≡ true → is_some o ≡ true
    by None e = e
    by (Some row) e = refl

-- A put that waits is dropped, or placed.

pub enough : (home : Homes) (name : List ℕ) (states : List QueueState) (expected spare : ℕ) → AreNoted home states expected spare → 0 < (state_or name states).pending → 1 ≤ expected
enough home name states expected spare n w =
    let at = waiting name (state_in name states) w in
    let fewer = pending_fewer name unpended (λ u p. omega (arith, p)) states at.0 at.1 at.2 in
    omega (arith, fewer, n.1)

pub noted_unpended : (home : Homes) (name : List ℕ) (states new : List QueueState) (expected spare : ℕ) → AreNoted home states expected spare → 0 < (state_or name states).pending → new ≡ change_state name unpended states
    → AreNoted home new (expected - 1) spare
noted_unpended home name states new expected spare n w is =
    let at = waiting name (state_in name states) w in
    let fewer = pending_fewer name unpended (λ u p. omega (arith, p)) states at.0 at.1 at.2 in
    (subst (AreHome home) (sym is) (same_rows home name unpended (λ s h. h) states n.0), omega (arith, ap all_pending is, fewer, n.1), omega (arith, n.2))

pub noted_placed : (home now : Homes) (name : List ℕ) (message : Message) → ((other : Ident) → now other ≡ cond (same_ident message.ident other) (Some name) (home other)) → (states new : List QueueState) (expected spare left : ℕ)
    → AreNoted home states expected spare → spare ≤ left + 1 → 0 < (state_or name states).pending → IsNowhere message.ident states → new ≡ change_state name (arrived message) states → AreNoted now new (expected - 1) left
noted_placed home now name message notes states new expected spare left n room w nowhere is =
    let at = waiting name (state_in name states) w in
    let fewer = pending_fewer name (arrived message) (λ u p. omega (arith, p)) states at.0 at.1 at.2 in
    (subst (AreHome now) (sym is) (placed_home home now name message notes states nowhere n.0), omega (arith, ap all_pending is, fewer, n.1), omega (arith, room, fewer, n.1, n.2))

-- no queue has the name, so nothing is placed
pub noted_absent : (home : Homes) (name : List ℕ) (message : Message) (states new : List QueueState) (expected spare : ℕ) → AreNoted home states expected spare → (state_or name states).pending ≤ 0 → IfSome (state_in name states) (CanPlace message)
    → new ≡ change_state name (arrived message) states → AreNoted home new expected spare
noted_absent home name message states new expected spare n w can is =
    noted home states states new expected spare n (is ∙ absent_same name (arrived message) states (not_waiting name message (state_in name states) w can)) n.0 (omega arith)

-- one more waits
pub noted_expecting : (home now : Homes) → ((ident : Ident) → now ident ≡ home ident) → (name : List ℕ) (states new : List QueueState) (expected spare room : ℕ) → AreNoted home states expected spare → expected + 1 ≤ room → new ≡ change_state name expecting states
    → AreNoted now new (expected + 1) room
noted_expecting home now same name states new expected spare room n enough is =
    let most = pending_most name expecting 1 (λ s. omega arith) states in
    (home_same home now same new (subst (AreHome home) (sym is) (same_rows home name expecting (λ s h. h) states n.0)), omega (arith, ap all_pending is, most, n.1), enough)

-- or only room was made
pub noted_roomier : (home now : Homes) → ((ident : Ident) → now ident ≡ home ident) → (states new : List QueueState) (expected spare room : ℕ) → AreNoted home states expected spare → spare ≤ room → new ≡ states → AreNoted now new expected room
noted_roomier home now same states new expected spare room n more is =
    (home_same home now same new (subst (AreHome home) (sym is) n.0), omega (arith, ap all_pending is, n.1), omega (arith, more, n.2))

pub waits_there : (b : Bool) (n : ℕ) → b ≡ nat_lt 0 n → b ≡ true → 0 < n
waits_there b n e t = grind (arith, nat_tests)

pub waits_not : (b : Bool) (n : ℕ) → b ≡ nat_lt 0 n → b ≡ false → n ≤ 0
waits_not b n e t = grind (arith, nat_tests)

pub copied_none : {X : Type 0} (o : Option (Bor X)) → is_some o ≡ false → option_copied o ≡ None
copied_none None e = refl
copied_none (Some x) e = absurd cc

pub copied_some : {X : Type 0} (o : Option (Bor X)) → is_some o ≡ true → is_some (option_copied o) ≡ true
copied_some None e = absurd cc
copied_some (Some x) e = refl
