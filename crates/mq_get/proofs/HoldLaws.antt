-- A row that is held for a unit: from the item that waits to the row that is held.
use Rattle.std.proofs.Common.{◌≡◌, ℕ, ◌+◌, ◌<◌, ◌≤◌, ◌^◌, Bool, true, false, cond, List, [], ◌∷◌, ◌++◌, refl, ap, arith, sym, subst, ◌∙◌}
use Rattle.std.proofs.lemmas.List.Sums.{sum_by_push}
use Rattle.std.proofs.lemmas.Bool.Decides.{nat_tests}
use Rattle.std.specs.Prelude.{Some, map, sum_by, count_by, ◌==◌, ◌&&◌}
use Rattle.mq_calls.specs.State.{Queue as StateQueue}
use Rattle.mq_calls.specs.Words.{Ident, Plain, Row, Among, retag, held_in, retag_if, selects, is_free, has_ident, unit_need, more_need, item_bytes, with_head, connection_at, change_connection, same_ident, Running}
use Rattle.mq_calls.specs.declared.state.Item.{Item}
use Rattle.mq_calls.specs.declared.state.Connection.{Connection}
use Rattle.mq_calls.specs.Reads.{is_put_to}
use Rattle.mq_calls.specs.declared.state.Item.TheVariants.{Put, Take}
use Rattle.mq_message.specs.declared.place.Holder.{Holder}
use Rattle.mq_message.specs.declared.place.Holder.TheVariants as holders
use Rattle.mq_unit.specs.Forced.{CanBeForced}
use Rattle.mq_core.specs.from_handles.Seats.{pended}
use Rattle.mq_core.specs.Views.{PartsValue, plain_of, frozen_of}
use Rattle.mq_core.specs.Ties.{Tied, one_if, times_in_rows, times_in_unit, mode_is_up}
use Rattle.mq_core.proofs.ForceLaws.{queues_on, tied_where, tied_on}
use Rattle.mq_core.proofs.MeetLaws.{running_up}
use Rattle.mq_core.proofs.PendLaws.{sum_changed, times_units_changed, forced_changed, unit_le, puts_in, puts_in_count, room_or, within_or}
use Rattle.mq_get.specs.Rooms.{IsRoomy, IsItemMore, holding}

-- what a held row needs
head_more : (s b : ℕ) → 0 < b → with_head (s + b) ≡ with_head s + cond (s == 0) (14 + b) b
head_more s b lt = grind (arith, nat_tests, lt)

pub need_take : (items : List Item) (queue : List ℕ) (ident : Ident) (persistent : Bool) (n : ℕ) → (persistent ≡ true → n ≡ more_need items 65) → (persistent ≡ false → n ≡ 0) → unit_need (items ++ Take queue ident persistent ∷ []) ≡ unit_need items + n
need_take items queue ident persistent n some none = ap with_head (sum_by_push item_bytes items (Take queue ident persistent)) ∙ by persistent some none
  where
    by : (b : Bool) → (b ≡ true → n ≡ more_need items 65) → (b ≡ false → n ≡ 0) → with_head (sum_by item_bytes items + cond b 65 0) ≡ with_head (sum_by item_bytes items) + n
    by true some none = head_more (sum_by item_bytes items) 65 (omega arith) ∙ ap (λ (k : ℕ). with_head (sum_by item_bytes items) + k) (sym (some refl))
    by false some none = let zero = none refl in let e : sum_by item_bytes items + 0 ≡ sum_by item_bytes items = omega arith in ap with_head e ∙ omega (arith, zero)

pub take_small : (number : ℕ) (queue : List ℕ) (ident : Ident) (persistent : Bool) (n : ℕ) (c : Connection) (x : PartsValue) → connection_at number x.desk.live ≡ Some c → unit_need (c.unit ++ Take queue ident persistent ∷ []) ≡ unit_need c.unit + n → n ≤ 79 → mode_is_up x.mode ≡ true → Tied x
    → unit_need (c.unit ++ Take queue ident persistent ∷ []) < 2 ^ 64
take_small number queue ident persistent n c x found more small up t = let le = unit_le number x.desk.live c found in let r = t.reserved up in let w = t.within up in omega (arith, more, le, small, r, w, t.max)

-- a row that is held is no put
times_take : (i : Ident) (items : List Item) (queue : List ℕ) (ident : Ident) (persistent : Bool) → times_in_unit i (items ++ Take queue ident persistent ∷ []) ≡ times_in_unit i items
times_take i [] queue ident persistent = refl
times_take i (Put q m ∷ items) queue ident persistent = ap (λ (n : ℕ). one_if (same_ident m.ident i) + n) (times_take i items queue ident persistent)
times_take i (Take q k p ∷ items) queue ident persistent = times_take i items queue ident persistent

forced_take : (items : List Item) (queue : List ℕ) (ident : Ident) (persistent : Bool) → CanBeForced items → CanBeForced (items ++ Take queue ident persistent ∷ [])
forced_take [] queue ident persistent h = (tt, tt)
forced_take (k ∷ items) queue ident persistent h = (h.0, forced_take items queue ident persistent h.1)

-- nor does one more wait
puts_in_take : (name : List ℕ) (items : List Item) (queue : List ℕ) (ident : Ident) (persistent : Bool) → puts_in name (items ++ Take queue ident persistent ∷ []) ≡ puts_in name items
unfolding puts_in
puts_in_take name [] queue ident persistent = refl
puts_in_take name (item ∷ items) queue ident persistent = ap (λ (n : ℕ). cond (is_put_to name item) (1 + n) n) (puts_in_take name items queue ident persistent)

count_take : (name : List ℕ) (items : List Item) (queue : List ℕ) (ident : Ident) (persistent : Bool) → count_by (is_put_to name) (items ++ Take queue ident persistent ∷ []) ≡ count_by (is_put_to name) items
count_take name items queue ident persistent = sym (puts_in_count name (items ++ Take queue ident persistent ∷ [])) ∙ puts_in_take name items queue ident persistent ∙ puts_in_count name items

-- more room leaves all tied
pub tied_roomy : (n : ℕ) (x y : PartsValue) → IsRoomy n x y → Tied x → Tied y
tied_roomy n x y h t = subst Tied (sym h.same) (tied_where [] [] x.ends (record x.log { room = y.log.room }) y.body x.mode x
    (λ u. let w = t.up u in record { live = w.live; settled = w.settled; ends = w.ends; room = omega (arith, w.room, h.more); body = let b = w.body in omega (arith, b, h.body) }) t.reserved t.within t.max t)

pub roomy_view : (n : ℕ) (x y : PartsValue) → IsRoomy n x y → plain_of y ≡ plain_of x
roomy_view n x y h = ap plain_of h.same

-- an item that waits leaves all tied
pub tied_item : (number : ℕ) (queue : List ℕ) (ident : Ident) (persistent : Bool) (n : ℕ) (c : Connection) (x y : PartsValue) → connection_at number x.desk.live ≡ Some c
    → unit_need (c.unit ++ Take queue ident persistent ∷ []) ≡ unit_need c.unit + n → IsItemMore number (Take queue ident persistent) n x y → Tied x → Tied y
tied_item number queue ident persistent n c x y found more p t =
    let item = Take queue ident persistent in
    let f = pended item in
    let sums = sum_changed unit_need number f x.desk.live c found in
    subst Tied (sym p.same) (record {
      up = λ u. let w = t.up u in record { live = w.live; settled = w.settled; ends = w.ends; room = room_or n _ _ _ w.room p.more p.room; body = let b = w.body in omega (arith, b, p.body) };
      reserved = λ u. let r = t.reserved u in omega (arith, r, sums, more);
      within = λ u. within_or n _ _ (t.within u) p.within;
      queues = record {
        lanes = t.queues.lanes;
        pending = λ name.
            let old = t.queues.pending name in
            let puts = sum_changed (count_by (is_put_to name)) number f x.desk.live c found in
            let one = count_take name c.unit queue ident persistent in
            omega (arith, old, puts, one);
      };
      idents = record {
        once = λ i.
            let units = times_units_changed i number f x.desk.live c found in
            let push = times_take i c.unit queue ident persistent in
            let old = t.idents.once i in
            omega (arith, units, push, old);
        given = λ i a b d.
            let units = times_units_changed i number f x.desk.live c found in
            let push = times_take i c.unit queue ident persistent in
            let none = t.idents.given i a b d in
            omega (arith, units, push, none);
      };
      forced = forced_changed number f x.desk.live c found (forced_take c.unit queue ident persistent) t.forced;
      max = t.max;
      moment = t.moment;
    })

-- rows that are held are as often
times_retag : (i : Ident) (queue name : List ℕ) (ident : Ident) (by : Holder) (rows : List Row) → times_in_rows i (retag (λ (row : Row). retag_if (selects (Among queue (ident ∷ [])) name row && is_free row) (Some by) row) rows) ≡ times_in_rows i rows
times_retag i queue name ident by [] = refl
times_retag i queue name ident by (row ∷ rows) = let more = times_retag i queue name ident by rows in let one = same (selects (Among queue (ident ∷ [])) name row && is_free row) in omega (arith, more, one)
  where
    same : (b : Bool) → one_if (has_ident i (retag_if b (Some by) row)) ≡ one_if (has_ident i row)
    same true = refl
    same false = refl

pub tied_held : (number : ℕ) (queue : List ℕ) (ident : Ident) (x : PartsValue) → Tied x → Tied (holding number queue ident x)
tied_held number queue ident x t =
    tied_on (held_in (Among queue (ident ∷ [])) (holders.Unit number)) (λ q. refl) (λ i q. let e = times_retag i queue q.name ident (holders.Unit number) q.rows in omega (arith, e)) [] [] x t

-- the views
with_queues : Plain → List StateQueue → Plain
with_queues p qs = record p { queues = qs }

hold_by : ℕ → List ℕ → Ident → Plain → Plain
hold_by number queue ident p = record p { queues = map (held_in (Among queue (ident ∷ [])) (holders.Unit number)) p.queues }

pend_by : ℕ → Item → Plain → Plain
pend_by number item p = record p { connections = change_connection number (pended item) p.connections }

pub held_view : (number : ℕ) (queue : List ℕ) (ident : Ident) (x : PartsValue) → plain_of (holding number queue ident x) ≡ record (plain_of x) { queues = map (held_in (Among queue (ident ∷ [])) (holders.Unit number)) (plain_of x).queues }
unfolding with_queues
held_view number queue ident x = ap (with_queues (plain_of x)) (queues_on (held_in (Among queue (ident ∷ [])) (holders.Unit number)) x.queues.states)

with_running : PartsValue → ℕ → Item → Running → Plain
with_running x number item r = record (plain_of x) { running = r; connections = change_connection number (pended item) x.desk.live }

pub item_view : (number : ℕ) (item : Item) (n : ℕ) (x y : PartsValue) → mode_is_up x.mode ≡ true → IsItemMore number item n x y → plain_of y ≡ record (plain_of x) { connections = change_connection number (pended item) (plain_of x).connections }
unfolding with_running
item_view number item n x y up p =
    ap plain_of p.same
    ∙ ap (with_running x number item) (running_up (frozen_of x) (frozen_of (record x { desk = record { live = change_connection number (pended item) x.desk.live; last = x.desk.last } })) x.mode up)
