-- A put in a unit: what waits, what it needs, and what ties the parts.
use Rattle.std.proofs.Common.{◌≡◌, ℕ, zero, suc, ◌^◌, ◌+◌, ◌-◌, ◌<◌, ◌≤◌, Bool, true, false, cond, List, [], ◌∷◌, ◌++◌, length, refl, ap, arith, sym, subst, ◌∙◌}
use Rattle.std.specs.Prelude.{Option, Some, None, Ok, is_some, IsSome, sum_by, count_by, ◌==◌}
use Rattle.std.specs.List.{AllByRecursion}
use Rattle.std.specs.Str.{bytes_eq}
use Rattle.std.proofs.lemmas.List.Sums.{sum_by_push, sum_by-cons}
use Rattle.std.proofs.lemmas.List.Recursion.{is_count_by}
use Rattle.std.proofs.lemmas.Bool.Decides.{nat_tests}
use Rattle.mq_calls.specs.Words.{ManagerValue, Meets, Do, Ident, Message, Plain, Running, LocalQueue, puts_to, unit_need, item_bytes, with_head, put_bytes, more_need, connection_at, change_connection, local_of, is_persistent, same_ident, apply_all}
use Rattle.mq_calls.specs.declared.state.Connection.{Connection}
use Rattle.mq_calls.specs.declared.state.Item.{Item}
use Rattle.mq_calls.specs.Reads.{is_put_to}
use Rattle.mq_calls.specs.State.{Queue as StateQueue}
use Rattle.mq_calls.specs.State.Change.{CountIdent, Pend}
use Rattle.mq_calls.specs.declared.state.Item.TheVariants.{Put, Take}
use Rattle.mq_spec_manager.specs.Words.{next_ident, sent_answer, put_part, for_connection, live_or}
use Rattle.mq_core.specs.Calls.{unit_step}
use Rattle.mq_sides.specs.from_unit.Forced.{CanBeForced, ItemCanBeForced}
use Rattle.mq_sides.specs.from_record.Records.{CanBeKept}
use Rattle.mq_trigger.specs.from_handles.Seats.{pended, emptied}
use Rattle.mq_place.specs.States.{queues_of, state_in, change_state, expecting}
use Rattle.mq_core.specs.Views.{PartsValue, plain_of, frozen_of, running_of}
use Rattle.mq_core.specs.Ties.{Tied, TiedUp, needs, times_in_unit, times_in_units, times_in_queues, AreForced, state_lanes, pending_at, one_if, mode_is_up}
use Rattle.mq_core.specs.Forced.{IsPended}
use Rattle.mq_core.proofs.PlaceLaws.{seen_kept, pending_changed}
use Rattle.mq_core.proofs.PutLaws.{kept_queue, queues_same, waits_more, once_way, fresh_number, later_number}
use Rattle.mq_core.proofs.MeetLaws.{running_up}
use Rattle.mq_core.proofs.SeatLaws.{number_is}

some_same : (a b : Connection) → Some a ≡ Some b → a ≡ b
some_same a b e = grind (arith, e)

-- one connection is changed: a sum over all changes as it does there
pub sum_changed : (g : List Item → ℕ) (n : ℕ) (f : Connection → Connection) (cs : List Connection) (c : Connection) → connection_at n cs ≡ Some c
    → sum_by (λ (c : Connection). g c.unit) (change_connection n f cs) + g c.unit ≡ sum_by (λ (c : Connection). g c.unit) cs + g (f c).unit
sum_changed g n f [] c e = absurd cc
sum_changed g n f (d ∷ cs) c e = by (d.number == n) e (sum_changed g n f cs c)
  where
    by : (b : Bool) → cond b (Some d) (connection_at n cs) ≡ Some c → (connection_at n cs ≡ Some c → sum_by (λ (c : Connection). g c.unit) (change_connection n f cs) + g c.unit ≡ sum_by (λ (c : Connection). g c.unit) cs + g (f c).unit)
        → sum_by (λ (c : Connection). g c.unit) (cond b (f d ∷ cs) (d ∷ change_connection n f cs)) + g c.unit ≡ sum_by (λ (c : Connection). g c.unit) (d ∷ cs) + g (f c).unit
    by true e rest =
        let same = some_same d c e in
        let new = sum_by-cons (λ (c : Connection). g c.unit) (f d) cs in
        let old = sum_by-cons (λ (c : Connection). g c.unit) d cs in
        let here = ap (λ (c : Connection). g c.unit) same in
        let there = ap (λ (c : Connection). g (f c).unit) same in
        omega (arith, new, old, here, there)
    by false e rest =
        let new = sum_by-cons (λ (c : Connection). g c.unit) d (change_connection n f cs) in
        let old = sum_by-cons (λ (c : Connection). g c.unit) d cs in
        let more = rest e in
        omega (arith, new, old, more)

pub times_units_changed : (i : Ident) (n : ℕ) (f : Connection → Connection) (cs : List Connection) (c : Connection) → connection_at n cs ≡ Some c
    → times_in_units i (change_connection n f cs) + times_in_unit i c.unit ≡ times_in_units i cs + times_in_unit i (f c).unit
times_units_changed i n f [] c e = absurd cc
times_units_changed i n f (d ∷ cs) c e = by (d.number == n) e (times_units_changed i n f cs c)
  where
    by : (b : Bool) → cond b (Some d) (connection_at n cs) ≡ Some c → (connection_at n cs ≡ Some c → times_in_units i (change_connection n f cs) + times_in_unit i c.unit ≡ times_in_units i cs + times_in_unit i (f c).unit)
        → times_in_units i (cond b (f d ∷ cs) (d ∷ change_connection n f cs)) + times_in_unit i c.unit ≡ times_in_unit i d.unit + times_in_units i cs + times_in_unit i (f c).unit
    by true e rest =
        let same = some_same d c e in
        let here = ap (λ (c : Connection). times_in_unit i c.unit) same in
        let there = ap (λ (c : Connection). times_in_unit i (f c).unit) same in
        omega (arith, here, there)
    by false e rest = let more = rest e in omega (arith, more)

pub forced_changed : (n : ℕ) (f : Connection → Connection) (cs : List Connection) (c : Connection) → connection_at n cs ≡ Some c → (CanBeForced c.unit → CanBeForced (f c).unit) → AreForced cs → AreForced (change_connection n f cs)
forced_changed n f [] c e ok h = tt
forced_changed n f (d ∷ cs) c e ok h = by (d.number == n) e (λ e. forced_changed n f cs c e ok h.1)
  where
    by : (b : Bool) → cond b (Some d) (connection_at n cs) ≡ Some c → (connection_at n cs ≡ Some c → AreForced (change_connection n f cs)) → AreForced (cond b (f d ∷ cs) (d ∷ change_connection n f cs))
    by true e rest = (subst (λ (c : Connection). CanBeForced (f c).unit) (sym (some_same d c e)) (ok (subst (λ (c : Connection). CanBeForced c.unit) (some_same d c e) h.0)), h.1)
    by false e rest = (h.0, rest e)

-- an item more at the end of a unit
times_push : (i : Ident) (items : List Item) (queue : List ℕ) (m : Message) → times_in_unit i (items ++ Put queue m ∷ []) ≡ times_in_unit i items + one_if (same_ident m.ident i)
times_push i [] queue m = omega arith
times_push i (Put q k ∷ items) queue m = let more = times_push i items queue m in omega (arith, more)
times_push i (Take q k p ∷ items) queue m = times_push i items queue m

forced_push : (items : List Item) (item : Item) → ItemCanBeForced item → CanBeForced items → CanBeForced (items ++ item ∷ [])
forced_push [] item f h = (f, tt)
forced_push (k ∷ items) item f h = (h.0, forced_push items item f h.1)

head_more : (s b : ℕ) → 0 < b → with_head (s + b) ≡ with_head s + cond (s == 0) (14 + b) b
head_more s b lt = grind (arith, nat_tests, lt)

pub need_push : (items : List Item) (queue : List ℕ) (m : Message) (n : ℕ) → (is_persistent m ≡ true → n ≡ more_need items (put_bytes m)) → (is_persistent m ≡ false → n ≡ 0) → unit_need (items ++ Put queue m ∷ []) ≡ unit_need items + n
need_push items queue m n some none = ap with_head (sum_by_push item_bytes items (Put queue m)) ∙ by (is_persistent m) some none
  where
    by : (b : Bool) → (b ≡ true → n ≡ more_need items (put_bytes m)) → (b ≡ false → n ≡ 0) → with_head (sum_by item_bytes items + cond b (put_bytes m) 0) ≡ with_head (sum_by item_bytes items) + n
    by true some none = head_more (sum_by item_bytes items) (put_bytes m) (omega arith) ∙ ap (λ (k : ℕ). with_head (sum_by item_bytes items) + k) (sym (some refl))
    by false some none = let zero = none refl in let e : sum_by item_bytes items + 0 ≡ sum_by item_bytes items = omega arith in ap with_head e ∙ omega (arith, zero)

-- puts to a queue, counted one by one
unfoldable pub puts_in : List ℕ → List Item → ℕ
puts_in name [] = 0
puts_in name (item ∷ items) = cond (is_put_to name item) (1 + puts_in name items) (puts_in name items)

pub puts_in_count : (name : List ℕ) (items : List Item) → puts_in name items ≡ count_by (is_put_to name) items
unfolding puts_in
puts_in_count name items = is_count_by (puts_in name) (is_put_to name) refl (λ x xs. refl) items

last_put : (b : Bool) → cond b (1 + 0) 0 ≡ 0 + one_if b
last_put true = refl
last_put false = refl

puts_in_push : (name : List ℕ) (items : List Item) (queue : List ℕ) (m : Message) → puts_in name (items ++ Put queue m ∷ []) ≡ puts_in name items + one_if (bytes_eq name queue)
unfolding puts_in
puts_in_push name [] queue m = last_put (bytes_eq name queue)
puts_in_push name (item ∷ items) queue m = by (is_put_to name item) (puts_in_push name items queue m)
  where
    by : (b : Bool) → puts_in name (items ++ Put queue m ∷ []) ≡ puts_in name items + one_if (bytes_eq name queue)
        → cond b (1 + puts_in name (items ++ Put queue m ∷ [])) (puts_in name (items ++ Put queue m ∷ [])) ≡ cond b (1 + puts_in name items) (puts_in name items) + one_if (bytes_eq name queue)
    by true e = omega (arith, e)
    by false e = e

count_push : (name : List ℕ) (items : List Item) (queue : List ℕ) (m : Message) → count_by (is_put_to name) (items ++ Put queue m ∷ []) ≡ count_by (is_put_to name) items + one_if (bytes_eq name queue)
count_push name items queue m =
    let one = puts_in_count name items in
    let more = puts_in_count name (items ++ Put queue m ∷ []) in
    let push = puts_in_push name items queue m in
    omega (arith, one, more, push)

-- where nothing is needed more
pub room_or : (n res room more : ℕ) → res ≤ room → room ≤ more → (0 < n → res + n ≤ more) → res + n ≤ more
room_or zero res room more le grows need = omega (arith, le, grows)
room_or (suc n) res room more le grows need = need (omega arith)

pub within_or : (n res most : ℕ) → res ≤ most → (0 < n → res + n ≤ most) → res + n ≤ most
within_or zero res most le need = omega (arith, le)
within_or (suc n) res most le need = need (omega arith)

pub tied_pended : (number : ℕ) (queue : List ℕ) (m : Message) (need : ℕ) (c : Connection) (x y : PartsValue) → IsSome (local_of queue x.defs.definitions) → connection_at number x.desk.live ≡ Some c → m.ident ≡ next_ident (plain_of x)
    → unit_need (c.unit ++ Put queue m ∷ []) ≡ unit_need c.unit + need → ItemCanBeForced (Put queue m) → IsPended number queue m need x y → Tied x → Tied y
tied_pended number queue m need c x y there found ident more forced p t =
    let kept = kept_queue queue x t there in
    let same = queues_same queue expecting (λ s. refl) x.queues.states in
    let f = pended (Put queue m) in
    let sums = sum_changed unit_need number f x.desk.live c found in
    subst Tied (sym p.same) (record {
      up = λ u. let w = t.up u in record { live = w.live; settled = w.settled; ends = w.ends; room = room_or need _ _ _ w.room p.more p.room; body = let b = w.body in omega (arith, b, p.body) };
      reserved = λ u. let r = t.reserved u in omega (arith, r, sums, more);
      within = λ u. within_or need _ _ (t.within u) p.within;
      queues = record {
        lanes = λ name. seen_kept queue expecting (λ s. refl) state_lanes (λ s. refl) name x.queues.states kept.0 kept.1 ∙ t.queues.lanes name;
        pending = λ name.
            let old = t.queues.pending name in
            let now = pending_changed queue expecting (λ s. refl) (λ n. n + 1) (λ s. refl) name x.queues.states kept.0 kept.1 ∙ waits_more (bytes_eq name queue) (pending_at (state_in name x.queues.states)) (puts_to name x.desk.live) (omega (arith, old)) in
            let puts = sum_changed (count_by (is_put_to name)) number f x.desk.live c found in
            let one = count_push name c.unit queue m in
            omega (arith, now, puts, one);
      };
      idents = record {
        once = λ i.
            let times = ap (times_in_queues i) same in
            let units = times_units_changed i number f x.desk.live c found in
            let push = times_push i c.unit queue m in
            let old = t.idents.once i in
            let one = once_way (same_ident m.ident i) (times_in_queues i (queues_of x.queues.states) + times_in_units i x.desk.live)
            (λ e. let n = fresh_number m.ident i x.number x.incarnation x.idents ident e in let none = t.idents.given i n.0 n.1 n.2 in omega (arith, none)) (omega (arith, old)) in
            omega (arith, times, units, push, one);
        given = λ i a b d.
            let times = ap (times_in_queues i) same in
            let units = times_units_changed i number f x.desk.live c found in
            let push = times_push i c.unit queue m in
            let other : one_if (same_ident m.ident i) ≡ 0 = ap one_if (later_number m.ident i x.number x.incarnation x.idents ident d) in
            let none = t.idents.given i a b (omega (arith, d)) in
            omega (arith, times, units, push, other, none);
      };
      forced = forced_changed number f x.desk.live c found (forced_push c.unit (Put queue m) forced) t.forced;
      max = t.max;
      moment = t.moment;
    })

-- the view
with_all : PartsValue → Message → List ℕ → Running → List StateQueue → ℕ → Plain
with_all x m queue r qs n = record (plain_of x) { running = r; queues = qs; connections = change_connection n (pended (Put queue m)) x.desk.live; numbers = record { incarnation = x.incarnation; idents = x.idents + 1; connections = x.desk.last } }

pub pended_view : (number : ℕ) (queue : List ℕ) (m : Message) (need : ℕ) (c : Connection) (x y : PartsValue) → mode_is_up x.mode ≡ true → connection_at number x.desk.live ≡ Some c → IsPended number queue m need x y
    → plain_of y ≡ apply_all (CountIdent ∷ Pend c.number (Put queue m) ∷ []) (plain_of x)
unfolding with_all
pended_view number queue m need c x y up found p =
    ap plain_of p.same
    ∙ (λ i. with_all x m queue (running_up (frozen_of x) (frozen_of (record x { desk = record { live = change_connection number (pended (Put queue m)) x.desk.live; last = x.desk.last } })) x.mode up i) (queues_same queue expecting (λ s. refl) x.queues.states i) (sym (number_is number x.desk.live c found) i))

-- what a unit needs is part of what is reserved
pub unit_le : (number : ℕ) (cs : List Connection) (c : Connection) → connection_at number cs ≡ Some c → unit_need c.unit ≤ needs cs
unit_le number cs c found = let less = sum_changed unit_need number emptied cs c found in omega (arith, less)

-- a put in a unit is small
pub unit_small : (number : ℕ) (m : Message) (need : ℕ) (queue : List ℕ) (c : Connection) (x : PartsValue) → connection_at number x.desk.live ≡ Some c → unit_need (c.unit ++ Put queue m ∷ []) ≡ unit_need c.unit + need → need < 2 ^ 32 → mode_is_up x.mode ≡ true → Tied x → unit_need (c.unit ++ Put queue m ∷ []) < 2 ^ 64
unit_small number m need queue c x found more small up t = let le = unit_le number x.desk.live c found in let r = t.reserved up in let w = t.within up in omega (arith, more, le, small, r, w, t.max)

-- a put in a unit that is done
pub pended_meets : (v new : ManagerValue) (number : ℕ) (high : Bool) (queue : List ℕ) (m : Message) (c : Connection) → connection_at number v.plain.connections ≡ Some c
    → new.plain ≡ apply_all (CountIdent ∷ Pend c.number (Put queue m) ∷ []) v.plain → new.delta ≡ [] → new.stopped ≡ None → new.faults ≡ v.faults → Meets v (unit_step number high queue m v.plain) (Ok (sent_answer high m)) new
pended_meets v new number high queue m c e plain told stopped faults =
    subst (λ o. Meets v (for_connection (live_or o) (λ d. Do (sent_answer high m) (put_part true d queue m ∷ []))) (Ok (sent_answer high m)) new) (sym e)
    (refl, (λ some. some), omega (arith, faults), (λ i. record { plain = plain i; delta = told i; stopped = stopped i; faults = new.faults }))

more_le : (b : Bool) (n : ℕ) → cond b (14 + n) n ≤ 14 + n
more_le true n = omega arith
more_le false n = omega arith

route_small : (b : Bool) → cond b 96 0 ≤ 96
route_small true = omega arith
route_small false = omega arith

pub need_small : (items : List Item) (m : Message) (n : ℕ) → (is_persistent m ≡ true → n ≡ more_need items (put_bytes m)) → (is_persistent m ≡ false → n ≡ 0) → (is_persistent m ≡ true → CanBeKept m) → n < 2 ^ 32
need_small items m n some none kept = by (is_persistent m) some none kept
  where
    by : (b : Bool) → (b ≡ true → n ≡ more_need items (put_bytes m)) → (b ≡ false → n ≡ 0) → (b ≡ true → CanBeKept m) → n < 2 ^ 32
    by true some none kept =
        let e = some refl in
        let short = (kept refl).words.body in
        let le = more_le (sum_by item_bytes items == 0) (put_bytes m) in
        let route = route_small (is_some m.route) in
        omega (arith, e, short, le, route)
    by false some none kept = let zero = none refl in omega (arith, zero)
