-- The adds of a batch, one behind the other.
use Rattle.std.proofs.Common.{◌≡◌, ℕ, suc, Bool, true, false, cond, ◌+◌, ◌-◌, ◌<◌, ◌≤◌, List, [], ◌∷◌, ◌++◌, length, get_or, drop, refl, ap, sym, subst, ◌∙◌, add-one, drop-cons, arith}
use Rattle.std.specs.Prelude.{sum_by, count_by}
use Rattle.std.specs.List.{flat_map, AllByRecursion}
use Rattle.std.proofs.lemmas.List.{length-append}
use Rattle.std.proofs.lemmas.List.Sums.{sum_by-cons}
use Rattle.std.proofs.lemmas.Grind.{flat_map-append}
use Rattle.std.proofs.lemmas.List.Recursion.{is_count_by}
use Rattle.mq_calls.specs.Words.{Luw, add_size, record_size}
use Rattle.mq_calls.specs.declared.records.Add.{Add}
use Rattle.mq_spec_manager.specs.Agents.{received_record}
use Rattle.mq_record.specs.Room.{Buffered, with_piece}
use Rattle.mq_record.specs.Records.{add_bytes, IsAdd, record_bytes, received_front}
use Rattle.mq_core.proofs.from_unit.UnitLaws.{adds_whole}
use Rattle.mq_core.specs.declared.parts.Arrival.{Arrival}
use Rattle.mq_core.specs.Writes.{arrival_adds, all_landed}
use Rattle.mq_record.proofs.RoomLaws.{with_two}
use Rattle.mq_receive.specs.Filling.{CanStand, is_lasting, adds_size, adds_bytes}

pub sum_two : (xs ys : List Add) → sum_by add_size (xs ++ ys) ≡ sum_by add_size xs + sum_by add_size ys
sum_two [] ys = omega arith
sum_two (x ∷ xs) ys = omega (arith, sum_two xs ys, sum_by-cons add_size x (xs ++ ys), sum_by-cons add_size x xs)

all_two : (xs ys : List Add) → AllByRecursion IsAdd xs → AllByRecursion IsAdd ys → AllByRecursion IsAdd (xs ++ ys)
all_two [] ys h k = k
all_two (x ∷ xs) ys h k = (h.0, all_two xs ys h.1 k)

pub left_at : (landed : List Arrival) (i : ℕ) (a : Arrival) → i < length landed → a ≡ get_or landed i a → drop i landed ≡ a ∷ drop (i + 1) landed
left_at landed i a lt is = drop-cons landed i a lt ∙ ap (λ (x : Arrival). x ∷ drop (suc i) landed) (sym is) ∙ ap (λ (n : ℕ). a ∷ drop n landed) (sym (add-one i))

-- what is written so far, and what is left
pub record AddsLeft (landed : List Arrival) (i : ℕ) (start b : Buffered) : Type 0 where
  pub bytes : with_piece (adds_bytes (drop i landed)) b ≡ with_piece (adds_bytes landed) start
  pub room : adds_size (drop i landed) ≤ b.room
  pub can : AllByRecursion CanStand (drop i landed)
  pub adds : AllByRecursion IsAdd (flat_map arrival_adds (drop i landed)) → AllByRecursion IsAdd (flat_map arrival_adds landed)

-- of the next message
pub add_fits : (landed : List Arrival) (i : ℕ) (start b : Buffered) (a : Arrival) → i < length landed → a ≡ get_or landed i a → AddsLeft landed i start b → (adds_size (a ∷ []) ≤ b.room) × CanStand a
add_fits landed i start b a lt is s =
    let left = left_at landed i a lt is in
    let rest : List Arrival = drop (i + 1) landed in
    let room : adds_size (a ∷ rest) ≤ b.room = subst (λ (xs : List Arrival). adds_size xs ≤ b.room) left s.room in
    let parts = ap (sum_by add_size) (flat_map-append arrival_adds (a ∷ []) rest) ∙ sum_two (flat_map arrival_adds (a ∷ [])) (flat_map arrival_adds rest) in
    (omega (arith, room, parts), (subst (AllByRecursion CanStand) left s.can).0)

pub add_put : (landed : List Arrival) (i : ℕ) (start b c : Buffered) (a : Arrival) → i < length landed → a ≡ get_or landed i a → c ≡ with_piece (adds_bytes (a ∷ [])) b
    → AllByRecursion IsAdd (flat_map arrival_adds (a ∷ [])) → AddsLeft landed i start b → AddsLeft landed (i + 1) start c
add_put landed i start b c a lt is put add s =
    let left = left_at landed i a lt is in
    let rest : List Arrival = drop (i + 1) landed in
    let room : adds_size (a ∷ rest) ≤ b.room = subst (λ (xs : List Arrival). adds_size xs ≤ b.room) left s.room in
    let two = flat_map-append arrival_adds (a ∷ []) rest in
    let one : List Add = flat_map arrival_adds (a ∷ []) in
    let more : List Add = flat_map arrival_adds rest in
    let parts = ap (sum_by add_size) two ∙ sum_two one more in
    let whole = adds_whole one add in
    let less = ap (λ (z : Buffered). z.room) put in
    let bytes = ap (flat_map add_bytes) two ∙ flat_map-append add_bytes one more in
    record {
      bytes = ap (with_piece (adds_bytes rest)) put ∙ with_two (adds_bytes (a ∷ [])) (adds_bytes rest) b ∙ ap (λ (z : List ℕ). with_piece z b) (sym bytes)
          ∙ ap (λ (xs : List Arrival). with_piece (adds_bytes xs) b) (sym left) ∙ s.bytes;
      room = omega (arith, room, parts, whole, less);
      can = (subst (AllByRecursion CanStand) left s.can).1;
      adds = λ rests. s.adds (subst (λ (xs : List Arrival). AllByRecursion IsAdd (flat_map arrival_adds xs)) (sym left) (subst (AllByRecursion IsAdd) (sym two) (all_two one more add rests)));
    }

-- how many adds there are
adds_long : (a : Arrival) (landed : List Arrival) → length (flat_map arrival_adds (a ∷ landed)) ≡ cond (is_lasting a) (1 + length (flat_map arrival_adds landed)) (length (flat_map arrival_adds landed))
adds_long a landed = by (is_lasting a)
  where
    by : (b : Bool) → length (cond b (record { queue = a.queue; message = a.message } ∷ []) [] ++ flat_map arrival_adds landed) ≡ cond b (1 + length (flat_map arrival_adds landed)) (length (flat_map arrival_adds landed))
    by true = omega arith
    by false = refl

pub lasting_count : (landed : List Arrival) → length (flat_map arrival_adds landed) ≡ count_by is_lasting landed
lasting_count landed = is_count_by (λ xs. length (flat_map arrival_adds xs)) is_lasting refl adds_long landed

adds_at_least : (as_ : List Add) → length as_ ≤ sum_by add_size as_
adds_at_least [] = omega arith
adds_at_least (a ∷ as_) = omega (arith, adds_at_least as_, sum_by-cons add_size a as_)

-- a record below four gigabytes has fewer adds than four bytes count
pub adds_fit : (landed : List Arrival) (n : ℕ) → 45 + adds_size landed < n → length (flat_map arrival_adds landed) < n
adds_fit landed n lt = omega (arith, adds_at_least (flat_map arrival_adds landed), lt)

-- the record, piece by piece
pub received_put : (channel : List ℕ) (unit : Luw) (last n : ℕ) (landed : List Arrival) (start b c : Buffered) (front : List ℕ) → n ≡ length (flat_map arrival_adds landed) → front ≡ received_front channel unit last n → b ≡ with_piece front start → c ≡ with_piece (adds_bytes landed) b
    → c ≡ with_piece (record_bytes (received_record channel unit last (all_landed landed))) start
received_put channel unit last n landed start b c front count is first second =
    second ∙ ap (with_piece (adds_bytes landed)) first ∙ with_two front (adds_bytes landed) start
    ∙ ap (λ (f : List ℕ). with_piece (f ++ adds_bytes landed) start) (is ∙ ap (λ (k : ℕ). received_front channel unit last k) count)

-- its length
pub received_size : (channel : List ℕ) (unit : Luw) (last n : ℕ) (landed : List Arrival) (front : List ℕ) → n ≡ length (flat_map arrival_adds landed) → front ≡ received_front channel unit last n → length front ≡ 45 → AllByRecursion IsAdd (flat_map arrival_adds landed)
    → length (record_bytes (received_record channel unit last (all_landed landed))) ≡ record_size (received_record channel unit last (all_landed landed))
received_size channel unit last n landed front count is long each =
    let adds : List Add = flat_map arrival_adds landed in
    let first : length (received_front channel unit last (length adds)) ≡ 45 = ap length (sym (is ∙ ap (λ (k : ℕ). received_front channel unit last k) count)) ∙ long in
    omega (arith, length-append (received_front channel unit last (length adds)) (flat_map add_bytes adds), first, adds_whole adds each)
