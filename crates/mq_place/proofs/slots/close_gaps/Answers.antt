use Rattle.std.proofs.Common.{◌≡◌, ◌<◌, ℕ, List, Option, Some, is_some, cond, if◌then◌else◌, get_or, length, take, ap, sym, subst, ◌∙◌, arith}
use Rattle.std.proofs.lemmas.List.{length-take-le, take_all}
use Rattle.std.specs.Map.{lookup}
use Rattle.std.specs.Str.{bytes_eq}
use Rattle.mq_place.specs.States.{QueueState}
use Rattle.mq_place.specs.Slots.{present, place_of, AreNamed}
use Rattle.mq_place.proofs.SlotLaws.{present-full, count-full, distinct-full, full-holds, not_in_front, not_found, take-next, place-push, count-push}
use Rattle.mq_place.proofs.slots.close_gaps.Goals as goal

pub loop-place-init : goal.loop-place-init
loop-place-init g c =
    let full_is = c.drop_empty.ensures.full in
    let count = c.requires.counted ∙ sym (count-full c.args.slots.now.items) in
    record {
      found = λ name. ap (lookup (bytes_eq name)) c.clear.ensures.empty;
      counted = c.clear.ensures.len;
      room = omega (arith, c.clear.ensures.capacity, count, ap length full_is);
    }

pub loop-place-preserved-in_default : goal.loop-place-preserved-in_default
loop-place-preserved-in_default g c =
    let slots = c.drop_empty.new.slots.items in
    let i = c.loop-place.place in
    let inside : i < length slots = omega (arith, c.loop-place-test.true, c.len-place-end.ensures, c.drop_empty.new.slots.ok) in
    let full_is = c.drop_empty.ensures.full in
    let d = c.index.result.now in
    absurd (full-holds c.args.slots.now.items i d (omega (arith, inside, ap length full_is)) (ap (λ (l : List (Option QueueState)). get_or l i d) (sym full_is) ∙ sym c.index.ensures ∙ c.in_default.is))

pub loop-place-preserved : goal.loop-place-preserved
loop-place-preserved g c =
    let slots = c.drop_empty.new.slots.items in
    let i = c.loop-place.place in
    let s : QueueState = c.in-Some.local in
    let d = c.index.result.now in
    let inside : i < length slots = omega (arith, c.loop-place-test.true, c.len-place-end.ensures, c.drop_empty.new.slots.ok) in
    let at = sym c.index.ensures ∙ c.in-Some.is in
    let apart : AreNamed slots = subst AreNamed (sym c.drop_empty.ensures.full) (distinct-full c.args.slots.now.items c.requires.distinct) in
    let front = not_in_front slots i d s apart inside at in
    let next = take-next slots i d (Some s) inside at in
    let long : length (take i slots) ≡ i = length-take-le i slots (omega (arith, inside)) in
    let updates = rw c.unwrap-none.ensures at c.insert.ensures.updates in
    let len = rw c.unwrap-none.ensures at c.insert.ensures.len in
    let old = rw c.unwrap-none.ensures at c.insert.ensures.old in
    let none = old ∙ c.loop-place.invariant.found c.name.result.now ∙ ap (λ (k : List ℕ). place_of k (take i slots)) c.name.ensures ∙ not_found s.queue.name (take i slots) front in
    let more : Option ℕ → ℕ = λ (r : Option ℕ). if is_some r then 0 else 1 in
    let one : more c.unwrap-none.result ≡ 1 = ap more none in
    record {
      found = λ name.
          updates.0 name
          ∙ (λ j. cond (bytes_eq (c.name.ensures j) name) (Some (sym long j)) (c.loop-place.invariant.found name j))
          ∙ sym (place-push s (take i slots) front name)
          ∙ ap (place_of name) (sym next);
      counted = omega (arith, len, one, c.loop-place.invariant.counted, count-push s (take i slots), ap (λ (l : List (Option QueueState)). length (present l)) next);
      room = omega (arith, inside, c.loop-place.invariant.room, c.insert.ensures.spare);
    }

pub returns-clause-present : goal.returns-clause-present
returns-clause-present g c = ap present c.drop_empty.ensures.full ∙ present-full c.args.slots.now.items

pub returns-clause-filed : goal.returns-clause-filed
returns-clause-filed g c =
    let slots = c.drop_empty.new.slots.items in
    let all : take c.loop-place.place slots ≡ slots = take_all c.loop-place.place slots (omega (arith, c.loop-place-test.false, c.len-place-end.ensures, c.drop_empty.new.slots.ok)) in
    record {
      found = λ name. c.loop-place.invariant.found name ∙ ap (place_of name) all;
      distinct = subst AreNamed (sym c.drop_empty.ensures.full) (distinct-full c.args.slots.now.items c.requires.distinct);
      counted = c.loop-place.invariant.counted ∙ ap (λ (l : List (Option QueueState)). length (present l)) all;
    }
