use Rattle.std.proofs.Common.{◌≡◌, ◌<◌, ℕ, List, Option, Some, is_some, cond, if◌then◌else◌, get_or, length, take, ap, sym, subst, ◌∙◌, arith}
use Rattle.std.proofs.lemmas.List.{length-take-le, take_all}
use Rattle.std.specs.Map.{lookup}
use Rattle.mq_objects.specs.declared.object.Object.{Object}
use Rattle.mq_objects.specs.declared.key.ObjectKey.{ObjectKey}
use Rattle.mq_objects.specs.Keys.{key_of, same_key}
use Rattle.mq_objects.specs.Slots.{present, place_of, AreDistinct}
use Rattle.mq_objects.proofs.SlotLemmas.{present-full, count-full, distinct-full, full-holds, not_in_front, not_found, take-next, place-push, count-push}
use Rattle.mq_objects.proofs.defs.close_gaps.Goals as goal

pub loop-place-init : goal.loop-place-init
loop-place-init c =
    let full_is = c.drop_empty.ensures.full in
    let count = c.requires.counted ∙ sym (count-full c.args.slots.now.items) in
    record {
      found = λ key. ap (lookup (same_key key)) c.clear.ensures.empty;
      counted = c.clear.ensures.len;
      room = omega (arith, c.clear.ensures.capacity, count, ap length full_is);
    }

pub loop-place-preserved-in_default : goal.loop-place-preserved-in_default
loop-place-preserved-in_default c =
    let slots = c.drop_empty.new.slots.items in
    let i = c.loop-place.place in
    let inside : i < length slots = omega (arith, c.loop-place-test.true, c.len-place-end.ensures, c.drop_empty.new.slots.ok) in
    let full_is = c.drop_empty.ensures.full in
    let d = c.index.result.now in
    absurd (full-holds c.args.slots.now.items i d (omega (arith, inside, ap length full_is)) (ap (λ (l : List (Option Object)). get_or l i d) (sym full_is) ∙ sym c.index.ensures ∙ c.in_default.is))

pub loop-place-preserved : goal.loop-place-preserved
loop-place-preserved c =
    let slots = c.drop_empty.new.slots.items in
    let i = c.loop-place.place in
    let o = c.in-Some.object in
    let d = c.index.result.now in
    let inside : i < length slots = omega (arith, c.loop-place-test.true, c.len-place-end.ensures, c.drop_empty.new.slots.ok) in
    let at = sym c.index.ensures ∙ c.in-Some.is in
    let apart : AreDistinct slots = subst AreDistinct (sym c.drop_empty.ensures.full) (distinct-full c.args.slots.now.items c.requires.distinct) in
    let front = not_in_front slots i d o apart inside at in
    let next = take-next slots i d (Some o) inside at in
    let long : length (take i slots) ≡ i = length-take-le i slots (omega (arith, inside)) in
    let updates = rw c.unwrap-none.ensures at c.insert.ensures.updates in
    let len = rw c.unwrap-none.ensures at c.insert.ensures.len in
    let old = rw c.unwrap-none.ensures at c.insert.ensures.old in
    let none = old ∙ c.loop-place.invariant.found c.of.result ∙ ap (λ (k : ObjectKey). place_of k (take i slots)) c.of.ensures ∙ not_found (key_of o) (take i slots) front in
    let more : Option ℕ → ℕ = λ (r : Option ℕ). if is_some r then 0 else 1 in
    let one : more c.unwrap-none.result ≡ 1 = ap more none in
    record {
      found = λ key.
          updates.0 key
          ∙ (λ j. cond (same_key (c.of.ensures j) key) (Some (sym long j)) (c.loop-place.invariant.found key j))
          ∙ sym (place-push o (take i slots) front key)
          ∙ ap (place_of key) (sym next);
      counted = omega (arith, len, one, c.loop-place.invariant.counted, count-push o (take i slots), ap (λ (l : List (Option Object)). length (present l)) next);
      room = omega (arith, inside, c.loop-place.invariant.room, c.insert.ensures.spare);
    }

pub returns-clause-present : goal.returns-clause-present
returns-clause-present c = ap present c.drop_empty.ensures.full ∙ present-full c.args.slots.now.items

pub returns-clause-filed : goal.returns-clause-filed
returns-clause-filed c =
    let slots = c.drop_empty.new.slots.items in
    let all : take c.loop-place.place slots ≡ slots = take_all c.loop-place.place slots (omega (arith, c.loop-place-test.false, c.len-place-end.ensures, c.drop_empty.new.slots.ok)) in
    record {
      found = λ key. c.loop-place.invariant.found key ∙ ap (place_of key) all;
      distinct = subst AreDistinct (sym c.drop_empty.ensures.full) (distinct-full c.args.slots.now.items c.requires.distinct);
      counted = c.loop-place.invariant.counted ∙ ap (λ (l : List (Option Object)). length (present l)) all;
    }
