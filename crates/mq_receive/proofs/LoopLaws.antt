-- A batch gone through message by message.
use Rattle.std.proofs.Common.{◌≡◌, ℕ, suc, ◌+◌, ◌<◌, List, [], ◌∷◌, ◌++◌, length, get_or, drop, ap, sym, ◌∙◌, add-one, drop-cons}
use Rattle.std.specs.Prelude.{flat_map}
use Rattle.std.proofs.lemmas.List.{append_assoc}
use Rattle.mq_calls.specs.declared.deltas.Did.{Did}
use Rattle.mq_core.specs.from_place.States.{QueueStates}
use Rattle.mq_core.specs.declared.parts.Arrival.{Arrival}
use Rattle.mq_core.specs.Writes.{arrival_dids}
use Rattle.mq_receive.specs.Placed.{unexpected_in}

pub left_at : (xs : List Arrival) (i : ℕ) (a : Arrival) → i < length xs → a ≡ get_or xs i a → drop i xs ≡ a ∷ drop (i + 1) xs
left_at xs i a lt is = drop-cons xs i a lt ∙ ap (λ (x : Arrival). x ∷ drop (suc i) xs) (sym is) ∙ ap (λ (n : ℕ). a ∷ drop n xs) (sym (add-one i))

pub next_unexpected : (xs : List Arrival) (i : ℕ) (a : Arrival) (x y z : QueueStates) → i < length xs → a ≡ get_or xs i a → y ≡ unexpected_in (a ∷ []) x → unexpected_in (drop i xs) x ≡ z → unexpected_in (drop (i + 1) xs) y ≡ z
next_unexpected xs i a x y z lt is one all =
    ap (λ (v : QueueStates). unexpected_in (drop (i + 1) xs) v) one ∙ ap (λ (ys : List Arrival). unexpected_in ys x) (sym (left_at xs i a lt is)) ∙ all

pub next_told : (xs : List Arrival) (i : ℕ) (a : Arrival) (x y z : List Did) → i < length xs → a ≡ get_or xs i a → y ≡ x ++ arrival_dids a → x ++ flat_map arrival_dids (drop i xs) ≡ z → y ++ flat_map arrival_dids (drop (i + 1) xs) ≡ z
next_told xs i a x y z lt is one all =
    ap (λ (ds : List Did). ds ++ flat_map arrival_dids (drop (i + 1) xs)) one ∙ append_assoc x (arrival_dids a) (flat_map arrival_dids (drop (i + 1) xs))
    ∙ ap (λ (ys : List Arrival). x ++ flat_map arrival_dids ys) (sym (left_at xs i a lt is)) ∙ all
