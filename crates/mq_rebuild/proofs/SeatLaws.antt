-- Places for receivers, one after another.
use Rattle.std.proofs.Common.{◌≡◌, ℕ, suc, ◌+◌, ◌<◌, ◌≤◌, true, List, [], ◌∷◌, length, get_or, drop, refl, ap, arith, add-one, drop-cons, sym, subst, ◌∙◌}
use Rattle.std.specs.List.{AllByRecursion}
use Rattle.mq_calls.specs.declared.state.ReceiverSide.{ReceiverSide}
use Rattle.mq_sides.specs.Bonds.{KeepsSeats, has_seat}

-- all of them have places
abbrev pub AreSeated : List (List ℕ) → List ReceiverSide → Type 0
AreSeated seats rs = AllByRecursion (λ (r : ReceiverSide). has_seat r.channel seats ≡ true) rs

-- they have, where those have that are left
abbrev pub AreSeatedFrom : List (List ℕ) → List ReceiverSide → List ReceiverSide → Type 0
AreSeatedFrom old left rs = (seats : List (List ℕ)) → KeepsSeats old seats → AreSeated seats left → AreSeated seats rs

left_at : (rs : List ReceiverSide) (i : ℕ) (r : ReceiverSide) → i < length rs → r ≡ get_or rs i r → drop i rs ≡ r ∷ drop (i + 1) rs
left_at rs i r lt is = drop-cons rs i r lt ∙ ap (λ (x : ReceiverSide). x ∷ drop (suc i) rs) (sym is) ∙ ap (λ (n : ℕ). r ∷ drop n rs) (sym (add-one i))

pub seated_next : (old new : List (List ℕ)) (items rs : List ReceiverSide) (i : ℕ) (r : ReceiverSide) → items ≡ rs → i < length items → r ≡ get_or items i r → KeepsSeats old new → has_seat r.channel new ≡ true
    → AreSeatedFrom old (drop i rs) rs → AreSeatedFrom new (drop (i + 1) rs) rs
seated_next old new items rs i r same lt is keeps has so_far = λ seats more rest.
    so_far seats (λ name e. more name (keeps name e)) (subst (AreSeated seats) (sym (left_at rs i r (subst (λ (xs : List ReceiverSide). i < length xs) same lt) (subst (λ (xs : List ReceiverSide). r ≡ get_or xs i r) same is))) (more r.channel has, rest))

pub seated_end : (old : List (List ℕ)) (left rs : List ReceiverSide) → left ≡ [] → AreSeatedFrom old left rs → AreSeated old rs
seated_end old left rs none so_far = so_far old (λ name e. e) (subst (AreSeated old) (sym none) tt)
