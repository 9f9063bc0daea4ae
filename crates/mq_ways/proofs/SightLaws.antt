-- What the faults make of bytes is what they make of what a reader sees of them.
use Rattle.std.proofs.Common.{◌≡◌, ℕ, zero, suc, Bool, true, false, List, [], ◌∷◌, ◌++◌, length, take, drop, refl, sym, ap, subst}
use Rattle.std.specs.Prelude.{◌==◌, if◌then◌else◌, Option, Some, None}
use Rattle.mq_cable.specs.declared.fault.Fault.{Fault}
use Rattle.mq_cable.specs.declared.fault.Fault.TheVariants as faults
use Rattle.mq_cable.specs.declared.item.Item.{Item}
use Rattle.mq_cable.specs.Faults.{Offer, comes_after, due_after, due_from, due_if, fault_of, made_after, now_of, pushed_by}
use Rattle.mq_cable.specs.Faults.{spoiled as spoiled_bytes, made as made_bytes}
use Rattle.mq_cable.specs.Lists.{first_of}
use Rattle.mq_frame.specs.declared.frame.Frame.{Frame}
use Rattle.mq_frame.specs.declared.frame.Seen.{Seen}
use Rattle.mq_frame.specs.declared.frame.Seen.TheVariants as items
use Rattle.mq_frame.specs.Sight.{Shows}
use Rattle.mq_frame.proofs.Streams.{one_sight}
use Rattle.mq_spec_network.specs.from_spec_node.Terms.{Entry}
use Rattle.mq_spec_network.specs.from_spec_node.Words.{item_if, items_of}
use Rattle.mq_spec_network.specs.Cables.{Lying, lying, made, offered_by, offered_if, pops_of, spoiled}
use Rattle.mq_spec_network.specs.Turns.{waiting}
use Rattle.mq_wires.specs.Wires.{Sees, ShowsItem}
use Rattle.mq_ways.proofs.SpoilLaws.{spoiled_shows}
use Rattle.mq_ways.specs.Ways.{AreSeen, AreShown, IsSeen, IsShown, IsWay, WayState}

pub seen_long : (xs : List Item) (ys : List Lying) → AreSeen xs ys → length xs ≡ length ys
seen_long [] [] h = refl
seen_long [] (y ∷ ys) h = absurd h
seen_long (x ∷ xs) [] h = absurd h
seen_long (x ∷ xs) (y ∷ ys) h = ap suc (seen_long xs ys h.1)

seen_append : (xs as_ : List Item) (ys bs : List Lying) → AreSeen xs ys → AreSeen as_ bs → AreSeen (xs ++ as_) (ys ++ bs)
seen_append [] as_ [] bs h k = k
seen_append [] as_ (y ∷ ys) bs h k = absurd h
seen_append (x ∷ xs) as_ [] bs h k = absurd h
seen_append (x ∷ xs) as_ (y ∷ ys) bs h k = (h.0, seen_append xs as_ ys bs h.1 k)

seen_take : (n : ℕ) (xs : List Item) (ys : List Lying) → AreSeen xs ys → AreSeen (take n xs) (take n ys)
seen_take zero [] [] h = tt
seen_take zero [] (y ∷ ys) h = absurd h
seen_take zero (x ∷ xs) [] h = absurd h
seen_take zero (x ∷ xs) (y ∷ ys) h = tt
seen_take (suc n) [] [] h = tt
seen_take (suc n) [] (y ∷ ys) h = absurd h
seen_take (suc n) (x ∷ xs) [] h = absurd h
seen_take (suc n) (x ∷ xs) (y ∷ ys) h = (h.0, seen_take n xs ys h.1)

pub seen_drop : (n : ℕ) (xs : List Item) (ys : List Lying) → AreSeen xs ys → AreSeen (drop n xs) (drop n ys)
seen_drop zero [] [] h = tt
seen_drop zero [] (y ∷ ys) h = absurd h
seen_drop zero (x ∷ xs) [] h = absurd h
seen_drop zero (x ∷ xs) (y ∷ ys) h = h
seen_drop (suc n) [] [] h = tt
seen_drop (suc n) [] (y ∷ ys) h = absurd h
seen_drop (suc n) (x ∷ xs) [] h = absurd h
seen_drop (suc n) (x ∷ xs) (y ∷ ys) h = seen_drop n xs ys h.1

-- what is pushed now, and what is due
seen_now : (o : Option Fault) (x : Item) (y : Lying) → IsSeen x y → IsSeen (spoiled_bytes x) (spoiled y) → AreSeen (now_of spoiled_bytes o x) (now_of spoiled o y)
seen_now None x y h s = (h, tt)
seen_now (Some (faults.Drop on)) x y h s = tt
seen_now (Some (faults.Late on j)) x y h s = tt
seen_now (Some (faults.Copy on j)) x y h s = (h, tt)
seen_now (Some (faults.Spoil on)) x y h s = (s, tt)

seen_if : (b : Bool) (x : Item) (y : Lying) → IsSeen x y → AreSeen (if b then x ∷ [] else []) (if b then y ∷ [] else [])
seen_if true x y h = (h, tt)
seen_if false x y h = tt

seen_due_if : (n : ℕ) (o : Option ℕ) (x : Item) (y : Lying) → IsSeen x y → AreSeen (due_if n o x) (due_if n o y)
seen_due_if n None x y h = tt
seen_due_if n (Some j) x y h = seen_if (j == n) x y h

seen_due : (fs : List Fault) (n k : ℕ) (xs : List Item) (ys : List Lying) → AreSeen xs ys → AreSeen (due_from fs n k xs) (due_from fs n k ys)
seen_due fs n k [] [] h = tt
seen_due fs n k [] (y ∷ ys) h = absurd h
seen_due fs n k (x ∷ xs) [] h = absurd h
seen_due fs n k (x ∷ xs) (y ∷ ys) h =
    seen_append (due_if n (comes_after (fault_of k fs)) x) (due_from fs n (suc k) xs) (due_if n (comes_after (fault_of k fs)) y) (due_from fs n (suc k) ys)
    (seen_due_if n (comes_after (fault_of k fs)) x y h.0) (seen_due fs n (suc k) xs ys h.1)

seen_due_after : (fs : List Fault) (xs : List Item) (ys : List Lying) → AreSeen xs ys → AreSeen (due_after fs xs) (due_after fs ys)
seen_due_after fs xs ys h = subst (λ (m : ℕ). AreSeen (due_after fs xs) (due_from fs m 1 ys)) (seen_long xs ys h) (seen_due fs (length xs) 1 xs ys h)

seen_pushed : (fs : List Fault) (bs : List Item) (cs : List Lying) (x : Item) (y : Lying) (n : ℕ) → AreSeen bs cs → IsSeen x y → IsSeen (spoiled_bytes x) (spoiled y) → AreSeen (pushed_by spoiled_bytes fs bs x n) (pushed_by spoiled fs cs y n)
seen_pushed fs bs cs x y n h k s =
    seen_append (now_of spoiled_bytes (fault_of (suc (length bs)) fs) x) (take n (due_after fs (bs ++ x ∷ []))) (now_of spoiled (fault_of (suc (length cs)) fs) y) (take n (due_after fs (cs ++ y ∷ [])))
    (subst (λ (m : ℕ). AreSeen (now_of spoiled_bytes (fault_of (suc (length bs)) fs) x) (now_of spoiled (fault_of (suc m) fs) y)) (seen_long bs cs h) (seen_now (fault_of (suc (length bs)) fs) x y k s))
    (seen_take n (due_after fs (bs ++ x ∷ [])) (due_after fs (cs ++ y ∷ [])) (seen_due_after fs (bs ++ x ∷ []) (cs ++ y ∷ []) (seen_append bs (x ∷ []) cs (y ∷ []) h (k, tt))))

-- what was offered
abbrev AreOffers : List (Offer Item) → List (Offer Lying) → Type 0
AreOffers [] [] = Unit {0}
AreOffers [] (q ∷ qs) = ⊥
AreOffers (p ∷ ps) [] = ⊥
AreOffers (p ∷ ps) (q ∷ qs) = IsSeen p.item q.item × IsSeen (spoiled_bytes p.item) (spoiled q.item) × (p.extras ≡ q.extras) × AreOffers ps qs

seen_made : (fs : List Fault) (bs : List Item) (cs : List Lying) (ps : List (Offer Item)) (qs : List (Offer Lying)) → AreSeen bs cs → AreOffers ps qs → AreSeen (made_after spoiled_bytes fs bs ps) (made_after spoiled fs cs qs)
seen_made fs bs cs [] [] h k = tt
seen_made fs bs cs [] (q ∷ qs) h k = absurd k
seen_made fs bs cs (p ∷ ps) [] h k = absurd k
seen_made fs bs cs (p ∷ ps) (q ∷ qs) h k =
    seen_append (pushed_by spoiled_bytes fs bs p.item p.extras) (made_after spoiled_bytes fs (bs ++ p.item ∷ []) ps) (pushed_by spoiled fs cs q.item q.extras) (made_after spoiled fs (cs ++ q.item ∷ []) qs)
    (subst (λ (n : ℕ). AreSeen (pushed_by spoiled_bytes fs bs p.item p.extras) (pushed_by spoiled fs cs q.item n)) k.2 (seen_pushed fs bs cs p.item q.item p.extras h k.0 k.1))
    (seen_made fs (bs ++ p.item ∷ []) (cs ++ q.item ∷ []) ps qs (seen_append bs (p.item ∷ []) cs (q.item ∷ []) h (k.0, tt)) k.3)

offers_append : (ps as_ : List (Offer Item)) (qs bs : List (Offer Lying)) → AreOffers ps qs → AreOffers as_ bs → AreOffers (ps ++ as_) (qs ++ bs)
offers_append [] as_ [] bs h k = k
offers_append [] as_ (q ∷ qs) bs h k = absurd h
offers_append (p ∷ ps) as_ [] bs h k = absurd h
offers_append (p ∷ ps) as_ (q ∷ qs) bs h k = (h.0, h.1, h.2, offers_append ps as_ qs bs h.3 k)

offers_if : (o : Option Frame) (n : ℕ) → IsShown o → AreOffers (item_if o n) (offered_if o n)
offers_if None n h = tt
offers_if (Some f) n h = (record { stamp = refl; shows = (h, refl); has = refl }, record { stamp = refl; shows = spoiled_shows f h; has = tt }, refl, tt)

offers_by : (es : List Entry) → AreShown es → AreOffers (items_of es) (offered_by es)
offers_by [] h = tt
offers_by (e ∷ es) h = offers_append (item_if e.effect.pushed e.effect.extras) (items_of es) (offered_if e.effect.pushed e.effect.extras) (offered_by es) (offers_if e.effect.pushed e.effect.extras h.0) (offers_by es h.1)

-- What lies on a direction, as its reader sees it.
pub way_seen : (fs : List Fault) (ps qs : List Entry) (w : WayState) → AreShown ps → IsWay fs ps qs w → AreSeen w.items (lying fs ps qs)
way_seen fs ps qs w shown h =
    subst (λ (xs : List Item). AreSeen xs (lying fs ps qs)) (sym h.lies)
    (seen_drop (length (pops_of qs)) (made_bytes fs (items_of ps)) (made fs (offered_by ps)) (seen_made fs [] [] (items_of ps) (offered_by ps) tt (offers_by ps shown)))

-- what waits there
some_is : {A : Type 0} (a b : A) → Some a ≡ Some b → a ≡ b
some_is a b e = cc

same_sight : (a : Item) (b : Lying) (seen : Seen) (n : ℕ) → IsSeen a b → ShowsItem (Some a) seen n → b.seen ≡ seen
same_sight a b seen n k t = one_sight a.bytes b.seen seen k.shows (subst (λ (z : Item). Shows z.bytes seen) (sym (some_is a t.item t.is)) t.shows)

pub waits_seen : (empty : Type 0) (xs : List Item) (ys : List Lying) (seen : Seen) (stamp : ℕ) → (empty → xs ≡ []) → AreSeen xs ys → Sees (first_of xs) empty seen stamp → waiting ys ≡ seen
waits_seen empty [] [] items.Nothing stamp none h s = refl
waits_seen empty [] [] items.Spoiled stamp none h s = absurd (let e = s.is in cc)
waits_seen empty [] [] (items.Frame f) stamp none h s = absurd (let e = s.is in cc)
waits_seen empty [] (y ∷ ys) seen stamp none h s = absurd h
waits_seen empty (x ∷ xs) [] seen stamp none h s = absurd h
waits_seen empty (x ∷ xs) (y ∷ ys) items.Nothing stamp none h s = absurd (let e = none s.0 in cc)
waits_seen empty (x ∷ xs) (y ∷ ys) items.Spoiled stamp none h s = same_sight x y items.Spoiled stamp h.0 s
waits_seen empty (x ∷ xs) (y ∷ ys) (items.Frame f) stamp none h s = same_sight x y (items.Frame f) stamp h.0 s

pub waits_here : (xs : List Item) (ys : List Lying) (seen : Seen) (stamp : ℕ) → AreSeen xs ys → Sees (first_of xs) (xs ≡ []) seen stamp → waiting ys ≡ seen
waits_here xs ys seen stamp h s = waits_seen (xs ≡ []) xs ys seen stamp (λ e. e) h s
