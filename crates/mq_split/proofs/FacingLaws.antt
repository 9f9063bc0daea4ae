-- How one direction of a cable goes on by an entry of its writer or of its reader: a frame was offered, an item was popped, or neither.
use Rattle.std.proofs.Common.{◌≡◌, ℕ, suc, ◌+◌, ◌≤◌, ◌^◌, Bool, true, false, List, [], ◌∷◌, ◌++◌, length, drop, refl, sym, ap, subst, ◌∙◌, arith, append_assoc, append-nil, inl, inr}
use Rattle.std.specs.Prelude.{◌⊎◌, ◌==◌, ◌&&◌, if◌then◌else◌, max, Option, Some, None}
use Rattle.std.proofs.lemmas.Grind.{flat_map-append}
use Rattle.std.proofs.lemmas.List.Elements.{filter-append}
use Rattle.mq_cable.specs.declared.fault.Fault.{Fault}
use Rattle.mq_cable.specs.declared.item.Item.{Item}
use Rattle.mq_cable.specs.Faults.{Offer, Within, comes_after, due_after, due_from, due_if, fault_of, offered_of, pushed_by}
use Rattle.mq_cable.specs.Faults.{pushed_of as bytes_pushed}
use Rattle.mq_cable.specs.Offers.{HasTaken}
use Rattle.mq_cable.proofs.MadeLaws.{one_more}
use Rattle.mq_frame.specs.declared.frame.Frame.{Frame}
use Rattle.mq_frame.specs.Frames.{IsFrame}
use Rattle.mq_frame.specs.Sight.{Shows}
use Rattle.mq_frame.proofs.Streams.{one_sight}
use Rattle.mq_spec_node.specs.Terms.{Actor, Entry}
use Rattle.mq_spec_node.specs.Words.{by, item_if, item_of, items_of, stamp_after}
use Rattle.mq_spec_network.specs.Cables.{Carries, Lying, Takes, is_popped, lying, made, offered_by, offered_if, pops_item, pops_of, spoiled, whole}
use Rattle.mq_ways.specs.Ways.{AreSeen, AreShown, IsShown, IsWay, WayState}
use Rattle.mq_ways.proofs.SightLaws.{way_seen}
use Rattle.mq_ways.proofs.WayLaws.{way_offered, way_others, way_popped}
use Rattle.mq_split.specs.Facing.{Facing}

-- What one entry more is among those of an end.
pub by_more : (test : Actor → Bool) (es : List Entry) (e : Entry) (b : Bool) → test e.actor ≡ b → by test (es ++ e ∷ []) ≡ by test es ++ (if b then e ∷ [] else [])
by_more test es e b is = filter-append (λ (x : Entry). test x.actor) es (e ∷ []) ∙ ap (λ (t : Bool). by test es ++ (if t then e ∷ [] else [])) is

pub by_mine : (test : Actor → Bool) (es : List Entry) (e : Entry) → test e.actor ≡ true → by test (es ++ e ∷ []) ≡ by test es ++ e ∷ []
by_mine test es e is = by_more test es e true is

pub by_other : (test : Actor → Bool) (es : List Entry) (e : Entry) → test e.actor ≡ false → by test (es ++ e ∷ []) ≡ by test es
by_other test es e is = by_more test es e false is ∙ append-nil (by test es)

-- what it offers
offers_more : (ps : List Entry) (e : Entry) → offered_by (ps ++ e ∷ []) ≡ offered_by ps ++ offered_if e.effect.pushed e.effect.extras
offers_more ps e = flat_map-append (λ (x : Entry). offered_if x.effect.pushed x.effect.extras) ps (e ∷ []) ∙ ap (λ (os : List (Offer Lying)). offered_by ps ++ os) (append-nil (offered_if e.effect.pushed e.effect.extras))

items_more : (ps : List Entry) (e : Entry) → items_of (ps ++ e ∷ []) ≡ items_of ps ++ item_if e.effect.pushed e.effect.extras
items_more ps e = flat_map-append (λ (x : Entry). item_if x.effect.pushed x.effect.extras) ps (e ∷ []) ∙ ap (λ (os : List (Offer Item)). items_of ps ++ os) (append-nil (item_if e.effect.pushed e.effect.extras))

offered_same : (ps : List Entry) (e : Entry) → e.effect.pushed ≡ None → offered_by (ps ++ e ∷ []) ≡ offered_by ps
offered_same ps e none = offers_more ps e ∙ ap (λ (o : Option Frame). offered_by ps ++ offered_if o e.effect.extras) none ∙ append-nil (offered_by ps)

items_same : (ps : List Entry) (e : Entry) → e.effect.pushed ≡ None → items_of (ps ++ e ∷ []) ≡ items_of ps
items_same ps e none = items_more ps e ∙ ap (λ (o : Option Frame). items_of ps ++ item_if o e.effect.extras) none ∙ append-nil (items_of ps)

-- how many were offered
pub as_many_offered : (ps : List Entry) → length (offered_of (items_of ps)) ≡ length (offered_of (offered_by ps))
as_many_offered [] = refl
as_many_offered (e ∷ es) = by_push e.effect.pushed (as_many_offered es)
  where
    by_push : (o : Option Frame) → length (offered_of (items_of es)) ≡ length (offered_of (offered_by es)) → length (offered_of (item_if o e.effect.extras ++ items_of es)) ≡ length (offered_of (offered_if o e.effect.extras ++ offered_by es))
    by_push None h = h
    by_push (Some f) h = ap suc h

offered_more : {A : Type 0} (os : List (Offer A)) (o : Offer A) → offered_of (os ++ o ∷ []) ≡ offered_of os ++ o.item ∷ []
offered_more [] o = refl
offered_more (p ∷ os) o = ap (λ (l : List _). p.item ∷ l) (offered_more os o)

-- How many extra items are due depends on how many were offered alone.
pub long_append : {A : Type 0} (xs ys : List A) → length (xs ++ ys) ≡ length xs + length ys
long_append [] ys = omega arith
long_append (x ∷ xs) ys = let h = long_append xs ys in omega (arith, h)

if_long : {A B : Type 0} (b : Bool) (x : A) (y : B) → length (if b then x ∷ [] else []) ≡ length (if b then y ∷ [] else [])
if_long true x y = refl
if_long false x y = refl

due_if_long : {A B : Type 0} (n : ℕ) (o : Option ℕ) (x : A) (y : B) → length (due_if n o x) ≡ length (due_if n o y)
due_if_long n None x y = refl
due_if_long n (Some j) x y = if_long (j == n) x y

due_from_long : {A B : Type 0} (fs : List Fault) (n k : ℕ) (xs : List A) (ys : List B) → length xs ≡ length ys → length (due_from fs n k xs) ≡ length (due_from fs n k ys)
due_from_long fs n k [] [] e = refl
due_from_long fs n k [] (y ∷ ys) e = absurd (omega (arith, e))
due_from_long fs n k (x ∷ xs) [] e = absurd (omega (arith, e))
due_from_long fs n k (x ∷ xs) (y ∷ ys) e =
    let rest = due_from_long fs n (suc k) xs ys (omega (arith, e)) in
    let here = due_if_long n (comes_after (fault_of k fs)) x y in
    let left = long_append (due_if n (comes_after (fault_of k fs)) x) (due_from fs n (suc k) xs) in
    let right = long_append (due_if n (comes_after (fault_of k fs)) y) (due_from fs n (suc k) ys) in
    omega (arith, rest, here, left, right)

pub due_long : {A B : Type 0} (fs : List Fault) (xs : List A) (ys : List B) → length xs ≡ length ys → length (due_after fs xs) ≡ length (due_after fs ys)
due_long fs xs ys e = due_from_long fs (length xs) 1 xs ys e ∙ ap (λ (n : ℕ). length (due_from fs n 1 ys)) e

one_longer : {A B : Type 0} (xs : List A) (ys : List B) (x : A) (y : B) → length xs ≡ length ys → length (xs ++ x ∷ []) ≡ length (ys ++ y ∷ [])
one_longer xs ys x y e = let a = long_append xs (x ∷ []) in let b = long_append ys (y ∷ []) in omega (arith, a, b, e)

pub due_next_long : {A B : Type 0} (fs : List Fault) (xs : List A) (ys : List B) (x : A) (y : B) → length xs ≡ length ys → length (due_after fs (xs ++ x ∷ [])) ≡ length (due_after fs (ys ++ y ∷ []))
due_next_long fs xs ys x y e = due_long fs (xs ++ x ∷ []) (ys ++ y ∷ []) (one_longer xs ys x y e)

-- no more extra items than are due
within_more : (fs : List Fault) (before : List Lying) (os : List (Offer Lying)) (o : Offer Lying) → Within fs before os → o.extras ≤ length (due_after fs ((before ++ offered_of os) ++ o.item ∷ [])) → Within fs before (os ++ o ∷ [])
within_more fs before [] o h le = (subst (λ (xs : List Lying). o.extras ≤ length (due_after fs (xs ++ o.item ∷ []))) (append-nil before) le, tt)
within_more fs before (p ∷ os) o h le =
    (h.0, within_more fs (before ++ p.item ∷ []) os o h.1 (subst (λ (xs : List Lying). o.extras ≤ length (due_after fs (xs ++ o.item ∷ []))) (sym (append_assoc before (p.item ∷ []) (offered_of os))) le))

-- WHAT A READER TOOK
takes_others : (test : Actor → Bool) (last : ℕ) (es : List Entry) (e : Entry) (taken : List Lying) → pops_item test e ≡ false → Takes test last es taken → Takes test last (es ++ e ∷ []) taken
takes_others test last [] e [] none h = (none, refl)
takes_others test last [] e (t ∷ ts) none h = absurd (let k = h in cc)
takes_others test last (x ∷ es) e [] none h = (h.0, takes_others test x.stamp es e [] none h.1)
takes_others test last (x ∷ es) e (t ∷ ts) none (inl h) = inl (h.0, takes_others test x.stamp es e (t ∷ ts) none h.1)
takes_others test last (x ∷ es) e (t ∷ ts) none (inr h) = inr (h.0, h.1, h.2, takes_others test x.stamp es e ts none h.3)

takes_more : (test : Actor → Bool) (last : ℕ) (es : List Entry) (e : Entry) (taken : List Lying) (y : Lying) → pops_item test e ≡ true → e.effect.popped ≡ y.seen → e.stamp ≡ max (stamp_after last es) y.stamp + 1 → Takes test last es taken → Takes test last (es ++ e ∷ []) (taken ++ y ∷ [])
takes_more test last [] e [] y pop seen stamp h = inr (pop, seen, stamp, refl)
takes_more test last [] e (t ∷ ts) y pop seen stamp h = absurd (let k = h in cc)
takes_more test last (x ∷ es) e [] y pop seen stamp h = inl (h.0, takes_more test x.stamp es e [] y pop seen stamp h.1)
takes_more test last (x ∷ es) e (t ∷ ts) y pop seen stamp (inl h) = inl (h.0, takes_more test x.stamp es e (t ∷ ts) y pop seen stamp h.1)
takes_more test last (x ∷ es) e (t ∷ ts) y pop seen stamp (inr h) = inr (h.0, h.1, h.2, takes_more test x.stamp es e ts y pop seen stamp h.3)

-- so many as it popped
pops_here : (test : Actor → Bool) (x : Entry) (es : List Entry) (b c : Bool) → test x.actor ≡ b → is_popped x ≡ c → pops_of (by test (x ∷ es)) ≡ (if b && c then x ∷ pops_of (by test es) else pops_of (by test es))
pops_here test x es true c is pop = ap (λ (t : Bool). pops_of (if t then x ∷ by test es else by test es)) is ∙ ap (λ (t : Bool). if t then x ∷ pops_of (by test es) else pops_of (by test es)) pop
pops_here test x es false c is pop = ap (λ (t : Bool). pops_of (if t then x ∷ by test es else by test es)) is

pops_by : (test : Actor → Bool) (x : Entry) (es : List Entry) → pops_of (by test (x ∷ es)) ≡ (if pops_item test x then x ∷ pops_of (by test es) else pops_of (by test es))
pops_by test x es = pops_here test x es (test x.actor) (is_popped x) refl refl

pops_if : (test : Actor → Bool) (x : Entry) (es : List Entry) (b : Bool) → pops_item test x ≡ b → pops_of (by test (x ∷ es)) ≡ (if b then x ∷ pops_of (by test es) else pops_of (by test es))
pops_if test x es b is = pops_by test x es ∙ ap (λ (t : Bool). if t then x ∷ pops_of (by test es) else pops_of (by test es)) is

takes_long : (test : Actor → Bool) (last : ℕ) (es : List Entry) (taken : List Lying) → Takes test last es taken → length (pops_of (by test es)) ≡ length taken
takes_long test last [] taken h = ap length (sym h)
takes_long test last (x ∷ es) [] h = ap length (pops_if test x es false h.0) ∙ takes_long test x.stamp es [] h.1
takes_long test last (x ∷ es) (t ∷ ts) (inl h) = ap length (pops_if test x es false h.0) ∙ takes_long test x.stamp es (t ∷ ts) h.1
takes_long test last (x ∷ es) (t ∷ ts) (inr h) = ap length (pops_if test x es true h.0) ∙ ap suc (takes_long test x.stamp es ts h.3)

drop_front : (taken left : List Lying) → drop (length taken) (taken ++ left) ≡ left
drop_front [] left = refl
drop_front (t ∷ ts) left = drop_front ts left

-- what lies there is what is left
left_lies : (fs : List Fault) (ps es : List Entry) (reader : Actor → Bool) (c : Carries fs ps reader es) → lying fs ps (by reader es) ≡ c.left
left_lies fs ps es reader c = ap (λ (xs : List Lying). drop (length (pops_of (by reader es))) xs) c.whole ∙ ap (λ (n : ℕ). drop n (c.taken ++ c.left)) (takes_long reader 0 es c.taken c.takes) ∙ drop_front c.taken c.left

-- ONE ENTRY MORE
as_written : (fs : List Fault) (writer reader : Actor → Bool) (written read ps : List Entry) (d : WayState) → by writer written ≡ ps → IsWay fs ps (by reader read) d → AreShown ps → Carries fs ps reader read → Facing fs writer reader written read d
as_written fs writer reader written read ps d is way shown carries = record {
  way = subst (λ (xs : List Entry). IsWay fs xs (by reader read) d) (sym is) way;
  shown = subst AreShown (sym is) shown;
  carries = subst (λ (xs : List Entry). Carries fs xs reader read) (sym is) carries;
}

shown_more : (xs : List Entry) (e : Entry) → IsShown e.effect.pushed → AreShown xs → AreShown (xs ++ e ∷ [])
shown_more [] e h k = (h, tt)
shown_more (x ∷ xs) e h k = (k.0, shown_more xs e h k.1)

unwritten_other : (fs : List Fault) (writer reader : Actor → Bool) (written read : List Entry) (e : Entry) (d : WayState) → writer e.actor ≡ false → Facing fs writer reader written read d → Facing fs writer reader (written ++ e ∷ []) read d
unwritten_other fs writer reader written read e d other h = as_written fs writer reader (written ++ e ∷ []) read (by writer written) d (by_other writer written e other) h.way h.shown h.carries

-- at the writer's manager, which offered nothing here
pub facing_unwritten : (fs : List Fault) (writer reader : Actor → Bool) (written read : List Entry) (e : Entry) (d : WayState) → (writer e.actor ≡ false) ⊎ (e.effect.pushed ≡ None) → Facing fs writer reader written read d → Facing fs writer reader (written ++ e ∷ []) read d
facing_unwritten fs writer reader written read e d (inl other) h = unwritten_other fs writer reader written read e d other h
facing_unwritten fs writer reader written read e d (inr none) h = by_actor (writer e.actor) refl
  where
    ps : List Entry
    ps = by writer written

    carried : Carries fs (ps ++ e ∷ []) reader read
    carried = record {
      taken = h.carries.taken;
      left = h.carries.left;
      whole = ap (made fs) (offered_same ps e none) ∙ h.carries.whole;
      takes = h.carries.takes;
      within = subst (Within fs []) (sym (offered_same ps e none)) h.carries.within;
    }

    by_actor : (b : Bool) → writer e.actor ≡ b → Facing fs writer reader (written ++ e ∷ []) read d
    by_actor false is = unwritten_other fs writer reader written read e d is h
    by_actor true is =
        as_written fs writer reader (written ++ e ∷ []) read (ps ++ e ∷ []) d (by_mine writer written e is)
        (way_others fs ps (by reader read) (ps ++ e ∷ []) (by reader read) d (items_same ps e none) refl h.way) (shown_more ps e (subst IsShown (sym none) tt) h.shown) carried

-- at the reader's, which popped nothing here
pub facing_unread : (fs : List Fault) (writer reader : Actor → Bool) (written read : List Entry) (e : Entry) (d : WayState) → pops_item reader e ≡ false → Facing fs writer reader written read d → Facing fs writer reader written (read ++ e ∷ []) d
facing_unread fs writer reader written read e d none h = record {
  way = way_others fs (by writer written) (by reader read) (by writer written) (by reader (read ++ e ∷ [])) d refl as_many h.way;
  shown = h.shown;
  carries = record {
    taken = h.carries.taken;
    left = h.carries.left;
    whole = h.carries.whole;
    takes = more;
    within = h.carries.within;
  };
}
  where
    more : Takes reader 0 (read ++ e ∷ []) h.carries.taken
    more = takes_others reader 0 read e h.carries.taken none h.carries.takes

    as_many : length (pops_of (by reader (read ++ e ∷ []))) ≡ length (pops_of (by reader read))
    as_many = takes_long reader 0 (read ++ e ∷ []) h.carries.taken more ∙ sym (takes_long reader 0 read h.carries.taken h.carries.takes)

-- The writer offered a frame, with so many extra items behind it.
pub facing_offered : (fs : List Fault) (writer reader : Actor → Bool) (written read : List Entry) (e : Entry) (f : Frame) (old new : WayState) → writer e.actor ≡ true → e.effect.pushed ≡ Some f → f.stamp ≤ 2 ^ 60 → IsFrame f → Facing fs writer reader written read old
    → new.items ≡ old.items ++ bytes_pushed fs (offered_of (items_of (by writer written))) (item_of f) e.effect.extras → HasTaken new.offers (offered_of (items_of (by writer written)) ++ item_of f ∷ []) → new.offers.faults ≡ old.offers.faults
    → e.effect.extras ≤ length (due_after fs (offered_of (items_of (by writer written)) ++ item_of f ∷ [])) → Facing fs writer reader (written ++ e ∷ []) read new
facing_offered fs writer reader written read e f old new mine pushed low frame h put taken faults few =
    as_written fs writer reader (written ++ e ∷ []) read (ps ++ e ∷ []) new (by_mine writer written e mine) (way_offered fs ps (by reader read) e f old new pushed low h.way put taken faults)
    (shown_more ps e (subst IsShown (sym pushed) frame) h.shown) (record {
      taken = h.carries.taken;
      left = h.carries.left ++ pushed_by spoiled fs (offered_of (offered_by ps)) (whole f) e.effect.extras;
      whole =
          ap (made fs) more ∙ one_more spoiled fs (offered_by ps) o
          ∙ ap (λ (xs : List Lying). xs ++ pushed_by spoiled fs (offered_of (offered_by ps)) (whole f) e.effect.extras) h.carries.whole
          ∙ append_assoc h.carries.taken h.carries.left (pushed_by spoiled fs (offered_of (offered_by ps)) (whole f) e.effect.extras);
      takes = h.carries.takes;
      within = subst (Within fs []) (sym more) (within_more fs [] (offered_by ps) o h.carries.within few_seen);
    })
  where
    ps : List Entry
    ps = by writer written

    o : Offer Lying
    o = record { item = whole f; extras = e.effect.extras }

    more : offered_by (ps ++ e ∷ []) ≡ offered_by ps ++ o ∷ []
    more = offers_more ps e ∙ ap (λ (x : Option Frame). offered_by ps ++ offered_if x e.effect.extras) pushed

    few_seen : e.effect.extras ≤ length (due_after fs (offered_of (offered_by ps) ++ whole f ∷ []))
    few_seen =
        subst (λ (n : ℕ). e.effect.extras ≤ n) (due_next_long fs (offered_of (items_of ps)) (offered_of (offered_by ps)) (item_of f) (whole f) (as_many_offered ps)) few

-- The reader popped the item that waited.
pub facing_popped : (fs : List Fault) (writer reader : Actor → Bool) (written read : List Entry) (e : Entry) (x : Item) (old new : WayState) → reader e.actor ≡ true → is_popped e ≡ true → Shows x.bytes e.effect.popped → e.stamp ≡ max (stamp_after 0 read) x.stamp + 1
    → Facing fs writer reader written read old → old.items ≡ x ∷ new.items → new.offers ≡ old.offers → Facing fs writer reader written (read ++ e ∷ []) new
facing_popped fs writer reader written read e x old new mine pop shows stamp h front same = on_left h.carries.left (left_lies fs ps read reader h.carries) (way_seen fs ps (by reader read) old h.shown h.way)
  where
    ps : List Entry
    ps = by writer written

    pops : pops_item reader e ≡ true
    pops = ap (λ (b : Bool). b && is_popped e) mine ∙ pop

    way : IsWay fs ps (by reader (read ++ e ∷ [])) new
    way = subst (λ (qs : List Entry). IsWay fs ps qs new) (sym (by_mine reader read e mine)) (way_popped fs ps (by reader read) e x old new pop h.way front same)

    on_left : (left : List Lying) → lying fs ps (by reader read) ≡ left → AreSeen old.items (lying fs ps (by reader read)) → Facing fs writer reader written (read ++ e ∷ []) new
    on_left left lies seen = by_first left lies (subst (λ (xs : List Item). AreSeen xs left) front (subst (AreSeen old.items) lies seen))
      where
        by_first : (ys : List Lying) → lying fs ps (by reader read) ≡ ys → AreSeen (x ∷ new.items) ys → Facing fs writer reader written (read ++ e ∷ []) new
        by_first [] is k = absurd k
        by_first (y ∷ ys) is k = record {
          way = way;
          shown = h.shown;
          carries = record {
            taken = h.carries.taken ++ y ∷ [];
            left = ys;
            whole = h.carries.whole ∙ ap (λ (xs : List Lying). h.carries.taken ++ xs) (sym (left_lies fs ps read reader h.carries) ∙ is) ∙ sym (append_assoc h.carries.taken (y ∷ []) ys);
            takes = takes_more reader 0 read e h.carries.taken y pops (one_sight x.bytes e.effect.popped y.seen shows k.0.shows) (stamp ∙ ap (λ (n : ℕ). max (stamp_after 0 read) n + 1) k.0.stamp) h.carries.takes;
            within = h.carries.within;
          };
        }
