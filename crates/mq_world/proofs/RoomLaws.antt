-- Whether a direction refuses a frame, and how many extra items find room, by what was written there.
use Rattle.std.proofs.Common.{◌≡◌, ℕ, zero, suc, ◌+◌, ◌≤◌, ◌<◌, Bool, true, false, List, [], ◌∷◌, ◌++◌, length, take, refl, sym, ap, ◌∙◌, arith, inl, inr}
use Rattle.std.specs.Prelude.{◌⊎◌, ◌-◌, ◌&&◌, nat_le, min, not, Option, Some, None}
use Rattle.std.proofs.lemmas.Bool.Decides.{nat_tests}
use Rattle.mq_cable.specs.declared.fault.Fault.{Fault}
use Rattle.mq_cable.specs.declared.fault.Fault.TheVariants as faults
use Rattle.mq_cable.specs.declared.item.Item.{Item}
use Rattle.mq_cable.specs.Faults.{Offer, due_after, fault_of, now_of, offered_of, pushed_now, spoiled}
use Rattle.mq_cable.specs.Faults.{pushed_of as bytes_pushed}
use Rattle.mq_cable.specs.Offers.{next_fault}
use Rattle.mq_frame.specs.declared.frame.Frame.{Frame}
use Rattle.mq_spec_node.specs.Terms.{Actor, Entry}
use Rattle.mq_spec_node.specs.Words.{by, items_of}
use Rattle.mq_spec_network.specs.Cables.{Lying, lying, offered_by, whole}
use Rattle.mq_spec_network.specs.Cables.{spoiled as spoiled_seen}
use Rattle.mq_spec_network.specs.Turns.{Direction, due_of, extras_of, is_empty, is_full, push_refused, put_now}
use Rattle.mq_ways.specs.Ways.{WayState}
use Rattle.mq_ways.proofs.SightLaws.{seen_long, way_seen}
use Rattle.mq_world.specs.Ends.{IsFilled, Writes}
use Rattle.mq_shared.specs.from_split.Facing.{Facing}
use Rattle.mq_shared.proofs.from_split.FacingLaws.{as_many_offered, due_next_long, long_append}

-- a direction as its writer sees it
abbrev pub direction : List Fault → (writer reader : Actor → Bool) → (written read : List Entry) → Direction
direction fs writer reader written read = record { faults = fs; pushes = by writer written; items = lying fs (by writer written) (by reader read) }

-- how many items a frame puts there at once depends on its fault alone
now_long : {A B : Type 0} (f : A → A) (g : B → B) (o : Option Fault) (x : A) (y : B) → length (now_of f o x) ≡ length (now_of g o y)
now_long f g None x y = refl
now_long f g (Some (faults.Drop on)) x y = refl
now_long f g (Some (faults.Late on j)) x y = refl
now_long f g (Some (faults.Copy on j)) x y = refl
now_long f g (Some (faults.Spoil on)) x y = refl

take_long : {A : Type 0} (n : ℕ) (xs : List A) → n ≤ length xs → length (take n xs) ≡ n
take_long zero xs le = refl
take_long (suc n) [] le = absurd (omega (arith, le))
take_long (suc n) (x ∷ xs) le = ap suc (take_long n xs (omega (arith, le)))

long_none : {A : Type 0} (xs : List A) → length xs ≡ 0 → xs ≡ []
long_none [] e = refl
long_none (x ∷ xs) e = absurd cc

-- So many of D find room behind L and N, where the direction has then M at most 64 items, or where nothing was put.
room_of : (l n d e m : ℕ) → e ≤ d → (e < d → 64 ≤ m) → m ≡ l + (n + e) → (n + e ≡ 0) ⊎ (m ≤ 64) → e ≡ min d (64 - (l + n))
room_of l n d e m few fewer is (inl none) = by_due (nat_le d e) refl
  where
    by_due : (b : Bool) → nat_le d e ≡ b → e ≡ min d (64 - (l + n))
    by_due true h = grind (arith, nat_tests)
    by_due false h = let full = fewer (grind (arith, nat_tests)) in grind (arith, nat_tests)
room_of l n d e m few fewer is (inr most) = by_due (nat_le d e) refl
  where
    by_due : (b : Bool) → nat_le d e ≡ b → e ≡ min d (64 - (l + n))
    by_due true h = grind (arith, nat_tests)
    by_due false h = let full = fewer (grind (arith, nat_tests)) in grind (arith, nat_tests)

-- with something put at once there was room
free_room : (l n e m : ℕ) → m ≡ l + (n + e) → (n + e ≡ 0) ⊎ (m ≤ 64) → (n ≡ 0) ⊎ (nat_le 64 l ≡ false)
free_room l zero e m is h = inl refl
free_room l (suc n) e m is (inl none) = absurd (omega (arith, none))
free_room l (suc n) e m is (inr most) = inr (grind (arith, nat_tests))

not_refused : (xs : List Lying) (full : Bool) → (length xs ≡ 0) ⊎ (full ≡ false) → (not (is_empty xs) && full) ≡ false
not_refused [] full h = refl
not_refused (x ∷ xs) full (inl none) = absurd cc
not_refused (x ∷ xs) full (inr free) = free

is_refused : (xs : List Lying) (full : Bool) → (length xs ≡ 0 → ⊥) → full ≡ true → (not (is_empty xs) && full) ≡ true
is_refused [] full some is = absurd (some refl)
is_refused (x ∷ xs) full some is = is

offers_long : {A : Type 0} (os : List (Offer A)) → length os ≡ length (offered_of os)
offers_long [] = refl
offers_long (o ∷ os) = ap suc (offers_long os)

module _ (fs : List Fault) (writer reader : Actor → Bool) (written read : List Entry) (old : WayState) (h : Facing fs writer reader written read old) where
  abbrev ps : List Entry
  ps = by writer written

  abbrev offered : List Item
  offered = offered_of (items_of ps)

  abbrev way : Direction
  way = direction fs writer reader written read

  lie_long : length old.items ≡ length way.items
  lie_long = seen_long old.items way.items (way_seen fs ps (by reader read) old h.shown h.way)

  as_many : length (offered_by ps) ≡ length offered
  as_many = offers_long (offered_by ps) ∙ sym (as_many_offered ps)

  -- what is put there at once, and what is due
  put_long : (x : Item) (f : Frame) → length (put_now way f) ≡ length (now_of spoiled (fault_of (suc (length offered)) fs) x)
  put_long x f = ap (λ (n : ℕ). length (now_of spoiled_seen (fault_of (suc n) fs) (whole f))) as_many ∙ now_long spoiled_seen spoiled (fault_of (suc (length offered)) fs) (whole f) x

  due_same : (x : Item) (f : Frame) → length (due_of way f) ≡ length (due_after fs (offered ++ x ∷ []))
  due_same x f = due_next_long fs (offered_of (offered_by ps)) offered (whole f) x (sym (as_many_offered ps))

  module _ (x : Item) (f : Frame) (extras : ℕ) (new : WayState) (put : Writes old new (bytes_pushed fs offered x extras)) (few : extras ≤ length (due_after fs (offered ++ x ∷ []))) (fewer : extras < length (due_after fs (offered ++ x ∷ [])) → IsFilled new) where
    abbrev now : List Item
    now = now_of spoiled (fault_of (suc (length offered)) fs) x

    abbrev due : List Item
    due = due_after fs (offered ++ x ∷ [])

    pushed_long : length (bytes_pushed fs offered x extras) ≡ length now + extras
    pushed_long = long_append now (take extras due) ∙ ap (λ (n : ℕ). length now + n) (take_long extras due few)

    new_long : length new.items ≡ length old.items + (length now + extras)
    new_long = ap (λ (xs : List Item). length xs) put.whole ∙ long_append old.items (bytes_pushed fs offered x extras) ∙ ap (λ (n : ℕ). length old.items + n) pushed_long

    some_room : (length now + extras ≡ 0) ⊎ (length new.items ≤ 64)
    some_room = by_room put.room
      where
        by_room : (bytes_pushed fs offered x extras ≡ []) ⊎ (length new.items ≤ 64) → (length now + extras ≡ 0) ⊎ (length new.items ≤ 64)
        by_room (inl none) = inl (sym pushed_long ∙ ap (λ (xs : List Item). length xs) none)
        by_room (inr most) = inr most

    pub extras_found : extras ≡ extras_of way (Some f)
    extras_found =
        room_of (length old.items) (length now) (length due) extras (length new.items) few fewer new_long some_room
        ∙ ap (λ (d : ℕ). min d (64 - (length old.items + length now))) (sym (due_same x f))
        ∙ ap (λ (l : ℕ). min (length (due_of way f)) (64 - (l + length now))) lie_long
        ∙ ap (λ (n : ℕ). min (length (due_of way f)) (64 - (length way.items + n))) (sym (put_long x f))

    pub not_refused_there : push_refused way (Some f) ≡ false
    not_refused_there = not_refused (put_now way f) (is_full way.items) (by_room (free_room (length old.items) (length now) extras (length new.items) new_long some_room))
      where
        by_room : (length now ≡ 0) ⊎ (nat_le 64 (length old.items) ≡ false) → (length (put_now way f) ≡ 0) ⊎ (is_full way.items ≡ false)
        by_room (inl none) = inl (put_long x f ∙ none)
        by_room (inr free) = inr (ap (nat_le 64) (sym lie_long) ∙ free)

  -- A full direction refuses it.
  pub refused_there : (x : Item) (f : Frame) → (pushed_now (next_fault old.offers) x ≡ [] → ⊥) → 64 ≤ length old.items → push_refused way (Some f) ≡ true
  refused_there x f some full = is_refused (put_now way f) (is_full way.items) (λ none. some (long_none (pushed_now (next_fault old.offers) x) (here ∙ sym (put_long x f) ∙ none))) (ap (nat_le 64) (sym lie_long) ∙ full_so (length old.items) full)
    where
      here : length (pushed_now (next_fault old.offers) x) ≡ length (now_of spoiled (fault_of (suc (length offered)) fs) x)
      here =
          ap (λ (gs : List Fault). length (now_of spoiled (fault_of (suc old.offers.number) gs) x)) h.way.faults
          ∙ ap (λ (n : ℕ). length (now_of spoiled (fault_of (suc n) fs) x)) h.way.taken.number

      full_so : (n : ℕ) → 64 ≤ n → nat_le 64 n ≡ true
      full_so n le = grind (arith, nat_tests)
