-- Lists in order of names: the first place that has a name, or stands behind it.
use Rattle.std.proofs.Common.{◌≡◌, ℕ, zero, suc, ◌+◌, ◌<◌, ◌≤◌, Bool, true, false, cond, List, [], ◌∷◌, length, refl, ap, arith, sym, subst, ◌∙◌}
use Rattle.std.specs.Prelude.{Some, None, find, drop, slice_get, slice_set, ◌||◌, option_map}
use Rattle.std.specs.List.{insert, remove}
use Rattle.std.specs.Str.{bytes_eq}
use Rattle.mq_unit.specs.from_calls.Words.{comes_before, set_named, sender_in, receiver_in, seizure_of, batch_of}
use Rattle.mq_unit.specs.from_calls.{Batch, ReceiverSide, Seizure, SenderSide}
use Rattle.mq_sides.specs.Places.{is_there, place_in, is_of, CanUndo}

true_false : true ≡ false → ⊥
true_false e = absurd cc

some_same : {X : Type 0} (a b : X) → Some a ≡ Some b → a ≡ b
some_same a b e = grind (arith, e)

module _ {A : Type 0} (name : A → List ℕ) (channel : List ℕ) where
  pub place_within : (xs : List A) → place_in name channel xs ≤ length xs
  place_within [] = omega arith
  place_within (x ∷ xs) = by (is_there name channel x) (place_within xs)
    where
      by : (b : Bool) → place_in name channel xs ≤ length xs → cond b 0 (suc (place_in name channel xs)) ≤ suc (length xs)
      by true rest = omega arith
      by false rest = omega (arith, rest)

  -- one place on
  pub place_next : (xs : List A) (i : ℕ) (x : A) → slice_get xs i ≡ Some x → is_there name channel x ≡ false → i + place_in name channel (drop i xs) ≡ i + 1 + place_in name channel (drop (i + 1) xs)
  place_next [] i x e h = absurd cc
  place_next (y ∷ xs) zero x e h = let b : cond (is_there name channel y) 0 (suc (place_in name channel xs)) ≡ suc (place_in name channel xs) = ap (λ (b : Bool). cond b 0 (suc (place_in name channel xs))) (ap (is_there name channel) (some_same y x e) ∙ h) in omega (arith, b)
  place_next (y ∷ xs) (suc i) x e h =
      let rest = place_next xs i x e h in
      let one : suc i + 1 ≡ suc (i + 1) = omega arith in
      let same = ap (λ (n : ℕ). place_in name channel (drop n (y ∷ xs))) one in
      omega (arith, rest, same)

  pub place_here : (xs : List A) (i : ℕ) (x : A) → slice_get xs i ≡ Some x → is_there name channel x ≡ true → place_in name channel (drop i xs) ≡ 0
  place_here [] i x e h = absurd cc
  place_here (y ∷ xs) zero x e h = ap (λ (b : Bool). cond b 0 (suc (place_in name channel xs))) (ap (is_there name channel) (some_same y x e) ∙ h)
  place_here (y ∷ xs) (suc i) x e h = place_here xs i x e h

  pub place_none : (xs : List A) (i : ℕ) → slice_get xs i ≡ None → place_in name channel (drop i xs) ≡ 0
  place_none [] zero e = refl
  place_none [] (suc i) e = refl
  place_none (y ∷ xs) zero e = absurd cc
  place_none (y ∷ xs) (suc i) e = place_none xs i e

module _ {A : Type 0} (name : A → List ℕ) (new : A) where
  there : (xs : List A) → is_of name (name new) (slice_get xs (place_in name (name new) xs)) ≡ true → slice_set xs (place_in name (name new) xs) new ≡ set_named name new xs
  there [] e = absurd cc
  there (x ∷ xs) e = by (bytes_eq (name new) (name x)) (comes_before (name new) (name x)) refl e (there xs)
    where
      by : (b c : Bool) → bytes_eq (name new) (name x) ≡ b → is_of name (name new) (slice_get (x ∷ xs) (cond (b || c) 0 (suc (place_in name (name new) xs)))) ≡ true
          → (is_of name (name new) (slice_get xs (place_in name (name new) xs)) ≡ true → slice_set xs (place_in name (name new) xs) new ≡ set_named name new xs)
          → slice_set (x ∷ xs) (cond (b || c) 0 (suc (place_in name (name new) xs))) new ≡ cond b (new ∷ xs) (cond c (new ∷ x ∷ xs) (x ∷ set_named name new xs))
      by true c s e rest = refl
      by false true s e rest = absurd (true_false (sym e ∙ s))
      by false false s e rest = ap (λ (ys : List A). x ∷ ys) (rest e)

  else_new : (xs : List A) → is_of name (name new) (slice_get xs (place_in name (name new) xs)) ≡ false → insert xs (place_in name (name new) xs) new ≡ set_named name new xs
  else_new [] e = refl
  else_new (x ∷ xs) e = by (bytes_eq (name new) (name x)) (comes_before (name new) (name x)) refl e (else_new xs)
    where
      by : (b c : Bool) → bytes_eq (name new) (name x) ≡ b → is_of name (name new) (slice_get (x ∷ xs) (cond (b || c) 0 (suc (place_in name (name new) xs)))) ≡ false
          → (is_of name (name new) (slice_get xs (place_in name (name new) xs)) ≡ false → insert xs (place_in name (name new) xs) new ≡ set_named name new xs)
          → insert (x ∷ xs) (cond (b || c) 0 (suc (place_in name (name new) xs))) new ≡ cond b (new ∷ xs) (cond c (new ∷ x ∷ xs) (x ∷ set_named name new xs))
      by true c s e rest = absurd (true_false (sym s ∙ e))
      by false true s e rest = refl
      by false false s e rest = ap (λ (ys : List A). x ∷ ys) (rest e)

  within : (xs : List A) (place : ℕ) → is_of name (name new) (slice_get xs place) ≡ true → place < length xs
  within [] place e = absurd cc
  within (x ∷ xs) zero e = omega arith
  within (x ∷ xs) (suc n) e = let rest = within xs n e in omega (arith, rest)

  pub there_within : (xs : List A) (place : ℕ) (channel : List ℕ) → channel ≡ name new → is_of name channel (slice_get xs place) ≡ true → place < length xs
  there_within xs place channel n e = within xs place (subst (λ (c : List ℕ). is_of name c (slice_get xs place) ≡ true) n e)

  -- it is set where it stands, or put before the ones behind it
  pub set_there : (xs : List A) (place : ℕ) (channel : List ℕ) → channel ≡ name new → place ≡ place_in name channel xs → is_of name channel (slice_get xs place) ≡ true → slice_set xs place new ≡ set_named name new xs
  set_there xs place channel n is e =
      let at : place ≡ place_in name (name new) xs = is ∙ ap (λ (c : List ℕ). place_in name c xs) n in
      ap (λ (k : ℕ). slice_set xs k new) at ∙ there xs (ap (λ (k : ℕ). is_of name (name new) (slice_get xs k)) (sym at) ∙ ap (λ (c : List ℕ). is_of name c (slice_get xs place)) (sym n) ∙ e)

  pub set_new : (xs : List A) (place : ℕ) (channel : List ℕ) → channel ≡ name new → place ≡ place_in name channel xs → is_of name channel (slice_get xs place) ≡ false → insert xs place new ≡ set_named name new xs
  set_new xs place channel n is e =
      let at : place ≡ place_in name (name new) xs = is ∙ ap (λ (c : List ℕ). place_in name c xs) n in
      ap (λ (k : ℕ). insert xs k new) at ∙ else_new xs (ap (λ (k : ℕ). is_of name (name new) (slice_get xs k)) (sym at) ∙ ap (λ (c : List ℕ). is_of name c (slice_get xs place)) (sym n) ∙ e)

-- what was set is gone again
set_back : {A : Type 0} (xs : List A) (i : ℕ) (x y : A) → slice_get xs i ≡ Some x → slice_set (slice_set xs i y) i x ≡ xs
set_back [] i x y e = absurd cc
set_back {A} (z ∷ xs) zero x y e = ap (λ (k : A). k ∷ xs) (sym (some_same z x e))
set_back {A} (z ∷ xs) (suc i) x y e = ap (λ (zs : List A). z ∷ zs) (set_back xs i x y e)

set_length : {A : Type 0} (xs : List A) (i : ℕ) (x y : A) → slice_get xs i ≡ Some x → i < length (slice_set xs i y)
set_length [] i x y e = absurd cc
set_length (z ∷ xs) zero x y e = omega arith
set_length (z ∷ xs) (suc i) x y e = let rest = set_length xs i x y e in omega (arith, rest)

pub undo_set : {A : Type 0} (xs : List A) (i : ℕ) (x y : A) → slice_get xs i ≡ Some x → CanUndo i (Some x) xs (slice_set xs i y)
undo_set xs i x y e = record { within = set_length xs i x y e; same = set_back xs i x y e }

insert_back : {A : Type 0} (xs : List A) (i : ℕ) (y : A) → i ≤ length xs → remove (insert xs i y) i ≡ xs
insert_back [] zero y le = refl
insert_back [] (suc i) y le = absurd (omega (arith, le))
insert_back (z ∷ xs) zero y le = refl
insert_back {A} (z ∷ xs) (suc i) y le = ap (λ (zs : List A). z ∷ zs) (insert_back xs i y (omega (arith, le)))

insert_length : {A : Type 0} (xs : List A) (i : ℕ) (y : A) → i ≤ length xs → i < length (insert xs i y)
insert_length [] zero y le = omega arith
insert_length [] (suc i) y le = absurd (omega (arith, le))
insert_length (z ∷ xs) zero y le = omega arith
insert_length (z ∷ xs) (suc i) y le = let rest = insert_length xs i y (omega (arith, le)) in omega (arith, rest)

pub undo_new : {A : Type 0} (xs : List A) (i : ℕ) (y : A) → i ≤ length xs → CanUndo i None xs (insert xs i y)
undo_new xs i y le = record { within = insert_length xs i y le; same = insert_back xs i y le }

-- what is found by name
pub sender_found : (channel : List ℕ) (ss : List SenderSide) → sender_in channel ss ≡ option_map (λ (s : SenderSide). s.hardened) (find (λ (s : SenderSide). bytes_eq channel s.channel) ss)
sender_found channel [] = refl
sender_found channel (s ∷ ss) = by (bytes_eq channel s.channel) (sender_found channel ss)
  where
    by : (b : Bool) → sender_in channel ss ≡ option_map (λ (s : SenderSide). s.hardened) (find (λ (s : SenderSide). bytes_eq channel s.channel) ss)
        → cond b (Some s.hardened) (sender_in channel ss) ≡ option_map (λ (s : SenderSide). s.hardened) (cond b (Some s) (find (λ (s : SenderSide). bytes_eq channel s.channel) ss))
    by true rest = refl
    by false rest = rest

pub receiver_found : (channel : List ℕ) (ss : List ReceiverSide) → receiver_in channel ss ≡ option_map (λ (s : ReceiverSide). s.hardened) (find (λ (s : ReceiverSide). bytes_eq channel s.channel) ss)
receiver_found channel [] = refl
receiver_found channel (s ∷ ss) = by (bytes_eq channel s.channel) (receiver_found channel ss)
  where
    by : (b : Bool) → receiver_in channel ss ≡ option_map (λ (s : ReceiverSide). s.hardened) (find (λ (s : ReceiverSide). bytes_eq channel s.channel) ss)
        → cond b (Some s.hardened) (receiver_in channel ss) ≡ option_map (λ (s : ReceiverSide). s.hardened) (cond b (Some s) (find (λ (s : ReceiverSide). bytes_eq channel s.channel) ss))
    by true rest = refl
    by false rest = rest

pub seizure_found : (channel : List ℕ) (ss : List Seizure) → seizure_of channel ss ≡ find (λ (s : Seizure). bytes_eq channel s.channel) ss
seizure_found channel [] = refl
seizure_found channel (s ∷ ss) = ap (cond (bytes_eq channel s.channel) (Some s)) (seizure_found channel ss)

pub batch_found : (channel : List ℕ) (bs : List Batch) → batch_of channel bs ≡ find (λ (b : Batch). bytes_eq channel b.channel) bs
batch_found channel [] = refl
batch_found channel (b ∷ bs) = ap (cond (bytes_eq channel b.channel) (Some b)) (batch_found channel bs)
