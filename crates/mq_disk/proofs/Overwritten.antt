-- Writes and cuts of lists of bytes, done whole or in part.
use Rattle.std.proofs.Common.{◌≡◌, ℕ, ◌+◌, ◌-◌, ◌≤◌, ◌<◌, min, max, ◌⊎◌, inl, inr, List, ◌++◌, length, take, drop, refl, sym, ◌∙◌, ap, subst, arith, append_assoc, length-append, length-take, length-drop}
use Rattle.std.proofs.lemmas.List.{take_at, drop_at, take-take, take-append-le, length-take-le, drop-drop, take_all}
use Rattle.std.proofs.lemmas.Bool.{cases_lt, le-leb, lt-leb}
use Rattle.std.proofs.lemmas.Grind.{common_steps}
use Rattle.mq_disk.specs.Disk.{overwritten, Torn, Cut, Follows}
use Rattle.mq_disk.specs.Memory.{after_part, Twinned}

pub torn_same : (p n : ℕ) (old : List ℕ) → Torn p n old old
torn_same p n old = record { before = refl; after = refl; no_shorter = omega arith; no_longer = omega arith }

-- a write of some of the bytes
pub torn_by : (p n : ℕ) (q old new : List ℕ) → p ≤ length old → length q ≤ n → new ≡ overwritten old p q → Torn p n old new
torn_by p n q old new inside few is =
    let rest = drop (p + length q) old in
    let whole : new ≡ take p old ++ (q ++ rest) = is ∙ append_assoc (take p old) q rest in
    let size : length (take p old) ≡ p = length-take-le p old inside in
    let front : length (take p old ++ q) ≡ p + length q = omega (arith, length-append (take p old) q, size) in
    let behind : drop (p + length q) new ≡ rest = ap (λ (l : List ℕ). drop (p + length q) l) is ∙ drop_at (take p old ++ q) rest (p + length q) front in
    let more : p + n ≡ p + length q + (n - length q) = omega (arith, few) in
    record {
      before = ap (λ (l : List ℕ). take p l) whole ∙ take_at (take p old) (q ++ rest) p size;
      after =
          ap (λ (m : ℕ). drop m new) more ∙ sym (drop-drop (n - length q) (p + length q) new) ∙ ap (λ (l : List ℕ). drop (n - length q) l) behind
          ∙ drop-drop (n - length q) (p + length q) old ∙ sym (ap (λ (m : ℕ). drop m old) more);
      no_shorter = omega (arith, ap length is, length-append (take p old ++ q) rest, front, length-drop (p + length q) old);
      no_longer = omega (arith, ap length is, length-append (take p old ++ q) rest, front, length-drop (p + length q) old, few);
    }

pub cut_by : (n : ℕ) (old new : List ℕ) → new ≡ take n old → Cut n old new
cut_by n old new is = record {
  no_shorter = omega (arith, ap length is, length-take n old);
  front = let size : length new ≡ min n (length old) = ap length is ∙ length-take n old in ap (λ (m : ℕ). take m old) size ∙ shortest n old ∙ sym is;
}
  where
    shortest : (n : ℕ) (old : List ℕ) → take (min n (length old)) old ≡ take n old
    shortest n old = grind (arith, common_steps)

pub cut_same : (n : ℕ) (old : List ℕ) → Cut n old old
cut_same n old = record { no_shorter = omega arith; front = take_all (length old) old (omega arith) }

after_inside : (p : ℕ) (q old : List ℕ) → p ≤ length old → after_part old p q ≡ overwritten old p q
after_inside p q old inside = rw (le-leb p (length old) inside) refl

after_outside : (p : ℕ) (q old : List ℕ) → length old < p → after_part old p q ≡ old
after_outside p q old outside = rw (lt-leb p (length old) outside) refl

-- what is left of a write is a part of it
pub torn_after : (p n : ℕ) (q old : List ℕ) → length q ≤ n → Torn p n old (after_part old p q)
torn_after p n q old few = elim (cases_lt (length old) p) [
  | inl outside ↦ subst (λ (l : List ℕ). Torn p n old l) (sym (after_outside p q old outside)) (torn_same p n old)
  | inr inside ↦ torn_by p n q old (after_part old p q) inside few (after_inside p q old inside)
]

length-overwritten : (p : ℕ) (q old : List ℕ) → p ≤ length old → length (overwritten old p q) ≡ max (length old) (p + length q)
length-overwritten p q old inside =
    omega (arith, length-append (take p old ++ q) (drop (p + length q) old), length-append (take p old) q, length-take-le p old inside, length-drop (p + length q) old)

length-after : (p : ℕ) (q old : List ℕ) → length (after_part old p q) ≤ max (length old) (p + length q)
length-after p q old = (torn_after p (length q) q old (omega arith)).no_longer

-- a write changes nothing in front of it
front_kept : (n p : ℕ) (q old : List ℕ) → n ≤ p → p ≤ length old → take n (overwritten old p q) ≡ take n old
front_kept n p q old front inside =
    let rest = drop (p + length q) old in
    ap (λ (l : List ℕ). take n l) (append_assoc (take p old) q rest)
    ∙ take-append-le n (take p old) (q ++ rest) (omega (arith, length-take-le p old inside))
    ∙ take-take n p old front

front_after : (n p : ℕ) (q old : List ℕ) → n ≤ p → take n (after_part old p q) ≡ take n old
front_after n p q old front = elim (cases_lt (length old) p) [
  | inl outside ↦ ap (λ (l : List ℕ). take n l) (after_outside p q old outside)
  | inr inside ↦ ap (λ (l : List ℕ). take n l) (after_inside p q old inside) ∙ front_kept n p q old front inside
]

less_agree : (n m : ℕ) (a b : List ℕ) → n ≤ m → take m a ≡ take m b → take n a ≡ take n b
less_agree n m a b less agree = sym (take-take n m a less) ∙ ap (λ (l : List ℕ). take n l) agree ∙ take-take n m b less

pub write_keeps : (a b : List ℕ) (a_capacity b_capacity same room : ℕ) → Twinned a b a_capacity b_capacity same room
    → (p : ℕ) (q r a' b' : List ℕ) (a_capacity' b_capacity' same' : ℕ) → p ≤ length a → p + length q ≤ room → length r ≤ length q
    → a' ≡ overwritten a p q → b' ≡ after_part b p r → same' ≡ min same p → a_capacity ≤ a_capacity' → b_capacity ≤ b_capacity' → Twinned a' b' a_capacity' b_capacity' same' room
write_keeps a b a_capacity b_capacity same room twinned p q r a' b' a_capacity' b_capacity' same' inside fits few a_is b_is same_is a_more b_more = record {
  agree =
      ap (λ (l : List ℕ). take same' l) a_is ∙ front_kept same' p q a (omega arith) inside ∙ less_agree same' same a b (omega arith) twinned.agree
      ∙ sym (ap (λ (l : List ℕ). take same' l) b_is ∙ front_after same' p r b (omega arith));
  bytes_fit = omega (arith, ap length a_is, length-overwritten p q a inside, twinned.bytes_fit);
  left_fits = omega (arith, ap length b_is, length-after p r b, twinned.left_fits);
  bytes_room = omega (arith, twinned.bytes_room);
  left_room = omega (arith, twinned.left_room);
}

pub cut_keeps : (a b : List ℕ) (a_capacity b_capacity same room : ℕ) → Twinned a b a_capacity b_capacity same room
    → (n : ℕ) (a' : List ℕ) (a_capacity' same' : ℕ) → a' ≡ take n a → same' ≡ min same n → a_capacity ≤ a_capacity' → Twinned a' b a_capacity' b_capacity same' room
cut_keeps a b a_capacity b_capacity same room twinned n a' a_capacity' same' is same_is more = record {
  agree = ap (λ (l : List ℕ). take same' l) is ∙ take-take same' n a (omega arith) ∙ less_agree same' same a b (omega arith) twinned.agree;
  bytes_fit = omega (arith, ap length is, length-take n a, twinned.bytes_fit);
  left_fits = twinned.left_fits;
  bytes_room = omega (arith, twinned.bytes_room);
  left_room = twinned.left_room;
}

pub flipped : (a b : List ℕ) (a_capacity b_capacity same room : ℕ) → Twinned a b a_capacity b_capacity same room → Twinned b a b_capacity a_capacity same room
flipped a b a_capacity b_capacity same room twinned = record {
  agree = sym twinned.agree;
  bytes_fit = twinned.left_fits;
  left_fits = twinned.bytes_fit;
  bytes_room = twinned.left_room;
  left_room = twinned.bytes_room;
}

-- what is left after a write is what was left before it, or what was there, after a part of it
pub write_follows : (left seen : List ℕ) (p : ℕ) (q r left' seen' : List ℕ) → p ≤ length seen → length r ≤ length q → left' ≡ after_part left p r → seen' ≡ overwritten seen p q
    → Follows (Torn p (length q)) (λ c. (c ≡ left) ⊎ (c ≡ seen)) (λ c. (c ≡ left') ⊎ (c ≡ seen'))
write_follows left seen p q r left' seen' inside few left_is seen_is c (inl is) =
    (left, inl refl, subst (λ (l : List ℕ). Torn p (length q) left l) (sym (is ∙ left_is)) (torn_after p (length q) r left few))
write_follows left seen p q r left' seen' inside few left_is seen_is c (inr is) = (seen, inr refl, torn_by p (length q) q seen c inside (omega arith) (is ∙ seen_is))

pub cut_follows : (left seen : List ℕ) (n : ℕ) (left' seen' : List ℕ) → left' ≡ take n left → seen' ≡ take n seen
    → Follows (Cut n) (λ c. (c ≡ left) ⊎ (c ≡ seen)) (λ c. (c ≡ left') ⊎ (c ≡ seen'))
cut_follows left seen n left' seen' left_is seen_is c (inl is) = (left, inl refl, cut_by n left c (is ∙ left_is))
cut_follows left seen n left' seen' left_is seen_is c (inr is) = (seen, inr refl, cut_by n seen c (is ∙ seen_is))

-- a cut of which a crash leaves nothing
pub lost_cut_follows : (left seen : List ℕ) (n : ℕ) (left' seen' : List ℕ) → left' ≡ left → seen' ≡ take n seen
    → Follows (Cut n) (λ c. (c ≡ left) ⊎ (c ≡ seen)) (λ c. (c ≡ left') ⊎ (c ≡ seen'))
lost_cut_follows left seen n left' seen' left_is seen_is c (inl is) = (left, inl refl, subst (λ (l : List ℕ). Cut n left l) (sym (is ∙ left_is)) (cut_same n left))
lost_cut_follows left seen n left' seen' left_is seen_is c (inr is) = (seen, inr refl, cut_by n seen c (is ∙ seen_is))

-- nothing was done
pub same_follows : (step : List ℕ → List ℕ → Type 0) (left seen left' seen' : List ℕ) → ((d : List ℕ) → step d d) → left' ≡ left → seen' ≡ seen
    → Follows step (λ c. (c ≡ left) ⊎ (c ≡ seen)) (λ c. (c ≡ left') ⊎ (c ≡ seen'))
same_follows step left seen left' seen' same left_is seen_is c (inl is) = (left, inl refl, subst (λ (l : List ℕ). step left l) (sym (is ∙ left_is)) (same left))
same_follows step left seen left' seen' same left_is seen_is c (inr is) = (seen, inr refl, subst (λ (l : List ℕ). step seen l) (sym (is ∙ seen_is)) (same seen))
