-- What rows in slots keep, as one comes, one goes and one changes at its slot.
use Rattle.std.proofs.Common.{◌≡◌, ℕ, zero, suc, ◌+◌, ◌<◌, ◌≤◌, Bool, true, false, List, [], ◌∷◌, ◌++◌, length, inl, inr, refl, sym, ap, subst, ◌∙◌, arith}
use Rattle.std.specs.Prelude.{◌⊎◌, ◌==◌, if◌then◌else◌, Option, None, Some, replicate, slice_get, slice_set, slice_index}
use Rattle.std.proofs.lemmas.Bool.Decides.{nat_tests}
use Rattle.mq_message.specs.declared.message.Ident.{Ident}
use Rattle.mq_message.specs.declared.place.Place.{Place}
use Rattle.mq_message.specs.declared.place.Holder.{Holder}
use Rattle.mq_queue.specs.declared.row.Row.{Row}
use Rattle.mq_queue.specs.Rows.{has_ident, is_free, same_ident}
use Rattle.mq_queue.specs.Queues.{freed}
use Rattle.mq_queue.specs.Counts.{AreEnough, IsOneMore, weight}
use Rattle.mq_queue.proofs.Edits.{same_is, same_self}
use Rattle.mq_index.specs.declared.keys.Kind.{Kind}
use Rattle.mq_index.specs.declared.keys.Kind.TheVariants.{Lane, MsgId, CorrelId}
use Rattle.mq_index.specs.Keys.{key_by}
use Rattle.mq_index.specs.Slots.{AreCounted, AreHomes, AreMarked, IsAlike, IsHome, IsOnly, IsSound, NoRow, total}
use Rattle.mq_index.proofs.ListLaws.{get_end, get_more, got_more, long_more, same_or_not, set_here, set_long, set_other, some_is, within}

clash : {P : Type 0} (b : Bool) → b ≡ true → b ≡ false → P
clash b e f = absurd cc

differ : {P : Type 0} (i j : ℕ) → (i == j) ≡ false → i ≡ j → P
differ i j e f = clash (i == j) (same i j f) e
  where
    same : (a b : ℕ) → a ≡ b → (a == b) ≡ true
    same a b g = grind (arith, nat_tests)

-- WHERE A ROW LIES
-- once one came
came : (slots : List (Option Row)) (row r : Row) (j : ℕ) → slice_get (slots ++ Some row ∷ []) j ≡ Some (Some r) → (slice_get slots j ≡ Some (Some r)) ⊎ ((j ≡ length slots) × (r ≡ row))
came slots row r j e = by (got_more slots (Some row) (Some r) j e)
  where
    by : (slice_get slots j ≡ Some (Some r)) ⊎ ((j ≡ length slots) × (Some r ≡ Some row)) → (slice_get slots j ≡ Some (Some r)) ⊎ ((j ≡ length slots) × (r ≡ row))
    by (inl h) = inl h
    by (inr h) = inr (h.0, some_is r row h.1)

-- once one went
pub stayed : (slots : List (Option Row)) (at : ℕ) (r : Row) (j : ℕ) → slice_get (slice_set slots at None) j ≡ Some (Some r) → ((j == at) ≡ false) × (slice_get slots j ≡ Some (Some r))
stayed slots at r j e = by (same_or_not j at)
  where
    nothing : Some r ≡ None → ⊥
    nothing f = cc

    by : (j ≡ at) ⊎ ((j == at) ≡ false) → ((j == at) ≡ false) × (slice_get slots j ≡ Some (Some r))
    by (inl h) = absurd (nothing (set_here slots at None (Some r) (subst (λ (n : ℕ). slice_get (slice_set slots at None) n ≡ Some (Some r)) h e)))
    by (inr h) = (h, sym (set_other slots at j None h) ∙ e)

-- once one changed
changed : (slots : List (Option Row)) (at : ℕ) (new r : Row) (j : ℕ) → slice_get (slice_set slots at (Some new)) j ≡ Some (Some r) → ((slice_get slots j ≡ Some (Some r)) × ((j == at) ≡ false)) ⊎ ((j ≡ at) × (r ≡ new))
changed slots at new r j e = by (same_or_not j at)
  where
    by : (j ≡ at) ⊎ ((j == at) ≡ false) → ((slice_get slots j ≡ Some (Some r)) × ((j == at) ≡ false)) ⊎ ((j ≡ at) × (r ≡ new))
    by (inl h) = inr (h, some_is r new (set_here slots at (Some new) (Some r) (subst (λ (n : ℕ). slice_get (slice_set slots at (Some new)) n ≡ Some (Some r)) h e)))
    by (inr h) = inl (sym (set_other slots at j (Some new) h) ∙ e, h)

-- MARKS
pub marked_more : (marks : List ℕ) (slots : List (Option Row)) (arrivals : ℕ) (row : Row) → AreMarked marks slots arrivals → arrivals < row.place.arrival → row.place.lane < 10 → AreMarked (marks ++ row.place.arrival ∷ []) (slots ++ Some row ∷ []) row.place.arrival
marked_more marks slots arrivals row m late low = record {
  long = long_more marks row.place.arrival ∙ ap (λ (n : ℕ). n + 1) m.long ∙ sym (long_more slots (Some row));
  rising = λ i j a b lt e f. up i j a b lt (got_more marks row.place.arrival a i e) (got_more marks row.place.arrival b j f);
  known = λ i a e. below i a (got_more marks row.place.arrival a i e);
  over = λ i a e. above i a (got_more marks row.place.arrival a i e);
  mark = λ i r e. at_it i r (came slots row r i e);
  lane = λ i r e. in_it i r (came slots row r i e);
} where
  past : (i j : ℕ) → i < j → i ≡ length marks → j < length marks → ⊥
  past i j p q r = omega (arith, p, q, r)

  last : (i j : ℕ) → i < j → i ≡ length marks → j ≡ length marks → ⊥
  last i j p q r = omega (arith, p, q, r)

  up : (i j a b : ℕ) → i < j → (slice_get marks i ≡ Some a) ⊎ ((i ≡ length marks) × (a ≡ row.place.arrival)) → (slice_get marks j ≡ Some b) ⊎ ((j ≡ length marks) × (b ≡ row.place.arrival)) → a < b
  up i j a b lt (inl e) (inl f) = m.rising i j a b lt e f
  up i j a b lt (inl e) (inr f) = let le = m.known i a e in omega (arith, le, late, f.1)
  up i j a b lt (inr e) (inl f) = absurd (past i j lt e.0 (within marks b j f))
  up i j a b lt (inr e) (inr f) = absurd (last i j lt e.0 f.0)

  below : (i a : ℕ) → (slice_get marks i ≡ Some a) ⊎ ((i ≡ length marks) × (a ≡ row.place.arrival)) → a ≤ row.place.arrival
  below i a (inl e) = let le = m.known i a e in omega (arith, le, late)
  below i a (inr e) = omega (arith, e.1)

  above : (i a : ℕ) → (slice_get marks i ≡ Some a) ⊎ ((i ≡ length marks) × (a ≡ row.place.arrival)) → 0 < a
  above i a (inl e) = m.over i a e
  above i a (inr e) = omega (arith, e.1, late)

  at_it : (i : ℕ) (r : Row) → (slice_get slots i ≡ Some (Some r)) ⊎ ((i ≡ length slots) × (r ≡ row)) → slice_get (marks ++ row.place.arrival ∷ []) i ≡ Some r.place.arrival
  at_it i r (inl e) = get_more marks row.place.arrival r.place.arrival i (m.mark i r e)
  at_it i r (inr e) = ap (slice_get (marks ++ row.place.arrival ∷ [])) (e.0 ∙ sym m.long) ∙ get_end marks row.place.arrival ∙ ap (λ (x : Row). Some x.place.arrival) (sym e.1)

  in_it : (i : ℕ) (r : Row) → (slice_get slots i ≡ Some (Some r)) ⊎ ((i ≡ length slots) × (r ≡ row)) → r.place.lane < 10
  in_it i r (inl e) = m.lane i r e
  in_it i r (inr e) = subst (λ (x : Row). x.place.lane < 10) (sym e.1) low

pub marked_gone : (marks : List ℕ) (slots : List (Option Row)) (arrivals at : ℕ) → AreMarked marks slots arrivals → AreMarked marks (slice_set slots at None) arrivals
marked_gone marks slots arrivals at m = record {
  long = m.long ∙ sym (set_long slots at None);
  rising = m.rising;
  known = m.known;
  over = m.over;
  mark = λ i r e. m.mark i r (stayed slots at r i e).1;
  lane = λ i r e. m.lane i r (stayed slots at r i e).1;
}

module _ (slots : List (Option Row)) (at : ℕ) (row new : Row) (there : slice_get slots at ≡ Some (Some row)) (like : IsAlike row new) where
  pub marked_alike : (marks : List ℕ) (arrivals : ℕ) → AreMarked marks slots arrivals → AreMarked marks (slice_set slots at (Some new)) arrivals
  marked_alike marks arrivals m = record {
    long = m.long ∙ sym (set_long slots at (Some new));
    rising = m.rising;
    known = m.known;
    over = m.over;
    mark = λ i r e. at_it i r (changed slots at new r i e);
    lane = λ i r e. in_it i r (changed slots at new r i e);
  } where
    at_it : (i : ℕ) (r : Row) → ((slice_get slots i ≡ Some (Some r)) × ((i == at) ≡ false)) ⊎ ((i ≡ at) × (r ≡ new)) → slice_get marks i ≡ Some r.place.arrival
    at_it i r (inl e) = m.mark i r e.0
    at_it i r (inr e) = ap (slice_get marks) e.0 ∙ m.mark at row there ∙ ap (λ (p : Place). Some p.arrival) (sym like.place) ∙ ap (λ (x : Row). Some x.place.arrival) (sym e.1)

    in_it : (i : ℕ) (r : Row) → ((slice_get slots i ≡ Some (Some r)) × ((i == at) ≡ false)) ⊎ ((i ≡ at) × (r ≡ new)) → r.place.lane < 10
    in_it i r (inl e) = m.lane i r e.0
    in_it i r (inr e) = subst (λ (x : Row). x.place.lane < 10) (sym e.1) (subst (λ (p : Place). p.lane < 10) (sym like.place) (m.lane at row there))

  pub alike_key : (kind : Kind) → key_by kind new ≡ key_by kind row
  alike_key Lane = ap (λ (p : Place). record { lane = p.lane; id = replicate 24 0 }) like.place
  alike_key MsgId = ap (λ (p : Place). record { lane = p.lane; id = new.message.md.msg_id }) like.place ∙ ap (λ (xs : List ℕ). record { lane = row.place.lane; id = xs }) like.msg_id
  alike_key CorrelId = ap (λ (p : Place). record { lane = p.lane; id = new.message.md.correl_id }) like.place ∙ ap (λ (xs : List ℕ). record { lane = row.place.lane; id = xs }) like.correl_id

  alike_ident : (ident : Ident) → has_ident ident new ≡ has_ident ident row
  alike_ident ident = ap (λ (i : Ident). same_ident i ident) like.ident

  pub homes_alike : (homes : Ident → Option ℕ) → AreHomes homes slots → AreHomes homes (slice_set slots at (Some new))
  homes_alike homes h ident = by (homes ident) (h ident)
    where
      by : (o : Option ℕ) → IsHome ident slots o → IsHome ident (slice_set slots at (Some new)) o
      by None n = λ j r e. at_it j r (changed slots at new r j e)
        where
          at_it : (j : ℕ) (r : Row) → ((slice_get slots j ≡ Some (Some r)) × ((j == at) ≡ false)) ⊎ ((j ≡ at) × (r ≡ new)) → has_ident ident r ≡ false
          at_it j r (inl e) = n j r e.0
          at_it j r (inr e) = ap (has_ident ident) e.1 ∙ alike_ident ident ∙ n at row there
      by (Some k) o = home (same_or_not k at)
        where
          alone : (j : ℕ) (r : Row) → slice_get (slice_set slots at (Some new)) j ≡ Some (Some r) → has_ident ident r ≡ true → j ≡ k
          alone j r e t = at_it (changed slots at new r j e)
            where
              at_it : ((slice_get slots j ≡ Some (Some r)) × ((j == at) ≡ false)) ⊎ ((j ≡ at) × (r ≡ new)) → j ≡ k
              at_it (inl f) = o.only j r f.0 t
              at_it (inr f) = f.0 ∙ o.only at row there (sym (alike_ident ident) ∙ sym (ap (has_ident ident) f.1) ∙ t)

          home : (k ≡ at) ⊎ ((k == at) ≡ false) → IsOnly ident k (slice_set slots at (Some new))
          home (inl e) =
              let same : o.row ≡ row = some_is o.row row (some_is (Some o.row) (Some row) (sym o.there ∙ ap (slice_get slots) e ∙ there)) in
              record { row = new; there = ap (slice_get (slice_set slots at (Some new))) e ∙ set_reads slots at (Some new) (within slots (Some row) at there); is = alike_ident ident ∙ sym (ap (has_ident ident) same) ∙ o.is; only = alone }
            where
              set_reads : (xs : List (Option Row)) (n : ℕ) (x : Option Row) → n < length xs → slice_get (slice_set xs n x) n ≡ Some x
              set_reads [] n x lt = absurd (omega (arith, lt))
              set_reads (y ∷ xs) zero x lt = refl
              set_reads (y ∷ xs) (suc n) x lt = set_reads xs n x (omega (arith, lt))
          home (inr e) = record { row = o.row; there = set_other slots at k (Some new) e ∙ o.there; is = o.is; only = alone }

-- HOMES
pub homes_more : (slots : List (Option Row)) (row : Row) (old new : Ident → Option ℕ) → AreHomes old slots → NoRow row.message.ident slots
    → ((other : Ident) → new other ≡ (if same_ident row.message.ident other then Some (length slots) else old other)) → AreHomes new (slots ++ Some row ∷ [])
homes_more slots row old new h none noted ident = by (has_ident ident row) refl
  where
    by : (b : Bool) → has_ident ident row ≡ b → IsHome ident (slots ++ Some row ∷ []) (new ident)
    by true e = subst (IsHome ident (slots ++ Some row ∷ [])) (sym (noted ident ∙ ap (λ (b : Bool). if b then Some (length slots) else old ident) e)) (record {
      row = row;
      there = get_end slots (Some row);
      is = e;
      only = λ j r there t. at_it j r t (came slots row r j there);
    })
      where
        at_it : (j : ℕ) (r : Row) → has_ident ident r ≡ true → (slice_get slots j ≡ Some (Some r)) ⊎ ((j ≡ length slots) × (r ≡ row)) → j ≡ length slots
        at_it j r t (inl f) = clash (has_ident row.message.ident r) (ap (λ (i : Ident). has_ident i r) (same_is row.message.ident ident e) ∙ t) (none j r f)
        at_it j r t (inr f) = f.0
    by false e = subst (IsHome ident (slots ++ Some row ∷ [])) (sym (noted ident ∙ ap (λ (b : Bool). if b then Some (length slots) else old ident) e)) (old_home (old ident) (h ident))
      where
        old_home : (o : Option ℕ) → IsHome ident slots o → IsHome ident (slots ++ Some row ∷ []) o
        old_home None n = λ j r there. at_it j r (came slots row r j there)
          where
            at_it : (j : ℕ) (r : Row) → (slice_get slots j ≡ Some (Some r)) ⊎ ((j ≡ length slots) × (r ≡ row)) → has_ident ident r ≡ false
            at_it j r (inl f) = n j r f
            at_it j r (inr f) = ap (has_ident ident) f.1 ∙ e
        old_home (Some k) o = record { row = o.row; there = get_more slots (Some row) (Some o.row) k o.there; is = o.is; only = λ j r there t. at_it j r t (came slots row r j there) }
          where
            at_it : (j : ℕ) (r : Row) → has_ident ident r ≡ true → (slice_get slots j ≡ Some (Some r)) ⊎ ((j ≡ length slots) × (r ≡ row)) → j ≡ k
            at_it j r t (inl f) = o.only j r f t
            at_it j r t (inr f) = clash (has_ident ident row) (sym (ap (has_ident ident) f.1) ∙ t) e

pub homes_gone : (slots : List (Option Row)) (at : ℕ) (row : Row) (old new : Ident → Option ℕ) → AreHomes old slots → slice_get slots at ≡ Some (Some row)
    → ((other : Ident) → new other ≡ (if same_ident row.message.ident other then None else old other)) → AreHomes new (slice_set slots at None)
homes_gone slots at row old new h there noted ident = by (has_ident ident row) refl
  where
    by : (b : Bool) → has_ident ident row ≡ b → IsHome ident (slice_set slots at None) (new ident)
    by true e = subst (IsHome ident (slice_set slots at None)) (sym (noted ident ∙ ap (λ (b : Bool). if b then None else old ident) e)) (λ j r is. no_other j r (stayed slots at r j is) (has_ident ident r) refl)
      where
        no_other : (j : ℕ) (r : Row) → ((j == at) ≡ false) × (slice_get slots j ≡ Some (Some r)) → (b : Bool) → has_ident ident r ≡ b → b ≡ false
        no_other j r s false t = refl
        no_other j r s true t = two (old ident) (h ident)
          where
            two : (o : Option ℕ) → IsHome ident slots o → true ≡ false
            two None n = clash (has_ident ident row) e (n at row there)
            two (Some k) o = differ j at s.0 (o.only j r s.1 t ∙ sym (o.only at row there e))
    by false e = subst (IsHome ident (slice_set slots at None)) (sym (noted ident ∙ ap (λ (b : Bool). if b then None else old ident) e)) (old_home (old ident) (h ident))
      where
        old_home : (o : Option ℕ) → IsHome ident slots o → IsHome ident (slice_set slots at None) o
        old_home None n = λ j r is. n j r (stayed slots at r j is).1
        old_home (Some k) o = record { row = o.row; there = set_other slots at k None (apart (same_or_not k at)) ∙ o.there; is = o.is; only = λ j r is t. o.only j r (stayed slots at r j is).1 t }
          where
            apart : (k ≡ at) ⊎ ((k == at) ≡ false) → (k == at) ≡ false
            apart (inr f) = f
            apart (inl f) =
                let same : o.row ≡ row = some_is o.row row (some_is (Some o.row) (Some row) (sym o.there ∙ ap (slice_get slots) f ∙ there)) in
                clash (has_ident ident row) (sym (ap (has_ident ident) same) ∙ o.is) e

-- no row has an ident that has no home
pub no_home : (homes : Ident → Option ℕ) (slots : List (Option Row)) (ident : Ident) → AreHomes homes slots → homes ident ≡ None → NoRow ident slots
no_home homes slots ident h e = subst (IsHome ident slots) e (h ident)

-- NUMBERS
pub total_more : (w : Row → ℕ) (slots : List (Option Row)) (row : Row) → total w (slots ++ Some row ∷ []) ≡ total w slots + w row
total_more w [] row = omega arith
total_more w (None ∷ slots) row = total_more w slots row
total_more w (Some x ∷ slots) row = let h = total_more w slots row in omega (arith, h)

pub total_gone : (w : Row → ℕ) (slots : List (Option Row)) (at : ℕ) (row : Row) → slice_get slots at ≡ Some (Some row) → total w (slice_set slots at None) + w row ≡ total w slots
total_gone w [] zero row e = absurd cc
total_gone w [] (suc at) row e = absurd cc
total_gone w (None ∷ slots) zero row e = absurd cc
total_gone w (None ∷ slots) (suc at) row e = total_gone w slots at row e
total_gone w (Some x ∷ slots) zero row e = let same : w row ≡ w x = ap w (sym (some_is x row (some_is (Some x) (Some row) e))) in omega (arith, same)
total_gone w (Some x ∷ slots) (suc at) row e = let h = total_gone w slots at row e in omega (arith, h)

pub total_changed : (w : Row → ℕ) (slots : List (Option Row)) (at : ℕ) (row new : Row) → slice_get slots at ≡ Some (Some row) → total w (slice_set slots at (Some new)) + w row ≡ total w slots + w new
total_changed w [] zero row new e = absurd cc
total_changed w [] (suc at) row new e = absurd cc
total_changed w (None ∷ slots) zero row new e = absurd cc
total_changed w (None ∷ slots) (suc at) row new e = total_changed w slots at row new e
total_changed w (Some x ∷ slots) zero row new e = let same : w row ≡ w x = ap w (sym (some_is x row (some_is (Some x) (Some row) e))) in omega (arith, same)
total_changed w (Some x ∷ slots) (suc at) row new e = let h = total_changed w slots at row new e in omega (arith, h)

pub total_long : (w : Row → ℕ) (slots : List (Option Row)) → ((row : Row) → w row ≤ 1) → total w slots ≤ length slots
total_long w [] small = omega arith
total_long w (None ∷ slots) small = let h = total_long w slots small in omega (arith, h)
total_long w (Some x ∷ slots) small = let h = total_long w slots small in let s = small x in omega (arith, h, s)

pub counted_more : (slots : List (Option Row)) (row : Row) (frees more : List ℕ) → AreCounted frees slots → IsOneMore row frees more → AreCounted more (slots ++ Some row ∷ [])
counted_more slots row frees more h is least lt = let a = h least lt in let b = is least lt in let t = total_more (weight least) slots row in omega (arith, a, b, t)

pub counted_gone : (slots : List (Option Row)) (at : ℕ) (row : Row) (frees less : List ℕ) → slice_get slots at ≡ Some (Some row) → AreCounted frees slots → IsOneMore row less frees → AreCounted less (slice_set slots at None)
counted_gone slots at row frees less there h is least lt = let a = h least lt in let b = is least lt in let t = total_gone (weight least) slots at row there in omega (arith, a, b, t)

held_none : (row : Row) (least : ℕ) → is_free row ≡ false → weight least row ≡ 0
held_none row least e = rw e refl

-- the one that was free is held
pub counted_held : (slots : List (Option Row)) (at : ℕ) (row new : Row) (frees less : List ℕ) → slice_get slots at ≡ Some (Some row) → is_free new ≡ false → AreCounted frees slots → IsOneMore row less frees → AreCounted less (slice_set slots at (Some new))
counted_held slots at row new frees less there held h is least lt = let a = h least lt in let b = is least lt in let t = total_changed (weight least) slots at row new there in let z = held_none new least held in omega (arith, a, b, t, z)

-- and the other way round
pub counted_freed : (slots : List (Option Row)) (at : ℕ) (row new : Row) (frees more : List ℕ) → slice_get slots at ≡ Some (Some row) → is_free row ≡ false → AreCounted frees slots → IsOneMore new frees more → AreCounted more (slice_set slots at (Some new))
counted_freed slots at row new frees more there held h is least lt = let a = h least lt in let b = is least lt in let t = total_changed (weight least) slots at row new there in let z = held_none row least held in omega (arith, a, b, t, z)

pub enough_there : (slots : List (Option Row)) (at : ℕ) (row : Row) (frees : List ℕ) → slice_get slots at ≡ Some (Some row) → AreCounted frees slots → AreEnough row frees
enough_there slots at row frees there h least lt = let a = h least lt in let t = total_gone (weight least) slots at row there in omega (arith, a, t)

pub small_weight : (least : ℕ) (row : Row) → weight least row ≤ 1
small_weight least row = by _
  where
    by : (b : Bool) → (if b then 1 else 0) ≤ 1
    by true = omega arith
    by false = omega arith

pub room_there : (slots : List (Option Row)) (row : Row) (frees : List ℕ) (bound : ℕ) → AreCounted frees slots → length slots + 1 < bound → (least : ℕ) → least < 10 → slice_index frees least + weight least row < bound
room_there slots row frees bound h long least lt = let a = h least lt in let t = total_long (weight least) slots (small_weight least) in let s = small_weight least row in omega (arith, a, t, s, long)

-- what a hold and a release leave alone
pub held_alike : (by : Holder) (row : Row) → IsAlike row (record row { by = Some by })
held_alike by row = record { place = refl; ident = refl; msg_id = refl; correl_id = refl }

pub freed_alike : (backed_out : Bool) (row : Row) → IsAlike row (freed backed_out row)
freed_alike true row = record { place = refl; ident = refl; msg_id = refl; correl_id = refl }
freed_alike false row = record { place = refl; ident = refl; msg_id = refl; correl_id = refl }

-- what a store keeps, told of its slots alone
pub sound_of : (marks : List ℕ) (slots : List (Option Row)) (arrivals : ℕ) (homes : Ident → Option ℕ) → AreMarked marks slots arrivals → AreHomes homes slots → IsSound slots arrivals
sound_of marks slots arrivals homes m h = record {
  sorted = λ i j a b lt e f. m.rising i j a.place.arrival b.place.arrival lt (m.mark i a e) (m.mark j b f);
  arrived = λ i a e. (m.over i a.place.arrival (m.mark i a e), m.known i a.place.arrival (m.mark i a e));
  low = m.lane;
  apart = λ i j a b e f t. one_place i j a b e f t (homes a.message.ident) (h a.message.ident);
} where
  one_place : (i j : ℕ) (a b : Row) → slice_get slots i ≡ Some (Some a) → slice_get slots j ≡ Some (Some b) → has_ident a.message.ident b ≡ true → (o : Option ℕ) → IsHome a.message.ident slots o → i ≡ j
  one_place i j a b e f t None n = clash (has_ident a.message.ident b) t (n j b f)
  one_place i j a b e f t (Some k) o = o.only i a e (same_self a.message.ident) ∙ sym (o.only j b f t)

pub marked_raised : (marks : List ℕ) (slots : List (Option Row)) (a b : ℕ) → a ≤ b → AreMarked marks slots a → AreMarked marks slots b
marked_raised marks slots a b le m = record {
  long = m.long;
  rising = m.rising;
  known = λ i x e. let h = m.known i x e in omega (arith, h, le);
  over = m.over;
  mark = m.mark;
  lane = m.lane;
}

pub homes_same : (slots : List (Option Row)) (old new : Ident → Option ℕ) → ((ident : Ident) → new ident ≡ old ident) → AreHomes old slots → AreHomes new slots
homes_same slots old new same h ident = subst (IsHome ident slots) (sym (same ident)) (h ident)
