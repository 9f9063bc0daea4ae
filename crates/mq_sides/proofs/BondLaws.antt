-- Channels that are bound, as their places tell.
use Rattle.std.proofs.Common.{◌≡◌, ℕ, zero, suc, ◌+◌, ◌≤◌, Bool, true, false, cond, List, [], ◌∷◌, length, refl, ap, arith, sym, subst, ◌∙◌, inl, inr}
use Rattle.std.specs.Prelude.{Option, Some, None, find, is_some, not, filter, map, take, slice_get, slice_set, ◌&&◌, ◌||◌}
use Rattle.std.specs.List.{AllByRecursion, list_any}
use Rattle.std.specs.Str.{bytes_eq}
use Rattle.mq_base.specs.Members.{Mem}
use Rattle.mq_unit.specs.from_calls.Words.{comes_before, set_named}
use Rattle.mq_unit.specs.from_calls.{ReceiverSide}
use Rattle.mq_sides.specs.declared.bonds.Bond.{Bond}
use Rattle.mq_sides.specs.Bonds.{KeepsSeats, bound_of, has_seat, seats_of, unbound_at}
use Rattle.mq_sides.specs.Places.{AreByName}
use Rattle.mq_sides.proofs.OrderLaws.{before_apart, before_trans, name_is, sorted_set}
use Rattle.std.proofs.lemmas.Slice.Eq.{bytes_eq-Decides}
use Rattle.std.proofs.lemmas.List.{take_all}

-- what holds of all channels with a place holds of those that are bound
bound_all : (P : List ℕ → Type 0) (bs : List Bond) → ((b : Bond) → Mem b bs → P b.channel) → (n : List ℕ) → Mem n (bound_of bs) → P n
bound_all P [] h n m = absurd m
bound_all P (b ∷ bs) h n m = by b.bound m (bound_all P bs (λ x k. h x (inr k)) n)
  where
    by : (g : Bool) → Mem n (cond g (b.channel ∷ bound_of bs) (bound_of bs)) → (Mem n (bound_of bs) → P n) → P n
    by true (inl e) rest = subst P (sym e) (h b (inl refl))
    by true (inr k) rest = rest k
    by false k rest = rest k

-- a name that comes before all others is put first
put_first : (c : List ℕ) (ns : List (List ℕ)) → ((n : List ℕ) → Mem n ns → comes_before c n ≡ true) → set_named (λ (n : List ℕ). n) c ns ≡ c ∷ ns
put_first c [] h = refl
put_first c (n ∷ ns) h =
    let before : comes_before c n ≡ true = h n (inl refl) in
    ap (λ (t : Bool). cond t (c ∷ ns) (cond (comes_before c n) (c ∷ n ∷ ns) (n ∷ set_named (λ (k : List ℕ). k) c ns))) (before_apart c n before)
    ∙ ap (λ (t : Bool). cond t (c ∷ n ∷ ns) (n ∷ set_named (λ (k : List ℕ). k) c ns)) before

pub bound_set : (c : List ℕ) (bs : List Bond) → AreByName (λ (b : Bond). b.channel) bs
    → bound_of (set_named (λ (b : Bond). b.channel) (record { channel = c; bound = true }) bs) ≡ set_named (λ (n : List ℕ). n) c (bound_of bs)
bound_set c [] h = refl
bound_set c (b ∷ bs) h = by (bytes_eq c b.channel) (comes_before c b.channel) refl refl (bound_set c bs h.1)
  where
    new : Bond
    new = record { channel = c; bound = true }

    names : List (List ℕ)
    names = bound_of bs

    same : (g : Bool) → bytes_eq c b.channel ≡ true → c ∷ names ≡ set_named (λ (n : List ℕ). n) c (cond g (b.channel ∷ names) names)
    same true is = sym (ap (λ (t : Bool). cond t (c ∷ names) (cond (comes_before c b.channel) (c ∷ b.channel ∷ names) (b.channel ∷ set_named (λ (n : List ℕ). n) c names))) is)
    same false is = sym (put_first c names (bound_all (λ (n : List ℕ). comes_before c n ≡ true) bs (λ x m. ap (λ (n : List ℕ). comes_before n x.channel) (name_is c b.channel is) ∙ h.0 x m)))

    later : (g : Bool) → bytes_eq c b.channel ≡ false → comes_before c b.channel ≡ false → bound_of (set_named (λ (x : Bond). x.channel) new bs) ≡ set_named (λ (n : List ℕ). n) c names
        → cond g (b.channel ∷ bound_of (set_named (λ (x : Bond). x.channel) new bs)) (bound_of (set_named (λ (x : Bond). x.channel) new bs)) ≡ set_named (λ (n : List ℕ). n) c (cond g (b.channel ∷ names) names)
    later true is before rest =
        ap (λ (ns : List (List ℕ)). b.channel ∷ ns) rest
        ∙ sym (ap (λ (t : Bool). cond t (c ∷ names) (cond (comes_before c b.channel) (c ∷ b.channel ∷ names) (b.channel ∷ set_named (λ (n : List ℕ). n) c names))) is
        ∙ ap (λ (t : Bool). cond t (c ∷ b.channel ∷ names) (b.channel ∷ set_named (λ (n : List ℕ). n) c names)) before)
    later false is before rest = rest

    by : (e f : Bool) → bytes_eq c b.channel ≡ e → comes_before c b.channel ≡ f → bound_of (set_named (λ (x : Bond). x.channel) new bs) ≡ set_named (λ (n : List ℕ). n) c names
        → bound_of (cond e (new ∷ bs) (cond f (new ∷ b ∷ bs) (b ∷ set_named (λ (x : Bond). x.channel) new bs))) ≡ set_named (λ (n : List ℕ). n) c (bound_of (b ∷ bs))
    by true f is before rest = same b.bound is
    by false true is before rest =
        let after : (x : Bond) → Mem x (b ∷ bs) → comes_before c x.channel ≡ true = λ x m. elim m [ inl e ↦ ap (λ (k : Bond). comes_before c k.channel) e ∙ before | inr k ↦ before_trans c b.channel x.channel before (h.0 x k) ] in
        sym (put_first c (bound_of (b ∷ bs)) (bound_all (λ (n : List ℕ). comes_before c n ≡ true) (b ∷ bs) after))
    by false false is before rest = later b.bound is before rest

-- a place is found by the channel's name
pub seat_found : (c : List ℕ) (bs : List Bond) → is_some (find (λ (b : Bond). bytes_eq c b.channel) bs) ≡ has_seat c (seats_of bs)
seat_found c [] = refl
seat_found c (b ∷ bs) = by (bytes_eq c b.channel) (seat_found c bs)
  where
    by : (t : Bool) → is_some (find (λ (x : Bond). bytes_eq c x.channel) bs) ≡ has_seat c (seats_of bs) → is_some (cond t (Some b) (find (λ (x : Bond). bytes_eq c x.channel) bs)) ≡ (t || has_seat c (seats_of bs))
    by true rest = refl
    by false rest = rest

pub no_seat : (c : List ℕ) (bs : List Bond) → find (λ (b : Bond). bytes_eq c b.channel) bs ≡ None → has_seat c (seats_of bs) ≡ false
no_seat c bs e = sym (seat_found c bs) ∙ ap (λ (o : Option Bond). is_some o) e

-- places in the order of their names
seat_mem : (b : Bond) (bs : List Bond) → Mem b bs → Mem b.channel (seats_of bs)
seat_mem b [] m = absurd m
seat_mem b (x ∷ xs) (inl e) = inl (ap (λ (k : Bond). k.channel) e)
seat_mem b (x ∷ xs) (inr m) = inr (seat_mem b xs m)

pub by_bond : (bs : List Bond) → AreByName (λ (n : List ℕ). n) (seats_of bs) → AreByName (λ (b : Bond). b.channel) bs
by_bond [] h = tt
by_bond (b ∷ bs) h = (λ x m. h.0 x.channel (seat_mem x bs m), by_bond bs h.1)

pub seats_set : (new : Bond) (bs : List Bond) → seats_of (set_named (λ (b : Bond). b.channel) new bs) ≡ set_named (λ (n : List ℕ). n) new.channel (seats_of bs)
seats_set new [] = refl
seats_set new (b ∷ bs) = by (bytes_eq new.channel b.channel) (comes_before new.channel b.channel) (seats_set new bs)
  where
    by : (t f : Bool) → seats_of (set_named (λ (x : Bond). x.channel) new bs) ≡ set_named (λ (n : List ℕ). n) new.channel (seats_of bs)
        → seats_of (cond t (new ∷ bs) (cond f (new ∷ b ∷ bs) (b ∷ set_named (λ (x : Bond). x.channel) new bs))) ≡ cond t (new.channel ∷ seats_of bs) (cond f (new.channel ∷ b.channel ∷ seats_of bs) (b.channel ∷ set_named (λ (n : List ℕ). n) new.channel (seats_of bs)))
    by true f rest = refl
    by false true rest = refl
    by false false rest = ap (λ (ns : List (List ℕ)). b.channel ∷ ns) rest

pub seats_sorted : (new : Bond) (bs : List Bond) → AreByName (λ (n : List ℕ). n) (seats_of bs) → AreByName (λ (n : List ℕ). n) (seats_of (set_named (λ (b : Bond). b.channel) new bs))
seats_sorted new bs h = subst (AreByName (λ (n : List ℕ). n)) (sym (seats_set new bs)) (sorted_set (λ (n : List ℕ). n) new.channel (seats_of bs) h)

-- a name that is set is there, and the others stay
name_self : (c : List ℕ) → bytes_eq c c ≡ true
name_self c = (bytes_eq-Decides c c).1 refl

pub seat_there : (c : List ℕ) (ns : List (List ℕ)) → has_seat c (set_named (λ (n : List ℕ). n) c ns) ≡ true
seat_there c [] = ap (λ (t : Bool). t || false) (name_self c)
seat_there c (n ∷ ns) = by (bytes_eq c n) (comes_before c n) refl (seat_there c ns)
  where
    by : (t f : Bool) → bytes_eq c n ≡ t → has_seat c (set_named (λ (k : List ℕ). k) c ns) ≡ true → has_seat c (cond t (c ∷ ns) (cond f (c ∷ n ∷ ns) (n ∷ set_named (λ (k : List ℕ). k) c ns))) ≡ true
    by true f e rest = ap (λ (t : Bool). t || has_seat c ns) (name_self c)
    by false true e rest = ap (λ (t : Bool). t || has_seat c (n ∷ ns)) (name_self c)
    by false false e rest = ap (λ (t : Bool). t || has_seat c (set_named (λ (k : List ℕ). k) c ns)) e ∙ rest

or_right : (a b : Bool) → b ≡ true → (a || b) ≡ true
or_right true b e = refl
or_right false b e = e

or_keep : (a b c : Bool) → (b ≡ true → c ≡ true) → (a || b) ≡ true → (a || c) ≡ true
or_keep true b c h e = refl
or_keep false b c h e = h e

pub seats_keep : (c : List ℕ) (ns : List (List ℕ)) → KeepsSeats ns (set_named (λ (n : List ℕ). n) c ns)
seats_keep c [] = λ name e. absurd cc
seats_keep c (n ∷ ns) = λ name e. by name (bytes_eq c n) (comes_before c n) refl e (seats_keep c ns name)
  where
    by : (name : List ℕ) (t f : Bool) → bytes_eq c n ≡ t → (bytes_eq name n || has_seat name ns) ≡ true → (has_seat name ns ≡ true → has_seat name (set_named (λ (k : List ℕ). k) c ns) ≡ true)
        → has_seat name (cond t (c ∷ ns) (cond f (c ∷ n ∷ ns) (n ∷ set_named (λ (k : List ℕ). k) c ns))) ≡ true
    by name true f is e rest = ap (λ (k : List ℕ). bytes_eq name k || has_seat name ns) (name_is c n is) ∙ e
    by name false true is e rest = or_right (bytes_eq name c) (has_seat name (n ∷ ns)) e
    by name false false is e rest = or_keep (bytes_eq name n) (has_seat name ns) (has_seat name (set_named (λ (k : List ℕ). k) c ns)) rest e

pub kept_by_set : (new : Bond) (bs : List Bond) → KeepsSeats (seats_of bs) (seats_of (set_named (λ (b : Bond). b.channel) new bs))
kept_by_set new bs = subst (KeepsSeats (seats_of bs)) (sym (seats_set new bs)) (seats_keep new.channel (seats_of bs))

pub there_by_set : (new : Bond) (bs : List Bond) → has_seat new.channel (seats_of (set_named (λ (b : Bond). b.channel) new bs)) ≡ true
there_by_set new bs = ap (has_seat new.channel) (seats_set new bs) ∙ seat_there new.channel (seats_of bs)

pub keeps_all : (ns : List (List ℕ)) → KeepsSeats ns ns
keeps_all ns = λ name e. e

-- a name behind which all others stand is not among them
none_behind : (c : List ℕ) (ns : List (List ℕ)) → ((n : List ℕ) → Mem n ns → comes_before c n ≡ true) → has_seat c ns ≡ false
none_behind c [] h = refl
none_behind c (n ∷ ns) h = ap (λ (t : Bool). t || has_seat c ns) (before_apart c n (h n (inl refl))) ∙ none_behind c ns (λ k m. h k (inr m))

-- one that is there is set at its own place
pub seats_same : (c : List ℕ) (ns : List (List ℕ)) → AreByName (λ (n : List ℕ). n) ns → has_seat c ns ≡ true → set_named (λ (n : List ℕ). n) c ns ≡ ns
seats_same c [] h e = absurd cc
seats_same c (n ∷ ns) h e = by (bytes_eq c n) (comes_before c n) refl refl e (seats_same c ns h.1)
  where
    by : (t f : Bool) → bytes_eq c n ≡ t → comes_before c n ≡ f → (t || has_seat c ns) ≡ true → (has_seat c ns ≡ true → set_named (λ (k : List ℕ). k) c ns ≡ ns)
        → cond t (c ∷ ns) (cond f (c ∷ n ∷ ns) (n ∷ set_named (λ (k : List ℕ). k) c ns)) ≡ n ∷ ns
    by true f is before e rest = ap (λ (k : List ℕ). k ∷ ns) (name_is c n is)
    by false true is before e rest = absurd (let none = none_behind c ns (λ k m. before_trans c n k before (h.0 k m)) in let wrong : true ≡ false = sym e ∙ none in cc)
    by false false is before e rest = ap (λ (ks : List (List ℕ)). n ∷ ks) (rest e)

pub seats_back : (new : Bond) (bs : List Bond) → AreByName (λ (n : List ℕ). n) (seats_of bs) → has_seat new.channel (seats_of bs) ≡ true → seats_of (set_named (λ (b : Bond). b.channel) new bs) ≡ seats_of bs
seats_back new bs h e = seats_set new bs ∙ seats_same new.channel (seats_of bs) h e

-- a channel that is bound is one of those that are
pub any_bound : (c : List ℕ) (bs : List Bond) → list_any (λ (b : Bond). b.bound && bytes_eq c b.channel) bs ≡ list_any (bytes_eq c) (bound_of bs)
any_bound c [] = refl
any_bound c (b ∷ bs) = by b.bound (any_bound c bs)
  where
    by : (t : Bool) → list_any (λ (x : Bond). x.bound && bytes_eq c x.channel) bs ≡ list_any (bytes_eq c) (bound_of bs)
        → ((t && bytes_eq c b.channel) || list_any (λ (x : Bond). x.bound && bytes_eq c x.channel) bs) ≡ list_any (bytes_eq c) (cond t (b.channel ∷ bound_of bs) (bound_of bs))
    by true rest = ap (λ (t : Bool). bytes_eq c b.channel || t) rest
    by false rest = rest

-- a name that isn't among some goes off none of them
off_none : (c : List ℕ) (ns : List (List ℕ)) → has_seat c ns ≡ false → filter (λ (n : List ℕ). not (bytes_eq c n)) ns ≡ ns
off_none c [] e = refl
off_none c (n ∷ ns) e = by (bytes_eq c n) e (off_none c ns)
  where
    by : (t : Bool) → (t || has_seat c ns) ≡ false → (has_seat c ns ≡ false → filter (λ (k : List ℕ). not (bytes_eq c k)) ns ≡ ns) → cond (not t) (n ∷ filter (λ (k : List ℕ). not (bytes_eq c k)) ns) (filter (λ (k : List ℕ). not (bytes_eq c k)) ns) ≡ n ∷ ns
    by true e rest = absurd cc
    by false e rest = ap (λ (ks : List (List ℕ)). n ∷ ks) (rest e)

bound_apart : (c : List ℕ) (bs : List Bond) → ((b : Bond) → Mem b bs → comes_before c b.channel ≡ true) → has_seat c (bound_of bs) ≡ false
bound_apart c bs h = none_behind c (bound_of bs) (bound_all (λ (n : List ℕ). comes_before c n ≡ true) bs h)

seat_less : (c : List ℕ) (bs : List Bond) → has_seat c (seats_of bs) ≡ false → has_seat c (bound_of bs) ≡ false
seat_less c [] e = refl
seat_less c (b ∷ bs) e = by (bytes_eq c b.channel) b.bound refl e (seat_less c bs)
  where
    by : (t g : Bool) → bytes_eq c b.channel ≡ t → (t || has_seat c (seats_of bs)) ≡ false → (has_seat c (seats_of bs) ≡ false → has_seat c (bound_of bs) ≡ false) → has_seat c (cond g (b.channel ∷ bound_of bs) (bound_of bs)) ≡ false
    by true g is e rest = absurd cc
    by false true is e rest = ap (λ (t : Bool). t || has_seat c (bound_of bs)) is ∙ rest e
    by false false is e rest = rest e

-- one that has no place isn't bound
pub unbound_none : (c : List ℕ) (bs : List Bond) → has_seat c (seats_of bs) ≡ false → bound_of bs ≡ filter (λ (n : List ℕ). not (bytes_eq c n)) (bound_of bs)
unbound_none c bs e = sym (off_none c (bound_of bs) (seat_less c bs e))

-- a channel's place says that it isn't bound
pub bound_unset : (c : List ℕ) (bs : List Bond) → AreByName (λ (b : Bond). b.channel) bs → has_seat c (seats_of bs) ≡ true
    → bound_of (set_named (λ (b : Bond). b.channel) (record { channel = c; bound = false }) bs) ≡ filter (λ (n : List ℕ). not (bytes_eq c n)) (bound_of bs)
bound_unset c [] h e = absurd cc
bound_unset c (b ∷ bs) h e = by (bytes_eq c b.channel) (comes_before c b.channel) refl refl e (bound_unset c bs h.1)
  where
    new : Bond
    new = record { channel = c; bound = false }

    off : List (List ℕ) → List (List ℕ)
    off ns = filter (λ (n : List ℕ). not (bytes_eq c n)) ns

    same : (g : Bool) → bytes_eq c b.channel ≡ true → bound_of bs ≡ off (cond g (b.channel ∷ bound_of bs) (bound_of bs))
    same g is = here g
      where
        less : bound_of bs ≡ off (bound_of bs)
        less = sym (off_none c (bound_of bs) (bound_apart c bs (λ x m. ap (λ (n : List ℕ). comes_before n x.channel) (name_is c b.channel is) ∙ h.0 x m)))

        here : (g : Bool) → bound_of bs ≡ off (cond g (b.channel ∷ bound_of bs) (bound_of bs))
        here true = less ∙ sym (ap (λ (t : Bool). cond (not t) (b.channel ∷ off (bound_of bs)) (off (bound_of bs))) is)
        here false = less

    later : (g : Bool) → bytes_eq c b.channel ≡ false → bound_of (set_named (λ (x : Bond). x.channel) new bs) ≡ off (bound_of bs)
        → cond g (b.channel ∷ bound_of (set_named (λ (x : Bond). x.channel) new bs)) (bound_of (set_named (λ (x : Bond). x.channel) new bs)) ≡ off (cond g (b.channel ∷ bound_of bs) (bound_of bs))
    later true is rest = ap (λ (ns : List (List ℕ)). b.channel ∷ ns) rest ∙ sym (ap (λ (t : Bool). cond (not t) (b.channel ∷ off (bound_of bs)) (off (bound_of bs))) is)
    later false is rest = rest

    by : (t f : Bool) → bytes_eq c b.channel ≡ t → comes_before c b.channel ≡ f → (t || has_seat c (seats_of bs)) ≡ true → (has_seat c (seats_of bs) ≡ true → bound_of (set_named (λ (x : Bond). x.channel) new bs) ≡ off (bound_of bs))
        → bound_of (cond t (new ∷ bs) (cond f (new ∷ b ∷ bs) (b ∷ set_named (λ (x : Bond). x.channel) new bs))) ≡ off (bound_of (b ∷ bs))
    by true f is before e rest = same b.bound is
    by false true is before e rest = absurd (let none = none_behind c (seats_of bs) (λ k m. behind k m) in let wrong : true ≡ false = sym e ∙ none in cc)
      where
        ordered : (k : List ℕ) (xs : List Bond) → ((x : Bond) → Mem x xs → comes_before b.channel x.channel ≡ true) → Mem k (seats_of xs) → comes_before b.channel k ≡ true
        ordered k [] g m = absurd m
        ordered k (x ∷ xs) g (inl w) = ap (λ (n : List ℕ). comes_before b.channel n) w ∙ g x (inl refl)
        ordered k (x ∷ xs) g (inr w) = ordered k xs (λ y n. g y (inr n)) w

        behind : (k : List ℕ) → Mem k (seats_of bs) → comes_before c k ≡ true
        behind k m = before_trans c b.channel k before (ordered k bs h.0 m)
    by false false is before e rest = later b.bound is (rest e)

-- a place that is given leaves those that are bound
pub bound_placed : (c : List ℕ) (bs : List Bond) → has_seat c (seats_of bs) ≡ false → bound_of (set_named (λ (b : Bond). b.channel) (record { channel = c; bound = false }) bs) ≡ bound_of bs
bound_placed c [] e = refl
bound_placed c (b ∷ bs) e = by (bytes_eq c b.channel) (comes_before c b.channel) e (bound_placed c bs)
  where
    new : Bond
    new = record { channel = c; bound = false }

    by : (t f : Bool) → (t || has_seat c (seats_of bs)) ≡ false → (has_seat c (seats_of bs) ≡ false → bound_of (set_named (λ (x : Bond). x.channel) new bs) ≡ bound_of bs)
        → bound_of (cond t (new ∷ bs) (cond f (new ∷ b ∷ bs) (b ∷ set_named (λ (x : Bond). x.channel) new bs))) ≡ bound_of (b ∷ bs)
    by true f e rest = absurd cc
    by false true e rest = refl
    by false false e rest = ap (λ (ns : List (List ℕ)). cond b.bound (b.channel ∷ ns) ns) (rest e)

-- one place after another says that its channel isn't bound
pub unbound_seats : (n : ℕ) (bs : List Bond) → seats_of (unbound_at n bs) ≡ seats_of bs
unbound_seats n [] = refl
unbound_seats zero (b ∷ bs) = refl
unbound_seats (suc n) (b ∷ bs) = ap (λ (ns : List (List ℕ)). b.channel ∷ ns) (unbound_seats n bs)

unbound_front : (n : ℕ) (bs : List Bond) → bound_of (take (suc n) (unbound_at n bs)) ≡ bound_of (take n bs)
unbound_front zero [] = refl
unbound_front (suc n) [] = refl
unbound_front zero (b ∷ bs) = refl
unbound_front (suc n) (b ∷ bs) = ap (λ (ns : List (List ℕ)). cond b.bound (b.channel ∷ ns) ns) (unbound_front n bs)

pub unbound_next : (n : ℕ) (bs new : List Bond) → new ≡ unbound_at n bs → bound_of (take n bs) ≡ [] → bound_of (take (n + 1) new) ≡ []
unbound_next n bs new e none =
    let one : n + 1 ≡ suc n = omega arith in
    (λ i. bound_of (take (one i) (e i))) ∙ unbound_front n bs ∙ none

pub unbound_long : (n : ℕ) (bs : List Bond) → length (unbound_at n bs) ≡ length bs
unbound_long n [] = refl
unbound_long zero (b ∷ bs) = refl
unbound_long (suc n) (b ∷ bs) = ap suc (unbound_long n bs)

pub unbound_end : (n : ℕ) (bs : List Bond) → length bs ≤ n → bound_of (take n bs) ≡ [] → bound_of bs ≡ []
unbound_end n bs le none = sym (ap bound_of (take_all n bs le)) ∙ none

pub set_unbound : (n : ℕ) (bs : List Bond) (b : Bond) → slice_get bs n ≡ Some b → slice_set bs n (record { channel = b.channel; bound = false }) ≡ unbound_at n bs
set_unbound n [] b e = absurd cc
set_unbound zero (x ∷ xs) b e = let same : x ≡ b = grind (arith, e) in ap (λ (k : Bond). (let new : Bond = record { channel = k.channel; bound = false } in new) ∷ xs) (sym same)
set_unbound (suc n) (x ∷ xs) b e = ap (λ (ks : List Bond). x ∷ ks) (set_unbound n xs b e)

pub get_unbound : (n : ℕ) (bs : List Bond) → slice_get bs n ≡ None → bs ≡ unbound_at n bs
get_unbound n [] e = refl
get_unbound zero (x ∷ xs) e = absurd cc
get_unbound (suc n) (x ∷ xs) e = ap (λ (ks : List Bond). x ∷ ks) (get_unbound n xs e)

-- receivers that have their places keep them
pub all_seated : (old new : List (List ℕ)) → KeepsSeats old new → (rs : List ReceiverSide) → AllByRecursion (λ (r : ReceiverSide). has_seat r.channel old ≡ true) rs → AllByRecursion (λ (r : ReceiverSide). has_seat r.channel new ≡ true) rs
all_seated old new k [] h = tt
all_seated old new k (r ∷ rs) h = (k r.channel h.0, all_seated old new k rs h.1)

-- and one that is set among them has its
pub set_seated : (seats : List (List ℕ)) (new : ReceiverSide) (rs : List ReceiverSide) → has_seat new.channel seats ≡ true → AllByRecursion (λ (r : ReceiverSide). has_seat r.channel seats ≡ true) rs
    → AllByRecursion (λ (r : ReceiverSide). has_seat r.channel seats ≡ true) (set_named (λ (r : ReceiverSide). r.channel) new rs)
set_seated seats new [] e h = (e, tt)
set_seated seats new (r ∷ rs) e h = by (bytes_eq new.channel r.channel) (comes_before new.channel r.channel) (set_seated seats new rs e h.1)
  where
    by : (t f : Bool) → AllByRecursion (λ (x : ReceiverSide). has_seat x.channel seats ≡ true) (set_named (λ (x : ReceiverSide). x.channel) new rs)
        → AllByRecursion (λ (x : ReceiverSide). has_seat x.channel seats ≡ true) (cond t (new ∷ rs) (cond f (new ∷ r ∷ rs) (r ∷ set_named (λ (x : ReceiverSide). x.channel) new rs)))
    by true f rest = (e, h.1)
    by false true rest = (e, h)
    by false false rest = (h.0, rest)

-- what is found of a channel has the channel's place
pub seat_of_found : (seats : List (List ℕ)) (c : List ℕ) (r : ReceiverSide) (rs : List ReceiverSide) → AllByRecursion (λ (x : ReceiverSide). has_seat x.channel seats ≡ true) rs → find (λ (x : ReceiverSide). bytes_eq c x.channel) rs ≡ Some r → has_seat c seats ≡ true
seat_of_found seats c r [] h e = absurd cc
seat_of_found seats c r (x ∷ xs) h e = by (bytes_eq c x.channel) refl e (seat_of_found seats c r xs h.1)
  where
    by : (t : Bool) → bytes_eq c x.channel ≡ t → cond t (Some x) (find (λ (y : ReceiverSide). bytes_eq c y.channel) xs) ≡ Some r → (find (λ (y : ReceiverSide). bytes_eq c y.channel) xs ≡ Some r → has_seat c seats ≡ true) → has_seat c seats ≡ true
    by true is e rest = ap (λ (n : List ℕ). has_seat n seats) (name_is c x.channel is) ∙ h.0
    by false is e rest = rest e
