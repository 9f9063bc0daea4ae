-- What a record does to the hardened data of channels, and rows seen against units in doubt that change.
use Rattle.std.proofs.Common.{Ordering, Less, Equal, Greater, ℕ, ◌≡◌, ◌≢◌, ◌≤◌, Bool, true, false, List, [], ◌∷◌, refl, ap, sym, subst, ◌∙◌, arith, inl, inr}
use Rattle.std.specs.Prelude.{Option, Some, None, if◌then◌else◌, ◌||◌, not, filter, AllPairs, nat_lt}
use Rattle.std.specs.Str.{bytes_eq}
use Rattle.std.specs.List.{list_any}
use Rattle.std.specs.Ordering.{is_lt, is_eq, nat_cmp, ordering_reverse}
use Rattle.std.specs.Cmp.{IsTotalOrder}
use Rattle.std.specs.Cmp.Lexicographic.{slice_cmp}
use Rattle.std.proofs.lemmas.Cmp.{nat_list_cmp_total}
use Rattle.std.proofs.lemmas.Map.Text.{is_eq-slice_cmp}
use Rattle.std.proofs.lemmas.List.Elements.{All-filter}
use Rattle.std.proofs.lemmas.List.Kept.{AllPairs-filter}
use Rattle.std.proofs.lemmas.Bool.Decides.{nat_tests}
use Rattle.mq_message.specs.declared.message.Ident.{Ident}
use Rattle.mq_message.specs.declared.place.Holder.{Holder}
use Rattle.mq_message.specs.declared.place.Holder.TheVariants as holders
use Rattle.mq_queue.specs.declared.row.Row.{Row}
use Rattle.mq_queue.specs.Rows.{same_ident}
use Rattle.mq_sync.specs.declared.unit.Unit.{Unit as Luw}
use Rattle.mq_sync.specs.declared.data.InDoubt.{InDoubt}
use Rattle.mq_sync.specs.declared.data.SenderData.{SenderData}
use Rattle.mq_sync.specs.declared.data.ReceiverData.{ReceiverData}
use Rattle.mq_sync.specs.Settlement.{sender_or}
use Rattle.mq_calls.specs.declared.state.SenderSide.{SenderSide}
use Rattle.mq_calls.specs.declared.state.ReceiverSide.{ReceiverSide}
use Rattle.mq_calls.specs.Reads.{sender_in, in_doubt_of}
use Rattle.mq_calls.specs.Changes.{comes_before, set_named, set_sender, set_receiver, less_ident, off_list, off_lists}
use Rattle.mq_calls.specs.Recovery.{IsListed, listed, IsNumbered, IsDoubtOf, IsReceiverSide, IsKnown, IsDoubtKnown}
use Rattle.mq_law_log.specs.from_spec_log.Applies.{are_distinct, is_unit}
use Rattle.mq_law_log.specs.from_law_manager.Facts.{Mem, Chain, AreSorted}
use Rattle.mq_law_log.proofs.from_law_manager.Lists.{bool_case, any_mem, mem_any, ident_no}
use Rattle.mq_law_log.proofs.from_law_manager.Named.{name_is, sender_set}
use Rattle.mq_law_log.proofs.from_law_manager.Routes.{before_trans, filter_mem, map_mem}
use Rattle.mq_law_image.specs.SoFar.{Sight, IsHeldIn, IsRowOf, IsSideOf}
use Rattle.mq_law_image.proofs.Members.{set_mem, both, all_pairs}

-- Data in order of names

turned_less : (o : Ordering) → is_eq o ≡ false → is_lt o ≡ false → is_lt (ordering_reverse o) ≡ true
turned_less Less e f = absurd cc
turned_less Equal e f = absurd cc
turned_less Greater e f = refl

names_total : IsTotalOrder (slice_cmp nat_cmp)
names_total = nat_list_cmp_total

before_turned : (a b : List ℕ) → bytes_eq a b ≡ false → comes_before a b ≡ false → comes_before b a ≡ true
before_turned a b e f = ap is_lt (names_total.antisymm b a) ∙ turned_less (slice_cmp nat_cmp a b) (is_eq-slice_cmp a b ∙ e) f

pub sorted_set : {A : Type 0} (name : A → List ℕ) (new : A) (xs : List A) → Chain (λ (x y : A). comes_before (name x) (name y) ≡ true) xs → Chain (λ (x y : A). comes_before (name x) (name y) ≡ true) (set_named name new xs)
sorted_set name new [] h = (λ z m. absurd m, tt)
sorted_set {A} name new (y ∷ ys) h = bool_case (bytes_eq (name new) (name y))
    (λ b. bytes_eq (name new) (name y) ≡ b → Chain (λ (x z : A). comes_before (name x) (name z) ≡ true) (if b then new ∷ ys else (if comes_before (name new) (name y) then new ∷ y ∷ ys else y ∷ set_named name new ys)))
    (λ z w. (λ x m. ap (λ (n : List ℕ). comes_before n (name x)) (name_is (name new) (name y) w) ∙ h.0 x m, h.1))
    (λ z w. bool_case (comes_before (name new) (name y)) (λ b. comes_before (name new) (name y) ≡ b → Chain (λ (x k : A). comes_before (name x) (name k) ≡ true) (if b then new ∷ y ∷ ys else y ∷ set_named name new ys))
    (λ u v. (λ x m. elim m [ inl e ↦ ap (λ (s : A). comes_before (name new) (name s)) e ∙ v | inr k ↦ before_trans (name new) (name y) (name x) v (h.0 x k) ], h))
    (λ u v. (λ x m. elim (set_mem name new x ys m) [ inl e ↦ ap (λ (s : A). comes_before (name y) (name s)) e ∙ before_turned (name new) (name y) w v | inr k ↦ h.0 x k ], sorted_set name new ys h.1)) refl) refl

pub off_sorted : (i : Ident) (sides : List SenderSide) → AreSorted sides → AreSorted (off_lists i sides)
off_sorted i [] h = tt
off_sorted i (y ∷ ys) h = (λ x m. let k = map_mem (off_list i) x ys m in ap (λ (s : SenderSide). comes_before y.channel s.channel) k.2 ∙ h.0 k.0 k.1, off_sorted i ys h.1)

-- Data is set

pub sides_set : (number incarnation : ℕ) (channel : List ℕ) (d : SenderData) (sides : List SenderSide) → IsSideOf number incarnation (record { channel = channel; hardened = d })
    → ((s : SenderSide) → Mem s sides → IsSideOf number incarnation s) → (s : SenderSide) → Mem s (set_sender (record { channel = channel; hardened = d }) sides) → IsSideOf number incarnation s
sides_set number incarnation channel d sides new h s m = elim (set_mem (λ (x : SenderSide). x.channel) (record { channel = channel; hardened = d }) s sides m) [ inl z ↦ subst (IsSideOf number incarnation) (sym z) new | inr z ↦ h s z ]

pub receivers_set : (channel : List ℕ) (d : ReceiverData) (sides : List ReceiverSide) → IsReceiverSide (record { channel = channel; hardened = d })
    → ((r : ReceiverSide) → Mem r sides → IsReceiverSide r) → (r : ReceiverSide) → Mem r (set_receiver (record { channel = channel; hardened = d }) sides) → IsReceiverSide r
receivers_set channel d sides new h r m = elim (set_mem (λ (x : ReceiverSide). x.channel) (record { channel = channel; hardened = d }) r sides m) [ inl z ↦ subst IsReceiverSide (sym z) new | inr z ↦ h r z ]

pub doubt_set : (c channel : List ℕ) (d : SenderData) (sides : List SenderSide) → in_doubt_of (sender_in c (set_sender (record { channel = channel; hardened = d }) sides)) ≡ (if bytes_eq c channel then d.in_doubt else in_doubt_of (sender_in c sides))
doubt_set c channel d sides = ap in_doubt_of (sender_set c channel d sides)
    ∙ bool_case (bytes_eq c channel) (λ b. in_doubt_of (if b then Some d else sender_in c sides) ≡ (if b then d.in_doubt else in_doubt_of (sender_in c sides))) (λ e. refl) (λ e. refl)

pub doubt_or : (o : Option SenderData) → (sender_or o).in_doubt ≡ in_doubt_of o
doubt_or None = refl
doubt_or (Some d) = refl

-- the unit in doubt of a channel whose other data are set stays
pub doubt_stays : (channel : List ℕ) (d : SenderData) (sides : List SenderSide) → d.in_doubt ≡ (sender_or (sender_in channel sides)).in_doubt
    → (c : List ℕ) → in_doubt_of (sender_in c (set_sender (record { channel = channel; hardened = d }) sides)) ≡ in_doubt_of (sender_in c sides)
doubt_stays channel d sides e c = doubt_set c channel d sides
    ∙ bool_case (bytes_eq c channel) (λ b. bytes_eq c channel ≡ b → (if b then d.in_doubt else in_doubt_of (sender_in c sides)) ≡ in_doubt_of (sender_in c sides))
    (λ z w. e ∙ doubt_or (sender_in channel sides) ∙ ap (λ (n : List ℕ). in_doubt_of (sender_in n sides)) (sym (name_is c channel w))) (λ z w. refl) refl

-- Units in doubt

pub doubt_rises : (a b : ℕ) (o : Option InDoubt) → a ≤ b → IsDoubtOf a o → IsDoubtOf b o
doubt_rises a b None le h = tt
doubt_rises a b (Some d) le h = (h.0, on d.unit.session a b h.1 le, h.2)
  where
    on : (x y z : ℕ) → x ≤ y → y ≤ z → x ≤ z
    on x y z p q = omega (arith, p, q)

pub distinct_pairs : (idents : List Ident) → are_distinct idents ≡ true → AllPairs (λ (x y : Ident). same_ident x y ≡ false) idents
distinct_pairs idents e = all_pairs (λ (x y : Ident). same_ident x y ≡ false) idents (chained idents e)
  where
    off : (b : Bool) → not b ≡ true → b ≡ false
    off true e = absurd cc
    off false e = refl

    none_of : (i : Ident) (is : List Ident) → list_any (same_ident i) is ≡ false → (x : Ident) → Mem x is → same_ident i x ≡ false
    none_of i [] e x m = absurd m
    none_of i (y ∷ ys) e x m = bool_case (same_ident i y) (λ b. same_ident i y ≡ b → (b || list_any (same_ident i) ys) ≡ false → same_ident i x ≡ false)
        (λ z w f. absurd cc) (λ z w f. elim m [ inl k ↦ ap (same_ident i) k ∙ w | inr k ↦ none_of i ys f x k ]) refl e

    chained : (is : List Ident) → are_distinct is ≡ true → Chain (λ (x y : Ident). same_ident x y ≡ false) is
    chained [] e = tt
    chained (i ∷ is) e = let b = both (not (list_any (same_ident i) is)) (are_distinct is) e in (none_of i is (off (list_any (same_ident i) is) b.0), chained is b.1)

pub numbered : (u : Luw) → is_unit u ≡ true → IsNumbered u
numbered u e = let b = both (nat_lt 0 u.session) (nat_lt 0 u.n) e in record { session = some u.session b.0; number = some u.n b.1 }
  where
    some : (n : ℕ) → nat_lt 0 n ≡ true → 1 ≤ n
    some n e = grind (arith, nat_tests)

-- An ident comes off a list

pub less_listed : (ident i : Ident) (o : Option InDoubt) → list_any (same_ident i) (listed (less_ident ident o)) ≡ true → list_any (same_ident i) (listed o) ≡ true
less_listed ident i None e = e
less_listed ident i (Some d) e = mem_any i d.idents (filter_mem (λ other. not (same_ident ident other)) i d.idents (any_mem i (filter (λ other. not (same_ident ident other)) d.idents) e))

pub less_off : (ident : Ident) (o : Option InDoubt) → list_any (same_ident ident) (listed (less_ident ident o)) ≡ false
less_off ident None = refl
less_off ident (Some d) = gone d.idents
  where
    gone : (is : List Ident) → list_any (same_ident ident) (filter (λ other. not (same_ident ident other)) is) ≡ false
    gone [] = refl
    gone (i ∷ is) = bool_case (same_ident ident i) (λ b. same_ident ident i ≡ b → list_any (same_ident ident) (if not b then i ∷ filter (λ other. not (same_ident ident other)) is else filter (λ other. not (same_ident ident other)) is) ≡ false)
        (λ z w. gone is) (λ z w. ap (λ (b : Bool). b || list_any (same_ident ident) (filter (λ other. not (same_ident ident other)) is)) w ∙ gone is) refl

kept_in_filter : (test : Ident → Bool) (i : Ident) (is : List Ident) → Mem i is → test i ≡ true → Mem i (filter test is)
kept_in_filter test i [] m e = absurd m
kept_in_filter test i (x ∷ xs) m e = bool_case (test x) (λ b. test x ≡ b → Mem i (if b then x ∷ filter test xs else filter test xs))
    (λ z w. elim m [ inl k ↦ inl k | inr k ↦ inr (kept_in_filter test i xs k e) ])
    (λ z w. elim m [ inl k ↦ absurd (cc (w, ap test (sym k) ∙ e)) | inr k ↦ kept_in_filter test i xs k e ]) refl

pub less_lists : (queue : List ℕ) (ident i : Ident) (o : Option InDoubt) → ident ≢ i → IsListed queue i o → IsListed queue i (less_ident ident o)
less_lists queue ident i None ne h = h
less_lists queue ident i (Some d) ne h = (
  h.0,
  mem_any i (filter (λ other. not (same_ident ident other)) d.idents) (kept_in_filter (λ other. not (same_ident ident other)) i d.idents (any_mem i d.idents h.1) (ap not (ident_no ident i ne))),
)

pub less_side : (number incarnation : ℕ) (ident : Ident) (s : SenderSide) → IsSideOf number incarnation s → IsSideOf number incarnation (off_list ident s)
less_side number incarnation ident s h = record { side = side s.hardened.session s.hardened.in_doubt h.side; known = known s.hardened.in_doubt h.known }
  where
    side : (session : ℕ) (o : Option InDoubt) → IsDoubtOf session o → IsDoubtOf session (less_ident ident o)
    side session None k = tt
    side session (Some d) k = (k.0, k.1, AllPairs-filter (λ (x y : Ident). same_ident x y ≡ false) (λ other. not (same_ident ident other)) d.idents k.2)

    known : (o : Option InDoubt) → IsDoubtKnown number incarnation o → IsDoubtKnown number incarnation (less_ident ident o)
    known None k = tt
    known (Some d) k = All-filter (λ other. not (same_ident ident other)) (IsKnown number incarnation) d.idents k

pub off_sides : (number incarnation : ℕ) (ident : Ident) (sides : List SenderSide) → ((s : SenderSide) → Mem s sides → IsSideOf number incarnation s) → (s : SenderSide) → Mem s (off_lists ident sides) → IsSideOf number incarnation s
off_sides number incarnation ident sides h s m = let k = map_mem (off_list ident) s sides m in subst (IsSideOf number incarnation) (sym k.2) (less_side number incarnation ident k.0 (h k.0 k.1))

-- Rows seen against units in doubt

abbrev pub doubting : Sight → (List ℕ → Option InDoubt) → Sight
doubting v d = record v { doubt = d }

pub row_doubts : (v : Sight) (d : List ℕ → Option InDoubt) (queue : List ℕ) (h : Row) → ((c : List ℕ) → d c ≡ v.doubt c) → IsRowOf v queue h → IsRowOf (doubting v d) queue h
row_doubts v d queue h same r = record {
  persistent = r.persistent;
  lane = r.lane;
  uncounted = r.uncounted;
  unbacked = r.unbacked;
  routed = r.routed;
  held = held h.by r.held;
  doubted = λ c e. r.doubted c (ap (λ (o : Option InDoubt). list_any (same_ident h.message.ident) (listed o)) (sym (same c)) ∙ e);
  known = r.known;
}
  where
    held : (b : Option Holder) → IsHeldIn v.doubt queue h.message.ident b → IsHeldIn d queue h.message.ident b
    held None k = tt
    held (Some (holders.Unit n)) k = k
    held (Some (holders.Batch c)) k = subst (IsListed queue h.message.ident) (sym (same c)) k
