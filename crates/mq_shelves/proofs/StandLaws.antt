-- Names, places and idents that are told apart.
use Rattle.std.proofs.Common.{◌≡◌, ℕ, ◌<◌, Bool, true, false, cond, List, [], ◌∷◌, Option, Some, None, refl, sym, ap, ◌∙◌, arith}
use Rattle.std.proofs.Common.{Ordering, Less, Equal, Greater}
use Rattle.std.specs.Prelude.{nat_le, nat_lt, ◌||◌, ◌&&◌}
use Rattle.std.specs.Ordering.{nat_cmp, ordering_then, is_eq}
use Rattle.std.specs.Cmp.{nat_cmp_is}
use Rattle.std.specs.List.{AllByRecursion}
use Rattle.std.specs.Map.{keys_of, lookup}
use Rattle.std.specs.BTreeMap.{is_at}
use Rattle.std.specs.Str.{bytes_eq}
use Rattle.std.proofs.lemmas.Map.Lookups.{exact_pairs, exact_unsigned}
use Rattle.std.proofs.lemmas.Slice.Eq.{bytes_eq-Decides}
use Rattle.std.proofs.lemmas.Bool.Decides.{nat_tests}
use Rattle.mq_message.specs.declared.message.Ident.{Ident}
use Rattle.mq_queue.specs.declared.row.Row.{Row}
use Rattle.mq_queue.specs.Rows.{has_ident}
use Rattle.mq_queue.proofs.Edits.{same_is}
use Rattle.mq_shelves.specs.declared.rack.Stand.{Stand}
use Rattle.mq_shelves.specs.declared.spots.Spot.{Spot}
use Rattle.mq_shelves.specs.Racks.{stand_cmp, Stands}

-- ---- tests

pub or_none : (b : Bool) → (b || false) ≡ b
or_none true = refl
or_none false = refl

pub and_none : (b : Bool) → (b && false) ≡ false
and_none true = refl
and_none false = refl

pub not_both : {A : Type 0} (b : Bool) → b ≡ true → b ≡ false → A
not_both b is none = absurd (cc (sym is ∙ none))

-- ---- names

pub name_is : (a b : List ℕ) → bytes_eq a b ≡ true → a ≡ b
name_is a b e = (bytes_eq-Decides a b).0 e

pub name_same : (a : List ℕ) → bytes_eq a a ≡ true
name_same a = (bytes_eq-Decides a a).1 refl

-- ---- places

pub place_is : (a b : Stand) → is_at (stand_cmp a) b ≡ true → a ≡ b
place_is a b e = ap (λ (p : ℕ × ℕ). record { lane = p.0; arrival = p.1 }) (exact_pairs nat_cmp nat_cmp exact_unsigned exact_unsigned (a.lane, a.arrival) (b.lane, b.arrival) (equal (stand_cmp a b) e))
  where
    equal : (o : Ordering) → is_eq o ≡ true → o ≡ Equal
    equal Less e = absurd (cc e)
    equal Equal e = refl
    equal Greater e = absurd (cc e)

number_same : (n : ℕ) → nat_cmp n n ≡ Equal
number_same n = sym (nat_cmp_is n n Equal refl)

pub place_same : (a : Stand) → is_at (stand_cmp a) a ≡ true
place_same a = ap (λ (o : Ordering). is_eq (ordering_then o (nat_cmp a.arrival a.arrival))) (number_same a.lane) ∙ ap is_eq (number_same a.arrival)

-- a place in a lane behind, and one in this lane or before that came earlier
pub lane_behind : (lane arrival : ℕ) (b : Stand) → nat_le b.lane lane ≡ false → ordering_then (nat_cmp lane b.lane) (nat_cmp arrival b.arrival) ≡ Less
lane_behind lane arrival b e =
    let less : lane < b.lane = grind (arith, nat_tests) in
    ap (λ (o : Ordering). ordering_then o (nat_cmp arrival b.arrival)) (sym (nat_cmp_is lane b.lane Less less))

pub came_earlier : (lane arrival : ℕ) (b : Stand) → nat_le b.lane lane ≡ true → b.arrival < arrival → ordering_then (nat_cmp lane b.lane) (nat_cmp arrival b.arrival) ≡ Greater
came_earlier lane arrival b e came = by (nat_lt b.lane lane) refl
  where
    by : (t : Bool) → nat_lt b.lane lane ≡ t → ordering_then (nat_cmp lane b.lane) (nat_cmp arrival b.arrival) ≡ Greater
    by true h =
        let less : b.lane < lane = grind (arith, nat_tests) in
        ap (λ (o : Ordering). ordering_then o (nat_cmp arrival b.arrival)) (sym (nat_cmp_is lane b.lane Greater less))
    by false h =
        let same : lane ≡ b.lane = grind (arith, nat_tests) in
        ap (λ (o : Ordering). ordering_then o (nat_cmp arrival b.arrival)) (sym (nat_cmp_is lane b.lane Equal same)) ∙ sym (nat_cmp_is arrival b.arrival Greater came)

-- ---- what is told apart from the first

pub none_there : {K X : Type 0} (test : K → Bool) (es : List (K × X)) → AllByRecursion (λ (k : K). test k ≡ false) (keys_of es) → lookup test es ≡ None
none_there test [] h = refl
none_there {K} {X} test (e ∷ es) h = (λ j. cond (h.0 j) (Some e.1) (lookup test es)) ∙ none_there test es h.1

pub all_both : {X : Type 0} {P Q R : X → Type 0} → ((x : X) → P x → Q x → R x) → (xs : List X) → AllByRecursion P xs → AllByRecursion Q xs → AllByRecursion R xs
all_both f [] p q = tt
all_both f (x ∷ xs) p q = (f x p.0 q.0, all_both f xs p.1 q.1)

pub all_each : {X : Type 0} {P Q : X → Type 0} → ((x : X) → P x → Q x) → (xs : List X) → AllByRecursion P xs → AllByRecursion Q xs
all_each f [] p = tt
all_each f (x ∷ xs) p = (f x p.0, all_each f xs p.1)

-- ---- rows by their idents

module _ (spot : Ident → Option Spot) (next : ℕ) (ident : Ident) where
  -- a row with the ident stands where the ident was noted to stand
  pub noted_there : (name : List ℕ) (e : Stand × Row) → Stands spot next name e → has_ident ident e.1 ≡ true → spot ident ≡ Some (record { queue = name; stand = e.0 })
  noted_there name e s h = ap spot (sym (same_is e.1.message.ident ident h)) ∙ s.noted

  -- and no other does
  pub not_there : (sp : Spot) → spot ident ≡ Some sp → (name : List ℕ) (e : Stand × Row) → Stands spot next name e → (b : Bool) → has_ident ident e.1 ≡ b → (b ≡ true → (sp.queue ≡ name) × (sp.stand ≡ e.0))
  not_there sp is name e s b h holds =
      let there : Some sp ≡ Some (record { queue = name; stand = e.0 }) = sym is ∙ noted_there name e s (h ∙ holds) in
      (ap (λ (o : Option Spot). queue_or o) there, ap (λ (o : Option Spot). stand_or o) there)
    where
      queue_or : Option Spot → List ℕ
      queue_or None = sp.queue
      queue_or (Some x) = x.queue

      stand_or : Option Spot → Stand
      stand_or None = sp.stand
      stand_or (Some x) = x.stand
