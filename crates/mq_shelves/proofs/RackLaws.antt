-- Racks stay as they should, whatever is done to their rows.
use Rattle.std.proofs.Common.{◌≡◌, ℕ, ◌<◌, ◌≤◌, Bool, true, false, cond, List, [], ◌∷◌, Option, Some, None, refl, sym, ap, subst, ◌∙◌, arith}
use Rattle.std.specs.Prelude.{not, ◌&&◌, if◌then◌else◌, filter}
use Rattle.std.proofs.Common.{Ordering, Less, Equal, Greater}
use Rattle.std.specs.Ordering.{is_eq, match_ordering, eq_by_cmp}
use Rattle.std.specs.List.{AllByRecursion, IsDistinct, list_any}
use Rattle.std.specs.Map.{keys_of, lookup, remove_entry, set_value}
use Rattle.std.specs.BTreeMap.{is_at, insert_entry}
use Rattle.std.specs.Str.{bytes_eq}
use Rattle.indexmap.specs.IndexMap.{insert_entry as named_entry}
use Rattle.std.proofs.lemmas.Map.{keys-set_value}
use Rattle.std.proofs.lemmas.Map.Keys.{IsDistinct-head, IsDistinct-tail}
use Rattle.mq_message.specs.declared.message.Ident.{Ident}
use Rattle.mq_message.specs.declared.message.Message.{Message}
use Rattle.mq_message.specs.declared.place.Holder.{Holder}
use Rattle.mq_queue.specs.declared.row.Row.{Row}
use Rattle.mq_queue.specs.Rows.{same_ident, has_ident}
use Rattle.mq_queue.proofs.Edits.{same_is, same_self, same_turned}
use Rattle.mq_calls.specs.declared.image.Shelf.{Shelf}
use Rattle.mq_calls.specs.Changes.{new_row}
use Rattle.mq_calls.specs.Images.{uncounted_message}
use Rattle.mq_spec_log.specs.Shelves.{shelf_in, set_shelf, shelved_in}
use Rattle.mq_shelves.specs.declared.rack.Stand.{Stand}
use Rattle.mq_shelves.specs.declared.spots.Spot.{Spot}
use Rattle.mq_shelves.specs.Racks.{stand_cmp, rows_of, shelf_of, shelves_of, or_nothing, row_in, row_at, standing, standing_if, any_row, Stands, IsRack, AreRacks}
use Rattle.mq_shelves.proofs.StandLaws.{and_none, name_is, place_is, all_each}
use Rattle.mq_shelves.proofs.FindLaws.{passes_at, passes_in}
use Rattle.mq_shelves.proofs.ChangeLaws.{all_set, row_come, shelf_there, queue_set}
use Rattle.mq_shelves.proofs.ViewLaws.{neither}

-- ---- where a row stands

pub record Stood (rs : List (List ℕ × List (Stand × Row))) (ident : Ident) (o : Option Spot) (sp : Spot) : Type 0 where
  pub noted : o ≡ Some sp
  pub rows : List (Stand × Row)
  pub row : Row
  pub found : lookup (bytes_eq sp.queue) rs ≡ Some rows
  pub there : lookup (is_at (stand_cmp sp.stand)) rows ≡ Some row
  pub has : has_ident ident row ≡ true

abbrev spot_or : Spot → Option Spot → Spot
spot_or x None = x
spot_or x (Some sp) = sp

module _ (rs : List (List ℕ × List (Stand × Row))) (ident : Ident) where
  stood_as : (x sp : Spot) (es : List (Stand × Row)) (row : Row) → lookup (bytes_eq x.queue) rs ≡ Some es → lookup (is_at (stand_cmp x.stand)) es ≡ Some row
      → (b : Bool) → has_ident ident row ≡ b → (if b then Some x else None) ≡ Some sp → Stood rs ident (Some x) sp
  stood_as x sp es row f g false h e = absurd (cc e)
  stood_as x sp es row f g true h e =
      let same : x ≡ sp = ap (spot_or x) e in
      record {
        noted = e;
        rows = es;
        row = row;
        found = subst (λ (s : Spot). lookup (bytes_eq s.queue) rs ≡ Some es) same f;
        there = subst (λ (s : Spot). lookup (is_at (stand_cmp s.stand)) es ≡ Some row) same g;
        has = h;
      }

  stood_at : (x sp : Spot) (es : List (Stand × Row)) → lookup (bytes_eq x.queue) rs ≡ Some es → (r : Option Row) → lookup (is_at (stand_cmp x.stand)) es ≡ r → standing_if ident x r ≡ Some sp → Stood rs ident (Some x) sp
  stood_at x sp es f None g e = absurd (cc e)
  stood_at x sp es f (Some row) g e = stood_as x sp es row f g (has_ident ident row) refl e

  stood_on : (x sp : Spot) (q : Option (List (Stand × Row))) → lookup (bytes_eq x.queue) rs ≡ q → standing_if ident x (row_in x.stand q) ≡ Some sp → Stood rs ident (Some x) sp
  stood_on x sp None f e = absurd (cc e)
  stood_on x sp (Some es) f e = stood_at x sp es f (lookup (is_at (stand_cmp x.stand)) es) refl e

  pub stood : (o : Option Spot) (sp : Spot) → standing rs ident o ≡ Some sp → Stood rs ident o sp
  stood None sp e = absurd (cc e)
  stood (Some x) sp e = stood_on x sp (lookup (bytes_eq x.queue) rs) refl e

  module _ (test : List ℕ → Row → Bool) where
    lacks_if : (x : Spot) (row : Row) (b : Bool) → has_ident ident row ≡ b → (if b then Some x else None) ≡ None → (test x.queue row && has_ident ident row) ≡ false
    lacks_if x row true h e = absurd (cc e)
    lacks_if x row false h e = ap (λ (c : Bool). test x.queue row && c) h ∙ and_none (test x.queue row)

    lacks_at : (x : Spot) (r : Option Row) → standing_if ident x r ≡ None → passes_at test ident x.queue r ≡ false
    lacks_at x None e = refl
    lacks_at x (Some row) e = lacks_if x row (has_ident ident row) refl e

    pub not_stood : (o : Option Spot) → standing rs ident o ≡ None → passes_in test ident rs o ≡ false
    not_stood None e = refl
    not_stood (Some x) e = lacks_at x (row_at rs x) e

-- ---- of all that stays

pub all_removed : {K X : Type 0} (P : K × X → Type 0) (test : K → Bool) (es : List (K × X)) → AllByRecursion P es → AllByRecursion P (remove_entry test es)
all_removed P test [] all = tt
all_removed {K} {X} P test (e ∷ es) all = by (all_removed P test es all.1) (test e.0)
  where
    by : AllByRecursion P (remove_entry test es) → (b : Bool) → AllByRecursion P (cond b es (e ∷ remove_entry test es))
    by rest true = all.1
    by rest false = (all.0, rest)

abbrev rows_shelf : List ℕ → List Row → Shelf
rows_shelf name rows = record { name = name; rows = rows }

abbrev row_or : Row → Option Row → Row
row_or r None = r
row_or r (Some row) = row

module _ (spot : Ident → Option Spot) (next : ℕ) where
  all_tagged : (name : List ℕ) (test : Stand → Bool) (by : Option Holder) (row : Row) (es : List (Stand × Row)) → lookup test es ≡ Some row → AllByRecursion (Stands spot next name) es → AllByRecursion (Stands spot next name) (set_value test es (record row { by = by }))
  all_tagged name test h row [] found all = tt
  all_tagged name test h row (e ∷ es) found all = by (λ there. all_tagged name test h row es there all.1) (test e.0) refl
    where
      by : (lookup test es ≡ Some row → AllByRecursion (Stands spot next name) (set_value test es (record row { by = h }))) → (b : Bool) → test e.0 ≡ b
          → AllByRecursion (Stands spot next name) (cond b ((e.0, record row { by = h }) ∷ es) (e ∷ set_value test es (record row { by = h })))
      by rest true f =
          let here : e.1 ≡ row = ap (row_or row) ((λ j. cond (sym f j) (Some e.1) (lookup test es)) ∙ found) in
          (record { noted = ap (λ (r : Row). spot r.message.ident) (sym here) ∙ all.0.noted; lane = all.0.lane ∙ ap (λ (r : Row). r.place.lane) here; came = all.0.came }, all.1)
      by rest false f = (all.0, rest ((λ j. cond (sym f j) (Some e.1) (lookup test es)) ∙ found))

  module _ (q : List ℕ) (es : List (Stand × Row)) (rs now : List (List ℕ × List (Stand × Row))) (were : AreRacks spot next rs) (found : lookup (bytes_eq q) rs ≡ Some es) (named : IsDistinct bytes_eq (keys_of now)) where
    pub racks_less : (test : Stand → Bool) → now ≡ set_value (bytes_eq q) rs (remove_entry test es) → IsDistinct (eq_by_cmp stand_cmp) (keys_of (remove_entry test es)) → AreRacks spot next now
    racks_less test is apart = record {
      each = subst (AllByRecursion (IsRack spot next)) (sym is) (all_set q es (remove_entry test es) (IsRack spot next) (λ n b k. record { stand = all_removed (Stands spot next n) test es k.stand; apart = apart }) rs found were.each);
      named = named;
    }

    pub racks_held : (test : Stand → Bool) (by : Option Holder) (row : Row) → lookup test es ≡ Some row → now ≡ set_value (bytes_eq q) rs (set_value test es (record row { by = by })) → AreRacks spot next now
    racks_held test by row there is = record {
      each = subst (AllByRecursion (IsRack spot next)) (sym is) (all_set q es (set_value test es (record row { by = by })) (IsRack spot next)
          (λ n b k. record { stand = all_tagged n test by row es there k.stand; apart = subst (IsDistinct (eq_by_cmp stand_cmp)) (sym (keys-set_value test es (record row { by = by }))) k.apart }) rs found were.each);
      named = named;
    }

-- a queue takes the place of the one of its name
pub all_named : (P : List ℕ × List (Stand × Row) → Type 0) (q : List ℕ) (new : List (Stand × Row)) → P (q, new) → (rs : List (List ℕ × List (Stand × Row))) → AllByRecursion P rs → AllByRecursion P (named_entry bytes_eq rs q new)
all_named P q new given [] all = (given, tt)
all_named P q new given (r ∷ rs) all = by (all_named P q new given rs all.1) (bytes_eq q r.0) refl
  where
    by : AllByRecursion P (named_entry bytes_eq rs q new) → (b : Bool) → bytes_eq q r.0 ≡ b → AllByRecursion P (if b then (r.0, new) ∷ rs else r ∷ named_entry bytes_eq rs q new)
    by rest true f = (subst (λ (n : List ℕ). P (n, new)) (name_is q r.0 f) given, all.1)
    by rest false f = (all.0, rest)

empty_apart : IsDistinct (eq_by_cmp stand_cmp) []
unfolding IsDistinct
empty_apart = tt

-- no queue
names_none : IsDistinct bytes_eq []
unfolding IsDistinct
names_none = tt

pub racks_none : (spot : Ident → Option Spot) (now : List (List ℕ × List (Stand × Row))) → now ≡ [] → AreRacks spot 0 now
racks_none spot now none = subst (AreRacks spot 0) (sym none) (record { each = tt; named = names_none })

-- a queue without rows takes the place of the one of its name
pub racks_empty : (spot : Ident → Option Spot) (next : ℕ) (q : List ℕ) (new : List (Stand × Row)) → new ≡ [] → (rs now : List (List ℕ × List (Stand × Row))) → AreRacks spot next rs → IsDistinct bytes_eq (keys_of now) → now ≡ named_entry bytes_eq rs q new → AreRacks spot next now
racks_empty spot next q new none rs now were named is = record {
  each = subst (AllByRecursion (IsRack spot next)) (sym is) (all_named (IsRack spot next) q new (subst (λ (es : List (Stand × Row)). IsRack spot next (q, es)) (sym none) (record { stand = tt; apart = empty_apart })) rs were.each);
  named = named;
}

-- a queue goes
pub racks_fewer : (spot : Ident → Option Spot) (next : ℕ) (q : List ℕ) (rs now : List (List ℕ × List (Stand × Row))) → AreRacks spot next rs → IsDistinct bytes_eq (keys_of now) → now ≡ remove_entry (bytes_eq q) rs → AreRacks spot next now
racks_fewer spot next q rs now were named is = record {
  each = subst (AllByRecursion (IsRack spot next)) (sym is) (all_removed (IsRack spot next) (bytes_eq q) rs were.each);
  named = named;
}

others_stay : (q : List ℕ) (rs : List (List ℕ × List (Stand × Row))) → AllByRecursion (λ (n : List ℕ). bytes_eq q n ≡ false) (keys_of rs) → shelves_of rs ≡ filter (λ (s : Shelf). not (bytes_eq q s.name)) (shelves_of rs)
others_stay q [] others = refl
others_stay q (r ∷ rs) others =
    ap (λ (ss : List Shelf). shelf_of r ∷ ss) (others_stay q rs others.1)
    ∙ (λ j. if not (sym others.0 j) then shelf_of r ∷ filter (λ (s : Shelf). not (bytes_eq q s.name)) (shelves_of rs) else filter (λ (s : Shelf). not (bytes_eq q s.name)) (shelves_of rs))

pub queue_gone : (q : List ℕ) (rs : List (List ℕ × List (Stand × Row))) → IsDistinct bytes_eq (keys_of rs) → shelves_of (remove_entry (bytes_eq q) rs) ≡ filter (λ (s : Shelf). not (bytes_eq q s.name)) (shelves_of rs)
queue_gone q [] named = refl
queue_gone q (r ∷ rs) named = by (queue_gone q rs (IsDistinct-tail bytes_eq r.0 (keys_of rs) named)) (bytes_eq q r.0) refl
  where
    by : shelves_of (remove_entry (bytes_eq q) rs) ≡ filter (λ (s : Shelf). not (bytes_eq q s.name)) (shelves_of rs) → (b : Bool) → bytes_eq q r.0 ≡ b
        → shelves_of (remove_entry (bytes_eq q) (r ∷ rs)) ≡ filter (λ (s : Shelf). not (bytes_eq q s.name)) (shelves_of (r ∷ rs))
    by rest true f =
        (λ j. shelves_of (cond (f j) rs (r ∷ remove_entry (bytes_eq q) rs)))
        ∙ others_stay q rs (subst (λ (x : List ℕ). AllByRecursion (λ (n : List ℕ). bytes_eq x n ≡ false) (keys_of rs)) (sym (name_is q r.0 f)) (IsDistinct-head bytes_eq r.0 (keys_of rs) named))
        ∙ (λ j. if not (sym f j) then shelf_of r ∷ filter (λ (s : Shelf). not (bytes_eq q s.name)) (shelves_of rs) else filter (λ (s : Shelf). not (bytes_eq q s.name)) (shelves_of rs))
    by rest false f =
        (λ j. shelves_of (cond (f j) rs (r ∷ remove_entry (bytes_eq q) rs)))
        ∙ ap (λ (ss : List Shelf). shelf_of r ∷ ss) rest
        ∙ (λ j. if not (sym f j) then shelf_of r ∷ filter (λ (s : Shelf). not (bytes_eq q s.name)) (shelves_of rs) else filter (λ (s : Shelf). not (bytes_eq q s.name)) (shelves_of rs))

-- ---- a row comes

module _ (spot : Ident → Option Spot) (next : ℕ) where
  -- the notes of other idents stay
  pub racks_same : (now : Ident → Option Spot) → ((other : Ident) → now other ≡ spot other) → (rs : List (List ℕ × List (Stand × Row))) → AreRacks spot next rs → AreRacks now next rs
  racks_same now same rs were = record {
    each = all_each (λ r k. record { stand = all_each (λ e s. record { noted = same e.1.message.ident ∙ s.noted; lane = s.lane; came = s.came }) r.1 k.stand; apart = k.apart }) rs were.each;
    named = were.named;
  }

  module _ (now : Ident → Option Spot) (ident : Ident) (sp : Spot) (noted : (other : Ident) → now other ≡ (if same_ident ident other then Some sp else spot other)) (more : ℕ) (greater : next ≤ more) where
    row_noted : (name : List ℕ) (e : Stand × Row) → has_ident ident e.1 ≡ false → Stands spot next name e → Stands now more name e
    row_noted name e lacks s = record {
      noted = noted e.1.message.ident ∙ ap (λ (b : Bool). if b then Some sp else spot e.1.message.ident) (same_turned ident e.1.message.ident ∙ lacks) ∙ s.noted;
      lane = s.lane;
      came = omega (arith, s.came, greater);
    }

    rows_noted : (name : List ℕ) (es : List (Stand × Row)) → list_any (λ (row : Row). true && has_ident ident row) (rows_of es) ≡ false → AllByRecursion (Stands spot next name) es → AllByRecursion (Stands now more name) es
    rows_noted name [] lacks all = tt
    rows_noted name (e ∷ es) lacks all =
        let parts = neither (has_ident ident e.1) (list_any (λ (row : Row). true && has_ident ident row) (rows_of es)) lacks in
        (row_noted name e parts.0 all.0, rows_noted name es parts.1 all.1)

    each_noted : (rs : List (List ℕ × List (Stand × Row))) → any_row (λ n row. true) ident (shelves_of rs) ≡ false → AllByRecursion (IsRack spot next) rs → AllByRecursion (IsRack now more) rs
    each_noted [] lacks all = tt
    each_noted (r ∷ rs) lacks all =
        let parts = neither (list_any (λ (row : Row). true && has_ident ident row) (rows_of r.1)) (any_row (λ n row. true) ident (shelves_of rs)) lacks in
        (record { stand = rows_noted r.0 r.1 parts.0 all.0.stand; apart = all.0.apart }, each_noted rs parts.1 all.1)

    pub racks_noted : (rs : List (List ℕ × List (Stand × Row))) → any_row (λ n row. true) ident (shelves_of rs) ≡ false → AreRacks spot next rs → AreRacks now more rs
    racks_noted rs lacks were = record { each = each_noted rs lacks were.each; named = were.named }

  -- the rows of a queue that may not be there
  pub rows_there : (q : List ℕ) (rs : List (List ℕ × List (Stand × Row))) → AllByRecursion (IsRack spot next) rs → AllByRecursion (Stands spot next q) (or_nothing (lookup (bytes_eq q) rs))
  rows_there q [] all = tt
  rows_there q (r ∷ rs) all = by (rows_there q rs all.1) (bytes_eq q r.0) refl
    where
      by : AllByRecursion (Stands spot next q) (or_nothing (lookup (bytes_eq q) rs)) → (b : Bool) → bytes_eq q r.0 ≡ b → AllByRecursion (Stands spot next q) (or_nothing (cond b (Some r.1) (lookup (bytes_eq q) rs)))
      by rest true f = subst (λ (n : List ℕ). AllByRecursion (Stands spot next n) r.1) (sym (name_is q r.0 f)) all.0.stand
      by rest false f = rest

-- a row comes in among those of a queue
all_come : (P : Stand × Row → Type 0) (k : Stand) (x : Row) → P (k, x) → (es : List (Stand × Row)) → AllByRecursion P es → AllByRecursion P (insert_entry stand_cmp es k x)
all_come P k x given [] all = (given, tt)
all_come P k x given (e ∷ es) all = by (all_come P k x given es all.1) (stand_cmp k e.0) refl
  where
    by : AllByRecursion P (insert_entry stand_cmp es k x) → (o : Ordering) → stand_cmp k e.0 ≡ o → AllByRecursion P (match_ordering o ((k, x) ∷ e ∷ es) ((e.0, x) ∷ es) (e ∷ insert_entry stand_cmp es k x))
    by rest Less f = (given, all)
    by rest Equal f = (subst (λ (l : Stand). P (l, x)) (place_is k e.0 (ap is_eq f)) given, all.1)
    by rest Greater f = (all.0, rest)

module _ (spot : Ident → Option Spot) (next : ℕ) (q : List ℕ) (k : Stand) (row : Row) (given : Stands spot next q (k, row)) (rs now : List (List ℕ × List (Stand × Row))) (named : IsDistinct bytes_eq (keys_of now))
    (is : now ≡ named_entry bytes_eq rs q (insert_entry stand_cmp (or_nothing (lookup (bytes_eq q) rs)) k row)) (apart : IsDistinct (eq_by_cmp stand_cmp) (keys_of (insert_entry stand_cmp (or_nothing (lookup (bytes_eq q) rs)) k row))) where
  pub racks_more : AreRacks spot next rs → AreRacks spot next now
  racks_more were = record {
    each = subst (AllByRecursion (IsRack spot next)) (sym is) (all_named (IsRack spot next) q (insert_entry stand_cmp (or_nothing (lookup (bytes_eq q) rs)) k row)
        (record { stand = all_come (Stands spot next q) k row given (or_nothing (lookup (bytes_eq q) rs)) (rows_there spot next q rs were.each); apart = apart }) rs were.each);
    named = named;
  }

-- the entries are the same
pub racks_as : (spot : Ident → Option Spot) (next : ℕ) (rs now : List (List ℕ × List (Stand × Row))) → AreRacks spot next rs → now ≡ rs → AreRacks spot next now
racks_as spot next rs now were is = subst (AreRacks spot next) (sym is) were

pub new_stands : (now spot : Ident → Option Spot) (next more lane : ℕ) (q : List ℕ) (m : Message)
    → ((other : Ident) → now other ≡ (if same_ident m.ident other then Some (record { queue = q; stand = record { lane = lane; arrival = next } }) else spot other)) → next < more
    → Stands now more q (record { lane = lane; arrival = next }, new_row lane 0 (uncounted_message m))
new_stands now spot next more lane q m noted less = record {
  noted = noted m.ident ∙ ap (λ (b : Bool). if b then Some (record { queue = q; stand = record { lane = lane; arrival = next } }) else spot m.ident) (same_self m.ident);
  lane = refl;
  came = less;
}

-- a message took the last place of its lane
pub message_put : (spot : Ident → Option Spot) (next lane : ℕ) (q : List ℕ) (m : Message) (rs now : List (List ℕ × List (Stand × Row))) → AllByRecursion (IsRack spot next) rs
    → now ≡ named_entry bytes_eq rs q (insert_entry stand_cmp (or_nothing (lookup (bytes_eq q) rs)) (record { lane = lane; arrival = next }) (new_row lane 0 (uncounted_message m)))
    → shelves_of now ≡ set_shelf (shelved_in lane m (shelf_in q (shelves_of rs))) (shelves_of rs)
message_put spot next lane q m rs now each is =
    let old = or_nothing (lookup (bytes_eq q) rs) in
    ap shelves_of is ∙ queue_set q (insert_entry stand_cmp old (record { lane = lane; arrival = next }) (new_row lane 0 (uncounted_message m))) rs
    ∙ ap (λ (rows : List Row). set_shelf (rows_shelf q rows) (shelves_of rs)) (sym (row_come spot next lane q (new_row lane 0 (uncounted_message m)) refl old (rows_there spot next q rs each)))
    ∙ ap (λ (s : Shelf). set_shelf (shelved_in lane m s) (shelves_of rs)) (sym (shelf_there q rs))
