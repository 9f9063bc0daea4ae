-- The walk of a handler over the free rows of its queue, and what is so of the dead letter that it takes.
use Rattle.std.proofs.Common.{◌≡◌, ℕ, ◌<◌, refl, sym, ap, subst, ◌∙◌, List, [], ◌∷◌, length, Bool, true, false, cond, inl, inr, arith}
use Rattle.std.specs.Prelude.{Option, Some, None, find, ◌&&◌, not, codes, option_map}
use Rattle.std.specs.Str.{bytes_eq}
use Rattle.mq_message.specs.declared.message.Message.{Message}
use Rattle.mq_message.specs.declared.place.Place.{Place}
use Rattle.mq_queue.specs.declared.row.Row.{Row}
use Rattle.mq_queue.specs.Rows.{has_ident, is_free, same_ident}
use Rattle.mq_queue.specs.Queues.{AreInOrder}
use Rattle.mq_place.specs.States.{rows_after, is_free_after}
use Rattle.mq_place.proofs.AfterLaws.{behind, find_after, free_is_after, next_after, rows_from_front, shorter}
use Rattle.mq_objects.specs.declared.object.LocalQueue.{LocalQueue}
use Rattle.mq_objects.specs.Names.{is_transmission, local_of}
use Rattle.mq_calls.specs.Words.{Plain, stored, is_up}
use Rattle.mq_spec_manager.specs.Words.{is_dead}
use Rattle.mq_spec_manager.specs.Agents.{CanMove, IsUp, is_ordinary, next_row}
use Rattle.mq_spec_node.specs.Words.{Handler, input_queue, is_readable, is_due, is_handled, is_letter, next_letter, tries_of}
use Rattle.mq_law_manager.specs.Facts.{Differ, IsSound, Mem, ident_of}
use Rattle.mq_law_manager.proofs.Lists.{bool_case, same_self, ident_yes}
use Rattle.mq_law_manager.proofs.Steps.{free_is}
use Rattle.mq_events.specs.from_manager.Facts.{IsWell}
use Rattle.mq_moves.specs.from_agents.Ends.{place_and_message}
use Rattle.mq_handle.specs.declared.finding.DueLetter.{DueLetter}
use Rattle.mq_handle.specs.Letters.{takes, letter_of, letter_at, letter_on, letter_up, letter_by}

both_first : (a b : Bool) → (a && b) ≡ true → a ≡ true
both_first true b e = refl
both_first false b e = absurd cc

both_last : (a b : Bool) → (a && b) ≡ true → b ≡ true
both_last true b e = e
both_last false b e = absurd cc

-- A walk over free rows that looks for one that passes a test which only free rows pass.
step : (test : Row → Bool) (x row : Row) (xs : List Row) (b : Bool) → is_free x ≡ b → (test x ≡ true → is_free x ≡ true) → cond b (Some x) (find is_free xs) ≡ Some row
    → (find is_free xs ≡ Some row → find test xs ≡ cond (test row) (Some row) (find test (behind is_free xs))) → cond (test x) (Some x) (find test xs) ≡ cond (test row) (Some row) (find test (cond b xs (behind is_free xs)))
step test x row xs true f sub e rest = let is : x ≡ row = grind (arith, e) in ap (λ (r : Row). cond (test r) (Some r) (find test xs)) is
step test x row xs false f sub e rest = ap (λ (b : Bool). cond b (Some x) (find test xs)) (fails (test x) refl) ∙ rest e
  where
    fails : (b : Bool) → test x ≡ b → test x ≡ false
    fails true t = absurd (differ (sym (sub t) ∙ f))
      where
        differ : true ≡ false → ⊥
        differ h = absurd cc
    fails false t = t

first_free : (test : Row → Bool) → ((r : Row) → test r ≡ true → is_free r ≡ true) → (rows : List Row) (row : Row) → find is_free rows ≡ Some row → find test rows ≡ cond (test row) (Some row) (find test (behind is_free rows))
first_free test sub [] row e = absurd cc
first_free test sub (x ∷ xs) row e = step test x row xs (is_free x) refl (sub x) e (first_free test sub xs row)

none_step : (test : Row → Bool) (x : Row) (xs : List Row) (b : Bool) → is_free x ≡ b → (test x ≡ true → is_free x ≡ true) → cond b (Some x) (find is_free xs) ≡ None → (find is_free xs ≡ None → find test xs ≡ None) → cond (test x) (Some x) (find test xs) ≡ None
none_step test x xs true f sub e rest = absurd cc
none_step test x xs false f sub e rest = ap (λ (b : Bool). cond b (Some x) (find test xs)) (fails (test x) refl) ∙ rest e
  where
    fails : (b : Bool) → test x ≡ b → test x ≡ false
    fails true t = absurd (differ (sym (sub t) ∙ f))
      where
        differ : true ≡ false → ⊥
        differ h = absurd cc
    fails false t = t

none_free : (test : Row → Bool) → ((r : Row) → test r ≡ true → is_free r ≡ true) → (rows : List Row) → find is_free rows ≡ None → find test rows ≡ None
none_free test sub [] e = refl
none_free test sub (x ∷ xs) e = none_step test x xs (is_free x) refl (sub x) e (none_free test sub xs)

-- what was found, as the manager tells it
pair_is : (a b : Place × Message) → Some a ≡ Some b → a ≡ b
pair_is a b e = cc

some_row : (o : Option Row) (place : Place) (m : Message) → Some (place, m) ≡ option_map place_and_message o → (row : Row) × (o ≡ Some row) × (row.place ≡ place) × (row.message ≡ m)
some_row None place m e = absurd cc
some_row (Some row) place m e =
    let is : (place, m) ≡ (row.place, row.message) = pair_is (place, m) (row.place, row.message) e in
    (row, refl, sym (ap (λ (x : Place × Message). x.0) is), sym (ap (λ (x : Place × Message). x.1) is))

no_row : (o : Option Row) → None ≡ option_map place_and_message o → o ≡ None
no_row None e = refl
no_row (Some row) e = absurd cc

module _ (q : List ℕ) (h : Handler) (p : Plain) where
  only_free : (r : Row) → is_handled q h p r ≡ true → is_free r ≡ true
  only_free r e =
      let letter : is_letter r ≡ true = both_first (is_letter r) (is_due p.moment (tries_of q r.message.ident h)) e in
      both_first (is_free r) (bytes_eq r.message.md.format (codes "MQDEAD  ")) (both_first (is_free r && bytes_eq r.message.md.format (codes "MQDEAD  ")) (is_dead r.message.body) letter)

  takes_is : (r : Row) → is_free r ≡ true → is_handled q h p r ≡ takes q h p.moment r.message
  takes_is r e = ap (λ (b : Bool). ((b && bytes_eq r.message.md.format (codes "MQDEAD  ")) && is_dead r.message.body) && is_due p.moment (tries_of q r.message.ident h)) e

  abbrev rows : List Row
  rows = (stored q p).rows

  abbrev pub left : Option Place → Option Row
  left after = find (is_handled q h p) (rows_after after (stored q p).rows)

  free_here : (after : Option Place) (row : Row) → next_row q after p ≡ Some row → find is_free (rows_after after rows) ≡ Some row
  free_here after row e = sym (find_after (is_free_after after) is_free after (free_is_after after) rows) ∙ e

  free_step : (x row : Row) (xs : List Row) (b : Bool) → is_free x ≡ b → cond b (Some x) (find is_free xs) ≡ Some row → (find is_free xs ≡ Some row → is_free row ≡ true) → is_free row ≡ true
  free_step x row xs true f k rest = let is : x ≡ row = grind (arith, k) in ap is_free (sym is) ∙ f
  free_step x row xs false f k rest = rest k

  is_free_here : (xs : List Row) (row : Row) → find is_free xs ≡ Some row → is_free row ≡ true
  is_free_here [] row e = absurd cc
  is_free_here (x ∷ xs) row e = free_step x row xs (is_free x) refl e (is_free_here xs row)

  pub walk_start : left None ≡ next_letter q h p
  walk_start = ap (find (is_handled q h p)) (rows_from_front rows)

  pub walk_here : (after : Option Place) (place : Place) (m : Message) → Some (place, m) ≡ option_map place_and_message (next_row q after p) → takes q h p.moment m ≡ true → left after ≡ next_letter q h p
      → Some m ≡ option_map (λ (row : Row). row.message) (next_letter q h p)
  walk_here after place m e t inv =
      let it = some_row (next_row q after p) place m e in
      let found = free_here after it.0 it.1 in
      let tests : is_handled q h p it.0 ≡ true = takes_is it.0 (is_free_here (rows_after after rows) it.0 found) ∙ ap (takes q h p.moment) it.3 ∙ t in
      let here : left after ≡ Some it.0 = first_free (is_handled q h p) only_free (rows_after after rows) it.0 found ∙ ap (λ (b : Bool). cond b (Some it.0) (find (is_handled q h p) (behind is_free (rows_after after rows)))) tests in
      sym (ap (option_map (λ (row : Row). row.message)) (sym inv ∙ here) ∙ ap (λ (x : Message). Some x) it.3)

  pub walk_next : (after : Option Place) (place : Place) (m : Message) → AreInOrder rows → Some (place, m) ≡ option_map place_and_message (next_row q after p) → takes q h p.moment m ≡ false → left after ≡ next_letter q h p
      → left (Some place) ≡ next_letter q h p
  walk_next after place m order e t inv =
      let it = some_row (next_row q after p) place m e in
      let found = free_here after it.0 it.1 in
      let fails : is_handled q h p it.0 ≡ false = takes_is it.0 (is_free_here (rows_after after rows) it.0 found) ∙ ap (takes q h p.moment) it.3 ∙ t in
      let on : left after ≡ find (is_handled q h p) (behind is_free (rows_after after rows)) =
      first_free (is_handled q h p) only_free (rows_after after rows) it.0 found ∙ ap (λ (b : Bool). cond b (Some it.0) (find (is_handled q h p) (behind is_free (rows_after after rows)))) fails
      in
      ap (λ (x : Place). left (Some x)) (sym it.2) ∙ ap (find (is_handled q h p)) (next_after is_free after rows it.0 order found) ∙ sym on ∙ inv

  pub walk_fewer : (after : Option Place) (place : Place) (m : Message) → AreInOrder rows → Some (place, m) ≡ option_map place_and_message (next_row q after p) → length (rows_after (Some place) (stored q p).rows) < length (rows_after after (stored q p).rows)
  walk_fewer after place m order e =
      let it = some_row (next_row q after p) place m e in
      let found = free_here after it.0 it.1 in
      let same : length (rows_after (Some place) rows) ≡ length (behind is_free (rows_after after rows)) = ap (λ (x : Place). length (rows_after (Some x) rows)) (sym it.2) ∙ ap length (next_after is_free after rows it.0 order found) in
      let fewer = shorter is_free (rows_after after rows) it.0 found in
      omega (arith, same, fewer)

  pub walk_none : (after : Option Place) → None ≡ option_map place_and_message (next_row q after p) → left after ≡ next_letter q h p → None ≡ option_map (λ (row : Row). row.message) (next_letter q h p)
  walk_none after e inv =
      let none : find is_free (rows_after after rows) ≡ None = sym (find_after (is_free_after after) is_free after (free_is_after after) rows) ∙ no_row (next_row q after p) e in
      sym (ap (option_map (λ (row : Row). row.message)) (sym inv ∙ none_free (is_handled q h p) only_free (rows_after after rows) none))

-- The row of a dead letter can go, or be removed.
found_in : (test : Row → Bool) (rows : List Row) (x : Row) → find test rows ≡ Some x → Mem x rows × (test x ≡ true)
found_in test [] x e = absurd cc
found_in test (r ∷ rows) x e = bool_case (test r) (λ t. test r ≡ t → cond t (Some r) (find test rows) ≡ Some x → Mem x (r ∷ rows) × (test x ≡ true))
    (λ z w f. let is : r ≡ x = cc in (inl (sym is), ap test (sym is) ∙ w)) (λ z w f. let k = found_in test rows x f in (inr k.0, k.1)) refl e

found_one : (rows : List Row) (x : Row) → Differ ident_of rows → Mem x rows → find (has_ident x.message.ident) rows ≡ Some x
found_one [] x d n = absurd n
found_one (r ∷ rows) x d (inl e) = ap (λ t. cond t (Some r) (find (has_ident x.message.ident) rows)) (ap (λ (y : Row). same_ident y.message.ident x.message.ident) (sym e) ∙ same_self x.message.ident) ∙ ap (λ y. Some y) (sym e)
found_one (r ∷ rows) x d (inr n) = bool_case (same_ident r.message.ident x.message.ident) (λ t. same_ident r.message.ident x.message.ident ≡ t → cond t (Some r) (find (has_ident x.message.ident) rows) ≡ Some x)
    (λ z w. absurd (d.0 x n (ident_yes r.message.ident x.message.ident w))) (λ z w. found_one rows x d.1 n) refl

ordinary_of : (o : Option LocalQueue) → is_readable o ≡ true → is_ordinary o ≡ true
ordinary_of None e = absurd cc
ordinary_of (Some q) e = both_last q.get_enabled (not (is_transmission q.usage)) e

letter_moves : (q : List ℕ) (h : Handler) (p : Plain) (x : Row) (bare : Bool) → IsSound p → is_readable (local_of q p.definitions) ≡ true → next_letter q h p ≡ Some x → CanMove q x.message.ident bare p
letter_moves q h p x bare sound readable e =
    let k = found_in (is_handled q h p) (stored q p).rows x e in
    let letter : is_letter x ≡ true = both_first (is_letter x) (is_due p.moment (tries_of q x.message.ident h)) k.1 in
    let first = both_first (is_free x && bytes_eq x.message.md.format (codes "MQDEAD  ")) (is_dead x.message.body) letter in
    record {
      free = record { row = x; ordinary = ordinary_of (local_of q p.definitions) readable; found = found_one (stored q p).rows x (sound.facts.apart.once q) k.0; free = free_is x (both_first (is_free x) (bytes_eq x.message.md.format (codes "MQDEAD  ")) first) };
      dead = λ z. both_last (is_free x && bytes_eq x.message.md.format (codes "MQDEAD  ")) (is_dead x.message.body) letter;
    }

some_message : (o : Option Row) (m : Message) → Some m ≡ option_map (λ (row : Row). row.message) o → (row : Row) × (o ≡ Some row) × (row.message ≡ m)
some_message None m e = absurd cc
some_message (Some row) m e = (row, refl, sym (message_is m row.message e))
  where
    message_is : (a b : Message) → Some a ≡ Some b → a ≡ b
    message_is a b e = cc

pub letter_dead : (q : List ℕ) (h : Handler) (p : Plain) (m : Message) → Some m ≡ option_map (λ (row : Row). row.message) (next_letter q h p) → is_dead m.body ≡ true
letter_dead q h p m e =
    let it = some_message (next_letter q h p) m e in
    let k = found_in (is_handled q h p) (stored q p).rows it.0 it.1 in
    let letter : is_letter it.0 ≡ true = both_first (is_letter it.0) (is_due p.moment (tries_of q it.0.message.ident h)) k.1 in
    ap (λ (x : Message). is_dead x.body) (sym it.2) ∙ both_last (is_free it.0 && bytes_eq it.0.message.md.format (codes "MQDEAD  ")) (is_dead it.0.message.body) letter

letter_is : (a b : DueLetter) → Some a ≡ Some b → a ≡ b
letter_is a b e = cc

pub letter_can : (h : Handler) (p : Plain) (l : DueLetter) → IsWell p → letter_by h p ≡ Some l → IsUp p × ((bare : Bool) → CanMove l.queue l.ident bare p)
letter_can h p l well e = up (is_up p.running) refl e
  where
    at : IsUp p → is_readable (local_of (input_queue h.table p) p.definitions) ≡ true → (row : Option Row) → next_letter (input_queue h.table p) h p ≡ row → letter_at (input_queue h.table p) h row ≡ Some l → (bare : Bool) → CanMove l.queue l.ident bare p
    at is readable None r k bare = absurd cc
    at is readable (Some x) r k bare =
        let same : letter_of (input_queue h.table p) h x.message ≡ l = letter_is (letter_of (input_queue h.table p) h x.message) l k in
        subst (λ (y : DueLetter). CanMove y.queue y.ident bare p) same (letter_moves (input_queue h.table p) h p x bare (well.up is) readable r)

    on : IsUp p → (b : Bool) → is_readable (local_of (input_queue h.table p) p.definitions) ≡ b → letter_on b (input_queue h.table p) h p ≡ Some l → (bare : Bool) → CanMove l.queue l.ident bare p
    on is false r k bare = absurd cc
    on is true r k bare = at is r (next_letter (input_queue h.table p) h p) refl k bare

    up : (b : Bool) → is_up p.running ≡ b → letter_up b h p ≡ Some l → IsUp p × ((bare : Bool) → CanMove l.queue l.ident bare p)
    up false is k = absurd cc
    up true is k = (is, on is (is_readable (local_of (input_queue h.table p) p.definitions)) refl k)
