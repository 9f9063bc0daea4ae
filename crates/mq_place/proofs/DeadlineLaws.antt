-- The soonest deadline of a queue's rows, whatever is done to the rows.
use Rattle.std.proofs.Common.{◌≡◌, ℕ, Bool, true, false, cond, List, [], ◌∷◌, refl, ap, arith, sym, subst, ◌∙◌, length}
use Rattle.std.specs.Prelude.{Option, Some, None, nat_le, min}
use Rattle.std.proofs.lemmas.Bool.Decides.{nat_tests}
use Rattle.mq_message.specs.declared.message.Ident.{Ident}
use Rattle.mq_message.specs.declared.message.Message.{Message}
use Rattle.mq_message.specs.declared.place.Holder.{Holder}
use Rattle.mq_queue.specs.declared.row.Row.{Row}
use Rattle.mq_queue.specs.Rows.{insert_row, keep, retag, is_by_unit}
use Rattle.mq_queue.specs.Queues.{row_of, hold_row, release_row, unit_freed, freed, is_free_one, is_held_one}
use Rattle.mq_queue.proofs.QueueLaws.{all_insert, all_keep, all_retag}
use Rattle.mq_calls.specs.Reads.{is_past}
use Rattle.mq_place.specs.Deadlines.{is_later, AreLater, sooner, NonePast}

least_first : (s d e : ℕ) → nat_le s e ≡ true → nat_le (min s d) e ≡ true
least_first s d e h = grind (arith, nat_tests)

least_second : (s d : ℕ) → nat_le (min s d) d ≡ true
least_second s d = grind (arith, nat_tests)

sooner_kept : (s d e : Option ℕ) → is_later s e ≡ true → is_later (sooner s d) e ≡ true
sooner_kept s None e h = h
sooner_kept None (Some d) None h = refl
sooner_kept None (Some d) (Some e) h = absurd cc
sooner_kept (Some s) (Some d) None h = refl
sooner_kept (Some s) (Some d) (Some e) h = least_first s d e h

sooner_there : (s d : Option ℕ) → is_later (sooner s d) d ≡ true
sooner_there s None = refl
sooner_there None (Some d) = own d
  where
    own : (n : ℕ) → nat_le n n ≡ true
    own n = grind (arith, nat_tests)
sooner_there (Some s) (Some d) = least_second s d

all_sooner : (s d : Option ℕ) (rows : List Row) → AreLater s rows → AreLater (sooner s d) rows
all_sooner s d [] all = tt
all_sooner s d (row ∷ rows) all = (sooner_kept s d row.message.deadline all.0, all_sooner s d rows all.1)

-- a row more
pub later_placed : (by_priority : Bool) (n : ℕ) (message : Message) (s new : Option ℕ) (rows next : List Row) → new ≡ sooner s message.deadline → next ≡ insert_row (row_of by_priority message n) rows → AreLater s rows → AreLater new next
later_placed by_priority n message s new rows next is are all =
    subst (AreLater new) (sym are) (subst (λ (o : Option ℕ). AreLater o (insert_row (row_of by_priority message n) rows)) (sym is)
    (all_insert (λ (row : Row). is_later (sooner s message.deadline) row.message.deadline ≡ true) (row_of by_priority message n) rows (sooner_there s message.deadline) (all_sooner s message.deadline rows all)))

-- fewer rows
pub later_kept : (test : Row → Bool) (s : Option ℕ) (rows next : List Row) → next ≡ keep test rows → AreLater s rows → AreLater s next
later_kept test s rows next are all = subst (AreLater s) (sym are) (all_keep (λ (row : Row). is_later s row.message.deadline ≡ true) test rows all)

-- with other holders
pub later_retagged : (change : Row → Row) → ((row : Row) → (change row).message.deadline ≡ row.message.deadline) → (s : Option ℕ) (rows next : List Row) → next ≡ retag change rows → AreLater s rows → AreLater s next
later_retagged change same s rows next are all =
    subst (AreLater s) (sym are) (all_retag (λ (row : Row). is_later s row.message.deadline ≡ true) (λ (row : Row). is_later s row.message.deadline ≡ true) change (λ row h. ap (is_later s) (same row) ∙ h) rows all)

pub hold_dates : (ident : Ident) (by : Holder) (row : Row) → (hold_row ident by row).message.deadline ≡ row.message.deadline
hold_dates ident by row = at (is_free_one ident row)
  where
    at : (b : Bool) → (cond b (record row { by = Some by }) row).message.deadline ≡ row.message.deadline
    at true = refl
    at false = refl

freed_dates : (backed_out : Bool) (row : Row) → (freed backed_out row).message.deadline ≡ row.message.deadline
freed_dates true row = refl
freed_dates false row = refl

pub release_dates : (ident : Ident) (backed_out : Bool) (row : Row) → (release_row ident backed_out row).message.deadline ≡ row.message.deadline
release_dates ident backed_out row = at (is_held_one ident row)
  where
    at : (b : Bool) → (cond b (freed backed_out row) row).message.deadline ≡ row.message.deadline
    at true = freed_dates backed_out row
    at false = refl

pub unit_dates : (row : Row) → (unit_freed row).message.deadline ≡ row.message.deadline
unit_dates row = at (is_by_unit row.by)
  where
    at : (b : Bool) → (cond b (freed true row) row).message.deadline ≡ row.message.deadline
    at true = refl
    at false = refl

-- no row
pub later_none : (s : Option ℕ) (n : ℕ) (rows : List Row) → n ≡ length rows → n ≡ 0 → AreLater s rows
later_none s n [] is zero = tt
later_none s n (row ∷ rows) is zero = absurd (omega (arith, is, zero))

-- None has expired.

after : (moment soonest deadline : ℕ) → nat_le soonest moment ≡ false → nat_le soonest deadline ≡ true → nat_le deadline moment ≡ false
after moment soonest deadline h e = grind (arith, nat_tests)

none_dated : (moment : ℕ) (deadline : Option ℕ) → is_later None deadline ≡ true → is_past moment deadline ≡ false
none_dated moment None e = refl
none_dated moment (Some d) e = absurd cc

soon_dated : (moment soonest : ℕ) (deadline : Option ℕ) → nat_le soonest moment ≡ false → is_later (Some soonest) deadline ≡ true → is_past moment deadline ≡ false
soon_dated moment soonest None h e = refl
soon_dated moment soonest (Some d) h e = after moment soonest d h e

pub none_past : (moment : ℕ) (s : Option ℕ) (rows : List Row) → s ≡ None → AreLater s rows → NonePast moment rows
none_past moment s [] is all = tt
none_past moment s (row ∷ rows) is all = (none_dated moment row.message.deadline (ap (λ (o : Option ℕ). is_later o row.message.deadline) (sym is) ∙ all.0), none_past moment s rows is all.1)

pub none_soon : (moment soonest : ℕ) (s : Option ℕ) (rows : List Row) → s ≡ Some soonest → nat_le soonest moment ≡ false → AreLater s rows → NonePast moment rows
none_soon moment soonest s [] is h all = tt
none_soon moment soonest s (row ∷ rows) is h all = (soon_dated moment soonest row.message.deadline h (ap (λ (o : Option ℕ). is_later o row.message.deadline) (sym is) ∙ all.0), none_soon moment soonest s rows is h all.1)
