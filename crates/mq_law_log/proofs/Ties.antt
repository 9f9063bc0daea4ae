-- The image of the log's bodies is what lasts, and each part keeps it so.
use Rattle.std.proofs.Common.{ℕ, zero, suc, refl, ◌≡◌, Bool, true, List, [], ◌∷◌, ap, sym, ◌∙◌, arith}
use Rattle.std.specs.Prelude.{Option, Some, None, Ok, is_some, ◌++◌, ◌&&◌, ◌==◌}
use Rattle.std.specs.List.{list_all}
use Rattle.std.proofs.lemmas.Bool.Decides.{nat_tests}
use Rattle.mq_calls.specs.declared.records.LogRecord.{LogRecord}
use Rattle.mq_calls.specs.State.{Plain, Noted}
use Rattle.mq_calls.specs.Steps.{Part, do_part, IsWrite}
use Rattle.mq_spec_manager.specs.Stops.{redone_if}
use Rattle.mq_calls.specs.Images.{lasting}
use Rattle.mq_calls.specs.declared.image.Image.{Image}
use Rattle.mq_spec_log.specs.Records.{doing}
use Rattle.mq_spec_log.specs.Applies.{Start, applies, was_given, idents_in, is_in_bounds}
use Rattle.mq_spec_log.specs.Bodies.{record_of, image}
use Rattle.mq_spec_log.proofs.BodyLaws.{image_more}
use Rattle.mq_law_log.specs.Keeps.{Told, Keeps}
use Rattle.mq_law_log.specs.Restarts.{IsHarmless, IsGivenIn, AllHarmless, Recovers, raised, restarted, next_started}
use Rattle.mq_law_log.proofs.Stops.{restart_recovers, raised_is}
use Rattle.mq_law_log.proofs.Rows.{name_self}

abbrev record_or : LogRecord → Option LogRecord → LogRecord
record_or r None = r
record_or r (Some x) = x

-- what is told of a forced record
pub told : (f : Option LogRecord) (r : LogRecord) (p : Plain) (new : Image) → f ≡ Some r → Told f p new → new ≡ doing r (lasting p)
told None r p new e h = absurd cc
told (Some x) r p new e h = h.1 ∙ ap (λ (y : LogRecord). doing y (lasting p)) (ap (record_or r) e)

pub part_tied : (start : Start) (first : List ℕ) (bodies : List (List ℕ)) (next : List ℕ) (r : LogRecord) (part : Part) (p : Plain) → image p.given start (first ∷ bodies) ≡ Ok (lasting p) → part.forced ≡ Some r
    → record_of next ≡ Some r → applies p.given start r (lasting p) ≡ true → Keeps part p → image p.given start (first ∷ bodies ++ next ∷ []) ≡ Ok (lasting (do_part part p))
part_tied start first bodies next r part p is forced read a k = image_more p.given start first bodies next r (lasting p) is read a ∙ ap (λ (i : Image). Ok i) (sym (told part.forced r p (lasting (do_part part p)) forced k))

-- a restart, whichever image it finds
pub restart_tied : (start : Start) (first : List ℕ) (bodies : List (List ℕ)) (next : List ℕ) (kept : Bool) (started : ℕ) (noted : Option Noted) (p : Plain)
    → image (redone_if kept noted p).given start (first ∷ bodies) ≡ Ok (lasting (redone_if kept noted p)) → record_of next ≡ Some (next_started started (redone_if kept noted p))
    → applies (redone_if kept noted p).given start (next_started started (redone_if kept noted p)) (lasting (redone_if kept noted p)) ≡ true
    → image (redone_if kept noted p).given start (first ∷ bodies ++ next ∷ []) ≡ Ok (lasting (restarted kept started noted p))
restart_tied start first bodies next kept started noted p is read a =
    let q : Plain = redone_if kept noted p in
    image_more q.given start first bodies next (next_started started q) (lasting q) is read a
    ∙ ap (λ (i : Image). Ok i) (sym (restart_recovers kept started noted p ∙ raised_is started q))

-- what is written in a sound manager applies, within the bounds of numbers
given_at : (f : Option LogRecord) (r : LogRecord) (p : Plain) → f ≡ Some r → IsGivenIn f p → list_all (was_given p.given (lasting p)) (idents_in r) ≡ true
given_at None r p e h = absurd cc
given_at (Some x) r p e h = ap (λ (y : LogRecord). list_all (was_given p.given (lasting p)) (idents_in y)) (sym (ap (record_or r) e)) ∙ h

pub written_tied : (start : Start) (first : List ℕ) (bodies : List (List ℕ)) (next : List ℕ) (r : LogRecord) (part : Part) (p : Plain) → image p.given start (first ∷ bodies) ≡ Ok (lasting p) → part.forced ≡ Some r
    → record_of next ≡ Some r → is_in_bounds start r ≡ true → IsHarmless part p → IsGivenIn part.forced p → image p.given start (first ∷ bodies ++ next ∷ []) ≡ Ok (lasting (do_part part p))
written_tied start first bodies next r part p is forced read bounds h g =
    let suit = (h.found r 0 0 forced).0 in
    let given = given_at part.forced r p forced g in
    part_tied start first bodies next r part p is forced read (λ i. suit i && given i && bounds i) h.keeps

-- and so does a Started record
same_number : (m : ℕ) → (m == m) ≡ true
same_number m = grind (arith, nat_tests)

pub started_tied : (start : Start) (first : List ℕ) (bodies : List (List ℕ)) (next : List ℕ) (kept : Bool) (started : ℕ) (noted : Option Noted) (p : Plain)
    → image (redone_if kept noted p).given start (first ∷ bodies) ≡ Ok (lasting (redone_if kept noted p)) → record_of next ≡ Some (next_started started (redone_if kept noted p))
    → is_in_bounds start (next_started started (redone_if kept noted p)) ≡ true → image (redone_if kept noted p).given start (first ∷ bodies ++ next ∷ []) ≡ Ok (lasting (restarted kept started noted p))
started_tied start first bodies next kept started noted p is read bounds =
    let g = (redone_if kept noted p).given in
    let number = same_number g.number in
    let name = name_self g.name in
    restart_tied start first bodies next kept started noted p is read (λ i. (number i && name i) && true && bounds i)

-- A call that is stopped in one of its writes

pub some_of : (f : Option LogRecord) → is_some f ≡ true → (r : LogRecord) × (f ≡ Some r)
some_of None e = absurd cc
some_of (Some r) e = (r, refl)

pub call_recovers : (n : ℕ) (parts : List Part) (left started : ℕ) (p : Plain) → IsWrite n parts → AllHarmless parts p → Recovers n parts left started p
call_recovers n [] left started p w h = absurd w
call_recovers zero (part ∷ parts) left started p w h =
    let r = some_of part.forced w in
    record { lost = h.0.lost left started; found = (h.0.found r.0 left started r.1).1 ∙ ap (raised started) (sym (told part.forced r.0 p (lasting (do_part part p)) r.1 h.0.keeps)) }
call_recovers (suc n) (part ∷ parts) left started p w h = let k = call_recovers n parts left started (do_part part p) w h.2 in record { lost = k.lost; found = k.found }
