-- What the bodies of a log tell, behind stopped writes, stops and restarts.
use Rattle.std.proofs.Common.{ℕ, ◌≡◌, ◌+◌, ◌<◌, ◌^◌, Bool, true, false, List, [], ◌∷◌, ◌++◌, length, refl, ap, sym, subst, ◌∙◌, arith}
use Rattle.std.specs.Prelude.{Option, Some, None, Result, Ok, Err, if◌then◌else◌, ◌&&◌, ◌==◌, nat_lt, max}
use Rattle.std.specs.Str.{bytes_eq}
use Rattle.std.specs.List.{list_all}
use Rattle.std.proofs.lemmas.Bool.Decides.{nat_tests}
use Rattle.mq_base.specs.Name.{IsName}
use Rattle.mq_calls.specs.declared.records.LogRecord.{LogRecord}
use Rattle.mq_calls.specs.declared.records.LogRecord.TheVariants as records
use Rattle.mq_calls.specs.declared.commands.RestartFault.{RestartFault}
use Rattle.mq_calls.specs.declared.commands.RestartFault.TheVariants as faults
use Rattle.mq_law_log.specs.from_record.Records.{record_bytes}
use Rattle.mq_log.specs.Bodies.{frame}
use Rattle.mq_calls.specs.State.{Plain, Given, Noted, Running, LogState}
use Rattle.mq_calls.specs.State.Running.{Up}
use Rattle.mq_calls.specs.Changes.{apply_all}
use Rattle.mq_calls.specs.Images.{lasting, begun, raised}
use Rattle.mq_calls.specs.declared.image.Image.{Image}
use Rattle.mq_calls.specs.Steps.{Part, freeze, note_of, do_part, stands_in}
use Rattle.mq_law_log.specs.from_spec_manager.Stops.{failed, stop, stop_at, stop_changes, redone_if, restarted, next_started, started_record, grown}
use Rattle.mq_law_log.specs.from_spec_log.Applies.Start.{First, Later}
use Rattle.mq_law_log.specs.from_spec_log.Applies.{Start, applies, suits, was_given, idents_in, is_in_bounds}
use Rattle.mq_law_log.specs.from_spec_log.Records.{doing}
use Rattle.mq_law_log.specs.from_spec_log.Bodies.{record_of, behind, or_place, image_from, begins, image, empty_image}
use Rattle.mq_law_log.proofs.from_spec_log.BodyLaws.{image_more, record_back}
use Rattle.mq_law_log.proofs.from_law_manager.Lists.{bool_case}
use Rattle.mq_law_log.proofs.from_law_manager.Named.{name_self}
use Rattle.mq_law_log.proofs.from_law_manager.Untouched.{changes_untouched}
use Rattle.mq_law_log.specs.Restarts.{IsHarmless, IsGivenIn, gone}
use Rattle.mq_law_log.proofs.Stops.{frozen_lasts, rest_lasts, restart_recovers}
use Rattle.mq_law_log.proofs.Ties.{told, written_tied}
use Rattle.mq_law_image.specs.Tells.{Tells, TellsDown, later_by, over}
use Rattle.mq_law_image.proofs.Members.{both}

-- ---- what is given stays

pub redone_given : (kept : Bool) (noted : Option Noted) (p : Plain) → (redone_if kept noted p).given ≡ p.given
redone_given true (Some n) p = (changes_untouched n.changes (record p { log = stands_in n.written p.log })).given
redone_given true None p = refl
redone_given false noted p = refl

-- ---- incarnations

abbrev with_incarnation : Image → ℕ → Image
with_incarnation i n = record i { incarnation = n }

none_later : (n : ℕ) → n ≡ n + 0
none_later n = omega arith

one_later : (n k : ℕ) → max (n + k) (n + k + 1) ≡ n + (k + 1)
one_later n k = omega arith

one_raised : (n k : ℕ) → max (n + k) (n + k + 1) ≡ n + k + 1
one_raised n k = omega arith

raised_later : (n k : ℕ) → n + k + 0 + 1 ≡ n + k + 1
raised_later n k = omega arith

abbrev or_image : Image → Result Image ℕ → Image
or_image d (Ok i) = i
or_image d (Err place) = d

-- ---- a stopped write

pub lost_told : (start : Start) (bodies : List (List ℕ)) (noted : Option Noted) (left : ℕ) (p : Plain) → Tells start bodies p → TellsDown start false 0 noted bodies (freeze noted left p)
lost_told start bodies noted left p is running log moment = is ∙ ap (λ (i : Image). Ok i) (ap (with_incarnation (lasting p)) (none_later p.numbers.incarnation) ∙ ap (later_by 0) (sym (frozen_lasts noted left p)))

-- what is done at a restart that finds the write, whenever it comes
pub redone_at : (part : Part) (r : LogRecord) (f : Option LogRecord) (running : Running) (log : LogState) (moment left : ℕ) (p : Plain) → f ≡ Some r
    → redone_if true (note_of part f) (over running log moment (freeze (note_of part f) left p)) ≡ apply_all part.changes (gone running (stands_in r log) moment p)
redone_at part r None running log moment left p e = absurd cc
redone_at part r (Some x) running log moment left p e = let same : r ≡ x = cc in ap (λ (y : LogRecord). apply_all part.changes (gone running (stands_in y log) moment p)) (sym same)

pub found_told : (start : Start) (first : List ℕ) (bodies : List (List ℕ)) (next : List ℕ) (r : LogRecord) (part : Part) (left : ℕ) (p : Plain) → Tells start (first ∷ bodies) p → part.forced ≡ Some r
    → record_of next ≡ Some r → is_in_bounds start r ≡ true → IsHarmless part p → IsGivenIn part.forced p → TellsDown start true 0 (note_of part part.forced) (first ∷ bodies ++ next ∷ []) (freeze (note_of part part.forced) left p)
found_told start first bodies next r part left p is forced read bounds h g running log moment =
    written_tied start first bodies next r part p is forced read bounds h g
    ∙ ap (λ (i : Image). Ok i) (same ∙ ap (with_incarnation kept) (none_later kept.incarnation))
  where
    kept : Image
    kept = lasting (redone_if true (note_of part part.forced) (over running log moment (freeze (note_of part part.forced) left p)))

    same : lasting (do_part part p) ≡ kept
    same = told part.forced r p (lasting (do_part part p)) forced h.keeps ∙ sym (h.anytime r running (stands_in r log) moment forced) ∙ ap lasting (sym (redone_at part r part.forced running log moment left p forced))

-- ---- a stop

pub stop_told : (start : Start) (bodies : List (List ℕ)) (p : Plain) → p.running ≡ Up → Tells start bodies p → TellsDown start false 0 None bodies (stop p).next
stop_told start bodies p up is = subst (λ (r : Running). TellsDown start false 0 None bodies (stop_at r p).next) (sym up)
    (λ running log moment. ap (λ (g : Given). image g start bodies) (changes_untouched (stop_changes p) p).given ∙ is ∙ ap (λ (i : Image). Ok i) (ap (with_incarnation (lasting p)) (none_later p.numbers.incarnation) ∙ ap (later_by 0) (sym (rest_lasts p))))

-- ---- Started records

same_number : (m : ℕ) → (m == m) ≡ true
same_number m = grind (arith, nat_tests)

pub started_applies : (g h : Given) (start : Start) (incarnation : ℕ) (i : Image) → h ≡ g → is_in_bounds start (started_record h incarnation) ≡ true → applies g start (started_record h incarnation) i ≡ true
started_applies g h start incarnation i e bounds =
    ap (λ (x : Given). applies g start (started_record x incarnation) i) e
    ∙ ap (λ (b : Bool). (b && bytes_eq g.name g.name) && true && is_in_bounds start (started_record g incarnation)) (same_number g.number)
    ∙ ap (λ (b : Bool). (true && b) && true && is_in_bounds start (started_record g incarnation)) (name_self g.name)
    ∙ ap (λ (b : Bool). (true && true) && true && b) (ap (λ (x : Given). is_in_bounds start (started_record x incarnation)) (sym e) ∙ bounds)

-- each restart writes the same Started record, whenever it comes
same_start : (start : Start) (bodies : List (List ℕ)) (kept : Bool) (started : ℕ) (noted : Option Noted) (p : Plain) (running : Running) (log : LogState) (moment : ℕ) → TellsDown start kept started noted bodies p
    → next_started started (redone_if kept noted p) ≡ next_started started (redone_if kept noted (over running log moment p))
same_start start bodies kept started noted p running log moment is =
    ap (λ (g : Given). started_record g ((redone_if kept noted p).numbers.incarnation + started + 1)) (redone_given kept noted p ∙ sym (redone_given kept noted (over running log moment p)))
    ∙ ap (λ (n : ℕ). started_record (redone_if kept noted (over running log moment p)).given (n + 1)) incarnations
  where
    incarnations : (redone_if kept noted p).numbers.incarnation + started ≡ (redone_if kept noted (over running log moment p)).numbers.incarnation + started
    incarnations = ap (λ (o : Result Image ℕ). (or_image (lasting p) o).incarnation) (sym (is p.running p.log p.moment) ∙ is running log moment)

pub start_told : (start : Start) (first : List ℕ) (bodies : List (List ℕ)) (next : List ℕ) (kept : Bool) (started : ℕ) (noted : Option Noted) (p : Plain) → TellsDown start kept started noted (first ∷ bodies) p
    → record_of next ≡ Some (next_started started (redone_if kept noted p)) → is_in_bounds start (next_started started (redone_if kept noted p)) ≡ true → TellsDown start kept (started + 1) noted (first ∷ bodies ++ next ∷ []) p
start_told start first bodies next kept started noted p is read bounds running log moment =
    let q : Plain = redone_if kept noted (over running log moment p) in
    let same : next_started started (redone_if kept noted p) ≡ next_started started q = same_start start (first ∷ bodies) kept started noted p running log moment is in
    image_more p.given start first bodies next (next_started started q) (later_by started (lasting q)) (is running log moment) (read ∙ ap (λ (r : LogRecord). Some r) same)
    (started_applies p.given q.given start (q.numbers.incarnation + started + 1) (later_by started (lasting q)) (redone_given kept noted (over running log moment p)) (ap (is_in_bounds start) (sym same) ∙ bounds))
    ∙ ap (λ (n : ℕ). Ok (with_incarnation (lasting q) n)) (one_later q.numbers.incarnation started)

pub up_told : (start : Start) (first : List ℕ) (bodies : List (List ℕ)) (next : List ℕ) (kept : Bool) (started : ℕ) (noted : Option Noted) (p : Plain) → TellsDown start kept started noted (first ∷ bodies) p
    → record_of next ≡ Some (next_started started (redone_if kept noted p)) → is_in_bounds start (next_started started (redone_if kept noted p)) ≡ true → Tells start (first ∷ bodies ++ next ∷ []) (restarted kept started noted p)
up_told start first bodies next kept started noted p is read bounds =
    let q : Plain = redone_if kept noted p in
    image_more p.given start first bodies next (next_started started q) (later_by started (lasting q)) (is p.running p.log p.moment) read
    (started_applies p.given q.given start (q.numbers.incarnation + started + 1) (later_by started (lasting q)) (redone_given kept noted p) bounds)
    ∙ ap (λ (i : Image). Ok i) (ap (with_incarnation (lasting q)) (one_raised q.numbers.incarnation started) ∙ sym (restart_recovers kept started noted p))

-- a restart begins from the image that it read
pub begun_restarted : (start : Start) (bodies : List (List ℕ)) (kept : Bool) (started : ℕ) (noted : Option Noted) (p : Plain) (i : Image) → TellsDown start kept started noted bodies p → image p.given start bodies ≡ Ok i
    → (begun p.given (raised 0 i) (grown started (redone_if kept noted p)) p.moment ≡ restarted kept started noted p) × (started_record p.given (i.incarnation + 1) ≡ next_started started (redone_if kept noted p))
begun_restarted start bodies kept started noted p i is read = (
  ap (λ (x : Image). begun p.given x (grown started q) p.moment) (ap (raised 0) same ∙ ap (with_incarnation (lasting q)) (raised_later q.numbers.incarnation started)),
  ap (λ (g : Given). started_record g (i.incarnation + 1)) (sym (redone_given kept noted p)) ∙ ap (λ (x : Image). started_record q.given (x.incarnation + 1)) same,
)
  where
    q : Plain
    q = redone_if kept noted p

    same : i ≡ later_by started (lasting q)
    same = ap (or_image i) (sym read ∙ is p.running p.log p.moment)

-- ---- a restart that fails, a cut that is armed, a clock that moves

pub failed_told : (start : Start) (bodies : List (List ℕ)) (kept : Bool) (started : ℕ) (noted : Option Noted) (fault : RestartFault) (in_write : Bool) (left : ℕ) (before : Option Noted) (starts : ℕ) (p : Plain)
    → TellsDown start kept started noted bodies p → TellsDown start kept started noted bodies (failed fault in_write left before starts p).next
failed_told start bodies kept started noted faults.NoMemory in_write left before starts p is = is
failed_told start bodies kept started noted faults.Up true left before starts p is = is
failed_told start bodies kept started noted faults.Up false left before starts p is = is
failed_told start bodies kept started noted faults.Disk true left before starts p is = is
failed_told start bodies kept started noted faults.Disk false left before starts p is = is
failed_told start bodies kept started noted faults.Cut true left before starts p is = is
failed_told start bodies kept started noted faults.Cut false left before starts p is = is
failed_told start bodies kept started noted (faults.BadLog place) true left before starts p is = is
failed_told start bodies kept started noted (faults.BadLog place) false left before starts p is = is

-- what a start writes is read
pub started_read : (g : Given) (incarnation : ℕ) → g.number < 256 → IsName 48 g.name → incarnation < 2 ^ 64 → record_of (record_bytes (started_record g incarnation)) ≡ Some (started_record g incarnation)
started_read g incarnation number name below = record_back (started_record g incarnation) tt (number, name, below)

-- ---- a log that a run began with is read at its later starts too

bound_later : (r : LogRecord) → is_in_bounds First r ≡ true → is_in_bounds Later r ≡ true
bound_later (records.Started manager name incarnation) e = more incarnation e
  where
    more : (n : ℕ) → nat_lt n (2 ^ 60) ≡ true → nat_lt n (2 ^ 61) ≡ true
    more n e = grind (arith, nat_tests)
bound_later (records.Session channel partner session) e = more session e
  where
    more : (n : ℕ) → nat_lt n (2 ^ 60) ≡ true → nat_lt n (2 ^ 61) ≡ true
    more n e = grind (arith, nat_tests)
bound_later r e = refl

applies_later : (g : Given) (r : LogRecord) (i : Image) → applies g First r i ≡ true → applies g Later r i ≡ true
applies_later g r i e =
    let b = both (suits g r i && list_all (was_given g i) (idents_in r)) (is_in_bounds First r) e in
    ap (λ (t : Bool). t && is_in_bounds Later r) b.0 ∙ ap (λ (t : Bool). true && t) (bound_later r b.1)

one_later_read : (g : Given) (place : ℕ) (go then_ : Image → Result Image ℕ) (o : Option LogRecord) (i j : Image) → ((k : Image) → go k ≡ Ok j → then_ k ≡ Ok j) → or_place place go (behind g First i o) ≡ Ok j → or_place place then_ (behind g Later i o) ≡ Ok j
one_later_read g place go then_ None i j rest e = absurd cc
one_later_read g place go then_ (Some r) i j rest e = bool_case (applies g First r i) (λ b. applies g First r i ≡ b → or_place place go (if b then Some (doing r i) else None) ≡ Ok j → or_place place then_ (if applies g Later r i then Some (doing r i) else None) ≡ Ok j)
    (λ z w f. ap (λ (b : Bool). or_place place then_ (if b then Some (doing r i) else None)) (applies_later g r i w) ∙ rest (doing r i) f)
    (λ z w f. absurd cc) refl e

from_later : (g : Given) (place : ℕ) (bodies : List (List ℕ)) (i j : Image) → image_from g First place bodies i ≡ Ok j → image_from g Later place bodies i ≡ Ok j
from_later g place [] i j e = e
from_later g place (body ∷ bodies) i j e =
    one_later_read g place (image_from g First (place + length (frame body)) bodies) (image_from g Later (place + length (frame body)) bodies) (record_of body) i j
    (λ k f. from_later g (place + length (frame body)) bodies k j f) e

pub later_read : (g : Given) (bodies : List (List ℕ)) (i : Image) → image g First bodies ≡ Ok i → image g Later bodies ≡ Ok i
later_read g bodies i e = bool_case (begins bodies) (λ b. (if b then image_from g First 0 bodies empty_image else Err 0) ≡ Ok i → (if b then image_from g Later 0 bodies empty_image else Err 0) ≡ Ok i)
    (λ z f. from_later g 0 bodies empty_image i f) (λ z f. absurd cc) e
