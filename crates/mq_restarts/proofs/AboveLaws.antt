-- A log that was changed from outside: its image with a higher incarnation is one, and the log with a Started record behind it tells it.
use Rattle.std.proofs.Common.{◌≡◌, ℕ, ◌+◌, ◌<◌, ◌^◌, Bool, true, List, [], ◌∷◌, ◌++◌, refl, ap, arith, sym, ◌∙◌}
use Rattle.std.specs.Prelude.{Option, Some, None, Result, Ok, Err, if◌then◌else◌, max}
use Rattle.std.specs.List.{AllByRecursion}
use Rattle.std.proofs.lemmas.Bool.Decides.{nat_tests}
use Rattle.mq_calls.specs.declared.records.LogRecord.{LogRecord}
use Rattle.mq_frame.specs.Reading.{IsBytes}
use Rattle.mq_restart.specs.from_record.Records.{record_bytes, IsRecord}
use Rattle.mq_calls.specs.State.{Given, LogState}
use Rattle.mq_calls.specs.Images.{lasting, begun, raised}
use Rattle.mq_calls.specs.declared.image.Image.{Image}
use Rattle.mq_calls.specs.declared.image.Shelf.{Shelf}
use Rattle.mq_calls.specs.Recovery.{IsImage, AreKnown}
use Rattle.mq_restart.specs.from_spec_manager.Stops.{first_start, started_record}
use Rattle.mq_restart.specs.from_spec_log.Applies.{applies, is_in_bounds}
use Rattle.mq_restart.specs.from_spec_log.Applies.Start.{Later}
use Rattle.mq_restart.specs.from_spec_log.Records.{doing}
use Rattle.mq_restart.specs.from_spec_log.Bodies.{record_of, behind, or_place, is_started, image, empty_image}
use Rattle.mq_restart.proofs.from_spec_log.BodyLaws.{image_more, record_back}
use Rattle.mq_restart.specs.from_law_image.SoFar.{IsSoFar}
use Rattle.mq_restart.specs.from_law_image.Tells.{Tells}
use Rattle.mq_restart.proofs.from_law_image.Records.{record_so_far}
use Rattle.mq_restart.proofs.from_law_image.Recovered.{image_so_far, is_image, are_known}
use Rattle.mq_restart.proofs.from_law_image.Starting.{first_told}
use Rattle.mq_restart.proofs.from_law_image.Telling.{started_applies}
use Rattle.mq_restarts.specs.Comings.{above}

pub in_bounds : (g : Given) (n : ℕ) → n < 2 ^ 61 → is_in_bounds Later (started_record g n) ≡ true
in_bounds g n lt = grind (arith, nat_tests, lt)

-- ---- it is an image

so_far : (g : Given) (bodies : List (List ℕ)) (i : Image) (least : ℕ) → image g Later bodies ≡ Ok i → AllByRecursion IsBytes bodies → least < 2 ^ 61 → IsSoFar g.number (above least i)
so_far g bodies i least e fits low =
    record_so_far g Later (started_record g least) i (started_applies g g Later least i refl (in_bounds g least low)) tt (image_so_far g Later bodies i e fits)

pub above_image : (g : Given) (bodies : List (List ℕ)) (i : Image) (least : ℕ) → image g Later bodies ≡ Ok i → AllByRecursion IsBytes bodies → least < 2 ^ 61 → IsImage (above least i)
above_image g bodies i least e fits low = is_image g.number (above least i) (so_far g bodies i least e fits low)

pub above_known : (g : Given) (bodies : List (List ℕ)) (i : Image) (least : ℕ) → image g Later bodies ≡ Ok i → AllByRecursion IsBytes bodies → least < 2 ^ 61 → AreKnown g.number (above least i)
above_known g bodies i least e fits low = are_known g.number (above least i) (so_far g bodies i least e fits low)

-- ---- a Started record behind it

-- one record more
image_behind : (g : Given) (bodies : List (List ℕ)) (next : List ℕ) (r : LogRecord) (i : Image) → image g Later bodies ≡ Ok i → record_of next ≡ Some r → is_started (Some r) ≡ true → applies g Later r i ≡ true → image g Later (bodies ++ next ∷ []) ≡ Ok (doing r i)
image_behind g [] next r i e read starts h =
    let same : empty_image ≡ i = cc in
    ap (λ (o : Option LogRecord). if is_started o then or_place 0 (λ (k : Image). Ok k) (behind g Later empty_image o) else Err 0) read
    ∙ ap (λ (b : Bool). if b then or_place 0 (λ (k : Image). Ok k) (behind g Later empty_image (Some r)) else Err 0) starts
    ∙ ap (λ (k : Image). or_place 0 (λ (x : Image). Ok x) (if applies g Later r k then Some (doing r k) else None)) same
    ∙ ap (λ (b : Bool). or_place 0 (λ (x : Image). Ok x) (if b then Some (doing r i) else None)) h
image_behind g (body ∷ bodies) next r i e read starts h = image_more g Later body bodies next r i e read h

abbrev numbered : Image → ℕ → Image
numbered i n = record i { incarnation = n }

started_behind : (g : Given) (bodies : List (List ℕ)) (i : Image) (n : ℕ) → image g Later bodies ≡ Ok i → IsRecord (started_record g n) → n < 2 ^ 61 → image g Later (bodies ++ record_bytes (started_record g n) ∷ []) ≡ Ok (numbered i (max i.incarnation n))
started_behind g bodies i n e is low =
    image_behind g bodies (record_bytes (started_record g n)) (started_record g n) i e (record_back (started_record g n) tt is) refl (started_applies g g Later n i refl (in_bounds g n low))

-- what lasts of a manager that begins with it
abbrev or_image : Image → Result Image ℕ → Image
or_image d (Ok i) = i
or_image d (Err place) = d

pub same_image : (i j : Image) (a : Result Image ℕ) → a ≡ Ok i → a ≡ Ok j → i ≡ j
same_image i j a e f = ap (or_image i) (sym e ∙ f)

lower : (n : ℕ) → n + 1 < 2 ^ 61 → n < 2 ^ 61
lower n lt = omega (arith, lt)

small : (g : Given) (m n : ℕ) → IsRecord (started_record g n) → m < 2 ^ 61 → IsRecord (started_record g m)
small g m n is lt = (is.0, is.1, omega (arith, lt))

-- the shelves that it has told are those of the manager
shelves_last : (g : Given) (bodies : List (List ℕ)) (i : Image) (n moment : ℕ) → image g Later bodies ≡ Ok i → AllByRecursion IsBytes bodies → IsRecord (started_record g n) → i.incarnation + 1 < 2 ^ 61 → (lasting (first_start g i 0 moment)).shelves ≡ i.shelves
shelves_last g bodies i n moment e fits is low =
    let whole : IsRecord (started_record g (i.incarnation + 1)) = small g (i.incarnation + 1) n is low in
    let told : Tells Later (bodies ++ record_bytes (started_record g (i.incarnation + 1)) ∷ []) (first_start g i 0 moment) =
    first_told g Later bodies (record_bytes (started_record g (i.incarnation + 1))) i 0 moment e fits (record_back (started_record g (i.incarnation + 1)) tt whole) (in_bounds g (i.incarnation + 1) low) in
    ap (λ (k : Image). k.shelves) (same_image (lasting (first_start g i 0 moment)) (numbered i (max i.incarnation (i.incarnation + 1))) (image g Later (bodies ++ record_bytes (started_record g (i.incarnation + 1)) ∷ [])) told (started_behind g bodies i (i.incarnation + 1) e whole low))

higher : (n least : ℕ) → max n (max n least + 1) ≡ max n least + 0 + 1
higher n least = omega arith

pub above_tells : (g : Given) (bodies : List (List ℕ)) (i : Image) (least moment : ℕ) (log : LogState) → image g Later bodies ≡ Ok i → AllByRecursion IsBytes bodies → IsRecord (started_record g (max i.incarnation least + 1)) → i.incarnation + 1 < 2 ^ 61 → max i.incarnation least + 1 < 2 ^ 61
    → Tells Later (bodies ++ record_bytes (started_record g (max i.incarnation least + 1)) ∷ []) (begun g (raised 0 (above least i)) log moment)
above_tells g bodies i least moment log e fits is low high =
    started_behind g bodies i (max i.incarnation least + 1) e is high
    ∙ ap (λ (n : ℕ). Ok (numbered i n)) (higher i.incarnation least)
    ∙ ap (λ (ss : List Shelf). Ok (record i { shelves = ss; incarnation = max i.incarnation least + 0 + 1 })) (sym (shelves_last g bodies i (max i.incarnation least + 1) moment e fits is low))
