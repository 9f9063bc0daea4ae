-- A first start has what its log tells.
use Rattle.std.proofs.Common.{ℕ, ℤ, pos, ◌≡◌, ◌+◌, Bool, true, List, [], ◌∷◌, ◌++◌, refl, ap, sym, ◌∙◌, arith, map, inl, inr}
use Rattle.std.specs.Prelude.{Option, Some, None, Ok, Err, if◌then◌else◌, max}
use Rattle.std.specs.List.{AllByRecursion}
use Rattle.mq_message.specs.declared.message.Ident.{Ident}
use Rattle.mq_message.specs.declared.place.Holder.{Holder}
use Rattle.mq_message.specs.declared.place.Holder.TheVariants as holders
use Rattle.mq_queue.specs.declared.row.Row.{Row}
use Rattle.mq_sync.specs.declared.data.InDoubt.{InDoubt}
use Rattle.mq_calls.specs.declared.records.LogRecord.{LogRecord}
use Rattle.mq_frame.specs.Reading.{IsBytes}
use Rattle.mq_calls.specs.State.{Given, LogState}
use Rattle.mq_calls.specs.Reads.{is_persistent, sender_in, in_doubt_of}
use Rattle.mq_calls.specs.Images.{lasting, lasting_row, lasting_rows, rests_by, shelves_of, numbered, queue_on, begun, raised, uncounted_message}
use Rattle.mq_calls.specs.declared.image.Image.{Image}
use Rattle.mq_calls.specs.declared.image.Shelf.{Shelf}
use Rattle.mq_law_log.specs.from_spec_manager.Stops.{first_start, started_record, started_need}
use Rattle.mq_law_log.specs.from_spec_log.Applies.{Start, applies, is_in_bounds}
use Rattle.mq_law_log.specs.from_spec_log.Records.{doing}
use Rattle.mq_law_log.specs.from_spec_log.Bodies.{record_of, behind, or_place, is_started, image, empty_image}
use Rattle.mq_law_log.proofs.from_spec_log.BodyLaws.{image_more}
use Rattle.mq_law_log.specs.from_law_manager.Facts.{Mem}
use Rattle.mq_law_image.specs.SoFar.{IsHeldIn, IsSoFar}
use Rattle.mq_law_image.specs.Tells.{Tells}
use Rattle.mq_law_image.proofs.Recovered.{image_so_far}
use Rattle.mq_law_image.proofs.Telling.{started_applies}

-- a row that is as it lasts
record IsBack (row : Row) : Type 0 where
  pub persistent : is_persistent row.message ≡ true
  pub uncounted : row.place.arrival ≡ 0
  pub unbacked : row.message.md.backout_count ≡ pos 0
  pub rests : rests_by [] row.by ≡ row.by

row_back : (n : ℕ) (row : Row) → IsBack row → lasting_row [] (record row { place = record row.place { arrival = n } }) ≡ row
row_back n row h =
    ap (λ (a : ℕ). record { place = record { lane = row.place.lane; arrival = a }; message = uncounted_message row.message; by = rests_by [] row.by }) (sym h.uncounted)
    ∙ ap (λ (b : ℤ). record { place = row.place; message = record row.message { md = record row.message.md { backout_count = b } }; by = rests_by [] row.by }) (sym h.unbacked)
    ∙ ap (λ (o : Option Holder). record { place = row.place; message = row.message; by = o }) h.rests

rows_back : (n : ℕ) (rows : List Row) → ((h : Row) → Mem h rows → IsBack h) → lasting_rows [] (numbered n rows) ≡ rows
rows_back n [] h = refl
rows_back n (row ∷ rows) h =
    ap (λ (b : Bool). if b then lasting_row [] (record row { place = record row.place { arrival = n + 1 } }) ∷ lasting_rows [] (numbered (n + 1) rows) else lasting_rows [] (numbered (n + 1) rows)) ((h row (inl refl)).persistent)
    ∙ ap (λ (r : Row). r ∷ lasting_rows [] (numbered (n + 1) rows)) (row_back (n + 1) row (h row (inl refl)))
    ∙ ap (λ (rs : List Row). row ∷ rs) (rows_back (n + 1) rows (λ k m. h k (inr m)))

shelves_back : (ss : List Shelf) → ((s : Shelf) (h : Row) → Mem s ss → Mem h s.rows → IsBack h) → shelves_of [] (map queue_on ss) ≡ ss
shelves_back [] h = refl
shelves_back (s ∷ ss) h =
    ap (λ (rows : List Row). record { name = s.name; rows = rows } ∷ shelves_of [] (map queue_on ss)) (rows_back 0 s.rows (λ k m. h s k (inl refl) m))
    ∙ ap (λ (ts : List Shelf). s ∷ ts) (shelves_back ss (λ t k m n. h t k (inr m) n))

rests : (doubt : List ℕ → Option InDoubt) (queue : List ℕ) (ident : Ident) (b : Option Holder) → IsHeldIn doubt queue ident b → rests_by [] b ≡ b
rests doubt queue ident None h = refl
rests doubt queue ident (Some (holders.Unit n)) h = absurd h
rests doubt queue ident (Some (holders.Batch c)) h = refl

pub begun_lasts : (g : Given) (i : Image) (log : LogState) (moment : ℕ) → IsSoFar g.number i → lasting (begun g (raised 0 i) log moment) ≡ raised 0 i
begun_lasts g i log moment h = ap (λ (ss : List Shelf). record (raised 0 i) { shelves = ss }) (shelves_back i.shelves (λ s row m n. let r = h.rows.row s row m n in record {
  persistent = r.persistent;
  uncounted = r.uncounted;
  unbacked = r.unbacked;
  rests = rests (λ c. in_doubt_of (sender_in c i.senders)) s.name row.message.ident row.by r.held;
}))

-- its own record, behind the bodies that it read
higher : (n : ℕ) → max n (n + 1) ≡ n + 0 + 1
higher n = omega arith

first_more : (g : Given) (start : Start) (bodies : List (List ℕ)) (next : List ℕ) (r : LogRecord) (i : Image) → image g start bodies ≡ Ok i → record_of next ≡ Some r → is_started (Some r) ≡ true → applies g start r i ≡ true → image g start (bodies ++ next ∷ []) ≡ Ok (doing r i)
first_more g start [] next r i e read starts h =
    let same : empty_image ≡ i = cc in
    ap (λ (o : Option LogRecord). if is_started o then or_place 0 (λ (k : Image). Ok k) (behind g start empty_image o) else Err 0) read
    ∙ ap (λ (b : Bool). if b then or_place 0 (λ (k : Image). Ok k) (behind g start empty_image (Some r)) else Err 0) starts
    ∙ ap (λ (k : Image). or_place 0 (λ (x : Image). Ok x) (if applies g start r k then Some (doing r k) else None)) same
    ∙ ap (λ (b : Bool). or_place 0 (λ (x : Image). Ok x) (if b then Some (doing r i) else None)) h
first_more g start (body ∷ bodies) next r i e read starts h = image_more g start body bodies next r i e read h

pub first_told : (g : Given) (start : Start) (bodies : List (List ℕ)) (next : List ℕ) (i : Image) (long moment : ℕ) → image g start bodies ≡ Ok i → AllByRecursion IsBytes bodies
    → record_of next ≡ Some (started_record g (i.incarnation + 1)) → is_in_bounds start (started_record g (i.incarnation + 1)) ≡ true → Tells start (bodies ++ next ∷ []) (first_start g i long moment)
first_told g start bodies next i long moment e fits read bounds =
    first_more g start bodies next (started_record g (i.incarnation + 1)) i e read refl (started_applies g g start (i.incarnation + 1) i refl bounds)
    ∙ ap (λ (n : ℕ). Ok (record i { incarnation = n })) (higher i.incarnation)
    ∙ ap (λ (k : Image). Ok k) (sym (begun_lasts g i (record { length = long + started_need g; armed = 0 }) moment (image_so_far g start bodies i e fits)))
