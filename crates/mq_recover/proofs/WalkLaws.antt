-- A walk over the bodies of a log: what was read so far, and what is left.
use Rattle.std.proofs.Common.{◌≡◌, ℕ, ◌+◌, ◌-◌, Bool, true, false, List, [], ◌∷◌, length, Option, Some, None, Result, Ok, Err, refl, sym, ap, ◌∙◌, arith, length-append}
use Rattle.std.specs.Prelude.{◌==◌, not, ◌||◌, ◌&&◌, nat_le, if◌then◌else◌}
use Rattle.std.specs.List.{list_all}
use Rattle.std.specs.Str.{bytes_eq}
use Rattle.mq_message.specs.declared.message.Ident.{Ident}
use Rattle.mq_calls.specs.declared.records.LogRecord.{LogRecord}
use Rattle.mq_calls.specs.declared.records.LogRecord.TheVariants as records
use Rattle.mq_log.specs.Bodies.{frame, frames, AllFit}
use Rattle.mq_log.specs.Walk.{Walks}
use Rattle.mq_log.specs.declared.bodies.Split.{Split}
use Rattle.mq_calls.specs.State.{Given}
use Rattle.mq_calls.specs.declared.image.Image.{Image}
use Rattle.mq_recover_read.specs.from_spec_log.Applies.{Start, suits, applies, was_given, idents_in, is_in_bounds}
use Rattle.mq_recover_read.specs.from_spec_log.Records.{doing}
use Rattle.mq_recover_read.specs.from_spec_log.Bodies.{record_of, behind, or_place, image_from, empty_image, begins, image}
use Rattle.mq_recover.specs.declared.recovering.Recovering.{Recovering}
use Rattle.mq_recover.specs.declared.recovery.RecoverFault.{RecoverFault}
use Rattle.mq_recover.specs.declared.recovery.RecoverFault.TheVariants.{BadRecord, NoMemory}
use Rattle.mq_recover.specs.Recovering.{seen, Does}
use Rattle.mq_recover.specs.Found.{given_as, Recovers, Told}

-- so much of all bodies was read, from a place and an image on, with this image
pub record Went (g : Given) (start : Start) (from : ℕ) (before : Image) (all : List (List ℕ)) (place : ℕ) (framed : List ℕ) (i : Image) : Type 0 where
  pub rest : List (List ℕ)
  pub fits : AllFit rest
  pub framed_is : framed ≡ frames rest
  pub same : image_from g start from all before ≡ image_from g start place rest i

-- each list of bodies that the bytes are goes on so
abbrev pub Goes : List ℕ → Option Split → Type 0
Goes framed found = (all : List (List ℕ)) → AllFit all → framed ≡ frames all → Walks all found

module _ (g : Given) (start : Start) (from : ℕ) (before : Image) (all : List (List ℕ)) (place : ℕ) (framed : List ℕ) (i : Image) where
  goes_on : (split : Split) (rest : List (List ℕ)) → AllFit rest → framed ≡ frames rest → Walks rest (Some split)
      → image_from g start from all before ≡ image_from g start place rest i
      → (j : Image) → behind g start i (record_of split.body.now) ≡ Some j → (further : ℕ) → further ≡ place + (length framed - length split.rest.framed.now) → Went g start from before all further split.rest.framed.now j
  goes_on split [] fits is h same j e further far = absurd (cc h)
  goes_on split (body ∷ rest) fits is h same j e further far =
      let size : length framed ≡ length (frame body) + length split.rest.framed.now = ap length is ∙ length-append (frame body) (frames rest) ∙ ap (λ (x : List ℕ). length (frame body) + length x) (sym h.1) in
      let more : place + length (frame body) ≡ further = omega (arith, size, far) in
      record {
        rest = rest;
        fits = fits.1;
        framed_is = h.1;
        same = same
            ∙ ap (λ (b : List ℕ). or_place place (image_from g start (place + length (frame body)) rest) (behind g start i (record_of b))) (sym h.0)
            ∙ ap (or_place place (image_from g start (place + length (frame body)) rest)) e
            ∙ ap (λ (n : ℕ). image_from g start n rest j) more;
      }

  -- the first body is a record that applies
  pub went_on : (split : Split) → Went g start from before all place framed i → Goes framed (Some split)
      → (j : Image) → behind g start i (record_of split.body.now) ≡ Some j → (further : ℕ) → further ≡ place + (length framed - length split.rest.framed.now) → Went g start from before all further split.rest.framed.now j
  went_on split w goes j e further far = goes_on split w.rest w.fits w.framed_is (goes w.rest w.fits w.framed_is) w.same j e further far

-- what stands behind a record that applies
pub behind_on : (g : Given) (start : Start) (i j : Image) (o : Option LogRecord) (r : LogRecord) → o ≡ Some r → applies g start r i ≡ true → j ≡ doing r i → behind g start i o ≡ Some j
behind_on g start i j o r e applied is = ap (behind g start i) e ∙ ap (λ (b : Bool). if b then Some (doing r i) else None) applied ∙ ap (λ (x : Image). Some x) (sym is)

-- Of what the scenario gives a manager, its records tell the number and the name alone.
module _ (g h : Given) (number : g.number ≡ h.number) (name : g.name ≡ h.name) where
  suits_same : (r : LogRecord) (i : Image) → suits g r i ≡ suits h r i
  suits_same (records.Started m n incarnation) i = ap (λ (x : ℕ). m == x && bytes_eq n g.name) number ∙ ap (λ (x : List ℕ). m == h.number && bytes_eq n x) name
  suits_same (records.Objects change) i = refl
  suits_same (records.Unit adds removes) i = refl
  suits_same (records.Session channel partner session) i = refl
  suits_same (records.Prepared channel unit last queue idents) i = refl
  suits_same (records.Resolved channel unit commit operator) i = refl
  suits_same (records.Bound channel partner session last) i = refl
  suits_same (records.Closed channel session) i = refl
  suits_same (records.Received channel unit last adds) i = refl
  suits_same (records.SeqSet channel end last) i = refl
  suits_same (records.Moved from ident to message) i = refl

  applies_same : (start : Start) (r : LogRecord) (i : Image) → applies g start r i ≡ applies h start r i
  applies_same start r i =
      ap (λ (b : Bool). b && list_all (was_given g i) (idents_in r) && is_in_bounds start r) (suits_same r i)
      ∙ ap (λ (x : ℕ). suits h r i && list_all (λ (ident : Ident). not (ident.manager == x) || nat_le ident.incarnation i.incarnation) (idents_in r) && is_in_bounds start r) number

  behind_same : (start : Start) (i : Image) (o : Option LogRecord) → behind g start i o ≡ behind h start i o
  behind_same start i None = refl
  behind_same start i (Some r) = ap (λ (b : Bool). if b then Some (doing r i) else None) (applies_same start r i)

  next_same : (start : Start) (place further : ℕ) (bodies : List (List ℕ)) → ((i : Image) → image_from g start further bodies i ≡ image_from h start further bodies i)
      → (o : Option Image) → or_place place (image_from g start further bodies) o ≡ or_place place (image_from h start further bodies) o
  next_same start place further bodies ih None = refl
  next_same start place further bodies ih (Some i) = ih i

  pub image_same : (start : Start) (place : ℕ) (bodies : List (List ℕ)) (i : Image) → image_from g start place bodies i ≡ image_from h start place bodies i
  image_same start place [] i = refl
  image_same start place (body ∷ bodies) i =
      ap (or_place place (image_from g start (place + length (frame body)) bodies)) (behind_same start i (record_of body))
      ∙ next_same start place (place + length (frame body)) bodies (λ (j : Image). image_same start (place + length (frame body)) bodies j) (behind h start i (record_of body))

-- the image of a log that begins with a start
pub image_begun : (g : Given) (start : Start) (number : ℕ) (name : List ℕ) (all : List (List ℕ)) → g.number ≡ number → g.name ≡ name → begins all ≡ true
    → image_from (given_as number name) start 0 all empty_image ≡ image g start all
image_begun g start number name all n m e =
    sym (ap (λ (b : Bool). if b then image_from g start 0 all empty_image else Err 0) e ∙ image_same g (given_as number name) n m start 0 all empty_image)

-- What is answered, of each thing that is meant.
pub fault_given : (r : Result Image ℕ) (fault : RecoverFault) → Told r (Err fault) → Recovers r (Err fault)
fault_given (Ok i) (BadRecord place) h = h
fault_given (Ok i) NoMemory h = tt
fault_given (Err at) (BadRecord place) h = h
fault_given (Err at) NoMemory h = tt

pub image_given : (r : Result Image ℕ) (told : Recovering) (image : Image) → Told r (Ok told) → image ≡ seen told → Recovers r (Ok image)
image_given (Ok i) told image h is = is ∙ h
image_given (Err place) told image h is = h

-- what was done could be done
pub did : (may : Bool) (made now : Image) (done : Bool) → done ≡ true → Does may made done now → (may ≡ true) × (now ≡ made)
did may made now true e h = h
did may made now false e h = absurd (cc e)
