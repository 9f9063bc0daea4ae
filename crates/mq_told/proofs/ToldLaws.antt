-- What the front of a log tells: its other bodies go on behind it.
use Rattle.std.proofs.Common.{◌≡◌, ℕ, ◌+◌, ◌≤◌, Bool, true, false, drop, List, [], ◌∷◌, ◌++◌, length, Option, Some, None, Result, Ok, Err, refl, sym, ap, ◌∙◌, subst, arith, append_assoc, length-append}
use Rattle.std.specs.Prelude.{◌==◌, ◌&&◌, nat_eq, MatchResult}
use Rattle.std.specs.List.{starts_with}
use Rattle.std.specs.Str.{bytes_eq}
use Rattle.std.proofs.lemmas.Bool.{eqb-true}
use Rattle.std.proofs.lemmas.Bool.Decides.{Decides-eqb}
use Rattle.std.proofs.lemmas.Slice.Eq.{bytes_eq-Decides, starts_is}
use Rattle.mq_log.specs.Bodies.{frame, frames, AllFit}
use Rattle.mq_log.proofs.Logs.{frame_is_one}
use Rattle.mq_calls.specs.State.{Given}
use Rattle.mq_calls.specs.declared.image.Image.{Image}
use Rattle.mq_recover.specs.from_spec_log.Applies.{Start}
use Rattle.mq_recover.specs.from_spec_log.Applies.Start.{Later}
use Rattle.mq_recover.specs.from_spec_log.Bodies.{record_of, behind, or_place, image_from, empty_image, begins, image}
use Rattle.mq_recover.specs.declared.recovering.Recovering.{Recovering}
use Rattle.mq_recover.specs.declared.recovery.RecoverFault.{RecoverFault}
use Rattle.mq_recover.specs.Recovering.{seen}
use Rattle.mq_recover.specs.declared.recovery.RecoverFault.TheVariants.{NoMemory}
use Rattle.mq_recover.specs.Found.{given_as, Told, Recovers}
use Rattle.mq_recover.proofs.WalkLaws.{image_begun, fault_given, image_given}
use Rattle.mq_told.specs.declared.front.Front.{Front}
use Rattle.mq_told.specs.Fronts.{AreBodies, HasTold, IsFront, TellsAll, Fails, Misses, IsWhole}

-- these bytes are bodies, with which all go on from another image
pub record Left (g : Given) (start : Start) (all : List (List ℕ)) (place : ℕ) (i : Image) (framed : List ℕ) (further : ℕ) (j : Image) : Type 0 where
  pub bodies : List (List ℕ)
  pub fits : AllFit bodies
  pub framed_is : framed ≡ frames bodies
  pub same : image_from g start place all i ≡ image_from g start further bodies j

abbrev or_image : Image → Result Image ℕ → Image
or_image d (Ok i) = i
or_image d (Err place) = d

module _ (g : Given) (start : Start) where
  one_left : (body : List ℕ) (front all : List (List ℕ)) (rest : List ℕ) (place : ℕ) (i j : Image) (o : Option Image)
      → ((k : Image) → image_from g start (place + length (frame body)) front k ≡ Ok j → Left g start all (place + length (frame body)) k rest (place + length (frame body) + length (frames front)) j)
      → behind g start i (record_of body) ≡ o → or_place place (image_from g start (place + length (frame body)) front) o ≡ Ok j
      → Left g start (body ∷ all) place i rest (place + length (frames (body ∷ front))) j
  one_left body front all rest place i j None go is told = absurd (cc told)
  one_left body front all rest place i j (Some k) go is told =
      let left = go k told in
      let far : place + length (frame body) + length (frames front) ≡ place + length (frames (body ∷ front)) = omega (arith, length-append (frame body) (frames front)) in
      record {
        bodies = left.bodies;
        fits = left.fits;
        framed_is = left.framed_is;
        same = ap (or_place place (image_from g start (place + length (frame body)) all)) is ∙ left.same ∙ ap (λ (n : ℕ). image_from g start n left.bodies j) far;
      }

  -- Where bytes begin with those of bodies that tell an image, the others go on from it.
  pub left_behind : (front all : List (List ℕ)) (rest : List ℕ) (place : ℕ) (i j : Image) → AllFit front → AllFit all → frames front ++ rest ≡ frames all → image_from g start place front i ≡ Ok j
      → Left g start all place i rest (place + length (frames front)) j
  left_behind [] all rest place i j few fits is told =
      let here : place ≡ place + length (frames []) = omega arith in
      record {
        bodies = all;
        fits = fits;
        framed_is = is;
        same = ap (image_from g start place all) (ap (or_image i) told) ∙ ap (λ (n : ℕ). image_from g start n all j) here;
      }
  left_behind (body ∷ front) [] rest place i j few fits is told = absurd (cc is)
  left_behind (body ∷ front) (first ∷ all) rest place i j few fits is told =
      let one = frame_is_one body first (frames front ++ rest) (frames all) few.0 fits.0 (sym (append_assoc (frame body) (frames front) rest) ∙ is) in
      subst (λ (b : List ℕ). Left g start (b ∷ all) place i rest (place + length (frames (body ∷ front))) j) one.0
      (one_left body front all rest place i j (behind g start i (record_of body)) (λ k t. left_behind front all rest (place + length (frame body)) k j few.1 fits.1 one.1 t) refl told)

-- what a reader of the others has is what all tell
pub told_is : (r : Result Image ℕ) (told : Recovering) → Told r (Ok told) → r ≡ Ok (seen told)
told_is (Ok i) told h = ap (λ (x : Image). Ok x) (sym h)
told_is (Err place) told h = absurd h

-- no memory may always be answered
pub wants : (r : Result Image ℕ) → Told r (Err NoMemory)
wants (Ok i) = tt
wants (Err place) = tt

-- what is read behind bodies from what they told is what all tell
pub goes_front : (g : Given) (framed rest : List ℕ) (i : Image) → HasTold g framed i → (all : List (List ℕ)) → AllFit all → framed ++ rest ≡ frames all → (place : ℕ) → place ≡ length framed
    → (result : Result Recovering RecoverFault) → ((bodies : List (List ℕ)) → AllFit bodies → rest ≡ frames bodies → Told (image_from g Later place bodies i) result) → Told (image_from g Later 0 all empty_image) result
goes_front g framed rest i h all fits e place at result went =
    let is : frames h.bodies ++ rest ≡ frames all = ap (λ (x : List ℕ). x ++ rest) (sym h.framed_is) ∙ e in
    let left = left_behind g Later h.bodies all rest 0 empty_image i h.fits fits is h.told in
    let here : 0 + length (frames h.bodies) ≡ place = omega (arith, ap length h.framed_is, at) in
    subst (λ (r : Result Image ℕ). Told r result) (sym (left.same ∙ ap (λ (n : ℕ). image_from g Later n left.bodies i) here)) (went left.bodies left.fits left.framed_is)

pub told_again : (r : Result Image ℕ) (told : Recovering) → r ≡ Ok (seen told) → Told r (Ok told)
told_again r told is = subst (λ (x : Result Image ℕ). Told x (Ok told)) (sym is) refl

-- what a reader of a log's bodies has in the end can be kept
pub keeps : (g : Given) (framed : List ℕ) → AreBodies framed → (front : Front) → ((all : List (List ℕ)) → AllFit all → framed ≡ frames all → TellsAll g all front) → HasTold g front.framed (seen front.recovering)
keeps g framed b front goes =
    let h = goes b.bodies b.fits b.framed_is in
    record { bodies = b.bodies; fits = b.fits; framed_is = h.1; told = h.0 }

both : (a b : Bool) → (a && b) ≡ true → (a ≡ true) × (b ≡ true)
both true b e = (refl, e)
both false b e = absurd (cc e)

pub same_given : (m n : ℕ) (x y : List ℕ) → (m == n && bytes_eq x y) ≡ true → given_as m x ≡ given_as n y
same_given m n x y e =
    let h = both (m == n) (bytes_eq x y) e in
    ap (λ (k : ℕ). given_as k x) (eqb-true m n h.0) ∙ ap (λ (z : List ℕ). given_as n z) ((bytes_eq-Decides x y).0 h.1)

pub begins_with : (framed front : List ℕ) → starts_with nat_eq framed front ≡ true → framed ≡ front ++ drop (length front) framed
begins_with framed front e = (starts_is Decides-eqb framed front (starts_with nat_eq framed front) refl).0 e

-- nothing was told, and any bytes are behind it
pub nothing_told : (g : Given) (framed : List ℕ) (front : Front) → front.framed ≡ [] → seen front.recovering ≡ empty_image → IsFront g framed front
nothing_told g framed front none blank = record {
  told = record { bodies = []; fits = tt; framed_is = none; told = ap (λ (i : Image). Ok i) (sym blank) };
  is = ap (λ (x : List ℕ). x ++ drop (length x) framed) (sym none);
}

-- what was kept is of this manager, and the bytes begin with its own
pub kept_front : (m n : ℕ) (x y : List ℕ) (framed at : List ℕ) (front : Front) → HasTold (given_as m x) front.framed (seen front.recovering) → (m == n && bytes_eq x y) ≡ true
    → at ≡ front.framed → starts_with nat_eq framed at ≡ true → IsFront (given_as n y) framed front
kept_front m n x y framed at front told same here begun = record {
  told = subst (λ (g : Given). HasTold g front.framed (seen front.recovering)) (same_given m n x y same) told;
  is = subst (λ (z : List ℕ). framed ≡ z ++ drop (length z) framed) here (begins_with framed at begun);
}

-- what is behind them makes them whole
pub front_low : (framed front at : List ℕ) → framed ≡ front ++ drop (length front) framed → at ≡ front → length at ≤ length framed
front_low framed front at is here = omega (arith, ap length here, ap length is, length-append front (drop (length front) framed))

pub front_whole : (framed front at rest : List ℕ) → framed ≡ front ++ drop (length front) framed → at ≡ front → rest ≡ drop (length at) framed → front ++ rest ≡ framed
front_whole framed front at rest is here r = ap (λ (x : List ℕ). front ++ x) (r ∙ ap (λ (y : List ℕ). drop (length y) framed) here) ∙ sym is

-- where bodies begin with a start, what no reader of them has is no image
pub begun_fails : (number : ℕ) (name : List ℕ) (all : List (List ℕ)) → begins all ≡ true → (fault : RecoverFault) → Fails (given_as number name) all fault → Misses number name all fault
begun_fails number name all begun fault h = λ g n m. subst (λ (r : Result Image ℕ). Told r (Err fault)) (image_begun g Later number name all n m begun) h

-- and what a reader of them has is their image
pub whole_image : (number : ℕ) (name : List ℕ) (all : List (List ℕ)) (front : Front) (i : Image) → IsWhole (given_as number name) all front → i ≡ seen front.recovering → (g : Given) → g.number ≡ number → g.name ≡ name → Recovers (image g Later all) (Ok i)
whole_image number name all front i whole is g n m =
    image_given (image g Later all) front.recovering i (told_again (image g Later all) front.recovering (sym (image_begun g Later number name all n m whole.begun) ∙ whole.told.0)) is

pub misses : (number : ℕ) (name : List ℕ) (all : List (List ℕ)) (fault : RecoverFault) → Misses number name all fault → (g : Given) → g.number ≡ number → g.name ≡ name → Recovers (image g Later all) (Err fault)
misses number name all fault h g n m = fault_given (image g Later all) fault (h g n m)

pub whole_told : (number : ℕ) (name : List ℕ) (all : List (List ℕ)) (r : Result Front RecoverFault) → begins all ≡ true → MatchResult r (TellsAll (given_as number name) all) (Fails (given_as number name) all) → MatchResult r (IsWhole (given_as number name) all) (Misses number name all)
whole_told number name all (Ok front) begun h = record { begun = begun; told = h }
whole_told number name all (Err fault) begun h = begun_fails number name all begun fault h
