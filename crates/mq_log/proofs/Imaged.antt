-- Bytes that are a front and one more framed body, and what they stand for.
use Rattle.std.proofs.Common.{◌≡◌, ◌≢◌, ◌⊎◌, ◌↔◌, inl, inr, ℕ, ◌+◌, ◌^◌, ◌<◌, ◌≤◌, List, [], ◌∷◌, ◌++◌, length, take, drop, refl, sym, ◌∙◌, ap, subst, arith, length-append, take-append-drop}
use Rattle.std.proofs.lemmas.List.{take_at, drop_at, drop_more, drop-drop}
use Rattle.std.specs.Prelude.{slice_index, slice_get, Option, Some, None}
use Rattle.mq_log.specs.Bodies.{number_bytes, number_of, frame, frames, bodies_of, Fits, AllFit}
use Rattle.mq_log.specs.State.{front_bodies, IsBeforeOrAfter}
use Rattle.mq_log.specs.Images.{IsMoreBy, IsImage, IsFound}
use Rattle.mq_log.specs.declared.images.Found.{Found}
use Rattle.mq_log.specs.declared.images.Found.TheVariants.{Before, After, Other}
use Rattle.mq_log.specs.Open.{Front}
use Rattle.mq_log.proofs.Framed.{length-number_bytes, number_of-number_bytes, frames-push, fits-push}
use Rattle.mq_log.proofs.Scanned.{front_of}

pub length-frame : (body : List ℕ) → length (frame body) ≡ 5 + length body
length-frame body = omega (arith, length-append (number_bytes (length body)) body, length-number_bytes (length body))

-- an open gate, a length and what it counts are a frame
pub frame_of : (framed body : List ℕ) (n : ℕ) → 5 ≤ length framed → slice_index framed 0 ≡ 165 → number_bytes n ≡ take 4 (drop (0 + 1) framed) → n ≡ length (drop 5 framed) → drop 5 framed ≡ body → framed ≡ frame body
frame_of framed body n long gate number size behind =
    let rest = drop 1 framed in
    let head : number_bytes (length body) ≡ take 4 rest = ap number_bytes (sym (ap length behind) ∙ sym size) ∙ number in
    let tail : drop 4 rest ≡ body = drop-drop 4 1 framed ∙ behind in
    drop_more framed 0 0 (omega (arith, long))
    ∙ ap (λ (g : ℕ). g ∷ rest) gate
    ∙ ap (λ (l : List ℕ). 165 ∷ l) (sym (take-append-drop 4 rest))
    ∙ (λ i. 165 ∷ (sym head i ++ tail i))

-- what the parts of a frame are
module _ (framed body : List ℕ) (is : framed ≡ frame body) where
  pub frame_long : 5 ≤ length framed
  frame_long = omega (arith, ap length is, length-frame body)

  pub frame_gate : slice_index framed 0 ≡ 165
  frame_gate = ap (λ (l : List ℕ). slice_index l 0) is

  tail_is : drop 1 framed ≡ number_bytes (length body) ++ body
  tail_is = ap (λ (l : List ℕ). drop 1 l) is

  pub frame_body : drop 5 framed ≡ body
  frame_body = sym (drop-drop 4 1 framed) ∙ ap (λ (l : List ℕ). drop 4 l) tail_is ∙ drop_at (number_bytes (length body)) body 4 (length-number_bytes (length body))

  pub frame_number : (n : ℕ) → n < 2 ^ 32 → Fits body → number_bytes n ≡ take 4 (drop (0 + 1) framed) → n ≡ length (drop 5 framed)
  frame_number n small fit number =
      let head : take 4 (drop 1 framed) ≡ number_bytes (length body) = ap (λ (l : List ℕ). take 4 l) tail_is ∙ take_at (number_bytes (length body)) body 4 (length-number_bytes (length body)) in
      sym (number_of-number_bytes n small) ∙ ap number_of (number ∙ head) ∙ number_of-number_bytes (length body) fit ∙ sym (ap length frame_body)

-- a front and one more body, by its two parts
pub more_by : (front body read : List ℕ) → take (length front) read ≡ front → drop (length front) read ≡ frame body → Fits body → IsMoreBy front body read
more_by front body read before framed fit = (sym (take-append-drop (length front) read) ∙ (λ i. before i ++ framed i), fit)

module _ (front body read : List ℕ) (more : IsMoreBy front body read) where
  pub more_front : take (length front) read ≡ front
  more_front = ap (λ (l : List ℕ). take (length front) l) more.0 ∙ take_at front (frame body) (length front) refl

  pub more_frame : drop (length front) read ≡ frame body
  more_frame = ap (λ (l : List ℕ). drop (length front) l) more.0 ∙ drop_at front (frame body) (length front) refl

  pub more_long : length front ≤ length read
  more_long = omega (arith, ap length more.0, length-append front (frame body))

last_fits : (bodies : List (List ℕ)) (body : List ℕ) → AllFit (bodies ++ body ∷ []) → Fits body
last_fits [] body fits = fits.0
last_fits (b ∷ bodies) body fits = last_fits bodies body fits.1

-- what bytes that were read stand for, beside a log's
pub found_of : (old read : List ℕ) (end at : ℕ) (pending : Option (List ℕ)) (found : Found) → Front end old → Front at read
    → IsImage (take end old) pending found (take at read) → IsFound (front_bodies end old) pending found (front_bodies at read)
found_of old read end at pending Before front front' is = ap (λ (l : List ℕ). bodies_of (l ++ 0 ∷ [])) is
found_of old read end at None After front front' is = is
found_of old read end at (Some body) After front front' (is, fit) =
    let bodies = front_bodies end old in
    front_of (bodies ++ body ∷ []) at read (fits-push bodies body front.fits fit) (is ∙ ap (λ (l : List ℕ). l ++ frame body) (sym front.framed) ∙ sym (frames-push bodies body))
found_of old read end at None Other front front' (other, more) = λ same. other (sym front'.framed ∙ ap frames same ∙ front.framed)
found_of old read end at (Some body) Other front front' (other, more) = either
  where
    either : (front_bodies at read ≡ front_bodies end old) ⊎ (front_bodies at read ≡ front_bodies end old ++ body ∷ []) → ⊥
    either (inl same) = other (sym front'.framed ∙ ap frames same ∙ front.framed)
    either (inr pushed) = more (
      sym front'.framed ∙ ap frames pushed ∙ frames-push (front_bodies end old) body ∙ ap (λ (l : List ℕ). l ++ frame body) front.framed,
      last_fits (front_bodies end old) body (subst AllFit pushed front'.fits),
    )

-- a restart that finds the bodies from before, with the pending one or without, finds no other
pub not_other : (bodies found : List (List ℕ)) (pending : Option (List ℕ)) (f : Found) → IsFound bodies pending f found → IsBeforeOrAfter bodies pending found → f ≢ Other
not_other bodies found pending Before is there e = absurd (cc e)
not_other bodies found pending After is there e = absurd (cc e)
not_other bodies found None Other is there e = is there
not_other bodies found (Some body) Other is there e = is there

none_at_end : (bodies : List (List ℕ)) → slice_get bodies (length bodies) ≡ None
none_at_end [] = refl
none_at_end (b ∷ bodies) = none_at_end bodies

last_at : (bodies : List (List ℕ)) (body : List ℕ) → slice_get (bodies ++ body ∷ []) (length bodies) ≡ Some body
last_at [] body = refl
last_at (b ∷ bodies) body = last_at bodies body

-- the body whose forced write was stopped stands behind those from before exactly where it was found
pub found_at : (bodies found : List (List ℕ)) (body : List ℕ) (f : Found) → IsFound bodies (Some body) f found → f ≢ Other → (f ≡ After) ↔ (slice_get found (length bodies) ≡ Some body)
found_at bodies found body Before is known =
    let none : slice_get found (length bodies) ≡ None = ap (λ (l : List (List ℕ)). slice_get l (length bodies)) is ∙ none_at_end bodies in
    ((λ e. absurd (cc e)), λ e. absurd (cc (e, none)))
found_at bodies found body After is known = ((λ e. ap (λ (l : List (List ℕ)). slice_get l (length bodies)) is ∙ last_at bodies body), λ e. refl)
found_at bodies found body Other is known = absurd (known refl)
