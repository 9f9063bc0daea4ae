-- How a log stands before and after a forced write.
use Rattle.std.proofs.Common.{◌≡◌, inl, inr, ⊎_elim, ℕ, ◌+◌, ◌-◌, ◌<◌, ◌≤◌, List, [], ◌∷◌, ◌++◌, length, get_or, take, drop, refl, sym, ◌∙◌, ap, subst, arith, append_assoc, length-append, take-append-drop, length-set, length-take, length-drop, Bool, true, false, Some, Option, slice_set}
use Rattle.std.proofs.lemmas.List.{take_at, take-take, drop_at, take-append-le, drop-drop, length-take-le, drop_all, drop_more, set_at, get_or_at}
use Rattle.std.proofs.lemmas.Bool.Decides.{nat_tests}
use Rattle.std.specs.Prelude.{slice_index}
use Rattle.mq_disk.specs.Disk.{Only}
use Rattle.mq_log.specs.Bodies.{number_bytes, frame, frames, bodies_of, Fits, AllFit}
use Rattle.mq_log.specs.Force.{StagedOrOpened}
use Rattle.mq_log.specs.State.{front_bodies, body_behind, IsLogOf}
use Rattle.mq_log.specs.Sound.{Sound, Settled}
use Rattle.mq_log.proofs.Logs.{either}
use Rattle.mq_log.proofs.Framed.{bodies_of-closed, frames-push, fits-push, length-number_bytes, piece}

-- what stands in front of the last gate
pub front_is : (bodies : List (List ℕ)) (end : ℕ) (bytes rest : List ℕ) → AllFit bodies → end ≡ length (frames bodies) → bytes ≡ frames bodies ++ rest → front_bodies end bytes ≡ bodies
front_is bodies end bytes rest fits at is =
    ap (λ (l : List ℕ). bodies_of (take end l ++ 0 ∷ [])) is
    ∙ ap (λ (l : List ℕ). bodies_of (l ++ 0 ∷ [])) (take_at (frames bodies) rest end (sym at))
    ∙ bodies_of-closed bodies 0 [] fits (omega arith)

pub length-piece : (body : List ℕ) → length (piece body) ≡ 5 + length body
unfolding piece
length-piece body = omega (arith, length-append (number_bytes (length body) ++ body) (0 ∷ []), length-append (number_bytes (length body)) body, length-number_bytes (length body))

module _ (end : ℕ) (bytes body : List ℕ) (framed : frames (front_bodies end bytes) ≡ take end bytes) (fits : AllFit (front_bodies end bytes)) (whole : length bytes ≡ end + 1) where
  at : end ≡ length (frames (front_bodies end bytes))
  at = sym (length-take-le end bytes (omega (arith, whole))) ∙ ap length (sym framed)

  parts : bytes ≡ frames (front_bodies end bytes) ++ slice_index bytes end ∷ []
  parts =
      sym (take-append-drop end bytes)
      ∙ ap (λ (l : List ℕ). l ++ drop end bytes) (sym framed)
      ∙ ap (λ (l : List ℕ). frames (front_bodies end bytes) ++ l) (drop_more bytes end 0 (omega (arith, whole)))
      ∙ ap (λ (l : List ℕ). frames (front_bodies end bytes) ++ slice_index bytes end ∷ l) (drop_all (end + 1) bytes (omega (arith, whole)))

  module _ (staged : List ℕ) (is : staged ≡ bytes ++ piece body) where
    staged_parts : staged ≡ frames (front_bodies end bytes) ++ slice_index bytes end ∷ piece body
    staged_parts = is ∙ ap (λ (l : List ℕ). l ++ piece body) parts ∙ append_assoc (frames (front_bodies end bytes)) (slice_index bytes end ∷ []) (piece body)

    length-staged : length staged ≡ end + 6 + length body
    length-staged = omega (arith, ap length is, length-append bytes (piece body), whole, length-piece body)

    pub front_staged : front_bodies end staged ≡ front_bodies end bytes
    front_staged = front_is (front_bodies end bytes) end staged (slice_index bytes end ∷ piece body) fits at staged_parts

    pub piece_staged : drop (end + 1) staged ≡ piece body
    piece_staged = ap (λ (l : List ℕ). drop (end + 1) l) is ∙ drop_at bytes (piece body) (end + 1) whole

    behind : drop (end + 5) staged ≡ body ++ 0 ∷ []
    unfolding piece
    behind =
        let sum : end + 5 ≡ end + 1 + 4 = omega arith in
        ap (λ (n : ℕ). drop n staged) sum
        ∙ sym (drop-drop 4 (end + 1) staged)
        ∙ ap (λ (l : List ℕ). drop 4 l) (piece_staged ∙ append_assoc (number_bytes (length body)) body (0 ∷ []))
        ∙ drop_at (number_bytes (length body)) (body ++ 0 ∷ []) 4 (length-number_bytes (length body))

    pub behind_staged : body_behind end staged ≡ Some body
    behind_staged =
        let size : length staged - (end + 6) ≡ length body = omega (arith, length-staged) in
        let taken : take (length staged - (end + 6)) (drop (end + 5) staged) ≡ body =
        ap (λ (n : ℕ). take n (drop (end + 5) staged)) size ∙ ap (λ (l : List ℕ). take (length body) l) behind ∙ take_at body (0 ∷ []) (length body) refl in
        let more : end + 1 < length staged = omega (arith, length-staged) in
        grind (arith, nat_tests)

    pub opened_raw : slice_set staged end 165 ≡ frames (front_bodies end bytes) ++ 165 ∷ piece body
    opened_raw = ap (λ (l : List ℕ). slice_set l end 165) staged_parts ∙ set_at (frames (front_bodies end bytes)) (slice_index bytes end) (piece body) 165 end (sym at)

    pub gate_staged : slice_index staged end ≡ slice_index bytes end
    gate_staged = ap (λ (l : List ℕ). slice_index l end) staged_parts ∙ get_or_at (frames (front_bodies end bytes)) (slice_index bytes end) (piece body) 0 end (sym at)

    pub front_same : take end staged ≡ take end bytes
    front_same = ap (λ (l : List ℕ). take end l) is ∙ take-append-le end bytes (piece body) (omega (arith, whole))

    pub opened_parts : slice_set staged end 165 ≡ frames (front_bodies end bytes ++ body ∷ []) ++ 0 ∷ []
    unfolding piece
    opened_parts =
        ap (λ (l : List ℕ). slice_set l end 165) staged_parts
        ∙ set_at (frames (front_bodies end bytes)) (slice_index bytes end) (piece body) 165 end (sym at)
        ∙ sym (append_assoc (frames (front_bodies end bytes)) (frame body) (0 ∷ []))
        ∙ ap (λ (l : List ℕ). l ++ 0 ∷ []) (sym (frames-push (front_bodies end bytes) body))

module _ (tells : Type 0) (size : ℕ) (seen : List ℕ) (may : List ℕ → Type 0) (stopped : Bool) (end : ℕ) (bytes body : List ℕ) (live : Bool) (is_live : live ≡ true)
    (sound : Sound tells size seen may stopped bytes end live) (staged : List ℕ) (is : staged ≡ bytes ++ piece body) (q : List ℕ) (q_is : q ≡ drop (end + 1) staged) where
  old_settled : Settled tells size seen may stopped bytes end
  old_settled = sound.settled is_live

  q_piece : q ≡ piece body
  q_piece = q_is ∙ piece_staged end bytes body sound.framed sound.fits old_settled.whole staged is

  front_seen : tells → take end seen ≡ frames (front_bodies end bytes)
  front_seen t =
      sym (take-take end (end + 1) seen (omega arith)) ∙ ap (λ (l : List ℕ). take end l) (old_settled.same t) ∙ sym sound.framed

  pub front_opened : (end' : ℕ) → Fits body → end' + 1 ≡ length staged → front_bodies end' (slice_set staged end 165) ≡ front_bodies end bytes ++ body ∷ []
  front_opened end' fit at_end =
      let bodies = front_bodies end bytes in
      let shape = opened_parts end bytes body sound.framed sound.fits old_settled.whole staged is in
      front_is (bodies ++ body ∷ []) end' (slice_set staged end 165) (0 ∷ []) (fits-push bodies body sound.fits fit)
      (omega (arith, ap length shape, length-append (frames (bodies ++ body ∷ [])) (0 ∷ []), length-set staged end 165, at_end)) shape

  pub sound_opened : (size' : ℕ) (seen' : List ℕ) (may' : List ℕ → Type 0) (stopped' : Bool) (end' : ℕ) → Fits body → stopped' ≡ false → end + 1 + length q ≤ size'
      → (tells → take (end + 1 + length q) seen' ≡ take end seen ++ 165 ∷ q) → (tells → Only seen' may') → end' + 1 ≡ length staged
      → Sound tells size' seen' may' stopped' (slice_set staged end 165) end' live
  sound_opened size' seen' may' stopped' end' fit passes inside written only at_end =
      let bodies = front_bodies end bytes in
      let bytes' = slice_set staged end 165 in
      let shape : bytes' ≡ frames (bodies ++ body ∷ []) ++ 0 ∷ [] = opened_parts end bytes body sound.framed sound.fits old_settled.whole staged is in
      let long : length bytes' ≡ length staged = length-set staged end 165 in
      let at' : end' ≡ length (frames (bodies ++ body ∷ [])) = omega (arith, ap length shape, length-append (frames (bodies ++ body ∷ [])) (0 ∷ []), long, at_end) in
      let front : front_bodies end' bytes' ≡ bodies ++ body ∷ [] = front_opened end' fit at_end in
      let size_q : length q ≡ 5 + length body = ap length q_piece ∙ length-piece body in
      let size_staged : length staged ≡ end + 1 + length q = omega (arith, ap length is, length-append bytes (piece body), old_settled.whole, length-piece body, size_q) in
      let zero_gate : slice_index bytes' end' ≡ 0 = ap (λ (l : List ℕ). slice_index l end') shape ∙ get_or_at (frames (bodies ++ body ∷ [])) 0 [] 0 end' (sym at') in
      record {
        framed = ap frames front ∙ sym (take_at (frames (bodies ++ body ∷ [])) (0 ∷ []) end' (sym at')) ∙ ap (λ (l : List ℕ). take end' l) (sym shape);
        fits = subst AllFit (sym front) (fits-push bodies body sound.fits fit);
        gate = omega (arith, long, at_end);
        shut = λ is_open. absurd (omega (arith, zero_gate, is_open));
        behind = inl (omega (arith, long, at_end));
        settled = λ _. record {
          whole = omega (arith, long, at_end);
          inside = omega (arith, inside, size_staged, at_end);
          passes = passes;
          same = λ t.
              let n_is : end' + 1 ≡ end + 1 + length q = omega (arith, size_staged, at_end) in
              ap (λ (n : ℕ). take n seen') n_is ∙ written t
              ∙ ap (λ (l : List ℕ). l ++ 165 ∷ q) (front_seen t)
              ∙ ap (λ (l : List ℕ). frames bodies ++ 165 ∷ l) q_piece
              ∙ gated;
          only = only;
        };
        stood = λ dead. absurd (cc (dead, is_live));
      }
    where
      gated : frames (front_bodies end bytes) ++ 165 ∷ piece body ≡ slice_set staged end 165
      gated = sym (opened_raw end bytes body sound.framed sound.fits old_settled.whole staged is)

  pub sound_stopped : (size' : ℕ) (seen' : List ℕ) (may' : List ℕ → Type 0) (stopped' : Bool) → Fits body
      → (tells → (c : List ℕ) → may' c → StagedOrOpened end q seen c)
      → Sound tells size' seen' may' stopped' staged end false
  sound_stopped size' seen' may' stopped' fit images =
      let bodies = front_bodies end bytes in
      let front : front_bodies end staged ≡ bodies = front_staged end bytes body sound.framed sound.fits old_settled.whole staged is in
      record {
        framed = ap frames front ∙ sound.framed ∙ sym (front_same end bytes body sound.framed sound.fits old_settled.whole staged is);
        fits = subst AllFit (sym front) sound.fits;
        gate = omega (arith, ap length is, length-append bytes (piece body), old_settled.whole);
        shut = λ is_open. sound.shut (sym (gate_staged end bytes body sound.framed sound.fits old_settled.whole staged is) ∙ is_open);
        behind = inr (omega (arith, ap length is, length-append bytes (piece body), old_settled.whole, length-piece body));
        settled = λ alive. absurd (cc alive);
        stood = λ _ t c left.
            let found : IsLogOf bodies (Some body) c = ⊎_elim (before fit t c) (after fit t c) (images t c left) in
            let P : List (List ℕ) → Option (List ℕ) → Type 0 = λ bs b. IsLogOf bs b c in
            subst (λ (b : Option (List ℕ)). P (front_bodies end staged) b) (sym (behind_staged end bytes body sound.framed sound.fits old_settled.whole staged is)) (subst (λ (bs : List (List ℕ)). P bs (Some body)) (sym front) found);
      }
    where
      before : Fits body → tells → (c : List ℕ) → take (end + 1) c ≡ take (end + 1) seen → IsLogOf (front_bodies end bytes) (Some body) c
      before f t c same =
          let shape : c ≡ frames (front_bodies end bytes) ++ slice_index bytes end ∷ drop (end + 1) c =
          sym (take-append-drop (end + 1) c) ∙ ap (λ (l : List ℕ). l ++ drop (end + 1) c) (same ∙ old_settled.same t ∙ parts end bytes body sound.framed sound.fits old_settled.whole)
          ∙ append_assoc (frames (front_bodies end bytes)) (slice_index bytes end ∷ []) (drop (end + 1) c) in
          inl (inr (slice_index bytes end, drop (end + 1) c, record { whole = shape; shut = sound.shut; fits = sound.fits }))

      after : Fits body → tells → (c : List ℕ) → (take end c ≡ take end seen) × (take (length q) (drop (end + 1) c) ≡ q) → IsLogOf (front_bodies end bytes) (Some body) c
      after f t c (same, behind) =
          let rest = drop (length q) (drop (end + 1) c) in
          let long : end < length c = omega (arith, ap length behind, length-take (length q) (drop (end + 1) c), length-drop (end + 1) c, ap length q_piece, length-piece body) in
          let tail : drop (end + 1) c ≡ piece body ++ rest = sym (take-append-drop (length q) (drop (end + 1) c)) ∙ ap (λ (l : List ℕ). l ++ rest) (behind ∙ q_piece) in
          let shape : c ≡ frames (front_bodies end bytes) ++ get_or c end 0 ∷ (piece body ++ rest) =
          sym (take-append-drop end c) ∙ ap (λ (l : List ℕ). l ++ drop end c) (same ∙ front_seen t)
          ∙ ap (λ (l : List ℕ). frames (front_bodies end bytes) ++ l) (drop_more c end 0 long ∙ ap (λ (l : List ℕ). get_or c end 0 ∷ l) tail) in
          either c (front_bodies end bytes) body (get_or c end 0) rest sound.fits f shape
