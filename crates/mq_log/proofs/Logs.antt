-- Which bytes are a log, and of which bodies.
use Rattle.std.proofs.Common.{◌≡◌, ◌≢◌, ◌⊎◌, inl, inr, ℕ, ◌+◌, ◌<◌, ◌≤◌, min, List, [], ◌∷◌, ◌++◌, length, take, drop, refl, sym, ◌∙◌, ap, subst, arith, append_assoc, length-append, length-take, length-drop, take-append-drop, get_or, Bor}
use Rattle.std.proofs.lemmas.List.{take_at, drop_at, drop_more, take-take, length-take-le, get_or-take, drop-take, drop-drop}
use Rattle.std.proofs.lemmas.Grind.{common_steps}
use Rattle.std.proofs.Math.Seq.{take-add}
use Rattle.std.proofs.lemmas.Bool.{cases_eq}
use Rattle.std.proofs.lemmas.Bool.Decides.{nat_tests}
use Rattle.std.specs.Prelude.{slice_index, Option, Some, None}
use Rattle.mq_log.specs.Bodies.{number_bytes, number_of, frame, frames, bodies_within, bodies_of, Fits, AllFit, IsLog, IsNoLog}
use Rattle.mq_log.specs.State.{front_bodies, log_length, IsBeforeOrAfter, IsLogOf}
use Rattle.mq_log.specs.declared.open.StartFault.{StartFault}
use Rattle.mq_log.specs.declared.open.StartFault.TheVariants.{Disk, Cut, BadLog, NoMemory}
use Rattle.mq_log.specs.Open.{Front, IsBad, IsBadOf, IsNotBad}
use Rattle.mq_log.specs.Walk.{Walks}
use Rattle.mq_log.proofs.Framed.{bodies_of-closed, length-number_bytes, number_of-number_bytes, frames-push, fits-push, piece}
use Rattle.mq_log.proofs.Scanned.{front_kept}

-- fewer than two bytes hold no body
pub short : (c : List ℕ) → length c ≤ 1 → bodies_of c ≡ []
unfolding bodies_of bodies_within
short [] le = refl
short (gate ∷ []) le = grind (arith, nat_tests)
short (gate ∷ b ∷ c) le = absurd (omega arith)

-- the bodies of a log
pub read_of : (c : List ℕ) (bodies : List (List ℕ)) → IsLog c bodies → bodies_of c ≡ bodies
read_of c bodies (inl (few, none)) = short c few ∙ sym none
read_of c bodies (inr (gate, rest, log)) = ap bodies_of log.whole ∙ bodies_of-closed bodies gate rest log.fits log.shut

pub log_is_one : (c : List ℕ) (a b : List (List ℕ)) → IsLog c a → IsLog c b → a ≡ b
log_is_one c a b first second = sym (read_of c a first) ∙ read_of c b second

-- frames can be told apart
pub frame_is_one : (a b r s : List ℕ) → Fits a → Fits b → frame a ++ r ≡ frame b ++ s → (a ≡ b) × (r ≡ s)
frame_is_one a b r s fit_a fit_b is =
    let left : frame a ++ r ≡ 165 ∷ (number_bytes (length a) ++ (a ++ r)) = ap (λ (l : List ℕ). 165 ∷ l) (append_assoc (number_bytes (length a)) a r) in
    let right : frame b ++ s ≡ 165 ∷ (number_bytes (length b) ++ (b ++ s)) = ap (λ (l : List ℕ). 165 ∷ l) (append_assoc (number_bytes (length b)) b s) in
    let both : number_bytes (length a) ++ (a ++ r) ≡ number_bytes (length b) ++ (b ++ s) = ap (λ (l : List ℕ). drop 1 l) (sym left ∙ is ∙ right) in
    let heads : number_bytes (length a) ≡ number_bytes (length b) =
    sym (take_at (number_bytes (length a)) (a ++ r) 4 (length-number_bytes (length a))) ∙ ap (λ (l : List ℕ). take 4 l) both ∙ take_at (number_bytes (length b)) (b ++ s) 4 (length-number_bytes (length b)) in
    let sizes : length a ≡ length b = sym (number_of-number_bytes (length a) fit_a) ∙ ap number_of heads ∙ number_of-number_bytes (length b) fit_b in
    let tails : a ++ r ≡ b ++ s =
    sym (drop_at (number_bytes (length a)) (a ++ r) 4 (length-number_bytes (length a))) ∙ ap (λ (l : List ℕ). drop 4 l) both ∙ drop_at (number_bytes (length b)) (b ++ s) 4 (length-number_bytes (length b)) in (
      sym (take_at a r (length a) refl) ∙ ap (λ (l : List ℕ). take (length a) l) tails ∙ take_at b s (length a) (sym sizes),
      sym (drop_at a r (length a) refl) ∙ ap (λ (l : List ℕ). drop (length a) l) tails ∙ drop_at b s (length a) (sym sizes),
    )

-- an open gate with a body behind it that fits isn't the gate of a body that is cut short
not_short : (body behind rest : List ℕ) → Fits body → 0 < length behind → frame body ++ behind ≡ 165 ∷ rest → length rest ≤ 4 + number_of (take 4 rest) → ⊥
not_short body behind rest fit some is few =
    let n = length body in
    let tail : rest ≡ number_bytes n ++ (body ++ behind) = ap (λ (l : List ℕ). drop 1 l) (sym is) ∙ append_assoc (number_bytes n) body behind in
    let number : number_of (take 4 rest) ≡ n = ap (λ (l : List ℕ). number_of (take 4 l)) tail ∙ ap number_of (take_at (number_bytes n) (body ++ behind) 4 (length-number_bytes n)) ∙ number_of-number_bytes n fit in
    absurd (omega (arith, ap length tail, length-append (number_bytes n) (body ++ behind), length-append body behind, length-number_bytes n, number, few, some))

shut_or_short : (a b : List (List ℕ)) (gate : ℕ) (r rest : List ℕ) → AllFit a → AllFit b → gate ≢ 165 → frames a ++ gate ∷ r ≡ frames b ++ 165 ∷ rest → length rest ≤ 4 + number_of (take 4 rest) → ⊥
shut_or_short [] [] gate r rest fit_a fit_b shut is few = shut (ap (λ (l : List ℕ). get_or l 0 0) is)
shut_or_short [] (y ∷ ys) gate r rest fit_a fit_b shut is few = shut (ap (λ (l : List ℕ). get_or l 0 0) is)
shut_or_short (x ∷ xs) [] gate r rest fit_a fit_b shut is few =
    not_short x (frames xs ++ gate ∷ r) rest fit_a.0 (omega (arith, length-append (frames xs) (gate ∷ r))) (sym (append_assoc (frame x) (frames xs) (gate ∷ r)) ∙ is) few
shut_or_short (x ∷ xs) (y ∷ ys) gate r rest fit_a fit_b shut is few =
    let split = frame_is_one x y (frames xs ++ gate ∷ r) (frames ys ++ 165 ∷ rest) fit_a.0 fit_b.0 (sym (append_assoc (frame x) (frames xs) (gate ∷ r)) ∙ is ∙ append_assoc (frame y) (frames ys) (165 ∷ rest)) in
    shut_or_short xs ys gate r rest fit_a.1 fit_b.1 shut split.1 few

-- no bytes are both a log and no log
pub not_both : (c : List ℕ) (bodies : List (List ℕ)) (place : ℕ) → IsLog c bodies → IsNoLog c place → ⊥
not_both c bodies place (inl (few, none)) (found, rest, bad) = absurd (omega (arith, few, bad.some))
not_both c bodies place (inr (gate, r, log)) (found, rest, bad) = shut_or_short bodies found gate r rest log.fits bad.fits log.shut (sym log.whole ∙ bad.whole) bad.short

-- a closed gate behind whole bodies makes a log
pub shut_log : (at : ℕ) (c : List ℕ) → at < length c → Front at c → slice_index c at ≢ 165 → IsLog c (front_bodies at c)
shut_log at c inside front shut = inr (
  slice_index c at,
  drop (at + 1) c,
  record {
    whole =
        sym (take-append-drop at c) ∙ ap (λ (l : List ℕ). l ++ drop at c) (sym front.framed) ∙ ap (λ (l : List ℕ). frames (front_bodies at c) ++ l) (drop_more c at 0 inside);
    shut = shut;
    fits = front.fits;
  },
)

shortest : (n : ℕ) (l : List ℕ) → take (min n (length l)) l ≡ take n l
shortest n l = grind (arith, common_steps)

-- what was read of some bytes and more of what stands behind it
pub grown : (seen old more new : List ℕ) (n place : ℕ) → new ≡ old ++ more → old ≡ take (length old) seen → place ≡ length old → more ≡ take n (drop place seen) → new ≡ take (length new) seen
grown seen old more new n place is front at more_is =
    let behind : more ≡ take n (drop (length old) seen) = more_is ∙ ap (λ (k : ℕ). take n (drop k seen)) at in
    let m = length old + n in
    let all : new ≡ take m seen = is ∙ ap (λ (l : List ℕ). l ++ more) front ∙ ap (λ (l : List ℕ). take (length old) seen ++ l) behind ∙ sym (take-add (length old) n seen) in
    let size : length new ≡ min m (length seen) = ap length all ∙ length-take m seen in
    all ∙ sym (ap (λ (k : ℕ). take k seen) size ∙ shortest m seen)

module _ (seen read : List ℕ) (is : read ≡ take (length read) seen) where
  within : length read ≤ length seen
  within = omega (arith, ap length is, length-take (length read) seen)

  pub take_read : (n : ℕ) → n ≤ length read → take n seen ≡ take n read
  take_read n le = sym (take-take n (length read) seen le) ∙ ap (λ (l : List ℕ). take n l) (sym is)

  gate_read : (at : ℕ) → at < length read → slice_index seen at ≡ slice_index read at
  gate_read at inside = sym (get_or-take (length read) seen at 0 inside) ∙ ap (λ (l : List ℕ). slice_index l at) (sym is)

  module _ (at : ℕ) (inside : at < length read) (front : Front at read) where
    front_seen : Front at seen
    front_seen = front_kept at read seen (take_read at (omega arith)) front

    same_bodies : front_bodies at seen ≡ front_bodies at read
    same_bodies = ap (λ (l : List ℕ). bodies_of (l ++ 0 ∷ [])) (take_read at (omega arith))

    pub read_log : slice_index read at ≢ 165 → IsLog seen (front_bodies at read)
    read_log shut =
        subst (λ (bs : List (List ℕ)). IsLog seen bs) same_bodies
        (shut_log at seen (omega (arith, inside, within)) front_seen (λ is_open. shut (sym (gate_read at inside) ∙ is_open)))

    four_read : at + 5 ≤ length read → take 4 (drop (at + 1) seen) ≡ take 4 (drop (at + 1) read)
    four_read long =
        let n : at + 1 + 4 ≡ at + 5 = omega arith in
        sym (drop-take (at + 1) 4 seen) ∙ ap (λ (m : ℕ). drop (at + 1) (take m seen)) n ∙ ap (λ (l : List ℕ). drop (at + 1) l) (take_read (at + 5) long)
        ∙ ap (λ (m : ℕ). drop (at + 1) (take m read)) (sym n) ∙ drop-take (at + 1) 4 read

    pub read_bad : (size : ℕ) → size ≡ length seen → 1 < size → IsBad at size read → IsNoLog seen at
    read_bad size whole some bad = (
      front_bodies at read,
      drop (at + 1) seen,
      record {
        some = omega (arith, whole, some);
        whole =
            sym (take-append-drop at seen)
            ∙ ap (λ (l : List ℕ). l ++ drop at seen) (take_read at (omega arith) ∙ sym front.framed)
            ∙ ap (λ (l : List ℕ). frames (front_bodies at read) ++ l) (drop_more seen at 0 (omega (arith, inside, within)) ∙ ap (λ (g : ℕ). g ∷ drop (at + 1) seen) (gate_read at inside ∙ bad.is_open));
        at = sym (length-take-le at read (omega (arith, inside))) ∙ ap length (sym front.framed);
        fits = front.fits;
        short = cut bad.cut_short;
      },
    )
      where
        cut : (size < at + 5) ⊎ ((at + 5 ≤ length read) × (size ≤ at + 5 + number_of (take 4 (drop (at + 1) read)))) → length (drop (at + 1) seen) ≤ 4 + number_of (take 4 (drop (at + 1) seen))
        cut (inl small) = omega (arith, length-drop (at + 1) seen, whole, small)
        cut (inr (long, small)) = omega (arith, length-drop (at + 1) seen, whole, small, ap number_of (four_read long))

-- fewer than two bytes are the same log as others
pub short_log : (c d : List ℕ) (bodies : List (List ℕ)) → length c ≤ 1 → length d ≤ 1 → IsLog d bodies → IsLog c bodies
short_log c d bodies few_c few_d (inl (few, none)) = inl (few_c, none)
short_log c d [] few_c few_d (inr (gate, rest, log)) = inl (few_c, refl)
short_log c d (b ∷ bs) few_c few_d (inr (gate, rest, log)) =
    absurd (omega (arith, few_d, ap length log.whole, length-append (frame b ++ frames bs) (gate ∷ rest), length-append (frame b) (frames bs), length-append (number_bytes (length b)) b, length-number_bytes (length b)))

pub short_log_of : (c d : List ℕ) (bodies : List (List ℕ)) (pending : Option (List ℕ)) → length c ≤ 1 → length d ≤ 1 → IsLogOf bodies pending d → IsLogOf bodies pending c
short_log_of c d bodies None few_c few_d log = short_log c d bodies few_c few_d log
short_log_of c d bodies (Some body) few_c few_d (inl log) = inl (short_log c d bodies few_c few_d log)
short_log_of c d bodies (Some body) few_c few_d (inr log) = inr (short_log c d (bodies ++ body ∷ []) few_c few_d log)

-- what is read of such bytes
pub before_or_after : (c : List ℕ) (bodies : List (List ℕ)) (pending : Option (List ℕ)) (found : List (List ℕ)) → IsLogOf bodies pending c → IsLog c found → IsBeforeOrAfter bodies pending found
before_or_after c bodies None found log read = log_is_one c found bodies read log
before_or_after c bodies (Some body) found (inl log) read = inl (log_is_one c found bodies read log)
before_or_after c bodies (Some body) found (inr log) read = inr (log_is_one c found (bodies ++ body ∷ []) read log)

pub not_bad_of : (c : List ℕ) (bodies : List (List ℕ)) (pending : Option (List ℕ)) (place : ℕ) → IsLogOf bodies pending c → IsNoLog c place → ⊥
not_bad_of c bodies None place log bad = not_both c bodies place log bad
not_bad_of c bodies (Some body) place (inl log) bad = not_both c bodies place log bad
not_bad_of c bodies (Some body) place (inr log) bad = not_both c (bodies ++ body ∷ []) place log bad

-- a log with a body has more than one byte
pub long_log : (c : List ℕ) (bodies : List (List ℕ)) → 0 < length bodies → IsLog c bodies → 1 < length c
long_log c [] some log = absurd (omega (arith, some))
long_log c (b ∷ bs) some (inl (few, none)) = absurd (omega (arith, ap length none))
long_log c (b ∷ bs) some (inr (gate, rest, log)) =
    omega (arith, ap length log.whole, length-append (frame b ++ frames bs) (gate ∷ rest), length-append (frame b) (frames bs), length-append (number_bytes (length b)) b, length-number_bytes (length b))

pub long_log_of : (c : List ℕ) (bodies : List (List ℕ)) (pending : Option (List ℕ)) → 0 < length bodies → IsLogOf bodies pending c → 1 < length c
long_log_of c bodies None some log = long_log c bodies some log
long_log_of c bodies (Some body) some (inl log) = long_log c bodies some log
long_log_of c bodies (Some body) some (inr log) = long_log c (bodies ++ body ∷ []) (omega (arith, length-append bodies (body ∷ []))) log

-- behind any gate the piece counts or it doesn't
pub either : (c : List ℕ) (bodies : List (List ℕ)) (body : List ℕ) (gate : ℕ) (rest : List ℕ) → AllFit bodies → Fits body → c ≡ frames bodies ++ gate ∷ (piece body ++ rest)
    → IsLog c bodies ⊎ IsLog c (bodies ++ body ∷ [])
unfolding piece
either c bodies body gate rest fits fit is = elim (cases_eq gate 165) [
  | inl is_open ↦ inr (inr (
    0,
    rest,
    record {
      whole =
          is ∙ ap (λ (n : ℕ). frames bodies ++ n ∷ (piece body ++ rest)) is_open
          ∙ ap (λ (l : List ℕ). frames bodies ++ 165 ∷ l) (append_assoc (number_bytes (length body) ++ body) (0 ∷ []) rest)
          ∙ sym (append_assoc (frames bodies) (frame body) (0 ∷ rest))
          ∙ ap (λ (l : List ℕ). l ++ 0 ∷ rest) (sym (frames-push bodies body));
      shut = λ zero. absurd (omega (arith, zero));
      fits = fits-push bodies body fits fit;
    },
  ))
  | inr shut ↦ inl (inr (gate, piece body ++ rest, record { whole = is; shut = shut; fits = fits }))
]

-- going through frames: where there is a body, there is an open gate with its length
pub no_gate : (all : List (List ℕ)) (framed : List ℕ) → framed ≡ frames all → (length framed < 5) ⊎ (slice_index framed 0 ≢ 165) → Walks all None
no_gate [] framed is none = refl
no_gate (body ∷ bodies) framed is (inl few) =
    absurd (omega (arith, few, ap length is, length-append (frame body) (frames bodies), length-append (number_bytes (length body)) body, length-number_bytes (length body)))
no_gate (body ∷ bodies) framed is (inr shut) = absurd (shut (ap (λ (l : List ℕ). slice_index l 0) is))

module _ (body : List ℕ) (bodies : List (List ℕ)) (framed : List ℕ) (fit : Fits body) (is : framed ≡ frames (body ∷ bodies)) where
  tail : drop 1 framed ≡ number_bytes (length body) ++ (body ++ frames bodies)
  tail = ap (λ (l : List ℕ). drop 1 l) is ∙ append_assoc (number_bytes (length body)) body (frames bodies)

  number_is : number_of (take 4 (drop 1 framed)) ≡ length body
  number_is =
      ap (λ (l : List ℕ). number_of (take 4 l)) tail ∙ ap number_of (take_at (number_bytes (length body)) (body ++ frames bodies) 4 (length-number_bytes (length body))) ∙ number_of-number_bytes (length body) fit

  behind_is : drop 5 framed ≡ body ++ frames bodies
  behind_is = sym (drop-drop 4 1 framed) ∙ ap (λ (l : List ℕ). drop 4 l) tail ∙ drop_at (number_bytes (length body)) (body ++ frames bodies) 4 (length-number_bytes (length body))

pub body_fits : (all : List (List ℕ)) (framed : List ℕ) (size : ℕ) → AllFit all → framed ≡ frames all → size ≡ number_of (take 4 (drop 1 framed)) → length (drop 5 framed) < size → Walks all None
body_fits [] framed size fits is number few = refl
body_fits (body ∷ bodies) framed size fits is number few =
    absurd (omega (arith, few, number, number_is body bodies framed fits.0 is, ap length (behind_is body bodies framed fits.0 is), length-append body (frames bodies)))

pub first_body : (all : List (List ℕ)) (framed : List ℕ) (size : ℕ) → AllFit all → framed ≡ frames all → size ≡ number_of (take 4 (drop 1 framed)) → 5 ≤ length framed
    → (body' rest' : Bor (List ℕ)) → body'.now ≡ take size (drop 5 framed) → rest'.now ≡ drop size (drop 5 framed) → Walks all (Some (record { body = body'; rest = record { framed = rest' } }))
first_body [] framed size fits is number long body' rest' body_is rest_is = absurd (omega (arith, long, ap length is))
first_body (body ∷ bodies) framed size fits is number long body' rest' body_is rest_is =
    let size_is : size ≡ length body = number ∙ number_is body bodies framed fits.0 is in
    let behind = behind_is body bodies framed fits.0 is in (
      body_is ∙ ap (λ (l : List ℕ). take size l) behind ∙ take_at body (frames bodies) size (sym size_is),
      rest_is ∙ ap (λ (l : List ℕ). drop size l) behind ∙ drop_at body (frames bodies) size (sym size_is),
    )

-- a restart finds no bad log where each outcome of a crash is a log
pub no_bad_fault : (c : List ℕ) (bodies : List (List ℕ)) (pending : Option (List ℕ)) (fault : StartFault) → IsLogOf bodies pending c → IsBadOf c fault → IsNotBad fault
no_bad_fault c bodies pending (BadLog place) log bad = not_bad_of c bodies pending place log bad
no_bad_fault c bodies pending Disk log bad = tt
no_bad_fault c bodies pending Cut log bad = tt
no_bad_fault c bodies pending NoMemory log bad = tt

-- the length of a log with one more body
pub log_length-push : (bodies : List (List ℕ)) (body : List ℕ) → log_length (bodies ++ body ∷ []) ≡ log_length bodies + (5 + length body)
log_length-push bodies body =
    let pushed : length (frames (bodies ++ body ∷ [])) ≡ length (frames bodies ++ frame body) = ap length (frames-push bodies body) in
    omega (arith, pushed, length-append (frames bodies) (frame body), length-append (number_bytes (length body)) body, length-number_bytes (length body))
