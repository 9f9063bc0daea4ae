-- Frames one after the other: what stands at the front, what is left, and where it goes wrong.
use Rattle.std.proofs.Common.{◌≡◌, ℕ, suc, ◌+◌, ◌-◌, ◌<◌, ◌≤◌, List, [], ◌∷◌, ◌++◌, length, take, drop, None, Ok, Err, refl, sym, ap, subst, ◌∙◌, append_assoc, arith}
use Rattle.std.specs.List.{flat_map, AllByRecursion}
use Rattle.std.proofs.lemmas.List.{append-nil, take-append-drop, length-append, take_at, drop_at}
use Rattle.std.proofs.lemmas.List.Concat.{flat_map-append}
use Rattle.mq_frame.specs.declared.fault.Miss.TheVariants.{Short, Wrong}
use Rattle.mq_frame.specs.declared.fault.Miss.{Miss}
use Rattle.mq_frame.specs.declared.frame.Frame.{Frame}
use Rattle.mq_frame.specs.declared.frame.FrameKind.TheVariants as kinds
use Rattle.mq_frame.specs.declared.frame.Seen.{Seen}
use Rattle.mq_frame.specs.declared.frame.Seen.TheVariants as seens
use Rattle.mq_frame.specs.Sight.{Shows}
use Rattle.mq_frame.specs.Frames.{frame_bytes, IsFrame, MayGoOn, IsBadAt, IsPartial, IsCut}
use Rattle.mq_frame.specs.Decoding.{Decoding, counted, HasGiven}
use Rattle.mq_frame.specs.Reading.{IsBytes, frame_at}
use Rattle.mq_frame.proofs.Readers.{one_ok, ok_err, Reads-one, IsBytes-rest}
use Rattle.mq_frame.proofs.KindReaders.{SpellsFrame, Reads-frame}

-- no spelling of a frame begins another
pub one_frame : (f g : Frame) (x y : List ℕ) → IsFrame f → IsFrame g → frame_bytes f ++ x ≡ frame_bytes g ++ y → (f ≡ g) × (x ≡ y)
one_frame f g x y hf hg e =
    let same = Reads-one frame_at SpellsFrame Reads-frame f g (frame_bytes f) (frame_bytes g) x y (hf, refl) (hg, refl) e in
    (same.value, same.rest)

pub frame_long : (f : Frame) → 4 ≤ length (frame_bytes f)
unfolding frame_bytes
frame_long f = omega arith

-- ---- lists of frames

abbrev AreAll : List Frame → Type 0
AreAll frames = AllByRecursion IsFrame frames

all_append : (fs gs : List Frame) → AreAll fs → AreAll gs → AreAll (fs ++ gs)
all_append [] gs p q = q
all_append (f ∷ fs) gs p q = (p.0, all_append fs gs p.1 q)

abbrev spelled : List Frame → List ℕ
spelled frames = flat_map frame_bytes frames

spelled_one : (f : Frame) → spelled (f ∷ []) ≡ frame_bytes f
spelled_one f = append-nil (frame_bytes f)

-- what stands behind frames that begin a list of frames
record Behind (fs gs : List Frame) (x : List ℕ) : Type 0 where
  pub rest : List Frame
  pub parts : gs ≡ fs ++ rest
  pub whole : x ≡ spelled rest
  pub each : AreAll rest

behind : (fs gs : List Frame) (x : List ℕ) → AreAll fs → AreAll gs → spelled fs ++ x ≡ spelled gs → Behind fs gs x
behind [] gs x p q e = record { rest = gs; parts = refl; whole = e; each = q }
behind (f ∷ fs) [] x p q e =
    absurd (let n : length ((frame_bytes f ++ spelled fs) ++ x) ≡ 0 = ap length e in
    omega (arith, n, frame_long f, length-append (frame_bytes f ++ spelled fs) x, length-append (frame_bytes f) (spelled fs)))
behind (f ∷ fs) (g ∷ gs) x p q e =
    let h = one_frame f g (spelled fs ++ x) (spelled gs) p.0 q.0 (sym (append_assoc (frame_bytes f) (spelled fs) x) ∙ e) in
    let b = behind fs gs x p.1 q.1 h.1 in
    record {
      rest = b.rest;
      parts = ap (λ (v : Frame). v ∷ gs) (sym h.0) ∙ ap (λ (v : List Frame). f ∷ v) b.parts;
      whole = b.whole;
      each = b.each;
    }

-- bytes behind frames may go on just as the bytes alone
may_behind : (fs : List Frame) (bytes : List ℕ) → AreAll fs → MayGoOn bytes → MayGoOn (spelled fs ++ bytes)
may_behind fs bytes p (frames, more, are) = (
  fs ++ frames,
  more,
  record {
    each = all_append fs frames p are.each;
    whole = append_assoc (spelled fs) bytes more ∙ ap (λ (x : List ℕ). spelled fs ++ x) are.whole ∙ sym (flat_map-append frame_bytes fs frames);
  },
)

may_alone : (fs : List Frame) (bytes : List ℕ) → AreAll fs → MayGoOn (spelled fs ++ bytes) → MayGoOn bytes
may_alone fs bytes p (frames, more, are) =
    let b = behind fs frames (bytes ++ more) p are.each (sym (append_assoc (spelled fs) bytes more) ∙ are.whole) in
    (b.rest, more, record { each = b.each; whole = b.whole })

take_behind : (front bytes : List ℕ) (n : ℕ) → take (length front + n) (front ++ bytes) ≡ front ++ take n bytes
take_behind [] bytes n = ap (λ (k : ℕ). take k bytes) (omega arith)
take_behind (b ∷ front) bytes n =
    let k : length (b ∷ front) + n ≡ suc (length front + n) = omega arith in
    ap (λ (m : ℕ). take m (b ∷ (front ++ bytes))) k ∙ ap (λ (x : List ℕ). b ∷ x) (take_behind front bytes n)

-- and go wrong at the same byte
pub bad_behind : (fs : List Frame) (bytes : List ℕ) (place : ℕ) → AreAll fs → IsBadAt bytes place → IsBadAt (spelled fs ++ bytes) (length (spelled fs) + place)
bad_behind fs bytes place p h =
    let next : length (spelled fs) + place + 1 ≡ length (spelled fs) + (place + 1) = omega arith in
    record {
      within = omega (arith, h.within, length-append (spelled fs) bytes);
      before = subst MayGoOn (sym (take_behind (spelled fs) bytes place)) (may_behind fs (take place bytes) p h.before);
      after = λ may. h.after (may_alone fs (take (place + 1) bytes) p (subst MayGoOn (ap (λ (n : ℕ). take n (spelled fs ++ bytes)) next ∙ take_behind (spelled fs) bytes (place + 1)) may));
    }

-- ---- what a reader of one frame finds

pub partial_of : (bytes : List ℕ) → IsBytes bytes → frame_at bytes ≡ Err Short → IsPartial bytes
partial_of bytes small e =
    let b = Reads-frame.short bytes small e in
    record { frame = b.value; next = b.next; more = b.more; is = b.spelled.0; begins = sym b.spelled.1 }

-- a part of a frame may go on
pub partial_may : (bytes : List ℕ) → IsPartial bytes → MayGoOn bytes
partial_may bytes h =
    (h.frame ∷ [], h.next ∷ h.more, record { each = (h.is, tt); whole = sym h.begins ∙ sym (spelled_one h.frame) })

never_list : (before : List ℕ) (byte : ℕ) (more : List ℕ) (frames : List Frame) → ((f : Frame) (text rest : List ℕ) → SpellsFrame f text → text ++ rest ≡ before ++ byte ∷ more → ⊥) → AreAll frames → before ++ byte ∷ more ≡ spelled frames → ⊥
never_list before byte more [] never each e =
    let n = ap length e in
    omega (arith, n, length-append before (byte ∷ more))
never_list before byte more (f ∷ frames) never each e = never f (frame_bytes f) (spelled frames) (each.0, refl) (sym e)

never_go : (before : List ℕ) (byte : ℕ) → ((f : Frame) (text rest more : List ℕ) → SpellsFrame f text → text ++ rest ≡ before ++ byte ∷ more → ⊥) → MayGoOn (before ++ byte ∷ []) → ⊥
never_go before byte never (frames, more, are) =
    never_list before byte more frames (λ f text rest s p. never f text rest more s p) are.each (sym (append_assoc before (byte ∷ []) more) ∙ are.whole)

pub bad_of : (bytes : List ℕ) (left : ℕ) → IsBytes bytes → frame_at bytes ≡ Err (Wrong left) → (left ≤ length bytes) × IsBadAt bytes (length bytes - left)
bad_of bytes left small e =
    let w = Reads-frame.wrong bytes left small e in
    let counted : length bytes ≡ length w.before + length (w.byte ∷ w.behind) = ap length w.parts ∙ length-append w.before (w.byte ∷ w.behind) in
    let place : length bytes - left ≡ length w.before = omega (arith, counted, w.counted) in
    let front : take (length bytes - left) bytes ≡ w.before = ap (take (length bytes - left)) w.parts ∙ take_at w.before (w.byte ∷ w.behind) (length bytes - left) (sym place) in
    let regrouped : bytes ≡ (w.before ++ w.byte ∷ []) ++ w.behind = w.parts ∙ sym (append_assoc w.before (w.byte ∷ []) w.behind) in
    let one_more : take (length bytes - left + 1) bytes ≡ w.before ++ w.byte ∷ [] = ap (take (length bytes - left + 1)) regrouped ∙ take_at (w.before ++ w.byte ∷ []) w.behind (length bytes - left + 1) (omega (arith, place, length-append w.before (w.byte ∷ []))) in (
      omega (arith, counted, w.counted),
      record {
        within = omega (arith, counted, w.counted);
        before = subst MayGoOn (sym front) (partial_may w.before (record { frame = w.begins.value; next = w.begins.next; more = w.begins.more; is = w.begins.spelled.0; begins = sym w.begins.spelled.1 }));
        after = λ may. never_go w.before w.byte (λ f text rest more s p. w.never f text rest more s p) (subst MayGoOn one_more may);
      },
    )

-- ---- frames at the front

-- the bytes are these frames and then the rest
pub record Front (bytes : List ℕ) (frames : List Frame) (rest : List ℕ) : Type 0 where
  pub each : AllByRecursion IsFrame frames
  pub whole : bytes ≡ flat_map frame_bytes frames ++ rest

pub front_none : (bytes : List ℕ) → Front bytes [] bytes
front_none bytes = record { each = tt; whole = refl }

pub front_more : (bytes : List ℕ) (frames : List Frame) (rest after : List ℕ) (f : Frame) → Front bytes frames rest → IsBytes rest → frame_at rest ≡ Ok (f, after) → Front bytes (frames ++ f ∷ []) after
front_more bytes frames rest after f h small e =
    let t = Reads-frame.got rest f after small e in
    let parts : rest ≡ frame_bytes f ++ after = t.parts ∙ ap (λ (x : List ℕ). x ++ after) t.spelled.1 in
    record {
      each = all_append frames (f ∷ []) h.each (t.spelled.0, tt);
      whole = h.whole ∙ ap (λ (x : List ℕ). spelled frames ++ x) parts ∙ sym (append_assoc (spelled frames) (frame_bytes f) after)
          ∙ ap (λ (x : List ℕ). (spelled frames ++ x) ++ after) (sym (spelled_one f)) ∙ ap (λ (x : List ℕ). x ++ after) (sym (flat_map-append frame_bytes frames (f ∷ [])));
    }

pub frame_shorter : (rest after : List ℕ) (f : Frame) → IsBytes rest → frame_at rest ≡ Ok (f, after) → length after < length rest
frame_shorter rest after f small e =
    let t = Reads-frame.got rest f after small e in
    let parts : rest ≡ frame_bytes f ++ after = t.parts ∙ ap (λ (x : List ℕ). x ++ after) t.spelled.1 in
    omega (arith, ap length parts, length-append (frame_bytes f) after, frame_long f)

pub front_cut : (bytes : List ℕ) (frames : List Frame) (rest : List ℕ) → Front bytes frames rest → IsBytes rest → frame_at rest ≡ Err Short → IsCut bytes frames rest
front_cut bytes frames rest h small e = record { each = h.each; whole = h.whole; partial = partial_of rest small e }

pub front_bad : (bytes : List ℕ) (frames : List Frame) (rest : List ℕ) (left : ℕ) → Front bytes frames rest → IsBytes rest → frame_at rest ≡ Err (Wrong left) → (left ≤ length bytes) × IsBadAt bytes (length bytes - left)
front_bad bytes frames rest left h small e =
    let b = bad_of rest left small e in
    let counted : length bytes ≡ length (spelled frames) + length rest = ap length h.whole ∙ length-append (spelled frames) rest in
    let place : length (spelled frames) + (length rest - left) ≡ length bytes - left = omega (arith, counted, b.0) in
    (omega (arith, counted, b.0), subst (λ (n : ℕ). IsBadAt bytes n) place (subst (λ (x : List ℕ). IsBadAt x (length (spelled frames) + (length rest - left))) (sym h.whole) (bad_behind frames rest (length rest - left) h.each b.1)))

-- ---- what came before

pub cut_more : (fed : List ℕ) (given : List Frame) (held piece : List ℕ) (frames : List Frame) (rest : List ℕ) → IsCut fed given held → IsCut (held ++ piece) frames rest → IsCut (fed ++ piece) (given ++ frames) rest
cut_more fed given held piece frames rest old new = record {
  each = all_append given frames old.each new.each;
  whole = ap (λ (x : List ℕ). x ++ piece) old.whole ∙ append_assoc (spelled given) held piece ∙ ap (λ (x : List ℕ). spelled given ++ x) new.whole ∙ sym (append_assoc (spelled given) (spelled frames) rest) ∙ ap (λ (x : List ℕ). x ++ rest) (sym (flat_map-append frame_bytes given frames));
  partial = new.partial;
}

pub bad_more : (fed : List ℕ) (given : List Frame) (held piece : List ℕ) (place : ℕ) → IsCut fed given held → IsBadAt (held ++ piece) place → IsBadAt (fed ++ piece) (length (flat_map frame_bytes given) + place)
bad_more fed given held piece place old bad =
    subst (λ (x : List ℕ). IsBadAt x (length (spelled given) + place)) (sym (append_assoc (spelled given) held piece) ∙ ap (λ (x : List ℕ). x ++ piece) (sym old.whole)) (bad_behind given (held ++ piece) place old.each bad)

first_byte : (f : Frame) → IsFrame f → (bytes : List ℕ) → frame_bytes f ≡ bytes → IsPartial []
first_byte f h [] e = absurd (omega (arith, ap length e, frame_long f))
first_byte f h (b ∷ bytes) e = record { frame = f; next = b; more = bytes; is = h; begins = e }

-- an ACK begins with whatever begins nothing
pub partial_none : IsPartial []
partial_none =
    let f : Frame = record { stamp = 0; session = 0; kind = kinds.Ack 0 } in
    first_byte f (record { stamp = omega arith; session = omega arith; kind = omega arith }) (frame_bytes f) refl

pub bytes_after : (rest after : List ℕ) (f : Frame) → IsBytes rest → frame_at rest ≡ Ok (f, after) → IsBytes after
bytes_after rest after f small e =
    let t = Reads-frame.got rest f after small e in
    IsBytes-rest t.text after (subst IsBytes t.parts small)

-- what is left, counted from the end
pub cut_answer : (bytes : List ℕ) (frames : List Frame) (rest : List ℕ) → Front bytes frames rest → IsBytes rest → frame_at rest ≡ Err Short → (length rest ≤ length bytes) × IsCut bytes frames (drop (length bytes - length rest) bytes)
cut_answer bytes frames rest h small e =
    let n : length bytes ≡ length (spelled frames) + length rest = ap length h.whole ∙ length-append (spelled frames) rest in
    let behind : drop (length bytes - length rest) bytes ≡ rest = ap (drop (length bytes - length rest)) h.whole ∙ drop_at (spelled frames) rest (length bytes - length rest) (omega (arith, n)) in
    (omega (arith, n), subst (IsCut bytes frames) (sym behind) (front_cut bytes frames rest h small e))

pub fresh_given : (held : List ℕ) → held ≡ [] → HasGiven (record { held = held; before = 0; broken = None }) [] []
fresh_given held e = record { ready = refl; before = refl; cut = record { each = tt; whole = sym e; partial = subst IsPartial (sym e) partial_none } }

-- the place of the wrong byte, counted over all that was fed
pub told_place : (d : Decoding) (fed : List ℕ) (given : List Frame) (piece bytes : List ℕ) (left place : ℕ) → HasGiven d fed given → bytes ≡ d.held ++ piece → (left ≤ length bytes) × IsBadAt bytes (length bytes - left) → place ≡ counted (d.before + (length bytes - left)) → (at : ℕ) × IsBadAt (fed ++ piece) at × (place ≡ counted at)
told_place d fed given piece bytes left place h whole bad e =
    (length (spelled given) + (length bytes - left), bad_more fed given d.held piece (length bytes - left) h.cut (subst (λ (x : List ℕ). IsBadAt x (length bytes - left)) whole bad.1), omega (arith, e, h.before))

-- ---- one way alone

-- a part of a frame is no frame with bytes behind it
no_part : (f : Frame) (rest after : List ℕ) → IsFrame f → IsPartial rest → rest ≡ frame_bytes f ++ after → ⊥
no_part f rest after is part e =
    let whole : frame_bytes part.frame ++ [] ≡ frame_bytes f ++ (after ++ part.next ∷ part.more) = append-nil (frame_bytes part.frame) ∙ part.begins ∙ ap (λ (x : List ℕ). x ++ part.next ∷ part.more) e ∙ append_assoc (frame_bytes f) after (part.next ∷ part.more) in
    let same = one_frame part.frame f [] (after ++ part.next ∷ part.more) part.is is whole in
    omega (arith, ap length same.1, length-append after (part.next ∷ part.more))

one_way : (fs gs : List Frame) (r s : List ℕ) → AllByRecursion IsFrame fs → AllByRecursion IsFrame gs → IsPartial r → IsPartial s → flat_map frame_bytes fs ++ r ≡ flat_map frame_bytes gs ++ s → (fs ≡ gs) × (r ≡ s)
one_way [] [] r s p q hr hs e = (refl, e)
one_way [] (g ∷ gs) r s p q hr hs e = absurd (no_part g r (spelled gs ++ s) q.0 hr (e ∙ append_assoc (frame_bytes g) (spelled gs) s))
one_way (f ∷ fs) [] r s p q hr hs e = absurd (no_part f s (spelled fs ++ r) p.0 hs (sym e ∙ append_assoc (frame_bytes f) (spelled fs) r))
one_way (f ∷ fs) (g ∷ gs) r s p q hr hs e =
    let h = one_frame f g (spelled fs ++ r) (spelled gs ++ s) p.0 q.0 (sym (append_assoc (frame_bytes f) (spelled fs) r) ∙ e ∙ append_assoc (frame_bytes g) (spelled gs) s) in
    let k = one_way fs gs r s p.1 q.1 hr hs h.1 in
    (ap (λ (v : Frame). v ∷ fs) h.0 ∙ ap (λ (v : List Frame). g ∷ v) k.0, k.1)

pub one_cut : (bytes : List ℕ) (fs gs : List Frame) (r s : List ℕ) → IsCut bytes fs r → IsCut bytes gs s → (fs ≡ gs) × (r ≡ s)
one_cut bytes fs gs r s p q = one_way fs gs r s p.each q.each p.partial q.partial (sym p.whole ∙ q.whole)

-- ---- what one item shows

pub shows_frame : (bytes : List ℕ) (f : Frame) (rest : List ℕ) → IsBytes bytes → rest ≡ [] → frame_at bytes ≡ Ok (f, rest) → IsFrame f × (bytes ≡ frame_bytes f)
shows_frame bytes f rest small none e =
    let t = Reads-frame.got bytes f rest small e in
    (t.spelled.0, t.parts ∙ ap (λ (x : List ℕ). t.text ++ x) none ∙ append-nil t.text ∙ t.spelled.1)

read_whole : (g : Frame) (bytes : List ℕ) → IsFrame g → bytes ≡ frame_bytes g → frame_at bytes ≡ Ok (g, [])
read_whole g bytes is e = ap frame_at (e ∙ sym (append-nil (frame_bytes g))) ∙ Reads-frame.again g (frame_bytes g) [] (is, refl)

pub shows_more : (bytes : List ℕ) (f : Frame) (rest : List ℕ) → (rest ≡ [] → ⊥) → frame_at bytes ≡ Ok (f, rest) → (g : Frame) → IsFrame g → bytes ≡ frame_bytes g → ⊥
shows_more bytes f rest some e g is p = some (one_ok (frame_at bytes) f g rest [] e (read_whole g bytes is p)).1

pub shows_none : (bytes : List ℕ) (miss : Miss) → frame_at bytes ≡ Err miss → (g : Frame) → IsFrame g → bytes ≡ frame_bytes g → ⊥
shows_none bytes miss e g is p = ok_err (frame_at bytes) (g, []) miss (read_whole g bytes is p) e

-- ---- what may go on

pub cut_may : (bytes : List ℕ) (frames : List Frame) (rest : List ℕ) → IsCut bytes frames rest → MayGoOn bytes
cut_may bytes frames rest h = subst MayGoOn (sym h.whole) (may_behind frames rest h.each (partial_may rest h.partial))

pub bad_never : (bytes : List ℕ) (place : ℕ) → IsBadAt bytes place → MayGoOn bytes → ⊥
bad_never bytes place h (frames, more, are) =
    let regrouped : take (place + 1) bytes ++ (drop (place + 1) bytes ++ more) ≡ bytes ++ more = sym (append_assoc (take (place + 1) bytes) (drop (place + 1) bytes) more) ∙ ap (λ (x : List ℕ). x ++ more) (take-append-drop (place + 1) bytes) in
    h.after (frames, drop (place + 1) bytes ++ more, record { each = are.each; whole = regrouped ∙ are.whole })

-- bytes show one thing
pub one_sight : (bytes : List ℕ) (seen other : Seen) → Shows bytes seen → Shows bytes other → seen ≡ other
one_sight bytes seens.Nothing other h k = absurd h
one_sight bytes seen seens.Nothing h k = absurd k
one_sight bytes seens.Spoiled seens.Spoiled h k = refl
one_sight bytes seens.Spoiled (seens.Frame g) h k = absurd (h g k.0 k.1)
one_sight bytes (seens.Frame f) seens.Spoiled h k = absurd (k f h.0 h.1)
one_sight bytes (seens.Frame f) (seens.Frame g) h k =
    ap seens.Frame (one_frame f g [] [] h.0 k.0 (ap (λ (x : List ℕ). x ++ []) (sym h.1 ∙ k.1))).0
