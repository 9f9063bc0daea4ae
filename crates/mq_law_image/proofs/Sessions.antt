-- How far the sessions of senders rise: no further than the Session records of the log say.
use Rattle.std.proofs.Common.{ℕ, ◌≡◌, ◌+◌, ◌≤◌, ◌<◌, ◌^◌, true, false, List, [], ◌∷◌, map, length, refl, ap, sym, subst, ◌∙◌, arith, inl, inr}
use Rattle.std.specs.Prelude.{Option, Some, None, Result, Ok, Err, if◌then◌else◌, ◌&&◌, nat_lt}
use Rattle.std.specs.List.{list_all}
use Rattle.std.proofs.lemmas.Bool.Decides.{nat_tests}
use Rattle.mq_sync.specs.declared.unit.Settle.{Settle}
use Rattle.mq_sync.specs.declared.unit.Settle.TheVariants.{Commit, Backout}
use Rattle.mq_sync.specs.declared.data.SenderData.{SenderData}
use Rattle.mq_sync.specs.declared.data.End.TheVariants as ends
use Rattle.mq_sync.specs.Settlement.{sender_or, data_prepared, data_settled}
use Rattle.mq_calls.specs.Reads.{sender_data}
use Rattle.mq_message.specs.declared.message.Ident.{Ident}
use Rattle.mq_calls.specs.declared.records.Add.{Add}
use Rattle.mq_calls.specs.declared.records.Remove.{Remove}
use Rattle.mq_calls.specs.declared.records.LogRecord.{LogRecord}
use Rattle.mq_calls.specs.declared.records.LogRecord.TheVariants as records
use Rattle.mq_log.specs.Bodies.{frame}
use Rattle.mq_calls.specs.State.{Plain, Given}
use Rattle.mq_calls.specs.declared.state.SenderSide.{SenderSide}
use Rattle.mq_calls.specs.State.Running.{Down}
use Rattle.mq_calls.specs.Changes.{off_list, off_lists}
use Rattle.mq_calls.specs.Images.{lasting}
use Rattle.mq_calls.specs.declared.image.Image.{Image}
use Rattle.mq_calls.specs.Steps.{Part, do_part, freeze, note_of, stands_in}
use Rattle.mq_law_log.specs.from_spec_manager.Stops.{redone_if}
use Rattle.mq_law_log.specs.from_spec_log.Applies.{applies, suits, was_given, idents_in, is_in_bounds}
use Rattle.mq_law_log.specs.from_spec_log.Applies.Start.{First, Later}
use Rattle.mq_law_log.specs.from_spec_log.Bodies.{record_of, behind, or_place, image_from, begins, image, empty_image}
use Rattle.mq_law_log.specs.from_spec_log.Shelves.{sender_at, with_sender, added, added_all, removed, removed_all}
use Rattle.mq_law_log.specs.from_spec_log.Records.{doing}
use Rattle.mq_law_log.specs.from_law_manager.Facts.{Mem}
use Rattle.mq_law_log.proofs.from_law_manager.Lists.{bool_case}
use Rattle.mq_law_log.specs.Keeps.{Told, Keeps}
use Rattle.mq_law_log.specs.Restarts.{IsHarmless}
use Rattle.mq_law_image.specs.Bounds.{AreSessionsAtMost, new_session, session_of}
use Rattle.mq_law_image.proofs.Members.{both, set_mem, sender_side}
use Rattle.mq_law_image.proofs.Telling.{redone_at}

mapped : (f : SenderSide → SenderSide) (s : SenderSide) (sides : List SenderSide) → Mem s (map f sides) → (t : SenderSide) × Mem t sides × (s ≡ f t)
mapped f s [] m = absurd m
mapped f s (t ∷ ts) (inl e) = (t, inl refl, e)
mapped f s (t ∷ ts) (inr m) = let k = mapped f s ts m in (k.0, inr k.1, k.2)

off_sessions : (most : ℕ) (ident : Ident) (sides : List SenderSide) → AreSessionsAtMost most sides → AreSessionsAtMost most (off_lists ident sides)
off_sessions most ident sides h s m = let k = mapped (off_list ident) s sides m in subst (λ (x : SenderSide). x.hardened.session ≤ most) (sym k.2) (h k.0 k.1)

at_most : (most : ℕ) (channel : List ℕ) (i : Image) → AreSessionsAtMost most i.senders → (sender_at channel i).session ≤ most
at_most most channel i h = sender_side (λ (s : SenderSide). s.hardened.session ≤ most) channel i.senders (omega arith) h

set_sessions : (most : ℕ) (channel : List ℕ) (d : SenderData) (i : Image) → d.session ≤ most → AreSessionsAtMost most i.senders → AreSessionsAtMost most (with_sender channel d i).senders
set_sessions most channel d i le h s m =
    elim (set_mem (λ (x : SenderSide). x.channel) (record { channel = channel; hardened = d }) s i.senders m) [ inl e ↦ subst (λ (x : SenderSide). x.hardened.session ≤ most) (sym e) le | inr n ↦ h s n ]

add_sessions : (most : ℕ) (adds : List Add) (i : Image) → AreSessionsAtMost most i.senders → AreSessionsAtMost most (added_all adds i).senders
add_sessions most [] i h = h
add_sessions most (a ∷ as_) i h = add_sessions most as_ (added a i) (off_sessions most a.message.ident i.senders h)

removed_senders : (removes : List Remove) (i : Image) → (removed_all removes i).senders ≡ i.senders
removed_senders [] i = refl
removed_senders (r ∷ rs) i = removed_senders rs (removed r i)

settled_session : (o : Option Settle) (d : SenderData) → (data_settled o d).session ≡ d.session
settled_session None d = refl
settled_session (Some Commit) d = refl
settled_session (Some Backout) d = refl

pub done_sessions : (most : ℕ) (r : LogRecord) (i : Image) → new_session r ≤ most → AreSessionsAtMost most i.senders → AreSessionsAtMost most (doing r i).senders
done_sessions most (records.Started manager name incarnation) i k h = h
done_sessions most (records.Objects change) i k h = h
done_sessions most (records.Unit adds removes) i k h = add_sessions most adds (removed_all removes i) (subst (AreSessionsAtMost most) (sym (removed_senders removes i)) h)
done_sessions most (records.Session channel partner session) i k h = set_sessions most channel (record (sender_at channel i) { partner = partner; session = session }) i k h
done_sessions most (records.Prepared channel unit last queue idents) i k h =
    set_sessions most channel (data_prepared (record { unit = unit; queue = queue; idents = idents; last = last }) (sender_at channel i)) i (at_most most channel i h) h
done_sessions most (records.Resolved channel unit true operator) i k h =
    set_sessions most channel (data_settled (Some Commit) (sender_at channel i)) i (subst (λ (n : ℕ). n ≤ most) (sym (settled_session (Some Commit) (sender_at channel i))) (at_most most channel i h)) h
done_sessions most (records.Resolved channel unit false operator) i k h =
    set_sessions most channel (data_settled (Some Backout) (sender_at channel i)) i (subst (λ (n : ℕ). n ≤ most) (sym (settled_session (Some Backout) (sender_at channel i))) (at_most most channel i h)) h
done_sessions most (records.Bound channel partner session last) i k h = h
done_sessions most (records.Closed channel session) i k h = h
done_sessions most (records.Received channel unit last adds) i k h = add_sessions most adds i h
done_sessions most (records.SeqSet channel ends.Sender last) i k h = set_sessions most channel (record (sender_at channel i) { last = last; force = true }) i (at_most most channel i h) h
done_sessions most (records.SeqSet channel ends.Receiver last) i k h = h
done_sessions most (records.Moved from ident to message) i k h = off_sessions most message.ident i.senders h

-- a part that does what its record says
told_sessions : (most : ℕ) (f : Option LogRecord) (p : Plain) (new : Image) → Told f p new → session_of f ≤ most → AreSessionsAtMost most p.channels.senders → AreSessionsAtMost most new.senders
told_sessions most None p new t k h = subst (λ (i : Image). AreSessionsAtMost most i.senders) (sym t) h
told_sessions most (Some r) p new t k h = subst (λ (i : Image). AreSessionsAtMost most i.senders) (sym t.1) (done_sessions most r (lasting p) k h)

pub part_sessions : (most : ℕ) (part : Part) (p : Plain) → Keeps part p → session_of part.forced ≤ most → AreSessionsAtMost most p.channels.senders → AreSessionsAtMost most (do_part part p).channels.senders
part_sessions most part p t k h = told_sessions most part.forced p (lasting (do_part part p)) t k h

more : (n m k : ℕ) → n ≤ m → m ≤ k → n ≤ k
more n m k a b = omega (arith, a, b)

pub more_sessions : (most more_ : ℕ) (sides : List SenderSide) → most ≤ more_ → AreSessionsAtMost most sides → AreSessionsAtMost more_ sides
more_sessions most more_ sides le h s m = more s.hardened.session most more_ (h s m) le

pub session_bounded : (most session : ℕ) (channel partner : List ℕ) → session ≤ most → most < 2 ^ 61 → is_in_bounds Later (records.Session channel partner session) ≡ true
session_bounded most session channel partner le lt = below session most le lt
  where
    below : (a b : ℕ) → a ≤ b → b < 2 ^ 61 → nat_lt a (2 ^ 61) ≡ true
    below a b x y = grind (arith, nat_tests)

-- a stopped write that a restart finds
pub found_sessions : (most : ℕ) (part : Part) (r : LogRecord) (left : ℕ) (p : Plain) → part.forced ≡ Some r → IsHarmless part p → new_session r ≤ most → AreSessionsAtMost most p.channels.senders
    → AreSessionsAtMost most (redone_if true (note_of part part.forced) (freeze (note_of part part.forced) left p)).channels.senders
found_sessions most part r left p forced h k s =
    subst (λ (i : Image). AreSessionsAtMost most i.senders)
    (sym (ap lasting (redone_at part r part.forced (Down (note_of part part.forced) 0) (record p.log { armed = left }) p.moment left p forced) ∙ h.anytime r (Down (note_of part part.forced) 0) (stands_in r (record p.log { armed = left })) p.moment forced))
    (done_sessions most r (lasting p) k s)

-- a first start
first_bound : (r : LogRecord) → is_in_bounds First r ≡ true → new_session r ≤ 2 ^ 60
first_bound (records.Session channel partner session) e = below session e
  where
    below : (n : ℕ) → nat_lt n (2 ^ 60) ≡ true → n ≤ 2 ^ 60
    below n e = grind (arith, nat_tests)
first_bound r e = omega arith

abbrev or_image : Image → Result Image ℕ → Image
or_image d (Ok i) = i
or_image d (Err place) = d

one_sessions : (g : Given) (place : ℕ) (go : Image → Result Image ℕ) (o : Option LogRecord) (i j : Image) → ((k : Image) → go k ≡ Ok j → AreSessionsAtMost (2 ^ 60) k.senders → AreSessionsAtMost (2 ^ 60) j.senders)
    → or_place place go (behind g First i o) ≡ Ok j → AreSessionsAtMost (2 ^ 60) i.senders → AreSessionsAtMost (2 ^ 60) j.senders
one_sessions g place go None i j rest e h = absurd cc
one_sessions g place go (Some r) i j rest e h = bool_case (applies g First r i) (λ b. applies g First r i ≡ b → or_place place go (if b then Some (doing r i) else None) ≡ Ok j → AreSessionsAtMost (2 ^ 60) j.senders)
    (λ z w f. rest (doing r i) f (done_sessions (2 ^ 60) r i (first_bound r (both (suits g r i && list_all (was_given g i) (idents_in r)) (is_in_bounds First r) w).1) h)) (λ z w f. absurd cc) refl e

from_sessions : (g : Given) (place : ℕ) (bodies : List (List ℕ)) (i j : Image) → image_from g First place bodies i ≡ Ok j → AreSessionsAtMost (2 ^ 60) i.senders → AreSessionsAtMost (2 ^ 60) j.senders
from_sessions g place [] i j e h = subst (λ (k : Image). AreSessionsAtMost (2 ^ 60) k.senders) (ap (or_image i) e) h
from_sessions g place (body ∷ bodies) i j e h =
    one_sessions g place (image_from g First (place + length (frame body)) bodies) (record_of body) i j (λ k f t. from_sessions g (place + length (frame body)) bodies k j f t) e h

pub first_sessions : (g : Given) (bodies : List (List ℕ)) (i : Image) → image g First bodies ≡ Ok i → AreSessionsAtMost (2 ^ 60) i.senders
first_sessions g bodies i e = bool_case (begins bodies) (λ b. (if b then image_from g First 0 bodies empty_image else Err 0) ≡ Ok i → AreSessionsAtMost (2 ^ 60) i.senders)
    (λ z f. from_sessions g 0 bodies empty_image i f (λ s m. absurd m)) (λ z f. absurd cc) e

-- the session behind the one that a sender has
pub next_session : (most : ℕ) (channel : List ℕ) (p : Plain) → AreSessionsAtMost most p.channels.senders → (sender_or (sender_data channel p)).session + 1 ≤ most + 1
next_session most channel p h = one_more (sender_or (sender_data channel p)).session most (at_most most channel (lasting p) h)
  where
    one_more : (a b : ℕ) → a ≤ b → a + 1 ≤ b + 1
    one_more a b le = omega (arith, le)
