-- A cable without faults: a frame that is offered lies there last, and a pop takes the first.
use Rattle.std.proofs.Common.{◌≡◌, ◌≤◌, ℕ, zero, suc, Bool, true, false, List, [], ◌∷◌, ◌++◌, length, refl, sym, ap, ◌∙◌, append_assoc, append-nil, arith}
use Rattle.std.specs.Prelude.{Option, None, Some, take, drop, filter, nat_le}
use Rattle.mq_cable.specs.Faults.{Offer, due_after, due_from, made_after, offered_of}
use Rattle.mq_frame.specs.declared.frame.Frame.{Frame}
use Rattle.mq_frame.specs.declared.frame.Seen.{Seen}
use Rattle.mq_history.specs.declared.calls.Actor.{Actor}
use Rattle.mq_history.specs.declared.calls.Entry.{Entry}
use Rattle.mq_spec_node.specs.Doers.{by}
use Rattle.mq_spec_network.specs.Cables.{Lying, is_popped, lying, made, offered_by, offered_if, pops_of, spoiled, whole}
use Rattle.mq_spec_network.specs.Turns.{is_full as is_full_way, push_refused, waiting as first_lying}
use Rattle.mq_law_idle.specs.Roads.{behind, is_full, laid, waiting}
use Rattle.mq_law_pump.specs.Ways.{IsWithin, behind_if, seen_of}

-- NO FAULTS
none_due : (n k : ℕ) (xs : List Lying) → due_from [] n k xs ≡ []
none_due n k [] = refl
none_due n k (x ∷ xs) = none_due n (suc k) xs

take_none : (n : ℕ) (xs : List Lying) → xs ≡ [] → take n xs ≡ []
take_none zero [] e = refl
take_none (suc n) [] e = refl
take_none n (x ∷ xs) e = absurd cc

all_from : (before : List Lying) (os : List (Offer Lying)) → made_after spoiled [] before os ≡ offered_of os
all_from before [] = refl
all_from before (o ∷ os) =
    let none = take_none o.extras (due_after [] (before ++ o.item ∷ [])) (none_due (length (before ++ o.item ∷ [])) 1 (before ++ o.item ∷ [])) in
    ap (λ (l : List Lying). (o.item ∷ l) ++ made_after spoiled [] (before ++ o.item ∷ []) os) none
    ∙ ap (λ (l : List Lying). o.item ∷ l) (all_from (before ++ o.item ∷ []) os)

pub all_come : (os : List (Offer Lying)) → made [] os ≡ offered_of os
all_come os = all_from [] os

-- what lies there
abbrev pub frames_of : List Entry → List Lying
frames_of es = offered_of (offered_by es)

pub lies : (pushes pops : List Entry) → lying [] pushes pops ≡ drop (length (pops_of pops)) (frames_of pushes)
lies pushes pops = ap (λ (xs : List Lying). drop (length (pops_of pops)) xs) (all_come (offered_by pushes))

-- ONE ENTRY MORE
abbrev pub offer_if : Option Frame → List Lying
offer_if None = []
offer_if (Some f) = whole f ∷ []

offered_behind : (xs ys : List (Offer Lying)) → offered_of (xs ++ ys) ≡ offered_of xs ++ offered_of ys
offered_behind [] ys = refl
offered_behind (x ∷ xs) ys = ap (λ (l : List Lying). x.item ∷ l) (offered_behind xs ys)

offered_one : (o : Option Frame) (extras : ℕ) → offered_of (offered_if o extras ++ []) ≡ offer_if o
offered_one None extras = refl
offered_one (Some f) extras = refl

offered_more : (es : List Entry) (e : Entry) → offered_by (es ++ e ∷ []) ≡ offered_by es ++ offered_by (e ∷ [])
offered_more [] e = refl
offered_more (x ∷ xs) e = ap (λ (l : List (Offer Lying)). offered_if x.effect.pushed x.effect.extras ++ l) (offered_more xs e)
    ∙ sym (append_assoc (offered_if x.effect.pushed x.effect.extras) (offered_by xs) (offered_by (e ∷ [])))

pub frames_more : (es : List Entry) (e : Entry) → frames_of (es ++ e ∷ []) ≡ frames_of es ++ offer_if e.effect.pushed
frames_more es e = ap offered_of (offered_more es e) ∙ offered_behind (offered_by es) (offered_by (e ∷ [])) ∙ ap (λ (l : List Lying). frames_of es ++ l) (offered_one e.effect.pushed e.effect.extras)

abbrev pub kept_if : {A : Type 0} → Bool → A → List A
kept_if true x = x ∷ []
kept_if false x = []

filter_more : (test : Entry → Bool) (es : List Entry) (e : Entry) → filter test (es ++ e ∷ []) ≡ filter test es ++ kept_if (test e) e
filter_more test [] e = one (test e) refl
  where
    one : (b : Bool) → test e ≡ b → filter test (e ∷ []) ≡ kept_if b e
    one true is = grind arith
    one false is = grind arith
filter_more test (x ∷ xs) e = one (test x) refl (filter_more test xs e)
  where
    one : (b : Bool) → test x ≡ b → filter test (xs ++ e ∷ []) ≡ filter test xs ++ kept_if (test e) e → filter test (x ∷ xs ++ e ∷ []) ≡ filter test (x ∷ xs) ++ kept_if (test e) e
    one true is h = grind (arith, h)
    one false is h = grind (arith, h)

pub by_more : (test : Actor → Bool) (es : List Entry) (e : Entry) → by test (es ++ e ∷ []) ≡ by test es ++ kept_if (test e.actor) e
by_more test es e = filter_more (λ (x : Entry). test x.actor) es e

pub pops_more : (es : List Entry) (e : Entry) → pops_of (es ++ e ∷ []) ≡ pops_of es ++ kept_if (is_popped e) e
pops_more es e = filter_more is_popped es e

-- LISTS
pub seen_behind : (xs ys : List Lying) → seen_of (xs ++ ys) ≡ seen_of xs ++ seen_of ys
seen_behind [] ys = refl
seen_behind (x ∷ xs) ys = ap (λ (l : List Seen). x.seen ∷ l) (seen_behind xs ys)

pub drop_behind : (n : ℕ) (xs ys : List Lying) → n ≤ length xs → drop n (xs ++ ys) ≡ drop n xs ++ ys
drop_behind zero xs ys h = refl
drop_behind (suc n) [] ys h = absurd (omega (arith, h))
drop_behind (suc n) (x ∷ xs) ys h = drop_behind n xs ys (omega (arith, h))

pub drop_one : (n : ℕ) (xs : List Lying) → seen_of (drop (suc n) xs) ≡ behind (seen_of (drop n xs))
drop_one zero [] = refl
drop_one zero (x ∷ xs) = refl
drop_one (suc n) [] = refl
drop_one (suc n) (x ∷ xs) = drop_one n xs

pub waits_as : (xs : List Lying) → first_lying xs ≡ waiting (seen_of xs)
waits_as [] = refl
waits_as (x ∷ xs) = refl

pub seen_length : (xs : List Lying) → length (seen_of xs) ≡ length xs
seen_length [] = refl
seen_length (x ∷ xs) = ap suc (seen_length xs)

pub full_as : (xs : List Lying) → is_full_way xs ≡ is_full (seen_of xs)
full_as xs = ap (λ (n : ℕ). nat_le 64 n) (sym (seen_length xs))

-- without faults a push is refused where the cable is full, and nothing comes later
pub refused_as : (pushes : List Entry) (xs : List Lying) (f : Frame) → push_refused (record { faults = []; pushes = pushes; items = xs }) (Some f) ≡ is_full (seen_of xs)
refused_as pushes xs f = full_as xs

-- THE CABLE
pub laid_last : (pushes pops : List Entry) (e : Entry) (o : Option Frame) → IsWithin pushes pops → e.effect.pushed ≡ o → seen_of (lying [] (pushes ++ e ∷ []) pops) ≡ laid o (seen_of (lying [] pushes pops))
laid_last pushes pops e o within is =
    ap seen_of (lies (pushes ++ e ∷ []) pops)
    ∙ ap (λ (xs : List Lying). seen_of (drop (length (pops_of pops)) xs)) (frames_more pushes e)
    ∙ ap (λ (x : Option Frame). seen_of (drop (length (pops_of pops)) (frames_of pushes ++ offer_if x))) is
    ∙ ap seen_of (drop_behind (length (pops_of pops)) (frames_of pushes) (offer_if o) within)
    ∙ seen_behind (drop (length (pops_of pops)) (frames_of pushes)) (offer_if o)
    ∙ last o (drop (length (pops_of pops)) (frames_of pushes))
    ∙ ap (λ (xs : List Lying). laid o (seen_of xs)) (sym (lies pushes pops))
  where
    last : (o : Option Frame) (xs : List Lying) → seen_of xs ++ seen_of (offer_if o) ≡ laid o (seen_of xs)
    last None xs = append-nil (seen_of xs)
    last (Some f) xs = refl

pub taken_first : (pushes pops : List Entry) (e : Entry) → seen_of (lying [] pushes (pops ++ e ∷ [])) ≡ behind_if (is_popped e) (seen_of (lying [] pushes pops))
taken_first pushes pops e =
    ap seen_of (lies pushes (pops ++ e ∷ []))
    ∙ ap (λ (xs : List Entry). seen_of (drop (length xs) (frames_of pushes))) (pops_more pops e)
    ∙ one (is_popped e)
    ∙ ap (λ (xs : List Lying). behind_if (is_popped e) (seen_of xs)) (sym (lies pushes pops))
  where
    longer : (xs : List Entry) → length (xs ++ e ∷ []) ≡ suc (length xs)
    longer [] = refl
    longer (x ∷ xs) = ap suc (longer xs)

    one : (b : Bool) → seen_of (drop (length (pops_of pops ++ kept_if b e)) (frames_of pushes)) ≡ behind_if b (seen_of (drop (length (pops_of pops)) (frames_of pushes)))
    one true = ap (λ (n : ℕ). seen_of (drop n (frames_of pushes))) (longer (pops_of pops)) ∙ drop_one (length (pops_of pops)) (frames_of pushes)
    one false = ap (λ (xs : List Entry). seen_of (drop (length xs) (frames_of pushes))) (append-nil (pops_of pops))
