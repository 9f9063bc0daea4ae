-- Entries that neither offer nor pop, and entries of others, leave what lies on a direction as its ends say.
use Rattle.std.proofs.Common.{◌≡◌, ℕ, Bool, true, false, List, [], ◌∷◌, ◌++◌, refl, sym, ap, subst, ◌∙◌, inl, inr}
use Rattle.std.specs.Prelude.{◌&&◌, if◌then◌else◌, Option, None}
use Rattle.std.specs.List.{AllByRecursion}
use Rattle.std.proofs.lemmas.Grind.{flat_map-append}
use Rattle.std.proofs.lemmas.List.{append-nil}
use Rattle.std.proofs.lemmas.List.Elements.{filter-append}
use Rattle.mq_cable.specs.declared.fault.Fault.{Fault}
use Rattle.mq_cable.specs.Faults.{Offer, Within}
use Rattle.mq_frame.specs.declared.frame.Frame.{Frame}
use Rattle.mq_history.specs.declared.calls.Actor.{Actor}
use Rattle.mq_spec_node.specs.Words.{by}
use Rattle.mq_spec_node.specs.Terms.{Entry}
use Rattle.mq_spec_network.specs.Cables.{Lying, Takes, is_popped, made, offered_by, offered_if, pops_item}
use Rattle.mq_ways.specs.Ways.{AreShown, IsQuietEntry, IsShown, WayState}
use Rattle.mq_ways.proofs.QuietLaws.{quiet_more}
use Rattle.mq_ways.proofs.WayLaws.{way_others}
use Rattle.mq_split.specs.Facing.{Facing}

-- What a reader's view of a direction has of quiet entries
quiet_offers : (test : Actor → Bool) (es : List Entry) → AllByRecursion (IsQuietEntry test) es → offered_by (by test es) ≡ []
quiet_offers test [] h = refl
quiet_offers test (e ∷ es) h = by_case h.0 (quiet_offers test es h.1)
  where
    here : e.effect.pushed ≡ None → offered_by (by test es) ≡ [] → (b : Bool) → offered_by (if b then e ∷ by test es else by test es) ≡ []
    here none rest true = ap (λ (o : Option Frame). offered_if o e.effect.extras ++ offered_by (by test es)) none ∙ rest
    here none rest false = rest

    by_case : IsQuietEntry test e → offered_by (by test es) ≡ [] → offered_by (by test (e ∷ es)) ≡ []
    by_case (inl other) rest = ap (λ (b : Bool). offered_by (if b then e ∷ by test es else by test es)) other ∙ rest
    by_case (inr (none, popped)) rest = here none rest (test e.actor)

offers_more : (test : Actor → Bool) (es xs : List Entry) → AllByRecursion (IsQuietEntry test) xs → offered_by (by test (es ++ xs)) ≡ offered_by (by test es)
offers_more test es xs h =
    ap offered_by (filter-append (λ (e : Entry). test e.actor) es xs)
    ∙ flat_map-append (λ (e : Entry). offered_if e.effect.pushed e.effect.extras) (by test es) (by test xs)
    ∙ ap (λ (os : List (Offer Lying)). offered_by (by test es) ++ os) (quiet_offers test xs h)
    ∙ append-nil (offered_by (by test es))

shown_one : (test : Actor → Bool) (e : Entry) (es : List Entry) → IsQuietEntry test e → AreShown (by test es) → AreShown (by test (e ∷ es))
shown_one test e es (inl other) h = subst (λ (b : Bool). AreShown (if b then e ∷ by test es else by test es)) (sym other) h
shown_one test e es (inr (none, popped)) h = here (test e.actor)
  where
    here : (b : Bool) → AreShown (if b then e ∷ by test es else by test es)
    here true = (subst IsShown (sym none) tt, h)
    here false = h

shown_quiet : (test : Actor → Bool) (es : List Entry) → AllByRecursion (IsQuietEntry test) es → AreShown (by test es)
shown_quiet test [] h = tt
shown_quiet test (e ∷ es) h = shown_one test e es h.0 (shown_quiet test es h.1)

shown_both : (es xs : List Entry) → AreShown es → AreShown xs → AreShown (es ++ xs)
shown_both [] xs h k = k
shown_both (e ∷ es) xs h k = (h.0, shown_both es xs h.1 k)

shown_more : (test : Actor → Bool) (es xs : List Entry) → AllByRecursion (IsQuietEntry test) xs → AreShown (by test es) → AreShown (by test (es ++ xs))
shown_more test es xs q h = subst AreShown (sym (filter-append (λ (e : Entry). test e.actor) es xs)) (shown_both (by test es) (by test xs) h (shown_quiet test xs q))

pub no_item : (test : Actor → Bool) (e : Entry) → IsQuietEntry test e → pops_item test e ≡ false
no_item test e (inl other) = ap (λ (b : Bool). b && is_popped e) other
no_item test e (inr (none, popped)) = ap (λ (b : Bool). test e.actor && b) popped ∙ never (test e.actor)
  where
    never : (b : Bool) → (b && false) ≡ false
    never true = refl
    never false = refl

takes_quiet : (test : Actor → Bool) (last : ℕ) (es : List Entry) → AllByRecursion (IsQuietEntry test) es → Takes test last es []
takes_quiet test last [] q = refl
takes_quiet test last (e ∷ es) q = (no_item test e q.0, takes_quiet test e.stamp es q.1)

takes_more : (test : Actor → Bool) (last : ℕ) (es xs : List Entry) (taken : List Lying) → AllByRecursion (IsQuietEntry test) xs → Takes test last es taken → Takes test last (es ++ xs) taken
takes_more test last [] xs taken q h = subst (λ (ys : List Lying). Takes test last xs ys) (sym h) (takes_quiet test last xs q)
takes_more test last (e ∷ es) xs [] q h = (h.0, takes_more test e.stamp es xs [] q h.1)
takes_more test last (e ∷ es) xs (y ∷ ys) q (inl h) = inl (h.0, takes_more test e.stamp es xs (y ∷ ys) q h.1)
takes_more test last (e ∷ es) xs (y ∷ ys) q (inr h) = inr (h.0, h.1, h.2, takes_more test e.stamp es xs ys q h.3)

-- where its writer's manager did such,
pub facing_written : (fs : List Fault) (writer reader : Actor → Bool) (ws xs rs : List Entry) (d : WayState) → AllByRecursion (IsQuietEntry writer) xs → Facing fs writer reader ws rs d → Facing fs writer reader (ws ++ xs) rs d
facing_written fs writer reader ws xs rs d q h =
    let same : offered_by (by writer (ws ++ xs)) ≡ offered_by (by writer ws) = offers_more writer ws xs q in
    record {
      way = way_others fs (by writer ws) (by reader rs) (by writer (ws ++ xs)) (by reader rs) d (quiet_more writer ws xs q).offers refl h.way;
      shown = shown_more writer ws xs q h.shown;
      carries = record {
        taken = h.carries.taken;
        left = h.carries.left;
        whole = ap (made fs) same ∙ h.carries.whole;
        takes = h.carries.takes;
        within = subst (λ (os : List (Offer Lying)). Within fs [] os) (sym same) h.carries.within;
      };
    }

-- and where its reader's did
pub facing_read : (fs : List Fault) (writer reader : Actor → Bool) (ws rs xs : List Entry) (d : WayState) → AllByRecursion (IsQuietEntry reader) xs → Facing fs writer reader ws rs d → Facing fs writer reader ws (rs ++ xs) d
facing_read fs writer reader ws rs xs d q h = record {
  way = way_others fs (by writer ws) (by reader rs) (by writer ws) (by reader (rs ++ xs)) d refl (quiet_more reader rs xs q).pops h.way;
  shown = h.shown;
  carries = record {
    taken = h.carries.taken;
    left = h.carries.left;
    whole = h.carries.whole;
    takes = takes_more reader 0 rs xs h.carries.taken q h.carries.takes;
    within = h.carries.within;
  };
}
