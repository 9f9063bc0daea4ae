-- What a cable's direction is where its ends did nothing at it; and of which nothing was done.
use Rattle.std.proofs.Common.{◌≡◌, ℕ, zero, suc, Bool, true, false, List, [], ◌∷◌, ◌++◌, length, refl, ap, subst, ◌∙◌}
use Rattle.std.specs.Prelude.{◌==◌, if◌then◌else◌, Option, None, Some, slice_get}
use Rattle.std.specs.List.{AllByRecursion}
use Rattle.std.proofs.Common.{inl, inr}
use Rattle.std.proofs.lemmas.Grind.{flat_map-append}
use Rattle.std.proofs.lemmas.List.Elements.{filter-append}
use Rattle.mq_cable.specs.declared.item.Item.{Item}
use Rattle.mq_cable.specs.Faults.{Offer}
use Rattle.mq_frame.specs.declared.frame.Frame.{Frame}
use Rattle.mq_history.specs.declared.scenario.CableLine.{CableLine}
use Rattle.mq_spec_network.specs.from_spec_node.Terms.{Actor, Entry}
use Rattle.mq_spec_network.specs.from_spec_node.Words.{by, is_receiver, is_sender, item_if, items_of}
use Rattle.mq_spec_network.specs.Cables.{is_popped, pops_of}
use Rattle.mq_spec_network.specs.Turns.{Network, does}
use Rattle.mq_ways.specs.Ways.{AreNew, CableState, IsCableAt, IsNew, IsQuiet, IsQuietEntry}
use Rattle.mq_ways.proofs.WayLaws.{way_begins, way_others}

-- entries of which none offers or pops as that end
quiet_items : (test : Actor → Bool) (es : List Entry) → AllByRecursion (IsQuietEntry test) es → items_of (by test es) ≡ []
quiet_items test [] h = refl
quiet_items test (e ∷ es) h = by_case h.0 (quiet_items test es h.1)
  where
    here : e.effect.pushed ≡ None → items_of (by test es) ≡ [] → (b : Bool) → items_of (if b then e ∷ by test es else by test es) ≡ []
    here none rest true = ap (λ (o : Option Frame). item_if o e.effect.extras ++ items_of (by test es)) none ∙ rest
    here none rest false = rest

    by_case : IsQuietEntry test e → items_of (by test es) ≡ [] → items_of (by test (e ∷ es)) ≡ []
    by_case (inl other) rest = ap (λ (b : Bool). items_of (if b then e ∷ by test es else by test es)) other ∙ rest
    by_case (inr (none, popped)) rest = here none rest (test e.actor)

quiet_pops : (test : Actor → Bool) (es : List Entry) → AllByRecursion (IsQuietEntry test) es → pops_of (by test es) ≡ []
quiet_pops test [] h = refl
quiet_pops test (e ∷ es) h = by_case h.0 (quiet_pops test es h.1)
  where
    here : is_popped e ≡ false → pops_of (by test es) ≡ [] → (b : Bool) → pops_of (if b then e ∷ by test es else by test es) ≡ []
    here none rest true = ap (λ (b : Bool). if b then e ∷ pops_of (by test es) else pops_of (by test es)) none ∙ rest
    here none rest false = rest

    by_case : IsQuietEntry test e → pops_of (by test es) ≡ [] → pops_of (by test (e ∷ es)) ≡ []
    by_case (inl other) rest = ap (λ (b : Bool). pops_of (if b then e ∷ by test es else by test es)) other ∙ rest
    by_case (inr (none, popped)) rest = here popped rest (test e.actor)

append_nil : {A : Type 0} (xs : List A) → xs ++ [] ≡ xs
append_nil [] = refl
append_nil (x ∷ xs) = ap (λ (l : List _). x ∷ l) (append_nil xs)

pub quiet_more : (test : Actor → Bool) (es xs : List Entry) → AllByRecursion (IsQuietEntry test) xs → IsQuiet test es (es ++ xs)
quiet_more test es xs h =
    let apart : by test (es ++ xs) ≡ by test es ++ by test xs = filter-append (λ (e : Entry). test e.actor) es xs in
    record {
      offers =
          ap items_of apart
          ∙ flat_map-append (λ (e : Entry). item_if e.effect.pushed e.effect.extras) (by test es) (by test xs)
          ∙ ap (λ (os : List (Offer Item)). items_of (by test es) ++ os) (quiet_items test xs h)
          ∙ append_nil (items_of (by test es));
      pops =
          ap (λ (l : List Entry). length (pops_of l)) apart
          ∙ ap (λ (l : List Entry). length l) (filter-append is_popped (by test es) (by test xs) ∙ ap (λ (l : List Entry). pops_of (by test es) ++ l) (quiet_pops test xs h) ∙ append_nil (pops_of (by test es)));
    }

-- A cable at whose ends nothing more was done stays as it is.
pub cable_others : (w v : Network) (k : ℕ) (l : CableLine) (c : CableState) → IsQuiet (is_sender k) (w.done l.sender) (v.done l.sender) → IsQuiet (is_receiver k) (w.done l.receiver) (v.done l.receiver) → IsCableAt w k l c → IsCableAt v k l c
cable_others w v k l c s r h = record {
  out = way_others l.out (by (is_sender k) (w.done l.sender)) (by (is_receiver k) (w.done l.receiver)) (by (is_sender k) (v.done l.sender)) (by (is_receiver k) (v.done l.receiver)) c.out s.offers r.pops h.out;
  back = way_others l.back (by (is_receiver k) (w.done l.receiver)) (by (is_sender k) (w.done l.sender)) (by (is_receiver k) (v.done l.receiver)) (by (is_sender k) (v.done l.sender)) c.back r.offers s.pops h.back;
}

-- Nothing was done yet.
pub cable_begins : (w : Network) (k : ℕ) (l : CableLine) (c : CableState) → ((m : ℕ) → w.done m ≡ []) → IsNew l.out c.out → IsNew l.back c.back → IsCableAt w k l c
cable_begins w k l c none out back = record {
  out = way_begins l.out (by (is_sender k) (w.done l.sender)) (by (is_receiver k) (w.done l.receiver)) c.out (ap (λ (es : List Entry). items_of (by (is_sender k) es)) (none l.sender)) (ap (λ (es : List Entry). pops_of (by (is_receiver k) es)) (none l.receiver)) out;
  back = way_begins l.back (by (is_receiver k) (w.done l.receiver)) (by (is_sender k) (w.done l.sender)) c.back (ap (λ (es : List Entry). items_of (by (is_receiver k) es)) (none l.receiver)) (ap (λ (es : List Entry). pops_of (by (is_sender k) es)) (none l.sender)) back;
}

-- each line's cable
some_is : {A : Type 0} (a b : A) → Some a ≡ Some b → a ≡ b
some_is a b e = cc

pub new_at : (ls : List CableLine) (cs : List CableState) (k : ℕ) (l : CableLine) (c : CableState) → AreNew ls cs → slice_get ls k ≡ Some l → slice_get cs k ≡ Some c → IsNew l.out c.out × IsNew l.back c.back
new_at [] [] zero l c h at found = absurd cc
new_at [] [] (suc k) l c h at found = absurd cc
new_at [] (d ∷ ds) k l c h at found = absurd h
new_at (m ∷ ms) [] k l c h at found = absurd h
new_at (m ∷ ms) (d ∷ ds) zero l c h at found =
    subst (λ (x : CableLine). IsNew x.out c.out × IsNew x.back c.back) (some_is m l at)
    (subst (λ (y : CableState). IsNew m.out y.out × IsNew m.back y.back) (some_is d c found) (h.0, h.1))
new_at (m ∷ ms) (d ∷ ds) (suc k) l c h at found = new_at ms ds k l c h.2 at found

pub new_long : (ls : List CableLine) (cs : List CableState) → AreNew ls cs → length cs ≡ length ls
new_long [] [] h = refl
new_long [] (d ∷ ds) h = absurd h
new_long (m ∷ ms) [] h = absurd h
new_long (m ∷ ms) (d ∷ ds) h = ap suc (new_long ms ds h.2)

pub new_begins : (w : Network) (cs : List CableState) (k : ℕ) (l : CableLine) (c : CableState) → ((m : ℕ) → w.done m ≡ []) → AreNew w.scenario.cables cs → slice_get w.scenario.cables k ≡ Some l → slice_get cs k ≡ Some c → IsCableAt w k l c
new_begins w cs k l c none new at found = let h = new_at w.scenario.cables cs k l c new at found in cable_begins w k l c none h.0 h.1

-- entries more at one manager
quiet_same : (test : Actor → Bool) (es : List Entry) → IsQuiet test es es
quiet_same test es = record { offers = refl; pops = refl }

quiet_if : (test : Actor → Bool) (es xs : List Entry) (b : Bool) → AllByRecursion (IsQuietEntry test) xs → IsQuiet test es (if b then es ++ xs else es)
quiet_if test es xs true h = quiet_more test es xs h
quiet_if test es xs false h = quiet_same test es

pub cable_stays : (w : Network) (m k : ℕ) (l : CableLine) (es : List Entry) (c : CableState) → AllByRecursion (IsQuietEntry (is_sender k)) es → AllByRecursion (IsQuietEntry (is_receiver k)) es → IsCableAt w k l c → IsCableAt (does m es w) k l c
cable_stays w m k l es c s r h =
    cable_others w (does m es w) k l c (quiet_if (is_sender k) (w.done l.sender) es (l.sender == m) s) (quiet_if (is_receiver k) (w.done l.receiver) es (l.receiver == m) r) h
