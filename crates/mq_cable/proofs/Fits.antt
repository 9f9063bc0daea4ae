-- What the kept items and their stamps keep to.
use Rattle.std.proofs.Common.{◌≡◌, ℕ, suc, ◌+◌, ◌<◌, ◌≤◌, ◌^◌, true, List, [], ◌∷◌, ◌++◌, length, refl, sym, ap, subst, ◌∙◌, arith}
use Rattle.std.specs.Prelude.{nat_lt, Bool, false, Some, All, filter, find}
use Rattle.std.proofs.lemmas.Bool.{eqb-true}
use Rattle.std.proofs.lemmas.Bool.Decides.{nat_tests}
use Rattle.std.proofs.lemmas.List.{length-append}
use Rattle.std.proofs.lemmas.List.Elements.{All-push, All-filter}
use Rattle.std.proofs.lemmas.List.Filters.{length-filter_both}
use Rattle.mq_cable.specs.declared.item.Item.{Item}
use Rattle.mq_cable.specs.declared.fault.Fault.{Fault}
use Rattle.mq_cable.specs.declared.fault.Fault.TheVariants as faults
use Rattle.mq_cable.specs.declared.push.Kept.{Kept}
use Rattle.mq_cable.specs.Lists.{AllLow, after_first}
use Rattle.mq_cable.specs.Faults.{names, fault_of}
use Rattle.mq_cable.specs.Offers.{IsLow, is_due, is_left, kept_if}

pub low_after : (xs : List Item) → AllLow xs → AllLow (after_first xs)
low_after [] h = h
low_after (x ∷ xs) h = λ k d lt. h (suc k) d (omega (arith, lt))

-- what a list of kept items owes
abbrev pub Fit : List Kept → ℕ → Type 0
Fit kept number = All IsLow kept × (length kept ≤ number) × (length kept < 2 ^ 32)

pub left_fit : (n : ℕ) (old new : List Kept) (m : ℕ) → new ≡ filter (is_left n) old → Fit old m → Fit new m
left_fit n old new m e h =
    let counted = length-filter_both (is_due n) (is_left n) (λ x. refl) old in (
      subst (All IsLow) (sym e) (All-filter (is_left n) IsLow old h.0),
      omega (arith, ap length e, counted, h.1),
      omega (arith, ap length e, counted, h.2),
    )

pub later_fit : (kept : List Kept) (m o : ℕ) → m ≤ o → Fit kept m → Fit kept o
later_fit kept m o le h = (h.0, omega (arith, le, h.1), h.2)

pub push_fit : (kept pushed : List Kept) (e : Kept) (m : ℕ) → pushed ≡ kept ++ e ∷ [] → Fit kept m → IsLow e → m + 1 < 2 ^ 32 → Fit pushed (m + 1)
push_fit kept pushed e m same h low few =
    let counted = length-append kept (e ∷ []) in (
      subst (All IsLow) (sym same) (All-push IsLow kept e h.0 low),
      omega (arith, ap length same, counted, h.1),
      omega (arith, ap length same, counted, h.1, few),
    )

-- the entry that is kept of an item that is to come later
abbrev entry : ℕ → Item → Kept
entry j x = record { after = j; item = x }

pub kept_as : (old kept pushed : List Kept) (number j : ℕ) (x : Item) → kept ≡ old → pushed ≡ kept ++ entry j x ∷ [] → number < j → pushed ≡ old ++ kept_if number (Some j) x
kept_as old kept pushed number j x same e lt =
    let passes : nat_lt number j ≡ true = grind (arith, nat_tests) in
    rw passes (e ∙ ap (λ (l : List Kept). l ++ entry j x ∷ []) same)

-- ---- the fault that is found names the frame

named_step : (k : ℕ) (f g : Fault) (fs : List Fault) → (find (names k) fs ≡ Some f → names k f ≡ true) → (t : Bool) → names k g ≡ t → find (names k) (g ∷ fs) ≡ Some f → names k f ≡ true
named_step k f g fs ih true e h =
    let same : Some g ≡ Some f = rw e at h in
    let one : g ≡ f = cc in
    subst (λ (x : Fault). names k x ≡ true) one e
named_step k f g fs ih false e h = ih (rw e at h)

named : (k : ℕ) (f : Fault) (fs : List Fault) → find (names k) fs ≡ Some f → names k f ≡ true
named k f [] h = absurd cc
named k f (g ∷ fs) h = named_step k f g fs (named k f fs) (names k g) refl h

pub late_names : (k on j : ℕ) (fs : List Fault) → fault_of k fs ≡ Some (faults.Late on j) → on ≡ k
late_names k on j fs h = eqb-true on k (named k (faults.Late on j) fs h)

pub copy_names : (k on j : ℕ) (fs : List Fault) → fault_of k fs ≡ Some (faults.Copy on j) → on ≡ k
copy_names k on j fs h = eqb-true on k (named k (faults.Copy on j) fs h)
