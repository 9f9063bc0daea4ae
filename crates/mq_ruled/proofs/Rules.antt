-- Each step keeps the rule of a direction.
use Rattle.std.proofs.Common.{◌≡◌, ◌≢◌, ℕ, zero, suc, true, false, true≢false, List, [], ◌∷◌, ◌++◌, length, set, sym, refl, arith, length-append, ap, ◌∙◌, subst, ⊎_elim, append_assoc}
use mathlib.Core.Option.{some, some-ne-none}
use lib.ListN.{get_elem?}
use Rattle.crossbeam_queue.specs.Fifo.{Pushes, Pops, Forks, Merges, Learns}
use Rattle.crossbeam_queue.proofs.Lists.{at_set, at_snoc}
use Rattle.mq_cable.specs.declared.item.Item.{Item}
use Rattle.mq_ruled.specs.declared.rule.PassView.{PassView}
use Rattle.mq_ruled.specs.Rule.{knows, IsLowItem, PassFits, InOrder, Known, Pushed, Popped}
use Rattle.mq_ruled.proofs.Low.{none_low, all_low-push, all_low-tail, all_low-head}

at_end : (l : List PassView) (a b : PassView) (j : ℕ) → get_elem? l j ≢ some b → get_elem? (l ++ a ∷ []) j ≡ some b → j ≡ length l
at_end [] a b zero n e = refl
at_end [] a b (suc j) n e = absurd (some-ne-none b (sym e))
at_end (x ∷ xs) a b zero n e = absurd (n e)
at_end (x ∷ xs) a b (suc j) n e = ap suc (at_end xs a b j n e)

abbrev Each : (ℕ → PassView → Type 0) → List PassView → Type 0
Each F views = (pass : ℕ) (v : PassView) → get_elem? views pass ≡ some v → F pass v

all_set : (F : ℕ → PassView → Type 0) (views : List PassView) (pass : ℕ) (w : PassView) → F pass w → ((j : ℕ) (u : PassView) → j ≢ pass → get_elem? views j ≡ some u → F j u) → Each F (set views pass w)
all_set F views pass w mine others j u e =
    ⊎_elim (λ (x : (j ≡ pass) × (w ≡ u)). subst (λ (y : ℕ × PassView). F y.0 y.1) (λ i. (sym x.0 i, x.1 i)) mine)
    (λ (x : (j ≢ pass) × (get_elem? views j ≡ some u)). others j u x.0 x.1) (at_set views pass j w u e)

pub begins : InOrder [] (knows true true [] [] ∷ [])
begins = (
  0,
  0,
  [],
  [],
  refl,
  (none_low, omega arith),
  all_set (PassFits 0 0 [] []) (knows true true [] [] ∷ []) 0 (knows true true [] []) ((λ _. (refl, refl)), λ _. (refl, refl)) (λ j u other e. absurd (other (at_end [] _ u j (λ x. some-ne-none u (sym x)) e))),
)

pub pushes : (n pass : ℕ) (v : PassView) (x : Item) → n ≡ 64 → v.pushes ≡ true → IsLowItem x → Pushes InOrder n pass v x (Pushed v x)
pushes n pass v x cap may is_low items views room h at =
    let w : PassView = knows v.pushes v.pops (v.sent ++ x ∷ []) v.received in
    let mine = h.6 pass v at in
    let sent = h.2 ++ x ∷ [] in (
      w,
      (
        h.0,
        h.1,
        sent,
        h.3,
        ap (λ l. l ++ x ∷ []) h.4 ∙ append_assoc h.3 items (x ∷ []),
        (all_low-push items x h.5.0 is_low, (let fine = h.5.1 in omega (arith, length-append items (x ∷ [])))),
        all_set (PassFits h.0 h.1 sent h.3) views pass w ((λ _. ((mine.0 may).0, ap (λ l. l ++ x ∷ []) (mine.0 may).1)), mine.1)
            (λ j u other e. ((λ p. absurd (other (((h.6 j u e).0 p).0 ∙ sym (mine.0 may).0))), (h.6 j u e).1)),
      ),
      refl,
    )

pub pops : (pass : ℕ) (v : PassView) → v.pops ≡ true → Pops InOrder pass v (Popped v)
pops pass v may x items views h at =
    let w : PassView = knows v.pushes v.pops v.sent (v.received ++ x ∷ []) in
    let mine = h.6 pass v at in
    let received = h.3 ++ x ∷ [] in
    let mine_sent : v.pushes ≡ true → v.sent ≡ h.2 = λ p. (mine.0 p).1 in (
      w,
      (
        h.0,
        h.1,
        h.2,
        received,
        h.4 ∙ sym (append_assoc h.3 (x ∷ []) items),
        (all_low-tail items x h.5.0, (let fine = h.5.1 in omega arith)),
        all_set (PassFits h.0 h.1 h.2 received) views pass w (mine.0, λ _. ((mine.1 may).0, ap (λ l. l ++ x ∷ []) (mine.1 may).1))
            (λ j u other e. ((h.6 j u e).0, λ p. absurd (other (((h.6 j u e).1 p).0 ∙ sym (mine.1 may).0)))),
      ),
      (
        all_low-head items x h.5.0,
        refl,
        λ p. (items, mine_sent p ∙ h.4 ∙ ap (λ l. l ++ x ∷ items) (sym (mine.1 may).1) ∙ sym (append_assoc v.received (x ∷ []) items), all_low-tail items x h.5.0),
      ),
    )

pub forks : (pass : ℕ) (v : PassView) → v.pushes ≡ true → v.pops ≡ true → Forks InOrder pass v (knows true false v.sent []) (knows false true [] v.received)
forks pass v a b items views h at =
    let l : PassView = knows true false v.sent [] in
    let r : PassView = knows false true [] v.received in
    let mine = h.6 pass v at in
    let vs : List PassView = set views pass l in
    let Old : ℕ → PassView → Type 0 = λ j u. (u.pushes ≡ true → (j ≡ h.0) × (u.sent ≡ h.2)) × (u.pops ≢ true) in
    let old : Each Old vs = all_set Old views pass l ((λ _. mine.0 a), λ p. true≢false (sym p)) (λ j u other e. ((h.6 j u e).0, λ p. other (((h.6 j u e).1 p).0 ∙ sym (mine.1 b).0))) in (
      h.0,
      length vs,
      h.2,
      h.3,
      h.4,
      h.5,
      λ j u e. ⊎_elim (λ x. ((old j u x).0, λ p. absurd ((old j u x).1 p)))
          (λ (is : r ≡ u). ((λ p. absurd (true≢false (sym (ap (λ (y : PassView). y.pushes) is ∙ p)))), λ p. (at_end vs r u j (λ x. (old j u x).1 p) e, ap (λ (y : PassView). y.received) (sym is) ∙ (mine.1 b).1))) (at_snoc vs r u j e),
    )

pub merges : (pass : ℕ) (v : PassView) (other : ℕ) (u : PassView) → v.pushes ≡ true → u.pops ≡ true → Merges InOrder pass v other u (knows true true v.sent u.received) (knows false false [] [])
merges pass v other u a b items views h at two at' =
    let both : PassView = knows true true v.sent u.received in
    let mine = h.6 pass v at in
    let vs : List PassView = set views pass both in
    let was : get_elem? views other ≡ some u = ⊎_elim (λ x. absurd (two x.0)) (λ x. x.1) (at_set views pass other both u at') in
    let theirs = (h.6 other u was).1 b in
    let Now : ℕ → PassView → Type 0 = λ j y. j ≢ other → PassFits h.0 pass h.2 h.3 j y in
    let now : Each Now vs = all_set Now views pass both (λ _. ((λ _. mine.0 a), λ _. (refl, theirs.1))) (λ j y _ e apart. ((h.6 j y e).0, λ p. absurd (apart (((h.6 j y e).1 p).0 ∙ sym theirs.0)))) in (
      h.0,
      pass,
      h.2,
      h.3,
      h.4,
      h.5,
      all_set (PassFits h.0 pass h.2 h.3) vs other (knows false false [] []) ((λ p. absurd (true≢false (sym p))), λ p. absurd (true≢false (sym p))) (λ j y apart e. now j y e apart),
    )

pub learns : (pass : ℕ) (v : PassView) → Learns InOrder pass v (Known v)
learns pass v items views h at =
    let mine = h.6 pass v at in (
      (λ a. (h.3, (mine.0 a).1 ∙ h.4)),
      (λ a b. (mine.0 a).1 ∙ h.4 ∙ ap (λ l. l ++ items) (sym (mine.1 b).1)),
      h.5,
    )

-- no two passes push
pub clashes : (pass : ℕ) (v : PassView) (other : ℕ) (u : PassView) (both spent : PassView) → v.pushes ≡ true → u.pushes ≡ true → Merges InOrder pass v other u both spent
clashes pass v other u both spent a b items views h at two at' =
    let was : get_elem? views other ≡ some u = ⊎_elim (λ x. absurd (two x.0)) (λ x. x.1) (at_set views pass other both u at') in
    absurd (two (((h.6 other u was).0 b).0 ∙ sym ((h.6 pass v at).0 a).0))

pub never : (v : PassView) (x : Item) → v ≡ knows true true [] (x ∷ []) → ((items : List Item) × Known v items) → ⊥
never v x is h =
    let k = h.1.1 (ap (λ (w : PassView). w.pushes) is) (ap (λ (w : PassView). w.pops) is) in
    let s = ap (λ (w : PassView). w.sent) is in
    let r = ap (λ (w : PassView). w.received) is in
    let e : [] ≡ x ∷ h.0 = sym s ∙ k ∙ ap (λ l. l ++ h.0) r in
    cc
