-- Cables whose items lie in their queues, one more and one less.
use Rattle.std.proofs.Common.{◌≡◌, ◌≢◌, ◌<◌, ◌≤◌, ◌+◌, ℕ, suc, List, [], ◌∷◌, ◌++◌, length, refl, sym, ap, subst, ◌∙◌, ⊎_elim, arith}
use Rattle.std.specs.Prelude.{IfSome, Option, Some, OnErr, Result, Ok, Err, slice_get, slice_set}
use Rattle.mq_ways.specs.Ways.{CableState}
use Rattle.mq_split.specs.declared.opening.Passes.{Passes}
use Rattle.mq_split.specs.declared.opening.Pipes.{Pipes}
use Rattle.mq_split.specs.Opening.{AreOpen, EachCable, FirstBare, IsBare, IsBaredAt, IsOpen, bare, whole, wholes}
use Rattle.mq_split.proofs.PlaceLaws.{at_end, before, get_first, get_last, get_set, long_snoc, set_long, set_mine, set_other, set_same, set_twice, some_is, there, within}

-- the last passes
pub wholes_last : (ss : List Passes) (s : Passes) (cs : List CableState) (c : CableState) → slice_get cs (length ss) ≡ Some c → wholes (ss ++ s ∷ []) cs ≡ wholes ss (slice_set cs (length ss) (whole s c))
wholes_last [] s [] c e = absurd (cc e)
wholes_last [] s (d ∷ cs) c e = ap (λ (x : CableState). whole s x ∷ cs) (some_is d c e)
wholes_last (t ∷ ss) s [] c e = absurd (cc e)
wholes_last (t ∷ ss) s (d ∷ cs) c e = ap (λ (l : List CableState). whole t d ∷ l) (wholes_last ss s cs c e)

-- a cable more is open
pub wholes_more : (ss : List Passes) (s : Passes) (cs ds was : List CableState) (c : CableState) → wholes ss cs ≡ was → slice_get cs (length ss) ≡ Some c → IsBaredAt s (length ss) c cs ds → wholes (ss ++ s ∷ []) ds ≡ was
wholes_more ss s cs ds was c h e b =
    let k = length ss in
    subst (λ (l : List CableState). wholes (ss ++ s ∷ []) l ≡ was) (sym b.1)
    (wholes_last ss s (slice_set cs k (bare c)) (bare c) (set_mine cs k (bare c) c e)
    ∙ ap (λ (x : CableState). wholes ss (slice_set (slice_set cs k (bare c)) k x)) b.0
    ∙ ap (λ (l : List CableState). wholes ss l) (set_twice cs k (bare c) c ∙ set_same cs k c e) ∙ h)

pub open_more : (ps : List Pipes) (ss : List Passes) (p : Pipes) (s : Passes) → length ps ≡ length ss → AreOpen ps ss → IsOpen p s → AreOpen (ps ++ p ∷ []) (ss ++ s ∷ [])
open_more ps ss p s long h o k t e =
    ⊎_elim
    (λ (q : slice_get ss k ≡ Some t). let x = h k t q in (x.0, get_first ps (p ∷ []) k x.0 x.1, x.2))
    (λ (q : (k ≡ length ss) × (s ≡ t)). (
      p,
      subst (λ (n : ℕ). slice_get (ps ++ p ∷ []) n ≡ Some p) (long ∙ sym q.0) (get_last ps p),
      subst (λ (u : Passes). IsOpen p u) q.1 o,
    ))
    (at_end ss s t k e)

pub bare_more : (cs ds : List CableState) (k : ℕ) (s : Passes) (c : CableState) → IsBaredAt s k c cs ds → FirstBare k cs → FirstBare (k + 1) ds
bare_more cs ds k s c b h j d lt e =
    ⊎_elim
    (λ (q : (j ≡ k) × (bare c ≡ d)). subst IsBare q.1 (refl, refl))
    (λ (q : (j ≢ k) × (slice_get cs j ≡ Some d)). let no = q.0 in h j d (omega (arith, lt, no)) q.1)
    (get_set cs k j (bare c) d (subst (λ (l : List CableState). slice_get l j ≡ Some d) b.1 e))

-- one less
pub open_less : (ps : List Pipes) (ss : List Passes) (s : Passes) → AreOpen ps (ss ++ s ∷ []) → AreOpen ps ss
open_less ps ss s h k t e = h k t (get_first ss (s ∷ []) k t e)

pub open_last : (ps : List Pipes) (ss : List Passes) (s : Passes) → AreOpen ps (ss ++ s ∷ []) → (p : Pipes) × (slice_get ps (length ss) ≡ Some p) × IsOpen p s
open_last ps ss s h = h (length ss) s (get_last ss s)

pub bare_less : (cs : List CableState) (k : ℕ) (c : CableState) → FirstBare (suc k) cs → FirstBare k (slice_set cs k c)
bare_less cs k c h j d lt e =
    ⊎_elim
    (λ (q : (j ≡ k) × (c ≡ d)). let is = q.0 in absurd (omega (arith, lt, is)))
    (λ (q : (j ≢ k) × (slice_get cs j ≡ Some d)). h j d (omega (arith, lt)) q.1)
    (get_set cs k j c d e)

-- a place where nothing changed
pub err_same : {T E : Type 0} (r : Result T E) (xs : List CableState) (k : ℕ) (x y : CableState) → slice_get xs k ≡ Some x → OnErr r (y ≡ x) → OnErr r (slice_set xs k y ≡ xs)
err_same (Ok v) xs k x y e h = tt
err_same (Err f) xs k x y e h = ap (λ (z : CableState). slice_set xs k z) h ∙ set_same xs k x e

-- one cable more that is as it is asked
pub each_more : (P : CableState → Type 0) (cs : List CableState) (i : ℕ) (c : CableState) → slice_get cs i ≡ Some c → P c → ((k : ℕ) (d : CableState) → k < i → slice_get cs k ≡ Some d → P d) → (k : ℕ) (d : CableState) → k < i + 1 → slice_get cs k ≡ Some d → P d
each_more P cs i c e p h k d lt f =
    ⊎_elim
    (λ (q : k < i). h k d q f)
    (λ (q : k ≡ i). subst P (some_is c d (sym e ∙ ap (λ (n : ℕ). slice_get cs n) (sym q) ∙ f)) p)
    (before k i (omega (arith, lt)))

-- all of them are
pub each_all : (P : CableState → Type 0) (cs : List CableState) (i : ℕ) → length cs ≤ i → ((k : ℕ) (d : CableState) → k < i → slice_get cs k ≡ Some d → P d) → (k : ℕ) (d : CableState) → slice_get cs k ≡ Some d → P d
each_all P cs i past h k d f = let lt = within cs k d f in h k d (omega (arith, past, lt)) f

-- two of a cable's cables: bare ones stay apart from a change at another place
pub bare_set : (cs : List CableState) (k : ℕ) (c : CableState) → IsBare c → EachCable IsBare cs → EachCable IsBare (slice_set cs k c)
bare_set cs k c b h j d f = ⊎_elim (λ (q : (j ≡ k) × (c ≡ d)). subst IsBare q.1 b) (λ (q : (j ≢ k) × (slice_get cs j ≡ Some d)). h j d q.1) (get_set cs k j c d f)

pub open_at_last : (ps : List Pipes) (passes rest : List Passes) (s : Passes) (k : ℕ) (p : Pipes) → AreOpen ps passes → passes ≡ rest ++ s ∷ [] → k ≡ length rest → slice_get ps k ≡ Some p → IsOpen p s
open_at_last ps passes rest s k p h is at found =
    let x = open_last ps rest s (subst (λ (l : List Passes). AreOpen ps l) is h) in
    subst (λ (q : Pipes). IsOpen q s) (some_is x.0 p (sym x.1 ∙ ap (λ (n : ℕ). slice_get ps n) (sym at) ∙ found)) x.2

-- A CABLE IS CLOSED
pub record Closed (ps : List Pipes) (rest : List Passes) (was ds : List CableState) : Type 0 where
  pub opened : AreOpen ps rest
  pub few : length rest ≤ length ds
  pub bare_are : FirstBare (length rest) ds
  pub whole_is : wholes rest ds ≡ was

closed_last : (ps : List Pipes) (rest : List Passes) (s : Passes) (cs ds was : List CableState) → AreOpen ps (rest ++ s ∷ []) → length (rest ++ s ∷ []) ≤ length cs → FirstBare (length (rest ++ s ∷ [])) cs → wholes (rest ++ s ∷ []) cs ≡ was
    → IfSome (slice_get cs (length rest)) (λ (c : CableState). ds ≡ slice_set cs (length rest) (whole s c)) → Closed ps rest was ds
closed_last ps rest s cs ds was h few bares w x =
    let long = long_snoc rest s in
    let at = there cs (length rest) (omega (arith, few, long)) in
    let is : ds ≡ slice_set cs (length rest) (whole s at.0) = subst (λ (o : Option CableState). IfSome o (λ (c : CableState). ds ≡ slice_set cs (length rest) (whole s c))) at.1 x in
    let all = ap (λ (l : List CableState). length l) is ∙ set_long cs (length rest) (whole s at.0) in
    record {
      opened = open_less ps rest s h;
      few = omega (arith, few, long, all);
      bare_are = subst (λ (l : List CableState). FirstBare (length rest) l) (sym is) (bare_less cs (length rest) (whole s at.0) (subst (λ (n : ℕ). FirstBare n cs) long bares));
      whole_is = ap (λ (l : List CableState). wholes rest l) is ∙ sym (wholes_last rest s cs at.0 at.1) ∙ w;
    }

pub closed_step : (ps : List Pipes) (passes rest : List Passes) (s : Passes) (cs ds was : List CableState) (k : ℕ) → passes ≡ rest ++ s ∷ [] → k ≡ length rest → AreOpen ps passes → length passes ≤ length cs → FirstBare (length passes) cs → wholes passes cs ≡ was
    → IfSome (slice_get cs k) (λ (c : CableState). ds ≡ slice_set cs k (whole s c)) → Closed ps rest was ds
closed_step ps passes rest s cs ds was k is at h few bares w x =
    closed_last ps rest s cs ds was
    (subst (λ (l : List Passes). AreOpen ps l) is h) (subst (λ (l : List Passes). length l ≤ length cs) is few)
    (subst (λ (l : List Passes). FirstBare (length l) cs) is bares) (subst (λ (l : List Passes). wholes l cs ≡ was) is w)
    (subst (λ (n : ℕ). IfSome (slice_get cs n) (λ (c : CableState). ds ≡ slice_set cs n (whole s c))) at x)

-- A CABLE IS OPENED
pub record Opened (ps : List Pipes) (ss : List Passes) (n : ℕ) (was ds : List CableState) : Type 0 where
  pub long : length ds ≡ length was
  pub same : (j : ℕ) → n ≤ j → slice_get ds j ≡ slice_get was j
  pub opened : AreOpen ps ss
  pub bare_are : FirstBare n ds
  pub whole_is : wholes ss ds ≡ was

pub opened_step : (ps : List Pipes) (ss : List Passes) (p : Pipes) (s : Passes) (cs ds was : List CableState) (k : ℕ) → length ps ≡ k → length ss ≡ k → k < length was → Opened ps ss k was cs → IsOpen p s
    → IfSome (slice_get cs k) (λ (c : CableState). IsBaredAt s k c cs ds) → Opened (ps ++ p ∷ []) (ss ++ s ∷ []) (k + 1) was ds
opened_step ps ss p s cs ds was k pipes passes lt h o x =
    let len = h.long in
    let at = there cs k (omega (arith, lt, len)) in
    let b : IsBaredAt s k at.0 cs ds = subst (λ (q : Option CableState). IfSome q (λ (c : CableState). IsBaredAt s k c cs ds)) at.1 x in
    record {
      long = ap (λ (l : List CableState). length l) b.1 ∙ set_long cs k (bare at.0) ∙ h.long;
      same = λ j past. ap (λ (l : List CableState). slice_get l j) b.1 ∙ set_other cs k j (bare at.0) (λ (e : j ≡ k). omega (arith, past, e)) ∙ h.same j (omega (arith, past));
      opened = open_more ps ss p s (pipes ∙ sym passes) h.opened o;
      bare_are = bare_more cs ds k s at.0 b h.bare_are;
      whole_is = wholes_more ss s cs ds was at.0 h.whole_is (ap (λ (n : ℕ). slice_get cs n) passes ∙ at.1) (subst (λ (n : ℕ). IsBaredAt s n at.0 cs ds) (sym passes) b);
    }

pub last_within : (ps : List Pipes) (passes rest : List Passes) (s : Passes) (k : ℕ) → AreOpen ps passes → passes ≡ rest ++ s ∷ [] → k ≡ length rest → k < length ps
last_within ps passes rest s k h is at =
    let x = open_last ps rest s (subst (λ (l : List Passes). AreOpen ps l) is h) in
    let lt = within ps (length rest) x.0 x.1 in omega (arith, lt, at)

pub open_less_by : (ps : List Pipes) (passes rest : List Passes) (s : Passes) → AreOpen ps passes → passes ≡ rest ++ s ∷ [] → AreOpen ps rest
open_less_by ps passes rest s h is = open_less ps rest s (subst (λ (l : List Passes). AreOpen ps l) is h)
