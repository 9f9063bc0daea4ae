-- Idents that are struck off the lists of units in doubt.
use Rattle.std.proofs.Common.{◌≡◌, ℕ, ◌+◌, ◌<◌, ◌≤◌, Bool, true, false, cond, List, [], ◌∷◌, drop, length, get_or, refl, sym, ap, subst, ◌∙◌, arith}
use Rattle.std.specs.Prelude.{Option, Some, None, Result, Ok, Err, OnOk, OnErr, not, ◌||◌, ◌&&◌, nat_le, filter, if◌then◌else◌}
use Rattle.std.specs.List.{AllByRecursion, list_any}
use Rattle.std.specs.BTreeMap.{insert_entry}
use Rattle.std.specs.Map.{lookup}
use Rattle.std.specs.declared.cmp.Ordering.{Ordering}
use Rattle.std.specs.declared.cmp.Ordering.TheVariants.{Less, Equal, Greater}
use Rattle.std.proofs.lemmas.Bool.Decides.{nat_tests}
use Rattle.mq_message.specs.declared.message.Ident.{Ident}
use Rattle.mq_queue.specs.Rows.{same_ident}
use Rattle.mq_queue.proofs.Edits.{same_is, same_self}
use Rattle.mq_sync.specs.declared.data.Doubt.{Doubt}
use Rattle.mq_sync.specs.declared.data.InDoubt.{InDoubt}
use Rattle.mq_sync.specs.declared.data.SenderData.{SenderData}
use Rattle.mq_sync.specs.Settlement.{data_prepared, data_settled, settle_by, doubt_of, doubt_last}
use Rattle.mq_calls.specs.declared.state.SenderSide.{SenderSide}
use Rattle.mq_calls.specs.Changes.{less_ident, off_list, off_lists}
use Rattle.mq_shelves.proofs.DistinctLaws.{left_at}
use Rattle.mq_recover.specs.declared.named.ByName.{ByName}
use Rattle.mq_recover.specs.declared.kept.Kept.{Kept}
use Rattle.mq_recover.specs.Kept.{name_cmp, key_named, or_never, left_of, hardened_of, sender_side, sender_sides, blank_kept, IsListed, IsKept, EachKept}

some_is : {A : Type 0} (x y : A) → Some x ≡ Some y → x ≡ y
some_is x y e = cc e

-- a number that is put for some keys is found for these
pub never_if : (n : ℕ) (b : Bool) (o : Option ℕ) → or_never (cond b (Some n) o) ≡ (if b then n else or_never o)
never_if n true o = refl
never_if n false o = refl

-- what follows of a result where there is one
pub on_ok : {A E : Type 0} {P Q : Type 0} (r : Result A E) → OnOk r P → (P → Q) → OnOk r Q
on_ok (Ok x) p f = f p
on_ok (Err e) p f = tt

-- ---- what is kept stays so

module _ (known : Ident → Bool) (clock : ℕ) where
  found_step : (test : ByName → Bool) (e : ByName × Kept) (es : List (ByName × Kept)) (k : Kept) (t : Bool) → test e.0 ≡ t → IsKept known clock e.1
      → (lookup test es ≡ Some k → IsKept known clock k) → lookup test (e ∷ es) ≡ Some k → IsKept known clock k
  found_step test e es k true f here ih g =
      let same : e.1 ≡ k = some_is e.1 k (ap (λ (b : Bool). if b then Some e.1 else lookup test es) (sym f) ∙ g) in
      subst (IsKept known clock) same here
  found_step test e es k false f here ih g = ih (ap (λ (b : Bool). if b then Some e.1 else lookup test es) (sym f) ∙ g)

  pub kept_found : (test : ByName → Bool) (es : List (ByName × Kept)) (k : Kept) → EachKept known clock es → lookup test es ≡ Some k → IsKept known clock k
  kept_found test [] k h g = absurd (cc g)
  kept_found test (e ∷ es) k h g = found_step test e es k (test e.0) refl h.0 (kept_found test es k h.1) g

  insert_step : (k : ByName) (v : Kept) (e : ByName × Kept) (es : List (ByName × Kept)) (o : Ordering) → name_cmp k e.0 ≡ o → IsKept known clock v → IsKept known clock e.1 → EachKept known clock es
      → EachKept known clock (insert_entry name_cmp es k v) → EachKept known clock (insert_entry name_cmp (e ∷ es) k v)
  insert_step k v e es Less f new here rest ih = rw f (new, (here, rest))
  insert_step k v e es Equal f new here rest ih = rw f (new, rest)
  insert_step k v e es Greater f new here rest ih = rw f (here, ih)

  pub kept_inserted : (k : ByName) (v : Kept) → IsKept known clock v → (es : List (ByName × Kept)) → EachKept known clock es → EachKept known clock (insert_entry name_cmp es k v)
  kept_inserted k v new [] h = (new, tt)
  kept_inserted k v new (e ∷ es) h = insert_step k v e es (name_cmp k e.0) refl new h.0 h.1 (kept_inserted k v new es h.1)

  blank_is_kept : IsKept known clock blank_kept
  blank_is_kept = record { since_then = omega arith; listed = tt }

  pub each_put : {A E : Type 0} (channel : List ℕ) (kept : Kept) (old mid new : List (ByName × Kept)) (r : Result A E) → mid ≡ insert_entry name_cmp old (key_named channel) blank_kept
      → OnOk r (new ≡ insert_entry name_cmp mid (key_named channel) kept) → OnErr r (new ≡ mid) → IsKept known clock kept → EachKept known clock old → EachKept known clock new
  each_put channel kept old mid new (Ok x) m n e is h =
      subst (EachKept known clock) (sym n) (kept_inserted (key_named channel) kept is mid (subst (EachKept known clock) (sym m) (kept_inserted (key_named channel) blank_kept blank_is_kept old h)))
  each_put channel kept old mid new (Err x) m n e is h =
      subst (EachKept known clock) (sym e) (subst (EachKept known clock) (sym m) (kept_inserted (key_named channel) blank_kept blank_is_kept old h))

-- all that were noted still are, and the clock is no earlier
more : (known now : Ident → Bool) → ((i : Ident) → known i ≡ true → now i ≡ true) → (idents : List Ident) → AllByRecursion (λ (i : Ident). known i ≡ true) idents → AllByRecursion (λ (i : Ident). now i ≡ true) idents
more known now f [] h = tt
more known now f (x ∷ xs) h = (f x h.0, more known now f xs h.1)

more_doubt : (known now : Ident → Bool) → ((i : Ident) → known i ≡ true → now i ≡ true) → (o : Option InDoubt) → IsListed known o → IsListed now o
more_doubt known now f None h = tt
more_doubt known now f (Some d) h = more known now f d.idents h

pub each_later : (known now : Ident → Bool) (clock later : ℕ) → ((i : Ident) → known i ≡ true → now i ≡ true) → clock ≤ later → (es : List (ByName × Kept)) → EachKept known clock es → EachKept now later es
each_later known now clock later f le [] h = tt
each_later known now clock later f le (e ∷ es) h =
    (record { since_then = omega (arith, h.0.since_then, le); listed = more_doubt known now f e.1.hardened.in_doubt h.0.listed }, each_later known now clock later f le es h.1)

-- ---- lists without what was struck since

all_left : (struck : Ident → ℕ) (since : ℕ) → ((i : Ident) → struck i ≤ since) → (idents : List Ident) → filter (λ i. nat_le (struck i) since) idents ≡ idents
all_left struck since low [] = refl
all_left struck since low (x ∷ xs) =
    let here : nat_le (struck x) since ≡ true = grind (arith, nat_tests, low x) in
    rw here (ap (λ (ys : List Ident). x ∷ ys) (all_left struck since low xs))

-- a list that is prepared now has all its idents
pub now_prepared : (struck : Ident → ℕ) (since : ℕ) → ((i : Ident) → struck i ≤ since) → (doubt : InDoubt) (d : SenderData)
    → hardened_of struck (record { hardened = record d { force = false; in_doubt = Some doubt }; since = since }) ≡ data_prepared doubt d
now_prepared struck since low doubt d = ap (λ (is : List Ident). data_prepared (record doubt { idents = is }) d) (all_left struck since low doubt.idents)

doubt_left : (struck : Ident → ℕ) (since : ℕ) (o : Option InDoubt) → doubt_of (left_of struck since o) ≡ doubt_of o
doubt_left struck since None = refl
doubt_left struck since (Some d) = refl

pub now_settled : (struck : Ident → ℕ) (commit : Bool) (k : Kept) (last : ℕ) → last ≡ (data_settled (Some (settle_by commit)) k.hardened).last
    → hardened_of struck (record k { hardened = record k.hardened { last = last; in_doubt = None } }) ≡ data_settled (Some (settle_by commit)) (hardened_of struck k)
now_settled struck true k last e =
    ap (λ (n : ℕ). record k.hardened { last = n; in_doubt = None }) (e ∙ ap (λ (x : Option Doubt). doubt_last x k.hardened.last) (sym (doubt_left struck k.since k.hardened.in_doubt)))
now_settled struck false k last e = ap (λ (n : ℕ). record k.hardened { last = n; in_doubt = None }) e

-- ---- strikes

left_same : (struck now : Ident → ℕ) (since : ℕ) → ((i : Ident) → now i ≡ struck i) → (idents : List Ident) → filter (λ i. nat_le (now i) since) idents ≡ filter (λ i. nat_le (struck i) since) idents
left_same struck now since same [] = refl
left_same struck now since same (x ∷ xs) =
    ap (λ (n : ℕ). if nat_le n since then x ∷ filter (λ i. nat_le (now i) since) xs else filter (λ i. nat_le (now i) since) xs) (same x)
    ∙ ap (λ (ys : List Ident). if nat_le (struck x) since then x ∷ ys else ys) (left_same struck now since same xs)

doubt_same : (struck now : Ident → ℕ) (since : ℕ) → ((i : Ident) → now i ≡ struck i) → (o : Option InDoubt) → left_of now since o ≡ left_of struck since o
doubt_same struck now since same None = refl
doubt_same struck now since same (Some d) = ap (λ (is : List Ident). Some (record d { idents = is })) (left_same struck now since same d.idents)

-- what is seen hangs on when idents were struck alone
pub sides_same : (struck now : Ident → ℕ) → ((i : Ident) → now i ≡ struck i) → (es : List (ByName × Kept)) → sender_sides now es ≡ sender_sides struck es
sides_same struck now same [] = refl
sides_same struck now same (e ∷ es) =
    ap (λ (o : Option InDoubt). record { channel = e.0.name; hardened = record e.1.hardened { in_doubt = o } } ∷ sender_sides now es) (doubt_same struck now e.1.since same e.1.hardened.in_doubt)
    ∙ ap (λ (ss : List SenderSide). sender_side struck e ∷ ss) (sides_same struck now same es)

module _ (struck now : Ident → ℕ) (clock : ℕ) (ident : Ident) (is : (i : Ident) → now i ≡ (if same_ident ident i then clock + 1 else struck i)) where
  one : (since : ℕ) → since ≤ clock → (x : Ident) (t : Bool) → same_ident ident x ≡ t → nat_le (now x) since ≡ (nat_le (struck x) since && not t)
  one since le x true e =
      let at : now x ≡ clock + 1 = is x ∙ ap (λ (b : Bool). if b then clock + 1 else struck x) e in
      let late : nat_le (now x) since ≡ false = grind (arith, nat_tests, at, le) in
      late ∙ sym (none_and (nat_le (struck x) since))
    where
      none_and : (b : Bool) → (b && false) ≡ false
      none_and true = refl
      none_and false = refl
  one since le x false e =
      let at : now x ≡ struck x = is x ∙ ap (λ (b : Bool). if b then clock + 1 else struck x) e in
      ap (λ (n : ℕ). nat_le n since) at ∙ sym (all_and (nat_le (struck x) since))
    where
      all_and : (b : Bool) → (b && true) ≡ b
      all_and true = refl
      all_and false = refl

  gone : (b c : Bool) (x : Ident) (xs ys : List Ident) → xs ≡ filter (λ other. not (same_ident ident other)) ys → c ≡ same_ident ident x
      → (if b && not c then x ∷ xs else xs) ≡ filter (λ other. not (same_ident ident other)) (if b then x ∷ ys else ys)
  gone true true x xs ys e f = e ∙ sym (ap (λ (t : Bool). if not t then x ∷ filter (λ other. not (same_ident ident other)) ys else filter (λ other. not (same_ident ident other)) ys) (sym f))
  gone true false x xs ys e f = ap (λ (zs : List Ident). x ∷ zs) e ∙ sym (ap (λ (t : Bool). if not t then x ∷ filter (λ other. not (same_ident ident other)) ys else filter (λ other. not (same_ident ident other)) ys) (sym f))
  gone false c x xs ys e f = e

  less_one : (since : ℕ) → since ≤ clock → (idents : List Ident) → filter (λ i. nat_le (now i) since) idents ≡ filter (λ other. not (same_ident ident other)) (filter (λ i. nat_le (struck i) since) idents)
  less_one since le [] = refl
  less_one since le (x ∷ xs) =
      ap (λ (b : Bool). if b then x ∷ filter (λ i. nat_le (now i) since) xs else filter (λ i. nat_le (now i) since) xs) (one since le x (same_ident ident x) refl)
      ∙ gone (nat_le (struck x) since) (same_ident ident x) x (filter (λ i. nat_le (now i) since) xs) (filter (λ i. nat_le (struck i) since) xs) (less_one since le xs) refl

  doubt_less : (since : ℕ) → since ≤ clock → (o : Option InDoubt) → left_of now since o ≡ less_ident ident (left_of struck since o)
  doubt_less since le None = refl
  doubt_less since le (Some d) = ap (λ (is : List Ident). Some (record d { idents = is })) (less_one since le d.idents)

  -- an ident that is struck now is on no list
  pub struck_off : (known : Ident → Bool) (es : List (ByName × Kept)) → EachKept known clock es → sender_sides now es ≡ off_lists ident (sender_sides struck es)
  struck_off known [] h = refl
  struck_off known (e ∷ es) h =
      ap (λ (o : Option InDoubt). record { channel = e.0.name; hardened = record e.1.hardened { in_doubt = o } } ∷ sender_sides now es) (doubt_less e.1.since h.0.since_then e.1.hardened.in_doubt)
      ∙ ap (λ (ss : List SenderSide). off_list ident (sender_side struck e) ∷ ss) (struck_off known es h.1)

  pub still_low : ((i : Ident) → struck i ≤ clock) → (i : Ident) → now i ≤ clock + 1
  still_low low i = by (same_ident ident i) (is i)
    where
      by : (t : Bool) → now i ≡ (if t then clock + 1 else struck i) → now i ≤ clock + 1
      by true e = omega (arith, e)
      by false e = omega (arith, e, low i)

module _ (known : Ident → Bool) (clock : ℕ) (struck : Ident → ℕ) (ident : Ident) (un : known ident ≡ false) where
  unlike : (other : Ident) (t : Bool) → same_ident ident other ≡ t → known other ≡ true → t ≡ false
  unlike other true e yes_ = absurd (cc (un, yes_, same_is ident other e))
  unlike other false e yes_ = refl

  less_step : (keep : Ident → Bool) (x : Ident) (xs : List Ident) (b : Bool) → same_ident ident x ≡ false → filter (λ other. not (same_ident ident other)) (filter keep xs) ≡ filter keep xs
      → filter (λ other. not (same_ident ident other)) (if b then x ∷ filter keep xs else filter keep xs) ≡ (if b then x ∷ filter keep xs else filter keep xs)
  less_step keep x xs true e ih =
      ap (λ (t : Bool). if not t then x ∷ filter (λ other. not (same_ident ident other)) (filter keep xs) else filter (λ other. not (same_ident ident other)) (filter keep xs)) e
      ∙ ap (λ (ys : List Ident). x ∷ ys) ih
  less_step keep x xs false e ih = ih

  none_less : (keep : Ident → Bool) (idents : List Ident) → AllByRecursion (λ (i : Ident). known i ≡ true) idents → filter (λ other. not (same_ident ident other)) (filter keep idents) ≡ filter keep idents
  none_less keep [] h = refl
  none_less keep (x ∷ xs) h = less_step keep x xs (keep x) (unlike x (same_ident ident x) refl h.0) (none_less keep xs h.1)

  none_off : (since : ℕ) (o : Option InDoubt) → IsListed known o → less_ident ident (left_of struck since o) ≡ left_of struck since o
  none_off since None h = refl
  none_off since (Some d) h = ap (λ (is : List Ident). Some (record d { idents = is })) (none_less (λ i. nat_le (struck i) since) d.idents h)

  -- an ident that isn't noted is on no list
  pub unlisted : (es : List (ByName × Kept)) → EachKept known clock es → sender_sides struck es ≡ off_lists ident (sender_sides struck es)
  unlisted [] h = refl
  unlisted (e ∷ es) h =
      ap (λ (o : Option InDoubt). record { channel = e.0.name; hardened = record e.1.hardened { in_doubt = o } } ∷ sender_sides struck es) (sym (none_off e.1.since e.1.hardened.in_doubt h.0.listed))
      ∙ ap (λ (ss : List SenderSide). off_list ident (sender_side struck e) ∷ ss) (unlisted es h.1)

-- ---- idents are noted one after another

-- idents that are among some are noted where all of these are
pub each_listed : (known : Ident → Bool) (idents : List Ident) → ((other : Ident) → list_any (λ (i : Ident). same_ident i other) idents ≡ true → known other ≡ true) → AllByRecursion (λ (i : Ident). known i ≡ true) idents
each_listed known [] f = tt
each_listed known (x ∷ xs) f = (
  f x (ap (λ (b : Bool). b || list_any (λ (i : Ident). same_ident i x) xs) (same_self x)),
  each_listed known xs (λ other e. f other (right (same_ident x other) (list_any (λ (i : Ident). same_ident i other) xs) e)),
)
  where
    right : (a b : Bool) → b ≡ true → (a || b) ≡ true
    right true b e = refl
    right false b e = e

turned : (s l m : Bool) → (l || (s || m)) ≡ ((s || l) || m)
turned true true m = refl
turned true false m = refl
turned false true m = refl
turned false false m = refl

pub note_step : (ids : List Ident) (i : ℕ) (x : Ident) (were met now : Ident → Bool) → i < length ids → x ≡ get_or ids i x → ((other : Ident) → now other ≡ (same_ident x other || met other))
    → ((other : Ident) → (list_any (λ (y : Ident). same_ident y other) (drop i ids) || met other) ≡ (list_any (λ (y : Ident). same_ident y other) ids || were other))
    → (other : Ident) → (list_any (λ (y : Ident). same_ident y other) (drop (i + 1) ids) || now other) ≡ (list_any (λ (y : Ident). same_ident y other) ids || were other)
note_step ids i x were met now lt is next h other =
    ap (λ (b : Bool). list_any (λ (y : Ident). same_ident y other) (drop (i + 1) ids) || b) (next other)
    ∙ turned (same_ident x other) (list_any (λ (y : Ident). same_ident y other) (drop (i + 1) ids)) (met other)
    ∙ ap (λ (ys : List Ident). list_any (λ (y : Ident). same_ident y other) ys || met other) (sym (left_at ids i x lt is))
    ∙ h other

also : (a b : Bool) → b ≡ true → (a || b) ≡ true
also true b e = refl
also false b e = e

pub note_kept : (x other : Ident) (met now : Ident → Bool) → now other ≡ (same_ident x other || met other) → met other ≡ true → now other ≡ true
note_kept x other met now next e = next ∙ also (same_ident x other) (met other) e

-- ---- what senders have hardened, at each of their calls

-- nothing was struck, and more may be noted
pub low_same : (struck now : Ident → ℕ) (clock : ℕ) → ((i : Ident) → now i ≡ struck i) → ((i : Ident) → struck i ≤ clock) → (i : Ident) → now i ≤ clock
low_same struck now clock same low i = omega (arith, same i, low i)

pub kept_more : (known now : Ident → Bool) (ident : Ident) → ((i : Ident) → now i ≡ (same_ident ident i || known i)) → (i : Ident) → known i ≡ true → now i ≡ true
kept_more known now ident is i e = note_kept ident i known now (is i) e
