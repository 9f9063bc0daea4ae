-- What is known of a log that was opened.
use Rattle.std.proofs.Common.{◌≡◌, ◌≢◌, ◌⊎◌, inl, inr, ℕ, ◌+◌, ◌<◌, ◌≤◌, List, [], ◌∷◌, ◌++◌, length, take, refl, sym, ◌∙◌, ap, subst, arith, Bool, true, false}
use Rattle.std.proofs.lemmas.List.{take-take, length-take, get_or-take}
use Rattle.std.proofs.lemmas.Bool.Decides.{nat_tests}
use Rattle.std.specs.Prelude.{slice_index, if◌then◌else◌, Option, None}
use Rattle.mq_disk.specs.Disk.{Only}
use Rattle.mq_log.specs.Bodies.{frames, bodies_of, AllFit, IsLog}
use Rattle.mq_log.specs.State.{front_bodies, body_behind, IsLogOf}
use Rattle.mq_log.specs.Open.{Front, Reads}
use Rattle.mq_log.specs.Sound.{Sound}
use Rattle.mq_log.proofs.Framed.{bodies_of-closed}
use Rattle.mq_log.proofs.Scanned.{front_kept}
use Rattle.mq_log.proofs.Logs.{shut_log, short_log_of, take_read}

pub reads_fresh : (old new : List ℕ → Type 0) (seen : List ℕ) → Only seen old → length seen ≤ 1
    → ((c : List ℕ) → new c → (d : List ℕ) × old d × (length c ≤ 1)) → Reads old new
reads_fresh old new seen only few images c left =
    let from = images c left in
    let size : length from.0 ≤ 1 = omega (arith, ap length (only from.0 from.1), few) in
    (from.0, from.1, inr (from.2, size))

pub sound_fresh : (tells : Type 0) (size : ℕ) (seen : List ℕ) (may : List ℕ → Type 0) (stopped : Bool) (bytes : List ℕ) (end : ℕ) → bytes ≡ 0 ∷ [] → end ≡ 0 → 1 ≤ size → stopped ≡ false
    → (tells → seen ≡ 0 ∷ []) → (tells → Only seen may) → Sound tells size seen may stopped bytes end true
sound_fresh tells size seen may stopped bytes end is at inside passes written only =
    let none : front_bodies end bytes ≡ [] = ap (λ (n : ℕ). front_bodies n bytes) at ∙ bodies_of-closed [] 0 [] tt (omega arith) in
    let one : length bytes ≡ 1 = ap length is in
    let gate : slice_index bytes end ≡ 0 = ap (λ (n : ℕ). slice_index bytes n) at ∙ ap (λ (l : List ℕ). slice_index l 0) is in
    record {
      framed = ap frames none ∙ sym (ap (λ (n : ℕ). take n bytes) at);
      fits = subst AllFit (sym none) tt;
      gate = omega (arith, one, at);
      shut = λ is_open. absurd (omega (arith, gate, is_open));
      behind = inl (omega (arith, one, at));
      settled = λ _. record {
        whole = omega (arith, one, at);
        inside = omega (arith, inside, at);
        passes = passes;
        same = λ t. ap (λ (n : ℕ). take (n + 1) seen) at ∙ ap (λ (l : List ℕ). take (0 + 1) l) (written t) ∙ sym is;
        only = only;
      };
      stood = λ dead. absurd (cc dead);
    }

-- a log whose bytes were read up to the first gate that isn't open
pub sound_read : (tells : Type 0) (size : ℕ) (seen : List ℕ) (may : List ℕ → Type 0) (stopped : Bool) (bytes read : List ℕ) (at end : ℕ) → at < length read → Front at read → slice_index read at ≢ 165
    → bytes ≡ take (at + 1) read → end ≡ at → at + 1 ≤ size → stopped ≡ false → (tells → read ≡ take (length read) seen) → (tells → Only seen may) → Sound tells size seen may stopped bytes end true
sound_read tells size seen may stopped bytes read at end inside front shut is last fits passes same only =
    let whole : length bytes ≡ at + 1 = omega (arith, ap length is, length-take (at + 1) read, inside) in
    let front_is : take at bytes ≡ take at read = ap (λ (l : List ℕ). take at l) is ∙ take-take at (at + 1) read (omega arith) in
    let front' : Front at bytes = front_kept at read bytes front_is front in
    let gate : slice_index bytes at ≡ slice_index read at = ap (λ (l : List ℕ). slice_index l at) is ∙ get_or-take (at + 1) read at 0 (omega arith) in
    let here : Sound tells size seen may stopped bytes at true = record {
      framed = front'.framed;
      fits = front'.fits;
      gate = omega (arith, whole);
      shut = λ is_open. shut (sym gate ∙ is_open);
      behind = inl whole;
      settled = λ _. record {
        whole = whole;
        inside = fits;
        passes = passes;
        same = λ t. take_read seen read (same t) (at + 1) (omega (arith, inside)) ∙ sym is;
        only = only;
      };
      stood = λ dead. absurd (cc dead);
    } in
    subst (λ (n : ℕ). Sound tells size seen may stopped bytes n true) (sym last) here

-- the bodies in front of a gate are the same where the bytes end with it
pub front_cut : (at end : ℕ) (bytes read : List ℕ) → bytes ≡ take (at + 1) read → end ≡ at → front_bodies end bytes ≡ front_bodies at read
front_cut at end bytes read is last =
    ap (λ (n : ℕ). front_bodies n bytes) last ∙ ap (λ (l : List ℕ). front_bodies at l) is ∙ ap (λ (l : List ℕ). bodies_of (l ++ 0 ∷ [])) (take-take at (at + 1) read (omega arith))

-- what each outcome of a crash stands for, whether the log takes more or not
pub stands : (tells : Type 0) (size : ℕ) (seen : List ℕ) (may : List ℕ → Type 0) (stopped : Bool) (bytes : List ℕ) (end : ℕ) (live : Bool) → Sound tells size seen may stopped bytes end live
    → tells → (c : List ℕ) → may c → IsLogOf (front_bodies end bytes) (if live then None else body_behind end bytes) c
stands tells size seen may stopped bytes end true sound t c left =
    let s = sound.settled refl in
    let is : take (end + 1) c ≡ bytes = ap (λ (l : List ℕ). take (end + 1) l) (s.only t c left) ∙ s.same t in
    let inside : end < length c = omega (arith, ap length is, length-take (end + 1) c, s.whole) in
    let front : take end c ≡ take end bytes = sym (take-take end (end + 1) c (omega arith)) ∙ ap (λ (l : List ℕ). take end l) is in
    let gate : slice_index c end ≡ slice_index bytes end = sym (get_or-take (end + 1) c end 0 (omega arith)) ∙ ap (λ (l : List ℕ). slice_index l end) is in
    let here : Front end bytes = record { framed = sound.framed; fits = sound.fits } in
    let same : front_bodies end c ≡ front_bodies end bytes = ap (λ (l : List ℕ). bodies_of (l ++ 0 ∷ [])) front in
    subst (λ (bs : List (List ℕ)). IsLog c bs) same (shut_log end c inside (front_kept end bytes c front here) (λ is_open. sound.shut (sym gate ∙ is_open)))
stands tells size seen may stopped bytes end false sound t c left = sound.stood refl t c left

none_behind : (bytes : List ℕ) (end : ℕ) → length bytes ≡ end + 1 → body_behind end bytes ≡ None
none_behind bytes end whole = grind (arith, nat_tests)

-- the pending body is the one behind the last gate, whether the log takes more or not
pub pending_is : (tells : Type 0) (size : ℕ) (seen : List ℕ) (may : List ℕ → Type 0) (stopped : Bool) (bytes : List ℕ) (end : ℕ) (live : Bool) → Sound tells size seen may stopped bytes end live
    → (if live then None else body_behind end bytes) ≡ body_behind end bytes
pending_is tells size seen may stopped bytes end true s = sym (none_behind bytes end (s.settled refl).whole)
pending_is tells size seen may stopped bytes end false s = refl

read_same : (bodies : List (List ℕ)) (pending : Option (List ℕ)) (c d : List ℕ) → (c ≡ d) ⊎ ((length c ≤ 1) × (length d ≤ 1)) → IsLogOf bodies pending d → IsLogOf bodies pending c
read_same bodies pending c d (inl is) log = subst (λ (l : List ℕ). IsLogOf bodies pending l) (sym is) log
read_same bodies pending c d (inr (few_c, few_d)) log = short_log_of c d bodies pending few_c few_d log

-- a log that takes no more, over a disk that may leave no more than it did
pub dead : (tells : Type 0) (size : ℕ) (seen : List ℕ) (may : List ℕ → Type 0) (stopped : Bool) (bytes : List ℕ) (end : ℕ) (live : Bool) → Sound tells size seen may stopped bytes end live
    → (size' : ℕ) (seen' : List ℕ) (may' : List ℕ → Type 0) (stopped' : Bool) → (tells → Reads may may') → Sound tells size' seen' may' stopped' bytes end false
dead tells size seen may stopped bytes end live sound size' seen' may' stopped' reads = record {
  framed = sound.framed;
  fits = sound.fits;
  gate = sound.gate;
  shut = sound.shut;
  behind = sound.behind;
  settled = λ alive. absurd (cc alive);
  stood = λ _ t c left.
      let from = reads t c left in
      let was = stands tells size seen may stopped bytes end live sound t from.0 from.1 in
      let found : IsLogOf (front_bodies end bytes) (if live then None else body_behind end bytes) c = read_same (front_bodies end bytes) (if live then None else body_behind end bytes) c from.0 from.2 was in
      subst (λ (o : Option (List ℕ)). IsLogOf (front_bodies end bytes) o c) (pending_is _ _ _ _ _ _ _ live sound) found;
}

pub same_reads : (old new : List ℕ → Type 0) → ((c : List ℕ) → new c → old c) → Reads old new
same_reads old new nothing c left = (c, nothing c left, inl refl)

pub reads_after : (old mid new : List ℕ → Type 0) → ((c : List ℕ) → mid c → old c) → Reads mid new → Reads old new
reads_after old mid new nothing reads c left = let from = reads c left in (from.0, nothing from.0 from.1, from.2)
