-- What the first two fields of a structure tell, and how a structure that begins with them is read.
use Rattle.std.proofs.Common.{◌≡◌, ℕ, ℤ, ◌+◌, ◌≤◌, ◌++◌, pos, List, length, take, Bool, true, false, refl, sym, ◌∙◌, arith, length-append}
use Rattle.std.specs.Prelude.{Option, Some, None, Ok, IfOk, nat_lt, not, if◌then◌else◌}
use Rattle.std.specs.Ordering.{int_eq}
use Rattle.std.specs.Cmp.{signed_Decides}
use Rattle.std.specs.Str.{bytes_eq}
use Rattle.std.proofs.lemmas.Slice.Eq.{bytes_eq-Decides}
use Rattle.std.proofs.lemmas.Bool.{ltb-false}
use Rattle.std.proofs.lemmas.Bool.Decides.{nat_tests}
use Rattle.mq_message.specs.declared.head.HeadFault.{HeadFault}
use Rattle.mq_message.specs.declared.head.HeadFault.TheVariants.{BadId, BadVersion}
use Rattle.mq_message.specs.Layout.{long_of, part}
use Rattle.mq_message.specs.Descriptor.{id_fault, or_short, head_fault, unless}

pub record Heads (id : List ℕ) (place : ℕ) (bytes : List ℕ) : Type 0 where
  pub id_stands : part place 4 bytes ≡ id
  pub version_is_one : long_of (part (place + 4) 4 bytes) ≡ pos 1

none_only : (same one : Bool) → (if not same then Some BadId else (if one then None else Some BadVersion)) ≡ None → (same ≡ true) × (one ≡ true)
none_only true true e = (refl, refl)
none_only true false e = absurd cc
none_only false one e = absurd cc

-- where there is no fault, the id and version 1 stand there
pub heads_of_none : (id : List ℕ) (place : ℕ) (bytes : List ℕ) → id_fault id place bytes ≡ None → Heads id place bytes
heads_of_none id place bytes e =
    let tests = none_only (bytes_eq (part place 4 bytes) id) (int_eq (long_of (part (place + 4) 4 bytes)) (pos 1)) e in
    record {
      id_stands = (bytes_eq-Decides (part place 4 bytes) id).0 tests.0;
      version_is_one = (signed_Decides (long_of (part (place + 4) 4 bytes)) (pos 1)).0 tests.1;
    }

-- and where they stand there is none
pub none_of_heads : (id : List ℕ) (place : ℕ) (bytes : List ℕ) → Heads id place bytes → id_fault id place bytes ≡ None
none_of_heads id place bytes h =
    let same : bytes_eq (part place 4 bytes) id ≡ true = (bytes_eq-Decides (part place 4 bytes) id).1 h.id_stands in
    let one : int_eq (long_of (part (place + 4) 4 bytes)) (pos 1) ≡ true = (signed_Decides (long_of (part (place + 4) 4 bytes)) (pos 1)).1 h.version_is_one in
    rw (same, one) refl

-- bytes that are enough aren't short
pub not_short : (size n : ℕ) (fault : Option HeadFault) → size ≤ n → or_short (nat_lt n size) fault ≡ fault
not_short size n fault le = let enough : nat_lt n size ≡ false = grind (arith, nat_tests) in rw enough refl

-- values that begin with an id and version 1 are what stands behind these
pub behind_head : {A : Type 0} (id : List ℕ) (v : List ℕ × (ℤ × A)) → v.0 ≡ id → v.1.0 ≡ pos 1 → ◌≡◌ {A = List ℕ × (ℤ × A)} (id, (pos 1, v.1.1)) v
behind_head id v e one = λ i. (sym e i, (sym one i, v.1.1))

-- a structure is read from bytes that begin with its own
pub read_back : {A : Type 0} (size : ℕ) (id own rest : List ℕ) (found h : A) → length own ≡ size → id_fault id 0 (own ++ rest) ≡ None → found ≡ h → unless (head_fault size id (own ++ rest)) found ≡ Ok h
read_back size id own rest found h len heads is =
    let long : size ≤ length (own ++ rest) = let a = length-append own rest in omega (arith, a, len) in
    let fault : head_fault size id (own ++ rest) ≡ None = not_short size (length (own ++ rest)) (id_fault id 0 (own ++ rest)) long ∙ heads in
    rw (fault, is) refl

exact_by : {A : Type 0} (size : ℕ) (id bytes : List ℕ) (own : A → List ℕ) (found : A) (short : Bool) (fault : Option HeadFault) → (short ≡ false → size ≤ length bytes) → (fault ≡ None → Heads id 0 bytes) → (size ≤ length bytes → Heads id 0 bytes → own found ≡ take size bytes) → IfOk (unless (or_short short fault) found) (λ h. own h ≡ take size bytes)
exact_by size id bytes own found true fault long heads is = search
exact_by size id bytes own found false (Some fault) long heads is = search
exact_by size id bytes own found false None long heads is = is (long refl) (heads refl)

-- what is read has these bytes, where its own are those it was found in
pub read_exact : {A : Type 0} (size : ℕ) (id bytes : List ℕ) (own : A → List ℕ) (found : A) → (size ≤ length bytes → Heads id 0 bytes → own found ≡ take size bytes) → IfOk (unless (head_fault size id bytes) found) (λ h. own h ≡ take size bytes)
read_exact size id bytes own found is =
    exact_by size id bytes own found (nat_lt (length bytes) size) (id_fault id 0 bytes) (λ e. ltb-false (length bytes) size e) (λ e. heads_of_none id 0 bytes e) is
