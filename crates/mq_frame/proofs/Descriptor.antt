-- A descriptor is its head and the bytes of its other fields.
use Rattle.std.proofs.Common.{◌≡◌, ℕ, zero, suc, ◌+◌, ◌≤◌, true, List, [], ◌∷◌, ◌++◌, length, take, drop, Option, Some, None, Ok, refl, sym, ap, subst, ◌∙◌, arith, FitsSigned, w32, rules, codes, pos, eqb, ◌&&◌}
use Rattle.std.proofs.Math.Facts.{sfits_to_z}
use Rattle.std.proofs.lemmas.Bool.{and_parts, eqb-true}
use Rattle.std.proofs.lemmas.List.{append-nil, take-append-drop, take_all, length-drop, get_or-drop}
use Rattle.byteorder.specs.Endian.{big_number}
use Rattle.byteorder.specs.Numbers.{big_from-lt}
use Rattle.mq_message.specs.declared.message.Md.{Md}
use Rattle.mq_message.specs.Layout.{Kind, Long, Unsigned, Characters, Raw, Field, long_bytes, long_of, unsigned_of, value_in, part, values_in, has_width, stand_from, size, Fits, AllFit}
use Rattle.mq_message.specs.declared.head.HeadFault.{HeadFault}
use Rattle.mq_message.specs.Descriptor.{md_fields, md_values, md_bytes, md_in, md_read, head_fault, unless}
use Rattle.mq_message.proofs.TableLaws.{length-part}
use Rattle.mq_message.proofs.HeadLaws.{Heads}
use Rattle.mq_message.proofs.DescriptorLaws.{MdFits, length-md_bytes, md_in-md_bytes, md_bytes-md_in}
use Rattle.mq_frame.specs.Frames.{IsMd}
use Rattle.mq_frame.specs.Reading.{IsBytes, md_head}
use Rattle.mq_frame.proofs.Pieces.{IsBytes-take, IsBytes-append}

-- the bytes behind the head
pub record MdParts (m : Md) : Type 0 where
  pub fields : List ℕ
  pub whole : md_bytes m ≡ md_head ++ fields
  pub counted : length fields ≡ 316
  pub bytes : IsBytes fields
  pub back : md_in (md_head ++ fields) ≡ m

head_first : (m : Md) → take 8 (md_bytes m) ≡ md_head
unfolding md_bytes long_bytes
head_first m = refl

fits_one : FitsSigned w32 (pos 1)
fits_one = search rules

IsBytes-drop : (n : ℕ) (bytes : List ℕ) → IsBytes bytes → IsBytes (drop n bytes)
IsBytes-drop n bytes h i = rw get_or-drop (h (n + i))

pub md_given : (m : Md) → IsMd m → MdParts m
md_given m h =
    let fits : MdFits m = record { all = h.fits } in
    let whole : md_bytes m ≡ md_head ++ drop 8 (md_bytes m) = sym (take-append-drop 8 (md_bytes m)) ∙ ap (λ (x : List ℕ). x ++ drop 8 (md_bytes m)) (head_first m) in
    record {
      fields = drop 8 (md_bytes m);
      whole = whole;
      counted = omega (arith, length-drop 8 (md_bytes m), length-md_bytes m fits);
      bytes = IsBytes-drop 8 (md_bytes m) h.bytes;
      back = ap md_in (sym whole ∙ sym (append-nil (md_bytes m))) ∙ md_in-md_bytes m [] fits;
    }

head_bytes : IsBytes md_head
head_bytes zero = omega arith
head_bytes (suc zero) = omega arith
head_bytes (suc (suc zero)) = omega arith
head_bytes (suc (suc (suc zero))) = omega arith
head_bytes (suc (suc (suc (suc zero)))) = omega arith
head_bytes (suc (suc (suc (suc (suc zero))))) = omega arith
head_bytes (suc (suc (suc (suc (suc (suc zero)))))) = omega arith
head_bytes (suc (suc (suc (suc (suc (suc (suc zero))))))) = omega arith
head_bytes (suc (suc (suc (suc (suc (suc (suc (suc i)))))))) = omega arith

heads_stand : (fields : List ℕ) → Heads (codes "MD  ") 0 (md_head ++ fields)
unfolding long_of
heads_stand fields = record { id_stands = refl; version_is_one = refl }

long_fits : (bytes : List ℕ) → IsBytes bytes → FitsSigned w32 (long_of bytes)
unfolding long_of
long_fits bytes h = sfits_to_z {w = w32} {n = big_number 4 bytes} (omega (arith, big_from-lt 0 4 bytes h))

value_fits : (kind : Kind) (width : ℕ) (bytes : List ℕ) → length bytes ≡ width → IsBytes bytes → Fits kind width (value_in kind width bytes)
unfolding unsigned_of
value_fits Long width bytes n h = long_fits bytes h
value_fits Unsigned width bytes n h = big_from-lt 0 width bytes h
value_fits Characters width bytes n h = n
value_fits Raw width bytes n h = n

-- what is read from bytes fits its fields
values_fit : (fields : List Field) (place : ℕ) (bytes : List ℕ) → stand_from place fields ≡ true → IsBytes bytes → place + size fields ≤ length bytes → AllFit fields (values_in fields bytes)
values_fit [] place bytes e h le = tt
values_fit (f ∷ fs) place bytes e h le =
    let whole = and_parts (eqb f.offset place && has_width f.kind f.width) (stand_from (place + f.width) fs) e in
    let first = and_parts (eqb f.offset place) (has_width f.kind f.width) whole.0 in
    let at : f.offset ≡ place = eqb-true f.offset place first.0 in (
      value_fits f.kind f.width (part f.offset f.width bytes) (length-part f.offset f.width bytes (omega (arith, at, le))) (IsBytes-take f.width (drop f.offset bytes) (IsBytes-drop f.offset bytes h)),
      values_fit fs (place + f.width) bytes whole.1 h (omega (arith, le)),
    )

md_fits : (fields : List ℕ) → length fields ≡ 316 → IsBytes (md_head ++ fields) → AllFit md_fields (md_values (md_in (md_head ++ fields)))
unfolding md_in long_of
md_fits fields n small =
    let all = values_fit md_fields 0 (md_head ++ fields) refl small (omega (arith, n)) in
    (refl, (fits_one, all.1.1))

pub md_taken : (fields : List ℕ) → length fields ≡ 316 → IsBytes fields → IsMd (md_in (md_head ++ fields)) × (md_bytes (md_in (md_head ++ fields)) ≡ md_head ++ fields)
md_taken fields n h =
    let bytes : List ℕ = md_head ++ fields in
    let long : length bytes ≡ 324 = omega (arith, n) in
    let small : IsBytes bytes = IsBytes-append md_head fields head_bytes h in
    let same : md_bytes (md_in bytes) ≡ bytes = md_bytes-md_in bytes small (omega (arith, long)) (heads_stand fields) ∙ take_all 324 bytes (omega (arith, long)) in
    (record { fits = md_fits fields n small; bytes = subst IsBytes (sym same) small }, same)

read_in : (o : Option HeadFault) (v m : Md) → unless o v ≡ Ok m → v ≡ m
read_in None v m e = cc
read_in (Some f) v m e = absurd cc

-- what is read back from its own bytes is a descriptor
pub md_written : (m : Md) (bytes : List ℕ) → bytes ≡ md_bytes m → length bytes ≡ 324 → IsBytes bytes → md_read bytes ≡ Ok m → IsMd m
unfolding md_read
md_written m bytes e n small r =
    let head : take 8 bytes ≡ md_head = ap (take 8) e ∙ head_first m in
    let whole : bytes ≡ md_head ++ drop 8 bytes = sym (take-append-drop 8 bytes) ∙ ap (λ (x : List ℕ). x ++ drop 8 bytes) head in
    let taken = md_taken (drop 8 bytes) (omega (arith, length-drop 8 bytes, n)) (IsBytes-drop 8 bytes small) in
    subst IsMd (ap md_in (sym whole) ∙ read_in (head_fault 324 (codes "MD  ") bytes) (md_in bytes) m r) taken.0
