-- A descriptor is read back from its bytes, and its bytes from it.
use Rattle.std.proofs.Common.{◌≡◌, ℕ, ◌≤◌, ◌++◌, List, [], length, take, refl, ap, ◌∙◌, codes}
use Rattle.std.specs.Prelude.{None, Ok, IfOk}
use Rattle.mq_base.proofs.Numbers.{AreBytes}
use Rattle.mq_message.specs.declared.message.Md.{Md}
use Rattle.mq_message.specs.Layout.{long_bytes, long_of, written, values_in, AllFit}
use Rattle.mq_message.specs.Descriptor.{md_fields, md_values, md_with, md_bytes, md_in, md_read, id_fault}
use Rattle.mq_message.proofs.TableLaws.{values_back, bytes_again, length-written}
use Rattle.mq_message.proofs.HeadLaws.{Heads, behind_head, read_back, read_exact}

-- a descriptor whose values fit their fields
pub record MdFits (m : Md) : Type 0 where
  pub all : AllFit md_fields (md_values m)

pub length-md_bytes : (m : Md) → MdFits m → length (md_bytes m) ≡ 324
unfolding md_bytes
length-md_bytes m fits = length-written md_fields 0 (md_values m) refl fits.all

-- bytes that begin with a descriptor's bytes hold it
pub md_in-md_bytes : (m : Md) (rest : List ℕ) → MdFits m → md_in (md_bytes m ++ rest) ≡ m
unfolding md_in md_bytes
md_in-md_bytes m rest fits = ap md_with (values_back md_fields 0 [] rest (md_values m) refl refl fits.all)

md_id : (m : Md) (rest : List ℕ) → id_fault (codes "MD  ") 0 (md_bytes m ++ rest) ≡ None
unfolding md_bytes long_bytes long_of
md_id m rest = refl

-- a descriptor is read from bytes that begin with its own
pub md_read-md_bytes : (m : Md) (rest : List ℕ) → MdFits m → md_read (md_bytes m ++ rest) ≡ Ok m
unfolding md_read
md_read-md_bytes m rest fits = read_back 324 (codes "MD  ") (md_bytes m) rest (md_in (md_bytes m ++ rest)) m (length-md_bytes m fits) (md_id m rest) (md_in-md_bytes m rest fits)

-- what is read from bytes has them as its own
pub md_bytes-md_in : (bytes : List ℕ) → AreBytes bytes → 324 ≤ length bytes → Heads (codes "MD  ") 0 bytes → md_bytes (md_in bytes) ≡ take 324 bytes
unfolding md_bytes md_in
md_bytes-md_in bytes small long heads =
    ap (written md_fields) (behind_head (codes "MD  ") (values_in md_fields bytes) heads.id_stands heads.version_is_one) ∙ bytes_again md_fields 0 bytes refl small long

-- what is read is what has these bytes
pub md_read_exact : (bytes : List ℕ) → AreBytes bytes → IfOk (md_read bytes) (λ m. md_bytes m ≡ take 324 bytes)
unfolding md_read
md_read_exact bytes small = read_exact 324 (codes "MD  ") bytes md_bytes (md_in bytes) (λ long heads. md_bytes-md_in bytes small long heads)
