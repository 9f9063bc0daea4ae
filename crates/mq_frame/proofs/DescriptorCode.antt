-- A descriptor as the code reads it.
use Rattle.std.proofs.Common.{◌≡◌, ℕ, List, ◌++◌, Result, Ok, Err, sym, ap, subst, ◌∙◌, append_assoc}
use Rattle.mq_message.specs.declared.message.Md.{Md}
use Rattle.mq_message.specs.declared.head.HeadFault.{HeadFault}
use Rattle.mq_message.specs.Descriptor.{md_bytes, md_in, md_read}
use Rattle.mq_message.proofs.DescriptorLaws.{md_read-md_bytes}
use Rattle.mq_frame.specs.declared.fault.Miss.{Miss}
use Rattle.mq_frame.specs.Reading.{◌>>=◌, IsBytes, fixed_at, piece_at, md_head, md_at}
use Rattle.mq_frame.proofs.Readers.{IsBytes-rest}
use Rattle.mq_frame.proofs.Pieces.{Reads-fixed, Reads-piece}
use Rattle.mq_frame.proofs.Descriptor.{md_taken}

-- behind the head, so many bytes are the other fields
pub md_code : (bytes fields piece rest : List ℕ) → IsBytes bytes → fixed_at md_head bytes ≡ Ok (tt, fields) → piece_at 316 fields ≡ Ok (piece, rest) → md_read bytes ≡ Ok (md_in (md_head ++ piece))
md_code bytes fields piece rest small e p =
    let t = (Reads-fixed md_head).got bytes tt fields small e in
    let parts : bytes ≡ md_head ++ fields = t.parts ∙ ap (λ (x : List ℕ). x ++ fields) t.spelled in
    let others : IsBytes fields = IsBytes-rest md_head fields (subst IsBytes parts small) in
    let u = (Reads-piece 316).got fields piece rest others p in
    let taken = md_taken piece u.spelled.0 u.spelled.1 in
    let m = md_in (md_head ++ piece) in
    let whole : bytes ≡ md_bytes m ++ rest =
    parts ∙ ap (λ (x : List ℕ). md_head ++ x) (u.parts ∙ ap (λ (x : List ℕ). x ++ rest) u.spelled.2) ∙ sym (append_assoc md_head piece rest) ∙ ap (λ (x : List ℕ). x ++ rest) (sym taken.1) in
    ap md_read whole ∙ md_read-md_bytes m rest (record { all = taken.0.fits })

pub ok_no_err : (r : Result Md HeadFault) (m : Md) (e : HeadFault) → r ≡ Ok m → r ≡ Err e → ⊥
ok_no_err (Ok x) m e p q = absurd cc
ok_no_err (Err x) m e p q = absurd cc

one_md : (r : Result Md HeadFault) (m n : Md) → r ≡ Ok m → r ≡ Ok n → m ≡ n
one_md (Ok x) m n p q = cc
one_md (Err x) m n p q = absurd cc

pub md_at_is : (bytes fields piece rest : List ℕ) (m : Md) → IsBytes bytes → fixed_at md_head bytes ≡ Ok (tt, fields) → piece_at 316 fields ≡ Ok (piece, rest) → md_read bytes ≡ Ok m → md_at bytes ≡ Ok (m, rest)
unfolding md_at
md_at_is bytes fields piece rest m small e p r =
    let same = one_md (md_read bytes) (md_in (md_head ++ piece)) m (md_code bytes fields piece rest small e p) r in
    let f : List ℕ × List ℕ → Result (Md × List ℕ) Miss = λ x. Ok (md_in (md_head ++ x.0), x.1) in
    ap (λ (x : Result (Unit {0} × List ℕ) Miss). x >>= λ head. piece_at 316 head.1 >>= f) e ∙ ap (λ (x : Result (List ℕ × List ℕ) Miss). x >>= f) p ∙ ap (λ (x : Md). Ok (x, rest)) same
