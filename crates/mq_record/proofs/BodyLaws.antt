-- A body is one record or none.
use Rattle.std.proofs.Common.{◌≡◌, ℕ, List, [], ◌++◌, Ok, Err, sym, ap, ◌∙◌}
use Rattle.std.proofs.lemmas.List.{append-nil}
use Rattle.mq_frame.specs.declared.fault.Miss.{Miss}
use Rattle.mq_frame.specs.Reading.{IsBytes}
use Rattle.mq_frame.proofs.Readers.{one_ok, ok_err}
use Rattle.mq_record.specs.declared.record.WrittenRecord.{WrittenRecord}
use Rattle.mq_record.specs.Records.{body_bytes, IsWritten, IsBodyOf}
use Rattle.mq_record.specs.Reading.{record_at}
use Rattle.mq_record.proofs.KindLaws.{record_got, record_again}

-- no record's bytes begin another's
pub one_record : (w other : WrittenRecord) (rest left : List ℕ) → IsWritten w → IsWritten other → body_bytes w ++ rest ≡ body_bytes other ++ left → (w ≡ other) × (rest ≡ left)
one_record w other rest left is are e = one_ok (record_at (body_bytes w ++ rest)) w other rest left (record_again w rest is) (ap record_at e ∙ record_again other left are)

-- a body that is a record is read as that
pub body_again : (w : WrittenRecord) (body : List ℕ) → IsBodyOf w body → record_at body ≡ Ok (w, [])
body_again w body h = ap record_at (h.whole ∙ sym (append-nil (body_bytes w))) ∙ record_again w [] h.is

pub one_body : (body : List ℕ) (w other : WrittenRecord) → IsBodyOf w body → IsBodyOf other body → w ≡ other
one_body body w other p q = (one_ok (record_at body) w other [] [] (body_again w body p) (body_again other body q)).0

-- all of the body was read
pub is_body : (body : List ℕ) (w : WrittenRecord) (rest : List ℕ) → IsBytes body → record_at body ≡ Ok (w, rest) → rest ≡ [] → IsBodyOf w body
is_body body w rest fits e none =
    let h = record_got body w rest fits e in
    record { is = h.0; whole = h.1 ∙ ap (λ (z : List ℕ). body_bytes w ++ z) none ∙ append-nil (body_bytes w) }

-- something stands behind the record
pub is_longer : (body : List ℕ) (w : WrittenRecord) (rest : List ℕ) → record_at body ≡ Ok (w, rest) → (rest ≡ [] → ⊥) → (other : WrittenRecord) → IsBodyOf other body → ⊥
is_longer body w rest e some other h = some (one_ok (record_at body) w other rest [] e (body_again other body h)).1

-- nothing was read
pub is_none : (body : List ℕ) (e : Miss) → record_at body ≡ Err e → (other : WrittenRecord) → IsBodyOf other body → ⊥
is_none body e p other h = ok_err (record_at body) (other, []) e (body_again other body h) p
