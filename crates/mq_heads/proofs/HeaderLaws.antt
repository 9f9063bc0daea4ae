-- Each header is read back from its bytes, and its bytes from it.
use Rattle.std.proofs.Common.{◌≡◌, ℕ, zero, suc, ◌≤◌, ◌++◌, List, [], ◌∷◌, length, take, drop, refl, sym, ap, ◌∙◌, arith, codes, Bool, true, false, pos, length-append}
use Rattle.std.specs.Prelude.{Option, Some, None, Ok, Err, IfOk, nat_lt}
use Rattle.std.proofs.lemmas.Bool.{ltb-false}
use Rattle.std.proofs.lemmas.List.{take_all}
use Rattle.mq_message.proofs.from_base.Numbers.{AreBytes}
use Rattle.mq_message.specs.declared.head.HeadFault.{HeadFault}
use Rattle.mq_message.specs.declared.message.Md.{Md}
use Rattle.mq_message.specs.Layout.{long_bytes, long_of, part, written, values_in, AllFit, Values}
use Rattle.mq_message.specs.Descriptor.{md_bytes, md_in, md_read, head_fault, id_fault, or_short, unless}
use Rattle.mq_message.proofs.TableLaws.{values_back, bytes_again, length-written, length-part}
use Rattle.mq_message.proofs.DescriptorLaws.{md_bytes-md_in}
use Rattle.mq_message.proofs.HeadLaws.{Heads, heads_of_none, not_short, behind_head, read_back, read_exact}
use Rattle.mq_heads.specs.declared.headers.Xqh.{Xqh}
use Rattle.mq_heads.specs.declared.headers.Dlh.{Dlh}
use Rattle.mq_heads.specs.declared.headers.Tm.{Tm}
use Rattle.mq_heads.specs.Headers.{xqh_fields, xqh_values, xqh_with, xqh_bytes, xqh_in, xqh_read, or_else, dlh_fields, dlh_values, dlh_with, dlh_bytes, dlh_in, dlh_read, tm_fields, tm_values, tm_with, tm_bytes, tm_in, tm_read}

pub record DlhFits (h : Dlh) : Type 0 where
  pub all : AllFit dlh_fields (dlh_values h)

dlh_id : (h : Dlh) (rest : List ℕ) → id_fault (codes "DLH ") 0 (dlh_bytes h ++ rest) ≡ None
unfolding dlh_bytes long_bytes long_of
dlh_id h rest = refl

-- it is read from bytes that begin with its own
pub dlh_read-dlh_bytes : (h : Dlh) (rest : List ℕ) → DlhFits h → dlh_read (dlh_bytes h ++ rest) ≡ Ok h
unfolding dlh_read dlh_in dlh_bytes
dlh_read-dlh_bytes h rest fits =
    let len : length (dlh_bytes h) ≡ 172 = length-written dlh_fields 0 (dlh_values h) refl fits.all in
    let found : dlh_in (dlh_bytes h ++ rest) ≡ h = ap dlh_with (values_back dlh_fields 0 [] rest (dlh_values h) refl refl fits.all) in
    read_back 172 (codes "DLH ") (dlh_bytes h) rest (dlh_in (dlh_bytes h ++ rest)) h len (dlh_id h rest) found

-- what is read has these bytes
pub dlh_read_exact : (bytes : List ℕ) → AreBytes bytes → IfOk (dlh_read bytes) (λ h. dlh_bytes h ≡ take 172 bytes)
unfolding dlh_read dlh_in dlh_bytes
dlh_read_exact bytes small =
    read_exact 172 (codes "DLH ") bytes dlh_bytes (dlh_in bytes) (λ long heads.
    ap (written dlh_fields) (behind_head (codes "DLH ") (values_in dlh_fields bytes) heads.id_stands heads.version_is_one) ∙ bytes_again dlh_fields 0 bytes refl small long)

pub record TmFits (h : Tm) : Type 0 where
  pub all : AllFit tm_fields (tm_values h)

tm_id : (h : Tm) (rest : List ℕ) → id_fault (codes "TM  ") 0 (tm_bytes h ++ rest) ≡ None
unfolding tm_bytes long_bytes long_of
tm_id h rest = refl

-- it is read from bytes that begin with its own
pub tm_read-tm_bytes : (h : Tm) (rest : List ℕ) → TmFits h → tm_read (tm_bytes h ++ rest) ≡ Ok h
unfolding tm_read tm_in tm_bytes
tm_read-tm_bytes h rest fits =
    let len : length (tm_bytes h) ≡ 684 = length-written tm_fields 0 (tm_values h) refl fits.all in
    let found : tm_in (tm_bytes h ++ rest) ≡ h = ap tm_with (values_back tm_fields 0 [] rest (tm_values h) refl refl fits.all) in
    read_back 684 (codes "TM  ") (tm_bytes h) rest (tm_in (tm_bytes h ++ rest)) h len (tm_id h rest) found

-- what is read has these bytes
pub tm_read_exact : (bytes : List ℕ) → AreBytes bytes → IfOk (tm_read bytes) (λ h. tm_bytes h ≡ take 684 bytes)
unfolding tm_read tm_in tm_bytes
tm_read_exact bytes small =
    read_exact 684 (codes "TM  ") bytes tm_bytes (tm_in bytes) (λ long heads.
    ap (written tm_fields) (behind_head (codes "TM  ") (values_in tm_fields bytes) heads.id_stands heads.version_is_one) ∙ bytes_again tm_fields 0 bytes refl small long)

-- a header whose values fit, and whose descriptor is read back from its own bytes
pub record XqhFits (h : Xqh) : Type 0 where
  pub all : AllFit xqh_fields (xqh_values h)
  pub inside : md_read (md_bytes h.msg_desc) ≡ Ok h.msg_desc

ok_only : (fault : Option HeadFault) (x m : Md) → unless fault x ≡ Ok m → (fault ≡ None) × (x ≡ m)
ok_only None x m e = (refl, cc)
ok_only (Some f) x m e = absurd cc

err_only : (fault : Option HeadFault) (x : Md) (f : HeadFault) → unless fault x ≡ Err f → fault ≡ Some f
err_only None x f e = absurd cc
err_only (Some g) x f e = cc

-- what a descriptor that was read tells, and what a fault tells
pub md_read_ok : (bytes : List ℕ) (m : Md) → md_read bytes ≡ Ok m → (head_fault 324 (codes "MD  ") bytes ≡ None) × (md_in bytes ≡ m)
unfolding md_read
md_read_ok bytes m e = ok_only (head_fault 324 (codes "MD  ") bytes) (md_in bytes) m e

pub md_read_err : (bytes : List ℕ) (f : HeadFault) → md_read bytes ≡ Err f → head_fault 324 (codes "MD  ") bytes ≡ Some f
unfolding md_read
md_read_err bytes f e = err_only (head_fault 324 (codes "MD  ") bytes) (md_in bytes) f e

length-xqh_bytes : (h : Xqh) → XqhFits h → length (xqh_bytes h) ≡ 428
unfolding xqh_bytes
length-xqh_bytes h fits = length-written xqh_fields 0 (xqh_values h) refl fits.all

xqh_values_back : (h : Xqh) (rest : List ℕ) → XqhFits h → values_in xqh_fields (xqh_bytes h ++ rest) ≡ xqh_values h
unfolding xqh_bytes
xqh_values_back h rest fits = values_back xqh_fields 0 [] rest (xqh_values h) refl refl fits.all

xqh_in-xqh_bytes : (h : Xqh) (rest : List ℕ) → XqhFits h → xqh_in (xqh_bytes h ++ rest) ≡ h
unfolding xqh_in
xqh_in-xqh_bytes h rest fits =
    let inner = md_read_ok (md_bytes h.msg_desc) h.msg_desc fits.inside in
    ap xqh_with (xqh_values_back h rest fits) ∙ (λ i. record { remote_q_name = h.remote_q_name; remote_q_mgr_name = h.remote_q_mgr_name; msg_desc = inner.1 i })

xqh_id : (h : Xqh) (rest : List ℕ) → id_fault (codes "XQH ") 0 (xqh_bytes h ++ rest) ≡ None
unfolding xqh_bytes long_bytes long_of
xqh_id h rest = refl

-- it is read from bytes that begin with its own
pub xqh_read-xqh_bytes : (h : Xqh) (rest : List ℕ) → XqhFits h → xqh_read (xqh_bytes h ++ rest) ≡ Ok h
unfolding xqh_read
xqh_read-xqh_bytes h rest fits =
    let bytes : List ℕ = xqh_bytes h ++ rest in
    let long : 428 ≤ length bytes = let a = length-append (xqh_bytes h) rest in let b = length-xqh_bytes h fits in omega arith in
    let outer : head_fault 428 (codes "XQH ") bytes ≡ None = not_short 428 (length bytes) (id_fault (codes "XQH ") 0 bytes) long ∙ xqh_id h rest in
    let inside : part 104 324 bytes ≡ md_bytes h.msg_desc = ap (λ (v : Values xqh_fields). v.1.1.1.1.0) (xqh_values_back h rest fits) in
    let inner : head_fault 324 (codes "MD  ") (part 104 324 bytes) ≡ None = ap (head_fault 324 (codes "MD  ")) inside ∙ (md_read_ok (md_bytes h.msg_desc) h.msg_desc fits.inside).0 in
    rw (outer, inner, xqh_in-xqh_bytes h rest fits) refl

take_are_bytes : (n : ℕ) (xs : List ℕ) → AreBytes xs → AreBytes (take n xs)
take_are_bytes zero xs h i = omega arith
take_are_bytes (suc n) [] h i = h i
take_are_bytes (suc n) (x ∷ xs) h zero = h zero
take_are_bytes (suc n) (x ∷ xs) h (suc i) = take_are_bytes n xs (λ j. h (suc j)) i

drop_are_bytes : (n : ℕ) (xs : List ℕ) → AreBytes xs → AreBytes (drop n xs)
drop_are_bytes zero xs h i = h i
drop_are_bytes (suc n) [] h i = h i
drop_are_bytes (suc n) (x ∷ xs) h i = drop_are_bytes n xs (λ j. h (suc j)) i

xqh_values-xqh_with : (v : Values xqh_fields) → v.0 ≡ codes "XQH " → v.1.0 ≡ pos 1 → md_bytes (md_in v.1.1.1.1.0) ≡ v.1.1.1.1.0 → xqh_values (xqh_with v) ≡ v
xqh_values-xqh_with v id version inside = λ i. (sym id i, (sym version i, (v.1.1.0, (v.1.1.1.0, (inside i, v.1.1.1.1.1)))))

inside_again : (bytes : List ℕ) → AreBytes bytes → 428 ≤ length bytes → Heads (codes "MD  ") 0 (part 104 324 bytes) → md_bytes (md_in (part 104 324 bytes)) ≡ part 104 324 bytes
inside_again bytes small long heads =
    let len = length-part 104 324 bytes long in
    let bytes_small = take_are_bytes 324 (drop 104 bytes) (drop_are_bytes 104 bytes small) in
    md_bytes-md_in (part 104 324 bytes) bytes_small (omega arith) heads ∙ take_all 324 (part 104 324 bytes) (omega arith)

xqh_bytes-xqh_in : (bytes : List ℕ) → AreBytes bytes → 428 ≤ length bytes → Heads (codes "XQH ") 0 bytes → Heads (codes "MD  ") 0 (part 104 324 bytes) → xqh_bytes (xqh_in bytes) ≡ take 428 bytes
unfolding xqh_bytes xqh_in
xqh_bytes-xqh_in bytes small long heads inner =
    ap (written xqh_fields) (xqh_values-xqh_with (values_in xqh_fields bytes) heads.id_stands heads.version_is_one (inside_again bytes small long inner)) ∙ bytes_again xqh_fields 0 bytes refl small long

heads_inside : (bytes : List ℕ) (short : Bool) → or_short short (id_fault (codes "MD  ") 0 bytes) ≡ None → Heads (codes "MD  ") 0 bytes
heads_inside bytes true e = absurd cc
heads_inside bytes false e = heads_of_none (codes "MD  ") 0 bytes e

xqh_exact_by : (bytes : List ℕ) (short : Bool) (fault inner : Option HeadFault) → AreBytes bytes → (short ≡ false → 428 ≤ length bytes) → (fault ≡ None → Heads (codes "XQH ") 0 bytes) → (inner ≡ None → Heads (codes "MD  ") 0 (part 104 324 bytes)) → IfOk (unless (or_else (or_short short fault) inner) (xqh_in bytes)) (λ h. xqh_bytes h ≡ take 428 bytes)
xqh_exact_by bytes true fault inner small long heads inside = search
xqh_exact_by bytes false (Some fault) inner small long heads inside = search
xqh_exact_by bytes false None (Some fault) small long heads inside = search
xqh_exact_by bytes false None None small long heads inside = xqh_bytes-xqh_in bytes small (long refl) (heads refl) (inside refl)

-- what is read has these bytes
pub xqh_read_exact : (bytes : List ℕ) → AreBytes bytes → IfOk (xqh_read bytes) (λ h. xqh_bytes h ≡ take 428 bytes)
unfolding xqh_read
xqh_read_exact bytes small =
    xqh_exact_by bytes (nat_lt (length bytes) 428) (id_fault (codes "XQH ") 0 bytes) (head_fault 324 (codes "MD  ") (part 104 324 bytes)) small (λ e. ltb-false (length bytes) 428 e) (λ e. heads_of_none (codes "XQH ") 0 bytes e) (λ e. heads_inside (part 104 324 bytes) (nat_lt (length (part 104 324 bytes)) 324) e)
