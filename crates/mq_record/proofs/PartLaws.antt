-- The readers of fields and of messages.
use Rattle.std.proofs.Common.{◌≡◌, ℕ, zero, suc, pos, ◌-◌, ◌^◌, ◌<◌, ◌≤◌, Bool, true, false, cond, eqb, leb, ltb, List, [], ◌∷◌, ◌++◌, length, replicate, Option, Some, None, Result, Ok, Err, refl, sym, ap, subst, ◌∙◌, append_assoc, arith, le-leb}
use Rattle.std.specs.Prelude.{IfSome, position, not}
use Rattle.std.specs.Str.{bytes_eq}
use Rattle.std.specs.Ordering.{int_eq}
use Rattle.std.specs.Cmp.{signed_Decides}
use Rattle.std.proofs.lemmas.Slice.Eq.{bytes_eq-Decides}
use Rattle.std.proofs.lemmas.Bool.{cond-true, cond-false, ltb-false, le-ltb, leb-true}
use Rattle.std.proofs.lemmas.List.{append-nil, length-append, length-replicate}
use Rattle.byteorder.specs.Endian.{big_bytes}
use Rattle.mq_base.specs.Name.{is_name_byte, padded, IsName, name_of, name_or_bad}
use Rattle.mq_base.specs.declared.fault.NameFault.{NameFault}
use Rattle.mq_base.specs.declared.fault.NameFault.TheVariants.{TooLong}
use Rattle.mq_base.proofs.Fields.{no_bad}
use Rattle.mq_message.specs.declared.message.Ident.{Ident}
use Rattle.mq_message.specs.declared.message.Dest.{Dest}
use Rattle.mq_message.specs.declared.message.Md.{Md}
use Rattle.mq_message.specs.declared.message.Message.{Message}
use Rattle.mq_message.specs.Descriptor.{md_bytes}
use Rattle.mq_frame.specs.declared.fault.Miss.{Miss}
use Rattle.mq_frame.specs.declared.fault.Miss.TheVariants.{Wrong}
use Rattle.mq_frame.specs.Frames.{most_body, flag, ident_bytes, deadline_bytes, dest_bytes, route_bytes, message_bytes, IsIdent, IsDest, IsMd}
use Rattle.mq_frame.specs.Reading.{◌>>=◌, IsBytes, byte_at, number_at, piece_at, name_at, dest_at, ident_at, deadline_at, md_at}
use Rattle.mq_frame.proofs.Readers.{bind_ok, one_ok}
use Rattle.mq_frame.proofs.Pieces.{Reads-byte, Reads-body, Reads-number}
use Rattle.mq_frame.proofs.Names.{Reads-name, all_no_bad}
use Rattle.mq_frame.proofs.Parts.{Reads-dest, Reads-ident, Reads-deadline, Reads-md}
use Rattle.mq_calls.specs.from_sync.{End}
use Rattle.mq_calls.specs.from_sync.EndVariants as ends
use Rattle.mq_frame.proofs.KindReaders.{flag_is}
use Rattle.mq_record.specs.declared.record.Operation.{Operation}
use Rattle.mq_record.specs.declared.record.Operation.TheVariants.{Set, Delete}
use Rattle.mq_record.specs.Records.{operation_number, end_number, add_bytes, remove_bytes, IsChannel, IsUnit, IsKept, IsAdd, IsRemove}
use Rattle.mq_record.specs.Reading.{both, no_more, word_of, channel_in, channel_at, unit_at, flag_at, operation_at, end_at, text_at, persistent, kept_md_at, routed_if, route_at, body_at, message_at, add_at, remove_at}
use Rattle.mq_record.proofs.WordLaws.{word_back}
use Rattle.mq_record.proofs.ExactLaws.{Exact, exact_of, exact_none, exact_both, exact_made, exact_then}

-- ---- a choice

-- what is read where a test passes
pub guard_ok : {A : Type 0} (b : Bool) (x y : A) (e : Miss) → cond b (Ok x) (Err e) ≡ Ok y → (b ≡ true) × (x ≡ y)
guard_ok true x y e p = (refl, cc)
guard_ok false x y e p = absurd cc

pub guard_at : {A : Type 0} (b : Bool) (r : Result A Miss) (y : A) (e : Miss) → cond b r (Err e) ≡ Ok y → (b ≡ true) × (r ≡ Ok y)
guard_at true r y e p = (refl, p)
guard_at false r y e p = absurd cc

abbrev paired : {A : Type 0} → A → List ℕ → A × List ℕ
paired a x = (a, x)

same_pair : {A : Type 0} (a b : A) (x y : List ℕ) → paired a x ≡ paired b y → (a ≡ b) × (x ≡ y)
same_pair {A = A} a b x y e = (ap (λ (v : A × List ℕ). v.0) e, ap (λ (v : A × List ℕ). v.1) e)

-- ---- what frames have too

pub exact_byte : (low high : ℕ) → low ≤ high → Exact (byte_at low high) (λ b. (low ≤ b) × (b ≤ high)) (λ b. b ∷ [])
exact_byte low high order =
    let h = Reads-byte low high order in
    record {
      got = λ bytes b rest fits e.
          let t = h.got bytes b rest fits e in
          ((t.spelled.0, t.spelled.1), t.parts ∙ ap (λ (z : List ℕ). z ++ rest) t.spelled.2);
      again = λ b rest is. h.again b (b ∷ []) rest (is.0, is.1, refl);
    }

pub exact_number : (width : ℕ) → Exact (number_at width) (λ n. n < 256 ^ width) (big_bytes width)
exact_number width = exact_of (number_at width) (λ n. n < 256 ^ width) (big_bytes width) (Reads-number width)

exact_piece : (width : ℕ) → Exact (piece_at width) (λ body. length body ≡ width) (λ body. body)
exact_piece width = exact_of (piece_at width) (λ body. length body ≡ width) (λ body. body) (Reads-body width)

pub exact_name : Exact name_at (IsName 48) (padded 48)
exact_name = exact_of name_at (IsName 48) (padded 48) Reads-name

pub exact_ident : Exact ident_at IsIdent ident_bytes
exact_ident = exact_of ident_at IsIdent ident_bytes Reads-ident

-- ---- a channel's name

bad_ok : (text name : List ℕ) (o : Option ℕ) → name_or_bad text o ≡ Ok name → (o ≡ None) × (name ≡ text)
bad_ok text name None e = (refl, cc)
bad_ok text name (Some place) e = absurd cc

long_ok : (b : Bool) (text name : List ℕ) (o : Option ℕ) → cond b (Err TooLong) (name_or_bad text o) ≡ Ok name → (b ≡ false) × (o ≡ None) × (name ≡ text)
long_ok true text name o e = absurd cc
long_ok false text name o e = let h = bad_ok text name o e in (refl, h.0, h.1)

channel_is : (text name : List ℕ) → name_of 20 text ≡ Ok name → IsChannel name
channel_is [] name e = absurd cc
channel_is (b ∷ bs) name e =
    let h = long_ok (ltb 20 (length (b ∷ bs))) (b ∷ bs) name (position (λ b. not (is_name_byte b)) (b ∷ bs)) e in
    subst IsChannel (sym h.2) (record { name = record { fits = ltb-false _ _ h.0; bytes = no_bad (b ∷ bs) h.1 }; some = omega arith })

channel_named : (name : List ℕ) → IsChannel name → name_of 20 name ≡ Ok name
channel_named [] h = absurd (omega (arith, h.some))
channel_named (b ∷ bs) h =
    let none = all_no_bad (b ∷ bs) (position (λ b. not (is_name_byte b)) (b ∷ bs)) refl h.name.bytes in
    cond-false (ltb 20 (length (b ∷ bs))) (Err TooLong) (name_or_bad (b ∷ bs) (position (λ b. not (is_name_byte b)) (b ∷ bs))) (le-ltb _ _ h.name.fits) ∙ ap (name_or_bad (b ∷ bs)) none

channel_got : (field rest : List ℕ) (r : Result (List ℕ) NameFault) (name left : List ℕ) → name_of 20 (word_of field) ≡ r → channel_in field rest r ≡ Ok (name, left) → IsChannel name × (field ≡ padded 20 name) × (rest ≡ left)
channel_got field rest (Ok n) name left p e =
    let g = guard_ok (bytes_eq (padded 20 n) field) (n, rest) (name, left) (Wrong (length rest)) e in
    let same = same_pair n name rest left g.1 in
    (subst IsChannel same.0 (channel_is (word_of field) n p), sym ((bytes_eq-Decides (padded 20 n) field).0 g.0) ∙ ap (padded 20) same.0, same.1)
channel_got field rest (Err fault) name left p e = absurd cc

channel_long : (name : List ℕ) → IsChannel name → length (padded 20 name) ≡ 20
channel_long name h = omega (arith, h.name.fits, length-append name (replicate (20 - length name) 32), length-replicate {A = ℕ} (20 - length name) 32)

channel_again : (name rest : List ℕ) → IsChannel name → channel_in (padded 20 name) rest (name_of 20 (word_of (padded 20 name))) ≡ Ok (name, rest)
channel_again name rest h =
    ap (λ (w : List ℕ). channel_in (padded 20 name) rest (name_of 20 w)) (word_back name (20 - length name) h.name.bytes)
    ∙ ap (channel_in (padded 20 name) rest) (channel_named name h)
    ∙ cond-true (bytes_eq (padded 20 name) (padded 20 name)) (Ok (name, rest)) (Err (Wrong (length rest))) ((bytes_eq-Decides (padded 20 name) (padded 20 name)).1 refl)

pub exact_channel : Exact channel_at IsChannel (padded 20)
unfolding channel_at
exact_channel =
    exact_then (piece_at 20) (λ field rest. channel_in field rest (name_of 20 (word_of field))) (λ body. length body ≡ 20) (λ body. body) IsChannel (padded 20) (padded 20)
    (exact_piece 20)
    (λ field bytes name rest is fits e.
    let h = channel_got field bytes (name_of 20 (word_of field)) name rest refl e in
    (h.0, ap (λ (z : List ℕ). z ++ bytes) h.1 ∙ ap (λ (z : List ℕ). padded 20 name ++ z) h.2))
    (λ name rest is. (channel_long name is, (rest, refl, channel_again name rest is)))

-- ---- numbers that stand for something

pub exact_unit : Exact unit_at IsUnit (λ unit. big_bytes 8 unit.session ++ big_bytes 8 unit.n)
unfolding unit_at
exact_unit =
    exact_made (both (number_at 8) (both (number_at 8) no_more)) (λ v. (v.0 < 256 ^ 8) × ((v.1.0 < 256 ^ 8) × Unit {0})) (λ v. big_bytes 8 v.0 ++ (big_bytes 8 v.1.0 ++ []))
    (λ v. record { session = v.0; n = v.1.0 }) IsUnit (λ unit. big_bytes 8 unit.session ++ big_bytes 8 unit.n)
    (exact_both (number_at 8) (both (number_at 8) no_more) (λ n. n < 256 ^ 8) (λ v. (v.0 < 256 ^ 8) × Unit {0}) (big_bytes 8) (λ v. big_bytes 8 v.0 ++ [])
    (exact_number 8) (exact_both (number_at 8) no_more (λ n. n < 256 ^ 8) (λ u. Unit {0}) (big_bytes 8) (λ u. []) (exact_number 8) exact_none))
    (record {
      is = λ v h. record { session = h.0; n = h.1.0 };
      same = λ v h. ap (λ (z : List ℕ). big_bytes 8 v.0 ++ z) (sym (append-nil (big_bytes 8 v.1.0)));
      parts = λ unit. (unit.session, (unit.n, tt));
      back = λ unit h. refl;
      are = λ unit h. (h.session, (h.n, tt));
    })

flag_back : (b : Bool) → eqb (flag b) 1 ≡ b
flag_back true = refl
flag_back false = refl

flag_small : (b : Bool) → (0 ≤ flag b) × (flag b ≤ 1)
flag_small true = (omega arith, omega arith)
flag_small false = (omega arith, omega arith)

pub exact_flag : Exact flag_at (λ b. Unit {0}) (λ b. flag b ∷ [])
unfolding flag_at
exact_flag =
    exact_made (byte_at 0 1) (λ n. (0 ≤ n) × (n ≤ 1)) (λ n. n ∷ []) (λ n. eqb n 1) (λ b. Unit {0}) (λ b. flag b ∷ []) (exact_byte 0 1 (omega arith))
    (record {
      is = λ n h. tt;
      same = λ n h. ap (λ (x : ℕ). x ∷ []) (flag_is n h.1);
      parts = flag;
      back = λ b h. flag_back b;
      are = λ b h. flag_small b;
    })

abbrev operation_made : ℕ → Operation
operation_made n = cond (eqb n 1) Set Delete

operation_is : (n : ℕ) → 1 ≤ n → n ≤ 2 → operation_number (operation_made n) ≡ n
operation_is zero l h = absurd (omega arith)
operation_is (suc zero) l h = refl
operation_is (suc (suc zero)) l h = refl
operation_is (suc (suc (suc n))) l h = absurd (omega arith)

operation_back : (o : Operation) → operation_made (operation_number o) ≡ o
operation_back Set = refl
operation_back Delete = refl

operation_small : (o : Operation) → (1 ≤ operation_number o) × (operation_number o ≤ 2)
operation_small Set = (omega arith, omega arith)
operation_small Delete = (omega arith, omega arith)

pub exact_operation : Exact operation_at (λ o. Unit {0}) (λ o. operation_number o ∷ [])
unfolding operation_at
exact_operation =
    exact_made (byte_at 1 2) (λ n. (1 ≤ n) × (n ≤ 2)) (λ n. n ∷ []) operation_made (λ o. Unit {0}) (λ o. operation_number o ∷ []) (exact_byte 1 2 (omega arith))
    (record {
      is = λ n h. tt;
      same = λ n h. ap (λ (x : ℕ). x ∷ []) (operation_is n h.0 h.1);
      parts = operation_number;
      back = λ o h. operation_back o;
      are = λ o h. operation_small o;
    })

abbrev end_made : ℕ → End
end_made n = cond (eqb n 1) ends.Sender ends.Receiver

end_is : (n : ℕ) → 1 ≤ n → n ≤ 2 → end_number (end_made n) ≡ n
end_is zero l h = absurd (omega arith)
end_is (suc zero) l h = refl
end_is (suc (suc zero)) l h = refl
end_is (suc (suc (suc n))) l h = absurd (omega arith)

end_back : (o : End) → end_made (end_number o) ≡ o
end_back ends.Sender = refl
end_back ends.Receiver = refl

end_small : (o : End) → (1 ≤ end_number o) × (end_number o ≤ 2)
end_small ends.Sender = (omega arith, omega arith)
end_small ends.Receiver = (omega arith, omega arith)

pub exact_end : Exact end_at (λ e. Unit {0}) (λ e. end_number e ∷ [])
unfolding end_at
exact_end =
    exact_made (byte_at 1 2) (λ n. (1 ≤ n) × (n ≤ 2)) (λ n. n ∷ []) end_made (λ e. Unit {0}) (λ e. end_number e ∷ []) (exact_byte 1 2 (omega arith))
    (record {
      is = λ n h. tt;
      same = λ n h. ap (λ (x : ℕ). x ∷ []) (end_is n h.0 h.1);
      parts = end_number;
      back = λ e h. end_back e;
      are = λ e h. end_small e;
    })

-- ---- texts and bodies behind their lengths

abbrev pub counted_bytes : List ℕ → List ℕ
counted_bytes text = big_bytes 4 (length text) ++ text

pub exact_text : Exact text_at (λ text. length text < 2 ^ 32) counted_bytes
unfolding text_at
exact_text =
    exact_then (number_at 4) piece_at (λ n. n < 256 ^ 4) (big_bytes 4) (λ text. length text < 2 ^ 32) counted_bytes (λ (text : List ℕ). length text) (exact_number 4)
    (λ n bytes text rest is fits e.
    let h = (exact_piece n).got bytes text rest fits e in
    (omega (arith, is, h.0), ap (λ (z : List ℕ). big_bytes 4 n ++ z) h.1 ∙ ap (λ (k : ℕ). big_bytes 4 k ++ (text ++ rest)) (sym h.0) ∙ sym (append_assoc (big_bytes 4 (length text)) text rest)))
    (λ text rest is. (is, (text ++ rest, append_assoc (big_bytes 4 (length text)) text rest, (exact_piece (length text)).again text rest refl)))

abbrev limited : ℕ → List ℕ → Result (List ℕ × List ℕ) Miss
limited n bytes = cond (leb n most_body) (piece_at n bytes) (Err (Wrong (length bytes)))

pub exact_body : Exact body_at (λ body. length body ≤ most_body) counted_bytes
unfolding body_at
exact_body =
    exact_then (number_at 4) limited (λ n. n < 256 ^ 4) (big_bytes 4) (λ body. length body ≤ most_body) counted_bytes (λ (body : List ℕ). length body) (exact_number 4)
    (λ n bytes body rest is fits e.
    let g = guard_at (leb n most_body) (piece_at n bytes) (body, rest) (Wrong (length bytes)) e in
    let h = (exact_piece n).got bytes body rest fits g.1 in
    let low = leb-true n most_body g.0 in
    (omega (arith, low, h.0), ap (λ (z : List ℕ). big_bytes 4 n ++ z) h.1 ∙ ap (λ (k : ℕ). big_bytes 4 k ++ (body ++ rest)) (sym h.0) ∙ sym (append_assoc (big_bytes 4 (length body)) body rest)))
    (λ body rest is. (
      omega (arith, is),
      (
        body ++ rest,
        append_assoc (big_bytes 4 (length body)) body rest,
        cond-true (leb (length body) most_body) (piece_at (length body) (body ++ rest)) (Err (Wrong (length (body ++ rest)))) (le-leb _ _ is) ∙ (exact_piece (length body)).again body rest refl,
      ),
    ))

-- ---- a message

-- a descriptor of a persistent message
abbrev IsKeptMd : Md → Type 0
IsKeptMd md = IsMd md × (md.persistence ≡ pos 1)

exact_md : Exact md_at IsMd md_bytes
exact_md = exact_of md_at IsMd md_bytes Reads-md

exact_kept_md : Exact kept_md_at IsKeptMd md_bytes
unfolding kept_md_at
exact_kept_md =
    exact_then md_at persistent IsMd md_bytes IsKeptMd md_bytes (λ md. md) exact_md
    (λ md bytes other rest is fits e.
    let g = guard_ok (int_eq md.persistence (pos 1)) (md, bytes) (other, rest) (Wrong (length bytes)) e in
    let same = same_pair md other bytes rest g.1 in
    (subst IsKeptMd same.0 (is, (signed_Decides md.persistence (pos 1)).0 g.0), ap (λ (m : Md). md_bytes m ++ bytes) same.0 ∙ ap (λ (z : List ℕ). md_bytes other ++ z) same.1))
    (λ md rest is. (is.0, (rest, refl, cond-true (int_eq md.persistence (pos 1)) (Ok (md, rest)) (Err (Wrong (length rest))) ((signed_Decides md.persistence (pos 1)).1 is.1))))

exact_deadline : Exact deadline_at (λ d. IfSome d (λ moment. moment < 2 ^ 64 - 1)) deadline_bytes
exact_deadline = exact_of deadline_at (λ d. IfSome d (λ moment. moment < 2 ^ 64 - 1)) deadline_bytes Reads-deadline

exact_dest : Exact dest_at IsDest dest_bytes
exact_dest = exact_of dest_at IsDest dest_bytes Reads-dest

abbrev IsRoute : Option Dest → Type 0
IsRoute route = IfSome route IsDest

abbrev route_number : Option Dest → ℕ
route_number None = 0
route_number (Some dest) = 1

routed_got : (n : ℕ) (bytes : List ℕ) (route : Option Dest) (rest : List ℕ) → n ≤ 1 → IsBytes bytes → routed_if n bytes ≡ Ok (route, rest) → IsRoute route × (n ∷ bytes ≡ route_bytes route ++ rest)
unfolding route_bytes
routed_got zero bytes route rest le fits e =
    let same = one_ok (Ok (None, bytes)) None route bytes rest refl e in
    (subst IsRoute same.0 tt, ap (λ (z : List ℕ). 0 ∷ z) same.1 ∙ ap (λ (r : Option Dest). route_bytes r ++ rest) same.0)
routed_got (suc zero) bytes route rest le fits e =
    let p = bind_ok (dest_at bytes) (λ d. Ok (Some d.0, d.1)) (route, rest) e in
    let h = exact_dest.got bytes p.0.0 p.0.1 fits p.1 in
    let same = one_ok (Ok (Some p.0.0, p.0.1)) (Some p.0.0) route p.0.1 rest refl p.2 in
    (subst IsRoute same.0 h.0, ap (λ (z : List ℕ). 1 ∷ z) (h.1 ∙ ap (λ (z : List ℕ). dest_bytes p.0.0 ++ z) same.1) ∙ ap (λ (r : Option Dest). route_bytes r ++ rest) same.0)
routed_got (suc (suc n)) bytes route rest le fits e = absurd (omega arith)

routed_again : (route : Option Dest) (rest : List ℕ) → IsRoute route → ((0 ≤ route_number route) × (route_number route ≤ 1)) × ((tail : List ℕ) × (route_bytes route ++ rest ≡ (route_number route ∷ []) ++ tail) × (routed_if (route_number route) tail ≡ Ok (route, rest)))
unfolding route_bytes
routed_again None rest is = ((omega arith, omega arith), (rest, refl, refl))
routed_again (Some dest) rest is =
    ((omega arith, omega arith), (dest_bytes dest ++ rest, refl, ap (λ (r : Result (Dest × List ℕ) Miss). r >>= λ d. Ok (Some d.0, d.1)) (exact_dest.again dest rest is)))

exact_route : Exact route_at IsRoute route_bytes
unfolding route_at
exact_route =
    exact_then (byte_at 0 1) routed_if (λ n. (0 ≤ n) × (n ≤ 1)) (λ n. n ∷ []) IsRoute route_bytes route_number (exact_byte 0 1 (omega arith))
    (λ n bytes route rest is fits e. routed_got n bytes route rest is.1 fits e)
    (λ route rest is. routed_again route rest is)

-- what is read of a message
abbrev Fields : Type 0
Fields = Ident × (Md × (Option ℕ × (Option Dest × (List ℕ × Unit {0}))))

abbrev AreFields : Fields → Type 0
AreFields v = IsIdent v.0 × (IsKeptMd v.1.0 × (IfSome v.1.1.0 (λ moment. moment < 2 ^ 64 - 1) × (IsRoute v.1.1.1.0 × ((length v.1.1.1.1.0 ≤ most_body) × Unit {0}))))

abbrev fields_bytes : Fields → List ℕ
fields_bytes v = ident_bytes v.0 ++ (md_bytes v.1.0 ++ (deadline_bytes v.1.1.0 ++ (route_bytes v.1.1.1.0 ++ (counted_bytes v.1.1.1.1.0 ++ []))))

abbrev message_made : Fields → Message
message_made v = record { ident = v.0; md = v.1.0; route = v.1.1.1.0; deadline = v.1.1.0; body = v.1.1.1.1.0 }

exact_fields : Exact (both ident_at (both kept_md_at (both deadline_at (both route_at (both body_at no_more))))) AreFields fields_bytes
exact_fields =
    exact_both ident_at (both kept_md_at (both deadline_at (both route_at (both body_at no_more)))) IsIdent (λ v. IsKeptMd v.0 × (IfSome v.1.0 (λ moment. moment < 2 ^ 64 - 1) × (IsRoute v.1.1.0 × ((length v.1.1.1.0 ≤ most_body) × Unit {0})))) ident_bytes (λ v. md_bytes v.0 ++ (deadline_bytes v.1.0 ++ (route_bytes v.1.1.0 ++ (counted_bytes v.1.1.1.0 ++ [])))) exact_ident
    (exact_both kept_md_at (both deadline_at (both route_at (both body_at no_more))) IsKeptMd (λ v. IfSome v.0 (λ moment. moment < 2 ^ 64 - 1) × (IsRoute v.1.0 × ((length v.1.1.0 ≤ most_body) × Unit {0}))) md_bytes (λ v. deadline_bytes v.0 ++ (route_bytes v.1.0 ++ (counted_bytes v.1.1.0 ++ []))) exact_kept_md
    (exact_both deadline_at (both route_at (both body_at no_more)) (λ d. IfSome d (λ moment. moment < 2 ^ 64 - 1)) (λ v. IsRoute v.0 × ((length v.1.0 ≤ most_body) × Unit {0})) deadline_bytes (λ v. route_bytes v.0 ++ (counted_bytes v.1.0 ++ [])) exact_deadline
    (exact_both route_at (both body_at no_more) IsRoute (λ v. (length v.0 ≤ most_body) × Unit {0}) route_bytes (λ v. counted_bytes v.0 ++ []) exact_route
    (exact_both body_at no_more (λ body. length body ≤ most_body) (λ u. Unit {0}) counted_bytes (λ u. []) exact_body exact_none))))

message_same : (v : Fields) → message_bytes (message_made v) ≡ fields_bytes v
unfolding message_bytes
message_same v =
    ap (λ (z : List ℕ). ident_bytes v.0 ++ (md_bytes v.1.0 ++ (deadline_bytes v.1.1.0 ++ (route_bytes v.1.1.1.0 ++ z)))) (sym (append_assoc (big_bytes 4 (length v.1.1.1.1.0)) v.1.1.1.1.0 []))

pub exact_message : Exact message_at IsKept message_bytes
unfolding message_at
exact_message =
    exact_made (both ident_at (both kept_md_at (both deadline_at (both route_at (both body_at no_more))))) AreFields fields_bytes message_made IsKept message_bytes exact_fields
    (record {
      is = λ v h. record { message = record { ident = h.0; md = h.1.0.0; deadline = h.1.1.0; route = h.1.1.1.0; body = h.1.1.1.1.0 }; persistent = h.1.0.1 };
      same = λ v h. message_same v;
      parts = λ m. (m.ident, (m.md, (m.deadline, (m.route, (m.body, tt)))));
      back = λ m h. refl;
      are = λ m h. (h.message.ident, ((h.message.md, h.persistent), (h.message.deadline, (h.message.route, (h.message.body, tt)))));
    })

-- ---- adds and removes

pub exact_add : Exact add_at IsAdd add_bytes
unfolding add_at
exact_add =
    exact_made (both name_at (both message_at no_more)) (λ v. IsName 48 v.0 × (IsKept v.1.0 × Unit {0})) (λ v. padded 48 v.0 ++ (message_bytes v.1.0 ++ []))
    (λ v. record { queue = v.0; message = v.1.0 }) IsAdd add_bytes
    (exact_both name_at (both message_at no_more) (IsName 48) (λ v. IsKept v.0 × Unit {0}) (padded 48) (λ v. message_bytes v.0 ++ []) exact_name
    (exact_both message_at no_more IsKept (λ u. Unit {0}) message_bytes (λ u. []) exact_message exact_none))
    (record {
      is = λ v h. record { queue = h.0; message = h.1.0 };
      same = λ v h. refl;
      parts = λ a. (a.queue, (a.message, tt));
      back = λ a h. refl;
      are = λ a h. (h.queue, (h.message, tt));
    })

pub exact_remove : Exact remove_at IsRemove remove_bytes
unfolding remove_at
exact_remove =
    exact_made (both name_at (both ident_at no_more)) (λ v. IsName 48 v.0 × (IsIdent v.1.0 × Unit {0})) (λ v. padded 48 v.0 ++ (ident_bytes v.1.0 ++ []))
    (λ v. record { queue = v.0; ident = v.1.0 }) IsRemove remove_bytes
    (exact_both name_at (both ident_at no_more) (IsName 48) (λ v. IsIdent v.0 × Unit {0}) (padded 48) (λ v. ident_bytes v.0 ++ []) exact_name
    (exact_both ident_at no_more IsIdent (λ u. Unit {0}) ident_bytes (λ u. []) exact_ident exact_none))
    (record {
      is = λ v h. record { queue = h.0; ident = h.1.0 };
      same = λ v h. refl;
      parts = λ r. (r.queue, (r.ident, tt));
      back = λ r h. refl;
      are = λ r h. (h.queue, (h.ident, tt));
    })
