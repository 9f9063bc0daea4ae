-- The bytes of a record are as many as its size says.
use Rattle.std.proofs.Common.{◌≡◌, ℕ, ◌+◌, ◌-◌, List, [], ◌∷◌, ◌++◌, length, replicate, Option, Some, None, refl, ap, ◌∙◌, arith}
use Rattle.std.specs.Prelude.{◌*◌, sum_by, IfSome}
use Rattle.std.specs.List.{flat_map, AllByRecursion}
use Rattle.std.proofs.lemmas.List.{length-append, length-replicate}
use Rattle.std.proofs.lemmas.List.Sums.{sum_by-cons}
use Rattle.byteorder.specs.Endian.{big_bytes}
use Rattle.mq_base.specs.Name.{padded, IsName}
use Rattle.mq_message.specs.declared.message.Ident.{Ident}
use Rattle.mq_message.specs.declared.message.Dest.{Dest}
use Rattle.mq_message.specs.declared.message.Message.{Message}
use Rattle.mq_message.specs.Descriptor.{md_bytes}
use Rattle.mq_message.proofs.DescriptorLaws.{length-md_bytes}
use Rattle.mq_frame.specs.Frames.{ident_bytes, deadline_bytes, dest_bytes, route_bytes, message_bytes, flag, IsDest, IsMessage}
use Rattle.mq_calls.specs.declared.records.Add.{Add}
use Rattle.mq_calls.specs.declared.records.Remove.{Remove}
use Rattle.mq_calls.specs.declared.records.LogRecord.{LogRecord}
use Rattle.mq_calls.specs.declared.records.LogRecord.TheVariants as records
use Rattle.mq_calls.specs.Sizes.{route_size, message_size, add_size, record_size}
use Rattle.mq_record.specs.Records.{add_bytes, remove_bytes, end_number, prepared_front, received_front, moved_front, record_bytes, IsAdd, IsRemove, IsRecord}

padded_whole : (width : ℕ) (name : List ℕ) → IsName width name → length (padded width name) ≡ width
padded_whole width name h = omega (arith, h.fits, length-append name (replicate (width - length name) 32), length-replicate {A = ℕ} (width - length name) 32)

behind : (width : ℕ) (name rest : List ℕ) → IsName width name → length (padded width name ++ rest) ≡ width + length rest
behind width name rest h = length-append (padded width name) rest ∙ ap (λ (n : ℕ). n + length rest) (padded_whole width name h)

pub ident_whole : (i : Ident) → length (ident_bytes i) ≡ 17
unfolding ident_bytes
ident_whole i = refl

pub deadline_whole : (d : Option ℕ) → length (deadline_bytes d) ≡ 8
unfolding deadline_bytes
deadline_whole None = refl
deadline_whole (Some moment) = refl

pub route_whole : (r : Option Dest) → IfSome r IsDest → length (route_bytes r) ≡ 1 + route_size r
unfolding route_bytes dest_bytes
route_whole None h = refl
route_whole (Some d) h = omega (arith, behind 48 d.queue (padded 48 d.qmgr ++ []) h.queue, behind 48 d.qmgr [] h.qmgr)

pub message_whole : (m : Message) → IsMessage m → length (message_bytes m) ≡ message_size m
unfolding message_bytes
message_whole m h =
    let body : List ℕ = big_bytes 4 (length m.body) ++ (m.body ++ []) in
    omega (
      arith,
      length-append (ident_bytes m.ident) (md_bytes m.md ++ (deadline_bytes m.deadline ++ (route_bytes m.route ++ body))),
      ident_whole m.ident,
      length-append (md_bytes m.md) (deadline_bytes m.deadline ++ (route_bytes m.route ++ body)),
      length-md_bytes m.md (record { all = h.md.fits }),
      length-append (deadline_bytes m.deadline) (route_bytes m.route ++ body),
      deadline_whole m.deadline,
      length-append (route_bytes m.route) body,
      route_whole m.route h.route,
      length-append m.body [],
    )

idents_whole : (is : List Ident) → length (flat_map ident_bytes is) ≡ 17 * length is
idents_whole [] = refl
idents_whole (i ∷ is) = omega (arith, length-append (ident_bytes i) (flat_map ident_bytes is), ident_whole i, idents_whole is)

pub remove_whole : (r : Remove) → IsRemove r → length (remove_bytes r) ≡ 65
remove_whole r h = omega (arith, behind 48 r.queue (ident_bytes r.ident ++ []) h.queue, length-append (ident_bytes r.ident) [], ident_whole r.ident)

removes_whole : (rs : List Remove) → AllByRecursion IsRemove rs → length (flat_map remove_bytes rs) ≡ 65 * length rs
removes_whole [] h = refl
removes_whole (r ∷ rs) h = omega (arith, length-append (remove_bytes r) (flat_map remove_bytes rs), remove_whole r h.0, removes_whole rs h.1)

pub add_whole : (a : Add) → IsAdd a → length (add_bytes a) ≡ add_size a
add_whole a h = omega (arith, behind 48 a.queue (message_bytes a.message ++ []) h.queue, length-append (message_bytes a.message) [], message_whole a.message h.message.message)

adds_whole : (as_ : List Add) → AllByRecursion IsAdd as_ → length (flat_map add_bytes as_) ≡ sum_by add_size as_
adds_whole [] h = refl
adds_whole (a ∷ as_) h = omega (arith, length-append (add_bytes a) (flat_map add_bytes as_), add_whole a h.0, adds_whole as_ h.1, sum_by-cons add_size a as_)

pub record_whole : (r : LogRecord) → IsRecord r → length (record_bytes r) ≡ record_size r
record_whole (records.Started manager name incarnation) h = omega (arith, behind 48 name (big_bytes 8 incarnation ++ []) h.1)
record_whole (records.Objects change) h = omega arith
record_whole (records.Unit adds removes) h = omega (arith, length-append (flat_map add_bytes adds) (flat_map remove_bytes removes), adds_whole adds h.0.each, removes_whole removes h.1.each)
record_whole (records.Session channel partner session) h = omega (arith, behind 20 channel (padded 48 partner ++ (big_bytes 8 session ++ [])) h.0.name, behind 48 partner (big_bytes 8 session ++ []) h.1)
record_whole (records.Prepared channel unit last queue idents) h =
    let tail : List ℕ = big_bytes 4 (length idents) ++ [] in
    omega (
      arith,
      length-append (prepared_front channel unit last queue (length idents)) (flat_map ident_bytes idents),
      idents_whole idents,
      behind 20 channel (big_bytes 8 unit.session ++ (big_bytes 8 unit.n ++ (big_bytes 4 last ++ (padded 48 queue ++ tail)))) h.0.name,
      behind 48 queue tail h.3,
    )
record_whole (records.Resolved channel unit commit operator) h = omega (arith, behind 20 channel (big_bytes 8 unit.session ++ (big_bytes 8 unit.n ++ ((flag commit ∷ []) ++ ((flag operator ∷ []) ++ [])))) h.0.name)
record_whole (records.Bound channel partner session last) h = omega (arith, behind 20 channel (padded 48 partner ++ (big_bytes 8 session ++ (big_bytes 4 last ++ []))) h.0.name, behind 48 partner (big_bytes 8 session ++ (big_bytes 4 last ++ [])) h.1)
record_whole (records.Closed channel session) h = omega (arith, behind 20 channel (big_bytes 8 session ++ []) h.0.name)
record_whole (records.Received channel unit last adds) h =
    omega (
      arith,
      length-append (received_front channel unit last (length adds)) (flat_map add_bytes adds),
      adds_whole adds h.3.each,
      behind 20 channel (big_bytes 8 unit.session ++ (big_bytes 8 unit.n ++ (big_bytes 4 last ++ (big_bytes 4 (length adds) ++ [])))) h.0.name,
    )
record_whole (records.SeqSet channel end last) h = omega (arith, behind 20 channel ((end_number end ∷ []) ++ (big_bytes 4 last ++ [])) h.0.name)
record_whole (records.Moved from ident to message) h =
    omega (
      arith,
      length-append (moved_front from ident to) (message_bytes message),
      message_whole message h.3.message,
      behind 48 from (ident_bytes ident ++ (padded 48 to ++ [])) h.0,
      length-append (ident_bytes ident) (padded 48 to ++ []),
      ident_whole ident,
      behind 48 to [] h.2,
    )
