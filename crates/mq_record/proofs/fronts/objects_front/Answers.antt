use Rattle.std.proofs.Common.{◌≡◌, ℕ, List, [], ◌∷◌, ◌++◌, take, arith, sym, ap, ◌∙◌}
use Rattle.std.proofs.lemmas.List.{take_all, append-nil}
use Rattle.byteorder.specs.Endian.{big_bytes}
use Rattle.mq_message.specs.Layout.{unsigned_bytes}
use Rattle.mq_message.proofs.LayoutLaws.{behind, one_byte}
use Rattle.mq_record.specs.Records.{operation_number}
use Rattle.mq_record.proofs.fronts.objects_front.Goals as goal

pub returns : goal.returns
unfolding unsigned_bytes
returns c =
    let whole : take 6 c.put_u32.new.bytes ≡ c.put_u32.new.bytes = take_all 6 c.put_u32.new.bytes (omega arith) in
    let from-3 : List ℕ = (big_bytes 4 c.args.length) ++ [] in
    let from-2 : List ℕ = (operation_number c.args.operation ∷ []) ++ from-3 in
    sym whole ∙ sym (append-nil (take 6 c.put_u32.new.bytes))
    ∙ behind (take 6 c.put_u32.new.bytes) (take 2 c.put_u8-2.new.bytes) (big_bytes 4 c.args.length) [] c.put_u32.ensures
    ∙ behind (take 2 c.put_u8-2.new.bytes) (take 1 c.put_u8.new.bytes) (operation_number c.args.operation ∷ []) from-3 (c.put_u8-2.ensures ∙ ap (λ (x : List ℕ). take 1 c.put_u8.new.bytes ++ x) ((sym (one_byte c.operation_number.result (omega arith)) ∙ ap (λ (n : ℕ). n ∷ []) c.operation_number.ensures)))
    ∙ behind (take 1 c.put_u8.new.bytes) [] (2 ∷ []) from-2 c.put_u8.ensures
