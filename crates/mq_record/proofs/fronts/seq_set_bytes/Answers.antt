use Rattle.std.proofs.Common.{◌≡◌, ℕ, List, [], ◌∷◌, ◌++◌, take, arith, sym, ap, ◌∙◌}
use Rattle.std.proofs.lemmas.List.{take_all, append-nil}
use Rattle.byteorder.specs.Endian.{big_bytes}
use Rattle.mq_message.specs.Layout.{unsigned_bytes}
use Rattle.mq_message.proofs.LayoutLaws.{behind, one_byte}
use Rattle.mq_base.specs.Name.{padded}
use Rattle.mq_record.specs.Records.{end_number}
use Rattle.mq_record.proofs.fronts.seq_set_bytes.Goals as goal

pub returns-clause-bytes : goal.returns-clause-bytes
unfolding unsigned_bytes
returns-clause-bytes c =
    let whole : take 26 c.put_u32.new.bytes ≡ c.put_u32.new.bytes = take_all 26 c.put_u32.new.bytes (omega arith) in
    let from-4 : List ℕ = (big_bytes 4 c.args.last) ++ [] in
    let from-3 : List ℕ = (end_number c.args.end ∷ []) ++ from-4 in
    let from-2 : List ℕ = (padded 20 c.args.channel.now) ++ from-3 in
    sym whole ∙ sym (append-nil (take 26 c.put_u32.new.bytes))
    ∙ behind (take 26 c.put_u32.new.bytes) (take 22 c.put_u8-2.new.bytes) (big_bytes 4 c.args.last) [] c.put_u32.ensures
    ∙ behind (take 22 c.put_u8-2.new.bytes) (take 21 c.put_array.new.bytes) (end_number c.args.end ∷ []) from-4 (c.put_u8-2.ensures ∙ ap (λ (x : List ℕ). take 21 c.put_array.new.bytes ++ x) ((sym (one_byte c.end_number.result (omega arith)) ∙ ap (λ (n : ℕ). n ∷ []) c.end_number.ensures)))
    ∙ behind (take 21 c.put_array.new.bytes) (take 1 c.put_u8.new.bytes) (padded 20 c.args.channel.now) from-3 (c.put_array.ensures ∙ ap (λ (x : List ℕ). take 1 c.put_u8.new.bytes ++ x) (c.bytes.ensures.bytes))
    ∙ behind (take 1 c.put_u8.new.bytes) [] (10 ∷ []) from-2 c.put_u8.ensures
