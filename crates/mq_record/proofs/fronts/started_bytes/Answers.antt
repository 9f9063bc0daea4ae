use Rattle.std.proofs.Common.{◌≡◌, ℕ, List, [], ◌∷◌, ◌++◌, take, arith, sym, ap, ◌∙◌}
use Rattle.std.proofs.lemmas.List.{take_all, append-nil}
use Rattle.byteorder.specs.Endian.{big_bytes}
use Rattle.mq_message.specs.Layout.{unsigned_bytes}
use Rattle.mq_message.proofs.LayoutLaws.{behind, one_byte}
use Rattle.mq_base.specs.Name.{padded}
use Rattle.mq_record.proofs.fronts.started_bytes.Goals as goal

pub returns-clause-bytes : goal.returns-clause-bytes
unfolding unsigned_bytes
returns-clause-bytes c =
    let whole : take 58 c.put_u64.new.bytes ≡ c.put_u64.new.bytes = take_all 58 c.put_u64.new.bytes (omega arith) in
    let from-4 : List ℕ = (big_bytes 8 c.args.incarnation) ++ [] in
    let from-3 : List ℕ = (padded 48 c.args.name.now) ++ from-4 in
    let from-2 : List ℕ = (c.args.manager ∷ []) ++ from-3 in
    sym whole ∙ sym (append-nil (take 58 c.put_u64.new.bytes))
    ∙ behind (take 58 c.put_u64.new.bytes) (take 50 c.put_array.new.bytes) (big_bytes 8 c.args.incarnation) [] c.put_u64.ensures
    ∙ behind (take 50 c.put_array.new.bytes) (take 2 c.put_u8-2.new.bytes) (padded 48 c.args.name.now) from-4 (c.put_array.ensures ∙ ap (λ (x : List ℕ). take 2 c.put_u8-2.new.bytes ++ x) (c.bytes.ensures.bytes))
    ∙ behind (take 2 c.put_u8-2.new.bytes) (take 1 c.put_u8.new.bytes) (c.args.manager ∷ []) from-3 (c.put_u8-2.ensures ∙ ap (λ (x : List ℕ). take 1 c.put_u8.new.bytes ++ x) (sym (one_byte c.args.manager (omega arith))))
    ∙ behind (take 1 c.put_u8.new.bytes) [] (1 ∷ []) from-2 c.put_u8.ensures
