use Rattle.std.proofs.Common.{◌≡◌, ℕ, List, [], ◌∷◌, ◌++◌, take, arith, sym, ap, ◌∙◌}
use Rattle.std.proofs.lemmas.List.{take_all, append-nil}
use Rattle.mq_message.specs.Layout.{unsigned_bytes}
use Rattle.mq_message.proofs.LayoutLaws.{behind}
use Rattle.mq_base.specs.Name.{padded}
use Rattle.mq_frame.specs.Frames.{ident_bytes}
use Rattle.mq_record.proofs.fronts.moved_front.Goals as goal

pub returns-clause-bytes : goal.returns-clause-bytes
unfolding unsigned_bytes
returns-clause-bytes c =
    let whole : take 114 c.put_array-3.new.bytes ≡ c.put_array-3.new.bytes = take_all 114 c.put_array-3.new.bytes (omega arith) in
    let from-4 : List ℕ = (padded 48 c.args.to.now) ++ [] in
    let from-3 : List ℕ = (ident_bytes c.args.ident.now) ++ from-4 in
    let from-2 : List ℕ = (padded 48 c.args.from.now) ++ from-3 in
    sym whole ∙ sym (append-nil (take 114 c.put_array-3.new.bytes))
    ∙ behind (take 114 c.put_array-3.new.bytes) (take 66 c.put_array-2.new.bytes) (padded 48 c.args.to.now) [] (c.put_array-3.ensures ∙ ap (λ (x : List ℕ). take 66 c.put_array-2.new.bytes ++ x) (c.bytes-2.ensures.bytes))
    ∙ behind (take 66 c.put_array-2.new.bytes) (take 49 c.put_array.new.bytes) (ident_bytes c.args.ident.now) from-4 (c.put_array-2.ensures ∙ ap (λ (x : List ℕ). take 49 c.put_array.new.bytes ++ x) (c.ident_array.ensures.bytes))
    ∙ behind (take 49 c.put_array.new.bytes) (take 1 c.put_u8.new.bytes) (padded 48 c.args.from.now) from-3 (c.put_array.ensures ∙ ap (λ (x : List ℕ). take 1 c.put_u8.new.bytes ++ x) (c.bytes.ensures.bytes))
    ∙ behind (take 1 c.put_u8.new.bytes) [] (11 ∷ []) from-2 c.put_u8.ensures
