-- What a story says of its run, spot by spot.
use Rattle.std.proofs.Common.{ℕ, zero, suc, ◌≡◌, ◌≤◌, ◌||◌, Bool, false, List, [], ◌∷◌, ◌++◌, Option, None, Some, refl, ap, sym, ◌∙◌, arith, length}
use Rattle.std.specs.Prelude.{slice_get}
use Rattle.std.specs.List.{list_any}
use Rattle.std.specs.Option.{option_or as or_else}
use Rattle.std.proofs.lemmas.List.Folds.{list_any-append}
use Rattle.mq_history.specs.declared.calls.Entry.{Entry}
use Rattle.mq_history.specs.declared.history.History.{History}
use Rattle.mq_spec_network.specs.Story.{Line}
use Rattle.mq_story.specs.declared.merging.Spot.{Spot}
use Rattle.mq_story.specs.Spots.{entry_in, entry_of, line_if, line_at, lines_of}
use Rattle.mq_ending.specs.declared.verdict.BadLog.{BadLog}
use Rattle.mq_ending.specs.Verdicts.{tells_disk, any_disk, disk_at, bad_place, bad_of, first_bad, first_bad_at}

-- a disk that failed
pub disk_none : (hs : List History) (spot : Spot) → entry_of hs spot ≡ None → disk_at hs spot ≡ false
disk_none hs spot none = ap (λ (o : Option Entry). any_disk (line_if spot.manager o)) none

or_false : (b : Bool) → b || false ≡ b
or_false Bool.true = refl
or_false Bool.false = refl

pub disk_entry : (hs : List History) (spot : Spot) (e : Entry) → entry_of hs spot ≡ Some e → disk_at hs spot ≡ tells_disk e.reply
disk_entry hs spot e some = ap (λ (o : Option Entry). any_disk (line_if spot.manager o)) some ∙ or_false (tells_disk e.reply)

pub disk_lines : (hs : List History) (spots : List Spot) → list_any (disk_at hs) spots ≡ any_disk (lines_of hs spots)
disk_lines hs [] = refl
disk_lines hs (x ∷ xs) =
    ap (λ (b : Bool). disk_at hs x || b) (disk_lines hs xs)
    ∙ sym (list_any-append (λ (l : Line). tells_disk l.entry.reply) (line_at hs x) (lines_of hs xs))

-- a log that was bad
pub bad_none : (hs : List History) (spot : Spot) → entry_of hs spot ≡ None → first_bad (line_at hs spot) ≡ None
bad_none hs spot none = ap (λ (o : Option Entry). first_bad (line_if spot.manager o)) none

or_none : (a : Option BadLog) → or_else a None ≡ a
or_none None = refl
or_none (Some b) = refl

pub bad_entry : (hs : List History) (spot : Spot) (e : Entry) → entry_of hs spot ≡ Some e → first_bad (line_at hs spot) ≡ bad_of spot.manager (bad_place e.reply)
bad_entry hs spot e some = ap (λ (o : Option Entry). first_bad (line_if spot.manager o)) some ∙ or_none (bad_of spot.manager (bad_place e.reply))

far : (hs : List History) (m : ℕ) → length hs ≤ m → slice_get hs m ≡ None
far [] zero l = refl
far [] (suc m) l = refl
far (h ∷ hs) zero l = absurd (omega arith)
far (h ∷ hs) (suc m) l = far hs m (omega arith)

-- no history stands so far
pub bad_far : (hs : List History) (spot : Spot) → length hs ≤ spot.manager → first_bad (line_at hs spot) ≡ None
bad_far hs spot l = bad_none hs spot (ap (λ (o : Option History). entry_in o spot.at) (far hs spot.manager l))

or_append : (a b c : Option BadLog) → or_else (or_else a b) c ≡ or_else a (or_else b c)
or_append None b c = refl
or_append (Some a) b c = refl

bad_append : (xs ys : List Line) → first_bad (xs ++ ys) ≡ or_else (first_bad xs) (first_bad ys)
bad_append [] ys = refl
bad_append (x ∷ xs) ys =
    ap (λ (r : Option BadLog). or_else (bad_of x.manager (bad_place x.entry.reply)) r) (bad_append xs ys)
    ∙ sym (or_append (bad_of x.manager (bad_place x.entry.reply)) (first_bad xs) (first_bad ys))

pub bad_lines : (hs : List History) (spots : List Spot) → first_bad_at hs spots ≡ first_bad (lines_of hs spots)
bad_lines hs [] = refl
bad_lines hs (x ∷ xs) =
    ap (λ (r : Option BadLog). or_else (first_bad (line_at hs x)) r) (bad_lines hs xs)
    ∙ sym (bad_append (line_at hs x) (lines_of hs xs))
