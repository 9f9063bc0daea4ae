-- What a call writes is read back: each record from its bytes.
use Rattle.std.proofs.Common.{◌≡◌, ℕ, zero, suc, ◌+◌, ◌<◌, ◌^◌, true, List, [], ◌∷◌, length, refl, arith}
use Rattle.std.specs.Prelude.{Option, Some, None, nat_lt}
use Rattle.std.proofs.lemmas.Bool.Decides.{nat_tests}
use Rattle.mq_calls.specs.declared.records.LogRecord.{LogRecord}
use Rattle.mq_calls.specs.declared.records.LogRecord.TheVariants as records
use Rattle.mq_calls.specs.Words.{Part, need}
use Rattle.mq_record.specs.Records.{IsRecord, record_bytes}
use Rattle.mq_record.proofs.SizeLaws.{record_whole}
use Rattle.mq_law_log.specs.from_spec_log.Applies.{is_in_bounds}
use Rattle.mq_law_log.specs.from_spec_log.Applies.Start.{Later}
use Rattle.mq_law_log.specs.from_spec_log.Bodies.{record_of}
use Rattle.mq_law_image.specs.Values.{IsMade, MakesText}
use Rattle.mq_law_image.proofs.Made.{made_read}
use Rattle.mq_receive.specs.from_core.Writes.{FitsRecord}
use Rattle.mq_receive.specs.from_core.Values.{IsRecordIn, AreRecords, AreRecordsTo}
use Rattle.mq_manager.specs.Reads.{CanBeRead, CanBeReadIn, AllCanBeRead}

-- a record is read from its bytes, within the bounds of numbers, and is as long as it says
pub record IsBack (r : LogRecord) : Type 0 where
  pub read : record_of (record_bytes r) ≡ Some r
  pub bounds : is_in_bounds Later r ≡ true
  pub size : length (record_bytes r) + 5 ≡ need r

back : (r : LogRecord) → IsRecord r → MakesText r → is_in_bounds Later r ≡ true → IsBack r
back r fits makes bounds = record { read = made_read r fits makes; bounds = bounds; size = let whole = record_whole r fits in omega (arith, whole) }

below : (n : ℕ) → n < 2 ^ 61 → nat_lt n (2 ^ 61) ≡ true
below n low = grind (arith, nat_tests, low)

pub is_back : (r : LogRecord) → FitsRecord r → CanBeRead r → IsBack r
is_back (records.Started manager name incarnation) f k = absurd k
is_back (records.Objects change) f k = back (records.Objects change) (f tt) k refl
is_back (records.Unit adds removes) f k = back (records.Unit adds removes) (f tt) tt refl
is_back (records.Session channel partner session) f k = back (records.Session channel partner session) (f k.0) tt (below session k.1)
is_back (records.Prepared channel unit last queue idents) f k = back (records.Prepared channel unit last queue idents) (f k) tt refl
is_back (records.Resolved channel unit commit operator) f k = back (records.Resolved channel unit commit operator) (f k) tt refl
is_back (records.Bound channel partner session last) f k = back (records.Bound channel partner session last) (f k) tt refl
is_back (records.Closed channel session) f k = back (records.Closed channel session) (f k) tt refl
is_back (records.Received channel unit last adds) f k = back (records.Received channel unit last adds) (f k) tt refl
is_back (records.SeqSet channel end last) f k = back (records.SeqSet channel end last) (f k) tt refl
is_back (records.Moved from ident to message) f k = back (records.Moved from ident to message) (f tt) tt refl

-- what is forced, if anything; of all parts; of those up to a stopped one
abbrev pub BackIn : Option LogRecord → Type 0
BackIn None = Unit {0}
BackIn (Some r) = IsBack r

abbrev pub AllBack : List Part → Type 0
AllBack [] = Unit {0}
AllBack (part ∷ parts) = BackIn part.forced × AllBack parts

abbrev pub BackTo : ℕ → List Part → Type 0
BackTo n [] = Unit {0}
BackTo zero (part ∷ parts) = BackIn part.forced
BackTo (suc n) (part ∷ parts) = BackIn part.forced × BackTo n parts

back_in : (o : Option LogRecord) → IsRecordIn o → CanBeReadIn o → BackIn o
back_in None f k = tt
back_in (Some r) f k = is_back r f k

pub all_back : (parts : List Part) → AreRecords parts → AllCanBeRead parts → AllBack parts
all_back [] f k = tt
all_back (part ∷ parts) f k = (back_in part.forced f.0 k.0, all_back parts f.1 k.1)

pub back_to : (n : ℕ) (parts : List Part) → AreRecordsTo n parts → AllCanBeRead parts → BackTo n parts
back_to n [] f k = tt
back_to zero (part ∷ parts) f k = back_in part.forced f k.0
back_to (suc n) (part ∷ parts) f k = (back_in part.forced f.0 k.0, back_to n parts f.1 k.1)

-- and what it changes of objects has values that commands give
made_of : (r : LogRecord) → CanBeRead r → MakesText r
made_of (records.Started manager name incarnation) k = tt
made_of (records.Objects change) k = k
made_of (records.Unit adds removes) k = tt
made_of (records.Session channel partner session) k = tt
made_of (records.Prepared channel unit last queue idents) k = tt
made_of (records.Resolved channel unit commit operator) k = tt
made_of (records.Bound channel partner session last) k = tt
made_of (records.Closed channel session) k = tt
made_of (records.Received channel unit last adds) k = tt
made_of (records.SeqSet channel end last) k = tt
made_of (records.Moved from ident to message) k = tt

pub made_in : (o : Option LogRecord) → CanBeReadIn o → IsMade o
made_in None k = tt
made_in (Some r) k = made_of r k
