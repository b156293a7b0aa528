-- Document 01, "When the judge declines", with what document 02 adds: "no." and "place". An answer that may be a refusal, in the document's numbers.
use Rattle.std.specs.Prelude.{ℕ, Result, Ok, Err}
use Rattle.rules.specs.declared.Cause.{Cause}
use Rattle.rules.specs.declared.Cause.TheVariants.{NoLevel, TooLong, TooFew, Length, Serial, Kind, Misplaced, Unlawful, Excess, Repeated, BytesBehind, FindingsRoom, PairsRoom, OrderRoom, OutputRoom, Mixed, Descending, ListsMoved}
use Rattle.rules.specs.declared.Refusal.{Refusal}

-- the number of each row of the table
abbrev pub cause_no : Cause → ℕ
-- "the level is not 1, 2 or 3"
cause_no NoLevel = 1
-- "the trace is longer than 32,768 bytes"
cause_no TooLong = 2
-- "too few bytes are left for the length field or for what it says, or no end record came"
cause_no TooFew = 3
-- "length below 6, or not this kind's"
cause_no Length = 4
-- "serial doesn't follow"
cause_no Serial = 5
-- "unknown kind"
cause_no Kind = 6
-- "open inside a transaction; read, write or close outside one; end inside one"
cause_no Misplaced = 7
-- "written value 0; .. end number wrong"; document 02: "8 now begins at status 3", and "8 for another payload", "8 for number 33 and up"
cause_no Unlawful = 8
-- "128th open, or 1,025th operation"
cause_no Excess = 9
-- "a write repeats a key and value that an earlier write has, in any transaction"
cause_no Repeated = 10
-- "bytes follow the end record"
cause_no BytesBehind = 11
-- "findings buffer too short", "pairs buffer too short", "order buffer too short"
cause_no FindingsRoom = 12
cause_no PairsRoom = 13
cause_no OrderRoom = 14
-- document 02: "output buffer too short"
cause_no OutputRoom = 16
-- document 02: "a key with single values and lists"
cause_no Mixed = 17
-- document 02: "keys not ascending"
cause_no Descending = 18
-- document 02: "list kinds in a move to edition 1"
cause_no ListsMoved = 20

abbrev pub refusal_at : Cause → ℕ → Refusal
refusal_at c p = record { cause = c; place = p }

-- what comes of a part that stands at a place, as what comes of the whole
abbrev pub placed_at : {T : Type 0} → ℕ → Result T Cause → Result T Refusal
placed_at p (Ok x) = Ok x
placed_at p (Err c) = Err (refusal_at c p)

-- a refusal in the document's numbers
pub record Declined : Type 0 where
  pub no : ℕ
  pub place : ℕ

abbrev pub declined : ℕ → ℕ → Declined
declined n p = record { no = n; place = p }

-- the number of the row that refuses, 0 where none does
abbrev pub no_of : {T : Type 0} → Result T Cause → ℕ
no_of (Ok x) = 0
no_of (Err c) = cause_no c

-- an answer with the number of the row that refuses, or with its number and place
abbrev pub numbered : {T : Type 0} → Result T Cause → Result T ℕ
numbered (Ok x) = Ok x
numbered (Err c) = Err (cause_no c)

abbrev pub told : {T : Type 0} → Result T Refusal → Result T Declined
told (Ok x) = Ok x
told (Err r) = Err (declined (cause_no r.cause) r.place)
