-- What the functions behind the calls say of their parts.
use Rattle.std.specs.Prelude.{ℕ, List, ltb, eqb, length, Ok, Err}
use Rattle.base.specs.Base.{pick}
use Rattle.rules.specs.Reading.{Reading, refused, read, reading}
use Rattle.rules.specs.Outcome.{findings, Answer, is_accepted}
use Rattle.rules.specs.Refusals.{cause_no}
use Rattle.rules.specs.declared.Refusal.{Refusal}
use Rattle.rules.specs.declared.Ruling.TheVariants.{Rejected, Accepted}
use Rattle.deciding.specs.Deciding.{five_bytes, is_accepted_at}
use Rattle.deciding.specs.declared.Strongest.{Strongest}
use Rattle.deciding.specs.declared.Strongest.TheVariants.{NoLevel, ReadCommitted, ReadAtomicity}
use Rattle.ferozhak.specs.declared.Five.{Five}
use Rattle.ferozhak.specs.declared.Seen.{Seen}
use Rattle.ferozhak.specs.declared.Seen.TheVariants.{Here, NotHere, Nowhere}

-- a level as the judge takes it, a byte: what does not fit is no level, and neither is 0
unfoldable pub level_byte : ℕ → ℕ
level_byte n = pick (ltb n 4) n 0

-- the bytes of five numbers
abbrev pub bytes_of : Five → List ℕ
bytes_of x = five_bytes x.first x.second x.third x.no x.place

-- those of a refusal
abbrev pub refused_five : Refusal → Five
refused_five r = record { first = 0; second = 0; third = 0; no = cause_no r.cause; place = r.place }

-- what a look at a level says of what was read: the level accepts it; else, where a read is unclean, none does, and else this one does not
unfoldable pub seen_read : Reading → ℕ → Seen
seen_read (refused n p) level = Nowhere
seen_read (read h notes) level = pick (is_accepted h level) Here (pick (ltb 0 (length (findings h))) Nowhere NotHere)

-- .. and of the trace s
unfoldable pub seen_at : List ℕ → ℕ → Seen
seen_at s level = seen_read (reading s) level

-- what a refusal with this number shows where no room for lists was lent: 13 is that of pairs, which hang on the level; 2 to 11 and 17 are the trace's own, 12
-- is an unclean read's, and neither does
unfoldable pub without_lists : ℕ → Seen
without_lists n = pick (eqb n 13) NotHere Nowhere

-- .. and any answer
unfoldable pub seen_of : Answer → Seen
seen_of (Err r) = without_lists (cause_no r.cause)
seen_of (Ok (Rejected f p)) = NotHere
seen_of (Ok (Accepted n)) = Here

-- the strongest of levels 2 and 1 that accepts the trace
abbrev pub below_causal : List ℕ → Strongest
below_causal s = pick (is_accepted_at s 2) ReadAtomicity (pick (is_accepted_at s 1) ReadCommitted NoLevel)
