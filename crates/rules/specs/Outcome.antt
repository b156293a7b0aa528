-- Document 01, "Lists and order", and rows 1 and 12 to 14 of "When the judge declines": the outcome of judging, for all bytes, levels and buffers.
use Rattle.std.specs.Prelude.{ℕ, ◌+◌, ◌/◌, ◌%◌, Bool, true, false, List, [], ◌∷◌, length, ltb, Result, Ok, Err}
use Rattle.base.specs.Base.{◌and◌, pick, listed, those, joined}
use Rattle.theory.specs.Leads.{is_listed}
use Rattle.theory.specs.Order.{rest}
use Rattle.rules.specs.Numbers.{over}
use Rattle.rules.specs.History.{History, op, op_count, size, origin_of, committed}
use Rattle.rules.specs.Reading.{Reading, refused, read, reading}
use Rattle.rules.specs.Reads.{kind_of, is_finding}
use Rattle.rules.specs.Levels.{forced, reasons}
use Rattle.rules.specs.Refusals.{cause_no}
use Rattle.rules.specs.declared.Refusal.{Refusal}
use Rattle.rules.specs.declared.Ruling.{Ruling}
use Rattle.rules.specs.declared.Ruling.TheVariants.{Rejected, Accepted}

-- ── lists and order ──

-- the findings, "by operation number"
unfoldable pub findings : History → List ℕ
findings h = those 1 (op_count h + 1) (is_finding h)

-- "Finding ..: transaction, kind, operation number (2 bytes little-endian)". Document 02: "A finding becomes 6 bytes, with that number last (2 bytes), 0
-- where no write exists: kind 1, and kind 5 with value 0." It is the number of the write that the value comes from
unfoldable pub finding_bytes : History → ℕ → List ℕ
finding_bytes h i = (op h i).tx ∷ kind_of h i ∷ i % 256 ∷ i / 256 ∷ origin_of h i % 256 ∷ origin_of h i / 256 ∷ []

pub record Pair : Type 0 where
  pub one : ℕ
  pub two : ℕ

-- "A pair is listed if its second leads to its first through forced pairs of that level", by first and then second
unfoldable pub pairs_of : History → ℕ → ℕ → List Pair
pairs_of h level a = joined (λ b. record { one = a; two = b } ∷ []) (those 0 (size h) (is_listed (size h) (forced h level) a))

unfoldable pub pairs : History → ℕ → List Pair
pairs h level = listed 0 (size h) (pairs_of h level)

-- "Pair, 4 bytes: first, second, reasons, 0."
unfoldable pub pair_bytes : History → ℕ → Pair → List ℕ
pair_bytes h level p = p.one ∷ p.two ∷ reasons h level p.one p.two ∷ 0 ∷ []

-- "Order: one byte a committed transaction, 0 first; each next place has the smallest number not yet placed whose forced predecessors all are, and
-- the rest is ordered by the same rule."
unfoldable pub order : History → ℕ → List ℕ
order h level = rest (size h) (committed h) (forced h level) []

-- what the two buffers of a rejection get
unfoldable pub finding_list : History → List ℕ
finding_list h = joined (finding_bytes h) (findings h)

unfoldable pub pair_list : History → ℕ → List ℕ
pair_list h level = joined (pair_bytes h level) (pairs h level)

-- ── the outcome ──

pub data Verdict : Type 0 where
  declines rejects accepts : Verdict

-- an answer in the document's numbers: "A refusal reports both counts and the order's length as 0"
pub record Report : Type 0 where
  pub verdict : Verdict
  pub no : ℕ
  pub place : ℕ
  pub findings : ℕ
  pub pairs : ℕ
  pub order : ℕ

abbrev pub declining : ℕ → ℕ → Report
declining n p = record { verdict = declines; no = n; place = p; findings = 0; pairs = 0; order = 0 }

abbrev pub rejecting : ℕ → ℕ → Report
rejecting f p = record { verdict = rejects; no = 0; place = 0; findings = f; pairs = p; order = 0 }

abbrev pub accepting : ℕ → Report
accepting n = record { verdict = accepts; no = 0; place = 0; findings = 0; pairs = 0; order = n }

-- the judge's answer
abbrev pub Answer : Type 0
Answer = Result Ruling Refusal

-- what each case of the answer says
unfoldable pub reported : Answer → Report
reported (Err r) = declining (cause_no r.cause) r.place
reported (Ok (Rejected f p)) = rejecting f p
reported (Ok (Accepted n)) = accepting n

-- the report, and what each of the three buffers then holds
pub record Outcome : Type 0 where
  pub report : Report
  pub findings : List ℕ
  pub pairs : List ℕ
  pub order : List ℕ

abbrev pub outcome : Report → List ℕ → List ℕ → List ℕ → Outcome
outcome r fs ps os = record { report = r; findings = fs; pairs = ps; order = os }

unfoldable pub is_empty : {A : Type 0} → List A → Bool
is_empty [] = true
is_empty (x ∷ xs) = false

-- "no finding and no listed pair"
unfoldable pub is_accepted : History → ℕ → Bool
is_accepted h level = is_empty (findings h) and is_empty (pairs h level)

-- "on acceptance only, 14"; "only the order is written"
unfoldable pub acceptance : History → ℕ → List ℕ → List ℕ → List ℕ → Outcome
acceptance h level fs ps os =
    pick (ltb (length os) (length (order h level))) (outcome (declining 14 (length (order h level))) fs ps os)
    (outcome (accepting (length (order h level))) fs ps (over (order h level) os))

-- "on rejection only, 12 and 13"; "only the two lists are written"
unfoldable pub rejection : History → ℕ → List ℕ → List ℕ → List ℕ → Outcome
rejection h level fs ps os =
    pick (ltb (length fs) (length (finding_list h))) (outcome (declining 12 (length (finding_list h))) fs ps os)
    (pick (ltb (length ps) (length (pair_list h level))) (outcome (declining 13 (length (pair_list h level))) fs ps os)
    (outcome (rejecting (length (findings h)) (length (pairs h level))) (over (finding_list h) fs) (over (pair_list h level) ps) os))

unfoldable pub judged_read : Reading → ℕ → List ℕ → List ℕ → List ℕ → Outcome
judged_read (refused n p) level fs ps os = outcome (declining n p) fs ps os
judged_read (read h notes) level fs ps os =
    pick (is_accepted h level) (acceptance h level fs ps os) (rejection h level fs ps os)

-- row 1: "the level is not 1, 2 or 3"
unfoldable pub is_level : ℕ → Bool
is_level level = ltb 0 level and ltb level 4

-- the trace s at a level, with buffers that hold fs, ps and os: "Order: 1, 2, then record by record."
unfoldable pub judged : List ℕ → ℕ → List ℕ → List ℕ → List ℕ → Outcome
judged s level fs ps os = pick (is_level level) (judged_read (reading s) level fs ps os) (outcome (declining 1 0) fs ps os)
