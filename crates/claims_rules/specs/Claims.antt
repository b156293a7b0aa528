-- Document 02, "Orders from elsewhere": what is answered of a claimed order, "one byte a transaction", for all bytes, levels and claims. o is the claim.
use Rattle.std.specs.Prelude.{ℕ, ◌+◌, Bool, not, List, length, get_or, ltb, eqb, Result, Ok, Err}
use Rattle.base.specs.Base.{◌and◌, ◌or◌, pick, some, first}
use Rattle.theory.specs.Order.{place}
use Rattle.rules.specs.History.{History, op_count, size, committed}
use Rattle.rules.specs.Reading.{Reading, refused, read, reading}
use Rattle.rules.specs.Reads.{is_finding}
use Rattle.rules.specs.Levels.{forced}
use Rattle.rules.specs.Outcome.{is_level}
use Rattle.rules.specs.Refusals.{cause_no}
use Rattle.rules.specs.declared.Refusal.{Refusal}
use Rattle.claims_rules.specs.declared.ClaimRuling.{ClaimRuling}
use Rattle.claims_rules.specs.declared.ClaimRuling.TheVariants.{Yes, NoRead, NoMembers, NoPair}

-- what can be said of a claim, in the document's numbers: yes; a no with its reason; a refusal's number and place
pub data Reply : Type 0 where
  holds : Reply
  no_read : ℕ → Reply
  no_members : Reply
  no_pair : ℕ → ℕ → Reply
  declined : ℕ → ℕ → Reply

-- the answer
abbrev pub ClaimAnswer : Type 0
ClaimAnswer = Result ClaimRuling Refusal

-- what each case of it says
unfoldable pub reply : ClaimAnswer → Reply
reply (Ok Yes) = holds
reply (Ok (NoRead i)) = no_read i
reply (Ok NoMembers) = no_members
reply (Ok (NoPair a b)) = no_pair a b
reply (Err r) = declined (cause_no r.cause) r.place

-- ── "the first unclean read's operation number" ──

-- 0 where every read is clean
unfoldable pub unclean : History → ℕ
unclean h = first 0 1 (op_count h + 1) (is_finding h)

-- ── "it has every committed transaction once, 0 first" ──

-- entry i of the claim does not count as committed, or stands in it earlier already
unfoldable pub is_stray : History → List ℕ → ℕ → Bool
is_stray h o i = not (committed h (get_or o i 0)) or ltb (place (get_or o i 0) o) i

-- a counts as committed, and the claim lacks it
unfoldable pub is_missing : History → List ℕ → ℕ → Bool
is_missing h o a = committed h a and not (ltb (place a o) (length o))

-- no entry is such a one, none is missing, and 0 stands first
unfoldable pub has_members : History → List ℕ → Bool
has_members h o = not (some 0 (length o) (is_stray h o)) and not (some 0 (size h) (is_missing h o)) and eqb (place 0 o) 0

-- ── "the forced pair standing the wrong way round that is least by first and then second" ──
-- Over any relation f of forced pairs on numbers below n.

-- a is forced before b, and does not stand before it
unfoldable pub is_backwards : (ℕ → ℕ → Bool) → List ℕ → ℕ → ℕ → Bool
is_backwards f o a b = f a b and not (ltb (place a o) (place b o))

-- the least second of those whose first is a; n where there is none
unfoldable pub second_of : ℕ → (ℕ → ℕ → Bool) → List ℕ → ℕ → ℕ
second_of n f o a = first n 0 n (is_backwards f o a)

-- some forced pair whose first is a stands the wrong way round
unfoldable pub is_first : ℕ → (ℕ → ℕ → Bool) → List ℕ → ℕ → Bool
is_first n f o a = ltb (second_of n f o a) n

-- the least first; n where no pair stands the wrong way round
unfoldable pub least_first : ℕ → (ℕ → ℕ → Bool) → List ℕ → ℕ
least_first n f o = first n 0 n (is_first n f o)

-- what is said where a is the least first: yes where there is none
unfoldable pub pair_reply : ℕ → (ℕ → ℕ → Bool) → List ℕ → ℕ → Reply
pair_reply n f o a = pick (ltb a n) (no_pair a (second_of n f o a)) holds

-- ── the answer ──

-- "A no names the first reason that holds"
unfoldable pub claimed_in : History → ℕ → List ℕ → Reply
claimed_in h level o =
    pick (ltb 0 (unclean h)) (no_read (unclean h))
    (pick (has_members h o) (pair_reply (size h) (forced h level) o (least_first (size h) (forced h level) o)) no_members)

-- of what a trace was read into: 2 to 11, or of its history
unfoldable pub claimed_read : Reading → ℕ → List ℕ → Reply
claimed_read (refused n p) level o = declined n p
claimed_read (read h notes) level o = claimed_in h level o

-- "Take a trace, a level and a claimed order"; "Refusals: 1 to 11."
unfoldable pub claimed : List ℕ → ℕ → List ℕ → Reply
claimed s level o = pick (is_level level) (claimed_read (reading s) level o) (declined 1 0)
