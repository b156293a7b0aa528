-- What whoever makes a call on two traces, s and t, has of it: what is promised of each call; and, where the one trace is the other, moved, or they differ only in
-- their notes, what the two have in common, given buffers that held the same. A prime is on what belongs to t.
use Rattle.std.specs.Prelude.{ℕ, ◌≡◌, Bool, false, List}
use Rattle.rules.specs.History.{History}
use Rattle.rules.specs.Outcome.{Answer}
use Rattle.demand3.specs.Rejected.{FindingCount}
use Rattle.demands.specs.Demands.{Demands}
use Rattle.demands.specs.Printed.{TextPut}
use Rattle.written.specs.Lists.{ListsSteps}
use Rattle.written.specs.Rewrites.{RewritesTrace, RewritesWhole}
use Rattle.renumbering.specs.Renumbering.{FindingsBecame, AnswersAlike}
use Rattle.moving.specs.Renumbering.{new_number}
use Rattle.noteless.specs.Texts.{OtherTexts}
use Rattle.noteless.specs.Without.{ButForNotes}
use Rattle.moved.specs.Moved.{Moved, Moves, MovesToSecond}
use Rattle.deciding.specs.Deciding.{decision_no}
use Rattle.deciding.specs.declared.Decision.TheVariants.{Hold}
use Rattle.decided.specs.Decides.{Decides}
use Rattle.decided.specs.Strongest.{StrongestIs}
use Rattle.claims_rules.specs.Claims.{Reply, no_read, reply}
use Rattle.claims_rules.specs.Numbers.{reply_no}
use Rattle.claims_laws.specs.Claims.{Claims}
use Rattle.claims_laws.specs.Told.{ClaimNumbered}
use Rattle.appends_rules.specs.ListOutcome.{list_outcome}
use Rattle.appends.specs.Answering.{list_reported}
use Rattle.appends.specs.Answering.{ListAnswer}
use Rattle.appends_calls.specs.Calls.{ListsPromised}
use Rattle.vectors_calls.specs.Calls.{SaysLeads, TellsLatest}
use Rattle.two.specs.declared.Two.{Two}
use Rattle.claims_rules.specs.Claims.{ClaimAnswer}
use Rattle.appends.specs.Answering.{ListAnswer}
use Rattle.vectors_calls.specs.Calls.{LedAnswer}
use Rattle.vectors_calls.specs.Calls.{EntryAnswer}
use Rattle.writing.specs.Filling.{Filled}
use Rattle.moving.specs.Tally.{Tallied}

-- ── the judge ──

-- two answers of the judge, and what both callers' buffers then hold, are the same
pub record SameOutcome (r q : Answer) (F P O F' P' O' : List ℕ) : Type 0 where
  pub answer : q ≡ r
  pub findings : F' ≡ F
  pub pairs : P' ≡ P
  pub order : O' ≡ O

pub record JudgedBoth (s t : List ℕ) (level : ℕ) (r : Two Answer) (fs ps os fs' ps' os' F P O F' P' O' : List ℕ) : Type 0 where
  pub one : Demands s level fs ps os r.one F P O
  pub other : Demands t level fs' ps' os' r.other F' P' O'
  -- "Verdicts, orders and pairs stay equal; findings may differ only in operation numbers, so in their order"
  pub was_moved : fs ≡ fs' → ps ≡ ps' → os ≡ os' → (second : Bool) (m : Moved second s t) → AnswersAlike (new_number m.history) r.one r.other F P O F' P' O'
  -- "Edition 1 traces that have notes are still judged, with the same verdicts"; "Nobody reads notes"
  pub but_for_notes : fs ≡ fs' → ps ≡ ps' → os ≡ os' → ButForNotes s t → SameOutcome r.one r.other F P O F' P' O'

-- .. as text
pub record PrintedBoth (s t : List ℕ) (r : Two ℕ) (o o' B B' : List ℕ) : Type 0 where
  pub one : TextPut s o B r.one
  pub other : TextPut t o' B' r.other
  pub but_for_notes : o ≡ o' → ButForNotes s t → (r.other ≡ r.one) × (B' ≡ B)

-- ── the calls for C ──

-- two decisions, of a trace that is read into h and of what it was moved to, where operation i has become operation `to i`
pub record DecidedAlike (to : ℕ → ℕ) (h : History) (r q : ℕ) (F P O C F' P' O' C' : List ℕ) : Type 0 where
  pub same_number : q ≡ r
  pub same_pairs : P' ≡ P
  pub same_order : O' ≡ O
  pub same_counts : C' ≡ C
  -- promote and no trace write no finding
  pub no_findings : (r ≡ decision_no Hold → ⊥) → F' ≡ F
  pub on_hold : r ≡ decision_no Hold → (f : ℕ) → FindingCount h f → FindingsBecame to f F F'

-- two decisions, and what the buffers then hold, are the same
pub record SameDecision (r q : ℕ) (F P O C F' P' O' C' : List ℕ) : Type 0 where
  pub number : q ≡ r
  pub findings : F' ≡ F
  pub pairs : P' ≡ P
  pub order : O' ≡ O
  pub counts : C' ≡ C

pub record DecidedBoth (s t : List ℕ) (level : ℕ) (r : Two ℕ) (fs ps os cs fs' ps' os' cs' F P O C F' P' O' C' : List ℕ) : Type 0 where
  pub one : Decides s level fs ps os cs r.one F P O C
  pub other : Decides t level fs' ps' os' cs' r.other F' P' O' C'
  pub was_moved : fs ≡ fs' → ps ≡ ps' → os ≡ os' → cs ≡ cs' → (second : Bool) (m : Moved second s t)
      → DecidedAlike (new_number m.history) m.history r.one r.other F P O C F' P' O' C'
  pub but_for_notes : fs ≡ fs' → ps ≡ ps' → os ≡ os' → cs ≡ cs' → ButForNotes s t → SameDecision r.one r.other F P O C F' P' O' C'

pub record StrongestBoth (s t : List ℕ) (r : Two ℕ) : Type 0 where
  pub one : StrongestIs s r.one
  pub other : StrongestIs t r.other
  pub was_moved : (second : Bool) → Moved second s t → r.other ≡ r.one
  pub but_for_notes : ButForNotes s t → r.other ≡ r.one

-- ── orders from elsewhere ──
-- o is the claim.

-- two replies, of a trace and of what it was moved to: "findings may differ only in operation numbers, so in their order", so the first unclean read may be
-- another; everything else is the same
pub data SaidAlike : Reply → Reply → Type 0 where
  same_reply : {x : Reply} → SaidAlike x x
  both_reads : {i j : ℕ} → SaidAlike (no_read i) (no_read j)

pub record ClaimedBoth (s t : List ℕ) (level : ℕ) (o : List ℕ) (r : Two ClaimAnswer) : Type 0 where
  pub one : Claims s level o (reply r.one)
  pub other : Claims t level o (reply r.other)
  pub was_moved : (second : Bool) → Moved second s t → SaidAlike (reply r.one) (reply r.other)
  pub but_for_notes : ButForNotes s t → r.other ≡ r.one

-- .. for C, where N is what became of the slice ns: only what is put for an unclean read may differ
pub record NumberedBoth (s t : List ℕ) (level : ℕ) (o ns ns' : List ℕ) (r : Two ℕ) (N N' : List ℕ) : Type 0 where
  pub one : ClaimNumbered s level o ns r.one N
  pub other : ClaimNumbered t level o ns' r.other N'
  pub was_moved : ns ≡ ns' → (second : Bool) → Moved second s t → (r.other ≡ r.one) × (((i : ℕ) → r.one ≡ reply_no (no_read i) → ⊥) → N' ≡ N)
  pub but_for_notes : ns ≡ ns' → ButForNotes s t → (r.other ≡ r.one) × (N' ≡ N)

-- ── the call on lists ──

-- two answers of it, and what both callers' buffers then hold, are the same
pub record SameLists (r q : ListAnswer) (F P F' P' : List ℕ) : Type 0 where
  pub answer : q ≡ r
  pub findings : F' ≡ F
  pub pairs : P' ≡ P

-- "20, list kinds in a move to edition 1": what was moved has no list, and nor has a trace with notes, which are of edition 1, so nothing is found in either trace.
-- A trace of edition 2 has no note: where its serials are others, its lists stay
pub record ListsJudgedBoth (s t : List ℕ) (r : Two ListAnswer) (fs ps fs' ps' F P F' P' : List ℕ) : Type 0 where
  pub one : ListsPromised s fs ps (list_outcome (list_reported r.one) F P)
  pub other : ListsPromised t fs' ps' (list_outcome (list_reported r.other) F' P')
  pub was_moved : fs ≡ fs' → ps ≡ ps' → (second : Bool) → Moved second s t → SameLists r.one r.other F P F' P'
  pub but_for_notes : fs ≡ fs' → ps ≡ ps' → ButForNotes s t → SameLists r.one r.other F P F' P'

-- ── the calls for vectors ──

-- "Numbers still go by opening", moved "transactions become blocks in order of opening", and no note opens one: so a and b are the same transactions in both
-- traces, and the whole answer is the same. Where only texts differ it may be a refusal, with its number and place; what was moved is read, and so is a trace
-- without its notes
pub record LedBoth (s t : List ℕ) (a b : ℕ) (r : Two LedAnswer) : Type 0 where
  pub one : SaysLeads s a b r.one
  pub other : SaysLeads t a b r.other
  pub was_moved : (second : Bool) → Moved second s t → r.other ≡ r.one
  pub but_for_notes : ButForNotes s t → r.other ≡ r.one

-- .. so is what the vector of x has for the session of a
pub record LatestBoth (s t : List ℕ) (x a : ℕ) (r : Two EntryAnswer) : Type 0 where
  pub one : TellsLatest s x a r.one
  pub other : TellsLatest t x a r.other
  pub was_moved : (second : Bool) → Moved second s t → r.other ≡ r.one
  pub but_for_notes : ButForNotes s t → r.other ≡ r.one

-- ── the calls that fill a buffer ──

-- a trace without its notes has the steps of the trace
pub record ListedBoth (s t : List ℕ) (r : Two Filled) (o o' B B' : List ℕ) : Type 0 where
  pub one : ListsSteps s o r.one B
  pub other : ListsSteps t o' r.other B'
  pub but_for_notes : o ≡ o' → ButForNotes s t → (r.other ≡ r.one) × (B' ≡ B)

-- a trace is written again with its first serial, and one without its notes may have another: so this is of other texts alone. X is what became of the buffer x
-- for the steps
pub record RewrittenBoth (s t : List ℕ) (r : Two Filled) (x o x' o' X B X' B' : List ℕ) : Type 0 where
  pub one : RewritesTrace s x o r.one X B
  pub other : RewritesTrace t x' o' r.other X' B'
  pub other_texts : x ≡ x' → o ≡ o' → OtherTexts s t → (r.other ≡ r.one) × (X' ≡ X) × (B' ≡ B)

pub record WholeBoth (s t : List ℕ) (r : Two Filled) (o o' B B' : List ℕ) : Type 0 where
  pub one : RewritesWhole s o r.one B
  pub other : RewritesWhole t o' r.other B'
  pub other_texts : o ≡ o' → OtherTexts s t → (r.other ≡ r.one) × (B' ≡ B)

-- moved to edition 1 a trace of that edition keeps its texts, so the answer is the same, and not the bytes
pub record MovedBoth (s t : List ℕ) (r : Two Filled) (o o' B B' : List ℕ) : Type 0 where
  pub one : Moves false s o r.one B
  pub other : Moves false t o' r.other B'
  pub other_texts : o ≡ o' → OtherTexts s t → r.other ≡ r.one

-- moved to edition 2 it has none
pub record TalliedBoth (s t : List ℕ) (r : Two Tallied) (o o' B B' : List ℕ) : Type 0 where
  pub one : MovesToSecond s o r.one B
  pub other : MovesToSecond t o' r.other B'
  pub other_texts : o ≡ o' → OtherTexts s t → (r.other ≡ r.one) × (B' ≡ B)
