-- Document 02's Request Nine asked of a trace, as conditions in its own words: "for each transaction, the latest known transaction of every session", and
-- whether one leads to another, by these vectors "when basic pairs form no cycle", and "with a cycle the old table is used".
use Rattle.std.specs.Prelude.{ℕ, ◌<◌, ◌≡◌, Bool, true, List, ◌↔◌, Option, None, Some, Result, Ok, Err}
use Rattle.rules.specs.History.{History, tx}
use Rattle.rules.specs.Refusals.{cause_no}
use Rattle.rules.specs.declared.Refusal.{Refusal}
use Rattle.demand1.specs.Rows.{Refuses, HasHistory}
use Rattle.demand2.specs.Axiom.{Member}
use Rattle.demand3.specs.Forced.{Way, IsBasic}
use Rattle.vectors_rules.specs.Latest.{Greatest}
use Rattle.vectors_laws.specs.Vectors.{KnownOrSelf, NoBasicCycle}
use Rattle.vectors_calls.specs.declared.LedBy.{LedBy}
use Rattle.vectors_calls.specs.declared.LedBy.TheVariants.{ByVectors, ByTable}

-- the answers: by which of the two; an entry, or none where no vectors are made
abbrev pub LedAnswer : Type 0
LedAnswer = Result LedBy Refusal

abbrev pub EntryAnswer : Type 0
EntryAnswer = Result (Option ℕ) Refusal

-- what is said of a and b, any two numbers, in the trace s: w is whether a leads to b through basic pairs
pub data SaysLeads (s : List ℕ) (a b : ℕ) : LedAnswer → Type 0 where
  on_refusal : {d : Refusal} → Refuses s (cause_no d.cause) d.place → SaysLeads s a b (Err d)
  -- by vectors "when basic pairs form no cycle"
  by_vectors : {h : History} {w : Bool} → HasHistory s h → NoBasicCycle h → (w ≡ true) ↔ Way (IsBasic h) a b → SaysLeads s a b (Ok (ByVectors w))
  -- "with a cycle the old table is used"
  by_table : {h : History} {w : Bool} → HasHistory s h → (NoBasicCycle h → ⊥) → (w ≡ true) ↔ Way (IsBasic h) a b → SaysLeads s a b (Ok (ByTable w))

-- x is what t's vector, with t itself in it, has for the session of a; 0 where a is 0, or does not count as committed
pub record EntryOf (h : History) (t a x : ℕ) : Type 0 where
  pub of_session : 0 < a → Member h a → Greatest (KnownOrSelf h t (tx h a).session) x
  pub of_none : (0 < a → Member h a → ⊥) → x ≡ 0

-- what is told of it in the trace s, for any two numbers
pub data TellsLatest (s : List ℕ) (t a : ℕ) : EntryAnswer → Type 0 where
  on_refusal : {d : Refusal} → Refuses s (cause_no d.cause) d.place → TellsLatest s t a (Err d)
  on_cycle : {h : History} → HasHistory s h → (NoBasicCycle h → ⊥) → TellsLatest s t a (Ok None)
  on_latest : {h : History} {x : ℕ} → HasHistory s h → NoBasicCycle h → EntryOf h t a x → TellsLatest s t a (Ok (Some x))
