-- What whoever has the lists of a trace judged has: what the request says, and what it shares with the judge. s is the trace; fs and ps are what the call's
-- buffers held.
use Rattle.std.specs.Prelude.{ℕ, ◌≤◌, ◌≡◌, Bool, true, List, Err}
use Rattle.rules.specs.History.{History}
use Rattle.rules.specs.Outcome.{declining, reported}
use Rattle.rules.specs.declared.Cause.TheVariants.{NoLevel, FindingsRoom, PairsRoom, OrderRoom}
use Rattle.rules.specs.declared.Refusal.{Refusal}
use Rattle.demand1.specs.Rows.{Refuses, HasHistory}
use Rattle.demands.specs.Demands.{Demands}
use Rattle.appends_rules.specs.Appends.{lists_in}
use Rattle.appends_rules.specs.ListOutcome.{ListOutcome, list_outcome, lists_refused}
use Rattle.appends_laws.specs.ListFits.{IsCleanness}
use Rattle.appends_laws.specs.ListBytes.{ListsSay}
use Rattle.appends.specs.Answering.{list_reported}
use Rattle.appends_calls.specs.declared.JudgedLists.{JudgedLists}

-- the list reads that a test c tells
abbrev pub Tells : (ℕ → Bool) → ℕ → Type 0
Tells c i = c i ≡ true

-- what document 02 says of the call, where the notion of clean is what some test tells: a contract has no room for every notion. That there is but one notion,
-- and that whatever is said with any notion is promised here, are theorems (`cleanness_one`, `judge_promised`)
pub data ListsPromised (s fs ps : List ℕ) : ListOutcome → Type 0 where
  reading_refused : {n p : ℕ} → Refuses s n p → ListsPromised s fs ps (list_outcome (lists_refused n p) fs ps)
  of_history : {h : History} {c : ℕ → Bool} {x : ListOutcome} → HasHistory s h → IsCleanness h (lists_in s h) (Tells c) → ListsSay h (lists_in s h) (Tells c) fs ps x
      → ListsPromised s fs ps x

-- the judge's call and the call on lists, on one trace: F, P and O are what the judge's buffers fs, ps and os hold then, and X and Y what the others, xs and ys, do
pub record JudgedAndListed (s : List ℕ) (level : ℕ) (r : JudgedLists) (fs ps os xs ys F P O X Y : List ℕ) : Type 0 where
  pub judged : Demands s level fs ps os r.judged F P O
  pub listed : ListsPromised s xs ys (list_outcome (list_reported r.listed) X Y)
  -- "2 to 11 with 17 among them": a trace that is refused gets one number and place from both
  pub refused_alike : 1 ≤ level → level ≤ 3 → {n p : ℕ} → Refuses s n p → (reported r.judged ≡ declining n p) × (list_reported r.listed ≡ lists_refused n p)
  -- so each refusal of the one is the other's, but for those of buffers, 12 to 14, and of the level, 1
  pub on_list_refusal : 1 ≤ level → level ≤ 3 → {d : Refusal} → r.listed ≡ Err d → (d.cause ≡ FindingsRoom → ⊥) → (d.cause ≡ PairsRoom → ⊥) → r.judged ≡ Err d
  pub on_judge_refusal : {d : Refusal} → r.judged ≡ Err d → (d.cause ≡ NoLevel → ⊥) → (d.cause ≡ FindingsRoom → ⊥) → (d.cause ≡ PairsRoom → ⊥)
      → (d.cause ≡ OrderRoom → ⊥) → r.listed ≡ Err d
