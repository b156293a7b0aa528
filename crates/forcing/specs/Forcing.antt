-- What a trace is prepared into, and the pairs that a level forces, as tables have them.
use Rattle.std.specs.Prelude.{ℕ, ◌≤◌, ◌≡◌, Bool, List, eqb, Result, Ok, Err, MatchResult}
use Rattle.base.specs.Base.{pick}
use Rattle.rules.specs.History.{History}
use Rattle.rules.specs.Reading.{read, reading}
use Rattle.rules.specs.Levels.{basic, is_rival, forced}
use Rattle.table.specs.Table.{history_of}
use Rattle.bits.specs.Bits.{Holds}
use Rattle.trace.specs.Trace.{TraceRead}
use Rattle.rules.specs.Refusals.{refusal_at}
use Rattle.rules.specs.declared.Cause.TheVariants.{NoLevel}
use Rattle.rules.specs.declared.Refusal.{Refusal}
use Rattle.settling.specs.Settling.{Settles}
use Rattle.reads.specs.Verdicts.{Classified}
use Rattle.pairs.specs.Pairs.{Ready, before}
use Rattle.causal.specs.Causal.{left_in}

-- ── what all levels share ──

-- the answer r to a level: it is one, or row 1 refuses it
abbrev pub LevelChecked : ℕ → Result Unit Refusal → Type 0
LevelChecked level r =
    MatchResult r (λ x. (1 ≤ level) × (level ≤ 3)) (λ d. (d ≡ refusal_at NoLevel 0) × ((1 ≤ level) × (level ≤ 3) → ⊥))

-- the trace s was read into the history of the table h, which has marks on those that count as committed, and k has what is to be known of its operations
pub record ReadInto (s h k : List ℕ) : Type 0 where
  pub ready : Ready h k
  pub notes : ℕ
  pub reads : reading s ≡ read (history_of h) notes

-- the answer r to the trace s, of which the tables h₀ and k₀ became h and k; g is the table as reading leaves it. Every word and byte is told: a refused
-- trace is not gone on with
pub record Prepared (r : Result ℕ Refusal) (s h₀ k₀ h k : List ℕ) : Type 0 where
  pub g : List ℕ
  pub read : TraceRead r g h₀ s
  pub left : (d : Refusal) → r ≡ Err d → (h ≡ g) × (k ≡ k₀)
  pub settles : (n : ℕ) → r ≡ Ok n → Settles g h
  pub classified : (n : ℕ) → r ≡ Ok n → Classified k₀ k (history_of h)

-- ── what a level forces ──

-- the history's table h, what is to be known of its operations, k, and a level
pub record AtLevel (h k : List ℕ) (level : ℕ) : Type 0 where
  pub ready : Ready h k
  pub from : 1 ≤ level
  pub to : level ≤ 3

-- what the table is left with that the search went by: behind level 3's, what that leaves, and else the basic pairs
unfoldable pub left_at : History → ℕ → ℕ → ℕ → Bool
left_at h level = pick (eqb level 3) (left_in h) (before (basic h))

-- .. with the pairs that it forces, f, of which v are the rivals
pub record Forcing (h k f v : List ℕ) (level : ℕ) : Type 0 where
  pub ready : Ready h k
  pub forces : Holds f (before (forced (history_of h) level))
  pub rivals : Holds v (before (is_rival (history_of h) level))
