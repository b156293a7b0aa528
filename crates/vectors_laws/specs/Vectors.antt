-- Document 02's Request Nine as conditions in its own words, apart from the functions that compute.
use Rattle.std.specs.Prelude.{ℕ, ◌<◌, ◌≤◌, ◌≡◌, List, ◌↔◌, ◌⊎◌}
use Rattle.rules.specs.History.{History, tx, size}
use Rattle.demand1.specs.Rows.{HasHistory}
use Rattle.demand2.specs.Axiom.{Member}
use Rattle.demand3.specs.Forced.{Way, IsBasic}
use Rattle.vectors_rules.specs.Latest.{Greatest}

-- ── the vectors ──

-- a is a "known transaction" of session s to t: it leads to t through basic pairs
pub record KnownOf (h : History) (t s a : ℕ) : Type 0 where
  pub of : (tx h a).session ≡ s
  pub way : Way (IsBasic h) a t

-- "for each transaction [t], the latest known transaction of every session [s]": the one with the greatest number, 0 if there is none
abbrev pub LatestKnown : History → ℕ → ℕ → ℕ → Type 0
LatestKnown h t s = Greatest (KnownOf h t s)

-- v are "such vectors": v t s is what t's has for session s
pub record VectorsOf (h : History) (v : ℕ → ℕ → ℕ) : Type 0 where
  pub is : (t s : ℕ) → LatestKnown h t s (v t s)

-- .. "their vectors", those of "sources 000 and 002", where each transaction is in its own as well
pub data KnownOrSelf (h : History) (t s a : ℕ) : Type 0 where
  known : KnownOf h t s a → KnownOrSelf h t s a
  itself : a ≡ t → Member h t → (tx h t).session ≡ s → KnownOrSelf h t s a

pub record OwnVectorsOf (h : History) (v : ℕ → ℕ → ℕ) : Type 0 where
  pub is : (t s : ℕ) → Greatest (KnownOrSelf h t s) (v t s)

-- ── what they say ──

-- "basic pairs form no cycle"
abbrev pub NoBasicCycle : History → Type 0
NoBasicCycle h = (a : ℕ) → Way (IsBasic h) a a → ⊥

-- "they say" of a and b that a leads to b: a counts as committed, and b's vector has it or a later one for its session
pub record Say (h : History) (v : ℕ → ℕ → ℕ) (a b : ℕ) : Type 0 where
  pub member : Member h a
  pub at_most : a ≤ v b (tx h a).session

-- as the sources do: Vec[a] ⊑ Vec[b], no entry of a's vector being above that of b's
abbrev pub AtMost : (ℕ → ℕ → ℕ) → ℕ → ℕ → Type 0
AtMost v a b = (s : ℕ) → v a s ≤ v b s

-- the request's sentence of a trace s: "when basic pairs form no cycle, they say the same [as] the table of basic reachability .. for every two different
-- transactions besides 0"
pub record SameAsTable (s : List ℕ) : Type 0 where
  pub says : (h : History) → HasHistory s h → NoBasicCycle h → (v : ℕ → ℕ → ℕ) → VectorsOf h v → (a b : ℕ) → (a ≡ b → ⊥) → 0 < a → 0 < b
      → Say h v a b ↔ Way (IsBasic h) a b

-- .. and as the sources have it, for those that take part
pub record SameAsSources (s : List ℕ) : Type 0 where
  pub says : (h : History) → HasHistory s h → (v : ℕ → ℕ → ℕ) → OwnVectorsOf h v → (a b : ℕ) → Member h a → Member h b → 0 < a → 0 < b → (a ≡ b → ⊥)
      → AtMost v a b ↔ Way (IsBasic h) a b

-- ── as the sources work them out ──

-- what t is told of session s by a transaction before it in a basic pair: that one itself, or what its vector has
pub record ToldTo (h : History) (v : ℕ → ℕ → ℕ) (t s a : ℕ) : Type 0 where
  pub by : ℕ
  pub pair : IsBasic h by t
  pub is : ((a ≡ by) × ((tx h by).session ≡ s)) ⊎ (a ≡ v by s)

-- each vector is merged of those before it: it has the greatest number of each session that it is told
pub record Merged (h : History) (v : ℕ → ℕ → ℕ) : Type 0 where
  pub is : (t s : ℕ) → t < size h → Greatest (ToldTo h v t s) (v t s)
