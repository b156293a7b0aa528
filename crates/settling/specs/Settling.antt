-- What is known while it is worked out who counts as committed.
use Rattle.std.specs.Prelude.{ℕ, ◌+◌, ◌*◌, ◌%◌, ◌≤◌, ◌<◌, ◌≡◌, Bool, true, false, List, length, get_or, set, ltb}
use Rattle.base.specs.Base.{◌and◌, pick, count}
use Rattle.theory.specs.Reached.{Reached}
use Rattle.rules.specs.History.{History, op, tx_count, size, says_committed, is_unanswered, takes_from, vouches, committed}
use Rattle.table.specs.Table.{history_of, marked, mark_tx, Held, HasTx, Settled, Becomes}

-- ── the queue ──

-- t is a transaction of x that passes s
pub record TxPassing (x : History) (s : ℕ → Bool) (t : ℕ) : Type 0 where
  pub from : 1 ≤ t
  pub to : t ≤ tx_count x
  pub passes : s t ≡ true

-- one of the first n entries of q is t
pub record Stands (q : List ℕ) (n t : ℕ) : Type 0 where
  pub at : ℕ
  pub to : at < n
  pub is : get_or q at 0 ≡ t

-- the first n entries of q are the transactions of x that pass s, each once: they are as many
pub record Queue (x : History) (s : ℕ → Bool) (q : List ℕ) (n : ℕ) : Type 0 where
  pub room : length q ≡ 128
  pub many : n ≡ count 1 (size x) s
  pub each : (i : ℕ) → i < n → TxPassing x s (get_or q i 0)
  pub all : (t : ℕ) → TxPassing x s t → Stands q n t

-- transaction t was marked and put behind n others: they are r now
pub record Admitted (h q : List ℕ) (n t : ℕ) (g p : List ℕ) (r : ℕ) : Type 0 where
  pub marks : Becomes g (mark_tx h t 1) (history_of h)
  pub queue : p ≡ set q n t
  pub end : r ≡ n + 1

-- ── marks ──

-- g is h, but for what stands from bit 29 on in the words of transactions
pub record Remarked (h g : List ℕ) : Type 0 where
  pub same : history_of g ≡ history_of h
  pub under : (k : ℕ) → get_or g k 0 % 536870912 ≡ get_or h k 0 % 536870912
  pub rest : (k : ℕ) → (1 ≤ k → k ≤ tx_count (history_of h) → ⊥) → get_or g k 0 ≡ get_or h k 0

-- nothing stands above the place of the mark in the word of t
abbrev pub MarkTops : List ℕ → ℕ → Type 0
MarkTops h t = get_or h t 0 < 1073741824

-- ── those that said so ──

-- t is below e and says that it committed
unfoldable pub said_below : History → ℕ → ℕ → Bool
said_below x e t = ltb t e and says_committed x t

-- the transactions below e were looked at: those that said so are marked and stand in the queue. Of the others' marks nothing is known
pub record Begun (h q : List ℕ) (n e : ℕ) : Type 0 where
  pub held : Held h
  pub said : (t : ℕ) → 1 ≤ t → t < e → marked h t ≡ says_committed (history_of h) t
  pub tops : (t : ℕ) → 1 ≤ t → t < e → MarkTops h t
  pub queue : Queue (history_of h) (said_below (history_of h) e) q n

-- .. in g, which is h but for marks
pub record Begins (h g q : List ℕ) (n e : ℕ) : Type 0 where
  pub remarked : Remarked h g
  pub begun : Begun g q n e

-- ── those whose values they read ──

-- the marked ones stand in the queue: only such as count, all that said so among them
pub record Marks (h q : List ℕ) (n : ℕ) : Type 0 where
  pub held : Held h
  pub right : (t : ℕ) → TxPassing (history_of h) (marked h) t → Reached (says_committed (history_of h)) (vouches (history_of h)) t
  pub said : (t : ℕ) → TxPassing (history_of h) (says_committed (history_of h)) t → marked h t ≡ true
  pub tops : (t : ℕ) → 1 ≤ t → t ≤ tx_count (history_of h) → MarkTops h t
  pub queue : Queue (history_of h) (marked h) q n

-- they became g, p and r: nobody lost the mark or the place
pub record Further (h q : List ℕ) (n : ℕ) (g p : List ℕ) (r : ℕ) : Type 0 where
  pub remarked : Remarked h g
  pub marks : Marks g p r
  pub more : n ≤ r
  pub places : (i : ℕ) → i < n → get_or p i 0 ≡ get_or q i 0
  pub kept : (t : ℕ) → marked h t ≡ true → marked g t ≡ true

-- an unanswered transaction whose value operation i reads is marked, whoever reads it
abbrev pub TakenUp : List ℕ → ℕ → Type 0
TakenUp h i =
    (u : ℕ) → takes_from (history_of h) (op (history_of h) i).tx u i ≡ true → is_unanswered (history_of h) u ≡ true → marked h u ≡ true

-- operation i takes a value of r, which is unanswered and not marked yet
pub record Gains (h : List ℕ) (i r : ℕ) : Type 0 where
  pub there : HasTx h r
  pub unanswered : is_unanswered (history_of h) r ≡ true
  pub takes : takes_from (history_of h) (op (history_of h) i).tx r i ≡ true
  pub new : marked h r ≡ false

-- every transaction that counts by t is marked
abbrev pub LookedAt : List ℕ → ℕ → Type 0
LookedAt h t = (u : ℕ) → vouches (history_of h) t u ≡ true → marked h u ≡ true

-- the queue was gone through, which made g of h: everyone that counts is marked
pub record Ends (h g : List ℕ) : Type 0 where
  pub remarked : Remarked h g
  pub settled : Settled g
  pub tops : (t : ℕ) → 1 ≤ t → t ≤ tx_count (history_of g) → MarkTops g t

-- ── all ──

-- g has the history of h, and its marks say who counts. Every word of g is told: a transaction's is what stands under the mark in h, and the mark that it
-- is due; any other is that of h
pub record Settles (h g : List ℕ) : Type 0 where
  pub same : history_of g ≡ history_of h
  pub settled : Settled g
  pub words : (t : ℕ) → 1 ≤ t → t ≤ tx_count (history_of h)
      → get_or g t 0 ≡ get_or h t 0 % 536870912 + 536870912 * pick (committed (history_of h) t) 1 0
  pub rest : (k : ℕ) → (1 ≤ k → k ≤ tx_count (history_of h) → ⊥) → get_or g k 0 ≡ get_or h k 0
