-- The axioms of the three levels as Biswas and Enea published them (OOPSLA 2019), over a history: no forced pair is mentioned here.
use Rattle.std.specs.Prelude.{ℕ, ◌<◌, ◌≡◌, Bool, true, List, ◌⊎◌, length, get_or}
use Rattle.theory.specs.Order.{place, Lex}
use Rattle.rules.specs.History.{History, tx, op, size}
use Rattle.demand2.specs.Counts.{Counts}
use Rattle.demand2.specs.Kinds.{WriteIn, WriteOf, JudgedRead}

-- a transaction that counts as committed, 0 among them
pub record Member (h : History) (a : ℕ) : Type 0 where
  pub below : a < size h
  pub is_in : Counts h a

-- session order: 0 before every other, and an earlier transaction before each later one of its session
pub data SO (h : History) (a b : ℕ) : Type 0 where
  from_0 : a ≡ 0 → 0 < b → Member h b → SO h a b
  in_session : 0 < a → a < b → Member h a → Member h b → (tx h a).session ≡ (tx h b).session → SO h a b

-- t1 is where the value of read i comes from: the value is 0 and t1 is 0, or t1 wrote it
pub data Source (h : History) (i t1 : ℕ) : Type 0 where
  initial : (op h i).value ≡ 0 → t1 ≡ 0 → Source h i t1
  written : {j : ℕ} → WriteOf h t1 (op h i).key (op h i).value j → Source h i t1

-- read i, of x in t3, comes from another transaction t1
pub record ReadFrom (h : History) (t1 t3 x i : ℕ) : Type 0 where
  pub judged : JudgedRead h i
  pub in_tx : (op h i).tx ≡ t3
  pub of_key : (op h i).key ≡ x
  pub source : Source h i t1
  pub other : t1 ≡ t3 → ⊥

-- write-read: some read in b comes from a
pub record WR (h : History) (a b : ℕ) : Type 0 where
  pub key : ℕ
  pub by : ℕ
  pub reads : ReadFrom h a b key by

-- t writes x: 0 writes every key
pub data Writes (h : History) (t x : ℕ) : Type 0 where
  initially : t ≡ 0 → Writes h t x
  later : {j : ℕ} → WriteIn h t x j → Writes h t x

-- SO ∪ WR, and its transitive closure
abbrev pub SoWr : History → ℕ → ℕ → Type 0
SoWr h a b = SO h a b ⊎ WR h a b

pub data Causal (h : History) : ℕ → ℕ → Type 0 where
  one : {a b : ℕ} → SoWr h a b → Causal h a b
  more : {a b c : ℕ} → SoWr h a b → Causal h b c → Causal h a c

-- what a level asks of t2 and the read i in t3
pub data Sees (h : History) (t2 t3 i : ℕ) : ℕ → Type 0 where
  -- read committed: a read earlier in t3 came from t2 (WR, then program order)
  earlier : {x j : ℕ} → ReadFrom h t2 t3 x j → j < i → Sees h t2 t3 i 1
  -- read atomicity: SO ∪ WR
  direct : SoWr h t2 t3 → Sees h t2 t3 i 2
  -- transactional causal consistency: the transitive closure of SO ∪ WR
  causal : Causal h t2 t3 → Sees h t2 t3 i 3

-- a strict total order on the committed transactions
pub record StrictTotal (h : History) (C : ℕ → ℕ → Type 0) : Type 0 where
  pub members : (a b : ℕ) → C a b → Member h a × Member h b
  pub never : (a : ℕ) → C a a → ⊥
  pub on : (a b c : ℕ) → C a b → C b c → C a c
  pub either : (a b : ℕ) → Member h a → Member h b → (a ≡ b → ⊥) → C a b ⊎ C b a

-- it contains session order and write-read and obeys the level's axiom
pub record Obeys (h : History) (level : ℕ) (C : ℕ → ℕ → Type 0) : Type 0 where
  pub holds_so : (a b : ℕ) → SO h a b → C a b
  pub holds_wr : (a b : ℕ) → WR h a b → C a b
  pub published : (t1 t2 t3 x i : ℕ) → (t1 ≡ t2 → ⊥) → ReadFrom h t1 t3 x i → Member h t2 → Writes h t2 x → Sees h t2 t3 i level → C t2 t1

-- a commit order
pub record Commits (h : History) (level : ℕ) (C : ℕ → ℕ → Type 0) : Type 0 where
  pub order : StrictTotal h C
  pub obeys : Obeys h level C

-- "some total order .. obeys the level's axiom", whatever kind of relation it is
abbrev pub SomeOrder : History → ℕ → Type 1
SomeOrder h level = (C : ℕ → ℕ → Type 0) × Commits h level C

-- the same of a relation that a test gives: a contract can speak of it
abbrev pub ByTest : (ℕ → ℕ → Bool) → ℕ → ℕ → Type 0
ByTest c a b = c a b ≡ true

abbrev pub HasOrder : History → ℕ → Type 0
HasOrder h level = (c : ℕ → ℕ → Bool) × Commits h level (ByTest c)

-- the committed transactions in a list, each once, 0 first; a stands before b in it
pub record Lists (h : History) (o : List ℕ) : Type 0 where
  pub are : (i : ℕ) → i < length o → Member h (get_or o i 0)
  pub once : (i : ℕ) → i < length o → place (get_or o i 0) o ≡ i
  pub all : (a : ℕ) → Member h a → place a o < length o
  pub zero_first : place 0 o ≡ 0

pub record StandsBefore (o : List ℕ) (a b : ℕ) : Type 0 where
  pub earlier : place a o < place b o
  pub there : place b o < length o

-- a list that is a commit order of the level; the first such in dictionary order
pub record Shows (h : History) (level : ℕ) (o : List ℕ) : Type 0 where
  pub lists : Lists h o
  pub commits : Commits h level (StandsBefore o)

pub record FirstShown (h : History) (level : ℕ) (o : List ℕ) : Type 0 where
  pub shows : Shows h level o
  pub first : (q : List ℕ) → Shows h level q → Lex o q
