-- Document 01's forced pairs with their reasons, and its listed pairs, as conditions in its own terms, apart from the functions that compute.
use Rattle.std.specs.Prelude.{ℕ, ◌+◌, ◌<◌, ◌≡◌}
use Rattle.rules.specs.History.{History, tx}
use Rattle.demand2.specs.Kinds.{Clean}
use Rattle.demand2.specs.Axiom.{Member, ReadFrom, Writes}

-- "through one or more" pairs of R
pub data Way (R : ℕ → ℕ → Type 0) : ℕ → ℕ → Type 0 where
  one : {a b : ℕ} → R a b → Way R a b
  more : {a b c : ℕ} → R a b → Way R b c → Way R a c

-- "a clean external read of x in t3 from t1"
pub record CleanRead (h : History) (t1 t3 x i : ℕ) : Type 0 where
  pub clean : Clean h i
  pub reads : ReadFrom h t1 t3 x i

-- "Basic pairs, always forced", each with its reason
pub data Basic (h : History) (a b : ℕ) : ℕ → Type 0 where
  -- "start (0 before every other)"
  start : a ≡ 0 → 0 < b → Member h b → Basic h a b 1
  -- "session (an earlier transaction before each later one of its session)"
  session : 0 < a → a < b → Member h a → Member h b → (tx h a).session ≡ (tx h b).session → Basic h a b 2
  -- "read (the source before the reader of a clean external read)"
  read : {x i : ℕ} → CleanRead h a b x i → Basic h a b 4

-- for any reason
abbrev pub IsBasic : History → ℕ → ℕ → Type 0
IsBasic h a b = (r : ℕ) × Basic h a b r

-- what a level asks between the rival t2 and the read i in t3
pub data Knows (h : History) (t2 t3 i : ℕ) : ℕ → Type 0 where
  -- "an earlier clean external read in t3, of any key, came from t2"
  earlier : {x j : ℕ} → CleanRead h t2 t3 x j → j < i → Knows h t2 t3 i 1
  -- "(t2, t3) is a basic pair"
  direct : IsBasic h t2 t3 → Knows h t2 t3 i 2
  -- "t2 leads to t3 through one or more basic pairs"
  led : Way (IsBasic h) t2 t3 → Knows h t2 t3 i 3

-- "1 start, 2 session, 4 read, 8 rival": a is forced before b, for a reason
pub data Forced (h : History) (level a b : ℕ) : ℕ → Type 0 where
  always : {r : ℕ} → Basic h a b r → Forced h level a b r
  -- "a clean external read of x in t3 from t1, and a rival t2 that writes x and is neither t1 nor t3": a is t2 and b is t1
  rival : {t3 x i : ℕ} → CleanRead h b t3 x i → Member h a → Writes h a x → (a ≡ b → ⊥) → (a ≡ t3 → ⊥) → Knows h a t3 i level
      → Forced h level a b 8

-- for any reason
abbrev pub IsForced : History → ℕ → ℕ → ℕ → Type 0
IsForced h level a b = (r : ℕ) × Forced h level a b r

-- "A pair is listed if its second leads to its first through forced pairs of that level."
pub record ListedPair (h : History) (level a b : ℕ) : Type 0 where
  pub forced : IsForced h level a b
  pub back : Way (IsForced h level) b a

-- what a reason adds to a sum: its number where it holds, else 0
pub data Adds (P : Type 0) (r : ℕ) : ℕ → Type 0 where
  holds : P → Adds P r r
  fails : (P → ⊥) → Adds P r 0

-- "Reasons are a sum of 1 start, 2 session, 4 read, 8 rival; every reason that holds is in it."
pub record Reasons (h : History) (level a b n : ℕ) : Type 0 where
  pub start : ℕ
  pub session : ℕ
  pub read : ℕ
  pub rival : ℕ
  pub adds_1 : Adds (Forced h level a b 1) 1 start
  pub adds_2 : Adds (Forced h level a b 2) 2 session
  pub adds_4 : Adds (Forced h level a b 4) 4 read
  pub adds_8 : Adds (Forced h level a b 8) 8 rival
  pub sum : n ≡ start + session + read + rival
