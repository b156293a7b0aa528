-- Vectors over any numbers: for each, the latest of every session that leads to it. `n` bounds the numbers, `m` says which are members, `f` which pairs there
-- are, `ses` each number's session. 0 is of no session.
use Rattle.std.specs.Prelude.{ℕ, ◌<◌, ◌≤◌, ◌≡◌, Bool, true, ◌⊎◌, eqb, leb, ltb}
use Rattle.base.specs.Base.{◌and◌, pick, some, last}
use Rattle.theory.specs.Leads.{Leads, via}
use Rattle.theory.specs.Order.{Forces}

-- ── as conditions ──

-- x is the greatest number besides 0 of which P holds, or 0 where there is none
pub record Greatest (P : ℕ → Type 0) (x : ℕ) : Type 0 where
  pub has : 0 < x → P x
  pub most : (a : ℕ) → 0 < a → P a → a ≤ x

-- t knows a: a is of session s and leads to t
pub record KnowsOf (ses : ℕ → ℕ) (f : ℕ → ℕ → Bool) (t s a : ℕ) : Type 0 where
  pub of : ses a ≡ s
  pub way : Leads f a t

-- a is t itself, a member of session s
pub record Own (m : ℕ → Bool) (ses : ℕ → ℕ) (t s a : ℕ) : Type 0 where
  pub is : a ≡ t
  pub member : m t ≡ true
  pub of : ses t ≡ s

-- t knows a, or is a
abbrev pub KnowsOrIs : (ℕ → Bool) → (ℕ → ℕ) → (ℕ → ℕ → Bool) → ℕ → ℕ → ℕ → Type 0
KnowsOrIs m ses f t s a = KnowsOf ses f t s a ⊎ Own m ses t s a

-- pairs of members: 0 before every other, and within a session each earlier before each later
pub record Basics (n : ℕ) (m : ℕ → Bool) (ses : ℕ → ℕ) (f : ℕ → ℕ → Bool) : Type 0 where
  pub forces : Forces n m f
  pub session : (a b : ℕ) → 0 < a → a < b → b < n → m a ≡ true → m b ≡ true → ses a ≡ ses b → f a b ≡ true

-- ── as they compute ──

-- t knows a
unfoldable pub knows : ℕ → (ℕ → ℕ) → (ℕ → ℕ → Bool) → ℕ → ℕ → ℕ → Bool
knows n ses f t s a = eqb (ses a) s and via f n a t

-- the latest of session s that t knows; 0 where there is none
unfoldable pub latest : ℕ → (ℕ → ℕ) → (ℕ → ℕ → Bool) → ℕ → ℕ → ℕ
latest n ses f t s = last (knows n ses f t s) n

-- the greater of two
unfoldable pub greater : ℕ → ℕ → ℕ
greater x y = pick (ltb x y) y x

-- the vectors v with each member itself in its own
unfoldable pub with_own : (ℕ → Bool) → (ℕ → ℕ) → (ℕ → ℕ → ℕ) → ℕ → ℕ → ℕ
with_own m ses v t s = greater (v t s) (pick (m t and eqb (ses t) s) t 0)

-- a leads to b, read off the vectors
unfoldable pub told : (ℕ → ℕ) → (ℕ → ℕ → ℕ) → ℕ → ℕ → Bool
told ses v a b = leb a (v b (ses a))

-- some number leads to itself
unfoldable pub loops : ℕ → (ℕ → ℕ → Bool) → ℕ → Bool
loops n f a = via f n a a

unfoldable pub cyclic : ℕ → (ℕ → ℕ → Bool) → Bool
cyclic n f = some 0 n (loops n f)
