-- The two lists of a rejection, place by place. Pairs are read off tables whose row b has the bits of what stands before b: f has the forced pairs,
-- c what leads to what through them, l the listed pairs, r those of reads, v those of rivals.
use Rattle.std.specs.Prelude.{ℕ, ◌+◌, ◌<◌, ◌≤◌, ◌≡◌, Bool, not, List, [], ◌∷◌, ltb, eqb, length}
use Rattle.base.specs.Base.{◌and◌, ◌or◌, pick, listed, those}
use Rattle.theory.specs.Leads.{is_listed}
use Rattle.rules.specs.History.{History, size}
use Rattle.rules.specs.Reads.{is_finding}
use Rattle.rules.specs.Levels.{is_start, is_session, is_read, is_rival, forced}
use Rattle.rules.specs.Outcome.{finding_bytes}
use Rattle.table.specs.Table.{history_of, Settled}
use Rattle.bits.specs.Bits.{test_bit, bit_of, Holds}
use Rattle.pairs.specs.Pairs.{before}

-- what number i adds to a list of those that pass
unfoldable pub entry_at : (ℕ → Bool) → ℕ → List ℕ
entry_at p i = pick (p i) (i ∷ []) []

-- ── findings ──

-- an operation's byte v says that it is an unclean read
unfoldable pub is_kind : ℕ → Bool
is_kind v = ltb 0 v and ltb v 8

-- what operation i adds to the list
unfoldable pub finding_at : History → ℕ → List ℕ
finding_at h i = pick (is_finding h i) (finding_bytes h i) []

-- ── pairs ──

-- "A pair is listed if its second leads to its first through forced pairs": the pair (y, x), in row x
unfoldable pub listed_in : List ℕ → List ℕ → ℕ → ℕ → Bool
listed_in f c x y = bit_of f x y and bit_of c y x

-- what a table f has become where these are put in its place, in the rows below n
unfoldable pub sifted_to : List ℕ → List ℕ → ℕ → ℕ → ℕ → Bool
sifted_to f c n x y = pick (ltb x n) (listed_in f c x y) (bit_of f x y)

-- r has those bits y of w, of the 64 numbers from `base` on, to which b leads
pub record LedTo (c : List ℕ) (b base w r : ℕ) : Type 0 where
  pub is : (y : ℕ) → y < 64 → test_bit r y ≡ test_bit w y and bit_of c (base + y) b

-- r has the bits of w, but not a where `led` does not hold
pub record Dropped (w a : ℕ) (led : Bool) (r : ℕ) : Type 0 where
  pub is : (y : ℕ) → test_bit r y ≡ test_bit w y and (not (eqb y a) or led)

-- the pair (a, b) is one of the table's
unfoldable pub is_in : List ℕ → ℕ → ℕ → Bool
is_in l a b = bit_of l b a

-- the seconds of the listed pairs whose first is a, the firsts of those whose second is b, of numbers below n; how many pairs are listed
unfoldable pub seconds_of : List ℕ → ℕ → ℕ → List ℕ
seconds_of l n a = those 0 n (is_in l a)

unfoldable pub firsts_of : List ℕ → ℕ → ℕ → List ℕ
firsts_of l n b = those 0 n (bit_of l b)

unfoldable pub pair_count : List ℕ → ℕ → ℕ
pair_count l n = length (listed 0 n (seconds_of l n))

-- "Reasons are a sum of 1 start, 2 session, 4 read, 8 rival; every reason that holds is in it."
unfoldable pub reasons_in : History → List ℕ → List ℕ → ℕ → ℕ → ℕ
reasons_in h r v a b = pick (is_start h a b) 1 0 + pick (is_session h a b) 2 0 + pick (bit_of r b a) 4 0 + pick (bit_of v b a) 8 0

-- what the pair adds to a list of those that pass p, g being the reasons; the pairs whose first is a; all pairs of numbers below n, by first and then second
unfoldable pub entry_for : (ℕ → ℕ → Bool) → (ℕ → ℕ → ℕ) → ℕ → ℕ → List ℕ
entry_for p g a b = pick (p a b) (a ∷ b ∷ g a b ∷ 0 ∷ []) []

unfoldable pub row_for : (ℕ → ℕ → Bool) → (ℕ → ℕ → ℕ) → ℕ → ℕ → List ℕ
row_for p g n a = listed 0 n (entry_for p g a)

unfoldable pub all_for : (ℕ → ℕ → Bool) → (ℕ → ℕ → ℕ) → ℕ → List ℕ
all_for p g n = listed 0 n (row_for p g n)

-- .. of the listed pairs with the judge's reasons
abbrev pub pairs_in : History → List ℕ → List ℕ → List ℕ → List ℕ
pairs_in h l r v = all_for (is_in l) (reasons_in h r v) (size h)

-- s may be asked for every pair of numbers below n, and such a number fits a byte
pub record AskableBelow {S : Type 0} (can_ask : S → ℕ → ℕ → Type 0) (s : S) (n : ℕ) : Type 0 where
  pub few : n ≤ 256
  pub pairs : (a b : ℕ) → a < n → b < n → can_ask s a b

-- ── tables ──

-- a and b are transactions of the history, or 0
pub record HasPair (h : List ℕ) (a b : ℕ) : Type 0 where
  pub one : a < size (history_of h)
  pub two : b < size (history_of h)

-- the tables of a history's transactions
pub record Listing (h l r v : List ℕ) : Type 0 where
  pub settled : Settled h
  pub listed_room : length l ≡ 256
  pub reads_room : length r ≡ 256
  pub rivals_room : length v ≡ 256

-- .. at a level
pub record Judging (h l r v : List ℕ) (level : ℕ) : Type 0 where
  pub settled : Settled h
  pub lists : Holds l (before (is_listed (size (history_of h)) (forced (history_of h) level)))
  pub reads : Holds r (before (is_read (history_of h)))
  pub rivals : Holds v (before (is_rival (history_of h) level))
