-- A claim's entries as sets in two words, and pairs against their places. o is the claim; f has pairs in a table: row b has what stands before b.
use Rattle.std.specs.Prelude.{ℕ, ◌<◌, ◌≡◌, Bool, not, List, ltb, length, get_or}
use Rattle.base.specs.Base.{◌and◌, ◌or◌, some}
use Rattle.theory.specs.Order.{place}
use Rattle.bits.specs.Bits.{bit_of}
use Rattle.order.specs.declared.Words.{Words}
use Rattle.order.specs.Sets.{in_words}
use Rattle.order.specs.Ordering.{waits}

-- every entry is a number that a transaction can have
pub record SmallEntries (o : List ℕ) : Type 0 where
  pub is : (i : ℕ) → i < length o → get_or o i 0 < 128

-- w has those whose place in the claim is before i
pub record Earlier (o : List ℕ) (i : ℕ) (w : Words) : Type 0 where
  pub is : (x : ℕ) → x < 128 → in_words w x ≡ ltb (place x o) i

-- .. is not behind that of a
pub record UpTo (o : List ℕ) (a : ℕ) (w : Words) : Type 0 where
  pub is : (x : ℕ) → x < 128 → in_words w x ≡ not (ltb (place a o) (place x o))

-- a is none of m, or is one of p
unfoldable pub is_stray_in : Words → Words → ℕ → Bool
is_stray_in m p a = not (ltb a 128 and in_words m a) or in_words p a

-- x has to stand before entry i, and does not
unfoldable pub turned_at : List ℕ → List ℕ → ℕ → ℕ → Bool
turned_at f o x i = bit_of f (get_or o i 0) x and not (ltb (place x o) i)

-- w has those of which that is so for an entry before place i
pub record TurnedFirsts (f o : List ℕ) (i : ℕ) (w : Words) : Type 0 where
  pub is : (x : ℕ) → x < 128 → in_words w x ≡ some 0 i (turned_at f o x)

-- v is w, and of row b what p has not
pub record WithMissing (f : List ℕ) (b : ℕ) (p w v : Words) : Type 0 where
  pub is : (x : ℕ) → x < 128 → in_words v x ≡ in_words w x or waits f p b x

-- a has to stand before b, which is one of w
unfoldable pub turned_in : List ℕ → Words → ℕ → ℕ → Bool
turned_in f w a b = bit_of f b a and in_words w b
