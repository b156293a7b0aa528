-- What is to be known of each list read, in one number: what it is, and the longest clean list of its key so far.
use Rattle.std.specs.Prelude.{ℕ, ◌+◌, ◌*◌, ◌<◌, ◌≡◌, true, false, List, ◌⊎◌, length, get_or}
use Rattle.base.specs.Base.{pick}
use Rattle.rules.specs.History.{History, op_count}
use Rattle.table.specs.Table.{history_of, HasList, Settled}
use Rattle.appends_rules.specs.Appends.{is_list, key_of, is_judged_list, values_at, lists_in, ListsWithin}
use Rattle.appends_rules.specs.ListKinds.{list_kind, is_clean_list, longest_below}
use Rattle.elements.specs.Elements.{KeyedList}
use Rattle.grading.specs.declared.Spot.{Spot}

-- e is the list of list read i
pub record IsSpot (s h : List ℕ) (i : ℕ) (e : Spot) : Type 0 where
  pub keyed : KeyedList s h e.at e.number e.key
  pub key : e.key ≡ key_of (history_of h) i
  pub list : values_at s e.at ≡ lists_in s (history_of h) i

-- 1: clean; 7 to 11: the kind; 0: not judged
unfoldable pub code_of : History → (ℕ → List ℕ) → ℕ → ℕ
code_of h l i = pick (is_judged_list h i) (pick (is_clean_list h l i) 1 (list_kind h l i)) 0

-- with the number of the longest clean list of its key up to it
unfoldable pub grade_of : History → (ℕ → List ℕ) → ℕ → ℕ
grade_of h l i = code_of h l i + 16 * longest_below h l (key_of h i) (i + 1)

-- the list reads below n have their numbers in k, and every other operation has the number of one of those, or 0
pub record Graded (h : History) (l : ℕ → List ℕ) (n : ℕ) (k : List ℕ) : Type 0 where
  pub room : length k ≡ 1025
  pub zero : get_or k 0 0 ≡ 0
  pub grades : (i : ℕ) → i < n → is_list h i ≡ true → get_or k i 0 ≡ grade_of h l i
  pub marks : (w : ℕ) → is_list h w ≡ false → get_or k w 0 < n

-- no number is in it
pub record Ungraded (k : List ℕ) : Type 0 where
  pub room : length k ≡ 1025
  pub is : (w : ℕ) → get_or k w 0 ≡ 0

-- the trace s, its table h, and the numbers k of the list reads before list read i
pub record Grading (s h : List ℕ) (i : ℕ) (k : List ℕ) : Type 0 where
  pub settled : Settled h
  pub within : ListsWithin s (history_of h)
  pub this : HasList h i
  pub graded : Graded (history_of h) (lists_in s (history_of h)) i k

-- .. the numbers of all list reads
pub record AllGraded (s h k : List ℕ) : Type 0 where
  pub settled : Settled h
  pub within : ListsWithin s (history_of h)
  pub graded : Graded (history_of h) (lists_in s (history_of h)) (op_count (history_of h) + 1) k

-- k became m: only operations that are no list reads have another number, i
pub record OnlyMarked (h : History) (i : ℕ) (k m : List ℕ) : Type 0 where
  pub room : length m ≡ 1025
  pub kept : (w : ℕ) → (get_or m w 0 ≡ get_or k w 0) ⊎ ((get_or m w 0 ≡ i) × (is_list h w ≡ false) × (0 < w))

-- .. and the answer r is x
pub record FoundOut (h : History) (i : ℕ) (k m : List ℕ) (r x : ℕ) : Type 0 where
  pub is : r ≡ x
  pub marked : OnlyMarked h i k m
