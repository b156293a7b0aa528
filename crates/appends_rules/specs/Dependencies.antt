-- Document 02, "lists instead of single values": write dependencies, read dependencies, and the pairs that are listed over either. Over a history h and
-- the list l i of each list read i.
use Rattle.std.specs.Prelude.{ℕ, ◌+◌, ◌-◌, Bool, not, List, [], ◌∷◌, length, ltb, eqb}
use Rattle.base.specs.Base.{◌and◌, ◌or◌, pick, some, listed, those, joined}
use Rattle.theory.specs.Leads.{is_listed}
use Rattle.rules.specs.History.{History, op, op_count, size}
use Rattle.rules.specs.Outcome.{Pair}
use Rattle.appends_rules.specs.Appends.{key_of, appender_of}
use Rattle.appends_rules.specs.ListKinds.{element, last_element, is_clean_list, is_longest}

-- elements k and k + 1 of the list e of x were appended by a and by b
unfoldable pub joins : History → ℕ → List ℕ → ℕ → ℕ → ℕ → Bool
joins h x e a b k = eqb (appender_of h x (element e k)) a and eqb (appender_of h x (element e (k + 1))) b

-- list read i is the longest of its key, and has such neighbours
unfoldable pub orders : History → (ℕ → List ℕ) → ℕ → ℕ → ℕ → Bool
orders h l a b i = is_longest h l i and some 0 (length (l i) - 1) (joins h (key_of h i) (l i) a b)

-- "The longest clean list of a key gives write dependencies, reason 16, between the different transactions of neighbouring elements"
unfoldable pub is_write_dep : History → (ℕ → List ℕ) → ℕ → ℕ → Bool
is_write_dep h l a b = not (eqb a b) and some 1 (op_count h + 1) (orders h l a b)

-- list read i, of b, is clean and its last element was appended by a
unfoldable pub tells : History → (ℕ → List ℕ) → ℕ → ℕ → ℕ → Bool
tells h l a b i = is_clean_list h l i and ltb 0 (length (l i)) and eqb (appender_of h (key_of h i) (last_element (l i))) a and eqb (op h i).tx b

-- "the last element of each clean list gives a read dependency, reason 4, from its transaction to a different reader"
unfoldable pub is_read_dep : History → (ℕ → List ℕ) → ℕ → ℕ → Bool
is_read_dep h l a b = not (eqb a b) and some 1 (op_count h + 1) (tells h l a b)

-- "over both"
unfoldable pub is_dep : History → (ℕ → List ℕ) → ℕ → ℕ → Bool
is_dep h l a b = is_read_dep h l a b or is_write_dep h l a b

-- "every reason that holds is in it", over both
unfoldable pub dep_reasons : History → (ℕ → List ℕ) → ℕ → ℕ → ℕ
dep_reasons h l a b = pick (is_read_dep h l a b) 4 0 + pick (is_write_dep h l a b) 16 0

-- ── "by demand 3's rule": the listed pairs of any relation f on numbers below n, by first and then second ──

unfoldable pub pairs_by : ℕ → (ℕ → ℕ → Bool) → ℕ → List Pair
pairs_by n f a = joined (λ b. record { one = a; two = b } ∷ []) (those 0 n (is_listed n f a))

unfoldable pub pairs_over : ℕ → (ℕ → ℕ → Bool) → List Pair
pairs_over n f = listed 0 n (pairs_by n f)

-- "Pair, 4 bytes: first, second, reasons, 0."
unfoldable pub pair_with : (ℕ → ℕ → ℕ) → Pair → List ℕ
pair_with r p = p.one ∷ p.two ∷ r p.one p.two ∷ 0 ∷ []

-- the two lists: "over write dependencies, then over both"
unfoldable pub write_pairs : History → (ℕ → List ℕ) → List Pair
write_pairs h l = pairs_over (size h) (is_write_dep h l)

unfoldable pub dep_pairs : History → (ℕ → List ℕ) → List Pair
dep_pairs h l = pairs_over (size h) (is_dep h l)
