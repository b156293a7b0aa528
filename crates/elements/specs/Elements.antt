-- One list read: where its list stands in the trace, and what is found out about it. k has a number for each operation; with an append it is the number of
-- the last list read that has its value, so that an element that comes again is found out without a look at the others.
use Rattle.std.specs.Prelude.{ℕ, ◌+◌, ◌*◌, ◌≤◌, ◌<◌, ◌≡◌, Bool, true, Option, None, Some, List, ◌⊎◌, length, get_or, set, eqb}
use Rattle.base.specs.Base.{pick, some}
use Rattle.rules.specs.History.{History, tx, op, append_key}
use Rattle.rules.specs.Records.{number_at}
use Rattle.table.specs.Table.{Held, keyed}
use Rattle.appends_rules.specs.Appends.{append_of}
use Rattle.appends_rules.specs.ListKinds.{element, is_lost, is_again, is_undone}
use Rattle.elements.specs.declared.ListKind.{ListKind}
use Rattle.elements.specs.declared.ListKind.TheVariants.{Lost, Again, Undone, Half, Apart}

-- the list in the record at p is in the trace s, and has n elements
pub record ListAt (s : List ℕ) (p n : ℕ) : Type 0 where
  pub room : p + 16 + 8 * n ≤ length s
  pub number : n ≡ number_at s p

-- .. and is of the key x, whose appends are in the table h
pub record KeyedList (s h : List ℕ) (p n x : ℕ) : Type 0 where
  pub held : Held h
  pub small : x < 4294967296
  pub at : ListAt s p n

-- ── kinds ──

-- the number of a kind; 0 where there is none
abbrev pub number_of : ListKind → ℕ
number_of Lost = 7
number_of Again = 8
number_of Undone = 9
number_of Half = 10
number_of Apart = 11

abbrev pub number_or_0 : Option ListKind → ℕ
number_or_0 None = 0
number_or_0 (Some k) = number_of k

-- ── elements at fault ──

-- 8 or 9, by whether an element came again, or is of an aborted transaction; 0 where neither is
unfoldable pub worst : Bool → Bool → ℕ
worst again undone = pick again 8 (pick undone 9 0)

-- the transaction of append w aborted
unfoldable pub is_aborted : History → ℕ → Bool
is_aborted h w = eqb (tx h (op h w).tx).status 0

-- list read i has come to append w, and k becomes m; `again`: it had come to it before
pub record Visited (k m : List ℕ) (i w : ℕ) (again : Bool) : Type 0 where
  pub is : m ≡ set k w i
  pub again_is : again ≡ eqb (get_or k w 0) i

-- the first of kinds 7, 8 and 9 that fits the list e of x
unfoldable pub fault_kind : History → ℕ → List ℕ → ℕ
fault_kind h x e = pick (some 0 (length e) (is_lost h x e)) 7 (worst (some 0 (length e) (is_again e)) (some 0 (length e) (is_undone h x e)))

-- w is the append of element j of e
unfoldable pub has_append : History → ℕ → List ℕ → ℕ → ℕ → Bool
has_append h x e w j = eqb (append_of h x (element e j)) w

-- the number that w has once list read i has come to element q
unfoldable pub mark_of : History → ℕ → List ℕ → ℕ → List ℕ → ℕ → ℕ → ℕ
mark_of h x e i k q w = pick (some 0 q (has_append h x e w)) i (get_or k w 0)

-- before list read i is looked at: no append to x has its number yet
pub record Fresh (h : History) (x i : ℕ) (k : List ℕ) : Type 0 where
  pub room : length k ≡ 1025
  pub number : i ≤ 1024
  pub below : (w : ℕ) → keyed h (append_key x) w ≡ true → get_or k w 0 < i

-- the list e of x was looked at, and k became m: only appends to x have another number, i
pub record Scanned (h : History) (x : ℕ) (e : List ℕ) (i : ℕ) (k m : List ℕ) (r : ℕ) : Type 0 where
  pub kind : r ≡ fault_kind h x e
  pub room : length m ≡ 1025
  pub kept : (w : ℕ) → (get_or m w 0 ≡ get_or k w 0) ⊎ ((get_or m w 0 ≡ i) × (keyed h (append_key x) w ≡ true))
