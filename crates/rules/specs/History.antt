-- What a trace says: its transactions, numbered 1, 2, .. as they open, and its operations, numbered 1, 2, .. over the whole trace.
use Rattle.std.specs.Prelude.{ℕ, ◌+◌, ◌%◌, Bool, false, not, List, [], ◌∷◌, ◌++◌, length, get_or, ltb, eqb}
use Rattle.base.specs.Base.{◌and◌, pick, some, last, numbered}
use Rattle.theory.specs.Reached.{reach}

-- status 1: committed; 0: aborted; 2: "unanswered"; 3: open still
pub record Tx : Type 0 where
  pub session : ℕ
  pub status : ℕ

pub record Op : Type 0 where
  pub tx : ℕ
  pub is_write : Bool
  pub key : ℕ
  pub value : ℕ

pub record History : Type 0 where
  pub txs : List Tx
  pub ops : List Op

-- "Transaction 0 is committed"
abbrev pub zeroth : Tx
zeroth = record { session = 0; status = 1 }

-- past the end: no transaction, no operation
abbrev pub no_tx : Tx
no_tx = record { session = 0; status = 0 }

abbrev pub no_op : Op
no_op = record { tx = 0; is_write = false; key = 0; value = 0 }

-- transaction t, and operation i, by number
unfoldable pub tx : History → ℕ → Tx
tx h t = get_or (zeroth ∷ h.txs) t no_tx

unfoldable pub op : History → ℕ → Op
op h i = get_or (no_op ∷ h.ops) i no_op

abbrev pub tx_count : History → ℕ
tx_count h = length h.txs

abbrev pub op_count : History → ℕ
op_count h = length h.ops

-- the numbers of transactions, 0 among them, lie below this
abbrev pub size : History → ℕ
size h = tx_count h + 1

-- transaction t has been opened and not closed
unfoldable pub is_open : History → ℕ → Bool
is_open h t = eqb (tx h t).status 3

-- edition 1, "Transactions do not overlap in the trace": the one that is open is the latest; 0 where none is
unfoldable pub current : History → ℕ
current h = pick (is_open h (tx_count h)) (tx_count h) 0

-- edition 2, "Each session may have one transaction open": the open one of session n; 0 where none is
unfoldable pub is_open_of : History → ℕ → ℕ → Bool
is_open_of h n t = is_open h t and eqb (tx h t).session n

unfoldable pub open_of : History → ℕ → ℕ
open_of h n = last (is_open_of h n) (size h)

-- "any open", of whatever session; 0 where none is
unfoldable pub any_open : History → ℕ
any_open h = last (is_open h) (size h)

-- operation i is a write of the value v to the key x; the number of the last such, 0 where no write has (x, v). Row 10 lets in one at most, so that the last
-- is the only one
unfoldable pub writes_value : History → ℕ → ℕ → ℕ → Bool
writes_value h x v i = eqb (op h i).value v and (op h i).is_write and eqb (op h i).key x

unfoldable pub write_of : History → ℕ → ℕ → ℕ
write_of h x v = last (writes_value h x v) (op_count h + 1)

-- ── where a value comes from: document 02, "which write was it?" ──

-- "The search for a write must answer its operation number besides its transaction": the number of the write that has the key and value of operation i; 0
-- where the value is 0 or no write has them
unfoldable pub origin_of : History → ℕ → ℕ
origin_of h i = pick (eqb (op h i).value 0) 0 (write_of h (op h i).key (op h i).value)

-- its transaction; 0 where there is no such write
unfoldable pub source_of : History → ℕ → ℕ
source_of h i = (op h (origin_of h i)).tx

-- ── who counts as committed: document 02, "commits nobody answered" ──

-- its close says that it committed; "Status 2 now means unanswered."
unfoldable pub says_committed : History → ℕ → Bool
says_committed h t = eqb (tx h t).status 1

unfoldable pub is_unanswered : History → ℕ → Bool
is_unanswered h t = eqb (tx h t).status 2

-- operation i is a read in a of a key and value that u wrote, whatever kind of read it is
unfoldable pub takes_from : History → ℕ → ℕ → ℕ → Bool
takes_from h a u i = not (op h i).is_write and eqb (op h i).tx a and eqb (source_of h i) u

-- a is "other than" u, which is unanswered, and "reads one of its values"
unfoldable pub vouches : History → ℕ → ℕ → Bool
vouches h a u = is_unanswered h u and not (eqb a u) and some 1 (op_count h + 1) (takes_from h a u)

-- "Such a transaction counts as committed exactly if a transaction counted as committed, other than itself, reads one of its values; the smallest such
-- set is meant. All others count as aborted."
unfoldable pub committed : History → ℕ → Bool
committed h t = reach (says_committed h) (vouches h) (size h) (size h) t

-- ── keys of lists: document 02, "lists instead of single values" ──

-- A key is a number below 2^32 in a trace. An append of v to x is held as a write of v to the key 2^32 + x; a list read of x as a write to the key 2^33 + x of
-- the offset that its record has, where the list stands. No read and no write of single values has such a key, so that what speaks of these meets neither
abbrev pub append_key : ℕ → ℕ
append_key x = 4294967296 + x

abbrev pub list_key : ℕ → ℕ
list_key x = 8589934592 + x

-- the key of an operation as the trace has it, from the key that it is held with; and whether it is one with single values
abbrev pub plain_key : ℕ → ℕ
plain_key k = k % 4294967296

abbrev pub is_single : ℕ → Bool
is_single k = ltb k 4294967296

-- one is of single values and the other of lists
unfoldable pub is_other_sort : Bool → Bool → Bool
is_other_sort a b = pick a (not b) b

-- operation i has the key of another, which is held with k, and is of the other sort
unfoldable pub clashes : History → ℕ → ℕ → Bool
clashes h k i = eqb (plain_key (op h i).key) (plain_key k) and is_other_sort (is_single (op h i).key) (is_single k)

-- .. some operation does, of whatever transaction: "a key with single values and lists"
unfoldable pub mixes_key : History → ℕ → Bool
mixes_key h k = some 1 (op_count h + 1) (clashes h k)

-- ── how a history grows ──

abbrev pub empty : History
empty = record { txs = []; ops = [] }

-- one transaction more, of session s, which is open
unfoldable pub opened : History → ℕ → History
opened h s = record { txs = h.txs ++ (record { session = s; status = 3 } ∷ []); ops = h.ops }

-- transaction t gets the status x
unfoldable pub closed : History → ℕ → ℕ → History
closed h t x =
    record {
      txs = numbered (tx_count h) (λ i. pick (eqb i t) (record { session = (tx h i).session; status = x }) (tx h i));
      ops = h.ops;
    }

-- one operation more
unfoldable pub with_op : History → Op → History
with_op h o = record { txs = h.txs; ops = h.ops ++ (o ∷ []) }
