-- Which transactions are open, by their sessions, in 256 lent bytes beside the table. A session falls into one of 128 buckets.
--
--   byte b        the number of the greatest open transaction whose session falls into bucket b, 0 where there is none
--   byte 128 + t  where transaction t is open, the number of the next smaller open one of its bucket, 0 where there is none; 0 where t is not open
--
-- So the history determines each byte, and the open transaction of a session is looked for among those of one bucket only.
use Rattle.std.specs.Prelude.{ℕ, ◌+◌, ◌/◌, ◌%◌, ◌<◌, ◌≡◌, Bool, true, false, ◌⊎◌, List, length, get_or, set, eqb}
use Rattle.base.specs.Base.{◌and◌, ◌or◌, pick, last}
use Rattle.rules.specs.History.{History, tx, tx_count, size, is_open}
use Rattle.rules.specs.Reading.{met_in}
use Rattle.rules.specs.declared.Event.{Event}
use Rattle.rules.specs.declared.Event.TheVariants.{Open, Read, Write, Close, End, Note, Other}
use Rattle.table.specs.Table.{history_of}
use Rattle.steps.specs.Steps.{Took}
use Rattle.std.specs.Prelude.{Result}
use Rattle.rules.specs.declared.Cause.{Cause}
use Rattle.steps.specs.declared.Next.{Next}

-- the bucket that session n falls into: by both its bytes, so that sessions that count up in either of them fall into different ones
unfoldable pub bucket_for : ℕ → ℕ
bucket_for n = (n % 256 + n / 256) % 128

-- .. transaction t's session
unfoldable pub session_bucket : History → ℕ → ℕ
session_bucket h t = bucket_for (tx h t).session

-- t is open, and of bucket b
unfoldable pub of_bucket : History → ℕ → ℕ → Bool
of_bucket h b t = is_open h t and eqb (session_bucket h t) b

-- the greatest such; the next smaller one of t's bucket, where t is open
unfoldable pub open_head : History → ℕ → ℕ
open_head h b = last (of_bucket h b) (size h)

unfoldable pub open_link : History → ℕ → ℕ
open_link h t = pick (is_open h t) (last (of_bucket h (session_bucket h t)) t) 0

-- the bytes o are those of the history h
pub record Kept (o : List ℕ) (h : History) : Type 0 where
  pub room : length o ≡ 256
  pub heads : (b : ℕ) → b < 128 → get_or o b 0 ≡ open_head h b
  pub links : (t : ℕ) → t < 128 → get_or o (128 + t) 0 ≡ open_link h t

-- byte p is one that a search for t along its bucket comes by: it has the greatest number below `bound` of those in the bucket, and t is below `bound` too
pub record OnWay (h : History) (t p : ℕ) : Type 0 where
  pub bound : ℕ
  pub ahead : t < bound
  pub place : ((p ≡ session_bucket h t) × (bound ≡ size h)) ⊎ ((p ≡ 128 + bound) × (of_bucket h (session_bucket h t) bound ≡ true))

-- the bytes where t opens, of bucket b; where t closes, whose number byte p had
unfoldable pub linked : List ℕ → ℕ → ℕ → List ℕ
linked o t b = set (set o (128 + t) (get_or o b 0)) b t

unfoldable pub unlinked : List ℕ → ℕ → ℕ → List ℕ
unlinked o t p = set (set o p (get_or o (128 + t) 0)) (128 + t) 0

-- the 256 bytes o beside the table: in edition 2 they are those of the history h
pub record Beside (second : Bool) (o : List ℕ) (h : History) : Type 0 where
  pub room : length o ≡ 256
  pub kept : second ≡ true → Kept o h

unfoldable pub is_close : Event → Bool
is_close (Open s) = false
is_close (Read x v) = false
is_close (Write x v) = false
is_close (Close c) = true
is_close (End n) = false
is_close Note = false
is_close Other = false

-- p is the byte that has the number of t, where the event e closes it in edition 2
pub record Placed (second : Bool) (o : List ℕ) (h : History) (e : Event) (t p : ℕ) : Type 0 where
  pub within : p < 256
  pub found : second ≡ true → 0 < t → is_close e ≡ true → OnWay h t p × (get_or o p 0 ≡ t)

-- the bytes behind a step that met t, where h is the history now and n transactions had been opened: one has opened, t has closed, or neither
unfoldable pub kept_by : List ℕ → ℕ → ℕ → ℕ → History → List ℕ
kept_by o n t p h =
    pick (eqb (tx_count h) n) (pick (eqb t 0 or is_open h t) o (unlinked o t p)) (linked o (tx_count h) (session_bucket h (tx_count h)))

-- the answer r to the event e of session n's record, whose step made g2 of the table g, and o2 of the bytes o, which edition 1 leaves alone
pub record TookOf (r : Result Next Cause) (g2 o2 g o : List ℕ) (second : Bool) (n : ℕ) (e : Event) : Type 0 where
  pub took : Took r g2 g (met_in second (history_of g) n e) e
  pub beside : Beside second o2 (history_of g2)
  pub alone : second ≡ false → o2 ≡ o
