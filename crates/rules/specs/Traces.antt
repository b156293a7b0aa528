-- Records turned into bytes, which the writer's definition is made of; and traces as document 01 writes them by hand, for the tables of cases.
use Rattle.std.specs.Prelude.{ℕ, zero, suc, ◌+◌, ◌-◌, ◌/◌, ◌%◌, ◌^◌, List, [], ◌∷◌, ◌++◌, length}
use Rattle.base.specs.Base.{joined}
use Rattle.rules.specs.Numbers.{bytes}
use Rattle.rules.specs.Outcome.{Outcome, outcome, declining, rejecting, accepting}

-- a record but for its serial: a kind and a payload
pub record Item : Type 0 where
  pub kind : ℕ
  pub payload : List ℕ

abbrev pub item : ℕ → List ℕ → Item
item k p = record { kind = k; payload = p }

-- "A record is a 2-byte length, a 2-byte kind, a 4-byte serial and a payload, all little-endian", with the length that it says
unfoldable pub raw : ℕ → ℕ → ℕ → List ℕ → List ℕ
raw len kind serial p = bytes 2 len ++ bytes 2 kind ++ bytes 4 serial ++ p

-- "The length counts everything after itself."
unfoldable pub record_of : ℕ → Item → List ℕ
record_of serial i = raw (6 + length i.payload) i.kind serial i.payload

-- records from the serial n on
unfoldable pub trace : ℕ → List Item → List ℕ
trace n [] = []
trace n (i ∷ is) = record_of n i ++ trace ((n + 1) % 2 ^ 32) is

abbrev pub opens : ℕ → Item
opens s = item 1 (bytes 2 s)

abbrev pub r : ℕ → ℕ → Item
r x v = item 2 (bytes 4 x ++ bytes 8 v)

abbrev pub w : ℕ → ℕ → Item
w x v = item 3 (bytes 4 x ++ bytes 8 v)

abbrev pub closes : ℕ → Item
closes c = item 4 (bytes 1 c)

abbrev pub ends : ℕ → Item
ends n = item 5 (bytes 2 n)

abbrev pub note : List ℕ → Item
note p = item 6 p

-- edition 2: the record that it begins with; a read, a write and a close, which "have the session before their other fields"
abbrev pub edition : ℕ → Item
edition n = item 16 (bytes 2 n)

abbrev pub r_of : ℕ → ℕ → ℕ → Item
r_of s x v = item 2 (bytes 2 s ++ bytes 4 x ++ bytes 8 v)

abbrev pub w_of : ℕ → ℕ → ℕ → Item
w_of s x v = item 3 (bytes 2 s ++ bytes 4 x ++ bytes 8 v)

abbrev pub closes_of : ℕ → ℕ → Item
closes_of s c = item 4 (bytes 2 s ++ bytes 1 c)

-- .. an append and a list read: "session, key, value" and "session, key, a 2-byte number .., that many values"
abbrev pub a_of : ℕ → ℕ → ℕ → Item
a_of s x v = item 23 (bytes 2 s ++ bytes 4 x ++ bytes 8 v)

abbrev pub l_of : ℕ → ℕ → List ℕ → Item
l_of s x vs = item 24 (bytes 2 s ++ bytes 4 x ++ bytes 2 (length vs) ++ joined (bytes 8) vs)

-- a transaction of session s with status c; a committed one, an unanswered one
abbrev pub block : ℕ → ℕ → List Item → List Item
block s c l = opens s ∷ (l ++ (closes c ∷ []))

abbrev pub T : ℕ → List Item → List Item
T s l = block s 1 l

abbrev pub U : ℕ → List Item → List Item
U s l = block s 2 l

-- n transactions and the end, with serials from 0
abbrev pub whole : ℕ → List Item → List ℕ
whole n l = trace 0 (l ++ (ends n ∷ []))

-- the same in edition 2
abbrev pub overlapping : ℕ → List Item → List ℕ
overlapping n l = trace 0 (edition 2 ∷ (l ++ (ends n ∷ [])))

-- a buffer of n bytes
abbrev pub room : ℕ → List ℕ
room zero = []
room (suc n) = 170 ∷ room n

-- what the tables say of a case, with buffers of f, p and o bytes
abbrev pub refuses_in : ℕ → ℕ → ℕ → ℕ → ℕ → Outcome
refuses_in f p o n at = outcome (declining n at) (room f) (room p) (room o)

abbrev pub accepts_in : ℕ → ℕ → ℕ → List ℕ → Outcome
accepts_in f p o l = outcome (accepting (length l)) (room f) (room p) (l ++ room (o - length l))

abbrev pub rejects_in : ℕ → ℕ → ℕ → List ℕ → List ℕ → Outcome
rejects_in f p o fs ps = outcome (rejecting (length fs / 6) (length ps / 4)) (fs ++ room (f - length fs)) (ps ++ room (p - length ps)) (room o)

-- `read T OP KIND WRITE` and `pair A B REASONS`, as bytes
abbrev pub read : ℕ → ℕ → ℕ → ℕ → List ℕ
read t i k w = t ∷ k ∷ i ∷ 0 ∷ w ∷ 0 ∷ []

abbrev pub pair : ℕ → ℕ → ℕ → List ℕ
pair a b n = a ∷ b ∷ n ∷ 0 ∷ []
